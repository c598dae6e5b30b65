-- One exchange gives the form of the new basis.
use Rattle.std.specs.Prelude.{◌≡◌, ◌≢◌, ℕ, ◌<◌, if◌then◌else◌, ◌==◌, List, [], ◌∷◌, ◌++◌, length, ℤ, pos, ◌≤ℤ◌, ◌<ℤ◌, neg_ℤ, unsigned_abs, refl}
use Rattle.std.proofs.Common.{ap, sym, ◌∙◌, subst, inl, inr, arith}
use Rattle.std.proofs.lemmas.Int.{ints}
use Rattle.std.proofs.lemmas.List.{length-map}
use Rattle.std.specs.List.{AllByRecursion}
use Rattle.std.specs.Int.{◌∣◌}
use Rattle.simplex_core.specs.declared.row.LinRow.{LinRow}
use Rattle.simplex_core.specs.declared.solved.Pivot.{Pivot}
use Rattle.simplex_core.specs.Rows.{dot}
use Rattle.simplex_core.specs.Form.{at, Among, Distinct, one_of, Line, basis_of, Vanish, DividesAll, IsLine, IsForm}
use Rattle.simplex_core.specs.Walk.{exchanged, IsDue, CanMend, Leads}
use Rattle.simplex_core.specs.machine.Tableau.{negated, swept, turned, moved, pivoted}
use Rattle.simplex_core.proofs.DotLaws.{length-negated, at-negated, dot-negated}
use Rattle.simplex_core.proofs.ExchangeLaws.{other_test, same_or_not, of_all, to_all, from_exchanged, Distinct-exchanged, Among-basis_of}
use Rattle.simplex_core.proofs.PivotLaws.{IsPivot, by_sign, swept_line, swept_vanishes, unswept_vanishes}
use Rattle.mm_num.proofs.TestLaws.{number_test, positive}

pub basis_of-pivoted : (s e : ℕ) (p : List ℤ) (f : List Line) → basis_of (pivoted s e p f) ≡ exchanged s e (basis_of f)
basis_of-pivoted s e p [] = refl
basis_of-pivoted s e p (l ∷ f) = ap (λ bs. (if l.0 == s then e else l.0) ∷ bs) (basis_of-pivoted s e p f)

pub length-pivoted : (s e : ℕ) (p : List ℤ) (f : List Line) → length (pivoted s e p f) ≡ length f
length-pivoted s e p f = length-map f (moved s e p)

pub moved_same : (s e : ℕ) (p : List ℤ) (l : Line) → l.0 ≡ s → moved s e p l ≡ (e, p)
moved_same s e p l h = ap (λ t. (if t then e else l.0, if t then p else swept e p l.1)) (number_test l.0 s h)

pub moved_other : (s e : ℕ) (p : List ℤ) (l : Line) → l.0 ≢ s → moved s e p l ≡ (l.0, swept e p l.1)
moved_other s e p l h = ap (λ t. (if t then e else l.0, if t then p else swept e p l.1)) (other_test l.0 s h)

-- what holds of each line after the exchange
pub all_moved : (P : Line → Type 0) (s e : ℕ) (p : List ℤ) (f : List Line) → P (e, p) → ((l : Line) → Among l f → l.0 ≢ s → P (l.0, swept e p l.1))
    → AllByRecursion P (pivoted s e p f)
all_moved P s e p [] h k = tt
all_moved P s e p (l ∷ f) h k = (
  elim (same_or_not l.0 s) as (λ _. P (moved s e p l)) [
    | inl y ↦ subst P (sym (moved_same s e p l y)) h
    | inr d ↦ subst P (sym (moved_other s e p l d)) (k l (inl refl) d)
  ],
  all_moved P s e p f h (λ m q. k m (inr q)),
)

-- and what each line after the exchange gives
pub of_moved : (P : Line → Type 0) (s e : ℕ) (p : List ℤ) (f : List Line) → AllByRecursion P (pivoted s e p f) → (l : Line) → Among l f
    → (l.0 ≢ s → P (l.0, swept e p l.1)) × (l.0 ≡ s → P (e, p))
of_moved P s e p [] h l k = absurd k
of_moved P s e p (m ∷ f) h l k = elim k as (λ _. (l.0 ≢ s → P (l.0, swept e p l.1)) × (l.0 ≡ s → P (e, p))) [
  | inl y ↦
      let q : P (moved s e p l) = subst (λ (x : Line). P (moved s e p x)) (sym y) h.0 in
      (λ d. subst P (moved_other s e p l d) q, λ z. subst P (moved_same s e p l z) q)
  | inr r ↦ of_moved P s e p f h.1 l r
]

-- there is one line for each basic variable
pub same_line : (f : List Line) (k l : Line) → Distinct (basis_of f) → Among k f → Among l f → k.0 ≡ l.0 → k ≡ l
same_line [] k l d hk hl e = absurd hk
same_line (m ∷ f) k l d hk hl e = elim hk as (λ _. k ≡ l) [
  | inl y ↦ elim hl as (λ _. k ≡ l) [
    | inl z ↦ y ∙ sym z
    | inr r ↦ absurd (d.0 (subst (λ (x : ℕ). Among x (basis_of f)) (sym e ∙ ap (λ (x : Line). x.0) y) (Among-basis_of l f r)))
  ]
  | inr r ↦ elim hl as (λ _. k ≡ l) [
    | inl z ↦ absurd (d.0 (subst (λ (x : ℕ). Among x (basis_of f)) (e ∙ ap (λ (x : Line). x.0) z) (Among-basis_of k f r)))
    | inr t ↦ same_line f k l d.1 r t e
  ]
]

pivot_line : (one : ℕ) (basis : List ℕ) (s e : ℕ) (p : List ℤ) → IsPivot one basis s e p → IsLine one (exchanged s e basis) (e, p)
pivot_line one basis s e p h = record {
  long = h.long;
  inside = h.inside;
  own = h.own;
  others = λ b k d. elim (from_exchanged s e b basis k) as (λ _. at p b ≡ pos 0) [ inl y ↦ absurd (d y) | inr r ↦ h.others b r.0 r.1 ];
  lowest = h.lowest;
}

-- the exchange of a line's variable for one outside the basis, by what the line says of that one
pub new_form : (n : ℕ) (rows : List LinRow) (f : List Line) (l : Line) (e : ℕ) (p : List ℤ) → IsForm n rows f → Among l f
    → IsPivot (one_of n rows) (basis_of f) l.0 e p → ((v : ℕ → ℤ) → dot v l.1 ≡ pos 0 → dot v p ≡ pos 0) → ((v : ℕ → ℤ) → dot v p ≡ pos 0 → dot v l.1 ≡ pos 0)
    → IsForm n rows (pivoted l.0 e p f)
new_form n rows f l e p hf hl hp to back =
    let basis : List ℕ = basis_of f in
    let line : (k : Line) → Among k f → IsLine (one_of n rows) (basis_of f) k = λ k m. of_all (IsLine (one_of n rows) (basis_of f)) f k hf.lines m in
    record {
      distinct = subst Distinct (sym (basis_of-pivoted l.0 e p f)) (Distinct-exchanged l.0 e (basis_of f) hf.distinct hp.outside);
      count = length-pivoted l.0 e p f ∙ hf.count;
      lines = subst (λ (bs : List ℕ). AllByRecursion (IsLine (one_of n rows) bs) (pivoted l.0 e p f)) (sym (basis_of-pivoted l.0 e p f))
          (all_moved (IsLine (one_of n rows) (exchanged l.0 e (basis_of f))) l.0 e p f (pivot_line (one_of n rows) (basis_of f) l.0 e p hp)
          (λ k m d. swept_line (one_of n rows) (basis_of f) l.0 e p k hp (line k m) (Among-basis_of k f m) d));
      holds = λ v h.
          let here : Vanish f v = hf.holds v h in
          let pv : dot v p ≡ pos 0 = to v (of_all (λ k. dot v k.1 ≡ pos 0) f l here hl) in
          all_moved (λ k. dot v k.1 ≡ pos 0) l.0 e p f pv
          (λ k m d. swept_vanishes (one_of n rows) (basis_of f) l.0 e p k v hp (line k m) (Among-basis_of k f m) d pv (of_all (λ k. dot v k.1 ≡ pos 0) f k here m));
      enough = λ v h. hf.enough v (
          let pv : dot v p ≡ pos 0 = (of_moved (λ k. dot v k.1 ≡ pos 0) l.0 e p f h l hl).1 refl in
          to_all (λ k. dot v k.1 ≡ pos 0) f (λ k m. elim (same_or_not k.0 l.0) as (λ _. dot v k.1 ≡ pos 0) [
            | inl y ↦ subst (λ (x : Line). dot v x.1 ≡ pos 0) (sym (same_line f k l hf.distinct m hl y)) (back v pv)
            | inr d ↦ unswept_vanishes (one_of n rows) (basis_of f) l.0 e p k v hp (line k m) (Among-basis_of k f m) d pv
                ((of_moved (λ k. dot v k.1 ≡ pos 0) l.0 e p f h k m).0 d)
          ]));
    }

-- what can mend a line has a number there
pub mender_nonzero : (n : ℕ) (rows : List LinRow) (l : Line) (e : ℕ) → CanMend n rows l e → at l.1 e ≢ pos 0
mender_nonzero n rows l e h = elim h as (λ _. at l.1 e ≢ pos 0) [
  | inl a ↦ a.1
  | inr b ↦ elim b.2 as (λ _. at l.1 e ≢ pos 0) [
    | inl c ↦ λ z. let q : at l.1 e <ℤ pos 0 = c.1 in absurd (omega (arith, ints, z, q))
    | inr c ↦ λ z. let q : pos 0 <ℤ at l.1 e = c.1 in absurd (omega (arith, ints, z, q))
  ]
]

abs_negated : (c : ℤ) → unsigned_abs (neg_ℤ c) ≡ unsigned_abs c
abs_negated c = omega (arith, ints)

DividesAll-negated : (g : ℕ) (cs : List ℤ) → DividesAll g (negated cs) → DividesAll g cs
DividesAll-negated g [] h = tt
DividesAll-negated g (c ∷ cs) h = (subst (λ (k : ℕ). g ∣ k) (abs_negated c) h.0, DividesAll-negated g cs h.1)

-- a basic line, turned, is the pivot's line
pub turned_pivot : (one : ℕ) (basis : List ℕ) (l : Line) (e : ℕ) → IsLine one basis l → e < one → (Among e basis → ⊥) → at l.1 e ≢ pos 0
    → IsPivot one basis l.0 e (turned e l.1)
turned_pivot one basis l e h i o z =
    by_sign (IsPivot one basis l.0 e) (at l.1 e) (negated l.1) l.1
    (λ below. record {
      long = length-negated l.1 ∙ h.long;
      inside = i;
      outside = o;
      own = let q = at-negated l.1 e in omega (arith, ints, q, below);
      others = λ b k d. let q = at-negated l.1 b in let r = h.others b k d in omega (arith, ints, q, r);
      lowest = λ g k. h.lowest g (DividesAll-negated g l.1 k);
    })
    (λ above. record {
      long = h.long;
      inside = i;
      outside = o;
      own = positive (at l.1 e) above z;
      others = h.others;
      lowest = h.lowest;
    })

pub turned_vanishes : (e : ℕ) (cs : List ℤ) (v : ℕ → ℤ) → dot v cs ≡ pos 0 → dot v (turned e cs) ≡ pos 0
turned_vanishes e cs v h =
    by_sign (λ ds. dot v ds ≡ pos 0) (at cs e) (negated cs) cs (λ _. let q = dot-negated cs v in omega (arith, ints, q, h)) (λ _. h)

pub unturned_vanishes : (e : ℕ) (cs : List ℤ) (v : ℕ → ℤ) → dot v (turned e cs) ≡ pos 0 → dot v cs ≡ pos 0
unturned_vanishes e cs v =
    by_sign (λ ds. dot v ds ≡ pos 0 → dot v cs ≡ pos 0) (at cs e) (negated cs) cs (λ _ h. let q = dot-negated cs v in omega (arith, ints, q, h)) (λ _ h. h)

-- the form after a pivot that is due
pub next_form : (n : ℕ) (rows : List LinRow) (f : List Line) (l : Line) (p : Pivot) → IsForm n rows f → IsDue n rows f l p
    → IsForm n rows (pivoted l.0 p.enters (turned p.enters l.1) f)
next_form n rows f l p hf d =
    let line : IsLine (one_of n rows) (basis_of f) l = of_all (IsLine (one_of n rows) (basis_of f)) f l hf.lines d.line.stands in
    new_form n rows f l p.enters (turned p.enters l.1) hf d.line.stands
    (turned_pivot (one_of n rows) (basis_of f) l p.enters line d.outside.0 d.outside.1 (mender_nonzero n rows l p.enters d.mends))
    (λ v. turned_vanishes p.enters l.1 v) (λ v. unturned_vanishes p.enters l.1 v)

-- a walk goes on by a pivot that is due
pub turn : (n : ℕ) (rows : List LinRow) (f g : List Line) (ps : List Pivot) (l : Line) (p : Pivot) → IsForm n rows g → Leads n rows f ps g → IsDue n rows g l p
    → Leads n rows f (ps ++ p ∷ []) (pivoted l.0 p.enters (turned p.enters l.1) g)
turn n rows f g [] l p hg e d = (
  l,
  pivoted l.0 p.enters (turned p.enters l.1) g,
  subst (λ (x : List Line). IsDue n rows x l p) (sym e) d,
  next_form n rows g l p hg d,
  basis_of-pivoted l.0 p.enters (turned p.enters l.1) g ∙ ap (λ s. exchanged s p.enters (basis_of g)) (sym d.leaves)
      ∙ ap (λ x. exchanged p.leaves p.enters (basis_of x)) (sym e),
  refl,
)
turn n rows f g (q ∷ ps) l p hg w d = (w.0, w.1, w.2, w.3, w.4, turn n rows w.1 g ps l p hg w.5 d)
