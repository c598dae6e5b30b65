-- A walk has fewer pivots than there are sets of as many variables as rows.
use Rattle.std.specs.Prelude.{◌≡◌, ◌≢◌, ℕ, zero, suc, ◌+◌, ◌<◌, ◌≤◌, Bool, true, false, if◌then◌else◌, ◌==◌, List, [], ◌∷◌, ◌++◌, length, map, refl}
use Rattle.std.proofs.Common.{ap, sym, ◌∙◌, subst, inl, inr, arith, length-append}
use Rattle.std.proofs.lemmas.List.{length-map}
use Rattle.std.specs.List.{AllByRecursion}
use Rattle.simplex_core.specs.declared.row.LinRow.{LinRow}
use Rattle.simplex_core.specs.declared.solved.Pivot.{Pivot}
use Rattle.simplex_core.specs.Form.{Among, Distinct, one_of, Line, basis_of, IsLine, IsForm}
use Rattle.simplex_core.specs.Walk.{Leads, choose}
use Rattle.simplex_core.proofs.ExchangeLaws.{same_or_not, other_test, of_all, to_all, length-basis_of, line_of, Among-append_left, Among-append_right}
use Rattle.simplex_core.proofs.WalkLaws.{Inside}
use Rattle.simplex_core.proofs.ClashLaws.{no_return}
use Rattle.mm_num.proofs.BoolLaws.{never}
use Rattle.mm_num.proofs.TestLaws.{number_test}

-- whether a number is in the list
abbrev pub has : ℕ → List ℕ → Bool
has i [] = false
has i (b ∷ bs) = if i == b then true else has i bs

next : (s b : ℕ) → s ≤ b → s ≢ b → suc s ≤ b
next s b h d = grind arith

has_true : (i : ℕ) (bs : List ℕ) → Among i bs → has i bs ≡ true
has_true i [] h = absurd h
has_true i (b ∷ bs) h = elim (same_or_not i b) as (λ _. has i (b ∷ bs) ≡ true) [
  | inl e ↦ rw (number_test i b e) refl
  | inr d ↦ elim h as (λ _. has i (b ∷ bs) ≡ true) [ inl e ↦ absurd (d e) | inr m ↦ rw (other_test i b d) (has_true i bs m) ]
]

true_has : (i : ℕ) (bs : List ℕ) → has i bs ≡ true → Among i bs
true_has i [] h = never h
true_has i (b ∷ bs) h = elim (same_or_not i b) as (λ _. Among i (b ∷ bs)) [
  | inl e ↦ inl e
  | inr d ↦ inr (true_has i bs ((rw (other_test i b d) at h)))
]

-- for each number from s on, k of them, whether it is in the list
abbrev pub mask_from : ℕ → ℕ → List ℕ → List Bool
mask_from s zero bs = []
mask_from s (suc k) bs = has s bs ∷ mask_from (suc s) k bs

length-mask_from : (s k : ℕ) (bs : List ℕ) → length (mask_from s k bs) ≡ k
length-mask_from s zero bs = refl
length-mask_from s (suc k) bs = ap suc (length-mask_from (suc s) k bs)

abbrev pub trues : List Bool → ℕ
trues [] = 0
trues (true ∷ ts) = suc (trues ts)
trues (false ∷ ts) = trues ts

none_in : (s k : ℕ) → trues (mask_from s k []) ≡ 0
none_in s zero = refl
none_in s (suc k) = none_in (suc s) k

-- below the first number nothing changes
mask_past : (s k b : ℕ) (bs : List ℕ) → b < s → mask_from s k (b ∷ bs) ≡ mask_from s k bs
mask_past s zero b bs h = refl
mask_past s (suc k) b bs h =
    let d : s ≢ b = λ e. absurd (omega (arith, e)) in
    ap (λ t. (if t then true else has s bs) ∷ mask_from (suc s) k (b ∷ bs)) (other_test s b d) ∙ ap (λ ts. has s bs ∷ ts) (mask_past (suc s) k b bs (omega arith))

one_mark : (t : Bool) (xs ys : List Bool) → trues xs ≡ suc (trues ys) → trues (t ∷ xs) ≡ suc (trues (t ∷ ys))
one_mark true xs ys e = ap suc e
one_mark false xs ys e = e

-- one more number is one more mark
mask_more : (s k b : ℕ) (bs : List ℕ) → s ≤ b → b < s + k → has b bs ≡ false → trues (mask_from s k (b ∷ bs)) ≡ suc (trues (mask_from s k bs))
mask_more s zero b bs h j f = absurd (omega arith)
mask_more s (suc k) b bs h j f = elim (same_or_not s b) as (λ _. trues (mask_from s (suc k) (b ∷ bs)) ≡ suc (trues (mask_from s (suc k) bs))) [
  | inl e ↦
      let past : mask_from (suc s) k (b ∷ bs) ≡ mask_from (suc s) k bs = mask_past (suc s) k b bs (omega (arith, e)) in
      ap (λ t. trues ((if t then true else has s bs) ∷ mask_from (suc s) k (b ∷ bs))) (number_test s b e)
      ∙ ap (λ ts. suc (trues ts)) past
      ∙ sym (ap (λ t. suc (trues (t ∷ mask_from (suc s) k bs))) (ap (λ x. has x bs) e ∙ f))
  | inr d ↦
      let rest : trues (mask_from (suc s) k (b ∷ bs)) ≡ suc (trues (mask_from (suc s) k bs)) = mask_more (suc s) k b bs (next s b h d) (omega arith) f in
      ap (λ t. trues ((if t then true else has s bs) ∷ mask_from (suc s) k (b ∷ bs))) (other_test s b d)
      ∙ one_mark (has s bs) (mask_from (suc s) k (b ∷ bs)) (mask_from (suc s) k bs) rest
]

not_true : (t : Bool) → (t ≡ true → ⊥) → t ≡ false
not_true true h = absurd (h refl)
not_true false h = refl

not_has : (b : ℕ) (bs : List ℕ) → (Among b bs → ⊥) → has b bs ≡ false
not_has b bs h = not_true (has b bs) (λ e. h (true_has b bs e))

-- as many marks as numbers
pub trues-mask_from : (k : ℕ) (bs : List ℕ) → Distinct bs → AllByRecursion (λ b. b < k) bs → trues (mask_from 0 k bs) ≡ length bs
trues-mask_from k [] d h = none_in 0 k
trues-mask_from k (b ∷ bs) d h =
    mask_more 0 k b bs (omega arith) (let q : b < k = h.0 in omega (arith, q)) (not_has b bs d.0) ∙ ap suc (trues-mask_from k bs d.1 h.1)

heads : (t u : Bool) (ts us : List Bool) → t ∷ ts ≡ u ∷ us → t ≡ u
heads t u ts us e = cc

tails : (t u : Bool) (ts us : List Bool) → t ∷ ts ≡ u ∷ us → ts ≡ us
tails t u ts us e = cc

-- equal marks are of the same numbers
mask_agrees : (s k : ℕ) (bs cs : List ℕ) → mask_from s k bs ≡ mask_from s k cs → (i : ℕ) → s ≤ i → i < s + k → has i bs ≡ has i cs
mask_agrees s zero bs cs e i h j = absurd (omega arith)
mask_agrees s (suc k) bs cs e i h j = elim (same_or_not s i) as (λ _. has i bs ≡ has i cs) [
  | inl y ↦ subst (λ (x : ℕ). has x bs ≡ has x cs) y (heads (has s bs) (has s cs) (mask_from (suc s) k bs) (mask_from (suc s) k cs) e)
  | inr d ↦ mask_agrees (suc s) k bs cs (tails (has s bs) (has s cs) (mask_from (suc s) k bs) (mask_from (suc s) k cs) e) i (next s i h d) (omega arith)
]

-- all marks of n places, k of them true
abbrev pub masks : ℕ → ℕ → List (List Bool)
masks zero zero = [] ∷ []
masks zero (suc k) = []
masks (suc n) zero = map (λ ts. false ∷ ts) (masks n zero)
masks (suc n) (suc k) = map (λ ts. true ∷ ts) (masks n k) ++ map (λ ts. false ∷ ts) (masks n (suc k))

length-masks : (n k : ℕ) → length (masks n k) ≡ choose n k
length-masks zero zero = refl
length-masks zero (suc k) = refl
length-masks (suc n) zero = length-map (masks n zero) (λ ts. false ∷ ts) ∙ length-masks n zero
length-masks (suc n) (suc k) =
    let a : length (masks n k) ≡ choose n k = length-masks n k in
    let b : length (masks n (suc k)) ≡ choose n (suc k) = length-masks n (suc k) in
    let c : length (map (λ ts. true ∷ ts) (masks n k)) ≡ length (masks n k) = length-map (masks n k) (λ ts. true ∷ ts) in
    let d : length (map (λ ts. false ∷ ts) (masks n (suc k))) ≡ length (masks n (suc k)) = length-map (masks n (suc k)) (λ ts. false ∷ ts) in
    length-append (map (λ ts. true ∷ ts) (masks n k)) (map (λ ts. false ∷ ts) (masks n (suc k))) ∙ omega (arith, a, b, c, d)

Among-mapped : (f : List Bool → List Bool) (x : List Bool) (xs : List (List Bool)) → Among x xs → Among (f x) (map f xs)
Among-mapped f x [] h = absurd h
Among-mapped f x (y ∷ xs) h = elim h as (λ _. Among (f x) (map f (y ∷ xs))) [ inl e ↦ inl (ap f e) | inr m ↦ inr (Among-mapped f x xs m) ]

-- each list of marks is among them
among_masks : (ts : List Bool) (n k : ℕ) → length ts ≡ n → trues ts ≡ k → Among ts (masks n k)
among_masks [] zero zero h e = inl refl
among_masks [] zero (suc k) h e = absurd (omega (arith, e))
among_masks [] (suc n) k h e = absurd (omega (arith, h))
among_masks (t ∷ ts) zero k h e = absurd (omega (arith, h))
among_masks (false ∷ ts) (suc n) zero h e = Among-mapped (λ x. false ∷ x) ts (masks n zero) (among_masks ts n zero (omega (arith, h)) e)
among_masks (true ∷ ts) (suc n) zero h e = absurd (omega (arith, e))
among_masks (true ∷ ts) (suc n) (suc k) h e =
    Among-append_left (true ∷ ts) (map (λ x. true ∷ x) (masks n k)) (map (λ x. false ∷ x) (masks n (suc k)))
    (Among-mapped (λ x. true ∷ x) ts (masks n k) (among_masks ts n k (omega (arith, h)) (omega (arith, e))))
among_masks (false ∷ ts) (suc n) (suc k) h e =
    Among-append_right (false ∷ ts) (map (λ x. true ∷ x) (masks n k)) (map (λ x. false ∷ x) (masks n (suc k)))
    (Among-mapped (λ x. false ∷ x) ts (masks n (suc k)) (among_masks ts n (suc k) (omega (arith, h)) e))

-- no two equal
abbrev pub Apart : List (List Bool) → Type 0
Apart [] = Unit {0}
Apart (x ∷ xs) = (Among x xs → ⊥) × Apart xs

-- the list without one place
without : (x : List Bool) (ys : List (List Bool)) → Among x ys → (zs : List (List Bool)) × (suc (length zs) ≡ length ys)
    × ((z : List Bool) → Among z ys → z ≢ x → Among z zs)
without x [] h = absurd h
without x (y ∷ ys) h = elim h as (λ _. (zs : List (List Bool)) × (suc (length zs) ≡ length (y ∷ ys)) × ((z : List Bool) → Among z (y ∷ ys) → z ≢ x → Among z zs)) [
  | inl e ↦ (ys, refl, λ z m d. elim m as (λ _. Among z ys) [ inl q ↦ absurd (d (q ∙ sym e)) | inr r ↦ r ])
  | inr m ↦
      let r : (zs : List (List Bool)) × (suc (length zs) ≡ length ys) × ((z : List Bool) → Among z ys → z ≢ x → Among z zs) = without x ys m in
      (y ∷ r.0, ap suc r.1, λ z k d. elim k as (λ _. Among z (y ∷ r.0)) [ inl q ↦ inl q | inr t ↦ inr (r.2 z t d) ])
]

-- so many different ones don't fit into fewer places
pigeon : (xs ys : List (List Bool)) → Apart xs → ((x : List Bool) → Among x xs → Among x ys) → length xs ≤ length ys
pigeon [] ys d h = omega arith
pigeon (x ∷ xs) ys d h =
    let r : (zs : List (List Bool)) × (suc (length zs) ≡ length ys) × ((z : List Bool) → Among z ys → z ≢ x → Among z zs) = without x ys (h x (inl refl)) in
    let rest : length xs ≤ length r.0 = pigeon xs r.0 d.1 (λ z m. r.2 z (h z (inr m)) (λ e. d.0 (subst (λ (w : List Bool). Among w xs) e m))) in
    let size : suc (length r.0) ≡ length ys = r.1 in
    omega (arith, rest, size)

-- the marks of a form's basis
abbrev pub mask_of : ℕ → List LinRow → List Line → List Bool
mask_of n rows f = mask_from 0 (one_of n rows) (basis_of f)

basis_inside : (n : ℕ) (rows : List LinRow) (f : List Line) → IsForm n rows f → (b : ℕ) → Among b (basis_of f) → b < one_of n rows
basis_inside n rows f h b m =
    let r : (l : Line) × Among l f × (l.0 ≡ b) = line_of b f m in
    subst (λ (x : ℕ). x < one_of n rows) r.2 (of_all (IsLine (one_of n rows) (basis_of f)) f r.0 h.lines r.1).inside

mask_fits : (n : ℕ) (rows : List LinRow) (f : List Line) → IsForm n rows f → Among (mask_of n rows f) (masks (one_of n rows) (length rows))
mask_fits n rows f h =
    among_masks (mask_of n rows f) (one_of n rows) (length rows) (length-mask_from 0 (one_of n rows) (basis_of f))
    (trues-mask_from (one_of n rows) (basis_of f) h.distinct (to_all (λ b. b < one_of n rows) (basis_of f) (basis_inside n rows f h)) ∙ length-basis_of f ∙ h.count)

-- equal marks are of the same basis
mask_inside : (n : ℕ) (rows : List LinRow) (f g : List Line) → IsForm n rows f → mask_of n rows f ≡ mask_of n rows g → Inside f g
mask_inside n rows f g h e x m =
    let less : x < one_of n rows = basis_inside n rows f h x m in
    true_has x (basis_of g) (sym (mask_agrees 0 (one_of n rows) (basis_of f) (basis_of g) e x (omega arith) (omega (arith, less))) ∙ has_true x (basis_of f) m)

-- the marks of the bases that pivots meet
trail : (n : ℕ) (rows : List LinRow) (f g : List Line) (ps : List Pivot) → Leads n rows f ps g → List (List Bool)
trail n rows f g [] w = mask_of n rows f ∷ []
trail n rows f g (p ∷ ps) w = mask_of n rows f ∷ trail n rows w.1 g ps w.5

length-trail : (n : ℕ) (rows : List LinRow) (f g : List Line) (ps : List Pivot) (w : Leads n rows f ps g) → length (trail n rows f g ps w) ≡ suc (length ps)
unfolding trail
length-trail n rows f g [] w = refl
length-trail n rows f g (p ∷ ps) w = ap suc (length-trail n rows w.1 g ps w.5)

trail_fits : (n : ℕ) (rows : List LinRow) (f g : List Line) (ps : List Pivot) (w : Leads n rows f ps g) → IsForm n rows f
    → (m : List Bool) → Among m (trail n rows f g ps w) → Among m (masks (one_of n rows) (length rows))
unfolding trail
trail_fits n rows f g [] w h m k = elim k as (λ _. Among m (masks (one_of n rows) (length rows))) [
  | inl e ↦ subst (λ (x : List Bool). Among x (masks (one_of n rows) (length rows))) (sym e) (mask_fits n rows f h)
  | inr z ↦ absurd z
]
trail_fits n rows f g (p ∷ ps) w h m k = elim k as (λ _. Among m (masks (one_of n rows) (length rows))) [
  | inl e ↦ subst (λ (x : List Bool). Among x (masks (one_of n rows) (length rows))) (sym e) (mask_fits n rows f h)
  | inr z ↦ trail_fits n rows w.1 g ps w.5 w.3 m z
]

-- a mark on the trail is of a form to which pivots lead
met : (n : ℕ) (rows : List LinRow) (f g : List Line) (ps : List Pivot) (w : Leads n rows f ps g) → IsForm n rows f → (m : List Bool) → Among m (trail n rows f g ps w)
    → (h : List Line) × (qs : List Pivot) × IsForm n rows h × Leads n rows f qs h × (m ≡ mask_of n rows h)
unfolding trail
met n rows f g [] w hf m k = elim k as (λ _. (h : List Line) × (qs : List Pivot) × IsForm n rows h × Leads n rows f qs h × (m ≡ mask_of n rows h)) [
  | inl e ↦ (f, [], hf, refl, e)
  | inr z ↦ absurd z
]
met n rows f g (p ∷ ps) w hf m k = elim k as (λ _. (h : List Line) × (qs : List Pivot) × IsForm n rows h × Leads n rows f qs h × (m ≡ mask_of n rows h)) [
  | inl e ↦ (f, [], hf, refl, e)
  | inr z ↦
      let r : (h : List Line) × (qs : List Pivot) × IsForm n rows h × Leads n rows w.1 qs h × (m ≡ mask_of n rows h) = met n rows w.1 g ps w.5 w.3 m z in
      (r.0, p ∷ r.1, r.2, (w.0, w.1, w.2, w.3, w.4, r.3), r.4)
]

trail_apart : (n : ℕ) (rows : List LinRow) (f g : List Line) (ps : List Pivot) (w : Leads n rows f ps g) → IsForm n rows f → Apart (trail n rows f g ps w)
unfolding trail
trail_apart n rows f g [] w h = (λ k. k, tt)
trail_apart n rows f g (p ∷ ps) w h = (
  λ k.
      let r : (x : List Line) × (qs : List Pivot) × IsForm n rows x × Leads n rows w.1 qs x × (mask_of n rows f ≡ mask_of n rows x) = met n rows w.1 g ps w.5 w.3 (mask_of n rows f) k in
      no_return n rows f r.0 p r.1 h (w.0, w.1, w.2, w.3, w.4, r.3) (mask_inside n rows f r.0 h r.4) (mask_inside n rows r.0 f r.2 (sym r.4)),
  trail_apart n rows w.1 g ps w.5 w.3,
)

-- a walk has fewer pivots than there are candidate bases
pub few_pivots : (n : ℕ) (rows : List LinRow) (f g : List Line) (ps : List Pivot) → IsForm n rows f → Leads n rows f ps g → length ps < choose (one_of n rows) (length rows)
few_pivots n rows f g ps h w =
    let a : length (trail n rows f g ps w) ≤ length (masks (one_of n rows) (length rows)) =
    pigeon (trail n rows f g ps w) (masks (one_of n rows) (length rows)) (trail_apart n rows f g ps w h) (trail_fits n rows f g ps w h) in
    let b : length (trail n rows f g ps w) ≡ suc (length ps) = length-trail n rows f g ps w in
    let c : length (masks (one_of n rows) (length rows)) ≡ choose (one_of n rows) (length rows) = length-masks (one_of n rows) (length rows) in
    omega (arith, a, b, c)
