-- The variables that move along pivots, and the steps of a walk back to its start.
use Rattle.std.specs.Prelude.{◌≡◌, ℕ, ◌<◌, ◌≤◌, ◌⊎◌, false, List, [], ◌∷◌, map, refl}
use Rattle.std.proofs.Common.{ap, sym, ◌∙◌, subst, inl, inr, arith}
use Rattle.simplex_core.specs.declared.row.LinRow.{LinRow}
use Rattle.simplex_core.specs.declared.solved.Pivot.{Pivot}
use Rattle.simplex_core.specs.Form.{Among, Line, basis_of, IsForm}
use Rattle.simplex_core.specs.Walk.{is_equality, exchanged, IsDue, Leads}
use Rattle.simplex_core.proofs.ExchangeLaws.{from_exchanged, to_exchanged, has_entered, Among-basis_of}

abbrev pub entering : List Pivot → List ℕ
entering ps = map (λ p. p.enters) ps

abbrev pub leaving : List Pivot → List ℕ
leaving ps = map (λ p. p.leaves) ps

pub Among-map : (f : Pivot → ℕ) (p : Pivot) (ps : List Pivot) → Among p ps → Among (f p) (map f ps)
Among-map f p [] h = absurd h
Among-map f p (q ∷ ps) h = elim h as (λ _. Among (f p) (map f (q ∷ ps))) [ inl e ↦ inl (ap f e) | inr m ↦ inr (Among-map f p ps m) ]

pub from_map : (f : Pivot → ℕ) (x : ℕ) (ps : List Pivot) → Among x (map f ps) → (p : Pivot) × Among p ps × (x ≡ f p)
from_map f x [] h = absurd h
from_map f x (q ∷ ps) h = elim h as (λ _. (p : Pivot) × Among p (q ∷ ps) × (x ≡ f p)) [
  | inl e ↦ (q, inl refl, e)
  | inr m ↦ let r : (p : Pivot) × Among p ps × (x ≡ f p) = from_map f x ps m in (r.0, inr r.1, r.2)
]

abbrev pub Within : List Pivot → List Pivot → Type 0
Within ps qs = (p : Pivot) → Among p ps → Among p qs

pub map_within : (f : Pivot → ℕ) (x : ℕ) (ps qs : List Pivot) → Within ps qs → Among x (map f ps) → Among x (map f qs)
map_within f x ps qs w h =
    let r : (p : Pivot) × Among p ps × (x ≡ f p) = from_map f x ps h in
    subst (λ (y : ℕ). Among y (map f qs)) (sym r.2) (Among-map f r.0 qs (w r.0 r.1))

-- a basic variable stays or leaves
pub stays : (n : ℕ) (rows : List LinRow) (f g : List Line) (ps : List Pivot) (x : ℕ) → Leads n rows f ps g → Among x (basis_of f)
    → Among x (basis_of g) ⊎ Among x (leaving ps)
stays n rows f g [] x w m = inl (subst (λ (h : List Line). Among x (basis_of h)) w m)
stays n rows f g (p ∷ ps) x w m = elim (to_exchanged p.leaves p.enters x (basis_of f) m) as (λ _. Among x (basis_of g) ⊎ Among x (leaving (p ∷ ps))) [
  | inl y ↦ inr (inl y)
  | inr r ↦ elim (stays n rows w.1 g ps x w.5 (subst (λ (bs : List ℕ). Among x bs) (sym w.4) r)) as (λ _. Among x (basis_of g) ⊎ Among x (leaving (p ∷ ps))) [
    | inl y ↦ inl y
    | inr q ↦ inr (inr q)
  ]
]

-- a basic variable was basic before or entered
pub was : (n : ℕ) (rows : List LinRow) (f g : List Line) (ps : List Pivot) (x : ℕ) → Leads n rows f ps g → Among x (basis_of g)
    → Among x (basis_of f) ⊎ Among x (entering ps)
was n rows f g [] x w m = inl (subst (λ (h : List Line). Among x (basis_of h)) (sym w) m)
was n rows f g (p ∷ ps) x w m = elim (was n rows w.1 g ps x w.5 m) as (λ _. Among x (basis_of f) ⊎ Among x (entering (p ∷ ps))) [
  | inl y ↦ elim (from_exchanged p.leaves p.enters x (basis_of f) (subst (λ (bs : List ℕ). Among x bs) w.4 y)) as (λ _. Among x (basis_of f) ⊎ Among x (entering (p ∷ ps))) [
    | inl z ↦ inr (inl z)
    | inr r ↦ inl r.0
  ]
  | inr q ↦ inr (inr q)
]

-- a pivot of a walk, with what comes before and after
pub record Step (n : ℕ) (rows : List LinRow) (f : List Line) (ps : List Pivot) (g : List Line) (p : Pivot) : Type 0 where
  pub here : List Line
  pub line : Line
  pub next : List Line
  pub before : List Pivot
  pub after : List Pivot
  pub form : IsForm n rows here
  pub leads : Leads n rows f before here
  pub due : IsDue n rows here line p
  pub basis : basis_of next ≡ exchanged p.leaves p.enters (basis_of here)
  pub rest : Leads n rows next after g
  pub early : Within before ps
  pub late : Within after ps

pub step_of : (n : ℕ) (rows : List LinRow) (f g : List Line) (ps : List Pivot) (p : Pivot) → IsForm n rows f → Leads n rows f ps g → Among p ps → Step n rows f ps g p
step_of n rows f g [] p hf w m = absurd m
step_of n rows f g (q ∷ ps) p hf w m = elim m as (λ _. Step n rows f (q ∷ ps) g p) [
  | inl e ↦ record {
    here = f;
    line = w.0;
    next = w.1;
    before = [];
    after = ps;
    form = hf;
    leads = refl;
    due = subst (λ (x : Pivot). IsDue n rows f w.0 x) (sym e) w.2;
    basis = w.4 ∙ ap (λ (x : Pivot). exchanged x.leaves x.enters (basis_of f)) (sym e);
    rest = w.5;
    early = λ x k. absurd k;
    late = λ x k. inr k;
  }
  | inr r ↦
      let s : Step n rows w.1 ps g p = step_of n rows w.1 g ps p w.3 w.5 r in
      record {
        here = s.here;
        line = s.line;
        next = s.next;
        before = q ∷ s.before;
        after = s.after;
        form = s.form;
        leads = (w.0, w.1, w.2, w.3, w.4, s.leads);
        due = s.due;
        basis = s.basis;
        rest = s.rest;
        early = λ x k. elim k as (λ _. Among x (q ∷ ps)) [ inl y ↦ inl y | inr z ↦ inr (s.early x z) ];
        late = λ x k. inr (s.late x k);
      }
]

-- the same variables
abbrev pub Inside : List Line → List Line → Type 0
Inside f g = (x : ℕ) → Among x (basis_of f) → Among x (basis_of g)

pub leaves_basis : (n : ℕ) (rows : List LinRow) (f : List Line) (l : Line) (p : Pivot) → IsDue n rows f l p → Among p.leaves (basis_of f)
leaves_basis n rows f l p d = subst (λ (x : ℕ). Among x (basis_of f)) (sym d.leaves) (Among-basis_of l f d.line.stands)

-- on the way back to the same basis, what leaves enters
pub left_enters : (n : ℕ) (rows : List LinRow) (f g : List Line) (ps : List Pivot) (p : Pivot) → Inside f g → Step n rows f ps g p → Among p ps → Among p.leaves (entering ps)
left_enters n rows f g ps p forth s m =
    elim (was n rows f s.here s.before p.leaves s.leads (leaves_basis n rows s.here s.line p s.due)) as (λ _. Among p.leaves (entering ps)) [
      | inr q ↦ map_within (λ x. x.enters) p.leaves s.before ps s.early q
      | inl y ↦ elim (was n rows s.next g s.after p.leaves s.rest (forth p.leaves y)) as (λ _. Among p.leaves (entering ps)) [
        | inr q ↦ map_within (λ x. x.enters) p.leaves s.after ps s.late q
        | inl z ↦ elim (from_exchanged p.leaves p.enters p.leaves (basis_of s.here) (subst (λ (bs : List ℕ). Among p.leaves bs) s.basis z)) as (λ _. Among p.leaves (entering ps)) [
          | inl t ↦ subst (λ (x : ℕ). Among x (entering ps)) (sym t) (Among-map (λ x. x.enters) p ps m)
          | inr r ↦ absurd (r.1 refl)
        ]
      ]
    ]

-- and what enters leaves
pub entered_leaves : (n : ℕ) (rows : List LinRow) (f g : List Line) (ps : List Pivot) (p : Pivot) → Inside g f → Step n rows f ps g p → Among p.enters (leaving ps)
entered_leaves n rows f g ps p back s =
    let new : Among p.enters (basis_of s.next) = subst (λ (bs : List ℕ). Among p.enters bs) (sym s.basis)
    (has_entered p.leaves p.enters (basis_of s.here) (leaves_basis n rows s.here s.line p s.due)) in
    elim (stays n rows s.next g s.after p.enters s.rest new) as (λ _. Among p.enters (leaving ps)) [
      | inr q ↦ map_within (λ x. x.leaves) p.enters s.after ps s.late q
      | inl y ↦ elim (stays n rows f s.here s.before p.enters s.leads (back p.enters y)) as (λ _. Among p.enters (leaving ps)) [
        | inr q ↦ map_within (λ x. x.leaves) p.enters s.before ps s.early q
        | inl z ↦ absurd (s.due.outside.1 z)
      ]
    ]

-- what never enters is basic at one step if it is at another
pub unmoved : (n : ℕ) (rows : List LinRow) (f g : List Line) (ps : List Pivot) (p q : Pivot) (x : ℕ) → Inside f g → Among p ps
    → (t : Step n rows f ps g q) → (s : Step n rows f ps g p) → (Among x (entering ps) → ⊥) → Among x (basis_of t.here) → Among x (basis_of s.here)
unmoved n rows f g ps p q x forth m t s no_entry h =
    elim (was n rows f t.here t.before x t.leads h) as (λ _. Among x (basis_of s.here)) [
      | inr k ↦ absurd (no_entry (map_within (λ y. y.enters) x t.before ps t.early k))
      | inl y ↦ elim (was n rows s.next g s.after x s.rest (forth x y)) as (λ _. Among x (basis_of s.here)) [
        | inr k ↦ absurd (no_entry (map_within (λ y. y.enters) x s.after ps s.late k))
        | inl z ↦ elim (from_exchanged p.leaves p.enters x (basis_of s.here) (subst (λ (bs : List ℕ). Among x bs) s.basis z)) as (λ _. Among x (basis_of s.here)) [
          | inl e ↦ absurd (no_entry (subst (λ (y : ℕ). Among y (entering ps)) (sym e) (Among-map (λ y. y.enters) p ps m)))
          | inr r ↦ r.0
        ]
      ]
    ]

-- on the way back, what moves is the slack of an inequality
pub moves_slack : (n : ℕ) (rows : List LinRow) (f g : List Line) (ps : List Pivot) (x : ℕ) → IsForm n rows f → Leads n rows f ps g → Inside g f
    → Among x (entering ps) → (n ≤ x) × (is_equality n rows x ≡ false)
moves_slack n rows f g ps x hf w back m =
    let e : (p : Pivot) × Among p ps × (x ≡ p.enters) = from_map (λ p. p.enters) x ps m in
    let s : Step n rows f ps g e.0 = step_of n rows f g ps e.0 hf w e.1 in
    let l : (p : Pivot) × Among p ps × (e.0.enters ≡ p.leaves) = from_map (λ p. p.leaves) e.0.enters ps (entered_leaves n rows f g ps e.0 back s) in
    let t : Step n rows f ps g l.0 = step_of n rows f g ps l.0 hf w l.1 in
    let low : n ≤ t.line.0 = t.due.line.broken.0 in
    let same : x ≡ t.line.0 = e.2 ∙ l.2 ∙ t.due.leaves in
    elim s.due.mends as (λ _. (n ≤ x) × (is_equality n rows x ≡ false)) [
      | inl a ↦ let q : e.0.enters < n = a.0 in let z : x ≡ e.0.enters = e.2 in absurd (omega (arith, low, same, q, z))
      | inr b ↦ (omega (arith, low, same), ap (is_equality n rows) e.2 ∙ b.1)
    ]

pub split : (i j : ℕ) → (i ≤ j) ⊎ (j < i)
split i j = grind arith

-- the greatest of some numbers
pub greatest : (x : ℕ) (xs : List ℕ) → (t : ℕ) × Among t (x ∷ xs) × ((y : ℕ) → Among y (x ∷ xs) → y ≤ t)
greatest x [] = (x, inl refl, λ y h. elim h as (λ _. y ≤ x) [ inl e ↦ omega (arith, e) | inr k ↦ absurd k ])
greatest x (z ∷ xs) =
    let r : (t : ℕ) × Among t (z ∷ xs) × ((y : ℕ) → Among y (z ∷ xs) → y ≤ t) = greatest z xs in
    elim (split x r.0) as (λ _. (t : ℕ) × Among t (x ∷ z ∷ xs) × ((y : ℕ) → Among y (x ∷ z ∷ xs) → y ≤ t)) [
      | inl k ↦ (r.0, inr r.1, λ y h. elim h as (λ _. y ≤ r.0) [ inl e ↦ omega (arith, e, k) | inr m ↦ r.2 y m ])
      | inr k ↦ (x, inl refl, λ y h. elim h as (λ _. y ≤ x) [ inl e ↦ omega (arith, e) | inr m ↦ let q = r.2 y m in omega (arith, q, k) ])
    ]
