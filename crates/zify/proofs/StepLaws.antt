-- What the parts of a node give, joined at the node, is what the walk over the node gives.
use Rattle.std.specs.Prelude.{◌≡◌, ℕ, ℤ, Result, IfOk, OnOk}
use Rattle.std.proofs.Common.{ap, sym, ◌∙◌, subst}
use Rattle.goal_ast.specs.declared.term.Fn2.{Fn2}
use Rattle.goal_ast.specs.declared.term.Operator.TheVariants as operators
use Rattle.goal_ast.specs.declared.term.Term.{Term}
use Rattle.goal_ast.specs.declared.term.Term.TheVariants as terms
use Rattle.goal_ast.specs.declared.term.Term.TheOpen.{Term-F}
use Rattle.goal_ast.specs.declared.term.Term.TheViews.{roll-Term}
use Rattle.goal_ast.specs.declared.term.Term.TheFolds.{map-Term, fold-roll-Term}
use Rattle.zify.specs.declared.term.ZTerm.{ZTerm}
use Rattle.zify.specs.declared.term.ZTerm.TheVariants as zterms
use Rattle.zify.specs.declared.translate.Placed.{Placed}
use Rattle.zify.specs.Translation.{remainder_term, call_2_condition}
use Rattle.zify.specs.machine.Table.{State}
use Rattle.zify.specs.machine.Walking.{Walked, shape, placed, operated, divided, reduced, Walk, walk_level, walk, part_of, IsPart}

abbrev walked : ℕ → ZTerm → State → Walked
walked n t s = record { place = n; term = t; state = s }

walked_is : (n m : ℕ) (t u : ZTerm) (r s : State) → n ≡ m → t ≡ u → r ≡ s → walked n t r ≡ walked m u s
walked_is n m t u r s i j k = ap (λ (x : ℕ). walked x t r) i ∙ ap (λ (x : ZTerm). walked m x r) j ∙ ap (λ (x : State). walked m u x) k

pub part_is : (p : Placed) (w : Walked) (s : State) → IsPart p w → s ≡ w.state → part_of p s ≡ w
part_is p w s h k = walked_is p.place w.place p.term w.term s w.state h.0 h.1 k

-- at a node of this kind
walks : (b : ℕ) (d : Term-F Term) (t : Term) (s : State) → t ≡ roll-Term d → walk b t s ≡ walk_level b (map-Term Term Walk (walk b) d) s
walks b d t s h = ap (λ (u : Term). walk b u s) h ∙ ap (λ (f : Walk). f s) (fold-roll-Term Walk (walk_level b) d)

pub power_walks : (b : ℕ) (a : Term) (k : ℤ) (t : Term) (p : Placed) (s u : State) → t ≡ terms.Pow a k → IsPart p (walk b a s) → u ≡ (walk b a s).state
    → placed (shape (operators.Pow k) p.place 0) (zterms.Pow p.term k) u ≡ walk b t s
power_walks b a k t p s u e h g = ap (λ (w : Walked). placed (shape (operators.Pow k) w.place 0) (zterms.Pow w.term k) w.state) (part_is p (walk b a s) u h g)
    ∙ sym (walks b (Term-F.Pow a k) t s (e ∙ sym (terms.rolls-Pow a k)))

pub quotient_walks : (b : ℕ) (a : Term) (k : ℤ) (t : Term) (p : Placed) (s u : State) → t ≡ terms.Div a k → IsPart p (walk b a s) → u ≡ (walk b a s).state → divided b k (part_of p u) ≡ walk b t s
quotient_walks b a k t p s u e h g = ap (λ (w : Walked). divided b k w) (part_is p (walk b a s) u h g) ∙ sym (walks b (Term-F.Div a k) t s (e ∙ sym (terms.rolls-Div a k)))

pub remainder_walks : (b : ℕ) (a : Term) (k : ℤ) (t : Term) (p : Placed) (s u : State) → t ≡ terms.Rem a k → IsPart p (walk b a s) → u ≡ (walk b a s).state → reduced b k (part_of p u) ≡ walk b t s
remainder_walks b a k t p s u e h g = ap (λ (w : Walked). reduced b k w) (part_is p (walk b a s) u h g) ∙ sym (walks b (Term-F.Rem a k) t s (e ∙ sym (terms.rolls-Rem a k)))

abbrev called_2 : ℕ → Fn2 → Walked → Walked → Walked
called_2 b f v w = operated b (shape (operators.Call2 f) v.place w.place) (call_2_condition f v.term w.term) w.state

pub call_walks : (b : ℕ) (f : Fn2) (a c : Term) (t : Term) (p q : Placed) (s u v : State) → t ≡ terms.Call2 f a c → IsPart p (walk b a s) → u ≡ (walk b a s).state → IsPart q (walk b c u) → v ≡ (walk b c u).state
    → operated b (shape (operators.Call2 f) p.place q.place) (call_2_condition f p.term q.term) v ≡ walk b t s
call_walks b f a c t p q s u v e h g i j =
    ap (λ (w : Walked). called_2 b f w (part_of q v)) (part_is p (walk b a s) u h g)
    ∙ ap (λ (w : Walked). called_2 b f (walk b a s) w) (part_is q (walk b c u) v i j)
    ∙ ap (λ (r : State). called_2 b f (walk b a s) (walk b c r)) g
    ∙ sym (walks b (Term-F.Call2 f a c) t s (e ∙ sym (terms.rolls-Call2 f a c)))

pub found_part : (E : Type 0) (r : Result Placed E) (v w : Walked) → v ≡ w → IfOk r (λ p. IsPart p v) → IfOk r (λ p. IsPart p w)
found_part E r v w e h = subst (λ (x : Walked). IfOk r (λ p. IsPart p x)) e h

-- a remainder after its quotient
pub reduced_is : (b : ℕ) (k : ℤ) (p : Walked) (q : Placed) (s : State) (z : ZTerm) → IsPart q (divided b k p) → s ≡ (divided b k p).state → z ≡ remainder_term p.term k q.term
    → placed (shape (operators.Rem k) p.place 0) z s ≡ reduced b k p
reduced_is b k p q s z h g e =
    ap (λ (x : ZTerm). placed (shape (operators.Rem k) p.place 0) x s) e
    ∙ ap (λ (w : Walked). placed (shape (operators.Rem k) p.place 0) (remainder_term p.term k w.term) w.state) (part_is q (divided b k p) s h g)

pub found_table : (A E : Type 0) (r : Result A E) (x : State) (v w : Walked) → v ≡ w → OnOk r (x ≡ v.state) → OnOk r (x ≡ w.state)
found_table A E r x v w e h = subst (λ (y : Walked). OnOk r (x ≡ y.state)) e h
