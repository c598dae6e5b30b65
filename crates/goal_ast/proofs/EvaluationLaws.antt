-- A term has a result exactly where the value of each subterm is small, and the result is its value.
use Rattle.std.specs.Prelude.{◌≡◌, ℤ, neg_ℤ, ◌+ℤ◌, ◌-ℤ◌, ◌*ℤ◌, unsigned_abs, Bool, true, false, ◌&&◌, refl, Option}
use Rattle.std.proofs.Common.{ap, ◌∙◌, subst}
use Rattle.mm_num.specs.Power.{power}
use Rattle.mm_num.specs.Option.{◌>>=◌}
use Rattle.goal_ast.specs.declared.term.Term.{Term}
use Rattle.goal_ast.specs.declared.term.Term.TheOpen.{Term-F}
use Rattle.goal_ast.specs.declared.term.Term.TheViews.{roll-Term}
use Rattle.goal_ast.specs.declared.term.Term.TheFolds.{map-Term, fold-roll-Term, ind-Term}
use Rattle.goal_ast.specs.Truth.{Point, quotient, remainder, stopped, call_1, call_2, value_level, value_of}
use Rattle.goal_ast.specs.Sorted.{is_small}
use Rattle.goal_ast.specs.Evaluation.{only_if, checked, evaluated_level, evaluated, Valued, valued_level, valued, all_small}

-- one part with its result, and what is made of it
pub one_part : (f : ℤ → ℤ) (o : Option ℤ) (s : Bool) (z : ℤ) → o ≡ only_if s z → (o >>= λ v. checked (f v)) ≡ only_if (s && is_small (f z)) (f z)
one_part f o true z e = rw (e) refl
one_part f o false z e = rw (e) refl

pub two_parts : (f : ℤ → ℤ → ℤ) (o p : Option ℤ) (s t : Bool) (y z : ℤ) → o ≡ only_if s y → p ≡ only_if t z
    → (o >>= λ v. p >>= λ w. checked (f v w)) ≡ only_if ((s && t) && is_small (f y z)) (f y z)
two_parts f o p true true y z e d = rw (e, d) refl
two_parts f o p true false y z e d = rw (e, d) refl
two_parts f o p false t y z e d = rw (e) refl

-- the results of two parts are those of their values
both_values : (f : ℤ → ℤ → ℤ) (a b c d : ℤ) → a ≡ c → b ≡ d → f a b ≡ f c d
both_values f a b c d e g = rw (e, g) refl

abbrev pub ValueAgrees : Option ℤ → Valued → ℤ → Type 0
ValueAgrees o v z = (o ≡ only_if v.small v.value) × (v.value ≡ z)

moved : (o p : Option ℤ) (v w : Valued) (y z : ℤ) → o ≡ p → v ≡ w → y ≡ z → ValueAgrees p w z → ValueAgrees o v y
moved o p v w y z e f g h = rw (e, f, g) h

abbrev pub TermAgrees : Point → Term → Type 0
TermAgrees x t = ValueAgrees (evaluated x t) (valued x t) (value_of x t)

abbrev Known : Point → Type 0
Known x = (t : Term) × TermAgrees x t

abbrev terms_of : (x : Point) → Term-F (Known x) → Term-F Term
terms_of x y = map-Term (Known x) Term (λ p. p.0) y

level : (x : Point) (y : Term-F (Known x))
    → ValueAgrees (evaluated_level x (map-Term Term (Option ℤ) (evaluated x) (terms_of x y))) (valued_level x (map-Term Term Valued (valued x) (terms_of x y)))
    (value_level x (map-Term Term ℤ (value_of x) (terms_of x y)))
level x (Term-F.Lit n) = (refl, refl)
level x (Term-F.Var v) = (refl, refl)
level x (Term-F.Neg a) = (one_part neg_ℤ _ _ _ a.1.0, ap neg_ℤ a.1.1)
level x (Term-F.Add a b) = (two_parts (λ v w. v +ℤ w) _ _ _ _ _ _ a.1.0 b.1.0, both_values (λ v w. v +ℤ w) _ _ _ _ a.1.1 b.1.1)
level x (Term-F.Sub s a b) = (two_parts (λ v w. stopped s (v -ℤ w)) _ _ _ _ _ _ a.1.0 b.1.0, both_values (λ v w. stopped s (v -ℤ w)) _ _ _ _ a.1.1 b.1.1)
level x (Term-F.Mul a b) = (two_parts (λ v w. v *ℤ w) _ _ _ _ _ _ a.1.0 b.1.0, both_values (λ v w. v *ℤ w) _ _ _ _ a.1.1 b.1.1)
level x (Term-F.Pow a k) = (one_part (λ v. power v (unsigned_abs k)) _ _ _ a.1.0, ap (λ v. power v (unsigned_abs k)) a.1.1)
level x (Term-F.Div a k) = (one_part (λ v. quotient v k) _ _ _ a.1.0, ap (λ v. quotient v k) a.1.1)
level x (Term-F.Rem a k) = (one_part (λ v. remainder v k) _ _ _ a.1.0, ap (λ v. remainder v k) a.1.1)
level x (Term-F.Call1 f a) = (one_part (call_1 f) _ _ _ a.1.0, ap (call_1 f) a.1.1)
level x (Term-F.Call2 f a b) = (two_parts (call_2 f) _ _ _ _ _ _ a.1.0 b.1.0, both_values (call_2 f) _ _ _ _ a.1.1 b.1.1)

pub term_agrees : (x : Point) (t : Term) → TermAgrees x t
term_agrees x = ind-Term (TermAgrees x) (λ d y q. subst (λ (z : Term-F Term). TermAgrees x (roll-Term z)) q (step y))
  where
    step : (y : Term-F (Known x)) → TermAgrees x (roll-Term (terms_of x y))
    step y =
        let e = fold-roll-Term (Option ℤ) (evaluated_level x) (terms_of x y) in
        let v = fold-roll-Term Valued (valued_level x) (terms_of x y) in
        let z = fold-roll-Term ℤ (value_level x) (terms_of x y) in
        moved _ _ _ _ _ _ e v z (level x y)

-- the result is the value, where the values of all subterms are small
pub evaluated_is : (x : Point) (t : Term) → evaluated x t ≡ only_if (all_small x t) (value_of x t)
evaluated_is x t = let p = term_agrees x t in p.0 ∙ ap (λ v. only_if (all_small x t) v) p.1
