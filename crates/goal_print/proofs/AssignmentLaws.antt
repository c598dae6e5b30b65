-- The lines of an assignment, one after the other.
use Rattle.std.proofs.Common.{◌≡◌, ℕ, ℤ, ◌<◌, ◌+◌, List, ◌++◌, length, drop, get_or, refl, sym, ◌∙◌, ap}
use Rattle.std.proofs.lemmas.List.{append_assoc}
use Rattle.std.proofs.Math.Seq.{drop-cons}
use Rattle.std.proofs.Math.Numerals.{add-one}
use Rattle.goal_ast.specs.declared.goal.Bound.{Bound}
use Rattle.goal_print.specs.Text.{line_text, lines_text}

-- the lines from a variable on are its own and those after it
lines_from : (vars : List Bound) (values : List ℤ) (at : ℕ) (b : Bound) (z : ℤ) → at < length vars → at < length values
    → lines_text (drop at vars) (drop at values) ≡ line_text (get_or vars at b) (get_or values at z) ++ lines_text (drop (at + 1) vars) (drop (at + 1) values)
lines_from vars values at b z lt lz = rw (add-one, drop-cons vars at b, drop-cons values at z) refl

-- a further line is out
pub line_added : (vars : List Bound) (values : List ℤ) (at : ℕ) (b : Bound) (z : ℤ) (out more all : List ℕ) → at < length vars → at < length values
    → more ≡ out ++ line_text (get_or vars at b) (get_or values at z) → out ++ lines_text (drop at vars) (drop at values) ≡ all
    → more ++ lines_text (drop (at + 1) vars) (drop (at + 1) values) ≡ all
line_added vars values at b z out more all lt lz e f =
    let rest = lines_text (drop (at + 1) vars) (drop (at + 1) values) in
    ap (λ x. x ++ rest) e ∙ append_assoc out (line_text (get_or vars at b) (get_or values at z)) rest ∙ sym (ap (λ x. out ++ x) (lines_from vars values at b z lt lz)) ∙ f
