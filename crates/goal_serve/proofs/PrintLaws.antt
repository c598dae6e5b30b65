-- Lines, one after the other.
use Rattle.std.proofs.Common.{◌≡◌, ℕ, ℤ, ◌+◌, ◌<◌, List, [], ◌∷◌, ◌++◌, length, drop, get_or, refl, sym, ap, ◌∙◌}
use Rattle.std.proofs.lemmas.List.{append_assoc}
use Rattle.std.proofs.lemmas.Grind.{flat_map-append}
use Rattle.std.proofs.Math.Seq.{drop-cons}
use Rattle.std.proofs.Math.Numerals.{add-one}
use Rattle.goal_ast.specs.declared.goal.Bound.{Bound}
use Rattle.goal_print.specs.Text.{lines_text as values_text, line_text as value_line}
use Rattle.goal_serve.specs.declared.answers.Shown.{Shown}
use Rattle.goal_serve.specs.Line.{line_text, lines_text}
use Rattle.goal_serve.specs.Reply.{clause_lines, shown_lines, value_lines}

-- the next piece is out
pub piece_out : (out piece rest more all : List ℕ) → more ≡ out ++ piece → out ++ (piece ++ rest) ≡ all → more ++ rest ≡ all
piece_out out piece rest more all e f = ap (λ x. x ++ rest) e ∙ append_assoc out piece rest ∙ f

next_left : {A : Type 0} (xs : List A) (n : ℕ) (d : A) → n < length xs → drop n xs ≡ get_or xs n d ∷ drop (n + 1) xs
next_left xs n d lt = rw add-one (drop-cons xs n d lt)

shown_from : (shown : List Shown) (n : ℕ) (d : Shown) → n < length shown → lines_text (shown_lines n (drop n shown)) ≡ lines_text (clause_lines n (get_or shown n d)) ++ lines_text (shown_lines (n + 1) (drop (n + 1) shown))
shown_from shown n d lt =
    ap (λ xs. lines_text (shown_lines n xs)) (next_left shown n d lt)
    ∙ flat_map-append line_text (clause_lines n (get_or shown n d)) (shown_lines (n + 1) (drop (n + 1) shown))

-- a further clause is out
pub shown_out : (shown : List Shown) (n : ℕ) (d : Shown) (out more all : List ℕ) → n < length shown → more ≡ out ++ lines_text (clause_lines n (get_or shown n d)) → out ++ lines_text (shown_lines n (drop n shown)) ≡ all
    → more ++ lines_text (shown_lines (n + 1) (drop (n + 1) shown)) ≡ all
shown_out shown n d out more all lt e f =
    piece_out out (lines_text (clause_lines n (get_or shown n d))) (lines_text (shown_lines (n + 1) (drop (n + 1) shown))) more all e (sym (ap (λ x. out ++ x) (shown_from shown n d lt)) ∙ f)

-- the lines of an assignment
pub values_are : (vars : List Bound) (values : List ℤ) → values_text vars values ≡ lines_text (value_lines vars values)
values_are [] values = refl
values_are (b ∷ vars) [] = refl
values_are (b ∷ vars) (z ∷ values) = ap (λ x. value_line b z ++ x) (values_are vars values)
