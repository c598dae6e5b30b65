-- The lines of goals and sessions, one after the other.
use Rattle.std.proofs.Common.{◌≡◌, ℕ, ◌+◌, ◌<◌, List, [], ◌∷◌, ◌++◌, length, drop, get_or, sym, ap, ◌∙◌}
use Rattle.std.proofs.lemmas.List.{append_assoc}
use Rattle.std.proofs.lemmas.Grind.{flat_map-append}
use Rattle.std.proofs.Math.Seq.{drop-cons}
use Rattle.std.proofs.Math.Numerals.{add-one}
use Rattle.goal_sort.specs.declared.raw.RawGoal.{RawGoal}
use Rattle.goal_sort.specs.declared.raw.RawSession.{RawSession}
use Rattle.goal_serve.specs.declared.answers.Answer.{Answer}
use Rattle.goal_serve.specs.Line.{Line, Begin, End, line_text, lines_text}
use Rattle.session_serve.specs.Report.{goal_lines, goals_lines, session_lines, sessions_lines}

-- the next piece is out
piece_out : (out piece rest more all : List ℕ) → more ≡ out ++ piece → out ++ (piece ++ rest) ≡ all → more ++ rest ≡ all
piece_out out piece rest more all e f = ap (λ x. x ++ rest) e ∙ append_assoc out piece rest ∙ f

next_left : {A : Type 0} (xs : List A) (n : ℕ) (d : A) → n < length xs → drop n xs ≡ get_or xs n d ∷ drop (n + 1) xs
next_left xs n d lt = rw add-one (drop-cons xs n d lt)

goals_from : (raws : List RawGoal) (answers : List Answer) (n : ℕ) (r : RawGoal) (a : Answer) → n < length raws → n < length answers
    → lines_text (goals_lines n (drop n raws) (drop n answers)) ≡ lines_text (goal_lines n (get_or raws n r) (get_or answers n a)) ++ lines_text (goals_lines (n + 1) (drop (n + 1) raws) (drop (n + 1) answers))
goals_from raws answers n r a lr la =
    ap (λ xs. lines_text (goals_lines n xs (drop n answers))) (next_left raws n r lr)
    ∙ ap (λ xs. lines_text (goals_lines n (get_or raws n r ∷ drop (n + 1) raws) xs)) (next_left answers n a la)
    ∙ flat_map-append line_text (goal_lines n (get_or raws n r) (get_or answers n a)) (goals_lines (n + 1) (drop (n + 1) raws) (drop (n + 1) answers))

-- a further goal is out
pub goal_out : (raws : List RawGoal) (answers : List Answer) (n : ℕ) (r : RawGoal) (a : Answer) (out more all : List ℕ) → n < length raws → n < length answers
    → more ≡ out ++ lines_text (goal_lines n (get_or raws n r) (get_or answers n a)) → out ++ lines_text (goals_lines n (drop n raws) (drop n answers)) ≡ all
    → more ++ lines_text (goals_lines (n + 1) (drop (n + 1) raws) (drop (n + 1) answers)) ≡ all
goal_out raws answers n r a out more all lr la e f =
    piece_out out (lines_text (goal_lines n (get_or raws n r) (get_or answers n a))) (lines_text (goals_lines (n + 1) (drop (n + 1) raws) (drop (n + 1) answers))) more all e (sym (ap (λ x. out ++ x) (goals_from raws answers n r a lr la)) ∙ f)

sessions_from : (ss : List RawSession) (answers : List (List Answer)) (n : ℕ) (s : RawSession) (a : List Answer) → n < length ss → n < length answers
    → lines_text (sessions_lines n (drop n ss) (drop n answers)) ≡ lines_text (session_lines n (get_or ss n s) (get_or answers n a)) ++ lines_text (sessions_lines (n + 1) (drop (n + 1) ss) (drop (n + 1) answers))
sessions_from ss answers n s a ls la =
    ap (λ xs. lines_text (sessions_lines n xs (drop n answers))) (next_left ss n s ls)
    ∙ ap (λ xs. lines_text (sessions_lines n (get_or ss n s ∷ drop (n + 1) ss) xs)) (next_left answers n a la)
    ∙ flat_map-append line_text (session_lines n (get_or ss n s) (get_or answers n a)) (sessions_lines (n + 1) (drop (n + 1) ss) (drop (n + 1) answers))

-- a further session is out
pub session_out : (ss : List RawSession) (answers : List (List Answer)) (n : ℕ) (s : RawSession) (a : List Answer) (out more all : List ℕ) → n < length ss → n < length answers
    → more ≡ out ++ lines_text (session_lines n (get_or ss n s) (get_or answers n a)) → out ++ lines_text (sessions_lines n (drop n ss) (drop n answers)) ≡ all
    → more ++ lines_text (sessions_lines (n + 1) (drop (n + 1) ss) (drop (n + 1) answers)) ≡ all
session_out ss answers n s a out more all ls la e f =
    piece_out out (lines_text (session_lines n (get_or ss n s) (get_or answers n a))) (lines_text (sessions_lines (n + 1) (drop (n + 1) ss) (drop (n + 1) answers))) more all e (sym (ap (λ x. out ++ x) (sessions_from ss answers n s a ls la)) ∙ f)

-- ---- the whole report

grouped : (a b c d e : List ℕ) → (((a ++ b) ++ c) ++ d) ++ e ≡ a ++ (b ++ (c ++ (d ++ e)))
grouped a b c d e = append_assoc ((a ++ b) ++ c) d e ∙ append_assoc (a ++ b) c (d ++ e) ∙ append_assoc a b (c ++ (d ++ e))

-- the first line, those of the sessions, one for each cache, and the last
pub report_out : (sessions : List Line) (lia nia : Line) (p q r s t : List ℕ) → p ≡ line_text Begin → q ≡ p ++ lines_text sessions → r ≡ q ++ line_text lia → s ≡ r ++ line_text nia → t ≡ s ++ line_text End
    → t ≡ lines_text (Begin ∷ (sessions ++ lia ∷ nia ∷ End ∷ []))
report_out sessions lia nia p q r s t e f g h i =
    i ∙ ap (λ x. x ++ line_text End) (h ∙ ap (λ x. x ++ line_text nia) (g ∙ ap (λ x. x ++ line_text lia) (f ∙ ap (λ x. x ++ lines_text sessions) e)))
    ∙ grouped (line_text Begin) (lines_text sessions) (line_text lia) (line_text nia) (line_text End)
    ∙ ap (λ x. line_text Begin ++ x) (sym (flat_map-append line_text sessions (lia ∷ nia ∷ End ∷ [])))
