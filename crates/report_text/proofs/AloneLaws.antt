-- A line at the front of bytes is the only one of its kind there.
use Rattle.std.proofs.Common.{◌≡◌, ℕ, suc, ◌<◌, ◌^◌, ℤ, false, pos, negsuc, List, [], ◌∷◌, ◌++◌, Option, Some, None, inl, inr, refl, sym, ap, subst, ◌∙◌, append_assoc, arith}
use Rattle.std.specs.Prelude.{codes, decimal}
use Rattle.std.specs.Fmt.{signed_decimal}
use Rattle.std.proofs.lemmas.List.{append_cancel_left, append_cancel_right}
use Rattle.std.proofs.lemmas.Option.{some_pair_parts, none-some}
use Rattle.mm_num.specs.Small.{IsSmall}
use Rattle.cert_kit.specs.declared.row.PRow.{PRow}
use Rattle.cert_kit.specs.declared.cert.Cert.{Cert}
use Rattle.cert_text.specs.Reading.{number_at, row_at, cert_line_at}
use Rattle.cert_text.proofs.NumberLaws.{small, begins_digit, number_again}
use Rattle.cert_text.proofs.RowLaws.{row_again}
use Rattle.cert_text.proofs.CertLaws.{cert_line_again}
use Rattle.clause_engine.specs.declared.outcome.Why.{Why}
use Rattle.clause_engine.specs.declared.outcome.Why.TheVariants as whys
use Rattle.goal_ast.specs.declared.term.Sort.{Sort}
use Rattle.goal_ast.specs.declared.term.Sort.TheVariants as sorts
use Rattle.goal_ast.specs.declared.goal.Bound.{Bound}
use Rattle.goal_ast.specs.declared.goal.Goal.{Goal}
use Rattle.goal_ast.specs.declared.goal.Mode.{Mode}
use Rattle.goal_ast.specs.declared.goal.Mode.TheVariants.{Lia, Nia}
use Rattle.goal_ast.specs.declared.goal.Name.{Name}
use Rattle.goal_sort.specs.IsSorted.{IsSorted}
use Rattle.goal_sort.proofs.AgainLaws.{one_sorting}
use Rattle.goal_text.specs.Files.{Reads}
use Rattle.goal_text.proofs.FileLaws.{one_file}
use Rattle.goal_print.specs.Text.{goal_text, value_text}
use Rattle.goal_print.specs.ReadsBack.{mode_text, file_text, alone}
use Rattle.goal_serve.specs.declared.answers.Kind.{Kind}
use Rattle.goal_serve.specs.declared.answers.Kind.TheVariants as kinds
use Rattle.goal_serve.specs.declared.answers.Origin.{Origin}
use Rattle.goal_serve.specs.declared.answers.Origin.TheVariants as origins
use Rattle.goal_serve.specs.Line.{Line, Session, Asked, Proved, Clause, Row, Certificate, Value, Unsettled, Oversize, IllSorted, Cache, line_text, asked_text, why_text}
use Rattle.report_text.specs.declared.call.Call.{Call}
use Rattle.report_text.specs.declared.call.Call.TheVariants.{Find, Store}
use Rattle.report_text.specs.Line.{IsFree, IsValue, IsText, IsAsked, IsPlain, IsCall, IsHit, hit_text, asker_text, call_text}
use Rattle.report_text.proofs.GoalLineLaws.{goal_on_line}
use Rattle.report_text.proofs.PartLaws.{alone_same}
use Rattle.report_text.proofs.ValueLaws.{minus_none}
use Rattle.report_text.proofs.PeelLaws.{number_line, to_feed, to_end, no_feed_joined, name_no_feed, same_length, apart}

-- two lines at the front of one text are the same
abbrev pub Same : Line → Line → Type 0
Same l m = (a b : List ℕ) → IsPlain l → IsPlain m → line_text l ++ a ≡ line_text m ++ b → (l ≡ m) × (a ≡ b)

-- ---- numbers alone

-- a word, a number and the end of the line
numbered : (word : List ℕ) (m n : ℕ) (a b : List ℕ) → IsFree m → IsFree n → (word ++ (decimal m ++ codes "\n")) ++ a ≡ (word ++ (decimal n ++ codes "\n")) ++ b
    → (m ≡ n) × (a ≡ b)
numbered word m n a b i j e =
    let p = number_line word m n (codes "\n") (codes "\n") a b i j refl refl e in
    (p.0, append_cancel_left (codes "\n") a b p.1)

pub same_proved : (m n : ℕ) → Same (Proved m) (Proved n)
same_proved m n a b i j e = let p = numbered (codes "proved ") m n a b i j e in (ap Proved p.0, p.1)

pub same_place : (m n : ℕ) → Same (IllSorted m) (IllSorted n)
same_place m n a b i j e = let p = numbered (codes "ill-sorted ") m n a b i j e in (ap IllSorted p.0, p.1)

pub same_unsettled : (m n : ℕ) (w v : Why) → Same (Unsettled m w) (Unsettled n v)
same_unsettled m n w v a b i j e =
    let p = number_line (codes "unsettled ") m n (codes " " ++ (why_text w ++ codes "\n")) (codes " " ++ (why_text v ++ codes "\n")) a b i j refl refl e in
    let q = by_why w v a b p.1 in
    (ap (λ k. Unsettled k w) p.0 ∙ ap (Unsettled n) q.0, q.1)
  where
    by_why : (w v : Why) (a b : List ℕ) → (codes " " ++ (why_text w ++ codes "\n")) ++ a ≡ (codes " " ++ (why_text v ++ codes "\n")) ++ b → (w ≡ v) × (a ≡ b)
    by_why whys.Grey whys.Grey a b e = (refl, append_cancel_left (codes " grey\n") a b e)
    by_why whys.Grey whys.Over a b e = apart 1 _ _ e refl
    by_why whys.Over whys.Grey a b e = apart 1 _ _ e refl
    by_why whys.Over whys.Over a b e = (refl, append_cancel_left (codes " over\n") a b e)

pub same_kind : (k l : Kind) → Same (Oversize k) (Oversize l)
same_kind kinds.Weight kinds.Weight a b i j e = (refl, append_cancel_left (codes "oversize weight\n") a b e)
same_kind kinds.Weight kinds.Spread a b i j e = apart 9 _ _ e refl
same_kind kinds.Weight kinds.Degree a b i j e = apart 9 _ _ e refl
same_kind kinds.Weight (kinds.Splits n) a b i j e = apart 9 _ _ e refl
same_kind kinds.Spread kinds.Weight a b i j e = apart 9 _ _ e refl
same_kind kinds.Spread kinds.Spread a b i j e = (refl, append_cancel_left (codes "oversize spread\n") a b e)
same_kind kinds.Spread kinds.Degree a b i j e = apart 9 _ _ e refl
same_kind kinds.Spread (kinds.Splits n) a b i j e = apart 11 _ _ e refl
same_kind kinds.Degree kinds.Weight a b i j e = apart 9 _ _ e refl
same_kind kinds.Degree kinds.Spread a b i j e = apart 9 _ _ e refl
same_kind kinds.Degree kinds.Degree a b i j e = (refl, append_cancel_left (codes "oversize degree\n") a b e)
same_kind kinds.Degree (kinds.Splits n) a b i j e = apart 9 _ _ e refl
same_kind (kinds.Splits m) kinds.Weight a b i j e = apart 9 _ _ e refl
same_kind (kinds.Splits m) kinds.Spread a b i j e = apart 11 _ _ e refl
same_kind (kinds.Splits m) kinds.Degree a b i j e = apart 9 _ _ e refl
same_kind (kinds.Splits m) (kinds.Splits n) a b i j e =
    let p = numbered (codes "oversize splits ") m n a b i j (sym (regroup m a) ∙ e ∙ regroup n b) in
    (ap (λ k. Oversize (kinds.Splits k)) p.0, p.1)
  where
    regroup : (k : ℕ) (a : List ℕ) → line_text (Oversize (kinds.Splits k)) ++ a ≡ (codes "oversize splits " ++ (decimal k ++ codes "\n")) ++ a
    regroup k a = refl

-- three numbers
three : (word second third : List ℕ) (m n p q s t : ℕ) (a b : List ℕ) → IsFree m × IsFree p × IsFree s → IsFree n × IsFree q × IsFree t
    → (word ++ (decimal m ++ (codes " stored " ++ (decimal p ++ (codes " saved " ++ (decimal s ++ codes "\n")))))) ++ a
    ≡ (word ++ (decimal n ++ (codes " stored " ++ (decimal q ++ (codes " saved " ++ (decimal t ++ codes "\n")))))) ++ b
    → (m ≡ n) × (p ≡ q) × (s ≡ t) × (a ≡ b)
three word second third m n p q s t a b i j e =
    let x =
    number_line word m n (codes " stored " ++ (decimal p ++ (codes " saved " ++ (decimal s ++ codes "\n"))))
    (codes " stored " ++ (decimal q ++ (codes " saved " ++ (decimal t ++ codes "\n")))) a b i.0 j.0 refl refl e in
    let y = number_line (codes " stored ") p q (codes " saved " ++ (decimal s ++ codes "\n")) (codes " saved " ++ (decimal t ++ codes "\n")) a b i.1 j.1 refl refl x.1 in
    let z = numbered (codes " saved ") s t a b i.2 j.2 y.1 in
    (x.0, y.0, z.0, z.1)

pub same_cache : (k l : Mode) (m n p q s t : ℕ) → Same (Cache k m p s) (Cache l n q t)
same_cache Lia Lia m n p q s t a b i j e = let x = three (codes "cache lia opened ") [] [] m n p q s t a b i j e in (cc, x.3)
same_cache Lia Nia m n p q s t a b i j e = apart 6 _ _ e refl
same_cache Nia Lia m n p q s t a b i j e = apart 6 _ _ e refl
same_cache Nia Nia m n p q s t a b i j e = let x = three (codes "cache nia opened ") [] [] m n p q s t a b i j e in (cc, x.3)

-- ---- names

same_name : (x y : Name) → x.bytes ≡ y.bytes → x ≡ y
same_name x y e = ap (λ (bytes : List ℕ). let n : Name = record { bytes = bytes } in n) e

pub same_session : (m n : ℕ) (x y : Name) → Same (Session m x) (Session n y)
same_session m n x y a b i j e =
    let p = number_line (codes "session ") m n (codes " " ++ (x.bytes ++ codes "\n")) (codes " " ++ (y.bytes ++ codes "\n")) a b i.0 j.0 refl refl e in
    let q =
    to_end x.bytes y.bytes a b (name_no_feed x.bytes i.1) (name_no_feed y.bytes j.1)
    (append_cancel_left (codes " ") ((x.bytes ++ codes "\n") ++ a) ((y.bytes ++ codes "\n") ++ b) p.1) in
    (ap (λ k. Session k x) p.0 ∙ ap (Session n) (same_name x y q.0), q.1)

pub same_clause : (m n : ℕ) (x y : List ℕ) (o p : Origin) → Same (Clause m x o) (Clause n y p)
same_clause m n x y origins.New origins.New a b i j e =
    let end = codes " new\n" in
    let p = number_line (codes "clause ") m n (codes " " ++ (x ++ end)) (codes " " ++ (y ++ end)) a b i.0 j.0 refl refl e in
    let text : (x ++ end) ++ a ≡ (y ++ end) ++ b = append_cancel_left (codes " ") ((x ++ end) ++ a) ((y ++ end) ++ b) p.1 in
    let q = same_length x y (end ++ a) (end ++ b) (i.1.sixteen ∙ sym j.1.sixteen) (sym (append_assoc x end a) ∙ text ∙ append_assoc y end b) in
    (ap (λ k. Clause k x origins.New) p.0 ∙ ap (λ z. Clause n z origins.New) q.0, append_cancel_left end a b q.1)

-- ---- rows and certificates

pub same_row : (r s : PRow) → Same (Row r) (Row s)
same_row r s a b i j e =
    let p = some_pair_parts r s a b (sym (row_again r a i) ∙ ap row_at e ∙ row_again s b j) in
    (ap Row p.0, p.1)

pub same_cert : (c d : Cert) → Same (Certificate c) (Certificate d)
same_cert c d a b i j e =
    let p = some_pair_parts c d a b (sym (cert_line_again c a i) ∙ ap cert_line_at e ∙ cert_line_again d b j) in
    (ap Certificate p.0, p.1)

-- ---- goals

same_goal : (mode : Mode) (g h : Goal) → IsText mode g → IsText mode h → goal_text g ≡ goal_text h → g ≡ h
same_goal mode g h i j e =
    let modes : g.mode ≡ h.mode = i.moded ∙ sym j.moded in
    let texts : file_text g ≡ file_text h =
    ap (λ t. codes "Session a. Goal " ++ (t ++ (codes ". " ++ (mode_text g.mode ++ codes ".")))) e ∙ ap
    (λ m. codes "Session a. Goal " ++ (goal_text h ++ (codes ". " ++ (mode_text m ++ codes ".")))) modes in
    let other : Reads (file_text g) (alone j.reads.raw) = subst (λ t. Reads t (alone j.reads.raw)) (sym texts) j.reads.reads in
    let raws : i.reads.raw ≡ j.reads.raw = alone_same i.reads.raw j.reads.raw (one_file i.reads.reads other) in
    one_sorting j.reads.raw g h (subst (λ r. IsSorted r g) raws i.reads.sorted) j.reads.sorted

same_text : (mode : Mode) (g h : Option Goal) (a b : List ℕ) → IsAsked mode g → IsAsked mode h → asked_text g ++ a ≡ asked_text h ++ b → (g ≡ h) × (a ≡ b)
same_text mode None None a b i j e = (refl, append_cancel_left (codes "\n") a b e)
same_text mode None (Some h) a b i j e = apart 0 _ _ e refl
same_text mode (Some g) None a b i j e = apart 0 _ _ e refl
same_text mode (Some g) (Some h) a b i j e =
    let text : (goal_text g ++ codes ".\n") ++ a ≡ (goal_text h ++ codes ".\n") ++ b =
    append_cancel_left (codes " ") ((goal_text g ++ codes ".\n") ++ a) ((goal_text h ++ codes ".\n") ++ b) e in
    let p =
    to_feed (goal_text g ++ codes ".") (goal_text h ++ codes ".") a b (no_feed_joined (goal_text g) (codes ".") (goal_on_line g i.reads) refl)
    (no_feed_joined (goal_text h) (codes ".") (goal_on_line h j.reads) refl)
    (sym (regroup (goal_text g) a) ∙ text ∙ regroup (goal_text h) b) in
    (ap (λ g. Some g) (same_goal mode g h i j (append_cancel_right (goal_text g) (goal_text h) (codes ".") p.0)), p.1)
  where
    regroup : (t a : List ℕ) → (t ++ codes ".\n") ++ a ≡ (t ++ codes ".") ++ 10 ∷ a
    regroup t a = append_assoc t (codes ".\n") a ∙ sym (append_assoc t (codes ".") (10 ∷ a))

pub same_asked : (m n : ℕ) (k l : Mode) (g h : Option Goal) → Same (Asked m k g) (Asked n l h)
same_asked m n k l g h a b i j e =
    let p = number_line (codes "goal ") m n (codes " " ++ (mode_text k ++ asked_text g)) (codes " " ++ (mode_text l ++ asked_text h)) a b i.0 j.0 refl refl e in
    let q = by_mode k l i.1 j.1 p.1 in
    (ap (λ m. Asked m k g) p.0 ∙ ap (λ k. Asked n k g) q.0 ∙ ap (Asked n l) q.1, q.2)
  where
    by_mode : (k l : Mode) → IsAsked k g → IsAsked l h → (codes " " ++ (mode_text k ++ asked_text g)) ++ a ≡ (codes " " ++ (mode_text l ++ asked_text h)) ++ b
        → (k ≡ l) × (g ≡ h) × (a ≡ b)
    by_mode Lia Lia i j e = let t = same_text Lia g h a b i j (append_cancel_left (codes " lia") (asked_text g ++ a) (asked_text h ++ b) e) in (refl, t.0, t.1)
    by_mode Lia Nia i j e = apart 1 _ _ e refl
    by_mode Nia Lia i j e = apart 1 _ _ e refl
    by_mode Nia Nia i j e = let t = same_text Nia g h a b i j (append_cancel_left (codes " nia") (asked_text g ++ a) (asked_text h ++ b) e) in (refl, t.0, t.1)

-- ---- values

abbrev SameValue : Sort → ℤ → ℤ → Type 0
SameValue s y z = (a b : List ℕ) → (value_text s y ++ codes "\n") ++ a ≡ (value_text s z ++ codes "\n") ++ b → (y ≡ z) × (a ≡ b)

by_bool : (P : ℤ → Type 0) → P (pos 0) → P (pos 1) → (z : ℤ) → IsValue sorts.Bool z → P z
by_bool P zero_holds one_holds z (inl e) = subst P (sym e) zero_holds
by_bool P zero_holds one_holds z (inr e) = subst P (sym e) one_holds

same_bool : (y z : ℤ) → IsValue sorts.Bool y → IsValue sorts.Bool z → SameValue sorts.Bool y z
same_bool y z i j = by_bool (λ y. SameValue sorts.Bool y z)
    (by_bool (SameValue sorts.Bool (pos 0)) (λ a b e. (refl, append_cancel_left (codes "false\n") a b e)) (λ a b e. apart 0 _ _ e refl) z j)
    (by_bool (SameValue sorts.Bool (pos 1)) (λ a b e. apart 0 _ _ e refl) (λ a b e. (refl, append_cancel_left (codes "true\n") a b e)) z j) y i

digits_same : (m n : ℕ) (a b : List ℕ) → m < 2 ^ 126 → n < 2 ^ 126 → (decimal m ++ codes "\n") ++ a ≡ (decimal n ++ codes "\n") ++ b → (m ≡ n) × (a ≡ b)
digits_same m n a b i j e =
    let text : decimal m ++ 10 ∷ a ≡ decimal n ++ 10 ∷ b = sym (append_assoc (decimal m) (codes "\n") a) ∙ e ∙ append_assoc (decimal n) (codes "\n") b in
    let p =
    some_pair_parts m n (10 ∷ a) (10 ∷ b)
    (sym (number_again (2 ^ 126) m (10 ∷ a) small i refl) ∙ ap (number_at (2 ^ 126)) text ∙ number_again (2 ^ 126) n (10 ∷ b) small j refl) in
    (p.0, append_cancel_left (codes "\n") a b p.1)

-- no number begins with a minus
no_minus : {A : Type 0} (m : ℕ) (x y : List ℕ) → m < 2 ^ 126 → (decimal m ++ codes "\n") ++ x ≡ 45 ∷ y → A
no_minus m x y i e =
    let read : number_at (2 ^ 126) (decimal m ++ 10 ∷ x) ≡ Some (m, 10 ∷ x) = number_again (2 ^ 126) m (10 ∷ x) small i refl in
    let text : decimal m ++ 10 ∷ x ≡ 45 ∷ y = sym (append_assoc (decimal m) (codes "\n") x) ∙ e in
    absurd (none-some (m, 10 ∷ x) (sym (minus_none y) ∙ sym (ap (number_at (2 ^ 126)) text) ∙ read))

same_number : (y z : ℤ) (a b : List ℕ) → IsSmall y → IsSmall z → (signed_decimal y ++ codes "\n") ++ a ≡ (signed_decimal z ++ codes "\n") ++ b → (y ≡ z) × (a ≡ b)
same_number (pos m) (pos n) a b i j e = let p = digits_same m n a b i j e in (ap (λ k. pos k) p.0, p.1)
same_number (pos m) (negsuc n) a b i j e = no_minus m a ((decimal (suc n) ++ codes "\n") ++ b) i e
same_number (negsuc m) (pos n) a b i j e = no_minus n b ((decimal (suc m) ++ codes "\n") ++ a) j (sym e)
same_number (negsuc m) (negsuc n) a b i j e =
    let p = digits_same (suc m) (suc n) a b i j (append_cancel_left (codes "-") ((decimal (suc m) ++ codes "\n") ++ a) ((decimal (suc n) ++ codes "\n") ++ b) e) in
    let q : m ≡ n = omega (arith, p.0) in
    (ap (λ k. negsuc k) q, p.1)

by_sort : (s : Sort) (y z : ℤ) → IsValue s y → IsValue s z → SameValue s y z
by_sort sorts.Bool y z i j = same_bool y z i j
by_sort sorts.Int y z i j = λ a b e. same_number y z a b i j e
by_sort sorts.Bin y z i j = λ a b e. same_number y z a b i j e
by_sort sorts.Nat y z i j = λ a b e. same_number y z a b i j e
by_sort sorts.Pos y z i j = λ a b e. same_number y z a b i j e

pub same_value : (bound : Bound) (y z : ℤ) → Same (Value bound y) (Value bound z)
same_value bound y z a b i j e =
    let name = bound.name.bytes in
    let text : codes " := " ++ (value_text bound.sort y ++ codes "\n") ++ a ≡ codes " := " ++ (value_text bound.sort z ++ codes "\n") ++ b =
    append_cancel_left name _ _
    (sym (append_assoc name (codes " := " ++ (value_text bound.sort y ++ codes "\n")) a) ∙ e ∙ append_assoc name
    (codes " := " ++ (value_text bound.sort z ++ codes "\n")) b) in
    let p = by_sort bound.sort y z i j a b (append_cancel_left (codes " := ") _ _ text) in
    (ap (Value bound) p.0, p.1)

-- ---- calls

same_asker : (word : List ℕ) (s g k p h l : ℕ) (t u a b : List ℕ) → IsFree s × IsFree g × IsFree k → IsFree p × IsFree h × IsFree l → begins_digit (t ++ a) ≡ false
    → begins_digit (u ++ b) ≡ false
    → (word ++ asker_text s g k t) ++ a ≡ (word ++ asker_text p h l u) ++ b → (s ≡ p) × (g ≡ h) × (k ≡ l) × (t ++ a ≡ u ++ b)
same_asker word s g k p h l t u a b i j stop other e =
    let x =
    number_line word s p (codes " " ++ (decimal g ++ (codes " " ++ (decimal k ++ t))))
    (codes " " ++ (decimal h ++ (codes " " ++ (decimal l ++ u)))) a b i.0 j.0 refl refl e in
    let y = number_line (codes " ") g h (codes " " ++ (decimal k ++ t)) (codes " " ++ (decimal l ++ u)) a b i.1 j.1 refl refl x.1 in
    let z = number_line (codes " ") k l t u a b i.2 j.2 stop other y.1 in
    (x.0, y.0, z.0, z.1)

hit_stops : (h : Option ℕ) (a : List ℕ) → begins_digit (hit_text h ++ a) ≡ false
hit_stops None a = refl
hit_stops (Some p) a = refl

same_hit : (h k : Option ℕ) (a b : List ℕ) → IsHit h → IsHit k → hit_text h ++ a ≡ hit_text k ++ b → (h ≡ k) × (a ≡ b)
same_hit None None a b i j e = (refl, append_cancel_left (codes " miss\n") a b e)
same_hit None (Some q) a b i j e = apart 1 _ _ e refl
same_hit (Some p) None a b i j e = apart 1 _ _ e refl
same_hit (Some p) (Some q) a b i j e = let x = numbered (codes " hit ") p q a b i j e in (ap (λ k. Some k) x.0, x.1)

pub same_call : (c d : Call) (a b : List ℕ) → IsCall c → IsCall d → call_text c ++ a ≡ call_text d ++ b → (c ≡ d) × (a ≡ b)
same_call (Find s g k f h) (Find p q l r i) a b is other e =
    let x =
    same_asker (codes "find ") s g k p q l (codes " front " ++ (decimal f ++ hit_text h)) (codes " front " ++ (decimal r ++ hit_text i)) a b (is.0, is.1, is.2)
    (other.0, other.1, other.2) refl refl e in
    let y = number_line (codes " front ") f r (hit_text h) (hit_text i) a b is.3 other.3 (hit_stops h a) (hit_stops i b) x.3 in
    let z = same_hit h i a b is.4 other.4 y.1 in
    (cc, z.1)
same_call (Find s g k f h) (Store p q l r) a b is other e = apart 0 _ _ e refl
same_call (Store s g k f) (Find p q l r i) a b is other e = apart 0 _ _ e refl
same_call (Store s g k f) (Store p q l r) a b is other e =
    let x =
    same_asker (codes "store ") s g k p q l (codes " place " ++ (decimal f ++ codes "\n")) (codes " place " ++ (decimal r ++ codes "\n")) a b (is.0, is.1, is.2)
    (other.0, other.1, other.2) refl refl e in
    let y = numbered (codes " place ") f r a b is.3 other.3 x.3 in
    (cc, y.1)
