-- Steps of reading a line: a word or a number, and what stands after it.
use Rattle.std.proofs.Common.{◌≡◌, ◌≢◌, ℕ, false, List, ◌++◌, Option, Some, None, inl, inr, ◌⊎◌, refl, sym, ap, ◌∙◌, append_assoc}
use Rattle.std.specs.Prelude.{decimal}
use Rattle.std.proofs.lemmas.Option.{some_pair_parts, none-some}
use Rattle.mm_num.specs.Option.{◌>>=◌}
use Rattle.mm_num.proofs.OptionLaws.{bind_some}
use Rattle.cert_text.specs.Reading.{after}
use Rattle.cert_text.proofs.WordLaws.{after_takes, after_again}
use Rattle.cert_text.proofs.NumberLaws.{begins_digit}
use Rattle.report_text.specs.Line.{ReportLine, IsFree, IsReportLine, report_line}
use Rattle.report_text.specs.declared.lines.Line.{Line}
use Rattle.report_text.specs.machine.Reading.{number_after, first_of, word_at}
use Rattle.report_text.specs.machine.Reads.{ReadsLine, Reads}
use Rattle.report_text.proofs.AfterLaws.{number_after_takes, number_after_again}

-- ---- what is read, step by step

pub bind_on : {A B : Type 0} (o : Option A) (f : A → Option B) (x : A) (y : Option B) → o ≡ Some x → f x ≡ y → (o >>= f) ≡ y
bind_on o f x y e g = ap (λ o. o >>= f) e ∙ g

-- a number after a word, and then a text
pub number_then : (word t bytes rest : List ℕ) (n : ℕ) (r : List ℕ) → number_after word bytes ≡ Some (n, r) → r ≡ t ++ rest
    → (bytes ≡ (word ++ (decimal n ++ t)) ++ rest) × IsFree n
number_then word t bytes rest n r e f =
    let p = number_after_takes word bytes n r e in
    (p.0 ∙ ap (λ b. word ++ (decimal n ++ b)) f ∙ ap (λ b. word ++ b) (sym (append_assoc (decimal n) t rest)) ∙ sym (append_assoc word (decimal n ++ t) rest), p.1)

pub number_read : (word : List ℕ) (n : ℕ) (t rest : List ℕ) → IsFree n → begins_digit (t ++ rest) ≡ false
    → number_after word ((word ++ (decimal n ++ t)) ++ rest) ≡ Some (n, t ++ rest)
number_read word n t rest small stop =
    ap (number_after word) (append_assoc word (decimal n ++ t) rest ∙ ap (λ b. word ++ b) (append_assoc (decimal n) t rest)) ∙ number_after_again word n
    (t ++ rest) small stop

-- a word, and then a text
pub word_then : (word t bytes rest r : List ℕ) → after word bytes ≡ Some r → r ≡ t ++ rest → bytes ≡ (word ++ t) ++ rest
word_then word t bytes rest r e f = after_takes word bytes r e ∙ ap (λ b. word ++ b) f ∙ sym (append_assoc word t rest)

pub word_read : (word t rest : List ℕ) → after word ((word ++ t) ++ rest) ≡ Some (t ++ rest)
word_read word t rest = ap (after word) (append_assoc word t rest) ∙ after_again word (t ++ rest)

-- a word, and then nothing
pub word_last : (word bytes r rest : List ℕ) → after word bytes ≡ Some r → r ≡ rest → bytes ≡ word ++ rest
word_last word bytes r rest e f = after_takes word bytes r e ∙ ap (λ b. word ++ b) f

pub word_at_takes : {A : Type 0} (word : List ℕ) (x : A) (bytes : List ℕ) (y : A) (rest : List ℕ) → word_at word x bytes ≡ Some (y, rest)
    → (y ≡ x) × (bytes ≡ word ++ rest)
word_at_takes word x bytes y rest e =
    let w = bind_some (after word bytes) (λ rest. Some (x, rest)) (y, rest) e in
    let p = some_pair_parts x y w.0 rest w.2 in
    (sym p.0, word_last word bytes w.0 rest w.1 p.1)

pub word_at_again : {A : Type 0} (word : List ℕ) (x : A) (rest : List ℕ) → word_at word x (word ++ rest) ≡ Some (x, rest)
word_at_again word x rest = bind_on (after word (word ++ rest)) (λ rest. Some (x, rest)) rest (Some (x, rest)) (after_again word rest) refl

-- ---- the first of two

pub first_some : {A : Type 0} (o p : Option A) (x : A) → first_of o p ≡ Some x → (o ≡ Some x) ⊎ (p ≡ Some x)
first_some (Some y) p x e = inl e
first_some None p x e = inr e

pub first_none : {A : Type 0} (o p : Option A) → first_of o p ≡ None → (o ≡ None) × (p ≡ None)
first_none (Some y) p e = absurd cc
first_none None p e = (refl, e)

-- ---- lines

-- what was found by reading stands there, and what stands there is found
pub reads_by : (IsIt : ReportLine → Type 0) (bytes : List ℕ) (o : Option (Line × List ℕ))
    → ((l : Line) (rest : List ℕ) → o ≡ Some (l, rest) → ReadsLine IsIt bytes l rest)
    → ((line : ReportLine) (rest : List ℕ) → IsReportLine line → IsIt line → bytes ≡ report_line line ++ rest → o ≢ None) → Reads IsIt bytes o
reads_by IsIt bytes None takes again = λ line rest within is e. again line rest within is e refl
reads_by IsIt bytes (Some x) takes again = takes x.0 x.1 refl

-- where something is read, reading doesn't fail
pub found : {A : Type 0} (read : List ℕ → Option A) (bytes text : List ℕ) (x : A) → bytes ≡ text → read text ≡ Some x → read bytes ≢ None
found read bytes text x e again none = none-some x (sym none ∙ ap read e ∙ again)
