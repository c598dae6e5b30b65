-- A number after a word: what is read is spelled so, and what is spelled so is read.
use Rattle.std.proofs.Common.{◌≡◌, ℕ, ◌^◌, false, List, ◌++◌, Some, ap, ◌∙◌}
use Rattle.std.specs.Prelude.{decimal}
use Rattle.mm_num.proofs.OptionLaws.{bind_some}
use Rattle.cert_text.specs.Reading.{after, number_at}
use Rattle.cert_text.proofs.WordLaws.{after_takes, after_again}
use Rattle.cert_text.proofs.NumberLaws.{begins_digit, number_takes, number_again}
use Rattle.report_text.specs.Line.{IsFree}
use Rattle.report_text.specs.machine.Reading.{number_after}
use Rattle.report_text.proofs.PeelLaws.{free}

pub number_after_takes : (word bytes : List ℕ) (n : ℕ) (rest : List ℕ) → number_after word bytes ≡ Some (n, rest) → (bytes ≡ word ++ (decimal n ++ rest)) × IsFree n
number_after_takes word bytes n rest e =
    let w = bind_some (after word bytes) (λ rest. number_at (2 ^ 64) rest) (n, rest) e in
    let t = number_takes (2 ^ 64) w.0 n rest free w.2 in
    (after_takes word bytes w.0 w.1 ∙ ap (λ b. word ++ b) t.text, t.below)

pub number_after_again : (word : List ℕ) (n : ℕ) (rest : List ℕ) → IsFree n → begins_digit rest ≡ false → number_after word (word ++ (decimal n ++ rest)) ≡ Some (n, rest)
number_after_again word n rest small stop = rw (after_again word (decimal n ++ rest)) (number_again (2 ^ 64) n rest free small stop)
