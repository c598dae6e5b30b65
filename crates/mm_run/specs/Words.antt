-- What the words of the command line ask for.
use Rattle.std.specs.Prelude.{◌≡◌, ℕ, ◌≤◌, ◌^◌, List, [], ◌∷◌, codes, decimal, ◌⊎◌}
use Rattle.mm_run.specs.declared.words.Command.{Command}
use Rattle.mm_run.specs.declared.words.Command.TheVariants.{Check, Prove, Recheck}

-- a number of turns from 1 to 65,536, in digits without a leading zero
abbrev pub NamesTurns : List ℕ → ℕ → Type 0
NamesTurns word n = (word ≡ decimal n) × (1 ≤ n) × (n ≤ 65536)

-- `check`; `recheck`; `prove`, with 20,000 turns; `prove --turns N`
abbrev pub Asks : List (List ℕ) → Command → Type 0
Asks words Check = words ≡ codes "check" ∷ []
Asks words Recheck = words ≡ codes "recheck" ∷ []
Asks words (Prove n) = ((words ≡ codes "prove" ∷ []) × (n ≡ 20000))
    ⊎ ((number : List ℕ) × (words ≡ codes "prove" ∷ codes "--turns" ∷ number ∷ []) × NamesTurns number n)

-- the most bytes of input that the command reads: 256 MiB for rows and a certificate and for a report, 16 MiB
-- for goals
abbrev pub input_limit : Command → ℕ
input_limit Check = 2 ^ 28
input_limit Recheck = 2 ^ 28
input_limit (Prove n) = 2 ^ 24
