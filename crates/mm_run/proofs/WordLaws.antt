-- Words ask for one command, and for the same input.
use Rattle.std.specs.Prelude.{◌≡◌, ℕ, ◌≤◌, List, [], ◌∷◌, codes, decimal, ◌⊎◌, Result, Ok, refl}
use Rattle.std.proofs.Common.{sym, ◌∙◌, ap, inl, inr, arith, get_or}
use Rattle.std.specs.Str.Parse.{ParsesUnsigned}
use Rattle.std.proofs.lemmas.Fmt.{parse-decimal}
use Rattle.mm_run.specs.declared.words.Command.{Command}
use Rattle.mm_run.specs.declared.words.Command.TheVariants.{Check, Prove, Recheck}
use Rattle.mm_run.specs.Words.{NamesTurns, Asks, input_limit}

-- a word that is a number's digits is parsed as that number
pub parsed : {E : Type 0} (word : List ℕ) (n : ℕ) (r : Result ℕ E) → ParsesUnsigned 32 10 word r → NamesTurns word n → r ≡ Ok n
parsed word n r p h = parse-decimal 32 n word r (omega (arith, h.2)) (omega (arith, h.2)) h.0 p

-- the first byte of the first word
abbrev first_byte : List (List ℕ) → ℕ
first_byte words = get_or (get_or words 0 []) 0 0

differ : (first second : List ℕ) (more others : List (List ℕ)) → first ∷ more ≡ second ∷ others → get_or first 0 0 ≡ get_or second 0 0
differ first second more others e = ap first_byte e

pub check_is_not_prove : (words : List (List ℕ)) (n : ℕ) → Asks words Check → Asks words (Prove n) → ⊥
check_is_not_prove words n c (inl p) = let d = differ (codes "check") (codes "prove") [] [] (sym c ∙ p.0) in absurd (omega (arith, d))
check_is_not_prove words n c (inr p) = let d = differ (codes "check") (codes "prove") [] (codes "--turns" ∷ p.0 ∷ []) (sym c ∙ p.1) in absurd (omega (arith, d))

pub recheck_is_not_prove : (words : List (List ℕ)) (n : ℕ) → Asks words Recheck → Asks words (Prove n) → ⊥
recheck_is_not_prove words n c (inl p) = let d = differ (codes "recheck") (codes "prove") [] [] (sym c ∙ p.0) in absurd (omega (arith, d))
recheck_is_not_prove words n c (inr p) = let d = differ (codes "recheck") (codes "prove") [] (codes "--turns" ∷ p.0 ∷ []) (sym c ∙ p.1) in absurd (omega (arith, d))

check_is_not_recheck : (words : List (List ℕ)) → Asks words Check → Asks words Recheck → ⊥
check_is_not_recheck words c r = let d = differ (codes "check") (codes "recheck") [] [] (sym c ∙ r) in absurd (omega (arith, d))

-- what holds of each command of a kind holds of any that the words ask for
pub one_kind : (P : Command → Type 0) → ((n m : ℕ) → P (Prove n) → P (Prove m)) → (words : List (List ℕ)) (c d : Command) → Asks words c → Asks words d → P c → P d
one_kind P same words Check Check a b p = p
one_kind P same words Check (Prove n) a b p = absurd (check_is_not_prove words n a b)
one_kind P same words Check Recheck a b p = absurd (check_is_not_recheck words a b)
one_kind P same words (Prove n) Check a b p = absurd (check_is_not_prove words n b a)
one_kind P same words (Prove n) (Prove m) a b p = same n m p
one_kind P same words (Prove n) Recheck a b p = absurd (recheck_is_not_prove words n b a)
one_kind P same words Recheck Check a b p = absurd (check_is_not_recheck words b a)
one_kind P same words Recheck (Prove n) a b p = absurd (recheck_is_not_prove words n a b)
one_kind P same words Recheck Recheck a b p = p

-- the same words ask for as much input
pub one_limit : (words : List (List ℕ)) (c d : Command) → Asks words c → Asks words d → input_limit c ≡ input_limit d
one_limit words c d a b = one_kind (λ k. input_limit c ≡ input_limit k) (λ n m e. e) words c d a b refl
