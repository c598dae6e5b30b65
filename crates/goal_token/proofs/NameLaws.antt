-- Two names that a dot joins, or one name.
use Rattle.std.proofs.Common.{◌≡◌, ℕ, Bool, true, false, cond, eqb, List, take, Option, Some, None, refl, sym, subst}
use Rattle.std.specs.Prelude.{unwrap_or}
use Rattle.std.specs.Option.{option_map_or}
use Rattle.std.proofs.lemmas.Bool.{eqb-true}
use Rattle.goal_token.specs.declared.token.Token.{Token}
use Rattle.goal_token.specs.declared.token.Token.TheVariants as token
use Rattle.goal_token.specs.Words.{lookup, words}
use Rattle.goal_token.specs.Tokens.{Sized, name_length, joined_length, word, word_at}

-- what two names are together, where there are two
abbrev pub joined_word : List ℕ → ℕ → ℕ → Option Token
joined_word bytes single joined = cond (eqb joined single) None (lookup (take joined bytes) words)

alone : (o : Option Token) (d : Token) (n : ℕ) → option_map_or {U = Sized} (λ t. (t, n)) o (unwrap_or o d, n) ≡ (unwrap_or o d, n)
alone (Some t) d n = refl
alone None d n = refl

one : (bytes : List ℕ) (m n : ℕ) (same : Bool) → (same ≡ true → m ≡ n) → cond same None (lookup (take m bytes) words) ≡ None
    → option_map_or {U = Sized} (λ t. (t, m)) (lookup (take m bytes) words) (word (take n bytes), n) ≡ (word (take n bytes), n)
unfolding word
one bytes m n true h e =
    subst (λ k. option_map_or {U = Sized} (λ t. (t, k)) (lookup (take k bytes) words) (word (take n bytes), n) ≡ (word (take n bytes), n)) (sym (h refl))
    (alone (lookup (take n bytes) words) (token.Name (record { bytes = take n bytes })) n)
one bytes m n false h e = rw e refl

pub one_name : (bytes : List ℕ) → joined_word bytes (name_length bytes) (joined_length bytes) ≡ None → word_at bytes ≡ (word (take (name_length bytes) bytes), name_length bytes)
unfolding word_at
one_name bytes e = one bytes (joined_length bytes) (name_length bytes) (eqb (joined_length bytes) (name_length bytes)) (eqb-true (joined_length bytes) (name_length bytes)) e

two : (o : Option Token) (m : ℕ) (d : Sized) (same : Bool) (t : Token) → cond same None o ≡ Some t → option_map_or {U = Sized} (λ t. (t, m)) o d ≡ (t, m)
two o m d true t e = absurd cc
two o m d false t e = rw e refl

pub two_names : (bytes : List ℕ) (t : Token) → joined_word bytes (name_length bytes) (joined_length bytes) ≡ Some t → word_at bytes ≡ (t, joined_length bytes)
unfolding word_at
two_names bytes t e =
    two (lookup (take (joined_length bytes) bytes) words) (joined_length bytes) (word (take (name_length bytes) bytes), name_length bytes) (eqb (joined_length bytes) (name_length bytes)) t e
