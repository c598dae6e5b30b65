-- A digest that takes bytes piece by piece.
use Rattle.std.specs.Prelude.{ℕ, List, [], ◌++◌}
use Rattle.std.proofs.Common.{sym, subst, append_assoc}
use Rattle.std.proofs.lemmas.List.{append-nil}
use Rattle.sha2.specs.declared.Sha256.{Sha256}
use Rattle.sha2.specs.Hashers.{Holds256}

pub digests_nothing : (a : Sha256) (m : List ℕ) → Holds256 a m → Holds256 a (m ++ [])
digests_nothing a m h = subst (λ (l : List ℕ). Holds256 a l) (sym (append-nil m)) h

pub digests_both : (a b c : Sha256) (x y : List ℕ) → ((m : List ℕ) → Holds256 a m → Holds256 b (m ++ x)) → ((m : List ℕ) → Holds256 b m → Holds256 c (m ++ y))
    → (m : List ℕ) → Holds256 a m → Holds256 c (m ++ (x ++ y))
digests_both a b c x y f g m h = subst (λ (l : List ℕ). Holds256 c l) (append_assoc m x y) (g (m ++ x) (f m h))
