-- Items, one after the other: what is read is spelled so, and what is spelled so is read.
use Rattle.std.proofs.Common.{◌≡◌, ℕ, zero, suc, ◌≤◌, inl, inr, List, [], ◌∷◌, ◌++◌, length, Option, Some, None, refl, sym, ap, subst, ◌∙◌, append_assoc, arith}
use Rattle.std.specs.List.{flat_map, AllByRecursion}
use Rattle.std.proofs.lemmas.Option.{same_Some}
use Rattle.mm_num.specs.Option.{◌>>=◌}
use Rattle.mm_num.proofs.OptionLaws.{bind_some, choice_some}
use Rattle.cert_text.specs.Reading.{many_at}
use Rattle.cert_text.proofs.WordLaws.{joined}

-- a mark and the item after it are spelled so
pub record AreTaken {M X : Type 0} (mark : List ℕ → Option M) (item : M → Option (X × List ℕ)) (text : X → List ℕ) (Good : X → Type 0) : Type 0 where
  pub takes : (bytes : List ℕ) (m : M) (x : X) (rest : List ℕ) → mark bytes ≡ Some m → item m ≡ Some (x, rest) → (bytes ≡ text x ++ rest) × Good x

pub many_take : {M X : Type 0} (mark : List ℕ → Option M) (item : M → Option (X × List ℕ)) (text : X → List ℕ) (Good : X → Type 0) → AreTaken mark item text Good
    → (n : ℕ) (bytes : List ℕ) (xs : List X) (rest : List ℕ) → many_at mark item n bytes ≡ Some (xs, rest) → (bytes ≡ flat_map text xs ++ rest) × AllByRecursion Good xs × (length xs ≤ n)
unfolding many_at
many_take {M} {X} mark item text Good are zero bytes xs rest e =
    subst (λ (p : List X × List ℕ). (bytes ≡ flat_map text p.0 ++ p.1) × AllByRecursion Good p.0 × (length p.0 ≤ 0)) (same_Some ([], bytes) (xs, rest) e) (refl, tt, omega arith)
many_take {M} {X} mark item text Good are (suc n) bytes xs rest e =
    elim (choice_some (mark bytes) (λ m. item m >>= λ first. many_at mark item n first.1 >>= λ others. Some (first.0 ∷ others.0, others.1)) (Some ([], bytes)) (xs, rest) e) [
      | inl h ↦
          let a = bind_some (item h.0) (λ first. many_at mark item n first.1 >>= λ others. Some (first.0 ∷ others.0, others.1)) (xs, rest) h.2 in
          let b = bind_some (many_at mark item n a.0.1) (λ others. Some (a.0.0 ∷ others.0, others.1)) (xs, rest) a.2 in
          let first = are.takes bytes h.0 a.0.0 a.0.1 h.1 a.1 in
          let others = many_take mark item text Good are n a.0.1 b.0.0 b.0.1 b.1 in
          let whole : bytes ≡ flat_map text (a.0.0 ∷ b.0.0) ++ b.0.1 = joined bytes (text a.0.0) a.0.1 (flat_map text b.0.0) b.0.1 first.0 others.0 in
          subst (λ (p : List X × List ℕ). (bytes ≡ flat_map text p.0 ++ p.1) × AllByRecursion Good p.0 × (length p.0 ≤ suc n)) (same_Some (a.0.0 ∷ b.0.0, b.0.1) (xs, rest) b.2)
          (whole, (first.1, others.1), omega (arith, others.2))
      | inr h ↦
          subst (λ (p : List X × List ℕ). (bytes ≡ flat_map text p.0 ++ p.1) × AllByRecursion Good p.0 × (length p.0 ≤ suc n)) (same_Some ([], bytes) (xs, rest) h.1) (refl, tt, omega arith)
    ]

-- a mark and an item that are spelled so are read, where what follows may stand there
pub record AreRead {M X : Type 0} (mark : List ℕ → Option M) (item : M → Option (X × List ℕ)) (text : X → List ℕ) (Good : X → Type 0) (Follows : List ℕ → Type 0) : Type 0 where
  pub again : (x : X) (rest : List ℕ) → Good x → Follows rest → (m : M) × (mark (text x ++ rest) ≡ Some m) × (item m ≡ Some (x, rest))
  pub goes_on : (x : X) (rest : List ℕ) → Good x → Follows (text x ++ rest)

pub many_follow : {M X : Type 0} (mark : List ℕ → Option M) (item : M → Option (X × List ℕ)) (text : X → List ℕ) (Good : X → Type 0) (Follows : List ℕ → Type 0) → AreRead mark item text Good Follows
    → (xs : List X) (rest : List ℕ) → AllByRecursion Good xs → Follows rest → Follows (flat_map text xs ++ rest)
many_follow mark item text Good Follows are [] rest good follows = follows
many_follow mark item text Good Follows are (x ∷ xs) rest good follows =
    subst Follows (sym (append_assoc (text x) (flat_map text xs) rest)) (are.goes_on x (flat_map text xs ++ rest) good.0)

pub many_again : {M X : Type 0} (mark : List ℕ → Option M) (item : M → Option (X × List ℕ)) (text : X → List ℕ) (Good : X → Type 0) (Follows : List ℕ → Type 0) → AreRead mark item text Good Follows
    → (n : ℕ) (xs : List X) (rest : List ℕ) → length xs ≤ n → AllByRecursion Good xs → Follows rest → mark rest ≡ None → many_at mark item n (flat_map text xs ++ rest) ≡ Some (xs, rest)
unfolding many_at
many_again mark item text Good Follows are zero [] rest small good follows ends = refl
many_again mark item text Good Follows are zero (x ∷ xs) rest small good follows ends = absurd (omega arith)
many_again mark item text Good Follows are (suc n) [] rest small good follows ends = rw (ends, many_at) refl
many_again mark item text Good Follows are (suc n) (x ∷ xs) rest small good follows ends =
    let first = are.again x (flat_map text xs ++ rest) good.0 (many_follow mark item text Good Follows are xs rest good.1 follows) in
    let others = many_again mark item text Good Follows are n xs rest (omega arith) good.1 follows ends in
    ap (many_at mark item (suc n)) (append_assoc (text x) (flat_map text xs) rest) ∙ rw (first.1, many_at) (rw (first.2, others) refl)
