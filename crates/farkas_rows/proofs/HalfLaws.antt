-- Rows in two halves, as the code has them.
use Rattle.std.specs.Prelude.{◌≡◌, ℕ, ◌+◌, ◌≤◌, ℤ, List, [], ◌∷◌, ◌++◌, length, take, drop, false, ◌==◌, Option}
use Rattle.std.proofs.Common.{get_or, ap, sym, ◌∙◌, subst, arith, to_z, of_z}
use Rattle.std.proofs.lemmas.List.{take-append-drop}
use Rattle.std.specs.Int.{w128}
use Rattle.mm_num.proofs.FracLaws.{wide}
use Rattle.cert_kit.specs.declared.row.PRow.{PRow}
use Rattle.cert_kit.specs.declared.cert.Psatz.{Psatz}
use Rattle.farkas_rows.specs.machine.Parts.{CanCombine, multiple_of, sum_of, IsCombination}
use Rattle.farkas_rows.proofs.CombinedLaws.{can_parts}
use Rattle.farkas_rows.proofs.PartLaws.{AreHalves, multiple_is, sum_is}

pub not_few : (n : ℕ) → false ≡ (n == 0) → (n ≡ 1 → ⊥) → 2 ≤ n
not_few n z o = grind arith

-- the parts of a list
pub whole : {X : Type 0} (all front back : List X) (k : ℕ) → front ≡ take k all → back ≡ drop k all → front ++ back ≡ all
whole all front back k f b = ap (λ xs. xs ++ back) f ∙ ap (λ xs. take k all ++ xs) b ∙ take-append-drop k all

-- one row, and no more
pub one_is : (n : ℕ) (rows : List PRow) (ms : List ℤ) (r : PRow) (d : ℤ) (e : Option Psatz) → length rows ≡ 1 → CanCombine rows ms → r ≡ get_or rows 0 r
    → e ≡ multiple_of (to_z w128 (of_z w128 (get_or ms 0 d))) n r → IsCombination n rows ms e
one_is n [] ms r d e l h is s = absurd (omega arith)
one_is n (q ∷ []) [] r d e l h is s = let c = h.count in absurd (omega (arith, c))
one_is n (q ∷ []) (m ∷ []) r d e l h is s =
    subst (IsCombination n (q ∷ []) (m ∷ [])) (sym (s ∙ ap (λ z. multiple_of z n r) (wide m h.small.0) ∙ ap (λ x. multiple_of m n x) is)) (multiple_is n q m h)
one_is n (q ∷ []) (m ∷ k ∷ ks) r d e l h is s = let c = h.count in absurd (omega (arith, c))
one_is n (q ∷ p ∷ rows) ms r d e l h is s = absurd (omega arith)

-- each half can be combined
pub halves_can : (rows more all : List PRow) (ms ns alls : List ℤ) → rows ++ more ≡ all → ms ++ ns ≡ alls → length ms ≡ length rows → CanCombine all alls → CanCombine rows ms × CanCombine more ns
halves_can rows more all ms ns alls e f l h =
    can_parts ms ns rows more l (subst (λ x. CanCombine x (ms ++ ns)) (sym e) (subst (λ y. CanCombine all y) (sym f) h))

-- the sum of both halves
pub sum_of_halves : (n k : ℕ) (rows more all : List PRow) (ms ns alls : List ℤ) (d e s : Option Psatz) → rows ++ more ≡ all → ms ++ ns ≡ alls → AreHalves rows more ms ns → k ≡ length rows
    → CanCombine all alls → IsCombination n rows ms d → IsCombination (n + k) more ns e → s ≡ sum_of d e → IsCombination n all alls s
sum_of_halves n k rows more all ms ns alls d e s p q a l h left right is =
    let can = subst (λ x. CanCombine x (ms ++ ns)) (sym p) (subst (λ y. CanCombine all y) (sym q) h) in
    let sum = sum_is n rows more ms ns d e can a left (subst (λ j. IsCombination (n + j) more ns e) l right) in
    subst (IsCombination n all alls) (sym is) (subst (λ y. IsCombination n all y (sum_of d e)) q (subst (λ x. IsCombination n x (ms ++ ns) (sum_of d e)) p sum))
