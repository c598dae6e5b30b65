-- The forms of rows, one after the other.
use Rattle.std.specs.Prelude.{◌≡◌, ℕ, ◌+◌, ◌<◌, List, [], ◌∷◌, ◌++◌, length, get_or, take}
use Rattle.std.proofs.Common.{sym, subst}
use Rattle.std.proofs.lemmas.List.{take_more}
use Rattle.cert_kit.specs.declared.row.PRow.{PRow}
use Rattle.simplex_core.specs.declared.row.LinRow.{LinRow}
use Rattle.relaxation.specs.Relaxing.{Mono, IsFormOf, AreFormsOf}

push_forms : (us : List Mono) (rows : List PRow) (ls : List LinRow) (r : PRow) (l : LinRow) → AreFormsOf us rows ls → IsFormOf us r l → AreFormsOf us (rows ++ (r ∷ [])) (ls ++ (l ∷ []))
push_forms us [] [] r l f h = (h, tt)
push_forms us [] (k ∷ ls) r l f h = absurd f
push_forms us (q ∷ rows) [] r l f h = absurd f
push_forms us (q ∷ rows) (k ∷ ls) r l f h = (f.0, push_forms us rows ls r l f.1 h)

-- one form more
pub more_forms : (us : List Mono) (rows : List PRow) (ls next : List LinRow) (i : ℕ) (r : PRow) (l : LinRow) → i < length rows → r ≡ get_or rows i r → AreFormsOf us (take i rows) ls
    → IsFormOf us r l → next ≡ ls ++ (l ∷ []) → AreFormsOf us (take (i + 1) rows) next
more_forms us rows ls next i r l less e f h n =
    subst (λ (k : List LinRow). AreFormsOf us (take (i + 1) rows) k) (sym n)
    (subst (λ (q : List PRow). AreFormsOf us q (ls ++ (l ∷ []))) (sym (take_more rows i r less))
    (push_forms us (take i rows) ls (get_or rows i r) l f (subst (λ (q : PRow). IsFormOf us q l) e h)))
