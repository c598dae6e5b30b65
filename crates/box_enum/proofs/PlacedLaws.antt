-- Rows over the places of their variables, and points over the variables.
use Rattle.std.specs.Prelude.{◌≡◌, ℕ, zero, suc, ◌+◌, ◌^◌, ◌<◌, ◌≤◌, ℤ, pos, List, [], ◌∷◌, ◌++◌, length, take, Bool, true, false, not, ◌&&◌, refl}
use Rattle.std.proofs.Common.{◌⊎◌, inl, inr, ap, sym, ◌∙◌, subst, arith, get_or}
use Rattle.mm_poly.specs.declared.term.Term.{Term}
use Rattle.mm_poly.specs.Poly.{Fits, plus, joined, nonzero_terms, norm, spread}
use Rattle.mm_poly.specs.Point.{point_of}
use Rattle.mm_poly.specs.Product.{AllNonZero}
use Rattle.mm_poly.specs.Renaming.{renamed, renamed_terms}
use Rattle.mm_poly.proofs.RenamingLaws.{value_renamed, nonzero_renamed, norm_terms, spread_terms}
use Rattle.std.specs.Ordering.{int_eq}
use Rattle.mm_num.proofs.TestLaws.{is_int}
use Rattle.mm_poly.proofs.CaseLaws.{by_if}
use Rattle.cert_kit.specs.declared.row.PRow.{PRow}
use Rattle.cert_kit.specs.Row.{row_holds, all_hold, compares_0}
use Rattle.cert_kit.specs.Variables.{place_of, point_over}
use Rattle.box_enum.specs.declared.waiting.Waiting.{Waiting}
use Rattle.box_enum.specs.machine.Searching.{IsPlaced, ArePlaced, waits_hold}
use Rattle.box_enum.proofs.PlainLaws.{not_false}

nonzero_same : (ts : List Term) → AllNonZero ts → nonzero_terms ts ≡ ts
nonzero_same [] a = refl
nonzero_same (t ∷ ts) a = by_if (not (int_eq t.coeff (pos 0))) (t ∷ nonzero_terms ts) (nonzero_terms ts) (λ r. r ≡ t ∷ ts)
    (λ e. ap (λ (us : List Term). t ∷ us) (nonzero_same ts a.1)) (λ e. absurd (a.0 (is_int t.coeff (pos 0) (not_false _ e))))

pub placed_is : (r : ℕ → ℕ) (p ts q : List Term) → Fits p → ts ≡ renamed_terms r p → q ≡ joined ts → q ≡ renamed r p
placed_is r p ts q f e g = g ∙ ap joined e ∙ ap (λ (us : List Term). plus us []) (nonzero_same (renamed_terms r p) (nonzero_renamed r p f.order))

-- ---- points

row_placed : (vars : List ℕ) (zs : List ℤ) (r : PRow) (w : Waiting) → IsPlaced vars r w → row_holds (point_of zs) w.row ≡ row_holds (point_over vars zs) r
row_placed vars zs r w p = ap (row_holds (point_of zs)) p.row ∙ ap (compares_0 r.op) (value_renamed (point_of zs) (place_of vars) r.poly)

pub rows_placed : (vars : List ℕ) (zs : List ℤ) (rows : List PRow) (ws : List Waiting) → ArePlaced vars rows ws → waits_hold ws zs ≡ all_hold (point_over vars zs) rows
rows_placed vars zs [] [] a = refl
rows_placed vars zs [] (w ∷ ws) a = absurd a
rows_placed vars zs (r ∷ rows) [] a = absurd a
rows_placed vars zs (r ∷ rows) (w ∷ ws) a =
    ap (λ b. b && waits_hold ws zs) (row_placed vars zs r w a.0) ∙ ap (λ b. row_holds (point_over vars zs) r && b) (rows_placed vars zs rows ws a.1)

-- ---- one row more

pub placed_more : (vars : List ℕ) (rows : List PRow) (ws new : List Waiting) (n : ℕ) (r : PRow) (w : Waiting) → n < length rows → r ≡ get_or rows n r → IsPlaced vars r w → new ≡ ws ++ w ∷ []
    → ArePlaced vars (take n rows) ws → ArePlaced vars (take (n + 1) rows) new
placed_more vars rows ws new n r w h is p e a = subst (λ (us : List Waiting). ArePlaced vars (take (n + 1) rows) us) (sym e) (go rows ws n h is a)
  where
    go : (rs : List PRow) (us : List Waiting) (k : ℕ) → k < length rs → r ≡ get_or rs k r → ArePlaced vars (take k rs) us → ArePlaced vars (take (k + 1) rs) (us ++ w ∷ [])
    go [] us k l i b = absurd (omega arith)
    go (q ∷ rs) [] zero l i b = (subst (λ (x : PRow). IsPlaced vars x w) i p, tt)
    go (q ∷ rs) (u ∷ us) zero l i b = absurd b
    go (q ∷ rs) [] (suc k) l i b = absurd b
    go (q ∷ rs) (u ∷ us) (suc k) l i b = let s : suc k + 1 ≡ suc (k + 1) = omega arith in rw s (b.0, go rs us k (omega arith) i b.1)

-- the terms aren't too big
pub never_big : (r : ℕ → ℕ) (p ts : List Term) → Fits p → ts ≡ renamed_terms r p → (2 ^ 126 ≤ norm ts) ⊎ (65536 < spread ts) → ⊥
never_big r p ts f e (inl h) = absurd (omega (arith, ap (λ (us : List Term). norm us) e, norm_terms r p, f.norm, h))
never_big r p ts f e (inr h) = absurd (omega (arith, ap (λ (us : List Term). spread us) e, spread_terms r p, f.spread, h))
