-- The rows after a step are polynomials.
use Rattle.std.specs.Prelude.{◌≡◌, ℕ, suc, pos, negsuc, unsigned_abs, List, [], ◌∷◌, ◌++◌, map, take, drop, slice_get, Option, Some, None, Result, Ok, Err, refl}
use Rattle.std.proofs.Common.{subst}
use Rattle.std.specs.List.{AllByRecursion, remove}
use Rattle.std.specs.Option.{option_map_or}
use Rattle.std.specs.Ordering.{int_eq}
use Rattle.mm_poly.specs.declared.term.Term.{Term}
use Rattle.mm_poly.specs.Poly.{IsPoly}
use Rattle.mm_poly.proofs.CaseLaws.{by_if}
use Rattle.mm_poly.proofs.PolyLaws.{poly_plus, poly_scaled}
use Rattle.cert_kit.specs.declared.row.PRow.{PRow}
use Rattle.fm_elim.specs.Unknowns.{coeff_in, without, lowers, uppers}
use Rattle.fm_elim.specs.Tidy.{End, Over}
use Rattle.fm_elim.specs.Steps.{poly_at, substituted, solve_has_room, solved, halved, combined, combined_all, pairs_have_room, eliminated}
use Rattle.fm_elim.proofs.ListLaws.{all_take, all_drop, all_at, all_map, all_with, all_filter}
use Rattle.fm_elim.proofs.TidyLaws.{IsPolyRow}
use Rattle.mm_num.proofs.ListLaws.{all_join}

abbrev same_result : Result (List PRow) End → Result (List PRow) End → Type 0
same_result r s = r ≡ s

ok_is : (x y : List PRow) → same_result (Ok x) (Ok y) → x ≡ y
ok_is x y e = cc

poly_of : (rows : List PRow) (o : Option PRow) → ((r : PRow) → o ≡ Some r → IsPolyRow r) → IsPoly (option_map_or (λ (r : PRow). r.poly) o [])
poly_of rows None f = tt
poly_of rows (Some r) f = f r refl

pub poly_at_poly : (rows : List PRow) (k : ℕ) → AllByRecursion IsPolyRow rows → IsPoly (poly_at k rows)
poly_at_poly rows k a = poly_of rows (slice_get rows k) (λ r e. all_at IsPolyRow rows k r e a)

pub remove_all : (P : PRow → Type 0) (rows : List PRow) (k : ℕ) → AllByRecursion P rows → AllByRecursion P (remove rows k)
remove_all P rows k a = all_join P (take k rows) (drop (suc k) rows) (all_take P k rows a) (all_drop P (suc k) rows a)

pub poly_substituted : (u : List (ℕ × ℕ)) (p : List Term) (r : PRow) → IsPoly p → IsPolyRow r → IsPolyRow (substituted u p r)
poly_substituted u p r h k = by_if (int_eq (coeff_in u r) (pos 0)) r _ IsPolyRow (λ e. k) (λ e. poly_plus r.poly _ k (poly_scaled _ p h))

pub solved_polys : (k : ℕ) (u : List (ℕ × ℕ)) (rows after : List PRow) → AllByRecursion IsPolyRow rows → solved u (poly_at k rows) (remove rows k) ≡ Ok after → AllByRecursion IsPolyRow after
solved_polys k u rows after a = by_if (solve_has_room u (poly_at k rows) (remove rows k)) (Ok (map (substituted u (poly_at k rows)) (remove rows k))) (Err Over) (λ res. res ≡ Ok after → AllByRecursion IsPolyRow after)
    (λ b e. subst (AllByRecursion IsPolyRow) (ok_is (map (substituted u (poly_at k rows)) (remove rows k)) after e)
    (all_map IsPolyRow (substituted u (poly_at k rows)) (remove rows k)
    (all_with IsPolyRow (λ r. IsPolyRow (substituted u (poly_at k rows) r)) (remove rows k) (λ r h. poly_substituted u (poly_at k rows) r (poly_at_poly rows k a) h) (remove_all IsPolyRow rows k a))))
    (λ b e. absurd cc)

pub halved_polys : (k : ℕ) (rows : List PRow) → AllByRecursion IsPolyRow rows → AllByRecursion IsPolyRow (halved k rows)
halved_polys k rows a =
    all_join IsPolyRow (take k rows) _ (all_take IsPolyRow k rows a)
    (poly_at_poly rows k a, (poly_scaled (negsuc 0) (poly_at k rows) (poly_at_poly rows k a), all_drop IsPolyRow (suc k) rows a))

pub poly_combined : (u : List (ℕ × ℕ)) (l h : PRow) → IsPolyRow l → IsPolyRow h → IsPolyRow (combined u l h)
poly_combined u l h a b = poly_plus _ _ (poly_scaled (pos (unsigned_abs (coeff_in u h))) l.poly a) (poly_scaled (pos (unsigned_abs (coeff_in u l))) h.poly b)

pub combined_polys : (u : List (ℕ × ℕ)) (ls hs : List PRow) → AllByRecursion IsPolyRow ls → AllByRecursion IsPolyRow hs → AllByRecursion IsPolyRow (combined_all u ls hs)
combined_polys u [] hs a b = tt
combined_polys u (l ∷ ls) hs a b =
    all_join IsPolyRow (map (combined u l) hs) (combined_all u ls hs)
    (all_map IsPolyRow (combined u l) hs (all_with IsPolyRow (λ h. IsPolyRow (combined u l h)) hs (λ h k. poly_combined u l h a.0 k) b))
    (combined_polys u ls hs a.1 b)

pub eliminated_polys : (u : List (ℕ × ℕ)) (rows after : List PRow) → AllByRecursion IsPolyRow rows → eliminated u rows ≡ Ok after → AllByRecursion IsPolyRow after
eliminated_polys u rows after a = by_if (pairs_have_room u (lowers u rows) (uppers u rows)) (Ok (without u rows ++ combined_all u (lowers u rows) (uppers u rows))) (Err Over)
    (λ res. res ≡ Ok after → AllByRecursion IsPolyRow after)
    (λ b e. subst (AllByRecursion IsPolyRow) (ok_is (without u rows ++ combined_all u (lowers u rows) (uppers u rows)) after e)
    (all_join IsPolyRow (without u rows) (combined_all u (lowers u rows) (uppers u rows)) (all_filter _ IsPolyRow IsPolyRow rows (λ r t h. h) a)
    (combined_polys u (lowers u rows) (uppers u rows) (all_filter _ IsPolyRow IsPolyRow rows (λ r t h. h) a) (all_filter _ IsPolyRow IsPolyRow rows (λ r t h. h) a))))
    (λ b e. absurd cc)
