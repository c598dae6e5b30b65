-- Monomial order is total, and tells different monomials apart.
use Rattle.std.specs.Prelude.{◌≡◌, ℕ, List, refl}
use Rattle.std.proofs.Common.{ap, sym, ◌∙◌}
use Rattle.std.specs.declared.cmp.Ordering.{Ordering}
use Rattle.std.specs.declared.cmp.Ordering.TheVariants.{Less, Equal, Greater}
use Rattle.std.specs.Ordering.{ordering_then, ordering_reverse}
use Rattle.std.specs.Cmp.{IsTotalOrder, nat_cmp_total, on_total, then_total, back_total, tied_itself}
use Rattle.std.specs.Cmp.Lexicographic.{lists_total}
use Rattle.std.specs.FinMap.{IsAntisymmetric, nat_cmp-IsAntisymmetric, slice_cmp-IsAntisymmetric}
use Rattle.mm_poly.specs.Mono.{factor_cmp, mono_cmp, mono_degree}

pub factor_total : IsTotalOrder factor_cmp
factor_total = then_total (on_total (λ (f : ℕ × ℕ). f.0) nat_cmp_total) (on_total (λ (f : ℕ × ℕ). f.1) (back_total nat_cmp_total))

pub mono_total : IsTotalOrder mono_cmp
mono_total = then_total (on_total mono_degree (back_total nat_cmp_total)) (lists_total factor_total)

pub then_first : (o r : Ordering) → ordering_then o r ≡ Equal → o ≡ Equal
then_first Less r e = e
then_first Equal r e = refl
then_first Greater r e = e

pub then_second : (o r : Ordering) → ordering_then o r ≡ Equal → r ≡ Equal
then_second Less r e = cc
then_second Equal r e = e
then_second Greater r e = cc

pub factor_exact : IsAntisymmetric factor_cmp
factor_exact f g e =
    let v = nat_cmp-IsAntisymmetric f.0 g.0 (then_first _ _ e) in
    let x = nat_cmp-IsAntisymmetric g.1 f.1 (then_second _ _ e) in
    ap (λ (n : ℕ). (n, f.1)) v ∙ ap (λ (n : ℕ). (g.0, n)) (sym x)

-- monomials that compare as equal are equal
pub mono_exact : (a b : List (ℕ × ℕ)) → mono_cmp a b ≡ Equal → a ≡ b
mono_exact a b e = slice_cmp-IsAntisymmetric factor_exact a b (then_second _ _ e)

pub mono_same : (a : List (ℕ × ℕ)) → mono_cmp a a ≡ Equal
mono_same a = tied_itself mono_total a

pub mono_back : (a b : List (ℕ × ℕ)) → mono_cmp a b ≡ Greater → mono_cmp b a ≡ Less
mono_back a b e = mono_total.antisymm b a ∙ ap ordering_reverse e

pub mono_through : (a b c : List (ℕ × ℕ)) → mono_cmp a b ≡ Less → mono_cmp b c ≡ Less → mono_cmp a c ≡ Less
mono_through a b c h k = mono_total.trans a b c h k

pub mono_not_self : (a : List (ℕ × ℕ)) → mono_cmp a a ≡ Less → ⊥
mono_not_self a e = let s = mono_same a in cc
