-- Terms are told apart by an order.
use Rattle.std.specs.Prelude.{◌≡◌, ℕ, ◌↔◌, List}
use Rattle.std.proofs.Common.{subst}
use Rattle.std.specs.declared.cmp.Ordering.TheVariants.{Equal}
use Rattle.std.specs.Cmp.{tied_itself}
use Rattle.std.specs.Cmp.Lexicographic.{slice_cmp, lists_total}
use Rattle.std.specs.FinMap.{slice_cmp-IsAntisymmetric}
use Rattle.mm_poly.specs.Mono.{factor_cmp, mono_cmp}
use Rattle.mm_poly.proofs.OrderLaws.{factor_total, factor_exact, mono_exact, mono_same}

pub same_order : (a b : List (ℕ × ℕ)) → (mono_cmp a b ≡ Equal) ↔ (a ≡ b)
same_order a b = (mono_exact a b, λ e. subst (λ k. mono_cmp a k ≡ Equal) e (mono_same a))

pub same_factors : (a b : List (ℕ × ℕ)) → (slice_cmp factor_cmp a b ≡ Equal) ↔ (a ≡ b)
same_factors a b = (slice_cmp-IsAntisymmetric factor_exact a b, λ e. subst (λ k. slice_cmp factor_cmp a k ≡ Equal) e (tied_itself (lists_total factor_total) a))
