-- The order of rows is total, and tells different rows apart.
use Rattle.std.specs.Prelude.{◌≡◌, refl}
use Rattle.std.specs.declared.cmp.Ordering.TheVariants.{Less, Equal}
use Rattle.std.specs.Ordering.{ordering_reverse}
use Rattle.std.specs.Cmp.{IsTotalOrder, on_total, then_total, int_cmp_total}
use Rattle.std.specs.Cmp.Lexicographic.{lists_total}
use Rattle.std.specs.FinMap.{IsAntisymmetric, int_cmp-IsAntisymmetric, slice_cmp-IsAntisymmetric}
use Rattle.mm_poly.specs.declared.term.Term.{Term}
use Rattle.mm_poly.specs.Poly.{term_cmp, poly_cmp}
use Rattle.mm_poly.proofs.CoeffLaws.{term_same}
use Rattle.mm_poly.proofs.OrderLaws.{mono_total, mono_exact, then_first, then_second}
use Rattle.cert_kit.specs.declared.row.Op.{Op}
use Rattle.cert_kit.specs.declared.row.Op.TheVariants.{Ge, Eq}
use Rattle.cert_kit.specs.declared.row.PRow.{PRow}
use Rattle.cert_kit.specs.Order.{op_cmp, row_cmp}

term_total : IsTotalOrder term_cmp
term_total = then_total (on_total (λ (t : Term). t.mono) mono_total) (on_total (λ (t : Term). t.coeff) int_cmp_total)

poly_total : IsTotalOrder poly_cmp
poly_total = lists_total term_total

op_back : (o p : Op) → op_cmp o p ≡ ordering_reverse (op_cmp p o)
op_back Ge Ge = refl
op_back Ge Eq = refl
op_back Eq Ge = refl
op_back Eq Eq = refl

op_through : (o p q : Op) → op_cmp o p ≡ Less → op_cmp p q ≡ Less → op_cmp o q ≡ Less
op_through Ge Ge q e f = f
op_through Ge Eq Ge e f = cc
op_through Ge Eq Eq e f = refl
op_through Eq p q e f = elim p as (λ r. op_cmp Eq r ≡ Less → op_cmp r q ≡ Less → op_cmp Eq q ≡ Less) [ Ge ↦ λ g h. cc | Eq ↦ λ g h. cc ] e f

op_alike : (o p q : Op) → op_cmp o p ≡ Equal → op_cmp o q ≡ op_cmp p q
op_alike Ge Ge q e = refl
op_alike Ge Eq q e = absurd cc
op_alike Eq Ge q e = absurd cc
op_alike Eq Eq q e = refl

op_total : IsTotalOrder op_cmp
op_total = record { antisymm = op_back; trans = op_through; congr = op_alike }

pub row_total : IsTotalOrder row_cmp
row_total = then_total (on_total (λ (r : PRow). r.poly) poly_total) (on_total (λ (r : PRow). r.op) op_total)

term_exact : IsAntisymmetric term_cmp
term_exact t u e = term_same t u (int_cmp-IsAntisymmetric t.coeff u.coeff (then_second _ _ e)) (mono_exact t.mono u.mono (then_first _ _ e))

op_exact : (o p : Op) → op_cmp o p ≡ Equal → o ≡ p
op_exact Ge Ge e = refl
op_exact Ge Eq e = cc
op_exact Eq Ge e = cc
op_exact Eq Eq e = refl

pub row_same : (r s : PRow) → r.poly ≡ s.poly → r.op ≡ s.op → r ≡ s
row_same r s p o = λ i. record { poly = p i; op = o i }

pub row_exact : (r s : PRow) → row_cmp r s ≡ Equal → r ≡ s
row_exact r s e = row_same r s (slice_cmp-IsAntisymmetric term_exact r.poly s.poly (then_first _ _ e)) (op_exact r.op s.op (then_second _ _ e))
