use Rattle.std.proofs.Common.{◌-◌, pos, ◌-ℤ◌, to_z, of_z, subst, sym, arith}
use Rattle.std.specs.Int.{w128}
use Rattle.mm_poly.specs.Mono.{mono_degree}
use Rattle.box_enum.proofs.ReplacingSteps.{Dividing, small_number, same_number, opposite_fits, opposite_number, divide_begin, divide_fits, divide_more, divided_power, power_room}
use Rattle.box_enum.proofs.replacing.push_quotient.Goals as goal

pub overflow_sub-coeff : goal.overflow_sub-coeff
overflow_sub-coeff c = opposite_fits c.args.term.now.coeff (small_number c.args.reach (mono_degree c.args.term.now.mono) c.args.term.now.coeff c.requires.small)

pub loop-k-init : goal.loop-k-init
loop-k-init c =
    let t = c.args.term.now in
    let begun = divide_begin c.args.reach c.args.choice.now.variable c.args.choice.now.value t c.args.out.now.items (to_z w128 (of_z w128 (pos 0 -ℤ to_z w128 (of_z w128 t.coeff))))
    c.requires.small c.len.ensures.monomial.order (opposite_number t.coeff (small_number c.args.reach (mono_degree t.mono) t.coeff c.requires.small)) in
    subst (λ k. Dividing c.args.reach c.args.choice.now.variable c.args.choice.now.value t c.args.out.now.items c.args.out.now.items (to_z w128 (of_z w128 (pos 0 -ℤ to_z w128 (of_z w128 t.coeff)))) k)
    (sym c.exponent-k.ensures) begun

pub with_power-requires : goal.with_power-requires
with_power-requires c = power_room c.args.term.now c.args.choice.now.variable c.loop-k.k c.len.ensures.monomial (omega (arith, c.exponent-k.ensures))

pub overflow_mul-coeff : goal.overflow_mul-coeff
overflow_mul-coeff c = divide_fits c.args.reach c.args.choice.now.variable c.args.choice.now.value (to_z w128 (of_z w128 c.args.choice.now.value)) c.args.term.now c.args.out.now.items c.loop-k.out.items
    (to_z w128 c.loop-k.coeff-bits) c.loop-k.k c.loop-k.invariant (omega arith) c.requires.within (same_number c.args.choice.now.value (omega (arith, c.requires.within, c.requires.reach)))

pub loop-k-preserved : goal.loop-k-preserved
loop-k-preserved c = divide_more c.args.reach c.args.choice.now.variable c.args.choice.now.value (to_z w128 (of_z w128 c.args.choice.now.value)) c.args.term.now c.args.out.now.items c.loop-k.out.items
    c.push.new.self.items (to_z w128 c.loop-k.coeff-bits) c.in_ok-with_power.field-0 c.loop-k.k c.loop-k.invariant (omega arith) c.requires.within (same_number c.args.choice.now.value (omega (arith, c.requires.within, c.requires.reach)))
    c.in_ok-with_power.ensures c.in_ok-push.ensures.items

pub returns-clause-left : goal.returns-clause-left
returns-clause-left c = divided_power c.args.reach c.args.choice.now.variable c.args.choice.now.value c.args.term.now c.args.out.now.items c.loop-k.out.items
    (to_z w128 c.loop-k.coeff-bits) c.loop-k.k c.loop-k.invariant (omega arith)
