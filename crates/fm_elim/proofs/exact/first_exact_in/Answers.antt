use Rattle.std.proofs.Common.{◌≡◌, ◌+◌, ◌-◌, ◌<◌, drop, length, sym, subst, arith}
use Rattle.fm_elim.specs.machine.Choice.{lent, IsGroup}
use Rattle.fm_elim.proofs.ExactLaws.{term_before, order_at}
use Rattle.fm_elim.proofs.exact.first_exact_in.Goals as goal

pub first_group-group-requires : goal.first_group-group-requires
first_group-group-requires c =
    let z = c.if-count-eq0.false in
    let n = length c.args.terms.now in
    (order_at c.args.terms.now (length c.args.terms.now - 1) n c.index-terms-count.result c.requires (omega (arith, z)) (omega (arith, z)) c.index-terms-count.is).0

pub loop-n-preserved : goal.loop-n-preserved
loop-n-preserved c =
    let ts = c.args.terms.now in
    let n = c.loop-n.n in
    let t = c.index-terms-n.result in
    let z = c.if-count-eq0.false in
    let l = c.loop-n-test.true in
    let a = c.loop-n.auto.n in
    let next : c.loop-n.n ≡ c.loop-n.n - 1 + 1 = omega (arith, l) in
    let inside : c.loop-n.n - 1 < length c.args.terms.now = omega (arith, l, a, z) in
    subst (λ q. IsGroup q c.with-group.result) (sym (term_before ts (n - 1) n t next inside c.index-terms-n.is))
    (c.with-group.ensures (lent (drop n ts)) (order_at ts (n - 1) n t c.requires next inside c.index-terms-n.is) c.loop-n.invariant)
