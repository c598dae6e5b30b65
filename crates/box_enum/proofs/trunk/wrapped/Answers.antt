use Rattle.std.proofs.Common.{◌+◌, ◌-◌, ◌∙◌, ◌++◌, ◌∷◌, [], length, List, ap, arith}
use Rattle.cert_kit.specs.declared.cert.Cert.{Cert}
use Rattle.box_enum.proofs.TrunkLaws.{next_wrapped, shallow_at, one_member_shallow}
use Rattle.box_enum.proofs.trunk.wrapped.Goals as goal

pub loop-n-preserved : goal.loop-n-preserved
loop-n-preserved c =
    let one = c.in_ok-push.ensures.items ∙ ap (λ (cs : List Cert). cs ++ c.loop-n.cert ∷ []) c.in_ok-members.ensures.items in
    record {
      good = next_wrapped (c.loop-n.n - 1) c.loop-n.n c.args.single.now _ c.args.inner c.loop-n.cert c.in_ok-cert.cert _ (omega (arith, c.loop-n-test.true, c.loop-n.auto.n)) (omega (arith, c.loop-n-test.true)) one c.in_ok-cert.ensures.good c.loop-n.invariant.good;
      shallow = λ d l s. shallow_at _ _ c.in_ok-cert.cert (omega (arith, c.loop-n-test.true, c.loop-n.auto.n))
          (c.in_ok-cert.ensures.shallow (d + (length c.args.single.now - c.loop-n.n)) (omega (arith, l)) (one_member_shallow _ c.loop-n.cert _ one (c.loop-n.invariant.shallow d l s)));
    }
