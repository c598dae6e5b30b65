use Rattle.std.proofs.Common.{◌≡◌, ◌≤◌, List, sym, subst}
use Rattle.mm_num.proofs.BoolLaws.{never}
use Rattle.cert_kit.specs.declared.cert.Step.{Step}
use Rattle.cert_kit.specs.declared.cert.Cert.{Cert}
use Rattle.cert_kit.specs.declared.cert.Close.TheVariants.{Done}
use Rattle.cert_kit.specs.Acceptance.{IsGood}
use Rattle.cert_kit.specs.Depth.{MakesCert, cert_depth}
use Rattle.farkas_rows.specs.Combining.{rows_used, rows_named}
use Rattle.farkas_rows.proofs.CertificateLaws.{found_is, only_step, certificate_is, good_step, makes_step, names_step, shallow_step}
use Rattle.farkas_rows.proofs.certificate.certificate.Goals as goal

pub unreachable-requires-in-Err : goal.unreachable-requires-in-Err
unreachable-requires-in-Err c =
    let e = only_step _ _ _ c.in_ok-steps.ensures.items c.in_ok-push.ensures.items in
    never (c.in-Err.ensures.makes.1 (subst (λ (q : List Step). MakesCert q Done) (sym e) (makes_step _ _ _ (found_is _ _ _ _ _ c.in-Some.is c.in_ok-sum.ensures) c.requires.rows)))

pub returns-clause-good : goal.returns-clause-good
returns-clause-good c =
    let e = only_step _ _ _ c.in_ok-steps.ensures.items c.in_ok-push.ensures.items in
    subst (IsGood c.args.rows.now) (sym (certificate_is _ _ _ c.in-Ok.ensures.made e)) (good_step _ _ _ (found_is _ _ _ _ _ c.in-Some.is c.in_ok-sum.ensures) c.requires.farkas.negative)

pub returns-clause-names : goal.returns-clause-names
returns-clause-names c =
    let e = only_step _ _ _ c.in_ok-steps.ensures.items c.in_ok-push.ensures.items in
    subst (λ (x : Cert). rows_named x.steps ≡ rows_used 0 c.args.multipliers.now c.args.rows.now) (sym (certificate_is _ _ _ c.in-Ok.ensures.made e))
    (names_step _ _ _ (found_is _ _ _ _ _ c.in-Some.is c.in_ok-sum.ensures))

pub returns-clause-shallow : goal.returns-clause-shallow
returns-clause-shallow c =
    let e = only_step _ _ _ c.in_ok-steps.ensures.items c.in_ok-push.ensures.items in
    subst (λ (x : Cert). cert_depth x ≤ 4000) (sym (certificate_is _ _ _ c.in-Ok.ensures.made e)) (shallow_step _ _ _ (found_is _ _ _ _ _ c.in-Some.is c.in_ok-sum.ensures) c.requires.rows)
