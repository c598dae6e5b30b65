use Rattle.std.proofs.Common.{List, ap, sym, ◌∙◌, subst}
use Rattle.mm_num.proofs.BoolLaws.{never}
use Rattle.cert_kit.specs.declared.cert.Step.{Step}
use Rattle.cert_kit.specs.declared.cert.Cert.{Cert}
use Rattle.cert_kit.specs.declared.cert.Close.TheVariants.{Done}
use Rattle.cert_kit.specs.Depth.{MakesCert}
use Rattle.fm_elim.proofs.ShallowLaws.{makes_cert, cert_flat}
use Rattle.fm_elim.proofs.LoggingLaws.{refutes}
use Rattle.fm_elim.proofs.certificate.certificate.Goals as goal

pub steps_of-requires : goal.steps_of-requires
steps_of-requires c = c.requires.sound.sized

pub unreachable-requires : goal.unreachable-requires
unreachable-requires c =
    let made = subst (λ (q : List Step). MakesCert q Done) (sym c.in_ok-steps.ensures) (makes_cert c.args.sources.now c.requires.sound.sized) in
    never (c.in-Err.ensures.makes.1 made)

pub returns-clause-good : goal.returns-clause-good
returns-clause-good c =
    refutes c.args.given.now c.args.sources.now c.in-Ok.cert c.requires
    (c.in-Ok.ensures.made ∙ ap (λ (q : List Step). let x : Cert = record { steps = q; close = Done } in x) c.in_ok-steps.ensures)

pub returns-clause-makes : goal.returns-clause-makes
returns-clause-makes c =
    subst (λ (x : Cert). MakesCert x.steps x.close)
    (sym (c.in-Ok.ensures.made ∙ ap (λ (q : List Step). let x : Cert = record { steps = q; close = Done } in x) c.in_ok-steps.ensures))
    (makes_cert c.args.sources.now c.requires.sound.sized)

pub returns-clause-shallow : goal.returns-clause-shallow
returns-clause-shallow c =
    cert_flat c.in-Ok.cert c.args.sources.now c.requires.sound.sized
    (c.in-Ok.ensures.made ∙ ap (λ (q : List Step). let x : Cert = record { steps = q; close = Done } in x) c.in_ok-steps.ensures)
