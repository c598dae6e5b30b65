use Rattle.std.proofs.Common.{◌≡◌, map}
use Rattle.cert_kit.specs.declared.cert.Step.TheVariants.{Rat}
use Rattle.nia_products.proofs.enriched.steps_of.Given as goal

-- a step for each expression so far
abbrev pub invariant-loop-source : goal.invariant-loop-source
invariant-loop-source l = l.steps.items ≡ map Rat l.yielded
