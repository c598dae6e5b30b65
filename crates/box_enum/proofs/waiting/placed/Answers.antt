use Rattle.std.proofs.Common.{List, ap, ◌∙◌}
use Rattle.std.specs.Prelude.{refl}
use Rattle.mm_poly.specs.declared.term.Term.{Term}
use Rattle.mm_poly.specs.Renaming.{renamed_terms}
use Rattle.cert_kit.specs.Variables.{place_of}
use Rattle.box_enum.proofs.PlacedLaws.{never_big}
use Rattle.box_enum.proofs.waiting.placed.Goals as goal

pub unreachable-requires : goal.unreachable-requires
unreachable-requires c = never_big (place_of c.args.vars.now) c.args.poly.now c.in_ok-terms.terms.items c.spread.ensures.fits
    (c.in_ok-terms.ensures ∙ ap (λ (ts : List Term). renamed_terms (place_of c.args.vars.now) ts) c.terms.ensures.value)
    ((rw c.in-Err-Big.field-0-is at c.in-Err-Big.ensures.big) refl)
