use Rattle.std.proofs.Common.{◌∙◌, ap, sym, subst}
use Rattle.mm_num.proofs.BoolLaws.{never}
use Rattle.mm_poly.specs.Mono.{IsMonomial}
use Rattle.nia_products.specs.Squares.{half_of}
use Rattle.nia_products.proofs.SquareLaws.{monomial_half}
use Rattle.nia_products.proofs.squares.half.Goals as goal

pub unreachable-requires : goal.unreachable-requires
unreachable-requires c =
    let e = c.in_ok-factors.ensures ∙ ap half_of c.factors.ensures.value in
    never (c.in-None.ensures.some.1 (subst IsMonomial (sym e) (monomial_half c.args.mono.now c.factors.ensures.monomial c.requires)))
