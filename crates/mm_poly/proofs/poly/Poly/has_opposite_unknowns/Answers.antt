use Rattle.std.proofs.Common.{ap, ◌∙◌}
use Rattle.mm_poly.specs.Poly.{without_constant}
use Rattle.mm_poly.proofs.JoinedLaws.{small_without}
use Rattle.mm_poly.proofs.poly.Poly.has_opposite_unknowns.Goals as goal

pub are_opposite-requires-clause-first : goal.are_opposite-requires-clause-first
are_opposite-requires-clause-first c = small_without c.self.inside.terms.items _ (c.unknowns.ensures ∙ ap without_constant c.deref.ensures.value) c.self.invariant.norm

pub are_opposite-requires-clause-second : goal.are_opposite-requires-clause-second
are_opposite-requires-clause-second c = small_without c.other.inside.terms.items _ (c.unknowns-2.ensures ∙ ap without_constant c.deref-2.ensures.value) c.other.invariant.norm
