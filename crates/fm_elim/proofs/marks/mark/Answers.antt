use Rattle.std.proofs.Common.{refl, arith}
use Rattle.fm_elim.proofs.MarkLaws.{marked_given, marked_past, marked_row}
use Rattle.fm_elim.proofs.marks.mark.Goals as goal

pub returns-then-row-given : goal.returns-then-row-given
returns-then-row-given c = marked_given c.args.given c.args.row c.args.marks.now (let h = c.if-row-given.true in omega (arith, h))

pub returns-then-place-marks : goal.returns-then-place-marks
returns-then-place-marks c =
    marked_past c.args.given c.args.row c.args.marks.now (let h = c.if-place-marks.true in omega (arith, h)) (let g = c.if-row-given.false in omega (arith, g))

pub returns : goal.returns
returns c =
    marked_row c.args.given c.args.row c.args.marks.now _ (let g = c.if-row-given.false in omega (arith, g)) (let h = c.if-place-marks.false in omega (arith, h)) refl
