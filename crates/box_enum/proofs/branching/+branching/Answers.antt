use Rattle.std.proofs.Common.{◌≡◌, ◌+◌, ◌++◌, ◌∷◌, ◌∙◌, ◌≤ℤ◌, [], ℕ, List, length, ap, sym, arith, subst, pos, ◌+ℤ◌, to_z, of_z, to_z-of_z}
use Rattle.std.proofs.lemmas.Int.{ints}
use Rattle.std.specs.Int.{w128}
use Rattle.std.proofs.Common.{length-append}
use Rattle.std.specs.List.{AllByRecursion}
use Rattle.mm_num.proofs.ListLaws.{all_join}
use Rattle.mm_poly.specs.Poly.{variable_of}
use Rattle.cert_kit.specs.declared.cert.Cert.{Cert}
use Rattle.cert_kit.specs.Making.{AreGood}
use Rattle.box_enum.specs.declared.numbered.Choice.{Choice}
use Rattle.box_enum.specs.machine.Places.{IsPlace, IsShallow, choice_at}
use Rattle.box_enum.proofs.SearchLaws.{less_left}
use Rattle.box_enum.proofs.PlaceLaws.{good_more, one_counted, all_counted, pushed_open, pushed_good, deep_enough, no_walls}
use Rattle.box_enum.proofs.branching.+branching.Goals as goal

pub member-branch-alloc-requires : goal.member-branch-alloc-requires
member-branch-alloc-requires t c = (
  omega (arith, c.decreases),
  pushed_open c.args.ground.now c.args.count c.args.choices.now.items _ c.args.wall.now c.args.later.now c.args.value (c.in_ok-push.ensures.items ∙ ap (λ z. c.args.choices.now.items ++ choice_at c.args.count c.args.wall.now z ∷ []) (to_z-of_z c.ranges.value)) c.requires.low c.requires.high c.requires.is_open,
)

pub member-returns-clause-good : goal.member-returns-clause-good
member-returns-clause-good t c rows p =
    pushed_good rows c.args.count c.args.ground.now.standing c.args.choices.now.items _ c.args.wall.now c.args.later.now c.args.value c.in_ok-cert.cert (c.in_ok-push.ensures.items ∙ ap (λ z. c.args.choices.now.items ++ choice_at c.args.count c.args.wall.now z ∷ []) (to_z-of_z c.ranges.value)) c.in_ok-cert.ensures.good p

pub members-loop-value-smaller : goal.members-loop-value-smaller
members-loop-value-smaller t c =
    let v = to_z w128 c.loop-value.value-bits in
    less_left v (to_z w128 (of_z w128 (v +ℤ pos 1))) c.args.wall.now.high (omega (arith, ints, c.loop-value-test.true)) (omega (arith, ints, c.loop-value-test.true, c.loop-value.value-is))

pub members-loop-value-preserved : goal.members-loop-value-preserved
members-loop-value-preserved t c =
    let v = to_z w128 c.loop-value.value-bits in
    let i = c.loop-value.invariant in
    let l : length (c.loop-value.members.items ++ c.in_ok-member.field-0 ∷ []) ≡ length c.loop-value.members.items + 1 = length-append c.loop-value.members.items (c.in_ok-member.field-0 ∷ []) in
    let e = c.in_ok-push.ensures.items in
    record {
      kept = c.in_ok-member.ensures.kept ∙ i.kept;
      at = omega (arith, ints, l, ap (λ (cs : List Cert). length cs) e, i.at, c.loop-value-test.true);
      few = omega (arith, l, ap (λ (cs : List Cert). length cs) e, one_counted c.args.wall.now (length c.loop-value.members.items) v i.at (omega (arith, ints, c.loop-value-test.true)));
      good = λ rows p. subst (λ (cs : List Cert). AreGood (variable_of c.args.wall.now.variable) c.args.wall.now.low cs rows) (sym e)
          (good_more (variable_of c.args.wall.now.variable) c.args.wall.now.low v c.loop-value.members.items c.in_ok-member.field-0 rows i.at (i.good rows p) (c.in_ok-member.ensures.good rows (subst (λ (ds : List Choice). IsPlace rows c.args.count c.args.ground.now.standing ds (c.args.wall.now ∷ c.args.later.now)) (sym i.kept) p)));
      shallow = subst (λ (cs : List Cert). AllByRecursion (IsShallow (length c.args.later.now + 2)) cs) (sym e)
          (all_join (IsShallow (length c.args.later.now + 2)) c.loop-value.members.items (c.in_ok-member.field-0 ∷ []) i.shallow (c.in_ok-member.ensures.shallow, tt));
    }

pub branch-end-requires : goal.branch-end-requires
branch-end-requires t c = no_walls c.args.ground.now c.args.count c.args.choices.now.items _ c.args.walls.now c.in_default.len_below c.deref.ensures.value c.requires

pub branch-returns-clause-shallow : goal.branch-returns-clause-shallow
branch-returns-clause-shallow t c = deep_enough c.args.walls.now _ c.in-len1-up.len_at_least (c.in_ok-cert-3.ensures.shallow _ (omega arith) c.in_ok-members.ensures.shallow)
