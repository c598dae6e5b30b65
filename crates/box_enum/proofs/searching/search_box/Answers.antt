use Rattle.std.proofs.Common.{ℕ, ℤ, List, Some, length, ap, sym, ◌∙◌, arith}
use Rattle.box_enum.specs.machine.Edges.{sides_at}
use Rattle.box_enum.proofs.BoundLaws.{rising}
use Rattle.box_enum.proofs.EdgeLaws.{small_reach}
use Rattle.box_enum.proofs.SearchLaws.{finds_true, finds_false}
use Rattle.box_enum.proofs.PointLaws.{none_first, box_length, waiting_in, first_permuted, searched_first}
use Rattle.box_enum.proofs.searching.search_box.Goals as goal

pub returns-then-has_no_value : goal.returns-then-has_no_value
returns-then-has_no_value c = none_first c.args.rows.now c.args.edges.now c.requires.boxed (sym c.has_no_value.ensures ∙ c.if-has_no_value.true)

pub all_waiting-requires-clause-few : goal.all_waiting-requires-clause-few
all_waiting-requires-clause-few c = omega (
  arith,
  ap (λ (xs : List ℕ). length xs) c.deref.ensures.value,
  ap (λ (xs : List ℕ). length xs) c.in_ok-vars.ensures,
  box_length c.args.rows.now c.args.edges.now c.requires.boxed,
  c.requires.few,
)

pub all_waiting-requires-clause-rising : goal.all_waiting-requires-clause-rising
all_waiting-requires-clause-rising c = rising c.args.rows.now c.deref.result.now (c.deref.ensures.value ∙ c.in_ok-vars.ensures)

pub search-requires-clause-waiting : goal.search-requires-clause-waiting
search-requires-clause-waiting c = waiting_in c.deref.result.now _ _ c.args.rows.now c.args.edges.now c.deref-2.result.now _ _
    (omega (
      arith,
      ap (λ (xs : List ℕ). length xs) c.deref.ensures.value,
      ap (λ (xs : List ℕ). length xs) c.in_ok-vars.ensures,
      ap (λ (xs : List ℤ). length xs) c.in_ok-chosen.ensures.items,
      box_length c.args.rows.now c.args.edges.now c.requires.boxed,
    ))
    c.reach.ensures c.deref-2.ensures.value c.by_due-waiting.ensures c.in_ok-placed.ensures c.requires.modest

pub search-requires-clause-small : goal.search-requires-clause-small
search-requires-clause-small c = omega (arith, small_reach c.args.edges.now c.requires.small, c.reach.ensures)

pub returns-then-found : goal.returns-then-found
returns-then-found c =
    ap (λ (xs : List ℤ). Some xs) c.from_vec.ensures
    ∙ sym (finds_true _ _ _ _ c.if-found.true c.in_ok-found.ensures)
    ∙ first_permuted c.in_ok-placed.placed.items _ c.deref-2.result.now c.in_ok-chosen.chosen.items (sides_at c.args.edges.now) c.by_due-waiting.ensures c.deref-2.ensures.value
    ∙ searched_first c.args.rows.now c.deref.result.now c.in_ok-placed.placed.items (sides_at c.args.edges.now) c.in_ok-chosen.chosen.items c.requires.boxed (c.deref.ensures.value ∙ c.in_ok-vars.ensures) c.in_ok-chosen.ensures.items c.in_ok-placed.ensures

pub returns : goal.returns
returns c =
    sym (finds_false _ _ _ _ c.if-found.false c.in_ok-found.ensures).0
    ∙ first_permuted c.in_ok-placed.placed.items _ c.deref-2.result.now c.in_ok-chosen.chosen.items (sides_at c.args.edges.now) c.by_due-waiting.ensures c.deref-2.ensures.value
    ∙ searched_first c.args.rows.now c.deref.result.now c.in_ok-placed.placed.items (sides_at c.args.edges.now) c.in_ok-chosen.chosen.items c.requires.boxed (c.deref.ensures.value ∙ c.in_ok-vars.ensures) c.in_ok-chosen.ensures.items c.in_ok-placed.ensures
