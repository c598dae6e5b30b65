use Rattle.std.proofs.Common.{◌≡◌, ◌++◌, ◌∷◌, [], length, ap, sym, ◌∙◌, arith, ℕ, pos, ◌+ℤ◌, to_z, of_z}
use Rattle.std.specs.Int.{w128}
use Rattle.std.proofs.lemmas.Int.{ints}
use Rattle.std.specs.Prelude.{refl}
use Rattle.box_enum.specs.machine.Edges.{sides_at}
use Rattle.box_enum.specs.machine.Searching.{first_from}
use Rattle.box_enum.proofs.SearchLaws.{none_at, end_found, edges_later, part_waiting, same_waiting, later_within, finds_edges, value_within, one_longer, finds_true, finds_false, less_left, back_again, next_value, this_value}
use Rattle.box_enum.proofs.searching.+searching.Goals as goal

pub search-returns-in_default : goal.search-returns-in_default
search-returns-in_default t c = (none_at c.args.rows.now c.args.chosen.now.items c.deref.result.now (sides_at c.args.edges.now) c.deref.ensures.value (c.in_default.ensures.none refl), refl)

pub search-returns-in_default-edges : goal.search-returns-in_default-edges
search-returns-in_default-edges t c = end_found c.args.reach c.args.rows.now c.args.edges.now c.in-Some.passed c.args.chosen.now.items c.deref.result.now c.in_default-edges.len_below c.deref.ensures.value c.requires.waiting c.in-Some.ensures.some

pub search-search_values-requires : goal.search-search_values-requires
search-search_values-requires t c = (
  omega (arith, edges_later c.args.edges.now c.in-len1-up.len_at_least, c.decreases),
  (
    part_waiting _ _ _ c.args.rows.now c.in-Some.passed (omega (arith, edges_later c.args.edges.now c.in-len1-up.len_at_least)) c.requires.waiting,
    (later_within _ _ c.args.edges.now _ c.in-len1-up.len_at_least c.requires.within, c.requires.small),
  ),
)

pub search-returns : goal.search-returns
search-returns t c = finds_edges c.args.rows.now c.args.edges.now _ c.in-Some.passed c.args.chosen.now.items c.deref.result.now _ _ c.in-len1-up.len_at_least c.deref.ensures.value c.in-Some.ensures.some c.in_ok-found.ensures

pushed : (t : ℕ) (c : goal.search_values-After-search-arg-1 t) → c.push.new.self.items ≡ c.args.chosen.now.items ++ to_z w128 c.loop-value.value-bits ∷ []
pushed t c = c.in_ok-push.ensures.items ∙ ap (λ xs. xs ++ to_z w128 c.loop-value.value-bits ∷ []) c.loop-value.invariant.kept

pub search_values-search-requires : goal.search_values-search-requires
search_values-search-requires t c = (
  omega (arith, c.decreases),
  (
    same_waiting _ _ _ c.args.rows.now (one_longer _ _ _ (length c.args.later.now) (pushed t c)) c.requires.waiting,
    (value_within c.args.chosen.now.items _ _ c.args.edge.now _ c.args.reach (pushed t c) c.loop-value.invariant.from (omega (arith, ints, c.loop-value-test.true)) c.requires.within, c.requires.small),
  ),
)

pub search_values-returns-then-branch : goal.search_values-returns-then-branch
search_values-returns-then-branch t c =
    let v = to_z w128 c.loop-value.value-bits in
    let p : c.push.new.self.items ≡ c.args.chosen.now.items ++ v ∷ [] = c.in_ok-push.ensures.items ∙ ap (λ xs. xs ++ v ∷ []) c.loop-value.invariant.kept in
    this_value (λ z. first_from c.args.rows.now (c.args.chosen.now.items ++ z ∷ []) (sides_at c.args.later.now)) v c.args.edge.now.high _ _ (omega (arith, ints, c.loop-value-test.true))
    (ap (λ xs. first_from c.args.rows.now xs (sides_at c.args.later.now)) (sym p) ∙ finds_true _ _ _ _ c.if-branch.true c.in_ok-search.ensures) c.loop-value.invariant.first

pub search_values-loop-value-smaller : goal.search_values-loop-value-smaller
search_values-loop-value-smaller t c =
    let v = to_z w128 c.loop-value.value-bits in
    less_left v (to_z w128 (of_z w128 (v +ℤ pos 1))) c.args.edge.now.high (omega (arith, ints, c.loop-value-test.true)) (omega (arith, ints, c.loop-value-test.true))

pub search_values-loop-value-preserved : goal.search_values-loop-value-preserved
search_values-loop-value-preserved t c =
    let v = to_z w128 c.loop-value.value-bits in
    let p : c.push.new.self.items ≡ c.args.chosen.now.items ++ v ∷ [] = c.in_ok-push.ensures.items ∙ ap (λ xs. xs ++ v ∷ []) c.loop-value.invariant.kept in
    let f = finds_false _ _ _ _ c.if-branch.false c.in_ok-search.ensures in
    record {
      kept = back_again c.args.chosen.now.items c.push.new.self.items c.search.new.chosen.items _ v c.len-level.result (omega (arith, c.len-level.ensures, c.args.chosen.now.ok)) p f.1 c.truncate.ensures.items;
      from = omega (arith, ints, c.loop-value.invariant.from, c.loop-value-test.true);
      first = next_value (λ z. first_from c.args.rows.now (c.args.chosen.now.items ++ z ∷ []) (sides_at c.args.later.now)) v (to_z w128 (of_z w128 (v +ℤ pos 1))) c.args.edge.now.high _
          (omega (arith, ints, c.loop-value-test.true)) (omega (arith, ints, c.loop-value-test.true))
          (ap (λ xs. first_from c.args.rows.now xs (sides_at c.args.later.now)) (sym p) ∙ f.0) c.loop-value.invariant.first;
    }
