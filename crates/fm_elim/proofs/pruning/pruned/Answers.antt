use Rattle.std.proofs.Common.{◌≡◌, ◌+◌, ◌-◌, ◌<◌, ℕ, Bool, Option, Some, List, [], ◌∷◌, slice_get, refl, length, length-append, sym, ap, ◌∙◌, subst, arith, rules}
use Rattle.std.proofs.lemmas.Option.{slice_get_read}
use Rattle.fm_elim.specs.machine.Pruning.{IsMade}
use Rattle.fm_elim.proofs.PruningLaws.{begun, log_made}
use Rattle.fm_elim.proofs.MarkLaws.{names_below, placed_none, placed_next, placed_names}
use Rattle.fm_elim.proofs.pruning.pruned.Goals as goal

pub loop-n-init : goal.loop-n-init
loop-n-init c = record {
  pruning = begun c.args.log.now _ c.requires.sound c.new-2.ensures.items c.in_ok-with_capacity.ensures.items;
  count = ap length c.in_ok-with_capacity.ensures.items;
  placed = placed_none c.in_ok-needed.needed.items _ c.in_ok-with_capacity.ensures.items;
}

pub keep-requires-clause-made : goal.keep-requires-clause-made
keep-requires-clause-made c =
    let sources = c.args.log.now.sources.items in
    let s = slice_get_read sources (length sources) c.loop-n.n c.index.result.now refl (omega arith) c.index.ensures in
    subst (λ k. IsMade c.args.log.now c.index.result.now k) (sym c.loop-n.invariant.count) (log_made c.args.log.now c.loop-n.n c.index.result.now c.requires.sound s)

pub keep-requires-clause-names : goal.keep-requires-clause-names
keep-requires-clause-names c =
    λ needed.
    let sources = c.args.log.now.sources.items in
    let marks = c.in_ok-needed.needed.items in
    let n = c.loop-n.n in
    let inside : c.loop-n.n < length c.args.log.now.sources.items = omega arith in
    let w = c.in_ok-needed.ensures.count in
    let s = slice_get_read sources (length sources) n c.index.result.now refl inside c.index.ensures in
    let m = slice_get_read marks (length marks) n c.index-in-loop-n.result.now refl (omega (arith, inside, w)) c.index-in-loop-n.ensures in
    placed_names (length c.args.log.now.given.now) sources marks c.loop-n.pruned.places.items n c.index.result.now c.in_ok-needed.ensures.closed c.loop-n.invariant.placed c.loop-n.invariant.count
    (m ∙ ap (λ (b : Bool). Some b) needed) s (names_below c.args.log.now n c.index.result.now c.requires.sound s)

pub loop-n-preserved : goal.loop-n-preserved
loop-n-preserved c =
    let marks = c.in_ok-needed.needed.items in
    let n = c.loop-n.n in
    let before = c.loop-n.pruned.places.items in
    let inside : c.loop-n.n < length c.args.log.now.sources.items = omega arith in
    let w = c.in_ok-needed.ensures.count in
    let m = slice_get_read marks (length marks) n c.index-in-loop-n.result.now refl (omega (arith, inside, w)) c.index-in-loop-n.ensures in
    let p = c.in_ok-keep.ensures.places in
    let here = subst (λ k. slice_get marks k ≡ Some c.index-in-loop-n.result.now) (sym c.loop-n.invariant.count) m in
    record {
      pruning = c.in_ok-keep.ensures.pruning;
      count = ap (λ (q : List (Option ℕ)). length q) p.places ∙ length-append before (p.place ∷ []) ∙ ap (λ k. k + 1) c.loop-n.invariant.count;
      placed = placed_next marks c.index-in-loop-n.result.now before c.keep.new.self.places.items here p c.loop-n.invariant.placed;
    }

pub end-requires-clause-last : goal.end-requires-clause-last
end-requires-clause-last c =
    let sources = c.args.log.now.sources.items in
    let l : c.len-count.result ≡ length c.args.log.now.sources.items = search rules in
    let z = c.if-count-eq0.false in
    let f = c.loop-n-test.false in
    let a = c.loop-n.auto.n-end in
    let w = c.loop-n.invariant.count in
    let s = slice_get_read sources (length sources) (c.len-count.result - 1) c.index-2.result.now refl (omega (arith, l, z)) c.index-2.ensures in
    let at : c.len-count.result - 1 ≡ length c.loop-n.pruned.places.items = omega (arith, f, a, w) in
    subst (λ k. slice_get sources k ≡ Some c.index-2.result.now) at s

pub end-requires-clause-names : goal.end-requires-clause-names
end-requires-clause-names c =
    let sources = c.args.log.now.sources.items in
    let places = c.loop-n.pruned.places.items in
    let l : c.len-count.result ≡ length c.args.log.now.sources.items = search rules in
    let z = c.if-count-eq0.false in
    let f = c.loop-n-test.false in
    let a = c.loop-n.auto.n-end in
    let w = c.loop-n.invariant.count in
    let s = slice_get_read sources (length sources) (c.len-count.result - 1) c.index-2.result.now refl (omega (arith, l, z)) c.index-2.ensures in
    let at : c.len-count.result - 1 ≡ length c.loop-n.pruned.places.items = omega (arith, f, a, w) in
    let here = subst (λ k. slice_get sources k ≡ Some c.index-2.result.now) at s in
    let all : length c.args.log.now.sources.items ≡ length c.loop-n.pruned.places.items + 1 = omega (arith, l, z, f, a, w) in
    placed_names (length c.args.log.now.given.now) sources c.in_ok-needed.needed.items places (length places) c.index-2.result.now c.in_ok-needed.ensures.closed c.loop-n.invariant.placed refl
    (c.in_ok-needed.ensures.last (length places) all) here (names_below c.args.log.now (length places) c.index-2.result.now c.requires.sound here)
