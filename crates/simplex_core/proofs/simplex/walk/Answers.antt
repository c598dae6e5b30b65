use Rattle.std.proofs.Common.{◌≡◌, ◌<◌, ◌+◌, ◌-◌, ℕ, List, [], length, true, false, subst, ap, sym, ◌∙◌, arith}
use Rattle.std.proofs.lemmas.List.{get_or_read}
use Rattle.simplex_core.specs.declared.solved.Pivot.{Pivot}
use Rattle.simplex_core.specs.Form.{one_of, Line}
use Rattle.simplex_core.specs.Walk.{AreNarrow, IsNarrow, CanMend}
use Rattle.simplex_core.specs.Farkas.{IsFarkas}
use Rattle.simplex_core.specs.machine.Tableau.{turned, pivoted, slacks_of, NoneBroken, line_at, IsLeastAt, IsFirstMender, AreValues}
use Rattle.simplex_core.proofs.SolveLaws.{IsAlong, along_start, along_next, along_left, size_end, turns_end, point_end, farkas_end}
use Rattle.simplex_core.proofs.simplex.walk.Goals as goal
use Rattle.mm_num.proofs.BoolLaws.{never}

pub bases-init : goal.bases-init
bases-init c =
    subst (λ (ps : List Pivot). IsAlong c.args.rows.now c.args.width c.args.turns c.in_ok-lines.lines.items ps c.args.turns) (sym c.new-pivots.ensures.items)
    (subst (λ (ls : List Line). IsAlong c.args.rows.now c.args.width c.args.turns ls [] c.args.turns) (sym c.in_ok-lines.ensures)
    (along_start c.args.rows.now c.args.width c.args.turns c.requires.wide))

pub returns-then-not-is_narrow : goal.returns-then-not-is_narrow
returns-then-not-is_narrow c = (
  size_end c.args.rows.now c.args.width c.args.turns c.bases.lines.items c.bases.pivots.items c.bases.left c.requires.width c.requires.wide c.bases.invariant
      (λ narrow. never (sym c.if-not-is_narrow.true ∙ c.is_narrow.ensures.1 (subst IsNarrow (sym c.deref.ensures.value) narrow))),
  along_left c.args.rows.now c.args.width c.args.turns c.bases.lines.items c.bases.pivots.items c.bases.left c.requires.width c.requires.wide c.bases.invariant,
)

pub returns-in_default : goal.returns-in_default
returns-in_default c = (
  point_end c.args.rows.now c.args.width c.bases.lines.items c.in_ok-point.field-0.items c.requires.width c.requires.wide c.bases.invariant.form
      (subst (NoneBroken c.args.width c.args.rows.now) c.deref-in-bases.ensures.value c.in_default.ensures) c.in_ok-point.ensures.count
      (subst (λ (ls : List Line). AreValues (one_of c.args.width c.args.rows.now) ls 0 c.in_ok-point.field-0.items) c.deref-in_default.ensures.value c.in_ok-point.ensures.values),
  along_left c.args.rows.now c.args.width c.args.turns c.bases.lines.items c.bases.pivots.items c.bases.left c.requires.width c.requires.wide c.bases.invariant,
)

pub returns-in_default-first_mender : goal.returns-in_default-first_mender
returns-in_default-first_mender c =
    let n = c.args.width in
    let rows = c.args.rows.now in
    let lines = c.bases.lines.items in
    let i = c.in-Some.place in
    let least : IsLeastAt c.args.width c.args.rows.now c.bases.lines.items c.in-Some.place =
    subst (λ (ls : List Line). IsLeastAt n rows ls i) c.deref-in-bases.ensures.value c.in-Some.ensures in
    let tested : c.index.result.now ≡ line_at lines i = get_or_read lines i c.index.result.now least.inside c.index.ensures (0, []) in
    let taken : c.index-in_default-first_mender.result.now ≡ line_at lines i =
    get_or_read lines i c.index-in_default-first_mender.result.now least.inside c.index-in_default-first_mender.ensures (0, []) in
    let narrow : IsNarrow c.bases.lines.items = subst IsNarrow c.deref.ensures.value (c.is_narrow.ensures.0 c.if-not-is_narrow.false) in
    let found : c.in_ok-found.found.items ≡ slacks_of n (length rows) (turned (n + length rows) (line_at lines i).1) =
    c.in_ok-found.ensures ∙ ap (λ (l : Line). slacks_of n (length rows) (turned (n + length rows) l.1)) taken in (
      subst (λ ms. IsFarkas rows ms × AreNarrow ms) (sym found)
          (farkas_end rows n lines i c.requires.wide c.bases.invariant.form narrow least
          (subst (λ (l : Line). (e : ℕ) → e < one_of n rows → CanMend n rows l e → ⊥) tested c.in_default-first_mender.ensures)),
      along_left c.args.rows.now c.args.width c.args.turns c.bases.lines.items c.bases.pivots.items c.bases.left c.requires.width c.requires.wide c.bases.invariant,
    )

pub returns-then-left-eq0 : goal.returns-then-left-eq0
returns-then-left-eq0 c =
    let n = c.args.width in
    let rows = c.args.rows.now in
    let lines = c.bases.lines.items in
    let i = c.in-Some.place in
    let least : IsLeastAt c.args.width c.args.rows.now c.bases.lines.items c.in-Some.place =
    subst (λ (ls : List Line). IsLeastAt n rows ls i) c.deref-in-bases.ensures.value c.in-Some.ensures in
    let tested : c.index.result.now ≡ line_at lines i = get_or_read lines i c.index.result.now least.inside c.index.ensures (0, []) in (
      turns_end rows n c.args.turns lines c.bases.pivots.items i c.in-Some-first_mender.enters c.requires.width c.requires.wide
          (subst (IsAlong rows n c.args.turns lines c.bases.pivots.items) c.if-left-eq0.true c.bases.invariant) least
          (subst (λ (l : Line). IsFirstMender n rows l c.in-Some-first_mender.enters) tested c.in-Some-first_mender.ensures),
      along_left c.args.rows.now c.args.width c.args.turns c.bases.lines.items c.bases.pivots.items c.bases.left c.requires.width c.requires.wide c.bases.invariant,
    )

pub bases-preserved : goal.bases-preserved
bases-preserved c =
    let n = c.args.width in
    let rows = c.args.rows.now in
    let lines = c.bases.lines.items in
    let i = c.in-Some.place in
    let p : Pivot = record { leaves = c.basic-leaves.result; enters = c.in-Some-first_mender.enters } in
    let least : IsLeastAt c.args.width c.args.rows.now c.bases.lines.items c.in-Some.place =
    subst (λ (ls : List Line). IsLeastAt n rows ls i) c.deref-in-bases.ensures.value c.in-Some.ensures in
    let tested : c.index.result.now ≡ line_at lines i = get_or_read lines i c.index.result.now least.inside c.index.ensures (0, []) in
    let taken : c.index-in-bases.result.now ≡ line_at lines i = get_or_read lines i c.index-in-bases.result.now least.inside c.index-in-bases.ensures (0, []) in
    let some : 0 < c.bases.left = omega arith in
    subst (λ (ls : List Line). IsAlong rows n c.args.turns ls c.push.new.self.items (c.bases.left - 1)) (sym c.in_ok-exchange.ensures)
    (subst (λ (ps : List Pivot). IsAlong rows n c.args.turns
    (pivoted (line_at lines i).0 c.in-Some-first_mender.enters (turned c.in-Some-first_mender.enters (line_at lines i).1) lines) ps (c.bases.left - 1))
    (sym c.in_ok-push.ensures.items)
    (along_next rows n c.args.turns lines c.bases.pivots.items c.bases.left i p c.bases.invariant some least
    (subst (λ (l : Line). IsFirstMender n rows l c.in-Some-first_mender.enters) tested c.in-Some-first_mender.ensures)
    (c.basic-leaves.ensures ∙ ap (λ (l : Line). l.0) taken)))
