-- Rows that are let go change nothing that is still to be found.
use Rattle.std.specs.Prelude.{◌≡◌, ℕ, zero, suc, ◌+◌, ◌-◌, ◌<◌, List, [], ◌∷◌, ◌++◌, length, drop, take, Bool, true, false, nat_le, nat_lt, ◌&&◌, refl, Option, Some, None, Result, Ok, slice_get}
use Rattle.std.proofs.Common.{ap, sym, ◌∙◌, subst, arith, get_or, length-append}
use Rattle.std.proofs.lemmas.Bool.{leb-true, lt-leb, le-ltb}
use Rattle.cert_kit.specs.declared.row.PRow.{PRow}
use Rattle.cert_kit.specs.declared.cert.Step.{Step}
use Rattle.cert_kit.specs.declared.cert.Close.{Close}
use Rattle.cert_kit.specs.Acceptance.{with_row}
use Rattle.cert_kit.specs.FirstFault.{step_walk, steps_walk, after_walk}
use Rattle.cert_kit.specs.declared.node.Fault.{Fault}
use Rattle.mm_num.specs.Result.{◌>>=◌}
use Rattle.std.proofs.lemmas.List.{take-append-le}
use Rattle.cert_check.specs.Checking.{close_fault}
use Rattle.cert_check.specs.Uses.{step_numbers, steps_numbers, close_numbers, reaches, IsReached, AreReached, StepsReached, is_over, is_idle, SameBut, LetsGo, rest_fault}
use Rattle.cert_check.proofs.UseLaws.{step_front}
use Rattle.cert_check.proofs.AlikeLaws.{SameAt, rest_alike, close_alike}

-- ---- what may be let go

pub nothing_goes : (first : ℕ) (times : List ℕ) (time : ℕ) (rows : List PRow) → LetsGo first times time rows rows
nothing_goes first times time rows = record { len = refl; kept = λ m h. refl }

pub both_go : (first : ℕ) (times : List ℕ) (time : ℕ) (old mid new : List PRow) → LetsGo first times time old mid → LetsGo first times time mid new → LetsGo first times time old new
both_go first times time old mid new a b = record { len = b.len ∙ a.len; kept = λ m h. b.kept m h ∙ a.kept m h }

pub one_goes : (first : ℕ) (times : List ℕ) (time n : ℕ) (old new : List PRow) → is_idle first times time n ≡ true → SameBut n old new → LetsGo first times time old new
one_goes first times time n old new idle s = record {
  len = s.len;
  kept = λ m h. s.others m (λ e. let i = ap (is_idle first times time) e in cc);
}

-- ---- what is used stays

reached_not_over : (time later : ℕ) (o : Option ℕ) → time < later → reaches later o ≡ true → is_over time o ≡ false
reached_not_over time later None l h = refl
reached_not_over time later (Some x) l h = lt-leb x time (omega (arith, leb-true later x h))

not_idle : (first : ℕ) (times : List ℕ) (time later n : ℕ) → time < later → IsReached first times later n → is_idle first times time n ≡ false
not_idle first times time later n l h = by_first (nat_le first n) refl
  where
    by_last : (s : Bool) (o : Option ℕ) → is_over time o ≡ false → (s && is_over time o) ≡ false
    by_last true o e = e
    by_last false o e = refl

    by_first : (t : Bool) → nat_le first n ≡ t → (t && (nat_lt (n - first) time && is_over time (slice_get times (n - first)))) ≡ false
    by_first true e = by_last (nat_lt (n - first) time) (slice_get times (n - first)) (reached_not_over time later (slice_get times (n - first)) l (h (leb-true first n e)))
    by_first false e = refl

used_stay : (first : ℕ) (times : List ℕ) (time later : ℕ) (ns : List ℕ) (old new : List PRow) → LetsGo first times time old new → time < later → AreReached first times later ns → SameAt old new ns
used_stay first times time later [] old new g l h = tt
used_stay first times time later (n ∷ ns) old new g l h = (g.kept n (not_idle first times time later n l h.0), used_stay first times time later ns old new g l h.1)

same_both : (old new : List PRow) (ns ms : List ℕ) → SameAt old new ns → SameAt old new ms → SameAt old new (ns ++ ms)
same_both old new [] ms h k = k
same_both old new (n ∷ ns) ms h k = (h.0, same_both old new ns ms h.1 k)

steps_stay : (first : ℕ) (times : List ℕ) (time later : ℕ) (steps : List Step) (old new : List PRow) → LetsGo first times time old new → time < later → StepsReached first times later steps → SameAt old new (steps_numbers steps)
steps_stay first times time later [] old new g l h = tt
steps_stay first times time later (s ∷ steps) old new g l h =
    same_both old new (step_numbers s) (steps_numbers steps) (used_stay first times time later (step_numbers s) old new g l h.0)
    (steps_stay first times time (suc later) steps old new g (omega arith) h.1)

-- the row at the time itself isn't let go
latest_stays : (first : ℕ) (times : List ℕ) (time : ℕ) → is_idle first times time (first + time) ≡ false
latest_stays first times time = by_first (nat_le first (first + time))
  where
    by_first : (t : Bool) → (t && (nat_lt ((first + time) - first) time && is_over time (slice_get times ((first + time) - first)))) ≡ false
    by_first true = ap (λ b. b && is_over time (slice_get times ((first + time) - first))) (le-ltb ((first + time) - first) time (omega arith))
    by_first false = refl

pub rest_stays : (first : ℕ) (times : List ℕ) (time : ℕ) (steps : List Step) (close : Close) (last : ℕ) (old new : List PRow) → LetsGo first times time old new → length old ≡ first + suc time
    → StepsReached first times (suc time) steps → time < last → AreReached first times last (close_numbers close) → rest_fault steps close new ≡ rest_fault steps close old
rest_stays first times time steps close last old new g count by_steps l by_close =
    rest_alike steps (close_fault close) (close_numbers close) (close_alike close) old new (record {
      len = g.len;
      named = same_both old new (steps_numbers steps) (close_numbers close)
          (steps_stay first times time (suc time) steps old new g (omega arith) by_steps)
          (used_stay first times time last (close_numbers close) old new g l by_close);
      last = ap (λ n. slice_get new (n - 1)) (g.len ∙ count)
          ∙ ap (slice_get new) latest
          ∙ g.kept (first + time) (latest_stays first times time)
          ∙ sym (ap (slice_get old) latest)
          ∙ sym (ap (λ n. slice_get old (n - 1)) count);
    })
  where
    latest : (first + suc time) - 1 ≡ first + time
    latest = omega arith

-- the rows before the first one stay
early_stays : (first : ℕ) (times : List ℕ) (time m : ℕ) → m < first → is_idle first times time m ≡ false
early_stays first times time m l = ap (λ b. b && (nat_lt (m - first) time && is_over time (slice_get times (m - first)))) (lt-leb first m l)

take_same : (k : ℕ) (old new : List PRow) → length new ≡ length old → ((m : ℕ) → m < k → slice_get new m ≡ slice_get old m) → take k new ≡ take k old
take_same zero old new l h = refl
take_same (suc k) [] [] l h = refl
take_same (suc k) [] (y ∷ new) l h = absurd (omega arith)
take_same (suc k) (x ∷ old) [] l h = absurd (omega arith)
take_same (suc k) (x ∷ old) (y ∷ new) l h =
    ap (λ (r : PRow). r ∷ take k new) (some_is y x (h 0 (omega arith)))
    ∙ ap (λ (rs : List PRow). x ∷ rs) (take_same k old new (omega arith) (λ m below. h (suc m) (omega arith)))
  where
    some_is : (a b : PRow) → Some a ≡ Some b → a ≡ b
    some_is a b e = cc

pub front_stays : (first : ℕ) (times : List ℕ) (time : ℕ) (old new : List PRow) → LetsGo first times time old new → take first new ≡ take first old
front_stays first times time old new g = take_same first old new g.len (λ m l. g.kept m (early_stays first times time m l))

-- ---- the turns

-- the steps that are left, over the rows so far, and the close have the first fault of all
pub record Going (first : ℕ) (times : List ℕ) (steps : List Step) (close : Close) (given rows : List PRow) (turn : ℕ) : Type 0 where
  pub faults : rest_fault (drop turn steps) close rows ≡ rest_fault steps close given
  pub front : take first rows ≡ given
  pub count : length rows ≡ first + turn
  pub by_steps : StepsReached first times turn (drop turn steps)

-- the rows after a step, and what is let go then
pub next_turn : (first : ℕ) (times : List ℕ) (steps : List Step) (close : Close) (given rows mid new : List PRow) (t : ℕ) (s : Step)
    → Going first times steps close given rows t → t < length steps → s ≡ get_or steps t s
    → (r : PRow) × (step_walk s rows ≡ Ok r) × (mid ≡ with_row rows r) → LetsGo first times t mid new
    → AreReached first times (length steps) (close_numbers close) → Going first times steps close given new (t + 1)
next_turn first times steps close given rows mid new t s k l is pushed go by_close =
    let others = drop (t + 1) steps in
    let r = pushed.0 in
    let front : drop t steps ≡ s ∷ others = step_front steps t s l is in
    let reached : StepsReached first times t (s ∷ others) = subst (StepsReached first times t) front k.by_steps in
    let longer : length mid ≡ length rows + 1 = ap length pushed.2 ∙ length-append rows (r ∷ []) in
    let count : length mid ≡ first + suc t = omega (arith, longer, k.count) in
    let stays : rest_fault others close new ≡ rest_fault others close mid = rest_stays first times t others close (length steps) mid new go count reached.1 l by_close in
    let walked : rest_fault (s ∷ others) close rows ≡ rest_fault others close (with_row rows r) =
    ap (λ (v : Result PRow Fault). after_walk (v >>= λ q. steps_walk others (with_row rows q)) (close_fault close)) pushed.1 in
    record {
      faults = stays ∙ ap (rest_fault others close) pushed.2 ∙ sym walked ∙ sym (ap (λ ss. rest_fault ss close rows) front) ∙ k.faults;
      front = front_stays first times t mid new go ∙ ap (take first) pushed.2 ∙ take-append-le first rows (r ∷ []) (omega (arith, k.count)) ∙ k.front;
      count = go.len ∙ omega (arith, longer, k.count);
      by_steps = let n : suc t ≡ t + 1 = omega arith in subst (λ m. StepsReached first times m others) n reached.1;
    }
