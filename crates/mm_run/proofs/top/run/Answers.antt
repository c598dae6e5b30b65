use Rattle.std.proofs.Common.{◌≡◌, ◌≢◌, ◌<◌, sym, ◌∙◌, arith, map, string_bytes, subst, Ok, Result, IfOk, inl, inr, ◌⊎◌, ℕ, List, Option}
use Rattle.mm_run.specs.declared.ending.Ending.{Ending}
use Rattle.mm_run.specs.declared.fail.RunFail.{RunFail}
use Rattle.std.specs.Prelude.{IfSome}
use Rattle.mm_run.specs.Ending.{CallsFor, IsEndingStatus, IsWhole, WritesAccepted, status_of}
use Rattle.mm_run.proofs.EndingLaws.{refusal_ends, report_accepted}
use Rattle.mm_run.proofs.SoundLaws.{ending_sound}
use Rattle.mm_run.proofs.top.run.Goals as goal
use Rattle.mm_run.proofs.top.run.Goals.{in-Ok, in-Err-NoMemory, in-Err-Device}

-- a text that was written whole has its own status
own_status : (e : Ending) (s : ℕ) → IsEndingStatus e s → s ≡ 0 → status_of e ≡ 0
own_status e s (inl h) z = sym h ∙ z
own_status e s (inr (inl h)) z = absurd (omega (arith, h, z))
own_status e s (inr (inr h)) z = absurd (omega (arith, h, z))

whole_status : (e : Ending) (s : ℕ) → IsEndingStatus e s → IsWhole s → s ≡ status_of e
whole_status e s (inl h) w = h
whole_status e s (inr (inl h)) w = absurd (w.0 h)
whole_status e s (inr (inr h)) w = absurd (w.1 h)

is_due : (words : List (List ℕ)) (left : Option (List ℕ)) (r : Result Ending RunFail) (e : Ending) → r ≡ Ok e → IfOk r (CallsFor words left) → CallsFor words left e
is_due words left r e is due = subst (λ (k : Result Ending RunFail). IfOk k (CallsFor words left)) is due

pub returns-clause-sound : goal.returns-clause-sound
returns-clause-sound g c = λ h. elim c.match-ending.branch [
  | in-Ok w ↦
      let due = is_due (map string_bytes c.args.words.now) (g.S.Source.left c.args.goals.now) c.called_for-ending.result.ending w.in-Ok.ending w.in-Ok.is c.called_for-ending.ensures.due in
      ending_sound c.proved_sessions_are_valid.ensures c.good_goals_are_right.ensures (map string_bytes c.args.words.now) _ w.in-Ok.ending due
      (own_status w.in-Ok.ending w.finish-status.result w.finish-status.ensures.status (sym w.status-is ∙ h))
  | in-Err-NoMemory w ↦ absurd (omega (arith, h, w.status-is))
  | in-Err-Device w ↦ absurd (omega (arith, h, w.status-is))
]

-- a status below 2 is that of the text
below_two : (e : Ending) (s : ℕ) → IsEndingStatus e s → s < 2 → s ≡ status_of e
below_two e s (inl h) less = h
below_two e s (inr (inl h)) less = absurd (omega (arith, h, less))
below_two e s (inr (inr h)) less = absurd (omega (arith, h, less))

pub returns-clause-accepted : goal.returns-clause-accepted
returns-clause-accepted g c = λ less turns asks. elim c.match-ending.branch [
  | in-Ok w ↦
      let due = is_due (map string_bytes c.args.words.now) (g.S.Source.left c.args.goals.now) c.called_for-ending.result.ending w.in-Ok.ending w.in-Ok.is c.called_for-ending.ensures.due in
      let few : w.finish-status.result < 2 = omega (arith, less, w.status-is) in
      let own = below_two w.in-Ok.ending w.finish-status.result w.finish-status.ensures.status few in
      subst (λ o. IfSome (g.S.Source.left c.args.goals.now) (λ bytes. WritesAccepted (g.K.Sink.written c.args.out.now) (g.K.Sink.written o))) (sym w.out-is)
      (report_accepted (map string_bytes c.args.words.now) _ _ _ w.in-Ok.ending turns asks (omega (arith, own, few)) (w.finish-status.ensures.written own) due)
  | in-Err-NoMemory w ↦ absurd (omega (arith, less, w.status-is))
  | in-Err-Device w ↦ absurd (omega (arith, less, w.status-is))
]

pub returns-clause-refused : goal.returns-clause-refused
returns-clause-refused g c = λ whole r. elim c.match-ending.branch [
  | in-Ok w ↦
      let due = is_due (map string_bytes c.args.words.now) (g.S.Source.left c.args.goals.now) c.called_for-ending.result.ending w.in-Ok.ending w.in-Ok.is c.called_for-ending.ensures.due in
      let is = whole_status w.in-Ok.ending w.finish-status.result w.finish-status.ensures.status (subst IsWhole w.status-is whole) in
      w.status-is ∙ is ∙ refusal_ends (map string_bytes c.args.words.now) _ w.in-Ok.ending due r
  | in-Err-NoMemory w ↦ absurd (whole.0 w.status-is)
  | in-Err-Device w ↦ absurd (whole.1 w.status-is)
]
