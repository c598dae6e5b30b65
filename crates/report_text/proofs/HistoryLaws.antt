-- Caches and their calls are read as they are spelled.
use Rattle.std.proofs.Common.{◌≡◌, ◌≢◌, ℕ, zero, suc, false, List, ◌++◌, Option, Some, None, inl, inr, ◌⊎◌, refl, sym, ap, subst, ◌∙◌, append_assoc}
use Rattle.std.specs.Prelude.{codes, decimal}
use Rattle.std.proofs.lemmas.Option.{some_pair_parts}
use Rattle.mm_num.specs.Option.{◌>>=◌}
use Rattle.mm_num.proofs.OptionLaws.{bind_some}
use Rattle.cert_text.specs.Reading.{after}
use Rattle.cert_text.proofs.NumberLaws.{begins_digit}
use Rattle.goal_ast.specs.declared.goal.Mode.{Mode}
use Rattle.goal_ast.specs.declared.goal.Mode.TheVariants.{Lia, Nia}
use Rattle.goal_print.specs.ReadsBack.{mode_text}
use Rattle.goal_serve.specs.Line.{Cache, End, counted, line_text}
use Rattle.goal_serve.specs.Line as line
use Rattle.report_text.specs.declared.call.Call.{Call}
use Rattle.report_text.specs.declared.call.Call.TheVariants.{Find, Store}
use Rattle.report_text.specs.declared.lines.Line.{Line}
use Rattle.report_text.specs.declared.lines.Line.TheVariants as lines
use Rattle.report_text.specs.Line.{ReportLine, Plain, Called, IsFree, IsHit, IsCall, IsReportLine, report_line, hit_text, asker_text, call_text}
use Rattle.report_text.specs.Fitting.{AtCall, Fits, FitsCalled}
use Rattle.report_text.specs.machine.Reading.{number_after, word_at, cache_at, asker_at, hit_place_at, hit_at, find_at, store_at, called, after_calls_at, call_at}
use Rattle.report_text.specs.machine.Reads.{ReadsLine, Reads}
use Rattle.report_text.proofs.AfterLaws.{number_after_takes, number_after_again}
use Rattle.report_text.proofs.RunLaws.{reading}
use Rattle.report_text.proofs.ReadSteps.{bind_on, number_then, number_read, word_then, word_read, word_last, word_at_takes, first_some, first_none, reads_by, found}

-- ---- caches

-- what stands after the mode
abbrev counts : ℕ → ℕ → ℕ → List ℕ
counts o n v = codes " opened " ++ (decimal o ++ (codes " stored " ++ (decimal n ++ (codes " saved " ++ (decimal v ++ codes "\n")))))

abbrev saved_on : Mode → ℕ → ℕ → List ℕ → Option (Line × List ℕ)
saved_on mode o n bytes = number_after (codes " saved ") bytes >>= λ saved. after (codes "\n") saved.1 >>= λ rest. Some (lines.Cache mode o n saved.0, rest)

abbrev stored_on : Mode → ℕ → List ℕ → Option (Line × List ℕ)
stored_on mode o bytes = number_after (codes " stored ") bytes >>= λ stored. saved_on mode o stored.0 stored.1

abbrev opened_on : Mode → List ℕ → Option (Line × List ℕ)
opened_on mode bytes = number_after (codes " opened ") bytes >>= λ opened. stored_on mode opened.0 opened.1

record TakesCounts (mode : Mode) (bytes : List ℕ) (l : Line) (rest : List ℕ) : Type 0 where
  opened : ℕ
  stored : ℕ
  saved : ℕ
  free : IsFree opened × IsFree stored × IsFree saved
  read : l ≡ lines.Cache mode opened stored saved
  text : bytes ≡ counts opened stored saved ++ rest

counts_take : (mode : Mode) (bytes : List ℕ) (l : Line) (rest : List ℕ) → opened_on mode bytes ≡ Some (l, rest) → TakesCounts mode bytes l rest
counts_take mode bytes l rest e =
    let o = bind_some (number_after (codes " opened ") bytes) (λ opened. stored_on mode opened.0 opened.1) (l, rest) e in
    let n = bind_some (number_after (codes " stored ") o.0.1) (λ stored. saved_on mode o.0.0 stored.0 stored.1) (l, rest) o.2 in
    let v =
    bind_some (number_after (codes " saved ") n.0.1) (λ saved. after (codes "\n") saved.1 >>= λ rest. Some (lines.Cache mode o.0.0 n.0.0 saved.0, rest))
    (l, rest) n.2 in
    let w = bind_some (after (codes "\n") v.0.1) (λ rest. Some (lines.Cache mode o.0.0 n.0.0 v.0.0, rest)) (l, rest) v.2 in
    let p = some_pair_parts (lines.Cache mode o.0.0 n.0.0 v.0.0) l w.0 rest w.2 in
    let third = number_then (codes " saved ") (codes "\n") n.0.1 rest v.0.0 v.0.1 v.1 (word_last (codes "\n") v.0.1 w.0 rest w.1 p.1) in
    let second = number_then (codes " stored ") (codes " saved " ++ (decimal v.0.0 ++ codes "\n")) o.0.1 rest n.0.0 n.0.1 n.1 third.0 in
    let first =
    number_then (codes " opened ") (codes " stored " ++ (decimal n.0.0 ++ (codes " saved " ++ (decimal v.0.0 ++ codes "\n")))) bytes rest o.0.0 o.0.1 o.1 second.0 in
    record { opened = o.0.0; stored = n.0.0; saved = v.0.0; free = (first.1, second.1, third.1); read = sym p.0; text = first.0 }

counts_again : (mode : Mode) (o n v : ℕ) (rest : List ℕ) → IsFree o × IsFree n × IsFree v → opened_on mode (counts o n v ++ rest) ≡ Some (lines.Cache mode o n v, rest)
counts_again mode o n v rest free =
    let third = codes " saved " ++ (decimal v ++ codes "\n") in
    let second = codes " stored " ++ (decimal n ++ third) in
    bind_on (number_after (codes " opened ") (counts o n v ++ rest)) (λ opened. stored_on mode opened.0 opened.1) (o, second ++ rest)
    (Some (lines.Cache mode o n v, rest)) (number_read (codes " opened ") o second rest free.0 refl)
    (bind_on (number_after (codes " stored ") (second ++ rest)) (λ stored. saved_on mode o stored.0 stored.1) (n, third ++ rest) (Some (lines.Cache mode o n v, rest))
    (number_read (codes " stored ") n third rest free.1 refl)
    (bind_on (number_after (codes " saved ") (third ++ rest)) (λ saved. after (codes "\n") saved.1 >>= λ rest. Some (lines.Cache mode o n saved.0, rest))
    (v, codes "\n" ++ rest) (Some (lines.Cache mode o n v, rest))
    (number_read (codes " saved ") v (codes "\n") rest free.2 refl) refl))

pub record TakesCache (mode : Mode) (bytes : List ℕ) (l : Line) (rest : List ℕ) : Type 0 where
  pub opened : ℕ
  pub stored : ℕ
  pub saved : ℕ
  pub free : IsFree opened × IsFree stored × IsFree saved
  pub read : l ≡ lines.Cache mode opened stored saved
  pub text : bytes ≡ line_text (Cache mode opened stored saved) ++ rest

pub cache_takes : (mode : Mode) (bytes : List ℕ) (l : Line) (rest : List ℕ) → cache_at mode bytes ≡ Some (l, rest) → TakesCache mode bytes l rest
unfolding cache_at
cache_takes mode bytes l rest e =
    let c = bind_some (after (codes "cache ") bytes) (λ word. after (mode_text mode) word >>= λ moded. opened_on mode moded) (l, rest) e in
    let m = bind_some (after (mode_text mode) c.0) (λ moded. opened_on mode moded) (l, rest) c.2 in
    let t = counts_take mode m.0 l rest m.2 in
    let all = counts t.opened t.stored t.saved in
    record {
      opened = t.opened;
      stored = t.stored;
      saved = t.saved;
      free = t.free;
      read = t.read;
      text = word_then (codes "cache ") (mode_text mode ++ all) bytes rest c.0 c.1 (word_then (mode_text mode) all c.0 rest m.0 m.1 t.text);
    }

pub cache_again : (mode : Mode) (o n v : ℕ) (rest : List ℕ) → IsFree o × IsFree n × IsFree v
    → cache_at mode (line_text (Cache mode o n v) ++ rest) ≡ Some (lines.Cache mode o n v, rest)
unfolding cache_at
cache_again mode o n v rest free =
    let all = counts o n v in
    bind_on (after (codes "cache ") (line_text (Cache mode o n v) ++ rest)) (λ word. after (mode_text mode) word >>= λ moded. opened_on mode moded)
    ((mode_text mode ++ all) ++ rest) (Some (lines.Cache mode o n v, rest))
    (word_read (codes "cache ") (mode_text mode ++ all) rest)
    (bind_on (after (mode_text mode) ((mode_text mode ++ all) ++ rest)) (λ moded. opened_on mode moded) (all ++ rest) (Some (lines.Cache mode o n v, rest))
    (word_read (mode_text mode) all rest) (counts_again mode o n v rest free))

-- ---- calls

abbrev Three : Type 0
Three = ℕ × ℕ × ℕ

abbrev clause_on : ℕ → ℕ → List ℕ → Option (Three × List ℕ)
clause_on s g bytes = number_after (codes " ") bytes >>= λ clause. Some ((s, g, clause.0), clause.1)

abbrev goal_on : ℕ → List ℕ → Option (Three × List ℕ)
goal_on s bytes = number_after (codes " ") bytes >>= λ goal. clause_on s goal.0 goal.1

record TakesAsker (word bytes : List ℕ) (a : Three) (r : List ℕ) : Type 0 where
  free : IsFree a.0 × IsFree a.1 × IsFree a.2
  text : (t rest : List ℕ) → r ≡ t ++ rest → bytes ≡ (word ++ asker_text a.0 a.1 a.2 t) ++ rest

asker_takes : (word bytes : List ℕ) (a : Three) (r : List ℕ) → asker_at word bytes ≡ Some (a, r) → TakesAsker word bytes a r
asker_takes word bytes a r e =
    let s = bind_some (number_after word bytes) (λ session. goal_on session.0 session.1) (a, r) e in
    let g = bind_some (number_after (codes " ") s.0.1) (λ goal. clause_on s.0.0 goal.0 goal.1) (a, r) s.2 in
    let k = bind_some (number_after (codes " ") g.0.1) (λ clause. Some ((s.0.0, g.0.0, clause.0), clause.1)) (a, r) g.2 in
    let p = some_pair_parts (s.0.0, g.0.0, k.0.0) a k.0.1 r k.2 in
    let i = (number_after_takes word bytes s.0.0 s.0.1 s.1).1 in
    let j = (number_after_takes (codes " ") s.0.1 g.0.0 g.0.1 g.1).1 in
    let l = (number_after_takes (codes " ") g.0.1 k.0.0 k.0.1 k.1).1 in
    subst (λ (a : Three). TakesAsker word bytes a r) p.0 (record {
      free = (i, j, l);
      text = λ t rest f.
          let third = number_then (codes " ") t g.0.1 rest k.0.0 k.0.1 k.1 (p.1 ∙ f) in
          let second = number_then (codes " ") (codes " " ++ (decimal k.0.0 ++ t)) s.0.1 rest g.0.0 g.0.1 g.1 third.0 in
          (number_then word (codes " " ++ (decimal g.0.0 ++ (codes " " ++ (decimal k.0.0 ++ t)))) bytes rest s.0.0 s.0.1 s.1 second.0).0;
    })

asker_again : (word : List ℕ) (s g k : ℕ) (t rest : List ℕ) → IsFree s × IsFree g × IsFree k → begins_digit (t ++ rest) ≡ false
    → asker_at word ((word ++ asker_text s g k t) ++ rest) ≡ Some ((s, g, k), t ++ rest)
asker_again word s g k t rest free stop =
    let third = codes " " ++ (decimal k ++ t) in
    let second = codes " " ++ (decimal g ++ third) in
    bind_on (number_after word ((word ++ asker_text s g k t) ++ rest)) (λ session. goal_on session.0 session.1) (s, second ++ rest) (Some ((s, g, k), t ++ rest))
    (number_read word s second rest free.0 refl)
    (bind_on (number_after (codes " ") (second ++ rest)) (λ goal. clause_on s goal.0 goal.1) (g, third ++ rest) (Some ((s, g, k), t ++ rest))
    (number_read (codes " ") g third rest free.1 refl)
    (bind_on (number_after (codes " ") (third ++ rest)) (λ clause. Some ((s, g, clause.0), clause.1)) (k, t ++ rest) (Some ((s, g, k), t ++ rest))
    (number_read (codes " ") k t rest free.2 stop) refl))

-- where a clause was found, before the end of the line
abbrev hit_front : Option ℕ → List ℕ
hit_front None = codes " miss"
hit_front (Some p) = codes " hit " ++ decimal p

hit_whole : (h : Option ℕ) → hit_text h ≡ hit_front h ++ codes "\n"
hit_whole None = refl
hit_whole (Some p) = refl

hit_takes : (bytes : List ℕ) (h : Option ℕ) (rest : List ℕ) → hit_at bytes ≡ Some (h, rest) → (bytes ≡ hit_front h ++ rest) × IsHit h
hit_takes bytes h rest e = by_first (first_some (word_at (codes " miss") None bytes) (hit_place_at bytes) (h, rest) e)
  where
    by_first : (word_at (codes " miss") None bytes ≡ Some (h, rest)) ⊎ (hit_place_at bytes ≡ Some (h, rest)) → (bytes ≡ hit_front h ++ rest) × IsHit h
    by_first (inl f) = let p = word_at_takes (codes " miss") None bytes h rest f in subst (λ h. (bytes ≡ hit_front h ++ rest) × IsHit h) (sym p.0) (p.1, tt)
    by_first (inr f) =
        let n = bind_some (number_after (codes " hit ") bytes) (λ n. Some (Some n.0, n.1)) (h, rest) f in
        let p = some_pair_parts (Some n.0.0) h n.0.1 rest n.2 in
        let t = number_after_takes (codes " hit ") bytes n.0.0 n.0.1 n.1 in
        let text : bytes ≡ hit_front (Some n.0.0) ++ rest = t.0 ∙ ap (λ b. codes " hit " ++ (decimal n.0.0 ++ b)) p.1 in
        subst (λ h. (bytes ≡ hit_front h ++ rest) × IsHit h) p.0 (text, t.1)

hit_again : (h : Option ℕ) (rest : List ℕ) → IsHit h → begins_digit rest ≡ false → hit_at (hit_front h ++ rest) ≡ Some (h, rest)
hit_again None rest is stop = refl
hit_again (Some p) rest is stop =
    bind_on (number_after (codes " hit ") (codes " hit " ++ (decimal p ++ rest))) (λ n. Some (Some n.0, n.1)) (p, rest) (Some (Some p, rest))
    (number_after_again (codes " hit ") p rest is stop) refl

abbrev hit_on : Three → ℕ → List ℕ → Option (Call × List ℕ)
hit_on a f bytes = hit_at bytes >>= λ hit. after (codes "\n") hit.1 >>= λ rest. Some (Find a.0 a.1 a.2 f hit.0, rest)

abbrev front_on : Three → List ℕ → Option (Call × List ℕ)
front_on a bytes = number_after (codes " front ") bytes >>= λ front. hit_on a front.0 front.1

find_takes : (bytes : List ℕ) (c : Call) (rest : List ℕ) → find_at bytes ≡ Some (c, rest)
    → (s : ℕ) × (g : ℕ) × (k : ℕ) × (f : ℕ) × (h : Option ℕ) × (c ≡ Find s g k f h) × IsCall (Find s g k f h) × (bytes ≡ call_text (Find s g k f h) ++ rest)
unfolding find_at
find_takes bytes c rest e =
    let a = bind_some (asker_at (codes "find ") bytes) (λ asker. front_on asker.0 asker.1) (c, rest) e in
    let f = bind_some (number_after (codes " front ") a.0.1) (λ front. hit_on a.0.0 front.0 front.1) (c, rest) a.2 in
    let h = bind_some (hit_at f.0.1) (λ hit. after (codes "\n") hit.1 >>= λ rest. Some (Find a.0.0.0 a.0.0.1 a.0.0.2 f.0.0 hit.0, rest)) (c, rest) f.2 in
    let w = bind_some (after (codes "\n") h.0.1) (λ rest. Some (Find a.0.0.0 a.0.0.1 a.0.0.2 f.0.0 h.0.0, rest)) (c, rest) h.2 in
    let p = some_pair_parts (Find a.0.0.0 a.0.0.1 a.0.0.2 f.0.0 h.0.0) c w.0 rest w.2 in
    let t = asker_takes (codes "find ") bytes a.0.0 a.0.1 a.1 in
    let u = hit_takes f.0.1 h.0.0 h.0.1 h.1 in
    let last : h.0.1 ≡ codes "\n" ++ rest = word_last (codes "\n") h.0.1 w.0 rest w.1 p.1 in
    let hit : f.0.1 ≡ hit_text h.0.0 ++ rest =
    u.0 ∙ ap (λ b. hit_front h.0.0 ++ b) last ∙ sym (append_assoc (hit_front h.0.0) (codes "\n") rest) ∙ ap (λ b. b ++ rest) (sym (hit_whole h.0.0)) in
    let front = number_then (codes " front ") (hit_text h.0.0) a.0.1 rest f.0.0 f.0.1 f.1 hit in (
      a.0.0.0,
      a.0.0.1,
      a.0.0.2,
      f.0.0,
      h.0.0,
      sym p.0,
      (t.free.0, t.free.1, t.free.2, front.1, u.1),
      t.text
          (codes " front " ++ (decimal f.0.0 ++ hit_text h.0.0)) rest front.0,
    )

find_again : (s g k f : ℕ) (h : Option ℕ) (rest : List ℕ) → IsCall (Find s g k f h) → find_at (call_text (Find s g k f h) ++ rest) ≡ Some (Find s g k f h, rest)
unfolding find_at
find_again s g k f h rest is =
    let front = codes " front " ++ (decimal f ++ hit_text h) in
    let regroup : hit_text h ++ rest ≡ hit_front h ++ (codes "\n" ++ rest) = ap (λ b. b ++ rest) (hit_whole h) ∙ append_assoc (hit_front h) (codes "\n") rest in
    bind_on (asker_at (codes "find ") (call_text (Find s g k f h) ++ rest)) (λ asker. front_on asker.0 asker.1) ((s, g, k), front ++ rest) (Some (Find s g k f h, rest))
    (asker_again (codes "find ") s g k front rest (is.0, is.1, is.2) refl)
    (bind_on (number_after (codes " front ") (front ++ rest)) (λ front. hit_on (s, g, k) front.0 front.1) (f, hit_text h ++ rest) (Some (Find s g k f h, rest))
    (number_read (codes " front ") f (hit_text h) rest is.3 (hit_stops h))
    (bind_on (hit_at (hit_text h ++ rest)) (λ hit. after (codes "\n") hit.1 >>= λ rest. Some (Find s g k f hit.0, rest)) (h, codes "\n" ++ rest)
    (Some (Find s g k f h, rest))
    (ap hit_at regroup ∙ hit_again h (codes "\n" ++ rest) is.4 refl) refl))
  where
    hit_stops : (h : Option ℕ) → begins_digit (hit_text h ++ rest) ≡ false
    hit_stops None = refl
    hit_stops (Some p) = refl

abbrev store_on : Three → List ℕ → Option (Call × List ℕ)
store_on a bytes = number_after (codes " place ") bytes >>= λ place. after (codes "\n") place.1 >>= λ rest. Some (Store a.0 a.1 a.2 place.0, rest)

store_takes : (bytes : List ℕ) (c : Call) (rest : List ℕ) → store_at bytes ≡ Some (c, rest)
    → (s : ℕ) × (g : ℕ) × (k : ℕ) × (q : ℕ) × (c ≡ Store s g k q) × IsCall (Store s g k q) × (bytes ≡ call_text (Store s g k q) ++ rest)
unfolding store_at
store_takes bytes c rest e =
    let a = bind_some (asker_at (codes "store ") bytes) (λ asker. store_on asker.0 asker.1) (c, rest) e in
    let q =
    bind_some (number_after (codes " place ") a.0.1) (λ place. after (codes "\n") place.1 >>= λ rest. Some (Store a.0.0.0 a.0.0.1 a.0.0.2 place.0, rest))
    (c, rest) a.2 in
    let w = bind_some (after (codes "\n") q.0.1) (λ rest. Some (Store a.0.0.0 a.0.0.1 a.0.0.2 q.0.0, rest)) (c, rest) q.2 in
    let p = some_pair_parts (Store a.0.0.0 a.0.0.1 a.0.0.2 q.0.0) c w.0 rest w.2 in
    let t = asker_takes (codes "store ") bytes a.0.0 a.0.1 a.1 in
    let place = number_then (codes " place ") (codes "\n") a.0.1 rest q.0.0 q.0.1 q.1 (word_last (codes "\n") q.0.1 w.0 rest w.1 p.1) in
    (a.0.0.0, a.0.0.1, a.0.0.2, q.0.0, sym p.0, (t.free.0, t.free.1, t.free.2, place.1), t.text (codes " place " ++ (decimal q.0.0 ++ codes "\n")) rest place.0)

store_again : (s g k q : ℕ) (rest : List ℕ) → IsCall (Store s g k q) → store_at (call_text (Store s g k q) ++ rest) ≡ Some (Store s g k q, rest)
unfolding store_at
store_again s g k q rest is =
    let place = codes " place " ++ (decimal q ++ codes "\n") in
    bind_on (asker_at (codes "store ") (call_text (Store s g k q) ++ rest)) (λ asker. store_on asker.0 asker.1) ((s, g, k), place ++ rest) (Some (Store s g k q, rest))
    (asker_again (codes "store ") s g k place rest (is.0, is.1, is.2) refl)
    (bind_on (number_after (codes " place ") (place ++ rest)) (λ place. after (codes "\n") place.1 >>= λ rest. Some (Store s g k place.0, rest)) (q, codes "\n" ++ rest)
    (Some (Store s g k q, rest))
    (number_read (codes " place ") q (codes "\n") rest is.3 refl) refl)

-- ---- lines

abbrev CallOf : ℕ → ℕ → ℕ → Mode → ℕ → ReportLine → Type 0
CallOf s g h mode n = Fits (reading s g h (AtCall mode n))

called_some : (o : Option (Call × List ℕ)) (l : Line) (rest : List ℕ) → called o ≡ Some (l, rest) → (c : Call) × (o ≡ Some (c, rest)) × (l ≡ lines.Called c)
called_some o l rest e =
    let c = bind_some o (λ c. Some (lines.Called c.0, c.1)) (l, rest) e in
    let p = some_pair_parts (lines.Called c.0.0) l c.0.1 rest c.2 in
    (c.0.0, c.1 ∙ ap (λ r. Some (c.0.0, r)) p.1, sym p.0)

called_none : (o : Option (Call × List ℕ)) → called o ≡ None → o ≡ None
called_none (Some c) e = absurd cc
called_none None e = refl

found_find : (s g h : ℕ) (mode : Mode) (n : ℕ) (bytes : List ℕ) (l : Line) (rest : List ℕ) → called (find_at bytes) ≡ Some (l, rest)
    → ReadsLine (CallOf s g h mode n) bytes l rest
found_find s g h mode n bytes l rest e =
    let c = called_some (find_at bytes) l rest e in
    let t = find_takes bytes c.0 rest c.1 in
    record { line = Called (Find t.0 t.1 t.2 t.3 t.4); is_read = c.2 ∙ ap lines.Called t.5; within = t.6; is = tt; split = t.7 }

found_store : (s g h : ℕ) (mode : Mode) (n : ℕ) (bytes : List ℕ) (l : Line) (rest : List ℕ) → called (store_at bytes) ≡ Some (l, rest)
    → ReadsLine (CallOf s g h mode (suc n)) bytes l rest
found_store s g h mode n bytes l rest e =
    let c = called_some (store_at bytes) l rest e in
    let t = store_takes bytes c.0 rest c.1 in
    record { line = Called (Store t.0 t.1 t.2 t.3); is_read = c.2 ∙ ap lines.Called t.4; within = t.5; is = tt; split = t.6 }

found_after : (s g h : ℕ) (mode : Mode) (bytes : List ℕ) (l : Line) (rest : List ℕ) → after_calls_at mode bytes ≡ Some (l, rest)
    → ReadsLine (CallOf s g h mode 0) bytes l rest
found_after s g h Lia bytes l rest e =
    let t = cache_takes Nia bytes l rest e in
    record { line = Plain (Cache Nia t.opened t.stored t.saved); is_read = t.read; within = t.free; is = refl; split = t.text }
found_after s g h Nia bytes l rest e =
    let t = word_at_takes (codes "end\n") lines.End bytes l rest e in record { line = Plain End; is_read = t.0; within = tt; is = tt; split = t.1 }

-- the line that stands after all calls is read
after_calls_again : (mode : Mode) (bytes : List ℕ) (l : line.Line) (rest : List ℕ) → IsReportLine (Plain l) → FitsCalled mode l → bytes ≡ line_text l ++ rest
    → after_calls_at mode bytes ≢ None
after_calls_again Lia bytes (Cache Nia o n v) rest within fits e =
    found (cache_at Nia) bytes (line_text (Cache Nia o n v) ++ rest) (lines.Cache Nia o n v, rest) e (cache_again Nia o n v rest within)
after_calls_again Lia bytes (Cache Lia o n v) rest within fits e = absurd cc
after_calls_again Lia bytes l rest within fits e = absurd fits
after_calls_again Nia bytes End rest within fits e = found (after_calls_at Nia) bytes (codes "end\n" ++ rest) (lines.End, rest) e refl
after_calls_again Nia bytes l rest within fits e = absurd fits

no_find : (bytes : List ℕ) (s g k f : ℕ) (h : Option ℕ) (rest : List ℕ) → IsCall (Find s g k f h) → bytes ≡ call_text (Find s g k f h) ++ rest
    → called (find_at bytes) ≢ None
no_find bytes s g k f h rest is e =
    λ none. found find_at bytes (call_text (Find s g k f h) ++ rest) (Find s g k f h, rest) e (find_again s g k f h rest is) (called_none (find_at bytes) none)

no_store : (bytes : List ℕ) (s g k q : ℕ) (rest : List ℕ) → IsCall (Store s g k q) → bytes ≡ call_text (Store s g k q) ++ rest → called (store_at bytes) ≢ None
no_store bytes s g k q rest is e =
    λ none. found store_at bytes (call_text (Store s g k q) ++ rest) (Store s g k q, rest) e (store_again s g k q rest is) (called_none (store_at bytes) none)

pub call_reads : (s g h : ℕ) (mode : Mode) (n : ℕ) (bytes : List ℕ) → Reads (CallOf s g h mode n) bytes (call_at mode n bytes)
unfolding call_at
call_reads s g h mode zero bytes = reads_by (CallOf s g h mode 0) bytes (call_at mode 0 bytes) takes again
  where
    takes : (l : Line) (rest : List ℕ) → call_at mode 0 bytes ≡ Some (l, rest) → ReadsLine (CallOf s g h mode 0) bytes l rest
    takes l rest e =
        elim
        (first_some (called (find_at bytes)) (after_calls_at mode bytes)
        (l, rest) e) [ inl f ↦ found_find s g h mode 0 bytes l rest f | inr f ↦ found_after s g h mode bytes l rest f ]

    again : (line : ReportLine) (rest : List ℕ) → IsReportLine line → CallOf s g h mode 0 line → bytes ≡ report_line line ++ rest → call_at mode 0 bytes ≢ None
    again (Plain l) rest within is e = λ none. after_calls_again mode bytes l rest within is e (first_none (called (find_at bytes)) (after_calls_at mode bytes) none).1
    again (Called (Find p q k f hit)) rest within is e =
        λ none. no_find bytes p q k f hit rest within e (first_none (called (find_at bytes)) (after_calls_at mode bytes) none).0
    again (Called (Store p q k place)) rest within is e = absurd is
call_reads s g h mode (suc n) bytes = reads_by (CallOf s g h mode (suc n)) bytes (call_at mode (suc n) bytes) takes again
  where
    takes : (l : Line) (rest : List ℕ) → call_at mode (suc n) bytes ≡ Some (l, rest) → ReadsLine (CallOf s g h mode (suc n)) bytes l rest
    takes l rest e =
        elim
        (first_some (called (find_at bytes)) (called (store_at bytes)) (l, rest) e) [
          | inl f ↦ found_find s g h mode
              (suc n) bytes l rest f
          | inr f ↦ found_store s g h mode n bytes l rest f
        ]

    again : (line : ReportLine) (rest : List ℕ) → IsReportLine line → CallOf s g h mode (suc n) line → bytes ≡ report_line line ++ rest
        → call_at mode (suc n) bytes ≢ None
    again (Plain l) rest within is e = absurd is
    again (Called (Find p q k f hit)) rest within is e =
        λ none. no_find bytes p q k f hit rest within e (first_none (called (find_at bytes)) (called (store_at bytes)) none).0
    again (Called (Store p q k place)) rest within is e =
        λ none. no_store bytes p q k place rest within e (first_none (called (find_at bytes)) (called (store_at bytes)) none).1
