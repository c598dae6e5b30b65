-- Reports with the same lines are the same.
use Rattle.std.proofs.Common.{◌≡◌, ℕ, ◌+◌, ℤ, List, [], ◌∷◌, ◌++◌, map, length, Some, None, refl, sym, ap, subst, ◌∙◌, append_assoc, arith}
use Rattle.std.specs.List.{AllByRecursion}
use Rattle.cert_kit.specs.declared.row.PRow.{PRow}
use Rattle.cert_kit.specs.declared.cert.Cert.{Cert}
use Rattle.goal_ast.specs.declared.goal.Bound.{Bound}
use Rattle.goal_ast.specs.declared.goal.Mode.{Mode}
use Rattle.goal_ast.specs.declared.goal.Mode.TheVariants.{Lia, Nia}
use Rattle.goal_ast.specs.declared.goal.Name.{Name}
use Rattle.goal_serve.specs.declared.answers.Origin.{Origin}
use Rattle.goal_serve.specs.Line as line
use Rattle.report_text.specs.declared.call.Call.{Call}
use Rattle.report_text.specs.Line.{ReportLine, Plain, Called}
use Rattle.report_text.specs.Report.{Block, Reply, Proved, Refuted, Unsettled, Oversize, Entered, Sorted, Unsorted, SessionShown, Kept, Report, block_lines, blocks_lines, values_lines, reply_lines, entered_lines, goals_lines, sessions_lines, stores, kept_lines, report_lines, AreValues, IsReply, IsEntered, IsSession, IsReport}
use Rattle.report_text.proofs.RunLaws.{row_lines}

parts : {A : Type 0} (x y : A) (xs ys : List A) → x ∷ xs ≡ y ∷ ys → (x ≡ y) × (xs ≡ ys)
parts x y xs ys e = (cc, cc)

-- ---- clauses

rows_same : (rs ss : List PRow) (c d : Cert) (x y : List ReportLine)
    → row_lines rs ++ (Plain (line.Certificate c) ∷ x) ≡ row_lines ss ++ (Plain (line.Certificate d) ∷ y) → (rs ≡ ss) × (c ≡ d) × (x ≡ y)
rows_same [] [] c d x y e = (refl, cc, cc)
rows_same [] (s ∷ ss) c d x y e = absurd cc
rows_same (r ∷ rs) [] c d x y e = absurd cc
rows_same (r ∷ rs) (s ∷ ss) c d x y e =
    let p = parts (Plain (line.Row r)) (Plain (line.Row s)) (row_lines rs ++ (Plain (line.Certificate c) ∷ x)) (row_lines ss ++ (Plain (line.Certificate d) ∷ y)) e in
    let first : r ≡ s = cc in
    let q = rows_same rs ss c d x y p.1 in
    (ap (λ t. t ∷ rs) first ∙ ap (λ ts. s ∷ ts) q.0, q.1, q.2)

abbrev made : List ℕ → Origin → List PRow → Cert → Block
made name origin rows cert = record { name = name; origin = origin; rows = rows; cert = cert }

block_same : (k : ℕ) (b c : Block) (x y : List ReportLine) → block_lines k b ++ x ≡ block_lines k c ++ y → (b ≡ c) × (x ≡ y)
block_same k b c x y e =
    let p =
    parts (Plain (line.Clause k b.name b.origin)) (Plain (line.Clause k c.name c.origin)) ((row_lines b.rows ++ Plain (line.Certificate b.cert) ∷ []) ++ x)
    ((row_lines c.rows ++ Plain (line.Certificate c.cert) ∷ []) ++ y) e in
    let first = p.0 in
    let named : b.name ≡ c.name = cc in
    let origin : b.origin ≡ c.origin = cc in
    let q = rows_same b.rows c.rows b.cert c.cert x y
    (sym (append_assoc (row_lines b.rows) (Plain (line.Certificate b.cert) ∷ []) x) ∙ p.1 ∙ append_assoc (row_lines c.rows) (Plain (line.Certificate c.cert) ∷ []) y) in
    let same : b ≡ c =
    ap (λ n. made n b.origin b.rows b.cert) named ∙ ap (λ o. made c.name o b.rows b.cert) origin ∙ ap (λ r. made c.name c.origin r b.cert) q.0 ∙ ap
    (made c.name c.origin c.rows) q.1 in
    (same, q.2)

blocks_same : (k : ℕ) (bs cs : List Block) (x y : List ReportLine) → length bs ≡ length cs → blocks_lines k bs ++ x ≡ blocks_lines k cs ++ y → (bs ≡ cs) × (x ≡ y)
blocks_same k [] [] x y n e = (refl, e)
blocks_same k [] (c ∷ cs) x y n e = absurd (omega (arith, n))
blocks_same k (b ∷ bs) [] x y n e = absurd (omega (arith, n))
blocks_same k (b ∷ bs) (c ∷ cs) x y n e =
    let others = blocks_lines (k + 1) bs in
    let more = blocks_lines (k + 1) cs in
    let p = block_same k b c (others ++ x) (more ++ y) (sym (append_assoc (block_lines k b) others x) ∙ e ∙ append_assoc (block_lines k c) more y) in
    let q = blocks_same (k + 1) bs cs x y (omega (arith, n)) p.1 in
    (ap (λ b. b ∷ bs) p.0 ∙ ap (λ bs. c ∷ bs) q.0, q.1)

-- ---- goals

values_same : (vars : List Bound) (zs ws : List ℤ) (x y : List ReportLine) → AreValues vars zs → AreValues vars ws
    → values_lines vars zs ++ x ≡ values_lines vars ws ++ y → (zs ≡ ws) × (x ≡ y)
values_same [] [] [] x y i j e = (refl, e)
values_same [] [] (w ∷ ws) x y i j e = absurd j
values_same [] (z ∷ zs) ws x y i j e = absurd i
values_same (v ∷ vars) [] ws x y i j e = absurd i
values_same (v ∷ vars) (z ∷ zs) [] x y i j e = absurd j
values_same (v ∷ vars) (z ∷ zs) (w ∷ ws) x y i j e =
    let p = parts (Plain (line.Value v z)) (Plain (line.Value v w)) (values_lines vars zs ++ x) (values_lines vars ws ++ y) e in
    let first : z ≡ w = cc in
    let q = values_same vars zs ws x y i.1 j.1 p.1 in
    (ap (λ z. z ∷ zs) first ∙ ap (λ zs. w ∷ zs) q.0, q.1)

reply_same : (vars : List Bound) (a b : Reply) (x y : List ReportLine) → IsReply vars a → IsReply vars b → reply_lines vars a ++ x ≡ reply_lines vars b ++ y
    → (a ≡ b) × (x ≡ y)
reply_same vars (Proved bs) (Proved cs) x y i j e =
    let p = parts (Plain (line.Proved (length bs))) (Plain (line.Proved (length cs))) (blocks_lines 0 bs ++ x) (blocks_lines 0 cs ++ y) e in
    let n : length bs ≡ length cs = cc in
    let q = blocks_same 0 bs cs x y n p.1 in
    (ap Proved q.0, q.1)
reply_same vars (Refuted zs) (Refuted ws) x y i j e =
    let q = values_same vars zs ws x y i j (parts (Plain line.Refuted) (Plain line.Refuted) (values_lines vars zs ++ x) (values_lines vars ws ++ y) e).1 in
    (ap Refuted q.0, q.1)
reply_same vars (Unsettled m why) (Unsettled n other) x y i j e = (cc, cc)
reply_same vars (Oversize k) (Oversize l) x y i j e = (cc, cc)
reply_same vars a b x y i j e = absurd cc

entered_same : (h : ℕ) (a b : Entered) (x y : List ReportLine) → IsEntered a → IsEntered b → entered_lines h a ++ x ≡ entered_lines h b ++ y → (a ≡ b) × (x ≡ y)
entered_same h (Sorted f r) (Sorted g s) x y i j e =
    let p = parts (Plain (line.Asked h f.mode (Some f))) (Plain (line.Asked h g.mode (Some g))) (reply_lines f.vars r ++ x) (reply_lines g.vars s ++ y) e in
    let same : f ≡ g = cc in
    let vars : g.vars ≡ f.vars = ap (λ g. g.vars) (sym same) in
    let q = reply_same f.vars r s x y i.1 (subst (λ v. IsReply v s) vars j.1) (p.1 ∙ ap (λ v. reply_lines v s ++ y) vars) in
    (ap (λ f. Sorted f r) same ∙ ap (Sorted g) q.0, q.1)
entered_same h (Unsorted m at) (Unsorted n other) x y i j e =
    let p = parts (Plain (line.Asked h m None)) (Plain (line.Asked h n None)) (Plain (line.IllSorted at) ∷ x) (Plain (line.IllSorted other) ∷ y) e in
    let q = parts (Plain (line.IllSorted at)) (Plain (line.IllSorted other)) x y p.1 in
    let moded : m ≡ n = cc in
    let placed : at ≡ other = cc in
    (ap (λ m. Unsorted m at) moded ∙ ap (Unsorted n) placed, q.1)
entered_same h (Sorted f r) (Unsorted n other) x y i j e = absurd cc
entered_same h (Unsorted m at) (Sorted g s) x y i j e = absurd cc

-- no goal's line is the first
abbrev NoGoal : List ReportLine → Type 0
NoGoal (Plain (line.Asked n mode goal) ∷ lines) = ⊥
NoGoal lines = Unit {0}

goal_first : {A : Type 0} (h : ℕ) (a : Entered) (x : List ReportLine) → NoGoal (entered_lines h a ++ x) → A
goal_first h (Sorted goal reply) x none = absurd none
goal_first h (Unsorted mode at) x none = absurd none

goals_same : (h : ℕ) (gs hs : List Entered) (x y : List ReportLine) → AllByRecursion IsEntered gs → AllByRecursion IsEntered hs → NoGoal x → NoGoal y
    → goals_lines h gs ++ x ≡ goals_lines h hs ++ y → (gs ≡ hs) × (x ≡ y)
goals_same h [] [] x y i j none other e = (refl, e)
goals_same h [] (b ∷ hs) x y i j none other e =
    goal_first h b (goals_lines (h + 1) hs ++ y) (subst NoGoal (e ∙ append_assoc (entered_lines h b) (goals_lines (h + 1) hs) y) none)
goals_same h (a ∷ gs) [] x y i j none other e =
    goal_first h a (goals_lines (h + 1) gs ++ x) (subst NoGoal (sym e ∙ append_assoc (entered_lines h a) (goals_lines (h + 1) gs) x) other)
goals_same h (a ∷ gs) (b ∷ hs) x y i j none other e =
    let others = goals_lines (h + 1) gs in
    let more = goals_lines (h + 1) hs in
    let p = entered_same h a b (others ++ x) (more ++ y) i.0 j.0 (sym (append_assoc (entered_lines h a) others x) ∙ e ∙ append_assoc (entered_lines h b) more y) in
    let q = goals_same (h + 1) gs hs x y i.1 j.1 none other p.1 in
    (ap (λ a. a ∷ gs) p.0 ∙ ap (λ gs. b ∷ gs) q.0, q.1)

-- ---- sessions

-- neither a session's line nor a goal's is the first
abbrev NoSession : List ReportLine → Type 0
NoSession (Plain (line.Session n name) ∷ lines) = ⊥
NoSession (Plain (line.Asked n mode goal) ∷ lines) = ⊥
NoSession lines = Unit {0}

no_goal : (x : List ReportLine) → NoSession x → NoGoal x
no_goal [] none = tt
no_goal (Plain (line.Asked n mode goal) ∷ lines) none = absurd none
no_goal (Plain l ∷ lines) none = tt
no_goal (Called c ∷ lines) none = tt

no_goal_after : (s : ℕ) (sessions : List SessionShown) (x : List ReportLine) → NoSession x → NoGoal (sessions_lines s sessions ++ x)
no_goal_after s [] x none = no_goal x none
no_goal_after s (session ∷ sessions) x none = tt

abbrev named : Name → List Entered → SessionShown
named name goals = record { name = name; goals = goals }

sessions_same : (s : ℕ) (ss ts : List SessionShown) (x y : List ReportLine) → AllByRecursion IsSession ss → AllByRecursion IsSession ts → NoSession x → NoSession y
    → sessions_lines s ss ++ x ≡ sessions_lines s ts ++ y → (ss ≡ ts) × (x ≡ y)
sessions_same s [] [] x y i j none other e = (refl, e)
sessions_same s [] (b ∷ ts) x y i j none other e = absurd (subst NoSession e none)
sessions_same s (a ∷ ss) [] x y i j none other e = absurd (subst NoSession (sym e) other)
sessions_same s (a ∷ ss) (b ∷ ts) x y i j none other e =
    let others = sessions_lines (s + 1) ss in
    let more = sessions_lines (s + 1) ts in
    let whole : Plain (line.Session s a.name) ∷ (goals_lines 0 a.goals ++ (others ++ x)) ≡ Plain (line.Session s b.name) ∷ (goals_lines 0 b.goals ++ (more ++ y)) =
    sym (append_assoc (Plain (line.Session s a.name) ∷ goals_lines 0 a.goals) others x) ∙ e ∙ append_assoc
    (Plain (line.Session s b.name) ∷ goals_lines 0 b.goals) more y in
    let p = parts (Plain (line.Session s a.name)) (Plain (line.Session s b.name)) (goals_lines 0 a.goals ++ (others ++ x)) (goals_lines 0 b.goals ++ (more ++ y)) whole in
    let name : a.name ≡ b.name = cc in
    let q = goals_same 0 a.goals b.goals (others ++ x) (more ++ y) i.0.goals j.0.goals (no_goal_after (s + 1) ss x none) (no_goal_after (s + 1) ts y other) p.1 in
    let same : a ≡ b = ap (λ n. named n a.goals) name ∙ ap (named b.name) q.0 in
    let r = sessions_same (s + 1) ss ts x y i.1 j.1 none other q.1 in
    (ap (λ a. a ∷ ss) same ∙ ap (λ ss. b ∷ ss) r.0, r.1)

-- ---- caches

abbrev NoCall : List ReportLine → Type 0
NoCall (Called c ∷ lines) = ⊥
NoCall lines = Unit {0}

calls_same : (cs ds : List Call) (x y : List ReportLine) → NoCall x → NoCall y → map Called cs ++ x ≡ map Called ds ++ y → (cs ≡ ds) × (x ≡ y)
calls_same [] [] x y none other e = (refl, e)
calls_same [] (d ∷ ds) x y none other e = absurd (subst NoCall e none)
calls_same (c ∷ cs) [] x y none other e = absurd (subst NoCall (sym e) other)
calls_same (c ∷ cs) (d ∷ ds) x y none other e =
    let p = parts (Called c) (Called d) (map Called cs ++ x) (map Called ds ++ y) e in
    let first : c ≡ d = cc in
    let q = calls_same cs ds x y none other p.1 in
    (ap (λ c. c ∷ cs) first ∙ ap (λ cs. d ∷ cs) q.0, q.1)

abbrev kept : ℕ → ℕ → List Call → Kept
kept opened saved history = record { opened = opened; saved = saved; history = history }

kept_same : (mode : Mode) (c d : Kept) (x y : List ReportLine) → NoCall x → NoCall y → kept_lines mode c ++ x ≡ kept_lines mode d ++ y → (c ≡ d) × (x ≡ y)
kept_same mode c d x y none other e =
    let p =
    parts (Plain (line.Cache mode c.opened (stores c.history) c.saved)) (Plain (line.Cache mode d.opened (stores d.history) d.saved)) (map Called c.history ++ x)
    (map Called d.history ++ y) e in
    let first = p.0 in
    let opened : c.opened ≡ d.opened = cc in
    let saved : c.saved ≡ d.saved = cc in
    let q = calls_same c.history d.history x y none other p.1 in
    let same : c ≡ d = ap (λ o. kept o c.saved c.history) opened ∙ ap (λ v. kept d.opened v c.history) saved ∙ ap (kept d.opened d.saved) q.0 in
    (same, q.1)

-- ---- reports

abbrev report : List SessionShown → Kept → Kept → Report
report sessions lia nia = record { sessions = sessions; lia = lia; nia = nia }

abbrev last : List ReportLine
last = Plain line.End ∷ []

pub one_report : (r s : Report) → IsReport r → IsReport s → report_lines r ≡ report_lines s → r ≡ s
one_report r s i j e =
    let nia_of = λ (r : Report). kept_lines Nia r.nia ++ last in
    let lia_of = λ (r : Report). kept_lines Lia r.lia ++ nia_of r in
    let p = parts (Plain line.Begin) (Plain line.Begin) (sessions_lines 0 r.sessions ++ lia_of r) (sessions_lines 0 s.sessions ++ lia_of s) e in
    let a = sessions_same 0 r.sessions s.sessions (lia_of r) (lia_of s) i.sessions j.sessions tt tt p.1 in
    let b = kept_same Lia r.lia s.lia (nia_of r) (nia_of s) tt tt a.1 in
    let c = kept_same Nia r.nia s.nia last last tt tt b.1 in
    ap (λ t. report t r.lia r.nia) a.0 ∙ ap (λ k. report s.sessions k r.nia) b.0 ∙ ap (report s.sessions s.lia) c.0
