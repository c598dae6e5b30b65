-- The clauses of a proved goal, judged line by line.
use Rattle.std.proofs.Common.{◌≡◌, ℕ, suc, ◌+◌, List, [], ◌∷◌, ◌++◌, drop, length, Option, Some, ◌⊎◌, inl, inr, refl, sym, ap, subst, ◌∙◌, append_assoc, zero-add, arith}
use Rattle.std.specs.Prelude.{slice_get, IsSomeAnd}
use Rattle.std.specs.declared.vec.Vec.{Vec}
use Rattle.std.specs.declared.alloc.Global.{Global}
use Rattle.cert_kit.specs.declared.row.PRow.{PRow}
use Rattle.cert_kit.specs.declared.cert.Cert.{Cert}
use Rattle.cert_kit.specs.Acceptance.{IsGood}
use Rattle.goal_ast.specs.declared.goal.Goal.{Goal}
use Rattle.clause_form.specs.declared.named.Named.{Named}
use Rattle.goal_serve.specs.KeyName.{key_name}
use Rattle.goal_serve.specs.Line as line
use Rattle.report_text.specs.Line.{ReportLine, Plain}
use Rattle.report_text.specs.Report.{Block, block_lines, blocks_lines}
use Rattle.report_text.proofs.RunLaws.{row_lines}
use Rattle.report_check.specs.declared.judging.Place.{Place}
use Rattle.report_check.specs.declared.judging.Judged.{Judged}
use Rattle.report_check.specs.declared.judging.Judged.TheVariants.{Good, Values, Clauses, Rows, Bad}
use Rattle.report_check.specs.Goodness.{IsGoodBlock, AreGoodBlocks}
use Rattle.report_check.specs.machine.Judging.{HasName, HasRow, HasCertificate, IsProvedBy}
use Rattle.report_check.proofs.PlaceInListLaws.{got, first_of, others_of, no_more}
use Rattle.report_check.proofs.LineLaws.{Runs, stays_bad, went, IsNotBad}

-- the lines are well judged, and it goes on from something that isn't bad; or they aren't, and this is the first bad goal
abbrev pub Outcome : Type 0 → Option Goal → Place → Place → List ReportLine → Judged → Type 0
Outcome P goal place first rest out = (P × ((now : Judged) × IsNotBad now × Runs goal place now rest out)) ⊎ ((P → ⊥) × (out ≡ Bad first))

pub outcome_along : (P Q : Type 0) (goal : Option Goal) (place first : Place) (rest : List ReportLine) (out : Judged) → (P → Q) → (Q → P) → Outcome P goal place first rest out → Outcome Q goal place first rest out
outcome_along P Q goal place first rest out f g (inl x) = inl (f x.0, x.1)
outcome_along P Q goal place first rest out f g (inr x) = inr (λ q. x.0 (g q), x.1)

-- ---- the rows of a clause

abbrev RowsGo : Option Goal → Place → Vec Named Global → ℕ → ℕ → List PRow → List PRow → List ReportLine → Judged → Type 0
RowsGo goal place plan k i expected rows rest out =
    ((more : List PRow) × (expected ≡ rows ++ more) × Runs goal place (Rows plan k (i + length rows)) rest out) ⊎ ((expected ≡ rows → ⊥) × (out ≡ Bad place))

-- a row more in front
one_row_more : (goal : Option Goal) (place : Place) (plan : Vec Named Global) (k i : ℕ) (expected others rows : List PRow) (row : PRow) (rest : List ReportLine) (out : Judged)
    → expected ≡ row ∷ others → RowsGo goal place plan k (i + 1) others rows rest out → RowsGo goal place plan k i expected (row ∷ rows) rest out
one_row_more goal place plan k i expected others rows row rest out e (inl x) =
    inl (x.0, e ∙ ap (λ rs. row ∷ rs) x.1, subst (λ n. Runs goal place (Rows plan k n) rest out) (omega arith) x.2)
one_row_more goal place plan k i expected others rows row rest out e (inr x) = inr (λ same. x.0 (cc), x.1)

row_goes : (goal : Option Goal) (place : Place) (plan : Vec Named Global) (k i : ℕ) (n : Named) (row : PRow) (rows : List PRow) (rest : List ReportLine) (now out : Judged)
    → slice_get plan.items k ≡ Some n → Runs goal place now (row_lines rows ++ rest) out
    → (Runs goal place (Rows plan k (i + 1)) (row_lines rows ++ rest) out → RowsGo goal place plan k (i + 1) (drop (i + 1) n.clause.rows) rows rest out)
    → (HasRow plan.items k i row × (now ≡ Rows plan k (i + 1))) ⊎ ((HasRow plan.items k i row → ⊥) × (now ≡ Bad place))
    → RowsGo goal place plan k i (drop i n.clause.rows) (row ∷ rows) rest out
row_goes goal place plan k i n row rows rest now out there run others (inl s) =
    let e : slice_get n.clause.rows i ≡ Some row = subst (λ o. IsSomeAnd o (λ (n : Named). slice_get n.clause.rows i ≡ Some row)) there s.0 in
    one_row_more goal place plan k i (drop i n.clause.rows) (drop (i + 1) n.clause.rows) rows row rest out (got n.clause.rows i row e)
    (others (subst (λ j. Runs goal place j (row_lines rows ++ rest) out) s.1 run))
row_goes goal place plan k i n row rows rest now out there run others (inr s) = inr (
  λ same. s.0 (subst (λ o. IsSomeAnd o (λ (n : Named). slice_get n.clause.rows i ≡ Some row)) (sym there) (first_of n.clause.rows i row rows same)),
  stays_bad goal place place (row_lines rows ++ rest) out (subst (λ j. Runs goal place j (row_lines rows ++ rest) out) s.1 run),
)

rows_go : (goal : Option Goal) (place : Place) (plan : Vec Named Global) (k i : ℕ) (n : Named) (rows : List PRow) (rest : List ReportLine) (out : Judged)
    → slice_get plan.items k ≡ Some n → Runs goal place (Rows plan k i) (row_lines rows ++ rest) out
    → RowsGo goal place plan k i (drop i n.clause.rows) rows rest out
rows_go goal place plan k i n [] rest out there run =
    inl (drop i n.clause.rows, refl, subst (λ m. Runs goal place (Rows plan k m) rest out) (omega arith) run)
rows_go goal place plan k i n (row ∷ rows) rest out there run =
    row_goes goal place plan k i n row rows rest run.0 out there run.2 (λ more. rows_go goal place plan k (i + 1) n rows rest out there more)
    (went (HasRow plan.items k i row) (Rows plan k (i + 1)) place run.0 run.1)

-- ---- a clause

abbrev BlockGoes : Option Goal → Place → Vec Named Global → ℕ → Named → Block → List ReportLine → Judged → Type 0
BlockGoes goal place plan k n b rest out = (IsGoodBlock n b × Runs goal place (Clauses plan (k + 1)) rest out) ⊎ ((IsGoodBlock n b → ⊥) × (out ≡ Bad place))

certificate_goes : (goal : Option Goal) (place : Place) (plan : Vec Named Global) (k : ℕ) (n : Named) (b : Block) (more : List PRow) (rest : List ReportLine) (now out : Judged)
    → slice_get plan.items k ≡ Some n → b.name ≡ key_name n.clause → n.clause.rows ≡ b.rows ++ more → Runs goal place now rest out
    → (HasCertificate plan.items k (length b.rows) b.cert × (now ≡ Clauses plan (k + 1))) ⊎ ((HasCertificate plan.items k (length b.rows) b.cert → ⊥) × (now ≡ Bad place))
    → BlockGoes goal place plan k n b rest out
certificate_goes goal place plan k n b more rest now out there named e run (inl s) =
    let p : IsProvedBy n.clause.rows (length b.rows) b.cert = subst (λ o. IsSomeAnd o (λ (n : Named). IsProvedBy n.clause.rows (length b.rows) b.cert)) there s.0 in
    let same : n.clause.rows ≡ b.rows = no_more n.clause.rows b.rows more e p.0 in
    inl (
      record { named = named; rows = sym same; good = subst (λ rows. IsGood rows b.cert) same p.1 },
      subst (λ j. Runs goal place j rest out) s.1 run,
    )
certificate_goes goal place plan k n b more rest now out there named e run (inr s) = inr (
  λ g. s.0 (subst (λ o. IsSomeAnd o (λ (n : Named). IsProvedBy n.clause.rows (length b.rows) b.cert)) (sym there)
      (ap length g.rows, subst (λ rows. IsGood rows b.cert) g.rows g.good)),
  stays_bad goal place place rest out (subst (λ j. Runs goal place j rest out) s.1 run),
)

after_rows : (goal : Option Goal) (place : Place) (plan : Vec Named Global) (k : ℕ) (n : Named) (b : Block) (rest : List ReportLine) (out : Judged)
    → slice_get plan.items k ≡ Some n → b.name ≡ key_name n.clause
    → RowsGo goal place plan k 0 n.clause.rows b.rows (Plain (line.Certificate b.cert) ∷ rest) out → BlockGoes goal place plan k n b rest out
after_rows goal place plan k n b rest out there named (inl s) =
    let run = subst (λ m. Runs goal place (Rows plan k m) (Plain (line.Certificate b.cert) ∷ rest) out) (zero-add (length b.rows)) s.2 in
    certificate_goes goal place plan k n b s.0 rest run.0 out there named s.1 run.2
    (went (HasCertificate plan.items k (length b.rows) b.cert) (Clauses plan (k + 1)) place run.0 run.1)
after_rows goal place plan k n b rest out there named (inr s) = inr (λ g. s.0 (sym g.rows), s.1)

after_name : (goal : Option Goal) (place : Place) (plan : Vec Named Global) (k : ℕ) (n : Named) (b : Block) (rest : List ReportLine) (now out : Judged)
    → slice_get plan.items k ≡ Some n → Runs goal place now ((row_lines b.rows ++ Plain (line.Certificate b.cert) ∷ []) ++ rest) out
    → (HasName plan.items k b.name × (now ≡ Rows plan k 0)) ⊎ ((HasName plan.items k b.name → ⊥) × (now ≡ Bad place)) → BlockGoes goal place plan k n b rest out
after_name goal place plan k n b rest now out there run (inl s) =
    let named : b.name ≡ key_name n.clause = subst (λ o. IsSomeAnd o (λ (n : Named). b.name ≡ key_name n.clause)) there s.0 in
    let at_rows : Runs goal place (Rows plan k 0) (row_lines b.rows ++ Plain (line.Certificate b.cert) ∷ rest) out =
    subst (λ ls. Runs goal place (Rows plan k 0) ls out) (append_assoc (row_lines b.rows) (Plain (line.Certificate b.cert) ∷ []) rest)
    (subst (λ j. Runs goal place j ((row_lines b.rows ++ Plain (line.Certificate b.cert) ∷ []) ++ rest) out) s.1 run) in
    after_rows goal place plan k n b rest out there named (rows_go goal place plan k 0 n b.rows (Plain (line.Certificate b.cert) ∷ rest) out there at_rows)
after_name goal place plan k n b rest now out there run (inr s) = inr (
  λ g. s.0 (subst (λ o. IsSomeAnd o (λ (n : Named). b.name ≡ key_name n.clause)) (sym there) g.named),
  stays_bad goal place place ((row_lines b.rows ++ Plain (line.Certificate b.cert) ∷ []) ++ rest) out
      (subst (λ j. Runs goal place j ((row_lines b.rows ++ Plain (line.Certificate b.cert) ∷ []) ++ rest) out) s.1 run),
)

block_goes : (goal : Option Goal) (place : Place) (plan : Vec Named Global) (k : ℕ) (n : Named) (b : Block) (rest : List ReportLine) (out : Judged)
    → slice_get plan.items k ≡ Some n → Runs goal place (Clauses plan k) (block_lines k b ++ rest) out → BlockGoes goal place plan k n b rest out
block_goes goal place plan k n b rest out there run =
    after_name goal place plan k n b rest run.0 out there run.2 (went (HasName plan.items k b.name) (Rows plan k 0) place run.0 run.1)

-- ---- all clauses

block_and_others : (goal : Option Goal) (place : Place) (plan : Vec Named Global) (k : ℕ) (n : Named) (cs : List Named) (b : Block) (blocks : List Block) (rest : List ReportLine) (out : Judged)
    → (Runs goal place (Clauses plan (k + 1)) (blocks_lines (k + 1) blocks ++ rest) out → Outcome (AreGoodBlocks cs blocks) goal place place rest out)
    → BlockGoes goal place plan k n b (blocks_lines (k + 1) blocks ++ rest) out → Outcome (AreGoodBlocks (n ∷ cs) (b ∷ blocks)) goal place place rest out
block_and_others goal place plan k n cs b blocks rest out others (inl s) = with_first (others s.1)
  where
    with_first : Outcome (AreGoodBlocks cs blocks) goal place place rest out → Outcome (AreGoodBlocks (n ∷ cs) (b ∷ blocks)) goal place place rest out
    with_first (inl t) = inl ((s.0, t.0), t.1)
    with_first (inr t) = inr (λ g. t.0 g.1, t.1)
block_and_others goal place plan k n cs b blocks rest out others (inr s) = inr (λ g. s.0 g.0, s.1)

pub blocks_go : (goal : Option Goal) (place : Place) (plan : Vec Named Global) (k : ℕ) (cs : List Named) (blocks : List Block) (rest : List ReportLine) (out : Judged)
    → drop k plan.items ≡ cs → length blocks ≡ length cs → Runs goal place (Clauses plan k) (blocks_lines k blocks ++ rest) out
    → Outcome (AreGoodBlocks cs blocks) goal place place rest out
blocks_go goal place plan k [] [] rest out left same run = inl (tt, (Clauses plan k, tt, run))
blocks_go goal place plan k [] (b ∷ blocks) rest out left same run = absurd (omega (arith, same))
blocks_go goal place plan k (n ∷ cs) [] rest out left same run = absurd (omega (arith, same))
blocks_go goal place plan k (n ∷ cs) (b ∷ blocks) rest out left same run =
    block_and_others goal place plan k n cs b blocks rest out
    (λ more. blocks_go goal place plan (k + 1) cs blocks rest out (others_of plan.items k n cs left) (omega (arith, same)) more)
    (block_goes goal place plan k n b (blocks_lines (k + 1) blocks ++ rest) out (first_of plan.items k n cs left)
    (subst (λ ls. Runs goal place (Clauses plan k) ls out) (append_assoc (block_lines k b) (blocks_lines (k + 1) blocks) rest) run))
