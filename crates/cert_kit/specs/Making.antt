-- How certificates are made: steps that lead from rows to more rows, and expressions over rows with other numbers.
use Rattle.std.specs.Prelude.{◌≡◌, ℕ, ℤ, pos, ◌+ℤ◌, List, [], ◌∷◌, ◌++◌, true, Some}
use Rattle.mm_poly.specs.declared.term.Term.{Term}
use Rattle.cert_kit.specs.declared.row.PRow.{PRow}
use Rattle.cert_kit.specs.declared.cert.Psatz.{Psatz}
use Rattle.cert_kit.specs.declared.cert.Psatz.TheOpen.{Psatz-F}
use Rattle.cert_kit.specs.declared.cert.Psatz.TheVariants.{Hyp, Square, MulPoly, Mul, Add, Const, Zero}
use Rattle.cert_kit.specs.declared.cert.Psatz.TheFolds.{fold-Psatz}
use Rattle.cert_kit.specs.declared.cert.Ends.{Ends}
use Rattle.cert_kit.specs.declared.cert.Step.{Step}
use Rattle.cert_kit.specs.declared.cert.Cert.{Cert}
use Rattle.cert_kit.specs.Acceptance.{with_row, rows_after, steps_within, value_row, IsGood}

-- the two expressions of an enumeration
abbrev pub ends : Psatz → Psatz → Ends
ends e f = record { lower = e; upper = f }

-- the steps make these rows of the given ones, each node within its bounds
pub record Makes (given : List PRow) (steps : List Step) (rows : List PRow) : Type 0 where
  pub made : rows_after steps given ≡ Some rows
  pub within : steps_within steps given ≡ true

-- a good certificate for each value, from v on, with q - v = 0 appended
abbrev pub AreGood : List Term → ℤ → List Cert → List PRow → Type 0
AreGood q v [] rows = Unit {0}
AreGood q v (c ∷ cs) rows = IsGood (with_row rows (value_row q v)) c × AreGood q (v +ℤ pos 1) cs rows

-- the numbers of the rows that an expression names
abbrev pub numbers_step : Psatz-F (List ℕ) → List ℕ
numbers_step (Psatz-F.Hyp n) = n ∷ []
numbers_step (Psatz-F.Square p) = []
numbers_step (Psatz-F.MulPoly p ns) = ns
numbers_step (Psatz-F.Mul ns ms) = ns ++ ms
numbers_step (Psatz-F.Add ns ms) = ns ++ ms
numbers_step (Psatz-F.Const c) = []
numbers_step Psatz-F.Zero = []

abbrev pub numbers_of : Psatz → List ℕ
numbers_of = fold-Psatz (List ℕ) numbers_step

-- the expression with other numbers for the rows
abbrev pub renumbered_step : (ℕ → ℕ) → Psatz-F Psatz → Psatz
renumbered_step f (Psatz-F.Hyp n) = Hyp (f n)
renumbered_step f (Psatz-F.Square p) = Square p
renumbered_step f (Psatz-F.MulPoly p e) = MulPoly p e
renumbered_step f (Psatz-F.Mul d e) = Mul d e
renumbered_step f (Psatz-F.Add d e) = Add d e
renumbered_step f (Psatz-F.Const c) = Const c
renumbered_step f Psatz-F.Zero = Zero

abbrev pub renumbered : (ℕ → ℕ) → Psatz → Psatz
renumbered f = fold-Psatz Psatz (renumbered_step f)
