-- Two rows that no integer solves, and a certificate of three steps over them.
use Rattle.std.specs.Prelude.{ℤ, pos, negsuc, List, [], ◌∷◌}
use Rattle.mm_poly.specs.declared.term.Term.{Term}
use Rattle.cert_kit.specs.declared.row.PRow.{PRow}
use Rattle.cert_kit.specs.declared.cert.Psatz.TheVariants.{Hyp, Mul, Add, Const}
use Rattle.cert_kit.specs.declared.cert.Step.{Step}
use Rattle.cert_kit.specs.declared.cert.Step.TheVariants.{Rat}
use Rattle.cert_kit.specs.declared.cert.Cert.{Cert}
use Rattle.cert_kit.specs.declared.cert.Close.TheVariants.{Done}
use Rattle.cert_kit.specs.Meaning.{at_least_0}

abbrev pub times_x0 : ℤ → Term
times_x0 c = record { coeff = c; mono = (0, 1) ∷ [] }

abbrev pub constant : ℤ → Term
constant c = record { coeff = c; mono = [] }

-- x0 - 1 >= 0 and -x0 >= 0
abbrev pub two_rows : List PRow
two_rows = at_least_0 (times_x0 (pos 1) ∷ constant (negsuc 0) ∷ []) ∷ at_least_0 (times_x0 (negsuc 0) ∷ []) ∷ []

-- -1 >= 0, twice that, and the sum of both
abbrev pub three_steps : List Step
three_steps = Rat (Add (Hyp 0) (Hyp 1)) ∷ Rat (Mul (Const (pos 2)) (Hyp 2)) ∷ Rat (Add (Hyp 3) (Hyp 2)) ∷ []

abbrev pub three_step_certificate : Cert
three_step_certificate = record { steps = three_steps; close = Done }
