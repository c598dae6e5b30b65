-- The text of rows and certificates: the one spelling of each.
use Rattle.std.specs.Prelude.{◌≡◌, ℕ, ℤ, pos, negsuc, unsigned_abs, List, [], ◌∷◌, ◌++◌, Bool, false, ◌==◌, ◌||◌, if◌then◌else◌, codes, decimal}
use Rattle.std.specs.List.{flat_map}
use Rattle.mm_poly.specs.declared.term.Term.{Term}
use Rattle.cert_kit.specs.declared.row.Op.{Op}
use Rattle.cert_kit.specs.declared.row.Op.TheVariants.{Ge, Eq}
use Rattle.cert_kit.specs.declared.row.PRow.{PRow}
use Rattle.cert_kit.specs.declared.cert.Psatz.{Psatz}
use Rattle.cert_kit.specs.declared.cert.Psatz.TheOpen.{Psatz-F}
use Rattle.cert_kit.specs.declared.cert.Psatz.TheFolds.{fold-Psatz}
use Rattle.cert_kit.specs.declared.cert.Step.{Step}
use Rattle.cert_kit.specs.declared.cert.Step.TheVariants.{Rat, Cut}
use Rattle.cert_kit.specs.declared.cert.Cert.{Cert}
use Rattle.cert_kit.specs.declared.cert.Close.{Close}
use Rattle.cert_kit.specs.declared.cert.Close.TheOpen.{Close-F, Cert-F}
use Rattle.cert_kit.specs.declared.cert.Close.TheFolds.{fold-Close, fold-Cert}

-- a variable, with its exponent where that is above 1
abbrev pub factor_text : (ℕ × ℕ) → List ℕ
factor_text f = codes "x" ++ (decimal f.0 ++ (if f.1 == 1 then [] else codes "^" ++ decimal f.1))

-- factors joined by *
abbrev pub more_factors : List (ℕ × ℕ) → List ℕ
more_factors [] = []
more_factors (f ∷ fs) = codes "*" ++ (factor_text f ++ more_factors fs)

-- a magnitude before factors: 1 is left out
abbrev pub magnitude_text : ℕ → List ℕ
magnitude_text n = if n == 1 then [] else decimal n ++ codes "*"

-- a magnitude and a monomial
abbrev pub term_text : ℕ → List (ℕ × ℕ) → List ℕ
term_text n [] = decimal n
term_text n (f ∷ fs) = magnitude_text n ++ (factor_text f ++ more_factors fs)

abbrev pub first_sign : ℤ → List ℕ
first_sign (pos n) = []
first_sign (negsuc n) = codes "-"

abbrev pub next_sign : ℤ → List ℕ
next_sign (pos n) = codes " + "
next_sign (negsuc n) = codes " - "

abbrev pub more_terms : List Term → List ℕ
more_terms [] = []
more_terms (t ∷ ts) = next_sign t.coeff ++ (term_text (unsigned_abs t.coeff) t.mono ++ more_terms ts)

-- a polynomial: its terms in monomial order, or 0
abbrev pub poly_text : List Term → List ℕ
poly_text [] = codes "0"
poly_text (t ∷ ts) = first_sign t.coeff ++ (term_text (unsigned_abs t.coeff) t.mono ++ more_terms ts)

abbrev pub op_text : Op → List ℕ
op_text Ge = codes " >= 0"
op_text Eq = codes " = 0"

abbrev pub row_text : PRow → List ℕ
row_text r = poly_text r.poly ++ op_text r.op

abbrev pub signed_text : ℤ → List ℕ
signed_text z = first_sign z ++ decimal (unsigned_abs z)

abbrev pub psatz_spelling : Psatz-F (List ℕ) → List ℕ
psatz_spelling (Psatz-F.Hyp n) = codes "in " ++ decimal n
psatz_spelling (Psatz-F.Square p) = codes "square(" ++ (poly_text p ++ codes ")")
psatz_spelling (Psatz-F.MulPoly p e) = codes "mulp(" ++ (poly_text p ++ (codes ", " ++ (e ++ codes ")")))
psatz_spelling (Psatz-F.Mul e f) = codes "mul(" ++ (e ++ (codes ", " ++ (f ++ codes ")")))
psatz_spelling (Psatz-F.Add e f) = codes "add(" ++ (e ++ (codes ", " ++ (f ++ codes ")")))
psatz_spelling (Psatz-F.Const c) = codes "const " ++ signed_text c
psatz_spelling Psatz-F.Zero = codes "zero"

-- an expression
abbrev pub psatz_text : Psatz → List ℕ
psatz_text = fold-Psatz (List ℕ) psatz_spelling

-- a step, followed by a blank
abbrev pub step_text : Step → List ℕ
step_text (Rat e) = codes "rat " ++ (psatz_text e ++ codes "; ")
step_text (Cut e) = codes "cut " ++ (psatz_text e ++ codes "; ")

abbrev pub more_members : List (List ℕ) → List ℕ
more_members [] = []
more_members (c ∷ cs) = codes ", " ++ (c ++ more_members cs)

abbrev pub close_spelling : Close-F (List ℕ) (List ℕ) → List ℕ
close_spelling Close-F.Done = codes "done"
close_spelling (Close-F.Split p c d) = codes "split(" ++ (poly_text p ++ (codes ", " ++ (c ++ (codes ", " ++ (d ++ codes ")")))))
close_spelling (Close-F.Enum b cs) = codes "enum(" ++ (psatz_text b.lower ++ (codes ", " ++ (psatz_text b.upper ++ (more_members cs ++ codes ")"))))

abbrev pub cert_spelling : Cert-F (List ℕ) (List ℕ) → List ℕ
cert_spelling c = flat_map step_text c.steps ++ c.close

abbrev pub close_text : Close → List ℕ
close_text = fold-Close (List ℕ) (List ℕ) close_spelling cert_spelling

-- a certificate
abbrev pub cert_text : Cert → List ℕ
cert_text = fold-Cert (List ℕ) (List ℕ) close_spelling cert_spelling

-- a line, with its line feed
abbrev pub row_line : PRow → List ℕ
row_line r = codes "row " ++ (row_text r ++ 10 ∷ [])

abbrev pub cert_line : Cert → List ℕ
cert_line c = codes "cert " ++ (cert_text c ++ 10 ∷ [])

-- rows, each on a line, and a certificate on the last line
abbrev pub check_text : List PRow → Cert → List ℕ
check_text rows c = flat_map row_line rows ++ cert_line c

-- whether a line feed stands among the bytes
abbrev pub has_line_feed : List ℕ → Bool
has_line_feed [] = false
has_line_feed (b ∷ bytes) = b == 10 || has_line_feed bytes

-- bytes that have one line feed, which is the last of them
pub record IsLine (bytes : List ℕ) : Type 0 where
  pub text : List ℕ
  pub ends : bytes ≡ text ++ 10 ∷ []
  pub one : has_line_feed text ≡ false
