-- The text of a row and of a certificate has no line feed.
use Rattle.std.specs.Prelude.{◌≡◌, ℕ, zero, suc, ◌+◌, ◌/◌, ◌%◌, ℤ, pos, negsuc, unsigned_abs, List, [], ◌∷◌, ◌++◌, map, Bool, true, false, ◌==◌, ◌||◌, nat_lt, refl, if◌then◌else◌, codes, decimal}
use Rattle.std.specs.Fmt.{digits, digits_onto, digit_glyph}
use Rattle.std.specs.List.{flat_map}
use Rattle.std.proofs.Common.{ap, sym, ◌∙◌, subst, append_assoc, arith}
use Rattle.std.proofs.lemmas.Bool.{ne_eqb}
use Rattle.mm_poly.specs.declared.term.Term.{Term}
use Rattle.cert_kit.specs.declared.row.Op.{Op}
use Rattle.cert_kit.specs.declared.row.Op.TheVariants.{Ge, Eq}
use Rattle.cert_kit.specs.declared.row.PRow.{PRow}
use Rattle.cert_kit.specs.declared.cert.Psatz.{Psatz}
use Rattle.cert_kit.specs.declared.cert.Psatz.TheOpen.{Psatz-F}
use Rattle.cert_kit.specs.declared.cert.Psatz.TheViews.{roll-Psatz}
use Rattle.cert_kit.specs.declared.cert.Psatz.TheFolds.{map-Psatz, fold-roll-Psatz, ind-Psatz}
use Rattle.cert_kit.specs.declared.cert.Step.{Step}
use Rattle.cert_kit.specs.declared.cert.Step.TheVariants.{Rat, Cut}
use Rattle.cert_kit.specs.declared.cert.Cert.{Cert}
use Rattle.cert_kit.specs.declared.cert.Close.{Close}
use Rattle.cert_kit.specs.declared.cert.Close.TheOpen.{Close-F, Cert-F}
use Rattle.cert_kit.specs.declared.cert.Close.TheViews.{roll-Close, roll-Cert}
use Rattle.cert_kit.specs.declared.cert.Close.TheFolds.{map-Close, map-Cert, fold-roll-Cert, fold-roll-Close, ind-Cert}
use Rattle.cert_text.specs.Text.{factor_text, more_factors, magnitude_text, term_text, first_sign, next_sign, more_terms, poly_text, op_text, row_text, signed_text, psatz_spelling, psatz_text, step_text, more_members, close_spelling, cert_spelling, close_text, cert_text, row_line, cert_line, has_line_feed, IsLine}

abbrev NoFeed : List ℕ → Type 0
NoFeed bytes = has_line_feed bytes ≡ false

by_if : (b : Bool) (x y : List ℕ) → NoFeed x → NoFeed y → NoFeed (if b then x else y)
by_if true x y h k = h
by_if false x y h k = k

both : (xs ys : List ℕ) → NoFeed xs → NoFeed ys → NoFeed (xs ++ ys)
both [] ys h k = k
both (x ∷ xs) ys h k = by_first (x == 10) h (λ e. both xs ys e k)
  where
    by_first : (b : Bool) → (b || has_line_feed xs) ≡ false → (NoFeed xs → NoFeed (xs ++ ys)) → (b || has_line_feed (xs ++ ys)) ≡ false
    by_first true e go = e
    by_first false e go = go e

-- ---- numbers

glyph : (d : ℕ) → (digit_glyph false d == 10) ≡ false
glyph d = by_test (nat_lt d 10)
  where
    by_test : (b : Bool) → ((if b then 48 + d else 87 + d) == 10) ≡ false
    by_test true = ne_eqb (48 + d) 10 (λ e. omega arith)
    by_test false = ne_eqb (87 + d) 10 (λ e. omega arith)

in_front : (b : ℕ) (bytes : List ℕ) → (b == 10) ≡ false → NoFeed bytes → NoFeed (b ∷ bytes)
in_front b bytes e h = ap (λ t. t || has_line_feed bytes) e ∙ h

onto : (k n : ℕ) (bytes : List ℕ) → NoFeed bytes → NoFeed (digits_onto k 10 false n bytes)
onto zero n bytes h = h
onto (suc k) n bytes h =
    let front : NoFeed (digit_glyph false (n % 10) ∷ bytes) = in_front (digit_glyph false (n % 10)) bytes (glyph (n % 10)) h in
    by_if (n / 10 == 0) (digit_glyph false (n % 10) ∷ bytes) (digits_onto k 10 false (n / 10) (digit_glyph false (n % 10) ∷ bytes)) front
    (onto k (n / 10) (digit_glyph false (n % 10) ∷ bytes) front)

number : (n : ℕ) → NoFeed (decimal n)
unfolding digits
number n = onto 64 n [] refl

-- ---- polynomials and rows

factor : (f : ℕ × ℕ) → NoFeed (factor_text f)
factor f = both (codes "x") (decimal f.0 ++ (if f.1 == 1 then [] else codes "^" ++ decimal f.1)) refl
    (both (decimal f.0) (if f.1 == 1 then [] else codes "^" ++ decimal f.1) (number f.0)
    (by_if (f.1 == 1) [] (codes "^" ++ decimal f.1) refl (both (codes "^") (decimal f.1) refl (number f.1))))

factors : (fs : List (ℕ × ℕ)) → NoFeed (more_factors fs)
factors [] = refl
factors (f ∷ fs) = both (codes "*") (factor_text f ++ more_factors fs) refl (both (factor_text f) (more_factors fs) (factor f) (factors fs))

term : (n : ℕ) (fs : List (ℕ × ℕ)) → NoFeed (term_text n fs)
term n [] = number n
term n (f ∷ fs) = both (magnitude_text n) (factor_text f ++ more_factors fs)
    (by_if (n == 1) [] (decimal n ++ codes "*") refl (both (decimal n) (codes "*") (number n) refl))
    (both (factor_text f) (more_factors fs) (factor f) (factors fs))

sign : (z : ℤ) → NoFeed (first_sign z)
sign (pos n) = refl
sign (negsuc n) = refl

between : (z : ℤ) → NoFeed (next_sign z)
between (pos n) = refl
between (negsuc n) = refl

terms : (ts : List Term) → NoFeed (more_terms ts)
terms [] = refl
terms (t ∷ ts) = both (next_sign t.coeff) (term_text (unsigned_abs t.coeff) t.mono ++ more_terms ts) (between t.coeff)
    (both (term_text (unsigned_abs t.coeff) t.mono) (more_terms ts) (term (unsigned_abs t.coeff) t.mono) (terms ts))

poly : (ts : List Term) → NoFeed (poly_text ts)
poly [] = refl
poly (t ∷ ts) = both (first_sign t.coeff) (term_text (unsigned_abs t.coeff) t.mono ++ more_terms ts) (sign t.coeff)
    (both (term_text (unsigned_abs t.coeff) t.mono) (more_terms ts) (term (unsigned_abs t.coeff) t.mono) (terms ts))

op : (o : Op) → NoFeed (op_text o)
op Ge = refl
op Eq = refl

row : (r : PRow) → NoFeed (row_text r)
row r = both (poly_text r.poly) (op_text r.op) (poly r.poly) (op r.op)

-- ---- expressions and steps

signed : (z : ℤ) → NoFeed (signed_text z)
signed z = both (first_sign z) (decimal (unsigned_abs z)) (sign z) (number (unsigned_abs z))

-- a word, a part, a word, a part, and the end
pair : (word a b : List ℕ) → NoFeed word → NoFeed a → NoFeed b → NoFeed (word ++ (a ++ (codes ", " ++ (b ++ codes ")"))))
pair word a b w h k = both word (a ++ (codes ", " ++ (b ++ codes ")"))) w
    (both a (codes ", " ++ (b ++ codes ")")) h (both (codes ", ") (b ++ codes ")") refl (both b (codes ")") k refl)))

abbrev Expression : Psatz → Type 0
Expression e = NoFeed (psatz_text e)

abbrev KnownPart : Type 0
KnownPart = (e : Psatz) × Expression e

abbrev parts_of : Psatz-F KnownPart → Psatz-F Psatz
parts_of y = map-Psatz KnownPart Psatz (λ p. p.0) y

level : (y : Psatz-F KnownPart) → NoFeed (psatz_spelling (map-Psatz Psatz (List ℕ) psatz_text (parts_of y)))
level (Psatz-F.Hyp n) = both (codes "in ") (decimal n) refl (number n)
level (Psatz-F.Square p) = both (codes "square(") (poly_text p ++ codes ")") refl (both (poly_text p) (codes ")") (poly p) refl)
level (Psatz-F.MulPoly p a) = pair (codes "mulp(") (poly_text p) (psatz_text a.0) refl (poly p) a.1
level (Psatz-F.Mul a b) = pair (codes "mul(") (psatz_text a.0) (psatz_text b.0) refl a.1 b.1
level (Psatz-F.Add a b) = pair (codes "add(") (psatz_text a.0) (psatz_text b.0) refl a.1 b.1
level (Psatz-F.Const c) = both (codes "const ") (signed_text c) refl (signed c)
level Psatz-F.Zero = refl

expression : (e : Psatz) → Expression e
expression = ind-Psatz Expression (λ d y q. subst (λ (z : Psatz-F Psatz). Expression (roll-Psatz z)) q
    (subst NoFeed (sym (fold-roll-Psatz (List ℕ) psatz_spelling (parts_of y))) (level y)))

step : (s : Step) → NoFeed (step_text s)
step (Rat e) = both (codes "rat ") (psatz_text e ++ codes "; ") refl (both (psatz_text e) (codes "; ") (expression e) refl)
step (Cut e) = both (codes "cut ") (psatz_text e ++ codes "; ") refl (both (psatz_text e) (codes "; ") (expression e) refl)

steps : (ss : List Step) → NoFeed (flat_map step_text ss)
steps [] = refl
steps (s ∷ ss) = both (step_text s) (flat_map step_text ss) (step s) (steps ss)

-- ---- certificates

abbrev OfClose : Close → Type 0
OfClose c = NoFeed (close_text c)

abbrev OfCert : Cert → Type 0
OfCert c = NoFeed (cert_text c)

abbrev KnownCert : Type 0
KnownCert = (c : Cert) × OfCert c

abbrev KnownClose : Type 0
KnownClose = (c : Close) × OfClose c

members : (cs : List KnownCert) → NoFeed (more_members (map cert_text (map (λ (c : KnownCert). c.0) cs)))
members [] = refl
members (c ∷ cs) = both (codes ", ") (cert_text c.0 ++ more_members (map cert_text (map (λ (c : KnownCert). c.0) cs))) refl
    (both (cert_text c.0) (more_members (map cert_text (map (λ (c : KnownCert). c.0) cs))) c.1 (members cs))

abbrev close_parts : Close-F KnownClose KnownCert → Close-F Close Cert
close_parts y = map-Close KnownClose KnownCert Close Cert (λ c. c.0) (λ c. c.0) y

abbrev cert_parts : Cert-F KnownClose KnownCert → Cert-F Close Cert
cert_parts y = map-Cert KnownClose KnownCert Close Cert (λ c. c.0) (λ c. c.0) y

level_close : (y : Close-F KnownClose KnownCert) → NoFeed (close_spelling (map-Close Close Cert (List ℕ) (List ℕ) close_text cert_text (close_parts y)))
level_close Close-F.Done = refl
level_close (Close-F.Split p c d) =
    both (codes "split(") (poly_text p ++ (codes ", " ++ (cert_text c.0 ++ (codes ", " ++ (cert_text d.0 ++ codes ")"))))) refl
    (both (poly_text p) (codes ", " ++ (cert_text c.0 ++ (codes ", " ++ (cert_text d.0 ++ codes ")")))) (poly p)
    (pair (codes ", ") (cert_text c.0) (cert_text d.0) refl c.1 d.1))
level_close (Close-F.Enum b cs) =
    let all = more_members (map cert_text (map (λ (c : KnownCert). c.0) cs)) in
    both (codes "enum(") (psatz_text b.lower ++ (codes ", " ++ (psatz_text b.upper ++ (all ++ codes ")")))) refl
    (both (psatz_text b.lower) (codes ", " ++ (psatz_text b.upper ++ (all ++ codes ")"))) (expression b.lower)
    (both (codes ", ") (psatz_text b.upper ++ (all ++ codes ")")) refl
    (both (psatz_text b.upper) (all ++ codes ")") (expression b.upper) (both all (codes ")") (members cs) refl))))

level_cert : (y : Cert-F KnownClose KnownCert) → NoFeed (cert_spelling (map-Cert Close Cert (List ℕ) (List ℕ) close_text cert_text (cert_parts y)))
level_cert y = both (flat_map step_text y.steps) (close_text y.close.0) (steps y.steps) y.close.1

cert : (c : Cert) → OfCert c
cert = ind-Cert OfClose OfCert
    (λ d y q. subst (λ (z : Close-F Close Cert). OfClose (roll-Close z)) q
    (subst NoFeed (sym (fold-roll-Close (List ℕ) (List ℕ) close_spelling cert_spelling (close_parts y))) (level_close y)))
    (λ d y q. subst (λ (z : Cert-F Close Cert). OfCert (roll-Cert z)) q
    (subst NoFeed (sym (fold-roll-Cert (List ℕ) (List ℕ) close_spelling cert_spelling (cert_parts y))) (level_cert y)))

-- ---- lines

line : (word text : List ℕ) → NoFeed word → NoFeed text → IsLine (word ++ (text ++ 10 ∷ []))
line word text w h = record { text = word ++ text; ends = sym (append_assoc word text (10 ∷ [])); one = both word text w h }

pub row_is_line : (r : PRow) → IsLine (row_line r)
row_is_line r = line (codes "row ") (row_text r) refl (row r)

pub cert_is_line : (c : Cert) → IsLine (cert_line c)
cert_is_line c = line (codes "cert ") (cert_text c) refl (cert c)
