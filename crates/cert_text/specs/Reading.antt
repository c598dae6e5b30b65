-- Reading from left to right: a value and the bytes after it, or none where the bytes don't begin with its text.
use Rattle.std.specs.Prelude.{◌≡◌, ℕ, zero, suc, ◌+◌, ◌-◌, ◌*◌, ◌^◌, ℤ, pos, negsuc, List, [], ◌∷◌, ◌++◌, length, Option, Some, None, Result, Ok, Err, Bool, true, false, nat_lt, nat_le, ◌&&◌, ◌==◌, if◌then◌else◌, codes}
use Rattle.mm_num.specs.Option.{◌>>=◌}
use Rattle.mm_poly.specs.declared.term.Term.{Term}
use Rattle.cert_kit.specs.declared.row.Op.{Op}
use Rattle.cert_kit.specs.declared.row.Op.TheVariants.{Ge, Eq}
use Rattle.cert_kit.specs.declared.row.PRow.{PRow}
use Rattle.cert_kit.specs.declared.cert.Psatz.{Psatz}
use Rattle.cert_kit.specs.declared.cert.Psatz.TheVariants.{Hyp, Square, MulPoly, Mul, Add, Const, Zero}
use Rattle.cert_kit.specs.declared.cert.Step.{Step}
use Rattle.cert_kit.specs.declared.cert.Step.TheVariants.{Rat, Cut}
use Rattle.cert_kit.specs.declared.cert.Cert.{Cert}
use Rattle.cert_kit.specs.declared.cert.Close.{Close}
use Rattle.cert_kit.specs.declared.cert.Close.TheVariants.{Done, Split, Enum}
use Rattle.cert_kit.specs.Making.{ends}
use Rattle.cert_text.specs.declared.fail.TextFail.{TextFail}
use Rattle.cert_text.specs.declared.fail.TextFail.TheVariants.{Bad, NoMemory}
use Rattle.mm_poly.specs.Tests.{is_monomial, is_polynomial}

-- What a function returned, seen by view, is what reading gives, unless memory ran out.
abbrev pub Fails : {Y : Type 0} → TextFail → Option Y → Type 0
Fails Bad read = read ≡ None
Fails NoMemory read = Unit {0}

abbrev pub Gives : {X Y : Type 0} → (X → Y) → Result X TextFail → Option Y → Type 0
Gives view (Ok x) read = read ≡ Some (view x)
Gives view (Err e) read = Fails e read

-- what follows a word
abbrev pub after : List ℕ → List ℕ → Option (List ℕ)
after [] bytes = Some bytes
after (w ∷ word) [] = None
after (w ∷ word) (c ∷ bytes) = if c == w then after word bytes else None

-- ---- numbers

abbrev pub is_digit : ℕ → Bool
is_digit c = nat_le 48 c && nat_lt c 58

-- a number whose digits so far have this value, below a limit
unfoldable pub digits_at : ℕ → ℕ → List ℕ → Option (ℕ × List ℕ)
digits_at limit value [] = Some (value, [])
digits_at limit value (c ∷ bytes) = if is_digit c
    then (if nat_lt (10 * value + (c - 48)) limit then digits_at limit (10 * value + (c - 48)) bytes else None)
    else Some (value, c ∷ bytes)

-- a number from 1 below a limit above 9
unfoldable pub positive_at : ℕ → List ℕ → Option (ℕ × List ℕ)
positive_at limit [] = None
positive_at limit (c ∷ bytes) = if nat_le 49 c && nat_lt c 58 then digits_at limit (c - 48) bytes else None

-- a number below a limit
unfoldable pub number_at : ℕ → List ℕ → Option (ℕ × List ℕ)
number_at limit bytes = elim (after (codes "0") bytes) [ Some rest ↦ Some (0, rest) | None ↦ positive_at limit bytes ]

-- ---- items, one after the other

-- at most this many items, each with a mark that opens it
unfoldable pub many_at : {M X : Type 0} → (List ℕ → Option M) → (M → Option (X × List ℕ)) → ℕ → List ℕ → Option (List X × List ℕ)
many_at mark item zero bytes = Some ([], bytes)
many_at mark item (suc n) bytes = elim (mark bytes) [
  | None ↦ Some ([], bytes)
  | Some m ↦ item m >>= λ first. many_at mark item n first.1 >>= λ others. Some (first.0 ∷ others.0, others.1)
]

-- ---- monomials

-- an exponent: 1 where none is written, else from 2
unfoldable pub exponent_at : List ℕ → Option (ℕ × List ℕ)
exponent_at bytes = elim (after (codes "^") bytes) [
  | None ↦ Some (1, bytes)
  | Some rest ↦ positive_at 256 rest >>= λ e. if e.0 == 1 then None else Some (e.0, e.1)
]

-- a variable and its exponent, after the x
unfoldable pub factor_at : List ℕ → Option ((ℕ × ℕ) × List ℕ)
factor_at bytes = do
  v ← number_at (2 ^ 32) bytes
  e ← exponent_at v.1
  Some ((v.0, e.0), e.1)

-- at most this many factors, each after a *
abbrev pub more_factors_at : ℕ → List ℕ → Option (List (ℕ × ℕ) × List ℕ)
more_factors_at = many_at (after (codes "*x")) factor_at

-- factors, after the first x
unfoldable pub factors_at : List ℕ → Option (List (ℕ × ℕ) × List ℕ)
factors_at bytes = do
  first ← factor_at bytes
  others ← more_factors_at 255 first.1
  Some (first.0 ∷ others.0, others.1)

abbrev pub rising : List (ℕ × ℕ) → Option (List (ℕ × ℕ))
rising factors = if is_monomial factors then Some factors else None

-- a monomial, after its first x
unfoldable pub monomial_at : List ℕ → Option (List (ℕ × ℕ) × List ℕ)
monomial_at bytes = do
  factors ← factors_at bytes
  m ← rising factors.0
  Some (m, factors.1)

-- ---- terms

-- the monomial after a magnitude
unfoldable pub multiple_at : ℕ → List ℕ → Option (List (ℕ × ℕ) × List ℕ)
multiple_at n bytes = elim (after (codes "*x") bytes) [
  | None ↦ Some ([], bytes)
  | Some rest ↦ if n == 1 then None else monomial_at rest
]

abbrev pub signed : Bool → ℕ → ℤ
signed false n = pos n
signed true zero = pos 0
signed true (suc n) = negsuc n

abbrev pub signed_term : Bool → ℕ → List (ℕ × ℕ) → Term
signed_term negative n m = record { coeff = signed negative n; mono = m }

-- a term, after its sign
unfoldable pub term_at : Bool → List ℕ → Option (Term × List ℕ)
term_at negative bytes = elim (after (codes "x") bytes) [
  | Some rest ↦ monomial_at rest >>= λ m. Some (signed_term negative 1 m.0, m.1)
  | None ↦ positive_at (2 ^ 126) bytes >>= λ n. multiple_at n.0 n.1 >>= λ m. Some (signed_term negative n.0 m.0, m.1)
]

abbrev pub first_sign_of : Option (List ℕ) → List ℕ → Bool × List ℕ
first_sign_of (Some rest) bytes = (true, rest)
first_sign_of None bytes = (false, bytes)

-- whether the first term is negative
abbrev pub first_sign_at : List ℕ → Bool × List ℕ
first_sign_at bytes = first_sign_of (after (codes "-") bytes) bytes

-- whether a next term is negative, where there is one
abbrev pub next_sign_at : List ℕ → Option (Bool × List ℕ)
next_sign_at bytes = elim (after (codes " + ") bytes) [
  | Some rest ↦ Some (false, rest)
  | None ↦ elim (after (codes " - ") bytes) [ Some rest ↦ Some (true, rest) | None ↦ None ]
]

abbrev pub next_term_at : Bool × List ℕ → Option (Term × List ℕ)
next_term_at sign = term_at sign.0 sign.1

-- at most this many terms
abbrev pub more_terms_at : ℕ → List ℕ → Option (List Term × List ℕ)
more_terms_at = many_at next_sign_at next_term_at

unfoldable pub terms_at : List ℕ → Option (List Term × List ℕ)
terms_at bytes = do
  first ← next_term_at (first_sign_at bytes)
  others ← more_terms_at 65536 first.1
  Some (first.0 ∷ others.0, others.1)

abbrev pub fitting : List Term → Option (List Term)
fitting terms = if is_polynomial terms then Some terms else None

unfoldable pub poly_at : List ℕ → Option (List Term × List ℕ)
poly_at bytes = elim (after (codes "0") bytes) [
  | Some rest ↦ Some ([], rest)
  | None ↦ terms_at bytes >>= λ terms. fitting terms.0 >>= λ p. Some (p, terms.1)
]

-- ---- rows

-- how a row compares to 0, up to the end of its line
unfoldable pub op_at : List ℕ → Option (Op × List ℕ)
op_at bytes = elim (after (codes " >= 0" ++ 10 ∷ []) bytes) [
  | Some rest ↦ Some (Ge, rest)
  | None ↦ elim (after (codes " = 0" ++ 10 ∷ []) bytes) [ Some rest ↦ Some (Eq, rest) | None ↦ None ]
]

-- a row's line
unfoldable pub row_at : List ℕ → Option (PRow × List ℕ)
row_at bytes = do
  line ← after (codes "row ") bytes
  p ← poly_at line
  o ← op_at p.1
  Some (record { poly = p.0; op = o.0 }, o.1)

abbrev pub with_row : PRow → List PRow × List ℕ → List PRow × List ℕ
with_row r others = (r ∷ others.0, others.1)

-- at most this many lines of rows, as many as there are
unfoldable pub rows_at : ℕ → List ℕ → List PRow × List ℕ
rows_at zero bytes = ([], bytes)
rows_at (suc n) bytes = elim (row_at bytes) [ None ↦ ([], bytes) | Some r ↦ with_row r.0 (rows_at n r.1) ]

-- ---- expressions

-- a row by its number
abbrev pub hyp_at : List ℕ → Option (Psatz × List ℕ)
hyp_at bytes = number_at (2 ^ 32) bytes >>= λ n. Some (Hyp n.0, n.1)

-- a constant from 1
abbrev pub const_at : List ℕ → Option (Psatz × List ℕ)
const_at bytes = positive_at (2 ^ 126) bytes >>= λ n. Some (Const (pos n.0), n.1)

-- an expression without parts
unfoldable pub leaf_at : List ℕ → Option (Psatz × List ℕ)
leaf_at bytes = elim (after (codes "in ") bytes) [
  | Some rest ↦ hyp_at rest
  | None ↦ elim (after (codes "const ") bytes) [
    | Some rest ↦ const_at rest
    | None ↦ elim (after (codes "zero") bytes) [ Some rest ↦ Some (Zero, rest) | None ↦ None ]
  ]
]

-- the square of a polynomial
abbrev pub square_at : List ℕ → Option (Psatz × List ℕ)
square_at bytes = do
  p ← poly_at bytes
  rest ← after (codes ")") p.1
  Some (Square p.0, rest)

-- the end of a polynomial times a part
abbrev pub mulp_end_at : List Term → Psatz → List ℕ → Option (Psatz × List ℕ)
mulp_end_at p e bytes = do
  rest ← after (codes ")") bytes
  Some (MulPoly p e, rest)

-- a polynomial times a part
abbrev pub mulp_at : (List ℕ → Option (Psatz × List ℕ)) → List ℕ → Option (Psatz × List ℕ)
mulp_at part bytes = do
  p ← poly_at bytes
  comma ← after (codes ", ") p.1
  e ← part comma
  mulp_end_at p.0 e.0 e.1

-- two parts
abbrev pub pair_at : (List ℕ → Option (Psatz × List ℕ)) → List ℕ → Option ((Psatz × Psatz) × List ℕ)
pair_at part bytes = do
  e ← part bytes
  comma ← after (codes ", ") e.1
  f ← part comma
  Some ((e.0, f.0), f.1)

-- the end of an expression of two parts
abbrev pub pair_end_at : (Psatz → Psatz → Psatz) → Psatz × Psatz → List ℕ → Option (Psatz × List ℕ)
pair_end_at make p bytes = do
  rest ← after (codes ")") bytes
  Some (make p.0 p.1, rest)

-- an expression of two parts, up to its end
abbrev pub of_pair_at : (Psatz → Psatz → Psatz) → (List ℕ → Option (Psatz × List ℕ)) → List ℕ → Option (Psatz × List ℕ)
of_pair_at make part bytes = do
  p ← pair_at part bytes
  pair_end_at make p.0 p.1

-- an expression by its first word, where its parts are read so
unfoldable pub node_at : (List ℕ → Option (Psatz × List ℕ)) → List ℕ → Option (Psatz × List ℕ)
node_at part bytes = elim (after (codes "add(") bytes) [
  | Some rest ↦ of_pair_at Add part rest
  | None ↦ elim (after (codes "mul(") bytes) [
    | Some rest ↦ of_pair_at Mul part rest
    | None ↦ elim (after (codes "mulp(") bytes) [
      | Some rest ↦ mulp_at part rest
      | None ↦ elim (after (codes "square(") bytes) [ Some rest ↦ square_at rest | None ↦ leaf_at bytes ]
    ]
  ]
]

-- an expression of at most this depth
unfoldable pub psatz_at : ℕ → List ℕ → Option (Psatz × List ℕ)
psatz_at zero bytes = leaf_at bytes
psatz_at (suc depth) bytes = node_at (λ part. psatz_at depth part) bytes

-- ---- certificates

-- whether a next step is a cut, where there is a next step
abbrev pub step_word_at : List ℕ → Option (Bool × List ℕ)
step_word_at bytes = elim (after (codes "rat ") bytes) [
  | Some rest ↦ Some (false, rest)
  | None ↦ elim (after (codes "cut ") bytes) [ Some rest ↦ Some (true, rest) | None ↦ None ]
]

abbrev pub step_of : Bool → Psatz → Step
step_of false e = Rat e
step_of true e = Cut e

-- the rest of a step with an expression of at most this depth
unfoldable pub step_at : ℕ → Bool × List ℕ → Option (Step × List ℕ)
step_at depth word = do
  e ← psatz_at depth word.1
  rest ← after (codes "; ") e.1
  Some (step_of word.0 e.0, rest)

-- at most this many steps
abbrev pub steps_at : ℕ → ℕ → List ℕ → Option (List Step × List ℕ)
steps_at depth = many_at step_word_at (step_at depth)

abbrev pub done_at : List ℕ → Option (Close × List ℕ)
done_at bytes = after (codes "done") bytes >>= λ rest. Some (Done, rest)

-- the end of a split
abbrev pub split_end_at : List Term → Cert → Cert → List ℕ → Option (Close × List ℕ)
split_end_at p c d bytes = do
  rest ← after (codes ")") bytes
  Some (Split p c d, rest)

-- a polynomial and a certificate for each side
abbrev pub split_at : (List ℕ → Option (Cert × List ℕ)) → List ℕ → Option (Close × List ℕ)
split_at member bytes = do
  p ← poly_at bytes
  comma ← after (codes ", ") p.1
  c ← member comma
  second ← after (codes ", ") c.1
  d ← member second
  split_end_at p.0 c.0 d.0 d.1

-- fewer than 2^32 members
abbrev pub members_at : (List ℕ → Option (Cert × List ℕ)) → List ℕ → Option (List Cert × List ℕ)
members_at member = many_at (after (codes ", ")) member (2 ^ 32 - 1)

-- the end of an enumeration
abbrev pub enum_end_at : Psatz → Psatz → List Cert → List ℕ → Option (Close × List ℕ)
enum_end_at e f cs bytes = do
  rest ← after (codes ")") bytes
  Some (Enum (ends e f) cs, rest)

-- two expressions and the members
abbrev pub enum_at : (List ℕ → Option (Psatz × List ℕ)) → (List ℕ → Option (Cert × List ℕ)) → List ℕ → Option (Close × List ℕ)
enum_at part member bytes = do
  p ← pair_at part bytes
  cs ← members_at member p.1
  enum_end_at p.0.0 p.0.1 cs.0 cs.1

-- a close by its first word, where its expressions and its members are read so
unfoldable pub end_at : (List ℕ → Option (Psatz × List ℕ)) → (List ℕ → Option (Cert × List ℕ)) → List ℕ → Option (Close × List ℕ)
end_at part member bytes = elim (after (codes "split(") bytes) [
  | Some rest ↦ split_at member rest
  | None ↦ elim (after (codes "enum(") bytes) [ Some rest ↦ enum_at part member rest | None ↦ done_at bytes ]
]

-- a certificate of these steps and a close that is read
abbrev pub with_steps : List Step → Option (Close × List ℕ) → Option (Cert × List ℕ)
with_steps steps close = do
  c ← close
  Some (record { steps = steps; close = c.0 }, c.1)

-- steps and a close
abbrev pub parts_at : ℕ → (List ℕ → Option (Close × List ℕ)) → List ℕ → Option (Cert × List ℕ)
parts_at depth close bytes = do
  s ← steps_at depth (length bytes) bytes
  with_steps s.0 (close s.1)

-- a certificate of at most this depth
unfoldable pub cert_at : ℕ → List ℕ → Option (Cert × List ℕ)
cert_at zero bytes = parts_at zero done_at bytes
cert_at (suc depth) bytes = parts_at (suc depth) (end_at (psatz_at depth) (λ member. cert_at depth member)) bytes

-- a close of at most this depth
unfoldable pub close_at : ℕ → List ℕ → Option (Close × List ℕ)
close_at zero bytes = done_at bytes
close_at (suc depth) bytes = end_at (psatz_at depth) (cert_at depth) bytes

-- a certificate's line
unfoldable pub cert_line_at : List ℕ → Option (Cert × List ℕ)
cert_line_at bytes = do
  line ← after (codes "cert ") bytes
  c ← cert_at 4096 line
  rest ← after (10 ∷ []) c.1
  Some (c.0, rest)
