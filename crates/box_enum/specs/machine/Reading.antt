-- What a row of one variable says of that variable, and what rows say of each one.
use Rattle.std.specs.Prelude.{◌≡◌, ℕ, ℤ, pos, neg_ℤ, List, [], ◌∷◌, Bool, false, nat_eq, ◌&&◌, Option, Some, None, if◌then◌else◌}
use Rattle.std.specs.Int.{int_min, int_max}
use Rattle.std.specs.Ordering.{int_eq}
use Rattle.mm_num.specs.Option.{◌>>=◌}
use Rattle.mm_poly.specs.declared.term.Term.{Term}
use Rattle.cert_kit.specs.declared.row.Op.{Op}
use Rattle.cert_kit.specs.declared.row.Op.TheVariants.{Ge, Eq}
use Rattle.cert_kit.specs.declared.row.PRow.{PRow}
use Rattle.box_enum.specs.declared.reading.Reading.{Reading}
use Rattle.box_enum.specs.declared.reading.Span.{Span}
use Rattle.box_enum.specs.Box.{Side, is_shifted, lower_by, upper_by, better, low_of, high_of}

-- whether a polynomial was found to be c times the variable x, and a constant
abbrev pub is_lone : Option (ℕ × ℤ) → ℕ → ℤ → Bool
is_lone None x c = false
is_lone (Some f) x c = nat_eq f.0 x && int_eq f.1 c

abbrev pub IsLone : List Term → Option (ℕ × ℤ) → Type 0
IsLone p found = (x : ℕ) (c : ℤ) → is_shifted x c p ≡ is_lone found x c

-- the bounds that k gives, where the coefficient is 1 or -1
abbrev pub lower_as : Bool → Bool → Op → ℤ → Option ℤ
lower_as up down Ge k = if up then Some (neg_ℤ k) else None
lower_as up down Eq k = if up then Some (neg_ℤ k) else if down then Some k else None

abbrev pub upper_as : Bool → Bool → Op → ℤ → Option ℤ
upper_as up down Ge k = if down then Some k else None
upper_as up down Eq k = if down then Some k else if up then Some (neg_ℤ k) else None

-- what was read says of a variable
abbrev pub low_read : Option Reading → ℕ → Option ℤ
low_read None x = None
low_read (Some r) x = if nat_eq r.variable x then r.low else None

abbrev pub high_read : Option Reading → ℕ → Option ℤ
high_read None x = None
high_read (Some r) x = if nat_eq r.variable x then r.high else None

-- whether the variable that was read rises, with the coefficient 1
abbrev pub IsRisingAs : List Term → Option Reading → Type 0
IsRisingAs p None = Unit {0}
IsRisingAs p (Some r) = is_shifted r.variable (pos 1) p ≡ r.rising

-- it is what the row says of each variable
pub record IsReading (r : PRow) (o : Option Reading) : Type 0 where
  pub lower : (x : ℕ) → lower_by x r.op r.poly ≡ low_read o x
  pub upper : (x : ℕ) → upper_by x r.op r.poly ≡ high_read o x
  pub rising : IsRisingAs r.poly o

-- the bounds that rows give a variable, and with those that were read besides
abbrev pub span_of : List PRow → ℕ → Span
span_of rows x = record { low = low_of x rows; high = high_of x rows }

abbrev pub narrowed : Option Reading → ℕ → Span → Span
narrowed o x s = record { low = better int_max (low_read o x) s.low; high = better int_min (high_read o x) s.high }

abbrev pub side_between : (ℤ × ℤ) → Side
side_between e = record { low = e.0; high = e.1 }

-- the side of a variable with both bounds
abbrev pub side_in : Span → Option Side
side_in s = s.low >>= λ low. s.high >>= λ high. Some (record { low = low; high = high })

abbrev pub sides_in : List Span → Option (List Side)
sides_in [] = Some []
sides_in (s ∷ spans) = side_in s >>= λ side. sides_in spans >>= λ sides. Some (side ∷ sides)
