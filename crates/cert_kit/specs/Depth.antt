-- How deep expressions and certificates are nested, and which constants stand in them.
use Rattle.std.specs.Prelude.{◌≡◌, ℕ, ◌+◌, ◌^◌, ◌≤◌, max, ℤ, pos, unsigned_abs, List, [], ◌∷◌, Bool, true, ◌&&◌, nat_lt, int_le}
use Rattle.cert_kit.specs.declared.cert.Psatz.{Psatz}
use Rattle.cert_kit.specs.declared.cert.Psatz.TheOpen.{Psatz-F}
use Rattle.cert_kit.specs.declared.cert.Psatz.TheFolds.{fold-Psatz}
use Rattle.cert_kit.specs.declared.cert.Step.{Step}
use Rattle.cert_kit.specs.declared.cert.Step.TheVariants.{Rat, Cut}
use Rattle.cert_kit.specs.declared.cert.Cert.{Cert}
use Rattle.cert_kit.specs.declared.cert.Close.{Close}
use Rattle.cert_kit.specs.declared.cert.Close.TheOpen.{Close-F, Cert-F}
use Rattle.cert_kit.specs.declared.cert.Close.TheFolds.{fold-Close, fold-Cert}

abbrev pub psatz_level : Psatz-F ℕ → ℕ
psatz_level (Psatz-F.Hyp n) = 0
psatz_level (Psatz-F.Square p) = 1
psatz_level (Psatz-F.MulPoly p e) = e + 1
psatz_level (Psatz-F.Mul e f) = max e f + 1
psatz_level (Psatz-F.Add e f) = max e f + 1
psatz_level (Psatz-F.Const c) = 0
psatz_level Psatz-F.Zero = 0

-- the depth of an expression: 0 for a leaf, 1 for a square, else 1 more than its deepest part
abbrev pub psatz_depth : Psatz → ℕ
psatz_depth = fold-Psatz ℕ psatz_level

abbrev pub step_depth : Step → ℕ
step_depth (Rat e) = psatz_depth e
step_depth (Cut e) = psatz_depth e

abbrev pub steps_depth : List Step → ℕ
steps_depth [] = 0
steps_depth (s ∷ steps) = max (step_depth s) (steps_depth steps)

abbrev pub deepest : List ℕ → ℕ
deepest [] = 0
deepest (n ∷ ns) = max n (deepest ns)

abbrev pub close_level : Close-F ℕ ℕ → ℕ
close_level Close-F.Done = 0
close_level (Close-F.Split p c d) = max c d + 1
close_level (Close-F.Enum b cs) = max (max (psatz_depth b.lower) (psatz_depth b.upper)) (deepest cs) + 1

abbrev pub cert_level : Cert-F ℕ ℕ → ℕ
cert_level c = max (steps_depth c.steps) c.close

-- the depth of a certificate: the greatest of its expressions' and its close's
abbrev pub cert_depth : Cert → ℕ
cert_depth = fold-Cert ℕ ℕ close_level cert_level

abbrev pub close_depth : Close → ℕ
close_depth = fold-Close ℕ ℕ close_level cert_level

-- at least 1, and small
abbrev pub is_constant_in_range : ℤ → Bool
is_constant_in_range c = int_le (pos 1) c && nat_lt (unsigned_abs c) (2 ^ 126)

abbrev pub psatz_in_range : Psatz-F Bool → Bool
psatz_in_range (Psatz-F.Hyp n) = true
psatz_in_range (Psatz-F.Square p) = true
psatz_in_range (Psatz-F.MulPoly p e) = e
psatz_in_range (Psatz-F.Mul e f) = e && f
psatz_in_range (Psatz-F.Add e f) = e && f
psatz_in_range (Psatz-F.Const c) = is_constant_in_range c
psatz_in_range Psatz-F.Zero = true

-- whether each constant of an expression is at least 1 and small
abbrev pub has_constants_in_range : Psatz → Bool
has_constants_in_range = fold-Psatz Bool psatz_in_range

abbrev pub step_in_range : Step → Bool
step_in_range (Rat e) = has_constants_in_range e
step_in_range (Cut e) = has_constants_in_range e

abbrev pub steps_in_range : List Step → Bool
steps_in_range [] = true
steps_in_range (s ∷ steps) = step_in_range s && steps_in_range steps

abbrev pub all_in_range : List Bool → Bool
all_in_range [] = true
all_in_range (b ∷ bs) = b && all_in_range bs

abbrev pub close_in_range : Close-F Bool Bool → Bool
close_in_range Close-F.Done = true
close_in_range (Close-F.Split p c d) = c && d
close_in_range (Close-F.Enum b cs) = has_constants_in_range b.lower && (has_constants_in_range b.upper && all_in_range cs)

abbrev pub cert_in_range : Cert-F Bool Bool → Bool
cert_in_range c = steps_in_range c.steps && c.close

abbrev pub close_has_constants_in_range : Close → Bool
close_has_constants_in_range = fold-Close Bool Bool close_in_range cert_in_range

abbrev pub cert_constants : Cert → Bool
cert_constants = fold-Cert Bool Bool close_in_range cert_in_range

-- steps and a close that make a certificate: at most 4,096 deep, each constant at least 1 and small
pub record MakesCert (steps : List Step) (close : Close) : Type 0 where
  pub flat_steps : steps_depth steps ≤ 4096
  pub flat_close : close_depth close ≤ 4096
  pub step_constants : steps_in_range steps ≡ true
  pub close_constants : close_has_constants_in_range close ≡ true
