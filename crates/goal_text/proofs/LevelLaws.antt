-- No two signs tie: what has no room for a sign inside is no left side of it as a whole.
use Rattle.std.proofs.Common.{◌≡◌, ℕ, ◌<◌, ◌≤◌, Bool, true, false, Some, refl, sym, ap, ◌∙◌, arith}
use Rattle.std.specs.Prelude.{nat_le, nat_lt, ◌&&◌, ◌||◌, ◌==◌, not}
use Rattle.std.specs.Option.{option_map_or}
use Rattle.goal_token.specs.declared.token.Sign.{Sign}
use Rattle.goal_token.specs.declared.token.Sign.TheVariants as signs
use Rattle.goal_text.specs.declared.precedence.Levels.{Levels}
use Rattle.goal_text.specs.Levels.{infix_levels, prefix_level}

-- the levels of the signs that lean to the left
leans_left : ℕ → Bool
leans_left n = n == 50 || n == 40

-- a side is below its level, or it's the side that the level leans to
abbrev sane : Levels → Bool
sane l = (nat_le 10 l.level && nat_le l.level 100) && (nat_le l.left l.level && nat_le l.right l.level) && ((nat_lt l.right l.level || not (leans_left l.level)) && (nat_lt l.left l.level || leans_left l.level))

all_sane : (s : Sign) → option_map_or sane (infix_levels s) true ≡ true
unfolding leans_left
all_sane signs.Arrow = refl
all_sane signs.Iff = refl
all_sane signs.Or = refl
all_sane signs.And = refl
all_sane signs.Eq = refl
all_sane signs.Ne = refl
all_sane signs.Lt = refl
all_sane signs.Le = refl
all_sane signs.Gt = refl
all_sane signs.Ge = refl
all_sane signs.EqTest = refl
all_sane signs.LtTest = refl
all_sane signs.LeTest = refl
all_sane signs.GtTest = refl
all_sane signs.GeTest = refl
all_sane signs.Plus = refl
all_sane signs.Minus = refl
all_sane signs.BoolOr = refl
all_sane signs.Times = refl
all_sane signs.Divide = refl
all_sane signs.BoolAnd = refl
all_sane signs.Mod = refl
all_sane signs.Power = refl
all_sane signs.Open = refl
all_sane signs.Close = refl
all_sane signs.Comma = refl
all_sane signs.Colon = refl
all_sane signs.Dot = refl
all_sane signs.Not = refl

is_sane : (s : Sign) (l : Levels) → infix_levels s ≡ Some l → sane l ≡ true
is_sane s l e = sym (ap (λ o. option_map_or sane o true) e) ∙ all_sane s

pub record Sides (l : Levels) : Type 0 where
  pub left_low : l.left ≤ l.level
  pub right_low : l.right ≤ l.level

pub sides : (s : Sign) (l : Levels) → infix_levels s ≡ Some l → Sides l
sides s l e = let k = is_sane s l e in record { left_low = grind arith; right_low = grind arith }

-- what has room for a sign inside is no left side of it as a whole
pub no_tie : (s t : Sign) (k l : Levels) → infix_levels s ≡ Some k → infix_levels t ≡ Some l → l.level ≤ k.right → l.left < k.level
no_tie s t k l e f room =
    let a = is_sane s k e in
    let b = is_sane t l f in
    grind arith

none_leans : (s : Sign) → option_map_or leans_left (prefix_level s) false ≡ false
unfolding leans_left
none_leans signs.Minus = refl
none_leans signs.Not = refl
none_leans s = refl

prefix_leans : (s : Sign) (k : ℕ) → prefix_level s ≡ Some k → leans_left k ≡ false
prefix_leans s k e = sym (ap (λ o. option_map_or leans_left o false) e) ∙ none_leans s

-- the same of a sign before its operand
pub no_tie_before : (s t : Sign) (k : ℕ) (l : Levels) → prefix_level s ≡ Some k → infix_levels t ≡ Some l → l.level ≤ k → l.left < k
no_tie_before s t k l e f room =
    let a = prefix_leans s k e in
    let b = is_sane t l f in
    grind arith

-- no sign is as low as a function
pub infix_high : (s : Sign) (l : Levels) → infix_levels s ≡ Some l → 10 ≤ l.level
infix_high s l e = let k = is_sane s l e in grind arith

-- each has room in an expression
pub level_low : (s : Sign) (l : Levels) → infix_levels s ≡ Some l → l.level ≤ 100
level_low s l e = let k = is_sane s l e in grind arith

prefix_is_high : (s : Sign) → option_map_or (λ l. nat_le 10 l) (prefix_level s) true ≡ true
prefix_is_high signs.Minus = refl
prefix_is_high signs.Not = refl
prefix_is_high s = refl

pub prefix_high : (s : Sign) (l : ℕ) → prefix_level s ≡ Some l → 10 ≤ l
prefix_high s l e = let k = sym (ap (λ o. option_map_or (λ l. nat_le 10 l) o true) e) ∙ prefix_is_high s in grind arith
