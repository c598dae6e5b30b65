-- How many tokens an expression has at least, by its shape.
use Rattle.std.proofs.Common.{◌≡◌, ℕ, ◌+◌, ◌≤◌, Bool, true, false, cond, List, [], ◌∷◌, ◌++◌, length, get_or, Some, refl, sym, ap, subst, ◌∙◌, arith}
use Rattle.std.specs.Prelude.{nat_le}
use Rattle.std.proofs.lemmas.List.{length-append}
use Rattle.goal_token.specs.declared.token.Function.{Function}
use Rattle.goal_token.specs.declared.token.Sign.{Sign}
use Rattle.goal_token.specs.declared.token.Sign.TheVariants as signs
use Rattle.goal_token.specs.declared.token.Placed.{Placed}
use Rattle.goal_token.specs.Numbers.{sign_number, function_number}
use Rattle.goal_sort.specs.declared.raw.Head.{Head}
use Rattle.goal_sort.specs.declared.raw.Head.TheVariants as heads
use Rattle.goal_sort.specs.declared.raw.RawExpr.{RawExpr}
use Rattle.goal_sort.specs.declared.raw.RawExpr.TheOpen.{RawExpr-F}
use Rattle.goal_sort.specs.declared.raw.RawExpr.TheViews.{out-RawExpr, out-roll-RawExpr}
use Rattle.goal_text.specs.declared.precedence.Levels.{Levels}
use Rattle.goal_text.specs.Levels.{infix_levels, prefix_level}
use Rattle.goal_text.specs.Grammar.{sign, function, Expr}
use Rattle.goal_text.proofs.LandingLaws.{has_token}
use Rattle.goal_sort.specs.IsSorted.{node}

-- ---- parentheses

-- how many tokens the parentheses are, where only levels up to this one may stand without them
abbrev pub extra : ℕ → ℕ → ℕ
extra highest level = cond (nat_le level highest) 0 2

pub none_extra : (highest level : ℕ) → level ≤ highest → extra highest level ≤ 0
none_extra highest level low = by_test (nat_le level highest) refl
  where
    by_test : (b : Bool) → nat_le level highest ≡ b → cond b 0 2 ≤ 0
    by_test true e = omega arith
    by_test false e = absurd (let k = e in grind arith)

most_extra : (highest level : ℕ) → extra highest level ≤ 2
most_extra highest level = by_test (nat_le level highest)
  where
    by_test : (b : Bool) → cond b 0 2 ≤ 2
    by_test true = omega arith
    by_test false = omega arith

-- ---- signs by their numbers

-- the signs in the order of their numbers
all_signs : List Sign
all_signs =
    signs.Iff ∷ signs.LeTest ∷ signs.GeTest ∷ signs.Arrow ∷ signs.And ∷ signs.Or ∷ signs.Ne ∷ signs.Le ∷ signs.Ge ∷ signs.EqTest
    ∷ signs.LtTest ∷ signs.GtTest ∷ signs.BoolAnd ∷ signs.BoolOr ∷ signs.Open ∷ signs.Close ∷ signs.Comma ∷ signs.Colon ∷ signs.Dot
    ∷ signs.Eq ∷ signs.Lt ∷ signs.Gt ∷ signs.Plus ∷ signs.Minus ∷ signs.Times ∷ signs.Divide ∷ signs.Power ∷ signs.Not ∷ signs.Mod ∷ []

sign_of : ℕ → Sign
sign_of n = get_or all_signs n signs.Open

sign_back : (s : Sign) → sign_of (sign_number s) ≡ s
unfolding all_signs sign_of
sign_back signs.Iff = refl
sign_back signs.LeTest = refl
sign_back signs.GeTest = refl
sign_back signs.Arrow = refl
sign_back signs.And = refl
sign_back signs.Or = refl
sign_back signs.Ne = refl
sign_back signs.Le = refl
sign_back signs.Ge = refl
sign_back signs.EqTest = refl
sign_back signs.LtTest = refl
sign_back signs.GtTest = refl
sign_back signs.BoolAnd = refl
sign_back signs.BoolOr = refl
sign_back signs.Open = refl
sign_back signs.Close = refl
sign_back signs.Comma = refl
sign_back signs.Colon = refl
sign_back signs.Dot = refl
sign_back signs.Eq = refl
sign_back signs.Lt = refl
sign_back signs.Gt = refl
sign_back signs.Plus = refl
sign_back signs.Minus = refl
sign_back signs.Times = refl
sign_back signs.Divide = refl
sign_back signs.Power = refl
sign_back signs.Not = refl
sign_back signs.Mod = refl

-- signs of one number are one
same_sign : (s t : Sign) → sign_number s ≡ sign_number t → s ≡ t
same_sign s t e = sym (sign_back s) ∙ ap sign_of e ∙ sign_back t

-- ---- expressions without the parentheses around them

-- with this head and these parts, the level and the number of the tokens of an expression that no parentheses enclose
data Bare : Head → List RawExpr → ℕ → ℕ → Type 0 where
  leaf : (h : Head) → Bare h [] 9 1
  applied : {a : RawExpr} {ts : List Placed} (f : Function) → Expr 9 a ts → Bare (heads.Apply (function_number f)) (a ∷ []) 10 (length ts + 1)
  applied_to_two : {a b : RawExpr} {ts us : List Placed} (f : Function) → Expr 9 a ts → Expr 9 b us → Bare (heads.Apply (function_number f)) (a ∷ b ∷ []) 10 (length ts + length us + 1)
  prefixed : {a : RawExpr} {ts : List Placed} (s : Sign) (l : ℕ) → prefix_level s ≡ Some l → Expr l a ts → Bare (heads.Prefix (sign_number s)) (a ∷ []) l (length ts + 1)
  joined : {a b : RawExpr} {ts us : List Placed} (s : Sign) (l : Levels) → infix_levels s ≡ Some l → Expr l.left a ts → Expr l.right b us → Bare (heads.Infix (sign_number s)) (a ∷ b ∷ []) l.level (length ts + length us + 1)
  chained : {a b c : RawExpr} {ts us vs : List Placed} (s t : Sign) → Expr 69 a ts → Expr 69 b us → Expr 69 c vs
      → Bare (heads.Chain (sign_number s) (sign_number t)) (a ∷ b ∷ c ∷ []) 70 (length ts + length us + length vs + 2)

-- an expression within its parentheses, and the tokens that it has at least
record Within (highest : ℕ) (e : RawExpr) (count : ℕ) : Type 0 where
  head : Head
  place : ℕ
  parts : List RawExpr
  level : ℕ
  least : ℕ
  whole : e ≡ node head place parts
  bare : Bare head parts level least
  fits : least + extra highest level ≤ count

-- parentheses around it
around : (m : ℕ) (e : RawExpr) (ts : List Placed) (p q : ℕ) → Within 100 e (length ts) → Within m e (length (sign signs.Open p ∷ (ts ++ sign signs.Close q ∷ [])))
around m e ts p q w =
    let two = most_extra m w.level in
    let k = w.fits in
    record {
      head = w.head;
      place = w.place;
      parts = w.parts;
      level = w.level;
      least = w.least;
      whole = w.whole;
      bare = w.bare;
      fits = omega (arith, length-append ts (sign signs.Close q ∷ []));
    }

-- none around it
alone : {h : Head} {parts : List RawExpr} {level least : ℕ} (m p count : ℕ) → level ≤ m → Bare h parts level least → least ≤ count → Within m (node h p parts) count
alone {h} {parts} {level} {least} m p count low bare le =
    let none = none_extra m level low in
    record { head = h; place = p; parts = parts; level = level; least = least; whole = refl; bare = bare; fits = omega arith }

within : {m : ℕ} {e : RawExpr} {ts : List Placed} → 9 ≤ m → Expr m e ts → Within m e (length ts)
within {m} high (Expr.leaf h t is) = alone m t.at 1 high (Bare.leaf h) (omega arith)
within {m} high (Expr.grouped {e = e} {ts = ts} p q d) = around m e ts p q (within (omega arith) d)
within {m} high (Expr.applied {ts = ts} f p low is d) = alone m p (length (function f p ∷ ts)) low (Bare.applied f d) (omega arith)
within {m} high (Expr.applied_to_two {ts = ts} {us = us} f p low is d c) = alone m p (length (function f p ∷ (ts ++ us))) low (Bare.applied_to_two f d c) (omega (arith, length-append ts us))
within {m} high (Expr.prefixed {ts = ts} s p l is low d) = alone m p (length (sign s p ∷ ts)) low (Bare.prefixed s l is d) (omega arith)
within {m} high (Expr.joined {ts = ts} {us = us} s p l is low d c) = alone m p (length (ts ++ sign s p ∷ us)) low (Bare.joined s l is d c) (omega (arith, length-append ts (sign s p ∷ us)))
within {m} high (Expr.chained {ts = ts} {us = us} {vs = vs} s t p q is are low x y z) =
    alone m p (length (ts ++ sign s p ∷ (us ++ sign t q ∷ vs))) low (Bare.chained s t x y z) (omega (arith, length-append ts (sign s p ∷ (us ++ sign t q ∷ vs)), length-append us (sign t q ∷ vs)))

-- ---- an expression whose shape is known

-- equal nodes have one head and the same parts
nodes_same : (h g : Head) (p q : ℕ) (xs ys : List RawExpr) → node h p xs ≡ node g q ys → (h ≡ g) × (xs ≡ ys)
nodes_same h g p q xs ys e =
    let f : RawExpr-F RawExpr = record { head = h; at = p; parts = xs } in
    let k : RawExpr-F RawExpr = record { head = g; at = q; parts = ys } in
    let same : f ≡ k = sym (out-roll-RawExpr f) ∙ ap out-RawExpr e ∙ out-roll-RawExpr k in
    (ap (λ (x : RawExpr-F RawExpr). x.head) same, ap (λ (x : RawExpr-F RawExpr). x.parts) same)

-- a bare expression of this head and these parts
record Known (highest : ℕ) (h : Head) (parts : List RawExpr) (count : ℕ) : Type 0 where
  level : ℕ
  least : ℕ
  bare : Bare h parts level least
  fits : least + extra highest level ≤ count

known : {ts : List Placed} (m : ℕ) (h : Head) (p : ℕ) (parts : List RawExpr) → 9 ≤ m → Expr m (node h p parts) ts → Known m h parts (length ts)
known {ts} m h p parts high d =
    let w = within high d in
    let same = nodes_same h w.head p w.place parts w.parts w.whole in
    record {
      level = w.level;
      least = w.least;
      bare = subst (λ (g : Head). Bare g parts w.level w.least) (sym same.0) (subst (λ (xs : List RawExpr). Bare w.head xs w.level w.least) (sym same.1) w.bare);
      fits = w.fits;
    }

-- an expression has a token
pub some_token : {m : ℕ} {e : RawExpr} {ts : List Placed} → Expr m e ts → 1 ≤ length ts
some_token {m} {e} {ts} d = let t = has_token d in omega (arith, ap length t.2)

-- what this sign joins
pub record JoinedBy (highest : ℕ) (l : Levels) (a b : RawExpr) (count : ℕ) : Type 0 where
  pub left_tokens : List Placed
  pub right_tokens : List Placed
  pub left : Expr l.left a left_tokens
  pub right : Expr l.right b right_tokens
  pub fits : length left_tokens + length right_tokens + 1 + extra highest l.level ≤ count

levels_same : (s t : Sign) (k l : Levels) → infix_levels s ≡ Some k → infix_levels t ≡ Some l → sign_number s ≡ sign_number t → k ≡ l
levels_same s t k l s_is t_is e = let same = same_sign s t e in cc

joined_parts : {a b : RawExpr} {level least n m count : ℕ} (s : Sign) (l : Levels) → infix_levels s ≡ Some l → n ≡ sign_number s → Bare (heads.Infix n) (a ∷ b ∷ []) level least → least + extra m level ≤ count → JoinedBy m l a b count
joined_parts {a} {b} {m = m} {count = count} s l is number (Bare.joined {ts = ts} {us = us} t k are x y) fits =
    subst (λ (l : Levels). JoinedBy m l a b count) (levels_same t s k l are is number) (record { left_tokens = ts; right_tokens = us; left = x; right = y; fits = fits })

pub infix_short : {a b : RawExpr} {ts : List Placed} (s : Sign) (l : Levels) (m p : ℕ) → infix_levels s ≡ Some l → 9 ≤ m → Expr m (node (heads.Infix (sign_number s)) p (a ∷ b ∷ [])) ts → JoinedBy m l a b (length ts)
infix_short {a} {b} {ts} s l m p is high d = let k = known m (heads.Infix (sign_number s)) p (a ∷ b ∷ []) high d in joined_parts s l is refl k.bare k.fits

-- what this sign stands before
pub record PrefixedBy (highest l : ℕ) (a : RawExpr) (count : ℕ) : Type 0 where
  pub tokens : List Placed
  pub operand : Expr l a tokens
  pub fits : length tokens + 1 + extra highest l ≤ count

level_same : (s t : Sign) (k l : ℕ) → prefix_level s ≡ Some k → prefix_level t ≡ Some l → sign_number s ≡ sign_number t → k ≡ l
level_same s t k l s_is t_is e = let same = same_sign s t e in cc

prefixed_parts : {a : RawExpr} {level least n m count : ℕ} (s : Sign) (l : ℕ) → prefix_level s ≡ Some l → n ≡ sign_number s → Bare (heads.Prefix n) (a ∷ []) level least → least + extra m level ≤ count → PrefixedBy m l a count
prefixed_parts {a} {m = m} {count = count} s l is number (Bare.prefixed {ts = ts} t k are x) fits =
    subst (λ (l : ℕ). PrefixedBy m l a count) (level_same t s k l are is number) (record { tokens = ts; operand = x; fits = fits })

pub prefix_short : {a : RawExpr} {ts : List Placed} (s : Sign) (l m p : ℕ) → prefix_level s ≡ Some l → 9 ≤ m → Expr m (node (heads.Prefix (sign_number s)) p (a ∷ [])) ts → PrefixedBy m l a (length ts)
prefix_short {a} {ts} s l m p is high d = let k = known m (heads.Prefix (sign_number s)) p (a ∷ []) high d in prefixed_parts s l is refl k.bare k.fits

-- what a function is applied to
pub record AppliedTo (highest : ℕ) (a : RawExpr) (count : ℕ) : Type 0 where
  pub tokens : List Placed
  pub operand : Expr 9 a tokens
  pub fits : length tokens + 1 + extra highest 10 ≤ count

apply_parts : {a : RawExpr} {level least n m count : ℕ} → Bare (heads.Apply n) (a ∷ []) level least → least + extra m level ≤ count → AppliedTo m a count
apply_parts (Bare.applied {ts = ts} f x) fits = record { tokens = ts; operand = x; fits = fits }

pub apply_short : {a : RawExpr} {ts : List Placed} (n m p : ℕ) → 9 ≤ m → Expr m (node (heads.Apply n) p (a ∷ [])) ts → AppliedTo m a (length ts)
apply_short {a} {ts} n m p high d = let k = known m (heads.Apply n) p (a ∷ []) high d in apply_parts k.bare k.fits

-- the two that it is applied to
pub record AppliedToTwo (highest : ℕ) (a b : RawExpr) (count : ℕ) : Type 0 where
  pub left_tokens : List Placed
  pub right_tokens : List Placed
  pub left : Expr 9 a left_tokens
  pub right : Expr 9 b right_tokens
  pub fits : length left_tokens + length right_tokens + 1 + extra highest 10 ≤ count

apply_two_parts : {a b : RawExpr} {level least n m count : ℕ} → Bare (heads.Apply n) (a ∷ b ∷ []) level least → least + extra m level ≤ count → AppliedToTwo m a b count
apply_two_parts (Bare.applied_to_two {ts = ts} {us = us} f x y) fits = record { left_tokens = ts; right_tokens = us; left = x; right = y; fits = fits }

pub apply_two_short : {a b : RawExpr} {ts : List Placed} (n m p : ℕ) → 9 ≤ m → Expr m (node (heads.Apply n) p (a ∷ b ∷ [])) ts → AppliedToTwo m a b (length ts)
apply_two_short {a} {b} {ts} n m p high d = let k = known m (heads.Apply n) p (a ∷ b ∷ []) high d in apply_two_parts k.bare k.fits

-- what two comparisons stand between
pub record ChainOf (highest : ℕ) (a b c : RawExpr) (count : ℕ) : Type 0 where
  pub left_tokens : List Placed
  pub middle_tokens : List Placed
  pub right_tokens : List Placed
  pub left : Expr 69 a left_tokens
  pub middle : Expr 69 b middle_tokens
  pub right : Expr 69 c right_tokens
  pub fits : length left_tokens + length middle_tokens + length right_tokens + 2 + extra highest 70 ≤ count

chain_parts : {a b c : RawExpr} {level least n o m count : ℕ} → Bare (heads.Chain n o) (a ∷ b ∷ c ∷ []) level least → least + extra m level ≤ count → ChainOf m a b c count
chain_parts (Bare.chained {ts = ts} {us = us} {vs = vs} s t x y z) fits = record { left_tokens = ts; middle_tokens = us; right_tokens = vs; left = x; middle = y; right = z; fits = fits }

pub chain_short : {a b c : RawExpr} {ts : List Placed} (n o m p : ℕ) → 9 ≤ m → Expr m (node (heads.Chain n o) p (a ∷ b ∷ c ∷ [])) ts → ChainOf m a b c (length ts)
chain_short {a} {b} {c} {ts} n o m p high d = let k = known m (heads.Chain n o) p (a ∷ b ∷ c ∷ []) high d in chain_parts k.bare k.fits
