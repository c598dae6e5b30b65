-- The expressions of goal files, level by level.
use Rattle.std.specs.Prelude.{◌≡◌, ℕ, ◌≤◌, List, [], ◌∷◌, ◌++◌, true, Option, Some, None, codes}
use Rattle.goal_token.specs.declared.token.Sign.{Sign}
use Rattle.goal_token.specs.declared.token.Sign.TheVariants as signs
use Rattle.goal_token.specs.declared.token.Function.{Function}
use Rattle.goal_token.specs.declared.token.Token.{Token}
use Rattle.goal_token.specs.declared.token.Token.TheVariants as tokens
use Rattle.goal_token.specs.declared.token.Placed.{Placed}
use Rattle.goal_token.specs.declared.token.Constant.{Constant}
use Rattle.goal_token.specs.declared.token.Constant.TheVariants as constants
use Rattle.goal_token.specs.Numbers.{sign_number, function_number}
use Rattle.goal_sort.specs.declared.raw.Head.{Head}
use Rattle.goal_sort.specs.declared.raw.Head.TheVariants as heads
use Rattle.goal_sort.specs.declared.raw.RawExpr.{RawExpr}
use Rattle.goal_text.specs.declared.precedence.Levels.{Levels}
use Rattle.goal_text.specs.Levels.{infix_levels, prefix_level, can_chain, arity}
use Rattle.goal_sort.specs.IsSorted.{node}

abbrev pub sign : Sign → ℕ → Placed
sign s p = record { token = tokens.Sign s; at = p }

abbrev pub function : Function → ℕ → Placed
function f p = record { token = tokens.Function f; at = p }

-- the name of a constant
abbrev pub constant_text : Constant → List ℕ
constant_text constants.True = codes "True"
constant_text constants.False = codes "False"
constant_text constants.BoolTrue = codes "true"
constant_text constants.BoolFalse = codes "false"

-- the tokens that are an expression alone
abbrev pub leaf_of : Token → Option Head
leaf_of (tokens.Literal n) = Some (heads.Lit n)
leaf_of (tokens.Name x) = Some (heads.Name x)
leaf_of (tokens.Constant c) = Some (heads.Name (record { bytes = constant_text c }))
leaf_of (tokens.Keyword k) = None
leaf_of (tokens.Sort s) = None
leaf_of (tokens.Function f) = None
leaf_of (tokens.Sign s) = None
leaf_of tokens.Wrong = None

-- an expression of at most this level, and its tokens
pub data Expr : ℕ → RawExpr → List Placed → Type 0 where
  leaf : {m : ℕ} (h : Head) (t : Placed) → leaf_of t.token ≡ Some h → Expr m (node h t.at []) (t ∷ [])
  grouped : {m : ℕ} {e : RawExpr} {ts : List Placed} (p q : ℕ) → Expr 100 e ts → Expr m e (sign signs.Open p ∷ (ts ++ sign signs.Close q ∷ []))
  applied : {m : ℕ} {a : RawExpr} {ts : List Placed} (f : Function) (p : ℕ) → 10 ≤ m → arity f ≡ 1 → Expr 9 a ts → Expr m (node (heads.Apply (function_number f)) p (a ∷ [])) (function f p ∷ ts)
  applied_to_two : {m : ℕ} {a b : RawExpr} {ts us : List Placed} (f : Function) (p : ℕ) → 10 ≤ m → arity f ≡ 2 → Expr 9 a ts → Expr 9 b us
      → Expr m (node (heads.Apply (function_number f)) p (a ∷ b ∷ [])) (function f p ∷ (ts ++ us))
  prefixed : {m : ℕ} {a : RawExpr} {ts : List Placed} (s : Sign) (p l : ℕ) → prefix_level s ≡ Some l → l ≤ m → Expr l a ts → Expr m (node (heads.Prefix (sign_number s)) p (a ∷ [])) (sign s p ∷ ts)
  joined : {m : ℕ} {a b : RawExpr} {ts us : List Placed} (s : Sign) (p : ℕ) (l : Levels) → infix_levels s ≡ Some l → l.level ≤ m → Expr l.left a ts → Expr l.right b us
      → Expr m (node (heads.Infix (sign_number s)) p (a ∷ b ∷ [])) (ts ++ sign s p ∷ us)
  chained : {m : ℕ} {a b c : RawExpr} {ts us vs : List Placed} (s t : Sign) (p q : ℕ) → can_chain s ≡ true → can_chain t ≡ true → 70 ≤ m → Expr 69 a ts → Expr 69 b us → Expr 69 c vs
      → Expr m (node (heads.Chain (sign_number s) (sign_number t)) p (a ∷ b ∷ c ∷ [])) (ts ++ sign s p ∷ (us ++ sign t q ∷ vs))
