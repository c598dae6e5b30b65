-- Tokens by their kinds, and what is read where a part's text stands.
use Rattle.std.proofs.Common.{◌≡◌, ℕ, ◌+◌, ◌≤◌, Bool, true, false, cond, List, [], ◌∷◌, ◌++◌, length, refl, sym, ap, subst, ◌∙◌, arith}
use Rattle.std.specs.Prelude.{nat_le}
use Rattle.std.proofs.lemmas.List.{length-append}
use Rattle.goal_token.specs.declared.token.Token.{Token}
use Rattle.goal_token.specs.declared.token.Token.TheVariants as tokens
use Rattle.goal_token.specs.declared.token.Sign.TheVariants as signs
use Rattle.goal_token.specs.declared.token.Placed.{Placed}
use Rattle.goal_token.specs.Spacing.{kinds_of, BeginsExpression, Spells}
use Rattle.goal_token.proofs.SpacingLaws.{spells_grouped}
use Rattle.goal_sort.specs.declared.raw.RawExpr.{RawExpr}
use Rattle.goal_text.specs.Grammar.{sign, Expr}
use Rattle.goal_text.specs.Grammar.{grouped as in_group}
use Rattle.goal_print.specs.Parts.{Part, grouped, at_most}
use Rattle.goal_print.proofs.ShortLaws.{extra}
use Rattle.goal_text.proofs.WithinLaws.{first_is, others_are}

-- ---- tokens by their kinds

-- tokens of these kinds, and then of those
pub record Split (k l : List Token) (ts : List Placed) : Type 0 where
  pub left : List Placed
  pub right : List Placed
  pub whole : ts ≡ left ++ right
  pub left_kinds : kinds_of left ≡ k
  pub right_kinds : kinds_of right ≡ l

-- a token of this kind, and then tokens of those
pub record Headed (t : Token) (l : List Token) (ts : List Placed) : Type 0 where
  pub place : ℕ
  pub rest : List Placed
  pub whole : ts ≡ record { token = t; at = place } ∷ rest
  pub rest_kinds : kinds_of rest ≡ l

placed_as : (u : Placed) (t : Token) → u.token ≡ t → u ≡ record { token = t; at = u.at }
placed_as u t e = ap (λ (t : Token). record { token = t; at = u.at }) e

pub headed : (t : Token) (l : List Token) (ts : List Placed) → kinds_of ts ≡ t ∷ l → Headed t l ts
headed t l [] e = absurd cc
headed t l (u ∷ ts) e = record {
  place = u.at;
  rest = ts;
  whole = ap (λ (v : Placed). v ∷ ts) (placed_as u t (first_is e));
  rest_kinds = others_are e;
}

pub split : (k l : List Token) (ts : List Placed) → kinds_of ts ≡ k ++ l → Split k l ts
split [] l ts e = record { left = []; right = ts; whole = refl; left_kinds = refl; right_kinds = e }
split (t ∷ k) l [] e = absurd cc
split (t ∷ k) l (u ∷ ts) e =
    let r = split k l ts (others_are e) in
    let same = first_is e in
    record {
      left = u ∷ r.left;
      right = r.right;
      whole = ap (λ (us : List Placed). u ∷ us) r.whole;
      left_kinds = ap (λ (t : Token). t ∷ kinds_of r.left) same ∙ ap (λ k. t ∷ k) r.left_kinds;
      right_kinds = r.right_kinds;
    }

-- tokens of these kinds, a token of this kind, and tokens of those
pub record Parted (k : List Token) (t : Token) (l : List Token) (ts : List Placed) : Type 0 where
  pub left : List Placed
  pub place : ℕ
  pub right : List Placed
  pub whole : ts ≡ left ++ record { token = t; at = place } ∷ right
  pub left_kinds : kinds_of left ≡ k
  pub right_kinds : kinds_of right ≡ l

put_together : (k : List Token) (t : Token) (l : List Token) (ts : List Placed) (cut : Split k (t ∷ l) ts) → Headed t l cut.right → Parted k t l ts
put_together k t l ts cut head = record {
  left = cut.left;
  place = head.place;
  right = head.rest;
  whole = cut.whole ∙ ap (λ (us : List Placed). cut.left ++ us) head.whole;
  left_kinds = cut.left_kinds;
  right_kinds = head.rest_kinds;
}

pub parted : (k : List Token) (t : Token) (l : List Token) (ts : List Placed) → kinds_of ts ≡ k ++ t ∷ l → Parted k t l ts
parted k t l ts e = let cut = split k (t ∷ l) ts e in put_together k t l ts cut (headed t l cut.right cut.right_kinds)

pub no_tokens : (ts : List Placed) → kinds_of ts ≡ [] → ts ≡ []
no_tokens [] e = refl
no_tokens (t ∷ ts) e = absurd cc

-- ---- parts

-- tokens of these kinds are an expression of at most this level for which this holds
abbrev pub Derives : ℕ → List Token → (RawExpr → Type 0) → Type 0
Derives highest kinds IsIt = (ts : List Placed) → kinds_of ts ≡ kinds → (e : RawExpr) × Expr highest e ts × IsIt e

-- a part's text spells tokens that are, wherever they stand, an expression of the part's level for which this holds;
-- any tokens that are the expression as it was read are as many or more, with the parentheses that it needs there
pub record Printed (part : Part) (e : RawExpr) (IsIt : RawExpr → Type 0) : Type 0 where
  pub kinds : List Token
  pub spells : Spells part.text kinds
  pub begins : BeginsExpression part.text
  pub low : part.level ≤ 100
  pub derives : (highest : ℕ) → part.level ≤ highest → Derives highest kinds IsIt
  pub short : (highest : ℕ) (ts : List Placed) → 9 ≤ highest → Expr highest e ts → length kinds + extra highest part.level ≤ length ts

-- the same part
pub same_part : {p q : Part} {e : RawExpr} {IsIt : RawExpr → Type 0} → p ≡ q → Printed q e IsIt → Printed p e IsIt
same_part {p} {q} {e} {IsIt} same printed = subst (λ (p : Part). Printed p e IsIt) (sym same) printed

-- the same tokens
pub same_tokens : {m : ℕ} {e : RawExpr} {ts us : List Placed} → ts ≡ us → Expr m e us → Expr m e ts
same_tokens {m} {e} {ts} {us} same d = subst (λ (ts : List Placed). Expr m e ts) (sym same) d

-- a text spells tokens that are, wherever they stand, an expression of at most this level for which this holds;
-- any tokens that are the expression as it was read are as many or more
pub record ReadBack (highest : ℕ) (text : List ℕ) (e : RawExpr) (IsIt : RawExpr → Type 0) : Type 0 where
  pub kinds : List Token
  pub spells : Spells text kinds
  pub begins : BeginsExpression text
  pub derives : Derives highest kinds IsIt
  pub short : (ts : List Placed) → Expr highest e ts → length kinds ≤ length ts

-- tokens between parentheses
group_derives : {k : List Token} {IsIt : RawExpr → Type 0} (m : ℕ) → Derives 100 k IsIt → Derives m (tokens.Sign signs.Open ∷ (k ++ tokens.Sign signs.Close ∷ [])) IsIt
group_derives {k} {IsIt} m inner ts e = let first = headed (tokens.Sign signs.Open) (k ++ tokens.Sign signs.Close ∷ []) ts e in by_parts first (parted k (tokens.Sign signs.Close) [] first.rest first.rest_kinds)
  where
    by_parts : (first : Headed (tokens.Sign signs.Open) (k ++ tokens.Sign signs.Close ∷ []) ts) → Parted k (tokens.Sign signs.Close) [] first.rest → (e : RawExpr) × Expr m e ts × IsIt e
    by_parts first cut =
        let x = inner cut.left cut.left_kinds in
        let last = ap (λ (us : List Placed). cut.left ++ sign signs.Close cut.place ∷ us) (no_tokens cut.right cut.right_kinds) in
        (x.0, same_tokens (first.whole ∙ ap (λ (us : List Placed). sign signs.Open first.place ∷ us) (cut.whole ∙ last)) (in_group first.place cut.place x.1), x.2)

-- as many as without what is added
at_least : (n more count : ℕ) → n + more ≤ count → n ≤ count
at_least n more count le = omega arith

-- what the parentheses around it add
group_short : (k : List Token) (m level count : ℕ) → nat_le level m ≡ false → length k + extra m level ≤ count → length (tokens.Sign signs.Open ∷ (k ++ tokens.Sign signs.Close ∷ [])) ≤ count
group_short k m level count over le = let two = rw over at le in omega (arith, length-append k (tokens.Sign signs.Close ∷ []))

-- a part stands where only levels up to this one may, between parentheses where it must
pub at_most_back : {part : Part} {e : RawExpr} {IsIt : RawExpr → Type 0} (m : ℕ) → 9 ≤ m → Printed part e IsIt → ReadBack m (at_most m part) e IsIt
unfolding at_most
at_most_back {part} {e} {IsIt} m high printed = by_level (nat_le part.level m) refl
  where
    by_level : (b : Bool) → nat_le part.level m ≡ b → ReadBack m (cond b part.text (grouped part.text)) e IsIt
    by_level true is = record {
      kinds = printed.kinds;
      spells = printed.spells;
      begins = printed.begins;
      derives = printed.derives m (let k = is in grind arith);
      short = λ ts d. at_least (length printed.kinds) (extra m part.level) (length ts) (printed.short m ts high d);
    }
    by_level false is = record {
      kinds = tokens.Sign signs.Open ∷ (printed.kinds ++ tokens.Sign signs.Close ∷ []);
      spells = spells_grouped printed.begins printed.spells;
      begins = refl;
      derives = group_derives m (printed.derives 100 printed.low);
      short = λ ts d. group_short printed.kinds m part.level (length ts) is (printed.short m ts high d);
    }

-- a whole part
pub part_back : {part : Part} {e : RawExpr} {IsIt : RawExpr → Type 0} → Printed part e IsIt → ReadBack 100 part.text e IsIt
part_back {part} {e} {IsIt} printed = record {
  kinds = printed.kinds;
  spells = printed.spells;
  begins = printed.begins;
  derives = printed.derives 100 printed.low;
  short = λ ts d. at_least (length printed.kinds) (extra 100 part.level) (length ts) (printed.short 100 ts (omega arith) d);
}
