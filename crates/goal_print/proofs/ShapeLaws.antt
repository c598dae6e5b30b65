-- What is read where the text of each shape of part stands.
use Rattle.std.proofs.Common.{◌≡◌, ℕ, zero, suc, ◌+◌, ◌≤◌, ◌<◌, ◌^◌, Bool, true, cond, List, [], ◌∷◌, ◌++◌, length, Some, refl, sym, ap, subst, ◌∙◌, append_assoc, arith}
use Rattle.std.specs.Prelude.{ℤ, pos, negsuc, neg_ℤ, int_le, nat_le, ◌&&◌, decimal, codes, unsigned_abs}
use Rattle.std.specs.Option.{option_map_or}
use Rattle.std.proofs.lemmas.Bool.{and_parts, ltb-true}
use Rattle.std.proofs.lemmas.List.{length-append}
use Rattle.goal_ast.specs.declared.term.Fn1.TheVariants as one
use Rattle.goal_ast.specs.declared.term.Fn2.TheVariants as two
use Rattle.goal_ast.specs.declared.formula.BFn.TheVariants as bools
use Rattle.goal_ast.specs.declared.goal.Name.{Name}
use Rattle.goal_ast.specs.Sorted.{is_small}
use Rattle.goal_token.specs.declared.token.Function.{Function}
use Rattle.goal_token.specs.declared.token.Function.TheVariants as functions
use Rattle.goal_token.specs.declared.token.Sign.{Sign}
use Rattle.goal_token.specs.declared.token.Sign.TheVariants as signs
use Rattle.goal_token.specs.declared.token.Token.{Token}
use Rattle.goal_token.specs.declared.token.Token.TheVariants as tokens
use Rattle.goal_token.specs.declared.token.Placed.{Placed}
use Rattle.goal_token.specs.declared.token.Constant.{Constant}
use Rattle.goal_token.specs.declared.token.Constant.TheVariants as constants
use Rattle.goal_token.specs.Numbers.{sign_number, function_number}
use Rattle.goal_token.specs.Spelling.{sign_text, function_text}
use Rattle.goal_token.specs.Spacing.{IsName, BeginsExpression, Spells}
use Rattle.goal_token.proofs.SpacingLaws.{begins_append, begins_name_text, spells_name, spells_number, spells_minus, spells_between, spells_spaced, spells_sign, spells_function, spells_true, spells_false, spells_bool_true, spells_bool_false}
use Rattle.goal_sort.specs.declared.raw.Head.{Head}
use Rattle.goal_sort.specs.declared.raw.Head.TheVariants as heads
use Rattle.goal_sort.specs.declared.raw.RawExpr.{RawExpr}
use Rattle.goal_sort.specs.IsSorted.{literal_fits, written, written_minus, word, node}
use Rattle.goal_text.specs.declared.precedence.Levels.{Levels}
use Rattle.goal_text.specs.Levels.{infix_levels, prefix_level, can_chain, arity}
use Rattle.goal_text.specs.Grammar.{sign, function, leaf_of, constant_text, Expr}
use Rattle.goal_text.specs.Grammar.{leaf as is_leaf, applied as is_applied, applied_to_two as is_applied_to_two, prefixed as is_prefixed, joined as is_joined, chained as is_chained}
use Rattle.goal_print.specs.Parts.{Part, leaf, number, between, prefixed, joined, chained, applied, applied_to_two, at_most}
use Rattle.goal_print.proofs.ShortLaws.{extra, none_extra, some_token, infix_short, prefix_short, apply_short, apply_two_short, chain_short}
use Rattle.goal_print.proofs.PieceLaws.{Split, split, Headed, headed, Parted, parted, no_tokens, Derives, Printed, ReadBack, same_tokens, at_most_back}
use Rattle.goal_token.proofs.SpacingSteps.{begins_decimal}

-- ---- one token

leaf_derives : {IsIt : RawExpr → Type 0} (t : Token) (h : Head) (m : ℕ) → leaf_of t ≡ Some h → ((p : ℕ) → IsIt (node h p [])) → Derives m (t ∷ []) IsIt
leaf_derives {IsIt} t h m is holds ts e = by_parts (headed t [] ts e)
  where
    by_parts : Headed t [] ts → (e : RawExpr) × Expr m e ts × IsIt e
    by_parts first =
        let alone = ap (λ (us : List Placed). record { token = t; at = first.place } ∷ us) (no_tokens first.rest first.rest_kinds) in
        (node h first.place [], same_tokens (first.whole ∙ alone) (is_leaf h (record { token = t; at = first.place }) is), holds first.place)

-- an expression has a token, and a leaf needs no parentheses
leaf_counts : {e : RawExpr} (t : Token) (m : ℕ) (ts : List Placed) → 9 ≤ m → Expr m e ts → length (t ∷ []) + extra m 9 ≤ length ts
leaf_counts {e} t m ts high d =
    let none = none_extra m 9 high in
    let some = some_token d in
    omega arith

-- one token that is an expression alone
pub print_leaf : {e : RawExpr} {IsIt : RawExpr → Type 0} (text : List ℕ) (t : Token) (h : Head) → leaf_of t ≡ Some h → Spells text (t ∷ []) → BeginsExpression text → ((p : ℕ) → IsIt (node h p [])) → Printed (leaf text) e IsIt
print_leaf {e} {IsIt} text t h is spells begins holds = record { kinds = t ∷ []; spells = spells; begins = begins; low = omega arith; derives = λ m le. leaf_derives t h m is holds; short = leaf_counts t }

pub print_name : {e : RawExpr} {IsIt : RawExpr → Type 0} (x : Name) → IsName x.bytes → ((p : ℕ) → IsIt (node (heads.Name x) p [])) → Printed (leaf x.bytes) e IsIt
print_name {e} {IsIt} x is holds = print_leaf x.bytes (tokens.Name x) (heads.Name x) refl (spells_name x.bytes is) (begins_name_text x.bytes is.shape) holds

-- a constant stands as its name
pub print_word : {e : RawExpr} {IsIt : RawExpr → Type 0} (c : Constant) → ((p : ℕ) → IsIt (word (constant_text c) p)) → Printed (leaf (constant_text c)) e IsIt
print_word {e} {IsIt} c holds = print_leaf (constant_text c) (tokens.Constant c) (heads.Name (record { bytes = constant_text c })) refl (spells c) (begins c) holds
  where
    spells : (c : Constant) → Spells (constant_text c) (tokens.Constant c ∷ [])
    spells constants.True = spells_true
    spells constants.False = spells_false
    spells constants.BoolTrue = spells_bool_true
    spells constants.BoolFalse = spells_bool_false

    begins : (c : Constant) → BeginsExpression (constant_text c)
    begins constants.True = refl
    begins constants.False = refl
    begins constants.BoolTrue = refl
    begins constants.BoolFalse = refl

-- ---- numbers

small_of : (n : ℤ) → is_small n ≡ true → unsigned_abs n < 2 ^ 126
small_of n e = ltb-true (unsigned_abs n) (2 ^ 126) e

pub print_literal : {e : RawExpr} {IsIt : RawExpr → Type 0} (n : ℤ) → literal_fits n → ((p : ℕ) → IsIt (written n p)) → Printed (number n) e IsIt
print_literal {e} {IsIt} (pos n) fits holds =
    let p = and_parts (int_le (pos 0) (pos n)) (is_small (pos n)) fits in
    let made : Printed (leaf (decimal n)) e IsIt =
    print_leaf (decimal n) (tokens.Literal (pos n)) (heads.Lit (pos n)) refl (spells_number n (small_of (pos n) p.1)) (begins_decimal n) holds in
    subst (λ (b : Bool). Printed (record { level = cond b 9 35; text = decimal n }) e IsIt) (sym p.0) made
print_literal {e} {IsIt} (negsuc n) fits holds = absurd cc

-- ---- signs before an operand

prefix_derives : {I K : RawExpr → Type 0} {k : List Token} (s : Sign) (l m : ℕ) → prefix_level s ≡ Some l → l ≤ m → Derives l k I → ((d : RawExpr) (p : ℕ) → I d → K (node (heads.Prefix (sign_number s)) p (d ∷ []))) → Derives m (tokens.Sign s ∷ k) K
prefix_derives {I} {K} {k} s l m is le inner holds ts e =
    let first = headed (tokens.Sign s) k ts e in
    let x = inner first.rest first.rest_kinds in
    let tree : RawExpr = node (heads.Prefix (sign_number s)) first.place (x.0 ∷ []) in
    (tree, same_tokens first.whole (is_prefixed s first.place l is le x.1), holds x.0 first.place x.2)

-- the sign is a token more than the operand
prefix_counts : {a : RawExpr} (s : Sign) (l p : ℕ) (k : List Token) → prefix_level s ≡ Some l → ((ts : List Placed) → Expr l a ts → length k ≤ length ts)
    → (m : ℕ) (ts : List Placed) → 9 ≤ m → Expr m (node (heads.Prefix (sign_number s)) p (a ∷ [])) ts → length (tokens.Sign s ∷ k) + extra m l ≤ length ts
prefix_counts {a} s l p k is inner m ts high d =
    let x = prefix_short s l m p is high d in
    let le = inner x.tokens x.operand in
    let fits = x.fits in
    omega arith

pub print_minus : {d : RawExpr} {I K : RawExpr → Type 0} {a : Part} (p : ℕ) → Printed a d I → ((d : RawExpr) (p : ℕ) → I d → K (node (heads.Prefix (sign_number signs.Minus)) p (d ∷ [])))
    → Printed (prefixed signs.Minus a) (node (heads.Prefix (sign_number signs.Minus)) p (d ∷ [])) K
print_minus {d} {I} {K} {a} p inner holds =
    let x : ReadBack 35 (at_most 35 a) d I = at_most_back 35 (omega arith) inner in
    record {
      kinds = tokens.Sign signs.Minus ∷ x.kinds;
      spells = spells_minus x.begins x.spells;
      begins = refl;
      low = omega arith;
      derives = λ m le. prefix_derives signs.Minus 35 m refl le x.derives holds;
      short = prefix_counts signs.Minus 35 p x.kinds refl x.short;
    }

pub print_not : {d : RawExpr} {I K : RawExpr → Type 0} {a : Part} (p : ℕ) → Printed a d I → ((d : RawExpr) (p : ℕ) → I d → K (node (heads.Prefix (sign_number signs.Not)) p (d ∷ [])))
    → Printed (prefixed signs.Not a) (node (heads.Prefix (sign_number signs.Not)) p (d ∷ [])) K
print_not {d} {I} {K} {a} p inner holds =
    let x : ReadBack 75 (at_most 75 a) d I = at_most_back 75 (omega arith) inner in
    record {
      kinds = tokens.Sign signs.Not ∷ x.kinds;
      spells = spells_sign signs.Not (at_most 75 a) x.kinds x.spells;
      begins = refl;
      low = omega arith;
      derives = λ m le. prefix_derives signs.Not 75 m refl le x.derives holds;
      short = prefix_counts signs.Not 75 p x.kinds refl x.short;
    }

-- a minus and a literal
pub print_negative : {IsIt : RawExpr → Type 0} (n : ℤ) (p q : ℕ) → literal_fits n → int_le (pos 1) n ≡ true → ((p q : ℕ) → IsIt (written_minus n p q)) → Printed (number (neg_ℤ n)) (written_minus n p q) IsIt
print_negative {IsIt} (pos zero) p q fits above holds = absurd cc
print_negative {IsIt} (pos (suc n)) p q fits above holds =
    let k = and_parts (int_le (pos 0) (pos (suc n))) (is_small (pos (suc n))) fits in
    let literal : Spells (decimal (suc n)) (tokens.Literal (pos (suc n)) ∷ []) = spells_number (suc n) (small_of (pos (suc n)) k.1) in
    record {
      kinds = tokens.Sign signs.Minus ∷ tokens.Literal (pos (suc n)) ∷ [];
      spells = spells_minus (begins_decimal (suc n)) literal;
      begins = refl;
      low = omega arith;
      derives = λ m le. prefix_derives signs.Minus 35 m refl le (leaf_derives {IsIt = λ (e : RawExpr). (q : ℕ) × (e ≡ written (pos (suc n)) q)} (tokens.Literal (pos (suc n))) (heads.Lit (pos (suc n))) 35 refl (λ q. (q, refl))) (λ d p is. subst (λ (e : RawExpr). IsIt (node (heads.Prefix (sign_number signs.Minus)) p (e ∷ []))) (sym is.1) (holds p is.0));
      short = prefix_counts signs.Minus 35 p (tokens.Literal (pos (suc n)) ∷ []) refl (λ ts d. some_token d);
    }
print_negative {IsIt} (negsuc n) p q fits above holds = absurd cc

-- ---- signs between operands

between_derives : {I J K : RawExpr → Type 0} {k l : List Token} (s : Sign) (v : Levels) (m : ℕ) → infix_levels s ≡ Some v → v.level ≤ m → Derives v.left k I → Derives v.right l J
    → ((d e : RawExpr) (p : ℕ) → I d → J e → K (node (heads.Infix (sign_number s)) p (d ∷ e ∷ []))) → Derives m (k ++ tokens.Sign s ∷ l) K
between_derives {I} {J} {K} {k} {l} s v m is le left right holds ts e =
    let cut = parted k (tokens.Sign s) l ts e in
    let x = left cut.left cut.left_kinds in
    let y = right cut.right cut.right_kinds in
    (node (heads.Infix (sign_number s)) cut.place (x.0 ∷ y.0 ∷ []), same_tokens cut.whole (is_joined s cut.place v is le x.1 y.1), holds x.0 y.0 cut.place x.2 y.2)

-- what stands between operands, without the parentheses of lists
spaced : (s : Sign) (y : List ℕ) → between s ++ y ≡ 32 ∷ (sign_text s ++ (32 ∷ y))
spaced s y = ap (λ (x : List ℕ). 32 ∷ x) (append_assoc (sign_text s) (32 ∷ []) y)

two_spelled : {k l : List Token} {x y : List ℕ} (s : Sign) → Spells x k → Spells y l → Spells (x ++ (between s ++ y)) (k ++ tokens.Sign s ∷ l)
two_spelled {k} {l} {x} {y} s p q = subst (λ (m : List ℕ). Spells (x ++ m) (k ++ tokens.Sign s ∷ l)) (sym (spaced s y)) (spells_between s p q)

-- the sign is a token more than the operands
between_counts : {a b : RawExpr} (s : Sign) (v : Levels) (p : ℕ) (k l : List Token) → infix_levels s ≡ Some v → ((ts : List Placed) → Expr v.left a ts → length k ≤ length ts) → ((ts : List Placed) → Expr v.right b ts → length l ≤ length ts)
    → (m : ℕ) (ts : List Placed) → 9 ≤ m → Expr m (node (heads.Infix (sign_number s)) p (a ∷ b ∷ [])) ts → length (k ++ tokens.Sign s ∷ l) + extra m v.level ≤ length ts
between_counts {a} {b} s v p k l is left right m ts high d =
    let x = infix_short s v m p is high d in
    let left_le = left x.left_tokens x.left in
    let right_le = right x.right_tokens x.right in
    let fits = x.fits in
    omega (arith, length-append k (tokens.Sign s ∷ l))

-- both sides have room for a leaf, and an expression has room for the whole
abbrev pub has_room : Levels → Bool
has_room v = nat_le 9 v.left && nat_le 9 v.right && nat_le v.level 100

record Room (v : Levels) : Type 0 where
  left : 9 ≤ v.left
  right : 9 ≤ v.right
  level : v.level ≤ 100

room_of : (v : Levels) → has_room v ≡ true → Room v
room_of v e = record { left = grind arith; right = grind arith; level = grind arith }

pub print_joined : {d e : RawExpr} {I J K : RawExpr → Type 0} {a b : Part} (s : Sign) (v : Levels) → infix_levels s ≡ Some v → has_room v ≡ true → (p : ℕ) → Printed a d I → Printed b e J
    → ((d e : RawExpr) (p : ℕ) → I d → J e → K (node (heads.Infix (sign_number s)) p (d ∷ e ∷ []))) → Printed (joined s a b) (node (heads.Infix (sign_number s)) p (d ∷ e ∷ [])) K
print_joined {d} {e} {I} {J} {K} {a} {b} s v is has p left right holds =
    let room = room_of v has in
    let x : ReadBack v.left (at_most v.left a) d I = at_most_back v.left room.left left in
    let y : ReadBack v.right (at_most v.right b) e J = at_most_back v.right room.right right in
    let text : List ℕ = at_most v.left a ++ (between s ++ at_most v.right b) in
    let whole : RawExpr = node (heads.Infix (sign_number s)) p (d ∷ e ∷ []) in
    let made : Printed (record { level = v.level; text = text }) whole K =
    record {
      kinds = x.kinds ++ tokens.Sign s ∷ y.kinds;
      spells = two_spelled s x.spells y.spells;
      begins = begins_append (at_most v.left a) (between s ++ at_most v.right b) x.begins;
      low = room.level;
      derives = λ m le. between_derives s v m is le x.derives y.derives holds;
      short = between_counts s v p x.kinds y.kinds is x.short y.short;
    } in
    subst (λ o. Printed (option_map_or (λ (l : Levels). record { level = l.level; text = at_most l.left a ++ (between s ++ at_most l.right b) }) o (leaf [])) whole K) (sym is) made

-- a literal on the right
pub print_by_literal : {d : RawExpr} {I K : RawExpr → Type 0} {a : Part} (s : Sign) (v : Levels) → infix_levels s ≡ Some v → has_room v ≡ true → (n : ℤ) (p q : ℕ) → literal_fits n → Printed a d I
    → ((d : RawExpr) (p q : ℕ) → I d → K (node (heads.Infix (sign_number s)) p (d ∷ written n q ∷ []))) → Printed (joined s a (number n)) (node (heads.Infix (sign_number s)) p (d ∷ written n q ∷ [])) K
print_by_literal {d} {I} {K} {a} s v is room n p q fits left holds =
    let right : Printed (number n) (written n q) (λ (e : RawExpr). (q : ℕ) × (e ≡ written n q)) = print_literal n fits (λ q. (q, refl)) in
    print_joined s v is room p left right (λ d e p i j. subst (λ (e : RawExpr). K (node (heads.Infix (sign_number s)) p (d ∷ e ∷ []))) (sym j.1) (holds d p j.0 i))

-- a minus and a literal on the right
pub print_by_negative : {d : RawExpr} {I K : RawExpr → Type 0} {a : Part} (s : Sign) (v : Levels) → infix_levels s ≡ Some v → has_room v ≡ true → (n : ℤ) (p q r : ℕ) → literal_fits n → int_le (pos 1) n ≡ true → Printed a d I
    → ((d : RawExpr) (p q r : ℕ) → I d → K (node (heads.Infix (sign_number s)) p (d ∷ written_minus n q r ∷ []))) → Printed (joined s a (number (neg_ℤ n))) (node (heads.Infix (sign_number s)) p (d ∷ written_minus n q r ∷ [])) K
print_by_negative {d} {I} {K} {a} s v is room n p q r fits above left holds =
    let right : Printed (number (neg_ℤ n)) (written_minus n q r) (λ (e : RawExpr). (q : ℕ) × (r : ℕ) × (e ≡ written_minus n q r)) = print_negative n q r fits above (λ q r. (q, r, refl)) in
    print_joined s v is room p left right (λ d e p i j. subst (λ (e : RawExpr). K (node (heads.Infix (sign_number s)) p (d ∷ e ∷ []))) (sym j.2) (holds d p j.0 j.1 i))

-- ---- two comparisons between three operands

chain_derives : {I J K L : RawExpr → Type 0} {j k l : List Token} (s t : Sign) (m : ℕ) → can_chain s ≡ true → can_chain t ≡ true → 70 ≤ m → Derives 69 j I → Derives 69 k J → Derives 69 l K
    → ((d e f : RawExpr) (p : ℕ) → I d → J e → K f → L (node (heads.Chain (sign_number s) (sign_number t)) p (d ∷ e ∷ f ∷ []))) → Derives m (j ++ tokens.Sign s ∷ (k ++ tokens.Sign t ∷ l)) L
chain_derives {I} {J} {K} {L} {j} {k} {l} s t m s_can t_can le left middle right holds ts e = let cut = parted j (tokens.Sign s) (k ++ tokens.Sign t ∷ l) ts e in by_parts cut (parted k (tokens.Sign t) l cut.right cut.right_kinds)
  where
    by_parts : (cut : Parted j (tokens.Sign s) (k ++ tokens.Sign t ∷ l) ts) → Parted k (tokens.Sign t) l cut.right → (e : RawExpr) × Expr m e ts × L e
    by_parts cut next =
        let x = left cut.left cut.left_kinds in
        let y = middle next.left next.left_kinds in
        let z = right next.right next.right_kinds in
        let whole = cut.whole ∙ ap (λ (us : List Placed). cut.left ++ sign s cut.place ∷ us) next.whole in
        (node (heads.Chain (sign_number s) (sign_number t)) cut.place (x.0 ∷ y.0 ∷ z.0 ∷ []), same_tokens whole (is_chained s t cut.place next.place s_can t_can le x.1 y.1 z.1), holds x.0 y.0 z.0 cut.place x.2 y.2 z.2)

-- the two signs are tokens more than the operands
chain_counts : {a b c : RawExpr} (s t : Sign) (p : ℕ) (j k l : List Token) → ((ts : List Placed) → Expr 69 a ts → length j ≤ length ts) → ((ts : List Placed) → Expr 69 b ts → length k ≤ length ts) → ((ts : List Placed) → Expr 69 c ts → length l ≤ length ts)
    → (m : ℕ) (ts : List Placed) → 9 ≤ m → Expr m (node (heads.Chain (sign_number s) (sign_number t)) p (a ∷ b ∷ c ∷ [])) ts → length (j ++ tokens.Sign s ∷ (k ++ tokens.Sign t ∷ l)) + extra m 70 ≤ length ts
chain_counts {a} {b} {c} s t p j k l left middle right m ts high d =
    let x = chain_short (sign_number s) (sign_number t) m p high d in
    let left_le = left x.left_tokens x.left in
    let middle_le = middle x.middle_tokens x.middle in
    let right_le = right x.right_tokens x.right in
    let fits = x.fits in
    omega (arith, length-append j (tokens.Sign s ∷ (k ++ tokens.Sign t ∷ l)), length-append k (tokens.Sign t ∷ l))

pub print_chained : {d e f : RawExpr} {I J K L : RawExpr → Type 0} {a b c : Part} (s t : Sign) → can_chain s ≡ true → can_chain t ≡ true → (p : ℕ) → Printed a d I → Printed b e J → Printed c f K
    → ((d e f : RawExpr) (p : ℕ) → I d → J e → K f → L (node (heads.Chain (sign_number s) (sign_number t)) p (d ∷ e ∷ f ∷ [])))
    → Printed (chained s t a b c) (node (heads.Chain (sign_number s) (sign_number t)) p (d ∷ e ∷ f ∷ [])) L
print_chained {d} {e} {f} {I} {J} {K} {L} {a} {b} {c} s t s_can t_can p left middle right holds =
    let x : ReadBack 69 (at_most 69 a) d I = at_most_back 69 (omega arith) left in
    let y : ReadBack 69 (at_most 69 b) e J = at_most_back 69 (omega arith) middle in
    let z : ReadBack 69 (at_most 69 c) f K = at_most_back 69 (omega arith) right in
    record {
      kinds = x.kinds ++ tokens.Sign s ∷ (y.kinds ++ tokens.Sign t ∷ z.kinds);
      spells = two_spelled s x.spells (two_spelled t y.spells z.spells);
      begins = begins_append (at_most 69 a) (between s ++ (at_most 69 b ++ (between t ++ at_most 69 c))) x.begins;
      low = omega arith;
      derives = λ m le. chain_derives s t m s_can t_can le x.derives y.derives z.derives holds;
      short = chain_counts s t p x.kinds y.kinds z.kinds x.short y.short z.short;
    }

-- ---- functions

apply_derives : {I K : RawExpr → Type 0} {k : List Token} (f : Function) (m : ℕ) → arity f ≡ 1 → 10 ≤ m → Derives 9 k I → ((d : RawExpr) (p : ℕ) → I d → K (node (heads.Apply (function_number f)) p (d ∷ []))) → Derives m (tokens.Function f ∷ k) K
apply_derives {I} {K} {k} f m is le inner holds ts e =
    let first = headed (tokens.Function f) k ts e in
    let x = inner first.rest first.rest_kinds in
    let tree : RawExpr = node (heads.Apply (function_number f)) first.place (x.0 ∷ []) in
    (tree, same_tokens first.whole (is_applied f first.place le is x.1), holds x.0 first.place x.2)

apply_two_derives : {I J K : RawExpr → Type 0} {k l : List Token} (f : Function) (m : ℕ) → arity f ≡ 2 → 10 ≤ m → Derives 9 k I → Derives 9 l J
    → ((d e : RawExpr) (p : ℕ) → I d → J e → K (node (heads.Apply (function_number f)) p (d ∷ e ∷ []))) → Derives m (tokens.Function f ∷ (k ++ l)) K
apply_two_derives {I} {J} {K} {k} {l} f m is le left right holds ts e = let first = headed (tokens.Function f) (k ++ l) ts e in by_parts first (split k l first.rest first.rest_kinds)
  where
    by_parts : (first : Headed (tokens.Function f) (k ++ l) ts) → Split k l first.rest → (e : RawExpr) × Expr m e ts × K e
    by_parts first cut =
        let x = left cut.left cut.left_kinds in
        let y = right cut.right cut.right_kinds in
        let whole = first.whole ∙ ap (λ (us : List Placed). function f first.place ∷ us) cut.whole in
        (node (heads.Apply (function_number f)) first.place (x.0 ∷ y.0 ∷ []), same_tokens whole (is_applied_to_two f first.place le is x.1 y.1), holds x.0 y.0 first.place x.2 y.2)

function_begins : (f : Function) → BeginsExpression (function_text f)
function_begins (functions.One one.ZSucc) = refl
function_begins (functions.One one.ZPred) = refl
function_begins (functions.One one.ZOpp) = refl
function_begins (functions.One one.ZAbs) = refl
function_begins (functions.One one.ZSgn) = refl
function_begins (functions.One one.S) = refl
function_begins (functions.One one.NatPred) = refl
function_begins (functions.One one.NSucc) = refl
function_begins (functions.One one.NPred) = refl
function_begins (functions.One one.PosSucc) = refl
function_begins (functions.One one.PosPred) = refl
function_begins (functions.One one.OfNat) = refl
function_begins (functions.One one.OfN) = refl
function_begins (functions.One one.OfPos) = refl
function_begins (functions.One one.ToNat) = refl
function_begins (functions.One one.ToN) = refl
function_begins (functions.Two two.ZMin) = refl
function_begins (functions.Two two.ZMax) = refl
function_begins (functions.Two two.NatMin) = refl
function_begins (functions.Two two.NatMax) = refl
function_begins (functions.Two two.NMin) = refl
function_begins (functions.Two two.NMax) = refl
function_begins (functions.Two two.PosMin) = refl
function_begins (functions.Two two.PosMax) = refl
function_begins functions.Negb = refl
function_begins (functions.Bool bools.Imp) = refl
function_begins (functions.Bool bools.Xor) = refl
function_begins (functions.Bool bools.Eqb) = refl

-- the function is a token more than its arguments
apply_counts : {a : RawExpr} (f : Function) (p : ℕ) (k : List Token) → ((ts : List Placed) → Expr 9 a ts → length k ≤ length ts)
    → (m : ℕ) (ts : List Placed) → 9 ≤ m → Expr m (node (heads.Apply (function_number f)) p (a ∷ [])) ts → length (tokens.Function f ∷ k) + extra m 10 ≤ length ts
apply_counts {a} f p k inner m ts high d =
    let x = apply_short (function_number f) m p high d in
    let le = inner x.tokens x.operand in
    let fits = x.fits in
    omega arith

apply_two_counts : {a b : RawExpr} (f : Function) (p : ℕ) (k l : List Token) → ((ts : List Placed) → Expr 9 a ts → length k ≤ length ts) → ((ts : List Placed) → Expr 9 b ts → length l ≤ length ts)
    → (m : ℕ) (ts : List Placed) → 9 ≤ m → Expr m (node (heads.Apply (function_number f)) p (a ∷ b ∷ [])) ts → length (tokens.Function f ∷ (k ++ l)) + extra m 10 ≤ length ts
apply_two_counts {a} {b} f p k l left right m ts high d =
    let x = apply_two_short (function_number f) m p high d in
    let left_le = left x.left_tokens x.left in
    let right_le = right x.right_tokens x.right in
    let fits = x.fits in
    omega (arith, length-append k l)

pub print_applied : {d : RawExpr} {I K : RawExpr → Type 0} {a : Part} (f : Function) → arity f ≡ 1 → (p : ℕ) → Printed a d I → ((d : RawExpr) (p : ℕ) → I d → K (node (heads.Apply (function_number f)) p (d ∷ [])))
    → Printed (applied f a) (node (heads.Apply (function_number f)) p (d ∷ [])) K
print_applied {d} {I} {K} {a} f is p inner holds =
    let x : ReadBack 9 (at_most 9 a) d I = at_most_back 9 (omega arith) inner in
    record {
      kinds = tokens.Function f ∷ x.kinds;
      spells = spells_spaced (spells_function f) x.spells;
      begins = begins_append (function_text f) (codes " " ++ at_most 9 a) (function_begins f);
      low = omega arith;
      derives = λ m le. apply_derives f m is le x.derives holds;
      short = apply_counts f p x.kinds x.short;
    }

pub print_applied_to_two : {d e : RawExpr} {I J K : RawExpr → Type 0} {a b : Part} (f : Function) → arity f ≡ 2 → (p : ℕ) → Printed a d I → Printed b e J
    → ((d e : RawExpr) (p : ℕ) → I d → J e → K (node (heads.Apply (function_number f)) p (d ∷ e ∷ []))) → Printed (applied_to_two f a b) (node (heads.Apply (function_number f)) p (d ∷ e ∷ [])) K
print_applied_to_two {d} {e} {I} {J} {K} {a} {b} f is p left right holds =
    let x : ReadBack 9 (at_most 9 a) d I = at_most_back 9 (omega arith) left in
    let y : ReadBack 9 (at_most 9 b) e J = at_most_back 9 (omega arith) right in
    record {
      kinds = tokens.Function f ∷ (x.kinds ++ y.kinds);
      spells = spells_spaced (spells_function f) (spells_spaced x.spells y.spells);
      begins = begins_append (function_text f) (codes " " ++ (at_most 9 a ++ (codes " " ++ at_most 9 b))) (function_begins f);
      low = omega arith;
      derives = λ m le. apply_two_derives f m is le x.derives y.derives holds;
      short = apply_two_counts f p x.kinds y.kinds x.short y.short;
    }
