-- What was read of an expression is the front of one, and what was read to the end is one.
use Rattle.std.proofs.Common.{◌≡◌, ℕ, ◌≤◌, Bool, true, cond, inl, inr, List, [], ◌∷◌, ◌++◌, Option, Some, None, refl, sym, ap, subst, ◌∙◌, append_assoc, arith}
use Rattle.std.specs.Prelude.{pos, nat_le, ◌&&◌}
use Rattle.std.specs.Option.{option_map_or}
use Rattle.std.proofs.lemmas.Bool.{and_parts}
use Rattle.std.proofs.lemmas.List.{append-nil}
use Rattle.std.proofs.lemmas.Option.{same_Some}
use Rattle.mm_num.specs.Option.{◌>>=◌}
use Rattle.mm_num.proofs.OptionLaws.{bind_some, choice_some, test_some}
use Rattle.goal_token.specs.declared.token.Sign.{Sign}
use Rattle.goal_token.specs.declared.token.Sign.TheVariants as signs
use Rattle.goal_token.specs.declared.token.Function.{Function}
use Rattle.goal_token.specs.declared.token.Function.TheVariants as functions
use Rattle.goal_token.specs.declared.token.Token.{Token}
use Rattle.goal_token.specs.declared.token.Token.TheVariants as tokens
use Rattle.goal_token.specs.declared.token.Placed.{Placed}
use Rattle.goal_token.specs.Numbers.{sign_number, function_number}
use Rattle.goal_sort.specs.declared.raw.Head.{Head}
use Rattle.goal_sort.specs.declared.raw.Head.TheVariants as heads
use Rattle.goal_sort.specs.declared.raw.RawExpr.{RawExpr}
use Rattle.goal_text.specs.declared.frame.Frame.{Frame}
use Rattle.goal_text.specs.declared.frame.Frame.TheVariants.{Open, Prefix, Infix, Chain, First, Last}
use Rattle.goal_text.specs.declared.precedence.Levels.{Levels}
use Rattle.goal_text.specs.Levels.{infix_levels, prefix_level, can_chain, arity}
use Rattle.goal_text.specs.Grammar.{sign, function, leaf_of, constant_text, Expr, leaf, grouped, applied, applied_to_two, prefixed, joined, chained}
use Rattle.goal_text.specs.Operands.{Whole, Reading, highest, room, level_of, right_of, prefix_of, closed, chain_with, attached, wanted_if, joins, after_group, ends_group, finished, call, opens_group, sign_opens, opens, closes_group, sign_follows, token_follows, follows, with_token, read_of}
use Rattle.goal_text.proofs.OptionLaws.{guard_some}
use Rattle.goal_text.proofs.LevelLaws.{level_low}
use Rattle.goal_text.proofs.LandingLaws.{chain_is, chain_right}
use Rattle.goal_sort.specs.IsSorted.{node}

-- an expression of at most a level is one of at most a higher level
pub wider : {n : ℕ} {e : RawExpr} {ts : List Placed} (m : ℕ) → n ≤ m → Expr n e ts → Expr m e ts
wider m le (leaf h t is) = leaf h t is
wider m le (grouped p q d) = grouped p q d
wider m le (applied f p low is d) = applied f p (omega (arith, low)) is d
wider m le (applied_to_two f p low is d c) = applied_to_two f p (omega (arith, low)) is d c
wider m le (prefixed s p l is low d) = prefixed s p l is (omega (arith, low)) d
wider m le (joined s p l is low d c) = joined s p l is (omega (arith, low)) d c
wider m le (chained s t p q c d low x y z) = chained s t p q c d (omega (arith, low)) x y z

-- ---- what is open

-- the tokens of an open construct, up to what comes next in it
abbrev pub Stands : Frame → List Placed → Type 0
Stands Open ts = (p : ℕ) × (ts ≡ sign signs.Open p ∷ [])
Stands (Prefix s p) ts = (l : ℕ) × (prefix_level s ≡ Some l) × (ts ≡ sign s p ∷ [])
Stands (Infix s p a) ts = (l : Levels) × (infix_levels s ≡ Some l) × (us : List Placed) × Expr l.left a us × (ts ≡ us ++ sign s p ∷ [])
Stands (Chain s p t a b) ts = (can_chain s ≡ true) × (can_chain t ≡ true) × (us : List Placed) × (vs : List Placed) × (q : ℕ) × Expr 69 a us × Expr 69 b vs × (ts ≡ us ++ sign s p ∷ (vs ++ sign t q ∷ []))
Stands (First f p) ts = (arity f ≡ 2) × (ts ≡ function f p ∷ [])
Stands (Last f p None) ts = (arity f ≡ 1) × (ts ≡ function f p ∷ [])
Stands (Last f p (Some a)) ts = (arity f ≡ 2) × (us : List Placed) × Expr 9 a us × (ts ≡ function f p ∷ us)

-- the level that a construct has once it is whole
abbrev pub level_in : Frame → ℕ
level_in Open = 0
level_in (Prefix s p) = prefix_of s
level_in (Infix s p a) = level_of s
level_in (Chain s p t a b) = 70
level_in (First f p) = 10
level_in (Last f p before) = 10

-- the tokens of all that is open; each construct has room in the next one out
abbrev pub StandAll : List Frame → List Placed → Type 0
StandAll [] ts = ts ≡ []
StandAll (f ∷ fs) ts = (us : List Placed) × (vs : List Placed) × (ts ≡ us ++ vs) × StandAll fs us × Stands f vs × (level_in f ≤ room fs)

-- the tokens of a whole operand over what is open
abbrev pub StandsWith : Option Whole → List Frame → List Placed → Type 0
StandsWith None fs ts = StandAll fs ts
StandsWith (Some w) fs ts = (us : List Placed) × (vs : List Placed) × (ts ≡ us ++ vs) × StandAll fs us × Expr w.1 w.0 vs × (w.1 ≤ room fs)

-- the tokens of what was read
abbrev pub HasRead : Reading → List Placed → Type 0
HasRead r ts = StandsWith r.1 r.0 ts

-- ---- a construct ends

ends : (f : Frame) (n : ℕ) (e : RawExpr) (us vs : List Placed) (w : Whole) → Stands f us → Expr n e vs → n ≤ highest f → closed f e ≡ Some w → Expr w.1 w.0 (us ++ vs) × (w.1 ≡ level_in f)
ends Open n e us vs w s d le is = absurd cc
ends (First f p) n e us vs w s d le is = absurd cc
ends (Prefix s p) n e us vs w h d le is =
    let same : prefix_of s ≡ h.0 = ap (λ o. option_map_or (λ (l : ℕ). l) o 0) h.1 in
    let whole : Expr (prefix_of s) (node (heads.Prefix (sign_number s)) p (e ∷ [])) (us ++ vs) =
    subst (λ us. Expr (prefix_of s) (node (heads.Prefix (sign_number s)) p (e ∷ [])) (us ++ vs)) (sym h.2) (prefixed s p h.0 h.1 (omega arith) (wider h.0 (omega arith) d)) in
    subst (λ (w : Whole). Expr w.1 w.0 (us ++ vs) × (w.1 ≡ prefix_of s)) (same_Some _ w is) (whole, refl)
ends (Infix s p a) n e us vs w h d le is =
    let same : level_of s ≡ h.0.level = ap (λ o. option_map_or (λ (l : Levels). l.level) o 0) h.1 in
    let right : right_of s ≡ h.0.right = ap (λ o. option_map_or (λ (l : Levels). l.right) o 0) h.1 in
    let e_node : RawExpr = node (heads.Infix (sign_number s)) p (a ∷ e ∷ []) in
    let made : Expr (level_of s) e_node (h.2 ++ sign s p ∷ vs) = joined s p h.0 h.1 (omega arith) h.3 (wider h.0.right (omega arith) d) in
    let tokens : us ++ vs ≡ h.2 ++ sign s p ∷ vs = ap (λ us. us ++ vs) h.4 ∙ append_assoc h.2 (sign s p ∷ []) vs in
    subst (λ (w : Whole). Expr w.1 w.0 (us ++ vs) × (w.1 ≡ level_of s)) (same_Some _ w is) (subst (λ ts. Expr (level_of s) e_node ts) (sym tokens) made, refl)
ends (Chain s p t a b) n e us vs w h d le is =
    let e_node : RawExpr = node (heads.Chain (sign_number s) (sign_number t)) p (a ∷ b ∷ e ∷ []) in
    let made : Expr 70 e_node (h.2 ++ sign s p ∷ (h.3 ++ sign t h.4 ∷ vs)) = chained s t p h.4 h.0 h.1 (omega arith) h.5 h.6 (wider 69 (omega arith) d) in
    let tokens : us ++ vs ≡ h.2 ++ sign s p ∷ (h.3 ++ sign t h.4 ∷ vs) =
    ap (λ us. us ++ vs) h.7 ∙ append_assoc h.2 (sign s p ∷ (h.3 ++ sign t h.4 ∷ [])) vs ∙ ap (λ ts. h.2 ++ sign s p ∷ ts) (append_assoc h.3 (sign t h.4 ∷ []) vs) in
    subst (λ (w : Whole). Expr w.1 w.0 (us ++ vs) × (w.1 ≡ 70)) (same_Some _ w is) (subst (λ ts. Expr 70 e_node ts) (sym tokens) made, refl)
ends (Last f p None) n e us vs w h d le is =
    let made : Expr 10 (node (heads.Apply (function_number f)) p (e ∷ [])) (function f p ∷ vs) = applied f p (omega arith) h.0 (wider 9 (omega arith) d) in
    subst (λ (w : Whole). Expr w.1 w.0 (us ++ vs) × (w.1 ≡ 10)) (same_Some _ w is) (subst (λ us. Expr 10 (node (heads.Apply (function_number f)) p (e ∷ [])) (us ++ vs)) (sym h.1) made, refl)
ends (Last f p (Some a)) n e us vs w h d le is =
    let made : Expr 10 (node (heads.Apply (function_number f)) p (a ∷ e ∷ [])) (function f p ∷ (h.1 ++ vs)) = applied_to_two f p (omega arith) h.0 h.2 (wider 9 (omega arith) d) in
    subst (λ (w : Whole). Expr w.1 w.0 (us ++ vs) × (w.1 ≡ 10)) (same_Some _ w is) (subst (λ us. Expr 10 (node (heads.Apply (function_number f)) p (a ∷ e ∷ [])) (us ++ vs)) (sym h.3) made, refl)

-- the innermost construct ends, and stands as an operand in the next one out
pub ends_in : (f : Frame) (fs : List Frame) (w v : Whole) (ts : List Placed) → HasRead (f ∷ fs, Some w) ts → closed f w.0 ≡ Some v → HasRead (fs, Some v) ts
ends_in f fs w v ts h is =
    let s = h.3 in
    let made = ends f w.1 w.0 s.1 h.1 v s.4 h.4 h.5 is in
    let tokens : ts ≡ s.0 ++ (s.1 ++ h.1) = h.2 ∙ ap (λ us. us ++ h.1) s.2 ∙ append_assoc s.0 s.1 h.1 in
    (s.0, s.1 ++ h.1, tokens, s.3, made.0, omega (arith, s.5, made.1))

-- ---- one more token

opened : (b : Bool) (fs : List Frame) (r : Reading) → wanted_if b fs ≡ Some r → (b ≡ true) × ((fs, None) ≡ r)
opened b fs r is = guard_some b (fs, None) r is

-- a sign opens its right side
attaches : (s : Sign) (p : ℕ) (l : Levels) (fs : List Frame) (w : Whole) (ts : List Placed) (r : Reading) → infix_levels s ≡ Some l → l.level ≤ room fs → HasRead (fs, Some w) ts → attached s p l.left fs w ≡ Some r
    → HasRead r (ts ++ sign s p ∷ [])
attaches s p l fs w ts r is low h read =
    let g = opened (nat_le w.1 l.left) (Infix s p w.0 ∷ fs) r read in
    let same : level_of s ≡ l.level = ap (λ o. option_map_or (λ (l : Levels). l.level) o 0) is in
    let le : w.1 ≤ l.left = let k = g.0 in grind arith in
    let tokens : ts ++ sign s p ∷ [] ≡ h.0 ++ (h.1 ++ sign s p ∷ []) = ap (λ ts. ts ++ sign s p ∷ []) h.2 ∙ append_assoc h.0 h.1 (sign s p ∷ []) in
    subst (λ (r : Reading). HasRead r (ts ++ sign s p ∷ [])) g.1 (h.0, h.1 ++ sign s p ∷ [], tokens, h.3, (l, is, h.1, wider l.left le h.4, refl), omega arith)

-- a second comparison makes a chain
makes_chain : (f : Frame) (fs : List Frame) (s : Sign) (p : ℕ) (w : Whole) (ts : List Placed) (g : Frame) → HasRead (f ∷ fs, Some w) ts → chain_with f s w.0 ≡ Some g → HasRead (g ∷ fs, None) (ts ++ sign s p ∷ [])
makes_chain Open fs s p w ts g h is = absurd cc
makes_chain (First f q) fs s p w ts g h is = absurd cc
makes_chain (Prefix t q) fs s p w ts g h is = absurd cc
makes_chain (Chain t q u a b) fs s p w ts g h is = absurd cc
makes_chain (Last f q before) fs s p w ts g h is = absurd cc
makes_chain (Infix t q a) fs s p w ts g h is =
    let k = guard_some (can_chain t && can_chain s) (Chain t q s a w.0) g is in
    let c = and_parts (can_chain t) (can_chain s) k.0 in
    let st = h.3 in
    let inner = st.4 in
    let level : inner.0 ≡ record { level = 70; left = 69; right = 69 } = same_Some _ _ (sym inner.1 ∙ chain_is t c.0) in
    let left : inner.0.left ≡ 69 = ap (λ (l : Levels). l.left) level in
    let right : right_of t ≡ 69 = chain_right t c.0 in
    let own : level_of t ≡ 70 = ap (λ o. option_map_or (λ (l : Levels). l.level) o 0) (chain_is t c.0) in
    let outer = st.5 in
    let le = h.5 in
    let tokens : ts ++ sign s p ∷ [] ≡ st.0 ++ (inner.2 ++ sign t q ∷ (h.1 ++ sign s p ∷ [])) =
    ap (λ ts. ts ++ sign s p ∷ []) (h.2 ∙ ap (λ us. us ++ h.1) (st.2 ∙ ap (λ vs. st.0 ++ vs) inner.4))
    ∙ append_assoc (st.0 ++ (inner.2 ++ sign t q ∷ [])) h.1 (sign s p ∷ [])
    ∙ append_assoc st.0 (inner.2 ++ sign t q ∷ []) (h.1 ++ sign s p ∷ [])
    ∙ ap (λ vs. st.0 ++ vs) (append_assoc inner.2 (sign t q ∷ []) (h.1 ++ sign s p ∷ [])) in
    subst (λ g. HasRead (g ∷ fs, None) (ts ++ sign s p ∷ [])) k.1
    (st.0, inner.2 ++ sign t q ∷ (h.1 ++ sign s p ∷ []), tokens, st.3, (c.0, c.1, inner.2, h.1, p, wider 69 (omega arith) inner.3, wider 69 (omega arith) h.4, refl), omega arith)

pub joins_stands : (fs : List Frame) (s : Sign) (p : ℕ) (l : Levels) (w : Whole) (ts : List Placed) (r : Reading) → infix_levels s ≡ Some l → HasRead (fs, Some w) ts → joins s p l fs w ≡ Some r → HasRead r (ts ++ sign s p ∷ [])
joins_stands [] s p l w ts r is h read = attaches s p l [] w ts r is (level_low s l is) h read
joins_stands (f ∷ fs) s p l w ts r is h read =
    elim (choice_some (chain_with f s w.0) (λ g. Some (g ∷ fs, None)) (cond (nat_le l.level (highest f)) (attached s p l.left (f ∷ fs) w) (closed f w.0 >>= λ v. joins s p l fs v)) r read) [
      | inl k ↦ subst (λ (r : Reading). HasRead r (ts ++ sign s p ∷ [])) (same_Some _ r k.2) (makes_chain f fs s p w ts k.0 h k.1)
      | inr k ↦ elim (test_some (nat_le l.level (highest f)) (attached s p l.left (f ∷ fs) w) (closed f w.0 >>= λ v. joins s p l fs v) r k.1) [
        | inl j ↦ attaches s p l (f ∷ fs) w ts r is (let b = j.0 in grind arith) h j.1
        | inr j ↦ let v = bind_some (closed f w.0) (λ v. joins s p l fs v) r j.1 in joins_stands fs s p l v.0 ts r is (ends_in f fs w v.0 ts h v.1) v.2
      ]
    ]

-- the innermost group is whole
group_ends : (f : Frame) (fs : List Frame) (p : ℕ) (w : Whole) (ts : List Placed) (r : Reading) → HasRead (f ∷ fs, Some w) ts → after_group f fs w.0 ≡ Some r → HasRead r (ts ++ sign signs.Close p ∷ [])
group_ends (First f q) fs p w ts r h read = absurd cc
group_ends (Prefix t q) fs p w ts r h read = absurd cc
group_ends (Infix t q a) fs p w ts r h read = absurd cc
group_ends (Chain t q u a b) fs p w ts r h read = absurd cc
group_ends (Last f q before) fs p w ts r h read = absurd cc
group_ends Open fs p w ts r h read =
    let st = h.3 in
    let le = h.5 in
    let tokens : ts ++ sign signs.Close p ∷ [] ≡ st.0 ++ (sign signs.Open st.4.0 ∷ (h.1 ++ sign signs.Close p ∷ [])) =
    ap (λ ts. ts ++ sign signs.Close p ∷ []) (h.2 ∙ ap (λ us. us ++ h.1) (st.2 ∙ ap (λ vs. st.0 ++ vs) st.4.1))
    ∙ append_assoc (st.0 ++ sign signs.Open st.4.0 ∷ []) h.1 (sign signs.Close p ∷ [])
    ∙ append_assoc st.0 (sign signs.Open st.4.0 ∷ []) (h.1 ++ sign signs.Close p ∷ []) in
    subst (λ (r : Reading). HasRead r (ts ++ sign signs.Close p ∷ [])) (same_Some _ r read)
    (st.0, sign signs.Open st.4.0 ∷ (h.1 ++ sign signs.Close p ∷ []), tokens, st.3, grouped st.4.0 p (wider 100 (omega arith) h.4), omega arith)

ends_group_stands : (fs : List Frame) (p : ℕ) (w : Whole) (ts : List Placed) (r : Reading) → HasRead (fs, Some w) ts → ends_group fs w.0 ≡ Some r → HasRead r (ts ++ sign signs.Close p ∷ [])
ends_group_stands [] p w ts r h read = absurd cc
ends_group_stands (f ∷ fs) p w ts r h read = elim (choice_some (closed f w.0) (λ v. ends_group fs v.0) (after_group f fs w.0) r read) [
  | inl k ↦ ends_group_stands fs p k.0 ts r (ends_in f fs w k.0 ts h k.1) k.2
  | inr k ↦ group_ends f fs p w ts r h k.1
]

-- the whole has ended
pub finished_stands : (fs : List Frame) (w : Whole) (ts : List Placed) (e : RawExpr) → HasRead (fs, Some w) ts → finished fs w.0 ≡ Some e → Expr 100 e ts
finished_stands [] w ts e h read =
    let le = h.5 in
    let tokens : ts ≡ h.1 = h.2 ∙ ap (λ us. us ++ h.1) h.3 in
    subst (λ e. Expr 100 e ts) (same_Some w.0 e read) (subst (λ ts. Expr 100 w.0 ts) (sym tokens) (wider 100 (omega arith) h.4))
finished_stands (f ∷ fs) w ts e h read = let v = bind_some (closed f w.0) (λ w. finished fs w.0) e read in finished_stands fs v.0 ts e (ends_in f fs w v.0 ts h v.1) v.2

-- ---- a token where an operand is to come

leaf_stands : (fs : List Frame) (ts : List Placed) (h : Head) (t : Placed) (r : Reading) → StandAll fs ts → leaf_of t.token ≡ Some h → Some (fs, Some (node h t.at [], 0)) ≡ Some r → HasRead r (ts ++ t ∷ [])
leaf_stands fs ts h t r st is read = subst (λ (r : Reading). HasRead r (ts ++ t ∷ [])) (same_Some _ r read) (ts, t ∷ [], refl, st, leaf h t is, omega arith)

call_stands : (fs : List Frame) (ts : List Placed) (f : Function) (p : ℕ) → StandAll fs ts → 10 ≤ room fs → StandAll (call f p ∷ fs) (ts ++ function f p ∷ [])
call_stands fs ts (functions.One f) p st low = (ts, function (functions.One f) p ∷ [], refl, st, (refl, refl), low)
call_stands fs ts functions.Negb p st low = (ts, function functions.Negb p ∷ [], refl, st, (refl, refl), low)
call_stands fs ts (functions.Two f) p st low = (ts, function (functions.Two f) p ∷ [], refl, st, (refl, refl), low)
call_stands fs ts (functions.Bool f) p st low = (ts, function (functions.Bool f) p ∷ [], refl, st, (refl, refl), low)

group_opens : (fs : List Frame) (ts : List Placed) (s : Sign) (p : ℕ) (r : Reading) → StandAll fs ts → opens_group s fs ≡ Some r → HasRead r (ts ++ sign s p ∷ [])
group_opens fs ts signs.Open p r st read = subst (λ (r : Reading). HasRead r (ts ++ sign signs.Open p ∷ [])) (same_Some _ r read) (ts, sign signs.Open p ∷ [], refl, st, (p, refl), omega arith)
group_opens fs ts signs.Iff p r st read = absurd cc
group_opens fs ts signs.LeTest p r st read = absurd cc
group_opens fs ts signs.GeTest p r st read = absurd cc
group_opens fs ts signs.Arrow p r st read = absurd cc
group_opens fs ts signs.And p r st read = absurd cc
group_opens fs ts signs.Or p r st read = absurd cc
group_opens fs ts signs.Ne p r st read = absurd cc
group_opens fs ts signs.Le p r st read = absurd cc
group_opens fs ts signs.Ge p r st read = absurd cc
group_opens fs ts signs.EqTest p r st read = absurd cc
group_opens fs ts signs.LtTest p r st read = absurd cc
group_opens fs ts signs.GtTest p r st read = absurd cc
group_opens fs ts signs.BoolAnd p r st read = absurd cc
group_opens fs ts signs.BoolOr p r st read = absurd cc
group_opens fs ts signs.Close p r st read = absurd cc
group_opens fs ts signs.Comma p r st read = absurd cc
group_opens fs ts signs.Colon p r st read = absurd cc
group_opens fs ts signs.Dot p r st read = absurd cc
group_opens fs ts signs.Eq p r st read = absurd cc
group_opens fs ts signs.Lt p r st read = absurd cc
group_opens fs ts signs.Gt p r st read = absurd cc
group_opens fs ts signs.Plus p r st read = absurd cc
group_opens fs ts signs.Minus p r st read = absurd cc
group_opens fs ts signs.Times p r st read = absurd cc
group_opens fs ts signs.Divide p r st read = absurd cc
group_opens fs ts signs.Power p r st read = absurd cc
group_opens fs ts signs.Not p r st read = absurd cc
group_opens fs ts signs.Mod p r st read = absurd cc

sign_opens_stands : (fs : List Frame) (ts : List Placed) (s : Sign) (p : ℕ) (r : Reading) → StandAll fs ts → sign_opens s p fs ≡ Some r → HasRead r (ts ++ sign s p ∷ [])
sign_opens_stands fs ts s p r st read = elim (choice_some (prefix_level s) (λ l. wanted_if (nat_le l (room fs)) (Prefix s p ∷ fs)) (opens_group s fs) r read) [
  | inl k ↦
      let g = opened (nat_le k.0 (room fs)) (Prefix s p ∷ fs) r k.2 in
      let same : prefix_of s ≡ k.0 = ap (λ o. option_map_or (λ (l : ℕ). l) o 0) k.1 in
      let low : k.0 ≤ room fs = let b = g.0 in grind arith in
      subst (λ (r : Reading). HasRead r (ts ++ sign s p ∷ [])) g.1 (ts, sign s p ∷ [], refl, st, (k.0, k.1, refl), omega arith)
  | inr k ↦ group_opens fs ts s p r st k.1
]

pub opens_stands : (fs : List Frame) (ts : List Placed) (t : Placed) (r : Reading) → StandAll fs ts → opens t.token t.at fs ≡ Some r → HasRead r (ts ++ t ∷ [])
opens_stands fs ts t r st read = by_token t.token refl read
  where
    by_token : (k : Token) → t.token ≡ k → opens k t.at fs ≡ Some r → HasRead r (ts ++ t ∷ [])
    by_token (tokens.Literal n) is read = leaf_stands fs ts (heads.Lit n) t r st (ap leaf_of is) read
    by_token (tokens.Name x) is read = leaf_stands fs ts (heads.Name x) t r st (ap leaf_of is) read
    by_token (tokens.Constant c) is read = leaf_stands fs ts (heads.Name (record { bytes = constant_text c })) t r st (ap leaf_of is) read
    by_token (tokens.Function f) is read =
        let g = opened (nat_le 10 (room fs)) (call f t.at ∷ fs) r read in
        subst (λ (r : Reading). HasRead r (ts ++ t ∷ [])) g.1
        (subst (λ k. StandAll (call f t.at ∷ fs) (ts ++ record { token = k; at = t.at } ∷ [])) (sym is) (call_stands fs ts f t.at st (let b = g.0 in grind arith)))
    by_token (tokens.Sign s) is read = subst (λ k. HasRead r (ts ++ record { token = k; at = t.at } ∷ [])) (sym is) (sign_opens_stands fs ts s t.at r st read)
    by_token (tokens.Keyword k) is read = absurd cc
    by_token (tokens.Sort s) is read = absurd cc
    by_token tokens.Wrong is read = absurd cc

-- ---- a token after a whole operand

closing_ends : (fs : List Frame) (s : Sign) (p : ℕ) (w : Whole) (ts : List Placed) (r : Reading) → HasRead (fs, Some w) ts → closes_group s fs w.0 ≡ Some r → HasRead r (ts ++ sign s p ∷ [])
closing_ends fs signs.Close p w ts r h read = ends_group_stands fs p w ts r h read
closing_ends fs signs.Open p w ts r h read = absurd cc
closing_ends fs signs.Iff p w ts r h read = absurd cc
closing_ends fs signs.LeTest p w ts r h read = absurd cc
closing_ends fs signs.GeTest p w ts r h read = absurd cc
closing_ends fs signs.Arrow p w ts r h read = absurd cc
closing_ends fs signs.And p w ts r h read = absurd cc
closing_ends fs signs.Or p w ts r h read = absurd cc
closing_ends fs signs.Ne p w ts r h read = absurd cc
closing_ends fs signs.Le p w ts r h read = absurd cc
closing_ends fs signs.Ge p w ts r h read = absurd cc
closing_ends fs signs.EqTest p w ts r h read = absurd cc
closing_ends fs signs.LtTest p w ts r h read = absurd cc
closing_ends fs signs.GtTest p w ts r h read = absurd cc
closing_ends fs signs.BoolAnd p w ts r h read = absurd cc
closing_ends fs signs.BoolOr p w ts r h read = absurd cc
closing_ends fs signs.Comma p w ts r h read = absurd cc
closing_ends fs signs.Colon p w ts r h read = absurd cc
closing_ends fs signs.Dot p w ts r h read = absurd cc
closing_ends fs signs.Eq p w ts r h read = absurd cc
closing_ends fs signs.Lt p w ts r h read = absurd cc
closing_ends fs signs.Gt p w ts r h read = absurd cc
closing_ends fs signs.Plus p w ts r h read = absurd cc
closing_ends fs signs.Minus p w ts r h read = absurd cc
closing_ends fs signs.Times p w ts r h read = absurd cc
closing_ends fs signs.Divide p w ts r h read = absurd cc
closing_ends fs signs.Power p w ts r h read = absurd cc
closing_ends fs signs.Not p w ts r h read = absurd cc
closing_ends fs signs.Mod p w ts r h read = absurd cc

sign_stands : (fs : List Frame) (s : Sign) (p : ℕ) (w : Whole) (ts : List Placed) (r : Reading) → HasRead (fs, Some w) ts → sign_follows s p fs w ≡ Some r → HasRead r (ts ++ sign s p ∷ [])
sign_stands fs s p w ts r h read = elim (choice_some (infix_levels s) (λ l. joins s p l fs w) (closes_group s fs w.0) r read) [
  | inl k ↦ joins_stands fs s p k.0 w ts r k.1 h k.2
  | inr k ↦ closing_ends fs s p w ts r h k.1
]

token_stands : (fs : List Frame) (w : Whole) (ts : List Placed) (t : Placed) (r : Reading) → HasRead (fs, Some w) ts → token_follows t.token t.at fs w ≡ Some r → HasRead r (ts ++ t ∷ [])
token_stands fs w ts t r h read = by_token t.token refl read
  where
    by_token : (k : Token) → t.token ≡ k → token_follows k t.at fs w ≡ Some r → HasRead r (ts ++ t ∷ [])
    by_token (tokens.Sign s) is read = subst (λ k. HasRead r (ts ++ record { token = k; at = t.at } ∷ [])) (sym is) (sign_stands fs s t.at w ts r h read)
    by_token (tokens.Literal n) is read = absurd cc
    by_token (tokens.Name x) is read = absurd cc
    by_token (tokens.Constant c) is read = absurd cc
    by_token (tokens.Function f) is read = absurd cc
    by_token (tokens.Keyword k) is read = absurd cc
    by_token (tokens.Sort s) is read = absurd cc
    by_token tokens.Wrong is read = absurd cc

-- the first argument is whole, and the second is to come
second_stands : (f : Function) (q : ℕ) (fs : List Frame) (w : Whole) (ts : List Placed) → HasRead (First f q ∷ fs, Some w) ts → StandAll (Last f q (Some w.0) ∷ fs) ts
second_stands f q fs w ts h =
    let st = h.3 in
    let le = h.5 in
    let tokens : ts ≡ st.0 ++ (function f q ∷ h.1) = h.2 ∙ ap (λ us. us ++ h.1) (st.2 ∙ ap (λ vs. st.0 ++ vs) st.4.1) ∙ append_assoc st.0 (function f q ∷ []) h.1 in
    (st.0, function f q ∷ h.1, tokens, st.3, (st.4.0, h.1, wider 9 le h.4, refl), st.5)

follows_stands : (fs : List Frame) (w : Whole) (ts : List Placed) (t : Placed) (r : Reading) → HasRead (fs, Some w) ts → follows t.token t.at fs w ≡ Some r → HasRead r (ts ++ t ∷ [])
follows_stands [] w ts t r h read = token_stands [] w ts t r h read
follows_stands (First f q ∷ fs) w ts t r h read = opens_stands (Last f q (Some w.0) ∷ fs) ts t r (second_stands f q fs w ts h) read
follows_stands (Open ∷ fs) w ts t r h read = token_stands (Open ∷ fs) w ts t r h read
follows_stands (Prefix s q ∷ fs) w ts t r h read = token_stands (Prefix s q ∷ fs) w ts t r h read
follows_stands (Infix s q a ∷ fs) w ts t r h read = token_stands (Infix s q a ∷ fs) w ts t r h read
follows_stands (Chain s q u a b ∷ fs) w ts t r h read = token_stands (Chain s q u a b ∷ fs) w ts t r h read
follows_stands (Last f q before ∷ fs) w ts t r h read = token_stands (Last f q before ∷ fs) w ts t r h read

-- what a token leaves has read that token too
pub token_reads : (r s : Reading) (ts : List Placed) (t : Placed) → HasRead r ts → with_token r t ≡ Some s → HasRead s (ts ++ t ∷ [])
token_reads (fs, None) s ts t h read = opens_stands fs ts t s h read
token_reads (fs, Some w) s ts t h read = follows_stands fs w ts t s h read

-- what was read to the end is an expression
pub reading_ends : (r : Reading) (ts : List Placed) (e : RawExpr) → HasRead r ts → read_of r ≡ Some e → Expr 100 e ts
reading_ends (fs, None) ts e h read = absurd cc
reading_ends (fs, Some w) ts e h read = finished_stands fs w ts e h read

-- ---- what was read is the front of an expression

abbrev pub zero_literal : Placed
zero_literal = record { token = tokens.Literal (pos 0); at = 0 }

zero_stands : {m : ℕ} → Expr m (node (heads.Lit (pos 0)) 0 []) (zero_literal ∷ [])
zero_stands = leaf (heads.Lit (pos 0)) zero_literal refl

abbrev pub IsFront : List Placed → Type 0
IsFront ts = (rest : List Placed) × (e : RawExpr) × Expr 100 e (ts ++ rest)

-- more tokens make a front of a front
front_of : (ts us : List Placed) → IsFront (ts ++ us) → IsFront ts
front_of ts us h = (us ++ h.0, h.1, subst (λ ts. Expr 100 h.1 ts) (append_assoc ts us h.0) h.2)

fills : (fs : List Frame) (w : Whole) (ts : List Placed) → HasRead (fs, Some w) ts → IsFront ts
fills [] w ts h = ([], w.0, subst (λ us. Expr 100 w.0 us) (sym (append-nil ts)) (finished_stands [] w ts w.0 h refl))
fills (Open ∷ fs) w ts h = front_of ts (sign signs.Close 0 ∷ []) (fills fs (w.0, 0) (ts ++ sign signs.Close 0 ∷ []) (group_ends Open fs 0 w ts (fs, Some (w.0, 0)) h refl))
fills (First f q ∷ fs) w ts h =
    let s = second_stands f q fs w ts h in
    let v : Whole = (node (heads.Apply (function_number f)) q (w.0 ∷ node (heads.Lit (pos 0)) 0 [] ∷ []), 10) in
    front_of ts (zero_literal ∷ []) (fills fs v (ts ++ zero_literal ∷ []) (ends_in (Last f q (Some w.0)) fs (node (heads.Lit (pos 0)) 0 [], 0) v (ts ++ zero_literal ∷ []) (ts, zero_literal ∷ [], refl, s, zero_stands, omega arith) refl))
fills (Prefix s q ∷ fs) w ts h = fills fs _ ts (ends_in (Prefix s q) fs w _ ts h refl)
fills (Infix s q a ∷ fs) w ts h = fills fs _ ts (ends_in (Infix s q a) fs w _ ts h refl)
fills (Chain s q u a b ∷ fs) w ts h = fills fs _ ts (ends_in (Chain s q u a b) fs w _ ts h refl)
fills (Last f q before ∷ fs) w ts h = fills fs _ ts (ends_in (Last f q before) fs w _ ts h refl)

pub is_front : (r : Reading) (ts : List Placed) → HasRead r ts → IsFront ts
is_front (fs, Some w) ts h = fills fs w ts h
is_front (fs, None) ts h = front_of ts (zero_literal ∷ []) (fills fs (node (heads.Lit (pos 0)) 0 [], 0) (ts ++ zero_literal ∷ []) (ts, zero_literal ∷ [], refl, h, zero_stands, omega arith))
