-- The tokens of an expression are read as that expression.
use Rattle.std.proofs.Common.{◌≡◌, ℕ, ◌<◌, ◌≤◌, Bool, true, false, cond, List, [], ◌∷◌, ◌++◌, Option, Some, None, refl, sym, ap, subst, ◌∙◌, append_assoc, arith}
use Rattle.std.specs.Prelude.{nat_le, ◌&&◌}
use Rattle.std.specs.Option.{option_map_or}
use Rattle.std.specs.List.{AllByRecursion}
use Rattle.std.proofs.lemmas.Bool.{and_parts}
use Rattle.std.proofs.lemmas.List.{append-nil}
use Rattle.std.proofs.lemmas.Option.{same_Some}
use Rattle.mm_num.specs.Option.{◌>>=◌}
use Rattle.mm_num.proofs.OptionLaws.{bind_some}
use Rattle.goal_token.specs.declared.token.Sign.{Sign}
use Rattle.goal_token.specs.declared.token.Sign.TheVariants as signs
use Rattle.goal_token.specs.declared.token.Function.{Function}
use Rattle.goal_token.specs.declared.token.Token.{Token}
use Rattle.goal_token.specs.declared.token.Token.TheVariants as tokens
use Rattle.goal_token.specs.declared.token.Placed.{Placed}
use Rattle.goal_token.specs.Numbers.{sign_number}
use Rattle.goal_sort.specs.declared.raw.Head.{Head}
use Rattle.goal_sort.specs.declared.raw.Head.TheVariants as heads
use Rattle.goal_sort.specs.declared.raw.RawExpr.{RawExpr}
use Rattle.goal_text.specs.declared.frame.Frame.{Frame}
use Rattle.goal_text.specs.declared.frame.Frame.TheVariants.{Open, Prefix, Infix, Chain, First, Last}
use Rattle.goal_text.specs.declared.precedence.Levels.{Levels}
use Rattle.goal_text.specs.Levels.{between, infix_levels, prefix_level, can_chain, arity}
use Rattle.goal_text.specs.Grammar.{sign, function, leaf_of, Expr, leaf, grouped, applied, applied_to_two, prefixed, joined, chained}
use Rattle.goal_text.specs.Operands.{Whole, Reading, highest, room, right_of, level_of, prefix_of, closed, chain_with, joins, ends_group, finished, call, sign_opens, opens, sign_follows, follows, with_token, with_tokens, read_of}
use Rattle.goal_text.proofs.LevelLaws.{sides, no_tie, no_tie_before, infix_high, prefix_high}
use Rattle.goal_sort.specs.IsSorted.{node}

-- ---- several constructs that end in turn

-- what they make of an operand
abbrev pub closes : List Frame → Whole → Option Whole
closes [] w = Some w
closes (f ∷ fs) w = closed f w.0 >>= λ v. closes fs v

-- a construct that an operand ends, of at most this level
abbrev pub IsBelow : ℕ → Frame → Type 0
IsBelow n Open = ⊥
IsBelow n (First f p) = ⊥
IsBelow n (Prefix s p) = (l : ℕ) × (prefix_level s ≡ Some l) × (l ≤ n)
IsBelow n (Infix s p a) = (l : Levels) × (infix_levels s ≡ Some l) × (l.level ≤ n)
IsBelow n (Chain s p t a b) = 70 ≤ n
IsBelow n (Last f p before) = 10 ≤ n

abbrev pub AreBelow : ℕ → List Frame → Type 0
AreBelow n fs = AllByRecursion (IsBelow n) fs

-- ---- a sign after them

pub chain_is : (t : Sign) → can_chain t ≡ true → infix_levels t ≡ between 69 70 69
chain_is signs.Lt c = refl
chain_is signs.Le c = refl
chain_is signs.Arrow c = absurd cc
chain_is signs.Iff c = absurd cc
chain_is signs.Or c = absurd cc
chain_is signs.And c = absurd cc
chain_is signs.Eq c = absurd cc
chain_is signs.Ne c = absurd cc
chain_is signs.Gt c = absurd cc
chain_is signs.Ge c = absurd cc
chain_is signs.EqTest c = absurd cc
chain_is signs.LtTest c = absurd cc
chain_is signs.LeTest c = absurd cc
chain_is signs.GtTest c = absurd cc
chain_is signs.GeTest c = absurd cc
chain_is signs.Plus c = absurd cc
chain_is signs.Minus c = absurd cc
chain_is signs.BoolOr c = absurd cc
chain_is signs.Times c = absurd cc
chain_is signs.Divide c = absurd cc
chain_is signs.BoolAnd c = absurd cc
chain_is signs.Mod c = absurd cc
chain_is signs.Power c = absurd cc
chain_is signs.Open c = absurd cc
chain_is signs.Close c = absurd cc
chain_is signs.Comma c = absurd cc
chain_is signs.Colon c = absurd cc
chain_is signs.Dot c = absurd cc
chain_is signs.Not c = absurd cc

chain_left : (t : Sign) (l : Levels) → can_chain t ≡ true → infix_levels t ≡ Some l → (l.left ≡ 69) × (l.level ≡ 70)
chain_left t l c e = let k = same_Some _ _ (sym (chain_is t c) ∙ e) in (sym (ap (λ (l : Levels). l.left) k), sym (ap (λ (l : Levels). l.level) k))

pub chain_right : (t : Sign) → can_chain t ≡ true → right_of t ≡ 69
chain_right t c = ap (λ o. option_map_or (λ (l : Levels). l.right) o 0) (chain_is t c)

-- it makes no chain of one that is no higher than its left side
no_chain : (n : ℕ) (f : Frame) (t : Sign) (l : Levels) (e : RawExpr) → IsBelow n f → infix_levels t ≡ Some l → n ≤ l.left → chain_with f t e ≡ None
no_chain n Open t l e below is le = absurd below
no_chain n (First f p) t l e below is le = refl
no_chain n (Prefix s p) t l e below is le = refl
no_chain n (Chain s p u a b) t l e below is le = refl
no_chain n (Last f p before) t l e below is le = refl
no_chain n (Infix s p a) t l e below is le = both (can_chain s && can_chain t) refl
  where
    both : (b : Bool) → can_chain s && can_chain t ≡ b → cond b (Some (Chain s p t a e)) None ≡ None
    both false h = refl
    both true h =
        let c = and_parts (can_chain s) (can_chain t) h in
        let k = chain_left s below.0 c.0 below.1 in
        let j = chain_left t l c.1 is in
        absurd (omega (arith, below.2, k.1, j.0))

-- it finds no room in one that is no higher than its left side
no_room : (n : ℕ) (f : Frame) (t : Sign) (l : Levels) → IsBelow n f → infix_levels t ≡ Some l → n ≤ l.left → nat_le l.level (highest f) ≡ false
no_room n f t l below is le = decided (nat_le l.level (highest f)) refl
  where
    low : (f : Frame) → IsBelow n f → l.level ≤ highest f → ⊥
    low Open below room = below
    low (First f p) below room = below
    low (Prefix s p) below room = let e : prefix_of s ≡ below.0 = ap (λ o. option_map_or (λ (l : ℕ). l) o 0) below.1 in omega (arith, below.2, no_tie_before s t below.0 l below.1 is (omega arith))
    low (Infix s p a) below room =
        let e : option_map_or (λ (l : Levels). l.right) (infix_levels s) 0 ≡ below.0.right = ap (λ o. option_map_or (λ (l : Levels). l.right) o 0) below.1 in
        omega (arith, below.2, no_tie s t below.0 l below.1 is (omega arith))
    low (Chain s p u a b) below room = let k = sides t l is in omega (arith, k.left_low)
    low (Last f p before) below room = let k = sides t l is in omega (arith, k.left_low)

    decided : (b : Bool) → nat_le l.level (highest f) ≡ b → b ≡ false
    decided false h = refl
    decided true h = absurd (low f below (grind arith))

-- it passes over them to what they make
pub joins_over : (over : List Frame) (last : Whole) (fs : List Frame) (w : Whole) (t : Sign) (q : ℕ) (l : Levels) → closes over last ≡ Some w → AreBelow w.1 over → infix_levels t ≡ Some l → w.1 ≤ l.left
    → joins t q l (over ++ fs) last ≡ joins t q l fs w
joins_over [] last fs w t q l whole below is le = ap (joins t q l fs) (same_Some last w whole)
joins_over (f ∷ over) last fs w t q l whole below is le =
    let v = bind_some (closed f last.0) (λ v. closes over v) w whole in
    rw (no_chain w.1 f t l last.0 below.0 is le, joins) (rw (no_room w.1 f t l below.0 is le, joins) (rw (v.1, joins) (joins_over over v.0 fs w t q l v.2 below.1 is le)))

-- the end of a group passes over them too
pub ends_over : (over : List Frame) (last : Whole) (fs : List Frame) (w : Whole) → closes over last ≡ Some w → ends_group (over ++ fs) last.0 ≡ ends_group fs w.0
ends_over [] last fs w whole = ap (λ (w : Whole). ends_group fs w.0) (same_Some last w whole)
ends_over (f ∷ over) last fs w whole =
    let v = bind_some (closed f last.0) (λ v. closes over v) w whole in
    rw (v.1, ends_group) (ends_over over v.0 fs w v.2)

-- and so does the end of the whole
pub finished_over : (over : List Frame) (last : Whole) (w : Whole) → closes over last ≡ Some w → finished over last.0 ≡ Some w.0
finished_over [] last w whole = ap (λ (w : Whole). Some w.0) (same_Some last w whole)
finished_over (f ∷ over) last w whole =
    let v = bind_some (closed f last.0) (λ v. closes over v) w whole in
    rw (v.1, finished) (finished_over over v.0 w v.2)

pub closes_more : (over : List Frame) (last : Whole) (f : Frame) (v : Whole) → closes over last ≡ Some v → closes (over ++ f ∷ []) last ≡ closed f v.0
closes_more [] last f v whole = ap (λ (w : Whole). closed f w.0 >>= λ v. Some v) (same_Some last v whole) ∙ bind_id (closed f v.0)
  where
    bind_id : {A : Type 0} (o : Option A) → (o >>= λ x. Some x) ≡ o
    bind_id (Some x) = refl
    bind_id None = refl
closes_more (g ∷ over) last f v whole =
    let u = bind_some (closed g last.0) (λ v. closes over v) v whole in
    rw u.1 (closes_more over u.0 f v u.2)

below_more : (n m : ℕ) (over : List Frame) (f : Frame) → AreBelow n over → n ≤ m → IsBelow m f → AreBelow m (over ++ f ∷ [])
below_more n m [] f below le is = (is, tt)
below_more n m (g ∷ over) f below le is = (wider g below.0, below_more n m over f below.1 le is)
  where
    wider : (f : Frame) → IsBelow n f → IsBelow m f
    wider Open h = absurd h
    wider (First f p) h = absurd h
    wider (Prefix s p) h = (h.0, h.1, omega (arith, h.2))
    wider (Infix s p a) h = (h.0, h.1, omega (arith, h.2))
    wider (Chain s p t a b) h = omega (arith, h)
    wider (Last f p before) h = omega (arith, h)

-- nothing is below the level of a function
none_below : (n : ℕ) (over : List Frame) → AreBelow n over → n < 10 → over ≡ []
none_below n [] below lt = refl
none_below n (f ∷ over) below lt = absurd (high f below.0)
  where
    high : (f : Frame) → IsBelow n f → ⊥
    high Open h = h
    high (First f p) h = h
    high (Prefix s p) h = omega (arith, h.2, prefix_high s h.0 h.1)
    high (Infix s p a) h = omega (arith, h.2, infix_high s h.0 h.1)
    high (Chain s p t a b) h = omega (arith, h)
    high (Last f p before) h = omega (arith, h)

-- ---- tokens, one after the other

pub tokens_append : (r : Reading) (ts us : List Placed) → with_tokens r (ts ++ us) ≡ (with_tokens r ts >>= λ s. with_tokens s us)
tokens_append r [] us = refl
tokens_append r (t ∷ ts) us = step (with_token r t) (λ s. tokens_append s ts us)
  where
    step : (o : Option Reading) → ((s : Reading) → with_tokens s (ts ++ us) ≡ (with_tokens s ts >>= λ s. with_tokens s us)) → (o >>= λ s. with_tokens s (ts ++ us)) ≡ ((o >>= λ s. with_tokens s ts) >>= λ s. with_tokens s us)
    step (Some s) h = h s
    step None h = refl

-- what was read goes on
after_tokens : (r s : Reading) (ts us : List Placed) → with_tokens r ts ≡ Some s → with_tokens r (ts ++ us) ≡ with_tokens s us
after_tokens r s ts us e = tokens_append r ts us ∙ ap (λ (o : Option Reading). o >>= λ s. with_tokens s us) e

-- no function waits for its second argument at the front
abbrev pub IsNoFirst : List Frame → Type 0
IsNoFirst [] = Unit {0}
IsNoFirst (First f p ∷ fs) = ⊥
IsNoFirst (Open ∷ fs) = Unit {0}
IsNoFirst (Prefix s p ∷ fs) = Unit {0}
IsNoFirst (Infix s p a ∷ fs) = Unit {0}
IsNoFirst (Chain s p t a b ∷ fs) = Unit {0}
IsNoFirst (Last f p before ∷ fs) = Unit {0}

roomy : (fs : List Frame) → 10 ≤ room fs → IsNoFirst fs
roomy [] h = tt
roomy (First f p ∷ fs) h = absurd (omega (arith, h))
roomy (Open ∷ fs) h = tt
roomy (Prefix s p ∷ fs) h = tt
roomy (Infix s p a ∷ fs) h = tt
roomy (Chain s p t a b ∷ fs) h = tt
roomy (Last f p before ∷ fs) h = tt

no_first_over : (n : ℕ) (over fs : List Frame) → AreBelow n over → IsNoFirst fs → IsNoFirst (over ++ fs)
no_first_over n [] fs below free = free
no_first_over n (First f p ∷ over) fs below free = below.0
no_first_over n (Open ∷ over) fs below free = tt
no_first_over n (Prefix s p ∷ over) fs below free = tt
no_first_over n (Infix s p a ∷ over) fs below free = tt
no_first_over n (Chain s p t a b ∷ over) fs below free = tt
no_first_over n (Last f p before ∷ over) fs below free = tt

sign_after : (s : Sign) (p : ℕ) (fs : List Frame) (w : Whole) → IsNoFirst fs → follows (tokens.Sign s) p fs w ≡ sign_follows s p fs w
sign_after s p [] w free = refl
sign_after s p (First f q ∷ fs) w free = absurd free
sign_after s p (Open ∷ fs) w free = refl
sign_after s p (Prefix t q ∷ fs) w free = refl
sign_after s p (Infix t q a ∷ fs) w free = refl
sign_after s p (Chain t q u a b ∷ fs) w free = refl
sign_after s p (Last f q before ∷ fs) w free = refl

-- ---- an expression

-- its tokens are read over what is open, and leave its parts open, or some of them
pub record Landed (fs : List Frame) (m : ℕ) (e : RawExpr) (ts : List Placed) : Type 0 where
  pub over : List Frame
  pub last : Whole
  pub level : ℕ
  pub read : with_tokens (fs, None) ts ≡ Some (over ++ fs, Some last)
  pub whole : closes over last ≡ Some (e, level)
  pub fits : level ≤ m
  pub below : AreBelow level over

-- a sign after it finds it whole
sign_reads : (fs : List Frame) (m : ℕ) (e : RawExpr) (ts : List Placed) (k : Landed fs m e ts) (s : Sign) (p : ℕ) (l : Levels) → infix_levels s ≡ Some l → m ≤ l.left → IsNoFirst fs
    → with_token (k.over ++ fs, Some k.last) (sign s p) ≡ joins s p l fs (e, k.level)
sign_reads fs m e ts k s p l is le free =
    let fits = k.fits in
    sign_after s p (k.over ++ fs) k.last (no_first_over k.level k.over fs k.below free)
    ∙ rw (is, sign_follows) (joins_over k.over k.last fs (e, k.level) s p l k.whole k.below is (omega arith))

leaf_lands : (fs : List Frame) (h : Head) (t : Placed) → leaf_of t.token ≡ Some h → with_token (fs, None) t ≡ Some (fs, Some (node h t.at [], 0))
leaf_lands fs h t is = opened t.token is
  where
    opened : (k : Token) → leaf_of k ≡ Some h → opens k t.at fs ≡ Some (fs, Some (node h t.at [], 0))
    opened (tokens.Literal n) e = ap (λ h. Some (fs, Some (node h t.at [], 0))) (same_Some _ h e)
    opened (tokens.Name x) e = ap (λ h. Some (fs, Some (node h t.at [], 0))) (same_Some _ h e)
    opened (tokens.Constant c) e = ap (λ h. Some (fs, Some (node h t.at [], 0))) (same_Some _ h e)
    opened (tokens.Keyword k) e = absurd cc
    opened (tokens.Sort s) e = absurd cc
    opened (tokens.Function f) e = absurd cc
    opened (tokens.Sign s) e = absurd cc
    opened tokens.Wrong e = absurd cc

-- the last operand of what is open lands, and so does the whole
lands_under : (fs : List Frame) (f : Frame) (k n m : ℕ) (a e : RawExpr) (ts whole : List Placed) → Landed (f ∷ fs) k a ts → with_tokens (fs, None) whole ≡ with_tokens (f ∷ fs, None) ts → closed f a ≡ Some (e, n) → IsBelow n f
    → k ≤ n → n ≤ m → Landed fs m e whole
lands_under fs f k n m a e ts whole l start made is le fits =
    let low = l.fits in
    record {
      over = l.over ++ f ∷ [];
      last = l.last;
      level = n;
      read = start ∙ l.read ∙ ap (λ (gs : List Frame). Some (gs, Some l.last)) (sym (append_assoc l.over (f ∷ []) fs));
      whole = closes_more l.over l.last f (a, l.level) l.whole ∙ made;
      fits = fits;
      below = below_more l.level n l.over f l.below (omega arith) is;
    }

abbrev pub HasToken : List Placed → Type 0
HasToken ts = (t : Placed) × (us : List Placed) × (ts ≡ t ∷ us)

has_front : (ts us : List Placed) → HasToken ts → HasToken (ts ++ us)
has_front ts us h = (h.0, h.1 ++ us, ap (λ ts. ts ++ us) h.2)

-- an expression has a token
pub has_token : {m : ℕ} {e : RawExpr} {ts : List Placed} → Expr m e ts → HasToken ts
has_token (leaf h t is) = (t, [], refl)
has_token (grouped p q d) = (_, _, refl)
has_token (applied f p low is d) = (_, _, refl)
has_token (applied_to_two f p low is d c) = (_, _, refl)
has_token (prefixed s p l is low d) = (_, _, refl)
has_token (joined s p l is low d c) = has_front _ _ (has_token d)
has_token (chained s t p q c d low x y z) = has_front _ _ (has_token x)

-- a sign after an expression is taken with it on its left
sign_lands : (fs : List Frame) (m : ℕ) (a : RawExpr) (ts : List Placed) (k : Landed fs m a ts) (s : Sign) (p : ℕ) (l : Levels) → infix_levels s ≡ Some l → m ≤ l.left → IsNoFirst fs → (more : List Placed)
    → with_tokens (fs, None) (ts ++ sign s p ∷ more) ≡ (joins s p l fs (a, k.level) >>= λ r. with_tokens r more)
sign_lands fs m a ts k s p l is le free more = after_tokens (fs, None) (k.over ++ fs, Some k.last) ts (sign s p ∷ more) k.read ∙ ap (λ (o : Option Reading). o >>= λ r. with_tokens r more) (sign_reads fs m a ts k s p l is le free)

-- it opens its right side where it has room
joins_front : (fs : List Frame) (s : Sign) (p : ℕ) (l : Levels) (w : Whole) → infix_levels s ≡ Some l → l.level ≤ room fs → w.1 ≤ l.left → joins s p l fs w ≡ Some (Infix s p w.0 ∷ fs, None)
joins_front [] s p l w is low le = let k : nat_le w.1 l.left ≡ true = grind arith in rw k refl
joins_front (f ∷ fs) s p l w is low le =
    let k : nat_le w.1 l.left ≡ true = grind arith in
    let j : nat_le l.level (highest f) ≡ true = grind arith in
    rw (unchained f low, joins) (rw (j, joins) (rw k refl))
  where
    unchained : (f : Frame) → l.level ≤ highest f → chain_with f s w.0 ≡ None
    unchained Open h = refl
    unchained (First g q) h = refl
    unchained (Prefix t q) h = refl
    unchained (Chain t q u a b) h = refl
    unchained (Last g q before) h = refl
    unchained (Infix t q a) h = both (can_chain t && can_chain s) refl
      where
        both : (b : Bool) → can_chain t && can_chain s ≡ b → cond b (Some (Chain t q s a w.0)) None ≡ None
        both false e = refl
        both true e =
            let c = and_parts (can_chain t) (can_chain s) e in
            let k = chain_right t c.0 in
            let j = chain_left s l c.1 is in
            absurd (omega (arith, h, k, j.1))

-- the second comparison of a chain
chain_front : (fs : List Frame) (s t : Sign) (p q : ℕ) (a : RawExpr) (l : Levels) (w : Whole) → can_chain s ≡ true → can_chain t ≡ true → joins t q l (Infix s p a ∷ fs) w ≡ Some (Chain s p t a w.0 ∷ fs, None)
chain_front fs s t p q a l w c d = rw (c, joins) (rw (d, joins) refl)

-- ---- each way to make an expression

leaf_whole : (fs : List Frame) (m : ℕ) (h : Head) (t : Placed) → leaf_of t.token ≡ Some h → Landed fs m (node h t.at []) (t ∷ [])
leaf_whole fs m h t is = record {
  over = [];
  last = (node h t.at [], 0);
  level = 0;
  read = rw (leaf_lands fs h t is) refl;
  whole = refl;
  fits = omega arith;
  below = tt;
}

group_whole : (fs : List Frame) (m : ℕ) (e : RawExpr) (ts : List Placed) (p q : ℕ) → Landed (Open ∷ fs) 100 e ts → Landed fs m e (sign signs.Open p ∷ (ts ++ sign signs.Close q ∷ []))
group_whole fs m e ts p q k = record {
  over = [];
  last = (e, 0);
  level = 0;
  read = after_tokens (Open ∷ fs, None) (k.over ++ Open ∷ fs, Some k.last) ts (sign signs.Close q ∷ []) k.read ∙ ap (λ (o : Option Reading). o >>= λ r. Some r) close;
  whole = refl;
  fits = omega arith;
  below = tt;
} where
  close : with_token (k.over ++ Open ∷ fs, Some k.last) (sign signs.Close q) ≡ Some (fs, Some (e, 0))
  close =
      sign_after signs.Close q (k.over ++ Open ∷ fs) k.last (no_first_over k.level k.over (Open ∷ fs) k.below tt)
      ∙ ends_over k.over k.last (Open ∷ fs) (e, k.level) k.whole

call_opens : (fs : List Frame) (f : Function) (p : ℕ) (g : Frame) (ts : List Placed) → 10 ≤ room fs → call f p ≡ g → with_tokens (fs, None) (function f p ∷ ts) ≡ with_tokens (g ∷ fs, None) ts
call_opens fs f p g ts low is = let k : nat_le 10 (room fs) ≡ true = grind arith in rw k (ap (λ g. with_tokens (g ∷ fs, None) ts) is)

two_start : (fs : List Frame) (f : Function) (p : ℕ) (a : RawExpr) (ts us : List Placed) → 10 ≤ room fs → arity f ≡ 2 → Landed (First f p ∷ fs) 9 a ts → HasToken us
    → with_tokens (fs, None) (function f p ∷ (ts ++ us)) ≡ with_tokens (Last f p (Some a) ∷ fs, None) us
two_start fs f p a ts us low is k has =
    let fits = k.fits in
    let lone : k.over ≡ [] = none_below k.level k.over k.below (omega arith) in
    let last : k.last ≡ (a, k.level) = same_Some _ _ (sym (ap (λ over. closes over k.last) lone) ∙ k.whole) in
    let read : with_tokens (First f p ∷ fs, None) ts ≡ Some (First f p ∷ fs, Some (a, k.level)) =
    k.read ∙ ap (λ over. Some (over ++ First f p ∷ fs, Some k.last)) lone ∙ ap (λ w. Some (First f p ∷ fs, Some w)) last in
    call_opens fs f p (First f p) (ts ++ us) low (rw is refl)
    ∙ after_tokens (First f p ∷ fs, None) (First f p ∷ fs, Some (a, k.level)) ts us read
    ∙ subst (λ us. with_tokens (First f p ∷ fs, Some (a, k.level)) us ≡ with_tokens (Last f p (Some a) ∷ fs, None) us) (sym has.2) refl

prefix_start : (fs : List Frame) (s : Sign) (p l : ℕ) (ts : List Placed) → prefix_level s ≡ Some l → l ≤ room fs → with_tokens (fs, None) (sign s p ∷ ts) ≡ with_tokens (Prefix s p ∷ fs, None) ts
prefix_start fs s p l ts is low = let k : nat_le l (room fs) ≡ true = grind arith in rw (is, sign_opens) (rw k refl)

join_start : (fs : List Frame) (m : ℕ) (s : Sign) (p : ℕ) (l : Levels) (a : RawExpr) (ts us : List Placed) → infix_levels s ≡ Some l → l.level ≤ room fs → 10 ≤ room fs → Landed fs l.left a ts
    → with_tokens (fs, None) (ts ++ sign s p ∷ us) ≡ with_tokens (Infix s p a ∷ fs, None) us
join_start fs m s p l a ts us is low ten k =
    sign_lands fs l.left a ts k s p l is (omega arith) (roomy fs ten) us
    ∙ ap (λ (o : Option Reading). o >>= λ r. with_tokens r us) (joins_front fs s p l (a, k.level) is low k.fits)

chain_start : (fs : List Frame) (s t : Sign) (p q : ℕ) (a b : RawExpr) (ts us vs : List Placed) → can_chain s ≡ true → can_chain t ≡ true → 70 ≤ room fs → Landed fs 69 a ts → Landed (Infix s p a ∷ fs) 69 b us
    → with_tokens (fs, None) (ts ++ sign s p ∷ (us ++ sign t q ∷ vs)) ≡ with_tokens (Chain s p t a b ∷ fs, None) vs
chain_start fs s t p q a b ts us vs c d low k j =
    let l : Levels = record { level = 70; left = 69; right = 69 } in
    join_start fs 69 s p l a ts (us ++ sign t q ∷ vs) (chain_is s c) low (omega arith) k
    ∙ sign_lands (Infix s p a ∷ fs) 69 b us j t q l (chain_is t d) (omega arith) tt vs
    ∙ ap (λ (o : Option Reading). o >>= λ r. with_tokens r vs) (chain_front fs s t p q a l (b, j.level) c d)

-- the tokens of an expression land over whatever has room for it
pub lands : {m : ℕ} {e : RawExpr} {ts : List Placed} → Expr m e ts → (fs : List Frame) → m ≤ room fs → Landed fs m e ts
lands {m} (leaf h t is) fs fits = leaf_whole fs m h t is
lands {m} (grouped {e = e} {ts = ts} p q d) fs fits = group_whole fs m e ts p q (lands d (Open ∷ fs) (omega arith))
lands {m} (applied {a = a} {ts = ts} f p low is d) fs fits =
    let k = lands d (Last f p None ∷ fs) (omega arith) in
    lands_under fs (Last f p None) 9 10 m a _ ts (function f p ∷ ts) k (call_opens fs f p (Last f p None) ts (omega arith) (rw is refl)) refl (omega arith) (omega arith) low
lands {m} (applied_to_two {a = a} {b = b} {ts = ts} {us = us} f p low is d c) fs fits =
    let k = lands d (First f p ∷ fs) (omega arith) in
    let j = lands c (Last f p (Some a) ∷ fs) (omega arith) in
    lands_under fs (Last f p (Some a)) 9 10 m b _ us (function f p ∷ (ts ++ us)) j (two_start fs f p a ts us (omega arith) is k (has_token c)) refl (omega arith) (omega arith) low
lands {m} (prefixed {a = a} {ts = ts} s p l is low d) fs fits =
    let same : prefix_of s ≡ l = ap (λ o. option_map_or (λ (l : ℕ). l) o 0) is in
    let k = lands d (Prefix s p ∷ fs) (omega arith) in
    lands_under fs (Prefix s p) l l m a _ ts (sign s p ∷ ts) k (prefix_start fs s p l ts is (omega arith)) (ap (λ (l : ℕ). Some (node (heads.Prefix (sign_number s)) p (a ∷ []), l)) same) (l, is, omega arith) (omega arith) low
lands {m} (joined {a = a} {b = b} {ts = ts} {us = us} s p l is low d c) fs fits =
    let same : level_of s ≡ l.level = ap (λ o. option_map_or (λ (l : Levels). l.level) o 0) is in
    let right : right_of s ≡ l.right = ap (λ o. option_map_or (λ (l : Levels). l.right) o 0) is in
    let side = sides s l is in
    let left_low = side.left_low in
    let right_low = side.right_low in
    let ten = infix_high s l is in
    let k = lands d fs (omega arith) in
    let j = lands c (Infix s p a ∷ fs) (omega arith) in
    lands_under fs (Infix s p a) l.right l.level m b _ us (ts ++ sign s p ∷ us) j (join_start fs m s p l a ts us is (omega arith) (omega arith) k) (ap (λ (l : ℕ). Some (node (heads.Infix (sign_number s)) p (a ∷ b ∷ []), l)) same) (l, is, omega arith) right_low low
lands {m} (chained {a = a} {b = b} {c = c} {ts = ts} {us = us} {vs = vs} s t p q is are low x y z) fs fits =
    let right = chain_right s is in
    let k = lands x fs (omega arith) in
    let j = lands y (Infix s p a ∷ fs) (omega arith) in
    let i = lands z (Chain s p t a b ∷ fs) (omega arith) in
    lands_under fs (Chain s p t a b) 69 70 m c _ vs (ts ++ sign s p ∷ (us ++ sign t q ∷ vs)) i (chain_start fs s t p q a b ts us vs is are (omega arith) k j) refl (omega arith) (omega arith) low

-- the tokens of an expression alone are read as it
pub reads_expression : {e : RawExpr} {ts : List Placed} → Expr 100 e ts → (with_tokens ([], None) ts >>= read_of) ≡ Some e
reads_expression {e} {ts} d =
    let k = lands d [] (omega arith) in
    ap (λ o. o >>= read_of) k.read
    ∙ ap (λ over. finished over k.last.0) (append-nil k.over)
    ∙ finished_over k.over k.last (e, k.level) k.whole

-- tokens are those of at most one expression
pub one_expression : {e f : RawExpr} {ts : List Placed} → Expr 100 e ts → Expr 100 f ts → e ≡ f
one_expression {e} {f} c d = same_Some e f (sym (reads_expression c) ∙ reads_expression d)
