-- The machine's functions, one construct at a time.
use Rattle.std.proofs.Common.{◌≡◌, ◌≢◌, ℕ, List, [], ◌∷◌, Bool, true, false, ◌⊎◌, inl, inr, Option, Some, None, refl, sym, ap, subst, ◌∙◌, arith}
use Rattle.std.specs.Prelude.{nat_le, nat_lt, ◌&&◌, not, if◌then◌else◌}
use Rattle.std.proofs.lemmas.Bool.Decides.{nat_tests}
use Rattle.std.proofs.lemmas.Option.{same_Some}
use Rattle.mm_num.specs.Option.{◌>>=◌}
use Rattle.goal_token.specs.declared.token.Sign.{Sign}
use Rattle.goal_token.specs.declared.token.Token.{Token}
use Rattle.goal_sort.specs.declared.raw.RawExpr.{RawExpr}
use Rattle.goal_text.specs.declared.frame.Frame.{Frame}
use Rattle.goal_text.specs.declared.frame.Frame.TheVariants.{Open, Prefix, Infix, Chain, First, Last}
use Rattle.goal_text.specs.declared.precedence.Levels.{Levels}
use Rattle.goal_text.specs.Levels.{can_chain}
use Rattle.goal_text.specs.Operands.{highest, Whole, closed, chain_with, Reading, attached, joins, ends_group, finished, opens, token_follows, follows}
use Rattle.goal_text.specs.Innermost.{is_chained, ends_top, chained_top, landed, closed_top, is_group, is_in_group, is_at_first, with_first}

-- ---- signs

-- a sign makes a chain of a construct, or not
chain_of : (f : Frame) (t : Sign) (e : RawExpr)
    → ((is_chained f t ≡ true) × ((g : Frame) × (chain_with f t e ≡ Some g))) ⊎ ((is_chained f t ≡ false) × (chain_with f t e ≡ None))
chain_of (Infix s p a) t e = by_test (can_chain s && can_chain t)
  where
    by_test : (b : Bool)
        → ((b ≡ true) × ((g : Frame) × ((if b then Some (Chain s p t a e) else None) ≡ Some g))) ⊎ ((b ≡ false) × ((if b then Some (Chain s p t a e) else None) ≡ None))
    by_test true = inl (refl, (Chain s p t a e, refl))
    by_test false = inr (refl, refl)
chain_of Open t e = inr (refl, refl)
chain_of (Prefix s p) t e = inr (refl, refl)
chain_of (Chain s p u a b) t e = inr (refl, refl)
chain_of (First f p) t e = inr (refl, refl)
chain_of (Last f p before) t e = inr (refl, refl)

le_of_lt : (a b : ℕ) → nat_lt a b ≡ false → nat_le b a ≡ true
le_of_lt a b e = grind (arith, nat_tests)

gt_of_lt : (a b : ℕ) → nat_lt a b ≡ true → nat_le b a ≡ false
gt_of_lt a b e = grind (arith, nat_tests)

second_test : (a b : Bool) → not a && b ≡ true → (a ≡ false) × (b ≡ true)
second_test true b e = absurd cc
second_test false true e = (refl, refl)
second_test false false e = absurd cc

-- what a sign comes to, by the chain that it makes
abbrev on_chain : Sign → ℕ → Levels → Frame → List Frame → Whole → Option Frame → Option Reading
on_chain t q l f fs w o = elim o [
  | Some g ↦ Some (g ∷ fs, None)
  | None ↦ if nat_le l.level (highest f) then attached t q l.left (f ∷ fs) w else (closed f w.0 >>= λ v. joins t q l fs v)
]

abbrev on_room : Sign → ℕ → Levels → Frame → List Frame → Whole → Bool → Option Reading
on_room t q l f fs w b = if b then attached t q l.left (f ∷ fs) w else (closed f w.0 >>= λ v. joins t q l fs v)

abbrev on_test : Sign → ℕ → ℕ → Frame → List Frame → Whole → Bool → Option Reading
on_test t q left f fs w b = elim b [ true ↦ chained_top t w.0 (f ∷ fs) | false ↦ attached t q left (f ∷ fs) w ]

abbrev chained : List Frame → Option Frame → Option Reading
chained fs o = o >>= λ g. Some (g ∷ fs, None)

-- a sign that ends nothing
pub joins_landed : (t : Sign) (q : ℕ) (l : Levels) (fs : List Frame) (w : Whole) → ends_top t l.level fs ≡ false → joins t q l fs w ≡ landed t q l.left fs w
joins_landed t q l [] w e = refl
joins_landed t q l (f ∷ fs) w e = elim (chain_of f t w.0) [
  | inl h ↦ ap (on_chain t q l f fs w) h.1.1 ∙ sym (ap (on_test t q l.left f fs w) h.0 ∙ ap (chained fs) h.1.1)
  | inr h ↦ let k = subst (λ b. not b && nat_lt (highest f) l.level ≡ false) h.0 e in
      ap (on_chain t q l f fs w) h.1 ∙ ap (on_room t q l f fs w) (le_of_lt (highest f) l.level k) ∙ sym (ap (on_test t q l.left f fs w) h.0)
]

-- a sign that ends the innermost
joins_ended : (t : Sign) (q : ℕ) (l : Levels) (f : Frame) (fs : List Frame) (w : Whole) → ends_top t l.level (f ∷ fs) ≡ true → joins t q l (f ∷ fs) w ≡ (closed f w.0 >>= λ v. joins t q l fs v)
joins_ended t q l f fs w e =
    let k = second_test (is_chained f t) (nat_lt (highest f) l.level) e in
    elim (chain_of f t w.0) [
      | inl h ↦ absurd (let a = h.0 in let b = k.0 in cc)
      | inr h ↦ ap (on_chain t q l f fs w) h.1 ∙ ap (on_room t q l f fs w) (gt_of_lt (highest f) l.level k.1)
    ]

abbrev ended_by : List Frame → Option Whole → Option (List Frame × Whole)
ended_by fs o = o >>= λ w. Some (fs, w)

-- what follows the end of the innermost, where it has one
after_end : {B : Type 0} (f : Frame) (fs gs : List Frame) (e : RawExpr) (w : Whole) (k : Whole → Option B) (m : List Frame → Whole → Option B) → closed_top (f ∷ fs) e ≡ Some (gs, w) → m fs w ≡ k w
    → (closed f e >>= k) ≡ m gs w
after_end {B} f fs gs e w k m is same = by_end (closed f e) is
  where
    by_end : (o : Option Whole) → ended_by fs o ≡ Some (gs, w) → (o >>= k) ≡ m gs w
    by_end (Some v) is =
        let j = same_Some {A = List Frame × Whole} (fs, v) (gs, w) is in
        let a = ap (λ (p : List Frame × Whole). p.0) j in
        let b = ap (λ (p : List Frame × Whole). p.1) j in
        subst (λ v. k v ≡ m gs w) (sym b) (subst (λ gs. k w ≡ m gs w) a (sym same))
    by_end None is = absurd cc

no_end : {B : Type 0} (f : Frame) (fs : List Frame) (e : RawExpr) (k : Whole → Option B) → closed_top (f ∷ fs) e ≡ None → (closed f e >>= k) ≡ None
no_end {B} f fs e k is = by_end (closed f e) is
  where
    by_end : (o : Option Whole) → ended_by fs o ≡ None → (o >>= k) ≡ None
    by_end (Some v) is = absurd cc
    by_end None is = refl

pub joins_step : (t : Sign) (q : ℕ) (l : Levels) (fs gs : List Frame) (w v : Whole) → ends_top t l.level fs ≡ true → closed_top fs w.0 ≡ Some (gs, v) → joins t q l fs w ≡ joins t q l gs v
joins_step t q l [] gs w v e is = absurd cc
joins_step t q l (f ∷ fs) gs w v e is = joins_ended t q l f fs w e ∙ after_end f fs gs w.0 v (λ v. joins t q l fs v) (λ gs v. joins t q l gs v) is refl

pub joins_fails : (t : Sign) (q : ℕ) (l : Levels) (fs : List Frame) (w : Whole) → ends_top t l.level fs ≡ true → closed_top fs w.0 ≡ None → joins t q l fs w ≡ None
joins_fails t q l [] w e is = absurd cc
joins_fails t q l (f ∷ fs) w e is = joins_ended t q l f fs w e ∙ no_end f fs w.0 (λ v. joins t q l fs v) is

-- ---- groups

group_ended : (f : Frame) (fs : List Frame) (e : RawExpr) → is_group f ≡ false → ends_group (f ∷ fs) e ≡ (closed f e >>= λ v. ends_group fs v.0)
group_ended Open fs e is = absurd cc
group_ended (Prefix s p) fs e is = refl
group_ended (Infix s p a) fs e is = refl
group_ended (Chain s p t a b) fs e is = refl
group_ended (First f p) fs e is = refl
group_ended (Last f p before) fs e is = refl

pub group_step : (fs gs : List Frame) (e : RawExpr) (v : Whole) → is_in_group fs ≡ false → closed_top fs e ≡ Some (gs, v) → ends_group fs e ≡ ends_group gs v.0
group_step [] gs e v not_in is = absurd cc
group_step (f ∷ fs) gs e v not_in is = group_ended f fs e not_in ∙ after_end f fs gs e v (λ v. ends_group fs v.0) (λ gs v. ends_group gs v.0) is refl

pub group_fails : (fs : List Frame) (e : RawExpr) → is_in_group fs ≡ false → closed_top fs e ≡ None → ends_group fs e ≡ None
group_fails [] e not_in is = refl
group_fails (f ∷ fs) e not_in is = group_ended f fs e not_in ∙ no_end f fs e (λ v. ends_group fs v.0) is

pub group_ends : (fs gs : List Frame) (e : RawExpr) → fs ≡ Open ∷ gs → ends_group fs e ≡ Some (gs, Some (e, 0))
group_ends fs gs e is = subst (λ fs. ends_group fs e ≡ Some (gs, Some (e, 0))) (sym is) refl

-- the innermost is a parenthesis
pub group_top : (fs gs : List Frame) (f : Frame) → is_in_group fs ≡ true → fs ≡ f ∷ gs → fs ≡ Open ∷ gs
group_top fs gs f e is = is ∙ by_frame f (subst (λ fs. is_in_group fs ≡ true) is e)
  where
    by_frame : (f : Frame) → is_group f ≡ true → f ∷ gs ≡ Open ∷ gs
    by_frame Open e = refl
    by_frame (Prefix s p) e = absurd cc
    by_frame (Infix s p a) e = absurd cc
    by_frame (Chain s p t a b) e = absurd cc
    by_frame (First f p) e = absurd cc
    by_frame (Last f p before) e = absurd cc

-- ---- the end

pub finish_step : (fs gs : List Frame) (e : RawExpr) (v : Whole) → closed_top fs e ≡ Some (gs, v) → finished fs e ≡ finished gs v.0
finish_step [] gs e v is = absurd cc
finish_step (f ∷ fs) gs e v is = after_end f fs gs e v (λ v. finished fs v.0) (λ gs v. finished gs v.0) is refl

pub finish_fails : (fs : List Frame) (e : RawExpr) → fs ≢ [] → closed_top fs e ≡ None → finished fs e ≡ None
finish_fails [] e some is = absurd (some refl)
finish_fails (f ∷ fs) e some is = no_end f fs e (λ v. finished fs v.0) is

-- ---- after an operand

pub follows_other : (t : Token) (p : ℕ) (fs : List Frame) (w : Whole) → is_at_first fs ≡ false → follows t p fs w ≡ token_follows t p fs w
follows_other t p [] w e = refl
follows_other t p (First f q ∷ fs) w e = absurd cc
follows_other t p (Open ∷ fs) w e = refl
follows_other t p (Prefix s q ∷ fs) w e = refl
follows_other t p (Infix s q a ∷ fs) w e = refl
follows_other t p (Chain s q u a b ∷ fs) w e = refl
follows_other t p (Last f q before ∷ fs) w e = refl

pub follows_first : (t : Token) (p : ℕ) (fs gs : List Frame) (w : Whole) → with_first fs w.0 ≡ Some gs → follows t p fs w ≡ opens t p gs
follows_first t p [] gs w e = absurd cc
follows_first t p (First f q ∷ fs) gs w e = let k : Last f q (Some w.0) ∷ fs ≡ gs = cc in ap (opens t p) k
follows_first t p (Open ∷ fs) gs w e = absurd cc
follows_first t p (Prefix s q ∷ fs) gs w e = absurd cc
follows_first t p (Infix s q a ∷ fs) gs w e = absurd cc
follows_first t p (Chain s q u a b ∷ fs) gs w e = absurd cc
follows_first t p (Last f q before ∷ fs) gs w e = absurd cc

pub first_is_there : {A : Type 0} (fs : List Frame) (e : RawExpr) (o : Option A) → is_at_first fs ≡ true → with_first fs e ≡ None → o ≡ None
first_is_there [] e o is none = absurd cc
first_is_there (First f q ∷ fs) e o is none = absurd cc
first_is_there (Open ∷ fs) e o is none = absurd cc
first_is_there (Prefix s q ∷ fs) e o is none = absurd cc
first_is_there (Infix s q a ∷ fs) e o is none = absurd cc
first_is_there (Chain s q u a b ∷ fs) e o is none = absurd cc
first_is_there (Last f q before ∷ fs) e o is none = absurd cc
