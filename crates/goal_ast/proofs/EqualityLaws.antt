-- Terms are equal exactly where they have the same operator over equal parts.
use Rattle.std.specs.Prelude.{◌≡◌, ◌↔◌, ℕ, ◌==◌, ℤ, List, [], ◌∷◌, map, Bool, true, ◌&&◌, refl, Option, Some, None, slice_get}
use Rattle.std.specs.Ordering.{int_eq}
use Rattle.std.proofs.Common.{ap, sym, ◌∙◌, subst, arith}
use Rattle.std.proofs.lemmas.Int.{ints}
use Rattle.std.proofs.lemmas.Option.{same_Some}
use Rattle.std.proofs.lemmas.Bool.{and_parts, and_from}
use Rattle.goal_ast.specs.declared.term.Sort.{Sort}
use Rattle.goal_ast.specs.declared.term.Sort.TheVariants as sorts
use Rattle.goal_ast.specs.declared.term.Fn1.{Fn1}
use Rattle.goal_ast.specs.declared.term.Fn1.TheVariants.{ZSucc, ZPred, ZOpp, ZAbs, ZSgn, S, NatPred, NSucc, NPred, PosSucc, PosPred, OfNat, OfN, OfPos, ToNat, ToN}
use Rattle.goal_ast.specs.declared.term.Fn2.{Fn2}
use Rattle.goal_ast.specs.declared.term.Fn2.TheVariants.{ZMin, ZMax, NatMin, NatMax, NMin, NMax, PosMin, PosMax}
use Rattle.goal_ast.specs.declared.term.Operator.{Operator}
use Rattle.goal_ast.specs.declared.term.Operator.TheVariants as operators
use Rattle.goal_ast.specs.declared.term.Term.{Term}
use Rattle.goal_ast.specs.declared.term.Term.TheOpen.{Term-F}
use Rattle.goal_ast.specs.declared.term.Term.TheViews.{roll-Term, out-Term, roll-out-Term, out-roll-Term}
use Rattle.goal_ast.specs.declared.term.Term.TheFolds.{map-Term, fold-roll-Term, ind-Term}
use Rattle.goal_ast.specs.Equality.{operator_of, parts_of, sort_number, number_1, number_2, same_operator, same_parts, same_level, same_term}
use Rattle.mm_num.proofs.TestLaws.{is_number, is_int}

number_same : (n : ℕ) → (n == n) ≡ true
number_same n = grind arith

int_same : (n : ℤ) → int_eq n n ≡ true
int_same n = grind (arith, ints)

-- the sorts and functions in the order of their numbers
abbrev sort_list : List Sort
sort_list = sorts.Int ∷ sorts.Bin ∷ sorts.Nat ∷ sorts.Pos ∷ sorts.Bool ∷ []

abbrev list_1 : List Fn1
list_1 = ZSucc ∷ ZPred ∷ ZOpp ∷ ZAbs ∷ ZSgn ∷ S ∷ NatPred ∷ NSucc ∷ NPred ∷ PosSucc ∷ PosPred ∷ OfNat ∷ OfN ∷ OfPos ∷ ToNat ∷ ToN ∷ []

abbrev list_2 : List Fn2
list_2 = ZMin ∷ ZMax ∷ NatMin ∷ NatMax ∷ NMin ∷ NMax ∷ PosMin ∷ PosMax ∷ []

sort_back : (s : Sort) → slice_get sort_list (sort_number s) ≡ Some s
sort_back sorts.Int = refl
sort_back sorts.Bin = refl
sort_back sorts.Nat = refl
sort_back sorts.Pos = refl
sort_back sorts.Bool = refl

back_1 : (f : Fn1) → slice_get list_1 (number_1 f) ≡ Some f
back_1 ZSucc = refl
back_1 ZPred = refl
back_1 ZOpp = refl
back_1 ZAbs = refl
back_1 ZSgn = refl
back_1 S = refl
back_1 NatPred = refl
back_1 NSucc = refl
back_1 NPred = refl
back_1 PosSucc = refl
back_1 PosPred = refl
back_1 OfNat = refl
back_1 OfN = refl
back_1 OfPos = refl
back_1 ToNat = refl
back_1 ToN = refl

back_2 : (f : Fn2) → slice_get list_2 (number_2 f) ≡ Some f
back_2 ZMin = refl
back_2 ZMax = refl
back_2 NatMin = refl
back_2 NatMax = refl
back_2 NMin = refl
back_2 NMax = refl
back_2 PosMin = refl
back_2 PosMax = refl

same_sort : (s t : Sort) → (sort_number s == sort_number t) ≡ true → s ≡ t
same_sort s t h = same_Some s t (sym (sort_back s) ∙ ap (λ n. slice_get sort_list n) (is_number _ _ h) ∙ sort_back t)

same_1 : (f g : Fn1) → (number_1 f == number_1 g) ≡ true → f ≡ g
same_1 f g h = same_Some f g (sym (back_1 f) ∙ ap (λ n. slice_get list_1 n) (is_number _ _ h) ∙ back_1 g)

same_2 : (f g : Fn2) → (number_2 f == number_2 g) ≡ true → f ≡ g
same_2 f g h = same_Some f g (sym (back_2 f) ∙ ap (λ n. slice_get list_2 n) (is_number _ _ h) ∙ back_2 g)

pub operator_is : (o p : Operator) → same_operator o p ≡ true → o ≡ p
operator_is (operators.Lit n) (operators.Lit m) h = ap operators.Lit (is_int n m h)
operator_is (operators.Var v) (operators.Var w) h = ap operators.Var (is_number v w h)
operator_is operators.Neg operators.Neg h = refl
operator_is operators.Add operators.Add h = refl
operator_is (operators.Sub s) (operators.Sub t) h = ap operators.Sub (same_sort s t h)
operator_is operators.Mul operators.Mul h = refl
operator_is (operators.Pow k) (operators.Pow l) h = ap operators.Pow (is_int k l h)
operator_is (operators.Div k) (operators.Div l) h = ap operators.Div (is_int k l h)
operator_is (operators.Rem k) (operators.Rem l) h = ap operators.Rem (is_int k l h)
operator_is (operators.Call1 f) (operators.Call1 g) h = ap operators.Call1 (same_1 f g h)
operator_is (operators.Call2 f) (operators.Call2 g) h = ap operators.Call2 (same_2 f g h)
operator_is o p h = absurd (cc)

pub operator_same : (o : Operator) → same_operator o o ≡ true
operator_same (operators.Lit n) = int_same n
operator_same (operators.Var v) = number_same v
operator_same operators.Neg = refl
operator_same operators.Add = refl
operator_same (operators.Sub s) = number_same (sort_number s)
operator_same operators.Mul = refl
operator_same (operators.Pow k) = int_same k
operator_same (operators.Div k) = int_same k
operator_same (operators.Rem k) = int_same k
operator_same (operators.Call1 f) = number_same (number_1 f)
operator_same (operators.Call2 f) = number_same (number_2 f)

-- the node of an operator over some parts
abbrev pub rebuilt : {A : Type 0} → Operator → List A → Option (Term-F A)
rebuilt (operators.Lit n) ps = Some (Term-F.Lit n)
rebuilt (operators.Var v) ps = Some (Term-F.Var v)
rebuilt operators.Neg (a ∷ ps) = Some (Term-F.Neg a)
rebuilt operators.Add (a ∷ b ∷ ps) = Some (Term-F.Add a b)
rebuilt (operators.Sub s) (a ∷ b ∷ ps) = Some (Term-F.Sub s a b)
rebuilt operators.Mul (a ∷ b ∷ ps) = Some (Term-F.Mul a b)
rebuilt (operators.Pow k) (a ∷ ps) = Some (Term-F.Pow a k)
rebuilt (operators.Div k) (a ∷ ps) = Some (Term-F.Div a k)
rebuilt (operators.Rem k) (a ∷ ps) = Some (Term-F.Rem a k)
rebuilt (operators.Call1 f) (a ∷ ps) = Some (Term-F.Call1 f a)
rebuilt (operators.Call2 f) (a ∷ b ∷ ps) = Some (Term-F.Call2 f a b)
rebuilt o ps = None

pub rebuilt_is : {A : Type 0} → (y : Term-F A) → rebuilt (operator_of y) (parts_of y) ≡ Some y
rebuilt_is (Term-F.Lit n) = refl
rebuilt_is (Term-F.Var v) = refl
rebuilt_is (Term-F.Neg a) = refl
rebuilt_is (Term-F.Add a b) = refl
rebuilt_is (Term-F.Sub s a b) = refl
rebuilt_is (Term-F.Mul a b) = refl
rebuilt_is (Term-F.Pow a k) = refl
rebuilt_is (Term-F.Div a k) = refl
rebuilt_is (Term-F.Rem a k) = refl
rebuilt_is (Term-F.Call1 f a) = refl
rebuilt_is (Term-F.Call2 f a b) = refl

-- a node has its operator and parts whatever is done to the parts
pub operator_of-map : {A B : Type 0} → (f' : A → B) (y : Term-F A) → operator_of (map-Term A B f' y) ≡ operator_of y
operator_of-map f' (Term-F.Lit n) = refl
operator_of-map f' (Term-F.Var v) = refl
operator_of-map f' (Term-F.Neg a) = refl
operator_of-map f' (Term-F.Add a b) = refl
operator_of-map f' (Term-F.Sub s a b) = refl
operator_of-map f' (Term-F.Mul a b) = refl
operator_of-map f' (Term-F.Pow a k) = refl
operator_of-map f' (Term-F.Div a k) = refl
operator_of-map f' (Term-F.Rem a k) = refl
operator_of-map f' (Term-F.Call1 f a) = refl
operator_of-map f' (Term-F.Call2 f a b) = refl

pub parts_of-map : {A B : Type 0} → (f' : A → B) (y : Term-F A) → parts_of (map-Term A B f' y) ≡ map f' (parts_of y)
parts_of-map f' (Term-F.Lit n) = refl
parts_of-map f' (Term-F.Var v) = refl
parts_of-map f' (Term-F.Neg a) = refl
parts_of-map f' (Term-F.Add a b) = refl
parts_of-map f' (Term-F.Sub s a b) = refl
parts_of-map f' (Term-F.Mul a b) = refl
parts_of-map f' (Term-F.Pow a k) = refl
parts_of-map f' (Term-F.Div a k) = refl
parts_of-map f' (Term-F.Rem a k) = refl
parts_of-map f' (Term-F.Call1 f a) = refl
parts_of-map f' (Term-F.Call2 f a b) = refl

-- nodes with equal operators and parts are equal
pub node_is : (y z : Term-F Term) → operator_of y ≡ operator_of z → parts_of y ≡ parts_of z → y ≡ z
node_is y z e h = same_Some y z (sym (rebuilt_is y) ∙ ap (λ o. rebuilt o (parts_of y)) e ∙ ap (λ ps. rebuilt (operator_of z) ps) h ∙ rebuilt_is z)

abbrev Same : Term → Type 0
Same t = ((u : Term) → same_term t u ≡ true → t ≡ u) × (same_term t t ≡ true)

abbrev Known : Type 0
Known = (t : Term) × Same t

abbrev terms_of : Term-F Known → Term-F Term
terms_of y = map-Term Known Term (λ p. p.0) y

parts_are : (ps : List Known) (ts : List Term) → same_parts (map (λ p. same_term p.0) ps) ts ≡ true → map (λ (p : Known). p.0) ps ≡ ts
parts_are [] [] h = refl
parts_are [] (t ∷ ts) h = absurd (cc)
parts_are (p ∷ ps) [] h = absurd (cc)
parts_are (p ∷ ps) (t ∷ ts) h =
    let q = and_parts _ _ h in
    let e : p.0 ≡ t = p.1.0 t q.0 in
    let k = parts_are ps ts q.1 in
    ap (λ u. u ∷ map (λ (p : Known). p.0) ps) e ∙ ap (λ us. t ∷ us) k

parts_same : (ps : List Known) → same_parts (map (λ p. same_term p.0) ps) (map (λ (p : Known). p.0) ps) ≡ true
parts_same [] = refl
parts_same (p ∷ ps) = and_from _ _ p.1.1 (parts_same ps)

map_map : {A B C : Type 0} → (f : B → C) (g : A → B) (xs : List A) → map f (map g xs) ≡ map (λ x. f (g x)) xs
map_map f g [] = refl
map_map f g (x ∷ xs) = ap (λ ys. f (g x) ∷ ys) (map_map f g xs)

-- the tests of a node's parts
tests_are : (y : Term-F Known) → parts_of (map-Term Term (Term → Bool) same_term (terms_of y)) ≡ map (λ p. same_term p.0) (parts_of y)
tests_are y = parts_of-map same_term (terms_of y) ∙ ap (λ ts. map same_term ts) (parts_of-map (λ (p : Known). p.0) y) ∙ map_map same_term (λ (p : Known). p.0) (parts_of y)

operator_stays : (y : Term-F Known) → operator_of (map-Term Term (Term → Bool) same_term (terms_of y)) ≡ operator_of (terms_of y)
operator_stays y = operator_of-map same_term (terms_of y)

-- the test of a node
tested : (y : Term-F Known) (u : Term) → same_term (roll-Term (terms_of y)) u ≡ (same_operator (operator_of (terms_of y)) (operator_of (out-Term u)) && same_parts (map (λ p. same_term p.0) (parts_of y)) (parts_of (out-Term u)))
tested y u = ap (λ f. f u) (fold-roll-Term (Term → Bool) same_level (terms_of y))
    ∙ ap (λ o. same_operator o (operator_of (out-Term u)) && same_parts (parts_of (map-Term Term (Term → Bool) same_term (terms_of y))) (parts_of (out-Term u))) (operator_stays y)
    ∙ ap (λ ps. same_operator (operator_of (terms_of y)) (operator_of (out-Term u)) && same_parts ps (parts_of (out-Term u))) (tests_are y)

step_is : (y : Term-F Known) (u : Term) → same_term (roll-Term (terms_of y)) u ≡ true → roll-Term (terms_of y) ≡ u
step_is y u h =
    let q = and_parts _ _ (sym (tested y u) ∙ h) in
    let e = operator_is _ _ q.0 in
    let k = parts_of-map (λ (p : Known). p.0) y ∙ parts_are (parts_of y) (parts_of (out-Term u)) q.1 in
    ap roll-Term (node_is (terms_of y) (out-Term u) e k) ∙ roll-out-Term u

step_same : (y : Term-F Known) → same_term (roll-Term (terms_of y)) (roll-Term (terms_of y)) ≡ true
step_same y =
    let d = terms_of y in
    tested y (roll-Term d)
    ∙ ap (λ (z : Term-F Term). same_operator (operator_of d) (operator_of z) && same_parts (map (λ p. same_term p.0) (parts_of y)) (parts_of z)) (out-roll-Term d)
    ∙ ap (λ ts. same_operator (operator_of d) (operator_of d) && same_parts (map (λ p. same_term p.0) (parts_of y)) ts) (parts_of-map (λ (p : Known). p.0) y)
    ∙ and_from _ _ (operator_same (operator_of d)) (parts_same (parts_of y))

pub same_known : (t : Term) → Same t
same_known = ind-Term Same (λ d y q. subst (λ (z : Term-F Term). Same (roll-Term z)) q (step_is y, step_same y))

pub same_is : (t u : Term) → same_term t u ≡ true → t ≡ u
same_is t = (same_known t).0

pub same_self : (t : Term) → same_term t t ≡ true
same_self t = (same_known t).1

pub is_same : (t u : Term) → t ≡ u → same_term t u ≡ true
is_same t u e = subst (λ (v : Term). same_term t v ≡ true) e (same_self t)

pub same_exactly : (t u : Term) → (same_term t u ≡ true) ↔ (t ≡ u)
same_exactly t u = (same_is t u, is_same t u)
