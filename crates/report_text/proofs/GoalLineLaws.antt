-- The text of a goal that reads back has no line feed.
use Rattle.std.proofs.Common.{◌≡◌, ℕ, zero, suc, ◌+◌, ◌/◌, ◌%◌, ℤ, pos, negsuc, Bool, true, false, List, [], ◌∷◌, ◌++◌, map, Option, Some, None, refl, sym, subst, arith}
use Rattle.std.specs.Prelude.{codes, decimal, nat_le, nat_lt, ◌==◌, if◌then◌else◌}
use Rattle.std.specs.Fmt.{signed_decimal, digits, digits_onto, digit_glyph}
use Rattle.std.specs.List.{AllByRecursion, join_with_byte}
use Rattle.std.specs.Option.{option_map_or}
use Rattle.std.proofs.lemmas.Bool.{ne_eqb}
use Rattle.goal_ast.specs.declared.term.Sort.{Sort}
use Rattle.goal_ast.specs.declared.term.Sort.TheVariants as sorts
use Rattle.goal_ast.specs.declared.term.Fn1.{Fn1}
use Rattle.goal_ast.specs.declared.term.Fn1.TheVariants as one
use Rattle.goal_ast.specs.declared.term.Fn2.{Fn2}
use Rattle.goal_ast.specs.declared.term.Fn2.TheVariants as two
use Rattle.goal_ast.specs.declared.term.Term.{Term}
use Rattle.goal_ast.specs.declared.term.Term.TheOpen.{Term-F}
use Rattle.goal_ast.specs.declared.term.Term.TheViews.{roll-Term}
use Rattle.goal_ast.specs.declared.term.Term.TheFolds.{map-Term, fold-roll-Term, ind-Term}
use Rattle.goal_ast.specs.declared.formula.BFn.{BFn}
use Rattle.goal_ast.specs.declared.formula.BFn.TheVariants as bools
use Rattle.goal_ast.specs.declared.formula.BTerm.{BTerm}
use Rattle.goal_ast.specs.declared.formula.BTerm.TheOpen.{BTerm-F}
use Rattle.goal_ast.specs.declared.formula.BTerm.TheViews.{roll-BTerm}
use Rattle.goal_ast.specs.declared.formula.BTerm.TheFolds.{map-BTerm, fold-roll-BTerm, ind-BTerm}
use Rattle.goal_ast.specs.declared.formula.Formula.{Formula}
use Rattle.goal_ast.specs.declared.formula.Formula.TheOpen.{Formula-F}
use Rattle.goal_ast.specs.declared.formula.Formula.TheViews.{roll-Formula}
use Rattle.goal_ast.specs.declared.formula.Formula.TheFolds.{map-Formula, fold-roll-Formula, ind-Formula}
use Rattle.goal_ast.specs.declared.goal.Bound.{Bound}
use Rattle.goal_ast.specs.declared.goal.Goal.{Goal}
use Rattle.goal_ast.specs.Sorted.{is_sort}
use Rattle.goal_token.specs.declared.token.Function.{Function}
use Rattle.goal_token.specs.declared.token.Function.TheVariants as functions
use Rattle.goal_token.specs.declared.token.Sign.{Sign}
use Rattle.goal_token.specs.declared.token.Sign.TheVariants as signs
use Rattle.goal_token.specs.Spacing.{IsName}
use Rattle.goal_token.specs.Spelling.{sign_text, sort_text, one_text, two_text, bool_text, function_text, cmp_sign, test_sign}
use Rattle.goal_sort.specs.declared.raw.RawBound.{RawBound}
use Rattle.goal_sort.specs.Sorting.{variable_of}
use Rattle.goal_text.specs.declared.precedence.Levels.{Levels}
use Rattle.goal_text.specs.Levels.{infix_levels, prefix_level}
use Rattle.goal_text.proofs.ShortLaws.{all_read}
use Rattle.goal_print.specs.Parts.{Part, at_most, grouped, leaf, number, before, between, prefixed, joined, chained, applied, applied_to_two}
use Rattle.goal_print.specs.Text.{name_of, term_level, term_part, bool_level, bool_part, formula_level, formula_part, Group, with_first, groups, group_text, groups_text, binders_text, goal_text}
use Rattle.goal_print.specs.ReadsBack.{ReadsBack, file_text, alone}
use Rattle.report_text.proofs.PeelLaws.{NoFeed, in_front, no_feed_joined, name_no_feed}

by_if : (b : Bool) (x y : List ℕ) → NoFeed x → NoFeed y → NoFeed (if b then x else y)
by_if true x y h k = h
by_if false x y h k = k

-- ---- numbers

glyph : (d : ℕ) → (digit_glyph false d == 10) ≡ false
glyph d = by_test (nat_lt d 10)
  where
    by_test : (b : Bool) → ((if b then 48 + d else 87 + d) == 10) ≡ false
    by_test true = ne_eqb (48 + d) 10 (λ e. omega arith)
    by_test false = ne_eqb (87 + d) 10 (λ e. omega arith)

onto : (k n : ℕ) (bytes : List ℕ) → NoFeed bytes → NoFeed (digits_onto k 10 false n bytes)
onto zero n bytes h = h
onto (suc k) n bytes h =
    let front : NoFeed (digit_glyph false (n % 10) ∷ bytes) = in_front (digit_glyph false (n % 10)) bytes (glyph (n % 10)) h in
    by_if (n / 10 == 0) (digit_glyph false (n % 10) ∷ bytes) (digits_onto k 10 false (n / 10) (digit_glyph false (n % 10) ∷ bytes)) front
    (onto k (n / 10) (digit_glyph false (n % 10) ∷ bytes) front)

digits_on : (n : ℕ) → NoFeed (decimal n)
unfolding digits
digits_on n = onto 64 n [] refl

signed_on : (z : ℤ) → NoFeed (signed_decimal z)
signed_on (pos n) = digits_on n
signed_on (negsuc n) = no_feed_joined (codes "-") (decimal (suc n)) refl (digits_on (suc n))

-- ---- words and signs

sign_on : (s : Sign) → NoFeed (sign_text s)
sign_on signs.Iff = refl
sign_on s = refl

sort_on : (s : Sort) → NoFeed (sort_text s)
sort_on sorts.Int = refl
sort_on s = refl

one_on : (f : Fn1) → NoFeed (one_text f)
one_on one.ZSucc = refl
one_on f = refl

two_on : (f : Fn2) → NoFeed (two_text f)
two_on two.ZMin = refl
two_on f = refl

bool_on : (f : BFn) → NoFeed (bool_text f)
bool_on bools.Imp = refl
bool_on f = refl

function_on : (f : Function) → NoFeed (function_text f)
function_on (functions.One f) = one_on f
function_on (functions.Two f) = two_on f
function_on functions.Negb = refl
function_on (functions.Bool f) = bool_on f

before_on : (s : Sign) → NoFeed (before s)
before_on signs.Not = refl
before_on s = sign_on s

between_on : (s : Sign) → NoFeed (between s)
between_on s = no_feed_joined (codes " ") (sign_text s ++ codes " ") refl (no_feed_joined (sign_text s) (codes " ") (sign_on s) refl)

-- ---- parts

abbrev OnLine : Part → Type 0
OnLine p = NoFeed p.text

grouped_on : (text : List ℕ) → NoFeed text → NoFeed (grouped text)
grouped_on text h = no_feed_joined (codes "(") (text ++ codes ")") refl (no_feed_joined text (codes ")") h refl)

most : (highest : ℕ) (p : Part) → OnLine p → NoFeed (at_most highest p)
unfolding at_most
most highest p h = by_if (nat_le p.level highest) p.text (grouped p.text) h (grouped_on p.text h)

mapped : {A : Type 0} (f : A → Part) (o : Option A) (d : Part) → ((x : A) → OnLine (f x)) → OnLine d → OnLine (option_map_or f o d)
mapped f (Some x) d h k = h x
mapped f None d h k = k

prefixed_on : (s : Sign) (a : Part) → OnLine a → OnLine (prefixed s a)
prefixed_on s a h = mapped (λ (l : ℕ). record { level = l; text = before s ++ at_most l a }) (prefix_level s) (leaf [])
    (λ l. no_feed_joined (before s) (at_most l a) (before_on s) (most l a h)) refl

joined_on : (s : Sign) (a b : Part) → OnLine a → OnLine b → OnLine (joined s a b)
joined_on s a b h k = mapped (λ (l : Levels). record { level = l.level; text = at_most l.left a ++ (between s ++ at_most l.right b) }) (infix_levels s) (leaf [])
    (λ l. no_feed_joined (at_most l.left a) (between s ++ at_most l.right b) (most l.left a h)
    (no_feed_joined (between s) (at_most l.right b) (between_on s) (most l.right b k))) refl

chained_on : (s t : Sign) (a b c : Part) → OnLine a → OnLine b → OnLine c → OnLine (chained s t a b c)
chained_on s t a b c h k l =
    let last = between t ++ at_most 69 c in
    let end = no_feed_joined (between t) (at_most 69 c) (between_on t) (most 69 c l) in
    no_feed_joined (at_most 69 a) (between s ++ (at_most 69 b ++ last)) (most 69 a h)
    (no_feed_joined (between s) (at_most 69 b ++ last) (between_on s) (no_feed_joined (at_most 69 b) last (most 69 b k) end))

applied_on : (f : Function) (a : Part) → OnLine a → OnLine (applied f a)
applied_on f a h = no_feed_joined (function_text f) (codes " " ++ at_most 9 a) (function_on f) (no_feed_joined (codes " ") (at_most 9 a) refl (most 9 a h))

applied_two_on : (f : Function) (a b : Part) → OnLine a → OnLine b → OnLine (applied_to_two f a b)
applied_two_on f a b h k =
    no_feed_joined (function_text f) (codes " " ++ (at_most 9 a ++ (codes " " ++ at_most 9 b))) (function_on f)
    (no_feed_joined (codes " ") (at_most 9 a ++ (codes " " ++ at_most 9 b)) refl
    (no_feed_joined (at_most 9 a) (codes " " ++ at_most 9 b) (most 9 a h) (no_feed_joined (codes " ") (at_most 9 b) refl (most 9 b k))))

-- ---- names

abbrev Names : List Bound → Type 0
Names vars = AllByRecursion (λ (b : Bound). NoFeed b.name.bytes) vars

name_on : (vars : List Bound) (v : ℕ) → Names vars → NoFeed (name_of vars v)
name_on [] v are = refl
name_on (b ∷ vars) zero are = are.0
name_on (b ∷ vars) (suc v) are = name_on vars v are.1

-- ---- terms

abbrev OfTerm : List Bound → Term → Type 0
OfTerm vars t = OnLine (term_part vars t)

abbrev KnownTerm : List Bound → Type 0
KnownTerm vars = (t : Term) × OfTerm vars t

abbrev term_parts : (vars : List Bound) → Term-F (KnownTerm vars) → Term-F Term
term_parts vars y = map-Term (KnownTerm vars) Term (λ p. p.0) y

level_of_term : (vars : List Bound) → Names vars → (y : Term-F (KnownTerm vars)) → OnLine (term_level vars (map-Term Term Part (term_part vars) (term_parts vars y)))
level_of_term vars are (Term-F.Lit n) = signed_on n
level_of_term vars are (Term-F.Var v) = name_on vars v are
level_of_term vars are (Term-F.Neg a) = prefixed_on signs.Minus (term_part vars a.0) a.1
level_of_term vars are (Term-F.Add a b) = joined_on signs.Plus (term_part vars a.0) (term_part vars b.0) a.1 b.1
level_of_term vars are (Term-F.Sub s a b) = joined_on signs.Minus (term_part vars a.0) (term_part vars b.0) a.1 b.1
level_of_term vars are (Term-F.Mul a b) = joined_on signs.Times (term_part vars a.0) (term_part vars b.0) a.1 b.1
level_of_term vars are (Term-F.Pow a k) = joined_on signs.Power (term_part vars a.0) (number k) a.1 (signed_on k)
level_of_term vars are (Term-F.Div a k) = joined_on signs.Divide (term_part vars a.0) (number k) a.1 (signed_on k)
level_of_term vars are (Term-F.Rem a k) = joined_on signs.Mod (term_part vars a.0) (number k) a.1 (signed_on k)
level_of_term vars are (Term-F.Call1 f a) = applied_on (functions.One f) (term_part vars a.0) a.1
level_of_term vars are (Term-F.Call2 f a b) = applied_two_on (functions.Two f) (term_part vars a.0) (term_part vars b.0) a.1 b.1

term_on : (vars : List Bound) → Names vars → (t : Term) → OfTerm vars t
term_on vars are = ind-Term (OfTerm vars) (λ d y q. subst (λ (z : Term-F Term). OfTerm vars (roll-Term z)) q
    (subst OnLine (sym (fold-roll-Term Part (term_level vars) (term_parts vars y))) (level_of_term vars are y)))

-- ---- bool terms

abbrev OfBool : List Bound → BTerm → Type 0
OfBool vars b = OnLine (bool_part vars b)

abbrev KnownBool : List Bound → Type 0
KnownBool vars = (b : BTerm) × OfBool vars b

abbrev bool_parts : (vars : List Bound) → BTerm-F (KnownBool vars) → BTerm-F BTerm
bool_parts vars y = map-BTerm (KnownBool vars) BTerm (λ p. p.0) y

level_of_bool : (vars : List Bound) → Names vars → (y : BTerm-F (KnownBool vars)) → OnLine (bool_level vars (map-BTerm BTerm Part (bool_part vars) (bool_parts vars y)))
level_of_bool vars are BTerm-F.True = refl
level_of_bool vars are BTerm-F.False = refl
level_of_bool vars are (BTerm-F.Var v) = name_on vars v are
level_of_bool vars are (BTerm-F.Test c t u) = joined_on (test_sign c) (term_part vars t) (term_part vars u) (term_on vars are t) (term_on vars are u)
level_of_bool vars are (BTerm-F.Not a) = applied_on functions.Negb (bool_part vars a.0) a.1
level_of_bool vars are (BTerm-F.And a b) = joined_on signs.BoolAnd (bool_part vars a.0) (bool_part vars b.0) a.1 b.1
level_of_bool vars are (BTerm-F.Or a b) = joined_on signs.BoolOr (bool_part vars a.0) (bool_part vars b.0) a.1 b.1
level_of_bool vars are (BTerm-F.Call f a b) = applied_two_on (functions.Bool f) (bool_part vars a.0) (bool_part vars b.0) a.1 b.1

bool_term_on : (vars : List Bound) → Names vars → (b : BTerm) → OfBool vars b
bool_term_on vars are = ind-BTerm (OfBool vars) (λ d y q. subst (λ (z : BTerm-F BTerm). OfBool vars (roll-BTerm z)) q
    (subst OnLine (sym (fold-roll-BTerm Part (bool_level vars) (bool_parts vars y))) (level_of_bool vars are y)))

-- ---- formulas

abbrev OfFormula : List Bound → Formula → Type 0
OfFormula vars f = OnLine (formula_part vars f)

abbrev KnownFormula : List Bound → Type 0
KnownFormula vars = (f : Formula) × OfFormula vars f

abbrev formula_parts : (vars : List Bound) → Formula-F (KnownFormula vars) → Formula-F Formula
formula_parts vars y = map-Formula (KnownFormula vars) Formula (λ p. p.0) y

level_of_formula : (vars : List Bound) → Names vars → (y : Formula-F (KnownFormula vars)) → OnLine
    (formula_level vars (map-Formula Formula Part (formula_part vars) (formula_parts vars y)))
level_of_formula vars are Formula-F.True = refl
level_of_formula vars are Formula-F.False = refl
level_of_formula vars are (Formula-F.Atom c t u) = joined_on (cmp_sign c) (term_part vars t) (term_part vars u) (term_on vars are t) (term_on vars are u)
level_of_formula vars are (Formula-F.Chain t c u d v) =
    chained_on (cmp_sign c) (cmp_sign d) (term_part vars t) (term_part vars u) (term_part vars v) (term_on vars are t) (term_on vars are u) (term_on vars are v)
level_of_formula vars are (Formula-F.Same b c) = joined_on signs.Eq (bool_part vars b) (bool_part vars c) (bool_term_on vars are b) (bool_term_on vars are c)
level_of_formula vars are (Formula-F.Differ b c) = joined_on signs.Ne (bool_part vars b) (bool_part vars c) (bool_term_on vars are b) (bool_term_on vars are c)
level_of_formula vars are (Formula-F.Not f) = prefixed_on signs.Not (formula_part vars f.0) f.1
level_of_formula vars are (Formula-F.And f g) = joined_on signs.And (formula_part vars f.0) (formula_part vars g.0) f.1 g.1
level_of_formula vars are (Formula-F.Or f g) = joined_on signs.Or (formula_part vars f.0) (formula_part vars g.0) f.1 g.1
level_of_formula vars are (Formula-F.Imp f g) = joined_on signs.Arrow (formula_part vars f.0) (formula_part vars g.0) f.1 g.1
level_of_formula vars are (Formula-F.Iff f g) = joined_on signs.Iff (formula_part vars f.0) (formula_part vars g.0) f.1 g.1

formula_on : (vars : List Bound) → Names vars → (f : Formula) → OfFormula vars f
formula_on vars are = ind-Formula (OfFormula vars) (λ d y q. subst (λ (z : Formula-F Formula). OfFormula vars (roll-Formula z)) q
    (subst OnLine (sym (fold-roll-Formula Part (formula_level vars) (formula_parts vars y))) (level_of_formula vars are y)))

-- ---- binders

abbrev GroupOn : Group → Type 0
GroupOn g = AllByRecursion NoFeed g.names

first_on : (b : Bound) (gs : List Group) → NoFeed b.name.bytes → AllByRecursion GroupOn gs → AllByRecursion GroupOn (with_first b gs)
first_on b [] h are = ((h, tt), tt)
first_on b (g ∷ gs) h are = by_test (is_sort b.sort g.sort)
  where
    by_test : (same : Bool) → AllByRecursion GroupOn
        (if same then record { sort = g.sort; names = b.name.bytes ∷ g.names } ∷ gs else record { sort = b.sort; names = b.name.bytes ∷ [] } ∷ g ∷ gs)
    by_test true = ((h, are.0), are.1)
    by_test false = ((h, tt), are)

groups_on : (vars : List Bound) → Names vars → AllByRecursion GroupOn (groups vars)
groups_on [] are = tt
groups_on (b ∷ vars) are = first_on b (groups vars) are.0 (groups_on vars are.1)

spaced_on : (texts : List (List ℕ)) → AllByRecursion NoFeed texts → NoFeed (join_with_byte 32 texts)
spaced_on [] are = refl
spaced_on (x ∷ []) are = are.0
spaced_on (x ∷ y ∷ texts) are = no_feed_joined x (32 ∷ join_with_byte 32 (y ∷ texts)) are.0 (spaced_on (y ∷ texts) are.1)

group_on : (g : Group) → GroupOn g → NoFeed (group_text g)
group_on g are = no_feed_joined (join_with_byte 32 g.names) (codes " : " ++ sort_text g.sort) (spaced_on g.names are)
    (no_feed_joined (codes " : ") (sort_text g.sort) refl (sort_on g.sort))

each_grouped : (gs : List Group) → AllByRecursion GroupOn gs → AllByRecursion NoFeed (map (λ k. grouped (group_text k)) gs)
each_grouped [] are = tt
each_grouped (g ∷ gs) are = (grouped_on (group_text g) (group_on g are.0), each_grouped gs are.1)

all_groups_on : (gs : List Group) → AllByRecursion GroupOn gs → NoFeed (groups_text gs)
all_groups_on [] are = refl
all_groups_on (g ∷ []) are = group_on g are.0
all_groups_on (g ∷ h ∷ gs) are = spaced_on (map (λ k. grouped (group_text k)) (g ∷ h ∷ gs)) (each_grouped (g ∷ h ∷ gs) are)

binders_on : (vars : List Bound) → Names vars → NoFeed (binders_text vars)
binders_on [] are = refl
binders_on (b ∷ vars) are =
    let text = groups_text (groups (b ∷ vars)) in
    no_feed_joined (codes "forall ") (text ++ codes ", ") refl (no_feed_joined text (codes ", ") (all_groups_on (groups (b ∷ vars)) (groups_on (b ∷ vars) are)) refl)

-- ---- goals

names_on : (bs : List RawBound) → AllByRecursion (λ (b : RawBound). IsName b.name.bytes) bs → Names (map variable_of bs)
names_on [] are = tt
names_on (b ∷ bs) are = (name_no_feed b.name.bytes are.0, names_on bs are.1)

-- a goal that reads back has a text without a line feed
pub goal_on_line : (goal : Goal) → ReadsBack goal → NoFeed (goal_text goal)
goal_on_line goal back =
    let read = all_read (file_text goal) (alone back.raw) back.reads back.within in
    let are : Names goal.vars = subst Names (sym back.sorted.vars) (names_on back.raw.bound read.0.0.named) in
    no_feed_joined (binders_text goal.vars) (formula_part goal.vars goal.body).text (binders_on goal.vars are) (formula_on goal.vars are goal.body)
