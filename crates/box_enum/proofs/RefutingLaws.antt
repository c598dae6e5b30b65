-- A certificate from one row that is false at chosen values, and that some row is where each variable has a value.
use Rattle.std.specs.Prelude.{◌≡◌, ℕ, zero, suc, ◌+◌, ◌-◌, ◌<◌, ◌≤◌, ◌==◌, max, ℤ, pos, nat_eq, List, [], ◌∷◌, ◌++◌, map, length, take, Bool, true, false, cond, ◌&&◌, ◌||◌, Option, Some, None, slice_get, refl, IsNone}
use Rattle.std.proofs.Common.{ap, sym, ◌∙◌, subst, arith, get_or, eqb-true, append-nil, length-append}
use Rattle.std.proofs.lemmas.Bool.{and_parts, and_from}
use Rattle.std.proofs.lemmas.List.{take_all}
use Rattle.std.specs.Option.{option_map_or}
use Rattle.std.specs.List.{AllByRecursion, IsDistinct, list_any}
use Rattle.mm_num.proofs.ListLaws.{all_join, all_split}
use Rattle.mm_poly.specs.declared.term.Term.{Term}
use Rattle.mm_poly.specs.Poly.{Fits, value}
use Rattle.mm_poly.proofs.CaseLaws.{by_if}
use Rattle.cert_kit.specs.declared.row.Op.{Op}
use Rattle.cert_kit.specs.declared.row.PRow.{PRow}
use Rattle.cert_kit.specs.declared.cert.Psatz.TheVariants.{Hyp}
use Rattle.cert_kit.specs.declared.cert.Step.{Step}
use Rattle.cert_kit.specs.declared.cert.Step.TheVariants.{Rat}
use Rattle.cert_kit.specs.declared.cert.Cert.{Cert}
use Rattle.cert_kit.specs.declared.cert.Close.TheVariants.{Done}
use Rattle.cert_kit.specs.Row.{Holds, compares_0, is_false}
use Rattle.cert_kit.specs.Meaning.{measure}
use Rattle.cert_kit.specs.Variables.{poly_variables}
use Rattle.cert_kit.specs.Depth.{steps_depth, steps_in_range, step_depth, step_in_range, cert_depth, cert_constants}
use Rattle.cert_kit.specs.Acceptance.{with_row, ends_false, IsGood}
use Rattle.cert_kit.specs.Making.{Makes}
use Rattle.cert_kit.proofs.FormLaws.{hyp_means}
use Rattle.cert_kit.proofs.BoundedLaws.{hyp_bounded}
use Rattle.cert_kit.proofs.FlatLaws.{flat_hyp, done_depth, done_range}
use Rattle.cert_kit.proofs.MakerLaws.{makes_rat, makes_both, ends_with, good_done}
use Rattle.cert_kit.proofs.SolvingLaws.{row_tested}
use Rattle.cert_kit.proofs.VariableLaws.{any_self}
use Rattle.box_enum.specs.declared.numbered.Choice.{Choice}
use Rattle.box_enum.specs.declared.numbered.Numbered.{Numbered}
use Rattle.box_enum.specs.declared.standing.Standing.{Standing}
use Rattle.box_enum.specs.declared.standing.Ground.{Ground}
use Rattle.box_enum.specs.machine.Putting.{IsTame, IsWithinReach, StandsChosen, StandsNumbered, StepsMore, Puts, put_all}
use Rattle.box_enum.specs.machine.Places.{Agrees, HasNoPoint, names_of, AreNamed, IsOpen, IsShallow, ending_with}
use Rattle.box_enum.proofs.WallLaws.{depth_is, constants_are}
use Rattle.box_enum.proofs.LeafLaws.{put_all_value, put_all_tame, put_all_variables, constant_left}
use Rattle.box_enum.proofs.PlaceLaws.{agreeing}

-- ---- the row is made the last one

last_is : (rows : List PRow) (n k : ℕ) (r : PRow) → (n + 1 == k) ≡ true → length rows ≡ k → slice_get rows n ≡ Some r → ends_false rows ≡ is_false r
last_is rows n k r e l s =
    let m : n + 1 ≡ k = eqb-true (n + 1) k e in
    let p : length rows - 1 ≡ n = omega (arith, l, m) in
    ap (λ o. option_map_or is_false o false) (ap (slice_get rows) p ∙ s)

pub good_ending : (given rows : List PRow) (steps : List Step) (n k : ℕ) (r : PRow) → Makes given steps rows → length rows ≡ k → slice_get rows n ≡ Some r → Fits r.poly → is_false r ≡ true
    → IsGood given (record { steps = ending_with n k steps; close = Done })
good_ending given rows steps n k r m l s f h =
    by_if (n + 1 == k) steps (steps ++ Rat (Hyp n) ∷ []) (λ (q : List Step). IsGood given (record { steps = q; close = Done }))
    (λ e. good_done given rows steps m (last_is rows n k r e l s ∙ h))
    (λ e. good_done given (with_row rows r) (steps ++ Rat (Hyp n) ∷ [])
    (makes_both given rows (with_row rows r) steps (Rat (Hyp n) ∷ []) m (makes_rat rows (Hyp n) r (hyp_means n rows ∙ s) (hyp_bounded rows n r s f).within))
    (ends_with rows r ∙ h))

only_more : (before after more : List Step) → before ≡ [] → after ≡ before ++ more → after ≡ more
only_more before after more b a = a ∙ ap (λ (q : List Step). q ++ more) b

left_fits : (b : ℕ) (cs : List Choice) (from left : PRow) → left ≡ record { poly = put_all cs from.poly; op = from.op } → IsTame b from.poly → AllByRecursion (IsWithinReach b) cs → Fits left.poly
left_fits b cs from left e t w = subst (λ (r : PRow). Fits r.poly) (sym e) (put_all_tame b cs from.poly t w).fits

pub good_refuted : (before after final closed : List Step) (n k b : ℕ) (from left : Numbered) (cs : List Choice) → before ≡ [] → Puts before after n from cs left
    → IsTame b from.row.poly → AllByRecursion (IsWithinReach b) cs → true ≡ is_false left.row → k ≡ n + length after → final ≡ ending_with left.number k after → closed ≡ final
    → (rows : List PRow) → length rows ≡ n → StandsNumbered rows from → AllByRecursion (StandsChosen rows) cs → IsGood rows (record { steps = closed; close = Done })
good_refuted before after final closed n k b from left cs empty p t w h count f c rows l s a =
    let m = p.makes rows l s a in
    let e : after ≡ p.steps.more = only_more before after p.steps.more empty p.steps.is in
    let made : Makes rows after (rows ++ m.0) = subst (λ (q : List Step). Makes rows q (rows ++ m.0)) (sym e) m.1 in
    let counted : length (rows ++ m.0) ≡ k = omega (arith, m.3, ap (λ (q : List Step). length q) e, count) in
    subst (λ (q : List Step). IsGood rows (record { steps = q; close = Done })) (sym (c ∙ f))
    (good_ending rows (rows ++ m.0) after left.number k left.row made counted m.2 (left_fits b cs from.row left.row p.row t w) (sym h))

-- ---- its depth

pub depth_both : (xs ys : List Step) → steps_depth (xs ++ ys) ≡ max (steps_depth xs) (steps_depth ys)
depth_both [] ys = omega arith
depth_both (x ∷ xs) ys = omega (arith, depth_both xs ys)

pub range_both : (xs ys : List Step) → steps_in_range xs ≡ true → steps_in_range ys ≡ true → steps_in_range (xs ++ ys) ≡ true
range_both [] ys h k = k
range_both (x ∷ xs) ys h k = let p = and_parts (step_in_range x) (steps_in_range xs) h in and_from (step_in_range x) (steps_in_range (xs ++ ys)) p.0 (range_both xs ys p.1 k)

-- steps that are at most 2 deep, and Done
pub shallow_done : (steps : List Step) → steps_depth steps ≤ 2 → steps_in_range steps ≡ true → IsShallow 2 (record { steps = steps; close = Done })
shallow_done steps d r =
    let c : Cert = record { steps = steps; close = Done } in
    record { depth = omega (arith, depth_is c, done_depth, d); constants = constants_are c ∙ and_from (steps_in_range steps) _ r done_range }

shallow_ending : (steps : List Step) (n k : ℕ) → steps_depth steps ≤ 2 → steps_in_range steps ≡ true → IsShallow 2 (record { steps = ending_with n k steps; close = Done })
shallow_ending steps n k d r =
    by_if (n + 1 == k) steps (steps ++ Rat (Hyp n) ∷ []) (λ (q : List Step). IsShallow 2 (record { steps = q; close = Done }))
    (λ e. shallow_done steps d r)
    (λ e. shallow_done (steps ++ Rat (Hyp n) ∷ [])
    (omega (arith, depth_both steps (Rat (Hyp n) ∷ []), d, (flat_hyp n 0).depth))
    (range_both steps (Rat (Hyp n) ∷ []) r (and_from (step_in_range (Rat (Hyp n))) true (flat_hyp n 0).constants refl)))

pub shallow_refuted : (before after final closed : List Step) (n k x : ℕ) → before ≡ [] → StepsMore before after n → final ≡ ending_with x k after → closed ≡ final
    → IsShallow 2 (record { steps = closed; close = Done })
shallow_refuted before after final closed n k x empty m f c =
    let e : after ≡ m.more = only_more before after m.more empty m.is in
    subst (λ (q : List Step). IsShallow 2 (record { steps = q; close = Done })) (sym (c ∙ f))
    (shallow_ending after x k (omega (arith, ap steps_depth e, m.flat)) (ap steps_in_range e ∙ m.constants))

-- ---- where what is left isn't false, the row holds

not_among : (v : ℕ) (cs : List Choice) → AllByRecursion (λ (c : Choice). c.variable ≡ v → ⊥) cs → list_any (nat_eq v) (names_of cs []) ≡ true → ⊥
not_among v [] a h = cc
not_among v (c ∷ cs) a h = by_test (nat_eq v c.variable) refl h (λ k. not_among v cs a.1 k)
  where
    by_test : (b : Bool) → nat_eq v c.variable ≡ b → (b || list_any (nat_eq v) (names_of cs [])) ≡ true → (list_any (nat_eq v) (names_of cs []) ≡ true → ⊥) → ⊥
    by_test true e k rest = a.0 (sym (eqb-true v c.variable e))
    by_test false e k rest = rest k

pub holds_left : (before after : List Step) (n b : ℕ) (from left : Numbered) (cs : List Choice) → Puts before after n from cs left
    → IsTame b from.row.poly → AllByRecursion (IsWithinReach b) cs → false ≡ is_false left.row → AreNamed (names_of cs []) from.row.poly
    → (x : ℕ → ℤ) → AllByRecursion (Agrees x) cs → Holds x from.row
holds_left before after n b from left cs p t w h named x a =
    let q : List Term = put_all cs from.row.poly in
    let u : IsTame b q = put_all_tame b cs from.row.poly t w in
    let same : value x q ≡ value x from.row.poly = put_all_value x cs from.row.poly t.fits.order t.monos a in
    (row_tested x from.row).0 (sym (ap (compares_0 from.row.op) same) ∙ by_test (compares_0 from.row.op (value x q)) refl u)
  where
    by_test : (c : Bool) → compares_0 from.row.op (value x (put_all cs from.row.poly)) ≡ c → IsTame b (put_all cs from.row.poly) → c ≡ true
    by_test true e u = refl
    by_test false e u =
        let k : is_false left.row ≡ true = ap is_false p.row
        ∙ constant_left (put_all cs from.row.poly) u.fits.order u.monos (λ v o. let d = put_all_variables v cs from.row.poly t.fits.order t.monos o in not_among v cs d.1 (named v d.0)) x from.row.op e in
        absurd (cc)

-- ---- some row is false where each variable has a value

agree_rest : (c : Choice) (f : ℕ → ℤ) (ds : List Choice) → AllByRecursion (λ v. nat_eq c.variable v ≡ false) (map (λ (d : Choice). d.variable) ds) → AllByRecursion (Agrees f) ds
    → AllByRecursion (Agrees (λ v. cond (nat_eq v c.variable) c.value (f v))) ds
agree_rest c f [] n a = tt
agree_rest c f (d ∷ ds) n a = (ap (λ b. cond b c.value (f d.variable)) (flip c.variable d.variable n.0) ∙ a.0, agree_rest c f ds n.1 a.1)
  where
    flip : (v w : ℕ) → nat_eq v w ≡ false → nat_eq w v ≡ false
    flip v w e = grind arith

pub agree_all : (cs : List Choice) (x : ℕ → ℤ) → IsDistinct nat_eq (map (λ (c : Choice). c.variable) cs) → AllByRecursion (Agrees (agreeing cs x)) cs
unfolding IsDistinct
agree_all [] x d = tt
agree_all (c ∷ cs) x d = (ap (λ b. cond b c.value (agreeing cs x c.variable)) (any_self c.variable), agree_rest c (agreeing cs x) cs d.0 (agree_all cs x d.1))

pub distinct_first : (xs ys : List ℕ) → IsDistinct nat_eq (xs ++ ys) → IsDistinct nat_eq xs
unfolding IsDistinct
distinct_first [] ys d = tt
distinct_first (x ∷ xs) ys d = ((all_split (λ y. nat_eq x y ≡ false) xs ys d.0).0, distinct_first xs ys d.1)

pub some_false : (g : Ground) (n i : ℕ) (cs : List Choice) (ss : List Standing) → IsOpen g n cs [] → ss ≡ g.standing → length ss ≤ i
    → ((x : ℕ → ℤ) → AllByRecursion (Agrees x) cs → AllByRecursion (λ (s : Standing). Holds x s.numbered.row) (take i ss)) → ⊥
some_false g n i cs ss o e l h =
    let x : ℕ → ℤ = agreeing cs (λ v. pos 0) in
    let a : AllByRecursion (Agrees x) cs = agree_all cs (λ v. pos 0) (distinct_first (map (λ (c : Choice). c.variable) cs) [] o.distinct) in
    o.none x a tt (subst (λ (us : List Standing). AllByRecursion (λ (s : Standing). Holds x s.numbered.row) us) (take_all i ss l ∙ e) (h x a))

-- one row more holds
pub all_more : {A : Type 0} → (P : A → Type 0) (xs : List A) (i : ℕ) (d : A) → i < length xs → P (get_or xs i d) → AllByRecursion P (take i xs) → AllByRecursion P (take (i + 1) xs)
all_more P [] i d l h a = absurd (omega arith)
all_more P (x ∷ xs) zero d l h a = (h, tt)
all_more P (x ∷ xs) (suc i) d l h a = let s : suc i + 1 ≡ suc (i + 1) = omega arith in rw s (a.0, all_more P xs i d (omega arith) h a.1)

pub all_at : {A : Type 0} → (P : A → Type 0) (xs : List A) (i : ℕ) (d : A) → i < length xs → AllByRecursion P xs → P (get_or xs i d)
all_at P [] i d l a = absurd (omega arith)
all_at P (x ∷ xs) zero d l a = a.0
all_at P (x ∷ xs) (suc i) d l a = all_at P xs i d (omega arith) a.1

pub item_at : {A : Type 0} → (P : A → Type 0) (xs ys : List A) (i : ℕ) (x : A) → xs ≡ ys → i < length xs → x ≡ get_or xs i x → AllByRecursion P ys → P x
item_at P xs ys i x e l is a = subst (λ (y : _). P y) (sym is) (all_at P xs i x l (subst (λ (zs : List _). AllByRecursion P zs) (sym e) a))

pub none_of : {A : Type 0} → (o : Option A) → ((x : A) → o ≡ Some x → ⊥) → IsNone o
none_of None h = refl
none_of (Some x) h = absurd (h x refl)
