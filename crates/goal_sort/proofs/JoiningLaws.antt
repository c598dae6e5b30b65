-- Numbers that join, by their kinds.
use Rattle.std.proofs.Common.{◌≡◌, ℕ, true, false, Option, Some, None, Ok, refl, sym, ap, ◌∙◌, subst}
use Rattle.std.specs.Option.{is_some}
use Rattle.mm_num.specs.Result.{◌>>=◌}
use Rattle.goal_ast.specs.declared.term.Sort.{Sort}
use Rattle.goal_ast.specs.declared.term.Term.{Term}
use Rattle.goal_ast.specs.Sorted.{is_number}
use Rattle.goal_sort.specs.declared.value.NumberSort.{NumberSort}
use Rattle.goal_sort.specs.declared.value.NumberSort.TheVariants.{Free, Fixed}
use Rattle.goal_sort.specs.declared.value.Number.{Number as ANumber}
use Rattle.goal_sort.specs.declared.value.Pair.{Pair}
use Rattle.goal_sort.specs.declared.value.Triple.{Triple}
use Rattle.goal_sort.specs.SortGiving.{given_at}
use Rattle.goal_sort.specs.SortedNumbers.{meet, first, settled, compared_zero, as_sort, pair_of, joined, triple_of, all_joined}
use Rattle.goal_sort.specs.Kinds.{Kind, free, fixed, together, within}
use Rattle.goal_sort.proofs.GivingLaws.{ok_is, given_bound}
use Rattle.goal_sort.proofs.KindLaws.{meet_same, sort_of, zero_in, AsKind, number, is_numeric, no_place, placed, settled_zero, settled_within, meet_again, placed_none, zeros_again, meet_fixed, meet_numeric, meets_found, compared_kind, fixed_spread, fixed_parts, first_assoc, first_none, together_sort, placed_twice}
use Rattle.goal_sort.proofs.TakingLaws.{one_sort}

-- ---- from kinds

abbrev pair : NumberSort → Term → Term → Option ℕ → Pair
pair s t u z = record { sort = s; left = t; right = u; zero = z }

pair_same : (s : NumberSort) (t u v w : Term) (y z : Option ℕ) → t ≡ v → u ≡ w → y ≡ z → pair s t u y ≡ pair s v w z
pair_same s t u v w y z h i j = ap (λ t. pair s t u y) h ∙ ap (λ u. pair s v u y) i ∙ ap (λ y. pair s v w y) j

-- what two numbers are together
pub joined_again : (at : ℕ) (k l m : Kind) (t u : Term) (y z : Option ℕ) → is_some y ≡ zero_in k → is_some z ≡ zero_in l → together k l ≡ Some m
    → (w : Option ℕ) × (is_some w ≡ zero_in m) × (joined at (number k t y) (number l u z) ≡ Ok (record { sort = sort_of m; left = within m k t; right = within m l u; zero = w }))
unfolding joined
joined_again at k l m t u y z h i j =
    let s : NumberSort = sort_of m in
    let a : ANumber = number k t y in
    let b : ANumber = number l u z in
    let w : Option ℕ = first (settled s a).zero (settled s b).zero in
    let e : w ≡ first (placed s (sort_of k) y) (placed s (sort_of l) z) =
    ap (λ p. first p (settled s b).zero) (settled_zero s a) ∙ ap (λ p. first (placed s (sort_of k) y) p) (settled_zero s b) in (
      w,
      ap is_some e ∙ zeros_again k l m y z h i j,
      ap (λ o. given_at at o >>= λ s. Ok (pair_of s (settled s a) (settled s b))) (meet_again k l m j)
          ∙ ap (λ p. Ok p) (pair_same s _ _ _ _ w w (settled_within s a m k refl refl) (settled_within s b m l refl refl) refl),
    )

number_same : (s r : Sort) (t u : Term) (y z : Option ℕ) → s ≡ r → t ≡ u → y ≡ z
    → ◌≡◌ {A = ANumber} (record { sort = Fixed s; term = t; zero = y }) (record { sort = Fixed r; term = u; zero = z })
number_same s r t u y z h i j =
    ap (λ (s : Sort). record { sort = Fixed s; term = t; zero = y }) h
    ∙ ap (λ (t : Term). record { sort = Fixed r; term = t; zero = y }) i
    ∙ ap (λ (y : Option ℕ). record { sort = Fixed r; term = u; zero = y }) j

-- a number that gets a sort
settled_again : (s : Sort) (k : Kind) (t : Term) (z : Option ℕ) → is_some z ≡ zero_in k → together (fixed s) k ≡ Some (fixed s)
    → settled (Fixed s) (number k t z) ≡ number (fixed s) (within (fixed s) k t) None
settled_again s (free d y) t z h j = number_same s s _ _ (placed (Fixed s) (Free d) z) None refl refl (no_place _ (placed_none s (free d y) z h j))
settled_again s (fixed r) t z h j = number_same r s t t z None (sym (together_sort s r j)) refl (no_place z h)

pub as_sort_again : (at : ℕ) (s : Sort) (k : Kind) (t : Term) (z : Option ℕ) → is_some z ≡ zero_in k → together (fixed s) k ≡ Some (fixed s)
    → as_sort at s (number k t z) ≡ Ok (number (fixed s) (within (fixed s) k t) None)
unfolding as_sort
as_sort_again at s k t z h j =
    let a : ANumber = number k t z in
    ap (λ o. given_at at o >>= λ w. Ok (settled w a)) (meet_again (fixed s) k (fixed s) j)
    ∙ ap (λ (n : ANumber). Ok n) (settled_again s k t z h j)

abbrev triple : Term → Term → Term → Option ℕ → Triple
triple t u v z = record { left = t; middle = u; right = v; zero = z }

triple_same : (t u v p q r : Term) (y z : Option ℕ) → t ≡ p → u ≡ q → v ≡ r → y ≡ z → triple t u v y ≡ triple p q r z
triple_same t u v p q r y z h i j k = ap (λ t. triple t u v y) h ∙ ap (λ u. triple p u v y) i ∙ ap (λ v. triple p q v y) j ∙ ap (λ y. triple p q r y) k

none_of_three : (k l m n o : Kind) (x y z : Option ℕ) → is_some x ≡ zero_in k → is_some y ≡ zero_in l → is_some z ≡ zero_in m → together k l ≡ Some n → together n m ≡ Some o
    → compared_zero (sort_of o) (first (placed (sort_of o) (sort_of k) x) (first (placed (sort_of o) (sort_of l) y) (placed (sort_of o) (sort_of m) z))) ≡ None
none_of_three k l m n (free f c) x y z h i j e g = refl
none_of_three k l m n (fixed s) x y z h i j e g =
    let p = fixed_parts n m s g in
    let q = fixed_spread k l n s e p.0 in
    no_place _ (first_none _ _ (placed_none s k x h q.0) (first_none _ _ (placed_none s l y i q.1) (placed_none s m z j p.1)))

-- what three numbers are together
pub all_joined_again : (at : ℕ) (k l m n o : Kind) (t u v : Term) (x y z : Option ℕ) → is_some x ≡ zero_in k → is_some y ≡ zero_in l → is_some z ≡ zero_in m
    → together k l ≡ Some n → together n m ≡ Some o
    → all_joined at (number k t x) (number l u y) (number m v z) ≡ Ok (record { left = within o k t; middle = within o l u; right = within o m v; zero = None })
unfolding all_joined
all_joined_again at k l m n o t u v x y z h i j e g =
    let w : NumberSort = sort_of o in
    let a : ANumber = number k t x in
    let b : ANumber = number l u y in
    let c : ANumber = number m v z in
    let zeros : compared_zero w (first (settled w a).zero (first (settled w b).zero (settled w c).zero)) ≡ None =
    ap (λ p. compared_zero w (first p (first (settled w b).zero (settled w c).zero))) (settled_zero w a)
    ∙ ap (λ p. compared_zero w (first (placed w (sort_of k) x) (first p (settled w c).zero))) (settled_zero w b)
    ∙ ap (λ p. compared_zero w (first (placed w (sort_of k) x) (first (placed w (sort_of l) y) p))) (settled_zero w c)
    ∙ none_of_three k l m n o x y z h i j e g in
    ap (λ q. given_at at q >>= λ s. given_at at (meet s c.sort) >>= λ t. Ok (triple_of t (settled t a) (settled t b) (settled t c))) (meet_again k l n e)
    ∙ ap (λ q. given_at at q >>= λ t. Ok (triple_of t (settled t a) (settled t b) (settled t c))) (meet_again n m o g)
    ∙ ap (λ p. Ok p) (triple_same _ _ _ _ _ _ _ None (settled_within w a o k refl refl) (settled_within w b o l refl refl) (settled_within w c o m refl refl) zeros)

-- ---- to kinds

-- two numbers as parts of what they make together
pub record Parts (a b : ANumber) (m : Kind) (t u : Term) : Type 0 where
  pub left : Kind
  pub right : Kind
  pub left_is : AsKind left a.sort a.zero
  pub right_is : AsKind right b.sort b.zero
  pub join : together left right ≡ Some m
  pub left_term : t ≡ within m left a.term
  pub right_term : u ≡ within m right b.term

pub record JoinedAs (a b : ANumber) (p : Pair) : Type 0 where
  pub numeric : is_numeric p.sort ≡ true
  pub parts : (m : Kind) → AsKind m p.sort p.zero → Parts a b m p.left p.right

zero_placed : (w : NumberSort) (a b : ANumber) (m : Kind) → w ≡ sort_of m
    → is_some (first (placed (sort_of m) a.sort a.zero) (placed (sort_of m) b.sort b.zero)) ≡ is_some (first (settled w a).zero (settled w b).zero)
zero_placed w a b m h =
    ap (λ w. is_some (first (placed w a.sort a.zero) (placed w b.sort b.zero))) (sym h)
    ∙ ap (λ p. is_some (first p (placed w b.sort b.zero))) (sym (settled_zero w a))
    ∙ ap (λ p. is_some (first (settled w a).zero p)) (sym (settled_zero w b))

pub joined_found : (at : ℕ) (a b : ANumber) (p : Pair) → is_numeric a.sort ≡ true → is_numeric b.sort ≡ true → joined at a b ≡ Ok p → JoinedAs a b p
unfolding joined
joined_found at a b p h k is =
    let g = given_bound at (meet a.sort b.sort) (λ s. Ok (pair_of s (settled s a) (settled s b))) p is in
    subst (λ p. JoinedAs a b p) (ok_is (pair_of g.0 (settled g.0 a) (settled g.0 b)) p g.2) (record {
      numeric = meet_numeric a.sort b.sort g.0 h k g.1;
      parts = λ m as_m.
          let j = meets_found a.sort b.sort a.zero b.zero m h k (g.1 ∙ ap (λ s. Some s) as_m.0) (zero_placed g.0 a b m as_m.0 ∙ as_m.1) in
          record {
            left = j.left;
            right = j.right;
            left_is = j.left_is;
            right_is = j.right_is;
            join = j.join;
            left_term = settled_within g.0 a m j.left as_m.0 j.left_is.0;
            right_term = settled_within g.0 b m j.right as_m.0 j.right_is.0;
          };
    })

-- a number as an argument of a sort
pub record Taken (s : Sort) (a : ANumber) (t : Term) : Type 0 where
  pub kind : Kind
  pub is : AsKind kind a.sort a.zero
  pub takes : together (fixed s) kind ≡ Some (fixed s)
  pub term : t ≡ within (fixed s) kind a.term

pub record TakenAs (s : Sort) (a n : ANumber) : Type 0 where
  pub sort : n.sort ≡ Fixed s
  pub part : n.zero ≡ None → Taken s a n.term

settled_sort : (s : Sort) (p : NumberSort) (t : Term) (y : Option ℕ) → meet (Fixed s) p ≡ Some (Fixed s) → (settled (Fixed s) (record { sort = p; term = t; zero = y })).sort ≡ Fixed s
settled_sort s (Free d) t y h = refl
settled_sort s (Fixed r) t y h = ap Fixed (sym (one_sort s r (meet_same s r (Fixed s) h).0))

pub kind_fixed : (k : Kind) (s : Sort) → Fixed s ≡ sort_of k → k ≡ fixed s
kind_fixed (free d y) s h = absurd cc
kind_fixed (fixed r) s h = cc

pub as_sort_found : (at : ℕ) (s : Sort) (a n : ANumber) → is_number s ≡ true → is_numeric a.sort ≡ true → as_sort at s a ≡ Ok n → TakenAs s a n
unfolding as_sort
as_sort_found at s a n h k is =
    let g = given_bound at (meet (Fixed s) a.sort) (λ w. Ok (settled w a)) n is in
    let w_is : g.0 ≡ Fixed s = sym (meet_fixed s a.sort g.0 g.1) in
    let meets : meet (Fixed s) a.sort ≡ Some (Fixed s) = g.1 ∙ ap (λ s. Some s) w_is in
    let n_is : settled (Fixed s) a ≡ n = ap (λ w. settled w a) (sym w_is) ∙ ok_is (settled g.0 a) n g.2 in
    subst (λ (n : ANumber). TakenAs s a n) n_is (record {
      sort = settled_sort s a.sort a.term a.zero meets;
      part = λ none.
          let zero : is_some (placed (Fixed s) a.sort a.zero) ≡ false = ap is_some (sym (settled_zero (Fixed s) a) ∙ none) in
          let j = meets_found (Fixed s) a.sort None a.zero (fixed s) h k meets zero in
          record {
            kind = j.right;
            is = j.right_is;
            takes = ap (λ k. together k j.right) (sym (kind_fixed j.left s j.left_is.0)) ∙ j.join;
            term = settled_within (Fixed s) a (fixed s) j.right refl j.right_is.0;
          };
    })

-- three numbers as parts of a chain
pub record Three (a b c : ANumber) (n : Triple) : Type 0 where
  pub left : Kind
  pub middle : Kind
  pub right : Kind
  pub two : Kind
  pub whole : Kind
  pub left_is : AsKind left a.sort a.zero
  pub middle_is : AsKind middle b.sort b.zero
  pub right_is : AsKind right c.sort c.zero
  pub join_two : together left middle ≡ Some two
  pub join : together two right ≡ Some whole
  pub left_term : n.left ≡ within whole left a.term
  pub middle_term : n.middle ≡ within whole middle b.term
  pub right_term : n.right ≡ within whole right c.term

pub all_joined_found : (at : ℕ) (a b c : ANumber) (n : Triple) → is_numeric a.sort ≡ true → is_numeric b.sort ≡ true → is_numeric c.sort ≡ true
    → all_joined at a b c ≡ Ok n → n.zero ≡ None → Three a b c n
unfolding all_joined
all_joined_found at a b c n h i j is none =
    let f = given_bound at (meet a.sort b.sort) (λ s. given_at at (meet s c.sort) >>= λ t. Ok (triple_of t (settled t a) (settled t b) (settled t c))) n is in
    let g = given_bound at (meet f.0 c.sort) (λ t. Ok (triple_of t (settled t a) (settled t b) (settled t c))) n f.2 in
    let n_is = ok_is (triple_of g.0 (settled g.0 a) (settled g.0 b) (settled g.0 c)) n g.2 in
    subst (λ (n : Triple). n.zero ≡ None → Three a b c n) n_is (three f.0 g.0 f.1 g.1) none
  where
    three : (s t : NumberSort) → meet a.sort b.sort ≡ Some s → meet s c.sort ≡ Some t
        → compared_zero t (first (settled t a).zero (first (settled t b).zero (settled t c).zero)) ≡ None
        → Three a b c (triple_of t (settled t a) (settled t b) (settled t c))
    three s t e g none =
        let o = compared_kind t (first (settled t a).zero (first (settled t b).zero (settled t c).zero)) none in
        let of_two : Option ℕ = first (placed s a.sort a.zero) (placed s b.sort b.zero) in
        let places : first (placed t s of_two) (placed t c.sort c.zero) ≡ first (settled t a).zero (first (settled t b).zero (settled t c).zero) =
        ap (λ p. first p (placed t c.sort c.zero)) (placed_twice a.sort b.sort c.sort s t a.zero b.zero e g)
        ∙ sym (first_assoc (placed t a.sort a.zero) (placed t b.sort b.zero) (placed t c.sort c.zero))
        ∙ ap (λ p. first p (first (placed t b.sort b.zero) (placed t c.sort c.zero))) (sym (settled_zero t a))
        ∙ ap (λ p. first (settled t a).zero (first p (placed t c.sort c.zero))) (sym (settled_zero t b))
        ∙ ap (λ p. first (settled t a).zero (first (settled t b).zero p)) (sym (settled_zero t c)) in
        let outer = meets_found s c.sort of_two c.zero o.0 (meet_numeric a.sort b.sort s h i e) j (g ∙ ap (λ s. Some s) o.1.0)
        (ap (λ t. is_some (first (placed t s of_two) (placed t c.sort c.zero))) (sym o.1.0) ∙ ap is_some places ∙ o.1.1) in
        let inner = meets_found a.sort b.sort a.zero b.zero outer.left h i (e ∙ ap (λ s. Some s) outer.left_is.0)
        (ap (λ s. is_some (first (placed s a.sort a.zero) (placed s b.sort b.zero))) (sym outer.left_is.0) ∙ outer.left_is.1) in
        record {
          left = inner.left;
          middle = inner.right;
          right = outer.right;
          two = outer.left;
          whole = o.0;
          left_is = inner.left_is;
          middle_is = inner.right_is;
          right_is = outer.right_is;
          join_two = inner.join;
          join = outer.join;
          left_term = settled_within t a o.0 inner.left o.1.0 inner.left_is.0;
          middle_term = settled_within t b o.0 inner.right o.1.0 inner.right_is.0;
          right_term = settled_within t c o.0 outer.right o.1.0 outer.right_is.0;
        }
