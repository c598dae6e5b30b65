-- The bounds of each variable, one row after another.
use Rattle.std.specs.Prelude.{◌≡◌, ℕ, zero, suc, ◌+◌, ◌-◌, ◌<◌, ◌≤◌, ℤ, List, [], ◌∷◌, ◌++◌, map, length, drop, Bool, true, false, cond, not, nat_eq, nat_lt, ◌⊎◌, Ok, Err, Option, Some, None, refl}
use Rattle.std.proofs.Common.{inl, inr, ap, sym, ◌∙◌, subst, arith, get_or, set, append_assoc, append-nil}
use Rattle.std.proofs.Math.Seq.{drop-cons}
use Rattle.std.proofs.lemmas.List.{drop_all}
use Rattle.std.specs.Option.{option_map}
use Rattle.std.specs.List.{AllByRecursion}
use Rattle.std.specs.List.Sorted.{IsStrictlySortedBy, IsBinarySearchResult}
use Rattle.std.proofs.lemmas.List.Sorted.{searched}
use Rattle.std.specs.Ordering.{nat_cmp}
use Rattle.std.specs.Cmp.{nat_cmp_total}
use Rattle.std.specs.declared.cmp.Ordering.TheVariants.{Less}
use Rattle.mm_num.specs.Option.{◌>>=◌}
use Rattle.mm_poly.proofs.FactorLaws.{less_is}
use Rattle.cert_kit.specs.declared.row.PRow.{PRow}
use Rattle.cert_kit.specs.Cut.{cut_of}
use Rattle.cert_kit.specs.Variables.{variables_of, row_variables, place_of}
use Rattle.cert_kit.proofs.OrderedLaws.{in_order_rises}
use Rattle.box_enum.specs.declared.reading.Reading.{Reading}
use Rattle.box_enum.specs.declared.reading.Span.{Span}
use Rattle.box_enum.specs.declared.bounds.Bounds.{Bounds}
use Rattle.std.specs.Int.{int_min, int_max}
use Rattle.box_enum.specs.Box.{Side, better, low_of, high_of, sides_of, box_of, bounds_of}
use Rattle.box_enum.specs.machine.Reading.{span_of, narrowed, side_between, side_in, sides_in, high_read, IsReading}
use Rattle.box_enum.proofs.PlainLaws.{number_itself, number_not}

-- ---- one variable's span is bettered

pub above_all : (v : ℕ) (vars : List ℕ) → AllByRecursion (λ w. nat_cmp v w ≡ Less) vars → AllByRecursion (λ w. v ≡ w → ⊥) vars
above_all v [] a = tt
above_all v (w ∷ ws) a = (λ e. let l = less_is v w a.0 in absurd (omega arith), above_all v ws a.1)

-- where a variable isn't among some, what changes there alone changes nothing
pub not_among : (f g : ℕ → Span) (v : ℕ) (vars : List ℕ) → ((x : ℕ) → (v ≡ x → ⊥) → g x ≡ f x) → AllByRecursion (λ w. v ≡ w → ⊥) vars → map f vars ≡ map g vars
not_among f g v [] h a = refl
not_among f g v (w ∷ ws) h a = ap (λ (s : Span). s ∷ map f ws) (sym (h w a.0)) ∙ ap (λ (ss : List Span). g w ∷ ss) (not_among f g v ws h a.1)

pub place_above : (w v : ℕ) (ws : List ℕ) (p : ℕ) → AllByRecursion (λ x. nat_cmp w x ≡ Less) ws → p < length ws → get_or ws p 0 ≡ v → w < v
place_above w v [] p a h e = absurd (omega arith)
place_above w v (x ∷ xs) zero a h e = let l = less_is w x a.0 in omega (arith, e)
place_above w v (x ∷ xs) (suc p) a h e = place_above w v xs p a.1 (omega arith) e

pub set_there : (f g : ℕ → Span) (v : ℕ) (vars : List ℕ) (p : ℕ) → ((x : ℕ) → (v ≡ x → ⊥) → g x ≡ f x) → IsStrictlySortedBy nat_cmp vars → p < length vars → get_or vars p 0 ≡ v
    → set (map f vars) p (g v) ≡ map g vars
unfolding IsStrictlySortedBy
set_there f g v [] p h s l e = absurd (omega arith)
set_there f g v (w ∷ ws) zero h s l e =
    ap (λ (k : ℕ). g k ∷ map f ws) (sym e)
    ∙ ap (λ (ss : List Span). g w ∷ ss) (not_among f g w ws (λ x n. h x (λ q. n (e ∙ q))) (above_all w ws s.0))
set_there f g v (w ∷ ws) (suc p) h s l e =
    let below : w < v = place_above w v ws p s.0 (omega arith) e in
    ap (λ (k : Span). k ∷ set (map f ws) p (g v)) (sym (h w (λ q. absurd (omega arith))))
    ∙ ap (λ (ss : List Span). g w ∷ ss) (set_there f g v ws p h s.1 (omega arith) e)

-- what was read says nothing of other variables
pub elsewhere : (r : Reading) (s : Span) (x : ℕ) → (r.variable ≡ x → ⊥) → narrowed (Some r) x s ≡ s
elsewhere r s x n = rw (number_not x r.variable n) refl

pub here : (r : Reading) (s : Span) → narrowed (Some r) r.variable s ≡ record { low = better int_max r.low s.low; high = better int_min r.high s.high }
here r s = rw (number_itself r.variable) refl

-- ---- one more row in front

pub one_more : (r : PRow) (rows : List PRow) (o : Option Reading) (vars : List ℕ) → IsReading (cut_of r) o → map (λ x. narrowed o x (span_of rows x)) vars ≡ map (span_of (r ∷ rows)) vars
one_more r rows o [] i = refl
one_more r rows o (x ∷ xs) i =
    ap (λ (s : Span). s ∷ map (λ y. narrowed o y (span_of rows y)) xs) (span_more r rows o x i)
    ∙ ap (λ (ss : List Span). span_of (r ∷ rows) x ∷ ss) (one_more r rows o xs i)
  where
    span_more : (r : PRow) (rows : List PRow) (o : Option Reading) (x : ℕ) → IsReading (cut_of r) o → narrowed o x (span_of rows x) ≡ span_of (r ∷ rows) x
    span_more r rows o x i =
        ap (λ (l : Option ℤ). record { low = better int_max l (low_of x rows); high = better int_min (high_read o x) (high_of x rows) }) (sym (i.lower x))
        ∙ ap (λ (l : Option ℤ). record { low = low_of x (r ∷ rows); high = better int_min l (high_of x rows) }) (sym (i.upper x))

pub none_more : (rows : List PRow) (vars : List ℕ) → map (λ x. narrowed None x (span_of rows x)) vars ≡ map (span_of rows) vars
none_more rows [] = refl
none_more rows (x ∷ xs) = ap (λ (ss : List Span). span_of rows x ∷ ss) (none_more rows xs)

-- ---- the sides so far

abbrev pub put_before : List ℤ → List ℤ → Bounds → Bounds
put_before low high b = record { low = low ++ b.low; high = high ++ b.high }

-- what is out, and the bounds of those that are left
pub record Joined (low high : List ℤ) (rest all : List Span) : Type 0 where
  pub joined : option_map (put_before low high) (option_map bounds_of (sides_in rest)) ≡ option_map bounds_of (sides_in all)

same_bounds : (o : Option Bounds) → option_map (put_before [] []) o ≡ o
same_bounds None = refl
same_bounds (Some b) = refl

pub none_joined : (all : List Span) → Joined [] [] all all
none_joined all = record { joined = same_bounds (option_map bounds_of (sides_in all)) }

more_before : (low high : List ℤ) (e : ℤ × ℤ) (o : Option (List Side)) → option_map (put_before (low ++ e.0 ∷ []) (high ++ e.1 ∷ [])) (option_map bounds_of o)
    ≡ option_map (put_before low high) (option_map bounds_of (o >>= λ sides. Some (side_between e ∷ sides)))
more_before low high e None = refl
more_before low high e (Some sides) =
    ap (λ (l : List ℤ). Some (record { low = l; high = (high ++ e.1 ∷ []) ++ map (λ (s : Side). s.high) sides })) (append_assoc low (e.0 ∷ []) (map (λ (s : Side). s.low) sides))
    ∙ ap (λ (h : List ℤ). Some (record { low = low ++ e.0 ∷ map (λ (s : Side). s.low) sides; high = h })) (append_assoc high (e.1 ∷ []) (map (λ (s : Side). s.high) sides))

first_side : (spans : List Span) (n : ℕ) (d : Span) (o : Option Side) → n < length spans → o ≡ side_in (get_or spans n d)
    → sides_in (drop n spans) ≡ (o >>= λ side. sides_in (drop (n + 1) spans) >>= λ sides. Some (side ∷ sides))
first_side spans n d o h e =
    ap sides_in (drop-cons spans n d h ∙ ap (λ (m : ℕ). get_or spans n d ∷ drop m spans) next)
    ∙ ap (λ (p : Option Side). p >>= λ side. sides_in (drop (n + 1) spans) >>= λ sides. Some (side ∷ sides)) (sym e)
  where
    next : suc n ≡ n + 1
    next = omega arith

pub more_joined : (low high : List ℤ) (spans : List Span) (n : ℕ) (d : Span) (e : ℤ × ℤ) → n < length spans → Some (side_between e) ≡ side_in (get_or spans n d)
    → Joined low high (drop n spans) spans → Joined (low ++ e.0 ∷ []) (high ++ e.1 ∷ []) (drop (n + 1) spans) spans
more_joined low high spans n d e h f j = record {
  joined = more_before low high e (sides_in (drop (n + 1) spans))
      ∙ ap (λ o. option_map (put_before low high) (option_map bounds_of o)) (sym (first_side spans n d (Some (side_between e)) h f))
      ∙ j.joined;
}

pub no_end : (low high : List ℤ) (spans : List Span) (n : ℕ) (d : Span) → n < length spans → None ≡ side_in (get_or spans n d)
    → Joined low high (drop n spans) spans → None ≡ option_map bounds_of (sides_in spans)
no_end low high spans n d h f j = sym (ap (λ o. option_map (put_before low high) (option_map bounds_of o)) (first_side spans n d None h f)) ∙ j.joined

pub all_joined : (low high l k : List ℤ) (spans : List Span) (n : ℕ) → l ≡ low → k ≡ high → length spans ≤ n → Joined low high (drop n spans) spans → Some (record { low = l; high = k }) ≡ option_map bounds_of (sides_in spans)
all_joined low high l k spans n e f h j =
    ap (λ (xs : List ℤ). Some (record { low = xs; high = k })) e
    ∙ ap (λ (xs : List ℤ). Some (record { low = low; high = xs })) f
    ∙ ap (λ (l : List ℤ). Some (record { low = l; high = high })) (sym (append-nil low))
    ∙ ap (λ (k : List ℤ). Some (record { low = low ++ []; high = k })) (sym (append-nil high))
    ∙ ap (λ (ss : List Span). option_map (put_before low high) (option_map bounds_of (sides_in ss))) (sym (drop_all n spans h))
    ∙ j.joined

-- ---- all sides

pub sides_are : (rows : List PRow) (vars : List ℕ) → sides_in (map (span_of rows) vars) ≡ sides_of rows vars
sides_are rows [] = refl
sides_are rows (x ∷ xs) = ap (λ o. side_in (span_of rows x) >>= λ s. o >>= λ sides. Some (s ∷ sides)) (sides_are rows xs)

pub bounds_are : (rows : List PRow) (vars : List ℕ) (spans : List Span) (found : Option Bounds) → vars ≡ variables_of rows → spans ≡ map (span_of rows) vars → found ≡ option_map bounds_of (sides_in spans)
    → found ≡ option_map bounds_of (box_of rows)
bounds_are rows vars spans found e f g = g ∙ ap (λ ss. option_map bounds_of (sides_in ss)) (f ∙ ap (map (span_of rows)) e) ∙ ap (option_map bounds_of) (sides_are rows (variables_of rows))

pub rising : (rows : List PRow) (vars : List ℕ) → vars ≡ variables_of rows → IsStrictlySortedBy nat_cmp vars
rising rows vars e = subst (λ vs. IsStrictlySortedBy nat_cmp vs) (sym e) (in_order_rises nat_cmp nat_cmp_total (row_variables rows))

-- ---- where a variable was looked for

pub set_span : (f : ℕ → Span) (r : Reading) (vars : List ℕ) (spans : List Span) (p : ℕ) (s : Span) (l k : Option ℤ) → IsStrictlySortedBy nat_cmp vars → p < length vars → get_or vars p 0 ≡ r.variable
    → s ≡ get_or spans p s → l ≡ better int_max r.low s.low → k ≡ better int_min r.high s.high → spans ≡ map f vars
    → set spans p (record { low = l; high = k }) ≡ map (λ x. narrowed (Some r) x (f x)) vars
set_span f r vars spans p s l k rising h e is low_is high_is m =
    ap (λ (ss : List Span). set ss p (record { low = l; high = k })) m
    ∙ ap (λ (w : Option ℤ). set (map f vars) p (record { low = w; high = k })) low_is
    ∙ ap (λ (w : Option ℤ). set (map f vars) p (record { low = better int_max r.low s.low; high = w })) high_is
    ∙ ap (λ (k : Span). set (map f vars) p k) (sym (here r s) ∙ ap (λ (k : Span). narrowed (Some r) r.variable k) (is ∙ ap (λ (ss : List Span). get_or ss p s) m ∙ mapped vars p h ∙ ap f e))
    ∙ set_there f (λ x. narrowed (Some r) x (f x)) r.variable vars p (λ x n. elsewhere r (f x) x n) rising h e
  where
    mapped : (vs : List ℕ) (k : ℕ) → k < length vs → get_or (map f vs) k s ≡ f (get_or vs k 0)
    mapped [] k l = absurd (omega arith)
    mapped (v ∷ vs) zero l = refl
    mapped (v ∷ vs) (suc k) l = mapped vs k (omega arith)

pub not_in : (v : ℕ) (vars : List ℕ) → ((k : ℕ) → k < length vars → get_or vars k 0 ≡ v → ⊥) → AllByRecursion (λ w. v ≡ w → ⊥) vars
not_in v [] h = tt
not_in v (w ∷ ws) h = ((λ e. h 0 (omega arith) (sym e)), not_in v ws (λ k l e. h (suc k) (omega arith) e))

pub by_lt : (k j : ℕ) (b : Bool) → nat_lt k j ≡ b → (k < j) ⊎ (j ≤ k)
by_lt k j true e = inl (grind arith)
by_lt k j false e = inr (grind arith)

pub unfound : (f : ℕ → Span) (r : Reading) (vars : List ℕ) (spans : List Span) (i : ℕ) → ((k : ℕ) → k < i → get_or vars k 0 < r.variable) → ((k : ℕ) → i ≤ k → k < length vars → r.variable < get_or vars k 0)
    → spans ≡ map f vars → spans ≡ map (λ x. narrowed (Some r) x (f x)) vars
unfound f r vars spans i below above m =
    m ∙ not_among f (λ x. narrowed (Some r) x (f x)) r.variable vars (λ x n. elsewhere r (f x) x n) (not_in r.variable vars (λ k l e. other k l e))
  where
    other : (k : ℕ) → k < length vars → get_or vars k 0 ≡ r.variable → ⊥
    other k l e = elim (by_lt k i (nat_lt k i) refl) [ inl a ↦ absurd (omega (arith, below k a)) | inr b ↦ absurd (omega (arith, above k b l)) ]

rising_at : (vars : List ℕ) → IsStrictlySortedBy nat_cmp vars → (i j : ℕ) → i ≤ j → j < length vars → get_or vars i 0 ≤ get_or vars j 0
unfolding IsStrictlySortedBy
rising_at [] s i j l h = absurd (omega arith)
rising_at (v ∷ vs) s zero zero l h = omega arith
rising_at (v ∷ vs) s zero (suc j) l h = let b : v < get_or vs j 0 = place_above v (get_or vs j 0) vs j s.0 (omega arith) refl in omega arith
rising_at (v ∷ vs) s (suc i) zero l h = absurd (omega arith)
rising_at (v ∷ vs) s (suc i) (suc j) l h = rising_at vs s.1 i j (omega arith) (omega arith)

pub searched_rising : (vars : List ℕ) (v i : ℕ) → IsStrictlySortedBy nat_cmp vars → IsBinarySearchResult (λ y. nat_cmp y v) vars (Err i)
    → (i ≤ length vars) × ((k : ℕ) → k < i → get_or vars k 0 < v) × ((k : ℕ) → i ≤ k → k < length vars → v < get_or vars k 0)
searched_rising vars v i s b = searched vars v (Err i) b (λ j k l h. rising_at vars s j k l h)

pub searched_there : (vars : List ℕ) (v i : ℕ) → IsStrictlySortedBy nat_cmp vars → IsBinarySearchResult (λ y. nat_cmp y v) vars (Ok i) → (i < length vars) × (get_or vars i 0 ≡ v)
searched_there vars v i s b = searched vars v (Ok i) b (λ j k l h. rising_at vars s j k l h)

-- ---- from the last row to the first

pub row_more : (rows : List PRow) (vars : List ℕ) (n : ℕ) (r : PRow) (o : Option Reading) (spans : List Span) → 0 < n → n ≤ length rows → r ≡ get_or rows (n - 1) r → IsReading (cut_of r) o
    → spans ≡ map (λ x. narrowed o x (span_of (drop n rows) x)) vars → spans ≡ map (span_of (drop (n - 1) rows)) vars
row_more rows vars zero r o spans p h is i e = absurd (omega arith)
row_more rows vars (suc n) r o spans p h is i e =
    let one : suc n - 1 ≡ n = omega arith in
    let f : drop n rows ≡ r ∷ drop (suc n) rows = drop-cons rows n r h ∙ ap (λ (q : PRow). q ∷ drop (suc n) rows) (sym (is ∙ ap (λ k. get_or rows k r) one)) in
    e ∙ one_more r (drop (suc n) rows) o vars i ∙ ap (λ (qs : List PRow). map (span_of qs) vars) (sym f) ∙ ap (λ k. map (span_of (drop k rows)) vars) (sym one)

not_some : {A : Type 0} (o : Option A) → ((x : A) → o ≡ Some x → ⊥) → o ≡ None
not_some None n = refl
not_some (Some x) n = absurd (n x refl)

pub nothing_more : (rows : List PRow) (vars : List ℕ) (n : ℕ) (r : PRow) (o : Option Reading) (spans : List Span) → 0 < n → n ≤ length rows → r ≡ get_or rows (n - 1) r → IsReading (cut_of r) o
    → ((x : Reading) → o ≡ Some x → ⊥) → spans ≡ map (span_of (drop n rows)) vars → spans ≡ map (span_of (drop (n - 1) rows)) vars
nothing_more rows vars n r o spans p h is i none e =
    row_more rows vars n r None spans p h is (subst (λ (q : Option Reading). IsReading (cut_of r) q) (not_some o none) i) (e ∙ sym (none_more (drop n rows) vars))

pub joined_as : (low high l k : List ℤ) (rest all : List Span) → l ≡ low → k ≡ high → Joined low high rest all → Joined l k rest all
joined_as low high l k rest all e f j = subst (λ xs. Joined xs k rest all) (sym e) (subst (λ xs. Joined low xs rest all) (sym f) j)

pub reading_is : (r : PRow) (o : Option Reading) (x : Reading) → o ≡ Some x → IsReading (cut_of r) o → IsReading (cut_of r) (Some x)
reading_is r o x e i = subst (λ (q : Option Reading). IsReading (cut_of r) q) e i

-- one more without bounds
pub push_span : (out new : List Span) (s : Span) (vars : List ℕ) (i : ℕ) → i < length vars → new ≡ out ++ s ∷ [] → s ≡ record { low = None; high = None } → out ++ map (span_of []) (drop i vars) ≡ map (span_of []) vars
    → new ++ map (span_of []) (drop (i + 1) vars) ≡ map (span_of []) vars
push_span out new s vars i h e f k =
    ap (λ (ss : List Span). ss ++ map (span_of []) (drop (i + 1) vars)) (e ∙ ap (λ (t : Span). out ++ t ∷ []) f)
    ∙ append_assoc out (record { low = None; high = None } ∷ []) (map (span_of []) (drop (i + 1) vars))
    ∙ ap (λ (vs : List ℕ). out ++ map (span_of []) vs) (sym (drop-cons vars i 0 h ∙ ap (λ (n : ℕ). get_or vars i 0 ∷ drop n vars) next))
    ∙ k
  where
    next : suc i ≡ i + 1
    next = omega arith

-- ---- places

pub place_found : (vars : List ℕ) (v i : ℕ) → IsStrictlySortedBy nat_cmp vars → i < length vars → get_or vars i 0 ≡ v → i ≡ place_of vars v
unfolding IsStrictlySortedBy
place_found [] v i s h e = absurd (omega arith)
place_found (w ∷ ws) v zero s h e = ap (λ b. cond (not b) (1 + place_of ws w) 0) (sym (number_itself w)) ∙ ap (λ k. place_of (w ∷ ws) k) e
place_found (w ∷ ws) v (suc i) s h e =
    let below : w < v = place_above w v ws i s.0 (omega arith) e in
    let r : i ≡ place_of ws v = place_found ws v i s.1 (omega arith) e in
    let n : suc i ≡ 1 + place_of ws v = omega arith in
    n ∙ ap (λ b. cond (not b) (1 + place_of ws v) 0) (sym (number_not w v (λ q. absurd (omega arith))))

missing : (v : ℕ) (vars : List ℕ) → AllByRecursion (λ w. v ≡ w → ⊥) vars → length vars ≡ place_of vars v
missing v [] a = refl
missing v (w ∷ ws) a =
    let r : length ws ≡ place_of ws v = missing v ws a.1 in
    let n : length (w ∷ ws) ≡ 1 + place_of ws v = omega arith in
    n ∙ ap (λ b. cond (not b) (1 + place_of ws v) 0) (sym (number_not w v a.0))

pub place_missing : (vars : List ℕ) (v i : ℕ) → ((k : ℕ) → k < i → get_or vars k 0 < v) → ((k : ℕ) → i ≤ k → k < length vars → v < get_or vars k 0) → length vars ≡ place_of vars v
place_missing vars v i below above = missing v vars (not_in v vars (λ k l e. elim (by_lt k i (nat_lt k i) refl) [ inl a ↦ absurd (omega (arith, below k a)) | inr b ↦ absurd (omega (arith, above k b l)) ]))
