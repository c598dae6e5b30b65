-- Values that are given one after another.
use Rattle.std.specs.Prelude.{◌≡◌, ℕ, ◌^◌, zero, suc, ◌+◌, ◌*◌, ◌≤◌, ◌<◌, max, ℤ, ◌+ℤ◌, ◌*ℤ◌, unsigned_abs, List, [], ◌∷◌, ◌++◌, length, take, drop, nat_lt, Bool, true, false, cond, refl}
use Rattle.std.proofs.Common.{ap, sym, ◌∙◌, subst, get_or, arith}
use Rattle.std.proofs.lemmas.Int.{ints, unsigned_abs-mul}
use Rattle.std.proofs.lemmas.List.{take_more}
use Rattle.std.specs.Ordering.{is_eq}
use Rattle.mm_poly.specs.Mono.{mono_cmp}
use Rattle.mm_poly.specs.Poly.{with_weight}
use Rattle.mm_poly.proofs.OrderLaws.{mono_same, mono_exact}
use Rattle.mm_poly.proofs.CaseLaws.{by_same, by_cases}
use Rattle.fm_elim.specs.declared.value.Value.{Value}
use Rattle.fm_elim.specs.declared.value.Given.{Given}
use Rattle.fm_elim.specs.declared.removal.Removal.{Removal}
use Rattle.fm_elim.specs.Points.{Values, no_values, value_after, unknown_of, values_of, greatest_value}
use Rattle.fm_elim.specs.machine.Giving.{given_after, given, AreWithin, IsGiven}

given_more : (xs : List Value) (x : Value) (v : Values) → given_after (xs ++ x ∷ []) v ≡ with_weight (given_after xs v) x.unknown x.value
given_more [] x v = refl
given_more (y ∷ xs) x v = given_more xs x (with_weight v y.unknown y.value)

pub given_last : (xs : List Value) (x : Value) → given (xs ++ x ∷ []) ≡ with_weight (given xs) x.unknown x.value
given_last xs x = given_more xs x no_values

-- the value at one more, where it is the unknown's and where it isn't

pub given_here : (xs : List Value) (n : ℕ) (x : Value) (m : List (ℕ × ℕ)) → n < length xs → x ≡ get_or xs n x → x.unknown ≡ m → given (take (n + 1) xs) m ≡ x.value
given_here xs n x m h e s =
    ap (λ (q : List Value). given q m) (take_more xs n x h ∙ ap (λ (y : Value). take n xs ++ y ∷ []) (sym e)) ∙ ap (λ (v : Values). v m) (given_last (take n xs) x)
    ∙ ap (λ k. with_weight (given (take n xs)) x.unknown x.value k) (sym s) ∙ rw (mono_same x.unknown) refl

differs : (o : Bool) (a b : ℤ) → o ≡ false → cond o a b ≡ b
differs true a b e = absurd cc
differs false a b e = refl

not_equal : (m u : List (ℕ × ℕ)) → (u ≡ m → ⊥) → is_eq (mono_cmp m u) ≡ false
not_equal m u n = by_cases (mono_cmp m u) (λ h. rw h refl) (λ h. absurd (n (sym (mono_exact m u h)))) (λ h. rw h refl)

pub given_not_here : (xs : List Value) (n : ℕ) (x : Value) (m : List (ℕ × ℕ)) → n < length xs → x ≡ get_or xs n x → (x.unknown ≡ m → ⊥) → given (take (n + 1) xs) m ≡ given (take n xs) m
given_not_here xs n x m h e s =
    ap (λ (q : List Value). given q m) (take_more xs n x h ∙ ap (λ (y : Value). take n xs ++ y ∷ []) (sym e)) ∙ ap (λ (v : Values). v m) (given_last (take n xs) x)
    ∙ differs (is_eq (mono_cmp m x.unknown)) x.value (given (take n xs) m) (not_equal m x.unknown s)

-- each value is within the bound

within_after : (g : ℕ) (xs : List Value) (v : Values) → AreWithin g xs → ((m : List (ℕ × ℕ)) → unsigned_abs (v m) ≤ 1 + g) → (m : List (ℕ × ℕ)) → unsigned_abs (given_after xs v m) ≤ 1 + g
within_after g [] v a h m = h m
within_after g (x ∷ xs) v a h m =
    within_after g xs (with_weight v x.unknown x.value) a.1
    (λ k. by_same k x.unknown x.value (v k) (λ z. unsigned_abs z ≤ 1 + g) (λ e. (let w = a.0 in omega arith)) (h k)) m

none_within : (g : ℕ) (m : List (ℕ × ℕ)) → unsigned_abs (no_values m) ≤ 1 + g
none_within g [] = omega (arith, ints)
none_within g (f ∷ fs) = omega (arith, ints)

pub given_within : (g : ℕ) (xs : List Value) (m : List (ℕ × ℕ)) → AreWithin g xs → unsigned_abs (given xs m) ≤ 1 + g
given_within g xs m a = within_after g xs no_values a (none_within g) m

pub product_within : (c v : ℤ) (b : ℕ) → unsigned_abs v ≤ b → unsigned_abs (c *ℤ v) ≤ unsigned_abs c * b
product_within c v b h = let m = unsigned_abs-mul c v in grind (arith, m)

-- a term's value with one weight 0

weight_of : (o : Bool) (z a : ℤ) → o ≡ true → cond o z a ≡ z
weight_of true z a e = refl
weight_of false z a e = absurd cc

pub weight_here : (v : Values) (u m : List (ℕ × ℕ)) (z : ℤ) → m ≡ u → with_weight v u z m ≡ z
weight_here v u m z e = ap (λ k. with_weight v u z k) e ∙ weight_of (is_eq (mono_cmp u u)) z (v u) (ap is_eq (mono_same u))

pub weight_other : (v : Values) (u m : List (ℕ × ℕ)) (z : ℤ) → (m ≡ u → ⊥) → with_weight v u z m ≡ v m
weight_other v u m z n = differs (is_eq (mono_cmp m u)) z (v m) (not_equal m u (λ e. n (sym e)))

pub no_more : (c g n : ℕ) → c * (1 + g) < n → c < n
no_more c g n h = grind arith

pub sum_small : (t w : ℤ) (c n g top : ℕ) → unsigned_abs t + (c + n) * (1 + g) ≤ top → unsigned_abs w ≤ c * (1 + g) → unsigned_abs (t +ℤ w) + n * (1 + g) ≤ top
sum_small t w c n g top h k = omega (arith, ints)

pub sum_regroup : (t w r s : ℤ) → t +ℤ (w +ℤ r) ≡ s → (t +ℤ w) +ℤ r ≡ s
sum_regroup t w r s e = omega (arith, ints)

pub below_top : (s n g top limit : ℕ) → s + n * (1 + g) ≤ top → top < limit → s < limit
below_top s n g top limit h k = omega arith

pub other_below : (w t c n g top limit : ℕ) → w ≤ c * (1 + g) → t + (c + n) * (1 + g) ≤ top → top < limit → w < limit
other_below w t c n g top limit h k l = omega arith

-- one more value

within_more : (g h : ℕ) (xs : List Value) → g ≤ h → AreWithin g xs → AreWithin h xs
within_more g h [] l a = tt
within_more g h (x ∷ xs) l a = ((let w = a.0 in omega arith), within_more g h xs l a.1)

within_push : (g : ℕ) (xs : List Value) (x : Value) → AreWithin g xs → unsigned_abs x.value ≤ g → AreWithin g (xs ++ x ∷ [])
within_push g [] x a h = (h, tt)
within_push g (y ∷ xs) x a h = (a.0, within_push g xs x a.1 h)

pub one_given : (later : List Removal) (r : Removal) (old new : Given) (x : Value) → IsGiven later old → x.unknown ≡ unknown_of r → x.value ≡ value_after (given old.values.items) r
    → unsigned_abs x.value < 2 ^ 126 → new.values.items ≡ old.values.items ++ x ∷ [] → new.greatest ≡ max old.greatest (unsigned_abs x.value) → IsGiven (r ∷ later) new
one_given later r old new x i u z s e m =
    let v = values_of later in
    let own : x.value ≡ value_after (values_of later) r = z ∙ ap (λ (w : Values). value_after w r) i.same in
    let size : unsigned_abs x.value ≡ unsigned_abs (value_after (values_of later) r) = ap unsigned_abs own in
    let most = i.most in
    let small = i.small in
    record {
      same = ap given e ∙ given_last old.values.items x ∙ ap (λ (w : Values). with_weight w x.unknown x.value) i.same ∙ ap (λ k. with_weight v k x.value) u ∙ ap (λ k. with_weight v (unknown_of r) k) own;
      most = (omega arith);
      within = subst (AreWithin new.greatest) (sym e)
          (within_push new.greatest old.values.items x (within_more old.greatest new.greatest old.values.items (omega arith) i.within) (omega arith));
      small = (omega arith);
    }

-- where fewer values are too great already, all are

more_given : (k : ℕ) (removed : List Removal) → greatest_value (drop k removed) ≤ greatest_value removed
more_given zero removed = omega arith
more_given (suc k) [] = omega arith
more_given (suc k) (r ∷ removed) = let h = more_given k removed in omega arith

times_more : (top g h limit : ℕ) → limit ≤ top * (1 + g) → g ≤ h → limit ≤ top * (1 + h)
times_more top g h limit l k = grind arith

pub wild_already : (k : ℕ) (removed : List Removal) (g : Given) (top limit : ℕ) → IsGiven (drop k removed) g → nat_lt (top * (1 + g.greatest)) limit ≡ false → limit ≤ top * (1 + greatest_value removed)
wild_already k removed g top limit i e =
    let m = i.most in
    let h = more_given k removed in
    times_more top g.greatest (greatest_value removed) limit (not_below (top * (1 + g.greatest)) limit e) (omega arith)
  where
    not_below : (a b : ℕ) → nat_lt a b ≡ false → b ≤ a
    not_below a b e = grind arith
