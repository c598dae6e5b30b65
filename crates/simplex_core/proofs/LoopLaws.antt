-- Loops that write each element of a list in turn.
use Rattle.std.specs.Prelude.{◌≡◌, ℕ, ◌+◌, ◌^◌, ◌<◌, ◌≤◌, List, [], ◌∷◌, ◌++◌, length, get_or, set, take, drop, map, ℤ, pos, ◌+ℤ◌, ◌*ℤ◌, unsigned_abs, refl}
use Rattle.std.proofs.Common.{ap, sym, ◌∙◌, arith}
use Rattle.std.proofs.lemmas.List.{append-nil, append_assoc, take_more_set, drop-set-lt, drop_more, take_all, drop_all, length-set}
use Rattle.std.proofs.lemmas.List.Elements.{All-nil, All-push, All-head, All-tail, All-same}
use Rattle.std.specs.List.{All}
use Rattle.mm_num.specs.Small.{IsSmall}
use Rattle.simplex_core.specs.Form.{at}
use Rattle.simplex_core.specs.Walk.{AreNarrow}
use Rattle.simplex_core.specs.machine.Tableau.{combined}

-- what is done, joined to the map of what is left, is the map of all
pub record Mapping {A : Type 0} (f : A → A) (P : A → Type 0) (now old : List A) (i : ℕ) : Type 0 where
  pub value : take i now ++ map f (drop i now) ≡ map f old
  pub rest : All P (drop i now)

pub mapping_start : {A : Type 0} (f : A → A) (P : A → Type 0) (old : List A) → All P old → Mapping f P old old 0
mapping_start f P old h = record { value = refl; rest = h }

pub mapping_item : {A : Type 0} (f : A → A) (P : A → Type 0) (now old : List A) (i : ℕ) (d : A) → Mapping f P now old i → i < length now → P (get_or now i d)
mapping_item f P now old i d m h = All-head P (get_or now i d) (drop (i + 1) now) (All-same P _ _ (sym (drop_more now i d h)) m.rest)

pub mapping_step : {A : Type 0} (f : A → A) (P : A → Type 0) (now old : List A) (i : ℕ) (d x : A) → Mapping f P now old i → i < length now → x ≡ f (get_or now i d)
    → Mapping f P (set now i x) old (i + 1)
mapping_step f P now old i d x m h e =
    let later : drop (i + 1) (set now i x) ≡ drop (i + 1) now = drop-set-lt (i + 1) now i x (omega arith) in
    record {
      value = ap (λ t. t ++ map f (drop (i + 1) (set now i x))) (take_more_set now i x h)
          ∙ ap (λ t. (take i now ++ x ∷ []) ++ map f t) later
          ∙ append_assoc (take i now) (x ∷ []) (map f (drop (i + 1) now))
          ∙ ap (λ t. take i now ++ (t ∷ map f (drop (i + 1) now))) e
          ∙ ap (λ t. take i now ++ map f t) (sym (drop_more now i d h))
          ∙ m.value;
      rest = All-same P _ _ later (All-tail P (get_or now i d) (drop (i + 1) now) (All-same P _ _ (sym (drop_more now i d h)) m.rest));
    }

pub mapping_end : {A : Type 0} (f : A → A) (P : A → Type 0) (now old : List A) (i : ℕ) → Mapping f P now old i → length now ≤ i → now ≡ map f old
mapping_end f P now old i m h =
    sym (append-nil now) ∙ ap (λ t. t ++ []) (sym (take_all i now h)) ∙ ap (λ t. take i now ++ map f t) (sym (drop_all i now h)) ∙ m.value

-- the same for the combination with a second list
pub record Combining (a b : ℤ) (now old second : List ℤ) (i : ℕ) : Type 0 where
  pub value : take i now ++ combined a b (drop i now) (drop i second) ≡ combined a b old second
  pub done : All IsSmall (take i now)
  pub rest : AreNarrow (drop i now)
  pub same : length now ≡ length second

pub combining_start : (a b : ℤ) (old second : List ℤ) → AreNarrow old → length old ≡ length second → Combining a b old old second 0
combining_start a b old second h l = record { value = refl; done = All-nil IsSmall; rest = h; same = l }

pub combining_item : (a b : ℤ) (now old second : List ℤ) (i : ℕ) → Combining a b now old second i → i < length now → unsigned_abs (at now i) < 2 ^ 30
combining_item a b now old second i m h =
    All-head (λ c. unsigned_abs c < 2 ^ 30) (at now i) (drop (i + 1) now)
    (All-same (λ c. unsigned_abs c < 2 ^ 30) _ _ (sym (drop_more now i (pos 0) h)) m.rest)

pub combining_step : (a b : ℤ) (now old second : List ℤ) (i : ℕ) (x : ℤ) → Combining a b now old second i → i < length now → x ≡ a *ℤ at now i +ℤ b *ℤ at second i
    → unsigned_abs x < 2 ^ 61 → Combining a b (set now i x) old second (i + 1)
combining_step a b now old second i x m h e bound =
    let later : drop (i + 1) (set now i x) ≡ drop (i + 1) now = drop-set-lt (i + 1) now i x (omega arith) in
    let inside : i < length second = (let q = m.same in omega (arith, h, q)) in
    record {
      value = ap (λ t. t ++ combined a b (drop (i + 1) (set now i x)) (drop (i + 1) second)) (take_more_set now i x h)
          ∙ ap (λ t. (take i now ++ x ∷ []) ++ combined a b t (drop (i + 1) second)) later
          ∙ append_assoc (take i now) (x ∷ []) (combined a b (drop (i + 1) now) (drop (i + 1) second))
          ∙ ap (λ t. take i now ++ (t ∷ combined a b (drop (i + 1) now) (drop (i + 1) second))) e
          ∙ ap (λ t. take i now ++ combined a b t (at second i ∷ drop (i + 1) second)) (sym (drop_more now i (pos 0) h))
          ∙ ap (λ t. take i now ++ combined a b (drop i now) t) (sym (drop_more second i (pos 0) inside))
          ∙ m.value;
      done = All-same IsSmall _ _ (take_more_set now i x h) (All-push IsSmall (take i now) x m.done (omega (arith, bound)));
      rest = All-same (λ c. unsigned_abs c < 2 ^ 30) _ _ later
          (All-tail (λ c. unsigned_abs c < 2 ^ 30) (at now i) (drop (i + 1) now)
          (All-same (λ c. unsigned_abs c < 2 ^ 30) _ _ (sym (drop_more now i (pos 0) h)) m.rest));
      same = length-set now i x ∙ m.same;
    }

pub combining_end : (a b : ℤ) (now old second : List ℤ) (i : ℕ) → Combining a b now old second i → length now ≤ i → (now ≡ combined a b old second) × All IsSmall now
combining_end a b now old second i m h =
    let second_done : length second ≤ i = (let q = m.same in omega (arith, h, q)) in (
      sym (append-nil now) ∙ ap (λ t. t ++ []) (sym (take_all i now h))
          ∙ ap (λ t. take i now ++ combined a b t (drop i second)) (sym (drop_all i now h)) ∙ m.value,
      All-same IsSmall _ _ (sym (take_all i now h)) m.done,
    )
