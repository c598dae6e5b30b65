-- Clauses tried one after another.
use Rattle.std.specs.Prelude.{◌≡◌, ℕ, zero, suc, ◌+◌, ◌^◌, ◌<◌, List, [], ◌∷◌, ◌++◌, length, Some, slice_get, All, refl}
use Rattle.std.specs.List.{AllByRecursion}
use Rattle.std.proofs.Common.{ap, sym, ◌∙◌, subst, append_assoc, append-nil, arith}
use Rattle.std.proofs.lemmas.List.{length-append}
use Rattle.std.proofs.lemmas.List.Elements.{All-get_or}
use Rattle.std.proofs.lemmas.Option.{slice_get_within, get_or_from_slice_get}
use Rattle.mm_num.proofs.ListLaws.{all_join}
use Rattle.goal_ast.specs.declared.goal.Goal.{Goal}
use Rattle.goal_ast.specs.declared.goal.Assignment.{Assignment}
use Rattle.zify.specs.Translation.{translated}
use Rattle.clause_form.specs.Clauses.{clauses_of}
use Rattle.clause_form.specs.declared.named.Named.{Named}
use Rattle.box_enum.specs.Cube.{cube_of}
use Rattle.clause_engine.specs.declared.outcome.Why.{Why}
use Rattle.goal_serve.specs.declared.answers.Shown.{Shown}
use Rattle.goal_serve.specs.declared.answers.Answer.TheVariants as answers
use Rattle.goal_serve.specs.declared.trying.Reached.{Reached}
use Rattle.goal_serve.specs.declared.trying.Tried.{Tried}
use Rattle.goal_serve.specs.declared.trying.Next.TheVariants as next
use Rattle.goal_serve.specs.Answering.{IsShown, AreShown, IsWitnessed, MayStay, StaysAt, MeetsTests}
use Rattle.goal_serve.specs.machine.Trying.{IsClauseOf, IsReached, IsTried, GoesOn}

pub shown_with : (cs : List Named) (shown : List Shown) (n : Named) (s : Shown) → AreShown cs shown → IsShown n s → AreShown (cs ++ n ∷ []) (shown ++ s ∷ [])
shown_with [] [] n s a h = (h, tt)
shown_with [] (t ∷ shown) n s a h = absurd a
shown_with (c ∷ cs) [] n s a h = absurd a
shown_with (c ∷ cs) (t ∷ shown) n s a h = (a.0, shown_with cs shown n s a.1 h)

get_before : {A : Type 0} → (xs : List A) (y x : A) (k : ℕ) → slice_get xs k ≡ Some x → slice_get (xs ++ y ∷ []) k ≡ Some x
get_before [] y x k e = absurd cc
get_before (z ∷ xs) y x zero e = e
get_before (z ∷ xs) y x (suc k) e = get_before xs y x k e

pub get_last : {A : Type 0} → (xs : List A) (y : A) (ys : List A) → slice_get (xs ++ y ∷ ys) (length xs) ≡ Some y
get_last [] y ys = refl
get_last (x ∷ xs) y ys = get_last xs y ys

pub stays_with : (goal : Goal) (turns : ℕ) (cs : List Named) (k : ℕ) (why : Why) (n : Named) → StaysAt goal turns cs k why → StaysAt goal turns (cs ++ n ∷ []) k why
stays_with goal turns cs k why n s = (s.0, get_before cs n s.0 k s.1, s.2)

pub first_stays : (goal : Goal) (turns : ℕ) (cs : List Named) (k : ℕ) (why : Why) (n : Named) → k ≡ length cs → MayStay goal turns n why → StaysAt goal turns (cs ++ n ∷ []) k why
first_stays goal turns cs k why n e m = (n, subst (λ j. slice_get (cs ++ n ∷ []) j ≡ Some n) (sym e) (get_last cs n []), m)

-- ---- the clauses that are left

-- what is known of the clauses before the rest
pub record Trying (goal : Goal) (turns : ℕ) (cs rest : List Named) (number : ℕ) (t : Tried) : Type 0 where
  pub done : List Named
  pub whole : done ++ rest ≡ cs
  pub count : number ≡ length done
  pub tried : IsTried goal turns done t
  pub none : AllByRecursion (λ n. IsWitnessed goal turns n → ⊥) done

one_more : (done : List Named) (n : Named) (left rest cs : List Named) → done ++ left ≡ cs → left ≡ n ∷ rest → (done ++ n ∷ []) ++ rest ≡ cs
one_more done n left rest cs e l = append_assoc done (n ∷ []) rest ∙ ap (λ xs. done ++ xs) (sym l) ∙ e

longer : (done : List Named) (n : Named) → length (done ++ n ∷ []) ≡ length done + 1
longer done n = length-append done (n ∷ [])

-- one more clause, and the rest
pub next_on : (goal : Goal) (turns : ℕ) (cs left rest : List Named) (number m : ℕ) (n : Named) (t u : Tried) (r : Reached) → Trying goal turns cs left number t → left ≡ n ∷ rest → m ≡ number + 1
    → GoesOn goal t number r (next.Go u)
    → IsReached goal turns n r
    → Trying goal turns cs rest m u
next_on goal turns cs left rest number m n t u r y l e g h =
    let f = g turns y.done n y.tried y.count h in
    record {
      done = y.done ++ n ∷ [];
      whole = one_more y.done n left rest cs y.whole l;
      count = omega (arith, e, y.count, longer y.done n);
      tried = f.0;
      none = all_join (λ c. IsWitnessed goal turns c → ⊥) y.done (n ∷ []) y.none (f.1, tt);
    }

pub stopped_at : (goal : Goal) (turns : ℕ) (cs left : List Named) (number : ℕ) (n : Named) (t : Tried) (r : Reached) (a : Assignment) → Trying goal turns cs left number t → GoesOn goal t number r (next.Refuted a)
    → IsReached goal turns n r → MeetsTests (cube_of goal) goal turns (clauses_of (translated goal)) (answers.Refuted a)
stopped_at goal turns cs left number n t r a y g h = g turns y.done n y.tried y.count h

pub all_tried : (goal : Goal) (turns : ℕ) (cs left : List Named) (number : ℕ) (t : Tried) → Trying goal turns cs left number t → left ≡ [] → IsTried goal turns cs t × AllByRecursion (λ n. IsWitnessed goal turns n → ⊥) cs
all_tried goal turns cs left number t y e =
    let w : y.done ≡ cs = sym (append-nil y.done) ∙ ap (λ xs. y.done ++ xs) (sym e) ∙ y.whole in
    (subst (λ xs. IsTried goal turns xs t) w y.tried, subst (λ xs. AllByRecursion (λ n. IsWitnessed goal turns n → ⊥) xs) w y.none)

-- ---- one more clause

pub one_shown : (goal : Goal) (turns : ℕ) (cs : List Named) (n : Named) (shown after : List Shown) (s : Shown) → after ≡ shown ++ s ∷ [] → AreShown cs shown → IsShown n s → AreShown (cs ++ n ∷ []) after
one_shown goal turns cs n shown after s e a h = subst (λ (xs : List Shown). AreShown (cs ++ n ∷ []) xs) (sym e) (shown_with cs shown n s a h)

-- the next one is one of the goal's clauses
pub next_is : (goal : Goal) (turns : ℕ) (cs left rest : List Named) (number : ℕ) (n : Named) (t : Tried) → Trying goal turns cs left number t → left ≡ n ∷ rest → cs ≡ clauses_of (translated goal)
    → All (λ (c : Named). length c.clause.rows < 2 ^ 32) cs
    → IsClauseOf goal n
next_is goal turns cs left rest number n t y l e a =
    let there : slice_get cs (length y.done) ≡ Some n = subst (λ xs. slice_get xs (length y.done) ≡ Some n) (ap (λ xs. y.done ++ xs) (sym l) ∙ y.whole) (get_last y.done n rest) in
    record {
      place = length y.done;
      there = subst (λ xs. slice_get xs (length y.done) ≡ Some n) e there;
      short = subst (λ (c : Named). length c.clause.rows < 2 ^ 32) (get_or_from_slice_get cs (length y.done) n n there)
          (All-get_or (λ (c : Named). length c.clause.rows < 2 ^ 32) cs (length y.done) n (slice_get_within cs (length y.done) n there) a);
    }
