-- What a good answer says of the goal.
use Rattle.std.specs.Prelude.{◌≡◌, ◌≢◌, ℕ, List, [], ◌∷◌, Option, Some, None, Result, Ok, Err, IfOk, refl}
use Rattle.std.proofs.Common.{sym, subst}
use Rattle.cert_kit.proofs.SoundLaws.{accepted_sound}
use Rattle.goal_ast.specs.declared.goal.Goal.{Goal}
use Rattle.goal_ast.specs.declared.goal.Assignment.{Assignment}
use Rattle.goal_ast.specs.Range.{IsValid, point_of}
use Rattle.goal_ast.proofs.AnswerLaws.{eval_false}
use Rattle.goal_ast.specs.Sorted.{IsWellFormed}
use Rattle.zify.specs.Translation.{translated}
use Rattle.zify.proofs.TranslationLaws.{law}
use Rattle.clause_form.specs.declared.named.Named.{Named}
use Rattle.clause_form.specs.Clauses.{clauses_of, AllUnsolvable}
use Rattle.clause_form.proofs.ClauseLaws.{valid_law}
use Rattle.goal_serve.specs.declared.answers.Shown.{Shown}
use Rattle.goal_serve.specs.declared.answers.Answer.{Answer}
use Rattle.goal_serve.specs.declared.answers.Answer.TheVariants as answers
use Rattle.box_enum.specs.Cube.{cube_of}
use Rattle.box_enum.proofs.CubePointLaws.{cube_falsifies}
use Rattle.goal_serve.specs.Answering.{AreShown, Refutes, MeetsClauses, MeetsTests, MeetsGoal, IfProved, IfRefuted}

unsolvable : (cs : List Named) (shown : List Shown) → AreShown cs shown → AllUnsolvable cs
unsolvable [] shown a = tt
unsolvable (n ∷ cs) [] a = absurd a
unsolvable (n ∷ cs) (s ∷ shown) a = (accepted_sound s.cert n.clause.rows a.0.good.accepted, unsolvable cs shown a.1)

valid : (goal : Goal) (shown : List Shown) → IsWellFormed goal → AreShown (clauses_of (translated goal)) shown → IsValid goal
valid goal shown w a = (law goal w).1 ((valid_law (translated goal)).1 (unsolvable (clauses_of (translated goal)) shown a))

-- ---- the cube

pub cube_refutes : (goal : Goal) (a : Assignment) → cube_of goal ≡ Some a → Refutes goal a
cube_refutes goal a e =
    let f = cube_falsifies goal a e in
    let g = (eval_false (point_of a.values) goal.body).0 f.1 in
    record { in_range = f.0; small = g.0; fails = g.1 }

-- what suits a goal's tests suits its clauses
pub by_tests : (goal : Goal) (turns : ℕ) (cs : List Named) (a : Answer) → MeetsTests (cube_of goal) goal turns cs a → MeetsClauses goal turns cs a
by_tests goal turns cs a m = by_cube (cube_of goal) refl m
  where
    by_cube : (o : Option Assignment) → cube_of goal ≡ o → MeetsTests o goal turns cs a → MeetsClauses goal turns cs a
    by_cube (Some b) e f = subst (MeetsClauses goal turns cs) (sym f) (cube_refutes goal b e)
    by_cube None e f = f

not_both : (goal : Goal) (a : Assignment) → IsValid goal → Refutes goal a → ⊥
not_both goal a v r = r.fails (v (point_of a.values) r.in_range.suits)

pub all_shown : (goal : Goal) (turns : ℕ) (shown : List Shown) → IsWellFormed goal → AreShown (clauses_of (translated goal)) shown → MeetsTests (cube_of goal) goal turns (clauses_of (translated goal)) (answers.Proved shown)
all_shown goal turns shown w a = by_cube (cube_of goal) refl
  where
    by_cube : (o : Option Assignment) → cube_of goal ≡ o → MeetsTests o goal turns (clauses_of (translated goal)) (answers.Proved shown)
    by_cube (Some b) e = absurd (not_both goal b (valid goal shown w a) (cube_refutes goal b e))
    by_cube None e = a

pub without_cube : (goal : Goal) (turns : ℕ) (cs : List Named) (a : Answer) → cube_of goal ≡ None → MeetsClauses goal turns cs a → MeetsTests (cube_of goal) goal turns cs a
without_cube goal turns cs a e m = subst (λ o. MeetsTests o goal turns cs a) (sym e) m

pub with_cube : (goal : Goal) (turns : ℕ) (cs : List Named) (a : Assignment) → cube_of goal ≡ Some a → MeetsTests (cube_of goal) goal turns cs (answers.Refuted a)
with_cube goal turns cs a e = subst (λ o. MeetsTests o goal turns cs (answers.Refuted a)) (sym e) refl

-- ---- what an answer says

pub proved_valid : (goal : Goal) (turns : ℕ) (a : Answer) → IsWellFormed goal → MeetsGoal goal turns a → IfProved (IsValid goal) a
proved_valid goal turns (answers.Proved shown) w m = valid goal shown w (by_tests goal turns (clauses_of (translated goal)) (answers.Proved shown) m.1)
proved_valid goal turns (answers.Refuted a) w m = tt
proved_valid goal turns (answers.Unsettled k why) w m = tt
proved_valid goal turns (answers.Oversize kind) w m = tt
proved_valid goal turns (answers.IllSorted at) w m = tt

pub refuted_false : (goal : Goal) (turns : ℕ) (a : Assignment) → MeetsGoal goal turns (answers.Refuted a) → Refutes goal a
refuted_false goal turns a m = by_tests goal turns (clauses_of (translated goal)) (answers.Refuted a) m.1

pub refuted_invalid : (goal : Goal) (turns : ℕ) (a : Answer) → MeetsGoal goal turns a → IfRefuted (λ b. IsValid goal → ⊥) a
refuted_invalid goal turns (answers.Proved shown) m = tt
refuted_invalid goal turns (answers.Refuted a) m = λ v. not_both goal a v (refuted_false goal turns a m)
refuted_invalid goal turns (answers.Unsettled k why) m = tt
refuted_invalid goal turns (answers.Oversize kind) m = tt
refuted_invalid goal turns (answers.IllSorted at) m = tt

pub not_ill_sorted : (goal : Goal) (turns at : ℕ) → MeetsGoal goal turns (answers.IllSorted at) → ⊥
not_ill_sorted goal turns at m = by_tests goal turns (clauses_of (translated goal)) (answers.IllSorted at) m.1

pub never_ill_sorted : (goal : Goal) (turns : ℕ) (a : Answer) → MeetsGoal goal turns a → (at : ℕ) → a ≢ answers.IllSorted at
never_ill_sorted goal turns a m at e = not_ill_sorted goal turns at (subst (MeetsGoal goal turns) e m)

pub ok_on : {X E : Type 0} {P Q : X → Type 0} → (r : Result X E) → ((x : X) → P x → Q x) → IfOk r P → IfOk r Q
ok_on (Ok x) f h = f x h
ok_on (Err e) f h = tt
