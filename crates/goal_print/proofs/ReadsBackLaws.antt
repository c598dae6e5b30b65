-- The text of a goal is read again as that goal.
use Rattle.std.specs.Prelude.{◌≡◌, ℕ, ◌≤◌, List, [], ◌∷◌, ◌++◌, length, map, refl}
use Rattle.std.specs.List.{AllByRecursion}
use Rattle.std.proofs.Common.{sym, ◌∙◌, ap, subst, arith}
use Rattle.std.proofs.lemmas.List.{length-map}
use Rattle.goal_ast.specs.declared.goal.Bound.{Bound}
use Rattle.goal_ast.specs.declared.goal.Goal.{Goal}
use Rattle.goal_token.specs.declared.token.Token.{Token}
use Rattle.goal_token.specs.declared.token.Placed.{Placed}
use Rattle.goal_token.specs.Tokens.{tokens_of}
use Rattle.goal_token.specs.Spacing.{kinds_of, IsName, Spells}
use Rattle.goal_token.proofs.SpacingLaws.{all_cut}
use Rattle.goal_sort.specs.declared.raw.RawBound.{RawBound}
use Rattle.goal_sort.specs.declared.raw.RawExpr.{RawExpr}
use Rattle.goal_sort.specs.declared.raw.RawGoal.{RawGoal}
use Rattle.goal_sort.specs.Sorting.{variable_of}
use Rattle.goal_sort.specs.IsSorted.{IsStatement, IsSorted}
use Rattle.goal_text.specs.Grammar.{Expr}
use Rattle.goal_text.specs.GoalsRead.{IsGoalOfFile}
use Rattle.goal_text.proofs.WithinLaws.{one_goal_within}
use Rattle.goal_print.specs.Text.{formula_part, binders_text}
use Rattle.goal_print.specs.ReadsBack.{file_text, alone, ReadsBack}
use Rattle.goal_print.proofs.PieceLaws.{ReadBack}
use Rattle.goal_print.proofs.BodyLaws.{body_read_back}
use Rattle.goal_print.proofs.PrefixLaws.{NamesAre}
use Rattle.goal_print.proofs.FileReadingLaws.{PrefixBack, prefix_back, file_spells, file_kinds, IsFileRead, file_derives}

-- the names of variables are those of what was bound
names_stay : (bs : List RawBound) → AllByRecursion (λ (b : RawBound). IsName b.name.bytes) bs → NamesAre (map variable_of bs)
names_stay [] is = tt
names_stay (b ∷ bs) is = (is.0, names_stay bs is.1)

-- what a body is, over what was bound anywhere
abbrev Again : Goal → List RawBound → RawExpr → Type 0
Again goal cs d = IsStatement cs d goal.body

-- one text has the same kinds of tokens each time
same_kinds : (text : List ℕ) (k l : List Token) → Spells text k → Spells text l → k ≡ l
same_kinds text k l a b = sym (all_cut text k a) ∙ all_cut text l b

file_read : (raw : RawGoal) (goal : Goal) → IsGoalOfFile raw → (is : IsSorted raw goal) (prefix : PrefixBack goal.vars)
    → (k : List Token) × (length k ≤ 2048) × IsFileRead (tokens_of (file_text goal)) goal.mode goal.vars k (Again goal)
file_read raw goal of_file is prefix =
    let vars = map variable_of raw.bound in
    let text = (formula_part vars goal.body).text in
    let body : (cs : List RawBound) → map variable_of cs ≡ vars → ReadBack 100 text raw.body (Again goal cs) = λ cs same. body_read_back raw.bound cs same of_file.named raw.body goal.body is.body in
    let first = body raw.bound refl in
    let derives : (cs : List RawBound) → map variable_of cs ≡ goal.vars → (us : List Placed) → kinds_of us ≡ first.kinds → (d : RawExpr) × Expr 100 d us × Again goal cs d
    = λ cs same us e. let b = body cs (same ∙ is.vars) in b.derives us (e ∙ same_kinds text first.kinds b.kinds first.spells b.spells) in
    let here : Spells (formula_part goal.vars goal.body).text first.kinds = subst (λ (vars : List Bound). Spells (formula_part vars goal.body).text first.kinds) (sym is.vars) first.spells in
    let whole = file_spells (binders_text goal.vars ++ (formula_part goal.vars goal.body).text) (prefix.kinds ++ first.kinds) goal.mode (prefix.spells (formula_part goal.vars goal.body).text first.kinds here) in
    let short = first.short of_file.tokens of_file.spelled in
    let few = of_file.short in
    let small : length first.kinds ≤ 2048 = omega arith in
    (first.kinds, small, file_derives goal.mode goal.vars (Again goal) prefix first.kinds derives (tokens_of (file_text goal)) (all_cut (file_text goal) (file_kinds (prefix.kinds ++ first.kinds) goal.mode) whole))

-- as many names are bound
same_length : (bs cs : List RawBound) → map variable_of bs ≡ map variable_of cs → length bs ≡ length cs
same_length bs cs e = sym (length-map bs variable_of) ∙ ap length e ∙ length-map cs variable_of

pub reads_back : (raw : RawGoal) (goal : Goal) → IsGoalOfFile raw → IsSorted raw goal → ReadsBack goal
reads_back raw goal of_file is =
    let names = subst NamesAre (sym is.vars) (names_stay raw.bound of_file.named) in
    let r = file_read raw goal of_file is (prefix_back goal.vars names) in
    let f = r.2 in
    let bound = same_length f.raw.bound raw.bound (f.variables ∙ is.vars) in
    let few = of_file.readable.few in
    let few_names : length f.raw.bound ≤ 256 = omega arith in
    let size = f.size in
    let short = r.1 in
    let few_tokens : length f.one.body ≤ 2048 = omega arith in
    record {
      raw = f.raw;
      reads = f.reads;
      within = one_goal_within (tokens_of (file_text goal)) f.raw.bound f.raw.body f.one (alone f.raw) f.reads few_names few_tokens;
      sorted = record { mode = sym f.mode; vars = sym f.variables; names = is.names; body = f.body };
    }
