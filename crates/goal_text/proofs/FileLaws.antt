-- The tokens of a file are read as its sessions.
use Rattle.std.proofs.Common.{◌≡◌, ◌≢◌, ℕ, ◌+◌, Bool, true, false, List, [], ◌∷◌, ◌++◌, length, map, Option, Some, None, refl, sym, ap, subst, ◌∙◌, append_assoc, arith}
use Rattle.std.proofs.lemmas.List.{append-nil}
use Rattle.std.proofs.lemmas.Option.{same_Some}
use Rattle.mm_num.specs.Option.{◌>>=◌}
use Rattle.mm_num.proofs.OptionLaws.{bind_some}
use Rattle.goal_ast.specs.declared.goal.Mode.{Mode}
use Rattle.goal_ast.specs.declared.goal.Mode.TheVariants.{Lia, Nia}
use Rattle.goal_ast.specs.declared.goal.Name.{Name}
use Rattle.goal_ast.specs.declared.term.Sort.{Sort}
use Rattle.goal_token.specs.declared.token.Keyword.TheVariants as keywords
use Rattle.goal_token.specs.declared.token.Sign.{Sign}
use Rattle.goal_token.specs.declared.token.Sign.TheVariants as signs
use Rattle.goal_token.specs.declared.token.Token.{Token}
use Rattle.goal_token.specs.declared.token.Token.TheVariants as tokens
use Rattle.goal_token.specs.declared.token.Placed.{Placed}
use Rattle.goal_sort.specs.declared.raw.RawBound.{RawBound}
use Rattle.goal_sort.specs.declared.raw.RawExpr.{RawExpr}
use Rattle.goal_sort.specs.declared.raw.RawGoal.{RawGoal}
use Rattle.goal_sort.specs.declared.raw.RawSession.{RawSession}
use Rattle.goal_text.specs.declared.frame.Frame.{Frame}
use Rattle.goal_text.specs.declared.frame.Frame.TheVariants.{Open, Prefix, Infix, Chain, First, Last}
use Rattle.goal_text.specs.declared.state.Named.{Named}
use Rattle.goal_text.specs.declared.state.State.TheVariants as states
use Rattle.goal_text.specs.declared.state.Between.{Between}
use Rattle.goal_text.specs.declared.state.Between.TheVariants as betweens
use Rattle.goal_text.specs.declared.state.Part.{Part}
use Rattle.goal_text.specs.declared.state.Part.TheVariants as parts
use Rattle.goal_text.specs.Grammar.{sign, Expr}
use Rattle.goal_text.specs.Operands.{Reading, follows, with_token, with_tokens, read_of}
use Rattle.goal_text.specs.Files.{word, sort, name, group, bounds, Groups, first_group, next_group, Prefixes, no_prefix, bare_prefix, grouped_prefix, mode_word, MayProve, at_once, proof, MayEnd, no_end, qed, Goals, no_goal, next_goal, Sessions, no_session, next_session}
use Rattle.goal_text.specs.Steps.{kind_of, is_dot, is_forall, FileRead, file_with, file_with_all, nothing_read, file_of}
use Rattle.goal_text.proofs.LandingLaws.{lands, has_token, finished_over}

-- ---- one after the other

pub all_append : (f : FileRead) (ts us : List Placed) → file_with_all f (ts ++ us) ≡ (file_with_all f ts >>= λ g. file_with_all g us)
all_append f [] us = refl
all_append f (t ∷ ts) us = step (file_with f t) (λ g. all_append g ts us)
  where
    step : (o : Option FileRead) → ((g : FileRead) → file_with_all g (ts ++ us) ≡ (file_with_all g ts >>= λ h. file_with_all h us)) → (o >>= λ g. file_with_all g (ts ++ us)) ≡ ((o >>= λ g. file_with_all g ts) >>= λ h. file_with_all h us)
    step (Some g) h = h g
    step None h = refl

-- what was read goes on
pub after_all : (f g : FileRead) (ts us : List Placed) → file_with_all f ts ≡ Some g → file_with_all f (ts ++ us) ≡ file_with_all g us
after_all f g ts us e = all_append f ts us ∙ ap (λ (o : Option FileRead). o >>= λ g. file_with_all g us) e

-- reading in a goal
abbrev pub in_the_goal : List RawSession → RawSession → ℕ → List RawBound → Part → FileRead
in_the_goal done w p bs part = (done, states.Within w (betweens.Goal p bs part))

-- ---- prefixes

bare_names : (done : List RawSession) (w : RawSession) (p : ℕ) (bs : List RawBound) (before names : List Named) → file_with_all (in_the_goal done w p bs (parts.Bare before)) (map name names) ≡ Some (in_the_goal done w p bs (parts.Bare (before ++ names)))
bare_names done w p bs before [] = ap (λ names. Some (in_the_goal done w p bs (parts.Bare names))) (sym (append-nil before))
bare_names done w p bs before (n ∷ names) = bare_names done w p bs (before ++ n ∷ []) names ∙ ap (λ names. Some (in_the_goal done w p bs (parts.Bare names))) (append_assoc before (n ∷ []) names)

group_names : (done : List RawSession) (w : RawSession) (p : ℕ) (bs : List RawBound) (before names : List Named) → file_with_all (in_the_goal done w p bs (parts.Grouped before)) (map name names) ≡ Some (in_the_goal done w p bs (parts.Grouped (before ++ names)))
group_names done w p bs before [] = ap (λ names. Some (in_the_goal done w p bs (parts.Grouped names))) (sym (append-nil before))
group_names done w p bs before (n ∷ names) = group_names done w p bs (before ++ n ∷ []) names ∙ ap (λ names. Some (in_the_goal done w p bs (parts.Grouped names))) (append_assoc before (n ∷ []) names)

-- a group, and the sign after it
bare_group : (done : List RawSession) (w : RawSession) (p q r : ℕ) (bs : List RawBound) (names : List Named) (s : Sort) (more : List Placed) → names ≢ []
    → file_with_all (in_the_goal done w p bs parts.Binders) (group names q s r ++ more) ≡ file_with_all (in_the_goal done w p (bs ++ bounds s names) parts.BareEnd) more
bare_group done w p q r bs [] s more some = absurd (some refl)
bare_group done w p q r bs (n ∷ names) s more some =
    ap (file_with_all (in_the_goal done w p bs (parts.Bare (n ∷ [])))) (append_assoc (map name names) (sign signs.Colon q ∷ sort s r ∷ []) more)
    ∙ after_all (in_the_goal done w p bs (parts.Bare (n ∷ []))) (in_the_goal done w p bs (parts.Bare (n ∷ names))) (map name names) (sign signs.Colon q ∷ sort s r ∷ more) (bare_names done w p bs (n ∷ []) names)

open_group : (done : List RawSession) (w : RawSession) (p q r t : ℕ) (bs : List RawBound) (names : List Named) (s : Sort) → names ≢ []
    → file_with_all (in_the_goal done w p bs (parts.Grouped [])) (group names q s r ++ sign signs.Close t ∷ []) ≡ Some (in_the_goal done w p (bs ++ bounds s names) parts.NextGroup)
open_group done w p q r t bs [] s some = absurd (some refl)
open_group done w p q r t bs (n ∷ names) s some =
    ap (file_with_all (in_the_goal done w p bs (parts.Grouped (n ∷ [])))) (append_assoc (map name names) (sign signs.Colon q ∷ sort s r ∷ []) (sign signs.Close t ∷ []))
    ∙ after_all (in_the_goal done w p bs (parts.Grouped (n ∷ []))) (in_the_goal done w p bs (parts.Grouped (n ∷ names))) (map name names) (sign signs.Colon q ∷ sort s r ∷ sign signs.Close t ∷ []) (group_names done w p bs (n ∷ []) names)

groups_read : {cs : List RawBound} {ts : List Placed} (done : List RawSession) (w : RawSession) (p : ℕ) (bs : List RawBound) → Groups cs ts
    → file_with_all (in_the_goal done w p bs parts.Binders) ts ≡ Some (in_the_goal done w p (bs ++ cs) parts.NextGroup)
groups_read done w p bs (first_group o q r t names s some) = open_group done w p q r t bs names s some
groups_read done w p bs (next_group {bs = cs} {ts = ts} o q r t names s before some) =
    after_all (in_the_goal done w p bs parts.Binders) (in_the_goal done w p (bs ++ cs) parts.NextGroup) ts (sign signs.Open o ∷ (group names q s r ++ sign signs.Close t ∷ [])) (groups_read done w p bs before)
    ∙ open_group done w p q r t (bs ++ cs) names s some
    ∙ ap (λ bs. Some (in_the_goal done w p bs parts.NextGroup)) (append_assoc bs cs (bounds s names))

pub prefixes_read : {bs : List RawBound} {ts : List Placed} (done : List RawSession) (w : RawSession) (p : ℕ) → Prefixes bs ts → file_with_all (in_the_goal done w p [] parts.Head) ts ≡ Some (in_the_goal done w p bs parts.Head)
prefixes_read done w p no_prefix = refl
prefixes_read done w p (bare_prefix {bs = bs} {ts = ts} o q r t names s before some) =
    after_all (in_the_goal done w p [] parts.Head) (in_the_goal done w p bs parts.Head) ts (word keywords.Forall o ∷ (group names q s r ++ sign signs.Comma t ∷ [])) (prefixes_read done w p before)
    ∙ bare_group done w p q r bs names s (sign signs.Comma t ∷ []) some
prefixes_read done w p (grouped_prefix {bs = bs} {cs = cs} {ts = ts} {us = us} o t before groups) =
    after_all (in_the_goal done w p [] parts.Head) (in_the_goal done w p bs parts.Head) ts (word keywords.Forall o ∷ (us ++ sign signs.Comma t ∷ [])) (prefixes_read done w p before)
    ∙ after_all (in_the_goal done w p bs parts.Binders) (in_the_goal done w p (bs ++ cs) parts.NextGroup) us (sign signs.Comma t ∷ []) (groups_read done w p bs groups)

-- ---- the body

-- no dot and no keyword stands in an expression
pub no_dot : (r s : Reading) (t : Placed) → with_token r t ≡ Some s → is_dot (kind_of t.token) ≡ false
no_dot (fs, None) s t is = by_token t.token refl is
  where
    by_sign : (k : Sign) → t.token ≡ tokens.Sign k → with_token (fs, None) t ≡ Some s → is_dot (kind_of (tokens.Sign k)) ≡ false
    by_sign signs.Dot e is = absurd (let k : with_token (fs, None) (sign signs.Dot t.at) ≡ Some s = subst (λ k. with_token (fs, None) (record { token = k; at = t.at }) ≡ Some s) e is in cc)
    by_sign k e is = refl

    by_token : (k : Token) → t.token ≡ k → with_token (fs, None) t ≡ Some s → is_dot (kind_of t.token) ≡ false
    by_token (tokens.Sign k) e is = ap (λ k. is_dot (kind_of k)) e ∙ by_sign k e is
    by_token (tokens.Keyword k) e is = ap (λ k. is_dot (kind_of k)) e
    by_token (tokens.Sort k) e is = ap (λ k. is_dot (kind_of k)) e
    by_token (tokens.Name k) e is = ap (λ k. is_dot (kind_of k)) e
    by_token (tokens.Constant k) e is = ap (λ k. is_dot (kind_of k)) e
    by_token (tokens.Function k) e is = ap (λ k. is_dot (kind_of k)) e
    by_token (tokens.Literal k) e is = ap (λ k. is_dot (kind_of k)) e
    by_token tokens.Wrong e is = ap (λ k. is_dot (kind_of k)) e
no_dot (fs, Some w) s t is = by_token t.token refl is
  where
    dotless : (fs : List Frame) (p : ℕ) → follows (tokens.Sign signs.Dot) p fs w ≡ None
    dotless [] p = refl
    dotless (First f q ∷ fs) p = refl
    dotless (Open ∷ fs) p = refl
    dotless (Prefix k q ∷ fs) p = refl
    dotless (Infix k q a ∷ fs) p = refl
    dotless (Chain k q u a b ∷ fs) p = refl
    dotless (Last f q before ∷ fs) p = refl

    by_sign : (k : Sign) → t.token ≡ tokens.Sign k → with_token (fs, Some w) t ≡ Some s → is_dot (kind_of (tokens.Sign k)) ≡ false
    by_sign signs.Dot e is = absurd (let k : with_token (fs, Some w) (sign signs.Dot t.at) ≡ Some s = subst (λ k. with_token (fs, Some w) (record { token = k; at = t.at }) ≡ Some s) e is in let j = sym (dotless fs t.at) ∙ k in cc)
    by_sign k e is = refl

    by_token : (k : Token) → t.token ≡ k → with_token (fs, Some w) t ≡ Some s → is_dot (kind_of t.token) ≡ false
    by_token (tokens.Sign k) e is = ap (λ k. is_dot (kind_of k)) e ∙ by_sign k e is
    by_token (tokens.Keyword k) e is = ap (λ k. is_dot (kind_of k)) e
    by_token (tokens.Sort k) e is = ap (λ k. is_dot (kind_of k)) e
    by_token (tokens.Name k) e is = ap (λ k. is_dot (kind_of k)) e
    by_token (tokens.Constant k) e is = ap (λ k. is_dot (kind_of k)) e
    by_token (tokens.Function k) e is = ap (λ k. is_dot (kind_of k)) e
    by_token (tokens.Literal k) e is = ap (λ k. is_dot (kind_of k)) e
    by_token tokens.Wrong e is = ap (λ k. is_dot (kind_of k)) e

-- no keyword begins one
pub no_forall : (s : Reading) (t : Placed) → with_token ([], None) t ≡ Some s → is_forall (kind_of t.token) ≡ false
no_forall s t is = by_token t.token refl
  where
    sign_free : (k : Sign) → is_forall (kind_of (tokens.Sign k)) ≡ false
    sign_free signs.Dot = refl
    sign_free signs.Comma = refl
    sign_free signs.Colon = refl
    sign_free signs.Open = refl
    sign_free signs.Close = refl
    sign_free k = refl

    by_token : (k : Token) → t.token ≡ k → is_forall (kind_of t.token) ≡ false
    by_token (tokens.Sign k) e = ap (λ k. is_forall (kind_of k)) e ∙ sign_free k
    by_token (tokens.Keyword k) e = absurd (let j : with_token ([], None) (record { token = tokens.Keyword k; at = t.at }) ≡ Some s = subst (λ k. with_token ([], None) (record { token = k; at = t.at }) ≡ Some s) e is in cc)
    by_token (tokens.Sort k) e = ap (λ k. is_forall (kind_of k)) e
    by_token (tokens.Name k) e = ap (λ k. is_forall (kind_of k)) e
    by_token (tokens.Constant k) e = ap (λ k. is_forall (kind_of k)) e
    by_token (tokens.Function k) e = ap (λ k. is_forall (kind_of k)) e
    by_token (tokens.Literal k) e = ap (λ k. is_forall (kind_of k)) e
    by_token tokens.Wrong e = ap (λ k. is_forall (kind_of k)) e

-- an expression's tokens stay in the body
pub body_reads : (done : List RawSession) (w : RawSession) (p : ℕ) (bs : List RawBound) (r s : Reading) (n : ℕ) (ts : List Placed) → with_tokens r ts ≡ Some s
    → file_with_all (in_the_goal done w p bs (parts.Body r n)) ts ≡ Some (in_the_goal done w p bs (parts.Body s (n + length ts)))
body_reads done w p bs r s n [] is =
    let same : n ≡ n + 0 = omega arith in
    ap (λ r. Some (in_the_goal done w p bs (parts.Body r n))) (same_Some r s is) ∙ ap (λ k. Some (in_the_goal done w p bs (parts.Body s k))) same
body_reads done w p bs r s n (t ∷ ts) is =
    let k = bind_some (with_token r t) (λ q. with_tokens q ts) s is in
    let same : (n + 1) + length ts ≡ n + length (t ∷ ts) = omega arith in
    let first : file_with_all (in_the_goal done w p bs (parts.Body r n)) (t ∷ ts) ≡ Some (in_the_goal done w p bs (parts.Body s ((n + 1) + length ts))) =
    rw (no_dot r k.0 t k.1) (rw k.1 (body_reads done w p bs k.0 s (n + 1) ts k.2)) in
    first ∙ ap (λ k. Some (in_the_goal done w p bs (parts.Body s k))) same

pub head_reads : (done : List RawSession) (w : RawSession) (p : ℕ) (bs : List RawBound) (s : Reading) (t : Placed) (ts : List Placed) → with_tokens ([], None) (t ∷ ts) ≡ Some s
    → file_with_all (in_the_goal done w p bs parts.Head) (t ∷ ts) ≡ Some (in_the_goal done w p bs (parts.Body s (1 + length ts)))
head_reads done w p bs s t ts is =
    let k = bind_some (with_token ([], None) t) (λ q. with_tokens q ts) s is in
    rw (no_forall k.0 t k.1) (rw k.1 (body_reads done w p bs k.0 s 1 ts k.2))

-- the body and its dot
expression_reads : {e : RawExpr} {vs : List Placed} (done : List RawSession) (w : RawSession) (p q : ℕ) (bs : List RawBound) (more : List Placed) → Expr 100 e vs
    → file_with_all (in_the_goal done w p bs parts.Head) (vs ++ sign signs.Dot q ∷ more) ≡ file_with_all (in_the_goal done w p bs (parts.Command e)) more
expression_reads {e} {vs} done w p q bs more d =
    let k = lands d [] (omega arith) in
    let has = has_token d in
    let s : Reading = (k.over ++ [], Some k.last) in
    let read : with_tokens ([], None) (has.0 ∷ has.1) ≡ Some s = subst (λ ts. with_tokens ([], None) ts ≡ Some s) has.2 k.read in
    let whole : read_of s ≡ Some e = ap (λ over. read_of (over, Some k.last)) (append-nil k.over) ∙ finished_over k.over k.last (e, k.level) k.whole in
    ap (λ ts. file_with_all (in_the_goal done w p bs parts.Head) (ts ++ sign signs.Dot q ∷ more)) has.2
    ∙ after_all (in_the_goal done w p bs parts.Head) (in_the_goal done w p bs (parts.Body s (1 + length has.1))) (has.0 ∷ has.1) (sign signs.Dot q ∷ more) (head_reads done w p bs s has.0 has.1 read)
    ∙ rw whole refl

-- ---- commands

mode_reads : (done : List RawSession) (w : RawSession) (p r t : ℕ) (bs : List RawBound) (e : RawExpr) (m : Mode) (more : List Placed)
    → file_with_all (in_the_goal done w p bs (parts.Command e)) (word (mode_word m) r ∷ sign signs.Dot t ∷ more)
    ≡ file_with_all (done, states.Within (record { name = w.name; goals = w.goals ++ record { mode = m; bound = bs; body = e; at = p } ∷ [] }) betweens.Ended) more
mode_reads done w p r t bs e Lia more = refl
mode_reads done w p r t bs e Nia more = refl

mode_after : (done : List RawSession) (w : RawSession) (p r t : ℕ) (bs : List RawBound) (e : RawExpr) (m : Mode) (more : List Placed)
    → file_with_all (in_the_goal done w p bs (parts.ModeAfterProof e)) (word (mode_word m) r ∷ sign signs.Dot t ∷ more)
    ≡ file_with_all (done, states.Within (record { name = w.name; goals = w.goals ++ record { mode = m; bound = bs; body = e; at = p } ∷ [] }) betweens.Ended) more
mode_after done w p r t bs e Lia more = refl
mode_after done w p r t bs e Nia more = refl

command_reads : {ws : List Placed} (done : List RawSession) (w : RawSession) (p r t : ℕ) (bs : List RawBound) (e : RawExpr) (m : Mode) (more : List Placed) → MayProve ws
    → file_with_all (in_the_goal done w p bs (parts.Command e)) (ws ++ word (mode_word m) r ∷ sign signs.Dot t ∷ more)
    ≡ file_with_all (done, states.Within (record { name = w.name; goals = w.goals ++ record { mode = m; bound = bs; body = e; at = p } ∷ [] }) betweens.Ended) more
command_reads done w p r t bs e m more at_once = mode_reads done w p r t bs e m more
command_reads done w p r t bs e m more (proof o q) = mode_after done w p r t bs e m more

-- ---- goals and sessions

-- between goals
abbrev pub idle : Bool → Between
idle true = betweens.Ended
idle false = betweens.Open

end_reads : {xs : List Placed} (done : List RawSession) (w : RawSession) → MayEnd xs → (b : Bool) × (file_with_all (done, states.Within w betweens.Ended) xs ≡ Some (done, states.Within w (idle b)))
end_reads done w no_end = (true, refl)
end_reads done w (qed p q) = (false, refl)

goal_opens : (done : List RawSession) (w : RawSession) (b : Bool) (p : ℕ) (more : List Placed) → file_with_all (done, states.Within w (idle b)) (word keywords.Goal p ∷ more) ≡ file_with_all (in_the_goal done w p [] parts.Head) more
goal_opens done w true p more = refl
goal_opens done w false p more = refl

-- reading has come to the end of these goals of a session
abbrev pub GoalsRead : List RawSession → Name → FileRead → List Placed → List RawGoal → Type 0
GoalsRead done x f ts gs = (b : Bool) × (file_with_all f ts ≡ Some (done, states.Within (record { name = x; goals = gs }) (idle b)))

pub goals_read : {gs : List RawGoal} {ts : List Placed} (done : List RawSession) (x : Name) → Goals gs ts → GoalsRead done x (done, states.Within (record { name = x; goals = [] }) betweens.Open) ts gs
goals_read done x no_goal = (false, refl)
goals_read done x (next_goal {gs = gs} {bs = bs} {e = e} {ts = ts} {us = us} {vs = vs} {ws = ws} {xs = xs} m p q r t goals prefixes body may_prove may_end) =
    let first = goals_read done x goals in
    let w : RawSession = record { name = x; goals = gs } in
    let whole : RawSession = record { name = x; goals = gs ++ record { mode = m; bound = bs; body = e; at = p } ∷ [] } in
    let end = end_reads done whole may_end in
    let after : List Placed = ws ++ word (mode_word m) r ∷ sign signs.Dot t ∷ xs in (
      end.0,
      after_all (done, states.Within (record { name = x; goals = [] }) betweens.Open) (done, states.Within w (idle first.0)) ts (word keywords.Goal p ∷ (us ++ (vs ++ sign signs.Dot q ∷ after))) first.1
          ∙ goal_opens done w first.0 p (us ++ (vs ++ sign signs.Dot q ∷ after))
          ∙ after_all (in_the_goal done w p [] parts.Head) (in_the_goal done w p bs parts.Head) us (vs ++ sign signs.Dot q ∷ after) (prefixes_read done w p prefixes)
          ∙ expression_reads done w p q bs after body
          ∙ command_reads done w p r t bs e m xs may_prove
          ∙ end.1,
    )

-- reading has come to the end of a file of these sessions
pub record SessionsRead (ts : List Placed) (ss : List RawSession) : Type 0 where
  pub left : FileRead
  pub read : file_with_all nothing_read ts ≡ Some left
  pub whole : file_of left ≡ Some ss
  pub goes_on : (p : ℕ) → file_with left (word keywords.Session p) ≡ Some (ss, states.Name)

within_read : (ts : List Placed) (done : List RawSession) (w : RawSession) (b : Bool) → file_with_all nothing_read ts ≡ Some (done, states.Within w (idle b)) → SessionsRead ts (done ++ w ∷ [])
within_read ts done w true is = record { left = (done, states.Within w betweens.Ended); read = is; whole = refl; goes_on = λ p. refl }
within_read ts done w false is = record { left = (done, states.Within w betweens.Open); read = is; whole = refl; goes_on = λ p. refl }

pub sessions_read : {ss : List RawSession} {ts : List Placed} → Sessions ss ts → SessionsRead ts ss
sessions_read no_session = record { left = nothing_read; read = refl; whole = refl; goes_on = λ p. refl }
sessions_read (next_session {ss = ss} {gs = gs} {ts = ts} {us = us} n p q before goals) =
    let k = sessions_read before in
    let g = goals_read ss n.name goals in
    let start : file_with_all k.left (word keywords.Session p ∷ name n ∷ sign signs.Dot q ∷ us) ≡ file_with_all (ss, states.Within (record { name = n.name; goals = [] }) betweens.Open) us =
    ap (λ (o : Option FileRead). o >>= λ f. file_with_all f (name n ∷ sign signs.Dot q ∷ us)) (k.goes_on p) in
    within_read (ts ++ word keywords.Session p ∷ name n ∷ sign signs.Dot q ∷ us) ss (record { name = n.name; goals = gs }) g.0
    (after_all nothing_read k.left ts (word keywords.Session p ∷ name n ∷ sign signs.Dot q ∷ us) k.read ∙ start ∙ g.1)

-- tokens are those of at most one file
pub one_file : {ss others : List RawSession} {ts : List Placed} → Sessions ss ts → Sessions others ts → ss ≡ others
one_file {ss} {others} a b =
    let k = sessions_read a in
    let j = sessions_read b in
    let same : k.left ≡ j.left = same_Some k.left j.left (sym k.read ∙ j.read) in
    same_Some ss others (sym k.whole ∙ ap file_of same ∙ j.whole)
