-- Where reading stands after the tokens of a body or of a prefix.
use Rattle.std.proofs.Common.{◌≡◌, ◌≢◌, ℕ, ◌+◌, ◌≤◌, inl, inr, List, [], ◌∷◌, ◌++◌, length, Option, Some, None, refl, sym, ap, subst, ◌∙◌, length-append, arith}
use Rattle.std.proofs.lemmas.List.{length-map}
use Rattle.std.proofs.lemmas.Option.{same_Some}
use Rattle.mm_num.specs.Option.{◌>>=◌}
use Rattle.mm_num.proofs.OptionLaws.{bind_some, test_some}
use Rattle.goal_ast.specs.declared.goal.Name.{Name}
use Rattle.goal_ast.specs.declared.term.Sort.{Sort}
use Rattle.goal_token.specs.declared.token.Keyword.{Keyword}
use Rattle.goal_token.specs.declared.token.Keyword.TheVariants as keywords
use Rattle.goal_token.specs.declared.token.Sign.{Sign}
use Rattle.goal_token.specs.declared.token.Sign.TheVariants as signs
use Rattle.goal_token.specs.declared.token.Token.{Token}
use Rattle.goal_token.specs.declared.token.Token.TheVariants as tokens
use Rattle.goal_token.specs.declared.token.Placed.{Placed}
use Rattle.goal_text.specs.declared.frame.Frame.{Frame}
use Rattle.goal_text.specs.declared.frame.Frame.TheVariants.{Open, Prefix, Infix, Chain, First, Last}
use Rattle.goal_text.specs.declared.kind.Kind.{Kind}
use Rattle.goal_text.specs.declared.kind.Kind.TheVariants as kinds
use Rattle.goal_sort.specs.declared.raw.RawBound.{RawBound}
use Rattle.goal_sort.specs.declared.raw.RawSession.{RawSession}
use Rattle.goal_text.specs.declared.state.Named.{Named}
use Rattle.goal_text.specs.declared.state.State.TheVariants as states
use Rattle.goal_text.specs.declared.state.Between.TheVariants as betweens
use Rattle.goal_text.specs.declared.state.Part.{Part}
use Rattle.goal_text.specs.declared.state.Part.TheVariants as parts
use Rattle.goal_text.specs.Operands.{Reading, follows, with_token, read_of}
use Rattle.goal_text.specs.Files.{word, name, bounds, Prefixes}
use Rattle.goal_text.specs.Steps.{kind_of, named, is_dot, is_forall, GoalRead, after_forall, in_bare, in_group, sort_next, comma_next, close_next, after_group, in_goal, FileRead, file_with, file_with_all, nothing_read}
use Rattle.goal_text.specs.Counts.{binding_count, body_count, bound_count}
use Rattle.goal_text.specs.Refusals.{HasNo, is_name_token, names_in, BodySoFar, BoundSoFar}
use Rattle.goal_text.proofs.FileLaws.{all_append, in_the_goal, prefixes_read}
use Rattle.goal_text.proofs.KnownLaws.{Is, kind_is, dot_is, forall_is}

-- a run over two lists goes through the first
split_run : (f h : FileRead) (ts us : List Placed) → file_with_all f (ts ++ us) ≡ Some h → (g : FileRead) × (file_with_all f ts ≡ Some g) × (file_with_all g us ≡ Some h)
split_run f h ts us read = bind_some (file_with_all f ts) (λ g. file_with_all g us) h (sym (all_append f ts us) ∙ read)

-- ---- the word `Goal` opens a goal

no_word : (r : Reading) (k : Keyword) (p : ℕ) → with_token r (word k p) ≡ None
no_word (fs, None) k p = refl
no_word (fs, Some w) k p = by_frames fs
  where
    by_frames : (fs : List Frame) → follows (tokens.Keyword k) p fs w ≡ None
    by_frames [] = refl
    by_frames (First f q ∷ fs) = refl
    by_frames (Open ∷ fs) = refl
    by_frames (Prefix s q ∷ fs) = refl
    by_frames (Infix s q a ∷ fs) = refl
    by_frames (Chain s q u a b ∷ fs) = refl
    by_frames (Last f q before ∷ fs) = refl

-- reading stands at the beginning of a goal
abbrev pub AtGoal : FileRead → Type 0
AtGoal g = (done : List RawSession) × (w : RawSession) × (p : ℕ) × (g ≡ in_the_goal done w p [] parts.Head)

goal_opens : (f g : FileRead) (p : ℕ) → file_with f (word keywords.Goal p) ≡ Some g → AtGoal g
goal_opens (done, states.Start) g p read = absurd cc
goal_opens (done, states.Name) g p read = absurd cc
goal_opens (done, states.NameEnd n) g p read = absurd cc
goal_opens (done, states.Within w betweens.Open) g p read = (done, w, p, sym (same_Some _ g read))
goal_opens (done, states.Within w betweens.Ended) g p read = (done, w, p, sym (same_Some _ g read))
goal_opens (done, states.Within w betweens.QedEnd) g p read = absurd cc
goal_opens (done, states.Within w (betweens.Goal q bs parts.Head)) g p read = absurd cc
goal_opens (done, states.Within w (betweens.Goal q bs parts.Binders)) g p read = absurd cc
goal_opens (done, states.Within w (betweens.Goal q bs (parts.Bare names))) g p read = absurd cc
goal_opens (done, states.Within w (betweens.Goal q bs (parts.BareSort names))) g p read = absurd cc
goal_opens (done, states.Within w (betweens.Goal q bs parts.BareEnd)) g p read = absurd cc
goal_opens (done, states.Within w (betweens.Goal q bs (parts.Grouped []))) g p read = absurd cc
goal_opens (done, states.Within w (betweens.Goal q bs (parts.Grouped (n ∷ names)))) g p read = absurd cc
goal_opens (done, states.Within w (betweens.Goal q bs (parts.GroupedSort names))) g p read = absurd cc
goal_opens (done, states.Within w (betweens.Goal q bs parts.GroupedEnd)) g p read = absurd cc
goal_opens (done, states.Within w (betweens.Goal q bs parts.NextGroup)) g p read = absurd cc
goal_opens (done, states.Within w (betweens.Goal q bs (parts.Body r n))) g p read =
    let e : file_with (done, states.Within w (betweens.Goal q bs (parts.Body r n))) (word keywords.Goal p) ≡ None = rw (no_word r keywords.Goal p) refl in
    absurd (let k = sym e ∙ read in cc)
goal_opens (done, states.Within w (betweens.Goal q bs (parts.Command e))) g p read = absurd cc
goal_opens (done, states.Within w (betweens.Goal q bs (parts.ProofEnd e))) g p read = absurd cc
goal_opens (done, states.Within w (betweens.Goal q bs (parts.ModeAfterProof e))) g p read = absurd cc
goal_opens (done, states.Within w (betweens.Goal q bs (parts.ModeEnd e m))) g p read = absurd cc

-- what is read after `Goal` and prefixes is read from their end on
after_head : (outer : List Placed) (place : ℕ) (bs : List RawBound) (head more : List Placed) (f : FileRead) → Prefixes bs head → file_with_all nothing_read (outer ++ word keywords.Goal place ∷ (head ++ more)) ≡ Some f
    → (done : List RawSession) × (w : RawSession) × (p : ℕ) × (file_with_all (in_the_goal done w p bs parts.Head) more ≡ Some f)
after_head outer place bs head more f prefixes read =
    let a = split_run nothing_read f outer (word keywords.Goal place ∷ (head ++ more)) read in
    let b = bind_some (file_with a.0 (word keywords.Goal place)) (λ g. file_with_all g (head ++ more)) f a.2 in
    let g = goal_opens a.0 b.0 place b.1 in
    let start : file_with_all (in_the_goal g.0 g.1 g.2 [] parts.Head) (head ++ more) ≡ Some f = subst (λ g. file_with_all g (head ++ more) ≡ Some f) g.3 b.2 in
    let c = split_run (in_the_goal g.0 g.1 g.2 [] parts.Head) f head more start in
    let same : c.0 ≡ in_the_goal g.0 g.1 g.2 bs parts.Head = same_Some c.0 _ (sym c.1 ∙ prefixes_read g.0 g.1 g.2 prefixes) in
    (g.0, g.1, g.2, subst (λ g. file_with_all g more ≡ Some f) same c.2)

-- ---- in a body

-- the part after a token of a goal
goal_step : (done : List RawSession) (w : RawSession) (p : ℕ) (o : Option GoalRead) (g : FileRead) → ((o >>= λ g. Some (states.Within w (betweens.Goal p g.0 g.1))) >>= λ s. Some (done, s)) ≡ Some g
    → (k : GoalRead) × (o ≡ Some k) × (g ≡ in_the_goal done w p k.0 k.1)
goal_step done w p (Some k) g read = (k, refl, sym (same_Some _ g read))
goal_step done w p None g read = absurd cc

-- reading stands in a body after so many tokens
abbrev pub InBody : ℕ → FileRead → Type 0
InBody n g = (done : List RawSession) × (w : RawSession) × (p : ℕ) × (bs : List RawBound) × (r : Reading) × (g ≡ in_the_goal done w p bs (parts.Body r n))

body_step : (done : List RawSession) (w : RawSession) (p : ℕ) (bs : List RawBound) (r : Reading) (n : ℕ) (t : Placed) (g : FileRead) → t.token ≢ tokens.Sign signs.Dot → file_with (in_the_goal done w p bs (parts.Body r n)) t ≡ Some g
    → InBody (n + 1) g
body_step done w p bs r n t g other read =
    let a = goal_step done w p (in_goal bs (parts.Body r n) t) g read in
    elim (test_some (is_dot (kind_of t.token)) (read_of r >>= λ e. Some (bs, parts.Command e)) (with_token r t >>= λ s. Some (bs, parts.Body s (n + 1))) a.0 a.1) [
      | inl k ↦ absurd (other (ap (λ (t : Placed). t.token) (dot_is t k.0)))
      | inr k ↦
          let s = bind_some (with_token r t) (λ s. Some (bs, parts.Body s (n + 1))) a.0 k.1 in
          (done, w, p, bs, s.0, a.2 ∙ ap (λ (k : GoalRead). in_the_goal done w p k.0 k.1) (sym (same_Some _ a.0 s.2)))
    ]

body_stays : (n : ℕ) (f g : FileRead) (ts : List Placed) → InBody n f → HasNo (tokens.Sign signs.Dot) ts → file_with_all f ts ≡ Some g → InBody (n + length ts) g
body_stays n f g [] h no_dots read =
    let same : n ≡ n + length {A = Placed} [] = omega arith in
    subst (λ n. InBody n g) same (subst (λ f. InBody n f) (same_Some f g read) h)
body_stays n f g (t ∷ ts) h no_dots read =
    let b = bind_some (file_with f t) (λ g. file_with_all g ts) g read in
    let one = body_step h.0 h.1 h.2 h.3 h.4 n t b.0 no_dots.0 (subst (λ f. file_with f t ≡ Some b.0) h.5 b.1) in
    let same : (n + 1) + length ts ≡ n + length (t ∷ ts) = omega arith in
    subst (λ n. InBody n g) same (body_stays (n + 1) b.0 g ts one no_dots.1 b.2)

head_step : (done : List RawSession) (w : RawSession) (p : ℕ) (bs : List RawBound) (t : Placed) (g : FileRead) → t.token ≢ tokens.Keyword keywords.Forall → file_with (in_the_goal done w p bs parts.Head) t ≡ Some g → InBody 1 g
head_step done w p bs t g other read =
    let a = goal_step done w p (in_goal bs parts.Head t) g read in
    elim (test_some (is_forall (kind_of t.token)) (Some (bs, parts.Binders)) (with_token ([], None) t >>= λ s. Some (bs, parts.Body s (0 + 1))) a.0 a.1) [
      | inl k ↦ absurd (other (ap (λ (t : Placed). t.token) (forall_is t k.0)))
      | inr k ↦
          let s = bind_some (with_token ([], None) t) (λ s. Some (bs, parts.Body s (0 + 1))) a.0 k.1 in
          (done, w, p, bs, s.0, a.2 ∙ ap (λ (k : GoalRead). in_the_goal done w p k.0 k.1) (sym (same_Some _ a.0 s.2)))
    ]

-- the tokens of a body so far are counted
pub body_counted : (before : List Placed) (n : ℕ) (f : FileRead) → BodySoFar before n → file_with_all nothing_read before ≡ Some f → (k : ℕ) × (n ≤ k) × (body_count f ≡ Some k)
body_counted before n f b read =
    let start = after_head b.outer b.place b.bound b.head (b.first ∷ b.others) f b.prefixes (subst (λ ts. file_with_all nothing_read ts ≡ Some f) b.spelled read) in
    let s = bind_some (file_with (in_the_goal start.0 start.1 start.2 b.bound parts.Head) b.first) (λ g. file_with_all g b.others) f start.3 in
    let one = head_step start.0 start.1 start.2 b.bound b.first s.0 b.no_prefix s.1 in
    let all = body_stays 1 s.0 f b.others one b.no_dot.1 s.2 in
    let size = b.size in
    let enough : n ≤ 1 + length b.others = omega (arith, size) in
    (1 + length b.others, enough, ap body_count all.5)

-- ---- in a prefix

-- the names that the goal has bound, those that wait for their sort with them, where a prefix is open
abbrev pub prefix_count : ℕ → Part → Option ℕ
prefix_count n parts.Binders = Some n
prefix_count n (parts.Bare names) = Some (n + length names)
prefix_count n (parts.BareSort names) = Some (n + length names)
prefix_count n parts.BareEnd = Some n
prefix_count n (parts.Grouped names) = Some (n + length names)
prefix_count n (parts.GroupedSort names) = Some (n + length names)
prefix_count n parts.GroupedEnd = Some n
prefix_count n parts.NextGroup = Some n
prefix_count n parts.Head = None
prefix_count n (parts.Body r k) = None
prefix_count n (parts.Command e) = None
prefix_count n (parts.ProofEnd e) = None
prefix_count n (parts.ModeAfterProof e) = None
prefix_count n (parts.ModeEnd e m) = None

-- what a token of this kind adds
name_of_kind : Kind → ℕ
name_of_kind (kinds.Name x) = 1
name_of_kind k = 0

kind_counts : (t : Token) → name_of_kind (kind_of t) ≡ is_name_token t
unfolding name_of_kind
kind_counts (tokens.Sign s) = sign_counts s
  where
    sign_counts : (s : Sign) → name_of_kind (kind_of (tokens.Sign s)) ≡ 0
    sign_counts signs.Dot = refl
    sign_counts signs.Comma = refl
    sign_counts signs.Colon = refl
    sign_counts signs.Open = refl
    sign_counts signs.Close = refl
    sign_counts s = refl
kind_counts (tokens.Keyword k) = refl
kind_counts (tokens.Sort k) = refl
kind_counts (tokens.Name k) = refl
kind_counts (tokens.Constant k) = refl
kind_counts (tokens.Function k) = refl
kind_counts (tokens.Literal k) = refl
kind_counts tokens.Wrong = refl

-- reading stands in a prefix, after so many names
abbrev pub InPrefix : ℕ → GoalRead → Type 0
InPrefix n g = prefix_count (length g.0) g.1 ≡ Some n

counted : (f g : GoalRead) (n : ℕ) → Some f ≡ Some g → InPrefix n f → InPrefix n g
counted f g n is h = subst (λ g. InPrefix n g) (same_Some f g is) h

plus_one : (bs : List RawBound) (names : List Named) (m : Named) (n : ℕ) → Some (length bs + length names) ≡ Some n → Some (length bs + length (names ++ m ∷ [])) ≡ Some (n + 1)
plus_one bs names m n e =
    let is : length bs + length names ≡ n = same_Some _ n e in
    let more : length (names ++ m ∷ []) ≡ length names + 1 = length-append names (m ∷ []) in
    let sum : length bs + length (names ++ m ∷ []) ≡ n + 1 = omega (arith, is, more) in
    ap (λ k. Some k) sum

all_bound : (bs : List RawBound) (names : List Named) (s : Sort) (n : ℕ) → Some (length bs + length names) ≡ Some n → Some (length (bs ++ bounds s names)) ≡ Some (n + 0)
all_bound bs names s n e =
    let is : length bs + length names ≡ n = same_Some _ n e in
    let last : length (bounds s names) ≡ length names = length-map names _ in
    let more : length (bs ++ bounds s names) ≡ length bs + length (bounds s names) = length-append bs (bounds s names) in
    let sum : length (bs ++ bounds s names) ≡ n + 0 = omega (arith, is, last, more) in
    ap (λ k. Some k) sum

no_more : (k n : ℕ) → Some k ≡ Some n → Some k ≡ Some (n + 0)
no_more k n e = let same : n ≡ n + 0 = omega arith in e ∙ ap (λ k. Some k) same

no_names : (bs : List RawBound) (n : ℕ) → Some (length bs) ≡ Some n → Some (length bs + 0) ≡ Some (n + 0)
no_names bs n e = let is : length bs ≡ n = same_Some _ n e in let sum : length bs + 0 ≡ n + 0 = omega (arith, is) in ap (λ k. Some k) sum

one_name : (bs : List RawBound) (n : ℕ) → Some (length bs) ≡ Some n → Some (length bs + 1) ≡ Some (n + 1)
one_name bs n e = let is : length bs ≡ n = same_Some _ n e in let sum : length bs + 1 ≡ n + 1 = omega (arith, is) in ap (λ k. Some k) sum

forall_counts : (bs : List RawBound) (k : Kind) (p n : ℕ) (g : GoalRead) → Some (length bs) ≡ Some n → after_forall bs k p ≡ Some g → InPrefix (n + name_of_kind k) g
unfolding name_of_kind
forall_counts bs (kinds.Name x) p n g h read = counted _ g (n + 1) read (one_name bs n h)
forall_counts bs kinds.Open p n g h read = counted _ g (n + 0) read (no_names bs n h)
forall_counts bs (kinds.Keyword k) p n g h read = absurd cc
forall_counts bs (kinds.Sort s) p n g h read = absurd cc
forall_counts bs kinds.Dot p n g h read = absurd cc
forall_counts bs kinds.Comma p n g h read = absurd cc
forall_counts bs kinds.Colon p n g h read = absurd cc
forall_counts bs kinds.Close p n g h read = absurd cc
forall_counts bs kinds.Other p n g h read = absurd cc

bare_counts : (bs : List RawBound) (names : List Named) (k : Kind) (p n : ℕ) (g : GoalRead) → Some (length bs + length names) ≡ Some n → in_bare bs names k p ≡ Some g → InPrefix (n + name_of_kind k) g
unfolding name_of_kind
bare_counts bs names (kinds.Name x) p n g h read = counted _ g (n + 1) read (plus_one bs names (named x p) n h)
bare_counts bs names kinds.Colon p n g h read = counted _ g (n + 0) read (no_more (length bs + length names) n h)
bare_counts bs names (kinds.Keyword k) p n g h read = absurd cc
bare_counts bs names (kinds.Sort s) p n g h read = absurd cc
bare_counts bs names kinds.Dot p n g h read = absurd cc
bare_counts bs names kinds.Comma p n g h read = absurd cc
bare_counts bs names kinds.Open p n g h read = absurd cc
bare_counts bs names kinds.Close p n g h read = absurd cc
bare_counts bs names kinds.Other p n g h read = absurd cc

group_counts : (bs : List RawBound) (names : List Named) (k : Kind) (p n : ℕ) (g : GoalRead) → Some (length bs + length names) ≡ Some n → in_group bs names k p ≡ Some g → InPrefix (n + name_of_kind k) g
unfolding name_of_kind
group_counts bs [] (kinds.Name x) p n g h read = counted _ g (n + 1) read (plus_one bs [] (named x p) n h)
group_counts bs (m ∷ names) (kinds.Name x) p n g h read = counted _ g (n + 1) read (plus_one bs (m ∷ names) (named x p) n h)
group_counts bs [] kinds.Colon p n g h read = absurd cc
group_counts bs (m ∷ names) kinds.Colon p n g h read = counted _ g (n + 0) read (no_more (length bs + length (m ∷ names)) n h)
group_counts bs [] (kinds.Keyword k) p n g h read = absurd cc
group_counts bs [] (kinds.Sort s) p n g h read = absurd cc
group_counts bs [] kinds.Dot p n g h read = absurd cc
group_counts bs [] kinds.Comma p n g h read = absurd cc
group_counts bs [] kinds.Open p n g h read = absurd cc
group_counts bs [] kinds.Close p n g h read = absurd cc
group_counts bs [] kinds.Other p n g h read = absurd cc
group_counts bs (m ∷ names) (kinds.Keyword k) p n g h read = absurd cc
group_counts bs (m ∷ names) (kinds.Sort s) p n g h read = absurd cc
group_counts bs (m ∷ names) kinds.Dot p n g h read = absurd cc
group_counts bs (m ∷ names) kinds.Comma p n g h read = absurd cc
group_counts bs (m ∷ names) kinds.Open p n g h read = absurd cc
group_counts bs (m ∷ names) kinds.Close p n g h read = absurd cc
group_counts bs (m ∷ names) kinds.Other p n g h read = absurd cc

sort_counts : (bs : List RawBound) (names : List Named) (next : Part) (k : Kind) (n : ℕ) (g : GoalRead) → ((m : ℕ) → prefix_count m next ≡ Some m) → Some (length bs + length names) ≡ Some n → sort_next bs names next k ≡ Some g → InPrefix (n + name_of_kind k) g
unfolding name_of_kind
sort_counts bs names next (kinds.Sort s) n g plain h read = counted _ g (n + 0) read (plain (length (bs ++ bounds s names)) ∙ all_bound bs names s n h)
sort_counts bs names next (kinds.Keyword k) n g plain h read = absurd cc
sort_counts bs names next (kinds.Name x) n g plain h read = absurd cc
sort_counts bs names next kinds.Dot n g plain h read = absurd cc
sort_counts bs names next kinds.Comma n g plain h read = absurd cc
sort_counts bs names next kinds.Colon n g plain h read = absurd cc
sort_counts bs names next kinds.Open n g plain h read = absurd cc
sort_counts bs names next kinds.Close n g plain h read = absurd cc
sort_counts bs names next kinds.Other n g plain h read = absurd cc

close_counts : (bs : List RawBound) (k : Kind) (n : ℕ) (g : GoalRead) → Some (length bs) ≡ Some n → close_next bs k ≡ Some g → InPrefix (n + name_of_kind k) g
unfolding name_of_kind
close_counts bs kinds.Close n g h read = counted _ g (n + 0) read (no_more (length bs) n h)
close_counts bs (kinds.Keyword k) n g h read = absurd cc
close_counts bs (kinds.Sort s) n g h read = absurd cc
close_counts bs (kinds.Name x) n g h read = absurd cc
close_counts bs kinds.Dot n g h read = absurd cc
close_counts bs kinds.Comma n g h read = absurd cc
close_counts bs kinds.Colon n g h read = absurd cc
close_counts bs kinds.Open n g h read = absurd cc
close_counts bs kinds.Other n g h read = absurd cc

next_counts : (bs : List RawBound) (k : Kind) (n : ℕ) (g : GoalRead) → k ≢ kinds.Comma → Some (length bs) ≡ Some n → after_group bs k ≡ Some g → InPrefix (n + name_of_kind k) g
unfolding name_of_kind
next_counts bs kinds.Open n g other h read = counted _ g (n + 0) read (no_names bs n h)
next_counts bs kinds.Comma n g other h read = absurd (other refl)
next_counts bs (kinds.Keyword k) n g other h read = absurd cc
next_counts bs (kinds.Sort s) n g other h read = absurd cc
next_counts bs (kinds.Name x) n g other h read = absurd cc
next_counts bs kinds.Dot n g other h read = absurd cc
next_counts bs kinds.Colon n g other h read = absurd cc
next_counts bs kinds.Close n g other h read = absurd cc
next_counts bs kinds.Other n g other h read = absurd cc

end_counts : (bs : List RawBound) (k : Kind) (n : ℕ) (g : GoalRead) → k ≢ kinds.Comma → comma_next bs k ≡ Some g → InPrefix (n + name_of_kind k) g
end_counts bs kinds.Comma n g other read = absurd (other refl)
end_counts bs (kinds.Keyword k) n g other read = absurd cc
end_counts bs (kinds.Sort s) n g other read = absurd cc
end_counts bs (kinds.Name x) n g other read = absurd cc
end_counts bs kinds.Dot n g other read = absurd cc
end_counts bs kinds.Colon n g other read = absurd cc
end_counts bs kinds.Open n g other read = absurd cc
end_counts bs kinds.Close n g other read = absurd cc
end_counts bs kinds.Other n g other read = absurd cc

-- a token that is no comma stays in the prefix, and is counted
prefix_step : (bs : List RawBound) (part : Part) (t : Placed) (n : ℕ) (g : GoalRead) → kind_of t.token ≢ kinds.Comma → InPrefix n (bs, part) → in_goal bs part t ≡ Some g → InPrefix (n + name_of_kind (kind_of t.token)) g
prefix_step bs parts.Binders t n g other h read = forall_counts bs (kind_of t.token) t.at n g h read
prefix_step bs (parts.Bare names) t n g other h read = bare_counts bs names (kind_of t.token) t.at n g h read
prefix_step bs (parts.BareSort names) t n g other h read = sort_counts bs names parts.BareEnd (kind_of t.token) n g (λ m. refl) h read
prefix_step bs parts.BareEnd t n g other h read = end_counts bs (kind_of t.token) n g other read
prefix_step bs (parts.Grouped names) t n g other h read = group_counts bs names (kind_of t.token) t.at n g h read
prefix_step bs (parts.GroupedSort names) t n g other h read = sort_counts bs names parts.GroupedEnd (kind_of t.token) n g (λ m. refl) h read
prefix_step bs parts.GroupedEnd t n g other h read = close_counts bs (kind_of t.token) n g h read
prefix_step bs parts.NextGroup t n g other h read = next_counts bs (kind_of t.token) n g other h read
prefix_step bs parts.Head t n g other h read = absurd cc
prefix_step bs (parts.Body r k) t n g other h read = absurd cc
prefix_step bs (parts.Command e) t n g other h read = absurd cc
prefix_step bs (parts.ProofEnd e) t n g other h read = absurd cc
prefix_step bs (parts.ModeAfterProof e) t n g other h read = absurd cc
prefix_step bs (parts.ModeEnd e m) t n g other h read = absurd cc

comma_free : (t : Placed) → t.token ≢ tokens.Sign signs.Comma → kind_of t.token ≢ kinds.Comma
comma_free t other is = other (ap (λ (t : Placed). t.token) (subst (λ k. Is k t) is (kind_is t)))

-- reading stands in a prefix of a goal in a file, after so many names
abbrev pub PrefixOpen : ℕ → FileRead → Type 0
PrefixOpen n f = (done : List RawSession) × (w : RawSession) × (p : ℕ) × (g : GoalRead) × InPrefix n g × (f ≡ in_the_goal done w p g.0 g.1)

-- the end of a goal is no prefix
goal_part : (done : List RawSession) (w : RawSession) (p : ℕ) (bs : List RawBound) (part : Part) (t : Placed) (n : ℕ) (g : FileRead) → InPrefix n (bs, part) → file_with (in_the_goal done w p bs part) t ≡ Some g
    → (k : GoalRead) × (in_goal bs part t ≡ Some k) × (g ≡ in_the_goal done w p k.0 k.1)
goal_part done w p bs parts.Binders t n g h read = goal_step done w p (in_goal bs parts.Binders t) g read
goal_part done w p bs (parts.Bare names) t n g h read = goal_step done w p (in_goal bs (parts.Bare names) t) g read
goal_part done w p bs (parts.BareSort names) t n g h read = goal_step done w p (in_goal bs (parts.BareSort names) t) g read
goal_part done w p bs parts.BareEnd t n g h read = goal_step done w p (in_goal bs parts.BareEnd t) g read
goal_part done w p bs (parts.Grouped names) t n g h read = goal_step done w p (in_goal bs (parts.Grouped names) t) g read
goal_part done w p bs (parts.GroupedSort names) t n g h read = goal_step done w p (in_goal bs (parts.GroupedSort names) t) g read
goal_part done w p bs parts.GroupedEnd t n g h read = goal_step done w p (in_goal bs parts.GroupedEnd t) g read
goal_part done w p bs parts.NextGroup t n g h read = goal_step done w p (in_goal bs parts.NextGroup t) g read
goal_part done w p bs parts.Head t n g h read = absurd cc
goal_part done w p bs (parts.Body r k) t n g h read = absurd cc
goal_part done w p bs (parts.Command e) t n g h read = absurd cc
goal_part done w p bs (parts.ProofEnd e) t n g h read = absurd cc
goal_part done w p bs (parts.ModeAfterProof e) t n g h read = absurd cc
goal_part done w p bs (parts.ModeEnd e m) t n g h read = absurd cc

prefix_stays : (n : ℕ) (f g : FileRead) (ts : List Placed) → PrefixOpen n f → HasNo (tokens.Sign signs.Comma) ts → file_with_all f ts ≡ Some g → PrefixOpen (n + names_in ts) g
prefix_stays n f g [] h free read =
    let same : n ≡ n + 0 = omega arith in
    subst (λ n. PrefixOpen n g) same (subst (λ f. PrefixOpen n f) (same_Some f g read) h)
prefix_stays n f g (t ∷ ts) h free read =
    let b = bind_some (file_with f t) (λ g. file_with_all g ts) g read in
    let a = goal_part h.0 h.1 h.2 h.3.0 h.3.1 t n b.0 h.4 (subst (λ f. file_with f t ≡ Some b.0) h.5 b.1) in
    let one : InPrefix (n + name_of_kind (kind_of t.token)) a.0 = prefix_step h.3.0 h.3.1 t n a.0 (comma_free t free.0) h.4 a.1 in
    let same : (n + name_of_kind (kind_of t.token)) + names_in ts ≡ n + names_in (t ∷ ts) = omega (arith, kind_counts t.token) in
    subst (λ n. PrefixOpen n g) same (prefix_stays (n + name_of_kind (kind_of t.token)) b.0 g ts (h.0, h.1, h.2, a.0, one, a.2) free.1 b.2)

forall_opens : (done : List RawSession) (w : RawSession) (p q : ℕ) (bs : List RawBound) (g : FileRead) → file_with (in_the_goal done w p bs parts.Head) (word keywords.Forall q) ≡ Some g → PrefixOpen (length bs) g
forall_opens done w p q bs g read = (done, w, p, (bs, parts.Binders), refl, sym (same_Some _ g read))

-- where a name may come in a prefix, it's one that the goal binds
name_bound : (done : List RawSession) (w : RawSession) (p : ℕ) (bs : List RawBound) (part : Part) (x : Name) (q n : ℕ) (g : FileRead) → InPrefix n (bs, part) → file_with (in_the_goal done w p bs part) (name (named x q)) ≡ Some g
    → binding_count (length bs) part ≡ Some n
name_bound done w p bs parts.Binders x q n g h read = h
name_bound done w p bs (parts.Bare names) x q n g h read = h
name_bound done w p bs (parts.Grouped names) x q n g h read = h
name_bound done w p bs (parts.BareSort names) x q n g h read = absurd cc
name_bound done w p bs parts.BareEnd x q n g h read = absurd cc
name_bound done w p bs (parts.GroupedSort names) x q n g h read = absurd cc
name_bound done w p bs parts.GroupedEnd x q n g h read = absurd cc
name_bound done w p bs parts.NextGroup x q n g h read = absurd cc
name_bound done w p bs parts.Head x q n g h read = absurd cc
name_bound done w p bs (parts.Body r k) x q n g h read = absurd cc
name_bound done w p bs (parts.Command e) x q n g h read = absurd cc
name_bound done w p bs (parts.ProofEnd e) x q n g h read = absurd cc
name_bound done w p bs (parts.ModeAfterProof e) x q n g h read = absurd cc
name_bound done w p bs (parts.ModeEnd e m) x q n g h read = absurd cc

-- the names that a goal binds so far are counted, where another comes
pub names_counted : (before : List Placed) (n : ℕ) (f g : FileRead) (x : Name) (q : ℕ) → BoundSoFar before n → file_with_all nothing_read before ≡ Some f → file_with f (name (named x q)) ≡ Some g → (k : ℕ) × (n ≤ k) × (bound_count f ≡ Some k)
names_counted before n f g x q b read next =
    let start = after_head b.outer b.place b.bound b.head (word keywords.Forall b.opening ∷ b.others) f b.prefixes (subst (λ ts. file_with_all nothing_read ts ≡ Some f) b.spelled read) in
    let s = bind_some (file_with (in_the_goal start.0 start.1 start.2 b.bound parts.Head) (word keywords.Forall b.opening)) (λ g. file_with_all g b.others) f start.3 in
    let all = prefix_stays (length b.bound) s.0 f b.others (forall_opens start.0 start.1 start.2 b.opening b.bound s.0 s.1) b.no_comma s.2 in
    let bound = name_bound all.0 all.1 all.2 all.3.0 all.3.1 x q (length b.bound + names_in b.others) g all.4 (subst (λ f. file_with f (name (named x q)) ≡ Some g) all.5 next) in
    (length b.bound + names_in b.others, b.size, ap bound_count all.5 ∙ bound)
