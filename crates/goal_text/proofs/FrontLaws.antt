-- Whatever was read can be finished.
use Rattle.std.proofs.Common.{◌≡◌, ℕ, List, [], ◌∷◌, ◌++◌, Some, None, refl, sym, ap, subst, ◌∙◌, append_assoc}
use Rattle.std.specs.Prelude.{codes}
use Rattle.std.proofs.lemmas.List.{append-nil}
use Rattle.goal_ast.specs.declared.goal.Mode.{Mode}
use Rattle.goal_ast.specs.declared.goal.Mode.TheVariants.{Lia}
use Rattle.goal_ast.specs.declared.goal.Name.{Name}
use Rattle.goal_ast.specs.declared.term.Sort.TheVariants as sorts
use Rattle.goal_token.specs.declared.token.Keyword.TheVariants as keywords
use Rattle.goal_token.specs.declared.token.Sign.TheVariants as signs
use Rattle.goal_token.specs.declared.token.Placed.{Placed}
use Rattle.goal_sort.specs.declared.raw.RawBound.{RawBound}
use Rattle.goal_sort.specs.declared.raw.RawExpr.{RawExpr}
use Rattle.goal_sort.specs.declared.raw.RawSession.{RawSession}
use Rattle.goal_text.specs.declared.state.Named.{Named}
use Rattle.goal_text.specs.declared.state.State.TheVariants as states
use Rattle.goal_text.specs.declared.state.Between.TheVariants as betweens
use Rattle.goal_text.specs.declared.state.Part.{Part}
use Rattle.goal_text.specs.declared.state.Part.TheVariants as parts
use Rattle.goal_text.specs.Grammar.{sign}
use Rattle.goal_text.specs.Operands.{Reading}
use Rattle.goal_text.specs.Files.{word, sort, name, bounds, Sessions}
use Rattle.goal_text.specs.Steps.{named, with_goal, FileRead, file_with, file_of}
use Rattle.goal_text.proofs.StandingLaws.{is_front}
use Rattle.goal_text.proofs.SessionLaws.{KnownFile, file_known, file_ends}
use Rattle.goal_text.proofs.FileLaws.{in_the_goal}

-- ---- what was read is the front of a file

-- tokens that some file begins with
abbrev pub IsFileFront : List Placed → Type 0
IsFileFront ts = (rest : List Placed) × (ss : List RawSession) × Sessions ss (ts ++ rest)

front_more : (ts us : List Placed) → IsFileFront (ts ++ us) → IsFileFront ts
front_more ts us h = (us ++ h.0, h.1, subst (λ ts. Sessions h.1 ts) (append_assoc ts us h.0) h.2)

-- one more token makes a front
by_token : (f g : FileRead) (ts : List Placed) (t : Placed) → KnownFile f.0 f.1 ts → file_with f t ≡ Some g → (KnownFile g.0 g.1 (ts ++ t ∷ []) → IsFileFront (ts ++ t ∷ [])) → IsFileFront ts
by_token f g ts t h read goes = front_more ts (t ∷ []) (goes (file_known f g t ts h read))

whole_front : (f : FileRead) (ts : List Placed) (ss : List RawSession) → KnownFile f.0 f.1 ts → file_of f ≡ Some ss → IsFileFront ts
whole_front f ts ss h read = ([], ss, subst (λ ts. Sessions ss ts) (sym (append-nil ts)) (file_ends f ts ss h read))

abbrev some_name : Name
some_name = record { bytes = codes "x" }

dot : Placed
dot = sign signs.Dot 0

open_front : (done : List RawSession) (w : RawSession) (ts : List Placed) → KnownFile done (states.Within w betweens.Open) ts → IsFileFront ts
open_front done w ts h = whole_front (done, states.Within w betweens.Open) ts (done ++ w ∷ []) h refl

ended_front : (done : List RawSession) (w : RawSession) (ts : List Placed) → KnownFile done (states.Within w betweens.Ended) ts → IsFileFront ts
ended_front done w ts h = whole_front (done, states.Within w betweens.Ended) ts (done ++ w ∷ []) h refl

mode_front : (done : List RawSession) (w : RawSession) (p : ℕ) (bs : List RawBound) (e : RawExpr) (m : Mode) (ts : List Placed) → KnownFile done (states.Within w (betweens.Goal p bs (parts.ModeEnd e m))) ts → IsFileFront ts
mode_front done w p bs e m ts h = by_token (in_the_goal done w p bs (parts.ModeEnd e m)) _ ts (sign signs.Dot 0) h refl (ended_front done (with_goal w p bs e m) (ts ++ sign signs.Dot 0 ∷ []))

command_front : (done : List RawSession) (w : RawSession) (p : ℕ) (bs : List RawBound) (e : RawExpr) (ts : List Placed) → KnownFile done (states.Within w (betweens.Goal p bs (parts.Command e))) ts → IsFileFront ts
command_front done w p bs e ts h = by_token (in_the_goal done w p bs (parts.Command e)) _ ts (word keywords.Lia 0) h refl (mode_front done w p bs e Lia (ts ++ word keywords.Lia 0 ∷ []))

after_proof_front : (done : List RawSession) (w : RawSession) (p : ℕ) (bs : List RawBound) (e : RawExpr) (ts : List Placed) → KnownFile done (states.Within w (betweens.Goal p bs (parts.ModeAfterProof e))) ts → IsFileFront ts
after_proof_front done w p bs e ts h = by_token (in_the_goal done w p bs (parts.ModeAfterProof e)) _ ts (word keywords.Lia 0) h refl (mode_front done w p bs e Lia (ts ++ word keywords.Lia 0 ∷ []))

proof_front : (done : List RawSession) (w : RawSession) (p : ℕ) (bs : List RawBound) (e : RawExpr) (ts : List Placed) → KnownFile done (states.Within w (betweens.Goal p bs (parts.ProofEnd e))) ts → IsFileFront ts
proof_front done w p bs e ts h = by_token (in_the_goal done w p bs (parts.ProofEnd e)) _ ts (sign signs.Dot 0) h refl (after_proof_front done w p bs e (ts ++ sign signs.Dot 0 ∷ []))

body_front : (done : List RawSession) (w : RawSession) (p : ℕ) (bs : List RawBound) (r : Reading) (n : ℕ) (ts : List Placed) → KnownFile done (states.Within w (betweens.Goal p bs (parts.Body r n))) ts → IsFileFront ts
body_front done w p bs r n ts h =
    let b = h.7 in
    let k = b.3 in
    let front = is_front r k.1 k.3.0 in
    let more : List Placed = front.0 ++ sign signs.Dot 0 ∷ [] in
    let body : k.1 ++ more ≡ (k.1 ++ front.0) ++ sign signs.Dot 0 ∷ [] = sym (append_assoc k.1 front.0 (sign signs.Dot 0 ∷ [])) in
    let part : b.1 ++ more ≡ k.0 ++ (k.1 ++ more) = ap (λ ts. ts ++ more) k.4 ∙ append_assoc k.0 k.1 more in
    let goal : h.1 ++ more ≡ b.0 ++ word keywords.Goal p ∷ (b.1 ++ more) = ap (λ ts. ts ++ more) b.4 ∙ append_assoc b.0 (word keywords.Goal p ∷ b.1) more in
    let all : ts ++ more ≡ h.0 ++ word keywords.Session h.2 ∷ name h.3 ∷ sign signs.Dot h.4 ∷ (h.1 ++ more) =
    ap (λ ts. ts ++ more) h.8 ∙ append_assoc h.0 (word keywords.Session h.2 ∷ name h.3 ∷ sign signs.Dot h.4 ∷ h.1) more in
    front_more ts more (command_front done w p bs front.1 (ts ++ more)
    (h.0, h.1 ++ more, h.2, h.3, h.4, h.5, h.6, (b.0, b.1 ++ more, b.2, (k.0, k.1 ++ more, k.2, (k.1 ++ front.0, 0, front.2, body), part), goal), all))

head_front : (done : List RawSession) (w : RawSession) (p : ℕ) (bs : List RawBound) (ts : List Placed) → KnownFile done (states.Within w (betweens.Goal p bs parts.Head)) ts → IsFileFront ts
head_front done w p bs ts h = let b = h.7 in body_front done w p bs ([], None) 0 ts (h.0, h.1, h.2, h.3, h.4, h.5, h.6, (b.0, b.1, b.2, (b.1, [], b.3, (refl, refl), sym (append-nil b.1)), b.4), h.8)

bare_end_front : (done : List RawSession) (w : RawSession) (p : ℕ) (bs : List RawBound) (ts : List Placed) → KnownFile done (states.Within w (betweens.Goal p bs parts.BareEnd)) ts → IsFileFront ts
bare_end_front done w p bs ts h = by_token (in_the_goal done w p bs parts.BareEnd) _ ts (sign signs.Comma 0) h refl (head_front done w p bs (ts ++ sign signs.Comma 0 ∷ []))

bare_sort_front : (done : List RawSession) (w : RawSession) (p : ℕ) (bs : List RawBound) (names : List Named) (ts : List Placed) → KnownFile done (states.Within w (betweens.Goal p bs (parts.BareSort names))) ts → IsFileFront ts
bare_sort_front done w p bs names ts h = by_token (in_the_goal done w p bs (parts.BareSort names)) _ ts (sort sorts.Int 0) h refl (bare_end_front done w p (bs ++ bounds sorts.Int names) (ts ++ sort sorts.Int 0 ∷ []))

bare_front : (done : List RawSession) (w : RawSession) (p : ℕ) (bs : List RawBound) (names : List Named) (ts : List Placed) → KnownFile done (states.Within w (betweens.Goal p bs (parts.Bare names))) ts → IsFileFront ts
bare_front done w p bs names ts h = by_token (in_the_goal done w p bs (parts.Bare names)) _ ts (sign signs.Colon 0) h refl (bare_sort_front done w p bs names (ts ++ sign signs.Colon 0 ∷ []))

binders_front : (done : List RawSession) (w : RawSession) (p : ℕ) (bs : List RawBound) (ts : List Placed) → KnownFile done (states.Within w (betweens.Goal p bs parts.Binders)) ts → IsFileFront ts
binders_front done w p bs ts h = by_token (in_the_goal done w p bs parts.Binders) _ ts (name (named some_name 0)) h refl (bare_front done w p bs (named some_name 0 ∷ []) (ts ++ name (named some_name 0) ∷ []))

next_group_front : (done : List RawSession) (w : RawSession) (p : ℕ) (bs : List RawBound) (ts : List Placed) → KnownFile done (states.Within w (betweens.Goal p bs parts.NextGroup)) ts → IsFileFront ts
next_group_front done w p bs ts h = by_token (in_the_goal done w p bs parts.NextGroup) _ ts (sign signs.Comma 0) h refl (head_front done w p bs (ts ++ sign signs.Comma 0 ∷ []))

group_end_front : (done : List RawSession) (w : RawSession) (p : ℕ) (bs : List RawBound) (ts : List Placed) → KnownFile done (states.Within w (betweens.Goal p bs parts.GroupedEnd)) ts → IsFileFront ts
group_end_front done w p bs ts h = by_token (in_the_goal done w p bs parts.GroupedEnd) _ ts (sign signs.Close 0) h refl (next_group_front done w p bs (ts ++ sign signs.Close 0 ∷ []))

group_sort_front : (done : List RawSession) (w : RawSession) (p : ℕ) (bs : List RawBound) (names : List Named) (ts : List Placed) → KnownFile done (states.Within w (betweens.Goal p bs (parts.GroupedSort names))) ts → IsFileFront ts
group_sort_front done w p bs names ts h = by_token (in_the_goal done w p bs (parts.GroupedSort names)) _ ts (sort sorts.Int 0) h refl (group_end_front done w p (bs ++ bounds sorts.Int names) (ts ++ sort sorts.Int 0 ∷ []))

named_group_front : (done : List RawSession) (w : RawSession) (p : ℕ) (bs : List RawBound) (n : Named) (names : List Named) (ts : List Placed) → KnownFile done (states.Within w (betweens.Goal p bs (parts.Grouped (n ∷ names)))) ts → IsFileFront ts
named_group_front done w p bs n names ts h = by_token (in_the_goal done w p bs (parts.Grouped (n ∷ names))) _ ts (sign signs.Colon 0) h refl (group_sort_front done w p bs (n ∷ names) (ts ++ sign signs.Colon 0 ∷ []))

group_front : (done : List RawSession) (w : RawSession) (p : ℕ) (bs : List RawBound) (names : List Named) (ts : List Placed) → KnownFile done (states.Within w (betweens.Goal p bs (parts.Grouped names))) ts → IsFileFront ts
group_front done w p bs (n ∷ names) ts h = named_group_front done w p bs n names ts h
group_front done w p bs [] ts h = by_token (in_the_goal done w p bs (parts.Grouped [])) _ ts (name (named some_name 0)) h refl (named_group_front done w p bs (named some_name 0) [] (ts ++ name (named some_name 0) ∷ []))

goal_front : (done : List RawSession) (w : RawSession) (p : ℕ) (bs : List RawBound) (part : Part) (ts : List Placed) → KnownFile done (states.Within w (betweens.Goal p bs part)) ts → IsFileFront ts
goal_front done w p bs parts.Head ts h = head_front done w p bs ts h
goal_front done w p bs parts.Binders ts h = binders_front done w p bs ts h
goal_front done w p bs (parts.Bare names) ts h = bare_front done w p bs names ts h
goal_front done w p bs (parts.BareSort names) ts h = bare_sort_front done w p bs names ts h
goal_front done w p bs parts.BareEnd ts h = bare_end_front done w p bs ts h
goal_front done w p bs (parts.Grouped names) ts h = group_front done w p bs names ts h
goal_front done w p bs (parts.GroupedSort names) ts h = group_sort_front done w p bs names ts h
goal_front done w p bs parts.GroupedEnd ts h = group_end_front done w p bs ts h
goal_front done w p bs parts.NextGroup ts h = next_group_front done w p bs ts h
goal_front done w p bs (parts.Body r n) ts h = body_front done w p bs r n ts h
goal_front done w p bs (parts.Command e) ts h = command_front done w p bs e ts h
goal_front done w p bs (parts.ProofEnd e) ts h = proof_front done w p bs e ts h
goal_front done w p bs (parts.ModeAfterProof e) ts h = after_proof_front done w p bs e ts h
goal_front done w p bs (parts.ModeEnd e m) ts h = mode_front done w p bs e m ts h

name_end_front : (done : List RawSession) (n : Named) (ts : List Placed) → KnownFile done (states.NameEnd n) ts → IsFileFront ts
name_end_front done n ts h = by_token (done, states.NameEnd n) _ ts (sign signs.Dot 0) h refl (open_front done (record { name = n.name; goals = [] }) (ts ++ sign signs.Dot 0 ∷ []))

pub file_front : (f : FileRead) (ts : List Placed) → KnownFile f.0 f.1 ts → IsFileFront ts
file_front (done, states.Start) ts h = whole_front (done, states.Start) ts done h refl
file_front (done, states.Name) ts h = by_token (done, states.Name) _ ts (name (named some_name 0)) h refl (name_end_front done (named some_name 0) (ts ++ name (named some_name 0) ∷ []))
file_front (done, states.NameEnd n) ts h = name_end_front done n ts h
file_front (done, states.Within w betweens.Open) ts h = open_front done w ts h
file_front (done, states.Within w betweens.Ended) ts h = ended_front done w ts h
file_front (done, states.Within w betweens.QedEnd) ts h = by_token (done, states.Within w betweens.QedEnd) _ ts (sign signs.Dot 0) h refl (open_front done w (ts ++ sign signs.Dot 0 ∷ []))
file_front (done, states.Within w (betweens.Goal p bs part)) ts h = goal_front done w p bs part ts h
