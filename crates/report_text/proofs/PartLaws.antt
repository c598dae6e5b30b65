-- Parts of a line: the bytes up to a line feed, names, and goals.
use Rattle.std.proofs.Common.{◌≡◌, ◌≢◌, ℕ, zero, suc, ◌+◌, ◌-◌, ◌<◌, ◌≤◌, Bool, true, false, cond, not, List, [], ◌∷◌, ◌++◌, length, take, drop, Some, None, refl, sym, ap, subst, ◌∙◌, arith}
use Rattle.std.specs.Prelude.{nat_lt, ◌==◌, ◌||◌}
use Rattle.std.specs.List.{position, position_or_len, AllByRecursion}
use Rattle.std.proofs.lemmas.Bool.{eqb-true, ltb-true}
use Rattle.std.proofs.lemmas.List.{append-nil, length-drop, drop-drop}
use Rattle.std.proofs.Math.Seq.{take-length}
use Rattle.std.proofs.lemmas.Option.{same_Some}
use Rattle.cert_text.specs.Text.{has_line_feed}
use Rattle.cert_text.proofs.WordLaws.{guard_some}
use Rattle.goal_ast.specs.declared.goal.Goal.{Goal}
use Rattle.goal_ast.specs.declared.goal.Mode.{Mode}
use Rattle.goal_ast.specs.declared.goal.Name.{Name}
use Rattle.goal_token.specs.declared.token.Token.{Token}
use Rattle.goal_token.specs.declared.token.Token.TheVariants as token
use Rattle.goal_token.specs.declared.token.Placed.{Placed}
use Rattle.goal_token.specs.Spacing.{IsName, kinds_of}
use Rattle.goal_token.specs.Tokens.{tokens_of, tokens_at}
use Rattle.goal_token.proofs.SpacingLaws.{IsNamed, of_name_token, spells_name}
use Rattle.goal_sort.specs.declared.raw.RawGoal.{RawGoal}
use Rattle.goal_sort.specs.declared.raw.RawSession.{RawSession}
use Rattle.goal_sort.specs.IsSorted.{IsSorted}
use Rattle.goal_sort.proofs.AgainLaws.{one_sorting}
use Rattle.goal_text.specs.Files.{Reads}
use Rattle.goal_text.specs.Refusals.{IsWithin}
use Rattle.goal_text.proofs.FileLaws.{one_file}
use Rattle.goal_print.specs.Text.{goal_text}
use Rattle.goal_print.specs.ReadsBack.{ReadsBack, file_text, alone}
use Rattle.report_text.specs.machine.Parts.{SplitsLine, name_in, first_name, ReadsName, file_with, IsFileOf, ReadsFile, ReadsGoal}
use Rattle.report_text.proofs.PeelLaws.{NoFeed}

-- ---- the first line feed

abbrev is_feed : ℕ → Bool
is_feed c = c == 10

-- a line feed, and no line feed before it
record Splits (bytes : List ℕ) (n : ℕ) : Type 0 where
  before : NoFeed (take n bytes)
  text : bytes ≡ take n bytes ++ 10 ∷ drop (suc n) bytes

split_at : (bytes : List ℕ) (n : ℕ) → position_or_len is_feed bytes ≡ n → n < length bytes → Splits bytes n
split_at [] n e few = absurd (omega (arith, few))
split_at (c ∷ bytes) n e few = by_test (λ k. split_at bytes k) (c == 10) refl n e few
  where
    by_test : ((k : ℕ) → position_or_len is_feed bytes ≡ k → k < length bytes → Splits bytes k) → (b : Bool) → (c == 10) ≡ b → (n : ℕ)
        → cond (not b) (1 + position_or_len is_feed bytes) 0 ≡ n → n < length (c ∷ bytes) → Splits (c ∷ bytes) n
    by_test others true is zero e few = record { before = refl; text = ap (λ c. c ∷ bytes) (eqb-true c 10 is) }
    by_test others true is (suc n) e few = absurd (omega (arith, e))
    by_test others false is zero e few = absurd (omega (arith, e))
    by_test others false is (suc n) e few =
        let s = others n (omega (arith, e)) (omega (arith, few)) in
        record { before = ap (λ b. b || has_line_feed (take n bytes)) is ∙ s.before; text = ap (λ b. c ∷ b) s.text }

no_feed : (bytes : List ℕ) → length bytes ≤ position_or_len is_feed bytes → NoFeed bytes
no_feed [] many = refl
no_feed (c ∷ bytes) many = by_test (λ k. no_feed bytes k) (c == 10) refl many
  where
    by_test : (length bytes ≤ position_or_len is_feed bytes → NoFeed bytes) → (b : Bool) → (c == 10) ≡ b
        → length (c ∷ bytes) ≤ cond (not b) (1 + position_or_len is_feed bytes) 0 → NoFeed (c ∷ bytes)
    by_test others true is many = absurd (omega (arith, many))
    by_test others false is many = ap (λ b. b || has_line_feed bytes) is ∙ others (omega (arith, many))

-- what follows the line feed, as a slice
tail_is : (bytes r : List ℕ) (n : ℕ) → r ≡ drop n bytes → take (length r - 1) (drop 1 r) ≡ drop (suc n) bytes
tail_is bytes r n e =
    let all : length (drop 1 r) ≡ length r - 1 = length-drop 1 r in
    let whole : take (length r - 1) (drop 1 r) ≡ drop 1 r = ap (λ k. take k (drop 1 r)) (sym all) ∙ take-length (drop 1 r) in
    let next : n + 1 ≡ suc n = omega arith in
    whole ∙ ap (drop 1) e ∙ drop-drop 1 n bytes ∙ ap (λ k. drop k bytes) next

pub split_some : (bytes : List ℕ) (n : ℕ) (x r : List ℕ) → Some n ≡ position is_feed bytes → x ≡ take n bytes → r ≡ drop n bytes
    → SplitsLine bytes (Some (x, take (length r - 1) (drop 1 r)))
split_some bytes n x r e f h =
    let y = take (length r - 1) (drop 1 r) in
    let g : y ≡ drop (suc n) bytes = tail_is bytes r n h in
    let all = guard_some (nat_lt (position_or_len is_feed bytes) (length bytes)) (Some (position_or_len is_feed bytes)) n (sym e) in
    let place : position_or_len is_feed bytes ≡ n = same_Some (position_or_len is_feed bytes) n all.1 in
    let few : n < length bytes = subst (λ m. m < length bytes) place (ltb-true (position_or_len is_feed bytes) (length bytes) all.0) in
    let s = split_at bytes n place few in
    (ap has_line_feed f ∙ s.before, s.text ∙ ap (λ x. x ++ 10 ∷ drop (suc n) bytes) (sym f) ∙ ap (λ y. x ++ 10 ∷ y) (sym g))

many : (m n : ℕ) → nat_lt m n ≡ false → n ≤ m
many m n e = grind arith

pub split_none : (bytes : List ℕ) → None ≡ position is_feed bytes → SplitsLine bytes None
split_none bytes e = by_test (nat_lt (position_or_len is_feed bytes) (length bytes)) refl (sym e)
  where
    by_test : (b : Bool) → nat_lt (position_or_len is_feed bytes) (length bytes) ≡ b → cond b (Some (position_or_len is_feed bytes)) None ≡ None → NoFeed bytes
    by_test true few none = absurd cc
    by_test false few none = no_feed bytes (many (position_or_len is_feed bytes) (length bytes) few)

-- ---- names

-- the first token of a name's text is the name
abbrev name_of_text : List ℕ → Name
name_of_text text = record { bytes = text }

first_of_cut : (text : List ℕ) (ts more : List Placed) → kinds_of ts ≡ token.Name (name_of_text text) ∷ [] → first_name (ts ++ more) ≡ Some (name_of_text text)
first_of_cut text [] more e = absurd cc
first_of_cut text (t ∷ ts) more e = let first : t.token ≡ token.Name (name_of_text text) = cc in ap name_in first

pub name_is_first : (text : List ℕ) → IsName text → first_name (tokens_of text) ≡ Some (name_of_text text)
name_is_first text is =
    let cut = spells_name text is 0 [] tt in
    ap (λ t. first_name (tokens_at 0 t)) (sym (append-nil text)) ∙ ap first_name cut.tokens_are ∙ first_of_cut text cut.cut (tokens_at (0 + length text) []) cut.kinds_are

named_in : (t : Token) (x : Name) → IsNamed t → name_in t ≡ Some x → IsName x.bytes
named_in (token.Name y) x is e = subst (λ z. IsName z.bytes) (same_Some y x e) is
named_in t x is e = absurd cc

pub first_is_name : (ts : List Placed) (x : Name) → AllByRecursion (λ (t : Placed). IsNamed t.token) ts → first_name ts ≡ Some x → IsName x.bytes
first_is_name [] x are e = absurd cc
first_is_name (t ∷ ts) x are e = named_in t.token x are.0 e

-- what the first token says of a text
pub name_found : (text : List ℕ) (x : Name) → Some x ≡ first_name (tokens_of text) → x.bytes ≡ text → ReadsName text (Some x)
name_found text x e same = (subst IsName same (first_is_name (tokens_of text) x (of_name_token text) (sym e)), same)

pub other_name : (text : List ℕ) (x : Name) → Some x ≡ first_name (tokens_of text) → x.bytes ≢ text → ReadsName text None
other_name text x e other = λ is. other (ap (λ y. y.bytes) (same_Some x (name_of_text text) (e ∙ name_is_first text is)))

pub no_name : (text : List ℕ) → None ≡ first_name (tokens_of text) → ReadsName text None
no_name text e = λ is. absurd (let same : None ≡ Some (name_of_text text) = e ∙ name_is_first text is in cc)

-- ---- goals

-- the file of a goal is that with its text
file_is : (mode : Mode) (goal : Goal) → goal.mode ≡ mode → file_text goal ≡ file_with mode (goal_text goal)
file_is mode goal moded = ap (λ m. file_with m (goal_text goal)) moded

pub goal_found : (mode : Mode) (text : List ℕ) (goal : Goal) → IsFileOf (file_with mode text) goal → (goal.mode ≡ mode) × (goal_text goal ≡ text)
    → ReadsGoal mode text (Some goal)
goal_found mode text goal f is =
    let same : file_with mode text ≡ file_text goal = ap (file_with mode) (sym is.1) ∙ sym (file_is mode goal is.0) in (
      is.0,
      record {
        raw = f.raw;
        reads = subst (λ b. Reads b (alone f.raw)) same f.reads;
        within = subst
            (λ b. IsWithin (tokens_of b)) same f.within;
        sorted = f.sorted;
      },
      is.1,
    )

-- a goal that reads back with this text is that of the file
of_file : (mode : Mode) (text : List ℕ) (goal : Goal) → goal.mode ≡ mode → ReadsBack goal → goal_text goal ≡ text → IsFileOf (file_with mode text) goal
of_file mode text goal moded back e =
    let same : file_text goal ≡ file_with mode text = file_is mode goal moded ∙ ap (file_with mode) e in
    record {
      raw = back.raw;
      reads = subst (λ b. Reads b (alone back.raw)) same back.reads;
      within = subst
          (λ b. IsWithin (tokens_of b)) same back.within;
      sorted = back.sorted;
    }

abbrev first_goal : RawGoal → List RawGoal → RawGoal
first_goal d [] = d
first_goal d (raw ∷ raws) = raw

abbrev first_raw : RawGoal → List RawSession → RawGoal
first_raw d [] = d
first_raw d (s ∷ ss) = first_goal d s.goals

pub alone_same : (r s : RawGoal) → alone r ≡ alone s → r ≡ s
alone_same r s e = ap (first_raw r) e

one_goal : (bytes : List ℕ) (g h : Goal) → IsFileOf bytes g → IsFileOf bytes h → g ≡ h
one_goal bytes g h i j =
    let raws : i.raw ≡ j.raw = alone_same i.raw j.raw (one_file i.reads j.reads) in
    one_sorting j.raw g h (subst (λ r. IsSorted r g) raws i.sorted) j.sorted

pub other_goal : (mode : Mode) (text : List ℕ) (goal : Goal) → IsFileOf (file_with mode text) goal → ((goal.mode ≡ mode) × (goal_text goal ≡ text) → ⊥)
    → ReadsGoal mode text None
other_goal mode text goal f other = λ h moded back e.
    let same : h ≡ goal = one_goal (file_with mode text) h goal (of_file mode text h moded back e) f in
    other (subst (λ g. (g.mode ≡ mode) × (goal_text g ≡ text)) same (moded, e))

pub no_goal_file : (mode : Mode) (text : List ℕ) → ReadsFile (file_with mode text) None → ReadsGoal mode text None
no_goal_file mode text none = λ h moded back e. none h (of_file mode text h moded back e)
