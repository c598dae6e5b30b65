-- Each goal of a file within the limits is readable, binds names and has a short body.
use Rattle.std.proofs.Common.{◌≡◌, ◌≢◌, ℕ, zero, suc, ◌+◌, ◌-◌, ◌≤◌, ◌<◌, Bool, true, false, List, [], ◌∷◌, ◌++◌, length, map, Some, ◌⊎◌, inl, inr, refl, sym, ap, subst, ◌∙◌, append_assoc, length-append, arith}
use Rattle.std.specs.Prelude.{nat_le}
use Rattle.std.specs.List.{AllByRecursion}
use Rattle.std.proofs.lemmas.List.{length-map, map-append}
use Rattle.goal_ast.specs.declared.term.Sort.{Sort}
use Rattle.goal_token.specs.declared.token.Keyword.TheVariants as keywords
use Rattle.goal_token.specs.declared.token.Sign.TheVariants as signs
use Rattle.goal_token.specs.declared.token.Token.{Token}
use Rattle.goal_token.specs.declared.token.Token.TheVariants as tokens
use Rattle.goal_token.specs.declared.token.Placed.{Placed}
use Rattle.goal_token.specs.Tokens.{tokens_of, IsSmallToken, AreSmall}
use Rattle.goal_token.proofs.SmallLaws.{all_small}
use Rattle.goal_token.proofs.SpacingLaws.{IsNamed, of_name_token}
use Rattle.goal_sort.specs.declared.raw.RawBound.{RawBound}
use Rattle.goal_sort.specs.declared.raw.RawExpr.{RawExpr}
use Rattle.goal_sort.specs.declared.raw.RawGoal.{RawGoal}
use Rattle.goal_sort.specs.declared.raw.RawSession.{RawSession}
use Rattle.goal_text.specs.declared.state.Named.{Named}
use Rattle.goal_text.specs.Grammar.{sign, Expr}
use Rattle.goal_text.specs.Files.{word, sort, name, group, bounds, Groups, first_group, next_group, Prefixes, no_prefix, bare_prefix, grouped_prefix, mode_word, Goals, no_goal, next_goal, Sessions, no_session, next_session, Reads}
use Rattle.goal_text.specs.Refusals.{IsFront, HasNo, BodySoFar, names_in, BoundSoFar, IsWithin}
use Rattle.goal_text.specs.GoalsRead.{IsGoalOfFile, AreGoalsOfFile}
use Rattle.goal_text.proofs.StandingLaws.{HasRead}
use Rattle.goal_text.proofs.CleanLaws.{body_has_no_dot, body_begins, has_no_append, names_append, names_no_comma, names_count, groups_no_comma, groups_count}
use Rattle.goal_text.proofs.ReadableLaws.{all_of_first, all_of_second, all_more, few_nodes, fitting_literals, prefixes_bind}
use Rattle.mm_num.proofs.ListLaws.{all_join}

-- ---- where a goal stands

-- the prefixes and the body of a goal among the tokens
pub record StandsIn (ts : List Placed) (raw : RawGoal) : Type 0 where
  pub outer : List Placed
  pub place : ℕ
  pub head : List Placed
  pub body : List Placed
  pub dot : ℕ
  pub rest : List Placed
  pub spelled : ts ≡ outer ++ word keywords.Goal place ∷ (head ++ (body ++ sign signs.Dot dot ∷ rest))
  pub prefixes : Prefixes raw.bound head
  pub expression : Expr 100 raw.body body

-- it stands there also where more tokens follow
stands_before : (ts us : List Placed) (raw : RawGoal) → StandsIn ts raw → StandsIn (ts ++ us) raw
stands_before ts us raw s = record {
  outer = s.outer;
  place = s.place;
  head = s.head;
  body = s.body;
  dot = s.dot;
  rest = s.rest ++ us;
  spelled = ap (λ ts. ts ++ us) s.spelled ∙ regroup s.outer (word keywords.Goal s.place) s.head s.body (sign signs.Dot s.dot) s.rest us;
  prefixes = s.prefixes;
  expression = s.expression;
}
  where
    regroup : (a : List Placed) (x : Placed) (b c : List Placed) (y : Placed) (d e : List Placed) → (a ++ x ∷ (b ++ (c ++ y ∷ d))) ++ e ≡ a ++ x ∷ (b ++ (c ++ y ∷ (d ++ e)))
    regroup a x b c y d e = simp append_assoc

-- or where more tokens stand before
stands_after : (ts us : List Placed) (raw : RawGoal) → StandsIn us raw → StandsIn (ts ++ us) raw
stands_after ts us raw s = record {
  outer = ts ++ s.outer;
  place = s.place;
  head = s.head;
  body = s.body;
  dot = s.dot;
  rest = s.rest;
  spelled = ap (λ us. ts ++ us) s.spelled ∙ sym (append_assoc ts s.outer _);
  prefixes = s.prefixes;
  expression = s.expression;
}

goals_stand : {gs : List RawGoal} {ts : List Placed} → Goals gs ts → AllByRecursion (StandsIn ts) gs
goals_stand no_goal = tt
goals_stand (next_goal {gs = gs} {bs = bs} {e = e} {ts = ts} {us = us} {vs = vs} {ws = ws} {xs = xs} m p q r t before prefixes body proves ends) =
    let last : List Placed = ws ++ word (mode_word m) r ∷ sign signs.Dot t ∷ xs in
    let more : List Placed = word keywords.Goal p ∷ (us ++ (vs ++ sign signs.Dot q ∷ last)) in
    let raw : RawGoal = record { mode = m; bound = bs; body = e; at = p } in
    all_join (StandsIn (ts ++ more)) gs (raw ∷ []) (all_more (StandsIn ts) (StandsIn (ts ++ more)) gs (stands_before ts more) (goals_stand before))
    (record { outer = ts; place = p; head = us; body = vs; dot = q; rest = last; spelled = refl; prefixes = prefixes; expression = body }, tt)

pub sessions_stand : {ss : List RawSession} {ts : List Placed} → Sessions ss ts → AllByRecursion (λ (s : RawSession). AllByRecursion (StandsIn ts) s.goals) ss
sessions_stand no_session = tt
sessions_stand (next_session {ss = ss} {gs = gs} {ts = ts} {us = us} n p q before goals) =
    let front : List Placed = word keywords.Session p ∷ name n ∷ sign signs.Dot q ∷ [] in
    let all : List Placed = ts ++ word keywords.Session p ∷ name n ∷ sign signs.Dot q ∷ us in
    let last : RawSession = record { name = n.name; goals = gs } in
    all_join (λ (s : RawSession). AllByRecursion (StandsIn all) s.goals) ss (last ∷ [])
    (all_more (λ (s : RawSession). AllByRecursion (StandsIn ts) s.goals) (λ (s : RawSession). AllByRecursion (StandsIn all) s.goals) ss (λ s. all_more (StandsIn ts) (StandsIn all) s.goals (stands_before ts (front ++ us))) (sessions_stand before))
    (all_more (StandsIn us) (StandsIn all) gs (λ raw h. stands_after ts (front ++ us) raw (stands_after front us raw h)) (goals_stand goals), tt)

-- ---- the element after some others

record Cut {A : Type 0} (n : ℕ) (xs : List A) : Type 0 where
  pub front : List A
  pub next : A
  pub back : List A
  pub whole : xs ≡ front ++ next ∷ back
  pub size : length front ≡ n

cut : {A : Type 0} (n : ℕ) (xs : List A) → n < length xs → Cut n xs
cut n [] lt = absurd (omega (arith, lt))
cut zero (x ∷ xs) lt = record { front = []; next = x; back = xs; whole = refl; size = refl }
cut (suc n) (x ∷ xs) lt =
    let k = cut n xs (omega (arith, lt)) in
    record { front = x ∷ k.front; next = k.next; back = k.back; whole = ap (λ xs. x ∷ xs) k.whole; size = omega (arith, k.size) }

-- at most so many, or more
more_or_not : (n m : ℕ) → (m ≤ n) ⊎ (n < m)
more_or_not n m = by_test (nat_le m n) refl
  where
    by_test : (b : Bool) → nat_le m n ≡ b → (m ≤ n) ⊎ (n < m)
    by_test true e = inl (grind arith)
    by_test false e = inr (grind arith)

-- ---- a body is short

pub first_has_no : (k : Token) (ts us : List Placed) → HasNo k (ts ++ us) → HasNo k ts
first_has_no k [] us h = tt
first_has_no k (t ∷ ts) us h = (h.0, first_has_no k ts us h.1)

pub second_has_no : (k : Token) (ts us : List Placed) → HasNo k (ts ++ us) → HasNo k us
second_has_no k [] us h = h
second_has_no k (t ∷ ts) us h = second_has_no k ts us h.1

-- an expression alone has been read
expression_read : {e : RawExpr} {ts : List Placed} → Expr 100 e ts → HasRead ([], Some (e, 100)) ts
expression_read {ts = ts} d = ([], ts, refl, refl, d, omega arith)

-- the token of a body after so many others, and all before it
record LongBody (n : ℕ) (ts : List Placed) : Type 0 where
  pub before : List Placed
  pub next : Placed
  pub after : List Placed
  pub whole : ts ≡ before ++ next ∷ after
  pub begun : BodySoFar before n
  pub no_dot : next.token ≢ tokens.Sign signs.Dot

-- the front of a body is a body so far
body_begun : (n : ℕ) (outer : List Placed) (p : ℕ) (bs : List RawBound) (head front back : List Placed) (e : RawExpr) → Prefixes bs head → Expr 100 e (front ++ back) → length front ≡ n → 0 < n
    → BodySoFar (outer ++ word keywords.Goal p ∷ (head ++ front)) n
body_begun n outer p bs head [] back e prefixes d size some = absurd (omega (arith, size, some))
body_begun n outer p bs head (t ∷ front) back e prefixes d size some = record {
  outer = outer;
  place = p;
  bound = bs;
  head = head;
  prefixes = prefixes;
  first = t;
  others = front;
  spelled = refl;
  no_prefix = body_begins ([], Some (e, 100)) t (front ++ back) (expression_read d);
  no_dot = first_has_no (tokens.Sign signs.Dot) (t ∷ front) back (body_has_no_dot ([], Some (e, 100)) (t ∷ front ++ back) (expression_read d));
  size = omega (arith, size);
}

long_body : (n : ℕ) (ts : List Placed) (raw : RawGoal) (s : StandsIn ts raw) → 0 < n → n < length s.body → LongBody n ts
long_body n ts raw s some more =
    let k = cut n s.body more in
    let d : Expr 100 raw.body (k.front ++ k.next ∷ k.back) = subst (λ ts. Expr 100 raw.body ts) k.whole s.expression in
    record {
      before = s.outer ++ word keywords.Goal s.place ∷ (s.head ++ k.front);
      next = k.next;
      after = k.back ++ sign signs.Dot s.dot ∷ s.rest;
      whole = s.spelled ∙ ap (λ body. s.outer ++ word keywords.Goal s.place ∷ (s.head ++ (body ++ sign signs.Dot s.dot ∷ s.rest))) k.whole ∙ regroup s.outer (word keywords.Goal s.place) s.head k.front k.next k.back (sign signs.Dot s.dot ∷ s.rest);
      begun = body_begun n s.outer s.place raw.bound s.head k.front (k.next ∷ k.back) raw.body s.prefixes d k.size some;
      no_dot = (second_has_no (tokens.Sign signs.Dot) k.front (k.next ∷ k.back) (body_has_no_dot ([], Some (raw.body, 100)) (k.front ++ k.next ∷ k.back) (expression_read d))).0;
    }
  where
    regroup : (a : List Placed) (x : Placed) (b c : List Placed) (y : Placed) (d e : List Placed) → a ++ x ∷ (b ++ ((c ++ y ∷ d) ++ e)) ≡ (a ++ x ∷ (b ++ c)) ++ y ∷ (d ++ e)
    regroup a x b c y d e = simp append_assoc

-- tokens that a file begins with, as all of its tokens are known
begins_file : (ts before after : List Placed) (t : Placed) (ss : List RawSession) → Sessions ss ts → ts ≡ before ++ t ∷ after → IsFront (before ++ t ∷ [])
begins_file ts before after t ss read whole = (after, ss, subst (λ ts. Sessions ss ts) (whole ∙ sym (append_assoc before (t ∷ []) after)) read)

pub short_body : (ts : List Placed) (ss : List RawSession) (raw : RawGoal) → Sessions ss ts → IsWithin ts → (s : StandsIn ts raw) → length s.body ≤ 2048
short_body ts ss raw read within s = either (more_or_not 2048 (length s.body))
  where
    either : (length s.body ≤ 2048) ⊎ (2048 < length s.body) → length s.body ≤ 2048
    either (inl few) = few
    either (inr more) =
        let l = long_body 2048 ts raw s (omega arith) more in
        absurd ((within l.before l.after l.next l.whole).0 (begins_file ts l.before l.after l.next ss read l.whole, inl (l.begun, l.no_dot)))

-- ---- a goal binds few names

-- among names that are bound, the one after so many others
record NameAfter (n : ℕ) (ts : List Placed) : Type 0 where
  pub others : List Placed
  pub next : Named
  pub after : List Placed
  pub whole : ts ≡ others ++ name next ∷ after
  pub no_comma : HasNo (tokens.Sign signs.Comma) others
  pub size : n ≤ names_in others

name_after : (n : ℕ) (names : List Named) → n < length names → NameAfter n (map name names)
name_after n names lt =
    let k = cut n names lt in
    record {
      others = map name k.front;
      next = k.next;
      after = map name k.back;
      whole = ap (map name) k.whole ∙ map-append name k.front (k.next ∷ k.back);
      no_comma = names_no_comma k.front;
      size = omega (arith, names_count k.front, k.size);
    }

-- it stands there also where more tokens follow
name_before : (n : ℕ) (ts us : List Placed) → NameAfter n ts → NameAfter n (ts ++ us)
name_before n ts us k = record {
  others = k.others;
  next = k.next;
  after = k.after ++ us;
  whole = ap (λ ts. ts ++ us) k.whole ∙ append_assoc k.others (name k.next ∷ k.after) us;
  no_comma = k.no_comma;
  size = k.size;
}

-- or where tokens without a comma stand before
name_past : (m n l : ℕ) (ts us : List Placed) → HasNo (tokens.Sign signs.Comma) ts → m ≤ names_in ts → l ≤ m + n → NameAfter n us → NameAfter l (ts ++ us)
name_past m n l ts us free many le k = record {
  others = ts ++ k.others;
  next = k.next;
  after = k.after;
  whole = ap (λ us. ts ++ us) k.whole ∙ sym (append_assoc ts k.others (name k.next ∷ k.after));
  no_comma = has_no_append (tokens.Sign signs.Comma) ts k.others free k.no_comma;
  size = omega (arith, many, le, names_append ts k.others, k.size);
}

bounds_size : (s : Sort) (names : List Named) → length (bounds s names) ≡ length names
bounds_size s names = length-map names _

group_name : (n : ℕ) (names : List Named) (p : ℕ) (s : Sort) (q : ℕ) (more : List Placed) → n < length (bounds s names) → NameAfter n (group names p s q ++ more)
group_name n names p s q more lt =
    name_before n (group names p s q) more (name_before n (map name names) (sign signs.Colon p ∷ sort s q ∷ []) (name_after n names (omega (arith, lt, bounds_size s names))))

-- past the parenthesis before a group
grouped_name : (n : ℕ) (names : List Named) (p q r t : ℕ) (s : Sort) → n < length (bounds s names) → NameAfter n (sign signs.Open p ∷ (group names q s r ++ sign signs.Close t ∷ []))
grouped_name n names p q r t s lt =
    name_past 0 n n (sign signs.Open p ∷ []) (group names q s r ++ sign signs.Close t ∷ []) ((λ e. cc), tt) (omega arith) (omega arith) (group_name n names q s r (sign signs.Close t ∷ []) lt)

groups_name : {bs : List RawBound} {ts : List Placed} (n : ℕ) → Groups bs ts → n < length bs → NameAfter n ts
groups_name n (first_group p q r t names s some) lt = grouped_name n names p q r t s lt
groups_name n (next_group {bs = bs} {ts = ts} p q r t names s before some) lt = either (more_or_not n (length bs)) (λ lt. groups_name n before lt)
  where
    more : List Placed
    more = sign signs.Open p ∷ (group names q s r ++ sign signs.Close t ∷ [])

    either : (length bs ≤ n) ⊎ (n < length bs) → (n < length bs → NameAfter n ts) → NameAfter n (ts ++ more)
    either (inr lt) k = name_before n ts more (k lt)
    either (inl le) k =
        name_past (length bs) (n - length bs) n ts more (groups_no_comma before) (omega (arith, groups_count before)) (omega arith) (grouped_name (n - length bs) names p q r t s (omega (arith, lt, length-append bs (bounds s names))))

-- among the tokens of prefixes, the name after so many others, in a prefix that no comma has ended
pub record LongPrefix (n : ℕ) (ts : List Placed) : Type 0 where
  pub bound : List RawBound
  pub head : List Placed
  pub prefixes : Prefixes bound head
  pub opening : ℕ
  pub others : List Placed
  pub next : Named
  pub after : List Placed
  pub whole : ts ≡ head ++ word keywords.Forall opening ∷ (others ++ name next ∷ after)
  pub no_comma : HasNo (tokens.Sign signs.Comma) others
  pub size : n ≤ length bound + names_in others

prefix_before : (n : ℕ) (ts us : List Placed) → LongPrefix n ts → LongPrefix n (ts ++ us)
prefix_before n ts us k = record {
  bound = k.bound;
  head = k.head;
  prefixes = k.prefixes;
  opening = k.opening;
  others = k.others;
  next = k.next;
  after = k.after ++ us;
  whole = ap (λ ts. ts ++ us) k.whole ∙ regroup k.head (word keywords.Forall k.opening) k.others (name k.next) k.after us;
  no_comma = k.no_comma;
  size = k.size;
}
  where
    regroup : (a : List Placed) (x : Placed) (b : List Placed) (y : Placed) (c d : List Placed) → (a ++ x ∷ (b ++ y ∷ c)) ++ d ≡ a ++ x ∷ (b ++ y ∷ (c ++ d))
    regroup a x b y c d = simp append_assoc

-- in the last prefix
prefix_last : (n m : ℕ) (bs : List RawBound) (ts us : List Placed) (p : ℕ) → Prefixes bs ts → n ≤ length bs + m → NameAfter m us → LongPrefix n (ts ++ word keywords.Forall p ∷ us)
prefix_last n m bs ts us p prefixes le k = record {
  bound = bs;
  head = ts;
  prefixes = prefixes;
  opening = p;
  others = k.others;
  next = k.next;
  after = k.after;
  whole = ap (λ us. ts ++ word keywords.Forall p ∷ us) k.whole;
  no_comma = k.no_comma;
  size = omega (arith, le, k.size);
}

pub long_prefix : {bs : List RawBound} {ts : List Placed} (n : ℕ) → Prefixes bs ts → n < length bs → LongPrefix n ts
long_prefix n no_prefix lt = absurd (omega (arith, lt))
long_prefix n (bare_prefix {bs = bs} {ts = ts} p q r t names s before some) lt = either (more_or_not n (length bs)) (λ lt. long_prefix n before lt)
  where
    more : List Placed
    more = group names q s r ++ sign signs.Comma t ∷ []

    either : (length bs ≤ n) ⊎ (n < length bs) → (n < length bs → LongPrefix n ts) → LongPrefix n (ts ++ word keywords.Forall p ∷ more)
    either (inr lt) k = prefix_before n ts (word keywords.Forall p ∷ more) (k lt)
    either (inl le) k =
        prefix_last n (n - length bs) bs ts more p before (omega arith) (group_name (n - length bs) names q s r (sign signs.Comma t ∷ []) (omega (arith, lt, length-append bs (bounds s names))))
long_prefix n (grouped_prefix {bs = bs} {cs = cs} {ts = ts} {us = us} p t before groups) lt = either (more_or_not n (length bs)) (λ lt. long_prefix n before lt)
  where
    more : List Placed
    more = us ++ sign signs.Comma t ∷ []

    either : (length bs ≤ n) ⊎ (n < length bs) → (n < length bs → LongPrefix n ts) → LongPrefix n (ts ++ word keywords.Forall p ∷ more)
    either (inr lt) k = prefix_before n ts (word keywords.Forall p ∷ more) (k lt)
    either (inl le) k =
        prefix_last n (n - length bs) bs ts more p before (omega arith) (name_before (n - length bs) us (sign signs.Comma t ∷ []) (groups_name (n - length bs) groups (omega (arith, lt, length-append bs cs))))

-- the name that a goal binds after so many others, and all before it
record LongBound (n : ℕ) (ts : List Placed) : Type 0 where
  pub before : List Placed
  pub next : Named
  pub after : List Placed
  pub whole : ts ≡ before ++ name next ∷ after
  pub begun : BoundSoFar before n

long_bound : (n : ℕ) (ts : List Placed) (raw : RawGoal) (s : StandsIn ts raw) → n < length raw.bound → LongBound n ts
long_bound n ts raw s more =
    let k = long_prefix n s.prefixes more in
    let last : List Placed = s.body ++ sign signs.Dot s.dot ∷ s.rest in
    record {
      before = s.outer ++ word keywords.Goal s.place ∷ (k.head ++ word keywords.Forall k.opening ∷ k.others);
      next = k.next;
      after = k.after ++ last;
      whole = s.spelled ∙ ap (λ head. s.outer ++ word keywords.Goal s.place ∷ (head ++ last)) k.whole ∙ regroup s.outer (word keywords.Goal s.place) k.head (word keywords.Forall k.opening) k.others (name k.next) k.after last;
      begun = record {
        outer = s.outer;
        place = s.place;
        bound = k.bound;
        head = k.head;
        prefixes = k.prefixes;
        opening = k.opening;
        others = k.others;
        spelled = refl;
        no_comma = k.no_comma;
        size = k.size;
      };
    }
  where
    regroup : (a : List Placed) (x : Placed) (b : List Placed) (y : Placed) (c : List Placed) (z : Placed) (d e : List Placed)
        → a ++ x ∷ ((b ++ y ∷ (c ++ z ∷ d)) ++ e) ≡ (a ++ x ∷ (b ++ y ∷ c)) ++ z ∷ (d ++ e)
    regroup a x b y c z d e = simp append_assoc

pub few_bound : (ts : List Placed) (ss : List RawSession) (raw : RawGoal) → Sessions ss ts → IsWithin ts → StandsIn ts raw → length raw.bound ≤ 256
few_bound ts ss raw read within s = either (more_or_not 256 (length raw.bound))
  where
    either : (length raw.bound ≤ 256) ⊎ (256 < length raw.bound) → length raw.bound ≤ 256
    either (inl few) = few
    either (inr more) =
        let l = long_bound 256 ts raw s more in
        absurd ((within l.before l.after (name l.next) l.whole).0 (begins_file ts l.before l.after (name l.next) ss read l.whole, inr (l.begun, l.next.name, refl)))

-- ---- each goal

goal_is_read : (ts : List Placed) (ss : List RawSession) (raw : RawGoal) → Sessions ss ts → IsWithin ts → AreSmall ts → AllByRecursion (λ (t : Placed). IsNamed t.token) ts → StandsIn ts raw → IsGoalOfFile raw
goal_is_read ts ss raw read within small named s =
    let few = few_bound ts ss raw read within s in
    let short = short_body ts ss raw read within s in
    let nodes = few_nodes s.expression in
    record {
      readable = record { few = few; literals = fitting_literals s.expression (in_body (λ t. IsSmallToken t.token) small); size = omega (arith, short, nodes) };
      named = prefixes_bind s.prefixes (in_head (λ t. IsNamed t.token) named);
      tokens = s.body;
      spelled = s.expression;
      short = short;
    }
  where
    last : List Placed
    last = s.body ++ sign signs.Dot s.dot ∷ s.rest

    after_goal : (P : Placed → Type 0) → AllByRecursion P ts → AllByRecursion P (s.head ++ last)
    after_goal P all = (all_of_second P s.outer (word keywords.Goal s.place ∷ (s.head ++ last)) (subst (λ ts. AllByRecursion P ts) s.spelled all)).1

    in_head : (P : Placed → Type 0) → AllByRecursion P ts → AllByRecursion P s.head
    in_head P all = all_of_first P s.head last (after_goal P all)

    in_body : (P : Placed → Type 0) → AllByRecursion P ts → AllByRecursion P s.body
    in_body P all = all_of_first P s.body (sign signs.Dot s.dot ∷ s.rest) (all_of_second P s.head last (after_goal P all))

-- a file within the limits has such goals alone
pub all_read : (bytes : List ℕ) (ss : List RawSession) → Reads bytes ss → IsWithin (tokens_of bytes) → AreGoalsOfFile ss
all_read bytes ss read within =
    let ts : List Placed = tokens_of bytes in
    all_more (λ (s : RawSession). AllByRecursion (StandsIn ts) s.goals) (λ (s : RawSession). AllByRecursion IsGoalOfFile s.goals) ss
    (λ s. all_more (StandsIn ts) IsGoalOfFile s.goals (λ raw. goal_is_read ts ss raw read within (all_small 0 0 bytes) (of_name_token bytes))) (sessions_stand read)
