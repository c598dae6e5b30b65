-- What stands in a body, and what stands in prefixes.
use Rattle.std.proofs.Common.{◌≡◌, ◌≢◌, ℕ, ◌+◌, false, List, [], ◌∷◌, ◌++◌, length, map, Some, None, refl, sym, ap, ◌∙◌, length-append, arith}
use Rattle.std.proofs.lemmas.List.{length-map}
use Rattle.mm_num.proofs.OptionLaws.{bind_some}
use Rattle.goal_ast.specs.declared.term.Sort.{Sort}
use Rattle.goal_token.specs.declared.token.Keyword.TheVariants as keywords
use Rattle.goal_token.specs.declared.token.Sign.TheVariants as signs
use Rattle.goal_token.specs.declared.token.Token.{Token}
use Rattle.goal_token.specs.declared.token.Token.TheVariants as tokens
use Rattle.goal_token.specs.declared.token.Placed.{Placed}
use Rattle.goal_sort.specs.declared.raw.RawBound.{RawBound}
use Rattle.goal_text.specs.declared.state.Named.{Named}
use Rattle.goal_text.specs.Grammar.{sign}
use Rattle.goal_text.specs.Operands.{Reading, with_token, with_tokens}
use Rattle.goal_text.specs.Files.{sort, name, group, bounds, Groups, first_group, next_group}
use Rattle.goal_text.specs.Steps.{kind_of, is_dot, is_forall}
use Rattle.goal_text.specs.Refusals.{HasNo, names_in}
use Rattle.goal_text.proofs.LandingLaws.{lands, tokens_append}
use Rattle.goal_text.proofs.StandingLaws.{HasRead, is_front}
use Rattle.goal_text.proofs.FileLaws.{no_dot, no_forall}

-- ---- what no list has

pub has_no_append : (k : Token) (ts us : List Placed) → HasNo k ts → HasNo k us → HasNo k (ts ++ us)
has_no_append k [] us a b = b
has_no_append k (t ∷ ts) us a b = (a.0, has_no_append k ts us a.1 b)

pub names_append : (ts us : List Placed) → names_in (ts ++ us) ≡ names_in ts + names_in us
names_append [] us = omega arith
names_append (t ∷ ts) us = omega (arith, names_append ts us)

-- ---- a body

dot_free : (t : Placed) → is_dot (kind_of t.token) ≡ false → t.token ≢ tokens.Sign signs.Dot
dot_free t e is = let k = ap (λ k. is_dot (kind_of k)) is in cc

forall_free : (t : Placed) → is_forall (kind_of t.token) ≡ false → t.token ≢ tokens.Keyword keywords.Forall
forall_free t e is = let k = ap (λ k. is_forall (kind_of k)) is in cc

dots_free : (r s : Reading) (ts : List Placed) → with_tokens r ts ≡ Some s → HasNo (tokens.Sign signs.Dot) ts
dots_free r s [] is = tt
dots_free r s (t ∷ ts) is =
    let k = bind_some (with_token r t) (λ q. with_tokens q ts) s is in
    (dot_free t (no_dot r k.0 t k.1), dots_free k.0 s ts k.2)

-- what was read of an expression was read from the beginning on
pub body_run : (r : Reading) (ts : List Placed) → HasRead r ts → (s : Reading) × (with_tokens ([], None) ts ≡ Some s)
body_run r ts h =
    let f = is_front r ts h in
    let k = lands f.2 [] (omega arith) in
    let b = bind_some (with_tokens ([], None) ts) (λ s. with_tokens s f.0) _ (sym (tokens_append ([], None) ts f.0) ∙ k.read) in
    (b.0, b.1)

pub body_has_no_dot : (r : Reading) (ts : List Placed) → HasRead r ts → HasNo (tokens.Sign signs.Dot) ts
body_has_no_dot r ts h = let k = body_run r ts h in dots_free ([], None) k.0 ts k.1

pub body_begins : (r : Reading) (t : Placed) (ts : List Placed) → HasRead r (t ∷ ts) → t.token ≢ tokens.Keyword keywords.Forall
body_begins r t ts h =
    let k = body_run r (t ∷ ts) h in
    let b = bind_some (with_token ([], None) t) (λ q. with_tokens q ts) k.0 k.1 in
    forall_free t (no_forall b.0 t b.1)

-- ---- prefixes

pub names_no_comma : (names : List Named) → HasNo (tokens.Sign signs.Comma) (map name names)
names_no_comma [] = tt
names_no_comma (n ∷ names) = ((λ e. cc), names_no_comma names)

pub names_count : (names : List Named) → names_in (map name names) ≡ length names
names_count [] = refl
names_count (n ∷ names) = omega (arith, names_count names)

group_no_comma : (names : List Named) (p q r t : ℕ) (s : Sort) → HasNo (tokens.Sign signs.Comma) (sign signs.Open p ∷ (group names q s r ++ sign signs.Close t ∷ []))
group_no_comma names p q r t s =
    ((λ e. cc), has_no_append (tokens.Sign signs.Comma) (group names q s r) (sign signs.Close t ∷ []) (has_no_append (tokens.Sign signs.Comma) (map name names) (sign signs.Colon q ∷ sort s r ∷ []) (names_no_comma names) ((λ e. cc), ((λ e. cc), tt))) ((λ e. cc), tt))

group_count : (names : List Named) (p q r t : ℕ) (s : Sort) → names_in (sign signs.Open p ∷ (group names q s r ++ sign signs.Close t ∷ [])) ≡ length (bounds s names)
group_count names p q r t s =
    let inner : List Placed = map name names ++ sign signs.Colon q ∷ sort s r ∷ [] in
    let first : names_in (inner ++ sign signs.Close t ∷ []) ≡ names_in inner + names_in (sign signs.Close t ∷ []) = names_append inner (sign signs.Close t ∷ []) in
    let second : names_in inner ≡ names_in (map name names) + names_in (sign signs.Colon q ∷ sort s r ∷ []) = names_append (map name names) (sign signs.Colon q ∷ sort s r ∷ []) in
    let third : names_in (map name names) ≡ length names = names_count names in
    let last : length (bounds s names) ≡ length names = length-map names _ in
    let sum : names_in (inner ++ sign signs.Close t ∷ []) ≡ length (bounds s names) = omega (arith, first, second, third, last) in
    omega (arith, sum)

-- groups in parentheses have no comma, and as many names as they bind
pub groups_no_comma : {bs : List RawBound} {ts : List Placed} → Groups bs ts → HasNo (tokens.Sign signs.Comma) ts
groups_no_comma (first_group p q r t names s some) = group_no_comma names p q r t s
groups_no_comma (next_group {ts = ts} p q r t names s before some) = has_no_append (tokens.Sign signs.Comma) ts _ (groups_no_comma before) (group_no_comma names p q r t s)

pub groups_count : {bs : List RawBound} {ts : List Placed} → Groups bs ts → names_in ts ≡ length bs
groups_count (first_group p q r t names s some) = group_count names p q r t s
groups_count (next_group {bs = bs} {ts = ts} p q r t names s before some) =
    let more : List Placed = sign signs.Open p ∷ (group names q s r ++ sign signs.Close t ∷ []) in
    let first : names_in (ts ++ more) ≡ names_in ts + names_in more = names_append ts more in
    let one : names_in ts ≡ length bs = groups_count before in
    let two : names_in more ≡ length (bounds s names) = group_count names p q r t s in
    let sum : length (bs ++ bounds s names) ≡ length bs + length (bounds s names) = length-append bs (bounds s names) in
    let all : names_in (ts ++ more) ≡ length (bs ++ bounds s names) = omega (arith, first, one, two, sum) in
    all
