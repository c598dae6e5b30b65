-- The walk over a term finds its translation, and its operations at their first places.
use Rattle.std.specs.Prelude.{◌≡◌, ℕ, ◌+◌, ◌==◌, ℤ, List, [], ◌∷◌, ◌++◌, map, Bool, true, false, not, if◌then◌else◌, refl}
use Rattle.std.specs.List.{AllByRecursion, list_any}
use Rattle.std.proofs.Common.{ap, sym, ◌∙◌, subst, append_assoc}
use Rattle.goal_ast.specs.declared.term.Operator.TheVariants as operators
use Rattle.goal_ast.specs.declared.term.Term.{Term}
use Rattle.goal_ast.specs.declared.term.Term.TheVariants as terms
use Rattle.goal_ast.specs.declared.term.Term.TheOpen.{Term-F}
use Rattle.goal_ast.specs.declared.term.Term.TheViews.{roll-Term, out-Term, out-roll-Term}
use Rattle.goal_ast.specs.declared.term.Term.TheFolds.{map-Term, fold-roll-Term, para-roll-Term, ind-Term}
use Rattle.goal_ast.specs.Equality.{parts_of, same_term}
use Rattle.goal_ast.proofs.CountingLaws.{both_same}
use Rattle.zify.specs.declared.term.ZTerm.{ZTerm}
use Rattle.zify.specs.declared.term.ZTerm.TheVariants as zterms
use Rattle.zify.specs.declared.form.ZForm.{ZForm}
use Rattle.zify.specs.declared.shape.Shape.{Shape}
use Rattle.zify.specs.Operations.{is_plain, has_variable, where_true, operations_level, operations, with_new, firsts}
use Rattle.zify.specs.Translation.{Table, number_of, variable_of, remainder_term, plain_call, term_level, term_of, difference_condition, call_condition, call_2_condition, quotient_condition, condition_level, condition_of}
use Rattle.zify.specs.machine.Table.{State}
use Rattle.zify.specs.machine.Walking.{same_shape, place_of, with_shape, number_in, has_number, with_number, Walked, shape, with_place, placed, entered, variable_in, is_new, with_condition, operated, subtracted, divided, reduced, called, Walk, walk_level, walk}
use Rattle.zify.proofs.ListLaws.{all_by}
use Rattle.zify.proofs.TableLaws.{Has, new_is, new_has, new_keeps, all_new}
use Rattle.zify.proofs.NumberLaws.{any_in, position_in, any_of_map, position_of_map, map_in, map_join, id_in, Keeps, keeps_self, keeps_on, keeps_more, keeps_new, keeps_firsts, firsts_join, new_id, ids_test, ids_stay, shape_of, shape_in, PartsIn, Closed, shape_stays, IsNode, opened, shape_tests}

-- what was found so far: the distinct terms, the operations among them, and the conditions after those at the start
pub record Represents (e : Table) (start : List ZForm) (seen ops : List Term) (s : State) : Type 0 where
  pub closed : AllByRecursion (Closed seen) seen
  pub shapes : s.shapes ≡ map (shape_in seen) seen
  pub found : AllByRecursion (Has seen) ops
  pub operations : s.operations ≡ map (id_in seen) ops
  pub conditions : s.conditions ≡ start ++ map (condition_of e) ops

-- ---- a node's place

has_shape : (seen : List Term) (d : Term-F Term) (t : Term) → IsNode seen d t → AllByRecursion (Closed seen) seen → list_any (same_shape (shape_of seen d)) (map (shape_in seen) seen) ≡ list_any (same_term t) seen
has_shape seen d t n c = any_of_map (same_shape (shape_of seen d)) (shape_in seen) seen
    ∙ any_in (Closed seen) (λ u. same_shape (shape_of seen d) (shape_in seen u)) (same_term t) (shape_tests seen d t n) seen c

shape_at : (seen : List Term) (d : Term-F Term) (t : Term) → IsNode seen d t → AllByRecursion (Closed seen) seen → place_of (shape_of seen d) (map (shape_in seen) seen) ≡ id_in seen t
shape_at seen d t n c = position_of_map (same_shape (shape_of seen d)) (shape_in seen) seen
    ∙ position_in (Closed seen) (λ u. same_shape (shape_of seen d) (shape_in seen u)) (same_term t) (shape_tests seen d t n) seen c

placed_at : (e : Table) (start : List ZForm) (seen ops : List Term) (s : State) (d : Term-F Term) (t : Term) → Represents e start seen ops s → IsNode seen d t
    → place_of (shape_of seen d) s.shapes ≡ id_in (with_new seen t) t
placed_at e start seen ops s d t w n = ap (λ ss. place_of (shape_of seen d) ss) w.shapes ∙ shape_at seen d t n w.closed ∙ new_id seen t

closed_stays : (ts us : List Term) → Keeps ts us → (t : Term) → Closed ts t → Closed us t
closed_stays ts us f t h = all_by (Has ts) (Has us) (λ v k. (f v k).0) (parts_of (out-Term t)) h

closed_new : (seen : List Term) (d : Term-F Term) (t : Term) → IsNode seen d t → AllByRecursion (Closed seen) seen → AllByRecursion (Closed (with_new seen t)) (with_new seen t)
closed_new seen d t n c =
    let us = with_new seen t in
    let here : Closed seen t = subst (λ (z : Term-F Term). PartsIn seen z) (sym (opened seen d t n)) n.parts in
    all_new (Closed us) seen t (all_by (Closed seen) (Closed us) (closed_stays seen us (keeps_new seen t)) seen c) (closed_stays seen us (keeps_new seen t) t here)

shapes_more : (seen : List Term) (d : Term-F Term) (t : Term) → IsNode seen d t → AllByRecursion (Closed seen) seen → (ss : List Shape) → ss ≡ map (shape_in seen) seen
    → ss ++ shape_of seen d ∷ [] ≡ map (shape_in (seen ++ t ∷ [])) (seen ++ t ∷ [])
shapes_more seen d t n c ss h =
    let us = seen ++ t ∷ [] in
    let k = keeps_more seen (t ∷ []) in
    both_same (λ a b. a ++ b ∷ []) _ _ _ _ (h ∙ map_in (Closed seen) (shape_in seen) (shape_in us) (λ u i. shape_stays seen us k (out-Term u) i) seen c)
    (shape_stays seen us k d n.parts ∙ ap (λ (z : Term-F Term). shape_of us z) (sym (opened seen d t n)))
    ∙ sym (map_join (shape_in us) seen (t ∷ []))

shapes_new : (seen : List Term) (d : Term-F Term) (t : Term) → IsNode seen d t → AllByRecursion (Closed seen) seen → (ss : List Shape) → ss ≡ map (shape_in seen) seen
    → with_shape ss (shape_of seen d) ≡ map (shape_in (with_new seen t)) (with_new seen t)
shapes_new seen d t n c ss h =
    let has = ap (λ xs. list_any (same_shape (shape_of seen d)) xs) h ∙ has_shape seen d t n c in
    new_is (λ us. with_shape ss (shape_of seen d) ≡ map (shape_in us) us) seen t
    (λ i. ap (λ (b : Bool). if b then ss else ss ++ shape_of seen d ∷ []) (has ∙ i) ∙ h)
    (λ i. ap (λ (b : Bool). if b then ss else ss ++ shape_of seen d ∷ []) (has ∙ i) ∙ shapes_more seen d t n c ss h)

still_found : (seen ops : List Term) (t : Term) → AllByRecursion (Has seen) ops → AllByRecursion (Has (with_new seen t)) ops
still_found seen ops t h = all_by (Has seen) (Has (with_new seen t)) (λ v k. new_keeps seen t v k) ops h

node_represented : (e : Table) (start : List ZForm) (seen ops : List Term) (s : State) (d : Term-F Term) (t : Term) → Represents e start seen ops s → IsNode seen d t
    → Represents e start (with_new seen t) ops (with_place (shape_of seen d) s)
node_represented e start seen ops s d t w n = record {
  closed = closed_new seen d t n w.closed;
  shapes = shapes_new seen d t n w.closed s.shapes w.shapes;
  found = still_found seen ops t w.found;
  operations = w.operations ∙ ids_stay seen (with_new seen t) (keeps_new seen t) ops w.found;
  conditions = w.conditions;
}

-- ---- an operation's rank

has_rank : (seen ops : List Term) (t : Term) → Has seen t → AllByRecursion (Has seen) ops → has_number (id_in seen t) (map (id_in seen) ops) ≡ list_any (same_term t) ops
has_rank seen ops t h f = any_of_map (λ m. id_in seen t == m) (id_in seen) ops ∙ any_in (Has seen) (λ u. id_in seen t == id_in seen u) (same_term t) (λ u k. ids_test seen t u h k) ops f

rank_at : (seen ops : List Term) (t : Term) → Has seen t → AllByRecursion (Has seen) ops → number_in (id_in seen t) (map (id_in seen) ops) ≡ id_in ops t
rank_at seen ops t h f = position_of_map (λ m. id_in seen t == m) (id_in seen) ops ∙ position_in (Has seen) (λ u. id_in seen t == id_in seen u) (same_term t) (λ u k. ids_test seen t u h k) ops f

-- the numbers of a node and of the operations, among the terms with the node
pub record IsRanked (seen ops : List Term) (t : Term) (p : ℕ) (ns : List ℕ) : Type 0 where
  pub has : Has seen t
  pub place : p ≡ id_in seen t
  pub found : AllByRecursion (Has seen) ops
  pub numbers : ns ≡ map (id_in seen) ops

ranked_has : (seen ops : List Term) (t : Term) (p : ℕ) (ns : List ℕ) → IsRanked seen ops t p ns → has_number p ns ≡ list_any (same_term t) ops
ranked_has seen ops t p ns r = both_same has_number _ _ _ _ r.place r.numbers ∙ has_rank seen ops t r.has r.found

ranked_new : (seen ops : List Term) (t : Term) (p : ℕ) (ns : List ℕ) → IsRanked seen ops t p ns → with_number ns p ≡ map (id_in seen) (with_new ops t)
ranked_new seen ops t p ns r =
    let has = ranked_has seen ops t p ns r in
    new_is (λ us. with_number ns p ≡ map (id_in seen) us) ops t
    (λ i. ap (λ (b : Bool). if b then ns else ns ++ p ∷ []) (has ∙ i) ∙ r.numbers)
    (λ i. ap (λ (b : Bool). if b then ns else ns ++ p ∷ []) (has ∙ i) ∙ both_same (λ a b. a ++ b ∷ []) _ _ _ _ r.numbers r.place ∙ sym (map_join (id_in seen) ops (t ∷ [])))

ranked_conditions : (e : Table) (start : List ZForm) (seen ops : List Term) (t : Term) (p : ℕ) (ns : List ℕ) (cs : List ZForm) (g : ZForm) → IsRanked seen ops t p ns → cs ≡ start ++ map (condition_of e) ops → g ≡ condition_of e t
    → (if not (has_number p ns) then cs ++ g ∷ [] else cs) ≡ start ++ map (condition_of e) (with_new ops t)
ranked_conditions e start seen ops t p ns cs g r h k =
    let has = ranked_has seen ops t p ns r in
    new_is (λ us. (if not (has_number p ns) then cs ++ g ∷ [] else cs) ≡ start ++ map (condition_of e) us) ops t
    (λ i. ap (λ (b : Bool). if not b then cs ++ g ∷ [] else cs) (has ∙ i) ∙ h)
    (λ i. ap (λ (b : Bool). if not b then cs ++ g ∷ [] else cs) (has ∙ i) ∙ both_same (λ a b. a ++ b ∷ []) _ _ _ _ h k
    ∙ append_assoc start (map (condition_of e) ops) (condition_of e t ∷ []) ∙ ap (λ xs. start ++ xs) (sym (map_join (condition_of e) ops (t ∷ []))))

node_ranked : (e : Table) (start : List ZForm) (seen ops : List Term) (s : State) (d : Term-F Term) (t : Term) → Represents e start seen ops s → IsNode seen d t
    → IsRanked (with_new seen t) ops t (place_of (shape_of seen d) s.shapes) s.operations
node_ranked e start seen ops s d t w n = record {
  has = new_has seen t;
  place = placed_at e start seen ops s d t w n;
  found = still_found seen ops t w.found;
  numbers = w.operations ∙ ids_stay seen (with_new seen t) (keeps_new seen t) ops w.found;
}

operation_represented : (e : Table) (start : List ZForm) (seen ops : List Term) (s : State) (d : Term-F Term) (t : Term) (g : ZForm) → Represents e start seen ops s → IsNode seen d t → g ≡ condition_of e t
    → Represents e start (with_new seen t) (with_new ops t) (with_condition (is_new (shape_of seen d) s) g (entered (shape_of seen d) s))
operation_represented e start seen ops s d t g w n h =
    let r = node_ranked e start seen ops s d t w n in
    record {
      closed = closed_new seen d t n w.closed;
      shapes = shapes_new seen d t n w.closed s.shapes w.shapes;
      found = all_new (Has (with_new seen t)) ops t r.found r.has;
      operations = ranked_new (with_new seen t) ops t (place_of (shape_of seen d) s.shapes) s.operations r;
      conditions = ranked_conditions e start (with_new seen t) ops t (place_of (shape_of seen d) s.shapes) s.operations s.conditions g r w.conditions h;
    }

variable_at : (e : Table) (start : List ZForm) (seen ops : List Term) (s : State) (d : Term-F Term) (t : Term) → Represents e start seen ops s → IsNode seen d t → Keeps (with_new ops t) e.operations
    → variable_in e.bound (shape_of seen d) s ≡ number_of e t
variable_at e start seen ops s d t w n k =
    let r = node_ranked e start seen ops s d t w n in
    ap (λ m. e.bound + m) (both_same number_in _ _ _ _ r.place r.numbers ∙ rank_at (with_new seen t) ops t r.has r.found ∙ new_id ops t ∙ (k t (new_has ops t)).1)

-- ---- what the walk finds

pub record Finds (e : Table) (start : List ZForm) (seen ops : List Term) (t : Term) (w : Walked) : Type 0 where
  pub after : List Term
  pub keeps : Keeps seen after
  pub has : Has after t
  pub place : w.place ≡ id_in after t
  pub term : w.term ≡ term_of e t
  pub state : Represents e start after ops w.state

plain_node : (e : Table) (start : List ZForm) (first seen ops : List Term) (d : Term-F Term) (t : Term) (n : Shape) (z : ZTerm) (s : State)
    → Keeps first seen → Represents e start seen ops s → IsNode seen d t → n ≡ shape_of seen d → z ≡ term_of e t → Finds e start first ops t (placed n z s)
plain_node e start first seen ops d t n z s f w i h k = subst (λ (m : Shape). Finds e start first ops t (placed m z s)) (sym h) (record {
  after = with_new seen t;
  keeps = keeps_on first seen (with_new seen t) f (keeps_new seen t);
  has = new_has seen t;
  place = placed_at e start seen ops s d t w i;
  term = k;
  state = node_represented e start seen ops s d t w i;
})

operation_node : (e : Table) (start : List ZForm) (first seen ops : List Term) (d : Term-F Term) (t : Term) (n : Shape) (f : ZTerm → ZForm) (s : State)
    → Keeps first seen → Represents e start seen ops s → IsNode seen d t → n ≡ shape_of seen d → f (variable_of e t) ≡ condition_of e t → variable_of e t ≡ term_of e t → Keeps (with_new ops t) e.operations
    → Finds e start first (with_new ops t) t (operated e.bound n f s)
operation_node e start first seen ops d t n f s g w i h j k l =
    let v = ap (λ m. zterms.Var m) (variable_at e start seen ops s d t w i l) in
    subst (λ (m : Shape). Finds e start first (with_new ops t) t (operated e.bound m f s)) (sym h) (record {
      after = with_new seen t;
      keeps = keeps_on first seen (with_new seen t) g (keeps_new seen t);
      has = new_has seen t;
      place = placed_at e start seen ops s d t w i;
      term = v ∙ k;
      state = operation_represented e start seen ops s d t (f (zterms.Var (variable_in e.bound (shape_of seen d) s))) w i (ap f v ∙ j);
    })

-- a node that is an operation where a test holds
tested_node : (b : Bool) (e : Table) (start : List ZForm) (first seen ops : List Term) (d : Term-F Term) (t : Term) (n : Shape) (f : ZTerm → ZForm) (z : ZTerm) (s : State)
    → Keeps first seen → Represents e start seen ops s → IsNode seen d t → n ≡ shape_of seen d → f (variable_of e t) ≡ condition_of e t → (if b then variable_of e t else z) ≡ term_of e t
    → Keeps (firsts ops (where_true b t)) e.operations → Finds e start first (firsts ops (where_true b t)) t (if b then operated e.bound n f s else placed n z s)
tested_node true e start first seen ops d t n f z s g w i h j k l = operation_node e start first seen ops d t n f s g w i h j k l
tested_node false e start first seen ops d t n f z s g w i h j k l = plain_node e start first seen ops d t n z s g w i h k

-- and one that is an operation where it fails
untested_node : (b : Bool) (e : Table) (start : List ZForm) (first seen ops : List Term) (d : Term-F Term) (t : Term) (n : Shape) (f : ZTerm → ZForm) (z : ZTerm) (s : State)
    → Keeps first seen → Represents e start seen ops s → IsNode seen d t → n ≡ shape_of seen d → f (variable_of e t) ≡ condition_of e t → (if b then z else variable_of e t) ≡ term_of e t
    → Keeps (firsts ops (where_true (not b) t)) e.operations → Finds e start first (firsts ops (where_true (not b) t)) t (if b then placed n z s else operated e.bound n f s)
untested_node true e start first seen ops d t n f z s g w i h j k l = plain_node e start first seen ops d t n z s g w i h k
untested_node false e start first seen ops d t n f z s g w i h j k l = operation_node e start first seen ops d t n f s g w i h j k l

pub keeps_front : (ops xs ys us : List Term) → Keeps (firsts ops (xs ++ ys)) us → Keeps (firsts ops xs) us
keeps_front ops xs ys us k = keeps_on (firsts ops xs) (firsts ops (xs ++ ys)) us (subst (λ o. Keeps (firsts ops xs) o) (sym (firsts_join ops xs ys)) (keeps_firsts (firsts ops xs) ys)) k

pub keeps_back : (ops xs ys us : List Term) → Keeps (firsts ops (xs ++ ys)) us → Keeps (firsts (firsts ops xs) ys) us
keeps_back ops xs ys us k = subst (λ o. Keeps o us) (firsts_join ops xs ys) k

joined_finds : (e : Table) (start : List ZForm) (seen ops xs ys : List Term) (t u : Term) (w : Walked) → u ≡ t → Finds e start seen (firsts (firsts ops xs) ys) u w → Finds e start seen (firsts ops (xs ++ ys)) t w
joined_finds e start seen ops xs ys t u w h f = subst (λ o. Finds e start seen o t w) (sym (firsts_join ops xs ys)) (subst (λ (v : Term). Finds e start seen (firsts (firsts ops xs) ys) v w) h f)

-- from earlier on
finds_from : (e : Table) (start : List ZForm) (first seen ops : List Term) (t : Term) (w : Walked) → Keeps first seen → Finds e start seen ops t w → Finds e start first ops t w
finds_from e start first seen ops t w k f = record { after = f.after; keeps = keeps_on first seen f.after k f.keeps; has = f.has; place = f.place; term = f.term; state = f.state }

abbrev pub IsWalked : Table → List ZForm → Term → Type 0
IsWalked e start t = (seen ops : List Term) (s : State) → Represents e start seen ops s → Keeps (firsts ops (operations t)) e.operations
    → Finds e start seen (firsts ops (operations t)) t (walk e.bound t s)

abbrev Known : Table → List ZForm → Type 0
Known e start = (t : Term) × IsWalked e start t

abbrev terms_in : (e : Table) (start : List ZForm) → Term-F (Known e start) → Term-F Term
terms_in e start k = map-Term (Known e start) Term (λ p. p.0) k

-- two parts, one after the other
pub record FindsTwo (e : Table) (start : List ZForm) (seen ops : List Term) (a b : Term) (p q : Walked) : Type 0 where
  pub after : List Term
  pub keeps : Keeps seen after
  pub has_left : Has after a
  pub has_right : Has after b
  pub left : p.place ≡ id_in after a
  pub right : q.place ≡ id_in after b
  pub term_left : p.term ≡ term_of e a
  pub term_right : q.term ≡ term_of e b
  pub state : Represents e start after ops q.state

pub two_walked : (e : Table) (start : List ZForm) (a b : Term) → IsWalked e start a → IsWalked e start b → (seen ops : List Term) (s : State) → Represents e start seen ops s
    → Keeps (firsts ops (operations a ++ operations b)) e.operations
    → FindsTwo e start seen (firsts ops (operations a ++ operations b)) a b (walk e.bound a s) (walk e.bound b (walk e.bound a s).state)
two_walked e start a b i j seen ops s w k =
    let p = walk e.bound a s in
    let q = walk e.bound b p.state in
    let f = i seen ops s w (keeps_front ops (operations a) (operations b) e.operations k) in
    let g = j f.after (firsts ops (operations a)) p.state f.state (keeps_back ops (operations a) (operations b) e.operations k) in
    record {
      after = g.after;
      keeps = keeps_on seen f.after g.after f.keeps g.keeps;
      has_left = (g.keeps a f.has).0;
      has_right = g.has;
      left = f.place ∙ (g.keeps a f.has).1;
      right = g.place;
      term_left = f.term;
      term_right = g.term;
      state = subst (λ o. Represents e start g.after o q.state) (sym (firsts_join ops (operations a) (operations b))) g.state;
    }

condition_at : (e : Table) (d : Term-F Term) (t : Term) → roll-Term d ≡ t → condition_of e t ≡ condition_level (map-Term Term ZTerm (term_of e) d) (variable_of e t)
condition_at e d t h = ap (λ (z : Term-F Term). condition_level (map-Term Term ZTerm (term_of e) z) (variable_of e t)) (ap out-Term (sym h) ∙ out-roll-Term d)

term_at_node : (e : Table) (d : Term-F Term) (t : Term) → roll-Term d ≡ t → term_of e t ≡ term_level e (map-Term Term (Term × ZTerm) (λ u. (u, term_of e u)) d)
term_at_node e d t h = ap (term_of e) (sym h) ∙ para-roll-Term ZTerm (term_level e) d

divided_finds : (e : Table) (start : List ZForm) (seen ops : List Term) (a : Term) (k : ℤ) (p : Walked) → (f : Finds e start seen ops a p) → Keeps (with_new ops (terms.Div a k)) e.operations
    → Finds e start f.after (with_new ops (terms.Div a k)) (terms.Div a k) (divided e.bound k p)
divided_finds e start seen ops a k p f h =
    let d = Term-F.Div a k in
    let t = terms.Div a k in
    operation_node e start f.after f.after ops d t (shape (operators.Div k) p.place 0) (quotient_condition p.term k) p.state (keeps_self f.after) f.state
    (record { rolls = terms.rolls-Div a k; parts = (f.has, tt) }) (ap (λ n. shape (operators.Div k) n 0) f.place)
    (ap (λ z. quotient_condition z k (variable_of e t)) f.term ∙ sym (condition_at e d t (terms.rolls-Div a k)))
    (sym (term_at_node e d t (terms.rolls-Div a k))) h

level : (e : Table) (start : List ZForm) (k : Term-F (Known e start)) (seen ops : List Term) (s : State) → Represents e start seen ops s
    → Keeps (firsts ops (operations_level (map-Term Term (Term × List Term) (λ t. (t, operations t)) (terms_in e start k)))) e.operations
    → Finds e start seen (firsts ops (operations_level (map-Term Term (Term × List Term) (λ t. (t, operations t)) (terms_in e start k)))) (roll-Term (terms_in e start k))
    (walk_level e.bound (map-Term Term Walk (walk e.bound) (terms_in e start k)) s)
level e start (Term-F.Lit n) seen ops s w h =
    let d = Term-F.Lit n in
    plain_node e start seen seen ops d (roll-Term d) (shape (operators.Lit n) 0 0) (zterms.Lit n) s (keeps_self seen) w (record { rolls = refl; parts = tt }) refl (sym (term_at_node e d (roll-Term d) refl))
level e start (Term-F.Var v) seen ops s w h =
    let d = Term-F.Var v in
    plain_node e start seen seen ops d (roll-Term d) (shape (operators.Var v) 0 0) (zterms.Var v) s (keeps_self seen) w (record { rolls = refl; parts = tt }) refl (sym (term_at_node e d (roll-Term d) refl))
level e start (Term-F.Neg a) seen ops s w h =
    let d = Term-F.Neg a.0 in
    let p = walk e.bound a.0 s in
    let f = a.1 seen ops s w h in
    plain_node e start seen f.after (firsts ops (operations a.0)) d (roll-Term d) (shape operators.Neg p.place 0) (zterms.Neg p.term) p.state f.keeps f.state (record { rolls = refl; parts = (f.has, tt) })
    (ap (λ n. shape operators.Neg n 0) f.place) (ap (λ z. zterms.Neg z) f.term ∙ sym (term_at_node e d (roll-Term d) refl))
level e start (Term-F.Add a b) seen ops s w h =
    let d = Term-F.Add a.0 b.0 in
    let p = walk e.bound a.0 s in
    let q = walk e.bound b.0 p.state in
    let f = two_walked e start a.0 b.0 a.1 b.1 seen ops s w h in
    plain_node e start seen f.after (firsts ops (operations a.0 ++ operations b.0)) d (roll-Term d) (shape operators.Add p.place q.place) (zterms.Add p.term q.term) q.state f.keeps f.state
    (record { rolls = refl; parts = (f.has_left, (f.has_right, tt)) }) (both_same (λ m n. shape operators.Add m n) _ _ _ _ f.left f.right)
    (both_same (λ x y. zterms.Add x y) _ _ _ _ f.term_left f.term_right ∙ sym (term_at_node e d (roll-Term d) refl))
level e start (Term-F.Sub r a b) seen ops s w h =
    let d = Term-F.Sub r a.0 b.0 in
    let t = terms.Sub r a.0 b.0 in
    let p = walk e.bound a.0 s in
    let q = walk e.bound b.0 p.state in
    let xs = operations a.0 ++ operations b.0 in
    let ys = where_true (not (is_plain r)) t in
    let f = two_walked e start a.0 b.0 a.1 b.1 seen ops s w (keeps_front ops xs ys e.operations h) in
    joined_finds e start seen ops xs ys (roll-Term d) t (subtracted e.bound r p q) (sym (terms.rolls-Sub r a.0 b.0))
    (untested_node (is_plain r) e start seen f.after (firsts ops xs) d t (shape (operators.Sub r) p.place q.place) (difference_condition r p.term q.term) (zterms.Sub p.term q.term) q.state f.keeps f.state
    (record { rolls = terms.rolls-Sub r a.0 b.0; parts = (f.has_left, (f.has_right, tt)) }) (both_same (λ m n. shape (operators.Sub r) m n) _ _ _ _ f.left f.right)
    (both_same (λ x y. difference_condition r x y (variable_of e t)) _ _ _ _ f.term_left f.term_right ∙ sym (condition_at e d t (terms.rolls-Sub r a.0 b.0)))
    (both_same (λ x y. if is_plain r then zterms.Sub x y else variable_of e t) _ _ _ _ f.term_left f.term_right ∙ sym (term_at_node e d t (terms.rolls-Sub r a.0 b.0)))
    (keeps_back ops xs ys e.operations h))
level e start (Term-F.Mul a b) seen ops s w h =
    let d = Term-F.Mul a.0 b.0 in
    let p = walk e.bound a.0 s in
    let q = walk e.bound b.0 p.state in
    let f = two_walked e start a.0 b.0 a.1 b.1 seen ops s w h in
    plain_node e start seen f.after (firsts ops (operations a.0 ++ operations b.0)) d (roll-Term d) (shape operators.Mul p.place q.place) (zterms.Mul p.term q.term) q.state f.keeps f.state
    (record { rolls = refl; parts = (f.has_left, (f.has_right, tt)) }) (both_same (λ m n. shape operators.Mul m n) _ _ _ _ f.left f.right)
    (both_same (λ x y. zterms.Mul x y) _ _ _ _ f.term_left f.term_right ∙ sym (term_at_node e d (roll-Term d) refl))
level e start (Term-F.Pow a k) seen ops s w h =
    let d = Term-F.Pow a.0 k in
    let p = walk e.bound a.0 s in
    let f = a.1 seen ops s w h in
    plain_node e start seen f.after (firsts ops (operations a.0)) d (roll-Term d) (shape (operators.Pow k) p.place 0) (zterms.Pow p.term k) p.state f.keeps f.state (record { rolls = refl; parts = (f.has, tt) })
    (ap (λ n. shape (operators.Pow k) n 0) f.place) (ap (λ z. zterms.Pow z k) f.term ∙ sym (term_at_node e d (roll-Term d) refl))
level e start (Term-F.Div a k) seen ops s w h =
    let d = Term-F.Div a.0 k in
    let t = terms.Div a.0 k in
    let p = walk e.bound a.0 s in
    let f = a.1 seen ops s w (keeps_front ops (operations a.0) (t ∷ []) e.operations h) in
    joined_finds e start seen ops (operations a.0) (t ∷ []) (roll-Term d) t (divided e.bound k p) (sym (terms.rolls-Div a.0 k))
    (finds_from e start seen f.after (with_new (firsts ops (operations a.0)) t) t (divided e.bound k p) f.keeps
    (divided_finds e start seen (firsts ops (operations a.0)) a.0 k p f (keeps_back ops (operations a.0) (t ∷ []) e.operations h)))
level e start (Term-F.Rem a k) seen ops s w h =
    let d = Term-F.Rem a.0 k in
    let t = terms.Div a.0 k in
    let p = walk e.bound a.0 s in
    let q = divided e.bound k p in
    let o = firsts ops (operations a.0) in
    let f = a.1 seen ops s w (keeps_front ops (operations a.0) (t ∷ []) e.operations h) in
    let g = divided_finds e start seen o a.0 k p f (keeps_back ops (operations a.0) (t ∷ []) e.operations h) in
    joined_finds e start seen ops (operations a.0) (t ∷ []) (roll-Term d) (roll-Term d) (reduced e.bound k p) refl
    (plain_node e start seen g.after (with_new o t) d (roll-Term d) (shape (operators.Rem k) p.place 0) (remainder_term p.term k q.term) q.state (keeps_on seen f.after g.after f.keeps g.keeps) g.state
    (record { rolls = refl; parts = ((g.keeps a.0 f.has).0, tt) }) (ap (λ n. shape (operators.Rem k) n 0) (f.place ∙ (g.keeps a.0 f.has).1))
    (both_same (λ x y. remainder_term x k y) _ _ _ _ f.term (g.term ∙ term_at_node e (Term-F.Div a.0 k) t (terms.rolls-Div a.0 k)) ∙ sym (term_at_node e d (roll-Term d) refl)))
level e start (Term-F.Call1 c a) seen ops s w h =
    let d = Term-F.Call1 c a.0 in
    let t = terms.Call1 c a.0 in
    let p = walk e.bound a.0 s in
    let ys = where_true (has_variable c) t in
    let f = a.1 seen ops s w (keeps_front ops (operations a.0) ys e.operations h) in
    joined_finds e start seen ops (operations a.0) ys (roll-Term d) t (called e.bound c p) (sym (terms.rolls-Call1 c a.0))
    (tested_node (has_variable c) e start seen f.after (firsts ops (operations a.0)) d t (shape (operators.Call1 c) p.place 0) (call_condition c p.term) (plain_call c p.term) p.state f.keeps f.state
    (record { rolls = terms.rolls-Call1 c a.0; parts = (f.has, tt) }) (ap (λ n. shape (operators.Call1 c) n 0) f.place)
    (ap (λ z. call_condition c z (variable_of e t)) f.term ∙ sym (condition_at e d t (terms.rolls-Call1 c a.0)))
    (ap (λ z. if has_variable c then variable_of e t else plain_call c z) f.term ∙ sym (term_at_node e d t (terms.rolls-Call1 c a.0)))
    (keeps_back ops (operations a.0) ys e.operations h))
level e start (Term-F.Call2 c a b) seen ops s w h =
    let d = Term-F.Call2 c a.0 b.0 in
    let t = terms.Call2 c a.0 b.0 in
    let p = walk e.bound a.0 s in
    let q = walk e.bound b.0 p.state in
    let xs = operations a.0 ++ operations b.0 in
    let f = two_walked e start a.0 b.0 a.1 b.1 seen ops s w (keeps_front ops xs (t ∷ []) e.operations h) in
    joined_finds e start seen ops xs (t ∷ []) (roll-Term d) t (operated e.bound (shape (operators.Call2 c) p.place q.place) (call_2_condition c p.term q.term) q.state) (sym (terms.rolls-Call2 c a.0 b.0))
    (operation_node e start seen f.after (firsts ops xs) d t (shape (operators.Call2 c) p.place q.place) (call_2_condition c p.term q.term) q.state f.keeps f.state
    (record { rolls = terms.rolls-Call2 c a.0 b.0; parts = (f.has_left, (f.has_right, tt)) }) (both_same (λ m n. shape (operators.Call2 c) m n) _ _ _ _ f.left f.right)
    (both_same (λ x y. call_2_condition c x y (variable_of e t)) _ _ _ _ f.term_left f.term_right ∙ sym (condition_at e d t (terms.rolls-Call2 c a.0 b.0)))
    (sym (term_at_node e d t (terms.rolls-Call2 c a.0 b.0))) (keeps_back ops xs (t ∷ []) e.operations h))

moved : (e : Table) (start : List ZForm) (seen ops xs ys : List Term) (t : Term) (w v : Walked) → xs ≡ ys → w ≡ v → Finds e start seen (firsts ops ys) t v → Finds e start seen (firsts ops xs) t w
moved e start seen ops xs ys t w v i j f = subst (λ (o : List Term). Finds e start seen (firsts ops o) t w) (sym i) (subst (λ (u : Walked). Finds e start seen (firsts ops ys) t u) (sym j) f)

pub term_walked : (e : Table) (start : List ZForm) (t : Term) → IsWalked e start t
term_walked e start = ind-Term (IsWalked e start) (λ d k q. subst (λ (z : Term-F Term). IsWalked e start (roll-Term z)) q (step k))
  where
    step : (k : Term-F (Known e start)) → IsWalked e start (roll-Term (terms_in e start k))
    step k seen ops s w h =
        let d = terms_in e start k in
        let o = para-roll-Term (List Term) operations_level d in
        let v = ap (λ (f : Walk). f s) (fold-roll-Term Walk (walk_level e.bound) d) in
        moved e start seen ops _ _ (roll-Term d) _ _ o v (level e start k seen ops s w (subst (λ (us : List Term). Keeps (firsts ops us) e.operations) o h))
