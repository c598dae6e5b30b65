-- The rows with the only values put for their variables, and what stands within the trunk.
use Rattle.std.specs.Prelude.{◌≡◌, ℕ, zero, suc, ◌+◌, ◌*◌, ◌^◌, ◌<◌, ◌≤◌, max, ℤ, nat_eq, List, [], ◌∷◌, ◌++◌, map, length, take, Bool, true, false, cond, ◌&&◌, ◌||◌, Some, slice_get, refl}
use Rattle.std.proofs.Common.{ap, sym, ◌∙◌, subst, arith, get_or, eqb-true, append_assoc, append-nil, length-append}
use Rattle.std.proofs.lemmas.Bool.{and_parts, and_from}
use Rattle.std.proofs.lemmas.List.{take_all, length-map}
use Rattle.std.proofs.lemmas.Option.{slice_get_read}
use Rattle.std.specs.List.{AllByRecursion, IsDistinct, list_any}
use Rattle.mm_num.proofs.ListLaws.{all_join, all_split}
use Rattle.mm_poly.specs.declared.term.Term.{Term}
use Rattle.mm_poly.specs.Poly.{value}
use Rattle.cert_kit.specs.declared.row.Op.{Op}
use Rattle.cert_kit.specs.declared.row.PRow.{PRow}
use Rattle.cert_kit.specs.declared.cert.Step.{Step}
use Rattle.cert_kit.specs.declared.cert.Cert.{Cert}
use Rattle.cert_kit.specs.Row.{Compares, Holds, Solves}
use Rattle.cert_kit.specs.Acceptance.{IsGood}
use Rattle.cert_kit.specs.Depth.{steps_depth, steps_in_range, close_has_constants_in_range}
use Rattle.cert_kit.specs.Making.{Makes}
use Rattle.cert_kit.specs.Variables.{poly_variables}
use Rattle.cert_kit.proofs.MakerLaws.{makes_none, makes_both, good_after}
use Rattle.cert_kit.proofs.VariableLaws.{poly_local}
use Rattle.box_enum.specs.declared.numbered.Choice.{Choice}
use Rattle.box_enum.specs.declared.numbered.Numbered.{Numbered}
use Rattle.box_enum.specs.declared.standing.Standing.{Standing}
use Rattle.box_enum.specs.declared.standing.Ground.{Ground}
use Rattle.box_enum.specs.declared.wall.Wall.{Wall}
use Rattle.box_enum.specs.machine.Putting.{IsTame, IsWithinReach, StandsChosen, StandsNumbered, Puts, put_all}
use Rattle.box_enum.specs.machine.Places.{StandsWall, IsBounded, IsPlace, IsOpen, IsGoodAt, IsShallow, IsInside, Agrees, AreNamed, names_of}
use Rattle.box_enum.specs.machine.Trunks.{single_row, choices_from, wall_variables, IsWalled, put_row, ArePut, with_singles, numbered_row, after_steps}
use Rattle.box_enum.proofs.LeafLaws.{put_all_value, put_all_tame, put_all_variables}
use Rattle.box_enum.proofs.WallLaws.{walls_more, depth_is, constants_are}
use Rattle.box_enum.proofs.PlaceLaws.{there_still, chosen_more, standing_more, agreeing}
use Rattle.box_enum.proofs.RefutingLaws.{depth_both, range_both, agree_all, distinct_first, all_at}
use Rattle.box_enum.proofs.TrunkLaws.{take_one, map_join, of_rows, to_rows, choice_names, choices_within, choices_length, choices_stand}

-- ---- one row after another

none_of_given : (rows given : List PRow) (cs : List Choice) → ArePut rows given cs 0 [] []
none_of_given rows given cs = record {
  same = refl;
  flat = omega arith;
  constants = refl;
  more = [];
  makes = subst (λ (rs : List PRow). Makes given [] rs) (sym (append-nil given)) (makes_none given);
  counted = omega (arith, length-append given []);
  numbered = tt;
}

pub none_put : (rows given : List PRow) (cs : List Choice) (steps : List Step) (standing : List Standing) → steps ≡ [] → standing ≡ [] → ArePut rows given cs 0 steps standing
none_put rows given cs steps standing e f =
    subst (λ (q : List Step). ArePut rows given cs 0 q standing) (sym e) (subst (λ (ss : List Standing). ArePut rows given cs 0 [] ss) (sym f) (none_of_given rows given cs))

same_more : (rows : List PRow) (cs : List Choice) (n : ℕ) (r : PRow) (standing : List Standing) (s : Standing) → n < length rows → r ≡ get_or rows n r → s.numbered.row ≡ put_row cs r
    → map (λ (t : Standing). t.numbered.row) standing ≡ map (put_row cs) (take n rows) → map (λ (t : Standing). t.numbered.row) (standing ++ s ∷ []) ≡ map (put_row cs) (take (n + 1) rows)
same_more rows cs n r standing s h is row e =
    map_join (λ (t : Standing). t.numbered.row) standing (s ∷ [])
    ∙ ap (λ (rs : List PRow). rs ++ s.numbered.row ∷ []) e
    ∙ ap (λ (q : PRow). map (put_row cs) (take n rows) ++ q ∷ []) row
    ∙ ap (λ (q : PRow). map (put_row cs) (take n rows) ++ put_row cs q ∷ []) is
    ∙ sym (map_join (put_row cs) (take n rows) (get_or rows n r ∷ []))
    ∙ ap (map (put_row cs)) (sym (take_one rows n r h))

pub one_put : (rows given behind : List PRow) (cs : List Choice) (n k : ℕ) (before after : List Step) (standing new : List Standing) (r : PRow) (s : Standing) → n < length rows → r ≡ get_or rows n r
    → given ≡ rows ++ behind → AllByRecursion (StandsChosen given) cs → k ≡ length given + length before → Puts before after k (numbered_row r n) cs s.numbered → new ≡ standing ++ s ∷ []
    → ArePut rows given cs n before standing → ArePut rows given cs (n + 1) after new
one_put rows given behind cs n k before after standing new r s h is g chosen count p e a =
    subst (λ (ss : List Standing). ArePut rows given cs (n + 1) after ss) (sym e) inside
  where
    all : List PRow
    all = given ++ a.more

    here : slice_get given n ≡ Some r
    here = ap (λ (rs : List PRow). slice_get rs n) g ∙ there_still rows behind n r (slice_get_read rows (length rows) n r refl h is)

    inside : ArePut rows given cs (n + 1) after (standing ++ s ∷ [])
    inside =
        let m = p.makes all (omega (arith, a.counted, count)) (there_still given a.more n r here) (chosen_more given a.more cs chosen) in
        let regrouped : all ++ m.0 ≡ given ++ (a.more ++ m.0) = append_assoc given a.more m.0 in
        let made : Makes given (before ++ p.steps.more) (all ++ m.0) = makes_both given all (all ++ m.0) before p.steps.more a.makes m.1 in
        let numbered : AllByRecursion (λ (t : Standing). StandsNumbered (all ++ m.0) t.numbered) (standing ++ s ∷ []) =
        all_join (λ (t : Standing). StandsNumbered (all ++ m.0) t.numbered) standing (s ∷ []) (standing_more all m.0 standing a.numbered) (m.2, tt) in
        record {
          same = same_more rows cs n r standing s h is p.row a.same;
          flat = omega (arith, ap steps_depth p.steps.is, depth_both before p.steps.more, a.flat, p.steps.flat);
          constants = ap steps_in_range p.steps.is ∙ range_both before p.steps.more a.constants p.steps.constants;
          more = a.more ++ m.0;
          makes = subst (λ (rs : List PRow). Makes given after rs) regrouped (subst (λ (q : List Step). Makes given q (all ++ m.0)) (sym p.steps.is) made);
          counted = omega (arith, ap (λ (rs : List PRow). length rs) regrouped, m.3, count, ap (λ (q : List Step). length q) p.steps.is, length-append before p.steps.more);
          numbered = subst (λ (rs : List PRow). AllByRecursion (λ (t : Standing). StandsNumbered rs t.numbered) (standing ++ s ∷ [])) regrouped numbered;
        }

pub singles_stand : (rows : List PRow) (single : List Wall) (cs : List Choice) → cs ≡ choices_from (length rows) single → AllByRecursion (StandsChosen (with_singles rows single)) cs
singles_stand rows single cs f = subst (λ (ds : List Choice). AllByRecursion (StandsChosen (with_singles rows single)) ds) (sym f) (choices_stand rows (length rows) single refl)

pub singles_within : (rows : List PRow) (b : ℕ) (single free : List Wall) (cs : List Choice) → IsWalled rows b (single ++ free) → cs ≡ choices_from (length rows) single → AllByRecursion (IsWithinReach b) cs
singles_within rows b single free cs w f = subst (λ (ds : List Choice). AllByRecursion (IsWithinReach b) ds) (sym f) (choices_within b (length rows) single (all_split (IsBounded b) single free w.bounded).0)

pub singles_counted : (rows : List PRow) (single : List Wall) → length (with_singles rows single) ≡ length rows + length single
singles_counted rows single = omega (arith, length-append rows (map single_row single), length-map single single_row)

pub row_tame : (rows : List PRow) (b n : ℕ) (walls : List Wall) (r : PRow) → IsWalled rows b walls → n < length rows → r ≡ get_or rows n r → IsTame b r.poly
row_tame rows b n walls r w h is = subst (λ (q : PRow). IsTame b q.poly) (sym is) (all_at (λ (q : PRow). IsTame b q.poly) rows n r h w.tame)

-- ---- within the trunk

all_tame : (b : ℕ) (cs : List Choice) (rows : List PRow) → AllByRecursion (IsWithinReach b) cs → AllByRecursion (λ (r : PRow). IsTame b r.poly) rows → AllByRecursion (λ (r : PRow). IsTame b r.poly) (map (put_row cs) rows)
all_tame b cs [] w a = tt
all_tame b cs (r ∷ rows) w a = (put_all_tame b cs r.poly a.0 w, all_tame b cs rows w a.1)

-- a name that isn't chosen is one of the others
named_later : (v k : ℕ) (single free : List Wall) → AllByRecursion (λ (c : Choice). c.variable ≡ v → ⊥) (choices_from k single)
    → list_any (nat_eq v) (wall_variables (single ++ free)) ≡ true → list_any (nat_eq v) (wall_variables free) ≡ true
named_later v k [] free a h = h
named_later v k (w ∷ ws) free a h = by_test (nat_eq v w.variable) refl h (λ j. named_later v (k + 1) ws free a.1 j)
  where
    by_test : (b : Bool) → nat_eq v w.variable ≡ b → (b || list_any (nat_eq v) (wall_variables (ws ++ free))) ≡ true
        → (list_any (nat_eq v) (wall_variables (ws ++ free)) ≡ true → list_any (nat_eq v) (wall_variables free) ≡ true) → list_any (nat_eq v) (wall_variables free) ≡ true
    by_test true e j rest = absurd (a.0 (sym (eqb-true v w.variable e)))
    by_test false e j rest = rest j

all_named : (b k : ℕ) (single free : List Wall) (rows : List PRow) → AllByRecursion (λ (r : PRow). IsTame b r.poly) rows → AllByRecursion (λ (r : PRow). AreNamed (wall_variables (single ++ free)) r.poly) rows
    → AllByRecursion (λ (r : PRow). AreNamed (wall_variables free) r.poly) (map (put_row (choices_from k single)) rows)
all_named b k single free [] t a = tt
all_named b k single free (r ∷ rows) t a = (
  (λ v o.
      let d = put_all_variables v (choices_from k single) r.poly t.0.fits.order t.0.monos o in
      named_later v k single free d.1 (a.0 v d.0)),
  all_named b k single free rows t.1 a.1,
)

distinct_later : (single free : List Wall) → IsDistinct nat_eq (wall_variables (single ++ free)) → IsDistinct nat_eq (wall_variables free)
unfolding IsDistinct
distinct_later [] free d = d
distinct_later (w ∷ ws) free d = distinct_later ws free d.1

not_chosen : (cs : List Choice) (x : ℕ → ℤ) (v : ℕ) → AllByRecursion (λ (c : Choice). c.variable ≡ v → ⊥) cs → agreeing cs x v ≡ x v
not_chosen [] x v a = refl
not_chosen (c ∷ cs) x v a = by_test (nat_eq v c.variable) refl ∙ not_chosen cs x v a.1
  where
    by_test : (b : Bool) → nat_eq v c.variable ≡ b → cond b c.value (agreeing cs x v) ≡ agreeing cs x v
    by_test true e = absurd (a.0 (sym (eqb-true v c.variable e)))
    by_test false e = refl

-- a row holds with the values chosen where what is left of it holds
holds_with : (b : ℕ) (cs : List Choice) (x : ℕ → ℤ) (r : PRow) → IsTame b r.poly → AllByRecursion (Agrees (agreeing cs x)) cs → Holds x (put_row cs r) → Holds (agreeing cs x) r
holds_with b cs x r t a h =
    let y : ℕ → ℤ = agreeing cs x in
    let local : value y (put_all cs r.poly) ≡ value x (put_all cs r.poly) =
    poly_local y x (put_all cs r.poly) (λ v o. not_chosen cs x v (put_all_variables v cs r.poly t.fits.order t.monos o).1) in
    subst (Compares r.op) (sym local ∙ put_all_value y cs r.poly t.fits.order t.monos a) h

all_hold_with : (b : ℕ) (cs : List Choice) (x : ℕ → ℤ) (rows : List PRow) → AllByRecursion (λ (r : PRow). IsTame b r.poly) rows → AllByRecursion (Agrees (agreeing cs x)) cs
    → AllByRecursion (Holds x) (map (put_row cs) rows) → AllByRecursion (Holds (agreeing cs x)) rows
all_hold_with b cs x [] t a h = tt
all_hold_with b cs x (r ∷ rows) t a h = (holds_with b cs x r t.0 a h.0, all_hold_with b cs x rows t.1 a h.1)

pub put_open : (rows given : List PRow) (g : Ground) (ss us : List Standing) (b count : ℕ) (single free : List Wall) (cs ds : List Choice) (steps : List Step) → IsWalled rows b (single ++ free) → cs ≡ choices_from (length rows) single
    → ArePut rows given cs (length rows) steps us → ss ≡ us → g ≡ record { standing = ss; reach = b } → count + 4096 < 2 ^ 32 → ds ≡ [] → IsOpen g count ds free
put_open rows given g ss us b count single free cs ds steps w f p i e room none =
    subst (λ (es : List Choice). IsOpen g count es free) (sym none)
    (subst (λ (h : Ground). IsOpen h count [] free) (sym (e ∙ ap (λ (ts : List Standing). let h : Ground = record { standing = ts; reach = b } in h) i)) inside)
  where
    chosen : List Choice
    chosen = choices_from (length rows) single

    near : AllByRecursion (IsWithinReach b) chosen
    near = choices_within b (length rows) single (all_split (IsBounded b) single free w.bounded).0

    same : map (λ (s : Standing). s.numbered.row) us ≡ map (put_row chosen) rows
    same = p.same ∙ ap (map (put_row cs)) (take_all (length rows) rows (omega arith)) ∙ ap (λ (es : List Choice). map (put_row es) rows) f

    apart : IsDistinct nat_eq (map (λ (c : Choice). c.variable) chosen)
    apart = distinct_first (map (λ (c : Choice). c.variable) chosen) (wall_variables free) (subst (λ (xs : List ℕ). IsDistinct nat_eq xs) (sym (choice_names (length rows) single free)) w.distinct)

    inside : IsOpen (record { standing = us; reach = b }) count [] free
    inside = record {
      tame = of_rows (λ (r : PRow). IsTame b r.poly) (map (put_row chosen) rows) us same (all_tame b chosen rows near w.tame);
      named = of_rows (λ (r : PRow). AreNamed (wall_variables free) r.poly) (map (put_row chosen) rows) us same (all_named b (length rows) single free rows w.tame w.named);
      distinct = distinct_later single free w.distinct;
      within = tt;
      bounded = (all_split (IsBounded b) single free w.bounded).1;
      none = λ x a j h. w.none (agreeing chosen x) (all_hold_with b chosen x rows w.tame (agree_all chosen x apart) (to_rows (Holds x) (map (put_row chosen) rows) us same h));
      small = w.small;
      room = omega (arith, length-append single free, w.few, room);
    }

pub put_good : (rows : List PRow) (ss us : List Standing) (b count : ℕ) (single free : List Wall) (cs ds : List Choice) (steps : List Step) (c d : Cert) → IsWalled rows b (single ++ free)
    → ArePut rows (with_singles rows single) cs (length rows) steps us → ss ≡ us → count ≡ length rows + length single + length steps → ds ≡ [] → IsGoodAt count ss ds free c → d ≡ after_steps steps c
    → IsGood (with_singles rows single) d
put_good rows ss us b count single free cs ds steps c d w p i n none g e =
    let given : List PRow = with_singles rows single in
    let stand = walls_more given p.more free (walls_more rows (map single_row single) free (all_split (StandsWall rows) single free w.bounds).1) in
    subst (λ (k : Cert). IsGood given k) (sym e) (good_after given (given ++ p.more) steps c.steps c.close p.makes (g (given ++ p.more) (record {
      counted = omega (arith, p.counted, singles_counted rows single, n);
      numbered = subst (λ (ts : List Standing). AllByRecursion (λ (s : Standing). StandsNumbered (given ++ p.more) s.numbered) ts) (sym i) p.numbered;
      chosen = subst (λ (es : List Choice). AllByRecursion (StandsChosen (given ++ p.more)) es) (sym none) tt;
      bounds = stand;
    })))

pub put_shallow : (rows given : List PRow) (cs : List Choice) (n k : ℕ) (steps : List Step) (us : List Standing) (c d : Cert) → ArePut rows given cs n steps us → IsShallow (k + 2) c → d ≡ after_steps steps c → IsShallow (k + 2) d
put_shallow rows given cs n k steps us c d p s e =
    subst (λ (q : Cert). IsShallow (k + 2) q) (sym e)
    (let q = and_parts (steps_in_range c.steps) (close_has_constants_in_range c.close) (sym (constants_are c) ∙ s.constants) in
    record {
      depth = omega (arith, depth_is (after_steps steps c), depth_both steps c.steps, depth_is c, s.depth, p.flat);
      constants = constants_are (after_steps steps c) ∙ and_from (steps_in_range (steps ++ c.steps)) (close_has_constants_in_range c.close) (range_both steps c.steps p.constants q.0) q.1;
    })
