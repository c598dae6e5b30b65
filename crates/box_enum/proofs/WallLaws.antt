-- What a wall's enumeration comes to, and that walls stand over more rows.
use Rattle.std.specs.Prelude.{◌≡◌, ℕ, ◌+◌, ◌≤◌, max, pos, negsuc, Bool, List, [], ◌∷◌, ◌++◌, map, length, true, ◌&&◌, refl}
use Rattle.std.proofs.Common.{ap, sym, ◌∙◌, subst, arith}
use Rattle.std.proofs.lemmas.Bool.{and_parts, and_from}
use Rattle.std.specs.List.{AllByRecursion}
use Rattle.mm_poly.specs.Poly.{constant_of, variable_of}
use Rattle.cert_kit.specs.declared.row.PRow.{PRow}
use Rattle.cert_kit.specs.declared.cert.Psatz.TheVariants.{Hyp, Square, MulPoly}
use Rattle.cert_kit.specs.declared.cert.Step.{Step}
use Rattle.cert_kit.specs.declared.cert.Ends.{Ends}
use Rattle.cert_kit.specs.declared.cert.Cert.{Cert}
use Rattle.cert_kit.specs.declared.cert.Close.{Close}
use Rattle.cert_kit.specs.declared.cert.Close.TheOpen.{Close-F}
use Rattle.cert_kit.specs.declared.cert.Close.TheVariants.{Enum, rolls-Enum}
use Rattle.cert_kit.specs.declared.cert.Close.TheFolds.{fold-Close, fold-roll-Close, fold_out-Cert}
use Rattle.cert_kit.specs.Depth.{psatz_depth, deepest, steps_depth, steps_in_range, close_level, cert_level, cert_depth, close_depth, has_constants_in_range, all_in_range, close_in_range, cert_in_range, close_has_constants_in_range, cert_constants, MakesCert}
use Rattle.cert_kit.specs.Acceptance.{IsGood}
use Rattle.cert_kit.specs.Making.{ends, AreGood}
use Rattle.cert_kit.proofs.MakerLaws.{makes_none, good_enum}
use Rattle.cert_kit.proofs.NumberingLaws.{appended}
use Rattle.cert_kit.proofs.FlatLaws.{IsFlat, flat_hyp, flat_mulp, flat_add, flat_square}
use Rattle.box_enum.specs.declared.wall.Witness.{Witness}
use Rattle.box_enum.specs.declared.wall.Witness.TheVariants as witnesses
use Rattle.box_enum.specs.declared.wall.Wall.{Wall}
use Rattle.box_enum.specs.machine.Places.{expression_of, wall_range, wall_count, Witnesses, StandsWall, IsShallow}

-- ---- over more rows

witnesses_more : (rows more : List PRow) (w : Witness) (r : PRow) → Witnesses rows w r → Witnesses (rows ++ more) w r
witnesses_more rows more w r h =
    let a = appended (expression_of w) rows more r h.means in
    record { means = a.0; within = ap (λ m. m.within) a.1 ∙ h.within }

wall_more : (rows more : List PRow) (w : Wall) → StandsWall rows w → StandsWall (rows ++ more) w
wall_more rows more w h = record {
  lower = h.lower;
  upper = h.upper;
  below = witnesses_more rows more w.lower h.lower h.below;
  above = witnesses_more rows more w.upper h.upper h.above;
  range = h.range;
}

pub walls_more : (rows more : List PRow) (ws : List Wall) → AllByRecursion (StandsWall rows) ws → AllByRecursion (StandsWall (rows ++ more)) ws
walls_more rows more [] a = tt
walls_more rows more (w ∷ ws) a = (wall_more rows more w a.0, walls_more rows more ws a.1)

-- ---- a wall's enumeration

abbrev pub enumeration_of : Wall → List Cert → Cert
enumeration_of w members = record { steps = []; close = Enum (ends (expression_of w.lower) (expression_of w.upper)) members }

enumeration_is : (w : Wall) (steps : List Step) (b : Ends) (cs members : List Cert) → steps ≡ [] → b ≡ ends (expression_of w.lower) (expression_of w.upper) → cs ≡ members
    → record { steps = steps; close = Enum b cs } ≡ enumeration_of w members
enumeration_is w steps b cs members s e m =
    ap (λ (q : List Step). let x : Cert = record { steps = q; close = Enum b cs } in x) s
    ∙ ap (λ (q : Ends). let x : Cert = record { steps = []; close = Enum q cs } in x) e
    ∙ ap (λ (q : List Cert). let x : Cert = record { steps = []; close = Enum (ends (expression_of w.lower) (expression_of w.upper)) q } in x) m

pub good_enumeration : (w : Wall) (steps : List Step) (b : Ends) (cs members : List Cert) → steps ≡ [] → b ≡ ends (expression_of w.lower) (expression_of w.upper) → cs ≡ members
    → length members ≡ wall_count w → (rows : List PRow) → StandsWall rows w → AreGood (variable_of w.variable) w.low members rows → IsGood rows (record { steps = steps; close = Enum b cs })
good_enumeration w steps b cs members s e m l rows h g =
    subst (λ (c : Cert). IsGood rows c) (sym (enumeration_is w steps b cs members s e m))
    (good_enum rows rows [] (expression_of w.lower) (expression_of w.upper) h.lower h.upper (wall_range w) members (makes_none rows) h.below.means h.above.means h.range l h.below.within h.above.within g)

-- ---- depths

flat_witness : (w : Witness) → IsFlat 2 (expression_of w)
flat_witness (witnesses.Row n) = flat_hyp n 2
flat_witness (witnesses.Sum n) = flat_add (Hyp n) (Square (constant_of (pos 0))) 1 (flat_hyp n 1) (flat_square (constant_of (pos 0)))
flat_witness (witnesses.Opposite n) = flat_add (MulPoly (constant_of (negsuc 0)) (Hyp n)) (Square (constant_of (pos 0))) 1 (flat_mulp (constant_of (negsuc 0)) (Hyp n) 0 (flat_hyp n 0)) (flat_square (constant_of (pos 0)))

enum_depth : (b : Ends) (cs : List Cert) → close_depth (Enum b cs) ≡ max (max (psatz_depth b.lower) (psatz_depth b.upper)) (deepest (map cert_depth cs)) + 1
enum_depth b cs = ap (fold-Close ℕ ℕ close_level cert_level) (sym (rolls-Enum b cs)) ∙ fold-roll-Close ℕ ℕ close_level cert_level (Close-F.Enum b cs)

enum_range : (b : Ends) (cs : List Cert) → close_has_constants_in_range (Enum b cs) ≡ (has_constants_in_range b.lower && (has_constants_in_range b.upper && all_in_range (map cert_constants cs)))
enum_range b cs = ap (fold-Close Bool Bool close_in_range cert_in_range) (sym (rolls-Enum b cs)) ∙ fold-roll-Close Bool Bool close_in_range cert_in_range (Close-F.Enum b cs)

pub depth_is : (c : Cert) → cert_depth c ≡ max (steps_depth c.steps) (close_depth c.close)
depth_is c = fold_out-Cert ℕ ℕ close_level cert_level c

pub constants_are : (c : Cert) → cert_constants c ≡ (steps_in_range c.steps && close_has_constants_in_range c.close)
constants_are c = fold_out-Cert Bool Bool close_in_range cert_in_range c

members_deep : (d : ℕ) (cs : List Cert) → AllByRecursion (IsShallow d) cs → deepest (map cert_depth cs) ≤ d
members_deep d [] a = omega arith
members_deep d (c ∷ cs) a = omega (arith, a.0.depth, members_deep d cs a.1)

members_in_range : (d : ℕ) (cs : List Cert) → AllByRecursion (IsShallow d) cs → all_in_range (map cert_constants cs) ≡ true
members_in_range d [] a = refl
members_in_range d (c ∷ cs) a = and_from (cert_constants c) (all_in_range (map cert_constants cs)) a.0.constants (members_in_range d cs a.1)

enumeration_shallow : (w : Wall) (members : List Cert) (d : ℕ) → 2 ≤ d → AllByRecursion (IsShallow d) members → IsShallow (d + 1) (enumeration_of w members)
enumeration_shallow w members d l a =
    let b = ends (expression_of w.lower) (expression_of w.upper) in
    let f = flat_witness w.lower in
    let g = flat_witness w.upper in
    record {
      depth = omega (arith, depth_is (enumeration_of w members), enum_depth b members, f.depth, g.depth, members_deep d members a);
      constants = constants_are (enumeration_of w members) ∙ enum_range b members
          ∙ and_from (has_constants_in_range (expression_of w.lower)) (has_constants_in_range (expression_of w.upper) && all_in_range (map cert_constants members)) f.constants
          (and_from (has_constants_in_range (expression_of w.upper)) (all_in_range (map cert_constants members)) g.constants (members_in_range d members a));
    }

pub shallow_enumeration : (w : Wall) (steps : List Step) (b : Ends) (cs members : List Cert) → steps ≡ [] → b ≡ ends (expression_of w.lower) (expression_of w.upper) → cs ≡ members
    → (d : ℕ) → 2 ≤ d → AllByRecursion (IsShallow d) members → IsShallow (d + 1) (record { steps = steps; close = Enum b cs })
shallow_enumeration w steps b cs members s e m d l a =
    subst (λ (c : Cert). IsShallow (d + 1) c) (sym (enumeration_is w steps b cs members s e m)) (enumeration_shallow w members d l a)

-- a certificate that is shallow can be made
pub shallow_makes : (d : ℕ) (c : Cert) → d ≤ 4096 → IsShallow d c → MakesCert c.steps c.close
shallow_makes d c l h =
    let p = and_parts (steps_in_range c.steps) (close_has_constants_in_range c.close) (sym (constants_are c) ∙ h.constants) in
    record {
      flat_steps = omega (arith, depth_is c, h.depth);
      flat_close = omega (arith, depth_is c, h.depth);
      step_constants = p.0;
      close_constants = p.1;
    }
