-- The members of an enumeration, one value after the other.
use Rattle.std.specs.Prelude.{◌≡◌, ℕ, suc, ◌+◌, ◌<◌, ◌≤◌, ℤ, pos, negsuc, ◌+ℤ◌, ◌-ℤ◌, ◌≤ℤ◌, List, [], ◌∷◌, length, drop, map, Bool, true, false, ◌==◌, Option, Some, None}
use Rattle.std.proofs.Common.{ap, sym, ◌∙◌, subst, arith, get_or, add-one, drop-cons}
use Rattle.std.proofs.lemmas.Int.{ints}
use Rattle.std.proofs.lemmas.List.{length-map}
use Rattle.std.proofs.lemmas.Grind.{common_steps}
use Rattle.cert_kit.specs.declared.node.Fault.{Fault}
use Rattle.cert_kit.specs.declared.node.Fault.TheVariants.{Rule}
use Rattle.cert_kit.specs.declared.row.PRow.{PRow}
use Rattle.cert_kit.specs.declared.cert.Cert.{Cert}
use Rattle.cert_kit.specs.Acceptance.{Range, values_of, not_below_0, value_row, with_row}
use Rattle.cert_kit.specs.FirstFault.{first_fault, first_of_all, or_else, unless}
use Rattle.cert_check.specs.Checking.{members_fault}

-- the members that are left, from this value on, have the first fault of all of them
pub record Counting (r : Range) (v : ℤ) (cs : List Cert) (i : ℕ) (rows given : List PRow) : Type 0 where
  pub same : rows ≡ given
  pub value : v ≡ r.low +ℤ pos i
  pub count : length cs ≡ values_of r
  pub faults : first_of_all r.poly v (map first_fault (drop i cs)) given ≡ first_of_all r.poly r.low (map first_fault cs) given

size_bound : (n : ℤ) (i : ℕ) → i < not_below_0 n → (pos i +ℤ pos 1) ≤ℤ n
size_bound (pos n) i h = omega (arith, ints)
size_bound (negsuc n) i h = absurd (omega arith)

-- a value that is counted is at most the greatest
pub value_at_most : (r : Range) (v : ℤ) (i : ℕ) → v ≡ r.low +ℤ pos i → i < values_of r → v ≤ℤ r.high
value_at_most r v i e h = let b = size_bound ((r.high -ℤ r.low) +ℤ pos 1) i h in omega (arith, ints)

pub value_at_least : (r : Range) (v : ℤ) (i : ℕ) → v ≡ r.low +ℤ pos i → r.low ≤ℤ v
value_at_least r v i e = omega (arith, ints)

pub member_front : (cs : List Cert) (i : ℕ) (c : Cert) → i < length cs → c ≡ get_or cs i c → drop i cs ≡ c ∷ drop (i + 1) cs
member_front cs i c h is = rw add-one (drop-cons cs i c h ∙ ap (λ (d : Cert). d ∷ drop (suc i) cs) (sym is))

front_fault : (r : Range) (v : ℤ) (cs : List Cert) (i : ℕ) (rows given : List PRow) (c : Cert) → Counting r v cs i rows given → i < length cs → c ≡ get_or cs i c
    → or_else (first_fault c (with_row given (value_row r.poly v))) (first_of_all r.poly (v +ℤ pos 1) (map first_fault (drop (i + 1) cs)) given)
    ≡ first_of_all r.poly r.low (map first_fault cs) given
front_fault r v cs i rows given c k h is =
    sym (ap (λ (ds : List Cert). first_of_all r.poly v (map first_fault ds) given) (member_front cs i c h is)) ∙ k.faults

-- a member without fault is passed
pub next_member : (r : Range) (v : ℤ) (cs : List Cert) (i : ℕ) (rows given : List PRow) (c : Cert) → Counting r v cs i rows given → i < length cs → c ≡ get_or cs i c
    → first_fault c (with_row rows (value_row r.poly v)) ≡ None → (new : List PRow) (w : ℤ) → new ≡ rows → w ≡ v +ℤ pos 1 → Counting r w cs (i + 1) new given
next_member r v cs i rows given c k h is none new w n e =
    let one = subst (λ (rs : List PRow). first_fault c (with_row rs (value_row r.poly v)) ≡ None) k.same none in
    record {
      same = n ∙ k.same;
      value = let b = k.value in omega (arith, ints);
      count = k.count;
      faults = ap (λ (z : ℤ). first_of_all r.poly z (map first_fault (drop (i + 1) cs)) given) e
          ∙ sym (ap (λ (o : Option Fault). or_else o (first_of_all r.poly (v +ℤ pos 1) (map first_fault (drop (i + 1) cs)) given)) one)
          ∙ front_fault r v cs i rows given c k h is;
    }

counted : (r : Range) (cs : List Cert) (rows : List PRow) → length cs ≡ values_of r → members_fault (map first_fault cs) rows r ≡ first_of_all r.poly r.low (map first_fault cs) rows
counted r cs rows h =
    let e : length (map first_fault cs) ≡ values_of r = length-map cs first_fault ∙ h in
    let t : (length (map first_fault cs) == values_of r) ≡ true = grind arith in
    ap (λ (b : Bool). or_else (unless b Rule) (first_of_all r.poly r.low (map first_fault cs) rows)) t

-- the first fault of a member is that of all
pub member_fault : (r : Range) (v : ℤ) (cs : List Cert) (i : ℕ) (rows given : List PRow) (c : Cert) (f : Fault) → Counting r v cs i rows given → i < length cs → c ≡ get_or cs i c
    → first_fault c (with_row rows (value_row r.poly v)) ≡ Some f → members_fault (map first_fault cs) given r ≡ Some f
member_fault r v cs i rows given c f k h is some =
    let one = subst (λ (rs : List PRow). first_fault c (with_row rs (value_row r.poly v)) ≡ Some f) k.same some in
    counted r cs given k.count
    ∙ sym (front_fault r v cs i rows given c k h is)
    ∙ ap (λ (o : Option Fault). or_else o (first_of_all r.poly (v +ℤ pos 1) (map first_fault (drop (i + 1) cs)) given)) one

no_member : (cs : List Cert) (i : ℕ) → length cs ≤ i → drop i cs ≡ []
no_member cs i h = grind (arith, common_steps)

-- no member has a fault
pub no_fault : (r : Range) (v : ℤ) (cs : List Cert) (i : ℕ) (rows given : List PRow) → Counting r v cs i rows given → length cs ≤ i
    → members_fault (map first_fault cs) given r ≡ None
no_fault r v cs i rows given k h =
    counted r cs given k.count ∙ sym k.faults ∙ ap (λ (ds : List Cert). first_of_all r.poly v (map first_fault ds) given) (no_member cs i h)

-- another number of members
pub wrong_count : (r : Range) (cs : List Cert) (rows : List PRow) (n : ℕ) → n ≡ values_of r → (n ≡ length cs → ⊥) → members_fault (map first_fault cs) rows r ≡ Some Rule
wrong_count r cs rows n e d =
    let l : length (map first_fault cs) ≡ length cs = length-map cs first_fault in
    let t : (length (map first_fault cs) == values_of r) ≡ false = grind arith in
    ap (λ (b : Bool). or_else (unless b Rule) (first_of_all r.poly r.low (map first_fault cs) rows)) t
