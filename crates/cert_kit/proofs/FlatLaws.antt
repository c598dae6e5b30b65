-- How deep expressions are, and that their constants are at least 1 and small, form by form.
use Rattle.std.specs.Prelude.{◌≡◌, ℕ, ◌+◌, ◌≤◌, ℤ, Bool, List, true}
use Rattle.std.proofs.Common.{ap, sym, ◌∙◌, arith}
use Rattle.std.proofs.lemmas.Bool.{and_from}
use Rattle.mm_poly.specs.declared.term.Term.{Term}
use Rattle.cert_kit.specs.declared.cert.Psatz.{Psatz}
use Rattle.cert_kit.specs.declared.cert.Psatz.TheOpen.{Psatz-F}
use Rattle.cert_kit.specs.declared.cert.Psatz.TheViews.{roll-Psatz}
use Rattle.cert_kit.specs.declared.cert.Psatz.TheVariants.{Hyp, Square, MulPoly, Mul, Add, Const, rolls-Hyp, rolls-Square, rolls-MulPoly, rolls-Mul, rolls-Add, rolls-Const}
use Rattle.cert_kit.specs.declared.cert.Psatz.TheFolds.{map-Psatz}
use Rattle.cert_kit.specs.declared.cert.Close.TheOpen.{Close-F}
use Rattle.cert_kit.specs.declared.cert.Close.TheVariants.{Done, rolls-Done}
use Rattle.cert_kit.specs.declared.cert.Close.TheFolds.{fold-Close, fold-roll-Close}
use Rattle.cert_kit.specs.Depth.{psatz_level, psatz_depth, close_level, cert_level, close_depth, psatz_in_range, has_constants_in_range, is_constant_in_range, close_in_range, cert_in_range, close_has_constants_in_range}
use Rattle.cert_kit.proofs.FormLaws.{folds}

-- at most this deep, with constants that are at least 1 and small
pub record IsFlat (d : ℕ) (e : Psatz) : Type 0 where
  pub depth : psatz_depth e ≤ d
  pub constants : has_constants_in_range e ≡ true

pub depth_at : (d : Psatz-F Psatz) (e : Psatz) → roll-Psatz d ≡ e → psatz_depth e ≡ psatz_level (map-Psatz Psatz ℕ psatz_depth d)
depth_at d e p = folds ℕ psatz_level d e p

pub range_at : (d : Psatz-F Psatz) (e : Psatz) → roll-Psatz d ≡ e → has_constants_in_range e ≡ psatz_in_range (map-Psatz Psatz Bool has_constants_in_range d)
range_at d e p = folds Bool psatz_in_range d e p

pub flat_hyp : (n d : ℕ) → IsFlat d (Hyp n)
flat_hyp n d = record { depth = (let e = depth_at (Psatz-F.Hyp n) (Hyp n) (rolls-Hyp n) in omega (arith, e)); constants = range_at (Psatz-F.Hyp n) (Hyp n) (rolls-Hyp n) }

pub flat_const : (a : ℤ) → is_constant_in_range a ≡ true → IsFlat 0 (Const a)
flat_const a h = record { depth = (let e = depth_at (Psatz-F.Const a) (Const a) (rolls-Const a) in omega (arith, e)); constants = range_at (Psatz-F.Const a) (Const a) (rolls-Const a) ∙ h }

pub flat_mulp : (p : List Term) (e : Psatz) (d : ℕ) → IsFlat d e → IsFlat (d + 1) (MulPoly p e)
flat_mulp p e d h = record {
  depth = (let q = depth_at (Psatz-F.MulPoly p e) (MulPoly p e) (rolls-MulPoly p e) in let w = h.depth in omega (arith, q, w));
  constants = range_at (Psatz-F.MulPoly p e) (MulPoly p e) (rolls-MulPoly p e) ∙ h.constants;
}

pub flat_mul : (e f : Psatz) (d : ℕ) → IsFlat d e → IsFlat d f → IsFlat (d + 1) (Mul e f)
flat_mul e f d h k = record {
  depth = (let q = depth_at (Psatz-F.Mul e f) (Mul e f) (rolls-Mul e f) in let w = h.depth in let v = k.depth in omega (arith, q, w, v));
  constants = range_at (Psatz-F.Mul e f) (Mul e f) (rolls-Mul e f) ∙ and_from (has_constants_in_range e) (has_constants_in_range f) h.constants k.constants;
}

pub flat_add : (e f : Psatz) (d : ℕ) → IsFlat d e → IsFlat d f → IsFlat (d + 1) (Add e f)
flat_add e f d h k = record {
  depth = (let q = depth_at (Psatz-F.Add e f) (Add e f) (rolls-Add e f) in let w = h.depth in let v = k.depth in omega (arith, q, w, v));
  constants = range_at (Psatz-F.Add e f) (Add e f) (rolls-Add e f) ∙ and_from (has_constants_in_range e) (has_constants_in_range f) h.constants k.constants;
}

pub flat_square : (p : List Term) → IsFlat 1 (Square p)
flat_square p = record { depth = (let e = depth_at (Psatz-F.Square p) (Square p) (rolls-Square p) in omega (arith, e)); constants = range_at (Psatz-F.Square p) (Square p) (rolls-Square p) }

pub flat_more : (d : ℕ) (e : Psatz) → IsFlat d e → IsFlat (d + 1) e
flat_more d e h = record { depth = (let w = h.depth in omega (arith, w)); constants = h.constants }

pub done_depth : close_depth Done ≡ 0
done_depth = ap (fold-Close ℕ ℕ close_level cert_level) (sym rolls-Done) ∙ fold-roll-Close ℕ ℕ close_level cert_level Close-F.Done

pub done_range : close_has_constants_in_range Done ≡ true
done_range = ap (fold-Close Bool Bool close_in_range cert_in_range) (sym rolls-Done) ∙ fold-roll-Close Bool Bool close_in_range cert_in_range Close-F.Done
