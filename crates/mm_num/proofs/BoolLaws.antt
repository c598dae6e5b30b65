-- Tests that are decided.
use Rattle.std.proofs.Common.{◌≡◌, Bool, true, false, refl, sym}

-- a test that failed holds nowhere
pub never : {P : Type 0} → false ≡ true → P
never h = cc

-- nor does a test hold and fail
pub contrary : {P : Type 0} (t : Bool) → t ≡ true → t ≡ false → P
contrary t h k = cc

-- two tests that hold together are the same
pub same_tests : (s t : Bool) → (s ≡ true → t ≡ true) → (t ≡ true → s ≡ true) → s ≡ t
same_tests true true f g = refl
same_tests true false f g = sym (f refl)
same_tests false true f g = g refl
same_tests false false f g = refl
