-- A certificate is its steps and its close, at each depth.
use Rattle.std.proofs.Common.{◌≡◌, ℕ, zero, suc, List, refl}
use Rattle.cert_text.specs.Reading.{parts_at, cert_at, close_at}

pub cert_at_parts : (d : ℕ) (bytes : List ℕ) → cert_at d bytes ≡ parts_at d (close_at d) bytes
unfolding cert_at close_at
cert_at_parts zero bytes = refl
cert_at_parts (suc d) bytes = refl
