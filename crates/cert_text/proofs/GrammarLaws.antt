-- A certificate is one of the grammar where it can be made and its parts are within the bounds.
use Rattle.std.specs.Prelude.{◌≡◌, ◌↔◌, ℕ, ◌≤◌, max, Bool, true, ◌&&◌, IsTrue}
use Rattle.std.proofs.Common.{sym, ◌∙◌, subst, arith}
use Rattle.std.proofs.lemmas.Bool.{and_parts, and_from}
use Rattle.cert_kit.specs.declared.cert.Cert.{Cert}
use Rattle.cert_kit.specs.declared.cert.Close.TheFolds.{fold_out-Cert}
use Rattle.cert_kit.specs.Depth.{steps_depth, close_depth, close_level, cert_level, steps_in_range, close_in_range, close_has_constants_in_range, cert_in_range, MakesCert}
use Rattle.cert_text.specs.Check.{is_cert_within, IsCert}

deep : (c : Cert) → steps_depth c.steps ≤ 4096 → close_depth c.close ≤ 4096 → max (steps_depth c.steps) (close_depth c.close) ≤ 4096
deep c h k = omega (arith, h, k)

cert_if : (c : Cert) → MakesCert c.steps c.close → is_cert_within c ≡ true → IsCert c
cert_if c m w = record {
  depth = subst (λ n. n ≤ 4096) (sym (fold_out-Cert ℕ ℕ close_level cert_level c)) (deep c m.flat_steps m.flat_close);
  constants = fold_out-Cert Bool Bool close_in_range cert_in_range c ∙ and_from (steps_in_range c.steps) (close_has_constants_in_range c.close) m.step_constants m.close_constants;
  parts = w;
}

cert_then : (c : Cert) → IsCert c → MakesCert c.steps c.close
cert_then c is =
    let flat : max (steps_depth c.steps) (close_depth c.close) ≤ 4096 = subst (λ n. n ≤ 4096) (fold_out-Cert ℕ ℕ close_level cert_level c) is.depth in
    let range = and_parts (steps_in_range c.steps) (close_has_constants_in_range c.close) (sym (fold_out-Cert Bool Bool close_in_range cert_in_range c) ∙ is.constants) in
    record {
      flat_steps = omega (arith, flat);
      flat_close = omega (arith, flat);
      step_constants = range.0;
      close_constants = range.1;
    }

pub cert_test : (c : Cert) (makes few : Bool) → (IsTrue makes ↔ MakesCert c.steps c.close) → few ≡ is_cert_within c → IsTrue (makes && few) ↔ IsCert c
cert_test c makes few m w = (to, from)
  where
    to : IsTrue (makes && few) → IsCert c
    to h = let p = and_parts makes few h in cert_if c (m.0 p.0) (sym w ∙ p.1)

    from : IsCert c → IsTrue (makes && few)
    from is = let e : few ≡ true = w ∙ is.parts in and_from makes few (m.1 (cert_then c is)) e
