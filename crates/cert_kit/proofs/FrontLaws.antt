-- What follows a front.
use Rattle.std.proofs.Common.{◌≡◌, ℕ, true, false, eqb, List, ◌++◌, length, take, drop, Option, MatchOption, ◌+◌}
use Rattle.std.specs.Cmp.Lexicographic.{pointwise}
use Rattle.std.proofs.lemmas.Slice.Eq.{strip_prefix_is}
use Rattle.std.proofs.lemmas.Bool.Decides.{Decides-eqb}
use Rattle.std.proofs.Common.{sym, ap, ◌∙◌, []}
use Rattle.std.specs.Prelude.{◌↔◌}
use Rattle.std.proofs.lemmas.List.{append-nil, append_cancel_left}
use denote.Ref.{Bor}
use Rattle.cert_kit.specs.machine.Sinks.{DoesNotBegin}

pub stripped : (bytes front : List ℕ) (r : Option (Bor (List ℕ))) → MatchOption r (pointwise eqb (take (length front) bytes) front ≡ false) (λ x. (pointwise eqb (take (length front) bytes) front ≡ true) × (x.now ≡ drop (length front) bytes) × (length x.now + length front ≡ length bytes))
    → MatchOption r (DoesNotBegin bytes front) (λ rest. bytes ≡ front ++ rest.now)
stripped bytes front r h = strip_prefix_is Decides-eqb bytes front r h

pub not_all : (bytes front : List ℕ) → DoesNotBegin bytes front → front ≡ bytes → ⊥
not_all bytes front h e = h [] (sym e ∙ sym (append-nil front))

pub whole : (bytes front rest : List ℕ) → bytes ≡ front ++ rest → (rest ≡ []) ↔ (front ≡ bytes)
whole bytes front rest e = (λ h. sym (e ∙ ap (λ t. front ++ t) h ∙ append-nil front), λ h. append_cancel_left front rest [] (sym e ∙ sym h ∙ sym (append-nil front)))
