-- Sinks of bytes.
use Rattle.std.specs.Prelude.{◌≡◌, ◌≢◌, ℕ, List, [], ◌++◌}
use Rattle.std.proofs.Common.{sym, ap, ◌∙◌, append_assoc}
use Rattle.std.proofs.lemmas.List.{append_cancel_left, append-nil}

-- the bytes begin otherwise
abbrev pub DoesNotBegin : List ℕ → List ℕ → Type 0
DoesNotBegin bytes front = (rest : List ℕ) → bytes ≢ front ++ rest

pub appends_nothing : (v : List ℕ) → v ≡ v ++ []
appends_nothing v = sym (append-nil v)

pub appends_both : (a b c x y : List ℕ) → b ≡ a ++ x → c ≡ b ++ y → c ≡ a ++ (x ++ y)
appends_both a b c x y e f = f ∙ ap (λ t. t ++ y) e ∙ append_assoc a x y

pub begins_both : (a b c x y : List ℕ) → a ≡ x ++ b → b ≡ y ++ c → a ≡ (x ++ y) ++ c
begins_both a b c x y e f = e ∙ ap (λ t. x ++ t) f ∙ sym (append_assoc x y c)

pub not_begun : (a x y : List ℕ) → DoesNotBegin a x → DoesNotBegin a (x ++ y)
not_begun a x y h rest e = h (y ++ rest) (e ∙ append_assoc x y rest)

pub not_begun_later : (a b x y : List ℕ) → a ≡ x ++ b → DoesNotBegin b y → DoesNotBegin a (x ++ y)
not_begun_later a b x y e h rest f = h rest (append_cancel_left x b (y ++ rest) (sym e ∙ f ∙ append_assoc x y rest))
