-- Pieces that are pushed one by one.
use Rattle.std.proofs.Common.{◌≡◌, ℕ, List, ◌++◌, Result, OnOk, ap, ◌∙◌}
use Rattle.std.proofs.lemmas.List.{append_assoc}
use Rattle.std.proofs.lemmas.Result.{on_ok_weaker}

-- a piece, and then the rest
back : (p a rest q s : List ℕ) → q ≡ p ++ a → s ≡ q ++ rest → s ≡ p ++ (a ++ rest)
back p a rest q s e f = f ∙ ap (λ x. x ++ rest) e ∙ append_assoc p a rest

pub three_pushed : {T E : Type 0} (r : Result T E) (o a b c p q s : List ℕ) → p ≡ o ++ a → q ≡ p ++ b → OnOk r (s ≡ q ++ c) → OnOk r (s ≡ o ++ (a ++ (b ++ c)))
three_pushed r o a b c p q s e f = on_ok_weaker r (λ g. back o a (b ++ c) p s e (back p b c q s f g))

pub five_pushed : {T E : Type 0} (r : Result T E) (o a b c d e p q s t u : List ℕ) → p ≡ o ++ a → q ≡ p ++ b → s ≡ q ++ c → t ≡ s ++ d → OnOk r (u ≡ t ++ e)
    → OnOk r (u ≡ o ++ (a ++ (b ++ (c ++ (d ++ e)))))
five_pushed r o a b c d e p q s t u f g h i =
    on_ok_weaker r (λ j. back o a (b ++ (c ++ (d ++ e))) p u f (back p b (c ++ (d ++ e)) q u g (back q c (d ++ e) s u h (back s d e t u i j))))
