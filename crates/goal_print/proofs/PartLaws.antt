-- What several pieces add to a text, and where a part stands without parentheses.
use Rattle.std.proofs.Common.{◌≡◌, ℕ, ◌<◌, ◌≤◌, Bool, List, ◌++◌, Result, Ok, Err, OnOk, if◌then◌else◌, codes, sym, ◌∙◌, ap, subst}
use Rattle.std.proofs.lemmas.List.{append_assoc}
use Rattle.std.proofs.lemmas.Bool.{le-leb, lt-leb}
use Rattle.goal_print.specs.Parts.{Part, grouped, at_most}

-- two pieces, one after the other
pub two : {T E : Type 0} (r : Result T E) (t u v a b : List ℕ) → u ≡ t ++ a → OnOk r (v ≡ u ++ b) → OnOk r (v ≡ t ++ (a ++ b))
two (Ok x) t u v a b e f = f ∙ ap (λ w. w ++ b) e ∙ append_assoc t a b
two (Err x) t u v a b e f = f

pub three : {T E : Type 0} (r : Result T E) (t u v w a b c : List ℕ) → u ≡ t ++ a → v ≡ u ++ b → OnOk r (w ≡ v ++ c) → OnOk r (w ≡ t ++ (a ++ (b ++ c)))
three r t u v w a b c e f g = two r t u w a (b ++ c) e (two r u v w b c f g)

pub four : {T E : Type 0} (r : Result T E) (t u v w x a b c d : List ℕ) → u ≡ t ++ a → v ≡ u ++ b → w ≡ v ++ c → OnOk r (x ≡ w ++ d) → OnOk r (x ≡ t ++ (a ++ (b ++ (c ++ d))))
four r t u v w x a b c d e f g h = two r t u x a (b ++ (c ++ d)) e (three r u v w x b c d f g h)

pub five : {T E : Type 0} (r : Result T E) (t u v w x y a b c d z : List ℕ) → u ≡ t ++ a → v ≡ u ++ b → w ≡ v ++ c → x ≡ w ++ d → OnOk r (y ≡ x ++ z)
    → OnOk r (y ≡ t ++ (a ++ (b ++ (c ++ (d ++ z)))))
five r t u v w x y a b c d z e f g h i = two r t u y a (b ++ (c ++ (d ++ z))) e (four r u v w x y b c d z f g h i)

bare_is : (h : ℕ) (p : Part) → p.level ≤ h → at_most h p ≡ p.text
unfolding at_most
bare_is h p le = ap (λ (b : Bool). if b then p.text else grouped p.text) (le-leb p.level h le)

grouped_is : (h : ℕ) (p : Part) → h < p.level → at_most h p ≡ grouped p.text
unfolding at_most
grouped_is h p lt = ap (λ (b : Bool). if b then p.text else grouped p.text) (lt-leb p.level h lt)

-- a part whose level may stand there
pub bare : {T E : Type 0} (r : Result T E) (t u : List ℕ) (h l : ℕ) (p : Part) → l ≡ p.level → l ≤ h → OnOk r (u ≡ t ++ p.text) → OnOk r (u ≡ t ++ at_most h p)
bare r t u h l p e le f = subst (λ x. OnOk r (u ≡ t ++ x)) (sym (bare_is h p (subst (λ n. n ≤ h) e le))) f

-- a part whose level may not
pub in_parentheses : {T E : Type 0} (r : Result T E) (t u v w : List ℕ) (h l : ℕ) (p : Part) → l ≡ p.level → h < l → u ≡ t ++ codes "(" → v ≡ u ++ p.text → OnOk r (w ≡ v ++ codes ")")
    → OnOk r (w ≡ t ++ at_most h p)
in_parentheses r t u v w h l p e lt f g i =
    subst (λ x. OnOk r (w ≡ t ++ x)) (sym (grouped_is h p (subst (λ n. h < n) e lt))) (three r t u v w (codes "(") p.text (codes ")") f g i)
