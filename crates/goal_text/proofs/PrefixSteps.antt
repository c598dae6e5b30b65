-- Moving the names of a group from the last on.
use Rattle.std.proofs.Common.{◌≡◌, List, [], ◌∷◌, ◌++◌, refl, sym, ap, ◌∙◌}
use Rattle.std.specs.Prelude.{reverse}
use Rattle.std.proofs.lemmas.List.{reverse-append}
use Rattle.goal_ast.specs.declared.term.Sort.{Sort}
use Rattle.goal_sort.specs.declared.raw.RawBound.{RawBound}
use Rattle.goal_text.specs.declared.state.Named.{Named}
use Rattle.goal_text.specs.Files.{bounds}

abbrev bound_of : Sort → Named → RawBound
bound_of s n = record { name = n.name; sort = s; at = n.at }

last_bound : (s : Sort) (names : List Named) (n : Named) (bs : List RawBound) → bounds s (names ++ n ∷ []) ++ bs ≡ bounds s names ++ bound_of s n ∷ bs
last_bound s [] n bs = refl
last_bound s (m ∷ names) n bs = ap (λ bs. bound_of s m ∷ bs) (last_bound s names n bs)

pub bounds_step : (s : Sort) (old new : List Named) (n : Named) (bs : List RawBound) → old ≡ new ++ n ∷ [] → bounds s old ++ reverse bs ≡ bounds s new ++ reverse (bs ++ bound_of s n ∷ [])
bounds_step s old new n bs e =
    ap (λ names. bounds s names ++ reverse bs) e ∙ last_bound s new n (reverse bs)
    ∙ ap (λ bs. bounds s new ++ bs) (sym (reverse-append bs (bound_of s n ∷ [])))
