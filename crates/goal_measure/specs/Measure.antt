-- How large a term is: bounds on the coefficients, the number of terms and the degree of its polynomial.
use Rattle.std.specs.Prelude.{ℕ, ◌+◌, ◌*◌, ◌^◌, max}
use Rattle.goal_measure.specs.declared.measure.Measure.{Measure}

abbrev pub of_literal : ℕ → Measure
of_literal n = record { weight = n; spread = 1; degree = 0 }

abbrev pub of_variable : Measure
of_variable = record { weight = 1; spread = 1; degree = 1 }

abbrev pub of_sum : Measure → Measure → Measure
of_sum a b = record { weight = a.weight + b.weight; spread = a.spread + b.spread; degree = max a.degree b.degree }

abbrev pub of_product : Measure → Measure → Measure
of_product a b = record { weight = a.weight * b.weight; spread = a.spread * b.spread; degree = a.degree + b.degree }

abbrev pub of_power : Measure → ℕ → Measure
of_power a k = record { weight = a.weight ^ k; spread = a.spread ^ k; degree = k * a.degree }

-- those of a comparison
abbrev pub of_atom : Measure → Measure → Measure
of_atom a b = record { weight = (a.weight + b.weight) + 1; spread = (a.spread + b.spread) + 1; degree = max a.degree b.degree }

abbrev pub nothing : Measure
nothing = record { weight = 0; spread = 0; degree = 0 }

abbrev pub greater : Measure → Measure → Measure
greater a b = record { weight = max a.weight b.weight; spread = max a.spread b.spread; degree = max a.degree b.degree }
