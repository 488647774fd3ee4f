-- How the prover stores the texts of a regular expression.
use Rattle.std.specs.Prelude.{ℕ, List, refl}
use Rattle.std.specs.Coded.{Coded, code_by, coded×, coded_list, coded_ℕ}
use Rattle.bson_base.specs.RegexView.{RegexTexts}

abbrev pub coded_regex : Coded RegexTexts
coded_regex = code_by (List ℕ × List ℕ) (coded× (coded_list coded_ℕ) (coded_list coded_ℕ)) (λ r. (r.pattern, r.options)) (λ p. record { pattern = p.0; options = p.1 }) (λ _. refl)
