-- A date that is no text.
use Rattle.std.proofs.Common.{◌≡◌, Option, Ok, refl, ap, sym, ◌∙◌}
use Rattle.std.specs.Prelude.{codes, option_map}
use Rattle.bson_kinds.specs.Outcome.{◌>>=◌, result_map}
use Rattle.bson_base.specs.Parsed.{integer_of_text}
use Rattle.bson_base.specs.Tree as tree
use Rattle.bson_rawdoc.specs.Node.{Node}
use Rattle.bson_values.specs.Value.{Value}
use Rattle.bson_laws.specs.Judged.{judged}
use Rattle.bson_laws.specs.Wrapped.{Body, judging, date_body, at, with_field, text, a_field, a_text}
use Rattle.bson_laws.proofs.Tame.{judged_is}
use Rattle.bson_met.specs.ValueView.{value_view}
use Rattle.bson_met.specs.declared.text.MetText.{MetText}
use Rattle.bson_met.specs.declared.value.Value as met
use Rattle.bson_met.specs.declared.value.Value.TheVariants.{String}
use Rattle.bson_wrapped.specs.Bodies.{as_datum, made_by}

-- milliseconds, of the text of their digits
abbrev pub in_millis : Value → Option tree.Tree
in_millis = a_field (a_text (λ t. option_map tree.date_time (integer_of_text t)))

abbrev pub number_body : Body
number_body = at (with_field (codes "$numberLong") text) in_millis

other_body : (v : met.Value) → ((t : MetText) → v ≡ String t → ⊥) → date_body (value_view v) ≡ number_body (value_view v)
other_body (String t) h = absurd (h t refl)
other_body v h = refl

-- a value that is no text is read as milliseconds in a struct
pub date_number : (n : Node) (v : met.Value) → judged n ≡ Ok (value_view v) → ((t : MetText) → v ≡ String t → ⊥) → made_by (judging date_body) n ≡ made_by number_body n
date_number n v e h =
    ap (λ r. result_map as_datum (r >>= date_body)) e ∙ ap (result_map as_datum) (other_body v h) ∙ ap (λ m. made_by number_body m) (sym (judged_is n (value_view v) e))
