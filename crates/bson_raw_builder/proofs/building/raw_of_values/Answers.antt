use Rattle.std.proofs.Common.{rules, ◌++◌, ap, sym, subst, ◌∙◌}
use Rattle.bson_base.specs.BsonView.{trees_of}
use Rattle.bson_kinds.specs.Outcome.{◌>>=◌}
use Rattle.bson_base.specs.Sound.{max_levels}
use Rattle.bson_base.specs.Tree.{array, kind, enc}
use Rattle.bson_values.specs.ErrorView.{read_failure}
use Rattle.bson_laws.specs.Assembled.{Building, RawBytes, built, within_limit, assembled}
use Rattle.bson_raw_parts.specs.Putting.{Gives, with_value}
use Rattle.bson_raw_parts.specs.RawValueView.{raw_view}
use Rattle.bson_raw_builder.proofs.Putting.{refuses_as, whole_built}
use Rattle.bson_raw_builder.proofs.building.raw_of_values.Goals as goal

pub returns-in_err-element_type : goal.returns-in_err-element_type
returns-in_err-element_type c =
    let t = array (trees_of c.args.values.now) in
    let here = refuses_as (read_failure c.in_err-element_type.field-0.0) (λ u. (kind u, c.new-out.result.items ++ enc u)) (built t max_levels) (assembled t) (λ k e. ap (λ r. r >>= within_limit) e) c.in_err-element_type.ensures in
    record { assembled = search (rules, here) }

pub returns : goal.returns
returns c =
    let expected = built (array (trees_of c.args.values.now)) max_levels in
    let new = c.put_array.new.out.items in
    let whole = ap (λ b. with_value b expected) (sym c.new-out.ensures.items) ∙ c.in_ok-element_type.ensures in
    record { assembled = subst (λ (b : Building RawBytes). Gives raw_view c.finished.result b) (whole_built new c.in_ok-element_type.element_type expected whole) c.finished.ensures }
