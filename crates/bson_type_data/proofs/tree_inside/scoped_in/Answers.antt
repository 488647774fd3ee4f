use Rattle.std.proofs.Common.{sym, subst, ◌∙◌}
use Rattle.bson_values.specs.Returned.{Reads}
use Rattle.bson_type_data.specs.Trees.{scoped_contents}
use Rattle.bson_type_data.proofs.TreeSteps.{scoped_value}
use Rattle.bson_type_data.proofs.tree_inside.scoped_in.Goals as goal

pub returns-then-is_scoped : goal.returns-then-is_scoped
returns-then-is_scoped c =
    subst (Reads scoped_contents c.fields_in.result) (scoped_value c.args.datum.now c.in-Struct.name c.in-Struct.fields c.deref.result.now c.in-Struct.is c.deref.ensures.value (sym c.is_scoped.ensures ∙ c.if-is_scoped.true)) c.fields_in.ensures
