-- What contracts see of the steps of an edit. Source: this library's own types.
use Rattle.std.specs.Prelude.{List, [], ◌∷◌, Option, Some, None, option_map, String, string_bytes}
use Rattle.std.specs.declared.alloc.Global.{Global}
use Rattle.bson_kinds.specs.Text.{Utf8}
use Rattle.bson_editing.specs.Literal.{tree_of}
use Rattle.bson_editing.specs.Plan as plans
use Rattle.bson_editing.specs.Plan.{Steps, no_steps, step}
use Rattle.bson_editing.specs.declared.plan.Edit.{Edit, Keep, DropIt, Change, InsideIt', Row_of-Step, end_of-Step, more_of-Step}
use Rattle.bson_editing.specs.declared.plan.Step.{Step}

abbrev pub name_of : Option (String Global) → Option Utf8
name_of None = None
name_of (Some text) = Some (string_bytes text)

abbrev mutual
  pub edit_of : Edit → plans.Edit
  edit_of Keep = plans.keep
  edit_of DropIt = plans.drop_it
  edit_of (Change n) = plans.change n
  edit_of (InsideIt' shape rows) = plans.inside_it (rows_of rows)

  pub rows_of : {m : _} → Row_of-Step m → Steps
  rows_of end_of-Step = no_steps
  rows_of (more_of-Step name to missing edit rest) = step (name_of name) (name_of to) (option_map tree_of missing) (edit_of edit) (rows_of rest)

-- the same of a list
abbrev pub steps_of : List Step → Steps
steps_of [] = no_steps
steps_of (s ∷ ss) = step (name_of s.name) (name_of s.to) (option_map tree_of s.missing) (edit_of s.edit) (steps_of ss)
