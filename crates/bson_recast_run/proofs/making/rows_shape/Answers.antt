use Rattle.std.proofs.Common.{refl, sym, ◌∙◌, inl, inr}
use Rattle.bson_kinds.proofs.Outcomes.{ok_is}
use Rattle.bson_recast_run.specs.Making.{rows_shape}
use Rattle.bson_recast_run.proofs.MadeRecast.{rows_are_shape, shape_fails}
use Rattle.bson_recast_run.proofs.making.rows_shape.Goals as goal

pub unreachable-requires : goal.unreachable-requires
unreachable-requires c =
    let given = rw c.in-Err.is at (c.parse.ensures.only rows_shape rows_are_shape refl) in
    let none = shape_fails c.in-Err.error given in
    elim c.in-NotNotation.is [
      | inl d ↦ let is = sym none ∙ d.1 in cc
      | inr d ↦ let is = sym none ∙ d.2 in cc
    ]

pub returns-in-Ok : goal.returns-in-Ok
returns-in-Ok c = let given = rw c.in-Ok.is at (c.parse.ensures.only rows_shape rows_are_shape refl) in sym (ok_is rows_shape c.in-Ok.shape given)
