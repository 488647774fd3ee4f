use Rattle.std.proofs.Common.{◌≡◌, Some, sym}
use Rattle.bson_shape.specs.Guarded.{definition}
use Rattle.bson_shape.specs.ShapeView.{fields_of}
use Rattle.bson_evolve_check.proofs.Peeling.{name_smaller, sees_last, sees_name, sees_undefined}
use Rattle.bson_evolve_check.proofs.peel.follow.Goals as goal

pub returns-then-at-eq0 : goal.returns-then-at-eq0
returns-then-at-eq0 c = λ tables number. let at = c.args.at in sees_last at.left (fields_of at.place.table.definitions.now) at.place.shape.now c.args.name.now c.requires c.if-at-eq0.true

pub returns-in-Some : goal.returns-in-Some
returns-in-Some c = λ tables number.
    let at = c.args.at in
    let h = fields_of at.place.table.definitions.now in
    let f = at.place.shape.now in
    let s = c.in-Some.shape.now in
    let name = c.args.name.now in
    let is : definition h name ≡ Some s = sym c.in-Some.ensures in
    record { number = number; same = sees_name at.left h f s name c.if-at-eq0.false c.requires is; fewer = name_smaller at.left h f s name c.if-at-eq0.false is }

pub returns-in-None : goal.returns-in-None
returns-in-None c = λ tables number.
    let at = c.args.at in
    sees_undefined at.left (fields_of at.place.table.definitions.now) at.place.shape.now c.args.name.now c.requires (sym c.in-None.ensures)
