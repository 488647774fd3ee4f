use Rattle.std.proofs.Common.{◌≡◌, ◌+◌, ◌<◌, ◌∙◌, ap, length, sym, subst}
use Rattle.bson_shape.specs.ShapeView.{fields_of}
use Rattle.bson_evolve_laws.specs.Placed.{placed}
use Rattle.bson_evolve_check.specs.Peels.{names_to, sees, steps_left, IsBehind}
use Rattle.bson_evolve_check.specs.Placing.{tables_in}
use Rattle.bson_evolve_check.specs.declared.peel.Seeing.{Seeing}
use Rattle.bson_evolve_check.proofs.Peeling.{inner_smaller, sees_definitions, sees_inner, table_smaller}
use Rattle.bson_evolve_check.proofs.Placings.{more_none}
use Rattle.bson_evolve_check.proofs.peel.further.Goals as goal

pub returns-in-Here : goal.returns-in-Here
returns-in-Here c =
    let h = fields_of c.args.at.place.table.definitions.now in
    record { more = more_none (tables_in c.args.tables.now) c.requires.different; further = c.in-Here.ensures (names_to c.args.at.left h) h }

pub returns-in-Inner : goal.returns-in-Inner
returns-in-Inner c =
    let at = c.args.at in
    let h = fields_of at.place.table.definitions.now in
    let hs = tables_in c.args.tables.now in
    let f = at.place.shape.now in
    let s = c.in-Inner.inner in
    let next : Seeing = record { place = record { table = at.place.table; shape = s }; left = at.left } in
    let behind : IsBehind hs at next = record { number = c.requires.number; same = sym (sees_inner at.left h f s.now c.in-Inner.ensures); fewer = inner_smaller at.left h f s.now c.in-Inner.ensures } in
    record { more = more_none hs c.requires.different; further = subst (IsBehind hs at) (sym c.beside.ensures) behind }

pub follow-requires : goal.follow-requires
follow-requires c = c.in-Name.ensures

pub returns-in-Name : goal.returns-in-Name
returns-in-Name c = let hs = tables_in c.args.tables.now in record { more = more_none hs c.requires.different; further = c.follow.ensures hs c.requires.number }

pub returns-in_ok-table-in-Table : goal.returns-in_ok-table-in-Table
returns-in_ok-table-in-Table c =
    let at = c.args.at in
    let h = fields_of at.place.table.definitions.now in
    let f = at.place.shape.now in
    let ds = c.in-Table.definitions.now in
    let s = c.in-Table.body.now in
    let table = c.in_ok-table-in-Table.table in
    let is : table.definitions.now ≡ ds = ap (λ b. b.now) c.in_ok-table-in-Table.ensures.definitions in
    record {
      more = c.in_ok-table-in-Table.ensures.more;
      further = record {
        number = c.in_ok-table-in-Table.ensures.number;
        same = sym (sees_definitions at.left h ds f s c.in-Table.ensures ∙ ap (λ xs. sees (length ds + 1) (placed (fields_of xs) s)) (sym is));
        fewer = subst (λ xs. steps_left (length ds + 1) (placed (fields_of xs) s) < steps_left at.left (placed h f)) (sym is) (table_smaller at.left h ds f s c.in-Table.ensures);
      };
    }
