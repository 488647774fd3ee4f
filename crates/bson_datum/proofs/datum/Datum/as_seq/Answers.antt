use Rattle.std.proofs.Common.{Some, ap, sym, ◌∙◌}
use Rattle.bson_datum.specs.Access.{as_seq}
use Rattle.bson_datum.specs.View.{view, items_view}
use Rattle.bson_datum.proofs.Views.{view-TupleStruct, view-TupleVariant}
use Rattle.bson_datum.proofs.datum.Datum.as_seq.Goals as goal

pub returns-in-TupleStruct : goal.returns-in-TupleStruct
returns-in-TupleStruct c =
    let it = c.in-TupleStruct in
    record { items = ap (λ xs. Some (items_view xs)) c.deref-in-TupleStruct.ensures.value ∙ sym (ap as_seq (ap view it.is ∙ view-TupleStruct it.name it.items)) }

pub returns-in-TupleVariant : goal.returns-in-TupleVariant
returns-in-TupleVariant c =
    let it = c.in-TupleVariant in
    record { items = ap (λ xs. Some (items_view xs)) c.deref-in-TupleVariant.ensures.value ∙ sym (ap as_seq (ap view it.is ∙ view-TupleVariant it.variant it.items)) }
