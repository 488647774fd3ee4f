use Rattle.std.proofs.Common.{Ok, ap, sym, subst, ◌∙◌}
use Rattle.bson_kinds.specs.Outcome.{◌>>=◌}
use Rattle.bson_values.specs.Marked.{Marked}
use Rattle.bson_datum.specs.MarkedView.{marked}
use Rattle.bson_laws.specs.Judged.{Reading}
use Rattle.bson_laws.specs.ReadsRaw.{raw_value_of}
use Rattle.bson_laws.specs.TreeRaw.{tree_raw_value_of}
use Rattle.bson_met.specs.Gives.{Reaches}
use Rattle.bson_met.specs.ValueView.{value_view}
use Rattle.bson_raw_builder.proofs.RawLeaves.{plain_alike}
use Rattle.bson_raw_builder.proofs.reading.read_whole.Goals as goal

pub returns-in-Document : goal.returns-in-Document
returns-in-Document c =
    let whole = ap (λ r. r >>= tree_raw_value_of) (c.in_ok-document.ensures.judged ∙ ap (λ v. Ok (value_view v)) c.in-Document.is) in
    record { exact = subst (λ (r : Reading Marked). Reaches marked c.document_value.result r) (sym whole) c.document_value.ensures.exact }

pub returns-in-Array : goal.returns-in-Array
returns-in-Array c =
    let whole = ap (λ r. r >>= tree_raw_value_of) (c.in_ok-document.ensures.judged ∙ ap (λ v. Ok (value_view v)) c.in-Array.is) in
    record { exact = subst (λ (r : Reading Marked). Reaches marked c.array_value.result r) (sym whole) c.array_value.ensures.exact }

pub extended_value-requires : goal.extended_value-requires
extended_value-requires c = record { judged = c.in_ok-document.ensures.judged ∙ ap (λ v. Ok (value_view v)) c.in-Extended.is }

pub returns-in-Extended : goal.returns-in-Extended
returns-in-Extended c =
    let whole = ap (λ r. r >>= tree_raw_value_of) (c.in_ok-document.ensures.judged ∙ ap (λ v. Ok (value_view v)) c.in-Extended.is) in
    record { exact = subst (λ (r : Reading Marked). Reaches marked c.extended_value.result r) (sym whole) c.extended_value.ensures.exact }

pub returns-in_default : goal.returns-in_default
returns-in_default c =
    let v = c.in_ok-document.field-0 in
    let d = c.in_default in
    let whole =
    ap (λ r. r >>= tree_raw_value_of) c.in_ok-document.ensures.judged ∙ plain_alike v d.not-Document d.not-Array d.not-Extended ∙ sym (ap (λ r. r >>= raw_value_of) c.in_ok-document.ensures.judged) in
    record { exact = subst (λ (r : Reading Marked). Reaches marked c.read_extended.result r) (sym whole) c.read_extended.ensures.exact }
