-- What `==` answers is whether the contents are equal.
use Rattle.std.specs.Str.{bytes_eq}
use Rattle.std.specs.Cmp.{IsPartialEquivalence, partial_equiv_from_equiv, decided, on_equiv}
use Rattle.std.proofs.lemmas.Slice.Eq.{bytes_eq-Decides}
use Rattle.bson_values.specs.Same.{same, same_entry, same_field}
use Rattle.bson_values.specs.Prover.Decided.{same_decides, same_entry_decides, same_field_decides}
use Rattle.bson_datum.specs.RawView.{raw_document_view, raw_array_view}
use Rattle.bson_datum.specs.View.{view, entry_view, field_view}
use Rattle.bson_datum.specs.declared.raw_doc.RawDoc.{RawDoc}
use Rattle.bson_datum.specs.declared.raw_arr.RawArr.{RawArr}
use Rattle.bson_datum.specs.declared.datum.Entry.{Entry}
use Rattle.bson_datum.specs.declared.datum.Field.{Field}
use Rattle.bson_datum.specs.declared.datum.Datum.{Datum}

-- the laws of `==`
pub raw_document_laws : IsPartialEquivalence (λ (a : RawDoc) (b : RawDoc). bytes_eq (raw_document_view a) (raw_document_view b))
raw_document_laws = partial_equiv_from_equiv (on_equiv raw_document_view (decided bytes_eq bytes_eq-Decides))

pub raw_array_laws : IsPartialEquivalence (λ (a : RawArr) (b : RawArr). bytes_eq (raw_array_view a) (raw_array_view b))
raw_array_laws = partial_equiv_from_equiv (on_equiv raw_array_view (decided bytes_eq bytes_eq-Decides))

pub entry_laws : IsPartialEquivalence (λ (a : Entry) (b : Entry). same_entry (entry_view a) (entry_view b))
entry_laws = partial_equiv_from_equiv (on_equiv entry_view (decided same_entry same_entry_decides))

pub field_laws : IsPartialEquivalence (λ (a : Field) (b : Field). same_field (field_view a) (field_view b))
field_laws = partial_equiv_from_equiv (on_equiv field_view (decided same_field same_field_decides))

pub datum_laws : IsPartialEquivalence (λ (a : Datum) (b : Datum). same (view a) (view b))
datum_laws = partial_equiv_from_equiv (on_equiv view (decided same same_decides))
