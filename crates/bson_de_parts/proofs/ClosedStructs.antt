-- The fields of a closed struct, which are read from the elements of a document alone.
use Rattle.std.proofs.Common.{◌≡◌, Ok, Err, refl, sym, subst, ap, ◌∙◌}
use Rattle.bson_kinds.specs.Outcome.{◌>>=◌, result_map}
use Rattle.bson_rawdoc.specs.Node.{Node, array, Nodes}
use Rattle.bson_shape.specs.Form.{denied}
use Rattle.bson_values.specs.Marked.{Marked, MarkedFields}
use Rattle.bson_values.specs.declared.de.Fault.{Fault}
use Rattle.bson_values.specs.declared.stop.Stop.{Stop}
use Rattle.bson_laws.specs.Judged.{Reading, judged}
use Rattle.bson_laws.specs.Slots.{Slots, read_structure}
use Rattle.bson_laws.specs.Taken.{document_of}
use Rattle.bson_met.specs.MetView.{document_at}
use Rattle.bson_met.proofs.Refusals.{StopsAs, stops_bind, stops_map}
use Rattle.bson_slots.specs.FieldsRead.{fields_by_key}

taken_then : {A B C : Type 0} (f : B → C) (r : Reading A) (g : A → Reading B) → result_map f (r >>= g) ≡ (r >>= λ x. result_map f (g x))
taken_then f (Ok x) g = refl
taken_then f (Err e) g = refl

judged_then : {A B C D : Type 0} (f : C → D) (r : Reading A) (read : A → Reading C) (take : A → Reading B) (g : B → Reading C) → ((m : A) → read m ≡ (take m >>= g)) → (r >>= λ m. result_map f (read m)) ≡ (r >>= take >>= λ x. result_map f (g x))
judged_then f (Ok m) read take g same = ap (result_map f) (same m) ∙ taken_then f (take m) g
judged_then f (Err e) read take g same = refl

-- an array is refused as what is no document
by_document : (slots : Slots) (m : Node) → read_structure denied slots m ≡ (document_of m >>= fields_by_key denied slots)
by_document slots (array slice ns) = refl
by_document slots m = refl

module _ (make : MarkedFields → Marked) (slots : Slots) (n : Node) where
  pub closed_by_key : (judged n >>= λ m. result_map make (read_structure denied slots m)) ≡ (document_at n >>= λ ns. result_map make (fields_by_key denied slots ns))
  closed_by_key = judged_then make (judged n) (read_structure denied slots) document_of (fields_by_key denied slots) (by_document slots)

  -- a value that is no document is refused
  pub closed_stops : (s : Stop Fault) → StopsAs s (document_at n) → StopsAs s (judged n >>= λ m. result_map make (read_structure denied slots m))
  closed_stops s h = subst (λ (r : Reading Marked). StopsAs s r) (sym closed_by_key) (stops_bind s (document_at n) (λ ns. result_map make (fields_by_key denied slots ns)) h)

  -- its elements are refused
  pub closed_fields_stop : (ns : Nodes) (s : Stop Fault) → document_at n ≡ Ok ns → StopsAs s (fields_by_key denied slots ns) → StopsAs s (judged n >>= λ m. result_map make (read_structure denied slots m))
  closed_fields_stop ns s is h =
      subst (λ (r : Reading Marked). StopsAs s r) (sym (closed_by_key ∙ ap (λ r. r >>= λ xs. result_map make (fields_by_key denied slots xs)) is)) (stops_map s make (fields_by_key denied slots ns) h)
