-- Recasting the fields of a struct one by one.
use Rattle.std.proofs.Common.{◌≡◌, ℕ, List, [], ◌∷◌, ◌++◌, true, false, Option, Some, None, Ok, refl, ap, sym, subst, ◌∙◌}
use Rattle.std.specs.Str.{bytes_eq}
use Rattle.std.proofs.lemmas.List.{append_assoc, append-nil}
use Rattle.bson_kinds.specs.Text.{Bytes, Utf8}
use Rattle.bson_base.specs.Tree.{Pairs, no_pairs, pair, enc, kind, element, elements}
use Rattle.bson_rawdoc.specs.Node.{Node, Nodes, ended, then_node}
use Rattle.bson_kinds.specs.Piece.{Piece}
use Rattle.bson_shape.specs.Form.{UnknownFields, dropped}
use Rattle.bson_values.specs.Marked.{Marked, MarkedFields, field_contents}
use Rattle.bson_values.specs.Value.{no_field_values, field_value}
use Rattle.bson_laws.specs.Judged.{ignores}
use Rattle.bson_laws.specs.Slots.{Slot, Slots, put_at, finish}
use Rattle.bson_laws.specs.Spell.{spell_fields}
use Rattle.bson_pass_parts.specs.Found.{names, IsWritten, AreWritten}
use Rattle.bson_pass_parts.specs.Put.{recast_fields, ArePairsPut}

-- a key is none of these names
abbrev pub LacksName : Utf8 → List Utf8 → Type 0
LacksName key [] = Unit {0}
LacksName key (n ∷ ns) = (bytes_eq n key ≡ false) × LacksName key ns

-- a key is the name of none of these slots
abbrev pub Lacks : Utf8 → Slots → Type 0
Lacks key ss = LacksName key (names ss)

pub names-append : (xs ys : Slots) → names (xs ++ ys) ≡ names xs ++ names ys
names-append [] ys = refl
names-append (x ∷ xs) ys = ap (λ ns. x.name ∷ ns) (names-append xs ys)

-- the slot with a value
abbrev pub filled : Slot → Marked → Slot
filled s v = record s { value = Some v }

-- an element that no slot takes
pub put_dropped : (key : Utf8) (n : Node) (ss : Slots) → Lacks key ss → ignores n ≡ Ok tt → put_at dropped key n ss ≡ Ok ss
put_dropped key n [] free h = rw h refl
put_dropped key n (s ∷ ss) free h = rw (free.0, put_dropped key n ss free.1 h) refl

-- an element that a slot without a value takes, behind others
pub put_expected : (u : UnknownFields) (key : Utf8) (n : Node) (front back : Slots) (s : Slot) (v : Marked) → Lacks key front → bytes_eq s.name key ≡ true → s.value ≡ None → s.read n ≡ Ok v → put_at u key n (front ++ s ∷ back) ≡ Ok (front ++ filled s v ∷ back)
put_expected u key n [] back s v free same empty read = rw (same, empty, read) refl
put_expected u key n (f ∷ front) back s v free same empty read = rw (free.0, put_expected u key n front back s v free.1 same empty read) refl

-- ---- what is written

-- one more
pub written_more : (levels : ℕ) (ss : Slots) (s : Slot) (bytes more : Bytes) → AreWritten levels ss bytes → IsWritten levels s more → AreWritten levels (ss ++ s ∷ []) (bytes ++ more)
written_more levels [] s bytes more h one = (more, [], one, refl, rw h (sym (append-nil more)))
written_more levels (f ∷ ss) s bytes more h one =
    (h.0, h.1 ++ more, h.2, written_more levels ss s h.1 more h.3 one, ap (λ b. b ++ more) h.4 ∙ append_assoc h.0 h.1 more)

-- the fields of slots that are written, and their pairs
pub record Finished (levels : ℕ) (ss : Slots) (bytes : Bytes) : Type 0 where
  pub values : MarkedFields
  pub pairs : Pairs
  pub finished : finish ss ≡ Ok values
  pub spelled : spell_fields (field_contents values) levels ≡ Ok pairs
  pub bytes_are : bytes ≡ elements pairs

pub finished : (levels : ℕ) (ss : Slots) (bytes : Bytes) → AreWritten levels ss bytes → Finished levels ss bytes
finished levels [] bytes h = record { values = no_field_values; pairs = no_pairs; finished = refl; spelled = refl; bytes_are = h }
finished levels (s ∷ ss) bytes h =
    let one = h.2 in
    let rest = finished levels ss h.1 h.3 in
    record {
      values = field_value (record { bytes = s.name; in_input = false }) one.value rest.values;
      pairs = pair s.name one.tree rest.pairs;
      finished = rw (one.given, rest.finished) refl;
      spelled = rw (one.closed, one.spelled, rest.spelled) refl;
      bytes_are = h.4 ∙ ap (λ b. b ++ h.1) one.bytes_are ∙ ap (λ b. element (kind one.tree) s.name (enc one.tree) ++ b) rest.bytes_are;
    }

-- all fields are written, and no element is left
pub fields_end : (u : UnknownFields) (levels : ℕ) (whole : Option Pairs) (ss : Slots) (old bytes new : Bytes) → whole ≡ recast_fields u ss levels ended → AreWritten levels ss bytes → new ≡ old ++ bytes → ArePairsPut whole old new
fields_end u levels whole ss old bytes new is h put =
    let all = finished levels ss bytes h in
    let left : recast_fields u ss levels ended ≡ Some all.pairs = rw (all.finished, all.spelled) refl in
    subst (λ (o : Option Pairs). ArePairsPut o old new) (sym (is ∙ left)) (put ∙ ap (λ b. old ++ b) all.bytes_are)

-- an element was put
pub fields_step : (u : UnknownFields) (levels : ℕ) (key : Piece) (n : Node) (ns : Nodes) (old new : Slots) → put_at u key.bytes n old ≡ Ok new → recast_fields u old levels (then_node key n ns) ≡ recast_fields u new levels ns
fields_step u levels key n ns old new h = rw h refl
