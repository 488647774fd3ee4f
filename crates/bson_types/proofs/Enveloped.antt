-- The bytes that a datum is written as pass the test of their envelope.
use Rattle.std.proofs.Common.{◌≡◌, ◌≤◌, ℕ, [], length, Bool, true, false, Option, None, Some, Ok, refl, sym, subst, ◌∙◌, arith}
use Rattle.std.specs.Str.{bytes_eq}
use Rattle.bson_kinds.specs.Outcome.{result_map}
use Rattle.bson_kinds.specs.Reserved.{reserved_kind}
use Rattle.bson_base.specs.Sound.{max_bytes, max_levels}
use Rattle.bson_kinds.specs.Text.{Bytes, Utf8}
use Rattle.bson_base.specs.Tree.{Tree, array, document, raw, Pairs, kind, enc}
use Rattle.bson_kinds.specs.declared.element_type.ElementType.{ElementType}
use Rattle.bson_kinds.specs.declared.element_type.ElementType.TheVariants.{EmbeddedDocument}
use Rattle.bson_kinds.proofs.Outcomes.{map_ok}
use Rattle.bson_rawdoc.specs.Envelope.{envelope}
use Rattle.bson_values.specs.Value.{IntegerType, i8, written_as, Value, integer, some, newtype, map, structure, newtype_variant, tuple_variant, structure_variant, raw_document, mode, FieldValues, kind_as, kind_of, readable_inside, reserved_or_document, uuid_newtype}
use Rattle.bson_laws.specs.Unwrap.{unwrap, scoped_code}
use Rattle.bson_laws.specs.UuidBytes.{uuid_bytes}
use Rattle.bson_laws.specs.Spell.{Writing, at_top, enclosed_at, in_bytes, reserved_at, spell_uuid, struct_at, spell, spell_as, spell_items_as, spell_entries_as, spell_fields_as, spell_list, spell_document, size}
use Rattle.bson_laws.proofs.ReadBack.{envelope_again}
use Rattle.bson_laws.proofs.Sizes.{ok_is, binary_is, enclosed_ok, variant_ok, newtype_ok, spell_kind, length-spell}
use Rattle.bson_types.specs.Framed.{IsFramed}

-- a document that is given by its bytes is given by those of a whole one
abbrev IsWhole : Tree → Type 0
IsWhole (raw EmbeddedDocument b) = envelope b ≡ Ok b
IsWhole t = Unit {0}

other_kind : (t : Tree) → (kind t ≡ EmbeddedDocument → ⊥) → IsWhole t
other_kind (raw EmbeddedDocument b) h = absurd (h refl)
other_kind t h = tt

of_kind : (k : ElementType) (t : Tree) → kind t ≡ k → (k ≡ EmbeddedDocument → ⊥) → IsWhole t
of_kind k t is h = other_kind t (λ x. h (sym is ∙ x))

number_kind : (type : IntegerType) → written_as type ≡ EmbeddedDocument → ⊥
number_kind i8 e = cc
number_kind type e = cc

-- ---- what is written is whole

uuid_whole : (o : Option Bytes) (t : Tree) → spell_uuid o ≡ Ok t → IsWhole t
uuid_whole None t e = absurd cc
uuid_whole (Some bs) t e = subst IsWhole (binary_is _ _ 4 bs t e) tt

raw_whole : (b : Bytes) (levels : ℕ) (t : Tree) → envelope b ≡ Ok b → in_bytes EmbeddedDocument b levels ≡ Ok t → IsWhole t
raw_whole b levels t h e =
    let m = enclosed_ok {A = Bytes} (raw EmbeddedDocument) levels (λ n. Ok b) t e in
    subst IsWhole m.2.2 (subst (λ x. envelope x ≡ Ok x) (ok_is b m.2.0 m.2.1) h)

struct_whole : (o : Option ElementType) (fs : FieldValues) (levels : ℕ) (pairs : ℕ → Writing Pairs) (scoped : Option (Utf8 × Writing Tree)) (t : Tree) → kind t ≡ reserved_or_document o
    → struct_at o levels pairs (λ k. reserved_at k (unwrap k fs) scoped) ≡ Ok t → IsWhole t
struct_whole None fs levels pairs scoped t is e = let m = enclosed_ok document levels pairs t e in subst IsWhole m.2.2 tt
struct_whole (Some EmbeddedDocument) fs levels pairs scoped t is e = absurd cc
struct_whole (Some k) fs levels pairs scoped t is e = of_kind k t is (λ x. cc)

spelled_whole : (r : Bool) (v : Value) (levels : ℕ) (t : Tree) → IsFramed v → spell_as r v levels ≡ Ok t → IsWhole t
spelled_whole r (raw_document b) levels t h e = raw_whole b levels t h e
spelled_whole r (some v) levels t h e = spelled_whole r v levels t h e
spelled_whole r (newtype name v) levels t h e =
    newtype_ok (bytes_eq name uuid_newtype) (spell_uuid (uuid_bytes r v)) (spell_as (readable_inside r name) v levels) t e
    (λ is x. uuid_whole (uuid_bytes r v) t x)
    (λ is x. spelled_whole (readable_inside r name) v levels t h x)
spelled_whole true (mode v w) levels t h e = spelled_whole true v levels t h.0 e
spelled_whole false (mode v w) levels t h e = spelled_whole false w levels t h.1 e
spelled_whole r (structure name fs) levels t h e =
    struct_whole (reserved_kind name) fs levels (spell_fields_as r fs) (scoped_code (spell_list r fs levels [])) t (spell_kind r (structure name fs) levels t e) e
spelled_whole r (map es) levels t h e = let m = enclosed_ok document levels (spell_entries_as r es) t e in subst IsWhole m.2.2 tt
spelled_whole r (newtype_variant name v) levels t h e = let m = variant_ok name levels (spell_as r v) t e in subst IsWhole m.2.2 tt
spelled_whole r (tuple_variant name vs) levels t h e = let m = variant_ok name levels (λ inner. enclosed_at array inner (spell_items_as r 0 vs)) t e in subst IsWhole m.2.2 tt
spelled_whole r (structure_variant name fs) levels t h e = let m = variant_ok name levels (λ inner. enclosed_at document inner (spell_fields_as r fs)) t e in subst IsWhole m.2.2 tt
spelled_whole r (integer type n) levels t h e = of_kind (written_as type) t (spell_kind r (integer type n) levels t e) (number_kind type)
spelled_whole r v levels t h e = of_kind (kind_as r v) t (spell_kind r v levels t e) (λ x. cc)

-- ---- the envelope

top_document : (k : ElementType) (r : Writing Tree) (t : Tree) → at_top k r ≡ Ok t → (k ≡ EmbeddedDocument) × (r ≡ Ok t)
top_document EmbeddedDocument r t e = (refl, e)
top_document k r t e = absurd cc

enveloped : (t : Tree) → kind t ≡ EmbeddedDocument → IsWhole t → length (enc t) ≤ max_bytes → envelope (enc t) ≡ Ok (enc t)
enveloped (document ps) k whole fits = envelope_again ps (omega (arith, fits))
enveloped (raw EmbeddedDocument b) k whole fits = whole
enveloped t k whole fits = absurd cc

pub document_framed : (v : Value) (b : Bytes) → IsFramed v → result_map enc (spell_document v) ≡ Ok b → size v ≤ max_bytes → envelope b ≡ Ok b
document_framed v b h e fits =
    let written = map_ok enc (spell_document v) b e in
    let top = top_document (kind_of v) (spell v max_levels) written.0 written.1 in
    let small : length (enc written.0) ≤ max_bytes = subst (λ n. n ≤ max_bytes) (sym (length-spell false v max_levels written.0 top.1)) fits in
    subst (λ z. envelope z ≡ Ok z) written.2
    (enveloped written.0 (spell_kind false v max_levels written.0 top.1 ∙ top.0) (spelled_whole false v max_levels written.0 h top.1) small)
