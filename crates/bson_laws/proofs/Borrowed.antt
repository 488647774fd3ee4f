-- The shapes that borrow nothing which is not there to be borrowed.
use Rattle.std.proofs.Common.{◌≡◌, Bool, true, false, Ok, refl}
use Rattle.bson_kinds.specs.Outcome.{result_map}
use Rattle.bson_kinds.specs.Text as base
use Rattle.bson_rawdoc.specs.Node.{Sight, from_input, piece}
use Rattle.bson_kinds.specs.Piece.{Piece, made}
use Rattle.bson_shape.specs.Form.{Form, leaf, optional, lossy, human_readable, by_mode, sequence, newtype, unit_structure, map, tuple, tuple_structure, structure, enumeration, reference, definitions, Fields, no_fields, field, Parts, no_parts, part, Content, unit_content, newtype_content, tuple_content, struct_content, Variants, no_variants, variant}
use Rattle.bson_shape.specs.declared.leaf.Leaf.{Leaf}
use Rattle.bson_shape.specs.declared.leaf.Leaf.TheVariants.{Str, Bytes}
use Rattle.bson_values.specs.Value as value
use Rattle.bson_values.specs.Value.{Value}
use Rattle.bson_values.specs.Marked.{contents}
use Rattle.bson_laws.specs.declared.origin.Origin.{Origin}
use Rattle.bson_laws.specs.declared.origin.Origin.TheVariants as origins
use Rattle.bson_laws.specs.Leaves.{LeafKind, texts, byte_strings, leaf_kind}
use Rattle.bson_laws.specs.Owned.{IsLeafOwned}
use Rattle.bson_laws.specs.Plain.{OwnsTextLeaf}
use Rattle.bson_laws.specs.Every.{EveryContent, EveryField, EveryPart, EveryVariant}
use Rattle.bson_laws.proofs.PlainForms.{OwnsTexts, IsPlain, AreFieldsPlain, ArePartsPlain, AreVariantsPlain, IsContentPlain, text_rows}
use Rattle.bson_laws.specs.ReadsLeaf.{borrows}
use Rattle.bson_laws.specs.Taken.{borrow_or_own, owned_under_mark}
use Rattle.bson_laws.proofs.Judged.{ReadAs}
use Rattle.bson_kinds.proofs.Apart.{false_no}

-- a leaf that borrows texts takes them from the input, and so one that borrows byte strings
abbrev pub TextBorrowed : Sight → (is_borrowing : Bool) → Type 0
TextBorrowed at true = at.texts ≡ true
TextBorrowed at false = Unit {0}

abbrev pub LeafBorrowed : Sight → (is_borrowing : Bool) → LeafKind → Type 0
LeafBorrowed at l texts = TextBorrowed at l
LeafBorrowed at l byte_strings = at.bytes ≡ true
LeafBorrowed at l k = Unit {0}

-- as what is seen so is seen where its texts are mended
abbrev pub marked : Sight → Sight
marked at = record { texts = false; bytes = at.bytes; under_mark = true; in_memory = at.in_memory }

-- in bytes a leaf has what it borrows; from a tree it borrows nothing
abbrev pub LeafSuits : Origin → Sight → (is_borrowing : Bool) → LeafKind → Type 0
LeafSuits origins.Bytes at l k = LeafBorrowed at l k
LeafSuits origins.Tree at l k = IsLeafOwned l k

-- a mark makes nothing of a tree in memory
abbrev pub marked_at : Origin → Sight → Sight
marked_at origins.Bytes at = marked at
marked_at origins.Tree at = at

-- the contents of a tuple variant have a part, where they are taken from a tree
abbrev pub HasParts : Origin → Parts → Type 0
HasParts origins.Bytes ps = Unit {0}
HasParts origins.Tree no_parts = ⊥
HasParts origins.Tree (part s ps) = Unit {0}

abbrev mutual
  -- what each leaf of the shape borrows is there, and what each variant has is taken
  pub Suits : Origin → Sight → Form → Type 0
  Suits o at (leaf l) = LeafSuits o at (borrows l) (leaf_kind l)
  Suits o at (optional s) = Suits o at s
  Suits o at (lossy s) = Suits o (marked_at o at) s
  Suits o at (human_readable s) = Suits o at s
  Suits o at (by_mode readable compact) = Suits o at readable × Suits o at compact
  Suits o at (newtype name s) = Suits o at s
  Suits o at (unit_structure name) = Unit {0}
  Suits o at (sequence s) = Suits o at s
  Suits o at (map key s) = Suits o at key × Suits o at s
  Suits o at (tuple ps) = PartsSuit o at ps
  Suits o at (tuple_structure name ps) = PartsSuit o at ps
  Suits o at (enumeration vs) = VariantsSuit o at vs
  Suits o at (structure u name fs) = FieldsSuit o at fs
  Suits o at (reference name) = Unit {0}
  Suits o at (definitions h s) = Suits o at s

  pub FieldsSuit : Origin → Sight → Fields → Type 0
  FieldsSuit o at no_fields = Unit {0}
  FieldsSuit o at (field name s fs) = Suits o at s × FieldsSuit o at fs

  pub PartsSuit : Origin → Sight → Parts → Type 0
  PartsSuit o at no_parts = Unit {0}
  PartsSuit o at (part s ps) = Suits o at s × PartsSuit o at ps

  pub VariantsSuit : Origin → Sight → Variants → Type 0
  VariantsSuit o at no_variants = Unit {0}
  VariantsSuit o at (variant name c vs) = ContentSuits o at c × VariantsSuit o at vs

  pub ContentSuits : Origin → Sight → Content → Type 0
  ContentSuits o at unit_content = Unit {0}
  ContentSuits o at (newtype_content s) = Suits o at s
  ContentSuits o at (tuple_content ps) = HasParts o ps × PartsSuit o at ps
  ContentSuits o at (struct_content fs) = FieldsSuit o at fs

-- ---- in the input everything may be borrowed, but for the texts that are mended

leaf_owned : (at : Sight) (l : Leaf) → at.bytes ≡ true → OwnsTextLeaf l → LeafBorrowed at (borrows l) (leaf_kind l)
leaf_owned at Str e h = absurd h
leaf_owned at Bytes e h = e
leaf_owned at l e h = tt

leaf_from_input : (l : Bool) (k : LeafKind) → LeafBorrowed from_input l k
leaf_from_input true texts = refl
leaf_from_input false texts = tt
leaf_from_input l byte_strings = refl
leaf_from_input l k = tt

mutual
  -- where no text is borrowed, byte strings alone are
  pub borrowed_owned : (at : Sight) (s : Form) → at.bytes ≡ true → OwnsTexts s → Suits origins.Bytes at s
  borrowed_owned at (leaf l) e h = leaf_owned at l e h
  borrowed_owned at (optional s) e h = borrowed_owned at s e h
  borrowed_owned at (lossy s) e h = borrowed_owned (marked at) s e h
  borrowed_owned at (human_readable s) e h = borrowed_owned at s e h
  borrowed_owned at (by_mode readable compact) e h = (borrowed_owned at readable e h.0, borrowed_owned at compact e h.1)
  borrowed_owned at (newtype name s) e h = borrowed_owned at s e h
  borrowed_owned at (unit_structure name) e h = tt
  borrowed_owned at (sequence s) e h = borrowed_owned at s e h
  borrowed_owned at (map key s) e h = (borrowed_owned at key e h.0, borrowed_owned at s e h.1)
  borrowed_owned at (tuple ps) e h = parts_owned at ps e h
  borrowed_owned at (tuple_structure name ps) e h = parts_owned at ps e h
  borrowed_owned at (enumeration vs) e h = variants_owned at vs e h
  borrowed_owned at (structure u name fs) e h = fields_owned at fs e h
  borrowed_owned at (reference name) e h = tt
  borrowed_owned at (definitions t s) e h = borrowed_owned at s e h

  fields_owned : (at : Sight) (fs : Fields) → at.bytes ≡ true → EveryField text_rows fs → FieldsSuit origins.Bytes at fs
  fields_owned at no_fields e h = tt
  fields_owned at (field name s fs) e h = (borrowed_owned at s e h.0, fields_owned at fs e h.1)

  parts_owned : (at : Sight) (ps : Parts) → at.bytes ≡ true → EveryPart text_rows ps → PartsSuit origins.Bytes at ps
  parts_owned at no_parts e h = tt
  parts_owned at (part s ps) e h = (borrowed_owned at s e h.0, parts_owned at ps e h.1)

  variants_owned : (at : Sight) (vs : Variants) → at.bytes ≡ true → EveryVariant text_rows vs → VariantsSuit origins.Bytes at vs
  variants_owned at no_variants e h = tt
  variants_owned at (variant name c vs) e h = (content_owned at c e h.0, variants_owned at vs e h.1)

  content_owned : (at : Sight) (c : Content) → at.bytes ≡ true → EveryContent text_rows c → ContentSuits origins.Bytes at c
  content_owned at unit_content e h = tt
  content_owned at (newtype_content s) e h = borrowed_owned at s e h
  content_owned at (tuple_content ps) e h = (tt, parts_owned at ps e h)
  content_owned at (struct_content fs) e h = fields_owned at fs e h

mutual
  pub borrowed_from_input : (s : Form) → IsPlain s → Suits origins.Bytes from_input s
  borrowed_from_input (leaf l) p = leaf_from_input (borrows l) (leaf_kind l)
  borrowed_from_input (optional s) p = borrowed_from_input s p
  borrowed_from_input (lossy s) p = borrowed_owned (marked from_input) s refl p.0
  borrowed_from_input (human_readable s) p = absurd p
  borrowed_from_input (by_mode readable compact) p = absurd p
  borrowed_from_input (newtype name s) p = borrowed_from_input s p.1
  borrowed_from_input (unit_structure name) p = tt
  borrowed_from_input (sequence s) p = borrowed_from_input s p
  borrowed_from_input (map key s) p = (borrowed_from_input key p.1, borrowed_from_input s p.2)
  borrowed_from_input (tuple ps) p = parts_from_input ps p
  borrowed_from_input (tuple_structure name ps) p = parts_from_input ps p
  borrowed_from_input (enumeration vs) p = variants_from_input vs p
  borrowed_from_input (structure u name fs) p = fields_from_input fs p.1
  borrowed_from_input (reference name) p = tt
  borrowed_from_input (definitions h s) p = borrowed_from_input s p.1

  fields_from_input : (fs : Fields) → AreFieldsPlain fs → FieldsSuit origins.Bytes from_input fs
  fields_from_input no_fields p = tt
  fields_from_input (field name s fs) p = (borrowed_from_input s p.1, fields_from_input fs p.2)

  parts_from_input : (ps : Parts) → ArePartsPlain ps → PartsSuit origins.Bytes from_input ps
  parts_from_input no_parts p = tt
  parts_from_input (part s ps) p = (borrowed_from_input s p.0, parts_from_input ps p.1)

  variants_from_input : (vs : Variants) → AreVariantsPlain vs → VariantsSuit origins.Bytes from_input vs
  variants_from_input no_variants p = tt
  variants_from_input (variant name c vs) p = (content_from_input c p.1, variants_from_input vs p.2)

  content_from_input : (c : Content) → IsContentPlain c → ContentSuits origins.Bytes from_input c
  content_from_input unit_content p = tt
  content_from_input (newtype_content s) p = borrowed_from_input s p
  content_from_input (tuple_content ps) p = (tt, parts_from_input ps p)
  content_from_input (struct_content fs) p = fields_from_input fs p

-- ---- what may be borrowed is read

pub borrowed_text : (at : Sight) (l : Bool) (t : base.Bytes) (v : Value) → LeafBorrowed at l texts → value.str t ≡ v → ReadAs contents (result_map value.str (borrow_or_own l (piece at.texts t))) v
borrowed_text at true t v w e = (value.str (piece at.texts t), by_case at.texts w, e) where
  by_case : (b : Bool) → b ≡ true → result_map value.str (borrow_or_own true (piece b t)) ≡ Ok (value.str (piece b t))
  by_case true h = refl
  by_case false h = absurd (false_no h)
borrowed_text at false t v w e = (value.str (made t), refl, e)

pub owned_same : (u : Bool) (p : Piece) → (owned_under_mark u p).bytes ≡ p.bytes
owned_same true p = refl
owned_same false p = refl
