-- The shapes at which a clean tree is read from either origin.
use Rattle.std.proofs.Common.{Bool, true, false}
use Rattle.bson_rawdoc.specs.Node.{Sight}
use Rattle.bson_shape.specs.Form.{Form, leaf, optional, lossy, human_readable, by_mode, sequence, newtype, unit_structure, map, tuple, tuple_structure, structure, enumeration, reference, definitions, Fields, no_fields, field, Parts, no_parts, part, Content, unit_content, newtype_content, tuple_content, struct_content, Variants, no_variants, variant}
use Rattle.bson_laws.specs.declared.origin.Origin.{Origin}
use Rattle.bson_laws.specs.declared.origin.Origin.TheVariants as origins
use Rattle.bson_laws.specs.Leaves.{LeafKind, texts, byte_strings}
use Rattle.bson_laws.specs.Owned.{IsLeafOwned}
use Rattle.bson_laws.specs.Every.{EveryContent, EveryField, EveryPart, EveryVariant}
use Rattle.bson_laws.specs.SuitsTrees.{SuitsTrees, trees_rows}
use Rattle.bson_laws.proofs.Borrowed.{LeafBorrowed, LeafSuits, Suits, FieldsSuit, PartsSuit, VariantsSuit, ContentSuits}

-- ---- from a tree

mutual
  pub tree_suits : (at : Sight) (s : Form) → SuitsTrees s → Suits origins.Tree at s
  tree_suits at (leaf l) h = h
  tree_suits at (optional s) h = tree_suits at s h
  tree_suits at (lossy s) h = tree_suits at s h
  tree_suits at (human_readable s) h = tree_suits at s h
  tree_suits at (by_mode readable compact) h = (tree_suits at readable h.0, tree_suits at compact h.1)
  tree_suits at (newtype name s) h = tree_suits at s h
  tree_suits at (unit_structure name) h = tt
  tree_suits at (sequence s) h = tree_suits at s h
  tree_suits at (map key s) h = (tree_suits at key h.0, tree_suits at s h.1)
  tree_suits at (tuple ps) h = parts_tree_suit at ps h
  tree_suits at (tuple_structure name ps) h = parts_tree_suit at ps h
  tree_suits at (enumeration vs) h = variants_tree_suit at vs h
  tree_suits at (structure u name fs) h = fields_tree_suit at fs h
  tree_suits at (reference name) h = tt
  tree_suits at (definitions t s) h = tree_suits at s h.1

  fields_tree_suit : (at : Sight) (fs : Fields) → EveryField trees_rows fs → FieldsSuit origins.Tree at fs
  fields_tree_suit at no_fields h = tt
  fields_tree_suit at (field name s fs) h = (tree_suits at s h.0, fields_tree_suit at fs h.1)

  parts_tree_suit : (at : Sight) (ps : Parts) → EveryPart trees_rows ps → PartsSuit origins.Tree at ps
  parts_tree_suit at no_parts h = tt
  parts_tree_suit at (part s ps) h = (tree_suits at s h.0, parts_tree_suit at ps h.1)

  variants_tree_suit : (at : Sight) (vs : Variants) → EveryVariant trees_rows vs → VariantsSuit origins.Tree at vs
  variants_tree_suit at no_variants h = tt
  variants_tree_suit at (variant name c vs) h = (content_tree_suits at c h.0, variants_tree_suit at vs h.1)

  content_tree_suits : (at : Sight) (c : Content) → EveryContent trees_rows c → ContentSuits origins.Tree at c
  content_tree_suits at unit_content h = tt
  content_tree_suits at (newtype_content s) h = tree_suits at s h
  content_tree_suits at (tuple_content no_parts) h = absurd h
  content_tree_suits at (tuple_content (part s ps)) h = (tt, (tree_suits at s h.0, parts_tree_suit at ps h.1))
  content_tree_suits at (struct_content fs) h = fields_tree_suit at fs h

-- ---- at a leaf

text_borrows : (at : Sight) (l : Bool) → IsLeafOwned l texts → LeafBorrowed at l texts
text_borrows at true h = absurd h
text_borrows at false h = tt

owned_borrowed : (at : Sight) (l : Bool) (k : LeafKind) → IsLeafOwned l k → LeafBorrowed at l k
owned_borrowed at l texts h = text_borrows at l h
owned_borrowed at l byte_strings h = absurd h
owned_borrowed at l k h = tt

-- what suits an origin borrows nothing that may not be borrowed
pub suits_borrowed : (o : Origin) (at : Sight) (l : Bool) (k : LeafKind) → LeafSuits o at l k → LeafBorrowed at l k
suits_borrowed origins.Bytes at l k h = h
suits_borrowed origins.Tree at l k h = owned_borrowed at l k h
