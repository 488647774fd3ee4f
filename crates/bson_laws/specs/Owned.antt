-- The shapes at which nothing asks to be borrowed. Source: serde's data model, `visit_borrowed_str` and `visit_borrowed_bytes`.
use Rattle.std.specs.Prelude.{Bool, true, false}
use Rattle.bson_shape.specs.Form.{Form, Fields, Parts, Content, Variants}
use Rattle.bson_shape.specs.declared.leaf.Leaf.{Leaf}
use Rattle.bson_laws.specs.Every.{Rows, asking_nothing, Every, EveryField, EveryPart, EveryVariant, EveryContent}
use Rattle.bson_laws.specs.Leaves.{LeafKind, texts, byte_strings, leaf_kind}
use Rattle.bson_laws.specs.ReadsLeaf.{borrows}

-- a leaf of texts that takes them where they are not borrowed
abbrev pub IsTextOwned : (is_borrowing : Bool) → Type 0
IsTextOwned true = ⊥
IsTextOwned false = Unit {0}

-- a leaf that takes texts and byte strings that are not borrowed, too
abbrev pub IsLeafOwned : (is_borrowing : Bool) → LeafKind → Type 0
IsLeafOwned b texts = IsTextOwned b
IsLeafOwned b byte_strings = ⊥
IsLeafOwned b k = Unit {0}

-- a leaf takes what is not borrowed, too
abbrev pub owned_rows : Rows
owned_rows = record asking_nothing { of_leaf = λ (l : Leaf). IsLeafOwned (borrows l) (leaf_kind l) }

-- nothing asks to be borrowed: neither `str` nor `bytes` stands anywhere in the form (`any` and the raw leaves borrow what they can, and take it made too)
abbrev pub IsOwned : Form → Type 0
IsOwned = Every owned_rows

-- and so of fields, parts, variants and what a variant has
abbrev pub AreFieldsOwned : Fields → Type 0
AreFieldsOwned = EveryField owned_rows

abbrev pub ArePartsOwned : Parts → Type 0
ArePartsOwned = EveryPart owned_rows

abbrev pub AreVariantsOwned : Variants → Type 0
AreVariantsOwned = EveryVariant owned_rows

abbrev pub IsContentOwned : Content → Type 0
IsContentOwned = EveryContent owned_rows
