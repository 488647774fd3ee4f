-- The shapes at which a tree in memory that has a view is read as its bytes are. Source: serde's data model.
use Rattle.bson_shape.specs.Form.{Form, no_parts, Content, tuple_content}
use Rattle.bson_laws.specs.Every.{Rows, Every}
use Rattle.bson_laws.specs.Owned.{owned_rows}

-- the contents are no tuple without parts
abbrev pub HasTreeParts : Content → (inside : Type 0) → Type 0
HasTreeParts (tuple_content no_parts) inside = ⊥
HasTreeParts c inside = inside

-- the same, and what a variant has is no tuple without parts
abbrev pub trees_rows : Rows
trees_rows = record owned_rows { of_content = HasTreeParts }

-- Nothing asks to be borrowed, and no variant has the contents of a tuple without parts: in a tree its array is not taken.
abbrev pub SuitsTrees : Form → Type 0
SuitsTrees = Every trees_rows
