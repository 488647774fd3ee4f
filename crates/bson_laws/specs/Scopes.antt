-- What shapes are for a reader, in the definitions around them. Source: the usual unfolding of recursive types.
use Rattle.std.specs.Prelude.{◌≡◌, ℕ, suc, Option, Some, None}
use Rattle.bson_kinds.specs.Text.{Utf8}
use Rattle.bson_shape.specs.Form.{Form, reference, Fields, Parts, Content, Variants}
use Rattle.bson_shape.specs.Guarded.{count, definition}
use Rattle.bson_shape.specs.ShapeView.{fields_of}
use Rattle.bson_laws.specs.declared.origin.Definition.{Definition}
use Rattle.bson_laws.specs.declared.origin.Reader.{Reader}
use Rattle.bson_laws.specs.Settled.{settled, settled_fields, settled_parts, settled_variants, settled_content}
use Rattle.bson_laws.specs.Unrolled.{Meanings, undefined, repeated, unrolled, unrolled_fields, unrolled_parts, unrolled_variants, unrolled_content, step, max_steps}

-- what the names of a table mean where so many rounds, and so many steps, are left
unfoldable pub table_meaning : (rounds steps : ℕ) → Fields → Meanings
table_meaning rounds steps h = repeated steps (step max_steps h) (repeated rounds (repeated (suc (count h)) (step max_steps h)) undefined)

-- what references mean to a reader
abbrev pub meanings_of : Reader → Meanings
meanings_of r = table_meaning r.rounds r.steps (fields_of r.table.now)

-- ---- what a shape is unrolled to

abbrev pub laid : Reader → Form → Form
laid r s = unrolled max_steps s (meanings_of r)

abbrev pub laid_fields : Reader → Fields → Fields
laid_fields r fs = unrolled_fields max_steps fs (meanings_of r)

abbrev pub laid_parts : Reader → Parts → Parts
laid_parts r ps = unrolled_parts max_steps ps (meanings_of r)

abbrev pub laid_variants : Reader → Variants → Variants
laid_variants r vs = unrolled_variants max_steps vs (meanings_of r)

abbrev pub laid_content : Reader → Content → Content
laid_content r c = unrolled_content max_steps c (meanings_of r)

-- ---- and settled

abbrev pub formed : Reader → Form → Form
formed r s = settled r.readable (laid r s)

abbrev pub formed_fields : Reader → Fields → Fields
formed_fields r fs = settled_fields r.readable (laid_fields r fs)

abbrev pub formed_parts : Reader → Parts → Parts
formed_parts r ps = settled_parts r.readable (laid_parts r ps)

abbrev pub formed_variants : Reader → Variants → Variants
formed_variants r vs = settled_variants r.readable (laid_variants r vs)

abbrev pub formed_content : Reader → Content → Content
formed_content r c = settled_content r.readable (laid_content r c)

-- ---- definitions

-- the definition that a name means to a reader, and the reader for it; none where it means a reference without definition
abbrev pub IsDefinedAs : Option Definition → Reader → Utf8 → Type 0
IsDefinedAs None r name = meanings_of r name ≡ reference name
IsDefinedAs (Some d) r name = (meanings_of r name ≡ laid d.reader d.shape.now) × (d.reader.readable ≡ r.readable) × (d.reader.origin ≡ r.origin)

-- a form is read as the definition of each name that it is the definition of
abbrev pub Follows : Option Definition → Reader → Form → Type 0
Follows o r f = (name : Utf8) → definition (fields_of r.table.now) name ≡ Some f → IsDefinedAs o r name
