-- What a `Cat` is written as, read from and contains. Source: serde's data model.
use Rattle.std.specs.Prelude.{◌≡◌, ℤ, true, Ok, refl, codes, string_bytes, FitsSigned}
use Rattle.std.specs.Int.{w32}
use Rattle.std.specs.Str.{is_utf8}
use Rattle.bson.specs.Text.{Utf8}
use Rattle.bson.specs.Form.{Form, Fields, leaf}
use Rattle.bson.specs.Form as form
use Rattle.bson.specs.Leaves as leaves
use Rattle.bson.specs.Value.{Value, FieldValues, integer, i32, str}
use Rattle.bson.specs.TypeAnswers.{Reading, Writing}
use Rattle.bson.specs.TypeLaws.{Returns, IsNeverNull}
use Rattle.bson.specs.Scalars.{taken_i32, taken_text}
use Rattle.bson.specs.Structs.{no_fields, and_field, written_structure, then_field, last_field, taken_structure}
use Rattle.bson.specs.ScalarsBack.{i32_returns, string_returns}
use Rattle.bson.specs.StructsBack.{ReturnFields, field_returns, last_returns, structure_returns, structure_not_null}
use Rattle.bson_example_types.specs.declared.cat.Cat.{Cat}

-- ---- written

abbrev pub written-age : Cat → Writing Value
written-age cat = Ok (integer i32 cat.age)

-- the field `age` and those behind it
abbrev pub age-written : Cat → Writing FieldValues
age-written cat = and_field (codes "age") (written-age cat) no_fields

abbrev pub written-name : Cat → Writing Value
written-name cat = Ok (str (string_bytes cat.name))

-- the field `name` and those behind it
abbrev pub name-written : Cat → Writing FieldValues
name-written cat = and_field (codes "name") (written-name cat) (age-written cat)

abbrev pub written_cat : Cat → Writing Value
written_cat cat = written_structure (codes "Cat") (name-written cat)

-- ---- read

abbrev pub age-fields : Fields
age-fields = form.field (codes "age") (leaf leaves.I32) form.no_fields

abbrev pub age-taken : FieldValues → Reading ℤ
age-taken = last_field (codes "age") taken_i32

abbrev pub age-contents : Cat → ℤ
age-contents cat = cat.age

abbrev pub name-fields : Fields
name-fields = form.field (codes "name") (leaf leaves.String) age-fields

abbrev pub name-taken : FieldValues → Reading (Utf8 × ℤ)
name-taken = then_field (codes "name") taken_text age-taken

abbrev pub name-contents : Cat → (Utf8 × ℤ)
name-contents cat = (string_bytes cat.name, age-contents cat)

abbrev pub cat_form : Form
cat_form = form.structure form.dropped (codes "Cat") name-fields

abbrev pub CatContents : Type 0
CatContents = Utf8 × ℤ

abbrev pub cat_contents : Cat → CatContents
cat_contents cat = name-contents cat

abbrev pub taken_cat : Value → Reading CatContents
taken_cat = taken_structure (codes "Cat") name-taken

-- ---- the laws, by those of the types of the fields

abbrev pub IsCat : Cat → Type 0
IsCat cat = (is_utf8 (string_bytes cat.name) ≡ true) × (FitsSigned w32 cat.age)

age-returns : (cat : Cat) → IsCat cat → ReturnFields age-fields (age-contents cat) age-taken (age-written cat)
age-returns cat h = last_returns (codes "age") (leaf leaves.I32) cat.age taken_i32 (written-age cat) (i32_returns cat.age h.1)

name-returns : (cat : Cat) → IsCat cat → ReturnFields name-fields (name-contents cat) name-taken (name-written cat)
name-returns cat h =
    field_returns (codes "name") (leaf leaves.String) (string_bytes cat.name) taken_text (written-name cat) age-fields (age-contents cat) age-taken (age-written cat) (string_returns (string_bytes cat.name) h.0) (age-returns cat h)

pub cat_returns : (cat : Cat) → IsCat cat → Returns cat_form (cat_contents cat) taken_cat (written_cat cat)
cat_returns cat h = structure_returns (codes "Cat") name-fields (name-contents cat) name-taken (name-written cat) refl (name-returns cat h)

pub cat_not_null : (cat : Cat) → IsNeverNull (written_cat cat)
cat_not_null cat = structure_not_null (codes "Cat") (name-written cat) refl
