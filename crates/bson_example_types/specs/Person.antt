-- What a `Person` is written as, read from and contains. Source: serde's data model.
use Rattle.std.specs.Prelude.{◌≡◌, ℤ, true, List, map, Ok, refl, codes, string_bytes, FitsSigned}
use Rattle.std.specs.Int.{w64}
use Rattle.std.specs.List.{All}
use Rattle.std.specs.Str.{is_utf8}
use Rattle.bson.specs.Text.{Utf8}
use Rattle.bson.specs.Form.{Form, Fields, leaf}
use Rattle.bson.specs.Form as form
use Rattle.bson.specs.Leaves as leaves
use Rattle.bson.specs.Value.{Value, FieldValues, integer, i64, str}
use Rattle.bson.specs.TypeAnswers.{Reading, Writing}
use Rattle.bson.specs.TypeLaws.{Returns, IsNeverNull}
use Rattle.bson.specs.Scalars.{taken_i64, taken_text}
use Rattle.bson.specs.Sequences.{written_sequence, taken_sequence}
use Rattle.bson.specs.Structs.{no_fields, and_field, written_structure, then_field, last_field, taken_structure}
use Rattle.bson.specs.ScalarsBack.{i64_returns, string_returns}
use Rattle.bson.specs.SequencesBack.{sequence_returns}
use Rattle.bson.specs.StructsBack.{ReturnFields, field_returns, last_returns, structure_returns, structure_not_null}
use Rattle.bson_example_types.specs.Pet.{written_pet, pet_form, PetContents, pet_contents, taken_pet, IsPet, pet_returns}
use Rattle.bson_example_types.specs.declared.household.Person.{Person}

-- ---- written

abbrev pub written-pets : Person → Writing Value
written-pets person = written_sequence written_pet person.pets.items

-- the field `pets` and those behind it
abbrev pub pets-written : Person → Writing FieldValues
pets-written person = and_field (codes "pets") (written-pets person) no_fields

abbrev pub written-age : Person → Writing Value
written-age person = Ok (integer i64 person.age)

-- the field `age` and those behind it
abbrev pub age-written : Person → Writing FieldValues
age-written person = and_field (codes "age") (written-age person) (pets-written person)

abbrev pub written-name : Person → Writing Value
written-name person = Ok (str (string_bytes person.name))

-- the field `name` and those behind it
abbrev pub name-written : Person → Writing FieldValues
name-written person = and_field (codes "name") (written-name person) (age-written person)

abbrev pub written_person : Person → Writing Value
written_person person = written_structure (codes "Person") (name-written person)

-- ---- read

abbrev pub pets-fields : Fields
pets-fields = form.field (codes "pets") (form.sequence pet_form) form.no_fields

abbrev pub pets-taken : FieldValues → Reading (List PetContents)
pets-taken = last_field (codes "pets") (taken_sequence taken_pet)

abbrev pub pets-contents : Person → (List PetContents)
pets-contents person = map pet_contents person.pets.items

abbrev pub age-fields : Fields
age-fields = form.field (codes "age") (leaf leaves.I64) pets-fields

abbrev pub age-taken : FieldValues → Reading (ℤ × (List PetContents))
age-taken = then_field (codes "age") taken_i64 pets-taken

abbrev pub age-contents : Person → (ℤ × (List PetContents))
age-contents person = (person.age, pets-contents person)

abbrev pub name-fields : Fields
name-fields = form.field (codes "name") (leaf leaves.String) age-fields

abbrev pub name-taken : FieldValues → Reading (Utf8 × (ℤ × (List PetContents)))
name-taken = then_field (codes "name") taken_text age-taken

abbrev pub name-contents : Person → (Utf8 × (ℤ × (List PetContents)))
name-contents person = (string_bytes person.name, age-contents person)

abbrev pub person_form : Form
person_form = form.structure form.dropped (codes "Person") name-fields

abbrev pub PersonContents : Type 0
PersonContents = Utf8 × (ℤ × (List PetContents))

abbrev pub person_contents : Person → PersonContents
person_contents person = name-contents person

abbrev pub taken_person : Value → Reading PersonContents
taken_person = taken_structure (codes "Person") name-taken

-- ---- the laws, by those of the types of the fields

abbrev pub IsPerson : Person → Type 0
IsPerson person = (is_utf8 (string_bytes person.name) ≡ true) × (FitsSigned w64 person.age) × (All IsPet person.pets.items)

pets-returns : (person : Person) → IsPerson person → ReturnFields pets-fields (pets-contents person) pets-taken (pets-written person)
pets-returns person h = last_returns (codes "pets") (form.sequence pet_form) (map pet_contents person.pets.items) (taken_sequence taken_pet) (written-pets person) (sequence_returns written_pet pet_contents taken_pet pet_form IsPet pet_returns person.pets.items h.2)

age-returns : (person : Person) → IsPerson person → ReturnFields age-fields (age-contents person) age-taken (age-written person)
age-returns person h =
    field_returns (codes "age") (leaf leaves.I64) person.age taken_i64 (written-age person) pets-fields (pets-contents person) pets-taken (pets-written person) (i64_returns person.age h.1) (pets-returns person h)

name-returns : (person : Person) → IsPerson person → ReturnFields name-fields (name-contents person) name-taken (name-written person)
name-returns person h =
    field_returns (codes "name") (leaf leaves.String) (string_bytes person.name) taken_text (written-name person) age-fields (age-contents person) age-taken (age-written person) (string_returns (string_bytes person.name) h.0) (age-returns person h)

pub person_returns : (person : Person) → IsPerson person → Returns person_form (person_contents person) taken_person (written_person person)
person_returns person h = structure_returns (codes "Person") name-fields (name-contents person) name-taken (name-written person) refl (name-returns person h)

pub person_not_null : (person : Person) → IsNeverNull (written_person person)
person_not_null person = structure_not_null (codes "Person") (name-written person) refl
