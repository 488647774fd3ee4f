-- The laws of structs, from those of the types of their fields.
use Rattle.std.specs.Prelude.{◌≡◌, true, Option, Some, None, Ok, Err, refl}
use Rattle.std.specs.Str.{bytes_eq}
use Rattle.std.proofs.Common.{ap, ◌∙◌}
use Rattle.std.proofs.lemmas.Slice.Eq.{bytes_eq-Decides}
use Rattle.bson_kinds.specs.Outcome.{◌>>=◌}
use Rattle.bson_kinds.specs.Reserved.{reserved_kind}
use Rattle.bson_kinds.specs.Text.{Utf8}
use Rattle.bson_base.specs.Tree.{Tree, Pairs, null}
use Rattle.bson_kinds.specs.declared.element_type.ElementType.{ElementType}
use Rattle.bson_shape.specs.Form as form
use Rattle.bson_shape.specs.Form.{Form, Fields}
use Rattle.bson_values.specs.Value.{Value, structure, FieldValues, no_field_values, field_value}
use Rattle.bson_laws.specs.Means.{means_fields, norm, norm_fields, norm_struct, struct_means}
use Rattle.bson_laws.proofs.FitsUnrolled.{FieldsFitIn, field_in, structure_in}
use Rattle.bson_type_data.specs.Answers.{Reading, Writing}
use Rattle.bson_traits.specs.Laws.{Returns, IsNeverNull}
use Rattle.bson_traits.specs.Structs.{and_field, no_fields, written_structure, struct_fields, next_field, no_field_left, then_field, last_field, taken_structure}

-- field values fit fields, and what is read back of them gives these contents
pub record GiveFields {C : Type 0} (fs : Fields) (contents : C) (t : FieldValues → Reading C) (vs : FieldValues) : Type 0 where
  pub fit : FieldsFitIn form.no_fields vs fs
  pub again : t (norm_fields vs) ≡ Ok contents

abbrev pub ReturnFields : {C : Type 0} → Fields → C → (FieldValues → Reading C) → Writing FieldValues → Type 0
ReturnFields fs contents t (Ok vs) = GiveFields fs contents t vs
ReturnFields fs contents t (Err e) = Unit {0}

same_name : (name : Utf8) → bytes_eq name name ≡ true
same_name name = (bytes_eq-Decides name name).1 refl

-- the first field is found by its name
found : {C : Type 0} (name : Utf8) (t : Value → Reading C) (v : Value) (c : C) (fs : FieldValues) → t v ≡ Ok c → next_field name t (field_value name v fs) ≡ Ok (c, fs)
found name t v c fs e = rw (same_name name, e) refl

pub field_returns : {C D : Type 0} (name : Utf8) (f : Form) (c : C) (t : Value → Reading C) (r : Writing Value) (fs : Fields) (d : D) (rest : FieldValues → Reading D) (ws : Writing FieldValues) → Returns f c t r → ReturnFields fs d rest ws
    → ReturnFields (form.field name f fs) (c, d) (then_field name t rest) (and_field name r ws)
field_returns name f c t (Err e) fs d rest ws a b = tt
field_returns name f c t (Ok v) fs d rest (Err e) a b = tt
field_returns name f c t (Ok v) fs d rest (Ok vs) a b = record {
  fit = field_in form.no_fields name f fs v vs a.fits b.fit;
  again = ap (λ r. r >>= λ first. rest first.1 >>= λ e. Ok (first.0, e)) (found name t (norm v) c (norm_fields vs) a.again) ∙ ap (λ r. r >>= λ e. Ok (c, e)) b.again;
}

pub last_returns : {C : Type 0} (name : Utf8) (f : Form) (c : C) (t : Value → Reading C) (r : Writing Value) → Returns f c t r
    → ReturnFields (form.field name f form.no_fields) c (last_field name t) (and_field name r no_fields)
last_returns name f c t (Err e) a = tt
last_returns name f c t (Ok v) a = record {
  fit = field_in form.no_fields name f form.no_fields v no_field_values a.fits tt;
  again = ap (λ r. r >>= λ last. no_field_left last.1 >>= λ end. Ok last.0) (found name t (norm v) c no_field_values a.again);
}

kept : (k : Option ElementType) (fs : FieldValues) → k ≡ None → norm_struct k fs ≡ fs
kept None fs e = refl
kept (Some k) fs e = absurd cc

own_fields : (name : Utf8) (fs : FieldValues) → struct_fields name (structure name fs) ≡ Ok fs
own_fields name fs = rw (same_name name) refl

pub structure_returns : {C : Type 0} (name : Utf8) (fs : Fields) (c : C) (t : FieldValues → Reading C) (ws : Writing FieldValues) → reserved_kind name ≡ None → ReturnFields fs c t ws
    → Returns (form.structure form.dropped name fs) c (taken_structure name t) (written_structure name ws)
structure_returns name fs c t (Err e) free a = tt
structure_returns name fs c t (Ok vs) free a = record {
  fits = structure_in form.no_fields form.dropped name fs vs a.fit;
  again = ap (λ ns. struct_fields name (structure name ns) >>= t) (kept (reserved_kind name) (norm_fields vs) free) ∙ ap (λ r. r >>= t) (own_fields name (norm_fields vs)) ∙ a.again;
}

-- a struct means a document
document_not_null : (k : Option ElementType) (r : Option Pairs) (reserved : ElementType → Option Tree) → k ≡ None → struct_means k r reserved ≡ Some null → ⊥
document_not_null None None reserved is e = cc
document_not_null None (Some ps) reserved is e = cc
document_not_null (Some k) r reserved is e = absurd cc

pub structure_not_null : (name : Utf8) (ws : Writing FieldValues) → reserved_kind name ≡ None → IsNeverNull (written_structure name ws)
structure_not_null name (Err e) free = tt
structure_not_null name (Ok vs) free = document_not_null (reserved_kind name) (means_fields vs) _ free
