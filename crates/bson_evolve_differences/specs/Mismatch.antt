-- Why two parts pass no row, and which of their parts are compared all the same. Source: this library's own comparison of shapes.
use Rattle.std.specs.Prelude.{Bool, true, false, ◌&&◌, if◌then◌else◌, List, [], ◌∷◌, ◌++◌, Option, Some, None}
use Rattle.bson_kinds.specs.Text.{Utf8}
use Rattle.bson_shape.specs.Form.{dropped, denied, Form, leaf, optional, unit_structure, map as map_form, tuple, tuple_structure, structure, enumeration, Fields, no_fields, field, Content, struct_content, Variants, no_variants, variant}
use Rattle.bson_values.specs.Refusal.{Path, at_key}
use Rattle.bson_laws.specs.Leaves.{LeafKind, numbers, leaf_kind}
use Rattle.bson_laws.specs.Named.{form_of, has}
use Rattle.bson_laws.specs.Variants.{content_of}
use Rattle.bson_evolve_laws.specs.Rows.{Step, step, Answer, content_row, is_documents, is_units}
use Rattle.bson_evolve_check.specs.Steps.{is_option}
use Rattle.bson_evolve_differences.specs.Reasons.{Reason, may_be_null, narrower, other_length, other_keys, no_row, missing_field, unknown_field, missing_variant, other_content, missing_in_variant}

-- it is said where the condition does not hold
abbrev pub unless : Bool → Reason → List Reason
unless b r = if b then [] else r ∷ []

-- ---- structs

-- the old struct has the field, or it is an option itself
abbrev pub is_given : Option Form → Form → Bool
is_given (Some x) y = true
is_given None y = is_option y

-- each field of the new struct that is not given, in its order
abbrev pub missing : (Utf8 → Reason) → Fields → Fields → List Reason
missing because fs no_fields = []
missing because fs (field name y gs) = unless (is_given (form_of fs name) y) (because name) ++ missing because fs gs

-- each field of the old struct that the new one does not name, in the order of the old one
abbrev pub unknown : Fields → Fields → List Reason
unknown no_fields gs = []
unknown (field name x fs) gs = unless (has gs name) (unknown_field name) ++ unknown fs gs

-- a field of the new struct with that of its name in the old one, where it has one
abbrev pub common_field : Path → Utf8 → Option Form → Form → List Step
common_field path name (Some x) y = step (path ++ (at_key name ∷ [])) x y ∷ []
common_field path name None y = []

-- each of them, in the order of the new struct
abbrev pub common_fields : Path → Fields → Fields → List Step
common_fields path fs no_fields = []
common_fields path fs (field name y gs) = common_field path name (form_of fs name) y ++ common_fields path fs gs

-- ---- enums

abbrev pub passes : Answer → Bool
passes None = false
passes (Some ss) = true

-- the pairs that a row names
abbrev pub steps_of : Answer → List Step
steps_of None = []
steps_of (Some ss) = ss

-- an old variant, and the content of the new one of its name: why it does not pass
abbrev pub content_reasons : Utf8 → Content → Option Content → List Reason
content_reasons name c None = missing_variant name ∷ []
content_reasons name (struct_content fs) (Some (struct_content gs)) = missing (missing_in_variant name) fs gs
content_reasons name c (Some d) = unless (passes (content_row name c (Some d))) (other_content name)

-- what both have in common
abbrev pub content_steps : Utf8 → Content → Option Content → List Step
content_steps name (struct_content fs) (Some (struct_content gs)) = common_fields (at_key name ∷ []) fs gs
content_steps name c o = steps_of (content_row name c o)

-- the variants of the old enum, in its order
abbrev pub variant_reasons : Variants → Variants → List Reason
variant_reasons no_variants ws = []
variant_reasons (variant name c vs) ws = content_reasons name c (content_of ws name) ++ variant_reasons vs ws

abbrev pub variant_steps : Variants → Variants → List Step
variant_steps no_variants ws = []
variant_steps (variant name c vs) ws = content_steps name c (content_of ws name) ++ variant_steps vs ws

-- ---- other parts

abbrev pub is_nullable : Form → Bool
is_nullable (leaf l) = is_units (leaf_kind l)
is_nullable (optional x) = true
is_nullable (unit_structure name) = true
is_nullable a = false

abbrev pub are_integers : LeafKind → Bool
are_integers (numbers t) = true
are_integers k = false

abbrev pub is_integer : Form → Bool
is_integer (leaf l) = are_integers (leaf_kind l)
is_integer a = false

abbrev pub is_tuple : Form → Bool
is_tuple (tuple ps) = true
is_tuple (tuple_structure name ps) = true
is_tuple a = false

-- a document with keys of its own
abbrev pub has_keys : Form → Bool
has_keys (map_form k x) = true
has_keys (structure u name fs) = true
has_keys (leaf l) = is_documents (leaf_kind l)
has_keys a = false

abbrev pub is_map : Form → Bool
is_map (map_form k x) = true
is_map a = false

-- the reason of parts that are neither two structs nor two enums
abbrev pub reason : Form → Form → Reason
reason a b =
    if is_nullable a then may_be_null
    else (if is_integer a && is_integer b then narrower
    else (if is_tuple a && is_tuple b then other_length
    else (if has_keys a && is_map b then other_keys
    else no_row)))

-- ---- a pair that passes no row

-- why: each field that is missing or refused, each variant that is missing or has other content, or the one reason
abbrev pub mismatch : Form → Form → List Reason
mismatch (structure u name fs) (structure dropped other gs) = missing missing_field fs gs
mismatch (structure u name fs) (structure denied other gs) = missing missing_field fs gs ++ unknown fs gs
mismatch (enumeration vs) (enumeration ws) = variant_reasons vs ws
mismatch a b = reason a b ∷ []

-- the pairs of parts that are entered all the same: those that two structs or two enums have in common
abbrev pub common : Form → Form → List Step
common (structure u name fs) (structure v other gs) = common_fields [] fs gs
common (enumeration vs) (enumeration ws) = variant_steps vs ws
common a b = []
