-- The notation of shapes: one text for each form. A text is its UTF-8 bytes. Source: this library's own notation.
use Rattle.std.specs.Prelude.{ℕ, Bool, false, ◌&&◌, ◌||◌, nat_le, ◌==◌, if◌then◌else◌, List, [], ◌∷◌, ◌++◌}
use Rattle.std.specs.List.{list_all}
use Rattle.bson_kinds.specs.Text.{Utf8}
use Rattle.bson_shape.specs.Form.{UnknownFields, dropped, denied, Form, leaf, optional, lossy, human_readable, by_mode, sequence, map, tuple, tuple_structure, newtype, unit_structure, structure, enumeration, reference, definitions, Fields, no_fields, field, Parts, no_parts, part, Variants, no_variants, variant, Content, unit_content, newtype_content, tuple_content, struct_content}
use Rattle.bson_shape.specs.Leaf.{word}

-- `!`
abbrev pub exclamation : ℕ
exclamation = 33

-- `"`
abbrev pub quote : ℕ
quote = 34

-- `%`
abbrev pub percent : ℕ
percent = 37

-- `&`
abbrev pub ampersand : ℕ
ampersand = 38

-- `(`
abbrev pub open_paren : ℕ
open_paren = 40

-- `)`
abbrev pub close_paren : ℕ
close_paren = 41

-- `,`
abbrev pub comma : ℕ
comma = 44

-- `:`
abbrev pub colon : ℕ
colon = 58

-- `<`
abbrev pub open_angle : ℕ
open_angle = 60

-- `=`
abbrev pub equals : ℕ
equals = 61

-- `>`
abbrev pub close_angle : ℕ
close_angle = 62

-- `?`
abbrev pub question : ℕ
question = 63

-- `@`
abbrev pub at_sign : ℕ
at_sign = 64

-- `^`
abbrev pub caret : ℕ
caret = 94

-- `~`
abbrev pub tilde : ℕ
tilde = 126

-- `[`
abbrev pub open_bracket : ℕ
open_bracket = 91

-- `\`
abbrev pub backslash : ℕ
backslash = 92

-- `]`
abbrev pub close_bracket : ℕ
close_bracket = 93

-- `{`
abbrev pub open_brace : ℕ
open_brace = 123

-- `}`
abbrev pub close_brace : ℕ
close_brace = 125

abbrev pub between : ℕ → ℕ → ℕ → Bool
between low high b = nat_le low b && nat_le b high

-- an ASCII letter or `_`
abbrev pub begins_bare : ℕ → Bool
begins_bare b = between 65 90 b || between 97 122 b || (b == 95)

-- an ASCII letter, an ASCII digit or `_`
abbrev pub in_bare : ℕ → Bool
in_bare b = begins_bare b || between 48 57 b

-- a bare name: a letter or `_`, and then letters, digits and `_`
abbrev pub bare : Utf8 → Bool
bare [] = false
bare (b ∷ bs) = begins_bare b && list_all in_bare bs

-- the bytes that make a name of the word before them: `=`, `!`, `(` and `{`
abbrev pub names_form : ℕ → Bool
names_form b = (b == equals) || (b == exclamation) || (b == open_paren) || (b == open_brace)

-- `"` and `\`
abbrev pub is_escaped : ℕ → Bool
is_escaped b = (b == quote) || (b == backslash)

-- with `\` before each `"` and each `\`
abbrev pub escaped : Utf8 → Utf8
escaped [] = []
escaped (b ∷ bs) = if is_escaped b then backslash ∷ b ∷ escaped bs else b ∷ escaped bs

abbrev pub quoted : Utf8 → Utf8
quoted name = quote ∷ (escaped name ++ quote ∷ [])

-- a bare name is as it is, every other one between quotes
abbrev pub name_text : Utf8 → Utf8
name_text name = if bare name then name else quoted name

-- before a struct the empty name is not written
abbrev pub struct_name_text : Utf8 → Utf8
struct_name_text [] = []
struct_name_text (b ∷ bs) = name_text (b ∷ bs)

-- each of the texts with a comma before it
abbrev pub after_commas : List Utf8 → Utf8
after_commas [] = []
after_commas (x ∷ xs) = comma ∷ (x ++ after_commas xs)

-- the texts with commas between
abbrev pub listed : List Utf8 → Utf8
listed [] = []
listed (x ∷ xs) = x ++ after_commas xs

-- between parentheses
abbrev pub in_parens : List Utf8 → Utf8
in_parens texts = open_paren ∷ (listed texts ++ close_paren ∷ [])

-- between braces
abbrev pub in_braces : List Utf8 → Utf8
in_braces texts = open_brace ∷ (listed texts ++ close_brace ∷ [])

-- before the fields of a struct: `{`, and `{!` where unknown ones are denied
abbrev pub opening_struct : UnknownFields → Utf8
opening_struct dropped = open_brace ∷ []
opening_struct denied = open_brace ∷ exclamation ∷ []

-- between angle brackets
abbrev pub in_angles : List Utf8 → Utf8
in_angles texts = open_angle ∷ (listed texts ++ close_angle ∷ [])

abbrev mutual
  -- a leaf is its word, an option is `?s`, a lossy form is `~s`, a readable one is `^s`, one of two forms is `%(readable,compact)`, a sequence is `[s]`, a map is `[key:value]`, a tuple is `(s,s)`, a tuple struct is `NAME(s,s)`,
  -- a newtype is `NAME=s`, a unit struct is `NAME!`, a struct is `NAME{f:s,g:s}`, and `NAME{!f:s,g:s}` where unknown fields are denied, an enum is
  -- `<A,N=s,T(s,s),S{f:s}>`, a reference is `@NAME`, definitions are `&(NAME=s,NAME=s)s`
  pub text : Form → Utf8
  text (leaf l) = word l
  text (optional f) = question ∷ text f
  text (lossy f) = tilde ∷ text f
  text (human_readable f) = caret ∷ text f
  text (sequence f) = open_bracket ∷ (text f ++ close_bracket ∷ [])
  text (map k v) = open_bracket ∷ (text k ++ colon ∷ (text v ++ close_bracket ∷ []))
  text (by_mode r c) = percent ∷ open_paren ∷ (text r ++ comma ∷ (text c ++ close_paren ∷ []))
  text (tuple ps) = in_parens (part_texts ps)
  text (tuple_structure name ps) = name_text name ++ in_parens (part_texts ps)
  text (newtype name f) = name_text name ++ equals ∷ text f
  text (unit_structure name) = name_text name ++ exclamation ∷ []
  text (structure u name fs) = struct_name_text name ++ (opening_struct u ++ (listed (named_texts colon fs) ++ close_brace ∷ []))
  text (enumeration vs) = in_angles (variant_texts vs)
  text (reference name) = at_sign ∷ name_text name
  text (definitions h f) = ampersand ∷ (in_parens (named_texts equals h) ++ text f)

  -- names with their forms, and this byte between
  pub named_texts : ℕ → Fields → List Utf8
  named_texts b no_fields = []
  named_texts b (field name f fs) = (name_text name ++ b ∷ text f) ∷ named_texts b fs

  pub part_texts : Parts → List Utf8
  part_texts no_parts = []
  part_texts (part f ps) = text f ∷ part_texts ps

  pub variant_texts : Variants → List Utf8
  variant_texts no_variants = []
  variant_texts (variant name c vs) = (name_text name ++ content_text c) ∷ variant_texts vs

  -- of a variant, behind its name
  pub content_text : Content → Utf8
  content_text unit_content = []
  content_text (newtype_content f) = equals ∷ text f
  content_text (tuple_content ps) = in_parens (part_texts ps)
  content_text (struct_content fs) = in_braces (named_texts colon fs)

-- the fields of a struct
abbrev pub field_texts : Fields → List Utf8
field_texts fs = named_texts colon fs

-- definitions
abbrev pub definition_texts : Fields → List Utf8
definition_texts h = named_texts equals h
