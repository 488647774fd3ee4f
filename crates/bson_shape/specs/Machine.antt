-- Reading a notation from left to right, a byte at a time. Source: this library's own notation.
use Rattle.std.specs.Prelude.{ℕ, ◌+◌, Bool, true, false, ◌&&◌, ◌||◌, ◌==◌, nat_le, if◌then◌else◌, List, [], ◌∷◌, ◌++◌, length, Option, Some, None, Result, Ok, Err}
use Rattle.bson_kinds.specs.Outcome.{◌>>=◌}
use Rattle.bson_kinds.specs.Text.{Utf8}
use Rattle.bson_shape.specs.Form.{dropped, denied, Form, leaf, optional, lossy, human_readable, by_mode, sequence, map, tuple, tuple_structure, newtype, unit_structure, structure, enumeration, reference, definitions, Fields, no_fields, field, push_field, Parts, no_parts, part, push_part, Variants, no_variants, variant, push_variant, Content, unit_content, newtype_content, tuple_content, struct_content}
use Rattle.bson_shape.specs.Leaf.{of_word}
use Rattle.bson_shape.specs.declared.leaf.Leaf.{Leaf}
use Rattle.bson_shape.specs.Levels.{max_shape_levels}
use Rattle.bson_shape.specs.Makers.{made_form}
use Rattle.bson_shape.specs.Notation.{exclamation, quote, open_paren, close_paren, comma, colon, open_angle, equals, close_angle, question, caret, tilde, percent, ampersand, at_sign, open_bracket, backslash, close_bracket, open_brace, close_brace, begins_bare, in_bare, bare, names_form, is_escaped}
use Rattle.bson_shape.specs.FirstRefusal.{MakerRefusal}
use Rattle.bson_shape.specs.declared.error.ShapeError.{ShapeError}
use Rattle.bson_shape.specs.declared.error.ShapeError.TheVariants.{TooDeep}

-- Why a text is not read.
pub data Refusal : Type 0 where
  -- no notation begins with more than so many bytes of the text
  Not_notation : ℕ → Refusal
  -- a maker refuses
  Refused : MakerRefusal → Refusal

-- An enum whose closing bracket has not come: the place of its first byte, and the variants so far.
pub record OpenEnum : Type 0 where
  pub place : ℕ
  pub variants : Variants

-- What braces or parentheses belong to.
pub data Holder : Type 0 where
  -- a form that begins at this place, without a name
  Nameless_at : ℕ → Holder
  -- a form that begins at this place, and its name
  Named_at : ℕ → Utf8 → Holder
  -- a variant of this name
  Variant_of : OpenEnum → Utf8 → Holder

-- A group: items with commas between, whose closing bracket has not come. It has the items so far.
pub data Group : Type 0 where
  -- fields between braces
  Braces : Holder → Fields → Group
  -- the same, of a struct that denies unknown ones: a form that begins at this place, and its name; a nameless one has the empty one
  Closed_braces : ℕ → Utf8 → Fields → Group
  -- parts between parentheses
  Parens : Holder → Parts → Group
  -- variants between angle brackets
  Angles : OpenEnum → Group
  -- definitions between parentheses, of a form that begins at this place
  Table : ℕ → Fields → Group

-- What is before a form and ends where that form ends.
pub data Prefix : Type 0 where
  -- `?`
  Option_prefix : Prefix
  -- `~`
  Lossy_prefix : Prefix
  -- `^`
  Readable_prefix : Prefix
  -- a newtype's name and `=`
  Newtype_prefix : Utf8 → Prefix
  -- `&` and definitions
  Definitions_prefix : Fields → Prefix

-- A sign that begins a form and needs a certain byte behind it.
pub data Sign : Type 0 where
  -- `%`, before two forms
  Percent : Sign
  -- `&`, before definitions
  Ampersand : Sign
  -- `@`, before the name of a reference
  At : Sign

-- A form around the one that is read.
pub data Level : Type 0 where
  -- a form that begins at this place with the prefix
  In_prefix : ℕ → Prefix → Level
  -- a sequence that begins at this place, or a map, before its colon
  In_brackets : ℕ → Level
  -- two forms that begin at this place, before their comma
  In_pair : ℕ → Level
  -- two forms that begin at this place, behind their comma, and the readable one
  In_compact : ℕ → Form → Level
  -- a map that begins at this place, behind its colon, and its key
  In_map : ℕ → Form → Level
  -- a group, and the name of the item; a part has the empty one
  In_item : Group → Utf8 → Level

-- Whose name is read.
pub data Owner : Type 0 where
  -- a form that begins at this place
  Form_at : ℕ → Owner
  -- the next item of a group
  Item_of : Group → Owner
  -- a reference that begins at this place
  Reference_at : ℕ → Owner

-- What is read at the moment.
pub data Mode : Type 0 where
  -- a form is expected
  Form_due : Mode
  -- behind a sign with which the form at this place begins
  Behind_sign : Sign → ℕ → Mode
  -- an item is expected, or the closing bracket where the group has no item
  Item_due : Group → Mode
  -- inside a bare name
  Bare : Owner → Utf8 → Mode
  -- inside a quoted name
  Quoted : Owner → Utf8 → Mode
  -- inside a quoted name, behind `\`
  Escape : Owner → Utf8 → Mode
  -- behind a quoted name
  Named : Owner → Utf8 → Mode
  -- behind the last byte of an item that has one of its own
  Item_done : Group → Mode
  -- behind the last byte of a form that has one of its own
  Done : Form → Mode

-- With the levels around, the innermost first.
abbrev pub State : Type 0
State = Mode × List Level

-- ---- groups and prefixes, a row for each kind

abbrev pub opened_enum : ℕ → OpenEnum
opened_enum place = record { place = place; variants = no_variants }

-- the enum with one more variant
abbrev pub grown_enum : OpenEnum → Utf8 → Content → OpenEnum
grown_enum e name c = record { place = e.place; variants = push_variant e.variants name c }

-- the group with one more item: this name, and behind it this form
abbrev pub grown : Group → Utf8 → Form → Group
grown (Braces h fs) name f = Braces h (push_field fs name f)
grown (Closed_braces place n fs) name f = Closed_braces place n (push_field fs name f)
grown (Parens h ps) name f = Parens h (push_part ps f)
grown (Angles e) name f = Angles (grown_enum e name (newtype_content f))
grown (Table place h) name f = Table place (push_field h name f)

abbrev pub has_no_fields : Fields → Bool
has_no_fields no_fields = true
has_no_fields (field name f fs) = false

abbrev pub has_no_parts : Parts → Bool
has_no_parts no_parts = true
has_no_parts (part f ps) = false

abbrev pub has_no_variants : Variants → Bool
has_no_variants no_variants = true
has_no_variants (variant name c vs) = false

-- the group has no item yet
abbrev pub is_empty : Group → Bool
is_empty (Braces h fs) = has_no_fields fs
is_empty (Closed_braces place n fs) = has_no_fields fs
is_empty (Parens h ps) = has_no_parts ps
is_empty (Angles e) = has_no_variants e.variants
is_empty (Table place h) = has_no_fields h

-- the closing bracket
abbrev pub closing : Group → ℕ
closing (Braces h fs) = close_brace
closing (Closed_braces place n fs) = close_brace
closing (Parens h ps) = close_paren
closing (Angles e) = close_angle
closing (Table place h) = close_paren

-- What ends with a closing bracket.
pub data Closed : Type 0 where
  -- a form that begins at this place
  Closed_form : ℕ → Form → Closed
  -- a variant, with which the enum is this
  Closed_variant : OpenEnum → Closed
  -- what is before a form that begins at this place
  Closed_prefix : ℕ → Prefix → Closed

-- what the closing bracket of the group ends
abbrev pub closed : Group → Closed
closed (Braces (Nameless_at place) fs) = Closed_form place (structure dropped [] fs)
closed (Braces (Named_at place name) fs) = Closed_form place (structure dropped name fs)
closed (Braces (Variant_of e name) fs) = Closed_variant (grown_enum e name (struct_content fs))
closed (Closed_braces place name fs) = Closed_form place (structure denied name fs)
closed (Parens (Nameless_at place) ps) = Closed_form place (tuple ps)
closed (Parens (Named_at place name) ps) = Closed_form place (tuple_structure name ps)
closed (Parens (Variant_of e name) ps) = Closed_variant (grown_enum e name (tuple_content ps))
closed (Angles e) = Closed_form e.place (enumeration e.variants)
closed (Table place h) = Closed_prefix place (Definitions_prefix h)

-- the form with the prefix before it
abbrev pub prefixed : Prefix → Form → Form
prefixed Option_prefix f = optional f
prefixed Lossy_prefix f = lossy f
prefixed Readable_prefix f = human_readable f
prefixed (Newtype_prefix name) f = newtype name f
prefixed (Definitions_prefix h) f = definitions h f

-- ---- the end of a form or an item

-- the maker's answer behind so many bytes, for a form that begins at the place
abbrev pub maker_answer : ℕ → ℕ → Result Form ShapeError → Result Form Refusal
maker_answer read place (Ok f) = Ok f
maker_answer read place (Err e) = Err (Refused (record { met = read; place = place; cause = e }))

-- the last byte of a form that begins at the second place
abbrev pub form_closed : ℕ → ℕ → List Level → Result Form ShapeError → Result State Refusal
form_closed at place st r = maker_answer (at + 1) place r >>= λ f. Ok (Done f, st)

-- a closing bracket, and what it ends
abbrev pub bracket_closed : ℕ → List Level → Closed → Result State Refusal
bracket_closed at st (Closed_form place f) = form_closed at place st (made_form f)
bracket_closed at st (Closed_variant e) = Ok (Item_done (Angles e), st)
bracket_closed at st (Closed_prefix place p) = Ok (Form_due, In_prefix place p ∷ st)

abbrev pub group_closed : ℕ → Group → List Level → Result State Refusal
group_closed at g st = bracket_closed at st (closed g)

-- behind an item, with which the group is this
abbrev pub item_ended : ℕ → Group → List Level → ℕ → Result State Refusal
item_ended at g st b =
    if b == comma then Ok (Item_due g, st)
    else (if b == closing g then group_closed at g st
    else Err (Not_notation at))

-- behind the first form between brackets that begin at the second place: the item of a sequence, or the key of a map
abbrev pub key_ended : ℕ → ℕ → Form → List Level → ℕ → Result State Refusal
key_ended at place f st b =
    if b == close_bracket then form_closed at place st (made_form (sequence f))
    else (if b == colon then Ok (Form_due, In_map place f ∷ st)
    else Err (Not_notation at))

-- behind the value of a map that begins at the second place
abbrev pub value_ended : ℕ → ℕ → Form → Form → List Level → ℕ → Result State Refusal
value_ended at place k v st b = if b == close_bracket then form_closed at place st (made_form (map k v)) else Err (Not_notation at)

-- behind the readable of two forms that begin at the second place
abbrev pub readable_ended : ℕ → ℕ → Form → List Level → ℕ → Result State Refusal
readable_ended at place r st b = if b == comma then Ok (Form_due, In_compact place r ∷ st) else Err (Not_notation at)

-- behind the compact one
abbrev pub compact_ended : ℕ → ℕ → Form → Form → List Level → ℕ → Result State Refusal
compact_ended at place r c st b = if b == close_paren then form_closed at place st (made_form (by_mode r c)) else Err (Not_notation at)

-- A form, with the levels around it.
abbrev pub Ended : Type 0
Ended = Form × List Level

-- a form that ends behind so many bytes, with the prefixes around it, which end with it
unfoldable pub wrapped : ℕ → Form → List Level → Result Ended Refusal
wrapped read f [] = Ok (f, [])
wrapped read f (In_prefix place p ∷ st) = maker_answer read place (made_form (prefixed p f)) >>= λ g. wrapped read g st
wrapped read f (In_brackets place ∷ st) = Ok (f, In_brackets place ∷ st)
wrapped read f (In_pair place ∷ st) = Ok (f, In_pair place ∷ st)
wrapped read f (In_compact place r ∷ st) = Ok (f, In_compact place r ∷ st)
wrapped read f (In_map place k ∷ st) = Ok (f, In_map place k ∷ st)
wrapped read f (In_item g name ∷ st) = Ok (f, In_item g name ∷ st)

-- behind a form, inside one with bytes of its own to come
abbrev pub enclosed : ℕ → Form → List Level → ℕ → Result State Refusal
enclosed at f [] b = Err (Not_notation at)
enclosed at f (In_prefix place p ∷ st) b = Err (Not_notation at)
enclosed at f (In_brackets place ∷ st) b = key_ended at place f st b
enclosed at f (In_pair place ∷ st) b = readable_ended at place f st b
enclosed at f (In_compact place r ∷ st) b = compact_ended at place r f st b
enclosed at f (In_map place k ∷ st) b = value_ended at place k f st b
enclosed at f (In_item g name ∷ st) b = item_ended at (grown g name f) st b

-- behind a form
unfoldable pub form_ended : ℕ → Form → List Level → ℕ → Result State Refusal
form_ended at f st b = wrapped at f st >>= λ e. enclosed at e.0 e.1 b

-- ---- where a form or an item is expected

abbrev pub begins_name : ℕ → Bool
begins_name b = begins_bare b || (b == quote)

-- the first byte of a name
abbrev pub name_begun : Owner → ℕ → Mode
name_begun owner b = if b == quote then Quoted owner [] else Bare owner (b ∷ [])

-- the first byte of a form that no name begins
abbrev pub opens_form : ℕ → Bool
opens_form b = (b == question) || (b == tilde) || (b == caret) || (b == percent) || (b == ampersand) || (b == at_sign) || (b == open_bracket) || (b == open_paren) || (b == open_angle) || (b == open_brace)

abbrev pub begins_form : ℕ → Bool
begins_form b = begins_name b || opens_form b

-- the first byte of a form
abbrev pub form_begun : ℕ → List Level → ℕ → State
form_begun at st b =
    if b == open_brace then (Item_due (Braces (Nameless_at at) no_fields), st)
    else (if b == open_bracket then (Form_due, In_brackets at ∷ st)
    else (if b == question then (Form_due, In_prefix at Option_prefix ∷ st)
    else (if b == tilde then (Form_due, In_prefix at Lossy_prefix ∷ st)
    else (if b == caret then (Form_due, In_prefix at Readable_prefix ∷ st)
    else (if b == percent then (Behind_sign Percent at, st)
    else (if b == ampersand then (Behind_sign Ampersand at, st)
    else (if b == at_sign then (Behind_sign At at, st)
    else (if b == open_paren then (Item_due (Parens (Nameless_at at) no_parts), st)
    else (if b == open_angle then (Item_due (Angles (opened_enum at)), st)
    else (name_begun (Form_at at) b, st))))))))))

-- where a form is expected
unfoldable pub form_due : ℕ → List Level → ℕ → Result State Refusal
form_due at st b =
    if begins_form b then (if nat_le max_shape_levels (length st) then Err (Refused (record { met = at + 1; place = at; cause = TooDeep })) else Ok (form_begun at st b))
    else Err (Not_notation at)

-- behind a sign with which the form at the second place begins
abbrev pub behind_sign : ℕ → Sign → ℕ → List Level → ℕ → Result State Refusal
behind_sign at Percent place st b = if b == open_paren then Ok (Form_due, In_pair place ∷ st) else Err (Not_notation at)
behind_sign at Ampersand place st b = if b == open_paren then Ok (Item_due (Table place no_fields), st) else Err (Not_notation at)
behind_sign at At place st b = if begins_name b then Ok (name_begun (Reference_at place) b, st) else Err (Not_notation at)

-- where the name of an item is expected
unfoldable pub name_due : ℕ → Group → List Level → ℕ → Result State Refusal
name_due at g st b = if begins_name b then Ok (name_begun (Item_of g) b, st) else Err (Not_notation at)

-- behind `{!`: a struct denies unknown fields, and a variant cannot
abbrev pub struct_marked : ℕ → Holder → List Level → Result State Refusal
struct_marked at (Nameless_at place) st = Ok (Item_due (Closed_braces place [] no_fields), st)
struct_marked at (Named_at place name) st = Ok (Item_due (Closed_braces place name no_fields), st)
struct_marked at (Variant_of e name) st = Err (Not_notation at)

-- where a field is expected; a struct that has none yet may deny unknown ones
unfoldable pub field_due : ℕ → Holder → Fields → List Level → ℕ → Result State Refusal
field_due at h fs st b = if (b == exclamation) && has_no_fields fs then struct_marked at h st else name_due at (Braces h fs) st b

-- where an item is expected
unfoldable pub item_begun : ℕ → Group → List Level → ℕ → Result State Refusal
item_begun at (Braces h fs) st b = field_due at h fs st b
item_begun at (Closed_braces place n fs) st b = name_due at (Closed_braces place n fs) st b
item_begun at (Parens h ps) st b = form_due at (In_item (Parens h ps) [] ∷ st) b
item_begun at (Angles e) st b = name_due at (Angles e) st b
item_begun at (Table place h) st b = name_due at (Table place h) st b

-- the same, where a group that has none yet may close
unfoldable pub item_due : ℕ → Group → List Level → ℕ → Result State Refusal
item_due at g st b = if (b == closing g) && is_empty g then group_closed at g st else item_begun at g st b

-- ---- names

-- the empty name of a struct is not written
abbrev pub is_written : Utf8 → Bool
is_written [] = false
is_written (b ∷ bs) = true

-- behind the name of a form that begins at the second place
abbrev pub form_named : ℕ → ℕ → Utf8 → List Level → ℕ → Result State Refusal
form_named at place name st b =
    if b == equals then Ok (Form_due, In_prefix place (Newtype_prefix name) ∷ st)
    else (if b == exclamation then Ok (Done (unit_structure name), st)
    else (if b == open_paren then Ok (Item_due (Parens (Named_at place name) no_parts), st)
    else (if (b == open_brace) && is_written name then Ok (Item_due (Braces (Named_at place name) no_fields), st)
    else Err (Not_notation at))))

-- behind the name of a variant: what comes next tells what the variant has
abbrev pub variant_named : ℕ → OpenEnum → Utf8 → List Level → ℕ → Result State Refusal
variant_named at e name st b =
    if b == equals then Ok (Form_due, In_item (Angles e) name ∷ st)
    else (if b == open_paren then Ok (Item_due (Parens (Variant_of e name) no_parts), st)
    else (if b == open_brace then Ok (Item_due (Braces (Variant_of e name) no_fields), st)
    else item_ended at (Angles (grown_enum e name unit_content)) st b))

-- behind the name of a field or a definition, which this byte divides from its form
abbrev pub field_named : ℕ → ℕ → Group → Utf8 → List Level → ℕ → Result State Refusal
field_named at divider g name st b = if b == divider then Ok (Form_due, In_item g name ∷ st) else Err (Not_notation at)

-- behind the name of an item; a part has none
abbrev pub item_named : ℕ → Group → Utf8 → List Level → ℕ → Result State Refusal
item_named at (Braces h fs) name st b = field_named at colon (Braces h fs) name st b
item_named at (Closed_braces place n fs) name st b = field_named at colon (Closed_braces place n fs) name st b
item_named at (Parens h ps) name st b = Err (Not_notation at)
item_named at (Angles e) name st b = variant_named at e name st b
item_named at (Table place h) name st b = field_named at equals (Table place h) name st b

-- behind a name
unfoldable pub named : ℕ → Owner → Utf8 → List Level → ℕ → Result State Refusal
named at (Form_at place) name st b = form_named at place name st b
named at (Item_of g) name st b = item_named at g name st b
named at (Reference_at place) name st b = form_ended at (reference name) st b

-- behind a word that is no name, with the leaf that it stands for
abbrev pub leaf_ended : ℕ → Option Leaf → List Level → ℕ → Result State Refusal
leaf_ended at None st b = Err (Not_notation at)
leaf_ended at (Some l) st b = form_ended at (leaf l) st b

-- behind a bare name: where it does not name a form, it is a leaf
unfoldable pub word_ended : ℕ → Owner → Utf8 → List Level → ℕ → Result State Refusal
word_ended at (Form_at place) name st b = if names_form b then named at (Form_at place) name st b else leaf_ended at (of_word name) st b
word_ended at (Item_of g) name st b = named at (Item_of g) name st b
word_ended at (Reference_at place) name st b = named at (Reference_at place) name st b

-- inside a bare name
unfoldable pub bare_name : ℕ → Owner → Utf8 → List Level → ℕ → Result State Refusal
bare_name at owner name st b = if in_bare b then Ok (Bare owner (name ++ b ∷ []), st) else word_ended at owner name st b

-- a closing quote: a bare name is not between quotes
unfoldable pub name_closed : ℕ → Owner → Utf8 → List Level → Result State Refusal
name_closed at owner name st = if bare name then Err (Not_notation at) else Ok (Named owner name, st)

-- inside a quoted name
unfoldable pub quoted_name : ℕ → Owner → Utf8 → List Level → ℕ → Result State Refusal
quoted_name at owner name st b =
    if b == quote then name_closed at owner name st
    else (if b == backslash then Ok (Escape owner name, st)
    else Ok (Quoted owner (name ++ b ∷ []), st))

-- behind `\`
unfoldable pub escape : ℕ → Owner → Utf8 → List Level → ℕ → Result State Refusal
escape at owner name st b = if is_escaped b then Ok (Quoted owner (name ++ b ∷ []), st) else Err (Not_notation at)

-- ---- the whole text

-- one byte, at a place
unfoldable pub step : ℕ → Mode → List Level → ℕ → Result State Refusal
step at Form_due st b = form_due at st b
step at (Behind_sign sign place) st b = behind_sign at sign place st b
step at (Item_due g) st b = item_due at g st b
step at (Bare owner name) st b = bare_name at owner name st b
step at (Quoted owner name) st b = quoted_name at owner name st b
step at (Escape owner name) st b = escape at owner name st b
step at (Named owner name) st b = named at owner name st b
step at (Item_done g) st b = item_ended at g st b
step at (Done f) st b = form_ended at f st b

-- no further byte is taken
abbrev pub no_more : ℕ → Form → List Level → Result State Refusal
no_more at f st = wrapped at f st >>= λ e. Err (Not_notation at)

-- behind the word of a leaf
abbrev pub no_more_behind : ℕ → Option Leaf → List Level → Result State Refusal
no_more_behind at None st = Err (Not_notation at)
no_more_behind at (Some l) st = no_more at (leaf l) st

-- the bytes of a character that is not ASCII: it is between quotes alone
unfoldable pub other_character : ℕ → Mode → List Level → Utf8 → Result State Refusal
other_character at (Quoted owner name) st bytes = Ok (Quoted owner (name ++ bytes), st)
other_character at (Bare (Form_at place) name) st bytes = no_more_behind at (of_word name) st
other_character at (Bare (Reference_at place) name) st bytes = no_more at (reference name) st
other_character at (Named (Reference_at place) name) st bytes = no_more at (reference name) st
other_character at (Done f) st bytes = no_more at f st
other_character at m st bytes = Err (Not_notation at)

-- all the bytes, from a place on
unfoldable pub run : ℕ → State → Utf8 → Result State Refusal
run at s [] = Ok s
run at s (b ∷ bs) = step at s.0 s.1 b >>= λ t. run (at + 1) t bs

-- a form that no other is around
abbrev pub alone : ℕ → Form → List Level → Result Form Refusal
alone at f [] = Ok f
alone at f (l ∷ st) = Err (Not_notation at)

-- the last form
abbrev pub last : ℕ → Form → List Level → Result Form Refusal
last at f st = wrapped at f st >>= λ e. alone at e.0 e.1

-- the leaf that the last word stands for
abbrev pub last_leaf : ℕ → Option Leaf → List Level → Result Form Refusal
last_leaf at None st = Err (Not_notation at)
last_leaf at (Some l) st = last at (leaf l) st

-- the end of the text
unfoldable pub finish : ℕ → Mode → List Level → Result Form Refusal
finish at (Done f) st = last at f st
finish at (Bare (Form_at place) name) st = last_leaf at (of_word name) st
finish at (Bare (Reference_at place) name) st = last at (reference name) st
finish at (Named (Reference_at place) name) st = last at (reference name) st
finish at m st = Err (Not_notation at)

-- the form that a text is the notation of, or the first refusal that is met
unfoldable pub parsed : Utf8 → Result Form Refusal
parsed bytes = run 0 (Form_due, []) bytes >>= λ s. finish (length bytes) s.0 s.1
