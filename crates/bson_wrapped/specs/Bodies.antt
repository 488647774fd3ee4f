-- What contracts see of the values of wrapper keys. Source: MongoDB's extended JSON, version 2.
use Rattle.std.specs.Prelude.{Bool, true, false, Option, None, option_map, Ok}
use Rattle.bson_kinds.specs.Outcome.{◌>>=◌, result_map}
use Rattle.bson_base.specs.Parsed.{bytes_of_digits}
use Rattle.bson_kinds.specs.Text.{Utf8}
use Rattle.bson_base.specs.Tree as tree
use Rattle.bson_base.specs.Tree.{Tree}
use Rattle.bson_rawdoc.specs.Node.{Node}
use Rattle.bson_kinds.specs.Piece.{made}
use Rattle.bson_values.specs.Marked.{Marked}
use Rattle.bson_datum.specs.MarkedView.{marked}
use Rattle.bson_values.specs.Refusal.{under}
use Rattle.bson_datum.specs.declared.datum.Datum.{Datum}
use Rattle.bson_values.specs.declared.wrapper.Wrapper.{Wrapper}
use Rattle.bson_values.specs.declared.wrapper.Wrapper.TheVariants.{Symbol, NumberInt, NumberLong, NumberDouble, Uuid, NumberDecimal}
use Rattle.bson_laws.specs.Datum.{datum}
use Rattle.bson_laws.specs.Judged.{Reading}
use Rattle.bson_laws.specs.Trees.{or_bad}
use Rattle.bson_laws.specs.Wrapped.{Body, Meaning, body, code, scope}

-- a tree as data, where there is one; and data as contracts see them
abbrev pub as_datum : Option Tree → Option Marked
as_datum t = option_map (datum made) t

abbrev pub as_seen : Option Datum → Option Marked
as_seen d = option_map marked d

-- ---- texts

-- whether the value of a wrapper key is a text that stands for a tree by itself (that of `$code` may have a scope after it)
abbrev pub takes_text : Wrapper → Bool
takes_text Symbol = true
takes_text NumberInt = true
takes_text NumberLong = true
takes_text NumberDouble = true
takes_text Uuid = true
takes_text NumberDecimal = true
takes_text w = false

-- the DbPointer of a namespace and of the digits of an ObjectId
abbrev pub pointer_of : Utf8 → Utf8 → Option Tree
pointer_of t id = option_map (tree.db_pointer t) (bytes_of_digits 12 id)

-- ---- bodies

-- whether the value of a wrapper key is its body
abbrev pub is_body : Meaning → Bool
is_body (body read) = true
is_body code = false
is_body scope = false

-- the body, and none where there is none
abbrev pub body_of : Meaning → Body
body_of (body read) = read
body_of code = λ n. Ok None
body_of scope = λ n. Ok None

-- what is read from a body, as data
abbrev pub made_by : Body → Node → Reading (Option Marked)
made_by read n = result_map as_datum (read n)

-- the tree that is read from a body, where it is valid, and the same as data
abbrev pub valid_tree : Wrapper → Body → Node → Reading Tree
valid_tree w read n = read n >>= or_bad w

abbrev pub valid_at : Wrapper → Body → Node → Reading Marked
valid_at w read n = result_map (datum made) (read n >>= or_bad w)

-- the value of a document with a wrapper key that has a body, read from the value at the key
abbrev pub body_at : Wrapper → Body → Utf8 → Node → Reading Marked
body_at w read key n = result_map (datum made) (under key (read n >>= or_bad w))
