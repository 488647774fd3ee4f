-- What contracts see of the entries of a map that is read. Source: this library's own types.
use Rattle.std.specs.Prelude.{◌≡◌, ℕ, suc, List, true, if◌then◌else◌, length, Option, Some, None, Ok, option_map}
use Rattle.std.specs.Str.{IsUtf8}
use Rattle.bson_kinds.specs.Text.{Utf8}
use Rattle.bson_shape.specs.Makers.{is_text_key}
use Rattle.bson_shape.specs.ShapeView.{form_view}
use Rattle.bson_shape.specs.declared.form.Form.{Form as BorrowedForm}
use Rattle.bson_values.specs.Same.{same}
use Rattle.bson_values.specs.Marked.{MarkedEntries, contents}
use Rattle.bson_values.specs.Value.{Value, no_entries, entry}
use Rattle.bson_datum.specs.declared.datum.Entry.{Entry}
use Rattle.bson_leaves.specs.KeyValues.{key_value}
use Rattle.bson_texts.specs.ListsMarked.{entries_marked}
use Rattle.bson_keys.specs.KeysView.{key_place, HasPlacesBelow}
use Rattle.bson_leaves.specs.declared.entries.Entries as code

-- the form of the keys
abbrev pub key_form : code.Entries → BorrowedForm
key_form e = e.key

-- the entries so far
abbrev pub entries_of : code.Entries → List Entry
entries_of e = e.entries.items

-- the place of the first entry that has the key
abbrev pub entry_place : Value → MarkedEntries → Option ℕ
entry_place k no_entries = None
entry_place k (entry key v es) = if same k (contents key) then Some 0 else option_map suc (entry_place k es)

-- Each text has, among the texts of the keys, the place of the entry whose key it is.
pub record IsIndexed (e : code.Entries) : Type 0 where
  pub text : is_text_key (form_view e.key) ≡ true
  pub next : HasPlacesBelow (length e.entries.items) e.keys
  pub places : (t : Utf8) (k : Value) → IsUtf8 t → key_value (form_view e.key) t ≡ Ok k → key_place e.keys t ≡ entry_place k (entries_marked e.entries.items)
