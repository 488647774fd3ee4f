-- Keys of maps: two texts that are one key are one text.
use Rattle.std.proofs.Common.{◌≡◌, ℕ, List, [], ◌∷◌, Bool, true, false, cond, Option, Some, None, Ok, IsUtf8, refl, ap, sym, ◌∙◌}
use Rattle.std.specs.Str.{chars}
use lib.Utf8.{encodes}
use Rattle.std.proofs.lemmas.Bool.{false≢true}
use Rattle.std.proofs.lemmas.Str.{encodes-chars}
use Rattle.bson_kinds.specs.Text.{Utf8}
use Rattle.bson_kinds.specs.Outcome.{result_map}
use Rattle.bson_kinds.specs.Piece.{Piece}
use Rattle.bson_shape.specs.Form.{Form, leaf, enumeration, Content, unit_content}
use Rattle.bson_shape.specs.Leaf.{is_text}
use Rattle.bson_shape.specs.Makers.{is_text_key}
use Rattle.bson_shape.specs.declared.leaf.Leaf.{Leaf}
use Rattle.bson_shape.specs.declared.leaf.Leaf.TheVariants.{Char, Str, String}
use Rattle.bson_values.specs.Cause.{not_borrowed}
use Rattle.bson_values.specs.Marked.{Marked, contents}
use Rattle.bson_values.specs.Value as value
use Rattle.bson_values.specs.Value.{Value, character, unit_variant}
use Rattle.bson_laws.specs.Containers.{reads_key, unit_of}
use Rattle.bson_laws.specs.Judged.{Reading, refused}
use Rattle.bson_laws.specs.Taken.{read_character}
use Rattle.bson_laws.specs.Views.{one_character}
use Rattle.bson_laws.specs.Variants.{content_of}
use Rattle.bson_leaves.specs.KeyValues.{key_value}

-- what is read as a character is one
one_read : (cs : List ℕ) (k : Value) → result_map contents (read_character (one_character cs)) ≡ Ok k → (c : ℕ) × (cs ≡ c ∷ []) × (k ≡ character c)
one_read [] k e = absurd cc
one_read (c ∷ []) k e = (c, refl, cc)
one_read (c ∷ d ∷ cs) k e = absurd cc

same_characters : (cs ds : List ℕ) (k : Value) → result_map contents (read_character (one_character cs)) ≡ Ok k → result_map contents (read_character (one_character ds)) ≡ Ok k → cs ≡ ds
same_characters cs ds k e f =
    let c = one_read cs k e in
    let d = one_read ds k f in
    cc

-- what is read as a unit variant is that of the text
unit_read : (t : Utf8) (o : Option Content) (k : Value) → result_map contents (unit_of t o) ≡ Ok k → k ≡ unit_variant t
unit_read t None k e = absurd cc
unit_read t (Some unit_content) k e = cc
unit_read t (Some c) k e = absurd cc

leaf_same : (l : Leaf) (t u : Utf8) (k : Value) → is_text l ≡ true → IsUtf8 t → IsUtf8 u → key_value (leaf l) t ≡ Ok k → key_value (leaf l) u ≡ Ok k → t ≡ u
leaf_same Str t u k text a b e f = cc
leaf_same String t u k text a b e f = cc
leaf_same Char t u k text a b e f = sym (encodes-chars t a) ∙ ap encodes (same_characters (chars t) (chars u) k e f) ∙ encodes-chars u b
leaf_same l t u k text a b e f = absurd (false≢true text)

-- two texts that are read as one key
pub key_same : (s : Form) (t u : Utf8) (k : Value) → is_text_key s ≡ true → IsUtf8 t → IsUtf8 u → key_value s t ≡ Ok k → key_value s u ≡ Ok k → t ≡ u
key_same (leaf l) t u k text a b e f = leaf_same l t u k text a b e f
key_same (enumeration vs) t u k text a b e f =
    let v = unit_read t (content_of vs t) k e in
    let w = unit_read u (content_of vs u) k f in
    cc
key_same s t u k text a b e f = absurd (false≢true text)

-- ---- the key that a text is, wherever it is

borrowed_str : (b : Bool) (p : Piece) (k : Marked) → result_map value.str (cond b (Ok p) (refused not_borrowed)) ≡ Ok k → ◌≡◌ {A = Reading Value} (Ok (value.str p.bytes)) (Ok (contents k))
borrowed_str true p k e = let same : value.str p ≡ k = cc in ap (λ v. Ok (contents v)) same
borrowed_str false p k e = absurd cc

leaf_valued : (l : Leaf) (p : Piece) (k : Marked) → is_text l ≡ true → reads_key (leaf l) p ≡ Ok k → key_value (leaf l) p.bytes ≡ Ok (contents k)
leaf_valued Str p k text e = borrowed_str p.in_input p k e
leaf_valued String p k text e = ap (result_map contents) e
leaf_valued Char p k text e = ap (result_map contents) e
leaf_valued l p k text e = absurd (false≢true text)

pub key_valued : (s : Form) (p : Piece) (k : Marked) → is_text_key s ≡ true → reads_key s p ≡ Ok k → key_value s p.bytes ≡ Ok (contents k)
key_valued (leaf l) p k text e = leaf_valued l p k text e
key_valued (enumeration vs) p k text e = ap (result_map contents) e
key_valued s p k text e = absurd (false≢true text)
