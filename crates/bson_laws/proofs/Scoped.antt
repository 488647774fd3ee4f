-- What a reader makes of references and definitions.
use Rattle.std.proofs.Common.{◌≡◌, ℕ, zero, suc, ◌<◌, List, [], ◌∷◌, length, get_or, Bool, true, false, cond, Option, Some, None, refl, ap, sym, ◌∙◌, arith}
use Rattle.std.specs.Str.{bytes_eq}
use Rattle.bson_kinds.specs.Outcome.{◌>>=◌}
use Rattle.bson_kinds.specs.Text.{Utf8}
use Rattle.bson_rawdoc.specs.Node.{Node}
use Rattle.bson_kinds.specs.Piece.{Piece}
use Rattle.bson_shape.specs.Form.{Form, leaf, optional, by_mode, enumeration, reference, definitions, Fields, Content, unit_content, newtype_content, tuple_content, struct_content, Variants, no_variants, variant}
use Rattle.bson_shape.specs.Guarded.{count, definition}
use Rattle.bson_shape.specs.ShapeView.{fields_of, parts_of, nodes, fields_nodes, parts_nodes}
use Rattle.bson_shape.specs.declared.shape.FieldShape.{FieldShape}
use Rattle.bson_values.specs.Cause.{unknown_reference}
use Rattle.bson_laws.specs.Containers.{unit_of, reads_key}
use Rattle.bson_laws.specs.FromTree.{tree_unit_of}
use Rattle.bson_laws.specs.Judged.{judged, refused}
use Rattle.bson_laws.specs.ReadsFrom.{reads_from, reads_for}
use Rattle.bson_laws.specs.Scopes.{table_meaning, meanings_of, laid, laid_fields, laid_parts, formed, IsDefinedAs}
use Rattle.bson_laws.specs.Settled.{settled, settled_variants, settled_content}
use Rattle.bson_laws.specs.Slots.{missing_value}
use Rattle.bson_laws.specs.Unrolled.{Meanings, undefined, unrolled, unrolled_variants, unrolled_content, step, names_in, max_steps, whole}
use Rattle.bson_laws.specs.Variants.{content_of}
use Rattle.bson_laws.specs.Views.{absent}
use Rattle.bson_laws.specs.declared.origin.Definition.{Definition}
use Rattle.bson_laws.specs.declared.origin.Origin.{Origin}
use Rattle.bson_laws.specs.declared.origin.Reader.{Reader}
use Rattle.bson_laws.proofs.Equations.{found, missing}

-- ---- what the names of a table mean

rounds_are : 404 ≡ max_steps
unfolding max_steps
rounds_are = refl

all_rounds : (h : Fields) → table_meaning max_steps 0 h ≡ names_in max_steps h
unfolding table_meaning
all_rounds h = refl

-- where all rounds are left
pub meaning_top : (h : Fields) → table_meaning 404 0 h ≡ names_in max_steps h
meaning_top h = ap (λ n. table_meaning n 0 h) rounds_are ∙ all_rounds h

meaning_step : (rounds steps : ℕ) (h : Fields) → table_meaning rounds (suc steps) h ≡ step max_steps h (table_meaning rounds steps h)
unfolding table_meaning
meaning_step rounds steps h = refl

meaning_round : (rounds : ℕ) (h : Fields) → table_meaning (suc rounds) 0 h ≡ step max_steps h (table_meaning rounds (count h) h)
unfolding table_meaning
meaning_round rounds h = refl

meaning_end : (h : Fields) → table_meaning 0 0 h ≡ undefined
unfolding table_meaning
meaning_end h = refl

-- a name without definition means itself
pub meaning_lacks : (rounds steps : ℕ) (h : Fields) (key : Utf8) → definition h key ≡ None → table_meaning rounds steps h key ≡ reference key
meaning_lacks rounds (suc steps) h key e = ap (λ (g : Meanings). g key) (meaning_step rounds steps h) ∙ missing max_steps h (table_meaning rounds steps h) key e
meaning_lacks (suc rounds) zero h key e = ap (λ (g : Meanings). g key) (meaning_round rounds h) ∙ missing max_steps h (table_meaning rounds (count h) h) key e
meaning_lacks zero zero h key e = ap (λ (g : Meanings). g key) (meaning_end h)

-- a name with a definition means what that is unrolled to with a step less
pub follow_step : (rounds steps less : ℕ) (h : Fields) (key : Utf8) (s : Form) → steps ≡ suc less → definition h key ≡ Some s → table_meaning rounds steps h key ≡ unrolled max_steps s (table_meaning rounds less h)
follow_step rounds steps less h key s is e =
    ap (λ n. table_meaning rounds n h key) is ∙ ap (λ (g : Meanings). g key) (meaning_step rounds less h) ∙ found max_steps h (table_meaning rounds less h) key s e

-- or with a round less
pub follow_round : (rounds less names : ℕ) (h : Fields) (key : Utf8) (s : Form) → rounds ≡ suc less → names ≡ count h → definition h key ≡ Some s → table_meaning rounds 0 h key ≡ unrolled max_steps s (table_meaning less names h)
follow_round rounds less names h key s is counted e =
    ap (λ n. table_meaning n 0 h key) is ∙ ap (λ (g : Meanings). g key) (meaning_round less h) ∙ ap (λ n. step max_steps h (table_meaning less n h) key) (sym counted) ∙ found max_steps h (table_meaning less names h) key s e

-- or itself, where none is left
pub follow_end : (rounds steps : ℕ) (h : Fields) (key : Utf8) → rounds ≡ 0 → steps ≡ 0 → table_meaning rounds steps h key ≡ reference key
follow_end rounds steps h key a b = (λ i. table_meaning (a i) (b i) h key) ∙ ap (λ (g : Meanings). g key) (meaning_end h)

-- readers with as many rounds and steps left in one table
pub same_meanings : (r q : Reader) (rounds steps : ℕ) → q.table ≡ r.table → q.rounds ≡ rounds → q.steps ≡ steps → table_meaning rounds steps (fields_of r.table.now) ≡ meanings_of q
same_meanings r q rounds steps t a b = sym (λ i. table_meaning (a i) (b i) (fields_of (t i).now))

-- ---- reading

-- where no definitions are around
pub read_whole : (r : Reader) (o : Origin) (b : Bool) (s : Form) (n : Node) → r.origin ≡ o → formed r s ≡ settled b (whole s) → reads_for r s n ≡ reads_from o (settled b (whole s)) n
read_whole r o b s n origin form = λ i. reads_from (origin i) (form i) n

-- definitions are read as their body in their table
pub read_inside : (r q : Reader) (h : Fields) (s : Form) (n : Node) → q.readable ≡ r.readable → q.origin ≡ r.origin → meanings_of q ≡ names_in max_steps h → reads_for q s n ≡ reads_for r (definitions h s) n
read_inside r q h s n readable origin names = λ i. reads_from (origin i) (settled (readable i) (unrolled max_steps s (names i))) n

-- a reference is read as its definition
pub read_definition : (r : Reader) (d : Definition) (name : Utf8) (n : Node) → IsDefinedAs (Some d) r name → reads_for d.reader d.shape.now n ≡ reads_for r (reference name) n
read_definition r d name n h = λ i. reads_from (h.2 i) (settled (h.1 i) (sym h.0 i)) n

-- and refused where it has none, once the value is judged
pub read_nothing : (r : Reader) (name : Utf8) (n : Node) → IsDefinedAs None r name → reads_for r (reference name) n ≡ (judged n >>= λ _. refused (unknown_reference name))
read_nothing r name n h = ap (λ s. reads_from r.origin (settled r.readable s) n) h

-- ---- sizes

pub field_fewer : (r : Reader) (fs : List FieldShape) (i : ℕ) (d : FieldShape) → i < length fs → nodes (laid r (get_or fs i d).shape) < fields_nodes (laid_fields r (fields_of fs))
field_fewer r [] i d h = absurd (omega arith)
field_fewer r (f ∷ fs) zero d h = omega arith
field_fewer r (f ∷ fs) (suc i) d h = omega (arith, field_fewer r fs i d (omega arith))

pub part_fewer : (r : Reader) (fs : List Form) (i : ℕ) (d : Form) → i < length fs → nodes (laid r (get_or fs i d)) < parts_nodes (laid_parts r (parts_of fs))
part_fewer r [] i d h = absurd (omega arith)
part_fewer r (f ∷ fs) zero d h = omega arith
part_fewer r (f ∷ fs) (suc i) d h = omega (arith, part_fewer r fs i d (omega arith))

-- ---- what a form keeps

absent_formed : {T : Type 0} (b : Bool) (g : Meanings) (s : Form) → absent {T = T} (settled b (unrolled max_steps s g)) ≡ absent (settled b s)
absent_formed b g (optional s) = refl
absent_formed b g s = refl

expected_absent : {T : Type 0} (b : Bool) (x y z w : Form) → absent {T = T} x ≡ absent z → absent {T = T} y ≡ absent w → absent {T = T} (cond b x y) ≡ absent (cond b z w)
expected_absent true x y z w h k = h
expected_absent false x y z w h k = k

-- what stands for a missing field
pub missing_formed : {T : Type 0} (b : Bool) (g : Meanings) (s : Form) → missing_value {T = T} (settled b (unrolled max_steps s g)) ≡ missing_value (settled b s)
missing_formed b g (by_mode h c) = expected_absent b (settled b (unrolled max_steps h g)) (settled b (unrolled max_steps c g)) (settled b h) (settled b c) (absent_formed b g h) (absent_formed b g c)
missing_formed b g (optional s) = refl
missing_formed b g s = refl

-- the unit variant that a text names
unit_either : (b d : Bool) (g : Meanings) (name : Utf8) (c : Content) (o p : Option Content) → unit_of name o ≡ unit_of name p
    → unit_of name (cond d (Some (settled_content b (unrolled_content max_steps c g))) o) ≡ unit_of name (cond d (Some c) p)
unit_either b true g name unit_content o p e = refl
unit_either b true g name (newtype_content s) o p e = refl
unit_either b true g name (tuple_content ps) o p e = refl
unit_either b true g name (struct_content fs) o p e = refl
unit_either b false g name c o p e = e

pub unit_formed : (b : Bool) (g : Meanings) (vs : Variants) (name : Utf8) → unit_of name (content_of (settled_variants b (unrolled_variants max_steps vs g)) name) ≡ unit_of name (content_of vs name)
unit_formed b g no_variants name = refl
unit_formed b g (variant n c vs) name = unit_either b (bytes_eq n name) g name c (content_of (settled_variants b (unrolled_variants max_steps vs g)) name) (content_of vs name) (unit_formed b g vs name)

-- the same of a text of a tree
tree_unit_either : (b d : Bool) (g : Meanings) (name : Utf8) (c : Content) (o p : Option Content) → tree_unit_of name o ≡ tree_unit_of name p
    → tree_unit_of name (cond d (Some (settled_content b (unrolled_content max_steps c g))) o) ≡ tree_unit_of name (cond d (Some c) p)
tree_unit_either b true g name unit_content o p e = refl
tree_unit_either b true g name (newtype_content s) o p e = refl
tree_unit_either b true g name (tuple_content ps) o p e = refl
tree_unit_either b true g name (struct_content fs) o p e = refl
tree_unit_either b false g name c o p e = e

pub tree_unit_formed : (b : Bool) (g : Meanings) (vs : Variants) (name : Utf8) → tree_unit_of name (content_of (settled_variants b (unrolled_variants max_steps vs g)) name) ≡ tree_unit_of name (content_of vs name)
tree_unit_formed b g no_variants name = refl
tree_unit_formed b g (variant n c vs) name = tree_unit_either b (bytes_eq n name) g name c (content_of (settled_variants b (unrolled_variants max_steps vs g)) name) (content_of vs name) (tree_unit_formed b g vs name)

-- the key of a map
unit_laid : (g : Meanings) (name : Utf8) (c : Content) → unit_of name (Some (unrolled_content max_steps c g)) ≡ unit_of name (Some c)
unit_laid g name unit_content = refl
unit_laid g name c = refl

units_laid : (g : Meanings) (name key : Utf8) (vs : Variants) → unit_of name (content_of (unrolled_variants max_steps vs g) key) ≡ unit_of name (content_of vs key)
units_laid g name key no_variants = refl
units_laid g name key (variant word c vs) = by_case (bytes_eq word key) (units_laid g name key vs) where
  by_case : (b : Bool) → unit_of name (content_of (unrolled_variants max_steps vs g) key) ≡ unit_of name (content_of vs key)
      → unit_of name (cond b (Some (unrolled_content max_steps c g)) (content_of (unrolled_variants max_steps vs g) key)) ≡ unit_of name (cond b (Some c) (content_of vs key))
  by_case true h = unit_laid g name c
  by_case false h = h

key_piece : (g : Meanings) (key : Form) (p : Piece) → reads_key (unrolled max_steps key g) p ≡ reads_key key p
key_piece g (enumeration vs) p = units_laid g p.bytes p.bytes vs
key_piece g (leaf l) p = refl
key_piece g key p = refl

pub key_laid : (r : Reader) (key : Form) → reads_key (laid r key) ≡ reads_key key
key_laid r key = λ i p. key_piece (meanings_of r) key p i
