-- What means a clean tree is spelled as it.
use Rattle.std.proofs.Common.{◌≡◌, ℕ, ℤ, Bool, true, false, zero, suc, ◌≤◌, List, [], length, cond, Option, Some, None, Ok, Err, refl, ap, sym, subst, ◌∙◌, arith}
use Rattle.std.specs.Prelude.{encode_utf8, option_map, option_and_then, codes}
use Rattle.std.specs.Result.{result_ok}
use Rattle.std.specs.Str.{bytes_eq}
use Rattle.std.proofs.lemmas.Bool.{le-ltb}
use Rattle.bson_kinds.specs.Text.{Bytes, Utf8, has_zero}
use Rattle.bson_kinds.specs.Outcome.{◌>>=◌, result_map}
use Rattle.bson_kinds.specs.Reserved.{reserved_kind}
use Rattle.bson_base.specs.Sound.{max_levels, IsClean, ArePairsClean, AreTreesClean, IsSound, IsDocument}
use Rattle.bson_base.specs.Tree as tree
use Rattle.bson_base.specs.Tree.{Tree, string, binary, null, int32, int64, document, array, Pairs, no_pairs, pair, Trees, no_trees, kind, enc, depth, pairs_depth, trees_depth}
use Rattle.bson_kinds.specs.declared.element_type.ElementType.{ElementType}
use Rattle.bson_kinds.specs.declared.element_type.ElementType.TheVariants.{EmbeddedDocument, Array, JavaScriptCodeWithScope, Int32}
use Rattle.bson_kinds.proofs.Outcomes.{some_map, some_then}
use Rattle.bson_shape.specs.Makers.{is_reserved_newtype}
use Rattle.bson_values.specs.Value.{written_as, Value, boolean, integer, double, character, str, bytes, some, newtype, sequence, map, structure, unit_variant, newtype_variant, tuple, tuple_structure, tuple_variant, structure_variant, raw_document, raw_array, mode, Items, no_items, item, Entries, no_entries, entry, FieldValues, no_field_values, field_value, uuid_newtype, readable_inside}
use Rattle.bson_values.specs.Refusal.{WriteFault, Refusal, here, invalid_cstring, under, under_index}
use Rattle.bson_laws.specs.Unwrap.{Part, unwrap, scoped_code}
use Rattle.bson_laws.specs.UuidBytes.{uuid_bytes}
use Rattle.bson_laws.specs.Written.{with_scope}
use Rattle.bson_laws.specs.Means.{under_name, key_text, scoped_means, reserved_means, struct_means, means_entries, number_of, means, means_items, means_fields, means_list, means_part}
use Rattle.bson_laws.specs.Spell.{named, variant_at, written_key, spell_entries, Writing, spell_number, spell_binary, spell_whole, spell_unwrapped, spell_scoped, spell_uuid, enclosed_at, struct_at, reserved_at, spell_as, spell_list, spell_part, spell, spell_items, spell_fields, at_top, spell_document, size}
use Rattle.bson_laws.proofs.Alike.{AreAlike, Both, IsScope, SameScope, scopes_alike}
use Rattle.bson_laws.proofs.Free.{free_spelled}
use Rattle.bson_laws.proofs.Sizes.{spell_kind, length-spell}
use Rattle.bson_kinds.proofs.Apart.{no_some, true_no}

abbrev pub pairs_found : Pairs → Option Pairs
pairs_found t = Some t

pub pairs_are : (t u : Pairs) → pairs_found t ≡ pairs_found u → t ≡ u
pairs_are t u e = cc

abbrev pub found : Tree → Option Tree
found t = Some t

pub tree_is : (t u : Tree) → found t ≡ found u → t ≡ u
tree_is t u e = cc

wide_spelled : (b : Bool) (f : Refusal WriteFault) (n : ℤ) (t : Tree) → cond b None (found (int64 n)) ≡ Some t → cond b (Err f) (Ok (int64 n)) ≡ Ok t
wide_spelled true f n t e = absurd (no_some e)
wide_spelled false f n t e = ap Ok (tree_is (int64 n) t e)

number_spelled : (k : ElementType) (n : ℤ) (t : Tree) → number_of k n ≡ Some t → spell_number k n ≡ Ok t
number_spelled Int32 n t e = ap Ok (tree_is (int32 n) t e)
number_spelled k n t e = wide_spelled _ _ n t e

allowed : (b : Bool) (f : Refusal WriteFault) (t : Tree) → b ≡ false → cond b (Err f) (Ok t) ≡ Ok t
allowed true f t e = absurd (true_no e)
allowed false f t e = refl

-- a binary that is clean is written
pub binary_spelled : (subtype : ℕ) (bs : Bytes) → IsClean (binary subtype bs) → spell_binary subtype bs ≡ Ok (binary subtype bs)
binary_spelled subtype bs c = allowed _ _ (binary subtype bs) (le-ltb _ _ c.fits)

pub free_newtype : (b : Bool) (r : Option Tree) (t : Tree) → cond b None r ≡ Some t → (b ≡ false) × (r ≡ Some t)
free_newtype true r t e = absurd (no_some e)
free_newtype false r t e = (refl, e)

-- a newtype that means something is a UUID, or its name is not reserved
pub newtype_meant : {W : Type 0} (name : Utf8) (v : Value) (t : Tree) → means (newtype name v) ≡ Some t
    → (bytes_eq name uuid_newtype ≡ true → (bs : Bytes) → uuid_bytes false v ≡ Some bs → binary 4 bs ≡ t → W) → (is_reserved_newtype name ≡ false → means v ≡ Some t → W) → W
newtype_meant {W = W} name v t e one other = by (bytes_eq name uuid_newtype) refl e
  where
    by : (b : Bool) → bytes_eq name uuid_newtype ≡ b → cond b (option_map (binary 4) (uuid_bytes false v)) (cond (is_reserved_newtype name) None (means v)) ≡ Some t → W
    by true is h = let m = some_map (binary 4) (uuid_bytes false v) t h in one is m.0 m.1 m.2
    by false is h = let m = free_newtype (is_reserved_newtype name) (means v) t h in other m.0 m.1

-- a container whose parts are written, however many levels are left for them, is written where one more is left
pub enclosed : {A : Type 0} (container : A → Tree) (parts : ℕ → Writing A) (ps : A) (inner levels : ℕ) → suc inner ≤ levels → ((n : ℕ) → inner ≤ n → parts n ≡ Ok ps) → enclosed_at container levels parts ≡ Ok (container ps)
enclosed container parts ps inner zero d h = absurd (omega arith)
enclosed container parts ps inner (suc n) d h = ap (result_map container) (h n (omega arith))

named_is : (name : Utf8) (r : Writing Tree) (u : Tree) → has_zero name ≡ false → r ≡ Ok u → (named name r >>= λ t. Ok (pair name t no_pairs)) ≡ Ok (pair name u no_pairs)
named_is name r u z e =
    ap (λ b. cond b (Err (here (invalid_cstring name))) (under name r) >>= λ t. Ok (pair name t no_pairs)) z
    ∙ ap (λ s. under name s >>= λ t. Ok (pair name t no_pairs)) e

-- a variant whose contents are written, however many levels are left for them
variant_is : (name : Utf8) (levels : ℕ) (content : ℕ → Writing Tree) (u : Tree) → has_zero name ≡ false → suc (depth u) ≤ levels → ((n : ℕ) → depth u ≤ n → content n ≡ Ok u)
    → variant_at name levels content ≡ Ok (document (pair name u no_pairs))
variant_is name levels content u z d h =
    enclosed document (λ inner. named name (content inner) >>= λ t. Ok (pair name t no_pairs)) (pair name u no_pairs) (depth u) levels d (λ n le. named_is name (content n) u z (h n le))

abbrev pub trees_found : Trees → Option Trees
trees_found ts = Some ts

pub trees_are : (ts us : Trees) → trees_found ts ≡ trees_found us → ts ≡ us
trees_are ts us e = cc

ok_of : (r : Writing Tree) (t : Tree) → result_ok r ≡ Some t → r ≡ Ok t
ok_of (Ok u) t e = ap Ok (tree_is u t e)
ok_of (Err f) t e = absurd (no_some e)

-- ---- reserved structs

-- what a value means, where it is clean and nests no deeper, is what it is written as
abbrev IsMeant : ℕ → Value → Option Tree → Writing Tree → Type 0
IsMeant levels v o r = (o ≡ means v) × ((t : Tree) → o ≡ Some t → IsClean t → depth t ≤ levels → r ≡ Ok t)

-- what is clean in code with its scope
scope_clean : (code : Utf8) (u t : Tree) (levels : ℕ) → IsDocument u → with_scope code u ≡ t → IsClean t → depth t ≤ levels → IsClean u × (depth u ≤ levels)
scope_clean code (document ps) t levels w is c d = ((subst IsClean (sym is) c).1, subst (λ x. depth x ≤ levels) (sym is) d)
scope_clean code u t levels w is c d = absurd w

-- the scope of clean code is a document
scope_document : (code : Utf8) (v : Value) (u t : Tree) → IsScope v → means v ≡ Some u → with_scope code u ≡ t → IsClean t → IsDocument u
scope_document code (map es) u t h e is c = let w = some_map document (means_entries es) u e in subst IsDocument w.2 tt
scope_document code (raw_document b) u t h e is c = absurd (subst IsClean (sym (ap (with_scope code) (tree_is (tree.raw EmbeddedDocument b) u e) ∙ is)) c)
scope_document code v u t h e is c = absurd h

scoped_spelled : (levels : ℕ) (o : Option (Utf8 × Option Tree)) (s : Option (Utf8 × Writing Tree)) (t : Tree) → Both (SameScope (IsMeant levels)) o s → scoped_means o ≡ Some t → IsClean t → depth t ≤ levels → spell_scoped s ≡ Ok t
scoped_spelled levels (Some p) (Some q) t h e c d =
    let m = some_map (with_scope p.0) p.1 t e in
    let w = scope_document p.0 h.1.0 m.0 t h.1.1 (sym h.1.2.0 ∙ m.1) m.2 c in
    let inner = scope_clean p.0 m.0 t levels w m.2 c d in
    ap (λ r. result_map (with_scope q.0) (under (codes "$scope") r)) (h.1.2.1 m.0 m.1 inner.0 inner.1) ∙ ap Ok (ap (λ x. with_scope x m.0) (sym h.0) ∙ m.2)
scoped_spelled levels None s t h e c d = absurd cc
scoped_spelled levels (Some p) None t h e c d = absurd h

reserved_spelled : (levels : ℕ) (k : ElementType) (u : Option Tree) (o : Option (Utf8 × Option Tree)) (s : Option (Utf8 × Writing Tree)) (t : Tree) → Both (SameScope (IsMeant levels)) o s → reserved_means k u o ≡ Some t → IsClean t → depth t ≤ levels
    → reserved_at k u s ≡ Ok t
reserved_spelled levels JavaScriptCodeWithScope u o s t h e c d = scoped_spelled levels o s t h e c d
reserved_spelled levels k u o s t h e c d = let m = some_then (λ x. result_ok (spell_whole x)) u t e in ap spell_unwrapped m.1 ∙ ok_of (spell_whole m.0) t m.2

struct_spelled : (levels : ℕ) (n : Option ElementType) (fs : FieldValues) (o : Option (Utf8 × Option Tree)) (s : Option (Utf8 × Writing Tree)) (t : Tree) → Both (SameScope (IsMeant levels)) o s
    → ((ps : Pairs) (inner : ℕ) → means_fields fs ≡ Some ps → ArePairsClean ps → pairs_depth ps ≤ inner → spell_fields fs inner ≡ Ok ps)
    → struct_means n (means_fields fs) (λ k. reserved_means k (unwrap k fs) o) ≡ Some t → IsClean t → depth t ≤ levels
    → struct_at n levels (spell_fields fs) (λ k. reserved_at k (unwrap k fs) s) ≡ Ok t
struct_spelled levels None fs o s t h fields e c d =
    let m = some_map document (means_fields fs) t e in
    subst (λ x. IsClean x → depth x ≤ levels → enclosed_at document levels (spell_fields fs) ≡ Ok x) m.2
    (λ c' d'. enclosed document (spell_fields fs) m.0 (pairs_depth m.0) levels d' (λ n le. fields m.0 n m.1 c' le)) c d
struct_spelled levels (Some k) fs o s t h fields e c d = reserved_spelled levels k (unwrap k fs) o s t h e c d

mutual
  pub spell_is : (v : Value) (t : Tree) (levels : ℕ) → means v ≡ Some t → IsClean t → depth t ≤ levels → spell v levels ≡ Ok t
  spell_is (integer type n) t levels e c d = number_spelled (written_as type) n t e
  spell_is (boolean b) t levels e c d = ap Ok (tree_is (tree.boolean b) t e)
  spell_is (double bits) t levels e c d = ap Ok (tree_is (tree.double bits) t e)
  spell_is (character x) t levels e c d = ap Ok (tree_is (string (encode_utf8 x)) t e)
  spell_is (bytes bs) t levels e c d = let is = tree_is (binary 0 bs) t e in binary_spelled 0 bs (subst IsClean (sym is) c) ∙ ap Ok is
  spell_is (some v) t levels e c d = spell_is v t levels e c d
  spell_is (newtype name v) t levels e c d =
      newtype_meant name v t e
      (λ is bs u same.
      ap (λ b. cond b (spell_uuid (uuid_bytes false v)) (spell_as (readable_inside false name) v levels)) is ∙ ap spell_uuid u ∙ binary_spelled 4 bs (subst IsClean (sym same) c) ∙ ap Ok same)
      (λ free m. free_spelled name v levels free ∙ spell_is v t levels m c d)
  spell_is (mode v w) t levels e c d = spell_is w t levels e c d
  spell_is (str x) t levels e c d = ap Ok (tree_is (string x) t e)
  spell_is (sequence vs) t levels e c d =
      let m = some_map array (means_items vs) t e in
      subst (λ x. IsClean x → depth x ≤ levels → spell (sequence vs) levels ≡ Ok x) m.2
      (λ c' d'. enclosed array (spell_items 0 vs) m.0 (trees_depth m.0) levels d' (λ n le. spell_items_are 0 vs m.0 n m.1 c' le)) c d
  spell_is (map es) t levels e c d =
      let m = some_map document (means_entries es) t e in
      subst (λ x. IsClean x → depth x ≤ levels → spell (map es) levels ≡ Ok x) m.2
      (λ c' d'. enclosed document (spell_entries es) m.0 (pairs_depth m.0) levels d' (λ n le. spell_entries_are es m.0 n m.1 c' le)) c d
  spell_is (unit_variant name) t levels e c d = ap Ok (tree_is (string name) t e)
  spell_is (newtype_variant name v) t levels e c d =
      let m = some_map (under_name name) (means v) t e in
      subst (λ x. IsClean x → depth x ≤ levels → spell (newtype_variant name v) levels ≡ Ok x) m.2
      (λ c' d'. variant_is name levels (spell v) m.0 c'.0.free.no_zero (omega arith) (λ n le. spell_is v m.0 n m.1 c'.2 le)) c d
  spell_is (tuple vs) t levels e c d =
      let m = some_map array (means_items vs) t e in
      subst (λ x. IsClean x → depth x ≤ levels → spell (tuple vs) levels ≡ Ok x) m.2
      (λ c' d'. enclosed array (spell_items 0 vs) m.0 (trees_depth m.0) levels d' (λ n le. spell_items_are 0 vs m.0 n m.1 c' le)) c d
  spell_is (tuple_structure name vs) t levels e c d =
      let m = some_map array (means_items vs) t e in
      subst (λ x. IsClean x → depth x ≤ levels → spell (tuple_structure name vs) levels ≡ Ok x) m.2
      (λ c' d'. enclosed array (spell_items 0 vs) m.0 (trees_depth m.0) levels d' (λ n le. spell_items_are 0 vs m.0 n m.1 c' le)) c d
  spell_is (tuple_variant name vs) t levels e c d =
      let m = some_map (λ ts. under_name name (array ts)) (means_items vs) t e in
      subst (λ x. IsClean x → depth x ≤ levels → spell (tuple_variant name vs) levels ≡ Ok x) m.2
      (λ c' d'. variant_is name levels (λ inner. enclosed_at array inner (spell_items 0 vs)) (array m.0) c'.0.free.no_zero (omega arith)
      (λ n le. enclosed array (spell_items 0 vs) m.0 (trees_depth m.0) n le (λ k le'. spell_items_are 0 vs m.0 k m.1 c'.2 le'))) c d
  spell_is (structure_variant name fs) t levels e c d =
      let m = some_map (λ ps. under_name name (document ps)) (means_fields fs) t e in
      subst (λ x. IsClean x → depth x ≤ levels → spell (structure_variant name fs) levels ≡ Ok x) m.2
      (λ c' d'. variant_is name levels (λ inner. enclosed_at document inner (spell_fields fs)) (document m.0) c'.0.free.no_zero (omega arith)
      (λ n le. enclosed document (spell_fields fs) m.0 (pairs_depth m.0) n le (λ k le'. spell_fields_are fs m.0 k m.1 c'.2 le'))) c d
  spell_is (raw_document b) t levels e c d = absurd (subst IsClean (sym (tree_is (tree.raw EmbeddedDocument b) t e)) c)
  spell_is (raw_array b) t levels e c d = absurd (subst IsClean (sym (tree_is (tree.raw Array b) t e)) c)
  spell_is (structure name fs) t levels e c d =
      struct_spelled levels (reserved_kind name) fs (scoped_code (means_list fs [])) (scoped_code (spell_list false fs levels [])) t
      (scopes_alike (IsMeant levels) (means_list fs []) (spell_list false fs levels []) (list_meant fs levels [] [] tt)) (λ ps n h c' le. spell_fields_are fs ps n h c' le) e c d
  spell_is v t levels e c d = ap Ok (tree_is null t e)

  pub spell_items_are : (i : ℕ) (vs : Items) (ts : Trees) (levels : ℕ) → means_items vs ≡ Some ts → AreTreesClean ts → trees_depth ts ≤ levels → spell_items i vs levels ≡ Ok ts
  spell_items_are i no_items ts levels e c d = ap Ok (trees_are no_trees ts e)
  spell_items_are i (item v vs) ts levels e c d =
      let a = some_then (λ t. option_map (tree.tree t) (means_items vs)) (means v) ts e in
      let b = some_map (tree.tree a.0) (means_items vs) ts a.2 in
      subst (λ us. AreTreesClean us → trees_depth us ≤ levels → spell_items i (item v vs) levels ≡ Ok us) b.2
      (λ c' d'.
      ap (λ r. under_index i r >>= λ t. spell_items (suc i) vs levels >>= λ us. Ok (tree.tree t us)) (spell_is v a.0 levels a.1 c'.0 (omega arith))
      ∙ ap (λ r. r >>= λ us. Ok (tree.tree a.0 us)) (spell_items_are (suc i) vs b.0 levels b.1 c'.1 (omega arith)))
      c d

  pub spell_entries_are : (es : Entries) (ps : Pairs) (levels : ℕ) → means_entries es ≡ Some ps → ArePairsClean ps → pairs_depth ps ≤ levels → spell_entries es levels ≡ Ok ps
  spell_entries_are no_entries ps levels e c d = ap Ok (pairs_are no_pairs ps e)
  spell_entries_are (entry k v es) ps levels e c d =
      let a = some_then (λ key. option_and_then (λ t. option_map (pair key t) (means_entries es)) (means v)) (key_text k) ps e in
      let b = some_then (λ t. option_map (pair a.0 t) (means_entries es)) (means v) ps a.2 in
      let q = some_map (pair a.0 b.0) (means_entries es) ps b.2 in
      subst (λ u. ArePairsClean u → pairs_depth u ≤ levels → spell_entries (entry k v es) levels ≡ Ok u) q.2
      (λ c' d'.
      ap (λ o. written_key k o >>= λ key. under key (spell v levels) >>= λ t. spell_entries es levels >>= λ qs. Ok (pair key t qs)) a.1
      ∙ ap (λ z. cond z (Err (here (invalid_cstring a.0))) (Ok a.0) >>= λ key. under key (spell v levels) >>= λ t. spell_entries es levels >>= λ qs. Ok (pair key t qs)) c'.0.free.no_zero
      ∙ ap (λ r. under a.0 r >>= λ t. spell_entries es levels >>= λ qs. Ok (pair a.0 t qs)) (spell_is v b.0 levels b.1 c'.2 (omega arith))
      ∙ ap (λ r. r >>= λ qs. Ok (pair a.0 b.0 qs)) (spell_entries_are es q.0 levels q.1 c'.3 (omega arith)))
      c d

  pub spell_fields_are : (fs : FieldValues) (ps : Pairs) (levels : ℕ) → means_fields fs ≡ Some ps → ArePairsClean ps → pairs_depth ps ≤ levels → spell_fields fs levels ≡ Ok ps
  spell_fields_are no_field_values ps levels e c d = ap Ok (pairs_are no_pairs ps e)
  spell_fields_are (field_value name v fs) ps levels e c d =
      let a = some_then (λ t. option_map (pair name t) (means_fields fs)) (means v) ps e in
      let b = some_map (pair name a.0) (means_fields fs) ps a.2 in
      subst (λ u. ArePairsClean u → pairs_depth u ≤ levels → spell_fields (field_value name v fs) levels ≡ Ok u) b.2
      (λ c' d'.
      ap (λ z. cond z (Err (here (invalid_cstring name))) (under name (spell v levels)) >>= λ t. spell_fields fs levels >>= λ qs. Ok (pair name t qs)) c'.0.free.no_zero
      ∙ ap (λ r. under name r >>= λ t. spell_fields fs levels >>= λ qs. Ok (pair name t qs)) (spell_is v a.0 levels a.1 c'.2 (omega arith))
      ∙ ap (λ r. r >>= λ qs. Ok (pair name a.0 qs)) (spell_fields_are fs b.0 levels b.1 c'.3 (omega arith)))
      c d

  list_meant : (fs : FieldValues) (levels : ℕ) (xs : List (Part (Option Tree))) (ys : List (Part (Writing Tree))) → AreAlike (IsMeant levels) xs ys → AreAlike (IsMeant levels) (means_list fs xs) (spell_list false fs levels ys)
  list_meant no_field_values levels xs ys h = h
  list_meant (field_value name v fs) levels xs ys h =
      (refl, part_meant v levels (means v) (spell v levels) (refl, λ t e c d. spell_is v t levels e c d) (means_list fs xs) (spell_list false fs levels ys) (list_meant fs levels xs ys h))

  part_meant : (v : Value) (levels : ℕ) (o : Option Tree) (r : Writing Tree) → IsMeant levels v o r → (xs : List (Part (Option Tree))) (ys : List (Part (Writing Tree))) → AreAlike (IsMeant levels) xs ys
      → AreAlike (IsMeant levels) (means_part v o xs) (spell_part false v levels r ys)
  part_meant (structure name fs) levels o r p xs ys h = list_meant fs levels xs ys h
  part_meant (mode v w) levels o r p xs ys h = part_meant w levels (means w) (spell w levels) (refl, λ t e c d. spell_is w t levels e c d) xs ys h
  part_meant v levels o r p xs ys h = (refl, p, h)

document_kind : (t : Tree) → IsDocument t → kind t ≡ EmbeddedDocument
document_kind (document ps) d = refl
document_kind t d = absurd d

-- what means a sound tree is spelled as that tree, in as many bytes as its size says
pub spell_means : (v : Value) (t : Tree) → means v ≡ Some t → IsSound t → (spell_document v ≡ Ok t) × (size v ≡ length (enc t))
spell_means v t e s =
    let h = spell_is v t max_levels e s.clean s.nests in
    (ap (λ k. at_top k (spell v max_levels)) (sym (spell_kind false v max_levels t h) ∙ document_kind t s.document) ∙ h, sym (length-spell false v max_levels t h))
