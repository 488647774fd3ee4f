-- Steps of loops over the values of trees, and the rows of definitions that say what fits no tree.
use Rattle.std.proofs.Common.{◌≡◌, true, ℕ, ◌+◌, ◌<◌, ◌≤◌, List, [], ◌∷◌, ◌++◌, max, length, get_or, drop, refl, ap, ◌∙◌, sym, subst, arith, Result, Ok, Err}
use Rattle.std.proofs.lemmas.List.{at_drop_more, at_drop_all}
use Rattle.std.specs.Prelude.{if◌then◌else◌}
use Rattle.std.specs.Global.{Vec}
use Rattle.std.specs.Str.{bytes_eq}
use Rattle.bson_kinds.specs.Outcome.{◌>>=◌, result_map}
use Rattle.bson_kinds.specs.Reserved.{reserved_kind}
use Rattle.bson_base.specs.BsonView.{tree_of, trees_of}
use Rattle.bson_base.specs.Tree.{Tree, Pairs, no_pairs, pair, Trees, no_trees, tree, depth, pairs_depth, trees_depth}
use Rattle.bson_base.specs.declared.bson.Bson.{Bson}
use Rattle.bson_kinds.specs.Text.{Utf8}
use Rattle.bson_datum.specs.View.{view, items_view, entries_view, fields_view}
use Rattle.bson_datum.proofs.Views.{view-Struct}
use Rattle.bson_datum.specs.declared.datum.Datum.{Datum, Struct}
use Rattle.bson_datum.specs.declared.datum.Entry.{Entry}
use Rattle.bson_datum.specs.declared.datum.Field.{Field}
use Rattle.bson_laws.specs.Datum.{datum, pair_data, tree_data, itself}
use Rattle.bson_values.specs.Value.{Items, item, Entries, entry, str, structure}
use Rattle.bson_values.specs.Refusal.{Failure, ReadFault, FailsAs}
use Rattle.bson_values.specs.TextView.{text_view}
use Rattle.bson_values.specs.declared.text.Text.{Text}
use Rattle.bson_type_data.specs.Answers.{Reading, not_fitting}
use Rattle.bson_type_data.specs.Trees.{scoped_name, named_code, code_and_scope, scoped_tree, taken_struct, taken_tree, taken_trees, taken_document, taken_fields, taken_scoped}
use Rattle.bson_type_data.specs.Scalars.{taken_text}
use Rattle.bson_type_data.proofs.Joined.{joined, joined_datum, joined_nothing, joined_entries, joined_entry, no_entry}

-- ---- values that are made of data

-- the trees of one list, and then those of another
abbrev pub trees_joined : Trees → Trees → Trees
trees_joined no_trees us = us
trees_joined (tree t ts) us = tree t (trees_joined ts us)

joined_tree : (bs : List Bson) (b : Bson) (us : Trees) → trees_joined (trees_of (bs ++ b ∷ [])) us ≡ trees_joined (trees_of bs) (tree (tree_of b) us)
joined_tree [] b us = refl
joined_tree (c ∷ bs) b us = ap (tree (tree_of c)) (joined_tree bs b us)

joined_none : (ts : Trees) → trees_joined ts no_trees ≡ ts
joined_none no_trees = refl
joined_none (tree t ts) = ap (tree t) (joined_none ts)

map_tree : {E : Type 0} (bs : List Bson) (b : Bson) (r : Result Trees E) → result_map (trees_joined (trees_of (bs ++ b ∷ []))) r ≡ result_map (trees_joined (trees_of bs)) (result_map (tree (tree_of b)) r)
map_tree bs b (Ok us) = ap Ok (joined_tree bs b us)
map_tree bs b (Err e) = refl

-- one more value is made
pub take_more : (bs new : List Bson) (b : Bson) (ds : List Datum) (i : ℕ) (d : Datum) (all : Reading Trees) → i < length ds → d ≡ get_or ds i d → taken_tree (view d) ≡ Ok (tree_of b) → new ≡ bs ++ b ∷ []
    → result_map (trees_joined (trees_of bs)) (taken_trees (items_view (drop i ds))) ≡ all → result_map (trees_joined (trees_of new)) (taken_trees (items_view (drop (i + 1) ds))) ≡ all
take_more bs new b ds i d all h is e grown so_far =
    let rest = taken_trees (items_view (drop (i + 1) ds)) in
    let first : taken_trees (items_view (drop i ds)) ≡ (taken_tree (view (get_or ds i d)) >>= λ t. result_map (tree t) rest) = at_drop_more (λ xs. taken_trees (items_view xs)) ds i d h in
    let left : taken_trees (items_view (drop i ds)) ≡ result_map (tree (tree_of b)) rest = first ∙ ap (λ r. r >>= λ t. result_map (tree t) rest) (ap (λ x. taken_tree (view x)) (sym is) ∙ e) in
    ap (λ bs. result_map (trees_joined (trees_of bs)) rest) grown ∙ map_tree bs b rest ∙ ap (result_map (trees_joined (trees_of bs))) (sym left) ∙ so_far

-- all are made
pub take_all : (bs : List Bson) (ds : List Datum) (i : ℕ) (all : Reading Trees) → length ds ≤ i → result_map (trees_joined (trees_of bs)) (taken_trees (items_view (drop i ds))) ≡ all → all ≡ Ok (trees_of bs)
take_all bs ds i all h so_far =
    sym so_far ∙ ap (result_map (trees_joined (trees_of bs))) (at_drop_all (λ xs. taken_trees (items_view xs)) ds i h) ∙ ap Ok (joined_none (trees_of bs))

-- ---- data that are made of values

-- one more item is made
pub data_more : (ds new : List Datum) (d : Datum) (bs : List Bson) (i : ℕ) (b : Bson) (all : Items) → i < length bs → b ≡ get_or bs i b → view d ≡ datum itself (tree_of b) → new ≡ ds ++ d ∷ []
    → joined (items_view ds) (tree_data itself (trees_of (drop i bs))) ≡ all → joined (items_view new) (tree_data itself (trees_of (drop (i + 1) bs))) ≡ all
data_more ds new d bs i b all h is e grown so_far =
    let rest = tree_data itself (trees_of (drop (i + 1) bs)) in
    let first : tree_data itself (trees_of (drop i bs)) ≡ item (datum itself (tree_of (get_or bs i b))) rest = at_drop_more (λ xs. tree_data itself (trees_of xs)) bs i b h in
    let here : item (view d) rest ≡ tree_data itself (trees_of (drop i bs)) = ap (λ v. item v rest) (e ∙ ap (λ x. datum itself (tree_of x)) is) ∙ sym first in
    ap (λ z. joined (items_view z) rest) grown ∙ joined_datum ds d rest ∙ ap (joined (items_view ds)) here ∙ so_far

-- all are made
pub data_all : (ds : List Datum) (bs : List Bson) (i : ℕ) (all : Items) → length bs ≤ i → joined (items_view ds) (tree_data itself (trees_of (drop i bs))) ≡ all → items_view ds ≡ all
data_all ds bs i all h so_far = sym (joined_nothing (items_view ds)) ∙ sym (ap (joined (items_view ds)) (at_drop_all (λ xs. tree_data itself (trees_of xs)) bs i h)) ∙ so_far

-- the values that are left are no deeper than all
pub values_left : (bs : List Bson) (i n : ℕ) (b : Bson) → i < length bs → trees_depth (trees_of (drop i bs)) ≤ n → trees_depth (trees_of (drop (i + 1) bs)) ≤ n
values_left bs i n b h few =
    let e : trees_depth (trees_of (drop i bs)) ≡ max (depth (tree_of (get_or bs i b))) (trees_depth (trees_of (drop (i + 1) bs))) = at_drop_more (λ xs. trees_depth (trees_of xs)) bs i b h in
    omega (arith, e)

-- one more entry is made
pub entry_more : (es new : List Entry) (e : Entry) (old rest : Pairs) (k : Utf8) (t : Tree) (all : Entries) → old ≡ pair k t rest → view e.key ≡ str k → view e.value ≡ datum itself t → new ≡ es ++ e ∷ []
    → joined_entries (entries_view es) (pair_data itself old) ≡ all → joined_entries (entries_view new) (pair_data itself rest) ≡ all
entry_more es new e old rest k t all is key value grown so_far =
    let here : entry (view e.key) (view e.value) (pair_data itself rest) ≡ pair_data itself old = (λ j. entry (key j) (value j) (pair_data itself rest)) ∙ sym (ap (pair_data itself) is) in
    ap (λ z. joined_entries (entries_view z) (pair_data itself rest)) grown ∙ joined_entry es e (pair_data itself rest) ∙ ap (joined_entries (entries_view es)) here ∙ so_far

-- all are made
pub entries_all : (es : List Entry) (left : Pairs) (all : Entries) → left ≡ no_pairs → joined_entries (entries_view es) (pair_data itself left) ≡ all → entries_view es ≡ all
entries_all es left all none so_far = sym (no_entry (entries_view es)) ∙ sym (ap (λ ps. joined_entries (entries_view es) (pair_data itself ps)) none) ∙ so_far

-- the pairs that are left are no deeper than all
pub pairs_left : (old rest : Pairs) (k : Utf8) (t : Tree) (n : ℕ) → old ≡ pair k t rest → pairs_depth old ≤ n → pairs_depth rest ≤ n
pairs_left old rest k t n is few =
    let e : pairs_depth old ≡ max (depth t) (pairs_depth rest) = ap pairs_depth is in
    omega (arith, e)

-- ---- code with its scope

-- what two fields give
abbrev pub of_two : Field → Field → Reading (Utf8 × Pairs)
of_two f g = code_and_scope (named_code (text_view f.name) (text_view g.name) (taken_text (view f.value))) (taken_document (view g.value))

two_are : (fs : List Field) (f g : Field) → length fs ≡ 2 → f ≡ get_or fs 0 f → g ≡ get_or fs 1 g → of_two f g ≡ taken_fields (fields_view fs)
two_are [] f g h first second = absurd (omega (arith, h))
two_are (a ∷ []) f g h first second = absurd (omega (arith, h))
two_are (a ∷ b ∷ []) f g h first second = λ i. of_two (first i) (second i)
two_are (a ∷ b ∷ c ∷ fs) f g h first second = absurd (omega (arith, h))

-- the first of two fields gives code
pub two_give : (fs : List Field) (f g : Field) (name t : Utf8) → length fs ≡ 2 → f ≡ get_or fs 0 f → g ≡ get_or fs 1 g → name ≡ text_view g.name
    → named_code (text_view f.name) name (taken_text (view f.value)) ≡ Ok t → result_map (λ ps. (t, ps)) (taken_document (view g.value)) ≡ taken_fields (fields_view fs)
two_give fs f g name t h first second named gives =
    sym (ap (λ r. code_and_scope r (taken_document (view g.value))) gives) ∙ ap (λ n. code_and_scope (named_code (text_view f.name) n (taken_text (view f.value))) (taken_document (view g.value))) named
    ∙ two_are fs f g h first second

-- other than two fields
pub not_two : (fs : List Field) (x : Failure ReadFault) → x ≡ not_fitting → (length fs ≡ 2 → ⊥) → FailsAs x (taken_fields (fields_view fs))
not_two fs x is h = subst (λ y. FailsAs y (taken_fields (fields_view fs))) (sym is) (none fs h) where
  none : (gs : List Field) → (length gs ≡ 2 → ⊥) → taken_fields (fields_view gs) ≡ Err not_fitting
  none [] n = refl
  none (f ∷ []) n = refl
  none (f ∷ g ∷ []) n = absurd (n refl)
  none (f ∷ g ∷ e ∷ gs) n = refl

-- the struct of that name
pub scoped_struct : (d : Datum) (name : Text) (fields : Vec Field) (items : List Field) → d ≡ Struct name fields → items ≡ fields.items → bytes_eq (text_view name) scoped_name ≡ true
    → result_map scoped_tree (taken_fields (fields_view items)) ≡ taken_tree (view d)
scoped_struct d name fields items is same e =
    let fs = fields_view fields.items in
    ap (λ xs. result_map scoped_tree (taken_fields (fields_view xs))) same
    ∙ sym (ap (λ b. if b then result_map scoped_tree (taken_fields fs) else taken_struct (reserved_kind (text_view name)) (structure (text_view name) fs)) e)
    ∙ sym (ap taken_tree (view-Struct name fields)) ∙ sym (ap (λ x. taken_tree (view x)) is)

pub scoped_value : (d : Datum) (name : Text) (fields : Vec Field) (items : List Field) → d ≡ Struct name fields → items ≡ fields.items → bytes_eq (text_view name) scoped_name ≡ true
    → taken_fields (fields_view items) ≡ taken_scoped (view d)
scoped_value d name fields items is same e =
    ap (λ xs. taken_fields (fields_view xs)) same ∙ sym (ap (λ b. if b then taken_fields (fields_view fields.items) else Err not_fitting) e)
    ∙ sym (ap taken_scoped (view-Struct name fields)) ∙ sym (ap (λ x. taken_scoped (view x)) is)
