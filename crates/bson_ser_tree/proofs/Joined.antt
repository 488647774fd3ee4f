-- What parts behind others are made into, where the others were made.
use Rattle.std.proofs.Common.{◌≡◌, ℕ, suc, Bool, false, Ok, Err, refl, ap, sym, ◌∙◌}
use Rattle.bson_kinds.specs.Outcome.{◌>>=◌, result_map}
use Rattle.bson_base.specs.Pairs.{put}
use Rattle.bson_kinds.specs.Text.{Utf8}
use Rattle.bson_base.specs.Tree.{Tree, Pairs, Trees, no_trees, tree}
use Rattle.bson_kinds.proofs.Outcomes.{bind_ok}
use Rattle.bson_values.specs.Refusal.{under, under_index}
use Rattle.bson_values.specs.Value.{Value, Items, no_items, item, Entries, no_entries, entry, FieldValues, no_field_values, field_value}
use Rattle.bson_laws.specs.Spell.{Writing}
use Rattle.bson_laws.proofs.Sizes.{ok_is}
use Rattle.bson_tree_laws.specs.TreeSpell.{tree_spell, tree_items, tree_entries, tree_fields, tree_key}
use Rattle.bson_writing.specs.Joined.{items_joined, entries_joined, fields_joined}
use Rattle.bson_ser_tree.specs.Steps.{trees_joined}

-- the index behind values
abbrev pub index_after : ℕ → Items → ℕ
index_after i no_items = i
index_after i (item v vs) = index_after (suc i) vs

as_it_is : (x : Writing Trees) → x ≡ result_map (trees_joined no_trees) x
as_it_is (Ok ts) = refl
as_it_is (Err f) = refl

behind_one : (t : Tree) (ts : Trees) (x : Writing Trees) → (result_map (trees_joined ts) x >>= λ us. Ok (tree t us)) ≡ result_map (trees_joined (tree t ts)) x
behind_one t ts (Ok us) = refl
behind_one t ts (Err f) = refl

pub items_on : (r : Bool) (vs ws : Items) (i n : ℕ) (ts : Trees) → tree_items r i vs n ≡ Ok ts → tree_items r i (items_joined vs ws) n ≡ result_map (trees_joined ts) (tree_items r (index_after i vs) ws n)
items_on r no_items ws i n ts e = as_it_is (tree_items r i ws n) ∙ ap (λ us. result_map (trees_joined us) (tree_items r i ws n)) (ok_is no_trees ts e)
items_on r (item v vs) ws i n ts e =
    let a = bind_ok (under_index i (tree_spell r false v n)) (λ t. tree_items r (suc i) vs n >>= λ us. Ok (tree t us)) ts e in
    let b = bind_ok (tree_items r (suc i) vs n) (λ us. Ok (tree a.0 us)) ts a.2 in
    let rest = tree_items r (index_after (suc i) vs) ws n in
    ap (λ x. x >>= λ t. tree_items r (suc i) (items_joined vs ws) n >>= λ us. Ok (tree t us)) a.1
    ∙ ap (λ x. x >>= λ us. Ok (tree a.0 us)) (items_on r vs ws (suc i) n b.0 b.1)
    ∙ behind_one a.0 b.0 rest
    ∙ ap (λ us. result_map (trees_joined us) rest) (ok_is (tree a.0 b.0) ts b.2)

pub fields_on : (r q : Bool) (fs gs : FieldValues) (ps qs : Pairs) (n : ℕ) → tree_fields r q fs ps n ≡ Ok qs → tree_fields r q (fields_joined fs gs) ps n ≡ tree_fields r q gs qs n
fields_on r q no_field_values gs ps qs n e = ap (λ x. tree_fields r q gs x n) (ok_is ps qs e)
fields_on r q (field_value name v fs) gs ps qs n e =
    let a = bind_ok (under name (tree_spell r q v n)) (λ t. tree_fields r q fs (put name t ps) n) qs e in
    ap (λ x. x >>= λ t. tree_fields r q (fields_joined fs gs) (put name t ps) n) a.1 ∙ fields_on r q fs gs (put name a.0 ps) qs n a.2

pub entries_on : (r : Bool) (es gs : Entries) (ps qs : Pairs) (n : ℕ) → tree_entries r es ps n ≡ Ok qs → tree_entries r (entries_joined es gs) ps n ≡ tree_entries r gs qs n
entries_on r no_entries gs ps qs n e = ap (λ x. tree_entries r gs x n) (ok_is ps qs e)
entries_on r (entry k v es) gs ps qs n e =
    let a = bind_ok (tree_spell r false k n >>= tree_key) (λ key. under key (tree_spell r false v n) >>= λ t. tree_entries r es (put key t ps) n) qs e in
    let b = bind_ok (under a.0 (tree_spell r false v n)) (λ t. tree_entries r es (put a.0 t ps) n) qs a.2 in
    ap (λ x. x >>= λ key. under key (tree_spell r false v n) >>= λ t. tree_entries r (entries_joined es gs) (put key t ps) n) a.1
    ∙ ap (λ x. x >>= λ t. tree_entries r (entries_joined es gs) (put a.0 t ps) n) b.1
    ∙ entries_on r es gs (put a.0 b.0 ps) qs n b.2
