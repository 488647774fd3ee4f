-- A JSON value, level by level, and the steps of the loops over items and members.
use Rattle.std.proofs.Common.{◌≡◌, ℕ, suc, ◌+◌, ◌<◌, ◌≤◌, Bool, List, [], ◌∷◌, ◌++◌, length, drop, get_or, Result, Ok, Err, refl, ap, sym, subst, ◌∙◌, rules, Vec, add-one}
use Rattle.std.proofs.Math.Seq.{drop-cons}
use Rattle.std.proofs.lemmas.List.{drop_all}
use Rattle.std.specs.Global.{Global}
use Rattle.std.specs.Borrow.{Bor}
use Rattle.json.specs.Json as json
use Rattle.json.specs.Json.{Json, Items, item, Members, member, object}
use Rattle.json.specs.Value.{value_view, items_view, members_view}
use Rattle.json.specs.declared.value.Value.{Value, the_lemmas}
use Rattle.json.specs.declared.value.Value as v
use Rattle.bson_kinds.specs.Outcome.{◌>>=◌, result_map}
use Rattle.bson_base.specs.BsonView.{tree_of, trees_of}
use Rattle.bson_base.specs.declared.bson.Bson.{Bson}
use Rattle.bson_base.specs.Pairs.{put}
use Rattle.bson_base.specs.Tree.{Tree, array, Trees, no_trees, tree, Pairs}
use Rattle.bson_values.specs.Refusal.{under, under_index}
use Rattle.bson_values.specs.Stop.{stop_view}
use Rattle.bson_values.specs.declared.stop.Stop.{Stop}
use Rattle.bson_json_laws.specs.FailureView.{unread}
use Rattle.bson_json_laws.specs.Gives.{RefusesAs, Reaches}
use Rattle.bson_json_laws.specs.Read.{read, read_items, read_members, without_key}
use Rattle.bson_json_laws.specs.Unread.{Reading}
use Rattle.bson_json_laws.specs.declared.json_fault.JsonFault.{JsonFault}
use Rattle.bson_json_laws.proofs.Refusals.{refuses_bind, refuses_map}

pub view_null : value_view {A = Global} v.Null ≡ json.null
view_null = search (rules, the_lemmas)

pub view_bool : (b : Bool) → value_view {A = Global} (v.Bool b) ≡ json.boolean b
view_bool b = search (rules, the_lemmas)

pub view_number : (s : Bor (List ℕ)) → value_view {A = Global} (v.Number s) ≡ json.number s.now
view_number s = search (rules, the_lemmas)

pub view_string : (s : Bor (List ℕ)) → value_view {A = Global} (v.String s) ≡ json.string s.now
view_string s = search (rules, the_lemmas)

pub view_array : (xs : Vec (Value Global) Global) → value_view {A = Global} (v.Array xs) ≡ json.array (items_view xs.items)
view_array xs = search (rules, the_lemmas)

pub view_object : (ms : Vec (Bor (List ℕ) × Value Global) Global) → value_view {A = Global} (v.Object ms) ≡ object (members_view ms.items)
view_object ms = search (rules, the_lemmas)

-- ---- items

abbrev pub behind : Trees → Trees → Trees
behind no_trees us = us
behind (tree t ts) us = tree t (behind ts us)

behind_more : (xs : List Bson) (x : Bson) (us : Trees) → behind (trees_of (xs ++ x ∷ [])) us ≡ behind (trees_of xs) (tree (tree_of x) us)
behind_more [] x us = refl
behind_more (y ∷ xs) x us = ap (tree (tree_of y)) (behind_more xs x us)

more : (xs : List Bson) (x : Bson) (r : Reading Trees) → result_map (behind (trees_of xs)) (result_map (tree (tree_of x)) r) ≡ result_map (behind (trees_of (xs ++ x ∷ []))) r
more xs x (Err e) = refl
more xs x (Ok us) = ap Ok (sym (behind_more xs x us))

-- what the values that are done, so many, make of those that are left
abbrev pub items_from : List Bson → ℕ → List (Value Global) → Reading Trees
items_from done i left = result_map (behind (trees_of done)) (read_items i (items_view left))

item_cut : (all : List (Value Global)) (i : ℕ) (x : Value Global) → i < length all → x ≡ get_or all i x → drop i all ≡ x ∷ drop (suc i) all
item_cut all i x within at = rw (drop-cons all i x) (ap (λ y. y ∷ drop (suc i) all) (sym at))

pub one_item : (done : List Bson) (all : List (Value Global)) (i : ℕ) (x : Value Global) (b : Bson) → i < length all → x ≡ get_or all i x → under_index i (read (value_view x)) ≡ Ok (tree_of b)
    → items_from done i (drop i all) ≡ items_from (done ++ b ∷ []) (i + 1) (drop (i + 1) all)
one_item done all i x b within at is =
    rw add-one
    (ap (items_from done i) (item_cut all i x within at)
    ∙ ap (λ (r : Reading Tree). result_map (behind (trees_of done)) (r >>= λ t. result_map (tree t) (read_items (suc i) (items_view (drop (suc i) all))))) is
    ∙ more done b (read_items (suc i) (items_view (drop (suc i) all))))

pub bad_item : (done : List Bson) (all : List (Value Global)) (i : ℕ) (x : Value Global) (s : Stop JsonFault) → i < length all → x ≡ get_or all i x → RefusesAs (stop_view unread s) (under_index i (read (value_view x)))
    → RefusesAs (stop_view unread s) (items_from done i (drop i all))
bad_item done all i x s within at h =
    let next = λ (t : Tree). result_map (tree t) (read_items (suc i) (items_view (drop (suc i) all))) in
    subst (λ l. RefusesAs (stop_view unread s) (items_from done i l)) (sym (item_cut all i x within at))
    (refuses_map (stop_view unread s) (behind (trees_of done)) (under_index i (read (value_view x)) >>= next) (refuses_bind (stop_view unread s) (under_index i (read (value_view x))) next h))

behind_nil : (ts : Trees) → behind ts no_trees ≡ ts
behind_nil no_trees = refl
behind_nil (tree t ts) = ap (tree t) (behind_nil ts)

pub items_end : (done : List Bson) (all : List (Value Global)) (i : ℕ) → length all ≤ i → items_from done i (drop i all) ≡ Ok (trees_of done)
items_end done all i past = ap (items_from done i) (drop_all i all past) ∙ ap Ok (behind_nil (trees_of done))

-- ---- members

abbrev pub Member : Type 0
Member = Bor (List ℕ) × Value Global

abbrev pub members_from : List Member → Pairs → Reading Pairs
members_from left done = read_members (members_view left) done

member_cut : (all : List Member) (i : ℕ) (m : Member) → i < length all → m ≡ get_or all i m → drop i all ≡ m ∷ drop (suc i) all
member_cut all i m within at = rw (drop-cons all i m) (ap (λ y. y ∷ drop (suc i) all) (sym at))

-- what follows once the key is new, and once the value is read
abbrev after_value : List Member → ℕ → Member → Pairs → Tree → Reading Pairs
after_value all i m done t = members_from (drop (suc i) all) (put m.0.now t done)

abbrev after_key : List Member → ℕ → Member → Pairs → Reading Pairs
after_key all i m done = under m.0.now (read (value_view m.1)) >>= after_value all i m done

pub one_member : (all : List Member) (i : ℕ) (m : Member) (t : Tree) (done : Pairs) → i < length all → m ≡ get_or all i m → without_key m.0.now done ≡ Ok done → under m.0.now (read (value_view m.1)) ≡ Ok t
    → members_from (drop i all) done ≡ members_from (drop (i + 1) all) (put m.0.now t done)
one_member all i m t done within at new is =
    rw add-one
    (ap (λ l. members_from l done) (member_cut all i m within at) ∙ ap (λ (r : Reading Pairs). r >>= after_key all i m) new ∙ ap (λ (r : Reading Tree). r >>= after_value all i m done) is)

pub old_key : (all : List Member) (i : ℕ) (m : Member) (done : Pairs) (s : Stop JsonFault) → i < length all → m ≡ get_or all i m → RefusesAs (stop_view unread s) (without_key m.0.now done)
    → RefusesAs (stop_view unread s) (members_from (drop i all) done)
old_key all i m done s within at h =
    subst (λ l. RefusesAs (stop_view unread s) (members_from l done)) (sym (member_cut all i m within at)) (refuses_bind (stop_view unread s) (without_key m.0.now done) (after_key all i m) h)

pub bad_member : (all : List Member) (i : ℕ) (m : Member) (done : Pairs) (s : Stop JsonFault) → i < length all → m ≡ get_or all i m → without_key m.0.now done ≡ Ok done
    → RefusesAs (stop_view unread s) (under m.0.now (read (value_view m.1))) → RefusesAs (stop_view unread s) (members_from (drop i all) done)
bad_member all i m done s within at new h =
    subst (λ l. RefusesAs (stop_view unread s) (members_from l done)) (sym (member_cut all i m within at))
    (subst (λ (r : Reading Pairs). RefusesAs (stop_view unread s) (r >>= after_key all i m)) (sym new) (refuses_bind (stop_view unread s) (under m.0.now (read (value_view m.1))) (after_value all i m done) h))

-- ---- arrays and objects, once what they hold is read

pub array_read : (w : Value Global) (xs : List (Value Global)) (ts : Trees) → value_view w ≡ json.array (items_view xs) → read_items 0 (items_view xs) ≡ Ok ts → read (value_view w) ≡ Ok (array ts)
array_read w xs ts seen is = ap read seen ∙ ap (result_map array) is

pub array_refused : (w : Value Global) (xs : List (Value Global)) (s : Stop JsonFault) → value_view w ≡ json.array (items_view xs) → RefusesAs (stop_view unread s) (read_items 0 (items_view xs))
    → RefusesAs (stop_view unread s) (read (value_view w))
array_refused w xs s seen h = subst (RefusesAs (stop_view unread s)) (sym (ap read seen)) (refuses_map (stop_view unread s) array (read_items 0 (items_view xs)) h)

pub object_read : (r : Result Bson (Stop JsonFault)) (w : Value Global) (ms : List Member) → value_view w ≡ object (members_view ms)
    → Reaches tree_of unread r (read (object (members_view ms))) → Reaches tree_of unread r (read (value_view w))
object_read r w ms seen h = subst (λ (o : Reading Tree). Reaches tree_of unread r o) (sym (ap read seen)) h
