-- One step of a loop over the entries of a map.
use Rattle.std.proofs.Common.{◌≡◌, List, [], ◌∷◌, ◌++◌, refl, ap, ◌∙◌, sym, Result, Ok, Err, string_bytes}
use Rattle.std.specs.Ordering.{match_ordering}
use Rattle.std.specs.declared.cmp.Ordering.{Ordering}
use Rattle.std.specs.declared.cmp.Ordering.TheVariants.{Less, Equal, Greater}
use Rattle.std.specs.String.{string_cmp}
use Rattle.std.specs.BTreeMap.{insert_entry}
use Rattle.bson_kinds.specs.Outcome.{◌>>=◌, result_map}
use Rattle.bson_kinds.specs.Text.{Utf8}
use Rattle.bson_values.specs.Value.{Value, str, map, Entries, no_entries, entry}
use Rattle.bson_datum.specs.View.{view, entries_view}
use Rattle.bson_datum.specs.declared.datum.Entry.{Entry}
use Rattle.bson_type_data.specs.Answers.{Reading, Writing}
use Rattle.bson_type_data.proofs.Joined.{joined_entries, joined_entry, no_entry}
use Rattle.bson_traits.specs.Maps.{Key, written_entries, written_map, pair_contents, map_contents, key_text, inserted, taken_entries}

match_push : {X Y : Type 0} (f : X → Y) (o : Ordering) (a b z : X) → f (match_ordering o a b z) ≡ match_ordering o (f a) (f b) (f z)
match_push f Less a b z = refl
match_push f Equal a b z = refl
match_push f Greater a b z = refl

insert_is : {A C : Type 0} (c : A → C) (es : List (Key × A)) (k : Key) (x : A) → map_contents c (insert_entry string_cmp es k x) ≡ inserted (map_contents c es) (string_bytes k) (c x)
insert_is c [] k x = refl
insert_is c (e ∷ es) k x =
    match_push (map_contents c) (string_cmp k e.0) _ _ _
    ∙ ap (λ z. match_ordering (string_cmp k e.0) (map_contents c ((k, x) ∷ e ∷ es)) (map_contents c ((e.0, x) ∷ es)) (pair_contents c e ∷ z)) (insert_is c es k x)

-- one more entry is put in
pub put_more : {A C : Type 0} (c : A → C) (t : Value → Reading C) (done new : List (Key × A)) (k : Key) (x : A) (e : Entry) (es rest : List Entry) (all : Reading (List (Utf8 × C))) → es ≡ e ∷ rest → t (view e.value) ≡ Ok (c x)
    → string_bytes k ≡ key_text (view e.key) → new ≡ insert_entry string_cmp done k x → taken_entries t (map_contents c done) (entries_view es) ≡ all → taken_entries t (map_contents c new) (entries_view rest) ≡ all
put_more c t done new k x e es rest all is taken key grown so_far =
    let here : map_contents c new ≡ inserted (map_contents c done) (key_text (view e.key)) (c x) = ap (map_contents c) grown ∙ insert_is c done k x ∙ ap (λ b. inserted (map_contents c done) b (c x)) key in
    let left : taken_entries t (map_contents c done) (entries_view es) ≡ taken_entries t (inserted (map_contents c done) (key_text (view e.key)) (c x)) (entries_view rest) =
    ap (λ z. taken_entries t (map_contents c done) (entries_view z)) is ∙ ap (λ r. r >>= λ y. taken_entries t (inserted (map_contents c done) (key_text (view e.key)) y) (entries_view rest)) taken in
    ap (λ z. taken_entries t z (entries_view rest)) here ∙ sym left ∙ so_far

map_entry : {E : Type 0} (ds : List Entry) (d : Entry) (r : Result Entries E) → result_map (joined_entries (entries_view (ds ++ d ∷ []))) r ≡ result_map (joined_entries (entries_view ds)) (result_map (entry (view d.key) (view d.value)) r)
map_entry ds d (Ok vs) = ap Ok (joined_entry ds d vs)
map_entry ds d (Err e) = refl

-- one more entry is written
pub write_pair_more : {A : Type 0} (w : A → Writing Value) (es rest : List (Key × A)) (p : Key × A) (ds new : List Entry) (d : Entry) (all : Writing Entries) → es ≡ p ∷ rest → w p.1 ≡ Ok (view d.value) → str (string_bytes p.0) ≡ view d.key
    → new ≡ ds ++ d ∷ [] → result_map (joined_entries (entries_view ds)) (written_entries w es) ≡ all → result_map (joined_entries (entries_view new)) (written_entries w rest) ≡ all
write_pair_more w es rest p ds new d all is e key grown so_far =
    let left : written_entries w es ≡ result_map (entry (view d.key) (view d.value)) (written_entries w rest) =
    ap (written_entries w) is ∙ ap (λ r. r >>= λ v. result_map (entry (str (string_bytes p.0)) v) (written_entries w rest)) e ∙ ap (λ k. result_map (entry k (view d.value)) (written_entries w rest)) key in
    ap (λ z. result_map (joined_entries (entries_view z)) (written_entries w rest)) grown ∙ map_entry ds d _ ∙ ap (result_map (joined_entries (entries_view ds))) (sym left) ∙ so_far

-- all are written
pub write_pairs_end : {A : Type 0} (w : A → Writing Value) (es left : List (Key × A)) (ds : List Entry) → left ≡ [] → result_map (joined_entries (entries_view ds)) (written_entries w left) ≡ written_entries w es
    → written_map w es ≡ Ok (map (entries_view ds))
write_pairs_end w es left ds h so_far =
    ap (result_map map) (sym so_far ∙ ap (λ z. result_map (joined_entries (entries_view ds)) (written_entries w z)) h) ∙ ap (λ vs. Ok (map vs)) (no_entry (entries_view ds))
