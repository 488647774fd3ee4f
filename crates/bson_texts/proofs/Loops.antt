-- The loops of the reader, by what is done with each element.
use Rattle.std.proofs.Common.{◌≡◌, ℕ, suc, List, [], ◌∷◌, ◌++◌, Ok, Err, refl, ap, sym, subst, ◌∙◌, append_assoc, append-nil}
use Rattle.bson_kinds.specs.Text.{Bytes}
use Rattle.bson_kinds.specs.Outcome.{◌>>=◌, result_map}
use Rattle.bson_rawdoc.specs.Node.{Node, too_deep, fault, Nodes, ended, faulty, then_node}
use Rattle.bson_kinds.specs.Piece.{Piece}
use Rattle.bson_faults.specs.declared.raw.Error.{Error}
use Rattle.bson_values.specs.Marked.{Marked, MarkedItems, MarkedEntries}
use Rattle.bson_datum.specs.MarkedView.{marked}
use Rattle.bson_values.specs.Refusal.{Segment, inside, under, under_index}
use Rattle.bson_values.specs.Value.{no_items, item}
use Rattle.bson_values.specs.declared.de.Fault.{Fault}
use Rattle.bson_values.specs.declared.stop.Stop.{Stop}
use Rattle.bson_datum.specs.declared.datum.Datum.{Datum}
use Rattle.bson_laws.specs.Containers.{reads_items, reads_entries}
use Rattle.bson_laws.specs.Judged.{Reading, judged, faultless, with_level, ignores, passes, pass_nodes}
use Rattle.bson_laws.specs.ReadsLeaf.{put_entry}
use Rattle.bson_laws.specs.Taken.{reads_bytes}
use Rattle.bson_met.proofs.Refusals.{StopsAs, stops_bind}
use Rattle.std.specs.Prelude.{Option, Some, None}
use Rattle.bson_texts.specs.Leaves.{byte_at}
use Rattle.bson_texts.specs.Passes.{pass_at}
use Rattle.bson_texts.specs.ListsMarked.{items_marked}
use Rattle.bson_texts.proofs.Each.{Action, each}

pub bind_same : {A B : Type 0} (r : Reading A) (f g : A → Reading B) → ((x : A) → f x ≡ g x) → (r >>= f) ≡ (r >>= g)
bind_same (Ok x) f g h = h x
bind_same (Err e) f g h = refl

bind_twice : {A B C : Type 0} (r : Reading A) (f : A → Reading B) (g : B → Reading C) → ((r >>= f) >>= g) ≡ (r >>= λ x. f x >>= g)
bind_twice (Ok x) f g = refl
bind_twice (Err e) f g = refl

-- ---- what is read from a judged value is read from the value

level_then : {A : Type 0} (n : Node) (read : Node → Reading A) → (with_level n >>= read) ≡ (with_level n >>= λ _. read n)
level_then (too_deep k) read = refl
level_then n read = refl

faultless_then : {A : Type 0} (o : Option Error) (n : Node) (read : Node → Reading A) → (faultless o n >>= read) ≡ (faultless o n >>= λ _. read n)
faultless_then None n read = level_then n read
faultless_then (Some e) n read = refl

pub judged_same : {A : Type 0} (n : Node) (read : Node → Reading A) → (judged n >>= read) ≡ (judged n >>= λ _. read n)
judged_same n read = faultless_then (fault n) n read

-- ---- items

abbrev pub add : MarkedItems → Marked → MarkedItems
add no_items v = item v no_items
add (item w is) v = item w (add is v)

abbrev join : MarkedItems → MarkedItems → MarkedItems
join no_items rest = rest
join (item v is) rest = item v (join is rest)

join_add : (is : MarkedItems) (v : Marked) (rest : MarkedItems) → join (add is v) rest ≡ join is (item v rest)
join_add no_items v rest = refl
join_add (item w is) v rest = ap (item w) (join_add is v rest)

join_none : (is : MarkedItems) → join is no_items ≡ is
join_none no_items = refl
join_none (item v is) = ap (item v) (join_none is)

abbrev pub items_by : (Node → Reading Marked) → Action MarkedItems
items_by read i k n is = under_index i (read n) >>= λ v. Ok (add is v)

one_item : (is : MarkedItems) (r : Reading Marked) (rest : Reading MarkedItems) (more : MarkedItems → Reading MarkedItems) → ((v : Marked) → more (add is v) ≡ result_map (join (add is v)) rest)
    → ((r >>= λ v. Ok (add is v)) >>= more) ≡ result_map (join is) (r >>= λ v. result_map (item v) rest)
one_item is (Err e) rest more h = refl
one_item is (Ok v) (Err e) more h = h v
one_item is (Ok v) (Ok x) more h = h v ∙ ap Ok (join_add is v x)

items_each_from : (read : Node → Reading Marked) (i : ℕ) (ns : Nodes) (is : MarkedItems) → each (items_by read) i ns is ≡ result_map (join is) (reads_items read i ns)
items_each_from read i ended is = ap Ok (sym (join_none is))
items_each_from read i (faulty e) is = refl
items_each_from read i (then_node k n ns) is =
    one_item is (under_index i (read n)) (reads_items read (suc i) ns) (each (items_by read) (suc i) ns) (λ v. items_each_from read (suc i) ns (add is v))

all_items : (r : Reading MarkedItems) → result_map (join no_items) r ≡ r
all_items (Ok x) = refl
all_items (Err e) = refl

pub items_each : (read : Node → Reading Marked) (ns : Nodes) → each (items_by read) 0 ns no_items ≡ reads_items read 0 ns
items_each read ns = items_each_from read 0 ns no_items ∙ all_items (reads_items read 0 ns)

pub items_push : (ds : List Datum) (d : Datum) → items_marked (ds ++ d ∷ []) ≡ add (items_marked ds) (marked d)
items_push [] d = refl
items_push (e ∷ ds) d = ap (item (marked e)) (items_push ds d)

-- an item that was read, and one that is refused
pub item_done : (read : Node → Reading Marked) (i : ℕ) (k : Piece) (n : Node) (is : MarkedItems) (v : Marked) → under_index i (read n) ≡ Ok v → items_by read i k n is ≡ Ok (add is v)
item_done read i k n is v h = ap (λ r. r >>= λ x. Ok (add is x)) h

pub item_stops : (read : Node → Reading Marked) (i : ℕ) (k : Piece) (n : Node) (is : MarkedItems) (t : Stop Fault) → StopsAs t (under_index i (read n)) → StopsAs t (items_by read i k n is)
item_stops read i k n is t h = stops_bind t (under_index i (read n)) (λ x. Ok (add is x)) h

-- ---- entries

abbrev pub entries_by : (Piece → Reading Marked) → (Node → Reading Marked) → Action MarkedEntries
entries_by read_key read i k n es = read_key k >>= λ key. under k.bytes (read n) >>= λ v. Ok (put_entry key v es)

pub entries_each : (read_key : Piece → Reading Marked) (read : Node → Reading Marked) (i : ℕ) (ns : Nodes) (es : MarkedEntries) → each (entries_by read_key read) i ns es ≡ reads_entries read_key read ns es
entries_each read_key read i ended es = refl
entries_each read_key read i (faulty e) es = refl
entries_each read_key read i (then_node k n ns) es =
    bind_twice (read_key k) (λ key. under k.bytes (read n) >>= λ v. Ok (put_entry key v es)) (each (entries_by read_key read) (suc i) ns)
    ∙ bind_same (read_key k) (λ key. (under k.bytes (read n) >>= λ v. Ok (put_entry key v es)) >>= each (entries_by read_key read) (suc i) ns) (λ key. under k.bytes (read n) >>= λ v. reads_entries read_key read ns (put_entry key v es))
    (λ key. bind_twice (under k.bytes (read n)) (λ v. Ok (put_entry key v es)) (each (entries_by read_key read) (suc i) ns)
    ∙ bind_same (under k.bytes (read n)) (λ v. each (entries_by read_key read) (suc i) ns (put_entry key v es)) (λ v. reads_entries read_key read ns (put_entry key v es)) (λ v. entries_each read_key read (suc i) ns (put_entry key v es)))

-- an entry that was read
pub entry_done : (read_key : Piece → Reading Marked) (read : Node → Reading Marked) (i : ℕ) (k : Piece) (n : Node) (es : MarkedEntries) (key v : Marked) → read_key k ≡ Ok key → under k.bytes (read n) ≡ Ok v → entries_by read_key read i k n es ≡ Ok (put_entry key v es)
entry_done read_key read i k n es key v named is = ap (λ r. r >>= λ key. under k.bytes (read n) >>= λ x. Ok (put_entry key x es)) named ∙ ap (λ r. r >>= λ x. Ok (put_entry key x es)) is

-- one whose key or whose value is refused
pub key_stops : (read_key : Piece → Reading Marked) (read : Node → Reading Marked) (i : ℕ) (k : Piece) (n : Node) (es : MarkedEntries) (t : Stop Fault) → StopsAs t (read_key k) → StopsAs t (entries_by read_key read i k n es)
key_stops read_key read i k n es t h = stops_bind t (read_key k) (λ key. under k.bytes (read n) >>= λ v. Ok (put_entry key v es)) h

pub entry_stops : (read_key : Piece → Reading Marked) (read : Node → Reading Marked) (i : ℕ) (k : Piece) (n : Node) (es : MarkedEntries) (key : Marked) (t : Stop Fault) → read_key k ≡ Ok key → StopsAs t (under k.bytes (read n)) → StopsAs t (entries_by read_key read i k n es)
entry_stops read_key read i k n es key t named h =
    let P : Reading Marked → Type 0 = λ r. StopsAs t (r >>= λ x. under k.bytes (read n) >>= λ v. Ok (put_entry x v es)) in
    subst P (sym named) (stops_bind t (under k.bytes (read n)) (λ v. Ok (put_entry key v es)) h)

-- ---- values that are dropped

pub ignored_at : (n : Node) → pass_at n ≡ ignores n
ignored_at n = judged_same n (passes)

abbrev pub pass_by : (ℕ → Piece → Segment) → Action (Unit {0})
pass_by place i k n u = inside (place i k) (pass_at n)

pub pass_each : (place : ℕ → Piece → Segment) (i : ℕ) (ns : Nodes) → each (pass_by place) i ns tt ≡ pass_nodes place i ns
pass_each place i ended = refl
pass_each place i (faulty e) = refl
pass_each place i (then_node k n ns) =
    bind_same (inside (place i k) (pass_at n)) (each (pass_by place) (suc i) ns) (λ _. pass_nodes place (suc i) ns) (λ _. pass_each place (suc i) ns)
    ∙ ap (λ r. inside (place i k) r >>= λ _. pass_nodes place (suc i) ns) (ignored_at n)

-- ---- bytes

abbrev pub bytes_by : Action Bytes
bytes_by i k n bs = under_index i (byte_at n) >>= λ b. Ok (bs ++ b ∷ [])

one_byte : (bs : Bytes) (r : Reading ℕ) (rest : Reading Bytes) (more : Bytes → Reading Bytes) → ((b : ℕ) → more (bs ++ b ∷ []) ≡ result_map (λ cs. (bs ++ b ∷ []) ++ cs) rest)
    → ((r >>= λ b. Ok (bs ++ b ∷ [])) >>= more) ≡ result_map (λ cs. bs ++ cs) (r >>= λ b. result_map (λ cs. b ∷ cs) rest)
one_byte bs (Err e) rest more h = refl
one_byte bs (Ok b) (Err e) more h = h b
one_byte bs (Ok b) (Ok x) more h = h b ∙ ap Ok (append_assoc bs (b ∷ []) x)

bytes_each_from : (i : ℕ) (ns : Nodes) (bs : Bytes) → each bytes_by i ns bs ≡ result_map (λ cs. bs ++ cs) (reads_bytes i ns)
bytes_each_from i ended bs = ap Ok (sym (append-nil bs))
bytes_each_from i (faulty e) bs = refl
bytes_each_from i (then_node k n ns) bs = one_byte bs (under_index i (byte_at n)) (reads_bytes (suc i) ns) (each bytes_by (suc i) ns) (λ b. bytes_each_from (suc i) ns (bs ++ b ∷ []))

all_bytes : (r : Reading Bytes) → result_map (λ cs. [] ++ cs) r ≡ r
all_bytes (Ok x) = refl
all_bytes (Err e) = refl

pub bytes_each : (ns : Nodes) → each bytes_by 0 ns [] ≡ reads_bytes 0 ns
bytes_each ns = bytes_each_from 0 ns [] ∙ all_bytes (reads_bytes 0 ns)
