-- Why a part was not written tells why the whole was not.
use Rattle.std.proofs.Common.{Bool, ◌≡◌, ℕ, suc, ◌+◌, ◌≤◌, length, Result, Ok, Err, refl, ap, sym, subst, ◌∙◌, arith}
use Rattle.std.specs.Prelude.{Some, IsOk, is_ok}
use Rattle.std.specs.Fmt.{decimal}
use Rattle.bson_kinds.specs.Text.{Bytes, Utf8}
use Rattle.bson_kinds.specs.Outcome.{◌>>=◌}
use Rattle.bson_base.specs.Sound.{IsSound}
use Rattle.bson_base.specs.Tree.{Tree, Pairs, pair, tree, elements, array_elements}
use Rattle.bson_values.specs.Value.{Value, Items, item, Entries, entry, FieldValues, field_value}
use Rattle.bson_values.specs.Refusal.{Refusal, WriteFault, under, under_index}
use Rattle.bson_io.specs.Output.{Output}
use Rattle.bson_laws.specs.Means.{means, key_text}
use Rattle.bson_laws.specs.Spell.{Writing, named, spell_as, spell_items_as, spell_key, spell_entries_as, spell_fields_as, spell_document, key_size, size, size_as, size_items_as, size_entries_as, size_fields_as}
use Rattle.bson_laws.proofs.Spelled.{spell_means}
use Rattle.bson_ser_stream.specs.Writing.{with_bytes, with_tree, with_element, with_entry, with_elements, with_array_elements}
use Rattle.bson_writing.specs.Halting.{Halts, Gives}
use Rattle.bson_ser_stream.specs.Halting.{Grows, EndHalts}
use Rattle.bson_ser_stream.proofs.Written.{length-with_elements, length-with_entries, length-with_array_elements}
use Rattle.bson_writing.specs.declared.halt.Halt.{Halt}
use Rattle.bson_values.specs.declared.stop.Stop.TheVariants.{Refused, NoMemory}
use Rattle.bson_writing.specs.declared.halt.Halt.TheVariants.{Stopped, TooLong}

pub gives_err : {X Y : Type 0} (size spare : ℕ) (view : X → Y) (result : Result X Halt) (h : Halt) (expected : Writing Y) → result ≡ Err h → Halts size spare expected h → Gives size spare view result expected
gives_err size spare view result h expected is halts = subst (λ r. Gives size spare view r expected) (sym is) halts

-- a document or an array that is not ended
pub unended : {A : Type 0} (h : Halt) (total spare start : ℕ) (mid : Output) (expected : Writing A) → length mid.bytes + 1 ≡ total + start → spare + start ≤ length mid.bytes + mid.spare → EndHalts mid start h → Halts total spare expected h
unended (Stopped NoMemory) total spare start mid expected long room e = λ _. omega (arith, e)
unended (Stopped (Refused r)) total spare start mid expected long room e = absurd e
unended TooLong total spare start mid expected long room e = omega (arith, e)

no_ok : {A : Type 0} (r : Writing A) (f : Refusal WriteFault) → r ≡ Err f → IsOk r → ⊥
no_ok (Ok x) f e h = absurd cc
no_ok (Err g) f e h = absurd cc

pub ok_value : {A : Type 0} (r : Writing A) → IsOk r → (x : A) × (r ≡ Ok x)
ok_value (Ok x) h = (x, refl)
ok_value (Err f) h = absurd cc

-- an element and those behind it
abbrev pub first_and : {A : Type 0} → (Tree → A → A) → Writing Tree → Writing A → Writing A
first_and join r s = r >>= λ t. s >>= λ xs. Ok (join t xs)

pub ok_first : {A : Type 0} (bytes : A → Bytes) (join : Tree → A → A) (r : Writing Tree) (s : Writing A) (old key new : Bytes) → with_bytes bytes old (first_and join r s) ≡ Ok new → IsOk (with_element old key r)
ok_first bytes join (Ok t) s old key new e = refl
ok_first bytes join (Err f) s old key new e = absurd cc

pub err_first : {A : Type 0} (bytes : A → Bytes) (join : Tree → A → A) (r : Writing Tree) (s : Writing A) (old key : Bytes) (f : Refusal WriteFault) → with_element old key r ≡ Err f → with_bytes bytes old (first_and join r s) ≡ Err f
err_first bytes join (Ok t) s old key f e = absurd cc
err_first bytes join (Err g) s old key f e = let same : g ≡ f = cc in ap Err same

pub ok_entry : (k : Writing Utf8) (r : Writing Tree) (s : Writing Pairs) (old new : Bytes) → with_elements old (k >>= λ key. first_and (pair key) (under key r) s) ≡ Ok new → IsOk (with_entry old k r)
ok_entry (Ok key) r s old new e = ok_first elements (pair key) (under key r) s old key new e
ok_entry (Err f) r s old new e = absurd cc

pub err_entry : (k : Writing Utf8) (r : Writing Tree) (s : Writing Pairs) (old : Bytes) (f : Refusal WriteFault) → with_entry old k r ≡ Err f → with_elements old (k >>= λ key. first_and (pair key) (under key r) s) ≡ Err f
err_entry (Ok key) r s old f e = err_first elements (pair key) (under key r) s old key f e
err_entry (Err g) r s old f e = let same : g ≡ f = cc in ap Err same

-- elements of which one is not written, behind others that were
rest_halts : (one expected : Writing Bytes) (h : Halt) (first left all before now : ℕ) (old mid : Output) → ((new : Bytes) → expected ≡ Ok new → IsOk one) → ((f : Refusal WriteFault) → one ≡ Err f → expected ≡ Err f)
    → ((new : Bytes) → expected ≡ Ok new → length new ≡ length old.bytes + all) → ((new : Bytes) → expected ≡ Ok new → length new ≡ length mid.bytes + left) → first ≤ left → left ≤ all → Grows old mid before now
    → Halts first mid.spare one h → Halts all old.spare expected h
rest_halts one expected TooLong first left all before now old mid ok err long longer within less grows halts = omega (arith, halts)
rest_halts one expected (Stopped (Refused x)) first left all before now old mid ok err long longer within less grows halts = err _ halts
rest_halts one expected (Stopped NoMemory) first left all before now old mid ok err long longer within less grows halts = λ done.
    let whole = ok_value expected done in
    omega (arith, halts (ok whole.0 whole.1), grows.room, long whole.0 whole.1, longer whole.0 whole.1)

-- the fields behind a field that is not written
pub field_halts : (readable : Bool) (h : Halt) (key : Utf8) (v : Value) (rest left all : FieldValues) (levels before now : ℕ) (old mid : Output) → left ≡ field_value key v rest
    → with_elements mid.bytes (spell_fields_as readable left levels) ≡ with_elements old.bytes (spell_fields_as readable all levels) → size_fields_as readable left ≤ size_fields_as readable all → Grows old mid before now → Halts (length key + 2 + size_as readable v) mid.spare (with_element mid.bytes key (named key (spell_as readable v levels))) h
    → Halts (size_fields_as readable all) old.spare (with_elements old.bytes (spell_fields_as readable all levels)) h
field_halts readable h key v rest left all levels before now old mid is same less grows halts =
    let one = named key (spell_as readable v levels) in
    let behind = spell_fields_as readable rest levels in
    let joined = ap (λ l. with_elements mid.bytes (spell_fields_as readable l levels)) (sym is) ∙ same in
    rest_halts (with_element mid.bytes key one) (with_elements old.bytes (spell_fields_as readable all levels)) h (length key + 2 + size_as readable v) (size_fields_as readable left) (size_fields_as readable all) before now old mid
    (λ new e. ok_first elements (pair key) one behind mid.bytes key new (joined ∙ e)) (λ f e. sym joined ∙ err_first elements (pair key) one behind mid.bytes key f e)
    (λ new e. length-with_elements readable old.bytes new all levels e) (λ new e. length-with_elements readable mid.bytes new left levels (same ∙ e)) (omega (arith, ap (size_fields_as readable) is)) less grows halts

-- the entries behind an entry that is not written
pub entry_halts : (readable : Bool) (h : Halt) (k v : Value) (rest left all : Entries) (levels before now : ℕ) (old mid : Output) → left ≡ entry k v rest
    → with_elements mid.bytes (spell_entries_as readable left levels) ≡ with_elements old.bytes (spell_entries_as readable all levels) → size_entries_as readable left ≤ size_entries_as readable all → Grows old mid before now → Halts (key_size (key_text k) + 2 + size_as readable v) mid.spare (with_entry mid.bytes (spell_key k) (spell_as readable v levels)) h
    → Halts (size_entries_as readable all) old.spare (with_elements old.bytes (spell_entries_as readable all levels)) h
entry_halts readable h k v rest left all levels before now old mid is same less grows halts =
    let one = spell_as readable v levels in
    let behind = spell_entries_as readable rest levels in
    let joined = ap (λ l. with_elements mid.bytes (spell_entries_as readable l levels)) (sym is) ∙ same in
    rest_halts (with_entry mid.bytes (spell_key k) one) (with_elements old.bytes (spell_entries_as readable all levels)) h (key_size (key_text k) + 2 + size_as readable v) (size_entries_as readable left) (size_entries_as readable all) before now old mid
    (λ new e. ok_entry (spell_key k) one behind mid.bytes new (joined ∙ e)) (λ f e. sym joined ∙ err_entry (spell_key k) one behind mid.bytes f e)
    (λ new e. length-with_entries readable old.bytes new all levels e) (λ new e. length-with_entries readable mid.bytes new left levels (same ∙ e)) (omega (arith, ap (size_entries_as readable) is)) less grows halts

-- the values behind a value of a sequence that is not written
pub item_halts : (readable : Bool) (h : Halt) (i : ℕ) (v : Value) (rest left all : Items) (levels before now : ℕ) (old mid : Output) → left ≡ item v rest
    → with_array_elements mid.bytes i (spell_items_as readable i left levels) ≡ with_array_elements old.bytes 0 (spell_items_as readable 0 all levels) → size_items_as readable i left ≤ size_items_as readable 0 all → Grows old mid before now → Halts (length (decimal i) + 2 + size_as readable v) mid.spare (with_element mid.bytes (decimal i) (under_index i (spell_as readable v levels))) h
    → Halts (size_items_as readable 0 all) old.spare (with_array_elements old.bytes 0 (spell_items_as readable 0 all levels)) h
item_halts readable h i v rest left all levels before now old mid is same less grows halts =
    let one = under_index i (spell_as readable v levels) in
    let behind = spell_items_as readable (suc i) rest levels in
    let joined = ap (λ l. with_array_elements mid.bytes i (spell_items_as readable i l levels)) (sym is) ∙ same in
    rest_halts (with_element mid.bytes (decimal i) one) (with_array_elements old.bytes 0 (spell_items_as readable 0 all levels)) h (length (decimal i) + 2 + size_as readable v) (size_items_as readable i left) (size_items_as readable 0 all) before now old mid
    (λ new e. ok_first (array_elements i) tree one behind mid.bytes (decimal i) new (joined ∙ e)) (λ f e. sym joined ∙ err_first (array_elements i) tree one behind mid.bytes (decimal i) f e)
    (λ new e. length-with_array_elements readable old.bytes new 0 all levels e) (λ new e. length-with_array_elements readable mid.bytes new i left levels (same ∙ e)) (omega (arith, ap (size_items_as readable i) is)) less grows halts

-- what means a sound document is written where its room is spare
pub sound_written : (h : Halt) (v : Value) (t : Tree) (old : Bytes) (spare : ℕ) → means v ≡ Some t → IsSound t → size v ≤ spare → Halts (size v) spare (with_tree old (spell_document v)) h → ⊥
sound_written TooLong v t old spare e s room halts = omega (arith, (spell_means v t e s).1, s.fits, halts)
sound_written (Stopped NoMemory) v t old spare e s room halts =
    let ok : IsOk (with_tree old (spell_document v)) = ap (λ r. is_ok (with_tree old r)) (spell_means v t e s).0 in
    omega (arith, halts ok)
sound_written (Stopped (Refused r)) v t old spare e s room halts =
    let ok : IsOk (with_tree old (spell_document v)) = ap (λ r. is_ok (with_tree old r)) (spell_means v t e s).0 in
    no_ok (with_tree old (spell_document v)) _ halts ok
