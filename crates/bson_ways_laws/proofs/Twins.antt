-- Shapes of structs, sequences, integers, booleans and strings: what is read from bytes without a fault in them is read from their document too, and the other way round.
use Rattle.std.proofs.Common.{◌≡◌, ℕ, suc, [], ◌∷◌, Bool, true, false, cond, Option, Some, None, Ok, Err, refl, ap, sym, subst, ◌∙◌}
use Rattle.std.specs.Str.{bytes_eq, is_utf8}
use Rattle.std.proofs.lemmas.Slice.Eq.{bytes_eq-Decides}
use Rattle.bson_kinds.specs.Outcome.{◌>>=◌, result_map}
use Rattle.bson_kinds.specs.Text.{Utf8}
use Rattle.bson_rawdoc.specs.Node.{Node, double, string, document, array, bytes, boolean, null, int32, int64, extended, broken, too_deep, Extended, javascript_code_with_scope, Nodes, ended, faulty, then_node, extended_fault}
use Rattle.bson_kinds.specs.Piece.{Piece, made}
use Rattle.bson_faults.specs.declared.raw.Error.TheVariants.{NotUtf8}
use Rattle.bson_shape.specs.Form.{UnknownFields, dropped, denied, Form, leaf, sequence, structure, reference, definitions, Fields, no_fields, field}
use Rattle.bson_values.specs.Value as value
use Rattle.bson_values.specs.Marked.{Marked, MarkedItems, MarkedFields, contents, item_contents, field_contents}
use Rattle.bson_values.specs.Cause.{not_utf8, unknown_reference}
use Rattle.bson_values.specs.Refusal.{Segment, at_key, at_index, inside, under, under_index}
use Rattle.bson_laws.specs.Leaves.{LeafKind, booleans, numbers, texts, leaf_kind}
use Rattle.bson_laws.specs.Judged.{Reading, refused, scope_key, faultless, judged, at_its_key, at_its_index, passes, pass_scope, pass_nodes, ignores}
use Rattle.bson_laws.specs.Taken.{boolean_of, integer_of, array_of, owned_under_mark, text_of, as_text, read_integer}
use Rattle.bson_laws.specs.ReadsLeaf.{borrows}
use Rattle.bson_laws.specs.Containers.{reads_items}
use Rattle.bson_laws.specs.Slots.{Slot, Slots, fill_slot, unknown, put_at, fill, value_or, finish, reads_places, by_place, read_structure}
use Rattle.bson_laws.specs.ReadsFrom.{read_leaf, reads_from, slots_of}
use Rattle.bson_laws.specs.declared.origin.Origin.TheVariants as origins
use Rattle.bson_ways_laws.proofs.Likes.{SameBytes, Like, NodesLike, ItemsLike, owned_like}
use Rattle.bson_ways_laws.specs.Simple.{IsSimpleLeaf, IsSimple, AreSimple}
use Rattle.bson_ways_laws.specs.Ways.{IsCommon}
use Rattle.bson_ways_laws.proofs.BothWays.{Any, Equal}

-- ---- answers

-- both give an answer, and the two are so, or neither does
abbrev pub Twin : {A B : Type 0} → (A → B → Type 0) → Reading A → Reading B → Type 0
Twin R (Ok a) (Ok b) = R a b
Twin R (Err f) (Err g) = Unit {0}
Twin R q r = ⊥

twin_bind : {A B C D : Type 0} (R : A → B → Type 0) (Q : C → D → Type 0) (q : Reading A) (r : Reading B) (f : A → Reading C) (g : B → Reading D) → Twin R q r → ((a : A) (b : B) → R a b → Twin Q (f a) (g b)) → Twin Q (q >>= f) (r >>= g)
twin_bind R Q (Ok a) (Ok b) f g h next = next a b h
twin_bind R Q (Err e) (Err d) f g h next = tt
twin_bind R Q q r f g h next = absurd h

twin_map : {A B C D : Type 0} (R : A → B → Type 0) (Q : C → D → Type 0) (q : Reading A) (r : Reading B) (f : A → C) (g : B → D) → Twin R q r → ((a : A) (b : B) → R a b → Q (f a) (g b)) → Twin Q (result_map f q) (result_map g r)
twin_map R Q (Ok a) (Ok b) f g h next = next a b h
twin_map R Q (Err e) (Err d) f g h next = tt
twin_map R Q q r f g h next = absurd h

twin_inside : {A B : Type 0} (R : A → B → Type 0) (s t : Segment) (q : Reading A) (r : Reading B) → Twin R q r → Twin R (inside s q) (inside t r)
twin_inside R s t (Ok a) (Ok b) h = h
twin_inside R s t (Err e) (Err d) h = tt
twin_inside R s t q r h = absurd h

twin_ok : {A B : Type 0} (R : A → B → Type 0) (q : Reading A) (r : Reading B) (a : A) (b : B) → q ≡ Ok a → r ≡ Ok b → R a b → Twin R q r
twin_ok R q r a b e f h = subst (λ x. Twin R x r) (sym e) (subst (λ x. Twin R (Ok a) x) (sym f) h)

twin_self : {A : Type 0} (q : Reading A) → Twin Equal q q
twin_self (Ok a) = refl
twin_self (Err e) = tt

abbrev pub SameContents : Marked → Marked → Type 0
SameContents v w = contents v ≡ contents w

twin_same : (q r : Reading Marked) → q ≡ r → Twin SameContents q r
twin_same q r e = subst (Twin SameContents q) e (self q) where
  self : (x : Reading Marked) → Twin SameContents x x
  self (Ok a) = refl
  self (Err e) = tt

-- ---- values without a fault

abbrev mutual
  pub IsQuiet : Node → Type 0
  IsQuiet (string p) = is_utf8 p.bytes ≡ true
  IsQuiet (document z ns) = AreQuiet ns
  IsQuiet (array z ns) = AreQuiet ns
  IsQuiet (extended x ns) = (extended_fault x ≡ None) × ScopeQuiet x × AreQuiet ns
  IsQuiet (broken k e) = ⊥
  IsQuiet (too_deep k) = ⊥
  IsQuiet n = Unit {0}

  pub ScopeQuiet : Extended → Type 0
  ScopeQuiet (javascript_code_with_scope p n) = IsQuiet n
  ScopeQuiet x = Unit {0}

  pub AreQuiet : Nodes → Type 0
  AreQuiet ended = Unit {0}
  AreQuiet (faulty e) = ⊥
  AreQuiet (then_node k n ns) = IsQuiet n × AreQuiet ns

judged_quiet : (n : Node) → IsQuiet n → judged n ≡ Ok n
judged_quiet (string p) q = ap (λ c. faultless (cond c None (Some NotUtf8)) (string p)) q
judged_quiet (extended x ns) q = ap (λ o. faultless o (extended x ns)) q.0
judged_quiet (broken k e) q = absurd q
judged_quiet (too_deep k) q = absurd q
judged_quiet n q = refl

mutual
  passes_quiet : (n : Node) → IsQuiet n → passes n ≡ Ok tt
  passes_quiet (document z ns) q = nodes_quiet at_its_key 0 ns q
  passes_quiet (array z ns) q = nodes_quiet at_its_index 0 ns q
  passes_quiet (extended x ns) q = scope_quiet x q.1
  passes_quiet (broken k e) q = absurd q
  passes_quiet (too_deep k) q = absurd q
  passes_quiet n q = refl

  scope_quiet : (x : Extended) → ScopeQuiet x → pass_scope x ≡ Ok tt
  scope_quiet (javascript_code_with_scope p n) q = ap (λ r. under scope_key (r >>= λ _. passes n)) (judged_quiet n q) ∙ ap (under scope_key) (passes_quiet n q)
  scope_quiet x q = refl

  nodes_quiet : (place : ℕ → Piece → Segment) (i : ℕ) (ns : Nodes) → AreQuiet ns → pass_nodes place i ns ≡ Ok tt
  nodes_quiet place i ended q = refl
  nodes_quiet place i (faulty e) q = absurd q
  nodes_quiet place i (then_node k n ns) q =
      ap (λ r. inside (place i k) (r >>= λ _. passes n) >>= λ _. pass_nodes place (suc i) ns) (judged_quiet n q.0)
      ∙ ap (λ r. inside (place i k) r >>= λ _. pass_nodes place (suc i) ns) (passes_quiet n q.0)
      ∙ nodes_quiet place (suc i) ns q.1

ignores_quiet : (n : Node) → IsQuiet n → ignores n ≡ Ok tt
ignores_quiet n q = ap (λ r. r >>= λ _. passes n) (judged_quiet n q) ∙ passes_quiet n q

twin_judged : {A B : Type 0} (R : A → B → Type 0) (n m : Node) (f : Node → Reading A) (g : Node → Reading B) → IsQuiet n → IsQuiet m → Twin R (f n) (g m) → Twin R (judged n >>= f) (judged m >>= g)
twin_judged R n m f g q p h = subst (λ x. Twin R (x >>= f) (judged m >>= g)) (sym (judged_quiet n q)) (subst (λ x. Twin R (f n) (x >>= g)) (sym (judged_quiet m p)) h)

-- ---- leaves

boolean_twin : (n m : Node) → Like n m → Twin Equal (boolean_of n) (boolean_of m)
boolean_twin (boolean a) (boolean b) h = h
boolean_twin (double a) (double b) h = tt
boolean_twin (string a) (string b) h = tt
boolean_twin (document z a) (document r b) h = tt
boolean_twin (array z a) (array r b) h = tt
boolean_twin (bytes z a) (bytes r b) h = tt
boolean_twin null null h = tt
boolean_twin (int32 a) (int32 b) h = tt
boolean_twin (int64 a) (int64 b) h = tt
boolean_twin (extended x a) (extended y b) h = tt
boolean_twin (too_deep k) (too_deep l) h = tt
boolean_twin n m h = absurd h

integer_twin : (n m : Node) → Like n m → Twin Equal (integer_of n) (integer_of m)
integer_twin (int32 a) (int32 b) h = h
integer_twin (int64 a) (int64 b) h = h
integer_twin (boolean a) (boolean b) h = tt
integer_twin (double a) (double b) h = tt
integer_twin (string a) (string b) h = tt
integer_twin (document z a) (document r b) h = tt
integer_twin (array z a) (array r b) h = tt
integer_twin (bytes z a) (bytes r b) h = tt
integer_twin null null h = tt
integer_twin (extended x a) (extended y b) h = tt
integer_twin (too_deep k) (too_deep l) h = tt
integer_twin n m h = absurd h

text_whole : (p q : Piece) (c : Bool) → SameBytes p q → Twin SameBytes (cond c (Ok (made p.bytes)) (refused not_utf8)) (cond c (Ok (made q.bytes)) (refused not_utf8))
text_whole p q true h = h
text_whole p q false h = tt

text_twin : (n m : Node) → Like n m → Twin SameBytes (text_of false n) (text_of false m)
text_twin (string p) (string q) h = h.0
text_twin (bytes z p) (bytes r q) h =
    let x = owned_under_mark z p in
    let y = owned_under_mark r q in
    let same : SameBytes x y = owned_like z r p q h in
    subst (λ (c : Bool). Twin SameBytes (as_text (made x.bytes)) (cond c (Ok (made y.bytes)) (refused not_utf8))) (ap is_utf8 same) (text_whole x y (is_utf8 x.bytes) same)
text_twin (boolean a) (boolean b) h = tt
text_twin (double a) (double b) h = tt
text_twin (document z a) (document r b) h = tt
text_twin (array z a) (array r b) h = tt
text_twin null null h = tt
text_twin (int32 a) (int32 b) h = tt
text_twin (int64 a) (int64 b) h = tt
text_twin (extended x a) (extended y b) h = tt
text_twin (too_deep k) (too_deep l) h = tt
text_twin n m h = absurd h

leaf_twin : (k : LeafKind) → IsSimpleLeaf k → (n m : Node) → Like n m → Twin SameContents (read_leaf origins.Bytes false k n) (read_leaf origins.Tree false k m)
leaf_twin booleans c n m h = twin_map Equal SameContents (boolean_of n) (boolean_of m) value.boolean value.boolean (boolean_twin n m h) (λ a b q. ap value.boolean q)
leaf_twin (numbers type) c n m h = twin_bind Equal SameContents (integer_of n) (integer_of m) (read_integer type) (read_integer type) (integer_twin n m h) (λ a b q. twin_same (read_integer type a) (read_integer type b) (ap (read_integer type) q))
leaf_twin texts c n m h = twin_map SameBytes SameContents (text_of false n) (text_of false m) value.str value.str (text_twin n m h) (λ a b q. ap value.str q)
leaf_twin k c n m h = absurd c

-- ---- arrays

abbrev EachTwin : (Node → Reading Marked) → (Node → Reading Marked) → Type 0
EachTwin f g = (n m : Node) → Like n m → IsQuiet n → IsQuiet m → Twin SameContents (f n) (g m)

abbrev ItemsTwin : Nodes → Nodes → Type 0
ItemsTwin ns ms = ItemsLike ns ms × AreQuiet ns × AreQuiet ms

abbrev NodesTwin : Nodes → Nodes → Type 0
NodesTwin ns ms = NodesLike ns ms × AreQuiet ns × AreQuiet ms

array_twin : (n m : Node) → Like n m → IsQuiet n → IsQuiet m → Twin ItemsTwin (array_of n) (array_of m)
array_twin (array z a) (array r b) h q p = (h, q, p)
array_twin (boolean a) (boolean b) h q p = tt
array_twin (double a) (double b) h q p = tt
array_twin (string a) (string b) h q p = tt
array_twin (document z a) (document r b) h q p = tt
array_twin (bytes z a) (bytes r b) h q p = tt
array_twin null null h q p = tt
array_twin (int32 a) (int32 b) h q p = tt
array_twin (int64 a) (int64 b) h q p = tt
array_twin (extended x a) (extended y b) h q p = tt
array_twin (too_deep k) (too_deep l) h q p = tt
array_twin n m h q p = absurd h

abbrev SameItems : MarkedItems → MarkedItems → Type 0
SameItems vs ws = item_contents vs ≡ item_contents ws

abbrev SameFields : MarkedFields → MarkedFields → Type 0
SameFields vs ws = field_contents vs ≡ field_contents ws

items_twin : (f g : Node → Reading Marked) → EachTwin f g → (i : ℕ) (ns ms : Nodes) → ItemsLike ns ms → AreQuiet ns → AreQuiet ms → Twin SameItems (reads_items f i ns) (reads_items g i ms)
items_twin f g each i ended ended h q p = refl
items_twin f g each i (then_node k n ns) (then_node l m ms) h q p =
    twin_bind SameContents SameItems (under_index i (f n)) (under_index i (g m)) (λ v. result_map (value.item v) (reads_items f (suc i) ns)) (λ v. result_map (value.item v) (reads_items g (suc i) ms))
    (twin_inside SameContents (at_index i) (at_index i) (f n) (g m) (each n m h.0 q.0 p.0))
    (λ a b s. twin_map SameItems SameItems (reads_items f (suc i) ns) (reads_items g (suc i) ms) (value.item a) (value.item b) (items_twin f g each (suc i) ns ms h.1 q.1 p.1) (λ c d o j. value.item (s j) (o j)))
items_twin f g each i ns ms h q p = absurd h

-- ---- structs

abbrev OptionsTwin : Option Marked → Option Marked → Type 0
OptionsTwin None None = Unit {0}
OptionsTwin (Some v) (Some w) = SameContents v w
OptionsTwin o p = ⊥

record SlotTwin (x y : Slot) : Type 0 where
  pub common : IsCommon x.name
  pub name : x.name ≡ y.name
  pub missing : x.missing ≡ y.missing
  pub each : EachTwin x.read y.read
  pub value : OptionsTwin x.value y.value

abbrev SlotsTwin : Slots → Slots → Type 0
SlotsTwin [] [] = Unit {0}
SlotsTwin (x ∷ xs) (y ∷ ys) = SlotTwin x y × SlotsTwin xs ys
SlotsTwin xs ys = ⊥

slot_twin : (key : Utf8) (n m : Node) (x y : Slot) (o r : Option Marked) → SlotTwin x y → OptionsTwin o r → Like n m → IsQuiet n → IsQuiet m → Twin SlotTwin (fill_slot key n x o) (fill_slot key m y r)
slot_twin key n m x y None None h is like q p =
    twin_bind SameContents SlotTwin (under key (x.read n)) (under key (y.read m)) (λ v. Ok (record x { value = Some v })) (λ v. Ok (record y { value = Some v }))
    (twin_inside SameContents (at_key key) (at_key key) (x.read n) (y.read m) (h.each n m like q p))
    (λ a b s. record { common = h.common; name = h.name; missing = h.missing; each = h.each; value = s })
slot_twin key n m x y (Some v) (Some w) h is like q p = tt
slot_twin key n m x y o r h is like q p = absurd is

twin_cond : {A B : Type 0} (R : A → B → Type 0) (c : Bool) (p q : Reading A) (r s : Reading B) → (c ≡ true → Twin R p r) → (c ≡ false → Twin R q s) → Twin R (cond c p q) (cond c r s)
twin_cond R true p q r s h g = h refl
twin_cond R false p q r s h g = g refl

-- an element that no field takes
unknown_twin : (u : UnknownFields) (key : Utf8) (n m : Node) → IsQuiet n → IsQuiet m → Twin Any (unknown u key n) (unknown u key m)
unknown_twin dropped key n m q p = twin_ok Any (under key (ignores n)) (under key (ignores m)) tt tt (ap (under key) (ignores_quiet n q)) (ap (under key) (ignores_quiet m p)) tt
unknown_twin denied key n m q p = tt

put_twin : (u : UnknownFields) (key : Utf8) (n m : Node) → (IsCommon key → Like n m) → IsQuiet n → IsQuiet m → (xs ys : Slots) → SlotsTwin xs ys → Twin SlotsTwin (put_at u key n xs) (put_at u key m ys)
put_twin u key n m like q p [] [] h =
    twin_bind Any SlotsTwin (unknown u key n) (unknown u key m) (λ _. Ok []) (λ _. Ok []) (unknown_twin u key n m q p) (λ a b s. tt)
put_twin u key n m like q p (x ∷ xs) (y ∷ ys) h =
    subst (λ name. Twin SlotsTwin (put_at u key n (x ∷ xs)) (cond (bytes_eq name key) (result_map (λ z. z ∷ ys) (fill_slot key m y y.value)) (result_map (λ zs. y ∷ zs) (put_at u key m ys)))) h.0.name
    (twin_cond SlotsTwin (bytes_eq x.name key) (result_map (λ z. z ∷ xs) (fill_slot key n x x.value)) (result_map (λ zs. x ∷ zs) (put_at u key n xs)) (result_map (λ z. z ∷ ys) (fill_slot key m y y.value)) (result_map (λ zs. y ∷ zs) (put_at u key m ys))
    (λ is. twin_map SlotTwin SlotsTwin (fill_slot key n x x.value) (fill_slot key m y y.value) (λ z. z ∷ xs) (λ z. z ∷ ys)
    (slot_twin key n m x y x.value y.value h.0 h.0.value (like (subst IsCommon ((bytes_eq-Decides x.name key).0 is) h.0.common)) q p) (λ a b s. (s, h.1)))
    (λ is. twin_map SlotsTwin SlotsTwin (put_at u key n xs) (put_at u key m ys) (λ zs. x ∷ zs) (λ zs. y ∷ zs) (put_twin u key n m like q p xs ys h.1) (λ a b s. (h.0, s))))
put_twin u key n m like q p xs ys h = absurd h

fill_twin : (u : UnknownFields) (ns ms : Nodes) (xs ys : Slots) → NodesLike ns ms → AreQuiet ns → AreQuiet ms → SlotsTwin xs ys → Twin SlotsTwin (fill u ns xs) (fill u ms ys)
fill_twin u ended ended xs ys h q p s = s
fill_twin u (then_node k n ns) (then_node l m ms) xs ys h q p s =
    twin_bind SlotsTwin SlotsTwin (put_at u k.bytes n xs) (put_at u l.bytes m ys) (fill u ns) (fill u ms)
    (subst (λ z. Twin SlotsTwin (put_at u k.bytes n xs) (put_at u z m ys)) h.0 (put_twin u k.bytes n m h.1 q.0 p.0 xs ys s)) (λ a b o. fill_twin u ns ms a b h.2 q.1 p.1 o)
fill_twin u ns ms xs ys h q p s = absurd h

value_twin : (name nom : Utf8) (missing absent : Option Marked) (o p : Option Marked) → name ≡ nom → missing ≡ absent → OptionsTwin o p → Twin SameContents (value_or name missing o) (value_or nom absent p)
value_twin name nom missing absent None None e d h = twin_same (value_or name missing None) (value_or nom absent None) (λ i. value_or (e i) (d i) None)
value_twin name nom missing absent (Some v) (Some w) e d h = h
value_twin name nom missing absent o p e d h = absurd h

finish_twin : (xs ys : Slots) → SlotsTwin xs ys → Twin SameFields (finish xs) (finish ys)
finish_twin [] [] h = refl
finish_twin (x ∷ xs) (y ∷ ys) h =
    twin_bind SameContents SameFields (value_or x.name x.missing x.value) (value_or y.name y.missing y.value) (λ v. result_map (value.field_value (made x.name) v) (finish xs)) (λ v. result_map (value.field_value (made y.name) v) (finish ys))
    (value_twin x.name y.name x.missing y.missing x.value y.value h.0.name h.0.missing h.0.value)
    (λ a b q. twin_map SameFields SameFields (finish xs) (finish ys) (value.field_value (made x.name) a) (value.field_value (made y.name) b) (finish_twin xs ys h.1) (λ c d o j. value.field_value (h.0.name j) (q j) (o j)))
finish_twin xs ys h = absurd h

places_twin : (i : ℕ) (xs ys : Slots) (ns ms : Nodes) → SlotsTwin xs ys → ItemsLike ns ms → AreQuiet ns → AreQuiet ms → Twin SameFields (reads_places i xs ns) (reads_places i ys ms)
places_twin i [] [] ns ms h s q p = refl
places_twin i (x ∷ xs) (y ∷ ys) ended ended h s q p = tt
places_twin i (x ∷ xs) (y ∷ ys) (then_node k n ns) (then_node l m ms) h s q p =
    twin_bind SameContents SameFields (under_index i (x.read n)) (under_index i (y.read m)) (λ v. result_map (value.field_value (made x.name) v) (reads_places (suc i) xs ns)) (λ v. result_map (value.field_value (made y.name) v) (reads_places (suc i) ys ms))
    (twin_inside SameContents (at_index i) (at_index i) (x.read n) (y.read m) (h.0.each n m s.0 q.0 p.0))
    (λ a b t. twin_map SameFields SameFields (reads_places (suc i) xs ns) (reads_places (suc i) ys ms) (value.field_value (made x.name) a) (value.field_value (made y.name) b) (places_twin (suc i) xs ys ns ms h.1 s.1 q.1 p.1)
    (λ c d o j. value.field_value (h.0.name j) (t j) (o j)))
places_twin i (x ∷ xs) (y ∷ ys) ns ms h s q p = absurd s
places_twin i xs ys ns ms h s q p = absurd h

keyed_twin : (u : UnknownFields) (xs ys : Slots) (ns ms : Nodes) → SlotsTwin xs ys → NodesLike ns ms → AreQuiet ns → AreQuiet ms → Twin SameFields (fill u ns xs >>= finish) (fill u ms ys >>= finish)
keyed_twin u xs ys ns ms h s q p = twin_bind SlotsTwin SameFields (fill u ns xs) (fill u ms ys) finish finish (fill_twin u ns ms xs ys s q p h) finish_twin

placed_twin : (u : UnknownFields) (xs ys : Slots) (ns ms : Nodes) → SlotsTwin xs ys → ItemsLike ns ms → AreQuiet ns → AreQuiet ms → Twin SameFields (by_place u xs ns) (by_place u ys ms)
placed_twin dropped xs ys ns ms h s q p = places_twin 0 xs ys ns ms h s q p
placed_twin denied xs ys ns ms h s q p = tt

structure_twin : (u : UnknownFields) (xs ys : Slots) (n m : Node) → SlotsTwin xs ys → Like n m → IsQuiet n → IsQuiet m → Twin SameFields (read_structure u xs n) (read_structure u ys m)
structure_twin u xs ys (array z ns) (array r ms) h s q p = placed_twin u xs ys ns ms h s q p
structure_twin u xs ys (document z ns) (document r ms) h s q p = keyed_twin u xs ys ns ms h s.1 q p
structure_twin u xs ys (extended x ns) (extended y ms) h s q p = keyed_twin u xs ys ns ms h s.1 q.2 p.2
structure_twin u xs ys (boolean a) (boolean b) h s q p = tt
structure_twin u xs ys (double a) (double b) h s q p = tt
structure_twin u xs ys (string a) (string b) h s q p = tt
structure_twin u xs ys (bytes z a) (bytes r b) h s q p = tt
structure_twin u xs ys null null h s q p = tt
structure_twin u xs ys (int32 a) (int32 b) h s q p = tt
structure_twin u xs ys (int64 a) (int64 b) h s q p = tt
structure_twin u xs ys (too_deep k) (too_deep l) h s q p = tt
structure_twin u xs ys n m h s q p = absurd s

-- ---- all simple shapes

mutual
  pub reads_twin : (s : Form) → IsSimple s → EachTwin (reads_from origins.Bytes s) (reads_from origins.Tree s)
  reads_twin (leaf l) c n m h q p =
      twin_judged SameContents n m (read_leaf origins.Bytes (borrows l) (leaf_kind l)) (read_leaf origins.Tree (borrows l) (leaf_kind l)) q p
      (subst (λ b. Twin SameContents (read_leaf origins.Bytes b (leaf_kind l) n) (read_leaf origins.Tree b (leaf_kind l) m)) (sym c.1) (leaf_twin (leaf_kind l) c.0 n m h))
  reads_twin (sequence s) c n m h q p =
      twin_bind ItemsTwin SameContents (judged n >>= array_of) (judged m >>= array_of) (λ ns. result_map value.sequence (reads_items (reads_from origins.Bytes s) 0 ns)) (λ ns. result_map value.sequence (reads_items (reads_from origins.Tree s) 0 ns))
      (twin_judged ItemsTwin n m array_of array_of q p (array_twin n m h q p))
      (λ ns ms t. twin_map SameItems SameContents (reads_items (reads_from origins.Bytes s) 0 ns) (reads_items (reads_from origins.Tree s) 0 ms) value.sequence value.sequence (items_twin (reads_from origins.Bytes s) (reads_from origins.Tree s) (reads_twin s c) 0 ns ms t.0 t.1 t.2) (λ a b o. ap value.sequence o))
  reads_twin (structure u name fs) c n m h q p =
      twin_judged SameContents n m (λ k. result_map (value.structure (made name)) (read_structure u (slots_of origins.Bytes fs) k)) (λ k. result_map (value.structure (made name)) (read_structure u (slots_of origins.Tree fs) k)) q p
      (twin_map SameFields SameContents (read_structure u (slots_of origins.Bytes fs) n) (read_structure u (slots_of origins.Tree fs) m) (value.structure (made name)) (value.structure (made name)) (structure_twin u (slots_of origins.Bytes fs) (slots_of origins.Tree fs) n m (slots_twin fs c.1) h q p)
      (λ a b o. ap (value.structure name) o))
  reads_twin (reference name) c n m h q p = twin_judged SameContents n m (λ _. refused (unknown_reference name)) (λ _. refused (unknown_reference name)) q p tt
  reads_twin (definitions t s) c n m h q p = reads_twin s c.1 n m h q p
  reads_twin s c n m h q p = absurd c

  slots_twin : (fs : Fields) → AreSimple fs → SlotsTwin (slots_of origins.Bytes fs) (slots_of origins.Tree fs)
  slots_twin no_fields c = tt
  slots_twin (field name s fs) c = (record { common = c.0; name = refl; missing = refl; each = λ n m h q p. reads_twin s c.1 n m h q p; value = tt }, slots_twin fs c.2)
