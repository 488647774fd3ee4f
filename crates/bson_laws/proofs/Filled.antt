-- Fields that are read by their keys, in any order.
use Rattle.std.proofs.Common.{◌≡◌, ℕ, [], ◌∷◌, List, Bool, true, false, cond, Option, Some, None, Ok, Err, refl, ap, sym, subst, ◌∙◌}
use Rattle.std.specs.Prelude.{option_map, option_and_then}
use Rattle.std.specs.Str.{bytes_eq}
use Rattle.bson_base.specs.Pairs.{lookup}
use Rattle.bson_kinds.specs.Text.{Utf8}
use Rattle.bson_kinds.specs.Outcome.{◌>>=◌, result_map}
use Rattle.bson_base.specs.Sound.{Lacks}
use Rattle.bson_base.specs.Tree.{Tree, Pairs, no_pairs, pair}
use Rattle.bson_kinds.proofs.Outcomes.{some_is, some_map, some_then}
use Rattle.bson_rawdoc.specs.Node.{Sight, tree_node, pair_nodes}
use Rattle.bson_kinds.specs.Piece.{made}
use Rattle.bson_shape.specs.Form.{UnknownFields, Form, Fields, no_fields, field}
use Rattle.bson_values.specs.Value.{no_field_values, field_value}
use Rattle.bson_values.specs.Marked.{Marked, MarkedFields}
use Rattle.bson_values.specs.Refusal.{under}
use Rattle.bson_laws.specs.Judged.{Reading}
use Rattle.bson_laws.specs.Slots.{Slot, Slots, missing_value, fill_slot, unknown, put_at, fill, value_or, finish}
use Rattle.bson_laws.specs.declared.origin.Origin.{Origin}
use Rattle.bson_laws.specs.ReadsFrom.{reads_from, slots_of}
use Rattle.bson_laws.proofs.Placed.{names_of, IsNone}
use Rattle.bson_laws.proofs.Fitted.{chosen_t, chosen_f, bytes_same, Unnamed}
use Rattle.bson_kinds.proofs.Apart.{no_some}

-- ---- what is read of a tree

abbrev ok_of : {A : Type 0} → Reading A → Option A
ok_of (Ok x) = Some x
ok_of (Err e) = None

ok_is_of : {A : Type 0} (r : Reading A) (x : A) → ok_of r ≡ Some x → r ≡ Ok x
ok_is_of (Ok y) x e = ap Ok (some_is y x e)
ok_is_of (Err f) x e = absurd (no_some e)

-- what a tree is read as at a shape, with so many levels left
abbrev pub seen : Origin → (at : Sight) → ℕ → Form → Tree → Option Marked
seen o at levels s t = ok_of (reads_from o s (tree_node at t levels))

pub seen_of : (o : Origin) (at : Sight) (levels : ℕ) (s : Form) (t : Tree) (v : Marked) → reads_from o s (tree_node at t levels) ≡ Ok v → seen o at levels s t ≡ Some v
seen_of o at levels s t v e = ap ok_of e

-- a field's value: what is at its key is read, and what is missing has a value where the shape is an option
abbrev pub seen_at : Origin → (at : Sight) → ℕ → Form → Option Tree → Option Marked
seen_at o at levels s None = missing_value s
seen_at o at levels s (Some t) = seen o at levels s t

-- what the fields are read as
abbrev pub seen_fields : Origin → (at : Sight) → ℕ → Fields → Pairs → Option MarkedFields
seen_fields o at levels no_fields ps = Some no_field_values
seen_fields o at levels (field n s fs) ps = option_and_then (λ v. option_map (field_value (made n) v) (seen_fields o at levels fs ps)) (seen_at o at levels s (lookup n ps))

-- no two fields have one name
abbrev pub Distinct : Fields → Type 0
Distinct no_fields = Unit {0}
Distinct (field n s fs) = Unnamed n fs × Distinct fs

-- ---- names of slots

-- no two names are the same
abbrev AreApart : List Utf8 → Type 0
AreApart [] = Unit {0}
AreApart (name ∷ names) = IsNone name names × AreApart names

none_from : (o : Origin) (fs : Fields) (key : Utf8) → Unnamed key fs → IsNone key (names_of (slots_of o fs))
none_from o no_fields key u = tt
none_from o (field n s fs) key u = (u.0, none_from o fs key u.1)

unnamed_from : (o : Origin) (fs : Fields) (key : Utf8) → IsNone key (names_of (slots_of o fs)) → Unnamed key fs
unnamed_from o no_fields key u = tt
unnamed_from o (field n s fs) key u = (u.0, unnamed_from o fs key u.1)

apart_from : (o : Origin) (fs : Fields) → Distinct fs → AreApart (names_of (slots_of o fs))
apart_from o no_fields d = tt
apart_from o (field n s fs) d = (none_from o fs n d.0, apart_from o fs d.1)

lookup_lacks : (k : Utf8) (ps : Pairs) → Lacks k ps → lookup k ps ≡ None
lookup_lacks k no_pairs h = refl
lookup_lacks k (pair j t ps) h = ap (λ b. cond b (Some t) (lookup k ps)) h.0 ∙ lookup_lacks k ps h.1

-- what a key that the pairs lack leaves out of sight
still_there : (n k : Utf8) (t u : Tree) (ps : Pairs) → Lacks k ps → lookup n ps ≡ Some u → lookup n (pair k t ps) ≡ Some u
still_there n k t u ps l e = by_case (bytes_eq n k) refl where
  by_case : (b : Bool) → bytes_eq n k ≡ b → cond b (Some t) (lookup n ps) ≡ Some u
  by_case true same = absurd (let none = ap (λ j. lookup j ps) (bytes_same n k same) ∙ lookup_lacks k ps l in let both : None ≡ Some u = sym none ∙ e in cc)
  by_case false same = e

module _ (at : Sight) (levels : ℕ) where
  -- ---- slots after pairs

  -- the value of a slot after what is at its key
  abbrev value_after : Slot → Option Tree → Option Marked
  value_after slot None = slot.value
  value_after slot (Some t) = ok_of (slot.read (tree_node at t levels))

  abbrev after : Pairs → Slot → Slot
  after ps slot = record slot { value = value_after slot (lookup slot.name ps) }

  abbrev all_after : Pairs → Slots → Slots
  all_after ps [] = []
  all_after ps (slot ∷ slots) = after ps slot ∷ all_after ps slots

  -- what is at the key of a slot finds it free, and is read
  abbrev IsReady : Pairs → Slot → Type 0
  IsReady ps slot = (t : Tree) → lookup slot.name ps ≡ Some t → (slot.value ≡ None) × ((v : Marked) × (slot.read (tree_node at t levels) ≡ Ok v))

  abbrev AreReady : Pairs → Slots → Type 0
  AreReady ps [] = Unit {0}
  AreReady ps (slot ∷ slots) = IsReady ps slot × AreReady ps slots

  ready_less : (k : Utf8) (t : Tree) (ps : Pairs) (slots : Slots) → Lacks k ps → AreReady (pair k t ps) slots → AreReady ps slots
  ready_less k t ps [] l r = tt
  ready_less k t ps (slot ∷ slots) l r = (λ u e. r.0 u (still_there slot.name k t u ps l e), ready_less k t ps slots l r.1)

  after_none : (slots : Slots) → slots ≡ all_after no_pairs slots
  after_none [] = refl
  after_none (slot ∷ slots) = ap (λ others. slot ∷ others) (after_none slots)

  -- a pair is nothing to the slots of other names
  after_other : (k : Utf8) (t : Tree) (ps : Pairs) (slots : Slots) → IsNone k (names_of slots) → all_after ps slots ≡ all_after (pair k t ps) slots
  after_other k t ps [] none = refl
  after_other k t ps (slot ∷ slots) none = λ i. record slot { value = value_after slot (sym (chosen_f (bytes_eq slot.name k) t (lookup slot.name ps) none.0) i) } ∷ after_other k t ps slots none.1 i

  -- ---- one more element

  record Put (u : UnknownFields) (k : Utf8) (t : Tree) (ps : Pairs) (slots : Slots) : Type 0 where
    pub out : Slots
    pub put : put_at u k (tree_node at t levels) slots ≡ Ok out
    pub names : names_of out ≡ names_of slots
    pub ready : AreReady ps out
    pub after : all_after ps out ≡ all_after (pair k t ps) slots

  put_ready : (u : UnknownFields) (k : Utf8) (t : Tree) (ps : Pairs) (slots : Slots) → Lacks k ps → AreApart (names_of slots) → AreReady (pair k t ps) slots → (IsNone k (names_of slots) → unknown u k (tree_node at t levels) ≡ Ok tt) → Put u k t ps slots
  put_ready u k t ps [] l d r passed = record { out = []; put = ap (λ q. q >>= λ _. Ok []) (passed tt); names = refl; ready = tt; after = refl }
  put_ready u k t ps (slot ∷ slots) l d r passed = by_case (λ unlike. put_ready u k t ps slots l d.1 r.1 (λ none. passed (unlike, none))) (bytes_eq slot.name k) refl where
    by_case : (bytes_eq slot.name k ≡ false → Put u k t ps slots) → (b : Bool) → bytes_eq slot.name k ≡ b → Put u k t ps (slot ∷ slots)
    by_case later true same =
        let is : slot.name ≡ k = bytes_same slot.name k same in
        let there = chosen_t (bytes_eq slot.name k) t (lookup slot.name ps) same in
        let gone = ap (λ j. lookup j ps) is ∙ lookup_lacks k ps l in
        let free = r.0 t there in
        let v = free.1.0 in
        let filled = record slot { value = Some v } in
        record {
          out = filled ∷ slots;
          put = ap (λ b. cond b (result_map (λ x. x ∷ slots) (fill_slot k (tree_node at t levels) slot slot.value)) (result_map (λ xs. slot ∷ xs) (put_at u k (tree_node at t levels) slots))) same
              ∙ ap (λ o. result_map (λ x. x ∷ slots) (fill_slot k (tree_node at t levels) slot o)) free.0
              ∙ ap (λ q. result_map (λ x. x ∷ slots) (under k q >>= λ w. Ok (record slot { value = Some w }))) free.1.1;
          names = refl;
          ready = (λ x e. absurd (let both : None ≡ Some x = sym gone ∙ e in cc), ready_less k t ps slots l r.1);
          after = (λ i. record slot { value = value_after filled (gone i) } ∷ all_after ps slots)
              ∙ (λ i. record slot { value = ok_of (sym free.1.1 i) } ∷ all_after ps slots)
              ∙ (λ i. record slot { value = value_after slot (sym there i) } ∷ after_other k t ps slots (subst (λ x. IsNone x (names_of slots)) is d.0) i);
        }
    by_case later false unlike =
        let p = later unlike in
        record {
          out = slot ∷ p.out;
          put = ap (λ b. cond b (result_map (λ x. x ∷ slots) (fill_slot k (tree_node at t levels) slot slot.value)) (result_map (λ xs. slot ∷ xs) (put_at u k (tree_node at t levels) slots))) unlike ∙ ap (result_map (λ xs. slot ∷ xs)) p.put;
          names = ap (λ xs. slot.name ∷ xs) p.names;
          ready = (λ x e. r.0 x (still_there slot.name k t x ps l e), p.ready);
          after = λ i. record slot { value = value_after slot (sym (chosen_f (bytes_eq slot.name k) t (lookup slot.name ps) unlike) i) } ∷ p.after i;
        }

  -- ---- all elements

  -- no key occurs twice, and what no field takes is passed
  abbrev pub ArePassed : UnknownFields → Fields → Pairs → Type 0
  ArePassed u fs no_pairs = Unit {0}
  ArePassed u fs (pair k t ps) = Lacks k ps × (Unnamed k fs → unknown u k (tree_node at t levels) ≡ Ok tt) × ArePassed u fs ps

  fill_again : (o : Origin) (u : UnknownFields) (fs : Fields) (ps : Pairs) (slots : Slots) → names_of slots ≡ names_of (slots_of o fs) → AreApart (names_of slots) → ArePassed u fs ps → AreReady ps slots → fill u (pair_nodes at ps levels) slots ≡ Ok (all_after ps slots)
  fill_again o u fs no_pairs slots is d c r = ap Ok (after_none slots)
  fill_again o u fs (pair k t ps) slots is d c r =
      let p = put_ready u k t ps slots c.0 d r (λ none. c.1 (unnamed_from o fs k (subst (IsNone k) is none))) in
      ap (λ q. q >>= fill u (pair_nodes at ps levels)) p.put ∙ fill_again o u fs ps p.out (p.names ∙ is) (subst AreApart (sym p.names) d) c.2 p.ready ∙ ap Ok p.after

  -- what a field is at what is at its key, or at nothing, is its value in the end
  one_seen : (o : Origin) (n : Utf8) (s : Form) (t : Option Tree) (v : Marked) → seen_at o at levels s t ≡ Some v → value_or n (missing_value s) (value_after (record { name = n; missing = missing_value s; read = reads_from o s; value = None }) t) ≡ Ok v
  one_seen o n s None v e = ap (λ m. value_or n m None) e
  one_seen o n s (Some t) v e = ap (value_or n (missing_value s)) e

  all_seen : (o : Origin) (fs : Fields) (ps : Pairs) (vs : MarkedFields) → seen_fields o at levels fs ps ≡ Some vs → AreReady ps (slots_of o fs) × (finish (all_after ps (slots_of o fs)) ≡ Ok vs)
  all_seen o no_fields ps vs e = (tt, ap Ok (some_is no_field_values vs e))
  all_seen o (field n s fs) ps vs e =
      let a = some_then (λ v. option_map (field_value (made n) v) (seen_fields o at levels fs ps)) (seen_at o at levels s (lookup n ps)) vs e in
      let b = some_map (field_value (made n) a.0) (seen_fields o at levels fs ps) vs a.2 in
      let rest = all_seen o fs ps b.0 b.1 in (
        (λ t there. (refl, (a.0, ok_is_of (reads_from o s (tree_node at t levels)) a.0 (ap (seen_at o at levels s) (sym there) ∙ a.1))), rest.0),
        ap (λ r. r >>= λ v. result_map (field_value (made n) v) (finish (all_after ps (slots_of o fs)))) (one_seen o n s (lookup n ps) a.0 a.1) ∙ ap (result_map (field_value (made n) a.0)) rest.1 ∙ ap Ok b.2,
      )

  -- the fields are read as what is seen at their keys
  pub fields_seen : (o : Origin) (u : UnknownFields) (fs : Fields) → Distinct fs → (ps : Pairs) (vs : MarkedFields) → ArePassed u fs ps → seen_fields o at levels fs ps ≡ Some vs → (fill u (pair_nodes at ps levels) (slots_of o fs) >>= finish) ≡ Ok vs
  fields_seen o u fs distinct ps vs c e =
      let all = all_seen o fs ps vs e in
      ap (λ r. r >>= finish) (fill_again o u fs ps (slots_of o fs) refl (apart_from o fs distinct) c all.0) ∙ all.1
