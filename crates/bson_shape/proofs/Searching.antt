-- What the maps and the stack of a search hold, after they change.
use Rattle.std.proofs.Common.{◌≡◌, ℕ, zero, suc, ◌<◌, List, [], ◌∷◌, ◌++◌, map, reverse, length, get_or, drop, drop-cons, string_bytes, Bool, true, false, cond, Option, Some, None, option_map, refl, ap, sym, ◌∙◌, arith}
use Rattle.std.specs.Borrow.{Bor}
use Rattle.std.specs.BTreeMap.{BTreeMap, get_by, btree_map_len, UpdatesBy}
use Rattle.std.specs.BTreeSet.{BTreeSet, UpdatesBy as SetUpdatesBy}
use Rattle.std.specs.Cmp.Lexicographic.{slice_cmp}
use Rattle.std.specs.List.{list_any}
use Rattle.std.specs.Map.{lookup}
use Rattle.std.specs.Ordering.{nat_cmp, is_eq}
use Rattle.std.specs.Str.{bytes_eq}
use Rattle.std.proofs.lemmas.Map.Text.{is_eq-slice_cmp}
use Rattle.std.proofs.lemmas.List.{map-append, reverse-append, nil_from_length, length-map, length-reverse}
use Rattle.bson_kinds.specs.Text.{Utf8}
use Rattle.bson_shape.specs.Form.{Form}
use Rattle.bson_shape.specs.Guarded.{definition}
use Rattle.bson_shape.specs.ShapeView.{fields_of}
use Rattle.bson_shape.specs.declared.shape.FieldShape.{FieldShape}
use Rattle.bson_shape.specs.declared.search.Task.{Task as RustTask}
use Rattle.bson_shape.specs.declared.search.Task.TheVariants as tasks
use Rattle.bson_shape.specs.Prover.Search.{follow, Search, task_view, unseen_in, entered_in, with_task, entering, without_unseen, leaving}

option_cond : {A B : Type 0} (f : A → B) (b : Bool) (w o : Option A) → option_map f (cond b w o) ≡ cond b (option_map f w) (option_map f o)
option_cond f true w o = refl
option_cond f false w o = refl

-- a map without entries
pub unseen_none : (m : BTreeMap (Bor Utf8) (Bor Form)) → m.entries ≡ [] → (key : Utf8) → unseen_in m key ≡ None
unseen_none m e key = ap (λ es. option_map (λ (s : Bor Form). s.now) (lookup (λ (k : Bor Utf8). is_eq (slice_cmp nat_cmp key k.now)) es)) e

-- a set without keys
pub entered_none : (s : BTreeSet (Bor Utf8)) → s.keys ≡ [] → (key : Utf8) → entered_in s key ≡ false
entered_none s e key = ap (list_any (λ (k : Bor Utf8). is_eq (slice_cmp nat_cmp key k.now))) e

-- a map with this at the name
pub unseen_after : (name : Bor Utf8) (m n : BTreeMap (Bor Utf8) (Bor Form)) (w : Option (Bor Form)) → UpdatesBy (λ x y. slice_cmp nat_cmp x.now y.now) (λ k. slice_cmp nat_cmp name.now k.now) m n w
    → (key : Utf8) → unseen_in n key ≡ cond (bytes_eq name.now key) (option_map (λ s. s.now) w) (unseen_in m key)
unseen_after name m n w updates key =
    let at_key = get_by (λ k. slice_cmp nat_cmp key k.now) m in
    ap (option_map (λ (s : Bor Form). s.now)) (updates.0 (record { ref_ptr = name.ref_ptr; now = key }) ∙ ap (λ b. cond b w at_key) (is_eq-slice_cmp name.now key)) ∙ option_cond (λ (s : Bor Form). s.now) (bytes_eq name.now key) w at_key

-- a set with the name, or without it
pub entered_after : (name : Bor Utf8) (s n : BTreeSet (Bor Utf8)) (b : Bool) → SetUpdatesBy (λ x y. slice_cmp nat_cmp x.now y.now) (λ k. slice_cmp nat_cmp name.now k.now) s n b
    → (key : Utf8) → entered_in n key ≡ cond (bytes_eq name.now key) b (entered_in s key)
entered_after name s n b updates key = updates.0 (record { ref_ptr = name.ref_ptr; now = key }) ∙ ap (λ t. cond t b (entered_in s key)) (is_eq-slice_cmp name.now key)

-- the next one of a stack
top : (xs : List RustTask) (x : RustTask) → reverse (map task_view (xs ++ x ∷ [])) ≡ task_view x ∷ reverse (map task_view xs)
top xs x = ap reverse (map-append task_view xs (x ∷ [])) ∙ reverse-append (map task_view xs) (task_view x ∷ [])

-- where nothing is next, the stack is empty
pub none_left : (xs : List RustTask) → reverse (map task_view xs) ≡ [] → xs ≡ []
none_left xs e = nil_from_length xs (sym (length-map xs task_view) ∙ sym (length-reverse (map task_view xs)) ∙ ap length e)

pub zero_if : (n : ℕ) → (0 < n → ⊥) → n ≡ 0
zero_if zero more = refl
zero_if (suc n) more = absurd (more (omega arith))

-- a search with these parts
abbrev pub view_of : BTreeMap (Bor Utf8) (Bor Form) → BTreeSet (Bor Utf8) → List RustTask → Search
view_of m s ts = record { unseen = unseen_in m; count = btree_map_len m; entered = entered_in s; tasks = reverse (map task_view ts) }

-- one thing more is to be done
pub pushed_view : (m : BTreeMap (Bor Utf8) (Bor Form)) (s : BTreeSet (Bor Utf8)) (xs ys : List RustTask) (task : RustTask) → ys ≡ xs ++ task ∷ [] → view_of m s ys ≡ with_task (task_view task) (view_of m s xs)
pushed_view m s xs ys task e =
    let stack = ap (λ l. reverse (map task_view l)) e ∙ top xs task in
    λ i. record { unseen = unseen_in m; count = btree_map_len m; entered = entered_in s; tasks = stack i }

-- a definition is entered
pub entered_view : (m : BTreeMap (Bor Utf8) (Bor Form)) (s t : BTreeSet (Bor Utf8)) (xs ys zs : List RustTask) (name : Bor Utf8) (shape : Bor Form)
    → SetUpdatesBy (λ x y. slice_cmp nat_cmp x.now y.now) (λ k. slice_cmp nat_cmp name.now k.now) s t true → ys ≡ xs ++ tasks.Leave name ∷ [] → zs ≡ ys ++ tasks.Follow shape ∷ []
    → view_of m t zs ≡ entering name.now shape.now (view_of m s xs)
entered_view m s t xs ys zs name shape updates left followed =
    let stack = ap (λ l. reverse (map task_view l)) followed ∙ top ys (tasks.Follow shape) ∙ ap (λ l. follow shape.now ∷ reverse (map task_view l)) left ∙ ap (λ l. follow shape.now ∷ l) (top xs (tasks.Leave name)) in
    λ i. record { unseen = unseen_in m; count = btree_map_len m; entered = λ key. entered_after name s t true updates key i; tasks = stack i }

-- it is taken out of those that are not
pub taken_view : (m n : BTreeMap (Bor Utf8) (Bor Form)) (s : BTreeSet (Bor Utf8)) (xs : List RustTask) (name : Bor Utf8) → UpdatesBy (λ x y. slice_cmp nat_cmp x.now y.now) (λ k. slice_cmp nat_cmp name.now k.now) m n None
    → view_of n s xs ≡ without_unseen name.now (btree_map_len n) (view_of m s xs)
taken_view m n s xs name updates = λ i. record { unseen = λ key. unseen_after name m n None updates key i; count = btree_map_len n; entered = entered_in s; tasks = reverse (map task_view xs) }

-- nothing is taken out
pub same_view : (m n : BTreeMap (Bor Utf8) (Bor Form)) (s : BTreeSet (Bor Utf8)) (xs : List RustTask) → n.entries ≡ m.entries → view_of n s xs ≡ view_of m s xs
same_view m n s xs e = λ i. record {
  unseen = λ key. option_map (λ (x : Bor Form). x.now) (lookup (λ (k : Bor Utf8). is_eq (slice_cmp nat_cmp key k.now)) (e i));
  count = length (e i);
  entered = entered_in s;
  tasks = reverse (map task_view xs);
}

-- it is left
pub left_view : (m : BTreeMap (Bor Utf8) (Bor Form)) (s t : BTreeSet (Bor Utf8)) (xs : List RustTask) (name : Bor Utf8) → SetUpdatesBy (λ x y. slice_cmp nat_cmp x.now y.now) (λ k. slice_cmp nat_cmp name.now k.now) s t false
    → view_of m t xs ≡ leaving name.now (view_of m s xs)
left_view m s t xs name updates = λ i. record { unseen = unseen_in m; count = btree_map_len m; entered = λ key. entered_after name s t false updates key i; tasks = reverse (map task_view xs) }

-- the definitions from a place on
pub definition_before : (fs : List FieldShape) (at : ℕ) (f : FieldShape) (key : Utf8) → at < length fs → f ≡ get_or fs at f
    → definition (fields_of (drop at fs)) key ≡ cond (bytes_eq (string_bytes f.name) key) (Some f.shape) (definition (fields_of (drop (suc at) fs)) key)
definition_before fs at f key lt is =
    ap (λ gs. definition (fields_of gs) key) (drop-cons fs at f lt)
    ∙ ap (λ (g : FieldShape). cond (bytes_eq (string_bytes g.name) key) (Some g.shape) (definition (fields_of (drop (suc at) fs)) key)) (sym is)
