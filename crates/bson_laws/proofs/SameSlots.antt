-- Structs are read alike where their fields are read alike from all values that are no deeper.
use Rattle.std.proofs.Common.{◌≡◌, ℕ, suc, ◌≤◌, [], ◌∷◌, Bool, true, false, cond, Option, Some, None, Ok, Err, refl, ap, subst, arith}
use Rattle.std.specs.Str.{bytes_eq}
use Rattle.bson_kinds.specs.Text.{Utf8}
use Rattle.bson_kinds.specs.Outcome.{◌>>=◌, result_map}
use Rattle.bson_rawdoc.specs.Node.{Node, document, array, extended, Nodes, ended, faulty, then_node}
use Rattle.bson_kinds.specs.Piece.{made}
use Rattle.bson_shape.specs.Form.{UnknownFields, dropped, denied}
use Rattle.bson_values.specs.Value.{field_value}
use Rattle.bson_values.specs.Marked.{Marked}
use Rattle.bson_values.specs.Refusal.{under, under_index}
use Rattle.bson_laws.specs.Depths.{height, heights}
use Rattle.bson_laws.specs.Judged.{Reading}
use Rattle.bson_laws.specs.Slots.{Slot, Slots, unknown, fill_slot, put_at, fill, value_or, finish, reads_places, by_place, read_structure}

-- ---- answers

-- both answers are refusals of one cause, or what they give is alike
abbrev pub Same : {A : Type 0} → (A → A → Type 0) → Reading A → Reading A → Type 0
Same R (Ok x) (Ok y) = R x y
Same R (Err e) (Err f) = e ≡ f
Same R r q = ⊥

same_map : {A B : Type 0} (R : A → A → Type 0) (S : B → B → Type 0) (f g : A → B) (r q : Reading A) → ((x y : A) → R x y → S (f x) (g y)) → Same R r q → Same S (result_map f r) (result_map g q)
same_map R S f g (Ok x) (Ok y) h s = h x y s
same_map R S f g (Ok x) (Err e) h s = absurd s
same_map R S f g (Err e) (Ok y) h s = absurd s
same_map R S f g (Err e) (Err d) h s = s

same_then : {A B : Type 0} (R : A → A → Type 0) (S : B → B → Type 0) (f g : A → Reading B) (r q : Reading A) → ((x y : A) → R x y → Same S (f x) (g y)) → Same R r q → Same S (r >>= f) (q >>= g)
same_then R S f g (Ok x) (Ok y) h s = h x y s
same_then R S f g (Ok x) (Err e) h s = absurd s
same_then R S f g (Err e) (Ok y) h s = absurd s
same_then R S f g (Err e) (Err d) h s = s

same_is : {A B : Type 0} (R : A → A → Type 0) (f g : A → Reading B) (r q : Reading A) → ((x y : A) → R x y → f x ≡ g y) → Same R r q → (r >>= f) ≡ (q >>= g)
same_is R f g (Ok x) (Ok y) h s = h x y s
same_is R f g (Ok x) (Err e) h s = absurd s
same_is R f g (Err e) (Ok y) h s = absurd s
same_is R f g (Err e) (Err d) h s = ap Err s

-- ---- slots

-- slots of one field, which read alike what is no deeper
pub record AreAlike (d : ℕ) (x y : Slot) : Type 0 where
  pub name : x.name ≡ y.name
  pub missing : x.missing ≡ y.missing
  pub each : (n : Node) → height n ≤ d → x.read n ≡ y.read n
  pub value : x.value ≡ y.value

abbrev pub AllAlike : ℕ → Slots → Slots → Type 0
AllAlike d [] [] = Unit {0}
AllAlike d (x ∷ xs) (y ∷ ys) = AreAlike d x y × AllAlike d xs ys
AllAlike d xs ys = ⊥

stored : (d : ℕ) (x y : Slot) (r : Reading Marked) → AreAlike d x y → Same (AreAlike d) (r >>= λ v. Ok (record x { value = Some v })) (r >>= λ v. Ok (record y { value = Some v }))
stored d x y (Ok v) h = record { name = h.name; missing = h.missing; each = h.each; value = refl }
stored d x y (Err e) h = refl

filled : (key : Utf8) (n : Node) (d : ℕ) (x y : Slot) (o : Option Marked) → height n ≤ d → AreAlike d x y → Same (AreAlike d) (fill_slot key n x o) (fill_slot key n y o)
filled key n d x y None w h =
    subst (λ r. Same (AreAlike d) (fill_slot key n x None) (under key r >>= λ v. Ok (record y { value = Some v }))) (h.each n w) (stored d x y (under key (x.read n)) h)
filled key n d x y (Some v) w h = refl

passed : (d : ℕ) (r : Reading (Unit {0})) → Same (AllAlike d) (r >>= λ _. Ok []) (r >>= λ _. Ok [])
passed d (Ok x) = tt
passed d (Err e) = refl

either : {A : Type 0} (R : A → A → Type 0) (b : Bool) (r q s t : Reading A) → Same R r s → Same R q t → Same R (cond b r q) (cond b s t)
either R true r q s t h g = h
either R false r q s t h g = g

module _ (u : UnknownFields) where
  put_same : (key : Utf8) (n : Node) (d : ℕ) (xs ys : Slots) → height n ≤ d → AllAlike d xs ys → Same (AllAlike d) (put_at u key n xs) (put_at u key n ys)
  put_same key n d [] [] w h = passed d (unknown u key n)
  put_same key n d [] (y ∷ ys) w h = absurd h
  put_same key n d (x ∷ xs) [] w h = absurd h
  put_same key n d (x ∷ xs) (y ∷ ys) w h =
      let slot : Same (AreAlike d) (fill_slot key n x x.value) (fill_slot key n y y.value) = subst (λ o. Same (AreAlike d) (fill_slot key n x x.value) (fill_slot key n y o)) h.0.value (filled key n d x y x.value w h.0) in
      subst (λ b. Same (AllAlike d) (put_at u key n (x ∷ xs)) (cond b (result_map (λ z. z ∷ ys) (fill_slot key n y y.value)) (result_map (λ zs. y ∷ zs) (put_at u key n ys)))) (ap (λ name. bytes_eq name key) h.0.name)
      (either (AllAlike d) (bytes_eq x.name key) (result_map (λ z. z ∷ xs) (fill_slot key n x x.value)) (result_map (λ zs. x ∷ zs) (put_at u key n xs)) (result_map (λ z. z ∷ ys) (fill_slot key n y y.value)) (result_map (λ zs. y ∷ zs) (put_at u key n ys))
      (same_map (AreAlike d) (AllAlike d) (λ z. z ∷ xs) (λ z. z ∷ ys) (fill_slot key n x x.value) (fill_slot key n y y.value) (λ a b q. (q, h.1)) slot)
      (same_map (AllAlike d) (AllAlike d) (λ zs. x ∷ zs) (λ zs. y ∷ zs) (put_at u key n xs) (put_at u key n ys) (λ a b q. (h.0, q)) (put_same key n d xs ys w h.1)))

  fill_same : (ns : Nodes) (d : ℕ) (xs ys : Slots) → heights ns ≤ d → AllAlike d xs ys → Same (AllAlike d) (fill u ns xs) (fill u ns ys)
  fill_same ended d xs ys w h = h
  fill_same (faulty e) d xs ys w h = refl
  fill_same (then_node key n ns) d xs ys w h =
      same_then (AllAlike d) (AllAlike d) (fill u ns) (fill u ns) (put_at u key.bytes n xs) (put_at u key.bytes n ys) (λ a b q. fill_same ns d a b (omega arith) q) (put_same key.bytes n d xs ys (omega arith) h)

  finish_same : (d : ℕ) (xs ys : Slots) → AllAlike d xs ys → finish xs ≡ finish ys
  finish_same d [] [] h = refl
  finish_same d [] (y ∷ ys) h = absurd h
  finish_same d (x ∷ xs) [] h = absurd h
  finish_same d (x ∷ xs) (y ∷ ys) h = λ i. value_or (h.0.name i) (h.0.missing i) (h.0.value i) >>= λ v. result_map (field_value (made (h.0.name i)) v) (finish_same d xs ys h.1 i)

  pub keyed_same : (ns : Nodes) (d : ℕ) (xs ys : Slots) → heights ns ≤ d → AllAlike d xs ys → (fill u ns xs >>= finish) ≡ (fill u ns ys >>= finish)
  keyed_same ns d xs ys w h = same_is (AllAlike d) finish finish (fill u ns xs) (fill u ns ys) (finish_same d) (fill_same ns d xs ys w h)

places_same : (i : ℕ) (ns : Nodes) (d : ℕ) (xs ys : Slots) → heights ns ≤ d → AllAlike d xs ys → reads_places i xs ns ≡ reads_places i ys ns
places_same i ns d [] [] w h = refl
places_same i ns d [] (y ∷ ys) w h = absurd h
places_same i ns d (x ∷ xs) [] w h = absurd h
places_same i ended d (x ∷ xs) (y ∷ ys) w h = refl
places_same i (faulty e) d (x ∷ xs) (y ∷ ys) w h = refl
places_same i (then_node key n ns) d (x ∷ xs) (y ∷ ys) w h =
    let first : height n ≤ d = omega arith in
    let rest : heights ns ≤ d = omega arith in
    λ j. under_index i (h.0.each n first j) >>= λ v. result_map (field_value (made (h.0.name j)) v) (places_same (suc i) ns d xs ys rest h.1 j)

array_same : (u : UnknownFields) (ns : Nodes) (d : ℕ) (xs ys : Slots) → heights ns ≤ d → AllAlike d xs ys → by_place u xs ns ≡ by_place u ys ns
array_same dropped ns d xs ys w h = places_same 0 ns d xs ys w h
array_same denied ns d xs ys w h = refl

-- a value of no parts is read at no struct
pub structure_flat : (u : UnknownFields) (xs ys : Slots) (n : Node) → height n ≤ 0 → read_structure u xs n ≡ read_structure u ys n
structure_flat u xs ys (array slice ns) w = absurd (omega arith)
structure_flat u xs ys (document slice ns) w = absurd (omega arith)
structure_flat u xs ys (extended x ns) w = absurd (omega arith)
structure_flat u xs ys n w = refl

pub structure_same : (u : UnknownFields) (xs ys : Slots) (n : Node) (d : ℕ) → height n ≤ suc d → AllAlike d xs ys → read_structure u xs n ≡ read_structure u ys n
structure_same u xs ys (array slice ns) d w h = array_same u ns d xs ys (omega arith) h
structure_same u xs ys (document slice ns) d w h = keyed_same u ns d xs ys (omega arith) h
structure_same u xs ys (extended x ns) d w h = keyed_same u ns d xs ys (omega arith) h
structure_same u xs ys n d w h = refl
