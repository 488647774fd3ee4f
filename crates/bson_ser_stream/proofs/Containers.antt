-- A document or an array: a place for its length, its parts, and its end.
use Rattle.std.proofs.Common.{Bool, ◌≡◌, ℕ, zero, suc, ◌+◌, ◌-◌, ◌≤◌, [], ◌∷◌, ◌++◌, length, take, drop, Result, Ok, Err, refl, ap, sym, subst, ◌∙◌, append_assoc, arith}
use Rattle.std.proofs.lemmas.List.{length-append, take_at, drop_at}
use Rattle.std.specs.Prelude.{IsOk}
use Rattle.bson_kinds.specs.Text.{Bytes}
use Rattle.bson_kinds.specs.Outcome.{result_map}
use Rattle.bson_base.specs.Sound.{max_bytes}
use Rattle.bson_base.specs.Tree.{Tree, document, array, le32, enc, elements, array_elements, enclosed}
use Rattle.bson_kinds.specs.declared.element_type.ElementType.{ElementType}
use Rattle.bson_base.proofs.Lengths.{length-le32}
use Rattle.bson_values.specs.Value.{Items, Entries, FieldValues}
use Rattle.bson_values.specs.Refusal.{Refusal, WriteFault}
use Rattle.bson_io.specs.Output.{Output, Appended, patched}
use Rattle.bson_laws.specs.Spell.{Writing, spell_items_as, spell_entries_as, spell_fields_as, enclosed_at, size_items_as, size_entries_as, size_fields_as}
use Rattle.bson_laws.proofs.Sizes.{ok_is, length-spell_items, length-spell_entries, length-spell_fields}
use Rattle.bson_ser_stream.specs.Writing.{with_bytes, with_tree, length_place, level_inside, places, pair_places, tree_places, count_of}
use Rattle.bson_writing.specs.Halting.{Halts}
use Rattle.bson_ser_stream.specs.Halting.{Grows, Puts, Ends, EndHalts}
use Rattle.bson_ser_stream.proofs.Growth.{Grows-trans, Grows-appended, Grows-longer}
use Rattle.bson_ser_stream.proofs.Written.{length-with_bytes}
use Rattle.bson_ser_stream.proofs.Halted.{unended}
use Rattle.bson_ser_stream.proofs.Ended.{Grows-container, length-ended}
use Rattle.bson_ser_stream.proofs.Places.{container_places}
use Rattle.bson_writing.specs.declared.halt.Halt.{Halt}
use Rattle.bson_values.specs.declared.stop.Stop.TheVariants.{Refused, NoMemory}
use Rattle.bson_writing.specs.declared.halt.Halt.TheVariants.{Stopped, TooLong}

-- the parts of a document or an array: their bytes are what it encloses, and as many as their size says; it has four places more than they
pub record Parts {A : Type 0} (container : A → Tree) (bytes : A → Bytes) (count : A → ℕ) (parts : ℕ → Writing A) (size : ℕ) : Type 0 where
  pub encloses : (x : A) → enc (container x) ≡ enclosed (bytes x)
  pub long : (levels : ℕ) (x : A) → parts levels ≡ Ok x → length (bytes x) ≡ size
  pub more : (x : A) → places (container x) ≡ count x + 4

pub Parts-fields : (readable : Bool) (fs : FieldValues) → Parts document elements pair_places (spell_fields_as readable fs) (size_fields_as readable fs)
Parts-fields readable fs = record { encloses = λ ps. refl; long = length-spell_fields readable fs; more = λ ps. refl }

pub Parts-entries : (readable : Bool) (es : Entries) → Parts document elements pair_places (spell_entries_as readable es) (size_entries_as readable es)
Parts-entries readable es = record { encloses = λ ps. refl; long = length-spell_entries readable es; more = λ ps. refl }

pub Parts-items : (readable : Bool) (vs : Items) → Parts array (array_elements 0) tree_places (spell_items_as readable 0 vs) (size_items_as readable 0 vs)
Parts-items readable vs = record { encloses = λ ts. refl; long = length-spell_items readable 0 vs; more = λ ts. refl }

inside : {A : Type 0} (container : A → Tree) (parts : ℕ → Writing A) (levels inner : ℕ) → level_inside levels ≡ Ok inner → enclosed_at container levels parts ≡ result_map container (parts inner)
inside container parts zero inner h = absurd cc
inside container parts (suc n) inner h = ap (λ k. result_map container (parts k)) (ok_is n inner h)

parts_ok : {A : Type 0} (container : A → Tree) (bytes : A → Bytes) (old begun : Bytes) (r : Writing A) → IsOk (with_tree old (result_map container r)) → IsOk (with_bytes bytes begun r)
parts_ok container bytes old begun (Ok x) h = refl
parts_ok container bytes old begun (Err f) h = absurd cc

parts_err : {A : Type 0} (container : A → Tree) (bytes : A → Bytes) (old begun : Bytes) (r : Writing A) (f : Refusal WriteFault) → with_bytes bytes begun r ≡ Err f → with_tree old (result_map container r) ≡ Err f
parts_err container bytes old begun (Ok x) f e = absurd cc
parts_err container bytes old begun (Err g) f e = let same : g ≡ f = cc in ap Err same

parts_halt : {A : Type 0} (container : A → Tree) (bytes : A → Bytes) (size : ℕ) (r : Writing A) (h : Halt) (old begun : Output) (before now : ℕ) → Appended old begun length_place before now → Halts size begun.spare (with_bytes bytes begun.bytes r) h → Halts (size + 5) old.spare (with_tree old.bytes (result_map container r)) h
parts_halt container bytes size r TooLong old begun before now a halts = omega (arith, halts)
parts_halt container bytes size r (Stopped NoMemory) old begun before now a halts = λ ok. omega (arith, halts (parts_ok container bytes old.bytes begun.bytes r ok), a.spare)
parts_halt container bytes size r (Stopped (Refused x)) old begun before now a halts = parts_err container bytes old.bytes begun.bytes r _ halts

-- a document or an array whose parts are not written
pub halts_parts : {A : Type 0} (container : A → Tree) (bytes : A → Bytes) (parts : ℕ → Writing A) (size : ℕ) (old begun new : Output) (levels inner s0 s1 now : ℕ) → level_inside levels ≡ Ok inner → Appended old begun length_place s0 s1
    → (its : ElementType) (r : Result ElementType Halt) (h : Halt) → r ≡ Err h → Grows begun new s1 now → Halts size begun.spare (with_bytes bytes begun.bytes (parts inner)) h → Puts its (size + 5) (enclosed_at container levels parts) old new s0 now r
halts_parts container bytes parts size old begun new levels inner s0 s1 now enters begins its r h is more halts =
    subst (Puts its (size + 5) (enclosed_at container levels parts) old new s0 now) (sym is)
    (record {
      kind = tt;
      bytes = subst (λ d. Halts (size + 5) old.spare (with_tree old.bytes d) h) (sym (inside container parts levels inner enters)) (parts_halt container bytes size (parts inner) h old begun s0 s1 begins halts);
      fits = tt;
      grows = Grows-trans old begun new s0 s1 now (Grows-appended old begun length_place s0 s1 begins) more;
      least = tt;
    })

-- the elements behind four bytes, closed, and the length written over the four
closed : (old b : Bytes) (n : ℕ) → n ≡ length b + 5 → patched ((old ++ length_place) ++ b ++ 0 ∷ []) (length old) (le32 n) ≡ old ++ enclosed b
closed old b n is =
    let front : take (length old) ((old ++ length_place) ++ b ++ 0 ∷ []) ≡ old = ap (take (length old)) (ap (λ x. x ++ 0 ∷ []) (append_assoc old length_place b) ∙ append_assoc old (length_place ++ b) (0 ∷ [])) ∙ take_at old (length_place ++ b ++ 0 ∷ []) (length old) refl in
    let back : drop (length old + length (le32 n)) ((old ++ length_place) ++ b ++ 0 ∷ []) ≡ b ++ 0 ∷ [] = ap (drop (length old + length (le32 n))) (append_assoc (old ++ length_place) b (0 ∷ [])) ∙ drop_at (old ++ length_place) (b ++ 0 ∷ []) (length old + length (le32 n)) (omega (arith, length-append old length_place, length-le32 n)) in
    (λ i. (front i ++ le32 (is i)) ++ back i) ∙ append_assoc old (le32 (length b + 5)) (b ++ 0 ∷ [])

pub containers : {A : Type 0} (container : A → Tree) (bytes : A → Bytes) (old mid : Bytes) (r : Writing A) (start n : ℕ) → ((x : A) → enc (container x) ≡ enclosed (bytes x)) → start ≡ length old → n ≡ length mid + 1 - start
    → with_bytes bytes (old ++ length_place) r ≡ Ok mid → with_tree old (result_map container r) ≡ Ok (patched (mid ++ 0 ∷ []) start (le32 n))
containers container bytes old mid (Err f) start n encloses at is e = absurd cc
containers container bytes old mid (Ok x) start n encloses at is e =
    let made : (old ++ length_place) ++ bytes x ≡ mid = ok_is _ mid e in
    let long : n ≡ length (bytes x) + 5 = omega (arith, is, at, ap length made, length-append (old ++ length_place) (bytes x), length-append old length_place) in
    ap Ok (ap (λ b. old ++ b) (encloses x) ∙ sym (closed old (bytes x) n long) ∙ (λ i. patched (made i ++ 0 ∷ []) (sym at i) (le32 n)))

module _ {A : Type 0} {container : A → Tree} {bytes : A → Bytes} {count : A → ℕ} {parts : ℕ → Writing A} {size : ℕ} (holds : Parts container bytes count parts size) (old begun mid : Output) (levels inner start s0 s1 s2 : ℕ)
    (enters : level_inside levels ≡ Ok inner) (at : start ≡ length old.bytes) (begins : Appended old begun length_place s0 s1) (grows : Grows begun mid s1 s2) (filled : with_bytes bytes begun.bytes (parts inner) ≡ Ok mid.bytes) where
  filled_length : length mid.bytes + 1 - start ≡ size + 5
  filled_length = omega (arith, at, ap length begins.bytes, length-append old.bytes length_place, length-with_bytes bytes (parts inner) size begun.bytes mid.bytes (holds.long inner) filled)

  wrote_container : (new : Output) (now : ℕ) → Ends mid new start s2 now → with_tree old.bytes (enclosed_at container levels parts) ≡ Ok new.bytes
  wrote_container new now ends =
      ap (with_tree old.bytes) (inside container parts levels inner enters)
      ∙ containers container bytes old.bytes mid.bytes (parts inner) start (length mid.bytes + 1 - start) holds.encloses at refl (ap (λ b. with_bytes bytes b (parts inner)) (sym begins.bytes) ∙ filled)
      ∙ ap Ok (sym ends.bytes)

  container_fits : (new : Output) (now : ℕ) → Ends mid new start s2 now → size + 5 ≤ max_bytes
  container_fits new now ends = omega (arith, filled_length, ends.fits)

  container_halts : (h : Halt) → EndHalts mid start h → Halts (size + 5) old.spare (with_tree old.bytes (enclosed_at container levels parts)) h
  container_halts h halts =
      let grown = Grows-trans old begun mid s0 s1 s2 (Grows-appended old begun length_place s0 s1 begins) grows in
      unended h (size + 5) old.spare start mid _ (omega (arith, filled_length, Grows-longer old mid s0 s2 grown, at)) (omega (arith, grown.room, at)) halts

  -- so many bytes of its parts are written twice
  abbrev Least : Type 0
  Least = s1 + length mid.bytes + count_of count (parts inner) ≤ s2 + length begun.bytes

  container_least : (new : Output) (now : ℕ) → Ends mid new start s2 now → Least → s0 + length new.bytes + count_of places (enclosed_at container levels parts) ≤ now + length old.bytes
  container_least new now ends least =
      let spelled : count_of places (enclosed_at container levels parts) ≡ count_of places (result_map container (parts inner)) = ap (count_of places) (inside container parts levels inner enters) in
      let four : length begun.bytes ≡ length old.bytes + 4 = ap length begins.bytes ∙ length-append old.bytes length_place in
      let longer = Grows-longer begun mid s1 s2 grows in
      omega (arith, spelled, container_places container count (parts inner) holds.more, least, begins.steps, ends.steps, four, length-ended mid new start s2 now (omega (arith, at, four, longer)) ends)

  -- a document or an array that is ended
  pub puts_container : (its : ElementType) (new : Output) (now : ℕ) → Ends mid new start s2 now → Least → Puts its (size + 5) (enclosed_at container levels parts) old new s0 now (Ok its)
  puts_container its new now ends least =
      record {
        kind = refl;
        bytes = wrote_container new now ends;
        fits = container_fits new now ends;
        grows = Grows-container old begun mid new start s0 s1 s2 now at begins grows ends;
        least = container_least new now ends least;
      }

  -- one that is not
  pub halts_container : (its : ElementType) (new : Output) (now : ℕ) (r : Result ElementType Halt) (h : Halt) → r ≡ Err h → EndHalts mid start h → Grows mid new s2 now → Puts its (size + 5) (enclosed_at container levels parts) old new s0 now r
  halts_container its new now r h is halts more =
      let so_far = Grows-trans old begun mid s0 s1 s2 (Grows-appended old begun length_place s0 s1 begins) grows in
      subst (Puts its (size + 5) (enclosed_at container levels parts) old new s0 now) (sym is) (record { kind = tt; bytes = container_halts h halts; fits = tt; grows = Grows-trans old mid new s0 s2 now so_far more; least = tt })
