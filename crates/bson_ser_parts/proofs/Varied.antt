-- What the calls of the writer of a variant answer, by what they appended.
use Rattle.std.proofs.Common.{Bool, false, ◌≡◌, ℕ, ◌+◌, ◌-◌, ◌≤◌, [], ◌∷◌, ◌++◌, length, Ok, Err, refl, ap, sym, ◌∙◌, append-nil, arith}
use Rattle.std.specs.Prelude.{if◌then◌else◌}
use Rattle.std.specs.Fmt.{decimal}
use Rattle.std.proofs.lemmas.List.{length-append}
use Rattle.bson_kinds.specs.Kind.{byte}
use Rattle.bson_kinds.specs.Outcome.{◌>>=◌, result_map}
use Rattle.bson_base.specs.Sound.{max_bytes, max_levels}
use Rattle.bson_kinds.specs.Text.{Bytes, Utf8, has_zero}
use Rattle.bson_base.specs.Tree.{Tree, document, array, no_pairs, pair, kind, enc, element, elements, array_elements, enclosed}
use Rattle.bson_kinds.specs.declared.element_type.ElementType.{ElementType}
use Rattle.bson_kinds.specs.declared.element_type.ElementType.TheVariants.{Array, EmbeddedDocument}
use Rattle.bson_kinds.proofs.Outcomes.{map_ok}
use Rattle.bson_values.specs.Refusal.{Refusal, WriteFault, Failure, Segment, at_key, in_segment, inside, under, under_index, here, invalid_cstring}
use Rattle.bson_values.specs.Stop.{IsPlaced}
use Rattle.bson_values.specs.Value.{Value, tuple_variant, structure_variant, Items, item, FieldValues, field_value}
use Rattle.bson_io.specs.Output.{patched}
use Rattle.bson_laws.specs.Spell.{Writing, named, variant_at, enclosed_at, spell_as, spell_items_as, spell_fields_as, size_as}
use Rattle.bson_laws.proofs.Sizes.{ok_is, length-spell}
use Rattle.bson_writing.specs.Halting.{Halts, halt_view, IsUnder}
use Rattle.bson_writing.specs.Joined.{items_joined, fields_joined, with_item, with_field, index_after}
use Rattle.bson_writing.specs.Levels.{in_variant}
use Rattle.bson_writing.specs.declared.halt.Halt.{Halt}
use Rattle.bson_ser_stream.specs.Writing.{with_bytes, with_tree, with_element, with_elements, with_array_elements, length_place, front, Fails}
use Rattle.bson_ser_stream.proofs.Containers.{containers}
use Rattle.bson_ser_stream.proofs.Elements.{kind_over}
use Rattle.bson_ser_stream.proofs.Inside.{under_halts}
use Rattle.bson_ser_stream.proofs.Written.{length-with_bytes, length-with_elements, length-with_array_elements}
use Rattle.bson_ser_parts.specs.Pairs.{behind_name, ended}
use Rattle.bson_ser_parts.proofs.Joined.{item_refused, size_with_item, field_refused, size_with_field}
use Rattle.bson_ser_parts.proofs.Answered.{part_fails}

-- a variant of a name without a zero character is a document of one pair
variant_is : (name : Utf8) (content : ℕ → Writing Tree) → has_zero name ≡ false → variant_at name max_levels content ≡ result_map document (under name (content 199) >>= λ t. Ok (pair name t no_pairs))
variant_is name content free = ap (λ b. result_map document ((if b then Err (here (invalid_cstring name)) else under name (content 199)) >>= λ t. Ok (pair name t no_pairs))) free

-- what an element is refused for at a segment
refused_inside : (segment : Segment) (old key : Bytes) (r : Writing Tree) (f : Refusal WriteFault) → with_element old key (inside segment r) ≡ Err f → (g : Refusal WriteFault) × (with_element old key r ≡ Err g) × (in_segment segment g ≡ f)
refused_inside segment old key (Ok t) f e = absurd cc
refused_inside segment old key (Err g) f e = (g, refl, cc)

module _ (readable : Bool) (begun old : Bytes) (name : Utf8) (free : has_zero name ≡ false) where
  -- a value is refused
  pub item_fails : (h g : Halt) (f : Failure WriteFault) (before after : Items) (v : Value) (spare : ℕ) → with_array_elements (behind_name begun name ++ length_place) 0 (spell_items_as readable 0 before in_variant) ≡ Ok old
      → Halts (length (decimal (index_after 0 before)) + 2 + size_as readable v) spare (with_element old (decimal (index_after 0 before)) (under_index (index_after 0 before) (spell_as readable v in_variant))) h
      → IsUnder (at_key name) h g → IsPlaced (halt_view g) f
      → Fails (size_as readable (tuple_variant name (with_item before v))) (spell_as readable (tuple_variant name (items_joined before (item v after))) max_levels) f
  item_fails h g f before after v spare so_far halts is placed =
      let i = index_after 0 before in
      let r = under_index i (spell_as readable v in_variant) in
      let whole = items_joined before (item v after) in
      part_fails g f (length (decimal i) + 2 + size_as readable v) (size_as readable (tuple_variant name (with_item before v))) spare (with_element old (decimal i) (inside (at_key name) r)) (spell_as readable (tuple_variant name whole) max_levels)
      (λ x e.
      let q = refused_inside (at_key name) old (decimal i) r x e in
      variant_is name (λ inner. enclosed_at array inner (spell_items_as readable 0 whole)) free
      ∙ ap (λ y. result_map document (under name (result_map array y) >>= λ t. Ok (pair name t no_pairs))) (item_refused readable in_variant (behind_name begun name ++ length_place) old before after v q.0 so_far q.1)
      ∙ ap Err q.2)
      (omega (arith, size_with_item readable 0 before v)) (under_halts (length (decimal i) + 2 + size_as readable v) spare (at_key name) old (decimal i) r h g is halts) placed

  -- a field is refused
  pub field_fails : (h g : Halt) (f : Failure WriteFault) (before after : FieldValues) (key : Utf8) (v : Value) (spare : ℕ) → with_elements (behind_name begun name ++ length_place) (spell_fields_as readable before in_variant) ≡ Ok old
      → Halts (length key + 2 + size_as readable v) spare (with_element old key (named key (spell_as readable v in_variant))) h → IsUnder (at_key name) h g → IsPlaced (halt_view g) f
      → Fails (size_as readable (structure_variant name (with_field before key v))) (spell_as readable (structure_variant name (fields_joined before (field_value key v after))) max_levels) f
  field_fails h g f before after key v spare so_far halts is placed =
      let r = named key (spell_as readable v in_variant) in
      let whole = fields_joined before (field_value key v after) in
      part_fails g f (length key + 2 + size_as readable v) (size_as readable (structure_variant name (with_field before key v))) spare (with_element old key (inside (at_key name) r)) (spell_as readable (structure_variant name whole) max_levels)
      (λ x e.
      let q = refused_inside (at_key name) old key r x e in
      variant_is name (λ inner. enclosed_at document inner (spell_fields_as readable whole)) free
      ∙ ap (λ y. result_map document (under name (result_map document y) >>= λ t. Ok (pair name t no_pairs))) (field_refused readable in_variant (behind_name begun name ++ length_place) old before after key v q.0 so_far q.1)
      ∙ ap Err q.2)
      (omega (arith, size_with_field readable before key v)) (under_halts (length key + 2 + size_as readable v) spare (at_key name) old key r h g is halts) placed

-- what is under the name is ended, its kind is written over its place, and the document is ended
pub pair_ends : {A : Type 0} (container : A → Tree) (bytes : A → Bytes) (k : ElementType) (begun old : Bytes) (name : Utf8) (r : Writing A) (start place inner : ℕ) → ((x : A) → enc (container x) ≡ enclosed (bytes x)) → ((x : A) → kind (container x) ≡ k)
    → start ≡ length begun → place ≡ length (begun ++ length_place) → inner ≡ length (behind_name begun name) → with_bytes bytes (behind_name begun name ++ length_place) r ≡ Ok old
    → with_tree begun (result_map document (under name (result_map container r) >>= λ t. Ok (pair name t no_pairs))) ≡ Ok (ended (patched (ended old inner) place (byte k ∷ [])) start)
pair_ends container bytes k begun old name r start place inner encloses kinds at here_is within so_far =
    let m = map_ok (λ x. (behind_name begun name ++ length_place) ++ bytes x) r old so_far in
    let t = container m.0 in
    let value : behind_name begun name ++ enc t ≡ ended old inner =
    ok_is (behind_name begun name ++ enc t) (ended old inner)
    (ap (λ y. with_tree (behind_name begun name) (result_map container y)) (sym m.1) ∙ containers container bytes (behind_name begun name) old r inner (length old + 1 - inner) encloses within refl so_far) in
    let filled : (begun ++ length_place) ++ element k name (enc t) ≡ patched (ended old inner) place (byte k ∷ []) =
    sym (kind_over (begun ++ length_place) name (enc t) k) ∙ (λ i. patched (value i) (sym here_is i) (byte k ∷ [])) in
    let pairs : with_elements (begun ++ length_place) (under name (result_map container r) >>= λ u. Ok (pair name u no_pairs)) ≡ Ok (patched (ended old inner) place (byte k ∷ [])) =
    ap (λ y. with_elements (begun ++ length_place) (under name (result_map container y) >>= λ u. Ok (pair name u no_pairs))) m.1
    ∙ ap (λ b. Ok ((begun ++ length_place) ++ b)) (append-nil (element (kind t) name (enc t)))
    ∙ ap (λ x. Ok ((begun ++ length_place) ++ element x name (enc t))) (kinds m.0)
    ∙ ap Ok filled in
    let mid = patched (ended old inner) place (byte k ∷ []) in
    containers document elements begun mid (under name (result_map container r) >>= λ u. Ok (pair name u no_pairs)) start (length mid + 1 - start) (λ ps. refl) at refl pairs

module _ (readable : Bool) (begun old : Bytes) (name : Utf8) (free : has_zero name ≡ false) (start place inner : ℕ) (at : start ≡ length begun) (here_is : place ≡ length (begun ++ length_place)) (within : inner ≡ length (behind_name begun name)) where
  -- all values of a variant
  pub items_end : (vs : Items) → with_array_elements (behind_name begun name ++ length_place) 0 (spell_items_as readable 0 vs in_variant) ≡ Ok old
      → with_tree begun (spell_as readable (tuple_variant name vs) max_levels) ≡ Ok (ended (patched (ended old inner) place (byte Array ∷ [])) start)
  items_end vs so_far =
      ap (with_tree begun) (variant_is name (λ inner. enclosed_at array inner (spell_items_as readable 0 vs)) free)
      ∙ pair_ends array (array_elements 0) Array begun old name (spell_items_as readable 0 vs in_variant) start place inner (λ ts. refl) (λ ts. refl) at here_is within so_far

  pub items_length : (vs : Items) → with_array_elements (behind_name begun name ++ length_place) 0 (spell_items_as readable 0 vs in_variant) ≡ Ok old → length old + 2 - start ≡ size_as readable (tuple_variant name vs)
  items_length vs so_far =
      omega (arith, at, length-with_array_elements readable (behind_name begun name ++ length_place) old 0 vs in_variant so_far, length-append (behind_name begun name) length_place, length-append (begun ++ length_place) (front name), length-append begun length_place, length-append name (0 ∷ []))

  -- all fields of a variant
  pub fields_end : (fs : FieldValues) → with_elements (behind_name begun name ++ length_place) (spell_fields_as readable fs in_variant) ≡ Ok old
      → with_tree begun (spell_as readable (structure_variant name fs) max_levels) ≡ Ok (ended (patched (ended old inner) place (byte EmbeddedDocument ∷ [])) start)
  fields_end fs so_far =
      ap (with_tree begun) (variant_is name (λ inner. enclosed_at document inner (spell_fields_as readable fs)) free)
      ∙ pair_ends document elements EmbeddedDocument begun old name (spell_fields_as readable fs in_variant) start place inner (λ ps. refl) (λ ps. refl) at here_is within so_far

  pub fields_length : (fs : FieldValues) → with_elements (behind_name begun name ++ length_place) (spell_fields_as readable fs in_variant) ≡ Ok old → length old + 2 - start ≡ size_as readable (structure_variant name fs)
  fields_length fs so_far =
      omega (arith, at, length-with_elements readable (behind_name begun name ++ length_place) old fs in_variant so_far, length-append (behind_name begun name) length_place, length-append (begun ++ length_place) (front name), length-append begun length_place, length-append name (0 ∷ []))

-- what is written is as long as its size
pub written_fits : (readable : Bool) (v : Value) (begun new : Bytes) (start : ℕ) → start ≡ length begun → with_tree begun (spell_as readable v max_levels) ≡ Ok new → length new - start ≤ max_bytes → size_as readable v ≤ max_bytes
written_fits readable v begun new start at e fits = omega (arith, at, fits, length-with_bytes enc (spell_as readable v max_levels) (size_as readable v) begun new (length-spell readable v max_levels) e)
