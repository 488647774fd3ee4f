-- What the calls of the writer of a document or an array answer, by what they appended.
use Rattle.std.proofs.Common.{Bool, ◌≡◌, ℕ, ◌+◌, ◌-◌, ◌≤◌, [], ◌∷◌, ◌++◌, length, Ok, refl, ap, sym, subst, ◌∙◌, arith}
use Rattle.std.specs.Fmt.{decimal}
use Rattle.std.proofs.lemmas.List.{length-append}
use Rattle.bson_kinds.specs.Outcome.{result_map}
use Rattle.bson_base.specs.Sound.{max_bytes, max_levels}
use Rattle.bson_kinds.specs.Text.{Bytes}
use Rattle.bson_base.specs.Tree.{document, array, elements, array_elements, le32}
use Rattle.bson_values.specs.Refusal.{WriteFault, Failure, under_index}
use Rattle.bson_values.specs.Stop.{IsPlaced}
use Rattle.bson_values.specs.Value.{Value, sequence, map, Items, item, Entries, entry}
use Rattle.bson_io.specs.Output.{Output, patched}
use Rattle.bson_laws.specs.Means.{key_text}
use Rattle.bson_laws.specs.Spell.{spell_as, spell_items_as, spell_key, spell_entries_as, key_size, size_as}
use Rattle.bson_writing.specs.Halting.{Halts, halt_view}
use Rattle.bson_writing.specs.Joined.{items_joined, entries_joined, with_item, with_entry, index_after}
use Rattle.bson_writing.specs.Levels.{in_whole}
use Rattle.bson_writing.specs.declared.halt.Halt.{Halt}
use Rattle.bson_ser_stream.specs.Writing.{with_tree, with_element, with_entry as with_entry_element, with_elements, with_array_elements, length_place, Fails}
use Rattle.bson_ser_stream.specs.Halting.{Ends, EndHalts}
use Rattle.bson_ser_stream.proofs.Containers.{containers}
use Rattle.bson_ser_stream.proofs.Written.{length-with_array_elements, length-with_entries}
use Rattle.bson_ser_parts.proofs.Joined.{item_refused, size_with_item, entry_refused, size_with_entry}
use Rattle.bson_ser_parts.proofs.Answered.{part_fails, end_fails}

module _ (readable : Bool) (begun old : Bytes) where
  -- a value is refused
  pub item_fails : (h : Halt) (f : Failure WriteFault) (before after : Items) (v : Value) (spare : ℕ) → with_array_elements (begun ++ length_place) 0 (spell_items_as readable 0 before in_whole) ≡ Ok old
      → Halts (length (decimal (index_after 0 before)) + 2 + size_as readable v) spare (with_element old (decimal (index_after 0 before)) (under_index (index_after 0 before) (spell_as readable v in_whole))) h → IsPlaced (halt_view h) f
      → Fails (size_as readable (sequence (with_item before v))) (spell_as readable (sequence (items_joined before (item v after))) max_levels) f
  item_fails h f before after v spare so_far halts is =
      part_fails h f (length (decimal (index_after 0 before)) + 2 + size_as readable v) (size_as readable (sequence (with_item before v))) spare
      (with_element old (decimal (index_after 0 before)) (under_index (index_after 0 before) (spell_as readable v in_whole))) (spell_as readable (sequence (items_joined before (item v after))) max_levels)
      (λ r e. ap (result_map array) (item_refused readable in_whole (begun ++ length_place) old before after v r so_far e)) (omega (arith, size_with_item readable 0 before v)) halts is

  -- an entry is refused
  pub entry_fails : (h : Halt) (f : Failure WriteFault) (before after : Entries) (k v : Value) (spare : ℕ) → with_elements (begun ++ length_place) (spell_entries_as readable before in_whole) ≡ Ok old
      → Halts (key_size (key_text k) + 2 + size_as readable v) spare (with_entry_element old (spell_key k) (spell_as readable v in_whole)) h → IsPlaced (halt_view h) f
      → Fails (size_as readable (map (with_entry before k v))) (spell_as readable (map (entries_joined before (entry k v after))) max_levels) f
  entry_fails h f before after k v spare so_far halts is =
      part_fails h f (key_size (key_text k) + 2 + size_as readable v) (size_as readable (map (with_entry before k v))) spare
      (with_entry_element old (spell_key k) (spell_as readable v in_whole)) (spell_as readable (map (entries_joined before (entry k v after))) max_levels)
      (λ r e. ap (result_map document) (entry_refused readable in_whole (begun ++ length_place) old before after k v r so_far e)) (omega (arith, size_with_entry readable before k v)) halts is

  module _ (start : ℕ) (at : start ≡ length begun) where
    -- all values of an array
    module _ (vs : Items) (so_far : with_array_elements (begun ++ length_place) 0 (spell_items_as readable 0 vs in_whole) ≡ Ok old) where
      pub array_length : length old + 1 - start ≡ size_as readable (sequence vs)
      array_length = omega (arith, at, length-with_array_elements readable (begun ++ length_place) old 0 vs in_whole so_far, length-append begun length_place)

      pub array_ends : (mid new : Output) (before now : ℕ) → mid.bytes ≡ old → Ends mid new start before now → (with_tree begun (spell_as readable (sequence vs) max_levels) ≡ Ok new.bytes) × (size_as readable (sequence vs) ≤ max_bytes)
      array_ends mid new before now is ends =
          let made = subst (λ b. new.bytes ≡ patched (b ++ 0 ∷ []) start (le32 (length b + 1 - start))) is ends.bytes in
          let fits = subst (λ b. length b + 1 - start ≤ max_bytes) is ends.fits in (
            containers array (array_elements 0) begun old (spell_items_as readable 0 vs in_whole) start (length old + 1 - start) (λ ts. refl) at refl so_far ∙ ap Ok (sym made),
            omega (arith, fits, array_length),
          )

      pub array_unended : (mid : Output) (h : Halt) (f : Failure WriteFault) → mid.bytes ≡ old → EndHalts mid start h → IsPlaced (halt_view h) f → Fails (size_as readable (sequence vs)) (spell_as readable (sequence vs) max_levels) f
      array_unended mid h f is halts placed = end_fails h f mid start _ _ (ap (λ b. length b + 1 - start) is ∙ array_length) halts placed

    -- all entries of a document
    module _ (es : Entries) (so_far : with_elements (begun ++ length_place) (spell_entries_as readable es in_whole) ≡ Ok old) where
      pub document_length : length old + 1 - start ≡ size_as readable (map es)
      document_length = omega (arith, at, length-with_entries readable (begun ++ length_place) old es in_whole so_far, length-append begun length_place)

      pub document_ends : (mid new : Output) (before now : ℕ) → mid.bytes ≡ old → Ends mid new start before now → (with_tree begun (spell_as readable (map es) max_levels) ≡ Ok new.bytes) × (size_as readable (map es) ≤ max_bytes)
      document_ends mid new before now is ends =
          let made = subst (λ b. new.bytes ≡ patched (b ++ 0 ∷ []) start (le32 (length b + 1 - start))) is ends.bytes in
          let fits = subst (λ b. length b + 1 - start ≤ max_bytes) is ends.fits in (
            containers document elements begun old (spell_entries_as readable es in_whole) start (length old + 1 - start) (λ ps. refl) at refl so_far ∙ ap Ok (sym made),
            omega (arith, fits, document_length),
          )

      pub document_unended : (mid : Output) (h : Halt) (f : Failure WriteFault) → mid.bytes ≡ old → EndHalts mid start h → IsPlaced (halt_view h) f → Fails (size_as readable (map es)) (spell_as readable (map es) max_levels) f
      document_unended mid h f is halts placed = end_fails h f mid start _ _ (ap (λ b. length b + 1 - start) is ∙ document_length) halts placed
