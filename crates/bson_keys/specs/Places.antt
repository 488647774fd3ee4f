-- The places of texts among keys. Source: this library's own types.
use Rattle.std.specs.Prelude.{◌≡◌, ◌+◌, ℕ, List, Option, Some, None}
use Rattle.std.specs.Borrow.{Bor}
use Rattle.std.specs.BTreeMap.{BTreeMap, get_by}
use Rattle.std.specs.Cmp.Lexicographic.{slice_cmp}
use Rattle.std.specs.Ordering.{nat_cmp, ordering_then}
use Rattle.bson_kinds.specs.Text.{Utf8}
use Rattle.bson_keys.specs.Hashes.{second_hash_of}
use Rattle.bson_kinds.specs.Places.{place_among}

-- the place that a B-tree, ordered by second hashes and then by texts, has for a text
abbrev pub place_in_tree : BTreeMap (ℕ × Bor Utf8) ℕ → Utf8 → Option ℕ
place_in_tree tree text = get_by (λ k. ordering_then (nat_cmp (second_hash_of text) k.0) (slice_cmp nat_cmp text k.1.now)) tree

-- The B-tree has for each text its place among the keys.
abbrev pub FindsAll : BTreeMap (ℕ × Bor Utf8) ℕ → List Utf8 → Type 0
FindsAll tree keys = (text : Utf8) → place_in_tree tree text ≡ place_among keys text

-- the place that was found, and this one where none was
abbrev pub place_or : ℕ → Option ℕ → ℕ
place_or place (Some found) = found
place_or place None = place

-- the place after all others, where a key without a place was given this one
abbrev pub next_place : ℕ → Option ℕ → ℕ
next_place place (Some found) = place
next_place place None = place + 1
