-- The hash table stays that of the pairs.
use Rattle.std.proofs.Common.{◌≡◌, ℕ, List, [], ◌∷◌, ◌++◌, false, Option, Some, None, ap, sym, subst, ◌∙◌, string_bytes}
use Rattle.std.specs.Prelude.{remove, is_some}
use Rattle.std.specs.List.{list_any, IsDistinct}
use Rattle.std.specs.Str.{bytes_eq}
use Rattle.std.proofs.lemmas.List.{map-append}
use Rattle.std.proofs.lemmas.Map.Keys.{IsDistinct-push}
use Rattle.bson_kinds.specs.Text.{Utf8}
use Rattle.bson_key_map.specs.Keys.{key_texts}
use Rattle.bson_key_map.specs.Stored.{IsTableOf}
use Rattle.bson_key_map.specs.declared.pair.Pair.{Pair}
use Rattle.bson_key_map.proofs.Texts.{bytes_eq_equiv, distinct_removed, remove-map}

-- what a map keeps true of its fields
abbrev pub IsKept : {V : Type 0} → Option (List Utf8) → List (Pair V) → Type 0
IsKept table ps = IsDistinct bytes_eq (key_texts ps) × IsTableOf table ps

module _ {V : Type 0} where
  table_same : (t : Option (List Utf8)) (ps qs : List (Pair V)) → key_texts qs ≡ key_texts ps → IsTableOf t ps → IsTableOf t qs
  table_same None ps qs e h = tt
  table_same (Some texts) ps qs e h = h ∙ sym e

  -- pairs of the same keys
  pub kept_same : (t : Option (List Utf8)) (ps qs : List (Pair V)) → key_texts qs ≡ key_texts ps → IsKept t ps → IsKept t qs
  kept_same t ps qs e h = (subst (IsDistinct bytes_eq) (sym e) h.0, table_same t ps qs e h.1)

  -- no table
  pub none_kept : (t : Option (List Utf8)) (ps : List (Pair V)) → is_some t ≡ false → IsTableOf t ps
  none_kept None ps e = tt
  none_kept (Some texts) ps e = absurd cc

  -- a pair is removed, and its key
  pub removed_distinct : (ps : List (Pair V)) (i : ℕ) → IsDistinct bytes_eq (key_texts ps) → IsDistinct bytes_eq (key_texts (remove ps i))
  removed_distinct ps i h = subst (IsDistinct bytes_eq) (remove-map (λ p. string_bytes p.key) ps i) (distinct_removed (key_texts ps) i h)

  pub removed_texts : (ts us : List Utf8) (ps : List (Pair V)) (i : ℕ) → ts ≡ key_texts ps → us ≡ remove ts i → us ≡ key_texts (remove ps i)
  removed_texts ts us ps i is new = new ∙ ap (λ xs. remove xs i) is ∙ remove-map (λ p. string_bytes p.key) ps i

  -- a new pair goes last, and its key
  pub pushed_distinct : (ps : List (Pair V)) (p : Pair V) → IsDistinct bytes_eq (key_texts ps) → list_any (bytes_eq (string_bytes p.key)) (key_texts ps) ≡ false → IsDistinct bytes_eq (key_texts (ps ++ p ∷ []))
  pushed_distinct ps p h new =
      subst (IsDistinct bytes_eq) (sym (map-append (λ q. string_bytes q.key) ps (p ∷ []))) (IsDistinct-push bytes_eq_equiv (key_texts ps) (string_bytes p.key) h new)

  pub pushed_texts : (ps : List (Pair V)) (p : Pair V) → key_texts ps ++ string_bytes p.key ∷ [] ≡ key_texts (ps ++ p ∷ [])
  pushed_texts ps p = sym (map-append (λ q. string_bytes q.key) ps (p ∷ []))
