-- A document or an array at the leaf of its kind, and a scope.
use Rattle.std.proofs.Common.{◌≡◌, Bool, true, false, Option, Some, None, Ok, Err, refl, ap, sym, subst, ◌∙◌}
use Rattle.std.specs.Prelude.{nat_eq, option_and_then, if◌then◌else◌}
use Rattle.std.specs.Cmp.{unsigned_Decides}
use Rattle.bson_kinds.specs.Kind.{byte}
use Rattle.bson_kinds.specs.Outcome.{◌>>=◌}
use Rattle.bson_kinds.specs.Prover.KindBytes.{same_byte}
use Rattle.bson_base.specs.Sound.{max_levels}
use Rattle.bson_kinds.specs.Text.{Utf8}
use Rattle.bson_base.specs.Tree.{Tree, document, javascript_code_with_scope, Pairs, kind, enc}
use Rattle.bson_kinds.specs.declared.element_type.ElementType.{ElementType}
use Rattle.bson_kinds.proofs.Outcomes.{map_ok, bind_ok}
use Rattle.bson_rawdoc.specs.Node as node
use Rattle.bson_rawdoc.specs.Node.{Node, extended, ended, opens}
use Rattle.bson_kinds.specs.Piece.{Piece, made}
use Rattle.bson_shape.specs.declared.leaf.Leaf.{Leaf}
use Rattle.bson_shape.specs.declared.leaf.Leaf.TheVariants.{RawDocument, RawArray, RawBson}
use Rattle.bson_values.specs.Cause.{invalid_type}
use Rattle.bson_values.specs.Refusal.{ReadFault, Refusal, under}
use Rattle.bson_values.specs.Stop.{stop_view}
use Rattle.bson_values.specs.ErrorView.{read_fault}
use Rattle.bson_values.specs.declared.de.Fault.{Fault}
use Rattle.bson_values.specs.declared.stop.Stop.{Stop}
use Rattle.bson_laws.specs.Assembled.{assembled_tree, one_level, looked_at, scope_of}
use Rattle.bson_laws.specs.Judged.{Reading, refused, judged, scope_key}
use Rattle.bson_laws.specs.ReadsRaw.{raw_value_of}
use Rattle.bson_laws.specs.TreeRaw.{held_scope, as_reading, built_of, read_built, in_bytes, built_container, built_value, tree_raw_value_of}
use Rattle.bson_laws.specs.Unmarked.{with_document}
use Rattle.bson_laws.proofs.Sizes.{under_ok}
use Rattle.bson_laws.proofs.Tame.{judged_is}
use Rattle.bson_met.specs.Gives.{RefusesAs}
use Rattle.bson_met.specs.OpenedView.{extended_view}
use Rattle.bson_met.specs.ValueView.{value_view}
use Rattle.bson_met.specs.declared.containers.MetArray.{MetArray}
use Rattle.bson_met.specs.declared.containers.MetDocument.{MetDocument}
use Rattle.bson_met.specs.declared.opened.Extended.{Extended}
use Rattle.bson_met.specs.declared.opened.Extended.TheVariants.{JavaScriptCodeWithScope}
use Rattle.bson_met.specs.declared.opened.Scope.{Scope}
use Rattle.bson_met.specs.declared.text.MetText.{MetText}
use Rattle.bson_met.specs.declared.value.Value as met
use Rattle.bson_met.specs.declared.value.Value.TheVariants as values
use Rattle.bson_met.specs.declared.value.Value.TheVariants.{Document, Array}
use Rattle.bson_met.proofs.Refusals.{StopsAs}
use Rattle.bson_raw_parts.specs.BuiltView.{raw_made}
use Rattle.bson_raw_builder.specs.RawTreeView.{IsRaw, raw_at, or_not_borrowed, scope_tree, scoped_expected}
use Rattle.bson_raw_builder.proofs.RawTrees.{reading_is, whole_tree}

-- ---- leaves

-- the third of the leaves
pub raw_leaf : (l : Leaf) → IsRaw l → (l ≡ RawDocument → ⊥) → (l ≡ RawArray → ⊥) → l ≡ RawBson
raw_leaf RawDocument r d a = absurd (d refl)
raw_leaf RawArray r d a = absurd (a refl)
raw_leaf RawBson r d a = refl
raw_leaf l r d a = absurd r

-- ---- a document or an array at the leaf of its kind

apart : {A B C : Type 0} (r : Reading A) (f : A → Reading B) (g : B → Reading C) → (r >>= λ x. f x >>= g) ≡ ((r >>= f) >>= g)
apart (Ok x) f g = refl
apart (Err e) f g = refl

-- it is built, and then judged by its kind
pub raw_apart : (k : ElementType) (n : Node) → raw_at k n ≡ ((judged n >>= built_container) >>= in_bytes k (raw_made k))
raw_apart k n = apart (judged n) built_container (in_bytes k (raw_made k))

pub of_this_kind : (k : ElementType) (t : Tree) → kind t ≡ k → in_bytes k (raw_made k) t ≡ Ok (raw_made (kind t) (made (enc t)))
of_this_kind k t is =
    ap (λ b. if b then Ok (raw_made k (made (enc t))) else refused (invalid_type (kind t))) ((unsigned_Decides (byte (kind t)) (byte k)).1 (ap byte is))
    ∙ ap (λ l. Ok (raw_made l (made (enc t)))) (sym is)

pub of_other_kind : (k : ElementType) (t : Tree) → (kind t ≡ k → ⊥) → in_bytes k (raw_made k) t ≡ refused (invalid_type (kind t))
of_other_kind k t other = by_case (nat_eq (byte (kind t)) (byte k)) refl where
  by_case : (b : Bool) → nat_eq (byte (kind t)) (byte k) ≡ b → (if b then Ok (raw_made k (made (enc t))) else refused (invalid_type (kind t))) ≡ refused (invalid_type (kind t))
  by_case true e = absurd (other (same_byte (kind t) k ((unsigned_Decides (byte (kind t)) (byte k)).0 e)))
  by_case false e = refl

-- ---- scopes

held_is : (o : Option Tree) (t : Tree) → or_not_borrowed o ≡ Ok t → o ≡ Some t
held_is None t e = absurd cc
held_is (Some u) t e = ap Some cc

module _ (code : Piece) (n : Node) where
  -- by the tree that its scope is
  pub scoped_built : (ps : Pairs) → scope_tree n ≡ Ok (document ps) → scoped_expected code n ≡ (as_reading (assembled_tree (javascript_code_with_scope code.bytes ps)) >>= built_value)
  scoped_built ps e =
      let m = bind_ok (under scope_key (judged n)) (λ m. or_not_borrowed (held_scope m)) (document ps) e in
      let same = judged_is n m.0 (under_ok scope_key (judged n) m.0 m.1) in
      let held = ap held_scope same ∙ held_is (held_scope m.0) (document ps) m.2 in
      ap (λ r. r >>= λ _. read_built (extended (node.javascript_code_with_scope code n) ended) >>= built_value) m.1
      ∙ ap (λ o. built_of (option_and_then (with_document code.bytes) o) >>= built_value) held

  none_built : (o : Option Tree) (r : Refusal ReadFault) → or_not_borrowed o ≡ Err r → (built_of (option_and_then (with_document code.bytes) o) >>= built_value) ≡ Err r
  none_built None r e = ap Err cc
  none_built (Some t) r e = absurd cc

  scoped_refused : (r : Refusal ReadFault) → scope_tree n ≡ Err r → scoped_expected code n ≡ Err r
  scoped_refused r e = by_case (under scope_key (judged n)) refl e where
    by_case : (u : Reading Node) → under scope_key (judged n) ≡ u → (u >>= λ m. or_not_borrowed (held_scope m)) ≡ Err r
        → (u >>= λ _. read_built (extended (node.javascript_code_with_scope code n) ended) >>= built_value) ≡ Err r
    by_case (Err x) is h = ap Err cc
    by_case (Ok m) is h = none_built (held_scope n) r (subst (λ k. or_not_borrowed (held_scope k) ≡ Err r) (sym (judged_is n m (under_ok scope_key (judged n) m is))) h)

  refuses : (o : Option (Refusal ReadFault)) → RefusesAs o (scope_tree n) → RefusesAs o (scoped_expected code n)
  refuses None h = tt
  refuses (Some r) h = scoped_refused r h

  pub scoped_stops : (s : Stop Fault) → StopsAs s (scope_tree n) → StopsAs s (scoped_expected code n)
  scoped_stops s h = refuses (stop_view read_fault s) h

-- what is built of a code with a scope is one, with the same code
pub scoped_is : (text : Utf8) (ps : Pairs) (u : Tree) → as_reading (assembled_tree (javascript_code_with_scope text ps)) ≡ Ok u → (scope : Pairs) × (u ≡ javascript_code_with_scope text scope)
scoped_is text ps u e =
    let whole = whole_tree (javascript_code_with_scope text ps) u tt (reading_is (assembled_tree (javascript_code_with_scope text ps)) u e) in
    let m = map_ok (javascript_code_with_scope text) (one_level (looked_at ps) max_levels >>= scope_of) u whole.0 in
    (m.0, sym m.2)

-- an extended value without a scope is as it is in bytes
pub scalar_alike : (x : Extended) → ((code : MetText) (scope : Scope) → x ≡ JavaScriptCodeWithScope code scope → ⊥) → tree_raw_value_of (opens (extended_view x)) ≡ raw_value_of (opens (extended_view x))
scalar_alike (JavaScriptCodeWithScope code scope) h = absurd (h code scope refl)
scalar_alike x h = refl

-- a value that is no document, no array and not extended is as it is in bytes
pub plain_alike : (v : met.Value) → ((d : MetDocument) → v ≡ Document d → ⊥) → ((a : MetArray) → v ≡ Array a → ⊥) → ((x : Extended) → v ≡ values.Extended x → ⊥) → tree_raw_value_of (value_view v) ≡ raw_value_of (value_view v)
plain_alike (Document d) h g e = absurd (h d refl)
plain_alike (Array a) h g e = absurd (g a refl)
plain_alike (values.Extended x) h g e = absurd (e x refl)
plain_alike v h g e = refl
