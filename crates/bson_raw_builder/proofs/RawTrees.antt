-- A whole value that is built, by the tree that it is built as.
use Rattle.std.proofs.Common.{◌≡◌, ℕ, ◌≤◌, length, Bool, true, false, cond, Option, Ok, Err, refl, ap, sym, subst, ◌∙◌, arith}
use Rattle.std.specs.Prelude.{nat_lt}
use Rattle.std.proofs.lemmas.Bool.Decides.{nat_tests}
use Rattle.bson_base.specs.BsonView.{trees_of}
use Rattle.bson_kinds.specs.Outcome.{◌>>=◌, result_map}
use Rattle.bson_base.specs.Sound.{max_levels, max_bytes}
use Rattle.bson_kinds.specs.Text.{Utf8}
use Rattle.bson_base.specs.Tree.{Tree, document, array, raw, Pairs, no_pairs, pair, Trees, kind, enc}
use Rattle.bson_kinds.proofs.Outcomes.{ok_is, map_ok, bind_ok}
use Rattle.bson_rawdoc.specs.Node as node
use Rattle.bson_rawdoc.specs.Node.{Whole, of_bytes, of_tree, of_opening, Nodes}
use Rattle.bson_kinds.specs.Piece.{made}
use Rattle.bson_values.specs.Cause.{Cause, too_long}
use Rattle.bson_values.specs.Wrapper.{of_key}
use Rattle.bson_values.specs.declared.wrapper.Wrapper.{Wrapper}
use Rattle.bson_laws.specs.Assembled.{Building, RawBytes, raw_bytes, stays, becomes, looked_tree, one_level, built, looked_at, built_pairs, built_trees, within_limit, assembled, assembled_tree}
use Rattle.bson_laws.specs.TreeRaw.{held_whole, opened_pairs, as_reading, built_of, read_built, built_value}
use Rattle.bson_met.specs.ContainerView.{is_opening, array_whole_at}
use Rattle.bson_met.specs.declared.containers.ArrayPlace.{ArrayPlace}
use Rattle.bson_met.specs.declared.containers.ArrayPlace.TheVariants as arrays
use Rattle.bson_raw_parts.specs.FirstKeyView.{said_of}
use Rattle.bson_raw_parts.specs.Putting.{body_built, code_built}
use Rattle.bson_raw_parts.specs.BuiltView.{IsRawless, IsWhole, IsContainer, raw_made}
use Rattle.bson_raw_parts.specs.declared.first_keys.FirstKey.TheVariants.{Body, Code, Ordinary}
use Rattle.bson_raw_builder.proofs.FirstKeys.{looked_body, looked_code, looked_ordinary}
use Rattle.bson_raw_parts.proofs.Rawless.{built_rawless}

-- ---- its bytes are those of the tree

limited : (b : Bool) (u : Tree) → cond b (Err too_long) (Ok (raw_bytes u)) ≡ result_map raw_bytes (result_map (λ _. u) (cond b (Err too_long) (Ok (raw_bytes u))))
limited true u = refl
limited false u = refl

after_building : (r : Building Tree) → (r >>= within_limit) ≡ result_map raw_bytes (r >>= λ u. result_map (λ _. u) (within_limit u))
after_building (Ok u) = limited (nat_lt max_bytes (length (enc u))) u
after_building (Err c) = refl

assembled_alike : (t : Tree) → assembled t ≡ result_map raw_bytes (assembled_tree t)
assembled_alike t = after_building (built t max_levels)

map_refused : {A B : Type 0} (f : A → B) (r : Building A) (c : Cause) → result_map f r ≡ Err c → r ≡ Err c
map_refused f (Ok x) c e = absurd cc
map_refused f (Err d) c e = ap Err cc

pub assembled_refused : (t : Tree) (c : Cause) → assembled t ≡ Err c → assembled_tree t ≡ Err c
assembled_refused t c e = map_refused raw_bytes (assembled_tree t) c (sym (assembled_alike t) ∙ e)

-- ---- it is no longer than a document may be

not_over : (a b : ℕ) → nat_lt a b ≡ false → b ≤ a
not_over a b e = grind (arith, nat_tests)

within : (b : Bool) (x u : Tree) → result_map (λ _. x) (cond b (Err too_long) (Ok (raw_bytes x))) ≡ Ok u → (b ≡ false) × (x ≡ u)
within true x u e = absurd cc
within false x u e = (refl, ok_is x u e)

pub whole_tree : (t u : Tree) → IsRawless t → assembled_tree t ≡ Ok u → (built t max_levels ≡ Ok u) × IsWhole u
whole_tree t u r e =
    let b = bind_ok (built t max_levels) (λ x. result_map (λ _. x) (within_limit x)) u e in
    let w = within (nat_lt max_bytes (length (enc b.0))) b.0 u b.2 in
    let is : built t max_levels ≡ Ok u = b.1 ∙ ap Ok w.1 in
    (is, (built_rawless t max_levels u r is, subst (λ x. length (enc x) ≤ max_bytes) w.1 (not_over max_bytes (length (enc b.0)) w.0)))

pub assembled_whole : (t : Tree) (b : RawBytes) → IsRawless t → assembled t ≡ Ok b → (u : Tree) × (assembled_tree t ≡ Ok u) × (b ≡ raw_bytes u) × IsWhole u
assembled_whole t b r e =
    let m = map_ok raw_bytes (assembled_tree t) b (sym (assembled_alike t) ∙ e) in
    (m.0, m.1, sym m.2, (whole_tree t m.0 r m.1).1)

-- ---- what a document is built as, by its first key

pub reading_is : (r : Building Tree) (t : Tree) → as_reading r ≡ Ok t → r ≡ Ok t
reading_is (Ok u) t e = ap Ok (ok_is u t e)
reading_is (Err c) t e = absurd cc

document_looked : (ps : Pairs) (t : Tree) → as_reading (assembled_tree (document ps)) ≡ Ok t → result_map looked_tree (looked_at ps 199) ≡ Ok t
document_looked ps t e = (whole_tree (document ps) t tt (reading_is (assembled_tree (document ps)) t e)).0

became_is : (r : Building Tree) (t : Tree) → result_map looked_tree (result_map becomes r) ≡ Ok t → r ≡ Ok t
became_is (Ok u) t e = ap Ok (ok_is u t e)
became_is (Err c) t e = absurd cc

stays_is : (r : Building Pairs) (t : Tree) → result_map looked_tree (result_map stays r) ≡ Ok t → IsContainer (kind t)
stays_is (Ok ps) t e = subst (λ x. IsContainer (kind x)) (ok_is (document ps) t e) tt
stays_is (Err c) t e = absurd cc

pub empty_built : (ps : Pairs) (t : Tree) → ps ≡ no_pairs → as_reading (assembled_tree (document ps)) ≡ Ok t → IsContainer (kind t)
empty_built ps t is e = stays_is (Ok no_pairs) t (ap (λ p. result_map looked_tree (looked_at p 199)) (sym is) ∙ document_looked ps t e)

module _ (ps rest : Pairs) (key : Utf8) (v : Tree) (o : Option Wrapper) (t : Tree) (is : ps ≡ pair key v rest) (known : of_key key ≡ o) (e : as_reading (assembled_tree (document ps)) ≡ Ok t) where
  pub body_expected : (w : Wrapper) → said_of o ≡ Body w → body_built w v ≡ Ok t
  body_expected w said = became_is (body_built w v) t (ap (result_map looked_tree) (sym (looked_body ps rest key v 199 w o is known said)) ∙ document_looked ps t e)

  pub code_expected : said_of o ≡ Code → code_built v rest 199 ≡ Ok t
  code_expected said = became_is (code_built v rest 199) t (ap (result_map looked_tree) (sym (looked_code ps rest key v 199 o is known said)) ∙ document_looked ps t e)

  pub document_expected : said_of o ≡ Ordinary → IsContainer (kind t)
  document_expected said = stays_is (built_pairs ps 199) t (ap (result_map looked_tree) (sym (looked_ordinary ps rest key v 199 o is known said)) ∙ document_looked ps t e)

-- ---- what is built of an array

array_is : (ts : Trees) (t : Tree) → as_reading (assembled_tree (array ts)) ≡ Ok t → IsContainer (kind t)
array_is ts t e =
    let m = map_ok array (one_level (built_trees ts) max_levels) t (whole_tree (array ts) t tt (reading_is (assembled_tree (array ts)) t e)).0 in
    subst (λ x. IsContainer (kind x)) m.2 tt

pub array_container : (a : ArrayPlace) (t : Tree) → built_of (held_whole (array_whole_at a)) ≡ Ok t → IsContainer (kind t)
array_container (arrays.Bytes b) t e = absurd cc
array_container (arrays.Values v) t e = array_is (trees_of v.now.items) t e

-- a document that is opened, and one that is not
pub opened_built : (w : Whole) (ns : Nodes) → is_opening w ≡ true → read_built (node.document w ns) ≡ (opened_pairs ns no_pairs >>= λ ps. as_reading (assembled_tree (document ps)))
opened_built of_opening ns h = refl
opened_built (of_tree t) ns h = absurd cc
opened_built (of_bytes b) ns h = absurd cc

pub held_built : (w : Whole) (ns : Nodes) (o : Option Tree) → is_opening w ≡ false → o ≡ held_whole w → read_built (node.document w ns) ≡ built_of o
held_built of_opening ns o h is = absurd cc
held_built (of_tree t) ns o h is = ap built_of (sym is)
held_built (of_bytes b) ns o h is = ap built_of (sym is)

-- ---- documents and arrays in their bytes

pub container_built : (t : Tree) → IsRawless t → IsContainer (kind t) → built_value t ≡ Ok (raw_made (kind t) (made (enc t)))
container_built (document ps) r c = refl
container_built (array ts) r c = refl
container_built (raw k b) r c = absurd r
container_built t r c = absurd c
