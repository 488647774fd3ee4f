-- The laws of maps, from those of their values.
use Rattle.std.specs.Prelude.{◌≡◌, true, List, [], ◌∷◌, ◌++◌, Option, Some, None, option_map, Ok, Err, refl, string_bytes}
use Rattle.std.specs.Ordering.{match_ordering, ordering_reverse}
use Rattle.std.specs.declared.cmp.Ordering.{Ordering}
use Rattle.std.specs.declared.cmp.Ordering.TheVariants.{Less, Equal, Greater}
use Rattle.std.specs.String.{string_cmp, string_cmp_total}
use Rattle.std.specs.BTreeMap.{BTreeMap}
use Rattle.std.specs.Map.{keys_of}
use Rattle.std.specs.List.{All, AllByRecursion}
use Rattle.std.specs.List.Sorted.{IsStrictlySortedBy}
use Rattle.std.specs.Str.{is_utf8}
use Rattle.std.proofs.Common.{ap, ◌∙◌, sym, subst}
use Rattle.std.proofs.lemmas.List.{append_assoc}
use Rattle.std.proofs.lemmas.List.Elements.{All-head, All-tail}
use Rattle.std.proofs.lemmas.Map.Keys.{sorted_head, sorted_tail}
use Rattle.bson_kinds.specs.Outcome.{◌>>=◌, result_map}
use Rattle.bson_kinds.specs.Text.{Utf8}
use Rattle.bson_base.specs.Tree as tree
use Rattle.bson_base.specs.Tree.{Pairs, null}
use Rattle.bson_shape.specs.Form as form
use Rattle.bson_shape.specs.Form.{Form, leaf}
use Rattle.bson_shape.specs.declared.leaf.Leaf.TheVariants as leaves
use Rattle.bson_values.specs.Value.{Value, str, map, Entries, entry}
use Rattle.bson_laws.specs.Means.{means_entries, norm_entries}
use Rattle.bson_laws.proofs.FitsUnrolled.{EntriesFitIn, entry_in, map_in}
use Rattle.bson_type_data.specs.Answers.{Reading, Writing}
use Rattle.bson_traits.specs.Laws.{Returns, IsNeverNull}
use Rattle.bson_traits.specs.Maps.{Key, written_entries, written_map, pair_contents, map_contents, are_texts, inserted, taken_entries, taken_map, IsPairOf, IsMapOf}

-- what goes in behind all others
module _ {A C : Type 0} (c : A → C) where
  pushed : (o : Ordering) (x y z : List (Utf8 × C)) → ordering_reverse o ≡ Less → match_ordering o x y z ≡ z
  pushed Less x y z h = absurd (cc)
  pushed Equal x y z h = absurd (cc)
  pushed Greater x y z h = refl

  insert_last : (es : List (Key × A)) (k : Key) (x : A) → AllByRecursion (λ d. string_cmp d.0 k ≡ Less) es → inserted (map_contents c es) (string_bytes k) (c x) ≡ map_contents c (es ++ (k, x) ∷ [])
  insert_last [] k x h = refl
  insert_last (e ∷ es) k x h =
      pushed (string_cmp k e.0) _ _ _ (sym (string_cmp_total.antisymm e.0 k) ∙ h.0) ∙ ap (λ cs. pair_contents c e ∷ cs) (insert_last es k x h.1)

-- Entries fit, each key is a text, and what is read back of them goes in behind pairs whose keys are less.
pub record GivesEntries {A C : Type 0} (f : Form) (c : A → C) (t : Value → Reading C) (es : List (Key × A)) (vs : Entries) : Type 0 where
  pub fit : EntriesFitIn form.no_fields vs (leaf leaves.String) f
  pub texts : are_texts (norm_entries vs) ≡ true
  pub again : (done : List (Key × A)) → IsStrictlySortedBy string_cmp (keys_of (done ++ es)) → taken_entries t (map_contents c done) (norm_entries vs) ≡ Ok (map_contents c (done ++ es))

abbrev pub ReturnEntries : {A C : Type 0} → Form → (A → C) → (Value → Reading C) → List (Key × A) → Writing Entries → Type 0
ReturnEntries f c t es (Ok vs) = GivesEntries f c t es vs
ReturnEntries f c t es (Err e) = Unit {0}

all_at : {A : Type 0} (P : Key → Type 0) (done : List (Key × A)) (e : Key × A) (es : List (Key × A)) → AllByRecursion P (keys_of (done ++ e ∷ es)) → P e.0
all_at P [] e es h = h.0
all_at P (d ∷ done) e es h = all_at P done e es h.1

nil_right : {A : Type 0} (es : List (Key × A)) → es ≡ es ++ []
nil_right [] = refl
nil_right (e ∷ es) = ap (λ fs. e ∷ fs) (nil_right es)

-- those before the first of what is left are below it
below_first : {A : Type 0} (done : List (Key × A)) (e : Key × A) (es : List (Key × A)) → IsStrictlySortedBy string_cmp (keys_of (done ++ e ∷ es)) → AllByRecursion (λ d. string_cmp d.0 e.0 ≡ Less) done
below_first [] e es s = tt
below_first (d ∷ done) e es s = (all_at (λ k. string_cmp d.0 k ≡ Less) done e es (sorted_head string_cmp d.0 (keys_of (done ++ e ∷ es)) s), below_first done e es (sorted_tail string_cmp d.0 (keys_of (done ++ e ∷ es)) s))

entries_more : {A C : Type 0} (f : Form) (c : A → C) (t : Value → Reading C) (e : Key × A) (es : List (Key × A)) (r : Writing Value) (rs : Writing Entries) → is_utf8 (string_bytes e.0) ≡ true → Returns f (c e.1) t r
    → ReturnEntries f c t es rs → ReturnEntries f c t (e ∷ es) (r >>= λ v. result_map (entry (str (string_bytes e.0)) v) rs)
entries_more f c t e es (Err x) rs u a b = tt
entries_more f c t e es (Ok v) (Err x) u a b = tt
entries_more f c t e es (Ok v) (Ok vs) u a b =
    record {
      fit = entry_in form.no_fields (leaf leaves.String) f (str (string_bytes e.0)) v vs u a.fits b.fit;
      texts = b.texts;
      again = λ done s.
          let same : (done ++ e ∷ []) ++ es ≡ done ++ e ∷ es = append_assoc done (e ∷ []) es in
          ap (λ r. r >>= λ x. taken_entries t (inserted (map_contents c done) (string_bytes e.0) x) (norm_entries vs)) a.again
          ∙ ap (λ z. taken_entries t z (norm_entries vs)) (insert_last c done e.0 e.1 (below_first done e es s))
          ∙ b.again (done ++ e ∷ []) (subst (λ z. IsStrictlySortedBy string_cmp (keys_of z)) (sym same) s)
          ∙ ap (λ z. Ok (map_contents c z)) same;
    }

return_entries : {A C : Type 0} (w : A → Writing Value) (c : A → C) (t : Value → Reading C) (f : Form) (P : A → Type 0) → ((x : A) → P x → Returns f (c x) t (w x))
    → (es : List (Key × A)) → All (IsPairOf P) es → ReturnEntries f c t es (written_entries w es)
return_entries w c t f P law [] all = record { fit = tt; texts = refl; again = λ done s. ap (λ z. Ok (map_contents c z)) (nil_right done) }
return_entries w c t f P law (e ∷ es) all =
    let here : IsPairOf P e = All-head (IsPairOf P) e es all in
    entries_more f c t e es (w e.1) (written_entries w es) here.0 (law e.1 here.1) (return_entries w c t f P law es (All-tail (IsPairOf P) e es all))

map_of : {A C : Type 0} (f : Form) (c : A → C) (t : Value → Reading C) (es : List (Key × A)) (rs : Writing Entries) → IsStrictlySortedBy string_cmp (keys_of es) → ReturnEntries f c t es rs
    → Returns (form.map (leaf leaves.String) f) (map_contents c es) (taken_map t) (result_map map rs)
map_of f c t es (Err e) s a = tt
map_of f c t es (Ok vs) s a = record { fits = map_in form.no_fields (leaf leaves.String) f vs a.fit; again = rw (a.texts, a.again [] s) refl }

pub map_returns : {A C : Type 0} (w : A → Writing Value) (c : A → C) (t : Value → Reading C) (f : Form) (P : A → Type 0) → ((x : A) → P x → Returns f (c x) t (w x))
    → (m : BTreeMap Key A) → IsMapOf P m → Returns (form.map (leaf leaves.String) f) (map_contents c m.entries) (taken_map t) (written_map w m.entries)
map_returns w c t f P law m h = map_of f c t m.entries (written_entries w m.entries) h.0 (return_entries w c t f P law m.entries h.1)

-- a map means a document
document_not_null : (r : Option Pairs) → option_map tree.document r ≡ Some null → ⊥
document_not_null None e = cc
document_not_null (Some ps) e = cc

pub map_not_null : (r : Writing Entries) → IsNeverNull (result_map map r)
map_not_null (Err e) = tt
map_not_null (Ok es) = document_not_null (means_entries es)
