-- The entries of a map that is read, looked up by their keys.
use Rattle.std.proofs.Common.{◌≡◌, ℕ, zero, suc, ◌+◌, ◌<◌, List, [], ◌∷◌, ◌++◌, length, get_or, set, Bool, true, false, cond, Option, Some, None, Ok, IsUtf8, refl, ap, sym, subst, ◌∙◌, arith}
use Rattle.std.specs.Global.{Vec}
use Rattle.std.specs.Str.{bytes_eq}
use Rattle.std.proofs.lemmas.Bool.{false≢true}
use Rattle.std.proofs.lemmas.List.{length-append, length-set}
use Rattle.std.proofs.lemmas.Slice.Eq.{bytes_eq-Decides}
use Rattle.bson_kinds.specs.Text.{Utf8}
use Rattle.bson_shape.specs.Form.{Form}
use Rattle.bson_shape.specs.Makers.{is_text_key}
use Rattle.bson_shape.specs.ShapeView.{form_view}
use Rattle.bson_values.specs.Prover.Decided.{same_decides}
use Rattle.bson_values.specs.Same.{same}
use Rattle.bson_values.specs.Marked.{Marked, MarkedEntries, contents}
use Rattle.bson_values.specs.Value.{Value, entry}
use Rattle.bson_datum.specs.MarkedView.{marked}
use Rattle.bson_leaves.specs.KeyValues.{key_value}
use Rattle.bson_texts.specs.ListsMarked.{entries_marked}
use Rattle.bson_datum.specs.declared.datum.Entry.{Entry}
use Rattle.bson_laws.specs.ReadsLeaf.{put_entry}
use Rattle.std.specs.Prelude.{option_map}
use Rattle.bson_leaves.specs.EntriesView.{entry_place, IsIndexed}
use Rattle.bson_keys.specs.KeysView.{key_place, HasPlacesBelow}
use Rattle.bson_keys.specs.Places.{place_or, next_place}
use Rattle.bson_leaves.specs.declared.entries.Entries as code
use Rattle.bson_keys.specs.declared.places.MapKeys.{MapKeys}
use Rattle.bson_leaves.proofs.KeyTexts.{key_same}

-- the first place, or the other one
first_or : Option ℕ → Option ℕ → Option ℕ
first_or (Some i) other = Some i
first_or None other = other

abbrev first_of : Bool → Option ℕ → Option ℕ
first_of b o = cond b (Some 0) (option_map suc o)

-- where an entry is that goes behind all others
abbrev at_end : Bool → ℕ → Option ℕ
at_end b n = cond b (Some n) None

further_at_end : (b s : Bool) (n : ℕ) (o : Option ℕ) → first_of b (first_or o (at_end s n)) ≡ first_or (first_of b o) (at_end s (suc n))
unfolding first_or
further_at_end true s n o = refl
further_at_end false s n (Some i) = refl
further_at_end false true n None = refl
further_at_end false false n None = refl

place_behind : (es : List Entry) (e : Entry) (k : Value) → entry_place k (entries_marked (es ++ e ∷ [])) ≡ first_or (entry_place k (entries_marked es)) (at_end (same k (contents (marked e.key))) (length es))
unfolding first_or
place_behind [] e k = refl
place_behind (x ∷ es) e k = ap (first_of (same k (contents (marked x.key)))) (place_behind es e k) ∙ further_at_end (same k (contents (marked x.key))) (same k (contents (marked e.key))) (length es) (entry_place k (entries_marked es))

-- an entry whose key is at another place, and one whose key is the first
nowhere : (b : Bool) (o : Option ℕ) → first_of b o ≡ None → (b ≡ false) × (o ≡ None)
nowhere true o e = absurd cc
nowhere false (Some i) e = absurd cc
nowhere false None e = (refl, refl)

further : (b : Bool) (o : Option ℕ) (i : ℕ) → first_of b o ≡ Some (suc i) → (b ≡ false) × (o ≡ Some i)
further true o i e = let place : 0 ≡ suc i = cc in absurd (omega arith)
further false (Some j) i e = (refl, cc)
further false None i e = absurd cc

at_first : (b : Bool) (o : Option ℕ) → first_of b o ≡ Some 0 → b ≡ true
at_first true o e = refl
at_first false (Some j) e = absurd cc
at_first false None e = absurd cc

-- a place is one of the entries
pub place_within : (es : List Entry) (k : Value) (i : ℕ) → entry_place k (entries_marked es) ≡ Some i → i < length es
place_within [] k i e = absurd cc
place_within (x ∷ es) k zero e = omega arith
place_within (x ∷ es) k (suc i) e = omega (arith, place_within es k i (further (same k (contents (marked x.key))) (entry_place k (entries_marked es)) i e).1)

-- where a value was put in the place of another, the keys are where they were
pub place_set : (es : List Entry) (i : ℕ) (d e : Entry) (k : Value) → marked e.key ≡ marked (get_or es i d).key → entry_place k (entries_marked (set es i e)) ≡ entry_place k (entries_marked es)
place_set [] i d e k same_key = refl
place_set (x ∷ es) zero d e k same_key = ap (λ v. first_of (same k (contents v)) (entry_place k (entries_marked es))) same_key
place_set (x ∷ es) (suc i) d e k same_key = ap (first_of (same k (contents (marked x.key)))) (place_set es i d e k same_key)

abbrev put_or : Bool → MarkedEntries → MarkedEntries → MarkedEntries
put_or b here there = cond b here there

-- an entry whose key is there takes the value in its place
pub put_again : (es : List Entry) (i : ℕ) (d e : Entry) (k : Marked) → entry_place (contents k) (entries_marked es) ≡ Some i → marked e.key ≡ marked (get_or es i d).key → put_entry k (marked e.value) (entries_marked es) ≡ entries_marked (set es i e)
put_again [] i d e k there same_key = absurd cc
put_again (x ∷ es) zero d e k there same_key =
    ap (λ b. put_or b (entry (marked x.key) (marked e.value) (entries_marked es)) (entry (marked x.key) (marked x.value) (put_entry k (marked e.value) (entries_marked es)))) (at_first (same (contents k) (contents (marked x.key))) (entry_place (contents k) (entries_marked es)) there)
    ∙ ap (λ v. entry v (marked e.value) (entries_marked es)) (sym same_key)
put_again (x ∷ es) (suc i) d e k there same_key =
    let on = further (same (contents k) (contents (marked x.key))) (entry_place (contents k) (entries_marked es)) i there in
    ap (λ b. put_or b (entry (marked x.key) (marked e.value) (entries_marked es)) (entry (marked x.key) (marked x.value) (put_entry k (marked e.value) (entries_marked es)))) on.0
    ∙ ap (entry (marked x.key) (marked x.value)) (put_again es i d e k on.1 same_key)

-- another goes last
pub put_last : (es : List Entry) (e : Entry) → entry_place (contents (marked e.key)) (entries_marked es) ≡ None → put_entry (marked e.key) (marked e.value) (entries_marked es) ≡ entries_marked (es ++ e ∷ [])
put_last [] e none = refl
put_last (x ∷ es) e none =
    let k = marked e.key in
    let on = nowhere (same (contents k) (contents (marked x.key))) (entry_place (contents k) (entries_marked es)) none in
    ap (λ b. put_or b (entry (marked x.key) (marked e.value) (entries_marked es)) (entry (marked x.key) (marked x.value) (put_entry k (marked e.value) (entries_marked es)))) on.0
    ∙ ap (entry (marked x.key) (marked x.value)) (put_last es e on.1)

or_none : (o : Option ℕ) → first_or o None ≡ o
unfolding first_or
or_none (Some i) = refl
or_none None = refl

at_last : (n : ℕ) → first_or None (at_end true n) ≡ Some n
unfolding first_or
at_last n = refl

-- Behind the others is an entry with a new key, which was read from a text: each text has the place that it had, and that text the last.
pub place_more : (s : Form) (es : List Entry) (e : Entry) (text t : Utf8) (k : Value) → is_text_key s ≡ true → IsUtf8 text → IsUtf8 t → key_value s text ≡ Ok (contents (marked e.key)) → key_value s t ≡ Ok k
    → entry_place (contents (marked e.key)) (entries_marked es) ≡ None → cond (bytes_eq text t) (Some (length es)) (entry_place k (entries_marked es)) ≡ entry_place k (entries_marked (es ++ e ∷ []))
place_more s es e text t k is_key utf8 utf8t reads reads_t new = by_text (bytes_eq text t) refl ∙ sym (place_behind es e k)
  where
    by_same : (b : Bool) → same k (contents (marked e.key)) ≡ b → bytes_eq text t ≡ false → entry_place k (entries_marked es) ≡ first_or (entry_place k (entries_marked es)) (at_end b (length es))
    by_same true is other =
        let one : text ≡ t = key_same s text t k is_key utf8 utf8t (reads ∙ ap Ok (sym ((same_decides k (contents (marked e.key))).0 is))) reads_t in
        absurd (false≢true (sym other ∙ (bytes_eq-Decides text t).1 one))
    by_same false is other = sym (or_none (entry_place k (entries_marked es)))

    by_text : (b : Bool) → bytes_eq text t ≡ b → cond b (Some (length es)) (entry_place k (entries_marked es)) ≡ first_or (entry_place k (entries_marked es)) (at_end (same k (contents (marked e.key))) (length es))
    by_text false other = by_same (same k (contents (marked e.key))) refl other
    by_text true is =
        let texts : text ≡ t = (bytes_eq-Decides text t).0 is in
        let keys : k ≡ contents (marked e.key) = (let one : Ok k ≡ Ok (contents (marked e.key)) = sym reads_t ∙ ap (key_value s) (sym texts) ∙ reads in cc) in
        sym ((λ i. first_or (entry_place (keys i) (entries_marked es)) (at_end (same (keys i) (contents (marked e.key))) (length es)))
        ∙ (λ i. first_or (new i) (at_end ((same_decides (contents (marked e.key)) (contents (marked e.key))).1 refl i) (length es))) ∙ at_last (length es))

length-push : (es : List Entry) (x : Entry) → length (es ++ x ∷ []) ≡ length es + 1
length-push es x = omega (arith, length-append es (x ∷ []))

-- the entries of a map so far, and a text that is read as a key
module _ (e : code.Entries) (indexed : IsIndexed e) (text : Utf8) (k : Marked) (utf8 : IsUtf8 text) (reads : key_value (form_view e.key) text ≡ Ok (contents k)) where
  -- the place of the text is that of the key
  among : (o : Option ℕ) → o ≡ key_place e.keys text → entry_place (contents k) (entries_marked e.entries.items) ≡ o
  among o is = sym (is ∙ indexed.places text (contents k) utf8 reads)

  pub known_within : (i : ℕ) → Some i ≡ key_place e.keys text → i < length e.entries.items
  known_within i is = place_within e.entries.items (contents k) i (among (Some i) is)

  -- an entry whose key is there takes the value in its place
  pub known_put : (i : ℕ) (d x : Entry) → Some i ≡ key_place e.keys text → marked x.key ≡ marked (get_or e.entries.items i d).key → entries_marked (set e.entries.items i x) ≡ put_entry k (marked x.value) (entries_marked e.entries.items)
  known_put i d x is same_key = sym (put_again e.entries.items i d x k (among (Some i) is) same_key)

  -- another goes last
  pub new_put : (x : Entry) (all : List Entry) → marked x.key ≡ k → None ≡ key_place e.keys text → all ≡ e.entries.items ++ x ∷ [] → entries_marked all ≡ put_entry k (marked x.value) (entries_marked e.entries.items)
  new_put x all named is pushed =
      ap entries_marked pushed
      ∙ sym (put_last e.entries.items x (ap (λ v. entry_place (contents v) (entries_marked e.entries.items)) named ∙ among None is))
      ∙ ap (λ v. put_entry v (marked x.value) (entries_marked e.entries.items)) named

  new_indexed : (x : Entry) (entries : Vec Entry) (keys : MapKeys) (n : ℕ) → marked x.key ≡ k → None ≡ key_place e.keys text → entries.items ≡ e.entries.items ++ x ∷ [] → n ≡ length e.entries.items → HasPlacesBelow (n + 1) keys
      → ((t : Utf8) → key_place keys t ≡ cond (bytes_eq text t) (Some n) (key_place e.keys t)) → IsIndexed (record { key = e.key; entries = entries; keys = keys })
  new_indexed x entries keys n named is pushed many below places = record {
    text = indexed.text;
    next = subst (λ m. HasPlacesBelow m keys) (ap (λ m. m + 1) many ∙ sym (ap length pushed ∙ length-push e.entries.items x)) below;
    places = λ t l u r.
        places t
        ∙ ap (λ m. cond (bytes_eq text t) (Some m) (key_place e.keys t)) many
        ∙ ap (cond (bytes_eq text t) (Some (length e.entries.items))) (indexed.places t l u r)
        ∙ place_more (form_view e.key) e.entries.items x text t l indexed.text utf8 u (reads ∙ ap (λ v. Ok (contents v)) (sym named)) r (ap (λ v. entry_place (contents v) (entries_marked e.entries.items)) named ∙ among None is)
        ∙ ap (λ es. entry_place l (entries_marked es)) (sym pushed);
  }

-- Where the key of a text is there, the places of texts are what they were, and those of the entries too.
known_indexed : (e : code.Entries) (entries : Vec Entry) (keys : MapKeys) (text : Utf8) (i n : ℕ) (d x : Entry) → IsIndexed e → Some i ≡ key_place e.keys text → entries.items ≡ set e.entries.items i x → marked x.key ≡ marked (get_or e.entries.items i d).key
    → n ≡ length e.entries.items → HasPlacesBelow n keys → ((t : Utf8) → key_place keys t ≡ cond (bytes_eq text t) (Some i) (key_place e.keys t)) → IsIndexed (record { key = e.key; entries = entries; keys = keys })
known_indexed e entries keys text i n d x indexed there put same_key many below places = record {
  text = indexed.text;
  next = subst (λ m. HasPlacesBelow m keys) (many ∙ sym (ap length put ∙ length-set e.entries.items i x)) below;
  places = λ t l u r. places t ∙ as_before t (bytes_eq text t) refl ∙ indexed.places t l u r ∙ sym (ap (λ es. entry_place l (entries_marked es)) put ∙ place_set e.entries.items i d x l same_key);
}
  where
    as_before : (t : Utf8) (b : Bool) → bytes_eq text t ≡ b → cond b (Some i) (key_place e.keys t) ≡ key_place e.keys t
    as_before t true one = there ∙ ap (key_place e.keys) ((bytes_eq-Decides text t).0 one)
    as_before t false other = refl

-- the places where one search has found the place of a text or has given it the next one
abbrev PutPlaces : (old new : MapKeys) → Utf8 → (n : ℕ) → Option ℕ → Type 0
PutPlaces old new text n o = (t : Utf8) → key_place new t ≡ cond (bytes_eq text t) (Some (place_or n o)) (key_place old t)

pub found_indexed : (e : code.Entries) (entries : Vec Entry) (keys : MapKeys) (text : Utf8) (o : Option ℕ) (i n : ℕ) (d x : Entry) → IsIndexed e → o ≡ Some i → o ≡ key_place e.keys text → entries.items ≡ set e.entries.items i x → marked x.key ≡ marked (get_or e.entries.items i d).key
    → n ≡ length e.entries.items → HasPlacesBelow (next_place n o) keys → PutPlaces e.keys keys text n o → IsIndexed (record { key = e.key; entries = entries; keys = keys })
found_indexed e entries keys text o i n d x indexed is found put same_key many below places =
    known_indexed e entries keys text i n d x indexed (sym is ∙ found) put same_key many (subst (λ p. HasPlacesBelow (next_place n p) keys) is below) (subst (PutPlaces e.keys keys text n) is places)

pub fresh_indexed : (e : code.Entries) → IsIndexed e → (text : Utf8) (k : Marked) → IsUtf8 text → key_value (form_view e.key) text ≡ Ok (contents k) → (x : Entry) (entries : Vec Entry) (keys : MapKeys) (o : Option ℕ) (n : ℕ) → marked x.key ≡ k → o ≡ None
    → o ≡ key_place e.keys text → entries.items ≡ e.entries.items ++ x ∷ [] → n ≡ length e.entries.items → HasPlacesBelow (next_place n o) keys → PutPlaces e.keys keys text n o → IsIndexed (record { key = e.key; entries = entries; keys = keys })
fresh_indexed e indexed text k utf8 reads x entries keys o n named is found pushed many below places =
    new_indexed e indexed text k utf8 reads x entries keys n named (sym is ∙ found) pushed many (subst (λ p. HasPlacesBelow (next_place n p) keys) is below) (subst (PutPlaces e.keys keys text n) is places)
