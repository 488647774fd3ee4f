-- An edited document is the same when it is edited again.
use Rattle.std.proofs.Common.{◌≡◌, ℕ, ◌+◌, ◌-◌, ◌≤◌, [], ◌∷◌, ◌++◌, length, Bool, true, false, cond, Option, Some, None, Result, Ok, Err, refl, ap, sym, subst, ◌∙◌, inl, inr, arith, pos}
use Rattle.std.specs.Prelude.{◌⊎◌, ◌||◌}
use Rattle.std.specs.Str.{bytes_eq}
use Rattle.std.proofs.lemmas.Slice.Eq.{bytes_eq-Decides}
use Rattle.bson_kinds.specs.Text.{Bytes, Utf8}
use Rattle.bson_kinds.specs.Outcome.{◌>>=◌, result_map}
use Rattle.bson_kinds.proofs.Outcomes.{bind_ok, map_ok}
use Rattle.bson_base.specs.Sound.{max_bytes}
use Rattle.bson_base.specs.Tree.{Tree, enclosed}
use Rattle.bson_base.proofs.Lengths.{length-enclosed}
use Rattle.bson_rawdoc.specs.Envelope.{envelope}
use Rattle.bson_rawdoc.specs.Walk.{Element, Walk, ended, faulty, then_walk, walk}
use Rattle.bson_laws.proofs.Closed.{inside_again, closed_again}
use Rattle.bson_laws.proofs.Framed.{framed}
use Rattle.bson_laws.proofs.Numbers.{length_again}
use Rattle.bson_values.specs.Refusal.{at_key, inside as at_segment}
use Rattle.bson_editing.specs.Edited.{Value, value_of, with_key, Changing, Editing, Outcome, Around, segment, has_key, new_key, renamed, refused, taken, in_place, each_edited, behind, joined, made_of, of_envelope, nested, changed, with_nested, absent, new_value, put_value, put_absent, chosen, edited_as, edited_by, missing_by, edited_in, edited}
use Rattle.bson_editing.specs.Plan.{Edit, keep, drop_it, change, inside_it, Steps, no_steps, step, is_for}
use Rattle.bson_editing.specs.Settled.{GivesValues, IsSettled, IsForNone, IsThere, LacksNothing, AreNames, first_for, LeavesNoneOut, IsFreshName, StaysPut, AreFreshNames, IsFresh, AreFresh}
use Rattle.bson_editing.proofs.Again.{IsWhole}
use Rattle.bson_editing.proofs.Edits.{each_whole}
use Rattle.bson_editing.proofs.InPlace.{given, never, MakesGood, AreMore, made_is, walk_made, from_envelope, inside_is, makes_good, missing_good}
use Rattle.bson_editing.proofs.Kept.{IsFramed, StayAll, document_kept, none_edited, none_missing}

-- ---- a document that was made is one

enveloped : (b : Bytes) → length b + 5 ≤ max_bytes → envelope (enclosed b) ≡ Ok (enclosed b)
enveloped b small =
    framed (enclosed b)
    (record { least = omega (arith, length-enclosed b); told = length_again (length b + 5) (b ++ 0 ∷ []) (omega (arith, small)) ∙ ap pos (sym (length-enclosed b)) })
    (closed_again (length b + 5) b)

made_framed : (b : Bytes) → IsFramed (enclosed b)
made_framed b =
    let within = inside_again (length b + 5) b in
    record { frame = ap enclosed within; size = omega (arith, ap length within, length-enclosed b) }

-- ---- what stays in a document that was made

-- What is made of an element is made of it again, wherever it is.
abbrev IsFixed : {X : Type 0} → (f g : ℕ → Element → Outcome X) → Type 0
IsFixed f g = (i j : ℕ) (x y : Element) → f i x ≡ Ok (Some y) → g j y ≡ Ok (Some y)

stays : {X : Type 0} (f g : ℕ → Element → Outcome X) → IsFixed f g → (i j : ℕ) (o : Option Element) (x : Element) (w : Walk) → f i x ≡ Ok o → ((k : ℕ) → StayAll g k w) → StayAll g j (in_place o w)
stays f g fixed i j None x w is h = h j
stays f g fixed i j (Some y) x w is h = (fixed i j x y is, h (j + 1))

each_again : {X : Type 0} (f g : ℕ → Element → Outcome X) → IsFixed f g → (i j : ℕ) (w m : Walk) → each_edited f i w ≡ Ok m → StayAll g j m
each_again f g fixed i j ended m h = let is : ended ≡ m = cc in subst (StayAll g j) is tt
each_again f g fixed i j (faulty e) m h = absurd cc
each_again f g fixed i j (then_walk x w) m h =
    let a = bind_ok (f i x) (λ p. result_map (in_place p) (each_edited f (i + 1) w)) m h in
    let b = map_ok (in_place a.0) (each_edited f (i + 1) w) m a.2 in
    subst (StayAll g j) b.2 (stays f g fixed i j a.0 x b.0 a.1 (λ k. each_again f g fixed (i + 1) k w b.0 b.1))

behind_stays : {X : Type 0} (g : ℕ → Element → Outcome X) (j : ℕ) (w v : Walk) → StayAll g j w → ((k : ℕ) → StayAll g k v) → StayAll g j (behind w v)
behind_stays g j ended v h hs = hs j
behind_stays g j (faulty e) v h hs = tt
behind_stays g j (then_walk x w) v h hs = (h.0, behind_stays g (j + 1) w v h.1 hs)

abbrev here : (array : Bool) → (levels : ℕ) → Walk → Around
here array levels w = record { array = array; levels = levels; elements = w }

module _ {X : Type 0} (f : Around → ℕ → Element → Outcome X) (missing : Around → Editing X Walk) (array : Bool) (levels : ℕ) where
  abbrev with_elements : Walk → Around
  with_elements w = here array levels w

  made_again : (b c : Bytes) → ((w v : Walk) → IsFixed (f (with_elements w)) (f (with_elements v))) → ((w v : Walk) (j : ℕ) (more : Walk) → missing (with_elements w) ≡ Ok more → StayAll (f (with_elements v)) j more)
      → ((w done more : Walk) → each_edited (f (with_elements w)) 0 w ≡ Ok done → missing (with_elements w) ≡ Ok more → missing (with_elements (behind done more)) ≡ Ok ended)
      → ((w : Walk) → MakesGood (f (with_elements w))) → ((w v : Walk) → missing (with_elements w) ≡ Ok v → AreMore v) → made_of f missing array levels b ≡ Ok c → of_envelope (made_of f missing array levels) (envelope c) ≡ Ok c
  made_again b c fixed puts lacks goods mores h =
      let a = with_elements (walk b) in
      let m = made_is (f a) (missing a) (walk b) c h in
      let w = behind m.done m.more in
      let seen : walk c ≡ w = walk_made (f a) (missing a) b c (goods (walk b)) (λ v is. mores (walk b) v is) m in
      let body = joined w in
      let env : envelope c ≡ Ok c = subst (λ d. envelope d ≡ Ok d) (sym m.is) (enveloped body m.fits) in
      let whole : IsWhole (walk c) = subst IsWhole (sym seen) (whole_behind m.done m.more (each_whole (f a) 0 (walk b) m.done m.each) (mores (walk b) m.more m.put).whole) in
      let stay : StayAll (f (with_elements (walk c))) 0 (walk c) =
      subst (λ v. StayAll (f (with_elements v)) 0 v) (sym seen) (behind_stays (f (with_elements w)) 0 m.done m.more (each_again (f a) (f (with_elements w)) (fixed (walk b) w) 0 0 (walk b) m.done m.each) (λ k. puts (walk b) w k m.more m.put)) in
      let none : missing (with_elements (walk c)) ≡ Ok ended = subst (λ v. missing (with_elements v) ≡ Ok ended) (sym seen) (lacks (walk b) m.done m.more m.each m.put) in
      ap (of_envelope (made_of f missing array levels)) env ∙ document_kept f missing array levels c env (subst IsFramed (sym m.is) (made_framed body)) whole stay none where
        whole_behind : (w v : Walk) → IsWhole w → IsWhole v → IsWhole (behind w v)
        whole_behind ended v g h = h
        whole_behind (faulty e) v g h = absurd g
        whole_behind (then_walk x w) v g h = whole_behind w v g h

-- ---- keys

abbrev outcome : {X : Type 0} → Option Element → Outcome X
outcome o = Ok o

-- an element of this key, and no other outcome
abbrev IsKeyed : Utf8 → Option Element → Type 0
IsKeyed key o = (y : Element) × (o ≡ Some y) × (y.key ≡ key)

some_keyed : {X : Type 0} (key : Utf8) (v : Value) (o : Option Element) → outcome {X = X} (Some (with_key key v)) ≡ outcome o → IsKeyed key o
some_keyed key v o h = let is : Some (with_key key v) ≡ o = cc in (with_key key v, sym is, refl)

changed_keyed : {X : Type 0} (key : Utf8) (x : Result Value X) (o : Option Element) → changed key x ≡ Ok o → IsKeyed key o
changed_keyed key (Ok v) o h = some_keyed key v o h
changed_keyed key (Err x) o h = absurd cc

nested_keyed : {X : Type 0} (f : Bool → ℕ → Bytes → Editing X Bytes) (levels : ℕ) (key : Utf8) (v : Value) (n : Option Bool) (o : Option Element) → with_nested f levels key v n ≡ Ok o → IsKeyed key o
nested_keyed f levels key v None o h = some_keyed key v o h
nested_keyed {X} f levels key v (Some array) o h =
    let c = map_ok (λ b. Some (record { kind = v.kind; key = key; value = b })) (of_envelope (f array (levels - 1)) (envelope v.bytes)) o h in
    some_keyed key (record { kind = v.kind; bytes = c.0 }) o (ap (outcome {X = X}) c.2)

-- an edit that leaves nothing out gives an element of the key
leaves_one : {X : Type 0} (r : Changing X) (edit : Edit) (levels : ℕ) (key : Utf8) (v : Value) (o : Option Element) → LeavesNoneOut edit → edited_as r edit levels key v ≡ Ok o → IsKeyed key o
leaves_one r keep levels key v o l h = some_keyed key v o h
leaves_one r drop_it levels key v o l h = absurd l
leaves_one r (change n) levels key v o l h = changed_keyed key (r n levels v) o h
leaves_one r (inside_it steps) levels key v o l h = nested_keyed (edited_in r steps) levels key v (nested v.kind) o h

-- an element that an edit gives has the key
made_key : {X : Type 0} (r : Changing X) (edit : Edit) (levels : ℕ) (key : Utf8) (v : Value) (y : Element) → edited_as r edit levels key v ≡ Ok (Some y) → y.key ≡ key
made_key r keep levels key v y h = key_of (some_keyed key v (Some y) h) where
  key_of : IsKeyed key (Some y) → y.key ≡ key
  key_of k = let is : y ≡ k.0 = cc in ap (λ (e : Element). e.key) is ∙ k.2
made_key r drop_it levels key v y h = absurd cc
made_key r (change n) levels key v y h = key_of (changed_keyed key (r n levels v) (Some y) h) where
  key_of : IsKeyed key (Some y) → y.key ≡ key
  key_of k = let is : y ≡ k.0 = cc in ap (λ (e : Element). e.key) is ∙ k.2
made_key r (inside_it steps) levels key v y h = key_of (nested_keyed (edited_in r steps) levels key v (nested v.kind) (Some y) h) where
  key_of : IsKeyed key (Some y) → y.key ≡ key
  key_of k = let is : y ≡ k.0 = cc in ap (λ (e : Element). e.key) is ∙ k.2

-- ---- the first step for a name

keys_same : (a b : Utf8) → bytes_eq a b ≡ true → a ≡ b
keys_same a b e = (bytes_eq-Decides a b).0 e

same_keys : (a b : Utf8) → a ≡ b → bytes_eq a b ≡ true
same_keys a b e = (bytes_eq-Decides a b).1 e

abbrev found : Option Utf8 × Edit → Option (Option Utf8 × Edit)
found p = Some p

module _ {X : Type 0} (r : Changing X) (levels : ℕ) (w : Walk) where
  abbrev in_document : Around
  in_document = here false levels w

  -- what becomes of an element for which the first step gives no new key
  first_is : (steps : Steps) (i : ℕ) (e : Element) (edit : Edit) → first_for steps e.key ≡ Some (None, edit) → edited_by r steps in_document i e ≡ at_segment (segment in_document i e.key) (edited_as r edit levels e.key (value_of e))
  first_is no_steps i e edit h = absurd cc
  first_is (step name to missing other rest) i e edit h = by_case (is_for false name e.key) (λ later. first_is rest i e edit later) h where
    by_case : (b : Bool)
        → (first_for rest e.key ≡ Some (None, edit) → edited_by r rest in_document i e ≡ at_segment (segment in_document i e.key) (edited_as r edit levels e.key (value_of e))) → cond b (found (to, other)) (first_for rest e.key) ≡ Some (None, edit)
        → chosen b (at_segment (segment in_document i e.key) (renamed (λ key. edited_as r other levels key (value_of e)) to e.key w)) (edited_by r rest in_document i e) ≡ at_segment (segment in_document i e.key) (edited_as r edit levels e.key (value_of e))
    by_case true later h =
        let is : (to, other) ≡ (None, edit) = cc in
        ap (λ (p : Option Utf8 × Edit). at_segment (segment in_document i e.key) (renamed (λ key. edited_as r p.1 levels key (value_of e)) p.0 e.key w)) is
    by_case false later h = later h

  -- an element of the name stays one
  key_stays : (steps : Steps) (i : ℕ) (e : Element) (o : Option Element) (name : Utf8) (edit : Edit) → first_for steps name ≡ Some (None, edit) → LeavesNoneOut edit → bytes_eq name e.key ≡ true → edited_by r steps in_document i e ≡ Ok o → IsKeyed name o
  key_stays steps i e o name edit first leaves same h =
      let is = keys_same name e.key same in
      let made = inside_is (segment in_document i e.key) (edited_as r edit levels e.key (value_of e)) o (sym (first_is steps i e edit (ap (first_for steps) (sym is) ∙ first)) ∙ h) in
      let k = leaves_one r edit levels e.key (value_of e) o leaves made in
      (k.0, k.1, k.2 ∙ sym is)

  has_in_place : (name : Utf8) (o : Option Element) (v : Walk) → has_key name v ≡ true → has_key name (in_place o v) ≡ true
  has_in_place name None v h = h
  has_in_place name (Some y) v h = or_true (bytes_eq name y.key) (has_key name v) h where
    or_true : (a b : Bool) → b ≡ true → (a || b) ≡ true
    or_true true b h = refl
    or_true false b h = h

  keyed_in_place : (name : Utf8) (o : Option Element) (v : Walk) → IsKeyed name o → has_key name (in_place o v) ≡ true
  keyed_in_place name None v k = absurd (differ k.1) where
    differ : None ≡ Some k.0 → ⊥
    differ e = cc
  keyed_in_place name (Some y) v k =
      let is : y ≡ k.0 = let same = k.1 in cc in
      ap (λ b. b || has_key name v) (same_keys name y.key (sym (ap (λ (e : Element). e.key) is ∙ k.2)))

  kept_key : (steps : Steps) (name : Utf8) (edit : Edit) (i : ℕ) (v done : Walk) → first_for steps name ≡ Some (None, edit) → LeavesNoneOut edit → each_edited (edited_by r steps in_document) i v ≡ Ok done → has_key name v ≡ true → has_key name done ≡ true
  kept_key steps name edit i ended done first leaves h has = absurd cc
  kept_key steps name edit i (faulty e) done first leaves h has = absurd cc
  kept_key steps name edit i (then_walk x v) done first leaves h has =
      let a = bind_ok (edited_by r steps in_document i x) (λ p. result_map (in_place p) (each_edited (edited_by r steps in_document) (i + 1) v)) done h in
      let b = map_ok (in_place a.0) (each_edited (edited_by r steps in_document) (i + 1) v) done a.2 in
      subst (λ d. has_key name d ≡ true) b.2 (by_case (bytes_eq name x.key) refl has a.0 a.1 b.0 (λ later. kept_key steps name edit (i + 1) v b.0 first leaves b.1 later)) where
        by_case : (c : Bool) → bytes_eq name x.key ≡ c → (c || has_key name v) ≡ true → (o : Option Element) → edited_by r steps in_document i x ≡ Ok o → (d : Walk) → (has_key name v ≡ true → has_key name d ≡ true) → has_key name (in_place o d) ≡ true
        by_case true same has o made d later = keyed_in_place name o d (key_stays steps i x o name edit first leaves same made)
        by_case false same has o made d later = has_in_place name o d (later has)

  -- ---- nothing is missing then

  -- what is put has the name
  put_keyed : (edit : Edit) (name : Utf8) (t : Tree) (o : Option Element) → LeavesNoneOut edit → put_absent (λ key v. edited_as r edit levels key v) levels (Some (name, t)) ≡ Ok o → IsKeyed name o
  put_keyed edit name t o leaves h =
      let v = bind_ok (new_value levels t) (λ v. edited_as r edit levels name v) o (inside_is (at_key name) (put_value (λ key v. edited_as r edit levels key v) levels name t) o h) in
      leaves_one r edit levels name v.0 o leaves v.2

  there_now : (whole : Steps) (done total rest : Walk) (name : Option Utf8) (missing : Option Tree) (edit : Edit) (o : Option Element) → StaysPut whole name missing edit → each_edited (edited_by r whole in_document) 0 w ≡ Ok done
      → put_absent (λ key v. edited_as r edit levels key v) levels (absent in_document name missing) ≡ Ok o → ((key : Utf8) → has_key key (in_place o rest) ≡ true → has_key key total ≡ true) → ((key : Utf8) → has_key key done ≡ true → has_key key total ≡ true)
      → IsThere name missing total
  there_now whole done total rest None None edit o stays each put more kept = tt
  there_now whole done total rest None (Some t) edit o stays each put more kept = tt
  there_now whole done total rest (Some name) None edit o stays each put more kept = tt
  there_now whole done total rest (Some name) (Some t) edit o stays each put more kept = by_case (has_key name w) refl put where
    by_case : (b : Bool) → has_key name w ≡ b → put_absent (λ key v. edited_as r edit levels key v) levels (cond b None (Some (name, t))) ≡ Ok o → has_key name total ≡ true
    by_case true has put = kept name (kept_key whole name edit 0 w done stays.0 stays.1 each has)
    by_case false has put = more name (keyed_in_place name o rest (put_keyed edit name t o stays.1 put))

  lacks : (whole steps : Steps) (done more total : Walk) → AreFreshNames false whole steps → each_edited (edited_by r whole in_document) 0 w ≡ Ok done → missing_by r steps in_document ≡ Ok more
      → ((key : Utf8) → has_key key more ≡ true → has_key key total ≡ true) → ((key : Utf8) → has_key key done ≡ true → has_key key total ≡ true) → LacksNothing steps total
  lacks whole no_steps done more total fresh each put mores kept = tt
  lacks whole (step name to missing edit rest) done more total fresh each put mores kept =
      let o = bind_ok (put_absent (λ key v. edited_as r edit levels key v) levels (absent in_document name missing)) (λ o. result_map (in_place o) (missing_by r rest in_document)) more put in
      let v = map_ok (in_place o.0) (missing_by r rest in_document) more o.2 in
      let in_total : (key : Utf8) → has_key key (in_place o.0 v.0) ≡ true → has_key key total ≡ true = λ key h. mores key (subst (λ d. has_key key d ≡ true) v.2 h) in
      (there_now whole done total v.0 name missing edit o.0 fresh.1 each o.1 in_total kept, lacks whole rest done v.0 total fresh.2 each v.1 (λ key h. in_total key (has_in_place key o.0 v.0 h)) kept)

has_behind_front : (key : Utf8) (w v : Walk) → has_key key w ≡ true → has_key key (behind w v) ≡ true
has_behind_front key ended v h = absurd cc
has_behind_front key (faulty e) v h = absurd cc
has_behind_front key (then_walk x w) v h = by_case (bytes_eq key x.key) (λ later. has_behind_front key w v later) h where
  by_case : (c : Bool) → (has_key key w ≡ true → has_key key (behind w v) ≡ true) → (c || has_key key w) ≡ true → (c || has_key key (behind w v)) ≡ true
  by_case true later h = refl
  by_case false later h = later h

has_behind : (key : Utf8) (w v : Walk) → IsWhole w → has_key key v ≡ true → has_key key (behind w v) ≡ true
has_behind key ended v whole h = h
has_behind key (faulty e) v whole h = absurd whole
has_behind key (then_walk x w) v whole h = or_true (bytes_eq key x.key) (has_key key (behind w v)) (has_behind key w v whole h) where
  or_true : (a b : Bool) → b ≡ true → (a || b) ≡ true
  or_true true b h = refl
  or_true false b h = h

-- nothing is ever missing in an array
array_absent : (a : Around) (name : Option Utf8) (missing : Option Tree) → a.array ≡ true → absent a name missing ≡ None
array_absent a None None h = refl
array_absent a None (Some t) h = refl
array_absent a (Some name) None h = refl
array_absent a (Some name) (Some t) h = ap (λ b. cond (b || has_key name a.elements) None (Some (name, t))) h

same_walk : {X : Type 0} (m : Editing X Walk) → result_map (in_place None) m ≡ m
same_walk (Ok w) = refl
same_walk (Err r) = refl

array_lacks : {X : Type 0} (r : Changing X) (steps : Steps) (a : Around) → a.array ≡ true → missing_by r steps a ≡ Ok ended
array_lacks r no_steps a h = refl
array_lacks r (step name to missing edit rest) a h =
    ap (λ o. put_absent (λ key v. edited_as r edit a.levels key v) a.levels o >>= λ p. result_map (in_place p) (missing_by r rest a)) (array_absent a name missing h) ∙ same_walk (missing_by r rest a) ∙ array_lacks r rest a h

-- ---- what is made is made again

-- an element keeps its key, or no step is for its new one
abbrev KeepsOrFresh : Bool → Steps → Element → Element → Type 0
KeepsOrFresh array whole x y = (y.key ≡ x.key) ⊎ IsForNone array whole y.key

renamed_is : {X : Type 0} (array : Bool) (whole : Steps) (to : Option Utf8) (key new : Utf8) (w : Walk) → IsFreshName array whole to → new_key {X = X} to key w ≡ Ok new → (new ≡ key) ⊎ IsForNone array whole new
renamed_is array whole None key new w fresh h = let is : key ≡ new = cc in inl (sym is)
renamed_is {X} array whole (Some to) key new w fresh h = inr (subst (IsForNone array whole) (given (has_key to w) (refused {X = X} (taken to)) to new (never {X = X} to) h) fresh)

same_or_fresh : (array : Bool) (whole : Steps) (x y : Element) (new : Utf8) → y.key ≡ new → (new ≡ x.key) ⊎ IsForNone array whole new → KeepsOrFresh array whole x y
same_or_fresh array whole x y new is (inl same) = inl (is ∙ same)
same_or_fresh array whole x y new is (inr none) = inr (subst (IsForNone array whole) (sym is) none)

module _ {X : Type 0} (r : Changing X) where
  keyed_case : (whole : Steps) (edit : Edit) (to : Option Utf8) (a : Around) (i : ℕ) (rest : Outcome X) (x y : Element) (b : Bool) → IsFreshName a.array whole to → (rest ≡ Ok (Some y) → KeepsOrFresh a.array whole x y)
      → chosen b (at_segment (segment a i x.key) (renamed (λ key. edited_as r edit a.levels key (value_of x)) to x.key a.elements)) rest ≡ Ok (Some y) → KeepsOrFresh a.array whole x y
  keyed_case whole edit to a i rest x y true fresh later h =
      let n = bind_ok (new_key to x.key a.elements) (λ key. edited_as r edit a.levels key (value_of x)) (Some y)
      (inside_is (segment a i x.key) (renamed (λ key. edited_as r edit a.levels key (value_of x)) to x.key a.elements) (Some y) h) in
      same_or_fresh a.array whole x y n.0 (made_key r edit a.levels n.0 (value_of x) y n.2) (renamed_is {X = X} a.array whole to x.key n.0 a.elements fresh n.1)
  keyed_case whole edit to a i rest x y false fresh later h = later h

  keyed : (whole steps : Steps) (a : Around) (i : ℕ) (x y : Element) → AreFreshNames a.array whole steps → edited_by r steps a i x ≡ Ok (Some y) → KeepsOrFresh a.array whole x y
  keyed whole no_steps a i x y fresh h = let is : x ≡ y = cc in inl (sym (ap (λ (e : Element). e.key) is))
  keyed whole (step name to missing edit rest) a i x y fresh h =
      keyed_case whole edit to a i (edited_by r rest a i x) x y (is_for a.array name x.key) fresh.0 (λ later. keyed whole rest a i x y fresh.2 later) h

  changed_again : (n levels : ℕ) (key : Utf8) (v : Value) (y : Element) (x : Result Value X) → IsSettled r → r n levels v ≡ x → changed key x ≡ Ok (Some y) → changed y.key (r n levels (value_of y)) ≡ Ok (Some y)
  changed_again n levels key v y (Err x) settled is h = absurd cc
  changed_again n levels key v y (Ok m) settled is h =
      let same : with_key key m ≡ y = cc in
      subst (λ (z : Element). changed z.key (r n levels (value_of z)) ≡ Ok (Some z)) same (ap (changed key) (settled n levels v m is))

  nested_again : (f : Bool → ℕ → Bytes → Editing X Bytes) (levels : ℕ) (key : Utf8) (v : Value) (y : Element) (n : Option Bool) → nested v.kind ≡ n
      → ((array : Bool) (b c : Bytes) → of_envelope (f array (levels - 1)) (envelope b) ≡ Ok c → of_envelope (f array (levels - 1)) (envelope c) ≡ Ok c) → with_nested f levels key v n ≡ Ok (Some y)
      → with_nested f levels y.key (value_of y) (nested y.kind) ≡ Ok (Some y)
  nested_again f levels key v y None is again h =
      let same : with_key key v ≡ y = cc in
      subst (λ (z : Element). with_nested f levels z.key (value_of z) (nested z.kind) ≡ Ok (Some z)) same (ap (with_nested f levels key v) is)
  nested_again f levels key v y (Some array) is again h =
      let c = map_ok (λ b. Some (record { kind = v.kind; key = key; value = b })) (of_envelope (f array (levels - 1)) (envelope v.bytes)) (Some y) h in
      let made : Value = record { kind = v.kind; bytes = c.0 } in
      let same : with_key key made ≡ y = (let q = c.2 in cc) in
      subst (λ (z : Element). with_nested f levels z.key (value_of z) (nested z.kind) ≡ Ok (Some z)) same
      (ap (with_nested f levels key made) is ∙ ap (result_map (λ b. Some (record { kind = v.kind; key = key; value = b }))) (again array v.bytes c.0 c.1))

  -- an element that was put stays
  abbrev Stays : (ℕ → Element → Outcome X) → Option Element → Type 0
  Stays g None = Unit {0}
  Stays g (Some y) = (j : ℕ) → g j y ≡ Ok (Some y)

  abbrev IsRepeated : Edit → ℕ → Type 0
  IsRepeated edit levels = (key : Utf8) (v : Value) (y : Element) → edited_as r edit levels key v ≡ Ok (Some y) → edited_as r edit levels y.key (value_of y) ≡ Ok (Some y)

  none_stays : (g : ℕ → Element → Outcome X) (o : Option Element) → outcome {X = X} None ≡ outcome o → Stays g o
  none_stays g o h = let is : None ≡ o = cc in subst (Stays g) is tt

  value_stays : (whole : Steps) (levels : ℕ) (v : Walk) (name : Utf8) (t : Tree) (edit : Edit) (o : Option Element) → first_for whole name ≡ Some (None, edit) → IsRepeated edit levels → put_value (λ key v. edited_as r edit levels key v) levels name t ≡ Ok o
      → Stays (edited_by r whole (here false levels v)) o
  value_stays whole levels v name t edit None first again h = tt
  value_stays whole levels v name t edit (Some y) first again h = λ j.
      let a = here false levels v in
      let m = bind_ok (new_value levels t) (λ v. edited_as r edit levels name v) (Some y) h in
      let key = made_key r edit levels name m.0 y m.2 in
      first_is r levels v whole j y edit (ap (first_for whole) key ∙ first) ∙ ap (at_segment (segment a j y.key)) (again name m.0 y m.2)

  put_stays : (whole : Steps) (array : Bool) (levels : ℕ) (w v : Walk) (name : Option Utf8) (missing : Option Tree) (edit : Edit) (o : Option Element) → StaysPut whole name missing edit → IsRepeated edit levels
      → put_absent (λ key v. edited_as r edit levels key v) levels (absent (here array levels w) name missing) ≡ Ok o → Stays (edited_by r whole (here array levels v)) o
  put_stays whole array levels w v None None edit o stays again h = none_stays (edited_by r whole (here array levels v)) o h
  put_stays whole array levels w v None (Some t) edit o stays again h = none_stays (edited_by r whole (here array levels v)) o h
  put_stays whole array levels w v (Some name) None edit o stays again h = none_stays (edited_by r whole (here array levels v)) o h
  put_stays whole true levels w v (Some name) (Some t) edit o stays again h = none_stays (edited_by r whole (here true levels v)) o h
  put_stays whole false levels w v (Some name) (Some t) edit o stays again h = by_case (has_key name w) h where
    by_case : (b : Bool) → put_absent (λ key v. edited_as r edit levels key v) levels (cond b None (Some (name, t))) ≡ Ok o → Stays (edited_by r whole (here false levels v)) o
    by_case true h = none_stays (edited_by r whole (here false levels v)) o h
    by_case false h = value_stays whole levels v name t edit o stays.0 again (inside_is (at_key name) (put_value (λ key v. edited_as r edit levels key v) levels name t) o h)

  stay_in_place : (g : ℕ → Element → Outcome X) (j : ℕ) (o : Option Element) (w : Walk) → Stays g o → ((k : ℕ) → StayAll g k w) → StayAll g j (in_place o w)
  stay_in_place g j None w h hs = hs j
  stay_in_place g j (Some y) w h hs = (h j, hs (j + 1))

  nothing_lacks : (steps : Steps) (array : Bool) (levels : ℕ) (w done more : Walk) → AreFreshNames array steps steps → each_edited (edited_by r steps (here array levels w)) 0 w ≡ Ok done
      → missing_by r steps (here array levels w) ≡ Ok more → missing_by r steps (here array levels (behind done more)) ≡ Ok ended
  nothing_lacks steps true levels w done more fresh each put = array_lacks r steps (here true levels (behind done more)) refl
  nothing_lacks steps false levels w done more fresh each put =
      let a = here false levels w in
      let whole = each_whole (edited_by r steps a) 0 w done each in
      none_missing r steps (here false levels (behind done more))
      (lacks r levels w steps steps done more (behind done more) fresh each put (λ key h. has_behind key done more whole h) (λ key h. has_behind_front key done more h))

  chosen_is : (b : Bool) (x y : Outcome X) (o : Option Element) → b ≡ true → x ≡ Ok o → chosen b x y ≡ Ok o
  chosen_is true x y o e h = h
  chosen_is false x y o e h = absurd cc

  chosen_not : (b : Bool) (x y : Outcome X) (o : Option Element) → b ≡ false → y ≡ Ok o → chosen b x y ≡ Ok o
  chosen_not true x y o e h = absurd cc
  chosen_not false x y o e h = h

  module _ (values : GivesValues r) (settled : IsSettled r) where
    -- the elements of a document or an array, where each step is repeated so
    steps_again : (steps : Steps) (array : Bool) (levels : ℕ) (b c : Bytes) → ((array : Bool) → AreFreshNames array steps steps) → AreNames steps
        → ((w v : Walk) → IsFixed (edited_by r steps (here array levels w)) (edited_by r steps (here array levels v)))
        → ((w v : Walk) (j : ℕ) (more : Walk) → missing_by r steps (here array levels w) ≡ Ok more → StayAll (edited_by r steps (here array levels v)) j more)
        → of_envelope (edited_in r steps array levels) (envelope b) ≡ Ok c → of_envelope (edited_in r steps array levels) (envelope c) ≡ Ok c
    steps_again steps array levels b c fresh names fixed puts h =
        made_again (edited_by r steps) (missing_by r steps) array levels b c fixed puts (λ w done more each put. nothing_lacks steps array levels w done more (fresh array) each put)
        (λ w. makes_good r steps (here array levels w) values names) (λ w v is. missing_good r steps (here array levels w) v values names is)
        (from_envelope (edited_in r steps array levels) b c (envelope b) refl h)

    mutual
      edit_again : (edit : Edit) (levels : ℕ) (key : Utf8) (v : Value) (y : Element) → IsFresh edit → edited_as r edit levels key v ≡ Ok (Some y) → edited_as r edit levels y.key (value_of y) ≡ Ok (Some y)
      edit_again keep levels key v y fresh h = refl
      edit_again drop_it levels key v y fresh h = absurd cc
      edit_again (change n) levels key v y fresh h = changed_again n levels key v y (r n levels v) settled refl h
      edit_again (inside_it steps) levels key v y fresh h =
          nested_again (edited_in r steps) levels key v y (nested v.kind) refl
          (λ array b c is. steps_again steps array (levels - 1) b c fresh.0 fresh.1
          (λ w u i j x z made. step_again steps steps array (levels - 1) w u i j x z (fresh.0 array) fresh.2 (λ k none. none) made)
          (λ w u j more put. put_again steps steps array (levels - 1) w u j more (fresh.0 array) fresh.2 put) is) h

      step_again : (whole steps : Steps) (array : Bool) (levels : ℕ) (w v : Walk) (i j : ℕ) (x y : Element) → AreFreshNames array whole steps → AreFresh steps → ((key : Utf8) → IsForNone array whole key → IsForNone array steps key)
          → edited_by r steps (here array levels w) i x ≡ Ok (Some y) → edited_by r steps (here array levels v) j y ≡ Ok (Some y)
      step_again whole no_steps array levels w v i j x y names fresh part h = refl
      step_again whole (step name to missing edit rest) array levels w v i j x y names fresh part h =
          by_case (is_for array name x.key) refl (keyed whole rest (here array levels w) i x y names.2) (λ later. step_again whole rest array levels w v i j x y names.2 fresh.1 (λ k none. (part k none).1) later) (λ key. edit_again edit levels key (value_of x) y fresh.0) h where
            first : (t : Option Utf8) (new : Utf8) → IsFreshName array whole t → is_for array name x.key ≡ true → new_key {X = X} t x.key w ≡ Ok new → y.key ≡ new → edited_as r edit levels y.key (value_of y) ≡ Ok (Some y)
                → edited_by r (step name t missing edit rest) (here array levels v) j y ≡ Ok (Some y)
            first None new fresh is named key again =
                let same : x.key ≡ new = cc in
                let s = segment (here array levels v) j y.key in
                chosen_is (is_for array name y.key) (at_segment s (edited_as r edit levels y.key (value_of y))) (edited_by r rest (here array levels v) j y) (Some y) (ap (is_for array name) (key ∙ sym same) ∙ is) (ap (at_segment s) again)
            first (Some t) new fresh is named key again =
                let same = given (has_key t w) (refused {X = X} (taken t)) t new (never {X = X} t) named in
                none_edited r (step name (Some t) missing edit rest) (here array levels v) j y (part y.key (subst (IsForNone array whole) (same ∙ sym key) fresh))

            others : KeepsOrFresh array whole x y → is_for array name x.key ≡ false → is_for array name y.key ≡ false
            others (inl same) is = ap (is_for array name) same ∙ is
            others (inr none) is = (part y.key none).0

            by_case : (c : Bool) → is_for array name x.key ≡ c → (edited_by r rest (here array levels w) i x ≡ Ok (Some y) → KeepsOrFresh array whole x y)
                → (edited_by r rest (here array levels w) i x ≡ Ok (Some y) → edited_by r rest (here array levels v) j y ≡ Ok (Some y))
                → ((key : Utf8) → edited_as r edit levels key (value_of x) ≡ Ok (Some y) → edited_as r edit levels y.key (value_of y) ≡ Ok (Some y))
                → chosen c (at_segment (segment (here array levels w) i x.key) (renamed (λ key. edited_as r edit levels key (value_of x)) to x.key w)) (edited_by r rest (here array levels w) i x) ≡ Ok (Some y)
                → edited_by r (step name to missing edit rest) (here array levels v) j y ≡ Ok (Some y)
            by_case true is key later again h =
                let x' = renamed (λ key. edited_as r edit levels key (value_of x)) to x.key w in
                let n = bind_ok (new_key to x.key w) (λ key. edited_as r edit levels key (value_of x)) (Some y) (inside_is (segment (here array levels w) i x.key) x' (Some y) h) in
                first to n.0 names.0 is n.1 (made_key r edit levels n.0 (value_of x) y n.2) (again n.0 n.2)
            by_case false is key later again h =
                chosen_not (is_for array name y.key) (at_segment (segment (here array levels v) j y.key) (renamed (λ key. edited_as r edit levels key (value_of y)) to y.key v)) (edited_by r rest (here array levels v) j y) (Some y)
                (others (key h) is) (later h)

      put_again : (whole steps : Steps) (array : Bool) (levels : ℕ) (w v : Walk) (j : ℕ) (more : Walk) → AreFreshNames array whole steps → AreFresh steps → missing_by r steps (here array levels w) ≡ Ok more
          → StayAll (edited_by r whole (here array levels v)) j more
      put_again whole no_steps array levels w v j more names fresh put = let is : ended ≡ more = cc in subst (StayAll (edited_by r whole (here array levels v)) j) is tt
      put_again whole (step name to missing edit rest) array levels w v j more names fresh put =
          let g = edited_by r whole (here array levels v) in
          let o = bind_ok (put_absent (λ key u. edited_as r edit levels key u) levels (absent (here array levels w) name missing)) (λ o. result_map (in_place o) (missing_by r rest (here array levels w))) more put in
          let m = map_ok (in_place o.0) (missing_by r rest (here array levels w)) more o.2 in
          subst (StayAll g j) m.2
          (stay_in_place g j o.0 m.0 (put_stays whole array levels w v name missing edit o.0 names.1 (λ key u y made. edit_again edit levels key u y fresh.0 made) o.1)
          (λ k. put_again whole rest array levels w v k m.0 names.2 fresh.1 m.1))

    -- The law: edited again, the document is the same.
    pub edited_again : (steps : Steps) (b c : Bytes) → IsFresh (inside_it steps) → edited r steps b ≡ Ok c → edited r steps c ≡ Ok c
    edited_again steps b c fresh h =
        steps_again steps false 199 b c fresh.0 fresh.1 (λ w v i j x y made. step_again steps steps false 199 w v i j x y (fresh.0 false) fresh.2 (λ k none. none) made)
        (λ w v j more put. put_again steps steps false 199 w v j more (fresh.0 false) fresh.2 put) h
