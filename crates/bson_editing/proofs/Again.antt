-- Elements one behind another are walked again, whatever values they have, and are the bytes that were walked.
use Rattle.std.proofs.Common.{◌≡◌, ℕ, zero, suc, ◌+◌, ◌^◌, ◌<◌, ◌≤◌, [], ◌∷◌, ◌++◌, length, take, drop, Bool, true, false, cond, Option, Some, None, Result, Ok, Err, refl, ap, sym, subst, ◌∙◌, arith}
use Rattle.std.specs.Prelude.{nat_lt, option_map, option_and_then}
use Rattle.std.specs.Str.{is_utf8}
use Rattle.std.proofs.lemmas.Bool.{le-ltb, ltb-false, cond-true, cond-false}
use Rattle.std.proofs.lemmas.List.{append_assoc, length-append, take_at, drop_at, take-append-drop}
use Rattle.std.proofs.Math.Seq.{take-append_seam}
use Rattle.bson_kinds.specs.Kind.{byte, of_byte}
use Rattle.bson_kinds.specs.Text.{Bytes, Utf8, has_zero}
use Rattle.bson_kinds.specs.Outcome.{◌>>=◌, result_map}
use Rattle.bson_kinds.specs.Prover.KindBytes.{of_byte-byte}
use Rattle.bson_kinds.specs.declared.element_type.ElementType.{ElementType}
use Rattle.bson_kinds.specs.declared.element_type.ElementType.TheVariants.{EmbeddedDocument, Array}
use Rattle.bson_kinds.proofs.Outcomes.{bind_ok, some_map, some_then, some_is}
use Rattle.bson_base.specs.Tree.{element, enclosed}
use Rattle.bson_base.proofs.Lengths.{length-enclosed}
use Rattle.bson_faults.specs.declared.raw.Error.{Error}
use Rattle.bson_faults.specs.declared.raw.Error.TheVariants.{KeyNotUtf8, BadExtent}
use Rattle.bson_rawdoc.specs.Extent.{Layout, fixed, announced, two_texts, layout, in_front, cut_at_zero, two_texts_in, two_texts_extent, length_from, extent_by, extent}
use Rattle.bson_rawdoc.specs.Numbers.{int32_in}
use Rattle.bson_rawdoc.specs.Walk.{Element, of_kind, with_key as key_of, with_value, element_at, Walk, ended, faulty, then_walk, walk_elements}
use Rattle.bson_rawdoc.proofs.Extents.{announced_is, announced_found, number_within, extent_taken}
use Rattle.bson_rawdoc.proofs.Walks.{walk-nil, walk_ok, walk_err, element_shorter}
use Rattle.bson_laws.proofs.Closed.{cut_again}
use Rattle.bson_laws.proofs.Numbers.{length_again}
use Rattle.bson_pass_parts.specs.Run.{size}
use Rattle.bson_pass_parts.proofs.Runs.{first_head}
use Rattle.bson_editing.specs.Edited.{joined}

-- ---- the extent of a value, where other bytes follow

short_or : (t : Bool) (r : Result ℕ Error) (n : ℕ) → cond t (Err BadExtent) r ≡ Ok n → t ≡ false
short_or true r n e = absurd cc
short_or false r n e = refl

front_cut : (b : ℕ) (rest : Bytes) (p : Bytes × Bytes) (o o' : Option (Bytes × Bytes)) → ((q : Bytes × Bytes) → o ≡ Some q → o' ≡ Some (q.0, q.1 ++ rest)) → in_front (suc b) o ≡ Some p → in_front (suc b) o' ≡ Some (p.0, p.1 ++ rest)
front_cut b rest p None o' again e = absurd cc
front_cut b rest p (Some q) o' again e = ap (in_front (suc b)) (again q refl) ∙ (let is = some_is (suc b ∷ q.0, q.1) p e in ap (λ (x : Bytes × Bytes). Some (x.0, x.1 ++ rest)) is)

cut_more : (bs rest : Bytes) (p : Bytes × Bytes) → cut_at_zero bs ≡ Some p → cut_at_zero (bs ++ rest) ≡ Some (p.0, p.1 ++ rest)
cut_more [] rest p e = absurd cc
cut_more (zero ∷ bs) rest p e = let is = some_is ([], bs) p e in ap (λ (x : Bytes × Bytes). Some (x.0, x.1 ++ rest)) is
cut_more (suc b ∷ bs) rest p e = front_cut b rest p (cut_at_zero bs) (cut_at_zero (bs ++ rest)) (λ q is. cut_more bs rest q is) e

texts_there : (o : Option (Bytes × Bytes)) (n : ℕ) → two_texts_extent o ≡ Ok n → (t : Bytes × Bytes) × (o ≡ Some t)
texts_there None n e = absurd cc
texts_there (Some t) n e = (t, refl)

abbrev second_of : Bytes × Bytes → Option (Bytes × Bytes)
second_of first = option_map (λ second. (first.0, second.0)) (cut_at_zero first.1)

texts_more : (v rest : Bytes) (t : Bytes × Bytes) → two_texts_in v ≡ Some t → two_texts_in (v ++ rest) ≡ Some t
texts_more v rest t e =
    let a = some_then second_of (cut_at_zero v) t e in
    let b = some_map (λ (second : Bytes × Bytes). (a.0.0, second.0)) (cut_at_zero a.0.1) t a.2 in
    ap (option_and_then second_of) (cut_more v rest a.0 a.1) ∙ ap (option_map (λ (second : Bytes × Bytes). (a.0.0, second.0))) (cut_more a.0.1 rest b.0 b.1) ∙ ap Some b.2

more_by : (l : Layout) (v rest : Bytes) (n : ℕ) → extent_by l v ≡ Ok n → extent_by l (v ++ rest) ≡ Ok n
more_by (fixed m) v rest n e = e
more_by (announced least more) v rest n e =
    let told = announced_is least more v n e in
    let four : 4 ≤ length v = omega (arith, ltb-false _ _ (short_or (nat_lt (length v) 4) (result_map (λ m. m + more) (length_from least (int32_in v))) n e)) in
    announced_found least more (v ++ rest) told.0 (omega (arith, four, length-append v rest)) (sym (number_within (length v) (v ++ rest) four) ∙ ap int32_in (take-append_seam v rest) ∙ told.1) told.2 ∙ ap Ok told.3
more_by two_texts v rest n e = let t = texts_there (two_texts_in v) n e in ap two_texts_extent (texts_more v rest t.0 t.1) ∙ ap two_texts_extent (sym t.1) ∙ e

extent_more : (k : ElementType) (v rest : Bytes) → extent k v ≡ Ok (length v) → extent k (v ++ rest) ≡ Ok (length v)
extent_more k v rest e = more_by (layout k) v rest (length v) e

-- ---- an element in front of other bytes

-- The key is a text without a zero, and the bytes are those of one value of the kind.
pub record IsGood (e : Element) : Type 0 where
  pub text : is_utf8 e.key ≡ true
  pub no_zero : has_zero e.key ≡ false
  pub whole : extent e.kind e.value ≡ Ok (length e.value)

value_again : (e : Element) (rest : Bytes) → IsGood e → with_value e.key e.kind (e.value ++ rest) ≡ Ok (e, rest)
value_again e rest g =
    let n = length e.value in
    ap (λ r. r >>= λ m. cond (nat_lt (length (e.value ++ rest)) m) (Err BadExtent) (Ok (record { kind = e.kind; key = e.key; value = take m (e.value ++ rest) }, drop m (e.value ++ rest)))) (extent_more e.kind e.value rest g.whole)
    ∙ cond-false (nat_lt (length (e.value ++ rest)) n) _ _ (le-ltb _ _ (omega (arith, length-append e.value rest)))
    ∙ (λ i. Ok (record { kind = e.kind; key = e.key; value = take_at e.value rest n refl i }, drop_at e.value rest n refl i))

element_again : (e : Element) (rest : Bytes) → IsGood e → element_at (byte e.kind) (e.key ++ (0 ∷ (e.value ++ rest))) ≡ Ok (e, rest)
unfolding element_at
element_again e rest g =
    let b = byte e.kind in
    let bytes = e.value ++ rest in
    ap (key_of b) (cut_again e.key bytes g.no_zero) ∙ cond-true (is_utf8 e.key) (of_kind b e.key (of_byte b) bytes) (Err KeyNotUtf8) g.text ∙ ap (λ o. of_kind b e.key o bytes) (of_byte-byte e.kind) ∙ value_again e rest g

-- the walk of elements goes one by one
pub walked_again : (e : Element) (rest : Bytes) → IsGood e → walk_elements (element e.kind e.key e.value ++ rest) ≡ then_walk e (walk_elements rest)
walked_again e rest g =
    ap (λ (x : Bytes). walk_elements (byte e.kind ∷ x)) (append_assoc e.key (0 ∷ e.value) rest) ∙ walk_ok (byte e.kind) (e.key ++ (0 ∷ (e.value ++ rest))) (e, rest) (element_again e rest g)

-- No fault ends the walk.
abbrev pub IsWhole : Walk → Type 0
IsWhole ended = Unit {0}
IsWhole (faulty e) = ⊥
IsWhole (then_walk x w) = IsWhole w

abbrev pub AreGood : Walk → Type 0
AreGood ended = Unit {0}
AreGood (faulty e) = Unit {0}
AreGood (then_walk x w) = IsGood x × AreGood w

pub walk_joined : (w : Walk) → IsWhole w → AreGood w → walk_elements (joined w) ≡ w
walk_joined ended whole good = walk-nil
walk_joined (faulty e) whole good = absurd whole
walk_joined (then_walk x w) whole good = walked_again x (joined w) good.0 ∙ ap (then_walk x) (walk_joined w whole good.1)

-- ---- the bytes of the elements that were walked

no_bytes : (bs : Bytes) → walk_elements bs ≡ ended → bs ≡ []
no_bytes [] is = refl
no_bytes (b ∷ bs) is = by_case (element_at b bs) refl where
  by_case : (r : Result (Element × Bytes) Error) → element_at b bs ≡ r → b ∷ bs ≡ []
  by_case (Ok p) e = let differ : then_walk p.0 (walk_elements p.1) ≡ ended = sym (walk_ok b bs p e) ∙ is in absurd cc
  by_case (Err f) e = let differ : faulty f ≡ ended = sym (walk_err b bs f e) ∙ is in absurd cc

rest_is : (x y : Element) (w v : Walk) → then_walk x w ≡ then_walk y v → w ≡ v
rest_is x y w v e = cc

-- the elements of bytes are these bytes
pub joined_is : (w : Walk) (bs : Bytes) → walk_elements bs ≡ w → IsWhole w → joined w ≡ bs
joined_is ended bs is whole = sym (no_bytes bs is)
joined_is (faulty e) bs is whole = absurd whole
joined_is (then_walk x w) bs is whole =
    let head = first_head bs x (w, is) in
    let more = rest_is x x (walk_elements (drop (size x) bs)) w (sym head.behind ∙ is) in
    ap (λ r. element x.kind x.key x.value ++ r) (joined_is w (drop (size x) bs) more whole) ∙ ap (λ t. t ++ drop (size x) bs) (sym head.is) ∙ take-append-drop (size x) bs

-- ---- the elements of any bytes are good

value_good : (after : Bytes) (key : Utf8) (k : ElementType) (n : ℕ) (c : Bool) (p : Element × Bytes) → nat_lt (length after) n ≡ c → is_utf8 key ≡ true → extent k after ≡ Ok n
    → cond c (Err BadExtent) (Ok (record { kind = k; key = key; value = take n after }, drop n after)) ≡ Ok p → (is_utf8 p.0.key ≡ true) × (extent p.0.kind p.0.value ≡ Ok (length p.0.value))
value_good after key k n true p within text is h = absurd cc
value_good after key k n false p within text is h =
    let same : (record { kind = k; key = key; value = take n after }, drop n after) ≡ p = cc in
    subst (λ (x : Element × Bytes). (is_utf8 x.0.key ≡ true) × (extent x.0.kind x.0.value ≡ Ok (length x.0.value))) same (text, extent_taken k after n (sym is) (omega (arith, ltb-false _ _ within)))

kind_good : (b : ℕ) (after : Bytes) (key : Utf8) (o : Option ElementType) (p : Element × Bytes) → is_utf8 key ≡ true → of_kind b key o after ≡ Ok p → (is_utf8 p.0.key ≡ true) × (extent p.0.kind p.0.value ≡ Ok (length p.0.value))
kind_good b after key None p text h = absurd cc
kind_good b after key (Some k) p text h =
    let n = bind_ok (extent k after) (λ n. cond (nat_lt (length after) n) (Err BadExtent) (Ok (record { kind = k; key = key; value = take n after }, drop n after))) p h in
    value_good after key k n.0 (nat_lt (length after) n.0) p refl text n.1 n.2

text_good : (b : ℕ) (after : Bytes) (key : Utf8) (c : Bool) (p : Element × Bytes) → is_utf8 key ≡ c → cond c (of_kind b key (of_byte b) after) (Err KeyNotUtf8) ≡ Ok p → (is_utf8 p.0.key ≡ true) × (extent p.0.kind p.0.value ≡ Ok (length p.0.value))
text_good b after key false p is h = absurd cc
text_good b after key true p is h = kind_good b after key (of_byte b) p is h

key_good : (b : ℕ) (o : Option (Bytes × Bytes)) (p : Element × Bytes) → key_of b o ≡ Ok p → (is_utf8 p.0.key ≡ true) × (extent p.0.kind p.0.value ≡ Ok (length p.0.value))
key_good b None p h = absurd cc
key_good b (Some q) p h = text_good b q.1 q.0 (is_utf8 q.0) p refl h

element_good : (b : ℕ) (bytes : Bytes) (p : Element × Bytes) → element_at b bytes ≡ Ok p → IsGood p.0
unfolding element_at
element_good b bytes p h =
    let g = key_good b (cut_at_zero bytes) p h in
    let head = first_head (b ∷ bytes) p.0 (walk_elements p.1, walk_ok b bytes p h) in
    record { text = g.0; no_zero = head.closed; whole = g.1 }

good_step : (b : ℕ) (bs : Bytes) (r : Result (Element × Bytes) Error) → element_at b bs ≡ r → ((p : Element × Bytes) → element_at b bs ≡ Ok p → AreGood (walk_elements p.1)) → AreGood (walk_elements (b ∷ bs))
good_step b bs (Err f) is again = subst AreGood (sym (walk_err b bs f is)) tt
good_step b bs (Ok p) is again = subst AreGood (sym (walk_ok b bs p is)) (element_good b bs p is, again p is)

good_within : (n : ℕ) (bs : Bytes) → length bs ≤ n → AreGood (walk_elements bs)
good_within n [] le = subst AreGood (sym walk-nil) tt
good_within zero (b ∷ bs) le = absurd (omega arith)
good_within (suc n) (b ∷ bs) le = good_step b bs (element_at b bs) refl (λ p is. let s = element_shorter b bs p is in good_within n p.1 (omega (arith, s, le)))

pub walk_good : (bs : Bytes) → AreGood (walk_elements bs)
walk_good bs = good_within (length bs) bs (omega arith)

-- ---- a document or an array of elements

enclosed_by : (k : ElementType) (b : Bytes) → layout k ≡ announced 5 0 → length b + 5 < 2 ^ 31 → extent k (enclosed b) ≡ Ok (length (enclosed b))
enclosed_by k b is small =
    let n = length b + 5 in
    let same : n + 0 ≡ length (enclosed b) = omega (arith, length-enclosed b) in
    ap (λ l. extent_by l (enclosed b)) is ∙ announced_found 5 0 (enclosed b) n (omega (arith, length-enclosed b)) (length_again n (b ++ 0 ∷ []) small) (omega arith) ∙ ap Ok same

-- a document and an array of such elements are values of their kinds
pub enclosed_whole : (b : Bytes) → length b + 5 < 2 ^ 31 → (extent EmbeddedDocument (enclosed b) ≡ Ok (length (enclosed b))) × (extent Array (enclosed b) ≡ Ok (length (enclosed b)))
enclosed_whole b small = (enclosed_by EmbeddedDocument b refl small, enclosed_by Array b refl small)
