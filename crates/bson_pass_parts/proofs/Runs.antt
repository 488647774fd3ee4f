-- Elements in bytes one behind another, and runs of them.
use Rattle.std.proofs.Common.{◌≡◌, ℕ, zero, suc, ◌+◌, ◌-◌, ◌≤◌, [], ◌∷◌, ◌++◌, length, take, drop, Bool, true, false, cond, Option, Some, None, Result, Ok, Err, refl, ap, sym, subst, ◌∙◌, arith}
use Rattle.std.specs.Prelude.{nat_lt}
use Rattle.std.specs.Str.{is_utf8}
use Rattle.std.proofs.lemmas.List.{append_assoc, append-nil, length-append, take-append-drop, take_at, drop_at, drop-drop, length-drop, take-take, take_rest, drop_all}
use Rattle.bson_kinds.specs.Kind.{byte, of_byte}
use Rattle.bson_kinds.specs.Text.{Bytes, Utf8, has_zero}
use Rattle.bson_base.specs.Tree.{Tree, element}
use Rattle.bson_kinds.specs.declared.element_type.ElementType.{ElementType}
use Rattle.bson_kinds.proofs.Outcomes.{bind_ok}
use Rattle.bson_rawdoc.specs.Extent.{cut_at_zero, extent}
use Rattle.bson_rawdoc.specs.Node.{node_in}
use Rattle.bson_rawdoc.specs.Walk.{Element, of_kind, with_key, element_at, Walk, ended, faulty, then_walk, walk_elements}
use Rattle.bson_faults.specs.declared.raw.Error.{Error}
use Rattle.bson_faults.specs.declared.raw.Error.TheVariants.{KeyNotUtf8, BadExtent}
use Rattle.bson_rawdoc.proofs.Walks.{walk-nil, walk_ok, walk_err}
use Rattle.bson_shape.specs.Form.{Form}
use Rattle.bson_itself.proofs.Left.{byte_is, cut_parts}
use Rattle.bson_pass_parts.specs.Put.{recast_node, IsPut, IsElementPut}
use Rattle.bson_pass_parts.specs.Run.{IsFirst, IsHead, IsKept, run, size}

-- ---- the element that bytes begin with

-- bytes behind a byte begin with the key and the value of this element, and the others are behind it
record BeginsWith (e : Element) (b : ℕ) (bytes more : Bytes) : Type 0 where
  pub byte_of : byte e.kind ≡ b
  pub closed : has_zero e.key ≡ false
  pub parts : bytes ≡ e.key ++ 0 ∷ (e.value ++ more)

value_begins : (b : ℕ) (bytes after : Bytes) (key : Utf8) (k : ElementType) (n : ℕ) (c : Bool) (p : Element × Bytes) → byte k ≡ b → has_zero key ≡ false → bytes ≡ key ++ 0 ∷ after
    → cond c (Err BadExtent) (Ok (record { kind = k; key = key; value = take n after }, drop n after)) ≡ Ok p → BeginsWith p.0 b bytes p.1
value_begins b bytes after key k n true p is closed parts h = absurd cc
value_begins b bytes after key k n false p is closed parts h =
    let same : (record { kind = k; key = key; value = take n after }, drop n after) ≡ p = cc in
    subst (λ (x : Element × Bytes). BeginsWith x.0 b bytes x.1) same
    (record { byte_of = is; closed = closed; parts = parts ∙ ap (λ (x : Bytes). key ++ 0 ∷ x) (sym (take-append-drop n after)) })

kind_begins : (b : ℕ) (bytes after : Bytes) (key : Utf8) (o : Option ElementType) (p : Element × Bytes) → of_byte b ≡ o → has_zero key ≡ false → bytes ≡ key ++ 0 ∷ after → of_kind b key o after ≡ Ok p → BeginsWith p.0 b bytes p.1
kind_begins b bytes after key None p is closed parts h = absurd cc
kind_begins b bytes after key (Some k) p is closed parts h =
    let n = bind_ok (extent k after) (λ n. cond (nat_lt (length after) n) (Err BadExtent) (Ok (record { kind = k; key = key; value = take n after }, drop n after))) p h in
    value_begins b bytes after key k n.0 (nat_lt (length after) n.0) p (byte_is b k is) closed parts n.2

text_begins : (b : ℕ) (bytes after : Bytes) (key : Utf8) (c : Bool) (p : Element × Bytes) → has_zero key ≡ false → bytes ≡ key ++ 0 ∷ after → cond c (of_kind b key (of_byte b) after) (Err KeyNotUtf8) ≡ Ok p → BeginsWith p.0 b bytes p.1
text_begins b bytes after key false p closed parts h = absurd cc
text_begins b bytes after key true p closed parts h = kind_begins b bytes after key (of_byte b) p refl closed parts h

key_begins : (b : ℕ) (bytes : Bytes) (o : Option (Bytes × Bytes)) (p : Element × Bytes) → cut_at_zero bytes ≡ o → with_key b o ≡ Ok p → BeginsWith p.0 b bytes p.1
key_begins b bytes None p cut h = absurd cc
key_begins b bytes (Some q) p cut h = let parts = cut_parts bytes q cut in text_begins b bytes q.1 q.0 (is_utf8 q.0) p parts.0 parts.1 h

element_begins : (b : ℕ) (bytes : Bytes) (p : Element × Bytes) → element_at b bytes ≡ Ok p → BeginsWith p.0 b bytes p.1
unfolding element_at
element_begins b bytes p h = key_begins b bytes (cut_at_zero bytes) p refl h

-- an element in front of other bytes
in_front : (b : ℕ) (bytes : Bytes) (e : Element) (more : Bytes) → BeginsWith e b bytes more → b ∷ bytes ≡ element e.kind e.key e.value ++ more
in_front b bytes e more p = (λ i. sym p.byte_of i ∷ p.parts i) ∙ ap (λ (x : Bytes). byte e.kind ∷ x) (sym (append_assoc e.key (0 ∷ e.value) more))

size_is : (e : Element) → length (element e.kind e.key e.value) ≡ size e
size_is e = omega (arith, length-append e.key (0 ∷ e.value))

head_of : (bytes : Bytes) (e : Element) (more : Bytes) → bytes ≡ element e.kind e.key e.value ++ more → has_zero e.key ≡ false → walk_elements bytes ≡ then_walk e (walk_elements more) → IsHead bytes e
head_of bytes e more whole closed walked =
    let el = element e.kind e.key e.value in
    record {
      fits = omega (arith, ap length whole, length-append el more, size_is e);
      is = ap (take (size e)) whole ∙ take_at el more (size e) (size_is e);
      closed = closed;
      behind = walked ∙ ap (λ (x : Bytes). then_walk e (walk_elements x)) (sym (ap (drop (size e)) whole ∙ drop_at el more (size e) (size_is e)));
    }

walk_begins : (b : ℕ) (bytes : Bytes) (r : Result (Element × Bytes) Error) (e : Element) (w : Walk) → element_at b bytes ≡ r → walk_elements (b ∷ bytes) ≡ then_walk e w → IsHead (b ∷ bytes) e
walk_begins b bytes (Err f) e w is h = absurd (differ (sym (walk_err b bytes f is) ∙ h)) where
  differ : faulty f ≡ then_walk e w → ⊥
  differ x = cc
walk_begins b bytes (Ok p) e w is h =
    let both : then_walk p.0 (walk_elements p.1) ≡ then_walk e w = sym (walk_ok b bytes p is) ∙ h in
    let same : p.0 ≡ e = cc in
    let begins = element_begins b bytes p is in
    subst (λ x. IsHead (b ∷ bytes) x) same (head_of (b ∷ bytes) p.0 p.1 (in_front b bytes p.0 p.1 begins) begins.closed (walk_ok b bytes p is))

pub first_head : (bytes : Bytes) (e : Element) → IsFirst bytes e → IsHead bytes e
first_head [] e h = absurd (differ (sym walk-nil ∙ h.1)) where
  differ : ended ≡ then_walk e h.0 → ⊥
  differ x = cc
first_head (b ∷ bytes) e h = walk_begins b bytes (element_at b bytes) e h.0 refl h.1

-- the front of an element
pub front_is : (bytes : Bytes) (e : Element) → IsFirst bytes e → take (length e.key + 2) bytes ≡ byte e.kind ∷ (e.key ++ 0 ∷ [])
front_is bytes e h =
    let head = first_head bytes e h in
    let el = element e.kind e.key e.value in
    let front = byte e.kind ∷ (e.key ++ 0 ∷ []) in
    let parts : el ≡ front ++ e.value = ap (λ (x : Bytes). byte e.kind ∷ x) (sym (append_assoc e.key (0 ∷ []) e.value)) in
    let long : length front ≡ length e.key + 2 = omega (arith, length-append e.key (0 ∷ [])) in
    let within : length e.key + 2 ≤ size e = omega arith in
    sym (take-take (length e.key + 2) (size e) bytes within) ∙ ap (take (length e.key + 2)) (head.is ∙ parts) ∙ take_at front e.value (length e.key + 2) long

-- ---- runs

take_nil : (m : ℕ) → take {A = ℕ} m [] ≡ []
take_nil zero = refl
take_nil (suc m) = refl

take_plus : (a n : ℕ) (xs : Bytes) → take (a + n) xs ≡ take a xs ++ take n (drop a xs)
take_plus zero n xs = let none : 0 + n ≡ n = omega arith in ap (λ m. take m xs) none
take_plus (suc a) n [] = take_nil (suc a + n) ∙ sym (take_nil n)
take_plus (suc a) n (x ∷ xs) = let more : suc a + n ≡ suc (a + n) = omega arith in ap (λ m. take m (x ∷ xs)) more ∙ ap (λ (l : Bytes). x ∷ l) (take_plus a n xs)

-- no element is in the run
pub run_none : (bytes : Bytes) (at : ℕ) → run bytes at at ≡ []
run_none bytes at = let none : at - at ≡ 0 = omega arith in rw none refl

-- some bytes more
pub run_more : (bytes : Bytes) (from at n : ℕ) → from ≤ at → run bytes from (at + n) ≡ run bytes from at ++ take n (drop at bytes)
run_more bytes from at n order =
    let count : (at + n) - from ≡ (at - from) + n = omega arith in
    let there : from + (at - from) ≡ at = omega arith in
    ap (λ m. take m (drop from bytes)) count
    ∙ take_plus (at - from) n (drop from bytes)
    ∙ ap (λ (l : Bytes). take (at - from) (drop from bytes) ++ take n l) (drop-drop (at - from) from bytes ∙ ap (λ m. drop m bytes) there)

-- the run in which an element is left
pub run_next : (bytes : Bytes) (from at : ℕ) (e : Element) → from ≤ at → IsHead (drop at bytes) e → run bytes from (at + size e) ≡ run bytes from at ++ element e.kind e.key e.value
run_next bytes from at e order head = run_more bytes from at (size e) order ∙ ap (λ (l : Bytes). run bytes from at ++ l) head.is

-- all bytes
pub run_all : (bytes : Bytes) (at : ℕ) → length bytes ≤ at → run bytes 0 at ≡ bytes
run_all bytes at all = take_long at bytes all where
  take_long : (n : ℕ) (xs : Bytes) → length xs ≤ n → take (n - 0) (drop 0 xs) ≡ xs
  take_long n xs h = let same : n - 0 ≡ n = omega arith in rw same (all_taken n xs h) where
    all_taken : (n : ℕ) (xs : Bytes) → length xs ≤ n → take n xs ≡ xs
    all_taken zero [] h = refl
    all_taken zero (x ∷ xs) h = absurd (omega arith)
    all_taken (suc n) [] h = refl
    all_taken (suc n) (x ∷ xs) h = ap (λ (l : Bytes). x ∷ l) (all_taken n xs (omega arith))

-- ---- values that are written as they were read

-- a kept value behind other bytes
pub kept_behind : (o : Option Tree) (b old new : Bytes) (k : ElementType) → IsPut o [] b k → new ≡ old ++ b → IsPut o old new k
kept_behind None b old new k h put = absurd h
kept_behind (Some t) b old new k h put = (h.0, put ∙ ap (λ (x : Bytes). old ++ x) h.1)

-- an element whose value is kept
pub kept_element : (o : Option Tree) (key : Utf8) (b old new : Bytes) (k : ElementType) → IsPut o [] b k → new ≡ old ++ element k key b → IsElementPut o key old new
kept_element None key b old new k h put = absurd h
kept_element (Some t) key b old new k h put = put ∙ (λ i. old ++ element (sym h.0 i) key (h.1 i))

-- an element that is left in the run
pub next_kept : (s : Form) (levels : ℕ) (bytes : Bytes) (from at : ℕ) (e : Element) (made : Bytes) → from ≤ at → IsHead (drop at bytes) e → IsKept s levels e.kind e.value
    → IsElementPut (recast_node s levels (node_in levels e.kind e.value)) e.key (made ++ run bytes from at) (made ++ run bytes from (at + size e))
next_kept s levels bytes from at e made order head kept =
    kept_element (recast_node s levels (node_in levels e.kind e.value)) e.key e.value (made ++ run bytes from at) (made ++ run bytes from (at + size e)) e.kind kept
    (ap (λ (x : Bytes). made ++ x) (run_next bytes from at e order head) ∙ sym (append_assoc made (run bytes from at) (element e.kind e.key e.value)))

-- an element that is written behind the run
pub next_changed : (o : Option Tree) (key : Utf8) (bytes : Bytes) (from at n : ℕ) (made flushed new : Bytes) → flushed ≡ made ++ run bytes from at → IsElementPut o key flushed new → IsElementPut o key (made ++ run bytes from at) (new ++ run bytes n n)
next_changed o key bytes from at n made flushed new put h =
    subst (λ (x : Bytes). IsElementPut o key (made ++ run bytes from at) x) (sym (ap (λ (x : Bytes). new ++ x) (run_none bytes n) ∙ append-nil new)) (subst (λ (x : Bytes). IsElementPut o key x new) put h)

-- the one element of bytes, and the run in which it may be left
pub run_put : (o : Option Tree) (key : Utf8) (bytes : Bytes) (from behind n : ℕ) (old made new : Bytes) → behind ≡ n → IsElementPut o key (old ++ run bytes 0 0) (made ++ run bytes from (0 + n)) → new ≡ made ++ run bytes from behind → IsElementPut o key old new
run_put o key bytes from behind n old made new is h put =
    let there : behind ≡ 0 + n = omega (arith, is) in
    subst (λ (x : Bytes). IsElementPut o key x new) (ap (λ (x : Bytes). old ++ x) (run_none bytes 0) ∙ append-nil old)
    (subst (λ (x : Bytes). IsElementPut o key (old ++ run bytes 0 0) x) (sym (put ∙ ap (λ m. made ++ run bytes from m) there)) h)

-- ---- steps

-- the bytes behind a place
pub head_at : (bytes : Bytes) (at : ℕ) (e : Element) → IsHead (take (length bytes - at) (drop at bytes)) e → IsHead (drop at bytes) e
head_at bytes at e head = subst (λ (x : Bytes). IsHead x e) (take_rest bytes at) head

pub first_at : (bytes : Bytes) (at : ℕ) (e : Element) → IsFirst (drop at bytes) e → IsFirst (take (length bytes - at) (drop at bytes)) e
first_at bytes at e first = subst (λ (x : Bytes). IsFirst x e) (sym (take_rest bytes at)) first

-- the walk behind an element
pub walk_next : (bytes : Bytes) (at n : ℕ) (e : Element) → IsHead (drop at bytes) e → n ≡ size e → walk_elements (drop at bytes) ≡ then_walk e (walk_elements (drop (at + n) bytes))
walk_next bytes at n e head is = head.behind ∙ ap (λ m. then_walk e (walk_elements (drop m (drop at bytes)))) (sym is) ∙ ap (λ (x : Bytes). then_walk e (walk_elements x)) (drop-drop n at bytes)

-- no element is left behind the last byte
pub walk_over : (bytes : Bytes) (at : ℕ) → length bytes ≤ at → walk_elements (drop at bytes) ≡ ended
walk_over bytes at all = ap walk_elements (drop_all at bytes all) ∙ walk-nil

pub next_within : (bytes : Bytes) (at n : ℕ) (e : Element) → at ≤ length bytes → IsHead (drop at bytes) e → n ≡ size e → at + n ≤ length bytes
next_within bytes at n e within head is = omega (arith, head.fits, is, length-drop at bytes)

-- nothing is left of a run that was written
pub run_written : (bytes made flushed : Bytes) (from at : ℕ) → flushed ≡ made ++ run bytes from at → (n : ℕ) → flushed ++ run bytes n n ≡ made ++ run bytes from at
run_written bytes made flushed from at put n = ap (λ (x : Bytes). flushed ++ x) (run_none bytes n) ∙ append-nil flushed ∙ put
