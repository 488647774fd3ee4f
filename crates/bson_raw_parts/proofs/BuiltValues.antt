-- Values that are built, in their bytes and beside them.
use Rattle.std.proofs.Common.{◌≡◌, ℕ, zero, suc, ◌+◌, ◌≤◌, ◌<◌, [], ◌∷◌, ◌++◌, length, drop, Bool, true, false, cond, Option, Some, None, Result, Ok, Err, IfOk, refl, ap, sym, ◌∙◌, append_assoc, arith, ◌⊎◌, inl, inr}
use Rattle.std.specs.Prelude.{codes, pos}
use Rattle.std.specs.Str.{bytes_eq}
use Rattle.std.proofs.lemmas.List.{length-append, drop_at}
use Rattle.bson_base.specs.Folded.{text_of}
use Rattle.bson_kinds.specs.Outcome.{◌>>=◌}
use Rattle.bson_base.specs.Sound.{max_bytes}
use Rattle.bson_kinds.specs.Text.{Bytes, Utf8}
use Rattle.bson_base.specs.Tree.{Tree, document, array, raw, binary, javascript_code, javascript_code_with_scope, Pairs, no_pairs, pair, le32, closed_text, enclosed, enc, kind, elements, array_elements}
use Rattle.bson_kinds.specs.declared.element_type.ElementType.TheVariants.{JavaScriptCode, JavaScriptCodeWithScope}
use Rattle.bson_base.proofs.Lengths.{length-le32}
use Rattle.bson_kinds.proofs.Outcomes.{ok_is, map_ok}
use Rattle.bson_kinds.specs.Piece.{made}
use Rattle.bson_values.specs.Cause.{unknown_field}
use Rattle.bson_values.specs.Marked.{Marked}
use Rattle.bson_datum.specs.MarkedView.{marked}
use Rattle.bson_values.specs.Refusal.{ReadFault, Refusal}
use Rattle.bson_values.specs.Value as value
use Rattle.bson_values.specs.Value.{u8}
use Rattle.bson_datum.specs.declared.datum.Datum.{Datum}
use Rattle.bson_values.specs.declared.wrapper.Wrapper.{Wrapper}
use Rattle.bson_values.specs.declared.wrapper.Wrapper.TheVariants.{Code}
use Rattle.bson_laws.specs.Assembled.{Building, or_bad, plain, Looked, scope_of, with_scope, after_code, scope_in}
use Rattle.bson_laws.specs.Datum.{two, wrapped, nameless}
use Rattle.bson_laws.specs.Judged.{Reading, scope_key}
use Rattle.bson_laws.specs.TreeRaw.{built_value}
use Rattle.bson_laws.proofs.Framed.{IsFramed}
use Rattle.bson_laws.proofs.ReadBack.{enclosed_framed}
use Rattle.bson_met.specs.Gives.{RefusesAs}
use Rattle.bson_raw_parts.specs.Putting.{stands_for, body_built, code_built}
use Rattle.bson_raw_parts.specs.BuiltView.{IsWhole, IsContainer}
use Rattle.bson_raw_parts.proofs.Rawless.{plain_is}

-- ---- what is made

-- what is made is what the value is
pub made_is : {E : Type 0} (r : Result Datum E) (expected : Reading Marked) (m : Marked) → expected ≡ Ok m → IfOk r (λ d. marked d ≡ m) → IfOk r (λ d. expected ≡ Ok (marked d))
made_is (Ok d) expected m e h = e ∙ ap Ok (sym h)
made_is (Err x) expected m e h = tt

-- what is read is never refused
pub never_refused : {A B : Type 0} (o : Option (Refusal ReadFault)) (x : A) (y : B) → RefusesAs o (let r : Reading A = Ok x in r) → RefusesAs o (let r : Reading B = Ok y in r)
never_refused None x y h = tt
never_refused (Some r) x y h = absurd cc

-- ---- binaries

pub plain_binary : (n : ℕ) (b : Bytes) → n ≡ 0 → built_value (binary n b) ≡ Ok (value.bytes (made b))
plain_binary zero b e = refl
plain_binary (suc n) b e = absurd (omega arith)

pub other_binary : (n : ℕ) (b : Bytes) → 0 < n → built_value (binary n b) ≡ Ok (wrapped made (codes "$binary") (nameless made (two made (codes "bytes") (value.bytes (made b)) (codes "subType") (value.integer u8 (pos n)))))
other_binary zero b e = absurd (omega arith)
other_binary (suc n) b e = refl

-- ---- what first keys stand for

-- what the value of a first key stands for is what the document is built as
pub body_plain : (w : Wrapper) (v b t : Tree) → Some b ≡ stands_for w v → body_built w v ≡ Ok t → b ≡ t
body_plain w v b t is e = plain_is b t (ap (λ o. or_bad w o >>= plain) is ∙ e)

pub body_none : (w : Wrapper) (v t : Tree) → None ≡ stands_for w v → body_built w v ≡ Ok t → ⊥
body_none w v t is e = let h = ap (λ o. or_bad w o >>= plain) is ∙ e in absurd cc

-- ---- codes

-- the text that a code begins with stays its text
after_cases : (rest : Pairs) (text : Utf8) (levels : ℕ) (t : Tree) → after_code rest text levels ≡ Ok t → (t ≡ javascript_code text) ⊎ ((scope : Pairs) × (t ≡ javascript_code_with_scope text scope))
after_cases no_pairs text levels t e = inl (sym (ok_is (javascript_code text) t e))
after_cases (pair key v rest) text levels t e = by_case (bytes_eq key scope_key) e where
  scoped : (r : Building Looked) → with_scope text r ≡ Ok t → (t ≡ javascript_code text) ⊎ ((scope : Pairs) × (t ≡ javascript_code_with_scope text scope))
  scoped r h = let m = map_ok (javascript_code_with_scope text) (r >>= scope_of) t h in inr (m.0, sym m.2)

  by_case : (b : Bool) → cond b (with_scope text (scope_in v levels)) (Err (unknown_field key)) ≡ Ok t → (t ≡ javascript_code text) ⊎ ((scope : Pairs) × (t ≡ javascript_code_with_scope text scope))
  by_case true h = scoped (scope_in v levels) h
  by_case false h = absurd cc

pub code_cases : (v : Tree) (rest : Pairs) (levels : ℕ) (text : Utf8) (t : Tree) → Some text ≡ text_of v → code_built v rest levels ≡ Ok t → (t ≡ javascript_code text) ⊎ ((scope : Pairs) × (t ≡ javascript_code_with_scope text scope))
code_cases v rest levels text t is e = after_cases rest text levels t (ap (λ o. or_bad Code o >>= λ x. after_code rest x levels) is ∙ e)

pub code_none : (v : Tree) (rest : Pairs) (levels : ℕ) (t : Tree) → None ≡ text_of v → code_built v rest levels ≡ Ok t → ⊥
code_none v rest levels t is e = let h = ap (λ o. or_bad Code o >>= λ x. after_code rest x levels) is ∙ e in absurd cc

-- it is a code alone where its kind is that of one, and else a code with a scope
alone_is : (text : Utf8) (t : Tree) → (t ≡ javascript_code text) ⊎ ((scope : Pairs) × (t ≡ javascript_code_with_scope text scope)) → kind t ≡ JavaScriptCode → t ≡ javascript_code text
alone_is text t (inl is) same = is
alone_is text t (inr s) same = absurd (let h : JavaScriptCodeWithScope ≡ JavaScriptCode = sym (ap kind s.1) ∙ same in cc)

pub code_alone : (v : Tree) (rest : Pairs) (levels : ℕ) (text : Utf8) (t : Tree) → Some text ≡ text_of v → code_built v rest levels ≡ Ok t → kind t ≡ JavaScriptCode → t ≡ javascript_code text
code_alone v rest levels text t is e same = alone_is text t (code_cases v rest levels text t is e) same

scoped_is : (text : Utf8) (t : Tree) → (t ≡ javascript_code text) ⊎ ((scope : Pairs) × (t ≡ javascript_code_with_scope text scope)) → (kind t ≡ JavaScriptCode → ⊥) → (scope : Pairs) × (t ≡ javascript_code_with_scope text scope)
scoped_is text t (inl is) other = absurd (other (ap kind is))
scoped_is text t (inr s) other = s

pub code_scoped : (v : Tree) (rest : Pairs) (levels : ℕ) (text : Utf8) (t : Tree) → Some text ≡ text_of v → code_built v rest levels ≡ Ok t → (kind t ≡ JavaScriptCode → ⊥) → (scope : Pairs) × (t ≡ javascript_code_with_scope text scope)
code_scoped v rest levels text t is e other = scoped_is text t (code_cases v rest levels text t is e) other

-- how many bytes a text is with its length and its zero
closed_length : (code : Utf8) → length (closed_text code) ≡ length code + 5
closed_length code =
    let parts : length (closed_text code) ≡ length (le32 (length code + 1)) + length (code ++ 0 ∷ []) = length-append (le32 (length code + 1)) (code ++ 0 ∷ []) in
    omega (arith, parts, length-le32 (length code + 1), length-append code (0 ∷ []))

-- and a code with its scope
scoped_length : (code : Utf8) (scope : Pairs) → length (enc (javascript_code_with_scope code scope)) ≡ length code + 9 + length (enclosed (elements scope))
scoped_length code scope =
    let rest = closed_text code ++ enclosed (elements scope) in
    let parts : length (enc (javascript_code_with_scope code scope)) ≡ length (le32 (length rest + 4)) + length rest = length-append (le32 (length rest + 4)) rest in
    omega (arith, parts, length-le32 (length rest + 4), length-append (closed_text code) (enclosed (elements scope)), closed_length code)

-- the bytes in front of its scope are those of its text and nine
pub scope_begins : (code : Utf8) (scope : Pairs) → length code + 9 ≤ length (enc (javascript_code_with_scope code scope))
scope_begins code scope = omega (arith, scoped_length code scope)

-- the bytes of its scope are those behind its text
pub scope_bytes : (code : Utf8) (scope : Pairs) → drop (length code + 9) (enc (javascript_code_with_scope code scope)) ≡ enc (document scope)
scope_bytes code scope =
    let total = le32 (length (closed_text code ++ enclosed (elements scope)) + 4) in
    let apart : enc (javascript_code_with_scope code scope) ≡ (total ++ closed_text code) ++ enclosed (elements scope) = sym (append_assoc total (closed_text code) (enclosed (elements scope))) in
    let front : length (total ++ closed_text code) ≡ length code + 9 =
    omega (arith, length-append total (closed_text code), length-le32 (length (closed_text code ++ enclosed (elements scope)) + 4), closed_length code) in
    ap (drop (length code + 9)) apart ∙ drop_at (total ++ closed_text code) (enclosed (elements scope)) (length code + 9) front

-- ---- envelopes

pub container_framed : (t : Tree) → IsWhole t → IsContainer (kind t) → IsFramed (enc t)
container_framed (document ps) w c = let short : length (enclosed (elements ps)) ≤ max_bytes = w.1 in enclosed_framed (elements ps) (omega (arith, short))
container_framed (array ts) w c = let short : length (enclosed (array_elements 0 ts)) ≤ max_bytes = w.1 in enclosed_framed (array_elements 0 ts) (omega (arith, short))
container_framed (raw k b) w c = absurd w.0
container_framed t w c = absurd c

pub scope_framed : (code : Utf8) (scope : Pairs) → length (enc (javascript_code_with_scope code scope)) ≤ max_bytes → IsFramed (enc (document scope))
scope_framed code scope short = enclosed_framed (elements scope) (omega (arith, short, scoped_length code scope))
