-- What the builder leaves: what the definition gives, or why not. Source: this library's own readers and writers.
use Rattle.std.specs.Prelude.{◌≡◌, ℕ, ◌++◌, length, nat_lt, if◌then◌else◌, Bool, true, false, Option, Some, None, Result, Ok, Err}
use Rattle.bson_base.specs.Encoded.{zero_fault}
use Rattle.bson_base.specs.Folded.{text_of}
use Rattle.bson_kinds.specs.Outcome.{◌>>=◌, result_map}
use Rattle.bson_base.specs.Sound.{max_bytes}
use Rattle.bson_kinds.specs.Text.{Bytes, Utf8}
use Rattle.bson_base.specs.Tree.{Tree, Pairs, kind, enc}
use Rattle.bson_kinds.specs.declared.element_type.ElementType.{ElementType}
use Rattle.bson_values.specs.Cause.{too_long}
use Rattle.bson_values.specs.ErrorView.{read_failure}
use Rattle.bson_values.specs.Refusal.{ReadFault, unreadable, Failure, no_memory, bare}
use Rattle.bson_values.specs.declared.de.Error.{Error}
use Rattle.bson_values.specs.declared.wrapper.Wrapper.{Wrapper}
use Rattle.bson_values.specs.declared.wrapper.Wrapper.TheVariants.{Code}
use Rattle.bson_laws.specs.Assembled.{Building, RawBytes, unless, Looked, stays, becomes, looked_tree, or_bad, of_body, after_code}
use Rattle.bson_laws.specs.FirstKeys.{FirstKey, body, first_key}

-- the failure is the refusal of the definition, without a path; nothing is said where memory ran out
abbrev pub RefusesFor : {A : Type 0} → Failure ReadFault → Building A → Type 0
RefusesFor no_memory expected = Unit {0}
RefusesFor (bare (unreadable c)) expected = expected ≡ Err c
RefusesFor f expected = ⊥

-- the call gives what the definition gives, its value seen so, or the refusal of the definition; or memory ran out
abbrev pub Gives : {X Y : Type 0} → (X → Y) → Result X Error → Building Y → Type 0
Gives see (Ok x) expected = expected ≡ Ok (see x)
Gives see (Err e) expected = RefusesFor (read_failure e) expected

-- a kind, and the bytes so far with those of a value of this kind behind them
abbrev pub with_value : Bytes → Building Tree → Building (ElementType × Bytes)
with_value old expected = result_map (λ t. (kind t, old ++ enc t)) expected

-- the value of the definition was appended, and its kind is answered
abbrev pub Puts : Result ElementType Error → (old new : Bytes) → Building Tree → Type 0
Puts result old new expected = Gives (λ k. (k, new)) result (with_value old expected)

-- the kind of what a document becomes; none where it stays a document
abbrev pub looked_kind : Looked → Option ElementType
looked_kind (stays ps) = None
looked_kind (becomes t) = Some (kind t)

abbrev pub with_looked : Bytes → Building Looked → Building (Option ElementType × Bytes)
with_looked old expected = result_map (λ x. (looked_kind x, old ++ enc (looked_tree x))) expected

-- the same for a document that was looked at
abbrev pub PutsLooked : Result (Option ElementType) Error → (old new : Bytes) → Building Looked → Type 0
PutsLooked result old new expected = Gives (λ k. (k, new)) result (with_looked old expected)

-- the part of the definition was appended as these bytes
abbrev pub PutsPart : {A : Type 0} → (A → Bytes) → Result (Unit {0}) Error → (old new : Bytes) → Building A → Type 0
PutsPart bytes result old new expected = Gives (λ _. new) result (result_map (λ x. old ++ bytes x) expected)

-- what was appended as a whole, where it has no more bytes than a document may
abbrev pub whole_of : ElementType → Bytes → Building RawBytes
whole_of k b = if nat_lt max_bytes (length b) then Err too_long else Ok (record { kind = k; bytes = b })

-- a part of a regular expression
abbrev pub part_expected : Utf8 → Building Utf8
part_expected t = unless (zero_fault t) (Ok t)

-- ---- first keys

-- a document with this first key becomes another value, whatever follows the value of the key
abbrev pub is_body : FirstKey → Bool
is_body (body form) = true
is_body k = false

-- what the value of such a key stands for, where it has the form
abbrev pub form_of : FirstKey → Tree → Option Tree
form_of (body form) t = form t
form_of k t = None

abbrev pub stands_for : Wrapper → Tree → Option Tree
stands_for w t = form_of (first_key w) t

-- what it is built as
abbrev pub body_built : Wrapper → Tree → Building Tree
body_built w t = of_body w (stands_for w) t

-- what a document whose first key is `$code` is built as, from the value of the key and the pairs after it
abbrev pub code_built : Tree → Pairs → (levels : ℕ) → Building Tree
code_built t ps levels = or_bad Code (text_of t) >>= λ text. after_code ps text levels
