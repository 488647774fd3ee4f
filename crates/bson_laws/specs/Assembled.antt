-- The bytes of a value after each document in it has been looked at by its first key. Source: the raw values of MongoDB's crate bson, version 2, bsonspec.org, version 1.1,
-- and the limits of this library.
use Rattle.std.specs.Prelude.{ℕ, zero, suc, if◌then◌else◌, nat_lt, length, Option, Some, None, Result, Ok, Err}
use Rattle.std.specs.Str.{bytes_eq}
use Rattle.bson_base.specs.Encoded as faults
use Rattle.bson_base.specs.Encoded.{EncodeFault, zero_fault, encode_fault}
use Rattle.bson_base.specs.Folded.{text_of}
use Rattle.bson_kinds.specs.Outcome.{◌>>=◌, result_map}
use Rattle.bson_base.specs.Sound.{max_levels, max_bytes}
use Rattle.bson_kinds.specs.Text.{Bytes, Utf8}
use Rattle.bson_base.specs.Tree.{Tree, document, array, javascript_code, javascript_code_with_scope, Pairs, no_pairs, pair, Trees, no_trees, tree, kind, enc}
use Rattle.bson_kinds.specs.declared.element_type.ElementType.{ElementType}
use Rattle.bson_values.specs.Cause.{Cause, too_deep, unknown_field, bad_body, zero_byte, binary_too_long, too_long}
use Rattle.bson_values.specs.Wrapper.{of_key}
use Rattle.bson_values.specs.declared.wrapper.Wrapper.{Wrapper}
use Rattle.bson_values.specs.declared.wrapper.Wrapper.TheVariants.{Code}
use Rattle.bson_laws.specs.Judged.{scope_key}
use Rattle.bson_laws.specs.FirstKeys.{FirstKey, body, code, ordinary, first_key}

-- an answer of building: something, or the first cause in document order to refuse it
abbrev pub Building : Type 0 → Type 0
Building A = Result A Cause

-- ---- what is refused

abbrev pub cause_of : EncodeFault → Cause
cause_of (faults.key_zero t) = zero_byte
cause_of (faults.binary_too_long n) = binary_too_long n
cause_of faults.too_long = too_long

-- an answer, unless there is this fault
abbrev pub unless : {A : Type 0} → Option EncodeFault → Building A → Building A
unless None answer = answer
unless (Some f) answer = Err (cause_of f)

-- what the value of a first key stands for, where it has the form
abbrev pub or_bad : {A : Type 0} → Wrapper → Option A → Building A
or_bad w (Some x) = Ok x
or_bad w None = Err (bad_body w)

-- a document or an array takes one of the levels that are left
abbrev pub one_level : {A : Type 0} → (ℕ → Building A) → (levels : ℕ) → Building A
one_level inside zero = Err too_deep
one_level inside (suc levels) = inside levels

-- ---- documents

-- a document after it was looked at: still a document, of these pairs, or another value
pub data Looked : Type 0 where
  stays : Pairs → Looked
  becomes : Tree → Looked

abbrev pub looked_tree : Looked → Tree
looked_tree (stays ps) = document ps
looked_tree (becomes t) = t

-- the pairs of the scope of a code, which is to stay a document
abbrev pub scope_of : Looked → Building Pairs
scope_of (stays ps) = Ok ps
scope_of (becomes t) = Err (bad_body Code)

-- a value without others in it
abbrev pub plain : Tree → Building Tree
plain t = unless (encode_fault t) (Ok t)

-- the value of a pair: its key is judged before it
abbrev pub under_key : Utf8 → Building Tree → Building Tree
under_key key value = unless (zero_fault key) value

-- a pair, and the others after it
abbrev pub with_pair : Utf8 → Building Tree → Building Pairs → Building Pairs
with_pair key value others = under_key key value >>= λ t. result_map (pair key t) others

-- a code with what its scope was built as
abbrev pub with_scope : Utf8 → Building Looked → Building Tree
with_scope text scope = result_map (javascript_code_with_scope text) (scope >>= scope_of)

-- what the value of a first key is built as
abbrev pub of_body : Wrapper → (Tree → Option Tree) → Tree → Building Tree
of_body w form t = or_bad w (form t) >>= plain

-- A document by its first key: it becomes what the value of the key stands for, or a code, alone or with its scope; or it stays a document.
abbrev pub by_first_key : Wrapper → FirstKey → Tree → (with_code : Utf8 → Building Tree) → (as_document : Building Looked) → Building Looked
by_first_key w (body form) t with_code as_document = result_map becomes (of_body w form t)
by_first_key w code t with_code as_document = result_map becomes (or_bad Code (text_of t) >>= with_code)
by_first_key w ordinary t with_code as_document = as_document

abbrev pub by_key : Option Wrapper → Tree → (with_code : Utf8 → Building Tree) → (as_document : Building Looked) → Building Looked
by_key None t with_code as_document = as_document
by_key (Some w) t with_code as_document = by_first_key w (first_key w) t with_code as_document

-- ---- values

abbrev mutual
  -- a value, with so many levels left, after each document in it was looked at
  pub built : Tree → (levels : ℕ) → Building Tree
  built (document ps) levels = result_map looked_tree (one_level (looked_at ps) levels)
  built (array ts) levels = result_map array (one_level (built_trees ts) levels)
  built (javascript_code_with_scope text scope) levels = with_scope text (one_level (looked_at scope) levels)
  built t levels = plain t

  -- a document of these pairs, looked at by its first key
  pub looked_at : Pairs → (levels : ℕ) → Building Looked
  looked_at no_pairs levels = Ok (stays no_pairs)
  looked_at (pair key t ps) levels =
      by_key (of_key key) t (λ text. after_code ps text levels) (result_map stays (with_pair key (built t levels) (built_pairs ps levels)))

  pub built_pairs : Pairs → (levels : ℕ) → Building Pairs
  built_pairs no_pairs levels = Ok no_pairs
  built_pairs (pair key t ps) levels = with_pair key (built t levels) (built_pairs ps levels)

  pub built_trees : Trees → (levels : ℕ) → Building Trees
  built_trees no_trees levels = Ok no_trees
  built_trees (tree t ts) levels = built t levels >>= λ u. result_map (tree u) (built_trees ts levels)

  -- after the text of a code: nothing, or its scope
  pub after_code : Pairs → Utf8 → (levels : ℕ) → Building Tree
  after_code no_pairs text levels = Ok (javascript_code text)
  after_code (pair key t ps) text levels = if bytes_eq key scope_key then with_scope text (scope_in t levels) else Err (unknown_field key)

  -- the scope of a code, which is to be a document
  pub scope_in : Tree → (levels : ℕ) → Building Looked
  scope_in (document ps) levels = one_level (looked_at ps) levels
  scope_in t levels = Err (bad_body Code)

-- ---- whole values

-- a kind, and the bytes of a value of this kind as they stand behind a key
pub record RawBytes : Type 0 where
  pub kind : ElementType
  pub bytes : Bytes

abbrev pub raw_bytes : Tree → RawBytes
raw_bytes t = record { kind = kind t; bytes = enc t }

-- what was built, where it has no more bytes than a document may
abbrev pub within_limit : Tree → Building RawBytes
within_limit t = if nat_lt max_bytes (length (enc t)) then Err too_long else Ok (raw_bytes t)

-- the whole value that was built, or the first refusal in document order; that there are too many bytes comes last
abbrev pub assembled_tree : Tree → Building Tree
assembled_tree t = built t max_levels >>= λ u. result_map (λ _. u) (within_limit u)

-- the kind and the bytes of a whole value, or the first refusal in document order; that there are too many bytes comes last
abbrev pub assembled : Tree → Building RawBytes
assembled t = built t max_levels >>= within_limit
