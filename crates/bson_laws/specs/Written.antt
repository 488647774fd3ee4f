-- What is written of a value that is whole, or why it is not. Source: bsonspec.org, version 1.1, `binary`, `cstring` and the element of a regular expression.
use Rattle.std.specs.Prelude.{ℕ, ◌++◌, length, nat_lt, codes, Option, Some, None, if◌then◌else◌, Result, Ok, Err}
use Rattle.bson_kinds.specs.Outcome.{◌>>=◌, result_map}
use Rattle.bson_base.specs.Sorted.{sorted}
use Rattle.bson_base.specs.Sound.{max_binary}
use Rattle.bson_kinds.specs.Text.{Bytes, Utf8, has_zero}
use Rattle.bson_base.specs.Tree.{Tree, document, binary, regular_expression, javascript_code_with_scope, raw, no_pairs, closed_text, behind_subtype, after_total, enc}
use Rattle.bson_kinds.specs.declared.element_type.ElementType.TheVariants.{JavaScriptCodeWithScope}
use Rattle.bson_values.specs.Cause.{binary_too_long, bad_step, bad_uuid}
use Rattle.bson_values.specs.Refusal.{WriteFault, unwritable, invalid_cstring, Refusal, here, under}

-- an answer of writing: something, or a refusal with its path
abbrev pub Writing : Type 0 → Type 0
Writing A = Result A (Refusal WriteFault)

-- a binary, which has no more bytes than one of its subtype may; a refusal tells how many bytes would be behind the subtype
abbrev pub spell_binary : (subtype : ℕ) → Bytes → Writing Tree
spell_binary subtype bs = if nat_lt (max_binary subtype) (length bs) then Err (here (unwritable (binary_too_long (length (behind_subtype subtype bs))))) else Ok (binary subtype bs)

-- a part of a regular expression, in which no zero character is
abbrev pub zero_free : Utf8 → Writing Utf8
zero_free part = if has_zero part then Err (here (invalid_cstring part)) else Ok part

-- a value that is whole: the options of a regular expression are written in order
abbrev pub spell_whole : Tree → Writing Tree
spell_whole (regular_expression pattern options) = zero_free pattern >>= λ p. zero_free options >>= λ o. Ok (regular_expression p (sorted o))
spell_whole (binary subtype bs) = spell_binary subtype bs
spell_whole t = Ok t

-- Code with its scope. Where the scope is a document in its bytes, so is the whole. A scope is one of the two, since it is written of a map or of a document in its bytes.
abbrev pub with_scope : Utf8 → Tree → Tree
with_scope code (document ps) = javascript_code_with_scope code ps
with_scope code (raw k bytes) = raw JavaScriptCodeWithScope (after_total (closed_text code ++ bytes))
with_scope code t = javascript_code_with_scope code no_pairs

-- a reserved struct, by what it is accepted as
abbrev pub spell_unwrapped : Option Tree → Writing Tree
spell_unwrapped None = Err (here (unwritable bad_step))
spell_unwrapped (Some t) = spell_whole t

-- code with a scope: a refusal of the scope, or in it, is under `$scope`
abbrev pub spell_scoped : Option (Utf8 × Writing Tree) → Writing Tree
spell_scoped None = Err (here (unwritable bad_step))
spell_scoped (Some p) = result_map (with_scope p.0) (under (codes "$scope") p.1)

-- the newtype of a UUID, by the bytes that it holds
abbrev pub spell_uuid : Option Bytes → Writing Tree
spell_uuid None = Err (here (unwritable bad_uuid))
spell_uuid (Some bs) = spell_binary 4 bs

-- how many bytes an answer has
abbrev pub written_size : Writing Tree → ℕ
written_size (Ok t) = length (enc t)
written_size (Err r) = 0
