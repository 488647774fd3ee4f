-- Each kind is found by its byte.
use Rattle.std.proofs.Common.{◌≡◌, Some, refl, ap, sym, ◌∙◌}
use Rattle.std.specs.Prelude.{Option, None}
use Rattle.bson_kinds.specs.declared.element_type.ElementType.{ElementType}
use Rattle.bson_kinds.specs.declared.element_type.ElementType.TheVariants.{Double, String, EmbeddedDocument, Array, Binary, Undefined, ObjectId, Boolean, DateTime, Null, RegularExpression, DbPointer, JavaScriptCode, Symbol, JavaScriptCodeWithScope, Int32, Timestamp, Int64, Decimal128, MaxKey, MinKey}
use Rattle.bson_kinds.specs.Kind.{byte, of_byte}

pub of_byte-byte : (k : ElementType) → of_byte (byte k) ≡ Some k
of_byte-byte Double = refl
of_byte-byte String = refl
of_byte-byte EmbeddedDocument = refl
of_byte-byte Array = refl
of_byte-byte Binary = refl
of_byte-byte Undefined = refl
of_byte-byte ObjectId = refl
of_byte-byte Boolean = refl
of_byte-byte DateTime = refl
of_byte-byte Null = refl
of_byte-byte RegularExpression = refl
of_byte-byte DbPointer = refl
of_byte-byte JavaScriptCode = refl
of_byte-byte Symbol = refl
of_byte-byte JavaScriptCodeWithScope = refl
of_byte-byte Int32 = refl
of_byte-byte Timestamp = refl
of_byte-byte Int64 = refl
of_byte-byte Decimal128 = refl
of_byte-byte MaxKey = refl
of_byte-byte MinKey = refl

abbrev of_some : Option ElementType → ElementType → ElementType
of_some (Some k) l = k
of_some None l = l

-- kinds of one byte are one kind
pub same_byte : (k l : ElementType) → byte k ≡ byte l → k ≡ l
same_byte k l e = ap (λ o. of_some o k) (sym (of_byte-byte k) ∙ ap of_byte e ∙ of_byte-byte l)
