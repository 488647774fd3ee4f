-- What is printed of a fault. Source: this library's own errors.
use Rattle.std.specs.Prelude.{◌++◌, codes}
use Rattle.std.specs.Fmt.{decimal}
use Rattle.bson_kinds.specs.Text.{Utf8}
use Rattle.bson_faults.specs.declared.raw.Error.{Error}
use Rattle.bson_faults.specs.declared.raw.Error.TheVariants.{TooShort, LengthDiffers, NoTerminator, KeyUnclosed, KeyNotUtf8, UnknownKind, BadExtent, NotUtf8, BadBoolean, TextUnclosed, InnerLength, ScopeTotal, ValueUnclosed, TooDeep, NoMemory}

abbrev pub printed_fault : Error → Utf8
printed_fault TooShort = codes "document too short"
printed_fault LengthDiffers = codes "document length differs"
printed_fault NoTerminator = codes "document not terminated"
printed_fault KeyUnclosed = codes "key not closed"
printed_fault KeyNotUtf8 = codes "key is not UTF-8"
printed_fault (UnknownKind b) = codes "unknown kind " ++ decimal b
printed_fault BadExtent = codes "value out of bounds"
printed_fault NotUtf8 = codes "text is not UTF-8"
printed_fault (BadBoolean b) = codes "bad boolean " ++ decimal b
printed_fault TextUnclosed = codes "text not terminated"
printed_fault InnerLength = codes "wrong inner length"
printed_fault ScopeTotal = codes "wrong scope length"
printed_fault ValueUnclosed = codes "inner document not terminated"
printed_fault TooDeep = codes "nested deeper than 200 levels"
printed_fault NoMemory = codes "out of memory"
