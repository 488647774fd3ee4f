-- What the private parts of the reader of date texts give and ask. Source: RFC 3339, section 5.6.
use Rattle.std.specs.Prelude.{Bool, false, [], ◌∷◌, Option, Some, None}
use Rattle.std.specs.Borrow.{Bor}
use Rattle.bson_dates.specs.DateText.{Utf8, Part, part, is_digit}

-- a number and the text behind it
abbrev pub part_view : {X : Type 0} → Option (X × Bor Utf8) → Option (Part X)
part_view None = None
part_view (Some p) = Some (part p.0 p.1.now)

abbrev pub begins_with_digit : Utf8 → Bool
begins_with_digit [] = false
begins_with_digit (c ∷ s) = is_digit c
