-- Texts of one character.
use Rattle.std.proofs.Common.{◌≡◌, ℕ, [], ◌∷◌, ◌++◌, length, Some, None, IsUtf8, encode_utf8, ap, ◌∙◌}
use Rattle.std.specs.Str.{chars}
use Rattle.std.proofs.lemmas.List.{nil_from_length}
use Rattle.std.proofs.lemmas.Str.{chars_past_char, chars-nil, IsUtf8-past_char}
use Rattle.bson_kinds.specs.Text.{Utf8}
use Rattle.bson_laws.specs.Views.{one_character}

empty : (t : Utf8) → length t ≡ 0 → chars t ≡ []
empty t e = ap chars (nil_from_length t e) ∙ chars-nil

-- one that ends behind its first character, and one that goes on
pub first_alone : (t rest : Utf8) (c : ℕ) → IsUtf8 t → t ≡ encode_utf8 c ++ rest → length rest ≡ 0 → one_character (chars t) ≡ Some c
first_alone t rest c utf8 parts e = ap one_character (chars_past_char t rest c utf8 parts ∙ ap (λ cs. c ∷ cs) (empty rest e))

pub first_of_more : (t rest more : Utf8) (c d : ℕ) → IsUtf8 t → t ≡ encode_utf8 c ++ rest → rest ≡ encode_utf8 d ++ more → one_character (chars t) ≡ None
first_of_more t rest more c d utf8 parts further =
    ap one_character (chars_past_char t rest c utf8 parts ∙ ap (λ cs. c ∷ cs) (chars_past_char rest more d (IsUtf8-past_char t rest c utf8 parts) further))
