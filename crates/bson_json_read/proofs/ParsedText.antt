-- What the parts of a text make of it.
use Rattle.std.proofs.Common.{◌≡◌, List, [], ◌∷◌, Option, Some, None, Err, ap, ◌∙◌, false, true≢false}
use Rattle.std.specs.Prelude.{option_and_then, is_some, MatchOption}
use Rattle.json.specs.Token.{Token}
use Rattle.json.specs.Json.{Json, value, if_last}
use Rattle.json.specs.Lex.{tokens}
use Rattle.bson_kinds.specs.Outcome.{◌>>=◌}
use Rattle.bson_kinds.specs.Text.{Utf8}
use Rattle.bson_values.specs.Refusal.{here}
use Rattle.bson_json_laws.specs.ReadText.{document_of_json, document_of_text}
use Rattle.bson_json_laws.specs.Unread.{or_refused, not_json}

-- a text by its first value and the tokens behind it
by_value : (text : Utf8) (o : Option (Json × List Token)) → value 403 (tokens text) ≡ o
    → document_of_text text ≡ or_refused not_json (option_and_then (λ p. if_last p.0 p.1) o) >>= document_of_json
by_value text o e = ap (λ q. or_refused not_json (option_and_then (λ p. if_last p.0 p.1) q) >>= document_of_json) e

pub no_value : (text : Utf8) → value 403 (tokens text) ≡ None → document_of_text text ≡ Err (here not_json)
no_value text e = by_value text None e

-- more tokens after it
pub not_last : (text : Utf8) (j : Json) (t : Token) (rest more : List Token) → value 403 (tokens text) ≡ Some (j, rest) → rest ≡ t ∷ more → document_of_text text ≡ Err (here not_json)
not_last text j t rest more e r = by_value text (Some (j, rest)) e ∙ ap (λ l. or_refused not_json (if_last j l) >>= document_of_json) r

pub the_value : (text : Utf8) (j : Json) (rest : List Token) → value 403 (tokens text) ≡ Some (j, rest) → rest ≡ [] → document_of_text text ≡ document_of_json j
the_value text j rest e r = by_value text (Some (j, rest)) e ∙ ap (λ l. or_refused not_json (if_last j l) >>= document_of_json) r

pub none_left : {T : Type 0} (P : T → Type 0) (r : Option T) (old new : List Token) → MatchOption r ((old ≡ []) × (new ≡ [])) P → is_some r ≡ false → old ≡ []
none_left P None old new h e = h.0
none_left P (Some t) old new h e = absurd (true≢false e)
