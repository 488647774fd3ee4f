-- Objects whose members were appended one after another.
use Rattle.std.proofs.Common.{◌≡◌, List, [], ◌∷◌, ◌++◌, refl, ◌∙◌, append_assoc, Result, OnOk}
use Rattle.std.proofs.lemmas.Result.{on_ok_weaker}
use Rattle.json.specs.Token.{Token, begin_object, end_object, key as key_token}
use Rattle.json.specs.Json.{Json}
use Rattle.json.specs.Tree.{json_tokens}
use Rattle.json.specs.Written.{Written}
use Rattle.bson_kinds.specs.Text.{Utf8}
use Rattle.bson_json_laws.specs.JsonOf.{one, two}
use Rattle.bson_json_text.specs.Puts.{Appends, Opens, Keys, Closes}

one_list : (k : Utf8) (j : List Token) (a b c d : List Token) → b ≡ a ++ begin_object ∷ key_token k ∷ [] → c ≡ b ++ j → d ≡ c ++ end_object ∷ []
    → d ≡ a ++ begin_object ∷ key_token k ∷ (j ++ end_object ∷ [])
one_list k j a b c d p q r = rw (r, q, p) (simp append_assoc refl)

two_list : (k l : Utf8) (i j : List Token) (a b c d e f : List Token) → b ≡ a ++ begin_object ∷ key_token k ∷ [] → c ≡ b ++ i → d ≡ c ++ key_token l ∷ [] → e ≡ d ++ j → f ≡ e ++ end_object ∷ []
    → f ≡ a ++ begin_object ∷ key_token k ∷ (i ++ key_token l ∷ (j ++ end_object ∷ []))
two_list k l i j a b c d e f p q r s t = rw (t, s, r, q, p) (simp append_assoc refl)

one_done : (k : Utf8) (j : Json) (a b c d : Written) → Opens k a b → Appends j b c → Closes c d → Appends (one k j) a d
one_done k j a b c d o p q = record {
  tokens = one_list k (json_tokens j) a.tokens b.tokens c.tokens d.tokens o.tokens p.tokens q.tokens;
  before = q.before ∙ p.before ∙ o.before;
}

pub one_closed : {T E : Type 0} (r : Result T E) (k : Utf8) (j : Json) (a b c d : Written) → Opens k a b → Appends j b c → OnOk r (Closes c d) → OnOk r (Appends (one k j) a d)
one_closed r k j a b c d o p = on_ok_weaker r (one_done k j a b c d o p)

two_done : (k l : Utf8) (i j : Json) (a b c d e f : Written) → Opens k a b → Appends i b c → Keys l c d → Appends j d e → Closes e f → Appends (two k i l j) a f
two_done k l i j a b c d e f o p q r s = record {
  tokens = two_list k l (json_tokens i) (json_tokens j) a.tokens b.tokens c.tokens d.tokens e.tokens f.tokens o.tokens p.tokens q.tokens r.tokens s.tokens;
  before = s.before ∙ r.before ∙ q.before ∙ p.before ∙ o.before;
}

pub two_closed : {T E : Type 0} (x : Result T E) (k l : Utf8) (i j : Json) (a b c d e f : Written) → Opens k a b → Appends i b c → Keys l c d → Appends j d e → OnOk x (Closes e f) → OnOk x (Appends (two k i l j) a f)
two_closed x k l i j a b c d e f o p q r = on_ok_weaker x (two_done k l i j a b c d e f o p q r)
