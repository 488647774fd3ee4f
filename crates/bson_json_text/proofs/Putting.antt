-- What was appended is what a value is written as.
use Rattle.std.proofs.Common.{◌≡◌, ℕ, suc, ◌+◌, ◌<◌, ◌≤◌, length, drop, get_or, add-one, List, [], ◌∷◌, ◌++◌, Bool, true, false, refl, sym, ap, subst, ◌∙◌, append_assoc, Result, OnOk}
use Rattle.std.specs.Prelude.{codes}
use Rattle.std.specs.Float.{float_is_finite}
use Rattle.std.proofs.lemmas.Result.{on_ok_weaker}
use Rattle.std.proofs.lemmas.List.{drop_all}
use Rattle.std.proofs.Math.Seq.{drop-cons}
use Rattle.bson_base.specs.BsonView.{tree_of, trees_of}
use Rattle.bson_base.specs.declared.bson.Bson.{Bson}
use Rattle.json.specs.Token.{Token, begin_object, end_object, begin_array, key as key_token}
use Rattle.json.specs.Json as json
use Rattle.json.specs.Json.{Json, Items, no_items, item, Members, no_members, member, object}
use Rattle.json.specs.Tree.{json_tokens, items_tokens, members_tokens}
use Rattle.json.specs.Print.{print}
use Rattle.json.specs.Written.{Written}
use Rattle.std.specs.Str.{IsUtf8}
use Rattle.bson_json_laws.specs.JsonText.{AppendsText}
use Rattle.bson_kinds.specs.Text.{Bytes, Utf8}
use Rattle.bson_base.specs.Tree.{Tree, double, document, array, javascript_code_with_scope, Pairs, no_pairs, pair, Trees, no_trees, tree}
use Rattle.bson_json_laws.specs.Doubles.{float_in, IsFloatText}
use Rattle.bson_json_laws.specs.JsonOf.{two, text_at, IsRelaxedDouble, IsJson, AreMembers, AreItems}
use Rattle.bson_json_text.specs.Puts.{Appends, Puts, Opens, Keys, Closes, Begins, BeginsArray, ClosesArray}
use Rattle.bson_json_laws.specs.declared.form.JsonForm.{JsonForm}
use Rattle.bson_json_laws.specs.declared.form.JsonForm.TheVariants.{Canonical, Relaxed}

put : (form : JsonForm) (t : Tree) (j : Json) (old new : Written) → IsJson form t j → Appends j old new → Puts form t old new
put form t j old new h a = record { json = j; is_json = h; appended = a }

pub puts : {T E : Type 0} (r : Result T E) (form : JsonForm) (t : Tree) (j : Json) (old new : Written) → OnOk r (Appends j old new) → IsJson form t j → OnOk r (Puts form t old new)
puts r form t j old new a h = on_ok_weaker r (put form t j old new h) a

-- ---- doubles

pub wrapped_double : {T E : Type 0} (r : Result T E) (bytes : Bytes) (s : Utf8) (old new : Written) → OnOk r (Appends (text_at (codes "$numberDouble") s) old new) → IsFloatText (float_in bytes) s
    → OnOk r (Puts Canonical (double bytes) old new)
wrapped_double r bytes s old new a h = on_ok_weaker r (put Canonical (double bytes) (text_at (codes "$numberDouble") s) old new (s, refl, h)) a

relaxed_is : (b : Bool) (bytes : Bytes) (j : Json) → float_is_finite (float_in bytes) ≡ b → IsRelaxedDouble b bytes j → IsJson Relaxed (double bytes) j
relaxed_is b bytes j e h = subst (λ c. IsRelaxedDouble c bytes j) (sym e) h

-- a number that is not finite is wrapped in the relaxed form too
pub relaxed_word : {T E : Type 0} (r : Result T E) (bytes : Bytes) (s : Utf8) (old new : Written) → OnOk r (Appends (text_at (codes "$numberDouble") s) old new) → IsFloatText (float_in bytes) s
    → float_is_finite (float_in bytes) ≡ false → OnOk r (Puts Relaxed (double bytes) old new)
relaxed_word r bytes s old new a h e =
    let j = text_at (codes "$numberDouble") s in
    on_ok_weaker r (put Relaxed (double bytes) j old new (relaxed_is false bytes j e (s, refl, h))) a

-- a finite one is a number
pub relaxed_number : {T E : Type 0} (r : Result T E) (bytes : Bytes) (s : Utf8) (old new : Written) → OnOk r (Appends (json.number s) old new) → IsFloatText (float_in bytes) s
    → float_is_finite (float_in bytes) ≡ true → OnOk r (Puts Relaxed (double bytes) old new)
relaxed_number r bytes s old new a h e =
    let j = json.number s in
    on_ok_weaker r (put Relaxed (double bytes) j old new (relaxed_is true bytes j e (s, refl, h))) a

-- ---- code with its scope

two_list : (k l : Utf8) (i j : List Token) (a b c d e f : List Token) → b ≡ a ++ begin_object ∷ key_token k ∷ [] → c ≡ b ++ i → d ≡ c ++ key_token l ∷ [] → e ≡ d ++ j → f ≡ e ++ end_object ∷ []
    → f ≡ a ++ begin_object ∷ key_token k ∷ (i ++ key_token l ∷ (j ++ end_object ∷ []))
two_list k l i j a b c d e f p q r s t = rw (t, s, r, q, p) (simp append_assoc refl)

scope_done : (form : JsonForm) (code : Utf8) (scope : Pairs) (a b c d e f : Written)
    → Opens (codes "$code") a b → Appends (json.string code) b c → Keys (codes "$scope") c d → Puts form (document scope) d e → Closes e f → Puts form (javascript_code_with_scope code scope) a f
scope_done form code scope a b c d e f o p q r s =
    let ms = r.is_json.0 in
    let same : e.tokens ≡ d.tokens ++ json_tokens (object ms) = r.appended.tokens ∙ ap (λ j. d.tokens ++ json_tokens j) r.is_json.1 in
    record {
      json = two (codes "$code") (json.string code) (codes "$scope") (object ms);
      is_json = (ms, refl, r.is_json.2);
      appended = record {
        tokens = two_list (codes "$code") (codes "$scope") (json_tokens (json.string code)) (json_tokens (object ms)) a.tokens b.tokens c.tokens d.tokens e.tokens f.tokens o.tokens p.tokens q.tokens same s.tokens;
        before = s.before ∙ r.appended.before ∙ q.before ∙ p.before ∙ o.before;
      };
    }

pub scope_closed : {T E : Type 0} (x : Result T E) (form : JsonForm) (code : Utf8) (scope : Pairs) (a b c d e f : Written)
    → Opens (codes "$code") a b → Appends (json.string code) b c → Keys (codes "$scope") c d → Puts form (document scope) d e → OnOk x (Closes e f) → OnOk x (Puts form (javascript_code_with_scope code scope) a f)
scope_closed x form code scope a b c d e f o p q r s = on_ok_weaker x (scope_done form code scope a b c d e f o p q r) s

-- ---- the pairs of a document

-- whatever members the pairs that are left have, those before them and they are members of all
pub record Going (form : JsonForm) (all left : Pairs) (start now : Written) : Type 0 where
  pub tokens : (ms : Members) → AreMembers form left ms → (whole : Members) × AreMembers form all whole × (now.tokens ++ members_tokens ms ≡ start.tokens ++ begin_object ∷ members_tokens whole)
  pub before : now.before ≡ start.before

pub going_first : (form : JsonForm) (all : Pairs) (a b : Written) → Begins a b → Going form all all a b
going_first form all a b h = record {
  tokens = λ ms m. (ms, m, rw h.tokens (simp append_assoc refl));
  before = h.before;
}

next_tokens : (k : Utf8) (j more : List Token) (b c d : List Token) → c ≡ b ++ key_token k ∷ [] → d ≡ c ++ j → d ++ more ≡ b ++ key_token k ∷ (j ++ more)
next_tokens k j more b c d p q = rw (q, p) (simp append_assoc refl)

pub going_on : (form : JsonForm) (all left : Pairs) (k : Utf8) (t : Tree) (a b c d : Written) → Going form all (pair k t left) a b → Keys k b c → Puts form t c d → Going form all left a d
going_on form all left k t a b c d g h p = record {
  tokens = λ ms m.
      let w = g.tokens (member k p.json ms) (refl, p.is_json, m) in
      (w.0, w.1, next_tokens k (json_tokens p.json) (members_tokens ms) b.tokens c.tokens d.tokens h.tokens p.appended.tokens ∙ w.2);
  before = p.appended.before ∙ h.before ∙ g.before;
}

going_done : (form : JsonForm) (all : Pairs) (a b c : Written) → Going form all no_pairs a b → Closes b c → Puts form (document all) a c
going_done form all a b c g h =
    let w = g.tokens no_members tt in
    record {
      json = object w.0;
      is_json = (w.0, refl, w.1);
      appended = record { tokens = h.tokens ∙ w.2; before = h.before ∙ g.before };
    }

pub going_last : {T E : Type 0} (r : Result T E) (form : JsonForm) (all : Pairs) (a b c : Written) → Going form all no_pairs a b → OnOk r (Closes b c) → OnOk r (Puts form (document all) a c)
going_last r form all a b c g h = on_ok_weaker r (going_done form all a b c g) h

-- ---- the values of an array

pub record Passing (form : JsonForm) (all left : Trees) (start now : Written) : Type 0 where
  pub tokens : (js : Items) → AreItems form left js → (whole : Items) × AreItems form all whole × (now.tokens ++ items_tokens js ≡ start.tokens ++ begin_array ∷ items_tokens whole)
  pub before : now.before ≡ start.before

pub passing_first : (form : JsonForm) (all : Trees) (a b : Written) → BeginsArray a b → Passing form all all a b
passing_first form all a b h = record {
  tokens = λ js m. (js, m, rw h.tokens (simp append_assoc refl));
  before = h.before;
}

next_item : (j more : List Token) (b c : List Token) → c ≡ b ++ j → c ++ more ≡ b ++ (j ++ more)
next_item j more b c p = rw p (append_assoc b j more)

pub passing_on : (form : JsonForm) (all left : Trees) (t : Tree) (a b c : Written) → Passing form all (tree t left) a b → Puts form t b c → Passing form all left a c
passing_on form all left t a b c g p = record {
  tokens = λ js m.
      let w = g.tokens (item p.json js) (p.is_json, m) in
      (w.0, w.1, next_item (json_tokens p.json) (items_tokens js) b.tokens c.tokens p.appended.tokens ∙ w.2);
  before = p.appended.before ∙ g.before;
}

passing_done : (form : JsonForm) (all : Trees) (a b c : Written) → Passing form all no_trees a b → ClosesArray b c → Puts form (array all) a c
passing_done form all a b c g h =
    let w = g.tokens no_items tt in
    record {
      json = json.array w.0;
      is_json = (w.0, refl, w.1);
      appended = record { tokens = h.tokens ∙ w.2; before = h.before ∙ g.before };
    }

pub passing_last : {T E : Type 0} (r : Result T E) (form : JsonForm) (all : Trees) (a b c : Written) → Passing form all no_trees a b → OnOk r (ClosesArray b c) → OnOk r (Puts form (array all) a c)
passing_last r form all a b c g h = on_ok_weaker r (passing_done form all a b c g) h

-- ---- the text

pub text_of_tokens : (form : JsonForm) (t : Tree) (a b : Written) (out items : List ℕ) → a.before ≡ out → a.tokens ≡ [] → Puts form t a b → items ≡ b.before ++ print b.tokens → IsUtf8 (print b.tokens)
    → AppendsText form t out items
text_of_tokens form t a b out items first none p last utf8 =
    let same : b.tokens ≡ json_tokens p.json = p.appended.tokens ∙ ap (λ l. l ++ json_tokens p.json) none in
    record {
      text = print b.tokens;
      is_text = record { json = p.json; is_json = p.is_json; is_print = ap print same; utf8 = utf8 };
      appended = last ∙ ap (λ l. l ++ print b.tokens) (p.appended.before ∙ first);
    }

-- ---- the loop over a slice

pub tree_at : (xs : List Bson) (i : ℕ) (x : Bson) → i < length xs → x ≡ get_or xs i x → trees_of (drop i xs) ≡ tree (tree_of x) (trees_of (drop (i + 1) xs))
tree_at xs i x within at = rw (add-one, drop-cons xs i x) (ap (λ y. tree (tree_of y) (trees_of (drop (suc i) xs))) (sym at))

pub array_on : (form : JsonForm) (xs : List Bson) (i : ℕ) (x : Bson) (a b c : Written) → i < length xs → x ≡ get_or xs i x → Passing form (trees_of xs) (trees_of (drop i xs)) a b → Puts form (tree_of x) b c
    → Passing form (trees_of xs) (trees_of (drop (i + 1) xs)) a c
array_on form xs i x a b c within at g p =
    passing_on form (trees_of xs) (trees_of (drop (i + 1) xs)) (tree_of x) a b c (subst (λ ts. Passing form (trees_of xs) ts a b) (tree_at xs i x within at) g) p

pub array_last : {T E : Type 0} (r : Result T E) (form : JsonForm) (xs : List Bson) (i : ℕ) (a b c : Written) → length xs ≤ i → Passing form (trees_of xs) (trees_of (drop i xs)) a b → OnOk r (ClosesArray b c)
    → OnOk r (Puts form (array (trees_of xs)) a c)
array_last r form xs i a b c past g h = passing_last r form (trees_of xs) a b c (subst (λ l. Passing form (trees_of xs) (trees_of l) a b) (drop_all i xs past) g) h
