-- Which documents the fold leaves as they are, and what it makes of two keys.
use Rattle.std.proofs.Common.{◌≡◌, List, [], ◌∷◌, Bool, true, false, cond, Option, Some, None, refl, ap, sym, subst, ◌∙◌, true≢false}
use Rattle.std.specs.Prelude.{◌&&◌, is_some, codes}
use Rattle.std.specs.Str.{bytes_eq}
use Rattle.std.proofs.lemmas.Slice.Eq.{bytes_eq-Decides}
use Rattle.bson_kinds.specs.Text.{Utf8, begins_with_dollar}
use Rattle.bson_base.specs.Tree.{Tree, document, Pairs, no_pairs, pair}
use Rattle.bson_base.specs.Folded.{Form, forms, value_in, code_with_scope, value_of_keys, alone, in_pair, or_document, or_alone, fold}

-- the key is that of none of the forms
abbrev pub IsOther : Utf8 → List Form → Type 0
IsOther key [] = Unit {0}
IsOther key (f ∷ fs) = (key ≡ f.key → ⊥) × IsOther key fs

differs : (key k : Utf8) (b : Bool) → bytes_eq key k ≡ b → (key ≡ k → ⊥) → bytes_eq key k ≡ false
differs key k false e other = e
differs key k true e other = absurd (other ((bytes_eq-Decides key k).0 e))

pub no_form : (fs : List Form) (key : Utf8) (t : Tree) → IsOther key fs → value_in fs key t ≡ None
no_form [] key t h = refl
no_form (f ∷ fs) key t h = ap (λ b. cond b (f.value t) (value_in fs key t)) (differs key f.key _ refl h.0) ∙ no_form fs key t h.1

none_of : (o : Option Tree) → is_some o ≡ false → o ≡ None
none_of None e = refl
none_of (Some t) e = absurd (true≢false e)

pub stays : (ps : Pairs) → is_some (in_pair ps) ≡ false → alone ps ≡ None → fold ps ≡ document ps
stays ps two one = ap (or_alone ps) (none_of (in_pair ps) two) ∙ ap (or_document ps) one

-- the values of exactly two keys
pub pair_known : (ps qs rs : Pairs) (key other : Utf8) (t u : Tree) → ps ≡ pair key t qs → qs ≡ pair other u rs → rs ≡ no_pairs → in_pair ps ≡ value_of_keys key t other u
pair_known ps qs rs key other t u a b c = ap in_pair (a ∙ ap (pair key t) (b ∙ ap (pair other u) c))

under_scope : (b : Bool) (x : Option Tree) → is_some (cond b x None) ≡ true → is_some x ≡ true
under_scope true x h = h
under_scope false x h = absurd (true≢false (sym h))

-- with the code first, and with the scope first
pub code_first : (key other : Utf8) (t u : Tree) → bytes_eq key (codes "$code") ≡ true → is_some (value_of_keys key t other u) ≡ true → is_some (code_with_scope t u) ≡ true
code_first key other t u e h =
    let is : key ≡ codes "$code" = (bytes_eq-Decides key (codes "$code")).0 e in
    under_scope (bytes_eq other (codes "$scope")) (code_with_scope t u) (subst (λ k. is_some (value_of_keys k t other u) ≡ true) is h)

pub scope_first : (key other : Utf8) (t u : Tree) → bytes_eq key (codes "$code") ≡ false → is_some (value_of_keys key t other u) ≡ true → is_some (code_with_scope u t) ≡ true
scope_first key other t u e h =
    let rest = cond (bytes_eq key (codes "$scope") && bytes_eq other (codes "$code")) (code_with_scope u t) None in
    under_scope (bytes_eq key (codes "$scope") && bytes_eq other (codes "$code")) (code_with_scope u t)
    (subst (λ b. is_some (cond (b && bytes_eq other (codes "$scope")) (code_with_scope t u) rest) ≡ true) e h)

under_is : (b : Bool) (x : Option Tree) → is_some (cond b x None) ≡ true → cond b x None ≡ x
under_is true x h = refl
under_is false x h = absurd (true≢false (sym h))

-- what the code first makes
pub code_is : (key other : Utf8) (t u : Tree) → bytes_eq key (codes "$code") ≡ true → is_some (value_of_keys key t other u) ≡ true → value_of_keys key t other u ≡ code_with_scope t u
code_is key other t u e h =
    let is : key ≡ codes "$code" = (bytes_eq-Decides key (codes "$code")).0 e in
    ap (λ k. value_of_keys k t other u) is ∙ under_is (bytes_eq other (codes "$scope")) (code_with_scope t u) (subst (λ k. is_some (value_of_keys k t other u) ≡ true) is h)

-- a text that does not begin with `$` is none that does
apart : (key k : Utf8) → begins_with_dollar key ≡ false → begins_with_dollar k ≡ true → key ≡ k → ⊥
apart key k h is e = true≢false (sym is ∙ sym (ap begins_with_dollar e) ∙ h)

-- every wrapper key begins with `$`
abbrev AllBegin : List Form → Type 0
AllBegin [] = Unit {0}
AllBegin (f ∷ fs) = (begins_with_dollar f.key ≡ true) × AllBegin fs

others : (fs : List Form) (key : Utf8) → begins_with_dollar key ≡ false → AllBegin fs → IsOther key fs
others [] key h all = tt
others (f ∷ fs) key h all = (apart key f.key h all.0, others fs key h all.1)

forms_begin : AllBegin forms
forms_begin = (refl, (refl, (refl, (refl, (refl, (refl, (refl, (refl, (refl, (refl, (refl, (refl, (refl, (refl, (refl, (refl, tt))))))))))))))))

is_not : (key k : Utf8) → begins_with_dollar key ≡ false → begins_with_dollar k ≡ true → bytes_eq key k ≡ false
is_not key k h is = differs key k (bytes_eq key k) refl (apart key k h is)

neither : (key other : Utf8) (t u : Tree) → begins_with_dollar key ≡ false → value_of_keys key t other u ≡ None
neither key other t u h =
    ap (λ b. cond (b && bytes_eq other (codes "$scope")) (code_with_scope t u) (cond (bytes_eq key (codes "$scope") && bytes_eq other (codes "$code")) (code_with_scope u t) None)) (is_not key (codes "$code") h refl)
    ∙ ap (λ b. cond (b && bytes_eq other (codes "$code")) (code_with_scope u t) None) (is_not key (codes "$scope") h refl)

-- a document whose first key does not begin with `$` stays
pub first_stays : (key : Utf8) (t : Tree) (ps : Pairs) → begins_with_dollar key ≡ false → fold (pair key t ps) ≡ document (pair key t ps)
first_stays key t no_pairs h = stays (pair key t no_pairs) refl (no_form forms key t (others forms key h forms_begin))
first_stays key t (pair other u no_pairs) h = stays (pair key t (pair other u no_pairs)) (ap is_some (neither key other t u h)) refl
first_stays key t (pair other u (pair k v ps)) h = stays (pair key t (pair other u (pair k v ps))) refl refl
