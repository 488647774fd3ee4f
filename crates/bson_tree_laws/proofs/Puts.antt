-- Pairs that are put one after another.
use Rattle.std.proofs.Common.{◌≡◌, List, [], ◌∷◌, Bool, true, false, cond, None, refl, ap, sym, ◌∙◌}
use Rattle.std.specs.Prelude.{◌&&◌, codes}
use Rattle.std.specs.Str.{bytes_eq}
use Rattle.std.proofs.lemmas.Slice.Eq.{bytes_eq-Decides}
use Rattle.bson_base.specs.Pairs.{put}
use Rattle.bson_base.specs.Sound.{Lacks}
use Rattle.bson_kinds.specs.Text.{Utf8, begins_with_dollar}
use Rattle.bson_base.specs.Tree.{Tree, document, Pairs, no_pairs, pair}
use Rattle.bson_base.specs.Folded.{Form, forms, value_of_key, code_with_scope, or_document, or_alone, fold}
use Rattle.bson_base.proofs.Folds.{IsOther, no_form}
use Rattle.bson_tree_laws.specs.Alike.{PairsHaveFreeKeys}

-- pairs put one after another to those before them
abbrev pub put_all : (new done : Pairs) → Pairs
put_all no_pairs done = done
put_all (pair k t ps) done = put_all ps (put k t done)

-- one list of pairs and then another
abbrev pub after : (done new : Pairs) → Pairs
after no_pairs qs = qs
after (pair k t ps) qs = pair k t (after ps qs)

pub after_none : (ps : Pairs) → after ps no_pairs ≡ ps
after_none no_pairs = refl
after_none (pair k t ps) = ap (pair k t) (after_none ps)

pub after_one : (k : Utf8) (t : Tree) (done ps : Pairs) → after (after done (pair k t no_pairs)) ps ≡ after done (pair k t ps)
after_one k t no_pairs ps = refl
after_one k t (pair j u done) ps = ap (pair j u) (after_one k t done ps)

-- a key that is not there goes last
pub put_new : (k : Utf8) (t : Tree) (done : Pairs) → Lacks k done → put k t done ≡ after done (pair k t no_pairs)
put_new k t no_pairs h = refl
put_new k t (pair j u done) h = ap (λ b. cond b (pair j t done) (pair j u (put k t done))) h.0 ∙ ap (pair j u) (put_new k t done h.1)

-- each key of the second list is none of the first
abbrev pub AreApart : (done new : Pairs) → Type 0
AreApart done no_pairs = Unit {0}
AreApart done (pair k t ps) = Lacks k done × AreApart done ps

pub unlike_sym : (a b : Utf8) → bytes_eq a b ≡ false → bytes_eq b a ≡ false
unlike_sym a b e = by (bytes_eq b a) refl where
  by : (c : Bool) → bytes_eq b a ≡ c → bytes_eq b a ≡ false
  by false is = is
  by true is = let same : bytes_eq a b ≡ true = (bytes_eq-Decides a b).1 (sym ((bytes_eq-Decides b a).0 is)) in let no : false ≡ true = sym e ∙ same in absurd cc

lacks_after : (j k : Utf8) (t : Tree) (done : Pairs) → Lacks j done → bytes_eq j k ≡ false → Lacks j (after done (pair k t no_pairs))
lacks_after j k t no_pairs h e = (e, tt)
lacks_after j k t (pair i u done) h e = (h.0, lacks_after j k t done h.1 e)

pub apart_after : (k : Utf8) (t : Tree) (done ps : Pairs) → AreApart done ps → Lacks k ps → AreApart (after done (pair k t no_pairs)) ps
apart_after k t done no_pairs h l = tt
apart_after k t done (pair j u ps) h l = (lacks_after j k t done h.0 (unlike_sym k j l.0), apart_after k t done ps h.1 l.1)

put_apart : (ps done : Pairs) → PairsHaveFreeKeys ps → AreApart done ps → put_all ps done ≡ after done ps
put_apart no_pairs done f h = sym (after_none done)
put_apart (pair k t ps) done f h =
    ap (put_all ps) (put_new k t done h.0) ∙ put_apart ps (after done (pair k t no_pairs)) f.3 (apart_after k t done ps h.1 f.1) ∙ after_one k t done ps

pub apart_none : (ps : Pairs) → AreApart no_pairs ps
apart_none no_pairs = tt
apart_none (pair k t ps) = (tt, apart_none ps)

-- pairs without repeated keys are put as they stand
pub put_free : (ps : Pairs) → PairsHaveFreeKeys ps → put_all ps no_pairs ≡ ps
put_free ps f = put_apart ps no_pairs f (apart_none ps)

-- ---- documents that are not folded

-- each of the keys begins with `$`
abbrev all_dollar : List Form → Bool
all_dollar [] = true
all_dollar (f ∷ fs) = begins_with_dollar f.key && all_dollar fs

both : (a b : Bool) → (a && b) ≡ true → (a ≡ true) × (b ≡ true)
both true b e = (refl, e)
both false b e = absurd cc

unlike : (key k : Utf8) → begins_with_dollar key ≡ false → begins_with_dollar k ≡ true → key ≡ k → ⊥
unlike key k free dollar same = let no : false ≡ true = sym free ∙ ap begins_with_dollar same ∙ dollar in absurd cc

others : (key : Utf8) (fs : List Form) → begins_with_dollar key ≡ false → all_dollar fs ≡ true → IsOther key fs
others key [] free all = tt
others key (f ∷ fs) free all = let each = both (begins_with_dollar f.key) (all_dollar fs) all in (unlike key f.key free each.0, others key fs free each.1)

-- a key that does not begin with `$` is no wrapper key
no_value : (key : Utf8) (t : Tree) → begins_with_dollar key ≡ false → value_of_key key t ≡ None
no_value key t free = no_form forms key t (others key forms free refl)

-- a key that does not begin with `$` is not this one, which does
not_this : (key k : Utf8) (b : Bool) → bytes_eq key k ≡ b → begins_with_dollar key ≡ false → begins_with_dollar k ≡ true → b ≡ false
not_this key k false e free dollar = refl
not_this key k true e free dollar = absurd (unlike key k free dollar ((bytes_eq-Decides key k).0 e))

-- a document whose keys do not begin with `$` stays
pub fold_free : (ps : Pairs) → PairsHaveFreeKeys ps → fold ps ≡ document ps
fold_free no_pairs f = refl
fold_free (pair key t no_pairs) f = ap (or_document (pair key t no_pairs)) (no_value key t f.0)
fold_free (pair key t (pair other u no_pairs)) f =
    let ps = pair key t (pair other u no_pairs) in
    let scope = code_with_scope u t in
    let second = λ (b : Bool). cond (b && bytes_eq other (codes "$code")) scope None in
    ap (λ b. or_alone ps (cond (b && bytes_eq other (codes "$scope")) (code_with_scope t u) (second (bytes_eq key (codes "$scope"))))) (not_this key (codes "$code") _ refl f.0 refl)
    ∙ ap (λ b. or_alone ps (second b)) (not_this key (codes "$scope") _ refl f.0 refl)
fold_free (pair key t (pair other u (pair k v ps))) f = refl
