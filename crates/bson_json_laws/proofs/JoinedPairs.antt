-- Pairs behind pairs.
use Rattle.std.proofs.Common.{◌≡◌, Bool, true, false, None, refl, ap, sym, ◌∙◌, true≢false}
use Rattle.std.specs.Prelude.{Ok}
use Rattle.std.specs.Str.{bytes_eq}
use Rattle.std.proofs.lemmas.Slice.Eq.{bytes_eq-Decides}
use Rattle.bson_kinds.specs.Text.{Utf8}
use Rattle.bson_base.specs.Pairs.{lookup, put}
use Rattle.bson_base.specs.Sound.{Lacks}
use Rattle.bson_base.specs.Tree.{Tree, Pairs, no_pairs, pair}
use Rattle.bson_json_laws.specs.Read.{without_key}

abbrev pub joined : Pairs → Pairs → Pairs
joined no_pairs qs = qs
joined (pair k t ps) qs = pair k t (joined ps qs)

pub joined_nil : (ps : Pairs) → joined ps no_pairs ≡ ps
joined_nil no_pairs = refl
joined_nil (pair k t ps) = ap (pair k t) (joined_nil ps)

pub joined_more : (ps : Pairs) (k : Utf8) (t : Tree) (qs : Pairs) → joined (joined ps (pair k t no_pairs)) qs ≡ joined ps (pair k t qs)
joined_more no_pairs k t qs = refl
joined_more (pair l u ps) k t qs = ap (pair l u) (joined_more ps k t qs)

-- none of the keys is in the pairs
abbrev pub AllLack : Pairs → Pairs → Type 0
AllLack no_pairs done = Unit {0}
AllLack (pair k t ps) done = Lacks k done × AllLack ps done

pub put_new : (k : Utf8) (t : Tree) (done : Pairs) → Lacks k done → put k t done ≡ joined done (pair k t no_pairs)
put_new k t no_pairs h = refl
put_new k t (pair l u ps) h = rw h.0 (ap (pair l u) (put_new k t ps h.1))

look_new : (k : Utf8) (done : Pairs) → Lacks k done → lookup k done ≡ None
look_new k no_pairs h = refl
look_new k (pair l u ps) h = rw h.0 (look_new k ps h.1)

pub is_new : (k : Utf8) (done : Pairs) → Lacks k done → without_key k done ≡ Ok done
is_new k done h = rw (look_new k done h) refl

apart : (a b : Utf8) (x y : Bool) → bytes_eq a b ≡ x → bytes_eq b a ≡ y → x ≡ false → y ≡ false
apart a b x false e f h = refl
apart a b x true e f h = absurd (true≢false (sym ((bytes_eq-Decides a b).1 (sym ((bytes_eq-Decides b a).0 f))) ∙ e ∙ h))

lacks_more : (k l : Utf8) (u : Tree) (done : Pairs) → Lacks k done → bytes_eq k l ≡ false → Lacks k (joined done (pair l u no_pairs))
lacks_more k l u no_pairs h e = (e, tt)
lacks_more k l u (pair m v ps) h e = (h.0, lacks_more k l u ps h.1 e)

pub all_lack_more : (ps : Pairs) (l : Utf8) (u : Tree) (done : Pairs) → AllLack ps done → Lacks l ps → AllLack ps (joined done (pair l u no_pairs))
all_lack_more no_pairs l u done h k = tt
all_lack_more (pair k t ps) l u done h d =
    (lacks_more k l u done h.0 (apart l k _ _ refl refl d.0), all_lack_more ps l u done h.1 d.1)

pub all_lack_none : (ps : Pairs) → AllLack ps no_pairs
all_lack_none no_pairs = tt
all_lack_none (pair k t ps) = (tt, all_lack_none ps)
