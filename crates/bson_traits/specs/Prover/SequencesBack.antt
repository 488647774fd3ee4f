-- The laws of sequences, from those of their items.
use Rattle.std.specs.Prelude.{◌≡◌, List, [], ◌∷◌, map, Option, Some, None, Ok, Err, refl, option_map}
use Rattle.std.specs.List.{All}
use Rattle.std.proofs.lemmas.List.Elements.{All-head, All-tail}
use Rattle.bson_kinds.specs.Outcome.{◌>>=◌, result_map}
use Rattle.bson_base.specs.Tree as tree
use Rattle.bson_base.specs.Tree.{Trees, null}
use Rattle.bson_shape.specs.Form as form
use Rattle.bson_shape.specs.Form.{Form}
use Rattle.bson_values.specs.Value.{Value, sequence, Items, item}
use Rattle.bson_laws.specs.Means.{means_items, norm_items}
use Rattle.bson_laws.proofs.FitsUnrolled.{ItemsFitIn, item_in, sequence_in}
use Rattle.bson_type_data.specs.Answers.{Reading, Writing}
use Rattle.bson_traits.specs.Laws.{Returns, IsNeverNull}
use Rattle.bson_traits.specs.Sequences.{written_items, written_sequence, taken_items, taken_sequence}

-- items fit a form, and what is read back of them gives these contents
pub record GiveBack {C : Type 0} (f : Form) (contents : List C) (t : Value → Reading C) (vs : Items) : Type 0 where
  pub fit : ItemsFitIn form.no_fields vs f
  pub again : taken_items t (norm_items vs) ≡ Ok contents

abbrev pub Return : {C : Type 0} → Form → List C → (Value → Reading C) → Writing Items → Type 0
Return f contents t (Ok vs) = GiveBack f contents t vs
Return f contents t (Err e) = Unit {0}

return_more : {C : Type 0} (f : Form) (c : C) (cs : List C) (t : Value → Reading C) (r : Writing Value) (rs : Writing Items) → Returns f c t r → Return f cs t rs
    → Return f (c ∷ cs) t (r >>= λ v. result_map (item v) rs)
return_more f c cs t (Err e) rs a b = tt
return_more f c cs t (Ok v) (Err e) a b = tt
return_more f c cs t (Ok v) (Ok vs) a b = record { fit = item_in form.no_fields f v vs a.fits b.fit; again = rw (a.again, b.again) refl }

return_all : {A C : Type 0} (w : A → Writing Value) (c : A → C) (t : Value → Reading C) (f : Form) (P : A → Type 0) → ((x : A) → P x → Returns f (c x) t (w x))
    → (xs : List A) → All P xs → Return f (map c xs) t (written_items w xs)
return_all w c t f P law [] all = record { fit = tt; again = refl }
return_all w c t f P law (x ∷ xs) all =
    return_more f (c x) (map c xs) t (w x) (written_items w xs) (law x (All-head P x xs all)) (return_all w c t f P law xs (All-tail P x xs all))

returns_of : {C : Type 0} (f : Form) (cs : List C) (t : Value → Reading C) (rs : Writing Items) → Return f cs t rs → Returns (form.sequence f) cs (taken_sequence t) (result_map sequence rs)
returns_of f cs t (Err e) a = tt
returns_of f cs t (Ok vs) a = record { fits = sequence_in form.no_fields f vs a.fit; again = a.again }

pub sequence_returns : {A C : Type 0} (w : A → Writing Value) (c : A → C) (t : Value → Reading C) (f : Form) (P : A → Type 0) → ((x : A) → P x → Returns f (c x) t (w x))
    → (xs : List A) → All P xs → Returns (form.sequence f) (map c xs) (taken_sequence t) (written_sequence w xs)
sequence_returns w c t f P law xs all = returns_of f (map c xs) t (written_items w xs) (return_all w c t f P law xs all)

-- a sequence means an array
array_not_null : (r : Option Trees) → option_map tree.array r ≡ Some null → ⊥
array_not_null None e = cc
array_not_null (Some ts) e = cc

pub sequence_not_null : (r : Writing Items) → IsNeverNull (result_map sequence r)
sequence_not_null (Err e) = tt
sequence_not_null (Ok vs) = array_not_null (means_items vs)
