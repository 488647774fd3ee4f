-- A pair that no row names has a reason.
use Rattle.std.proofs.Common.{◌≡◌, Bool, true, false, cond, List, [], ◌∷◌, ◌++◌, Option, Some, None, refl}
use Rattle.std.specs.Prelude.{◌&&◌, option_and_then}
use Rattle.bson_kinds.specs.Text.{Utf8}
use Rattle.bson_kinds.proofs.Apart.{some_no, true_no}
use Rattle.bson_shape.specs.Form.{dropped, denied, Form, optional, structure, enumeration, Fields, no_fields, field, Content, struct_content, Variants, no_variants, variant}
use Rattle.bson_values.specs.Refusal.{Path, at_key}
use Rattle.bson_laws.specs.Named.{form_of, has}
use Rattle.bson_laws.specs.Variants.{content_of}
use Rattle.bson_evolve_laws.specs.Rows.{Step, Answer, and_also, are_known, content_row, enum_row, field_row, row, struct_row}
use Rattle.bson_evolve_differences.specs.Mismatch.{content_reasons, is_given, mismatch, missing, passes, unknown, unless, variant_reasons}
use Rattle.bson_evolve_differences.specs.Reasons.{Reason, missing_field, missing_in_variant, other_content, unknown_field}

abbrev pub IsSomething : List Reason → Type 0
IsSomething [] = ⊥
IsSomething (r ∷ rs) = Unit {0}

in_first : (rs ss : List Reason) → IsSomething rs → IsSomething (rs ++ ss)
in_first [] ss h = absurd h
in_first (r ∷ rs) ss h = tt

in_rest : (rs ss : List Reason) → IsSomething ss → IsSomething (rs ++ ss)
in_rest [] ss h = h
in_rest (r ∷ rs) ss h = tt

is_said : (b : Bool) (r : Reason) → b ≡ false → IsSomething (unless b r)
is_said true r e = absurd (true_no e)
is_said false r e = tt

-- ---- structs

not_given : (path : Path) (name : Utf8) (o : Option Form) (y : Form) (rest : List Step) → field_row path name o y rest ≡ None → is_given o y ≡ false
not_given path name (Some x) y rest e = absurd (some_no e)
not_given path name None (optional y) rest e = absurd (some_no e)
not_given path name None y rest e = refl

some_missing : (because : Utf8 → Reason) (path : Path) (fs gs : Fields) → struct_row path fs gs ≡ None → IsSomething (missing because fs gs)
some_missing because path fs no_fields e = absurd (some_no e)
some_missing because path fs (field name y gs) e = by_rest (struct_row path fs gs) refl e (λ k. some_missing because path fs gs k) where
  by_rest : (o : Answer) → struct_row path fs gs ≡ o → option_and_then (field_row path name (form_of fs name) y) o ≡ None → (struct_row path fs gs ≡ None → IsSomething (missing because fs gs)) → IsSomething (missing because fs (field name y gs))
  by_rest None is k others = in_rest (unless (is_given (form_of fs name) y) (because name)) (missing because fs gs) (others is)
  by_rest (Some rest) is k others =
      in_first (unless (is_given (form_of fs name) y) (because name)) (missing because fs gs) (is_said (is_given (form_of fs name) y) (because name) (not_given path name (form_of fs name) y rest k))

some_unknown : (fs gs : Fields) → are_known fs gs ≡ false → IsSomething (unknown fs gs)
some_unknown no_fields gs e = absurd (true_no e)
some_unknown (field name x fs) gs e = by_case (has gs name) refl e (λ k. some_unknown fs gs k) where
  by_case : (b : Bool) → has gs name ≡ b → (b && are_known fs gs) ≡ false → (are_known fs gs ≡ false → IsSomething (unknown fs gs)) → IsSomething (unknown (field name x fs) gs)
  by_case true is k others = in_rest (unless (has gs name) (unknown_field name)) (unknown fs gs) (others k)
  by_case false is k others = in_first (unless (has gs name) (unknown_field name)) (unknown fs gs) (is_said (has gs name) (unknown_field name) is)

some_closed : (fs gs : Fields) → cond (are_known fs gs) (struct_row [] fs gs) None ≡ None → IsSomething (missing missing_field fs gs ++ unknown fs gs)
some_closed fs gs e = by_case (are_known fs gs) refl e where
  by_case : (b : Bool) → are_known fs gs ≡ b → cond b (struct_row [] fs gs) None ≡ None → IsSomething (missing missing_field fs gs ++ unknown fs gs)
  by_case true is k = in_first (missing missing_field fs gs) (unknown fs gs) (some_missing missing_field [] fs gs k)
  by_case false is k = in_rest (missing missing_field fs gs) (unknown fs gs) (some_unknown fs gs is)

-- ---- enums

other_is : (name : Utf8) (o : Answer) → o ≡ None → IsSomething (unless (passes o) (other_content name))
other_is name None e = tt
other_is name (Some ss) e = absurd (some_no e)

some_content : (name : Utf8) (c : Content) (o : Option Content) → content_row name c o ≡ None → IsSomething (content_reasons name c o)
some_content name c None e = tt
some_content name (struct_content fs) (Some (struct_content gs)) e = some_missing (missing_in_variant name) (at_key name ∷ []) fs gs e
some_content name c (Some d) e = other_is name (content_row name c (Some d)) e

some_variant : (vs ws : Variants) → enum_row vs ws ≡ None → IsSomething (variant_reasons vs ws)
some_variant no_variants ws e = absurd (some_no e)
some_variant (variant name c vs) ws e = by_content (content_row name c (content_of ws name)) (enum_row vs ws) refl refl e (λ k. some_variant vs ws k) where
  by_content : (o p : Answer) → content_row name c (content_of ws name) ≡ o → enum_row vs ws ≡ p → and_also o p ≡ None → (enum_row vs ws ≡ None → IsSomething (variant_reasons vs ws)) → IsSomething (variant_reasons (variant name c vs) ws)
  by_content None p is also k others = in_first (content_reasons name c (content_of ws name)) (variant_reasons vs ws) (some_content name c (content_of ws name) is)
  by_content (Some ss) None is also k others = in_rest (content_reasons name c (content_of ws name)) (variant_reasons vs ws) (others also)
  by_content (Some ss) (Some rest) is also k others = absurd (some_no k)

pub some_reason : (a b : Form) → row a b ≡ None → IsSomething (mismatch a b)
some_reason (structure u name fs) (structure dropped other gs) e = some_missing missing_field [] fs gs e
some_reason (structure u name fs) (structure denied other gs) e = some_closed fs gs e
some_reason (enumeration vs) (enumeration ws) e = some_variant vs ws e
some_reason a b e = tt
