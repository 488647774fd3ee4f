-- What the makers let through.
use Rattle.std.proofs.Common.{ℕ, suc, ◌≡◌, ◌<◌, ◌≤◌, Bool, true, false, cond, nat_lt, Option, Some, None, Result, Ok, Err, is_some, refl, ap, ◌∙◌, arith}
use Rattle.std.specs.Prelude.{IfOk}
use Rattle.std.specs.Str.{is_utf8}
use Rattle.std.proofs.lemmas.Bool.{or_parts, or_from, true≢false, cond-true, cond-false, le-ltb}
use Rattle.std.proofs.lemmas.Bool.Decides.{nat_tests}
use Rattle.bson_kinds.specs.Text.{Utf8}
use Rattle.bson_kinds.specs.Reserved.{reserved_kind}
use Rattle.bson_shape.specs.Form.{UnknownFields, Form, leaf, optional, lossy, human_readable, by_mode, sequence, map, tuple, tuple_structure, newtype, unit_structure, structure, enumeration, reference, definitions, Fields, Variants, no_variants, variant, Content, unit_content, newtype_content, tuple_content, struct_content}
use Rattle.bson_shape.specs.Guarded.{is_guarded}
use Rattle.bson_shape.specs.Levels.{levels, deepest, deepest_variant, max_shape_levels}
use Rattle.bson_shape.specs.Makers.{is_text_key, is_reserved_newtype, AreDistinct, repeats, has_repeat, variant_names, content_repeats, contents_repeat, variants_repeat, IsNewtype, IsStruct, IsEnum, AreDefinitions, IsShape, AreVariants, IsContent, Makes, within_levels, made_map, made_newtype, made_structure, made_enumeration, made_definitions, made_form}
use Rattle.bson_shape.specs.declared.error.ShapeError.{ShapeError}
use Rattle.bson_shape.specs.declared.error.ShapeError.TheVariants.{ReservedName, RepeatedName, KeyNotText, Unguarded, TooDeep}

none_from : {A : Type 0} (o : Option A) → is_some o ≡ false → o ≡ None
none_from None e = refl
none_from (Some x) e = absurd (true≢false e)

-- what passes the three tests of the makers of structs is as they ask
pub structure_passed : (name : Utf8) (fs : Fields) → is_utf8 name ≡ true → is_some (reserved_kind name) ≡ false → AreDistinct fs → deepest fs < max_shape_levels → IsStruct name fs
structure_passed name fs text free distinct few = record { text = text; free = none_from _ free; distinct = distinct; few = omega arith }

-- so is what passes those of the maker of an enum
pub enumeration_passed : (vs : Variants) → variants_repeat vs ≡ false → deepest_variant vs < max_shape_levels → AreVariants vs → IsShape (enumeration vs)
enumeration_passed vs distinct few shapes = (record { distinct = (or_parts (has_repeat (variant_names vs)) (contents_repeat vs) distinct).0; few = omega arith }, shapes)

-- a form of few levels is made
pub within_levels-few : (f : Form) → levels f ≤ max_shape_levels → within_levels f ≡ Ok f
within_levels-few f few = cond-false (nat_lt max_shape_levels (levels f)) _ _ (le-ltb _ _ few)

-- the maker makes each map of few levels whose key is a text
made_map-few : (k v : Form) → is_text_key k ≡ true → levels (map k v) ≤ max_shape_levels → made_map k v ≡ Ok (map k v)
made_map-few k v texts few = cond-true (is_text_key k) _ _ texts ∙ within_levels-few (map k v) few

-- the maker makes each newtype that is as it asks
made_newtype-IsNewtype : (name : Utf8) (f : Form) → IsNewtype name f → made_newtype name f ≡ Ok (newtype name f)
made_newtype-IsNewtype name f is = cond-false (is_reserved_newtype name) _ _ is.free ∙ within_levels-few (newtype name f) is.few

-- the makers make each struct that is as they ask
pub made_structure-IsStruct : (u : UnknownFields) (name : Utf8) (fs : Fields) → IsStruct name fs → made_structure u name fs ≡ Ok (structure u name fs)
made_structure-IsStruct u name fs is =
    cond-false (is_some (reserved_kind name)) _ _ (ap is_some is.free) ∙ cond-false (repeats fs) _ _ is.distinct ∙ within_levels-few (structure u name fs) is.few

-- and tell why they make no other
pub structure_reserved : (u : UnknownFields) (name : Utf8) (fs : Fields) → is_some (reserved_kind name) ≡ true → made_structure u name fs ≡ Err ReservedName
structure_reserved u name fs h = cond-true (is_some (reserved_kind name)) _ _ h

pub structure_repeated : (u : UnknownFields) (name : Utf8) (fs : Fields) → is_some (reserved_kind name) ≡ false → repeats fs ≡ true → made_structure u name fs ≡ Err RepeatedName
structure_repeated u name fs free h = cond-false (is_some (reserved_kind name)) _ _ free ∙ cond-true (repeats fs) _ _ h

is_over : (d : ℕ) → max_shape_levels ≤ d → nat_lt max_shape_levels (suc d) ≡ true
is_over d h = grind (arith, nat_tests)

pub structure_deep : (u : UnknownFields) (name : Utf8) (fs : Fields) → is_some (reserved_kind name) ≡ false → repeats fs ≡ false → max_shape_levels ≤ deepest fs → made_structure u name fs ≡ Err TooDeep
structure_deep u name fs free distinct deep =
    cond-false (is_some (reserved_kind name)) _ _ free ∙ cond-false (repeats fs) _ _ distinct ∙ cond-true (nat_lt max_shape_levels (levels (structure u name fs))) _ _ (is_over (deepest fs) deep)

-- no struct variant of an enum's has two fields of one name
contents_distinct : (vs : Variants) → AreVariants vs → contents_repeat vs ≡ false
contents_distinct no_variants h = refl
contents_distinct (variant n c vs) h = or_from _ _ (content_distinct c h.1) (contents_distinct vs h.2)
  where
    content_distinct : (c : Content) → IsContent c → content_repeats c ≡ false
    content_distinct unit_content k = refl
    content_distinct (newtype_content f) k = refl
    content_distinct (tuple_content ps) k = refl
    content_distinct (struct_content fs) k = k.0

-- the maker makes each enum that is as it asks
made_enumeration-IsEnum : (vs : Variants) → IsEnum vs → AreVariants vs → made_enumeration vs ≡ Ok (enumeration vs)
made_enumeration-IsEnum vs is shapes = cond-false (variants_repeat vs) _ _ (or_from _ _ is.distinct (contents_distinct vs shapes)) ∙ within_levels-few (enumeration vs) is.few

-- the maker makes definitions that are as it asks
made_definitions-AreDefinitions : (h : Fields) (f : Form) → AreDefinitions h f → made_definitions h f ≡ Ok (definitions h f)
made_definitions-AreDefinitions h f is = cond-false (repeats h) _ _ is.distinct ∙ cond-true (is_guarded h) _ _ is.guarded ∙ within_levels-few (definitions h f) is.few

-- ---- the answers of the makers

within_answers : (P : Result Form ShapeError → Type 0) (f : Form) → P (Err TooDeep) → P (Ok f) → P (within_levels f)
within_answers P f deep made = by_test (nat_lt max_shape_levels (levels f))
  where
    by_test : (d : Bool) → P (cond d (Err TooDeep) (Ok f))
    by_test true = deep
    by_test false = made

map_answers : (P : Result Form ShapeError → Type 0) (k v : Form) → P (Err KeyNotText) → P (Err TooDeep) → P (Ok (map k v)) → P (made_map k v)
map_answers P k v other deep made = by_test (is_text_key k)
  where
    by_test : (t : Bool) → P (cond t (within_levels (map k v)) (Err KeyNotText))
    by_test true = within_answers P (map k v) deep made
    by_test false = other

newtype_answers : (P : Result Form ShapeError → Type 0) (name : Utf8) (f : Form) → P (Err ReservedName) → P (Err TooDeep) → P (Ok (newtype name f)) → P (made_newtype name f)
newtype_answers P name f reserved deep made = by_test (is_reserved_newtype name)
  where
    by_test : (r : Bool) → P (cond r (Err ReservedName) (within_levels (newtype name f)))
    by_test true = reserved
    by_test false = within_answers P (newtype name f) deep made

structure_answers : (P : Result Form ShapeError → Type 0) (u : UnknownFields) (name : Utf8) (fs : Fields) → P (Err ReservedName) → P (Err RepeatedName) → P (Err TooDeep) → P (Ok (structure u name fs)) → P (made_structure u name fs)
structure_answers P u name fs reserved repeated deep made = by_tests (is_some (reserved_kind name)) (repeats fs) (nat_lt max_shape_levels (levels (structure u name fs)))
  where
    by_tests : (r t d : Bool) → P (cond r (Err ReservedName) (cond t (Err RepeatedName) (cond d (Err TooDeep) (Ok (structure u name fs)))))
    by_tests true t d = reserved
    by_tests false true d = repeated
    by_tests false false true = deep
    by_tests false false false = made

enumeration_answers : (P : Result Form ShapeError → Type 0) (vs : Variants) → P (Err RepeatedName) → P (Err TooDeep) → P (Ok (enumeration vs)) → P (made_enumeration vs)
enumeration_answers P vs repeated deep made = by_test (variants_repeat vs)
  where
    by_test : (r : Bool) → P (cond r (Err RepeatedName) (within_levels (enumeration vs)))
    by_test true = repeated
    by_test false = within_answers P (enumeration vs) deep made

definitions_answers : (P : Result Form ShapeError → Type 0) (h : Fields) (f : Form) → P (Err RepeatedName) → P (Err Unguarded) → P (Err TooDeep) → P (Ok (definitions h f)) → P (made_definitions h f)
definitions_answers P h f repeated unguarded deep made = by_tests (repeats h) (is_guarded h)
  where
    by_tests : (r g : Bool) → P (cond r (Err RepeatedName) (cond g (within_levels (definitions h f)) (Err Unguarded)))
    by_tests true g = repeated
    by_tests false true = within_answers P (definitions h f) deep made
    by_tests false false = unguarded

-- a maker makes the form that it is asked for, or refuses
pub within_levels-made : (f : Form) → IfOk (within_levels f) (λ g. g ≡ f)
within_levels-made f = within_answers (λ r. IfOk r (λ g. g ≡ f)) f tt refl

made_map-made : (k v : Form) → IfOk (made_map k v) (λ g. g ≡ map k v)
made_map-made k v = map_answers (λ r. IfOk r (λ g. g ≡ map k v)) k v tt tt refl

made_newtype-made : (name : Utf8) (f : Form) → IfOk (made_newtype name f) (λ g. g ≡ newtype name f)
made_newtype-made name f = newtype_answers (λ r. IfOk r (λ g. g ≡ newtype name f)) name f tt tt refl

made_structure-made : (u : UnknownFields) (name : Utf8) (fs : Fields) → IfOk (made_structure u name fs) (λ g. g ≡ structure u name fs)
made_structure-made u name fs = structure_answers (λ r. IfOk r (λ g. g ≡ structure u name fs)) u name fs tt tt tt refl

made_enumeration-made : (vs : Variants) → IfOk (made_enumeration vs) (λ g. g ≡ enumeration vs)
made_enumeration-made vs = enumeration_answers (λ r. IfOk r (λ g. g ≡ enumeration vs)) vs tt tt refl

made_definitions-made : (h : Fields) (f : Form) → IfOk (made_definitions h f) (λ g. g ≡ definitions h f)
made_definitions-made h f = definitions_answers (λ r. IfOk r (λ g. g ≡ definitions h f)) h f tt tt tt refl

-- so does the maker of any form
pub made_form-made : (f : Form) → IfOk (made_form f) (λ g. g ≡ f)
made_form-made (leaf l) = refl
made_form-made (optional f) = within_levels-made (optional f)
made_form-made (lossy f) = within_levels-made (lossy f)
made_form-made (human_readable f) = within_levels-made (human_readable f)
made_form-made (sequence f) = within_levels-made (sequence f)
made_form-made (by_mode r c) = within_levels-made (by_mode r c)
made_form-made (map k v) = made_map-made k v
made_form-made (tuple ps) = within_levels-made (tuple ps)
made_form-made (tuple_structure n ps) = within_levels-made (tuple_structure n ps)
made_form-made (newtype n f) = made_newtype-made n f
made_form-made (unit_structure n) = refl
made_form-made (structure u n fs) = made_structure-made u n fs
made_form-made (enumeration vs) = made_enumeration-made vs
made_form-made (reference n) = refl
made_form-made (definitions h f) = made_definitions-made h f

-- and it makes each shape
pub made_form-IsShape : (f : Form) → IsShape f → made_form f ≡ Ok f
made_form-IsShape (leaf l) h = refl
made_form-IsShape (optional f) h = within_levels-few (optional f) h.0
made_form-IsShape (lossy f) h = within_levels-few (lossy f) h.0
made_form-IsShape (human_readable f) h = within_levels-few (human_readable f) h.0
made_form-IsShape (sequence f) h = within_levels-few (sequence f) h.0
made_form-IsShape (by_mode r c) h = within_levels-few (by_mode r c) h.0
made_form-IsShape (map k v) h = made_map-few k v h.0 h.1
made_form-IsShape (tuple ps) h = within_levels-few (tuple ps) h.0
made_form-IsShape (tuple_structure n ps) h = within_levels-few (tuple_structure n ps) h.1
made_form-IsShape (newtype n f) h = made_newtype-IsNewtype n f h.0
made_form-IsShape (unit_structure n) h = refl
made_form-IsShape (structure u n fs) h = made_structure-IsStruct u n fs h.0
made_form-IsShape (enumeration vs) h = made_enumeration-IsEnum vs h.0 h.1
made_form-IsShape (reference n) h = refl
made_form-IsShape (definitions t f) h = made_definitions-AreDefinitions t f h.0

-- the makers of tuples, structs and enums take no memory
pub within_levels-makes : (f : Form) → Makes (within_levels f) (within_levels f)
within_levels-makes f = within_answers (λ r. Makes r r) f refl refl

pub made_enumeration-makes : (vs : Variants) → Makes (made_enumeration vs) (made_enumeration vs)
made_enumeration-makes vs = enumeration_answers (λ r. Makes r r) vs refl refl refl

pub made_structure-makes : (u : UnknownFields) (name : Utf8) (fs : Fields) → Makes (made_structure u name fs) (made_structure u name fs)
made_structure-makes u name fs = structure_answers (λ r. Makes r r) u name fs refl refl refl refl
