-- The text of a form is read as that form, or refused as its first refusal says.
use Rattle.std.proofs.Common.{◌≡◌, ℕ, ◌+◌, ◌≤◌, ◌<◌, false, cond, [], ◌++◌, length, Option, Some, None, Result, Ok, Err, refl, sym, ap, ◌∙◌, arith}
use Rattle.std.specs.Prelude.{nat_le}
use Rattle.std.proofs.lemmas.List.{append-nil}
use Rattle.std.proofs.lemmas.Bool.Decides.{nat_tests}
use Rattle.bson_kinds.specs.Text.{Utf8}
use Rattle.bson_shape.specs.declared.error.ShapeError.TheVariants.{TooDeep}
use Rattle.bson_shape.specs.Form.{Form, leaf, optional, lossy, human_readable, by_mode, sequence, map, tuple, tuple_structure, newtype, unit_structure, structure, enumeration, reference, definitions, Fields, no_fields, field, Parts, no_parts, part, Variants, no_variants, variant, Content, unit_content, newtype_content, tuple_content, struct_content}
use Rattle.bson_shape.specs.Levels.{levels, deepest, deepest_part, deepest_variant, deepest_inside}
use Rattle.bson_shape.specs.Makers.{IsShape, AreShapes, AreParts, AreVariants, IsContent, made_form}
use Rattle.bson_shape.specs.Notation.{text, name_text, struct_name_text, opening_struct, in_parens, definition_texts, content_text}
use Rattle.bson_shape.specs.FirstRefusal.{MakerRefusal, refusal_of, form_refusal, first_refusal, fields_refusal, parts_refusal, variants_refusal, content_refusal}
use Rattle.bson_kinds.specs.Outcome.{◌>>=◌, or_else}
use Rattle.bson_shape.specs.Machine.{Refusal, Refused, Form_due, Done, wrapped, run, finish, parsed}
use Rattle.bson_shape.proofs.Made.{made_form-IsShape}
use Rattle.bson_shape.proofs.Shapes.{levels_few}
use Rattle.bson_shape.proofs.FormRuns.{read, settle, reads_form}

-- the answer at the text of a form
abbrev pub judged : Option MakerRefusal → Form → Result Form Refusal
judged None f = Ok f
judged (Some r) f = Err (Refused r)

settled : (o : Option MakerRefusal) (f : Form) (at : ℕ) → settle o (read at (Done f, []) []) ≡ judged o f
unfolding run finish wrapped
settled None f at = refl
settled (Some r) f at = refl

parsed-read : (bytes : Utf8) → parsed bytes ≡ read 0 (Form_due, []) bytes
unfolding parsed
parsed-read bytes = ap (λ i. run 0 (Form_due, []) bytes >>= λ s. finish i s.0 s.1) (omega arith)

pub parsed-text : (f : Form) → parsed (text f) ≡ judged (first_refusal 0 0 f) f
parsed-text f = parsed-read (text f) ∙ ap (read 0 (Form_due, [])) (sym (append-nil (text f))) ∙ reads_form f [] 0 [] refl ∙ settled (first_refusal 0 0 f) f (0 + length (text f))

-- a form that is not too deep, in which nothing is refused, is made
none_refused : (f : Form) (at around : ℕ) (inside : Option MakerRefusal) → IsShape f → nat_le 512 around ≡ false → inside ≡ None → form_refusal at around f inside ≡ None
none_refused f at around inside h d none =
    ap (λ t. or_else (cond t (Some (record { met = at + 1; place = at; cause = TooDeep })) None) (or_else inside (refusal_of (at + length (text f)) at (made_form f)))) d
    ∙ ap (λ o. or_else o (refusal_of (at + length (text f)) at (made_form f))) none ∙ ap (refusal_of (at + length (text f)) at) (made_form-IsShape f h)

few_around : (around : ℕ) → around < 512 → nat_le 512 around ≡ false
few_around around h = grind (arith, nat_tests)

mutual
  -- no maker refuses in a shape
  first_refusal-IsShape : (f : Form) (at around : ℕ) → IsShape f → around + levels f ≤ 512 → first_refusal at around f ≡ None
  first_refusal-IsShape (leaf l) at around h few = none_refused (leaf l) at around None h (few_around around (omega arith)) refl
  first_refusal-IsShape (optional f) at around h few =
      none_refused (optional f) at around (first_refusal (at + 1) (around + 1) f) h (few_around around (omega arith)) (first_refusal-IsShape f (at + 1) (around + 1) h.1 (omega arith))
  first_refusal-IsShape (lossy f) at around h few =
      none_refused (lossy f) at around (first_refusal (at + 1) (around + 1) f) h (few_around around (omega arith)) (first_refusal-IsShape f (at + 1) (around + 1) h.1 (omega arith))
  first_refusal-IsShape (human_readable f) at around h few =
      none_refused (human_readable f) at around (first_refusal (at + 1) (around + 1) f) h (few_around around (omega arith)) (first_refusal-IsShape f (at + 1) (around + 1) h.1 (omega arith))
  first_refusal-IsShape (sequence f) at around h few =
      none_refused (sequence f) at around (first_refusal (at + 1) (around + 1) f) h (few_around around (omega arith)) (first_refusal-IsShape f (at + 1) (around + 1) h.1 (omega arith))
  first_refusal-IsShape (by_mode r c) at around h few =
      let compact = at + 2 + length (text r) + 1 in
      let b = first_refusal compact (around + 1) c in
      none_refused (by_mode r c) at around (or_else (first_refusal (at + 2) (around + 1) r) b) h (few_around around (omega arith))
      (ap (λ o. or_else o b) (first_refusal-IsShape r (at + 2) (around + 1) h.1 (omega arith)) ∙ first_refusal-IsShape c compact (around + 1) h.2 (omega arith))
  first_refusal-IsShape (map k v) at around h few =
      let value = at + 1 + length (text k) + 1 in
      let b = first_refusal value (around + 1) v in
      none_refused (map k v) at around (or_else (first_refusal (at + 1) (around + 1) k) b) h (few_around around (omega arith))
      (ap (λ o. or_else o b) (first_refusal-IsShape k (at + 1) (around + 1) h.2 (omega arith)) ∙ first_refusal-IsShape v value (around + 1) h.3 (omega arith))
  first_refusal-IsShape (tuple ps) at around h few =
      none_refused (tuple ps) at around (parts_refusal (at + 1) (around + 1) ps) h (few_around around (omega arith)) (parts_refusal-AreParts ps (at + 1) (around + 1) h.1 (omega arith))
  first_refusal-IsShape (tuple_structure n ps) at around h few =
      let inner = at + length (name_text n) + 1 in
      none_refused (tuple_structure n ps) at around (parts_refusal inner (around + 1) ps) h (few_around around (omega arith)) (parts_refusal-AreParts ps inner (around + 1) h.2 (omega arith))
  first_refusal-IsShape (enumeration vs) at around h few =
      none_refused (enumeration vs) at around (variants_refusal (at + 1) (around + 1) vs) h (few_around around (omega arith)) (variants_refusal-AreVariants vs (at + 1) (around + 1) h.1 (omega arith))
  first_refusal-IsShape (newtype n f) at around h few =
      let inner = at + length (name_text n) + 1 in
      none_refused (newtype n f) at around (first_refusal inner (around + 1) f) h (few_around around (omega arith)) (first_refusal-IsShape f inner (around + 1) h.1 (omega arith))
  first_refusal-IsShape (reference n) at around h few = none_refused (reference n) at around None h (few_around around (omega arith)) refl
  first_refusal-IsShape (definitions t f) at around h few =
      let body = at + 1 + length (in_parens (definition_texts t)) in
      let b = first_refusal body (around + 1) f in
      none_refused (definitions t f) at around (or_else (fields_refusal (at + 2) (around + 1) t) b) h (few_around around (omega arith))
      (ap (λ o. or_else o b) (fields_refusal-AreShapes t (at + 2) (around + 1) h.1 (omega arith)) ∙ first_refusal-IsShape f body (around + 1) h.2 (omega arith))
  first_refusal-IsShape (unit_structure n) at around h few = none_refused (unit_structure n) at around None h (few_around around (omega arith)) refl
  first_refusal-IsShape (structure u n fs) at around h few =
      let inner = at + length (struct_name_text n) + length (opening_struct u) in
      none_refused (structure u n fs) at around (fields_refusal inner (around + 1) fs) h (few_around around (omega arith)) (fields_refusal-AreShapes fs inner (around + 1) h.1 (omega arith))

  fields_refusal-AreShapes : (fs : Fields) (at around : ℕ) → AreShapes fs → around + deepest fs ≤ 512 → fields_refusal at around fs ≡ None
  fields_refusal-AreShapes no_fields at around h few = refl
  fields_refusal-AreShapes (field n f fs) at around h few =
      let next = at + length (name_text n) + 1 + length (text f) + 1 in
      ap (λ o. or_else o (fields_refusal next around fs)) (first_refusal-IsShape f (at + length (name_text n) + 1) around h.1 (omega arith)) ∙ fields_refusal-AreShapes fs next around h.2 (omega arith)

  parts_refusal-AreParts : (ps : Parts) (at around : ℕ) → AreParts ps → around + deepest_part ps ≤ 512 → parts_refusal at around ps ≡ None
  parts_refusal-AreParts no_parts at around h few = refl
  parts_refusal-AreParts (part f ps) at around h few =
      let next = at + length (text f) + 1 in
      ap (λ o. or_else o (parts_refusal next around ps)) (first_refusal-IsShape f at around h.0 (omega arith)) ∙ parts_refusal-AreParts ps next around h.1 (omega arith)

  variants_refusal-AreVariants : (vs : Variants) (at around : ℕ) → AreVariants vs → around + deepest_variant vs ≤ 512 → variants_refusal at around vs ≡ None
  variants_refusal-AreVariants no_variants at around h few = refl
  variants_refusal-AreVariants (variant n c vs) at around h few =
      let next = at + length (name_text n ++ content_text c) + 1 in
      ap (λ o. or_else o (variants_refusal next around vs)) (content_refusal-IsContent c (at + length (name_text n)) around h.1 (omega arith)) ∙ variants_refusal-AreVariants vs next around h.2 (omega arith)

  content_refusal-IsContent : (c : Content) (at around : ℕ) → IsContent c → around + deepest_inside c ≤ 512 → content_refusal at around c ≡ None
  content_refusal-IsContent unit_content at around h few = refl
  content_refusal-IsContent (newtype_content f) at around h few = first_refusal-IsShape f (at + 1) around h few
  content_refusal-IsContent (tuple_content ps) at around h few = parts_refusal-AreParts ps (at + 1) around h few
  content_refusal-IsContent (struct_content fs) at around h few = fields_refusal-AreShapes fs (at + 1) around h.1 few

-- the text of a shape is read as that shape
pub parsed-shape : (f : Form) → IsShape f → parsed (text f) ≡ Ok f
parsed-shape f h = parsed-text f ∙ ap (λ o. judged o f) (first_refusal-IsShape f 0 0 h (omega (arith, levels_few f h)))
