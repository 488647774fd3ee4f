-- One more step of each loop that pushes the steps of a row.
use Rattle.std.proofs.Common.{◌≡◌, ℕ, suc, ◌+◌, ◌<◌, ◌≤◌, List, [], ◌∷◌, ◌++◌, length, get_or, drop, drop-cons, Bool, true, false, Some, None, ap, sym, subst, ◌∙◌, arith, string_bytes}
use Rattle.std.specs.Prelude.{option_and_then}
use Rattle.std.proofs.lemmas.List.{append_assoc, append-nil, drop_all, map-append}
use Rattle.bson_shape.specs.Form.{Form, Fields, Variants}
use Rattle.bson_shape.specs.Makers.{AreVariants, IsContent}
use Rattle.bson_shape.specs.ShapeView as view
use Rattle.bson_shape.specs.ShapeView.{fields_of, parts_of, variants_of}
use Rattle.bson_shape.specs.declared.shape.FieldShape.{FieldShape}
use Rattle.bson_shape.specs.declared.shape.VariantShape.{VariantShape}
use Rattle.bson_values.specs.Refusal.{Path}
use Rattle.bson_laws.specs.Variants.{content_of}
use Rattle.bson_laws.specs.Named.{form_of}
use Rattle.bson_evolve_laws.specs.Rows as rows
use Rattle.bson_evolve_laws.specs.Rows.{Answer, and_also, content_row, each_content, each_field, each_in_content, each_part, enum_row, field_row, parts_row, struct_row}
use Rattle.bson_evolve_check.specs.Steps.{behind, gone, step_view, steps_view}
use Rattle.bson_evolve_check.specs.declared.step.Step.{Step}
use Rattle.bson_evolve_check.proofs.RowLists.{index_step, item_both, key_step}

pub pushed : (ss new : List Step) (s : Step) (r : rows.Step) → new ≡ ss ++ s ∷ [] → step_view s ≡ r → steps_view new ≡ steps_view ss ++ r ∷ []
pushed ss new s r e is = ap steps_view e ∙ map-append step_view ss (s ∷ []) ∙ ap (λ x. steps_view ss ++ x ∷ []) is

one_more : (i : ℕ) → i + 1 ≡ suc i
one_more i = omega arith

pub drop_here : {A : Type 0} (xs : List A) (i : ℕ) (x : A) → i < length xs → x ≡ get_or xs i x → drop i xs ≡ x ∷ drop (i + 1) xs
drop_here xs i x l is = drop-cons xs i x l ∙ (λ k. sym is k ∷ drop (sym (one_more i) k) xs)

-- the same of an item that is copied
pub drop_next : {A : Type 0} (xs : List A) (i : ℕ) (d : A) → i < length xs → drop i xs ≡ get_or xs i d ∷ drop (i + 1) xs
drop_next xs i d l = drop-cons xs i d l ∙ (λ k. get_or xs i d ∷ drop (sym (one_more i) k) xs)

-- ---- with one new part

pub each_item_more : (path : Path) (xs : List Form) (i : ℕ) (x y : Form) (ss new init : List rows.Step) → i < length xs → x ≡ get_or xs i x → new ≡ ss ++ index_step path i x y ∷ []
    → ss ++ each_part path i (parts_of (drop i xs)) y ≡ init → new ++ each_part path (i + 1) (parts_of (drop (i + 1) xs)) y ≡ init
each_item_more path xs i x y ss new init l is e inv =
    ap (λ z. z ++ each_part path (i + 1) (parts_of (drop (i + 1) xs)) y) e
    ∙ append_assoc ss (index_step path i x y ∷ []) (each_part path (i + 1) (parts_of (drop (i + 1) xs)) y)
    ∙ ap (λ n. ss ++ index_step path i x y ∷ each_part path n (parts_of (drop (i + 1) xs)) y) (one_more i)
    ∙ ap (λ zs. ss ++ each_part path i (parts_of zs) y) (sym (drop_here xs i x l is))
    ∙ inv

pub each_item_all : (path : Path) (xs : List Form) (i : ℕ) (y : Form) (ss init : List rows.Step) → length xs ≤ i → ss ++ each_part path i (parts_of (drop i xs)) y ≡ init → ss ≡ init
each_item_all path xs i y ss init l inv = sym (append-nil ss) ∙ ap (λ zs. ss ++ each_part path i (parts_of zs) y) (sym (drop_all i xs l)) ∙ inv

pub each_field_more : (path : Path) (xs : List FieldShape) (i : ℕ) (x : FieldShape) (y : Form) (ss new init : List rows.Step) → i < length xs → x ≡ get_or xs i x → new ≡ ss ++ key_step path (string_bytes x.name) x.shape y ∷ []
    → ss ++ each_field path (fields_of (drop i xs)) y ≡ init → new ++ each_field path (fields_of (drop (i + 1) xs)) y ≡ init
each_field_more path xs i x y ss new init l is e inv =
    ap (λ z. z ++ each_field path (fields_of (drop (i + 1) xs)) y) e
    ∙ append_assoc ss (key_step path (string_bytes x.name) x.shape y ∷ []) (each_field path (fields_of (drop (i + 1) xs)) y)
    ∙ ap (λ zs. ss ++ each_field path (fields_of zs) y) (sym (drop_here xs i x l is))
    ∙ inv

pub each_field_all : (path : Path) (xs : List FieldShape) (i : ℕ) (y : Form) (ss init : List rows.Step) → length xs ≤ i → ss ++ each_field path (fields_of (drop i xs)) y ≡ init → ss ≡ init
each_field_all path xs i y ss init l inv = sym (append-nil ss) ∙ ap (λ zs. ss ++ each_field path (fields_of zs) y) (sym (drop_all i xs l)) ∙ inv

pub each_content_more : (xs : List VariantShape) (i : ℕ) (x : VariantShape) (y : Form) (ss new init : List rows.Step) → i < length xs → x ≡ get_or xs i x → new ≡ ss ++ each_in_content (string_bytes x.name) (view.content_of x.content) y
    → ss ++ each_content (variants_of (drop i xs)) y ≡ init → new ++ each_content (variants_of (drop (i + 1) xs)) y ≡ init
each_content_more xs i x y ss new init l is e inv =
    ap (λ z. z ++ each_content (variants_of (drop (i + 1) xs)) y) e
    ∙ append_assoc ss (each_in_content (string_bytes x.name) (view.content_of x.content) y) (each_content (variants_of (drop (i + 1) xs)) y)
    ∙ ap (λ zs. ss ++ each_content (variants_of zs) y) (sym (drop_here xs i x l is))
    ∙ inv

pub each_content_all : (xs : List VariantShape) (i : ℕ) (y : Form) (ss init : List rows.Step) → length xs ≤ i → ss ++ each_content (variants_of (drop i xs)) y ≡ init → ss ≡ init
each_content_all xs i y ss init l inv = sym (append-nil ss) ∙ ap (λ zs. ss ++ each_content (variants_of zs) y) (sym (drop_all i xs l)) ∙ inv

-- ---- structs

module _ (path : Path) (fs : Fields) (gs : List FieldShape) (i : ℕ) (ss : List rows.Step) (init : Answer) where
  module _ (g : FieldShape) (l : i < length gs) (is : g ≡ get_or gs i g) (inv : behind ss (struct_row path fs (fields_of (drop i gs))) ≡ init) (passes : Bool) (new : List rows.Step)
      (row : (others : Answer) → gone passes new others ≡ behind ss (option_and_then (field_row path (string_bytes g.name) (form_of fs (string_bytes g.name)) g.shape) others)) where
    struct_here : gone passes new (struct_row path fs (fields_of (drop (i + 1) gs))) ≡ init
    struct_here = row (struct_row path fs (fields_of (drop (i + 1) gs))) ∙ ap (λ zs. behind ss (struct_row path fs (fields_of zs))) (sym (drop_here gs i g l is)) ∙ inv

    pub struct_goes : passes ≡ true → behind new (struct_row path fs (fields_of (drop (i + 1) gs))) ≡ init
    struct_goes e = ap (λ b. gone b new (struct_row path fs (fields_of (drop (i + 1) gs)))) (sym e) ∙ struct_here

    pub struct_stops : passes ≡ false → None ≡ init
    struct_stops e = ap (λ b. gone b new (struct_row path fs (fields_of (drop (i + 1) gs)))) (sym e) ∙ struct_here

  pub struct_all : length gs ≤ i → behind ss (struct_row path fs (fields_of (drop i gs))) ≡ init → Some ss ≡ init
  struct_all l inv = ap Some (sym (append-nil ss)) ∙ ap (λ zs. behind ss (struct_row path fs (fields_of zs))) (sym (drop_all i gs l)) ∙ inv

-- ---- tuples

module _ (path : Path) (xs ys : List Form) (i : ℕ) (ss : List rows.Step) (init : Answer) where
  pub items_more : (x y : Form) (new : List rows.Step) → i < length xs → i < length ys → x ≡ get_or xs i x → y ≡ get_or ys i y → new ≡ ss ++ index_step path i x y ∷ []
      → behind ss (parts_row path i (parts_of (drop i xs)) (parts_of (drop i ys))) ≡ init → behind new (parts_row path (i + 1) (parts_of (drop (i + 1) xs)) (parts_of (drop (i + 1) ys))) ≡ init
  items_more x y new l m is also e inv =
      (λ k. behind (e k) (parts_row path (one_more i k) (parts_of (drop (i + 1) xs)) (parts_of (drop (i + 1) ys))))
      ∙ sym (item_both path i x y (drop (i + 1) xs) (drop (i + 1) ys) ss)
      ∙ (λ k. behind ss (parts_row path i (parts_of (sym (drop_here xs i x l is) k)) (parts_of (sym (drop_here ys i y m also) k))))
      ∙ inv

  pub items_all : length xs ≤ i → length ys ≤ i → behind ss (parts_row path i (parts_of (drop i xs)) (parts_of (drop i ys))) ≡ init → Some ss ≡ init
  items_all l m inv = ap Some (sym (append-nil ss)) ∙ (λ k. behind ss (parts_row path i (parts_of (sym (drop_all i xs l) k)) (parts_of (sym (drop_all i ys m) k)))) ∙ inv

-- ---- enums

module _ (vs : List VariantShape) (ws : Variants) (i : ℕ) (ss : List rows.Step) (init : Answer) where
  module _ (v : VariantShape) (l : i < length vs) (is : v ≡ get_or vs i v) (inv : behind ss (enum_row (variants_of (drop i vs)) ws) ≡ init) (passes : Bool) (new : List rows.Step)
      (row : (others : Answer) → gone passes new others ≡ behind ss (and_also (content_row (string_bytes v.name) (view.content_of v.content) (content_of ws (string_bytes v.name))) others)) where
    enum_here : gone passes new (enum_row (variants_of (drop (i + 1) vs)) ws) ≡ init
    enum_here = row (enum_row (variants_of (drop (i + 1) vs)) ws) ∙ ap (λ zs. behind ss (enum_row (variants_of zs) ws)) (sym (drop_here vs i v l is)) ∙ inv

    pub enum_goes : passes ≡ true → behind new (enum_row (variants_of (drop (i + 1) vs)) ws) ≡ init
    enum_goes e = ap (λ b. gone b new (enum_row (variants_of (drop (i + 1) vs)) ws)) (sym e) ∙ enum_here

    pub enum_stops : passes ≡ false → None ≡ init
    enum_stops e = ap (λ b. gone b new (enum_row (variants_of (drop (i + 1) vs)) ws)) (sym e) ∙ enum_here

  pub enum_all : length vs ≤ i → behind ss (enum_row (variants_of (drop i vs)) ws) ≡ init → Some ss ≡ init
  enum_all l inv = ap Some (sym (append-nil ss)) ∙ ap (λ zs. behind ss (enum_row (variants_of zs) ws)) (sym (drop_all i vs l)) ∙ inv

-- the shapes of the variants from here on
pub shapes_here : (vs : List VariantShape) (i : ℕ) (v : VariantShape) → i < length vs → v ≡ get_or vs i v → AreVariants (variants_of (drop i vs)) → IsContent (view.content_of v.content) × AreVariants (variants_of (drop (i + 1) vs))
shapes_here vs i v l is a = let b : AreVariants (variants_of (v ∷ drop (i + 1) vs)) = subst (λ zs. AreVariants (variants_of zs)) (drop_here vs i v l is) a in (b.1, b.2)
