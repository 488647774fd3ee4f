use Rattle.std.proofs.Common.{◌≡◌, ◌∙◌, sym, ap, subst, arith, false, is_some, string_bytes}
use Rattle.std.proofs.lemmas.Str.{is_utf8-from_IsUtf8, IsUtf8-had}
use Rattle.bson_kinds.specs.Reserved.{reserved_kind}
use Rattle.bson_shape.specs.Levels.{deepest}
use Rattle.bson_shape.specs.Makers.{AreShapes}
use Rattle.bson_shape.specs.ShapeView.{fields_of}
use Rattle.bson_shape.proofs.Made.{structure_passed, structure_reserved, structure_repeated, structure_deep}
use Rattle.bson_shape.proofs.shape.struct_levels.Goals as goal

pub returns-then-is_some : goal.returns-then-is_some
returns-then-is_some c =
    let name = string_bytes c.args.name.now in
    let fs = fields_of c.args.fields.now.items in
    let kind : c.reserved_kind.result ≡ reserved_kind name = c.reserved_kind.ensures.kind ∙ ap reserved_kind c.as_str.ensures.value in
    λ u. structure_reserved u name fs (ap is_some (sym kind) ∙ sym c.is_some.ensures ∙ c.if-is_some.true)

pub returns-then-has_repeated_field : goal.returns-then-has_repeated_field
returns-then-has_repeated_field c =
    let name = string_bytes c.args.name.now in
    let fs = fields_of c.args.fields.now.items in
    let kind : c.reserved_kind.result ≡ reserved_kind name = c.reserved_kind.ensures.kind ∙ ap reserved_kind c.as_str.ensures.value in
    let free : is_some (reserved_kind name) ≡ false = ap is_some (sym kind) ∙ sym c.is_some.ensures ∙ c.if-is_some.false in
    λ u. structure_repeated u name fs free (sym c.has_repeated_field.ensures ∙ c.if-has_repeated_field.true)

pub returns-then-levels-ge-MAX_LEVELS : goal.returns-then-levels-ge-MAX_LEVELS
returns-then-levels-ge-MAX_LEVELS c =
    let name = string_bytes c.args.name.now in
    let fs = fields_of c.args.fields.now.items in
    let kind : c.reserved_kind.result ≡ reserved_kind name = c.reserved_kind.ensures.kind ∙ ap reserved_kind c.as_str.ensures.value in
    let free : is_some (reserved_kind name) ≡ false = ap is_some (sym kind) ∙ sym c.is_some.ensures ∙ c.if-is_some.false in
    let count : c.deepest-levels.result ≡ deepest fs = c.deepest-levels.ensures.levels ∙ ap (λ xs. deepest (fields_of xs)) c.deref.ensures.value in
    λ u. structure_deep u name fs free (sym c.has_repeated_field.ensures ∙ c.if-has_repeated_field.false) (omega arith)

pub returns : goal.returns
returns c =
    let name = string_bytes c.args.name.now in
    let fs = fields_of c.args.fields.now.items in
    let same = ap fields_of c.deref.ensures.value in
    let kind : c.reserved_kind.result ≡ reserved_kind name = c.reserved_kind.ensures.kind ∙ ap reserved_kind c.as_str.ensures.value in
    let free : is_some (reserved_kind name) ≡ false = ap is_some (sym kind) ∙ sym c.is_some.ensures ∙ c.if-is_some.false in
    let count : c.deepest-levels.result ≡ deepest fs = c.deepest-levels.ensures.levels ∙ ap deepest same in (
      omega arith,
      structure_passed name fs (is_utf8-from_IsUtf8 _ (IsUtf8-had _ c.args.name.now.ok)) free (sym c.has_repeated_field.ensures ∙ c.if-has_repeated_field.false) (omega arith),
      subst AreShapes same c.deepest-levels.ensures.shapes,
    )
