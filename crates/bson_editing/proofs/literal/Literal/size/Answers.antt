use Rattle.std.proofs.Common.{◌+◌, [], length, ap, sym, ◌∙◌}
use Rattle.bson_kinds.specs.Text.{Bytes}
use Rattle.bson_base.specs.Tree.{enc}
use Rattle.bson_base.proofs.Lengths.{length-le32, length-le64, length-text, length-enclosed}
use Rattle.bson_editing.specs.Literal.{tree_of}
use Rattle.bson_editing.specs.declared.literal.Literal.{Literal}
use Rattle.bson_editing.proofs.literal.Literal.size.Goals as goal

pub returns-in-Int32 : goal.returns-in-Int32
returns-in-Int32 c = sym (ap (λ (l : Literal). length (enc (tree_of l))) c.in-Int32.is ∙ length-le32 _)

pub returns-in-Int64 : goal.returns-in-Int64
returns-in-Int64 c = sym (ap (λ (l : Literal). length (enc (tree_of l))) c.in-Int64.is ∙ length-le64 _)

pub returns-in-Text : goal.returns-in-Text
returns-in-Text c = sym (ap (λ (l : Literal). length (enc (tree_of l))) c.in-Text.is ∙ length-text _ ∙ ap (λ (b : Bytes). length b + 5) (sym c.as_str.ensures.value))

pub returns-in-EmptyArray : goal.returns-in-EmptyArray
returns-in-EmptyArray c = sym (ap (λ (l : Literal). length (enc (tree_of l))) c.in-EmptyArray.is ∙ length-enclosed [])

pub returns-in-EmptyDocument : goal.returns-in-EmptyDocument
returns-in-EmptyDocument c = sym (ap (λ (l : Literal). length (enc (tree_of l))) c.in-EmptyDocument.is ∙ length-enclosed [])
