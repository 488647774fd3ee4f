use Rattle.std.proofs.Common.{false, Ok, Option, ap, sym, ◌∙◌, rules}
use Rattle.std.specs.Prelude.{option_map}
use Rattle.uuid.specs.Text.{parsed}
use Rattle.bson_kinds.specs.Outcome.{◌>>=◌, result_map}
use Rattle.bson_kinds.specs.Text.{Bytes, Utf8}
use Rattle.bson_base.specs.Tree as tree
use Rattle.bson_base.specs.Tree.{Tree}
use Rattle.bson_kinds.specs.Piece.{Piece}
use Rattle.bson_values.specs.declared.wrapper.Wrapper.TheVariants.{Uuid}
use Rattle.bson_laws.specs.Judged.{Reading}
use Rattle.bson_laws.specs.Trees.{or_bad}
use Rattle.bson_met.proofs.Refusals.{stops_bind, stops_map}
use Rattle.bson_texts.specs.Leaves.{text_at}
use Rattle.bson_wrapped.proofs.binaries.valid_uuid.Goals as goal

abbrev make : Utf8 → Option Tree
make t = option_map (tree.binary 4) (parsed t)

abbrev read : Reading Piece → Reading Tree
read r = result_map make (result_map (λ t. t.bytes) r) >>= or_bad Uuid

abbrev whole : Option Tree → Reading (Option Tree)
whole o = Ok o

abbrev from : Option Bytes → Reading Tree
from o = whole (option_map (tree.binary 4) o) >>= or_bad Uuid

pub returns-in_err-text : goal.returns-in_err-text
returns-in_err-text c =
    let stop = c.in_err-text.field-0.0 in
    let text = text_at false c.args.value.now in
    let here = stops_bind stop (result_map make (result_map (λ t. t.bytes) text)) (or_bad Uuid) (stops_map stop make (result_map (λ t. t.bytes) text) (stops_map stop (λ t. t.bytes) text c.in_err-text.ensures)) in
    record { exact = search (rules, here) }

pub returns-in-Ok : goal.returns-in-Ok
returns-in-Ok c = record { exact = ap read c.in_ok-text.ensures ∙ ap from (ap parsed (sym c.as_str.ensures.value) ∙ c.in-Ok.ensures.value) }
