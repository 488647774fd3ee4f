use Rattle.std.proofs.Common.{false, sym, subst}
use Rattle.bson_values.specs.Marked.{Marked}
use Rattle.bson_values.specs.Value as value
use Rattle.bson_kinds.specs.Piece.{made}
use Rattle.std.specs.Prelude.{string_bytes}
use Rattle.bson_laws.specs.Judged.{Reading, judged}
use Rattle.bson_laws.specs.Taken.{text_of}
use Rattle.bson_met.specs.Gives.{Reaches}
use Rattle.bson_texts.proofs.Mapped.{reaches_map}
use Rattle.bson_texts.specs.Leaves.{text_at}
use Rattle.bson_wrapped.proofs.Made.{mapped}
use Rattle.bson_wrapped.proofs.fields.StringFieldValue.read.Goals as goal

pub returns : goal.returns
returns c =
    let n = c.args.value.now in
    record {
      exact = subst (λ (r : Reading Marked). Reaches (λ s. value.str (made (string_bytes s))) c.own_text.result r) (sym (mapped value.str (judged n) (text_of false)))
          (reaches_map (λ s. made (string_bytes s)) value.str c.own_text.result (text_at false n) c.own_text.ensures);
    }
