-- What was written of a value is read back.
use Rattle.std.proofs.Common.{◌≡◌, Ok, ap, ◌∙◌, subst}
use Rattle.bson_kinds.specs.Outcome.{◌>>=◌}
use Rattle.bson_base.specs.Tree.{Tree, enc}
use Rattle.bson_shape.specs.Form.{Form}
use Rattle.bson_shape.specs.Makers.{IsShape}
use Rattle.bson_values.specs.Value.{Value}
use Rattle.bson_laws.specs.Means.{norm}
use Rattle.bson_laws.specs.Reads.{reads_document}
use Rattle.bson_type_data.specs.Answers.{Reading, Writing}
use Rattle.bson_traits.specs.Laws.{GivesBack, Returns}
use Rattle.bson_types.specs.Typed.{ReadsBack}
use Rattle.bson_types.proofs.Levels.{shape_is_expected}

-- the law of the type, at a datum
pub given_back : {C : Type 0} (form : Form) (c : C) (taken : Value → Reading C) (w : Writing Value) (v : Value) → w ≡ Ok v → Returns form c taken w → GivesBack form c taken v
given_back form c taken w v is law = subst (Returns form c taken) is law

pub reads_back : {C : Type 0} (form : Form) (taken : Value → Reading C) (c : C) (v : Value) (t : Tree) → IsShape form → reads_document form (enc t) ≡ Ok (norm v) → taken (norm v) ≡ Ok c → ReadsBack form taken c v t
reads_back form taken c v t shape read again = record {
  datum = read;
  value = again;
  call = ap (λ r. r >>= λ s. reads_document s (enc t) >>= taken) (shape_is_expected form shape) ∙ ap (λ r. r >>= taken) read ∙ again;
}
