use Rattle.std.proofs.Common.{sym, subst, add-one}
use Rattle.bson_infer_run.proofs.Documents.{FirstAre, first_more, first_all, first_unsound}
use Rattle.bson_infer_run.proofs.Structs.{clash}
use Rattle.bson_infer_run.proofs.inferring.first_unsound.Goals as goal

pub returns-then-not-is_sound : goal.returns-then-not-is_sound
returns-then-not-is_sound c =
    first_unsound c.loop-i.i c.args.documents.now c.index-documents-i.result c.loop-i-test.true c.index-documents-i.is c.loop-i.invariant
    (λ s. clash c.is_sound.result (c.is_sound.ensures.1 s) c.if-not-is_sound.true)

pub loop-i-preserved : goal.loop-i-preserved
loop-i-preserved c =
    subst (λ n. FirstAre n c.args.documents.now) (sym (add-one c.loop-i.i))
    (first_more c.loop-i.i c.args.documents.now c.index-documents-i.result c.loop-i-test.true c.index-documents-i.is c.loop-i.invariant (c.is_sound.ensures.0 c.if-not-is_sound.false))

pub returns : goal.returns
returns c = first_all c.loop-i.i c.args.documents.now c.loop-i-test.false c.loop-i.invariant
