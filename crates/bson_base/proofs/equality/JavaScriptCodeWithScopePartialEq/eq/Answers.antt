use Rattle.std.proofs.Common.{ap, ◌∙◌}
use Rattle.std.specs.Prelude.{◌&&◌}
use Rattle.bson_base.specs.BsonView.{scoped_of, pairs_of}
use Rattle.bson_base.specs.Prover.Decided.{same_decides}
use Rattle.bson_base.specs.Same.{same_pairs}
use Rattle.bson_kinds.proofs.Decisions.{exactly}
use Rattle.bson_base.proofs.equality.JavaScriptCodeWithScopePartialEq.eq.Goals as goal

pub returns-then-eq-clause-equal : goal.returns-then-eq-clause-equal
returns-then-eq-clause-equal c =
    let a = c.args.self.now in
    let b = c.args.other.now in
    exactly _ _ (c.are_same_documents.ensures ∙ ap (λ t. t && same_pairs (pairs_of a.scope) (pairs_of b.scope)) c.if-eq.ensures) (same_decides (scoped_of a) (scoped_of b))
