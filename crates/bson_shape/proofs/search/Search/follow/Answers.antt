use Rattle.std.proofs.Common.{◌≡◌, true, sym, subst}
use Rattle.std.specs.Prelude.{IfOk}
use Rattle.bson_shape.specs.Form.{by_mode}
use Rattle.bson_shape.specs.ShapeView.{fields_of}
use Rattle.bson_shape.specs.Prover.Search.{follow, search_view, with_task, Searches, Goes}
use Rattle.bson_shape.proofs.Searched.{goes_both, follows_nowhere, follows_name, follows_inner, follows_both}
use Rattle.bson_shape.proofs.search.Search.follow.Goals as goal

pub returns-in-Nowhere-clause-goes : goal.returns-in-Nowhere-clause-goes
returns-in-Nowhere-clause-goes c =
    let old = c.args.self.now in
    follows_nowhere (fields_of old.table.now) (search_view old) c.args.shape.now c.in-Nowhere.ensures c.requires

pub refer-requires : goal.refer-requires
refer-requires c =
    let old = c.args.self.now in
    let same = follows_name c.in-Name.name.now c.args.shape.now c.in-Name.ensures in
    subst (λ f. Searches (fields_of old.table.now) (with_task (follow f) (search_view old))) same c.requires

pub returns-in-Name-clause-goes : goal.returns-in-Name-clause-goes
returns-in-Name-clause-goes c =
    let old = c.args.self.now in
    let same = follows_name c.in-Name.name.now c.args.shape.now c.in-Name.ensures in
    subst (λ f. IfOk c.refer.result (λ b. Goes (fields_of old.table.now) (with_task (follow f) (search_view old)) b (search_view c.refer.new.self))) (sym same) c.refer.ensures.goes

pub returns-in_ok-push-in-Inner-clause-goes : goal.returns-in_ok-push-in-Inner-clause-goes
returns-in_ok-push-in-Inner-clause-goes c =
    let old = c.args.self.now in
    let h = fields_of old.table.now in
    subst (Goes h (with_task (follow c.args.shape.now) (search_view old)) true) (sym c.in_ok-push-in-Inner.ensures.pushed)
    (follows_inner h (search_view old) c.in-Inner.inner.now c.args.shape.now c.in-Inner.ensures c.requires)

pub returns-in_ok-push_both-in-Both-clause-goes : goal.returns-in_ok-push_both-in-Both-clause-goes
returns-in_ok-push_both-in-Both-clause-goes c =
    let old = c.args.self.now in
    let h = fields_of old.table.now in
    let s = search_view old in
    let r = c.in-Both.readable.now in
    let compact = c.in-Both.compact.now in
    let same : c.args.shape.now ≡ by_mode r compact = follows_both r compact c.args.shape.now c.in-Both.ensures in
    subst (λ f. Goes h (with_task (follow f) s) true (search_view c.push_both.new.self)) (sym same)
    (subst (Goes h (with_task (follow (by_mode r compact)) s) true) (sym c.in_ok-push_both-in-Both.ensures.pushed) (goes_both h s r compact (subst (λ f. Searches h (with_task (follow f) s)) same c.requires)))
