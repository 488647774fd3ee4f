use Rattle.std.proofs.Common.{◌≡◌, ◌++◌, ◌∷◌, [], ◌∙◌, sym, ap, arith, length}
use Rattle.bson_infer_run.specs.Counted.{put}
use Rattle.bson_infer_run.specs.SummaryView.{counted}
use Rattle.bson_infer_run.proofs.Puts.{knows}
use Rattle.bson_infer_run.proofs.Places.{at_less, at_end, knows_none, counted_push, put_opened, even_push}
use Rattle.bson_infer_run.proofs.summary.StructSummary.place_in_index.Goals as goal

pub returns-in-Some-clause-within : goal.returns-in-Some-clause-within
returns-in-Some-clause-within c = omega (arith, at_less c.args.name.now c.args.self.now.names c.in-Some.place c.in-Some.ensures, c.requires)

pub returns-clause-even : goal.returns-clause-even
returns-clause-even c =
    rw (c.in_ok-push.ensures.items, c.in_ok-self.ensures, c.replace-names.ensures.value) (even_push c.args.self.now.names c.args.self.now.fields.items c.args.name.now c.new.result c.requires)

pub returns-clause-place : goal.returns-clause-place
returns-clause-place c =
    let name = c.args.name.now in
    let ks = c.args.self.now.names in
    let last : c.len-place.result ≡ length ks = omega (arith, c.len-place.ensures, c.requires) in
    rw (c.in_ok-self.ensures, c.replace-names.ensures.value, last) (at_end name ks c.in_default.ensures)

pub returns-clause-puts : goal.returns-clause-puts
returns-clause-puts c = λ g e.
    let name = c.args.name.now in
    let ks = c.args.self.now.names in
    let fs = c.args.self.now.fields.items in
    rw (c.in_ok-push.ensures.items, c.in_ok-self.ensures, c.replace-names.ensures.value)
    (ap (put g) (counted_push ks fs name c.new.result c.requires)
    ∙ put_opened g _ _ (sym e) c.new.ensures.count c.new.ensures.summary (ap (knows (counted ks fs)) e ∙ knows_none name ks fs c.in_default.ensures))
