use Rattle.std.proofs.Common.{ap, sym, ◌∙◌, rules}
use Rattle.std.proofs.lemmas.List.{nil_from_length}
use Rattle.bson_rawdoc.specs.Cut.{cut_from, steps}
use Rattle.bson_rawdoc.proofs.Pieces.{cut-nil, cut_more, cut_broken}
use Rattle.bson_rawdoc.proofs.documents.RawDocumentsIterator.next.Goals as goal

pub returns-then-is_empty-clause-steps : goal.returns-then-is_empty-clause-steps
returns-then-is_empty-clause-steps c =
    let none = sym c.self.view_is ∙ ap (cut_from c.self.inside.place) (nil_from_length c.self.inside.rest.now (search rules)) ∙ cut-nil c.self.inside.place in
    (none, none)

pub returns-in_default-clause-steps : goal.returns-in_default-clause-steps
returns-in_default-clause-steps c =
    (sym c.self.view_is ∙ cut_broken c.self.inside.place c.self.inside.rest.now (search rules) (sym c.in_default.ensures), cut-nil c.self.inside.place)

pub returns-in_default-clause-goes : goal.returns-in_default-clause-goes
returns-in_default-clause-goes c =
    let broken = sym c.self.view_is ∙ cut_broken c.self.inside.place c.self.inside.rest.now (search rules) (sym c.in_default.ensures) in
    let none = cut-nil c.self.inside.place in
    let before = ap steps broken in
    let after = ap steps none in
    search rules

pub returns-clause-steps : goal.returns-clause-steps
returns-clause-steps c =
    sym c.self.view_is ∙ cut_more c.self.inside.place c.self.inside.rest.now c.in-Some.length (sym c.in-Some.ensures) ∙ search rules

pub returns-clause-goes : goal.returns-clause-goes
returns-clause-goes c =
    let step = sym c.self.view_is ∙ cut_more c.self.inside.place c.self.inside.rest.now c.in-Some.length (sym c.in-Some.ensures) in
    let fewer = ap steps step in
    search rules
