use Rattle.std.proofs.Common.{Some, ap, sym, subst, ◌∙◌}
use Rattle.std.specs.Str.{IsUtf8}
use Rattle.std.proofs.lemmas.Str.{IsUtf8-from_is_utf8}
use Rattle.bson_rawdoc.proofs.Cuts.{cut_places}
use Rattle.bson_rawdoc.proofs.Keys.{key_open, key_bad}
use Rattle.bson_rawdoc.proofs.utf8.key_len_beyond_ascii.Goals as goal

pub returns-in_default-clause-fault : goal.returns-in_default-clause-fault
returns-in_default-clause-fault c = λ kind. key_open kind c.args.bytes.now (sym c.in_default.ensures.cut)

pub returns-then-not-is_utf8_of_any_length-clause-fault : goal.returns-then-not-is_utf8_of_any_length-clause-fault
returns-then-not-is_utf8_of_any_length-clause-fault c = λ kind. key_bad kind c.args.bytes.now c.in-Some.key.now c.in-Some.field-0-1.now c.in-Some.ensures.cut (sym c.if-not-is_utf8_of_any_length.ensures)

pub returns-clause-cut : goal.returns-clause-cut
returns-clause-cut c =
    let cut = sym c.in-Some.ensures.cut in
    cut ∙ ap Some (cut_places c.args.bytes.now (c.in-Some.key.now, c.in-Some.field-0-1.now) cut)

pub returns-clause-utf8 : goal.returns-clause-utf8
returns-clause-utf8 c =
    let cut = sym c.in-Some.ensures.cut in
    subst IsUtf8 (ap (λ p. p.0) (cut_places c.args.bytes.now (c.in-Some.key.now, c.in-Some.field-0-1.now) cut)) (IsUtf8-from_is_utf8 c.in-Some.key.now (sym c.if-not-is_utf8_of_any_length.ensures))
