use Rattle.std.proofs.Common.{take, arith}
use Rattle.std.proofs.lemmas.Str.{IsUtf8-from_ascii}
use Rattle.bson_rawdoc.proofs.Cuts.{cut_found, cut_none, ascii_front}
use Rattle.bson_rawdoc.proofs.Keys.{key_open}
use Rattle.bson_rawdoc.proofs.utf8.key_len.Goals as goal

pub returns-then-b-eq0-clause-cut : goal.returns-then-b-eq0-clause-cut
returns-then-b-eq0-clause-cut c = cut_found c.args.bytes.now c.loop-i.i c.loop-i-test.true (λ k lt. (c.loop-i.invariant k lt).0) c.if-b-eq0.true

pub returns-then-b-eq0-clause-utf8 : goal.returns-then-b-eq0-clause-utf8
returns-then-b-eq0-clause-utf8 c = IsUtf8-from_ascii (take c.loop-i.i c.args.bytes.now) (ascii_front c.args.bytes.now c.loop-i.i (λ k lt. (c.loop-i.invariant k lt).1))

pub returns-clause-fault : goal.returns-clause-fault
returns-clause-fault c = λ kind. key_open kind c.args.bytes.now (cut_none c.args.bytes.now (λ k lt. (c.loop-i.invariant k (omega arith)).0))
