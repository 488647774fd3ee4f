-- The texts of a value that is judged without a refusal are UTF-8.
use Rattle.std.proofs.Common.{◌≡◌, Bool, true, false, cond, Option, Some, None, Ok, refl}
use Rattle.std.specs.Str.{is_utf8}
use Rattle.bson_kinds.specs.Outcome.{or_else}
use Rattle.bson_rawdoc.specs.Node as node
use Rattle.bson_rawdoc.specs.Node.{Node}
use Rattle.bson_kinds.specs.Piece.{Piece}
use Rattle.bson_faults.specs.declared.raw.Error.{Error}
use Rattle.bson_faults.specs.declared.raw.Error.TheVariants.{NotUtf8}
use Rattle.bson_laws.specs.Judged.{faultless, judged}
use Rattle.bson_kinds.proofs.Apart.{no_ok, some_no}

faulty_or : (b : Bool) (n m : Node) → faultless (cond b None (Some NotUtf8)) n ≡ Ok m → b ≡ true
faulty_or true n m e = refl
faulty_or false n m e = absurd (no_ok e)

-- a text that is judged without a refusal is UTF-8
pub judged_text : (p : Piece) (m : Node) → judged (node.string p) ≡ Ok m → is_utf8 p.bytes ≡ true
judged_text p m e = faulty_or (is_utf8 p.bytes) (node.string p) m e

pub no_fault : (o : Option Error) (n m : Node) → faultless o n ≡ Ok m → o ≡ None
no_fault None n m e = refl
no_fault (Some f) n m e = absurd (no_ok e)

pub neither_fault : (o p : Option Error) → or_else o p ≡ None → (o ≡ None) × (p ≡ None)
neither_fault None p e = (refl, e)
neither_fault (Some f) p e = absurd (some_no e)

whole_or : (b : Bool) → cond b None (Some NotUtf8) ≡ None → b ≡ true
whole_or true e = refl
whole_or false e = absurd (some_no e)

-- a text without a fault is UTF-8
pub unfaulted : (p : Piece) → node.text_fault p ≡ None → is_utf8 p.bytes ≡ true
unfaulted p e = whole_or (is_utf8 p.bytes) e
