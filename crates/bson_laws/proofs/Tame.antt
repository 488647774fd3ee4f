-- The nodes of which everything that is read can be written: the keys are texts without a zero, numbers have the size of their kinds, what stays in its bytes is
-- framed as a document, and what can be borrowed can be so of a finished tree that is seen in the same way.
use Rattle.std.proofs.Common.{◌≡◌, ◌<◌, ◌^◌, length, true, false, Option, Some, None, Ok, ap, sym, subst, ◌∙◌}
use Rattle.std.specs.Int.{w32, w64}
use Rattle.std.specs.Prelude.{FitsSigned}
use Rattle.bson_kinds.specs.Outcome.{◌>>=◌}
use Rattle.bson_kinds.specs.Text.{AreBytes, has_zero}
use Rattle.bson_kinds.proofs.Outcomes.{ok_is, bind_ok}
use Rattle.bson_kinds.specs.Piece.{Piece}
use Rattle.bson_rawdoc.specs.Node.{of_bytes, Whole, Sight, Node, string, double, bytes, binary, document, array, int32, int64, extended, too_deep, Extended, object_id, date_time, regular_expression, db_pointer, javascript_code, symbol, javascript_code_with_scope, timestamp, decimal128, Nodes, ended, faulty, then_node, fault}
use Rattle.bson_faults.specs.declared.raw.Error.{Error}
use Rattle.bson_values.specs.Cause.{Cause}
use Rattle.bson_laws.specs.Judged.{Reading, refused, with_level, faultless, judged}
use Rattle.bson_laws.specs.Taken.{owned_under_mark, document_of, array_of}
use Rattle.bson_laws.proofs.Coded.{IsName}
use Rattle.bson_laws.proofs.Framed.{IsFramed}
use Rattle.bson_kinds.proofs.Apart.{no_ok}

-- what can be borrowed of a text can be borrowed of one that is seen so, as a text and as bytes
abbrev pub IsTextSeen : Sight → Piece → Type 0
IsTextSeen at p = p.in_input ≡ true → (at.texts ≡ true) × (at.bytes ≡ true)

abbrev pub AreBytesSeen : Sight → Piece → Type 0
AreBytesSeen at p = p.in_input ≡ true → at.bytes ≡ true

-- the bytes of a document or an array are framed as such, where it is in the input
abbrev pub IsSliceFramed : Whole → Type 0
IsSliceFramed (of_bytes b) = IsFramed b
IsSliceFramed w = Unit {0}

abbrev mutual
  pub IsTame : Sight → Node → Type 0
  IsTame at (double bits) = length bits ≡ 8
  IsTame at (string t) = IsTextSeen at t
  IsTame at (int32 n) = FitsSigned w32 n
  IsTame at (int64 n) = FitsSigned w64 n
  IsTame at (bytes u b) = AreBytes b.bytes × AreBytesSeen at b × IsTextSeen at (owned_under_mark u b)
  IsTame at (document slice ns) = IsSliceFramed slice × AreTame at ns
  IsTame at (array slice ns) = IsSliceFramed slice × AreTame at ns
  IsTame at (extended x ns) = IsTameValue at x × AreTame at ns
  IsTame at n = Unit {0}

  -- the parts of an extended value
  pub IsTameValue : Sight → Extended → Type 0
  IsTameValue at (binary subtype b) = (subtype < 256) × AreBytes b.bytes
  IsTameValue at (object_id id) = (length id.bytes ≡ 12) × AreBytes id.bytes × AreBytesSeen at id
  IsTameValue at (date_time n) = FitsSigned w64 n
  IsTameValue at (regular_expression pattern options) = IsTextSeen at pattern × IsTextSeen at options × (has_zero pattern.bytes ≡ false) × (has_zero options.bytes ≡ false)
  IsTameValue at (db_pointer namespace id) = (length id ≡ 12) × AreBytes id × IsTextSeen at namespace
  IsTameValue at (javascript_code code) = IsTextSeen at code
  IsTameValue at (symbol t) = IsTextSeen at t
  IsTameValue at (javascript_code_with_scope code scope) = IsTame at scope × IsTextSeen at code
  IsTameValue at (timestamp time increment) = (time < 2 ^ 32) × (increment < 2 ^ 32)
  IsTameValue at (decimal128 b) = (length b.bytes ≡ 16) × AreBytes b.bytes
  IsTameValue at x = Unit {0}

  pub AreTame : Sight → Nodes → Type 0
  AreTame at ended = Unit {0}
  AreTame at (faulty e) = Unit {0}
  AreTame at (then_node key n ns) = IsName key.bytes × IsTame at n × AreTame at ns × IsTextSeen at key

-- ---- a judged value is the value

level_is : (n m : Node) → with_level n ≡ Ok m → n ≡ m
level_is (too_deep k) m e = absurd (no_ok e)
level_is n m e = ok_is n m e

faultless_is : (o : Option Error) (n m : Node) → faultless o n ≡ Ok m → n ≡ m
faultless_is None n m e = level_is n m e
faultless_is (Some f) n m e = absurd (no_ok e)

pub judged_is : (n m : Node) → judged n ≡ Ok m → n ≡ m
judged_is n m e = faultless_is (fault n) n m e

-- what is read from a judged value is read from the value
pub after_judged : {A : Type 0} (n : Node) (read : Node → Reading A) (x : A) → (judged n >>= read) ≡ Ok x → read n ≡ Ok x
after_judged n read x e = let j = bind_ok (judged n) read x e in subst (λ m. read m ≡ Ok x) (sym (judged_is n j.0 j.1)) j.2

-- nothing is read where every judged value is refused
pub judged_refused : {A : Type 0} (n : Node) (c : Cause) (x : A) → (judged n >>= λ _. refused c) ≡ Ok x → ⊥
judged_refused n c x e = let q = after_judged n (λ _. refused c) x e in cc

-- and what is read from the value is read from the judged one
pub judged_then : {A : Type 0} (n : Node) (read : Node → Reading A) (x : A) → (judged n >>= λ _. read n) ≡ Ok x → (judged n >>= read) ≡ Ok x
judged_then n read x e = let j = bind_ok (judged n) (λ _. read n) x e in ap (λ r. r >>= read) j.1 ∙ ap read (sym (judged_is n j.0 j.1)) ∙ j.2

-- ---- documents and arrays

pub document_tame : (at : Sight) (n : Node) (ns : Nodes) → IsTame at n → document_of n ≡ Ok ns → AreTame at ns
document_tame at (document slice ms) ns t e = subst (AreTame at) (ok_is ms ns e) t.1
document_tame at (extended x ms) ns t e = subst (AreTame at) (ok_is ms ns e) t.1
document_tame at n ns t e = absurd (no_ok e)

pub array_tame : (at : Sight) (n : Node) (ns : Nodes) → IsTame at n → array_of n ≡ Ok ns → AreTame at ns
array_tame at (array slice ms) ns t e = subst (AreTame at) (ok_is ms ns e) t.1
array_tame at n ns t e = absurd (no_ok e)
