-- A recast by way of trees is refused for no number.
use Rattle.std.proofs.Common.{◌≡◌, ℕ, false, Result, Ok, Err, refl, ap, sym, subst, ◌∙◌, inl, inr}
use Rattle.std.specs.Global.{Vec}
use Rattle.bson_base.specs.Encoded.{EncodeFault, key_zero, binary_too_long, too_long, encoded}
use Rattle.bson_base.specs.Tree.{Tree, document, Pairs}
use Rattle.bson_faults.specs.declared.raw.Error.{Error}
use Rattle.bson_kinds.specs.Outcome.{◌>>=◌}
use Rattle.bson_kinds.specs.Text.{Bytes, AreBytes}
use Rattle.bson_kinds.proofs.Apart.{false_no}
use Rattle.bson_kinds.proofs.Outcomes.{bind_ok}
use Rattle.bson_rawdoc.specs.DocumentTree.{document_pairs}
use Rattle.bson_rawdoc.specs.Envelope.{envelope}
use Rattle.bson_shape.specs.Form.{Form}
use Rattle.bson_values.specs.ErrorView.{write_failure}
use Rattle.bson_values.specs.Refusal.{ReadFault, WriteFault, Failure}
use Rattle.bson_values.specs.Value.{Value}
use Rattle.bson_laws.specs.ReadsFrom.{answered_bare, reads_tree_value}
use Rattle.bson_laws.specs.Spell.{Writing, HoldsNumbers, IsNumber}
use Rattle.bson_laws.proofs.Framed.{frame}
use Rattle.bson_tree_laws.specs.TreeSpell.{tree_whole}
use Rattle.bson_number_laws.proofs.Documents.{document_numbers}
use Rattle.bson_number_laws.proofs.Numbers.{bound}
use Rattle.bson_ser_tree.specs.Answers.{without_paths, only_document, document_whole}
use Rattle.bson_tree_recast.specs.ByTree.{encode_refusal, or_ends, unread_for, unencoded_for, document_step, value_step, made_step, bytes_step, tree_recast_of}
use Rattle.bson_tree_recast.specs.Recast.{Unwritten, IfUnwritten, IsForNoNumber, IsRecast, Ending, in_reading, in_writing, ended}
use Rattle.bson_tree_recast.specs.declared.error.RecastError.{RecastError}
use Rattle.bson_tree_recast.specs.declared.error.RecastError.TheVariants as errors
use Rattle.bson_tree_recast.proofs.Ways.{ends_ok, bare_ok}

-- where a step ends the recast in writing, it is for no number
abbrev EndsForNone : {A : Type 0} → Result A Ending → Type 0
EndsForNone (Ok x) = Unit {0}
EndsForNone (Err (in_reading f)) = Unit {0}
EndsForNone (Err (in_writing f)) = IsForNoNumber f

then_ends : {A B : Type 0} (r : Result A Ending) (next : A → Result B Ending) → EndsForNone r → ((x : A) → r ≡ Ok x → EndsForNone (next x)) → EndsForNone (r >>= next)
then_ends (Ok x) next h rest = rest x refl
then_ends (Err e) next h rest = h

-- ---- each step

document_ends : {A : Type 0} (r : Result A Error) → EndsForNone (or_ends unread_for r)
document_ends (Ok x) = tt
document_ends (Err e) = tt

value_ends : {A : Type 0} (r : Result A (Failure ReadFault)) → EndsForNone (or_ends in_reading r)
value_ends (Ok x) = tt
value_ends (Err f) = tt

made_ends : {A : Type 0} (w : Writing A) → HoldsNumbers w → EndsForNone (or_ends in_writing (without_paths w))
made_ends (Ok x) h = tt
made_ends (Err r) h = h

only_holds : (t : Tree) → HoldsNumbers (only_document t)
only_holds (document ps) = tt
only_holds t = λ e. e

encoded_for_none : (f : EncodeFault) → IsNumber (encode_refusal f) → ⊥
encoded_for_none (key_zero t) n = n
encoded_for_none (binary_too_long k) n = n
encoded_for_none too_long n = n

bytes_ends : {A : Type 0} (r : Result A EncodeFault) → EndsForNone (or_ends unencoded_for r)
bytes_ends (Ok x) = tt
bytes_ends (Err f) = encoded_for_none f

-- ---- all steps

-- what was read from the document of the bytes is made into one, or refused for no number
read_made : (s : Form) (bytes : Bytes) (ps : Pairs) (v : Value) → AreBytes bytes → document_step bytes ≡ Ok ps → value_step s ps ≡ Ok v → EndsForNone (made_step v)
read_made s bytes ps v are held read =
    let b = bind_ok (envelope bytes) document_pairs ps (ends_ok unread_for (envelope bytes >>= document_pairs) ps held) in
    let same = (frame bytes b.0 b.1).0 in
    let value_is = bare_ok (reads_tree_value false s (document ps)) v (ends_ok in_reading (answered_bare (reads_tree_value false s (document ps))) v read) in
    made_ends (document_whole false v)
    (bound (tree_whole false v) only_document (document_numbers false false s bytes ps v are (b.1 ∙ ap Ok (sym same)) (ap document_pairs same ∙ b.2) value_is) only_holds)

all_end : (s : Form) (bytes : Bytes) → AreBytes bytes → EndsForNone (document_step bytes >>= λ ps. value_step s ps >>= λ v. made_step v >>= bytes_step)
all_end s bytes are =
    then_ends (document_step bytes) _ (document_ends (envelope bytes >>= document_pairs))
    (λ ps held. then_ends (value_step s ps) _ (value_ends (answered_bare (reads_tree_value false s (document ps))))
    (λ v read. then_ends (made_step v) bytes_step (read_made s bytes ps v are held read) (λ qs made. bytes_ends (encoded qs))))

unwritten_for_none : (r : Result Bytes Ending) (f : Failure WriteFault) → EndsForNone r → Unwritten (ended r) f → IsForNoNumber f
unwritten_for_none (Ok bytes) f h u = absurd u
unwritten_for_none (Err (in_reading e)) f h u = absurd u
unwritten_for_none (Err (in_writing e)) f h (inl is) = subst IsForNoNumber (sym is) h
unwritten_for_none (Err (in_writing e)) f h (inr long) = absurd (false_no long.0)

pub for_no_number : (s : Form) (bytes : Bytes) → AreBytes bytes → (r : Result (Vec ℕ) RecastError) → IsRecast (tree_recast_of s bytes) r → IfUnwritten IsForNoNumber r
for_no_number s bytes are (Ok v) h = tt
for_no_number s bytes are (Err (errors.Read e)) h = tt
for_no_number s bytes are (Err (errors.Write e)) h =
    unwritten_for_none (document_step bytes >>= λ ps. value_step s ps >>= λ v. made_step v >>= bytes_step) (write_failure e) (all_end s bytes are) h
for_no_number s bytes are (Err errors.NoMemory) h = tt
