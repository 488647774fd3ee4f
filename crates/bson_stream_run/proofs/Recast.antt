-- The answers of a stream that recasts, beside the migration of the file.
use Rattle.std.proofs.Common.{◌≡◌, ℕ, suc, Bool, true, false, List, [], ◌∷◌, ◌++◌, Result, Ok, Err, refl, ap, sym, subst, ◌∙◌}
use Rattle.std.specs.Prelude.{◌||◌, ◌≢◌, IfOk, String, string_bytes}
use Rattle.std.specs.declared.alloc.AllocError.{AllocError}
use Rattle.std.specs.declared.alloc.Global.{Global}
use Rattle.bson_kinds.specs.Text.{Bytes, Utf8}
use Rattle.bson_shape.specs.Form.{Form}
use Rattle.bson_values.specs.Refusal.{WriteFault, Failure}
use Rattle.bson_tree_recast.specs.Recast.{Recast, writes, unread, unwritten, recast_of, Unwritten, IsRefusal}
use Rattle.bson_tree_recast.specs.Printed.{write_refused, recast_error_text}
use Rattle.bson_tree_recast.specs.declared.error.RecastError.{RecastError}
use Rattle.bson_tree_recast.specs.declared.error.RecastError.TheVariants as errors
use Rattle.bson_values.specs.ErrorView.{write_failure}
use Rattle.bson_migrate_run.specs.Lines.{IsLine, AreLines}
use Rattle.bson_migrate_run.specs.Migrating.{NotRecast, listed, not_recast}
use Rattle.bson_migrate_run.specs.Migrating as migrating
use Rattle.bson_rawdoc.specs.Cut.{cut}
use Rattle.bson_program.specs.Ends.{SourceChange, SinkChange}
use Rattle.bson_streaming.specs.Streamed.{IsLast, Answered, IsStreamed}
use Rattle.bson_streaming.specs.declared.closing.Ending.{Ending}
use Rattle.bson_streaming.specs.declared.closing.Ending.TheVariants as endings
use Rattle.bson_streaming.specs.Answers as answers
use Rattle.bson_streaming.specs.Answers.{Answer, outputs, lines, lines_of, is_refused, has_refused, AreGiven}
use Rattle.bson_stream_run.specs.Recasts.{IsText, IsRecastAs, recasts}

-- whether some documents are not recast
abbrev pub is_some_list : List NotRecast → Bool
is_some_list [] = false
is_some_list (d ∷ ds) = true

bytes_same : (r : Recast) (a : Answer) → IsRecastAs r a → migrating.bytes_of r ≡ answers.bytes_of a
bytes_same r (Ok bytes) h = ap migrating.bytes_of h
bytes_same (writes b) (Err text) h = absurd h
bytes_same (unread f) (Err text) h = refl
bytes_same (unwritten e t) (Err text) h = refl

pub outputs_same : (s t : Form) (ps : List Bytes) (xs : List Answer) → AreGiven recasts s ps xs t → migrating.outputs s ps ≡ outputs xs
outputs_same s t [] [] h = refl
outputs_same s t [] (x ∷ xs) h = absurd h
outputs_same s t (p ∷ ps) [] h = absurd h
outputs_same s t (p ∷ ps) (x ∷ xs) h =
    let rest : migrating.outputs s ps ≡ outputs xs = outputs_same s t ps xs (subst (λ u. AreGiven recasts u ps xs t) h.1.1 h.2) in
    ap (λ b. b ++ migrating.outputs s ps) (bytes_same (recast_of s p) x h.1.0) ∙ ap (λ o. answers.bytes_of x ++ o) rest

same_state : (s t : Form) (ps : List Bytes) (xs : List Answer) → AreGiven recasts s ps xs t → t ≡ s
same_state s t [] [] h = h
same_state s t [] (x ∷ xs) h = absurd h
same_state s t (p ∷ ps) [] h = absurd h
same_state s t (p ∷ ps) (x ∷ xs) h = same_state h.0 t ps xs h.2 ∙ h.1.1

-- a line of the migration is one of the stream
line_same : (n : ℕ) (r : Recast) (text : Utf8) → IsText r text → IsLine n r (answers.line_of n text)
line_same n (writes b) text h = absurd h
line_same n (unread f) text h = ap (answers.line_of n) h
line_same n (unwritten e t) text h = (h.0, h.1, ap (answers.line_of n) h.2)

one_more : (n : ℕ) (r : Recast) (a : Answer) (ds : List NotRecast) (rest : Utf8) → IsRecastAs r a → AreLines ds rest → AreLines (listed n r ds) (lines_of n a ++ rest)
one_more n (writes b) (Ok bytes) ds rest h are = are
one_more n (unread f) (Ok bytes) ds rest h are = absurd cc
one_more n (unwritten e t) (Ok bytes) ds rest h are = absurd cc
one_more n (writes b) (Err text) ds rest h are = absurd h
one_more n (unread f) (Err text) ds rest h are = (answers.line_of n text, rest, line_same n (unread f) text h, refl, are)
one_more n (unwritten e t) (Err text) ds rest h are = (answers.line_of n text, rest, line_same n (unwritten e t) text h, refl, are)

pub lines_same : (s t : Form) (n : ℕ) (ps : List Bytes) (xs : List Answer) → AreGiven recasts s ps xs t → AreLines (not_recast s n ps) (lines n xs)
lines_same s t n [] [] h = refl
lines_same s t n [] (x ∷ xs) h = absurd h
lines_same s t n (p ∷ ps) [] h = absurd h
lines_same s t n (p ∷ ps) (x ∷ xs) h =
    one_more n (recast_of s p) x (not_recast s (suc n) ps) (lines (suc n) xs) h.1.0 (lines_same s t (suc n) ps xs (subst (λ u. AreGiven recasts u ps xs t) h.1.1 h.2))

refused_one : (n : ℕ) (r : Recast) (a : Answer) (ds : List NotRecast) → IsRecastAs r a → is_some_list (listed n r ds) ≡ is_refused a || is_some_list ds
refused_one n (writes b) (Ok bytes) ds h = refl
refused_one n (unread f) (Ok bytes) ds h = absurd cc
refused_one n (unwritten e t) (Ok bytes) ds h = absurd cc
refused_one n (writes b) (Err text) ds h = absurd h
refused_one n (unread f) (Err text) ds h = refl
refused_one n (unwritten e t) (Err text) ds h = refl

pub refused_same : (s t : Form) (n : ℕ) (ps : List Bytes) (xs : List Answer) → AreGiven recasts s ps xs t → is_some_list (not_recast s n ps) ≡ has_refused xs
refused_same s t n [] [] h = refl
refused_same s t n [] (x ∷ xs) h = absurd h
refused_same s t n (p ∷ ps) [] h = absurd h
refused_same s t n (p ∷ ps) (x ∷ xs) h =
    refused_one n (recast_of s p) x (not_recast s (suc n) ps) h.1.0 ∙ ap (λ b. is_refused x || b) (refused_same s t (suc n) ps xs (subst (λ u. AreGiven recasts u ps xs t) h.1.1 h.2))

unwritten_text : (r : Recast) (f : Failure WriteFault) → Unwritten r f → IsText r (write_refused f)
unwritten_text (writes b) f h = absurd h
unwritten_text (unread e) f h = absurd h
unwritten_text (unwritten e t) f h = (f, h, refl)

-- the text of an error says why nothing is written
pub refusal_text : (r : Recast) (e : RecastError) → IsRefusal r e → e ≢ errors.NoMemory → IsText r (recast_error_text e)
refusal_text r (errors.Read e) h n = subst (λ x. IsText x (recast_error_text (errors.Read e))) (sym h) refl
refusal_text r (errors.Write e) h n = unwritten_text r (write_failure e) h
refusal_text r errors.NoMemory h n = absurd (n refl)

-- the shape stays the same
module _ (s t : Form) (input : SourceChange) (out err : SinkChange) where
  again : (e : Ending) (a : Answered recasts s t input out err e) → IsLast e a.so_far s → Answered recasts s s input out err e
  again e a state = record {
    came = a.came;
    rest = a.rest;
    answers = a.answers;
    so_far = a.so_far;
    state = state;
    documents = a.documents;
    taken = a.taken;
    stops = a.stops;
    faults = a.faults;
    written = a.written;
  }

  first : (e : Ending) (a : Answered recasts s t input out err e) → s ≡ a.so_far
  first e a = sym (same_state s a.so_far (cut a.came).pieces a.answers a.documents.given)

  pub stays : (e : Ending) → IsStreamed recasts s t input out err e → IsStreamed recasts s s input out err e
  stays endings.Done a = again endings.Done a (first endings.Done a)
  stays endings.SomeRefused a = again endings.SomeRefused a (first endings.SomeRefused a)
  stays endings.Broken a = again endings.Broken a (first endings.Broken a)
  stays endings.TooLong a = again endings.TooLong a (first endings.TooLong a)
  stays endings.SourceFault a = again endings.SourceFault a (first endings.SourceFault a)
  stays endings.SinkFault c = c
  stays endings.NoMemory a = again endings.NoMemory a tt

pub told_text : (e : RecastError) (text : Utf8) → text ≡ recast_error_text e → e ≢ errors.NoMemory → (r : Recast) → IsRefusal r e → IsText r text
told_text e text is n r h = subst (IsText r) (sym is) (refusal_text r e h n)

pub each_told : (e : RecastError) (told : Result (String Global) AllocError) → IfOk told (λ t. string_bytes t ≡ recast_error_text e) → e ≢ errors.NoMemory → IfOk told (λ t. (r : Recast) → IsRefusal r e → IsText r (string_bytes t))
each_told e (Ok text) is n = told_text e (string_bytes text) is n
each_told e (Err x) is n = is
