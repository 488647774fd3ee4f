-- A recast by way of trees gives what a recast without them gives.
use Rattle.std.proofs.Common.{◌≡◌, ◌≤◌, ℕ, length, Bool, true, false, cond, Option, Some, None, Result, Ok, Err, refl, ap, sym, subst, ◌∙◌, arith}
use Rattle.std.specs.Prelude.{nat_lt}
use Rattle.std.specs.Global.{Vec}
use Rattle.std.proofs.lemmas.Bool.{le-ltb, ltb-false}
use Rattle.bson_base.specs.Encoded.{EncodeFault, too_long, encode_fault, pairs_encode_fault, within_limit, encoded}
use Rattle.bson_kinds.specs.Outcome.{◌>>=◌}
use Rattle.bson_base.specs.Sound.{IsDocument, max_bytes}
use Rattle.bson_kinds.specs.Text.{Bytes, AreBytes}
use Rattle.bson_base.specs.Tree.{Tree, document, Pairs, enc}
use Rattle.bson_kinds.proofs.Outcomes.{ok_is, bind_ok}
use Rattle.bson_rawdoc.specs.DocumentTree.{document_pairs}
use Rattle.bson_rawdoc.specs.Envelope.{envelope}
use Rattle.bson_shape.specs.Form.{Form}
use Rattle.bson_shape.specs.Makers.{IsShape}
use Rattle.bson_values.specs.ErrorView.{read_failure, write_failure}
use Rattle.bson_values.specs.Value.{Value}
use Rattle.bson_laws.specs.Judged.{Reading}
use Rattle.bson_laws.specs.Reads.{reads_document}
use Rattle.bson_laws.specs.ReadsFrom.{answered_bare, reads_tree_value}
use Rattle.bson_laws.specs.Spell.{Writing, spell_document}
use Rattle.bson_laws.proofs.Framed.{frame}
use Rattle.bson_laws.proofs.ReadAgain.{document_size}
use Rattle.bson_tree_laws.specs.TreeSpell.{tree_whole}
use Rattle.bson_ser_tree.specs.Answers.{without_paths, only_document, document_whole}
use Rattle.bson_ways_laws.specs.Simple.{IsSimple}
use Rattle.bson_ways_laws.specs.Ways.{SuitsBothWays, HasFreeInput}
use Rattle.bson_ways_laws.proofs.Simple.{enveloped, taken_forth, taken_back}
use Rattle.bson_ways_laws.proofs.TwoWays.{ways_agree}
use Rattle.bson_tree_recast.specs.ByTree.{or_ends, unread_for, unencoded_for, document_step, value_step, made_step, bytes_step, tree_recast_of}
use Rattle.bson_tree_recast.specs.Recast.{writes, unread, recast_of, Unwritten, IsRecast, Ending, in_reading, in_writing, ended}
use Rattle.bson_tree_recast.specs.Ways.{HasCommonRecast, HasDocument, GivesSame, TakesSame}
use Rattle.bson_tree_recast.specs.declared.error.RecastError.{RecastError}
use Rattle.bson_tree_recast.specs.declared.error.RecastError.TheVariants as errors
use Rattle.bson_tree_recast.proofs.Written.{recast_as, written_as}

-- ---- what a recast that gives bytes went through

pub ends_ok : {A E : Type 0} (ends : E → Ending) (r : Result A E) (x : A) → or_ends ends r ≡ Ok x → r ≡ Ok x
ends_ok ends (Ok y) x e = ap Ok (ok_is y x e)
ends_ok ends (Err f) x e = absurd cc

ended_ok : (r : Result Bytes Ending) (out : Bytes) → ended r ≡ writes out → r ≡ Ok out
ended_ok (Ok bytes) out e = let same : bytes ≡ out = cc in ap Ok same
ended_ok (Err (in_reading f)) out e = absurd cc
ended_ok (Err (in_writing f)) out e = absurd cc

pub bare_ok : {A : Type 0} (r : Reading A) (x : A) → answered_bare r ≡ Ok x → r ≡ Ok x
bare_ok (Ok y) x e = ap Ok (ok_is y x e)
bare_ok (Err f) x e = absurd cc

pathless_ok : {A : Type 0} (r : Writing A) (x : A) → without_paths r ≡ Ok x → r ≡ Ok x
pathless_ok (Ok y) x e = ap Ok (ok_is y x e)
pathless_ok (Err f) x e = absurd cc

only_ok : (t : Tree) (ps : Pairs) → only_document t ≡ Ok ps → t ≡ document ps
only_ok (document qs) ps e = ap document (ok_is qs ps e)
only_ok t ps e = absurd cc

-- bytes that are given have no fault, and are few enough
record AreGiven (o : Option EncodeFault) (bytes out : Bytes) : Type 0 where
  pub none : o ≡ None
  pub fits : length bytes ≤ max_bytes
  pub same : bytes ≡ out

limit_ok : (o : Option EncodeFault) (bytes out : Bytes) → within_limit o bytes ≡ Ok out → AreGiven o bytes out
limit_ok (Some f) bytes out e = absurd cc
limit_ok None bytes out e = by_case (nat_lt max_bytes (length bytes)) refl e where
  by_case : (b : Bool) → nat_lt max_bytes (length bytes) ≡ b → cond b (Err too_long) (Ok bytes) ≡ Ok out → AreGiven None bytes out
  by_case true is h = absurd cc
  by_case false is h = record { none = refl; fits = ltb-false _ _ is; same = ok_is bytes out h }

-- the steps of a recast by way of trees that gives bytes
record WentThrough (s : Form) (bytes out : Bytes) : Type 0 where
  pub pairs : Pairs
  pub value : Value
  pub made : Pairs
  pub framed : envelope bytes ≡ Ok bytes
  pub held : document_pairs bytes ≡ Ok pairs
  pub read : reads_tree_value false s (document pairs) ≡ Ok value
  pub whole : tree_whole false value ≡ Ok (document made)
  pub given : AreGiven (pairs_encode_fault made) (enc (document made)) out

went : (s : Form) (bytes out : Bytes) → tree_recast_of s bytes ≡ writes out → WentThrough s bytes out
went s bytes out e =
    let after_value = λ (v : Value). (made_step v >>= bytes_step) in
    let after_document = λ (ps : Pairs). (value_step s ps >>= after_value) in
    let d = bind_ok (document_step bytes) after_document out (ended_ok (document_step bytes >>= after_document) out e) in
    let v = bind_ok (value_step s d.0) after_value out d.2 in
    let m = bind_ok (made_step v.0) bytes_step out v.2 in
    let b = bind_ok (envelope bytes) document_pairs d.0 (ends_ok unread_for (envelope bytes >>= document_pairs) d.0 d.1) in
    let same = (frame bytes b.0 b.1).0 in
    let w = bind_ok (tree_whole false v.0) only_document m.0 (pathless_ok (document_whole false v.0) m.0 (ends_ok in_writing (without_paths (document_whole false v.0)) m.0 m.1)) in
    record {
      pairs = d.0;
      value = v.0;
      made = m.0;
      framed = b.1 ∙ ap Ok (sym same);
      held = ap document_pairs same ∙ b.2;
      read = bare_ok (reads_tree_value false s (document d.0)) v.0 (ends_ok in_reading (answered_bare (reads_tree_value false s (document d.0))) v.0 v.1);
      whole = w.1 ∙ ap Ok (only_ok w.0 m.0 w.2);
      given = limit_ok (pairs_encode_fault m.0) (enc (document m.0)) out (ends_ok unencoded_for (encoded m.0) out m.2);
    }

-- ---- the same bytes, where any are given

-- what is read and spelled as the document that the other way makes is recast as its bytes
same_recast : (s : Form) (bytes out : Bytes) (w : WentThrough s bytes out) (d : Value) → reads_document s bytes ≡ Ok d → spell_document d ≡ Ok (document w.made) → recast_of s bytes ≡ writes out
same_recast s bytes out w d e q = recast_as (reads_document s) bytes d (document w.made) e q w.given.fits ∙ ap writes w.given.same

pub gives_same : (s : Form) (bytes : Bytes) → IsShape s → AreBytes bytes → SuitsBothWays s → HasFreeInput bytes → HasCommonRecast s bytes → (r : Result (Vec ℕ) RecastError) → IsRecast (tree_recast_of s bytes) r → GivesSame (recast_of s bytes) r
gives_same s bytes shape are suits free c (Ok v) h =
    let w = went s bytes v.items h in
    let same : c.tree ≡ document w.made = ok_is c.tree (document w.made) (sym (ways_agree s bytes w.pairs c.value w.value c.tree shape suits are free w.held c.read c.spelled c.common w.read) ∙ w.whole) in
    same_recast s bytes v.items w c.value c.read (c.spelled ∙ ap Ok same)
gives_same s bytes shape are suits free c (Err e) h = tt

-- ---- at simple shapes

-- a document is its pairs
pairs_in : (u : Tree) → IsDocument u → (ps : Pairs) × (u ≡ document ps)
pairs_in (document ps) d = (ps, refl)
pairs_in u d = absurd d

within_ok : (o : Option EncodeFault) (bytes : Bytes) → o ≡ None → length bytes ≤ max_bytes → within_limit o bytes ≡ Ok bytes
within_ok (Some f) bytes e fits = absurd cc
within_ok None bytes e fits = ap (λ b. cond b (Err too_long) (Ok bytes)) (le-ltb _ _ fits)

-- what the other way gives is given by way of trees
given_by_tree : (s : Form) (bytes out : Bytes) → IsShape s → AreBytes bytes → IsSimple s → HasFreeInput bytes → HasDocument bytes → recast_of s bytes ≡ writes out → tree_recast_of s bytes ≡ writes out
given_by_tree s bytes out shape are simple free doc e =
    let w = written_as (reads_document s) bytes out (reads_document s bytes) refl e in
    let b = enveloped s bytes w.value w.is_read in
    let f = taken_forth s bytes doc.pairs w.value w.tree shape simple are free doc.is w.is_read w.spelled in
    let p = pairs_in w.tree f.3 in
    let framed : (envelope bytes >>= document_pairs) ≡ Ok doc.pairs = ap (λ r. r >>= document_pairs) b.1 ∙ ap document_pairs (sym (frame bytes b.0 b.1).0) ∙ doc.is in
    let whole : document_whole false f.0 ≡ Ok p.0 = ap (λ r. r >>= only_document) (f.2 ∙ ap Ok p.1) in
    let fits : length (enc (document p.0)) ≤ max_bytes = subst (λ t. length (enc t) ≤ max_bytes) p.1 (omega (arith, w.fits, document_size w.value w.tree w.spelled)) in
    let bytes_are : encoded p.0 ≡ Ok (enc (document p.0)) = within_ok (pairs_encode_fault p.0) (enc (document p.0)) (sym (ap encode_fault p.1) ∙ f.4) fits in
    ap (λ r. ended (r >>= λ ps. value_step s ps >>= λ v. made_step v >>= bytes_step)) (ap (or_ends unread_for) framed)
    ∙ ap (λ r. ended (or_ends in_reading (answered_bare r) >>= λ v. made_step v >>= bytes_step)) f.1
    ∙ ap (λ r. ended (or_ends in_writing (without_paths r) >>= bytes_step)) whole
    ∙ ap (λ r. ended (or_ends unencoded_for r)) bytes_are
    ∙ ap writes (ap enc (sym p.1) ∙ sym w.is)

pub takes_same : (s : Form) (bytes : Bytes) → IsShape s → AreBytes bytes → IsSimple s → HasFreeInput bytes → HasDocument bytes → (r : Result (Vec ℕ) RecastError) → IsRecast (tree_recast_of s bytes) r → TakesSame (recast_of s bytes) r
takes_same s bytes shape are simple free doc (Ok v) h =
    let w = went s bytes v.items h in
    let d = taken_back s bytes w.pairs w.value (document w.made) shape simple are w.framed free w.held w.read w.whole tt w.given.none in
    same_recast s bytes v.items w d.0 d.1 d.2
takes_same s bytes shape are simple free doc (Err (errors.Read e)) h =
    λ out q. let both : unread (read_failure e) ≡ writes out = sym h ∙ given_by_tree s bytes out shape are simple free doc q in absurd cc
takes_same s bytes shape are simple free doc (Err (errors.Write e)) h = λ out q. subst (λ r. Unwritten r (write_failure e)) (given_by_tree s bytes out shape are simple free doc q) h
takes_same s bytes shape are simple free doc (Err errors.NoMemory) h = tt
