-- A document in its bytes that adds nothing to a form.
use Rattle.std.proofs.Common.{◌≡◌, ℕ, zero, suc, ◌+◌, ◌<◌, ◌≤◌, Bool, true, false, cond, List, [], ◌∷◌, length, get_or, drop, Option, Some, None, Result, Ok, Err, is_some, ◌-◌, nat_lt, inr, refl, ap, sym, subst, ◌∙◌, string_bytes, arith, add-one}
use Rattle.std.specs.Prelude.{◌||◌}
use Rattle.std.specs.Str.{bytes_eq}
use Rattle.std.proofs.lemmas.List.{length-append}
use Rattle.bson_kinds.specs.Outcome.{◌>>=◌, result_map}
use Rattle.bson_base.specs.Pairs.{put}
use Rattle.bson_base.specs.Sound.{IsClean, ArePairsClean, Lacks, max_bytes}
use Rattle.bson_kinds.specs.Text.{Bytes, Utf8, IsPlainName}
use Rattle.bson_base.specs.Tree.{Tree, document, Pairs, no_pairs, pair, kind, enc, elements, element, depth, pairs_depth}
use Rattle.bson_base.proofs.Lengths.{length-document}
use Rattle.bson_laws.proofs.Fitted.{bytes_eq-refl, unlike_swap}
use Rattle.bson_rawdoc.specs.DocumentTree.{pairs_with, pairs_at, tree_at}
use Rattle.bson_rawdoc.specs.RawValue as raw
use Rattle.bson_rawdoc.specs.RawValue.{RawValue}
use Rattle.bson_rawdoc.specs.ValueView.{raw_value}
use Rattle.bson_rawdoc.specs.Walk.{Element, Walk, ended, then_walk, walk}
use Rattle.bson_faults.specs.declared.raw.Error.{Error}
use Rattle.bson_rawdoc.specs.declared.value.RawBsonRef.{RawBsonRef}
use Rattle.bson_shape.specs.Form.{Form, leaf, optional, Fields, no_fields, field}
use Rattle.bson_shape.specs.declared.leaf.Leaf.{Leaf}
use Rattle.bson_infer_laws.specs.Above.{Above, FieldsAbove, FieldAbove, NamedIn, IsJoined, AreJoined}
use Rattle.bson_infer_laws.specs.Inferred.{shape_of, pair_shapes}
use Rattle.bson_infer_laws.specs.Join.{opt, within}
use Rattle.bson_laws.specs.Named.{form_of, has}
use Rattle.bson_infer_laws.proofs.Above.{or_left, or_right, bare_above, name_is, absorbs}
use Rattle.bson_infer_run.specs.Counted.{opt_if, settled}
use Rattle.bson_infer_run.specs.Covered.{IsPlain, Has, Takes, element_tree, fields_from, IsCovered}
use Rattle.bson_infer_run.specs.Fits.{Fits}
use Rattle.bson_infer_run.specs.SummaryView.{counted, counted_field, struct_form, kind_form, summary_form, IsAt, IsEven, IsKind, IsKnown, IsSummary}
use Rattle.bson_infer_run.specs.declared.summary.FieldSummary.{FieldSummary}
use Rattle.bson_infer_run.specs.declared.summary.Kind.{Kind}
use Rattle.bson_infer_run.specs.declared.summary.Kind.TheVariants as kinds
use Rattle.bson_infer_run.specs.declared.summary.StructSummary.{StructSummary}
use Rattle.bson_infer_run.proofs.Places.{at_less, drop_all}
use Rattle.bson_infer_run.proofs.SoundTests.{sound_decided}

-- ---- one value

pub plain_at : (x : Leaf × ℕ) (v w : RawBsonRef) → v ≡ w → IsPlain (Some x) (tree_at 0 (raw_value w)) → IsPlain (Some x) (tree_at 0 (raw_value v))
plain_at x v w e h = subst (λ u. IsPlain (Some x) (tree_at 0 (raw_value u))) (sym e) h

above_leaf : (n : Bool) (l m : Leaf) → within m l ≡ true → Above (summary_form n (kinds.Leaf l)) (leaf m)
above_leaf true l m w = inr w
above_leaf false l m w = w

pub has_plain : (n : Bool) (k : Kind) (l m : Leaf) (size : ℕ) (r : Result Tree Error) → k ≡ kinds.Leaf l → within m l ≡ true → IsPlain (Some (m, size)) r → Has 0 (summary_form n k) (Some size) r
has_plain n k l m size (Ok t) is w h =
    (h.0, h.1, subst (λ f. Above (summary_form n k) f) (sym h.2) (subst (λ j. Above (summary_form n j) (leaf m)) (sym is) (above_leaf n l m w)))
has_plain n k l m size (Err e) is w h = absurd h

fits_up : (levels : ℕ) (t : Tree) → Fits 0 t → Fits levels t
fits_up levels t f = record { clean = f.clean; nests = omega (arith, f.nests); small = f.small }

-- a value without inner values, at any level
pub has_any : (levels : ℕ) (s : Form) (o : Option ℕ) (v : RawValue) → Has 0 s o (tree_at 0 v) → Has levels s o (tree_at levels v)
has_any levels s None v h = tt
has_any levels s (Some n) (raw.document b) h = absurd h
has_any levels s (Some n) (raw.array b) h = absurd h
has_any levels s (Some n) (raw.javascript_code_with_scope code scope) h = absurd h
has_any levels s (Some n) v h = (fits_up levels _ h.0, h.1, h.2)

-- what is true of a summary is true of its kind
pub inner_known : (n : Bool) (k : Kind) → IsSummary n k → IsKind k × IsJoined (kind_form k)
inner_known true k h = (h.0, h.1.2)
inner_known false k h = h

-- ---- one element

opt_up : (s b : Form) → Above s b → Above (opt s) b
opt_up (optional s) b e = e
opt_up s b e = bare_above s b e

opt_if_up : (c : Bool) (s b : Form) → Above s b → Above (opt_if c s) b
opt_if_up true s b e = opt_up s b e
opt_if_up false s b e = e

from_at : (ks : List Utf8) (fs : List FieldSummary) (key : Utf8) (i : ℕ) (f : FieldSummary) → IsAt ks key i → i < length fs → f ≡ get_or fs i f
    → drop i (counted ks fs) ≡ counted_field key f ∷ drop (suc i) (counted ks fs)
from_at [] fs key i f h lt is = absurd h
from_at (k ∷ ks) [] key i f h lt is = absurd (omega (arith, lt))
from_at (k ∷ ks) (g ∷ fs) key zero f h lt is = λ i. counted_field (sym (name_is key k h) i) (sym is i) ∷ counted ks fs
from_at (k ∷ ks) (g ∷ fs) key (suc i) f h lt is = from_at ks fs key i f h.1 (omega (arith, lt)) is

fields_at : (s : StructSummary) (key : Utf8) (i : ℕ) (f : FieldSummary) → IsEven s → IsAt s.names key i → f ≡ get_or s.fields.items i f
    → fields_from s i ≡ field key (opt_if (nat_lt f.count s.count) f.summary) (fields_from s (i + 1))
fields_at s key i f even at is =
    ap (settled s.count) (from_at s.names s.fields.items key i f at (omega (arith, even, at_less key s.names i at)) is)
    ∙ ap (λ j. field key (opt_if (nat_lt f.count s.count) f.summary) (settled s.count (drop j (counted s.names s.fields.items)))) (sym (add-one i))

pub takes_next : (levels : ℕ) (s : StructSummary) (key : Utf8) (i n v : ℕ) (f : FieldSummary) (r : Result Tree Error) → IsEven s → IsAt s.names key i → f ≡ get_or s.fields.items i f → IsPlainName key → n ≡ length key + 2
    → Has levels f.summary (Some v) r → Takes levels (fields_from s i) (fields_from s (i + 1)) key (Some (n + v)) r
takes_next levels s key i n v f (Ok t) even at is name size h =
    record {
      form = opt_if (nat_lt f.count s.count) f.summary;
      first = fields_at s key i f even at is;
      name = name;
      fits = h.0;
      size = omega (arith, size, h.1);
      above = opt_if_up (nat_lt f.count s.count) f.summary (shape_of t) h.2;
    }
takes_next levels s key i n v f (Err e) even at is name size h = absurd h

-- ---- the elements so far

-- the pairs have the values of the first fields, and these are left
abbrev pub Meets : Fields → Pairs → Fields → Type 0
Meets fs no_pairs rest = fs ≡ rest
Meets no_fields (pair k t ps) rest = ⊥
Meets (field n x fs) (pair k t ps) rest = (n ≡ k) × Above x (shape_of t) × Meets fs ps rest

-- These pairs were gone over, and the others are left.
pub record IsPartOf (s : StructSummary) (levels place total : ℕ) (w : Walk) (all : Result Pairs Error) : Type 0 where
  pub done : Pairs
  pub way : pairs_with (tree_at levels) done w ≡ all
  pub clean : ArePairsClean done
  pub flat : pairs_depth done ≤ levels
  pub size : length (elements done) ≡ total
  pub small : total ≤ max_bytes
  pub met : Meets (fields_from s 0) done (fields_from s place)

abbrev after : Utf8 → Tree → Pairs → Pairs
after k t no_pairs = pair k t no_pairs
after k t (pair j u ps) = pair j u (after k t ps)

put_after : (k : Utf8) (t : Tree) (ps : Pairs) → Lacks k ps → put k t ps ≡ after k t ps
put_after k t no_pairs l = refl
put_after k t (pair j u ps) l = ap (λ c. cond c (pair j t ps) (pair j u (put k t ps))) l.0 ∙ ap (pair j u) (put_after k t ps l.1)

lacks_after : (j k : Utf8) (t : Tree) (ps : Pairs) → bytes_eq j k ≡ false → Lacks j ps → Lacks j (after k t ps)
lacks_after j k t no_pairs e l = (e, tt)
lacks_after j k t (pair i u ps) e l = (l.0, lacks_after j k t ps e l.1)

clean_after : (k : Utf8) (t : Tree) (ps : Pairs) → Lacks k ps → IsPlainName k → IsClean t → ArePairsClean ps → ArePairsClean (after k t ps)
clean_after k t no_pairs l n c h = (n, tt, c, tt)
clean_after k t (pair j u ps) l n c h = (h.0, lacks_after j k t ps (unlike_swap k j l.0) h.1, h.2, clean_after k t ps l.1 n c h.3)

flat_after : (levels : ℕ) (k : Utf8) (t : Tree) (ps : Pairs) → depth t ≤ levels → pairs_depth ps ≤ levels → pairs_depth (after k t ps) ≤ levels
flat_after levels k t no_pairs d e = omega (arith, d)
flat_after levels k t (pair j u ps) d e = omega (arith, e, flat_after levels k t ps d (omega (arith, e)))

size_one : (k : Utf8) (t : Tree) (ps : Pairs) → length (elements (pair k t ps)) ≡ length k + 2 + length (enc t) + length (elements ps)
size_one k t ps = omega (arith, length-append (element (kind t) k (enc t)) (elements ps), length-append k (0 ∷ enc t))

size_after : (k : Utf8) (t : Tree) (ps : Pairs) → length (elements (after k t ps)) ≡ length (elements ps) + (length k + 2 + length (enc t))
size_after k t no_pairs = omega (arith, size_one k t no_pairs)
size_after k t (pair j u ps) = omega (arith, size_one j u ps, size_one j u (after k t ps), size_after k t ps)

met_after : (fs : Fields) (ps : Pairs) (k : Utf8) (t : Tree) (x : Form) (rest : Fields) → Above x (shape_of t) → Meets fs ps (field k x rest) → Meets fs (after k t ps) rest
met_after fs no_pairs k t x rest a m = subst (λ g. Meets g (pair k t no_pairs) rest) (sym m) (refl, a, refl)
met_after no_fields (pair j u ps) k t x rest a m = absurd m
met_after (field n y fs) (pair j u ps) k t x rest a m = (m.0, m.1, met_after fs ps k t x rest a m.2)

is_false : (b : Bool) → (b ≡ true → ⊥) → b ≡ false
is_false true h = absurd (h refl)
is_false false h = refl

clash : (b : Bool) → b ≡ true → b ≡ false → ⊥
clash b e f = let both : true ≡ false = sym e ∙ f in cc

-- the key of the next field is new
new_key : (fs : Fields) (ps : Pairs) (k : Utf8) (x : Form) (rest : Fields) → AreJoined fs → Meets fs ps (field k x rest) → Lacks k ps × (has fs k ≡ true)
new_key fs no_pairs k x rest p m = (tt, subst (λ g. has g k ≡ true) (sym m) (or_left (bytes_eq k k) (has rest k) (bytes_eq-refl k)))
new_key no_fields (pair j t ps) k x rest p m = absurd m
new_key (field n y fs) (pair j t ps) k x rest p m =
    let r = new_key fs ps k x rest p.3 m.2 in (
      (is_false (bytes_eq k j) (λ e. clash (has fs k) r.1 (ap (has fs) (name_is k j e ∙ sym m.0) ∙ p.0)), r.0),
      or_right (bytes_eq n k) (has fs k) r.1,
    )

next_by : (s : StructSummary) (levels place n total : ℕ) (e : Element) (w : Walk) (all : Result Pairs Error) (r : Result Tree Error) → element_tree levels e ≡ r → AreJoined (fields_from s 0) → total + n ≤ max_bytes
    → Takes levels (fields_from s place) (fields_from s (place + 1)) e.key (Some n) r → IsPartOf s levels place total (then_walk e w) all → IsPartOf s levels (place + 1) (total + n) w all
next_by s levels place n total e w all (Err x) is joined small one part = absurd one
next_by s levels place n total e w all (Ok t) is joined small one part =
    let ps = part.done in
    let met : Meets (fields_from s 0) ps (field e.key one.form (fields_from s (place + 1))) = subst (Meets (fields_from s 0) ps) one.first part.met in
    let lacks : Lacks e.key ps = (new_key (fields_from s 0) ps e.key one.form (fields_from s (place + 1)) joined met).0 in
    record {
      done = after e.key t ps;
      way =
          ap (λ qs. pairs_with (tree_at levels) qs w) (sym (put_after e.key t ps lacks))
          ∙ ap (λ v. v >>= λ u. pairs_with (tree_at levels) (put e.key u ps) w) (sym is) ∙ part.way;
      clean = clean_after e.key t ps lacks one.name one.fits.clean part.clean;
      flat = flat_after levels e.key t ps one.fits.nests part.flat;
      size = omega (arith, size_after e.key t ps, part.size, one.size);
      small = small;
      met = met_after (fields_from s 0) ps e.key t one.form (fields_from s (place + 1)) one.above met;
    }

pub next_part : (s : StructSummary) (levels place n total : ℕ) (e : Element) (old w : Walk) (all : Result Pairs Error) → old ≡ then_walk e w → IsKnown s → total + n ≤ max_bytes
    → Takes levels (fields_from s place) (fields_from s (place + 1)) e.key (Some n) (element_tree levels e) → IsPartOf s levels place total old all → IsPartOf s levels (place + 1) (total + n) w all
next_part s levels place n total e old w all is known small one part =
    next_by s levels place n total e w all (element_tree levels e) refl known.1.1 small one (subst (λ v. IsPartOf s levels place total v all) is part)

pairs_inside : (levels inner : ℕ) (b : Bytes) → (1 ≤ levels) × (inner ≡ levels - 1) → pairs_with (tree_at inner) no_pairs (walk b) ≡ pairs_at levels b
pairs_inside zero inner b l = absurd (omega (arith, l.0))
pairs_inside (suc n) inner b l = let e : inner ≡ n = omega (arith, l.1) in ap (λ k. pairs_with (tree_at k) no_pairs (walk b)) e

pub first_part : (s : StructSummary) (levels inner : ℕ) (w : Walk) (b : Bytes) → (1 ≤ levels) × (inner ≡ levels - 1) → w ≡ walk b → IsPartOf s inner 0 0 w (pairs_at levels b)
first_part s levels inner w b l e =
    record { done = no_pairs; way = ap (pairs_with (tree_at inner) no_pairs) e ∙ pairs_inside levels inner b l; clean = tt; flat = omega arith; size = refl; small = omega arith; met = refl }

-- ---- a whole document

neither : (b c : Bool) → (b || c) ≡ false → (b ≡ false) × (c ≡ false)
neither true c e = absurd cc
neither false c e = (refl, e)

above_more : (fs gs : Fields) (k : Utf8) (s : Form) → has fs k ≡ false → FieldsAbove fs gs → FieldsAbove fs (field k s gs)
above_more no_fields gs k s e h = tt
above_more (field n x fs) gs k s e h =
    let d = neither (bytes_eq n k) (has fs k) e in
    (subst (FieldAbove (Above x) x) (sym (ap (λ c. cond c (Some s) (form_of gs n)) (unlike_swap n k d.0))) h.0, above_more fs gs k s d.1 h.1)

fields_met : (fs : Fields) (ps : Pairs) → AreJoined fs → Meets fs ps no_fields → FieldsAbove fs (pair_shapes ps)
fields_met no_fields ps p m = tt
fields_met (field n x fs) no_pairs p m = absurd cc
fields_met (field n x fs) (pair k t ps) p m = (
  subst (FieldAbove (Above x) x) (sym (ap (λ c. cond c (Some (shape_of t)) (form_of (pair_shapes ps) n)) (subst (λ z. bytes_eq z n ≡ true) m.0 (bytes_eq-refl n)))) m.1,
  above_more fs (pair_shapes ps) k (shape_of t) (subst (λ z. has fs z ≡ false) m.0 p.0) (fields_met fs ps p.3 m.2),
)

named_more : (gs fs : Fields) (n : Utf8) (x : Form) → NamedIn gs fs → NamedIn gs (field n x fs)
named_more no_fields fs n x h = tt
named_more (field k s gs) fs n x h = (or_right (bytes_eq n k) (has fs k) h.0, named_more gs fs n x h.1)

named_met : (fs : Fields) (ps : Pairs) → Meets fs ps no_fields → NamedIn (pair_shapes ps) fs
named_met fs no_pairs m = tt
named_met no_fields (pair k t ps) m = absurd m
named_met (field n x fs) (pair k t ps) m =
    (or_left (bytes_eq n k) (has fs k) (subst (λ z. bytes_eq n z ≡ true) m.0 (bytes_eq-refl n)), named_more (pair_shapes ps) fs n x (named_met fs ps m.2))

pub whole_part : (s : StructSummary) (levels inner place total : ℕ) (w : Walk) (all : Result Pairs Error) → IsKnown s → (1 ≤ levels) × (inner ≡ levels - 1) → w ≡ ended → length s.fields.items ≡ place → total + 5 ≤ max_bytes
    → IsPartOf s inner place total w all → Has levels (struct_form s) (Some (total + 5)) (result_map document all)
whole_part s levels inner place total w all known l over end small part =
    let ps = part.done in
    let met : Meets (fields_from s 0) ps no_fields = subst (Meets (fields_from s 0) ps) (ap (settled s.count) (drop_all s.names s.fields.items place end)) part.met in
    subst (λ r. Has levels (struct_form s) (Some (total + 5)) (result_map document r)) (ap (pairs_with (tree_at inner) ps) (sym over) ∙ part.way) (
      record { clean = part.clean; nests = omega (arith, part.flat, l.0, l.1); small = omega (arith, small, part.size, length-document ps) },
      omega (arith, part.size, length-document ps),
      (fields_met (fields_from s 0) ps known.1.1 met, named_met (fields_from s 0) ps met),
    )

by_pairs : (s : Form) (n : ℕ) (r : Result Pairs Error) → IsJoined s → Has 200 s (Some n) (result_map document r) → IsCovered s r
by_pairs s n (Ok ps) joined h = ((sound_decided ps).1 (record { document = tt; clean = h.0.clean; nests = h.0.nests; fits = h.0.small }), absorbs s (shape_of (document ps)) joined h.2)
by_pairs s n (Err e) joined h = absurd h

pub covered_by : (s : Form) (o : Option ℕ) (r : Result Pairs Error) → IsJoined s → is_some o ≡ true → Has 200 s o (result_map document r) → IsCovered s r
covered_by s None r joined e h = absurd cc
covered_by s (Some n) r joined e h = by_pairs s n r joined h
