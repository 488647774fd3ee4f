-- What is made of what is read.
use Rattle.std.proofs.Common.{◌≡◌, ℕ, zero, suc, ◌<◌, [], ◌∷◌, true, Option, Some, None, Ok, Err, refl, ap, sym, subst, ◌∙◌, arith}
use Rattle.std.specs.Prelude.{codes}
use Rattle.bson_base.specs.Made.{digits, base64_text}
use Rattle.bson_kinds.specs.Outcome.{◌>>=◌, result_map}
use Rattle.bson_kinds.specs.Text.{Bytes, Utf8}
use Rattle.bson_base.specs.Tree as tree
use Rattle.bson_base.specs.Tree.{Tree}
use Rattle.bson_kinds.proofs.Outcomes.{some_map, map_ok}
use Rattle.bson_rawdoc.specs.Node.{Node}
use Rattle.bson_kinds.specs.Piece.{made}
use Rattle.bson_shape.specs.Form.{dropped, Form, leaf, structure, Fields}
use Rattle.bson_shape.specs.declared.leaf.Leaf.TheVariants.{ByteBuf}
use Rattle.bson_values.specs.Cause.{bad_body}
use Rattle.bson_values.specs.ErrorView.{read_fault}
use Rattle.bson_values.specs.Marked.{Marked, MarkedFields, contents}
use Rattle.bson_values.specs.Refusal.{ReadFault, Refusal, under}
use Rattle.bson_values.specs.Stop.{stop_view}
use Rattle.bson_values.specs.Value as value
use Rattle.bson_values.specs.Value.{Value}
use Rattle.bson_values.specs.declared.de.Fault.{Fault}
use Rattle.bson_values.specs.declared.stop.Stop.{Stop}
use Rattle.bson_values.specs.declared.wrapper.Wrapper.{Wrapper}
use Rattle.bson_values.specs.declared.wrapper.Wrapper.TheVariants.{Symbol, NumberInt, NumberLong, NumberDouble, Uuid, NumberDecimal}
use Rattle.bson_laws.specs.Datum.{datum, two, wrapped, nameless}
use Rattle.bson_laws.specs.Judged.{Reading, refused, judged}
use Rattle.bson_laws.specs.ReadsLeaf.{no_extended}
use Rattle.bson_laws.specs.Shaped.{reads, slots_of}
use Rattle.bson_laws.specs.Slots.{read_structure}
use Rattle.bson_laws.specs.Taken.{buffer_of}
use Rattle.bson_laws.specs.Trees.{or_bad}
use Rattle.bson_laws.specs.Wrapped.{Body, at, meaning, text_body, tree_of_text}
use Rattle.bson_met.specs.Gives.{RefusesAs}
use Rattle.bson_met.proofs.Refusals.{StopsAs, stops_map}
use Rattle.bson_texts.specs.Leaves.{buffer_at}
use Rattle.bson_wrapped.specs.Bodies.{as_datum, made_by, takes_text, body_of, valid_at, body_at}
use Rattle.bson_slots.specs.FieldsRead.{fields_read}

-- ---- refusals

pub err_is : {A B : Type 0} (q r : Refusal ReadFault) → (let e : Reading A = Err q in e) ≡ Err r → (let e : Reading B = Err q in e) ≡ Err r
err_is q r e = cc

through_as : {A B C D : Type 0} (o : Option (Refusal ReadFault)) (f : A → B) (x : Reading A) (h : A → Reading C) (g : C → D) → RefusesAs o (result_map f x) → RefusesAs o (result_map g (x >>= h))
through_as None f x h g e = tt
through_as (Some r) f (Ok a) h g e = absurd cc
through_as (Some r) f (Err q) h g e = err_is q r e

-- what stops a part that is made into data stops the whole
pub stops_through : {A B C D : Type 0} (s : Stop Fault) (f : A → B) (x : Reading A) (h : A → Reading C) (g : C → D) → StopsAs s (result_map f x) → StopsAs s (result_map g (x >>= h))
stops_through s f x h g e = through_as (stop_view read_fault s) f x h g e

-- what is made of a value at a key is made of the value
pub under_map : {A B : Type 0} (key : Utf8) (f : A → B) (r : Reading A) → under key (result_map f r) ≡ result_map f (under key r)
under_map key f (Ok x) = refl
under_map key f (Err e) = refl

-- what is taken of a judged value, made into something
pub mapped : {A B C : Type 0} (f : B → C) (r : Reading A) (take : A → Reading B) → (r >>= λ n. result_map f (take n)) ≡ result_map f (r >>= take)
mapped f (Ok x) take = refl
mapped f (Err e) take = refl

-- ---- bodies at shapes

-- a body at a shape: what is made of the value that is read, and what stops it
pub at_done : (s : Form) (make : Value → Option Tree) (n : Node) (v : Marked) → reads no_extended s n ≡ Ok v → made_by (at s make) n ≡ Ok (as_datum (make (contents v)))
at_done s make n v e = ap (λ r. result_map as_datum (result_map (λ x. make (contents x)) r)) e

pub at_stops : (s : Form) (make : Value → Option Tree) (n : Node) (stop : Stop Fault) → StopsAs stop (reads no_extended s n) → StopsAs stop (made_by (at s make) n)
at_stops s make n stop h = stops_map stop as_datum (result_map (λ x. make (contents x)) (reads no_extended s n)) (stops_map stop (λ x. make (contents x)) (reads no_extended s n) h)

-- a binary of a subtype other than 0 is a struct
pub binary_made : (n : ℕ) (b : Bytes) → 0 < n
    → wrapped made (codes "$binary") (nameless made (two made (codes "base64") (value.str (made (base64_text b))) (codes "subType") (value.str (made (digits (n ∷ [])))))) ≡ datum made (tree.binary n b)
binary_made zero b above = absurd (omega (arith, above))
binary_made (suc n) b above = refl

-- a body that is bytes
pub buffer_done : (make : Value → Option Tree) (n : Node) (b : Bytes) → buffer_at n ≡ Ok b → made_by (at (leaf ByteBuf) make) n ≡ Ok (as_datum (make (value.bytes b)))
buffer_done make n b e =
    let see : Bytes → Marked = λ x. value.bytes (made x) in at_done (leaf ByteBuf) make n (see b) (mapped see (judged n) (buffer_of) ∙ ap (result_map see) e)

pub buffer_stops : (make : Value → Option Tree) (n : Node) (stop : Stop Fault) → StopsAs stop (buffer_at n) → StopsAs stop (made_by (at (leaf ByteBuf) make) n)
buffer_stops make n stop h =
    let see : Bytes → Marked = λ x. value.bytes (made x) in
    at_stops (leaf ByteBuf) make n stop (subst (λ (r : Reading Marked). StopsAs stop r) (sym (mapped see (judged n) (buffer_of))) (stops_map stop see (buffer_at n) h))

-- a body that is a struct
module _ (fs : Fields) (make : Value → Option Tree) (n : Node) where
  abbrev all : MarkedFields → Marked
  all vs = value.structure (made []) vs

  abbrev given : Reading MarkedFields
  given = fields_read (slots_of no_extended fs) n

  -- the tree that is read
  pub fields_read_done : (vs : MarkedFields) → given ≡ Ok vs → at (structure dropped [] fs) make n ≡ Ok (make (contents (all vs)))
  fields_read_done vs e =
      ap (result_map (λ v. make (contents v))) (mapped all (judged n) (read_structure dropped (slots_of no_extended fs)) ∙ ap (result_map all) e)

  pub fields_read_stop : (stop : Stop Fault) → StopsAs stop given → StopsAs stop (at (structure dropped [] fs) make n)
  fields_read_stop stop h =
      stops_map stop (λ v. make (contents v)) (reads no_extended (structure dropped [] fs) n)
      (subst (λ (r : Reading Marked). StopsAs stop r) (sym (mapped all (judged n) (read_structure dropped (slots_of no_extended fs)))) (stops_map stop all given h))

  -- the same as data
  pub fields_done : (vs : MarkedFields) → given ≡ Ok vs → made_by (at (structure dropped [] fs) make) n ≡ Ok (as_datum (make (contents (all vs))))
  fields_done vs e = ap (result_map as_datum) (fields_read_done vs e)

  pub fields_stop : (stop : Stop Fault) → StopsAs stop given → StopsAs stop (made_by (at (structure dropped [] fs) make) n)
  fields_stop stop h = stops_map stop as_datum (at (structure dropped [] fs) make n) (fields_read_stop stop h)

-- a wrapper key whose value is a text
pub text_meant : (w : Wrapper) → takes_text w ≡ true → text_body (tree_of_text w) ≡ body_of (meaning w)
text_meant Symbol e = refl
text_meant NumberInt e = refl
text_meant NumberLong e = refl
text_meant NumberDouble e = refl
text_meant Uuid e = refl
text_meant NumberDecimal e = refl
text_meant w e = absurd cc

-- ---- what is valid

module _ (w : Wrapper) (read : Body) (n : Node) where
  pub valid : (v : Marked) → made_by read n ≡ Ok (Some v) → valid_at w read n ≡ Ok v
  valid v e =
      let m = map_ok as_datum (read n) (Some v) e in
      let t = some_map (datum made) m.0 v m.2 in
      ap (λ r. result_map (datum made) (r >>= or_bad w)) (m.1 ∙ ap Ok t.1) ∙ ap Ok t.2

  none_is : (o : Option Tree) → as_datum o ≡ None → o ≡ None
  none_is None e = refl
  none_is (Some t) e = absurd cc

  pub invalid : made_by read n ≡ Ok None → valid_at w read n ≡ refused (bad_body w)
  invalid e =
      let m = map_ok as_datum (read n) None e in
      ap (λ r. result_map (datum made) (r >>= or_bad w)) (m.1 ∙ ap Ok (none_is m.0 m.2))

  pub valid_stops : (s : Stop Fault) → StopsAs s (made_by read n) → StopsAs s (valid_at w read n)
  valid_stops s h = stops_through s as_datum (read n) (or_bad w) (datum made) h

  pub valid_under : (key : Utf8) → under key (valid_at w read n) ≡ body_at w read key n
  valid_under key = under_map key (datum made) (read n >>= or_bad w)
