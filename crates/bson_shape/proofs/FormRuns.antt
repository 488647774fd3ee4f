-- What the machine answers on the text of a form: its first refusal, or what it answers behind it.
use Rattle.std.proofs.Common.{◌≡◌, ℕ, ◌+◌, Bool, true, false, cond, ◌||◌, List, [], ◌∷◌, ◌++◌, length, Option, Some, None, Result, Ok, Err, refl, sym, ap, ◌∙◌, subst, arith, append_assoc, append-nil, length-append}
use Rattle.std.specs.Prelude.{nat_le, IfOk}
use Rattle.bson_kinds.specs.Text.{Utf8}
use Rattle.bson_shape.specs.Form.{dropped, denied, Form, leaf, optional, lossy, human_readable, by_mode, sequence, map, tuple, tuple_structure, newtype, unit_structure, structure, enumeration, reference, definitions, Fields, no_fields, field, joined, push_field, Parts, no_parts, part, joined_parts, push_part, Variants, no_variants, variant, joined_variants, Content, unit_content, newtype_content, tuple_content, struct_content}
use Rattle.bson_shape.specs.Leaf.{word}
use Rattle.bson_shape.specs.declared.leaf.Leaf.{Leaf}
use Rattle.bson_shape.specs.Makers.{made_form}
use Rattle.bson_shape.specs.declared.error.ShapeError.{ShapeError}
use Rattle.bson_shape.specs.declared.error.ShapeError.TheVariants.{TooDeep}
use Rattle.std.specs.List.{list_all}
use Rattle.bson_shape.specs.Notation.{begins_bare, in_bare, bare, names_form, escaped, quoted, name_text, struct_name_text, after_commas, listed, in_parens, opening_struct, text, named_texts, field_texts, definition_texts, part_texts, variant_texts, content_text}
use Rattle.bson_shape.specs.FirstRefusal.{MakerRefusal, too_deep, refusal_of, form_refusal, first_refusal, fields_refusal, parts_refusal, variants_refusal, content_refusal}
use Rattle.bson_shape.specs.Fronts.{goes_on}
use Rattle.bson_kinds.specs.Outcome.{◌>>=◌, or_else}
use Rattle.bson_shape.specs.Machine.{Refusal, Refused, OpenEnum, Holder, Nameless_at, Named_at, Variant_of, Group, Braces, Closed_braces, Parens, Angles, Table, Prefix, Option_prefix, Lossy_prefix, Readable_prefix, Newtype_prefix, Definitions_prefix, Level, In_prefix, In_brackets, In_pair, In_compact, In_map, In_item, Owner, Form_at, Item_of, Reference_at, Mode, Form_due, Percent, Ampersand, At, Behind_sign, Item_due, Bare, Named, Item_done, Done, State, opened_enum, grown, grown_enum, is_empty, closing, Closed, Closed_form, Closed_variant, Closed_prefix, closed, prefixed, maker_answer, form_closed, bracket_closed, group_closed, item_ended, Ended, wrapped, enclosed, form_ended, begins_name, name_begun, opens_form, begins_form, form_begun, form_due, name_due, field_due, item_begun, item_due, word_ended, bare_name, alone, step, run, finish}
use Rattle.bson_shape.proofs.Made.{made_form-made}
use Rattle.bson_shape.proofs.Shapes.{joined-assoc, joined-none, joined_parts-assoc, joined_parts-none, joined_variants-assoc, joined_variants-none}
use Rattle.bson_shape.proofs.Words.{and_true, or_false, differs, of_word-word, bare-word}
use Rattle.bson_shape.proofs.Loop.{bound_assoc}
use Rattle.bson_shape.proofs.NameRuns.{run_step, run_refused, name_mode, BeginsName, name_read, name_step}
use Rattle.bson_shape.proofs.States.{after, closing-alone}

-- what is answered from a state on, to the end of the text
abbrev pub read : ℕ → State → Utf8 → Result Form Refusal
read at s bs = run at s bs >>= λ t. finish (at + length bs) t.0 t.1

read_run : (i j : ℕ) (s t : State) (xs ys : Utf8) → run i s xs ≡ run j t ys → i + length xs ≡ j + length ys → read i s xs ≡ read j t ys
read_run i j s t xs ys e l = λ k. e k >>= λ u. finish (l k) u.0 u.1

-- a byte that is taken
read_step : (at : ℕ) (m : Mode) (st : List Level) (b : ℕ) (bs : Utf8) (t : State) → step at m st b ≡ Ok t → read at (m, st) (b ∷ bs) ≡ read (at + 1) t bs
read_step at m st b bs t h = read_run at (at + 1) (m, st) t (b ∷ bs) bs (run_step at m st b bs t h) (omega arith)

read_name : (n rest : Utf8) (at : ℕ) (m : Mode) (owner : Owner) (st : List Level) → BeginsName at m owner st → read at (m, st) (name_text n ++ rest) ≡ read (at + length (name_text n)) (name_mode owner n, st) rest
read_name n rest at m owner st begins =
    read_run at (at + length (name_text n)) (m, st) (name_mode owner n, st) (name_text n ++ rest) rest (name_read n rest at m owner st begins) (omega (arith, length-append (name_text n) rest))

-- the refusal, if there is one
abbrev pub settle : Option MakerRefusal → Result Form Refusal → Result Form Refusal
settle None r = r
settle (Some x) r = Err (Refused x)

settle_both : (a b : Option MakerRefusal) (r : Result Form Refusal) → settle a (settle b r) ≡ settle (or_else a b) r
settle_both None b r = refl
settle_both (Some x) b r = refl

settle_all : (a b c : Option MakerRefusal) (r : Result Form Refusal) → settle a (settle (or_else b c) r) ≡ settle (or_else (or_else a b) c) r
settle_all None b c r = refl
settle_all (Some x) b c r = refl

no_more_refused : (x : Option MakerRefusal) (r : Result Form Refusal) → settle (or_else x None) r ≡ settle x r
no_more_refused None r = refl
no_more_refused (Some y) r = refl

-- ---- behind a form

-- what is answered behind the forms that end together
abbrev beyond : ℕ → Utf8 → Ended → Result Form Refusal
beyond at [] e = alone at e.0 e.1
beyond at (b ∷ bs) e = enclosed at e.0 e.1 b >>= λ u. read (at + 1) u bs

stepped : (r : Result State Refusal) (at : ℕ) (bs : Utf8) → ((r >>= λ u. run (at + 1) u bs) >>= λ t. finish (at + (length bs + 1)) t.0 t.1) ≡ (r >>= λ u. read (at + 1) u bs)
stepped (Ok u) at bs = ap (λ i. run (at + 1) u bs >>= λ t. finish i t.0 t.1) (omega arith)
stepped (Err e) at bs = refl

done_read : (rest : Utf8) (at : ℕ) (f : Form) (st : List Level) → read at (Done f, st) rest ≡ (wrapped at f st >>= λ e. beyond at rest e)
unfolding run step form_ended finish
done_read [] at f st = ap (λ i. finish i (Done f) st) (omega arith)
done_read (b ∷ bs) at f st =
    ap (λ i. (form_ended at f st b >>= λ u. run (at + 1) u bs) >>= λ t. finish i t.0 t.1) (omega arith)
    ∙ stepped (form_ended at f st b) at bs
    ∙ bound_assoc (wrapped at f st) (λ e. enclosed at e.0 e.1 b) (λ u. read (at + 1) u bs)

-- a form that ends with the one inside it
wrap_made : (r : Result Form ShapeError) (at place : ℕ) (g : Form) (st : List Level) (rest : Utf8) → IfOk r (λ h. h ≡ g)
    → ((maker_answer at place r >>= λ h. wrapped at h st) >>= λ e. beyond at rest e) ≡ settle (refusal_of at place r) (read at (Done g, st) rest)
wrap_made (Ok h) at place g st rest same = sym (done_read rest at h st) ∙ ap (λ h. read at (Done h, st) rest) same
wrap_made (Err e) at place g st rest same = refl

prefix_read : (p : Prefix) (f : Form) (at place : ℕ) (st : List Level) (rest : Utf8) → read at (Done f, In_prefix place p ∷ st) rest ≡ settle (refusal_of at place (made_form (prefixed p f))) (read at (Done (prefixed p f), st) rest)
unfolding wrapped
prefix_read p f at place st rest = done_read rest at f (In_prefix place p ∷ st) ∙ wrap_made (made_form (prefixed p f)) at place (prefixed p f) st rest (made_form-made (prefixed p f))

-- the word of a leaf, where it does not go on
leaf_read : (rest : Utf8) (l : Leaf) (at place : ℕ) (st : List Level) → goes_on rest ≡ false → read at (Bare (Form_at place) (word l), st) rest ≡ read at (Done (leaf l), st) rest
unfolding run step bare_name word_ended finish
leaf_read [] l at place st ends = rw (of_word-word l) refl
leaf_read (b ∷ bs) l at place st ends = let both = or_false (in_bare b) (names_form b) ends in rw (both.0, both.1, of_word-word l) refl

-- ---- the last byte of a form

-- the maker makes the form or refuses
result_read : (r : Result Form ShapeError) (f : Form) (m : Mode) (levels' st : List Level) (at place b : ℕ) (rest : Utf8) → IfOk r (λ g. g ≡ f) → step at m levels' b ≡ form_closed at place st r
    → read at (m, levels') (b ∷ rest) ≡ settle (refusal_of (at + 1) place r) (read (at + 1) (Done f, st) rest)
result_read (Ok g) f m levels' st at place b rest same h = read_step at m levels' b rest (Done g, st) h ∙ ap (λ h. read (at + 1) (Done h, st) rest) same
result_read (Err e) f m levels' st at place b rest same h = ap (λ r. r >>= λ t. finish (at + length (b ∷ rest)) t.0 t.1) (run_refused at m levels' b rest _ h)

-- a byte that is taken alike in two states
read_same : (at : ℕ) (m n : Mode) (st levels' : List Level) (b : ℕ) (bs : Utf8) → step at m st b ≡ step at n levels' b → read at (m, st) (b ∷ bs) ≡ read at (n, levels') (b ∷ bs)
unfolding run
read_same at m n st levels' b bs h = ap (λ r. (r >>= λ u. run (at + 1) u bs) >>= λ t. finish (at + length (b ∷ bs)) t.0 t.1) h

closed_read : (f : Form) (s : State) (st : List Level) (at place b : ℕ) (rest : Utf8) → step at s.0 s.1 b ≡ form_closed at place st (made_form f)
    → read at s (b ∷ rest) ≡ settle (refusal_of (at + 1) place (made_form f)) (read (at + 1) (Done f, st) rest)
closed_read f s st at place b rest h = result_read (made_form f) f s.0 s.1 st at place b rest (made_form-made f) h

-- what a maker says behind a closing bracket, where one is called there
abbrev closed_refusal : ℕ → Closed → Option MakerRefusal
closed_refusal read (Closed_form place f) = refusal_of read place (made_form f)
closed_refusal read (Closed_variant e) = None
closed_refusal read (Closed_prefix place p) = None

bracket_read : (c : Closed) (s : State) (st : List Level) (at b : ℕ) (rest : Utf8) → step at s.0 s.1 b ≡ bracket_closed at st c → read at s (b ∷ rest) ≡ settle (closed_refusal (at + 1) c) (read (at + 1) (after c st) rest)
bracket_read (Closed_form place f) s st at b rest h = closed_read f s st at place b rest h
bracket_read (Closed_variant e) s st at b rest h = read_step at s.0 s.1 b rest _ h
bracket_read (Closed_prefix place p) s st at b rest h = read_step at s.0 s.1 b rest _ h

-- the place of the next byte is named in another way
moved : (i j : ℕ) (a : Option MakerRefusal) (c : Closed) (st : List Level) (rest : Utf8) → i ≡ j → settle (or_else a (closed_refusal i c)) (read i (after c st) rest) ≡ settle (or_else a (closed_refusal j c)) (read j (after c st) rest)
moved i j a c st rest e = λ k. settle (or_else a (closed_refusal (e k) c)) (read (e k) (after c st) rest)

-- ---- the items of a group

-- a state behind an item, with which the group is this
record BehindItem (s : State) (g : Group) (st : List Level) : Type 0 where
  next : (at : ℕ) → step at s.0 s.1 44 ≡ Ok (Item_due g, st)
  ends : (at : ℕ) → step at s.0 s.1 (closing g) ≡ group_closed at g st

item_closes : (g : Group) (at : ℕ) (st : List Level) → item_ended at g st (closing g) ≡ group_closed at g st
item_closes (Braces h fs) at st = refl
item_closes (Closed_braces place n fs) at st = refl
item_closes (Parens h ps) at st = refl
item_closes (Angles e) at st = refl
item_closes (Table place h) at st = refl

behind_form : (g : Group) (n : Utf8) (f : Form) (st : List Level) → BehindItem (Done f, In_item g n ∷ st) (grown g n f) st
unfolding step form_ended wrapped
behind_form g n f st = record { next = λ at. next at; ends = λ at. ended at (closing (grown g n f)) ∙ item_closes (grown g n f) at st }
  where
    ended : (at b : ℕ) → step at (Done f) (In_item g n ∷ st) b ≡ item_ended at (grown g n f) st b
    ended at b = refl

    next : (at : ℕ) → step at (Done f) (In_item g n ∷ st) 44 ≡ Ok (Item_due (grown g n f), st)
    next at = ended at 44

behind_done : (g : Group) (st : List Level) → BehindItem (Item_done g, st) g st
unfolding step
behind_done g st = record { next = λ at. refl; ends = λ at. item_closes g at st }

-- An item with this text is read behind the items of a group, and what is refused in it where it begins at a place; with it the group is the second.
record ReadsItem (st : List Level) (g : Group) (x : Utf8) (refused : ℕ → Option MakerRefusal) (h : Group) : Type 0 where
  state : State
  behind : BehindItem state h st
  reads : (rest : Utf8) (at : ℕ) → goes_on rest ≡ false → read at (Item_due g, st) (x ++ rest) ≡ settle (refused at) (read (at + length x) state rest)

-- All items to come are read, where the first of them is expected; with them the group is the second.
abbrev ReadsAll : List Level → Group → List Utf8 → (ℕ → Option MakerRefusal) → Group → Type 0
ReadsAll st g xs refused h =
    (rest : Utf8) (at : ℕ) → read at (Item_due g, st) (listed xs ++ closing h ∷ rest) ≡ settle (or_else (refused at) (closed_refusal (at + length (listed xs) + 1) (closed h))) (read (at + length (listed xs) + 1) (after (closed h) st) rest)

-- The same behind an item.
abbrev ReadsMore : List Level → Group → List Utf8 → (ℕ → Option MakerRefusal) → Group → Type 0
ReadsMore st g xs refused h =
    (s : State) → BehindItem s g st → (rest : Utf8) (at : ℕ) → read at s (after_commas xs ++ closing h ∷ rest)
    ≡ settle (or_else (refused (at + 1)) (closed_refusal (at + length (after_commas xs) + 1) (closed h))) (read (at + length (after_commas xs) + 1) (after (closed h) st) rest)

-- behind an item no word goes on
items_end : (xs : List Utf8) (g : Group) (rest : Utf8) → goes_on (after_commas xs ++ closing g ∷ rest) ≡ false
items_end [] g rest = closing-alone g
items_end (x ∷ xs) g rest = refl

none_more : (st : List Level) (g : Group) → ReadsMore st g [] (λ _. None) g
none_more st g = λ s behind rest at. bracket_read (closed g) s st at (closing g) rest (behind.ends at) ∙ moved (at + 1) (at + 0 + 1) None (closed g) st rest (omega arith)

none_due : (g : Group) (at : ℕ) (st : List Level) → is_empty g ≡ true → step at (Item_due g) st (closing g) ≡ group_closed at g st
unfolding step item_due
none_due (Braces h fs) at st e = rw e refl
none_due (Closed_braces place n fs) at st e = rw e refl
none_due (Parens h ps) at st e = rw e refl
none_due (Angles v) at st e = rw e refl
none_due (Table place h) at st e = rw e refl

none_at_all : (st : List Level) (g : Group) → is_empty g ≡ true → ReadsAll st g [] (λ _. None) g
none_at_all st g e = λ rest at. bracket_read (closed g) (Item_due g, st) st at (closing g) rest (none_due g at st e) ∙ moved (at + 1) (at + 0 + 1) None (closed g) st rest (omega arith)

-- an item, and those after it
item_and : (st : List Level) (g between h : Group) (x : Utf8) (xs : List Utf8) (first later : ℕ → Option MakerRefusal) → ReadsItem st g x first between → ReadsMore st between xs later h
    → ReadsAll st g (x ∷ xs) (λ at. or_else (first at) (later (at + length x + 1))) h
item_and st g between h x xs first later item more = λ rest at.
    let tail = after_commas xs in
    let end = at + length x + length tail + 1 in
    let all = or_else (first at) (later (at + length x + 1)) in
    ap (read at (Item_due g, st)) (append_assoc x tail (closing h ∷ rest))
    ∙ item.reads (tail ++ closing h ∷ rest) at (items_end xs h rest)
    ∙ ap (settle (first at)) (more item.state item.behind rest (at + length x))
    ∙ settle_all (first at) (later (at + length x + 1)) (closed_refusal end (closed h)) (read end (after (closed h) st) rest)
    ∙ moved end (at + length (x ++ tail) + 1) all (closed h) st rest (omega (arith, length-append x tail))

-- a comma, and the items behind it
comma_and : (st : List Level) (g h : Group) (x : Utf8) (xs : List Utf8) (refused : ℕ → Option MakerRefusal) → ReadsAll st g (x ∷ xs) refused h → ReadsMore st g (x ∷ xs) refused h
comma_and st g h x xs refused all = λ s behind rest at.
    let items = x ++ after_commas xs in
    read_step at s.0 s.1 44 (items ++ closing h ∷ rest) (Item_due g, st) (behind.next at) ∙ all rest (at + 1)
    ∙ moved (at + 1 + length items + 1) (at + length (44 ∷ items) + 1) (refused (at + 1)) (closed h) st rest (omega arith)

-- ---- where an item is expected

field_begins : (h : Holder) (at : ℕ) (fs : Fields) (st : List Level) → BeginsName at (Item_due (Braces h fs)) (Item_of (Braces h fs)) st
unfolding step item_due item_begun field_due name_due
field_begins h at fs st b k = rw (differs begins_name b 125 k refl, differs begins_name b 33 k refl, k) refl

closed_field_begins : (place : ℕ) (n : Utf8) (at : ℕ) (fs : Fields) (st : List Level) → BeginsName at (Item_due (Closed_braces place n fs)) (Item_of (Closed_braces place n fs)) st
unfolding step item_due item_begun name_due
closed_field_begins place n at fs st b k = rw (differs begins_name b 125 k refl, k) refl

-- a struct denies unknown fields
mark_step : (at place : ℕ) (st : List Level) → step at (Item_due (Braces (Nameless_at place) no_fields)) st 33 ≡ Ok (Item_due (Closed_braces place [] no_fields), st)
unfolding step item_due item_begun field_due
mark_step at place st = refl

named_mark_step : (at place : ℕ) (n : Utf8) (st : List Level) → step at (Item_due (Braces (Named_at place n) no_fields)) st 33 ≡ Ok (Item_due (Closed_braces place n no_fields), st)
unfolding step item_due item_begun field_due
named_mark_step at place n st = refl

-- A kind of group that holds fields, and this byte between a name and its form.
record HoldsFields (c : ℕ) (of : Fields → Group) : Type 0 where
  begins : (at : ℕ) (gs : Fields) (st : List Level) → BeginsName at (Item_due (of gs)) (Item_of (of gs)) st
  labels : (at : ℕ) (gs : Fields) (n : Utf8) (st : List Level) → step at (name_mode (Item_of (of gs)) n) st c ≡ Ok (Form_due, In_item (of gs) n ∷ st)
  grows : (gs : Fields) (n : Utf8) (f : Form) → grown (of gs) n f ≡ of (push_field gs n f)
  empty : is_empty (of no_fields) ≡ true

table_begins : (place at : ℕ) (h : Fields) (st : List Level) → BeginsName at (Item_due (Table place h)) (Item_of (Table place h)) st
unfolding step item_due item_begun name_due
table_begins place at h st b k = rw (differs begins_name b 41 k refl, k) refl

table_holds : (place : ℕ) → HoldsFields 61 (Table place)
table_holds place = record { begins = table_begins place; labels = λ at gs n st. name_step at (Item_of (Table place gs)) n st 61 refl tt; grows = λ gs n f. refl; empty = refl }

braces_hold : (h : Holder) → HoldsFields 58 (Braces h)
braces_hold h = record { begins = field_begins h; labels = λ at gs n st. name_step at (Item_of (Braces h gs)) n st 58 refl tt; grows = λ gs n f. refl; empty = refl }

closed_braces_hold : (place : ℕ) (m : Utf8) → HoldsFields 58 (Closed_braces place m)
closed_braces_hold place m =
    record { begins = closed_field_begins place m; labels = λ at gs n st. name_step at (Item_of (Closed_braces place m gs)) n st 58 refl tt; grows = λ gs n f. refl; empty = refl }

variant_begins : (at : ℕ) (e : OpenEnum) (st : List Level) → BeginsName at (Item_due (Angles e)) (Item_of (Angles e)) st
unfolding step item_due item_begun name_due
variant_begins at e st b k = rw (differs begins_name b 62 k refl, k) refl

part_begins : (at b : ℕ) (h : Holder) (ps : Parts) (st : List Level) → begins_form b ≡ true → step at (Item_due (Parens h ps)) st b ≡ step at Form_due (In_item (Parens h ps) [] ∷ st) b
unfolding step item_due item_begun
part_begins at b h ps st k = rw (differs begins_form b 41 k refl) refl

-- ---- where a form is expected

form_step : (b at : ℕ) (st : List Level) → begins_form b ≡ true → nat_le 512 (length st) ≡ false → step at Form_due st b ≡ Ok (form_begun at st b)
unfolding step form_due
form_step b at st h d = rw (h, d) refl

deep_step : (b at : ℕ) (st : List Level) → begins_form b ≡ true → nat_le 512 (length st) ≡ true → step at Form_due st b ≡ Err (Refused (record { met = at + 1; place = at; cause = TooDeep }))
unfolding step form_due
deep_step b at st h d = rw (h, d) refl

form_begins : (at : ℕ) (st : List Level) → nat_le 512 (length st) ≡ false → BeginsName at Form_due (Form_at at) st
form_begins at st d b h =
    form_step b at st (ap (λ t. t || opens_form b) h) d
    ∙ ap (λ (t : Bool × Bool × Bool × Bool × Bool × Bool × Bool × Bool × Bool × Bool).
    Ok (cond t.0 (Item_due (Braces (Nameless_at at) no_fields), st) (cond t.1 (Form_due, In_brackets at ∷ st) (cond t.2 (Form_due, In_prefix at Option_prefix ∷ st) (cond t.3 (Form_due, In_prefix at Lossy_prefix ∷ st) (cond t.4 (Form_due, In_prefix at Readable_prefix ∷ st) (cond t.5 (Behind_sign Percent at, st) (cond t.6 (Behind_sign Ampersand at, st) (cond t.7 (Behind_sign At at, st) (cond t.8 (Item_due (Parens (Nameless_at at) no_parts), st) (cond t.9 (Item_due (Angles (opened_enum at)), st) (name_begun (Form_at at) b, st))))))))))))
    (λ i. (differs begins_name b 123 h refl i, differs begins_name b 91 h refl i, differs begins_name b 63 h refl i, differs begins_name b 126 h refl i, differs begins_name b 94 h refl i, differs begins_name b 37 h refl i, differs begins_name b 38 h refl i, differs begins_name b 64 h refl i, differs begins_name b 40 h refl i, differs begins_name b 60 h refl i))

-- the name of a form, and the byte behind it
name_and : (n : Utf8) (b : ℕ) (rest : Utf8) (at : ℕ) (st : List Level) (s : State) → nat_le 512 (length st) ≡ false → step (at + length (name_text n)) (name_mode (Form_at at) n) st b ≡ Ok s
    → read at (Form_due, st) (name_text n ++ b ∷ rest) ≡ read (at + length (name_text n) + 1) s rest
name_and n b rest at st s d h = read_name n (b ∷ rest) at Form_due (Form_at at) st (form_begins at st d) ∙ read_step (at + length (name_text n)) (name_mode (Form_at at) n) st b rest s h

word_read : (l : Leaf) (rest : Utf8) (at : ℕ) (st : List Level) → nat_le 512 (length st) ≡ false → read at (Form_due, st) (word l ++ rest) ≡ read (at + length (word l)) (Bare (Form_at at) (word l), st) rest
word_read l rest at st d =
    let is : bare (word l) ≡ true = bare-word l in
    let plain : name_text (word l) ≡ word l = ap (λ t. cond t (word l) (quoted (word l))) is in
    ap (λ xs. read at (Form_due, st) (xs ++ rest)) (sym plain) ∙ read_name (word l) rest at Form_due (Form_at at) st (form_begins at st d)
    ∙ (λ i. read (at + length (plain i)) (cond (is i) (Bare (Form_at at) (word l)) (Named (Form_at at) (word l)), st) rest)

-- a form begins with one of these bytes
record Begun (bytes : Utf8) : Type 0 where
  byte : ℕ
  rest : Utf8
  whole : bytes ≡ byte ∷ rest
  begins : begins_form byte ≡ true

bare_begun : (n rest : Utf8) → bare n ≡ true → Begun (n ++ rest)
bare_begun [] rest h = absurd cc
bare_begun (b ∷ bs) rest h =
    let first : begins_bare b ≡ true = (and_true (begins_bare b) (list_all in_bare bs) h).0 in
    record { byte = b; rest = bs ++ rest; whole = refl; begins = rw first refl }

name_begins : (t : Bool) (n rest : Utf8) → bare n ≡ t → Begun (cond t n (quoted n) ++ rest)
name_begins true n rest h = bare_begun n rest h
name_begins false n rest h = record { byte = 34; rest = (escaped n ++ 34 ∷ []) ++ rest; whole = refl; begins = refl }

name_begun_with : (n more : Utf8) → Begun (name_text n ++ more)
name_begun_with n more = name_begins (bare n) n more refl

text_begins : (f : Form) → Begun (text f)
text_begins (leaf l) = subst Begun (append-nil (word l)) (bare_begun (word l) [] (bare-word l))
text_begins (optional f) = record { byte = 63; rest = text f; whole = refl; begins = refl }
text_begins (lossy f) = record { byte = 126; rest = text f; whole = refl; begins = refl }
text_begins (human_readable f) = record { byte = 94; rest = text f; whole = refl; begins = refl }
text_begins (sequence f) = record { byte = 91; rest = text f ++ 93 ∷ []; whole = refl; begins = refl }
text_begins (by_mode r c) = record { byte = 37; rest = 40 ∷ (text r ++ 44 ∷ (text c ++ 41 ∷ [])); whole = refl; begins = refl }
text_begins (map k v) = record { byte = 91; rest = text k ++ 58 ∷ (text v ++ 93 ∷ []); whole = refl; begins = refl }
text_begins (tuple ps) = record { byte = 40; rest = listed (part_texts ps) ++ 41 ∷ []; whole = refl; begins = refl }
text_begins (tuple_structure n ps) = name_begun_with n (40 ∷ (listed (part_texts ps) ++ 41 ∷ []))
text_begins (enumeration vs) = record { byte = 60; rest = listed (variant_texts vs) ++ 62 ∷ []; whole = refl; begins = refl }
text_begins (reference n) = record { byte = 64; rest = name_text n; whole = refl; begins = refl }
text_begins (definitions h f) = record { byte = 38; rest = in_parens (definition_texts h) ++ text f; whole = refl; begins = refl }
text_begins (newtype n f) = name_begun_with n (61 ∷ text f)
text_begins (unit_structure n) = name_begun_with n (33 ∷ [])
text_begins (structure dropped [] fs) = record { byte = 123; rest = listed (field_texts fs) ++ 125 ∷ []; whole = refl; begins = refl }
text_begins (structure denied [] fs) = record { byte = 123; rest = 33 ∷ (listed (field_texts fs) ++ 125 ∷ []); whole = refl; begins = refl }
text_begins (structure u (b ∷ bs) fs) = name_begun_with (b ∷ bs) (opening_struct u ++ (listed (field_texts fs) ++ 125 ∷ []))

-- inside 512 others
deep_read : (f : Form) (rest : Utf8) (at : ℕ) (st : List Level) → nat_le 512 (length st) ≡ true → read at (Form_due, st) (text f ++ rest) ≡ Err (Refused (record { met = at + 1; place = at; cause = TooDeep }))
deep_read f rest at st d =
    let t = text_begins f in
    ap (λ xs. read at (Form_due, st) (xs ++ rest)) t.whole
    ∙ ap (λ r. r >>= λ u. finish (at + length ((t.byte ∷ t.rest) ++ rest)) u.0 u.1) (run_refused at Form_due st t.byte (t.rest ++ rest) _ (deep_step t.byte at st t.begins d))

deep_refusal : (at around : ℕ) (x : Option MakerRefusal) → nat_le 512 around ≡ true → or_else (too_deep at around) x ≡ Some (record { met = at + 1; place = at; cause = TooDeep })
deep_refusal at around x d = rw d refl

shallow_refusal : (at around : ℕ) (x : Option MakerRefusal) → nat_le 512 around ≡ false → or_else (too_deep at around) x ≡ x
shallow_refusal at around x d = rw d refl

-- a form that is not too deep is read: what is refused inside it, and what its maker says behind its last byte
by_depth : (t : Bool) (f : Form) (rest : Utf8) (at : ℕ) (st : List Level) (inside : Option MakerRefusal) → nat_le 512 (length st) ≡ t → first_refusal at (length st) f ≡ form_refusal at (length st) f inside
    → (nat_le 512 (length st) ≡ false → read at (Form_due, st) (text f ++ rest) ≡ settle (or_else inside (refusal_of (at + length (text f)) at (made_form f))) (read (at + length (text f)) (Done f, st) rest))
    → read at (Form_due, st) (text f ++ rest) ≡ settle (first_refusal at (length st) f) (read (at + length (text f)) (Done f, st) rest)
by_depth true f rest at st inside d is shallow =
    deep_read f rest at st d ∙ sym (ap (λ o. settle o (read (at + length (text f)) (Done f, st) rest)) (is ∙ deep_refusal at (length st) (or_else inside (refusal_of (at + length (text f)) at (made_form f))) d))
by_depth false f rest at st inside d is shallow =
    shallow d ∙ sym (ap (λ o. settle o (read (at + length (text f)) (Done f, st) rest)) (is ∙ shallow_refusal at (length st) (or_else inside (refusal_of (at + length (text f)) at (made_form f))) d))

-- how a form is read
abbrev ReadsForm : Form → Type 0
ReadsForm f = (rest : Utf8) (at : ℕ) (st : List Level) → goes_on rest ≡ false → read at (Form_due, st) (text f ++ rest) ≡ settle (first_refusal at (length st) f) (read (at + length (text f)) (Done f, st) rest)

-- inside one more form
inner_read : (f : Form) (l : Level) (st : List Level) (rest : Utf8) (at : ℕ) → ReadsForm f → goes_on rest ≡ false
    → read at (Form_due, l ∷ st) (text f ++ rest) ≡ settle (first_refusal at (length st + 1) f) (read (at + length (text f)) (Done f, l ∷ st) rest)
inner_read f l st rest at form ends =
    let around : length (l ∷ st) ≡ length st + 1 = omega arith in
    form rest at (l ∷ st) ends ∙ ap (λ i. settle (first_refusal at i f) (read (at + length (text f)) (Done f, l ∷ st) rest)) around

-- and what is answered behind it
around_read : (f : Form) (l : Level) (st : List Level) (rest : Utf8) (at : ℕ) (r : Option MakerRefusal) (last : Result Form Refusal) → ReadsForm f → goes_on rest ≡ false
    → read (at + length (text f)) (Done f, l ∷ st) rest ≡ settle r last
    → read at (Form_due, l ∷ st) (text f ++ rest) ≡ settle (or_else (first_refusal at (length st + 1) f) r) last
around_read f l st rest at r last form ends more =
    inner_read f l st rest at form ends ∙ ap (settle (first_refusal at (length st + 1) f)) more ∙ settle_both (first_refusal at (length st + 1) f) r last

prefixed_read : (p : Prefix) (f : Form) (st : List Level) (rest : Utf8) (inner at : ℕ) → ReadsForm f → goes_on rest ≡ false → inner + length (text f) ≡ at + length (text (prefixed p f))
    → read inner (Form_due, In_prefix at p ∷ st) (text f ++ rest) ≡ settle (or_else (first_refusal inner (length st + 1) f) (refusal_of (at + length (text (prefixed p f))) at (made_form (prefixed p f)))) (read (at + length (text (prefixed p f))) (Done (prefixed p f), st) rest)
prefixed_read p f st rest inner at form ends place =
    let end = inner + length (text f) in
    around_read f (In_prefix at p) st rest inner (refusal_of end at (made_form (prefixed p f))) (read end (Done (prefixed p f), st) rest) form ends (prefix_read p f end at st rest)
    ∙ moved end (at + length (text (prefixed p f))) (first_refusal inner (length st + 1) f) (Closed_form at (prefixed p f)) st rest place

-- ---- brackets with one item or two

sequence_step : (f : Form) (place : ℕ) (st : List Level) (at : ℕ) → step at (Done f) (In_brackets place ∷ st) 93 ≡ form_closed at place st (made_form (sequence f))
unfolding step form_ended wrapped
sequence_step f place st at = refl

-- the colon of a map that begins at the place, and its closing bracket
key_step : (k : Form) (place : ℕ) (st : List Level) (at : ℕ) → step at (Done k) (In_brackets place ∷ st) 58 ≡ Ok (Form_due, In_map place k ∷ st)
unfolding step form_ended wrapped
key_step k place st at = refl

value_step : (k v : Form) (place : ℕ) (st : List Level) (at : ℕ) → step at (Done v) (In_map place k ∷ st) 93 ≡ form_closed at place st (made_form (map k v))
unfolding step form_ended wrapped
value_step k v place st at = refl

map_length : (k v : Form) → length (text (map k v)) ≡ 1 + length (text k) + 1 + length (text v) + 1
map_length k v = omega (arith, length-append (text k) (58 ∷ (text v ++ 93 ∷ [])), length-append (text v) (93 ∷ []))

map_group : (key value rest : Utf8) → (key ++ 58 ∷ (value ++ 93 ∷ [])) ++ rest ≡ key ++ 58 ∷ (value ++ 93 ∷ rest)
map_group key value rest = append_assoc key (58 ∷ (value ++ 93 ∷ [])) rest ∙ ap (λ xs. key ++ 58 ∷ xs) (append_assoc value (93 ∷ []) rest)

-- the parenthesis of two forms that begin at the place, their comma, and their closing parenthesis
pair_step : (place : ℕ) (st : List Level) (at : ℕ) → step at (Behind_sign Percent place) st 40 ≡ Ok (Form_due, In_pair place ∷ st)
unfolding step
pair_step place st at = refl

readable_step : (r : Form) (place : ℕ) (st : List Level) (at : ℕ) → step at (Done r) (In_pair place ∷ st) 44 ≡ Ok (Form_due, In_compact place r ∷ st)
unfolding step form_ended wrapped
readable_step r place st at = refl

compact_step : (r c : Form) (place : ℕ) (st : List Level) (at : ℕ) → step at (Done c) (In_compact place r ∷ st) 41 ≡ form_closed at place st (made_form (by_mode r c))
unfolding step form_ended wrapped
compact_step r c place st at = refl

pair_length : (r c : Form) → length (text (by_mode r c)) ≡ 2 + length (text r) + 1 + length (text c) + 1
pair_length r c = omega (arith, length-append (text r) (44 ∷ (text c ++ 41 ∷ [])), length-append (text c) (41 ∷ []))

pair_group : (readable compact rest : Utf8) → (readable ++ 44 ∷ (compact ++ 41 ∷ [])) ++ rest ≡ readable ++ 44 ∷ (compact ++ 41 ∷ rest)
pair_group readable compact rest = append_assoc readable (44 ∷ (compact ++ 41 ∷ [])) rest ∙ ap (λ xs. readable ++ 44 ∷ xs) (append_assoc compact (41 ∷ []) rest)

-- ---- references and definitions

reference_begins : (place at : ℕ) (st : List Level) → BeginsName at (Behind_sign At place) (Reference_at place) st
unfolding step
reference_begins place at st b k = rw k refl

reference_done : (at place : ℕ) (n : Utf8) (st : List Level) → finish at (name_mode (Reference_at place) n) st ≡ finish at (Done (reference n)) st
unfolding finish
reference_done at place n st = by_name (bare n) where
  by_name : (t : Bool) → finish at (cond t (Bare (Reference_at place) n) (Named (Reference_at place) n)) st ≡ finish at (Done (reference n)) st
  by_name true = refl
  by_name false = refl

done_step : (at : ℕ) (f : Form) (st : List Level) (b : ℕ) → step at (Done f) st b ≡ form_ended at f st b
unfolding step
done_step at f st b = refl

-- behind the name of a reference, where it does not go on
reference_read : (rest : Utf8) (n : Utf8) (at place : ℕ) (st : List Level) → goes_on rest ≡ false → read at (name_mode (Reference_at place) n, st) rest ≡ read at (Done (reference n), st) rest
unfolding run
reference_read [] n at place st ends = reference_done (at + 0) place n st
reference_read (b ∷ bs) n at place st ends =
    let both = or_false (in_bare b) (names_form b) ends in
    read_same at (name_mode (Reference_at place) n) (Done (reference n)) st st b bs (name_step at (Reference_at place) n st b both.0 tt ∙ sym (done_step at (reference n) st b))

table_step : (place : ℕ) (st : List Level) (at : ℕ) → step at (Behind_sign Ampersand place) st 40 ≡ Ok (Item_due (Table place no_fields), st)
unfolding step
table_step place st at = refl

table_group : (items body rest : Utf8) → ((40 ∷ (items ++ 41 ∷ [])) ++ body) ++ rest ≡ 40 ∷ (items ++ 41 ∷ (body ++ rest))
table_group items body rest = let inner : ((items ++ 41 ∷ []) ++ body) ++ rest ≡ items ++ 41 ∷ (body ++ rest) = simp append_assoc in ap (λ xs. 40 ∷ xs) inner

-- ---- groups

group_regrouped : (pre opens items rest : Utf8) (c : ℕ) → (pre ++ (opens ++ (items ++ c ∷ []))) ++ rest ≡ pre ++ (opens ++ (items ++ c ∷ rest))
group_regrouped pre opens items rest c = simp append_assoc

-- a group of these items is read, which opens so behind these bytes
group_read : (pre opens : Utf8) (inner : ℕ) (g h : Group) (f : Form) (xs : List Utf8) (refused : ℕ → Option MakerRefusal) (rest : Utf8) (at : ℕ) (st : List Level)
    → text f ≡ pre ++ (opens ++ (listed xs ++ closing h ∷ [])) → inner ≡ at + length pre + length opens → closed h ≡ Closed_form at f
    → ((more : Utf8) → read at (Form_due, st) (pre ++ (opens ++ more)) ≡ read inner (Item_due g, st) more) → ReadsAll st g xs refused h
    → read at (Form_due, st) (text f ++ rest) ≡ settle (or_else (refused inner) (refusal_of (at + length (text f)) at (made_form f))) (read (at + length (text f)) (Done f, st) rest)
group_read pre opens inner g h f xs refused rest at st whole place is opened all =
    let items = listed xs in
    let end = at + length (text f) in
    ap (λ ys. read at (Form_due, st) (ys ++ rest)) whole
    ∙ ap (read at (Form_due, st)) (group_regrouped pre opens items rest (closing h))
    ∙ opened (items ++ closing h ∷ rest) ∙ all rest inner
    ∙ moved (inner + length items + 1) end (refused inner) (closed h) st rest
    (omega (arith, place, ap length whole, length-append pre (opens ++ (items ++ closing h ∷ [])), length-append opens (items ++ closing h ∷ []), length-append items (closing h ∷ [])))
    ∙ ap (λ c. settle (or_else (refused inner) (closed_refusal end c)) (read end (after c st) rest)) is

-- without a name before the bracket
nameless_read : (b : ℕ) (g h : Group) (f : Form) (xs : List Utf8) (refused : ℕ → Option MakerRefusal) (rest : Utf8) (at : ℕ) (st : List Level)
    → text f ≡ b ∷ (listed xs ++ closing h ∷ []) → closed h ≡ Closed_form at f → step at Form_due st b ≡ Ok (Item_due g, st) → ReadsAll st g xs refused h
    → read at (Form_due, st) (text f ++ rest) ≡ settle (or_else (refused (at + 1)) (refusal_of (at + length (text f)) at (made_form f))) (read (at + length (text f)) (Done f, st) rest)
nameless_read b g h f xs refused rest at st whole is opens all = group_read [] (b ∷ []) (at + 1) g h f xs refused rest at st whole (omega arith) is (λ more. read_step at Form_due st b more (Item_due g, st) opens) all

-- behind a name
named_read : (n : Utf8) (b : ℕ) (g h : Group) (f : Form) (xs : List Utf8) (refused : ℕ → Option MakerRefusal) (rest : Utf8) (at : ℕ) (st : List Level)
    → nat_le 512 (length st) ≡ false → text f ≡ name_text n ++ b ∷ (listed xs ++ closing h ∷ []) → closed h ≡ Closed_form at f
    → step (at + length (name_text n)) (name_mode (Form_at at) n) st b ≡ Ok (Item_due g, st) → ReadsAll st g xs refused h
    → read at (Form_due, st) (text f ++ rest) ≡ settle (or_else (refused (at + length (name_text n) + 1)) (refusal_of (at + length (text f)) at (made_form f))) (read (at + length (text f)) (Done f, st) rest)
named_read n b g h f xs refused rest at st d whole is opens all =
    group_read (name_text n) (b ∷ []) (at + length (name_text n) + 1) g h f xs refused rest at st whole refl is (λ more. name_and n b more at st (Item_due g, st) d opens) all

-- the items of a variant are read
variant_read : (b : ℕ) (e : OpenEnum) (n : Utf8) (c : Content) (g h : Group) (xs : List Utf8) (refused : ℕ → Option MakerRefusal) (rest : Utf8) (at : ℕ) (st : List Level)
    → content_text c ≡ b ∷ (listed xs ++ closing h ∷ []) → closed h ≡ Closed_variant (grown_enum e n c) → step at (name_mode (Item_of (Angles e)) n) st b ≡ Ok (Item_due g, st) → ReadsAll st g xs refused h
    → read at (name_mode (Item_of (Angles e)) n, st) (content_text c ++ rest) ≡ settle (refused (at + 1)) (read (at + length (content_text c)) (Item_done (Angles (grown_enum e n c)), st) rest)
variant_read b e n c g h xs refused rest at st whole is opens all =
    let items = listed xs in
    let m = name_mode (Item_of (Angles e)) n in
    let end = at + length (content_text c) in
    ap (λ ys. read at (m, st) (ys ++ rest)) whole
    ∙ ap (λ ys. read at (m, st) (b ∷ ys)) (append_assoc items (closing h ∷ []) rest)
    ∙ read_step at m st b (items ++ closing h ∷ rest) (Item_due g, st) opens ∙ all rest (at + 1)
    ∙ moved (at + 1 + length items + 1) end (refused (at + 1)) (closed h) st rest (omega (arith, ap length whole, length-append items (closing h ∷ [])))
    ∙ ap (λ k. settle (or_else (refused (at + 1)) (closed_refusal end k)) (read end (after k st) rest)) is
    ∙ no_more_refused (refused (at + 1)) (read end (Item_done (Angles (grown_enum e n c)), st) rest)

-- ---- items, a row for each kind

module _ {c : ℕ} {of : Fields → Group} (holds : HoldsFields c of) where
  field_item : (n : Utf8) (f : Form) (gs : Fields) (st : List Level) → ReadsForm f
      → ReadsItem st (of gs) (name_text n ++ c ∷ text f) (λ at. first_refusal (at + length (name_text n) + 1) (length st + 1) f) (of (push_field gs n f))
  field_item n f gs st form =
      let g : Group = of gs in
      record {
        state = (Done f, In_item g n ∷ st);
        behind = subst (λ h. BehindItem (Done f, In_item g n ∷ st) h st) (holds.grows gs n f) (behind_form g n f st);
        reads = λ rest at ends.
            let inner = at + length (name_text n) + 1 in
            let end : inner + length (text f) ≡ at + length (name_text n ++ c ∷ text f) = omega (arith, length-append (name_text n) (c ∷ text f)) in
            ap (read at (Item_due g, st)) (append_assoc (name_text n) (c ∷ text f) rest)
            ∙ read_name n (c ∷ (text f ++ rest)) at (Item_due g) (Item_of g) st (holds.begins at gs st)
            ∙ read_step (at + length (name_text n)) (name_mode (Item_of g) n) st c (text f ++ rest) _ (holds.labels (at + length (name_text n)) gs n st)
            ∙ inner_read f (In_item g n) st rest inner form ends
            ∙ ap (λ i. settle (first_refusal inner (length st + 1) f) (read i (Done f, In_item g n ∷ st) rest)) end;
      }

part_item : (f : Form) (h : Holder) (gs : Parts) (st : List Level) → ReadsForm f → ReadsItem st (Parens h gs) (text f) (λ at. first_refusal at (length st + 1) f) (Parens h (push_part gs f))
part_item f h gs st form =
    let g : Group = Parens h gs in
    let t = text_begins f in
    record {
      state = (Done f, In_item g [] ∷ st);
      behind = behind_form g [] f st;
      reads = λ rest at ends.
          ap (λ xs. read at (Item_due g, st) (xs ++ rest)) t.whole
          ∙ read_same at (Item_due g) Form_due st (In_item g [] ∷ st) t.byte (t.rest ++ rest) (part_begins at t.byte h gs st t.begins)
          ∙ sym (ap (λ xs. read at (Form_due, In_item g [] ∷ st) (xs ++ rest)) t.whole)
          ∙ inner_read f (In_item g []) st rest at form ends;
    }

-- the state behind a variant
abbrev variant_state : Content → OpenEnum → Utf8 → List Level → State
variant_state unit_content e n st = (name_mode (Item_of (Angles e)) n, st)
variant_state (newtype_content f) e n st = (Done f, In_item (Angles e) n ∷ st)
variant_state (tuple_content ps) e n st = (Item_done (Angles (grown_enum e n (tuple_content ps))), st)
variant_state (struct_content fs) e n st = (Item_done (Angles (grown_enum e n (struct_content fs))), st)

variant_behind : (c : Content) (e : OpenEnum) (n : Utf8) (st : List Level) → BehindItem (variant_state c e n st) (Angles (grown_enum e n c)) st
variant_behind unit_content e n st = record { next = λ at. name_step at (Item_of (Angles e)) n st 44 refl tt; ends = λ at. name_step at (Item_of (Angles e)) n st 62 refl tt }
variant_behind (newtype_content f) e n st = behind_form (Angles e) n f st
variant_behind (tuple_content ps) e n st = behind_done (Angles (grown_enum e n (tuple_content ps))) st
variant_behind (struct_content fs) e n st = behind_done (Angles (grown_enum e n (struct_content fs))) st

-- how what a variant has is read, behind its name
abbrev ReadsContent : Content → Type 0
ReadsContent c =
    (e : OpenEnum) (n rest : Utf8) (at : ℕ) (st : List Level) → goes_on rest ≡ false
    → read at (name_mode (Item_of (Angles e)) n, st) (content_text c ++ rest) ≡ settle (content_refusal at (length st + 1) c) (read (at + length (content_text c)) (variant_state c e n st) rest)

variant_item : (n : Utf8) (c : Content) (e : OpenEnum) (st : List Level) → ReadsContent c
    → ReadsItem st (Angles e) (name_text n ++ content_text c) (λ at. content_refusal (at + length (name_text n)) (length st + 1) c) (Angles (grown_enum e n c))
variant_item n c e st content =
    let g : Group = Angles e in
    record {
      state = variant_state c e n st;
      behind = variant_behind c e n st;
      reads = λ rest at ends.
          let inner = at + length (name_text n) in
          let end : inner + length (content_text c) ≡ at + length (name_text n ++ content_text c) = omega (arith, length-append (name_text n) (content_text c)) in
          ap (read at (Item_due g, st)) (append_assoc (name_text n) (content_text c) rest)
          ∙ read_name n (content_text c ++ rest) at (Item_due g) (Item_of g) st (variant_begins at e st)
          ∙ content e n rest inner st ends
          ∙ ap (λ i. settle (content_refusal inner (length st + 1) c) (read i (variant_state c e n st) rest)) end;
    }

-- one, and those after it
module _ {c : ℕ} {of : Fields → Group} (holds : HoldsFields c of) where
  field_and : (n : Utf8) (f : Form) (fs : Fields) (gs : Fields) (st : List Level) → ReadsForm f
      → ReadsMore st (of (push_field gs n f)) (named_texts c fs) (λ at. fields_refusal at (length st + 1) fs) (of (joined (push_field gs n f) fs))
      → ReadsAll st (of gs) (named_texts c (field n f fs)) (λ at. fields_refusal at (length st + 1) (field n f fs)) (of (joined gs (field n f fs)))
  field_and n f fs gs st form more =
      let first : ℕ → Option MakerRefusal = λ at. first_refusal (at + length (name_text n) + 1) (length st + 1) f in
      let next : (at : ℕ) → at + length (name_text n ++ c ∷ text f) + 1 ≡ at + length (name_text n) + 1 + length (text f) + 1 = λ at. omega (arith, length-append (name_text n) (c ∷ text f)) in
      subst (λ (x : (ℕ → Option MakerRefusal) × Fields). ReadsAll st (of gs) (named_texts c (field n f fs)) x.0 (of x.1))
      (λ i. (λ at. or_else (first at) (fields_refusal (next at i) (length st + 1) fs), joined-assoc gs (field n f no_fields) fs i))
      (item_and st (of gs) (of (push_field gs n f)) (of (joined (push_field gs n f) fs)) (name_text n ++ c ∷ text f) (named_texts c fs) first (λ at. fields_refusal at (length st + 1) fs) (field_item holds n f gs st form) more)

part_and : (f : Form) (ps : Parts) (h : Holder) (gs : Parts) (st : List Level) → ReadsForm f
    → ReadsMore st (Parens h (push_part gs f)) (part_texts ps) (λ at. parts_refusal at (length st + 1) ps) (Parens h (joined_parts (push_part gs f) ps))
    → ReadsAll st (Parens h gs) (part_texts (part f ps)) (λ at. parts_refusal at (length st + 1) (part f ps)) (Parens h (joined_parts gs (part f ps)))
part_and f ps h gs st form more =
    subst (λ ks. ReadsAll st (Parens h gs) (part_texts (part f ps)) (λ at. parts_refusal at (length st + 1) (part f ps)) (Parens h ks)) (joined_parts-assoc gs (part f no_parts) ps)
    (item_and st (Parens h gs) (Parens h (push_part gs f)) (Parens h (joined_parts (push_part gs f) ps)) (text f) (part_texts ps) _ (λ at. parts_refusal at (length st + 1) ps) (part_item f h gs st form) more)

-- the enum with more variants
abbrev with_variants : OpenEnum → Variants → Group
with_variants e vs = Angles (record { place = e.place; variants = joined_variants e.variants vs })

variant_and : (n : Utf8) (c : Content) (vs : Variants) (e : OpenEnum) (st : List Level) → ReadsContent c
    → ReadsMore st (Angles (grown_enum e n c)) (variant_texts vs) (λ at. variants_refusal at (length st + 1) vs) (with_variants (grown_enum e n c) vs)
    → ReadsAll st (Angles e) (variant_texts (variant n c vs)) (λ at. variants_refusal at (length st + 1) (variant n c vs)) (with_variants e (variant n c vs))
variant_and n c vs e st content more =
    subst (λ ws. ReadsAll st (Angles e) (variant_texts (variant n c vs)) (λ at. variants_refusal at (length st + 1) (variant n c vs)) (Angles (record { place = e.place; variants = ws }))) (joined_variants-assoc e.variants (variant n c no_variants) vs)
    (item_and st (Angles e) (Angles (grown_enum e n c)) (with_variants (grown_enum e n c) vs) (name_text n ++ content_text c) (variant_texts vs) _ (λ at. variants_refusal at (length st + 1) vs) (variant_item n c e st content) more)

mutual
  pub reads_form : (f : Form) (rest : Utf8) (at : ℕ) (st : List Level) → goes_on rest ≡ false → read at (Form_due, st) (text f ++ rest) ≡ settle (first_refusal at (length st) f) (read (at + length (text f)) (Done f, st) rest)
  reads_form (leaf l) rest at st ends = by_depth (nat_le 512 (length st)) (leaf l) rest at st None refl refl (λ d. word_read l rest at st d ∙ leaf_read rest l (at + length (word l)) at st ends)
  reads_form (optional f) rest at st ends =
      by_depth (nat_le 512 (length st)) (optional f) rest at st (first_refusal (at + 1) (length st + 1) f) refl refl
      (λ d. read_step at Form_due st 63 (text f ++ rest) _ (form_step 63 at st refl d) ∙ prefixed_read Option_prefix f st rest (at + 1) at (reads_form f) ends (omega arith))
  reads_form (lossy f) rest at st ends =
      by_depth (nat_le 512 (length st)) (lossy f) rest at st (first_refusal (at + 1) (length st + 1) f) refl refl
      (λ d. read_step at Form_due st 126 (text f ++ rest) _ (form_step 126 at st refl d) ∙ prefixed_read Lossy_prefix f st rest (at + 1) at (reads_form f) ends (omega arith))
  reads_form (human_readable f) rest at st ends =
      by_depth (nat_le 512 (length st)) (human_readable f) rest at st (first_refusal (at + 1) (length st + 1) f) refl refl
      (λ d. read_step at Form_due st 94 (text f ++ rest) _ (form_step 94 at st refl d) ∙ prefixed_read Readable_prefix f st rest (at + 1) at (reads_form f) ends (omega arith))
  reads_form (newtype n f) rest at st ends =
      let inner = at + length (name_text n) + 1 in
      by_depth (nat_le 512 (length st)) (newtype n f) rest at st (first_refusal inner (length st + 1) f) refl refl
      (λ d. ap (read at (Form_due, st)) (append_assoc (name_text n) (61 ∷ text f) rest)
      ∙ name_and n 61 (text f ++ rest) at st (Form_due, In_prefix at (Newtype_prefix n) ∷ st) d (name_step (at + length (name_text n)) (Form_at at) n st 61 refl refl)
      ∙ prefixed_read (Newtype_prefix n) f st rest inner at (reads_form f) ends (omega (arith, length-append (name_text n) (61 ∷ text f))))
  reads_form (reference n) rest at st ends =
      by_depth (nat_le 512 (length st)) (reference n) rest at st None refl refl
      (λ d. read_step at Form_due st 64 (name_text n ++ rest) (Behind_sign At at, st) (form_step 64 at st refl d)
      ∙ read_name n rest (at + 1) (Behind_sign At at) (Reference_at at) st (reference_begins at (at + 1) st)
      ∙ reference_read rest n (at + 1 + length (name_text n)) at st ends
      ∙ ap (λ i. read i (Done (reference n), st) rest) (let e : at + 1 + length (name_text n) ≡ at + length (text (reference n)) = omega arith in e))
  reads_form (definitions h f) rest at st ends =
      let items = listed (definition_texts h) in
      let body = at + 1 + length (in_parens (definition_texts h)) in
      let p = Definitions_prefix h in
      let a = fields_refusal (at + 2) (length st + 1) h in
      let b = first_refusal body (length st + 1) f in
      let made = refusal_of (at + length (text (definitions h f))) at (made_form (definitions h f)) in
      let last = read (at + length (text (definitions h f))) (Done (definitions h f), st) rest in
      by_depth (nat_le 512 (length st)) (definitions h f) rest at st (or_else a b) refl refl
      (λ d. read_step at Form_due st 38 ((in_parens (definition_texts h) ++ text f) ++ rest) (Behind_sign Ampersand at, st) (form_step 38 at st refl d)
      ∙ ap (read (at + 1) (Behind_sign Ampersand at, st)) (table_group items (text f) rest)
      ∙ read_step (at + 1) (Behind_sign Ampersand at) st 40 (items ++ 41 ∷ (text f ++ rest)) (Item_due (Table at no_fields), st) (table_step at st (at + 1))
      ∙ ap (λ i. read i (Item_due (Table at no_fields), st) (items ++ 41 ∷ (text f ++ rest))) (let two : at + 1 + 1 ≡ at + 2 = omega arith in two)
      ∙ reads_fields (table_holds at) h st (text f ++ rest) (at + 2)
      ∙ no_more_refused a (read (at + 2 + length items + 1) (Form_due, In_prefix at p ∷ st) (text f ++ rest))
      ∙ ap (λ i. settle a (read i (Form_due, In_prefix at p ∷ st) (text f ++ rest))) (let e : at + 2 + length items + 1 ≡ body = omega (arith, length-append items (41 ∷ [])) in e)
      ∙ ap (settle a) (prefixed_read p f st rest body at (reads_form f) ends (let e : body + length (text f) ≡ at + length (text (definitions h f)) = omega (arith, length-append (in_parens (definition_texts h)) (text f), length-append (items ++ 41 ∷ []) (text f), length-append items (41 ∷ [])) in e))
      ∙ settle_all a b made last)
  reads_form (unit_structure n) rest at st ends =
      by_depth (nat_le 512 (length st)) (unit_structure n) rest at st None refl refl
      (λ d. ap (read at (Form_due, st)) (append_assoc (name_text n) (33 ∷ []) rest)
      ∙ name_and n 33 rest at st (Done (unit_structure n), st) d (name_step (at + length (name_text n)) (Form_at at) n st 33 refl refl)
      ∙ ap (λ i. read i (Done (unit_structure n), st) rest) (let e : at + length (name_text n) + 1 ≡ at + length (text (unit_structure n)) = omega (arith, length-append (name_text n) (33 ∷ [])) in e))
  reads_form (sequence f) rest at st ends =
      let end = at + 1 + length (text f) in
      let a = first_refusal (at + 1) (length st + 1) f in
      by_depth (nat_le 512 (length st)) (sequence f) rest at st a refl refl
      (λ d. read_step at Form_due st 91 ((text f ++ 93 ∷ []) ++ rest) _ (form_step 91 at st refl d)
      ∙ ap (read (at + 1) (Form_due, In_brackets at ∷ st)) (append_assoc (text f) (93 ∷ []) rest)
      ∙ around_read f (In_brackets at) st (93 ∷ rest) (at + 1) (refusal_of (end + 1) at (made_form (sequence f))) (read (end + 1) (Done (sequence f), st) rest) (reads_form f) refl
      (closed_read (sequence f) (Done f, In_brackets at ∷ st) st end at 93 rest (sequence_step f at st end))
      ∙ moved (end + 1) (at + length (text (sequence f))) a (Closed_form at (sequence f)) st rest (omega (arith, length-append (text f) (93 ∷ []))))
  reads_form (by_mode r c) rest at st ends =
      let readable = at + 2 in
      let comma = readable + length (text r) in
      let compact = comma + 1 in
      let end = compact + length (text c) in
      let a = first_refusal readable (length st + 1) r in
      let b = first_refusal compact (length st + 1) c in
      let made = refusal_of (end + 1) at (made_form (by_mode r c)) in
      let last = read (end + 1) (Done (by_mode r c), st) rest in
      by_depth (nat_le 512 (length st)) (by_mode r c) rest at st (or_else a b) refl refl
      (λ d. read_step at Form_due st 37 ((40 ∷ (text r ++ 44 ∷ (text c ++ 41 ∷ []))) ++ rest) _ (form_step 37 at st refl d)
      ∙ read_step (at + 1) (Behind_sign Percent at) st 40 ((text r ++ 44 ∷ (text c ++ 41 ∷ [])) ++ rest) _ (pair_step at st (at + 1))
      ∙ ap (λ i. read i (Form_due, In_pair at ∷ st) ((text r ++ 44 ∷ (text c ++ 41 ∷ [])) ++ rest)) (let two : at + 1 + 1 ≡ at + 2 = omega arith in two)
      ∙ ap (read readable (Form_due, In_pair at ∷ st)) (pair_group (text r) (text c) rest)
      ∙ around_read r (In_pair at) st (44 ∷ (text c ++ 41 ∷ rest)) readable (or_else b made) last (reads_form r) refl
      (read_step comma (Done r) (In_pair at ∷ st) 44 (text c ++ 41 ∷ rest) _ (readable_step r at st comma)
      ∙ around_read c (In_compact at r) st (41 ∷ rest) compact made last (reads_form c) refl
      (closed_read (by_mode r c) (Done c, In_compact at r ∷ st) st end at 41 rest (compact_step r c at st end)))
      ∙ sym (settle_both a (or_else b made) last) ∙ settle_all a b made last
      ∙ moved (end + 1) (at + length (text (by_mode r c))) (or_else a b) (Closed_form at (by_mode r c)) st rest (omega (arith, pair_length r c)))
  reads_form (map k v) rest at st ends =
      let key = at + 1 in
      let colon = key + length (text k) in
      let value = colon + 1 in
      let end = value + length (text v) in
      let a = first_refusal key (length st + 1) k in
      let b = first_refusal value (length st + 1) v in
      let made = refusal_of (end + 1) at (made_form (map k v)) in
      let last = read (end + 1) (Done (map k v), st) rest in
      by_depth (nat_le 512 (length st)) (map k v) rest at st (or_else a b) refl refl
      (λ d. read_step at Form_due st 91 ((text k ++ 58 ∷ (text v ++ 93 ∷ [])) ++ rest) _ (form_step 91 at st refl d)
      ∙ ap (read key (Form_due, In_brackets at ∷ st)) (map_group (text k) (text v) rest)
      ∙ around_read k (In_brackets at) st (58 ∷ (text v ++ 93 ∷ rest)) key (or_else b made) last (reads_form k) refl
      (read_step colon (Done k) (In_brackets at ∷ st) 58 (text v ++ 93 ∷ rest) _ (key_step k at st colon)
      ∙ around_read v (In_map at k) st (93 ∷ rest) value made last (reads_form v) refl
      (closed_read (map k v) (Done v, In_map at k ∷ st) st end at 93 rest (value_step k v at st end)))
      ∙ sym (settle_both a (or_else b made) last) ∙ settle_all a b made last
      ∙ moved (end + 1) (at + length (text (map k v))) (or_else a b) (Closed_form at (map k v)) st rest (omega (arith, map_length k v)))
  reads_form (tuple ps) rest at st ends =
      by_depth (nat_le 512 (length st)) (tuple ps) rest at st (parts_refusal (at + 1) (length st + 1) ps) refl refl
      (λ d. nameless_read 40 (Parens (Nameless_at at) no_parts) (Parens (Nameless_at at) ps) (tuple ps) (part_texts ps) (λ i. parts_refusal i (length st + 1) ps) rest at st refl refl (form_step 40 at st refl d) (reads_parts ps (Nameless_at at) st))
  reads_form (tuple_structure n ps) rest at st ends =
      by_depth (nat_le 512 (length st)) (tuple_structure n ps) rest at st (parts_refusal (at + length (name_text n) + 1) (length st + 1) ps) refl refl
      (λ d. named_read n 40 (Parens (Named_at at n) no_parts) (Parens (Named_at at n) ps) (tuple_structure n ps) (part_texts ps) (λ i. parts_refusal i (length st + 1) ps) rest at st d refl refl
      (name_step (at + length (name_text n)) (Form_at at) n st 40 refl refl) (reads_parts ps (Named_at at n) st))
  reads_form (structure dropped [] fs) rest at st ends =
      let inner = at + length (struct_name_text []) + length (opening_struct dropped) in
      let open_braces : Mode = Item_due (Braces (Nameless_at at) no_fields) in
      by_depth (nat_le 512 (length st)) (structure dropped [] fs) rest at st (fields_refusal inner (length st + 1) fs) refl refl
      (λ d. group_read [] (123 ∷ []) inner (Braces (Nameless_at at) no_fields) (Braces (Nameless_at at) fs) (structure dropped [] fs) (field_texts fs) (λ i. fields_refusal i (length st + 1) fs) rest at st refl refl refl
      (λ more. read_step at Form_due st 123 more (open_braces, st) (form_step 123 at st refl d) ∙ ap (λ i. read i (open_braces, st) more) (omega arith)) (reads_fields (braces_hold (Nameless_at at)) fs st))
  reads_form (structure denied [] fs) rest at st ends =
      let inner = at + length (struct_name_text []) + length (opening_struct denied) in
      let open_braces : Mode = Item_due (Braces (Nameless_at at) no_fields) in
      let marked : Mode = Item_due (Closed_braces at [] no_fields) in
      by_depth (nat_le 512 (length st)) (structure denied [] fs) rest at st (fields_refusal inner (length st + 1) fs) refl refl
      (λ d. group_read [] (123 ∷ 33 ∷ []) inner (Closed_braces at [] no_fields) (Closed_braces at [] fs) (structure denied [] fs) (field_texts fs) (λ i. fields_refusal i (length st + 1) fs) rest at st refl refl refl
      (λ more. read_step at Form_due st 123 (33 ∷ more) (open_braces, st) (form_step 123 at st refl d) ∙ read_step (at + 1) open_braces st 33 more (marked, st) (mark_step (at + 1) at st)
      ∙ ap (λ i. read i (marked, st) more) (omega arith))
      (reads_fields (closed_braces_hold at []) fs st))
  reads_form (structure dropped (b ∷ bs) fs) rest at st ends =
      let n = b ∷ bs in
      by_depth (nat_le 512 (length st)) (structure dropped n fs) rest at st (fields_refusal (at + length (name_text n) + 1) (length st + 1) fs) refl refl
      (λ d. named_read n 123 (Braces (Named_at at n) no_fields) (Braces (Named_at at n) fs) (structure dropped n fs) (field_texts fs) (λ i. fields_refusal i (length st + 1) fs) rest at st d refl refl
      (name_step (at + length (name_text n)) (Form_at at) n st 123 refl refl) (reads_fields (braces_hold (Named_at at n)) fs st))
  reads_form (structure denied (b ∷ bs) fs) rest at st ends =
      let n = b ∷ bs in
      let named = at + length (name_text n) in
      let inner = named + length (opening_struct denied) in
      let open_braces : Mode = Item_due (Braces (Named_at at n) no_fields) in
      let marked : Mode = Item_due (Closed_braces at n no_fields) in
      by_depth (nat_le 512 (length st)) (structure denied n fs) rest at st (fields_refusal inner (length st + 1) fs) refl refl
      (λ d. group_read (name_text n) (123 ∷ 33 ∷ []) inner (Closed_braces at n no_fields) (Closed_braces at n fs) (structure denied n fs) (field_texts fs) (λ i. fields_refusal i (length st + 1) fs) rest at st refl refl refl
      (λ more. name_and n 123 (33 ∷ more) at st (open_braces, st) d (name_step named (Form_at at) n st 123 refl refl) ∙ read_step (named + 1) open_braces st 33 more (marked, st) (named_mark_step (named + 1) at n st)
      ∙ ap (λ i. read i (marked, st) more) (omega arith))
      (reads_fields (closed_braces_hold at n) fs st))
  reads_form (enumeration vs) rest at st ends =
      by_depth (nat_le 512 (length st)) (enumeration vs) rest at st (variants_refusal (at + 1) (length st + 1) vs) refl refl
      (λ d. nameless_read 60 (Angles (opened_enum at)) (with_variants (opened_enum at) vs) (enumeration vs) (variant_texts vs) (λ i. variants_refusal i (length st + 1) vs) rest at st refl refl (form_step 60 at st refl d) (reads_variants vs (opened_enum at) st refl))

  reads_fields : {c : ℕ} {of : Fields → Group} (holds : HoldsFields c of) (fs : Fields) (st : List Level) → ReadsAll st (of no_fields) (named_texts c fs) (λ at. fields_refusal at (length st + 1) fs) (of fs)
  reads_fields {of = of} holds no_fields st = none_at_all st (of no_fields) holds.empty
  reads_fields holds (field n f fs) st = field_and holds n f fs no_fields st (reads_form f) (more_fields holds fs (push_field no_fields n f) st)

  more_fields : {c : ℕ} {of : Fields → Group} (holds : HoldsFields c of) (fs gs : Fields) (st : List Level) → ReadsMore st (of gs) (named_texts c fs) (λ at. fields_refusal at (length st + 1) fs) (of (joined gs fs))
  more_fields {of = of} holds no_fields gs st = subst (λ ks. ReadsMore st (of gs) [] (λ _. None) (of ks)) (sym (joined-none gs)) (none_more st (of gs))
  more_fields {c = c} {of = of} holds (field n f fs) gs st =
      comma_and st (of gs) (of (joined gs (field n f fs))) (name_text n ++ c ∷ text f) (named_texts c fs) (λ at. fields_refusal at (length st + 1) (field n f fs)) (field_and holds n f fs gs st (reads_form f) (more_fields holds fs (push_field gs n f) st))

  reads_parts : (ps : Parts) (h : Holder) (st : List Level) → ReadsAll st (Parens h no_parts) (part_texts ps) (λ at. parts_refusal at (length st + 1) ps) (Parens h ps)
  reads_parts no_parts h st = none_at_all st (Parens h no_parts) refl
  reads_parts (part f ps) h st = part_and f ps h no_parts st (reads_form f) (more_parts ps h (push_part no_parts f) st)

  more_parts : (ps : Parts) (h : Holder) (gs : Parts) (st : List Level) → ReadsMore st (Parens h gs) (part_texts ps) (λ at. parts_refusal at (length st + 1) ps) (Parens h (joined_parts gs ps))
  more_parts no_parts h gs st = subst (λ ks. ReadsMore st (Parens h gs) [] (λ _. None) (Parens h ks)) (sym (joined_parts-none gs)) (none_more st (Parens h gs))
  more_parts (part f ps) h gs st =
      comma_and st (Parens h gs) (Parens h (joined_parts gs (part f ps))) (text f) (part_texts ps) (λ at. parts_refusal at (length st + 1) (part f ps)) (part_and f ps h gs st (reads_form f) (more_parts ps h (push_part gs f) st))

  reads_variants : (vs : Variants) (e : OpenEnum) (st : List Level) → is_empty (Angles e) ≡ true → ReadsAll st (Angles e) (variant_texts vs) (λ at. variants_refusal at (length st + 1) vs) (with_variants e vs)
  reads_variants no_variants e st none = subst (λ ws. ReadsAll st (Angles e) [] (λ _. None) (Angles (record { place = e.place; variants = ws }))) (sym (joined_variants-none e.variants)) (none_at_all st (Angles e) none)
  reads_variants (variant n c vs) e st none = variant_and n c vs e st (reads_content c) (more_variants vs (grown_enum e n c) st)

  more_variants : (vs : Variants) (e : OpenEnum) (st : List Level) → ReadsMore st (Angles e) (variant_texts vs) (λ at. variants_refusal at (length st + 1) vs) (with_variants e vs)
  more_variants no_variants e st = subst (λ ws. ReadsMore st (Angles e) [] (λ _. None) (Angles (record { place = e.place; variants = ws }))) (sym (joined_variants-none e.variants)) (none_more st (Angles e))
  more_variants (variant n c vs) e st =
      comma_and st (Angles e) (with_variants e (variant n c vs)) (name_text n ++ content_text c) (variant_texts vs) (λ at. variants_refusal at (length st + 1) (variant n c vs)) (variant_and n c vs e st (reads_content c) (more_variants vs (grown_enum e n c) st))

  reads_content : (c : Content) (e : OpenEnum) (n rest : Utf8) (at : ℕ) (st : List Level) → goes_on rest ≡ false
      → read at (name_mode (Item_of (Angles e)) n, st) (content_text c ++ rest) ≡ settle (content_refusal at (length st + 1) c) (read (at + length (content_text c)) (variant_state c e n st) rest)
  reads_content unit_content e n rest at st ends = ap (λ i. read i (name_mode (Item_of (Angles e)) n, st) rest) (omega arith)
  reads_content (newtype_content f) e n rest at st ends =
      let l : Level = In_item (Angles e) n in
      let end : at + 1 + length (text f) ≡ at + length (61 ∷ text f) = omega arith in
      read_step at (name_mode (Item_of (Angles e)) n) st 61 (text f ++ rest) (Form_due, l ∷ st) (name_step at (Item_of (Angles e)) n st 61 refl tt)
      ∙ inner_read f l st rest (at + 1) (reads_form f) ends
      ∙ ap (λ i. settle (first_refusal (at + 1) (length st + 1) f) (read i (Done f, l ∷ st) rest)) end
  reads_content (tuple_content ps) e n rest at st ends =
      variant_read 40 e n (tuple_content ps) (Parens (Variant_of e n) no_parts) (Parens (Variant_of e n) ps) (part_texts ps) (λ i. parts_refusal i (length st + 1) ps) rest at st refl refl (name_step at (Item_of (Angles e)) n st 40 refl tt) (reads_parts ps (Variant_of e n) st)
  reads_content (struct_content fs) e n rest at st ends =
      variant_read 123 e n (struct_content fs) (Braces (Variant_of e n) no_fields) (Braces (Variant_of e n) fs) (field_texts fs) (λ i. fields_refusal i (length st + 1) fs) rest at st refl refl (name_step at (Item_of (Angles e)) n st 123 refl tt) (reads_fields (braces_hold (Variant_of e n)) fs st)
