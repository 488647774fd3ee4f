-- From each state some notation goes on.
use Rattle.std.proofs.Common.{◌≡◌, ℕ, Bool, true, false, ◌&&◌, List, [], ◌∷◌, ◌++◌, refl, sym, ap, subst, ◌∙◌, append_assoc, append-nil, arith}
use Rattle.std.specs.List.{list_all}
use Rattle.std.specs.Str.{is_utf8}
use Rattle.bson_kinds.specs.Text.{Utf8}
use Rattle.bson_shape.specs.Form.{dropped, Form, by_mode, sequence, map, unit_structure, structure, enumeration, reference, definitions, no_fields, unit_content}
use Rattle.bson_shape.specs.Notation.{begins_bare, in_bare, bare, escaped, quoted, name_text, text}
use Rattle.bson_shape.specs.Machine.{Group, Braces, Closed_braces, Parens, Angles, Table, Prefix, Option_prefix, Lossy_prefix, Readable_prefix, Newtype_prefix, Definitions_prefix, Level, In_prefix, In_brackets, In_pair, In_compact, In_map, In_item, Owner, Form_at, Item_of, Reference_at, Mode, Form_due, Percent, Ampersand, At, Behind_sign, Item_due, Bare, Quoted, Escape, Named, Item_done, Done, State, grown, grown_enum, closing, Closed, Closed_form, Closed_variant, Closed_prefix, closed, prefixed}
use Rattle.bson_shape.specs.Fronts.{HasTextNames, goes_on, BeginsNotation}
use Rattle.bson_shape.proofs.TextStates.{TextGroup, TextOwner, TextLevels, TextMode, TextClosed, TextState, text-nil, text-one, text-push, variants_texts-snoc, names-grown, names-closed, names-prefixed}
use Rattle.bson_shape.proofs.States.{group_text, due_text, owner_text, levels_text, mode_text, written, ValidMode, grown_text, grown_enum_text, levels_grown, prefix_text, closed_bytes, closed_text, closing-alone, levels_prefixed, levels_item, levels_value, levels_compact, levels_sample, name-bare, name-quoted}
use Rattle.bson_shape.proofs.Steps.{escaped-plain, escaped-marked}

-- a form whose text begins with these bytes
pub record Completion (bytes : Utf8) : Type 0 where
  pub form : Form
  pub names : HasTextNames form
  pub rest : Utf8
  pub begins : text form ≡ bytes ++ rest

-- the same, where no word goes on behind these bytes
pub record Closing (bytes : Utf8) : Type 0 where
  pub whole : Completion bytes
  pub ended : goes_on whole.rest ≡ false

-- with more behind it
front : (xs ys : Utf8) → Completion (xs ++ ys) → Completion xs
front xs ys h = record { form = h.form; names = h.names; rest = ys ++ h.rest; begins = h.begins ∙ append_assoc xs ys h.rest }

-- a closing byte comes next
before_byte : (xs : Utf8) (b : ℕ) → goes_on (b ∷ []) ≡ false → Completion (xs ++ b ∷ []) → Closing xs
before_byte xs b ended h = record { whole = record { form = h.form; names = h.names; rest = b ∷ h.rest; begins = h.begins ∙ append_assoc xs (b ∷ []) h.rest }; ended = ended }

-- the form that closes is inside others, or alone
abbrev Closes : Utf8 → Type 0
Closes xs = (f : Form) → HasTextNames f → Closing (xs ++ text f)

prefixed_text : (p : Prefix) (f : Form) → text (prefixed p f) ≡ prefix_text p ++ text f
prefixed_text Option_prefix f = refl
prefixed_text Lossy_prefix f = refl
prefixed_text Readable_prefix f = refl
prefixed_text (Newtype_prefix n) f = sym (append_assoc (name_text n) (61 ∷ []) (text f))
prefixed_text (Definitions_prefix h) f = refl

-- a group closes, and so does the enum around a variant, or the form behind a prefix
group_closes : (g : Group) (xs : Utf8) → TextGroup g → Closes xs → Closing (xs ++ group_text g)
group_closes g xs t close =
    before_byte (xs ++ group_text g) (closing g) (closing-alone g)
    (subst Completion (ap (λ ys. xs ++ ys) (closed_text g) ∙ sym (append_assoc xs (group_text g) (closing g ∷ []))) (ended (closed g) (names-closed g t)))
  where
    ended : (c : Closed) → TextClosed c → Completion (xs ++ closed_bytes c)
    ended (Closed_form place f) t = (close f t).whole
    ended (Closed_prefix place p) t =
        let f = structure dropped [] no_fields in
        front (xs ++ prefix_text p) (text f)
        (subst Completion (ap (λ ys. xs ++ ys) (prefixed_text p f) ∙ sym (append_assoc xs (prefix_text p) (text f))) (close (prefixed p f) (names-prefixed p f t (text-nil, tt))).whole)
    ended (Closed_variant e) t =
        let g = Angles e in
        (before_byte (xs ++ group_text g) 62 refl (subst Completion (sym (append_assoc xs (group_text g) (62 ∷ []))) (close (enumeration e.variants) t).whole)).whole

pub close_levels : (st : List Level) (f : Form) → TextLevels st → HasTextNames f → Closing (levels_text st ++ text f)
close_levels [] f v h = record { whole = record { form = f; names = h; rest = []; begins = sym (append-nil (text f)) }; ended = refl }
close_levels (In_prefix place p ∷ st) f v h = subst Closing (levels_prefixed p place st f) (close_levels st (prefixed p f) v.1 (names-prefixed p f v.0 h))
close_levels (In_item g n ∷ st) f v h =
    subst Closing (sym (levels_grown g n st f)) (group_closes (grown g n f) (levels_text st) (names-grown g n f v.0 v.1 h) (λ k t. close_levels st k v.2 t))
close_levels (In_brackets place ∷ st) f v h =
    let l : Level = In_brackets place in
    before_byte (levels_text (l ∷ st) ++ text f) 93 refl (subst Completion (levels_item place st f) (close_levels st (sequence f) v h).whole)
close_levels (In_pair place ∷ st) f v h =
    let l : Level = In_pair place in
    before_byte (levels_text (l ∷ st) ++ text f) 44 refl
    (front ((levels_text (l ∷ st) ++ text f) ++ 44 ∷ []) (123 ∷ 125 ∷ 41 ∷ [])
    (subst Completion (levels_sample place f st) (close_levels st (by_mode f (structure dropped [] no_fields)) v (h, (text-nil, tt))).whole))
close_levels (In_compact place r ∷ st) f v h =
    let l : Level = In_compact place r in
    before_byte (levels_text (l ∷ st) ++ text f) 41 refl (subst Completion (levels_compact place r f st) (close_levels st (by_mode r f) v.1 (v.0, h)).whole)
close_levels (In_map place k ∷ st) f v h =
    let l : Level = In_map place k in
    before_byte (levels_text (l ∷ st) ++ text f) 93 refl (subst Completion (levels_value place k f st) (close_levels st (map k f) v.1 (v.0, h)).whole)

-- ---- names

-- a name whose text begins with these bytes
record NameCompletion (bytes : Utf8) : Type 0 where
  name : Utf8
  is_text : is_utf8 name ≡ true
  rest : Utf8
  begins : name_text name ≡ bytes ++ rest

both_false : (a : Bool) → (a && false) ≡ false
both_false true = refl
both_false false = refl

all_end : (xs : Utf8) (b : ℕ) → in_bare b ≡ false → list_all in_bare (xs ++ b ∷ []) ≡ false
all_end [] b h = ap (λ t. t && true) h
all_end (x ∷ xs) b h = ap (λ t. in_bare x && t) (all_end xs b h) ∙ both_false (in_bare x)

-- a name with another byte at its end is not bare
not_bare : (xs : Utf8) (b : ℕ) → begins_bare b ≡ false → in_bare b ≡ false → bare (xs ++ b ∷ []) ≡ false
not_bare [] b g h = ap (λ t. t && true) g
not_bare (x ∷ xs) b g h = ap (λ t. begins_bare x && t) (all_end xs b h) ∙ both_false (begins_bare x)

complete_bare : (n : Utf8) → bare n ≡ true → is_utf8 n ≡ true → NameCompletion n
complete_bare n h t = record { name = n; is_text = t; rest = []; begins = name-bare n h ∙ sym (append-nil n) }

complete_quoted : (n : Utf8) → is_utf8 n ≡ true → NameCompletion (34 ∷ escaped n)
complete_quoted n t = record {
  name = n ++ 32 ∷ [];
  is_text = text-push n 32 t (omega arith);
  rest = 32 ∷ 34 ∷ [];
  begins = name-quoted (n ++ 32 ∷ []) (not_bare n 32 refl refl) ∙ ap (λ xs. 34 ∷ (xs ++ 34 ∷ [])) (escaped-plain n 32 refl) ∙ ap (λ xs. 34 ∷ xs) (append_assoc (escaped n) (32 ∷ []) (34 ∷ []));
}

complete_escape : (n : Utf8) → is_utf8 n ≡ true → NameCompletion (34 ∷ (escaped n ++ 92 ∷ []))
complete_escape n t = record {
  name = n ++ 34 ∷ [];
  is_text = text-push n 34 t (omega arith);
  rest = 34 ∷ 34 ∷ [];
  begins = name-quoted (n ++ 34 ∷ []) (not_bare n 34 refl refl) ∙ ap (λ xs. 34 ∷ (xs ++ 34 ∷ [])) (escaped-marked n 34 refl)
      ∙ ap (λ xs. 34 ∷ xs) (append_assoc (escaped n) (92 ∷ 34 ∷ []) (34 ∷ []) ∙ sym (append_assoc (escaped n) (92 ∷ []) (34 ∷ 34 ∷ [])));
}

complete_named : (n : Utf8) → bare n ≡ false → is_utf8 n ≡ true → NameCompletion (quoted n)
complete_named n h t = record { name = n; is_text = t; rest = []; begins = name-quoted n h ∙ sym (append-nil (quoted n)) }

-- ---- modes

-- a form alone
alone_closes : Closes []
alone_closes f h = record { whole = record { form = f; names = h; rest = []; begins = sym (append-nil (text f)) }; ended = refl }

-- the group with one more item that begins with the name: the field `n:{}`, the part `n!`, the variant `n`
sampled : Group → Utf8 → Group
sampled (Braces h fs) n = grown (Braces h fs) n (structure dropped [] no_fields)
sampled (Closed_braces place m fs) n = grown (Closed_braces place m fs) n (structure dropped [] no_fields)
sampled (Parens h ps) n = grown (Parens h ps) [] (unit_structure n)
sampled (Table place h) n = grown (Table place h) n (structure dropped [] no_fields)
sampled (Angles e) n = Angles (grown_enum e n unit_content)

behind_sample : Group → Utf8
behind_sample (Braces h fs) = 58 ∷ 123 ∷ 125 ∷ []
behind_sample (Closed_braces place n fs) = 58 ∷ 123 ∷ 125 ∷ []
behind_sample (Parens h ps) = 33 ∷ []
behind_sample (Table place h) = 61 ∷ 123 ∷ 125 ∷ []
behind_sample (Angles e) = []

field_sampled : (c : ℕ) (a b : Utf8) → (a ++ (b ++ c ∷ [])) ++ (123 ∷ 125 ∷ []) ≡ a ++ (b ++ (c ∷ 123 ∷ 125 ∷ []))
field_sampled c a b = simp append_assoc

sampled_text : (g : Group) (n : Utf8) → group_text (sampled g n) ≡ due_text g ++ (name_text n ++ behind_sample g)
unfolding sampled behind_sample
sampled_text (Braces h fs) n = grown_text (Braces h fs) n (structure dropped [] no_fields) ∙ field_sampled 58 (due_text (Braces h fs)) (name_text n)
sampled_text (Closed_braces place m fs) n = grown_text (Closed_braces place m fs) n (structure dropped [] no_fields) ∙ field_sampled 58 (due_text (Closed_braces place m fs)) (name_text n)
sampled_text (Table place h) n = grown_text (Table place h) n (structure dropped [] no_fields) ∙ field_sampled 61 (due_text (Table place h)) (name_text n)
sampled_text (Parens h ps) n = grown_text (Parens h ps) [] (unit_structure n) ∙ ap (λ xs. xs ++ (name_text n ++ 33 ∷ [])) (append-nil (due_text (Parens h ps)))
sampled_text (Angles e) n = grown_enum_text e n unit_content ∙ append_assoc (due_text (Angles e)) (name_text n) []

sampled_names : (g : Group) (n : Utf8) → TextGroup g → is_utf8 n ≡ true → TextGroup (sampled g n)
unfolding sampled
sampled_names (Braces h fs) n k t = names-grown (Braces h fs) n (structure dropped [] no_fields) k t (text-nil, tt)
sampled_names (Closed_braces place m fs) n k t = names-grown (Closed_braces place m fs) n (structure dropped [] no_fields) k t (text-nil, tt)
sampled_names (Parens h ps) n k t = names-grown (Parens h ps) [] (unit_structure n) k text-nil t
sampled_names (Table place h) n k t = names-grown (Table place h) n (structure dropped [] no_fields) k t (text-nil, tt)
sampled_names (Angles e) n k t = variants_texts-snoc e.variants n unit_content k t tt

with_owner : (owner : Owner) (bytes : Utf8) → TextOwner owner → NameCompletion bytes → Completion (owner_text owner ++ bytes)
with_owner (Form_at place) bytes v c = record {
  form = unit_structure c.name;
  names = c.is_text;
  rest = c.rest ++ 33 ∷ [];
  begins = ap (λ xs. xs ++ 33 ∷ []) c.begins ∙ append_assoc bytes c.rest (33 ∷ []);
}
with_owner (Reference_at place) bytes v c = record { form = reference c.name; names = c.is_text; rest = c.rest; begins = ap (λ xs. 64 ∷ xs) c.begins }
with_owner (Item_of g) bytes v c =
    front (due_text g ++ bytes) (c.rest ++ behind_sample g)
    (subst Completion (sampled_text g c.name ∙ ap (λ xs. due_text g ++ (xs ++ behind_sample g)) c.begins ∙ regrouped (due_text g) bytes c.rest (behind_sample g))
    (group_closes (sampled g c.name) [] (sampled_names g c.name v c.is_text) alone_closes).whole)
  where
    regrouped : (a b c d : Utf8) → a ++ ((b ++ c) ++ d) ≡ (a ++ b) ++ (c ++ d)
    regrouped a b c d = simp append_assoc

completion : (m : Mode) → ValidMode m → TextMode m → Completion (mode_text m)
completion Form_due v t = record { form = structure dropped [] no_fields; names = (text-nil, tt); rest = 123 ∷ 125 ∷ []; begins = refl }
completion (Behind_sign Percent place) v t =
    let none = structure dropped [] no_fields in
    record { form = by_mode none none; names = ((text-nil, tt), (text-nil, tt)); rest = 40 ∷ 123 ∷ 125 ∷ 44 ∷ 123 ∷ 125 ∷ 41 ∷ []; begins = refl }
completion (Behind_sign Ampersand place) v t = record { form = definitions no_fields (structure dropped [] no_fields); names = (tt, (text-nil, tt)); rest = 40 ∷ 41 ∷ 123 ∷ 125 ∷ []; begins = refl }
completion (Behind_sign At place) v t = record { form = reference (97 ∷ []); names = text-one 97 (omega arith); rest = 97 ∷ []; begins = refl }
completion (Item_due g) v t = front (due_text g) (97 ∷ []) (with_owner (Item_of g) (97 ∷ []) t (complete_bare (97 ∷ []) refl (text-one 97 (omega arith))))
completion (Bare owner n) v t = with_owner owner n t.0 (complete_bare n v t.1)
completion (Quoted owner n) v t = with_owner owner (34 ∷ escaped n) t.0 (complete_quoted n t.1)
completion (Escape owner n) v t = with_owner owner (34 ∷ (escaped n ++ 92 ∷ [])) t.0 (complete_escape n t.1)
completion (Named owner n) v t = with_owner owner (quoted n) t.0 (complete_named n v t.1)
completion (Item_done g) v t = (group_closes g [] t alone_closes).whole
completion (Done f) v t = record { form = f; names = t; rest = []; begins = sym (append-nil (text f)) }

-- the forms around a form whose text begins with these bytes are closed
complete : (st : List Level) (bytes : Utf8) → TextLevels st → (c : Completion bytes) → BeginsNotation (levels_text st ++ bytes)
complete st bytes v c =
    let whole = (close_levels st c.form v c.names).whole in
    record {
      form = whole.form;
      names = whole.names;
      rest = c.rest ++ whole.rest;
      begins = whole.begins ∙ ap (λ xs. (levels_text st ++ xs) ++ whole.rest) c.begins ∙ regrouped (levels_text st) bytes c.rest whole.rest;
    }
  where
    regrouped : (a b c d : Utf8) → (a ++ (b ++ c)) ++ d ≡ (a ++ b) ++ (c ++ d)
    regrouped a b c d = simp append_assoc

-- some notation begins with what was read
pub begins_written : (s : State) → ValidMode s.0 → TextState s → BeginsNotation (written s)
begins_written s v t = complete s.1 (mode_text s.0) t.levels (completion s.0 v t.mode)

-- and behind a word of a form, that goes on
pub begins_word : (place : ℕ) (n : Utf8) (st : List Level) → ValidMode (Bare (Form_at place) n) → TextState (Bare (Form_at place) n, st) → (b : BeginsNotation (written (Bare (Form_at place) n, st))) × (goes_on b.rest ≡ true)
unfolding begins_written complete completion with_owner complete_bare
begins_word place n st v t = (begins_written (Bare (Form_at place) n, st) v t, refl)
