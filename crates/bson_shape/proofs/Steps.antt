-- A byte that is taken is written behind what was read; a byte that is refused is refused at its place.
use Rattle.std.proofs.Common.{◌≡◌, ℕ, Bool, true, false, cond, eqb, ◌&&◌, ◌||◌, List, [], ◌∷◌, ◌++◌, length, Option, Some, None, Result, Ok, Err, refl, sym, ap, subst, ◌∙◌, append_assoc, append-nil}
use Rattle.std.specs.List.{list_all}
use Rattle.std.specs.Prelude.{nat_le, IfOk}
use Rattle.std.proofs.lemmas.Bool.{eqb-true}
use Rattle.bson_kinds.specs.Text.{Utf8}
use Rattle.bson_shape.specs.Form.{Form, leaf, reference, by_mode, sequence, map, unit_structure, Fields, no_fields, field, no_parts, unit_content}
use Rattle.bson_shape.specs.Leaf.{of_word}
use Rattle.bson_shape.specs.declared.leaf.Leaf.{Leaf}
use Rattle.bson_shape.specs.Makers.{made_form}
use Rattle.bson_shape.specs.declared.error.ShapeError.{ShapeError}
use Rattle.bson_shape.specs.declared.error.ShapeError.TheVariants.{TooDeep}
use Rattle.bson_shape.specs.Notation.{begins_bare, in_bare, bare, names_form, is_escaped, escaped, quoted, name_text, struct_name_text, listed, text}
use Rattle.bson_shape.specs.FirstRefusal.{MakerRefusal}
use Rattle.bson_kinds.specs.Outcome.{◌>>=◌}
use Rattle.bson_shape.specs.Machine.{Refusal, Not_notation, Refused, Holder, Nameless_at, Named_at, Variant_of, Group, Braces, Closed_braces, Parens, Angles, Table, Option_prefix, Lossy_prefix, Readable_prefix, Newtype_prefix, Level, In_prefix, In_brackets, In_pair, In_compact, In_map, In_item, Owner, Form_at, Item_of, Reference_at, Mode, Form_due, Percent, Ampersand, At, Behind_sign, Item_due, Bare, Quoted, Escape, Named, Item_done, Done, State, opened_enum, grown, grown_enum, is_empty, closing, Closed, Closed_form, Closed_variant, Closed_prefix, closed, form_closed, bracket_closed, group_closed, item_ended, Ended, wrapped, enclosed, form_ended, begins_name, name_begun, opens_form, begins_form, form_begun, form_due, name_due, has_no_fields, struct_marked, field_due, item_begun, item_due, is_written, form_named, field_named, item_named, named, leaf_ended, word_ended, bare_name, name_closed, quoted_name, escape, step}
use Rattle.bson_shape.proofs.Made.{made_form-made}
use Rattle.bson_shape.proofs.Words.{and_true, or_rest, differs}
use Rattle.std.specs.Prelude.{◌⊎◌}
use Rattle.std.specs.Str.{is_utf8}
use Rattle.std.proofs.Common.{◌+◌, ◌<◌, inl, inr, arith}
use Rattle.std.proofs.lemmas.Bool.Decides.{nat_tests}
use Rattle.bson_shape.specs.Fronts.{HasTextNames, goes_on}
use Rattle.bson_shape.proofs.TextStates.{TextGroup, TextOwner, TextLevels, TextMode, TextState, after_texts, text-nil, text-one, text-push, variants_texts-snoc, names-grown, names-closed}
use Rattle.bson_shape.proofs.States.{sep, opening, before_text, item_texts, label, variant_text, group_text, due_text, owner_text, level_text, levels_text, mode_text, written, ValidMode, grown_enum_text, sep-grown, sep-variant, sep-empty, levels_grown, after, after_written, closed_text, closing-ends, valid_closed, levels_item, levels_key, levels_readable, levels_compact, levels_value, struct_name-bare, name-bare, name-quoted, struct_name-quoted}
use Rattle.bson_shape.proofs.Wraps.{Keeps, wrapped_keeps, word_on, IsWord, Behind, behind_text, behind_names, EndsForm}

-- the state after a byte
pub record Takes (s : State) (b : ℕ) (t : State) : Type 0 where
  pub valid : ValidMode t.0
  pub grew : written t ≡ written s ++ b ∷ []
  pub texts : TextState s → b < 128 → TextState t

-- the byte goes on with a notation, and a maker refuses behind it
pub record Refuses (at : ℕ) (s : State) (b : ℕ) (r : MakerRefusal) : Type 0 where
  pub met : r.met ≡ at + 1
  pub low : b < 128
  pub state : State
  pub takes : Takes s b state
  -- a byte of a word is the first one of a form
  pub word : in_bare b ≡ true → IsWord state.0

-- a maker refuses before the byte, where that ends a form
abbrev pub RefusesBefore : ℕ → State → ℕ → MakerRefusal → Type 0
RefusesBefore at s b r = EndsForm at s r × (word_on s.0 (b ∷ []) ≡ false)

abbrev pub StopsAt : ℕ → State → ℕ → Refusal → Type 0
StopsAt at s b (Not_notation q) = q ≡ at
StopsAt at s b (Refused r) = Refuses at s b r ⊎ RefusesBefore at s b r

abbrev pub Leaves : ℕ → State → ℕ → Result State Refusal → Type 0
Leaves at s b (Ok t) = Takes s b t
Leaves at s b (Err e) = StopsAt at s b e

chosen : (at : ℕ) (s : State) (b : ℕ) (t : Bool) (x y : Result State Refusal) → (t ≡ true → Leaves at s b x) → (t ≡ false → Leaves at s b y) → Leaves at s b (cond t x y)
chosen at s b true x y f g = f refl
chosen at s b false x y f g = g refl

-- ---- the last byte of a form

low_closing : (g : Group) → closing g < 128
low_closing (Braces h fs) = omega arith
low_closing (Closed_braces place n fs) = omega arith
low_closing (Parens h ps) = omega arith
low_closing (Angles e) = omega arith
low_closing (Table place h) = omega arith

-- the maker makes the form or refuses
made_leaves : (r : Result Form ShapeError) (f : Form) (at place : ℕ) (st : List Level) (s : State) (b : ℕ) → IfOk r (λ g. g ≡ f) → b < 128 → in_bare b ≡ false → Takes s b (Done f, st) → Leaves at s b (form_closed at place st r)
made_leaves (Ok g) f at place st s b same low closes h = subst (λ g. Takes s b (Done g, st)) (sym same) h
made_leaves (Err e) f at place st s b same low closes h = inl (record { met = refl; low = low; state = (Done f, st); takes = h; word = λ k. absurd (let clash : true ≡ false = sym k ∙ closes in cc) })

closed_leaves : (f : Form) (at place : ℕ) (st : List Level) (s : State) (b : ℕ) → b < 128 → in_bare b ≡ false → Takes s b (Done f, st) → Leaves at s b (form_closed at place st (made_form f))
closed_leaves f at place st s b low closes h = made_leaves (made_form f) f at place st s b (made_form-made f) low closes h

bracket_leaves : (c : Closed) (at : ℕ) (st : List Level) (s : State) (b : ℕ) → b < 128 → in_bare b ≡ false → Takes s b (after c st) → Leaves at s b (bracket_closed at st c)
bracket_leaves (Closed_form place f) at st s b low closes h = closed_leaves f at place st s b low closes h
bracket_leaves (Closed_variant e) at st s b low closes h = h
bracket_leaves (Closed_prefix place p) at st s b low closes h = h

-- a closing bracket, where the group has been read
group_leaves : (at : ℕ) (g : Group) (st : List Level) (b : ℕ) (s : State) → eqb b (closing g) ≡ true → written s ≡ levels_text st ++ group_text g → (TextState s → TextGroup g × TextLevels st) → Leaves at s b (group_closed at g st)
group_leaves at g st b s is so_far has =
    subst (λ c. Leaves at s c (group_closed at g st)) (sym (eqb-true b (closing g) is))
    (bracket_leaves (closed g) at st s (closing g) (low_closing g) (closing-ends g) (record {
      valid = valid_closed g st;
      grew = after_written (closed g) st ∙ ap (λ xs. levels_text st ++ xs) (closed_text g) ∙ sym (append_assoc (levels_text st) (group_text g) (closing g ∷ [])) ∙ ap (λ xs. xs ++ closing g ∷ []) (sym so_far);
      texts = λ k _. after_texts (closed g) st (names-closed g (has k).0) (has k).1;
    }))

-- ---- behind an item

-- a byte behind what was read
behind_read : (pre : Utf8) (b c : ℕ) (s : State) → written s ≡ pre → eqb b c ≡ true → pre ++ c ∷ [] ≡ written s ++ b ∷ []
behind_read pre b c s so_far h = ap (λ xs. xs ++ c ∷ []) (sym so_far) ∙ ap (λ x. written s ++ x ∷ []) (sym (eqb-true b c h))

item_leaves : (at : ℕ) (g : Group) (st : List Level) (b : ℕ) (s : State) → written s ≡ levels_text st ++ group_text g → sep (item_texts g) ≡ 44 ∷ [] → (TextState s → TextGroup g × TextLevels st) → Leaves at s b (item_ended at g st b)
item_leaves at g st b s so_far more has =
    chosen at s b (eqb b 44) (Ok (Item_due g, st)) _
    (λ h. record {
      valid = tt;
      texts = λ k _. record { mode = (has k).0; levels = (has k).1 };
      grew = ap (λ xs. levels_text st ++ (group_text g ++ xs)) more ∙ sym (append_assoc (levels_text st) (group_text g) (44 ∷ [])) ∙ behind_read (levels_text st ++ group_text g) b 44 s so_far h;
    })
    (λ h. chosen at s b (eqb b (closing g)) (group_closed at g st) _ (λ k. group_leaves at g st b s k so_far has) (λ k. refl))

enclosed_leaves : (at : ℕ) (f : Form) (st : List Level) (b : ℕ) (s : State) → written s ≡ levels_text st ++ text f → (TextState s → HasTextNames f × TextLevels st) → Leaves at s b (enclosed at f st b)
enclosed_leaves at f [] b s so_far has = refl
enclosed_leaves at f (In_prefix place p ∷ st) b s so_far has = refl
enclosed_leaves at f (In_brackets place ∷ st) b s so_far has =
    chosen at s b (eqb b 93) (form_closed at place st (made_form (sequence f))) _
    (λ h. rw (eqb-true b 93 h)
    (closed_leaves (sequence f) at place st s 93 (omega arith) refl
    (record {
      valid = record { before = 91 ∷ text f; byte = 93; whole = refl; closes = refl };
      grew = levels_item place st f ∙ ap (λ xs. xs ++ 93 ∷ []) (sym so_far);
      texts = λ k _. record { mode = (has k).0; levels = (has k).1 };
    })))
    (λ h. chosen at s b (eqb b 58) (Ok (Form_due, In_map place f ∷ st)) _
    (λ h. record {
      valid = tt;
      grew = levels_key place f st ∙ behind_read (levels_text (In_brackets place ∷ st) ++ text f) b 58 s so_far h;
      texts = λ k _. record { mode = tt; levels = has k };
    })
    (λ h. refl))
enclosed_leaves at f (In_pair place ∷ st) b s so_far has =
    chosen at s b (eqb b 44) (Ok (Form_due, In_compact place f ∷ st)) _
    (λ h. record {
      valid = tt;
      grew = levels_readable place f st ∙ behind_read (levels_text (In_pair place ∷ st) ++ text f) b 44 s so_far h;
      texts = λ k _. record { mode = tt; levels = has k };
    })
    (λ h. refl)
enclosed_leaves at f (In_compact place r ∷ st) b s so_far has =
    chosen at s b (eqb b 41) (form_closed at place st (made_form (by_mode r f))) _
    (λ h. rw (eqb-true b 41 h)
    (closed_leaves (by_mode r f) at place st s 41 (omega arith) refl
    (record {
      valid = record { before = 37 ∷ 40 ∷ (text r ++ 44 ∷ text f); byte = 41; whole = ap (λ xs. 37 ∷ 40 ∷ xs) (sym (append_assoc (text r) (44 ∷ text f) (41 ∷ []))); closes = refl };
      grew = levels_compact place r f st ∙ ap (λ xs. xs ++ 41 ∷ []) (sym so_far);
      texts = λ t _. let n = has t in record { mode = (n.1.0, n.0); levels = n.1.1 };
    })))
    (λ h. refl)
enclosed_leaves at f (In_map place k ∷ st) b s so_far has =
    chosen at s b (eqb b 93) (form_closed at place st (made_form (map k f))) _
    (λ h. rw (eqb-true b 93 h)
    (closed_leaves (map k f) at place st s 93 (omega arith) refl
    (record {
      valid = record { before = 91 ∷ (text k ++ 58 ∷ text f); byte = 93; whole = ap (λ xs. 91 ∷ xs) (sym (append_assoc (text k) (58 ∷ text f) (93 ∷ []))); closes = refl };
      grew = levels_value place k f st ∙ ap (λ xs. xs ++ 93 ∷ []) (sym so_far);
      texts = λ t _. let n = has t in record { mode = (n.1.0, n.0); levels = n.1.1 };
    })))
    (λ h. refl)
enclosed_leaves at f (In_item g n ∷ st) b s so_far has =
    item_leaves at (grown g n f) st b s (so_far ∙ levels_grown g n st f) (sep-grown g n f) (λ h. let t = has h in (names-grown g n f t.1.0 t.1.1 t.0, t.1.2))

-- the forms that end, and the byte
wrapped_leaves : (r : Result Ended Refusal) (at : ℕ) (f : Form) (m : Mode) (st : List Level) (b : ℕ) → wrapped at f st ≡ r → Keeps at f st r → Behind f m → word_on m (b ∷ []) ≡ false → Leaves at (m, st) b (r >>= λ e. enclosed at e.0 e.1 b)
wrapped_leaves (Ok e) at f m st b is k behind ends =
    enclosed_leaves at e.0 e.1 b (m, st) (ap (λ xs. levels_text st ++ xs) (behind_text f m behind) ∙ sym k.0) (λ h. k.1 (behind_names f m behind h.mode) h.levels)
wrapped_leaves (Err (Not_notation q)) at f m st b is k behind ends = absurd k
wrapped_leaves (Err (Refused r)) at f m st b is k behind ends = inr (record { form = f; behind = behind; refused = is }, ends)

ended_leaves : (at : ℕ) (f : Form) (m : Mode) (st : List Level) (b : ℕ) → Behind f m → word_on m (b ∷ []) ≡ false → Leaves at (m, st) b (form_ended at f st b)
unfolding form_ended
ended_leaves at f m st b behind ends = wrapped_leaves (wrapped at f st) at f m st b refl (wrapped_keeps st at f) behind ends

-- ---- names

either_false : (a b : Bool) → a ≡ false → b ≡ false → (a || b) ≡ false
either_false true b h k = absurd cc
either_false false b h k = k

begun_takes : (t : Bool) (owner : Owner) (st : List Level) (b : ℕ) (s : State) → eqb b 34 ≡ t → begins_name b ≡ true → written s ≡ levels_text st ++ owner_text owner → (TextState s → TextOwner owner × TextLevels st) → Takes s b (cond t (Quoted owner []) (Bare owner (b ∷ [])), st)
begun_takes true owner st b s is h so_far has = record { valid = tt; texts = λ k _. record { mode = ((has k).0, text-nil); levels = (has k).1 }; grew = sym (append_assoc (levels_text st) (owner_text owner) (34 ∷ [])) ∙ ap (λ xs. xs ++ 34 ∷ []) (sym so_far) ∙ ap (λ x. written s ++ x ∷ []) (sym (eqb-true b 34 is)) }
begun_takes false owner st b s is h so_far has = record {
  texts = λ k low. record { mode = ((has k).0, text-one b low); levels = (has k).1 };
  valid = ap (λ t. t && true) (or_rest (begins_bare b) (eqb b 34) h is);
  grew = sym (append_assoc (levels_text st) (owner_text owner) (b ∷ [])) ∙ ap (λ xs. xs ++ b ∷ []) (sym so_far);
}

-- the first byte of a form that no name begins
opened_takes : (b c : ℕ) (m : Mode) (levels' st : List Level) (s : State) → eqb b c ≡ true → ValidMode m → levels_text levels' ++ mode_text m ≡ levels_text st ++ c ∷ [] → written s ≡ levels_text st ++ [] → (TextState s → TextMode m × TextLevels levels') → Takes s b (m, levels')
opened_takes b c m levels' st s is valid same so_far has = record {
  valid = valid;
  texts = λ k _. record { mode = (has k).0; levels = (has k).1 };
  grew = same ∙ sym (append_assoc (levels_text st) [] (c ∷ [])) ∙ behind_read (levels_text st ++ []) b c s so_far is;
}

-- one state or another
takes_either : (t : Bool) (x y : State) (s : State) (b : ℕ) → (t ≡ true → Takes s b x) → (t ≡ false → Takes s b y) → Takes s b (cond t x y)
takes_either true x y s b f g = f refl
takes_either false x y s b f g = g refl

form_begun_takes : (at : ℕ) (st : List Level) (b : ℕ) (s : State) → begins_form b ≡ true → written s ≡ levels_text st ++ [] → (TextState s → TextLevels st) → Takes s b (form_begun at st b)
form_begun_takes at st b s h so_far has =
    takes_either (eqb b 123) _ _ s b (λ is. opened_takes b 123 (Item_due (Braces (Nameless_at at) no_fields)) st st s is tt refl so_far (λ t. ((tt, tt), has t)))
    (λ brace. takes_either (eqb b 91) _ _ s b (λ is. opened_takes b 91 Form_due (In_brackets at ∷ st) st s is tt (append-nil (levels_text st ++ 91 ∷ [])) so_far (λ t. (tt, has t)))
    (λ bracket. takes_either (eqb b 63) _ _ s b (λ is. opened_takes b 63 Form_due (In_prefix at Option_prefix ∷ st) st s is tt (append-nil (levels_text st ++ 63 ∷ [])) so_far (λ t. (tt, (tt, has t))))
    (λ question. takes_either (eqb b 126) _ _ s b (λ is. opened_takes b 126 Form_due (In_prefix at Lossy_prefix ∷ st) st s is tt (append-nil (levels_text st ++ 126 ∷ [])) so_far (λ t. (tt, (tt, has t))))
    (λ tilde. takes_either (eqb b 94) _ _ s b (λ is. opened_takes b 94 Form_due (In_prefix at Readable_prefix ∷ st) st s is tt (append-nil (levels_text st ++ 94 ∷ [])) so_far (λ t. (tt, (tt, has t))))
    (λ caret. takes_either (eqb b 37) _ _ s b (λ is. opened_takes b 37 (Behind_sign Percent at) st st s is tt refl so_far (λ t. (tt, has t)))
    (λ percent. takes_either (eqb b 38) _ _ s b (λ is. opened_takes b 38 (Behind_sign Ampersand at) st st s is tt refl so_far (λ t. (tt, has t)))
    (λ ampersand. takes_either (eqb b 64) _ _ s b (λ is. opened_takes b 64 (Behind_sign At at) st st s is tt refl so_far (λ t. (tt, has t)))
    (λ sign. takes_either (eqb b 40) _ _ s b (λ is. opened_takes b 40 (Item_due (Parens (Nameless_at at) no_parts)) st st s is tt refl so_far (λ t. ((tt, tt), has t)))
    (λ paren. takes_either (eqb b 60) _ _ s b (λ is. opened_takes b 60 (Item_due (Angles (opened_enum at))) st st s is tt refl so_far (λ t. (tt, has t)))
    (λ angle.
    let opens : opens_form b ≡ false = rw (question, tilde, caret, percent, ampersand, sign, bracket, paren, angle, brace) refl in
    begun_takes (eqb b 34) (Form_at at) st b s refl (or_rest (begins_name b) (opens_form b) h opens) so_far (λ k. (tt, has k))))))))))))

low_form : (b : ℕ) → begins_form b ≡ true → b < 128
low_form b h = grind (arith, nat_tests)

-- a byte of a word begins one
word_begun : (at : ℕ) (st : List Level) (b : ℕ) → in_bare b ≡ true → IsWord (form_begun at st b).0
word_begun at st b h = rw (differs in_bare b 123 h refl, differs in_bare b 91 h refl, differs in_bare b 63 h refl, differs in_bare b 126 h refl, differs in_bare b 94 h refl, differs in_bare b 37 h refl, differs in_bare b 38 h refl, differs in_bare b 64 h refl, differs in_bare b 40 h refl, differs in_bare b 60 h refl, differs in_bare b 34 h refl) tt

form_leaves : (at : ℕ) (st : List Level) (b : ℕ) (s : State) → written s ≡ levels_text st ++ [] → (TextState s → TextLevels st) → Leaves at s b (form_due at st b)
unfolding form_due
form_leaves at st b s so_far has =
    let begun : begins_form b ≡ true → Takes s b (form_begun at st b) = λ h. form_begun_takes at st b s h so_far has in
    chosen at s b (begins_form b) _ _
    (λ h. chosen at s b (nat_le 512 (length st)) (Err (Refused (record { met = at + 1; place = at; cause = TooDeep }))) _
    (λ d. inl (record { met = refl; low = low_form b h; state = form_begun at st b; takes = begun h; word = word_begun at st b }))
    (λ d. begun h))
    (λ h. refl)

-- where an item is expected
name_leaves : (at : ℕ) (g : Group) (st : List Level) (b : ℕ) (s : State) → written s ≡ levels_text st ++ due_text g → (TextState s → TextGroup g × TextLevels st) → Leaves at s b (name_due at g st b)
unfolding name_due
name_leaves at g st b s so_far has = chosen at s b (begins_name b) (Ok (name_begun (Item_of g) b, st)) _ (λ h. begun_takes (eqb b 34) (Item_of g) st b s refl h so_far has) (λ h. refl)

-- a struct denies unknown fields
marked_takes : (place : ℕ) (n : Utf8) (st : List Level) (b : ℕ) (s : State) → eqb b 33 ≡ true → written s ≡ levels_text st ++ ((struct_name_text n ++ 123 ∷ []) ++ []) → (TextState s → (is_utf8 n ≡ true) × TextLevels st) → Takes s b (Item_due (Closed_braces place n no_fields), st)
marked_takes place n st b s is so_far has = record {
  valid = tt;
  texts = λ k _. record { mode = ((has k).0, tt); levels = (has k).1 };
  grew = regrouped (levels_text st) (struct_name_text n) ∙ behind_read (levels_text st ++ ((struct_name_text n ++ 123 ∷ []) ++ [])) b 33 s so_far is;
}
  where
    regrouped : (a c : Utf8) → a ++ ((c ++ 123 ∷ 33 ∷ []) ++ []) ≡ (a ++ ((c ++ 123 ∷ []) ++ [])) ++ 33 ∷ []
    regrouped a c = simp (append_assoc, append-nil)

marked_leaves : (at : ℕ) (h : Holder) (fs : Fields) (st : List Level) (b : ℕ) (s : State) → eqb b 33 ≡ true → has_no_fields fs ≡ true → written s ≡ levels_text st ++ due_text (Braces h fs) → (TextState s → TextGroup (Braces h fs) × TextLevels st) → Leaves at s b (struct_marked at h st)
marked_leaves at h (field n f fs) st b s is none so_far has = absurd cc
marked_leaves at (Nameless_at place) no_fields st b s is none so_far has = marked_takes place [] st b s is so_far (λ k. (text-nil, (has k).1))
marked_leaves at (Named_at place n) no_fields st b s is none so_far has = marked_takes place n st b s is so_far (λ k. ((has k).0.0, (has k).1))
marked_leaves at (Variant_of e n) no_fields st b s is none so_far has = refl

-- where a field is expected
field_leaves : (at : ℕ) (h : Holder) (fs : Fields) (st : List Level) (b : ℕ) (s : State) → written s ≡ levels_text st ++ due_text (Braces h fs) → (TextState s → TextGroup (Braces h fs) × TextLevels st) → Leaves at s b (field_due at h fs st b)
unfolding field_due
field_leaves at h fs st b s so_far has =
    chosen at s b (eqb b 33 && has_no_fields fs) (struct_marked at h st) _
    (λ k. let both = and_true (eqb b 33) (has_no_fields fs) k in marked_leaves at h fs st b s both.0 both.1 so_far has)
    (λ k. name_leaves at (Braces h fs) st b s so_far has)

begun_leaves : (at : ℕ) (g : Group) (st : List Level) (b : ℕ) (s : State) → written s ≡ levels_text st ++ due_text g → (TextState s → TextGroup g × TextLevels st) → Leaves at s b (item_begun at g st b)
unfolding item_begun
begun_leaves at (Braces h fs) st b s so_far has = field_leaves at h fs st b s so_far has
begun_leaves at (Closed_braces place n fs) st b s so_far has = name_leaves at (Closed_braces place n fs) st b s so_far has
begun_leaves at (Parens h ps) st b s so_far has =
    let g : Group = Parens h ps in
    form_leaves at (In_item g [] ∷ st) b s (so_far ∙ ap (λ xs. levels_text st ++ xs) (sym (append-nil (due_text g))) ∙ sym (append-nil (levels_text st ++ (due_text g ++ [])))) (λ k. ((has k).0, text-nil, (has k).1))
begun_leaves at (Angles e) st b s so_far has = name_leaves at (Angles e) st b s so_far has
begun_leaves at (Table place h) st b s so_far has = name_leaves at (Table place h) st b s so_far has

due_leaves : (at : ℕ) (g : Group) (st : List Level) (b : ℕ) → Leaves at (Item_due g, st) b (item_due at g st b)
unfolding item_due
due_leaves at g st b =
    let s : State = (Item_due g, st) in
    chosen at s b (eqb b (closing g) && is_empty g) (group_closed at g st) _
    (λ h. let both = and_true (eqb b (closing g)) (is_empty g) h in
    group_leaves at g st b s both.0 (ap (λ xs. levels_text st ++ (group_text g ++ xs)) (sep-empty g both.1) ∙ ap (λ xs. levels_text st ++ xs) (append-nil (group_text g))) (λ k. (k.mode, k.levels)))
    (λ h. begun_leaves at g st b s refl (λ k. (k.mode, k.levels)))

-- a group without items, behind what is before it and its opening bracket
opened_group : (g : Group) (st : List Level) (b c : ℕ) (s : State) → opening g ≡ c ∷ [] → item_texts g ≡ [] → eqb b c ≡ true → written s ≡ levels_text st ++ before_text g → (TextState s → TextGroup g × TextLevels st) → Takes s b (Item_due g, st)
opened_group g st b c s opens none is so_far has = record {
  valid = tt;
  texts = λ k _. record { mode = (has k).0; levels = (has k).1 };
  grew = (λ i. levels_text st ++ ((before_text g ++ (opens i ++ listed (none i))) ++ sep (none i))) ∙ ap (λ xs. levels_text st ++ xs) (append-nil (before_text g ++ c ∷ [])) ∙ sym (append_assoc (levels_text st) (before_text g) (c ∷ [])) ∙ behind_read (levels_text st ++ before_text g) b c s so_far is;
}

-- a form is expected behind a byte that ends the text of a level
level_takes : (l : Level) (pre : Utf8) (st : List Level) (b c : ℕ) (s : State) → eqb b c ≡ true → level_text l ≡ pre ++ c ∷ [] → written s ≡ levels_text st ++ pre → (TextState s → TextLevels (l ∷ st)) → Takes s b (Form_due, l ∷ st)
level_takes l pre st b c s is same so_far has = record {
  valid = tt;
  texts = λ k _. record { mode = tt; levels = has k };
  grew = append-nil (levels_text st ++ level_text l) ∙ ap (λ xs. levels_text st ++ xs) same ∙ sym (append_assoc (levels_text st) pre (c ∷ [])) ∙ behind_read (levels_text st ++ pre) b c s so_far is;
}

-- behind a name of a form, as it is written
form_named_leaves : (at place : ℕ) (n : Utf8) (st : List Level) (b : ℕ) (s : State) (piece : Utf8) → (is_written n ≡ true → struct_name_text n ≡ piece) → name_text n ≡ piece → written s ≡ levels_text st ++ piece
    → (TextState s → (is_utf8 n ≡ true) × TextLevels st) → Leaves at s b (form_named at place n st b)
form_named_leaves at place n st b s piece as_struct as_name so_far has =
    let now : written s ≡ levels_text st ++ name_text n = so_far ∙ ap (λ xs. levels_text st ++ xs) (sym as_name) in
    chosen at s b (eqb b 61) (Ok (Form_due, In_prefix place (Newtype_prefix n) ∷ st)) _
    (λ h. level_takes (In_prefix place (Newtype_prefix n)) (name_text n) st b 61 s h refl now has)
    (λ h. chosen at s b (eqb b 33) (Ok (Done (unit_structure n), st)) _
    (λ k. record {
      valid = record { before = name_text n; byte = 33; whole = refl; closes = refl };
      texts = λ t _. record { mode = (has t).0; levels = (has t).1 };
      grew = sym (append_assoc (levels_text st) (name_text n) (33 ∷ [])) ∙ behind_read (levels_text st ++ name_text n) b 33 s now k;
    })
    (λ k. chosen at s b (eqb b 40) (Ok (Item_due (Parens (Named_at place n) no_parts), st)) _
    (λ p. opened_group (Parens (Named_at place n) no_parts) st b 40 s refl refl p now (λ t. (((has t).0, tt), (has t).1)))
    (λ p. chosen at s b (eqb b 123 && is_written n) (Ok (Item_due (Braces (Named_at place n) no_fields), st)) _
    (λ both. let t = and_true (eqb b 123) (is_written n) both in
    opened_group (Braces (Named_at place n) no_fields) st b 123 s refl refl t.0 (so_far ∙ ap (λ xs. levels_text st ++ xs) (sym (as_struct t.1))) (λ t. (((has t).0, tt), (has t).1)))
    (λ none. refl))))

-- behind a name of a field or a definition
field_named_leaves : (at c : ℕ) (g : Group) (n : Utf8) (st : List Level) (b : ℕ) (s : State) → label g n ≡ name_text n ++ c ∷ [] → written s ≡ levels_text st ++ (due_text g ++ name_text n) → (TextState s → (TextGroup g × (is_utf8 n ≡ true)) × TextLevels st) → Leaves at s b (field_named at c g n st b)
field_named_leaves at c g n st b s labelled so_far has =
    chosen at s b (eqb b c) (Ok (Form_due, In_item g n ∷ st)) _
    (λ h. level_takes (In_item g n) (due_text g ++ name_text n) st b c s h (ap (λ xs. due_text g ++ xs) labelled ∙ sym (append_assoc (due_text g) (name_text n) (c ∷ []))) so_far (λ k. ((has k).0.0, (has k).0.1, (has k).1)))
    (λ h. refl)

-- behind a name of an item
item_named_leaves : (at : ℕ) (g : Group) (n : Utf8) (st : List Level) (b : ℕ) (s : State) → written s ≡ levels_text st ++ (due_text g ++ name_text n) → (TextState s → (TextGroup g × (is_utf8 n ≡ true)) × TextLevels st) → Leaves at s b (item_named at g n st b)
item_named_leaves at (Parens h ps) n st b s so_far has = refl
item_named_leaves at (Braces h fs) n st b s so_far has = field_named_leaves at 58 (Braces h fs) n st b s refl so_far has
item_named_leaves at (Closed_braces place m fs) n st b s so_far has = field_named_leaves at 58 (Closed_braces place m fs) n st b s refl so_far has
item_named_leaves at (Table place h) n st b s so_far has = field_named_leaves at 61 (Table place h) n st b s refl so_far has
item_named_leaves at (Angles e) n st b s so_far has =
    let g : Group = Angles e in
    chosen at s b (eqb b 61) (Ok (Form_due, In_item g n ∷ st)) _
    (λ h. level_takes (In_item g n) (due_text g ++ name_text n) st b 61 s h (sym (append_assoc (due_text g) (name_text n) (61 ∷ []))) so_far (λ k. ((has k).0.0, (has k).0.1, (has k).1)))
    (λ h. chosen at s b (eqb b 40) (Ok (Item_due (Parens (Variant_of e n) no_parts), st)) _
    (λ k. opened_group (Parens (Variant_of e n) no_parts) st b 40 s refl refl k so_far (λ t. (((has t).0, tt), (has t).1)))
    (λ k. chosen at s b (eqb b 123) (Ok (Item_due (Braces (Variant_of e n) no_fields), st)) _
    (λ p. opened_group (Braces (Variant_of e n) no_fields) st b 123 s refl refl p so_far (λ t. (((has t).0, tt), (has t).1)))
    (λ p. item_leaves at (Angles (grown_enum e n unit_content)) st b s
    (so_far ∙ ap (λ xs. levels_text st ++ xs) (sym (grown_enum_text e n unit_content ∙ append-nil (variant_text e n)))) (sep-variant e.variants n unit_content)
    (λ t. (variants_texts-snoc e.variants n unit_content (has t).0.0 (has t).0.1 tt, (has t).1)))))

-- the name of a reference is the whole form
abbrev EndsReference : Owner → Utf8 → Mode → ℕ → Type 0
EndsReference (Form_at place) n m b = Unit {0}
EndsReference (Item_of g) n m b = Unit {0}
EndsReference (Reference_at place) n m b = Behind (reference n) m × (word_on m (b ∷ []) ≡ false)

named_leaves : (at : ℕ) (owner : Owner) (n : Utf8) (st : List Level) (b : ℕ) (m : Mode) (piece : Utf8) → (is_written n ≡ true → struct_name_text n ≡ piece) → name_text n ≡ piece → written (m, st) ≡ levels_text st ++ (owner_text owner ++ piece)
    → (TextState (m, st) → (TextOwner owner × (is_utf8 n ≡ true)) × TextLevels st) → EndsReference owner n m b → Leaves at (m, st) b (named at owner n st b)
unfolding named
named_leaves at (Form_at place) n st b m piece as_struct as_name so_far has ends = form_named_leaves at place n st b (m, st) piece as_struct as_name so_far (λ k. ((has k).0.1, (has k).1))
named_leaves at (Item_of g) n st b m piece as_struct as_name so_far has ends = item_named_leaves at g n st b (m, st) (so_far ∙ ap (λ xs. levels_text st ++ (due_text g ++ xs)) (sym as_name)) has
named_leaves at (Reference_at place) n st b m piece as_struct as_name so_far has ends = ended_leaves at (reference n) m st b ends.0 ends.1

word_leaves : (o : Option Leaf) (at place : ℕ) (n : Utf8) (st : List Level) (b : ℕ) → of_word n ≡ o → goes_on (b ∷ []) ≡ false → Leaves at (Bare (Form_at place) n, st) b (leaf_ended at o st b)
word_leaves None at place n st b is ends = refl
word_leaves (Some l) at place n st b is ends = ended_leaves at (leaf l) (Bare (Form_at place) n) st b (l, is, refl) ends

bare_ends : (owner : Owner) (n : Utf8) (b : ℕ) → bare n ≡ true → in_bare b ≡ false → EndsReference owner n (Bare owner n) b
bare_ends (Form_at place) n b v out = tt
bare_ends (Item_of g) n b v out = tt
bare_ends (Reference_at place) n b v out = ((v, refl), out)

bare_named : (at : ℕ) (owner : Owner) (n : Utf8) (st : List Level) (b : ℕ) → bare n ≡ true → in_bare b ≡ false → Leaves at (Bare owner n, st) b (named at owner n st b)
bare_named at owner n st b v out = named_leaves at owner n st b (Bare owner n) n (λ _. struct_name-bare n v) (name-bare n v) refl (λ k. (k.mode, k.levels)) (bare_ends owner n b v out)

quoted_ends : (owner : Owner) (n : Utf8) (b : ℕ) → bare n ≡ false → EndsReference owner n (Named owner n) b
quoted_ends (Form_at place) n b v = tt
quoted_ends (Item_of g) n b v = tt
quoted_ends (Reference_at place) n b v = ((v, refl), refl)

word_ended_leaves : (at : ℕ) (owner : Owner) (n : Utf8) (st : List Level) (b : ℕ) → bare n ≡ true → in_bare b ≡ false → Leaves at (Bare owner n, st) b (word_ended at owner n st b)
unfolding word_ended
word_ended_leaves at (Form_at place) n st b v out =
    chosen at (Bare (Form_at place) n, st) b (names_form b) (named at (Form_at place) n st b) _ (λ h. bare_named at (Form_at place) n st b v out)
    (λ h. word_leaves (of_word n) at place n st b refl (either_false (in_bare b) (names_form b) out h))
word_ended_leaves at (Item_of g) n st b v out = bare_named at (Item_of g) n st b v out
word_ended_leaves at (Reference_at place) n st b v out = bare_named at (Reference_at place) n st b v out

all_snoc : (xs : Utf8) (b : ℕ) → list_all in_bare xs ≡ true → in_bare b ≡ true → list_all in_bare (xs ++ b ∷ []) ≡ true
all_snoc [] b h e = ap (λ t. t && true) e
all_snoc (x ∷ xs) b h e = let both = and_true (in_bare x) (list_all in_bare xs) h in ap (λ t. t && list_all in_bare (xs ++ b ∷ [])) both.0 ∙ all_snoc xs b both.1 e

pub bare_snoc : (xs : Utf8) (b : ℕ) → bare xs ≡ true → in_bare b ≡ true → bare (xs ++ b ∷ []) ≡ true
bare_snoc [] b h e = absurd cc
bare_snoc (x ∷ xs) b h e = let both = and_true (begins_bare x) (list_all in_bare xs) h in ap (λ t. t && list_all in_bare (xs ++ b ∷ [])) both.0 ∙ all_snoc xs b both.1 e

bare_leaves : (at : ℕ) (owner : Owner) (n : Utf8) (st : List Level) (b : ℕ) → bare n ≡ true → Leaves at (Bare owner n, st) b (bare_name at owner n st b)
unfolding bare_name
bare_leaves at owner n st b v =
    chosen at (Bare owner n, st) b (in_bare b) (Ok (Bare owner (n ++ b ∷ []), st)) _
    (λ h. record { valid = bare_snoc n b v h; texts = λ k low. record { mode = (k.mode.0, text-push n b k.mode.1 low); levels = k.levels }; grew = ap (λ xs. levels_text st ++ xs) (sym (append_assoc (owner_text owner) n (b ∷ []))) ∙ sym (append_assoc (levels_text st) (owner_text owner ++ n) (b ∷ [])) })
    (λ h. word_ended_leaves at owner n st b v h)

-- ---- between quotes

pub escaped-append : (xs ys : Utf8) → escaped (xs ++ ys) ≡ escaped xs ++ escaped ys
escaped-append [] ys = refl
escaped-append (x ∷ xs) ys =
    elim (is_escaped x) as (λ t. cond t (92 ∷ x ∷ escaped (xs ++ ys)) (x ∷ escaped (xs ++ ys)) ≡ cond t (92 ∷ x ∷ escaped xs) (x ∷ escaped xs) ++ escaped ys) [
      | true ↦ ap (λ zs. 92 ∷ x ∷ zs) (escaped-append xs ys)
      | false ↦ ap (λ zs. x ∷ zs) (escaped-append xs ys)
    ]

pub escaped-plain : (n : Utf8) (b : ℕ) → is_escaped b ≡ false → escaped (n ++ b ∷ []) ≡ escaped n ++ b ∷ []
escaped-plain n b h = escaped-append n (b ∷ []) ∙ ap (λ t. escaped n ++ cond t (92 ∷ b ∷ []) (b ∷ [])) h

pub escaped-marked : (n : Utf8) (b : ℕ) → is_escaped b ≡ true → escaped (n ++ b ∷ []) ≡ escaped n ++ (92 ∷ b ∷ [])
escaped-marked n b h = escaped-append n (b ∷ []) ∙ ap (λ t. escaped n ++ cond t (92 ∷ b ∷ []) (b ∷ [])) h

closing_leaves : (at : ℕ) (owner : Owner) (n : Utf8) (st : List Level) → Leaves at (Quoted owner n, st) 34 (name_closed at owner n st)
unfolding name_closed
closing_leaves at owner n st =
    chosen at (Quoted owner n, st) 34 (bare n) (Err (Not_notation at)) _ (λ h. refl)
    (λ h. record {
      valid = h;
      texts = λ k _. record { mode = k.mode; levels = k.levels };
      grew = ap (λ xs. levels_text st ++ xs) (sym (append_assoc (owner_text owner) (34 ∷ escaped n) (34 ∷ []))) ∙ sym (append_assoc (levels_text st) (owner_text owner ++ 34 ∷ escaped n) (34 ∷ []));
    })

quoted_leaves : (at : ℕ) (owner : Owner) (n : Utf8) (st : List Level) (b : ℕ) → Leaves at (Quoted owner n, st) b (quoted_name at owner n st b)
unfolding quoted_name
quoted_leaves at owner n st b =
    let s : State = (Quoted owner n, st) in
    let o = owner_text owner in
    chosen at s b (eqb b 34) (name_closed at owner n st) _
    (λ h. rw (eqb-true b 34 h) (closing_leaves at owner n st))
    (λ h. chosen at s b (eqb b 92) (Ok (Escape owner n, st)) _
    (λ k. record {
      valid = tt;
      texts = λ k _. record { mode = k.mode; levels = k.levels };
      grew = ap (λ xs. levels_text st ++ xs) (sym (append_assoc o (34 ∷ escaped n) (92 ∷ []))) ∙ sym (append_assoc (levels_text st) (o ++ 34 ∷ escaped n) (92 ∷ [])) ∙ ap (λ x. written s ++ x ∷ []) (sym (eqb-true b 92 k));
    })
    (λ k. record {
      valid = tt;
      texts = λ k low. record { mode = (k.mode.0, text-push n b k.mode.1 low); levels = k.levels };
      grew = ap (λ xs. levels_text st ++ (o ++ 34 ∷ xs)) (escaped-plain n b (either_false (eqb b 34) (eqb b 92) h k))
          ∙ ap (λ xs. levels_text st ++ xs) (sym (append_assoc o (34 ∷ escaped n) (b ∷ []))) ∙ sym (append_assoc (levels_text st) (o ++ 34 ∷ escaped n) (b ∷ []));
    }))

escape_leaves : (at : ℕ) (owner : Owner) (n : Utf8) (st : List Level) (b : ℕ) → Leaves at (Escape owner n, st) b (escape at owner n st b)
unfolding escape
escape_leaves at owner n st b =
    chosen at (Escape owner n, st) b (is_escaped b) (Ok (Quoted owner (n ++ b ∷ []), st)) _
    (λ h. record { valid = tt; texts = λ k low. record { mode = (k.mode.0, text-push n b k.mode.1 low); levels = k.levels }; grew = ap (λ xs. levels_text st ++ (owner_text owner ++ 34 ∷ xs)) (escaped-marked n b h) ∙ regrouped (levels_text st) (owner_text owner) (escaped n) })
    (λ h. refl)
  where
    regrouped : (a c d : Utf8) → a ++ (c ++ 34 ∷ (d ++ (92 ∷ b ∷ []))) ≡ (a ++ (c ++ (34 ∷ (d ++ 92 ∷ [])))) ++ b ∷ []
    regrouped a c d = simp append_assoc

-- ---- one byte

pub step_leaves : (at : ℕ) (m : Mode) (st : List Level) (b : ℕ) → ValidMode m → Leaves at (m, st) b (step at m st b)
unfolding step
step_leaves at Form_due st b v = form_leaves at st b (Form_due, st) refl (λ k. k.levels)
step_leaves at (Behind_sign Percent place) st b v =
    let s : State = (Behind_sign Percent place, st) in
    chosen at s b (eqb b 40) (Ok (Form_due, In_pair place ∷ st)) _ (λ h. level_takes (In_pair place) (37 ∷ []) st b 40 s h refl refl (λ k. k.levels)) (λ h. refl)
step_leaves at (Behind_sign Ampersand place) st b v =
    let s : State = (Behind_sign Ampersand place, st) in
    chosen at s b (eqb b 40) (Ok (Item_due (Table place no_fields), st)) _ (λ h. opened_group (Table place no_fields) st b 40 s refl refl h refl (λ k. (tt, k.levels))) (λ h. refl)
step_leaves at (Behind_sign At place) st b v =
    let s : State = (Behind_sign At place, st) in
    chosen at s b (begins_name b) (Ok (name_begun (Reference_at place) b, st)) _ (λ h. begun_takes (eqb b 34) (Reference_at place) st b s refl h refl (λ k. (tt, k.levels))) (λ h. refl)
step_leaves at (Item_due g) st b v = due_leaves at g st b
step_leaves at (Bare owner n) st b v = bare_leaves at owner n st b v
step_leaves at (Quoted owner n) st b v = quoted_leaves at owner n st b
step_leaves at (Escape owner n) st b v = escape_leaves at owner n st b
step_leaves at (Named owner n) st b v =
    named_leaves at owner n st b (Named owner n) (quoted n) (struct_name-quoted n v) (name-quoted n v) refl (λ k. (k.mode, k.levels)) (quoted_ends owner n b v)
step_leaves at (Item_done g) st b v = item_leaves at g st b (Item_done g, st) refl v (λ k. (k.mode, k.levels))
step_leaves at (Done f) st b v = ended_leaves at f (Done f) st b refl refl
