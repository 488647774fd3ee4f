-- A form that ends, with the options and newtypes around it that end with it.
use Rattle.std.proofs.Common.{◌≡◌, ℕ, Bool, true, false, List, [], ◌∷◌, ◌++◌, Some, Result, Ok, Err, refl, sym, ap, subst, ◌∙◌}
use Rattle.std.specs.Prelude.{IfOk}
use Rattle.bson_kinds.specs.Text.{Utf8}
use Rattle.bson_shape.specs.Form.{Form, leaf, reference}
use Rattle.bson_shape.specs.Leaf.{of_word}
use Rattle.bson_shape.specs.declared.leaf.Leaf.{Leaf}
use Rattle.bson_shape.specs.Makers.{made_form}
use Rattle.bson_shape.specs.Notation.{bare, text}
use Rattle.bson_shape.specs.Fronts.{HasTextNames, is_longer, goes_on}
use Rattle.bson_shape.specs.FirstRefusal.{MakerRefusal}
use Rattle.bson_shape.specs.declared.error.ShapeError.{ShapeError}
use Rattle.bson_kinds.specs.Outcome.{◌>>=◌}
use Rattle.bson_shape.specs.Machine.{Refusal, Not_notation, Refused, Level, In_prefix, In_brackets, In_pair, In_compact, In_map, In_item, Form_at, Reference_at, Mode, Bare, Named, Done, State, maker_answer, Ended, prefixed, wrapped}
use Rattle.bson_shape.proofs.Made.{made_form-made}
use Rattle.bson_shape.proofs.Words.{of_word-is}
use Rattle.bson_shape.proofs.TextStates.{TextLevels, TextMode, names-prefixed}
use Rattle.bson_shape.proofs.States.{levels_text, mode_text, levels_prefixed, name-bare, name-quoted}

-- The same is written, and the names are still texts; a maker that refuses does so behind these bytes.
abbrev pub Keeps : ℕ → Form → List Level → Result Ended Refusal → Type 0
Keeps read f st (Ok e) = (levels_text e.1 ++ text e.0 ≡ levels_text st ++ text f) × (HasTextNames f → TextLevels st → HasTextNames e.0 × TextLevels e.1)
Keeps read f st (Err (Not_notation q)) = ⊥
Keeps read f st (Err (Refused r)) = r.met ≡ read

-- one more form around
keeps_more : (r : Result Ended Refusal) (read : ℕ) (f g : Form) (around st : List Level) → levels_text st ++ text g ≡ levels_text around ++ text f → (HasTextNames f → TextLevels around → HasTextNames g × TextLevels st) → Keeps read g st r → Keeps read f around r
keeps_more (Ok e) read f g around st same names k = (k.0 ∙ same, λ h l. let n = names h l in k.1 n.0 n.1)
keeps_more (Err (Not_notation q)) read f g around st same names k = k
keeps_more (Err (Refused r)) read f g around st same names k = k

made_keeps : (r : Result Form ShapeError) (read place : ℕ) (f g : Form) (around st : List Level) → IfOk r (λ h. h ≡ g) → levels_text st ++ text g ≡ levels_text around ++ text f → (HasTextNames f → TextLevels around → HasTextNames g × TextLevels st)
    → Keeps read g st (wrapped read g st) → Keeps read f around (maker_answer read place r >>= λ h. wrapped read h st)
made_keeps (Ok h) read place f g around st is same names k = subst (λ h. Keeps read f around (wrapped read h st)) (sym is) (keeps_more (wrapped read g st) read f g around st same names k)
made_keeps (Err e) read place f g around st is same names k = refl

pub wrapped_keeps : (st : List Level) (read : ℕ) (f : Form) → Keeps read f st (wrapped read f st)
unfolding wrapped
wrapped_keeps [] read f = (refl, λ h l. (h, l))
wrapped_keeps (In_prefix place p ∷ st) read f =
    made_keeps (made_form (prefixed p f)) read place f (prefixed p f) (In_prefix place p ∷ st) st (made_form-made (prefixed p f)) (levels_prefixed p place st f) (λ h l. (names-prefixed p f l.0 h, l.1)) (wrapped_keeps st read (prefixed p f))
wrapped_keeps (In_brackets place ∷ st) read f = (refl, λ h l. (h, l))
wrapped_keeps (In_pair place ∷ st) read f = (refl, λ h l. (h, l))
wrapped_keeps (In_compact place r ∷ st) read f = (refl, λ h l. (h, l))
wrapped_keeps (In_map place k ∷ st) read f = (refl, λ h l. (h, l))
wrapped_keeps (In_item g n ∷ st) read f = (refl, λ h l. (h, l))

-- ---- behind a form

-- a word goes on with these bytes
abbrev pub word_on : Mode → Utf8 → Bool
word_on (Bare (Form_at place) n) bytes = goes_on bytes
word_on (Bare (Reference_at place) n) bytes = is_longer bytes
word_on m bytes = false

-- inside a word that may be a leaf
abbrev pub IsWord : Mode → Type 0
IsWord (Bare (Form_at place) n) = Unit {0}
IsWord m = ⊥

-- the form ends where no word goes on
abbrev pub Behind : Form → Mode → Type 0
Behind f (Done g) = g ≡ f
Behind f (Bare (Form_at place) n) = (l : Leaf) × (of_word n ≡ Some l) × (leaf l ≡ f)
Behind f (Bare (Reference_at place) n) = (bare n ≡ true) × (reference n ≡ f)
Behind f (Named (Reference_at place) n) = (bare n ≡ false) × (reference n ≡ f)
Behind f m = ⊥

pub behind_text : (f : Form) (m : Mode) → Behind f m → mode_text m ≡ text f
behind_text f (Done g) b = ap text b
behind_text f (Bare (Form_at place) n) b = of_word-is n b.0 b.1 ∙ ap text b.2
behind_text f (Bare (Reference_at place) n) b = ap (λ xs. 64 ∷ xs) (sym (name-bare n b.0)) ∙ ap text b.1
behind_text f (Named (Reference_at place) n) b = ap (λ xs. 64 ∷ xs) (sym (name-quoted n b.0)) ∙ ap text b.1
behind_text f m b = absurd b

pub behind_names : (f : Form) (m : Mode) → Behind f m → TextMode m → HasTextNames f
behind_names f (Done g) b t = subst HasTextNames b t
behind_names f (Bare (Form_at place) n) b t = subst HasTextNames b.2 tt
behind_names f (Bare (Reference_at place) n) b t = subst HasTextNames b.1 t.1
behind_names f (Named (Reference_at place) n) b t = subst HasTextNames b.1 t.1
behind_names f m b t = absurd b

-- a form has ended, and the maker of one around it refuses
pub record EndsForm (at : ℕ) (s : State) (r : MakerRefusal) : Type 0 where
  pub form : Form
  pub behind : Behind form s.0
  pub refused : wrapped at form s.1 ≡ Err (Refused r)

pub ends_met : (at : ℕ) (s : State) (r : MakerRefusal) → EndsForm at s r → r.met ≡ at
ends_met at s r e = subst (Keeps at e.form s.1) e.refused (wrapped_keeps s.1 at e.form)
