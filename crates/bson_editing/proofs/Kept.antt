-- Where each element stays as it is and nothing is missing, an edited document is itself.
use Rattle.std.proofs.Common.{◌≡◌, ℕ, suc, ◌+◌, ◌-◌, ◌^◌, ◌≤◌, [], ◌∷◌, ◌++◌, length, drop, Bool, true, false, cond, ltb, Option, Some, None, Ok, Err, refl, ap, sym, subst, ◌∙◌, arith, pos, negsuc}
use Rattle.std.specs.Prelude.{nat_lt, ◌||◌}
use Rattle.std.specs.Int.{w32, from_le_bytes}
use Rattle.std.proofs.lemmas.Bool.{le-ltb}
use Rattle.std.proofs.lemmas.List.{length-drop, length-take-le}
use Rattle.bson_kinds.specs.Text.{Bytes, AreBytes, Utf8}
use Rattle.bson_kinds.specs.Outcome.{◌>>=◌, result_map}
use Rattle.bson_base.specs.Sound.{max_bytes}
use Rattle.bson_base.specs.Tree.{Tree, enclosed, le32}
use Rattle.bson_rawdoc.specs.Envelope.{envelope, inside}
use Rattle.bson_rawdoc.specs.Numbers.{int32_in, uint32_in}
use Rattle.bson_rawdoc.specs.Walk.{Element, Walk, ended, faulty, then_walk, walk}
use Rattle.bson_rawdoc.proofs.Counts.{length_below}
use Rattle.bson_laws.proofs.Framed.{frame}
use Rattle.bson_itself.proofs.Parts.{framed}
use Rattle.bson_values.specs.Refusal.{inside as at_segment}
use Rattle.bson_editing.specs.Edited.{Changing, Editing, Outcome, Around, segment, value_of, has_key, renamed, refused, too_long, in_place, each_edited, behind, joined, enclosed_within, made_of, of_envelope, absent, put_absent, chosen, edited_as, edited_by, missing_by, edited_in, edited}
use Rattle.bson_editing.specs.Plan.{Steps, no_steps, step}
use Rattle.bson_editing.specs.Settled.{IsForNone, AreForNone, IsThere, LacksNothing}
use Rattle.bson_editing.proofs.Again.{IsWhole, joined_is}

-- ---- the frame of a document

number_is : (m k n : ℕ) (b : Bool) → cond b (pos m) (negsuc k) ≡ pos n → m ≡ n
number_is m k n true e = cc
number_is m k n false e = absurd cc

counted : (b : Bytes) (n : ℕ) → int32_in b ≡ pos n → uint32_in b ≡ n
unfolding int32_in uint32_in
counted b n e = let m = from_le_bytes w32 b in number_is m (2 ^ 32 - suc m) n (ltb m (2 ^ 31)) e

length_inside : (b : Bytes) → 5 ≤ length b → length (inside b) + 5 ≡ length b
unfolding inside
length_inside b h = omega (arith, length-take-le (length b - 5) (drop 4 b) (omega (arith, length-drop 4 b)), h)

-- a document is what is between its length and its last zero
pub record IsFramed (b : Bytes) : Type 0 where
  pub frame : enclosed (inside b) ≡ b
  pub size : length (inside b) + 5 ≡ length b

pub framed_is : (b : Bytes) → AreBytes b → envelope b ≡ Ok b → IsFramed b
framed_is b all env =
    let f = frame b b env in
    let size = length_inside b f.1.least in
    record { frame = ap (λ n. le32 n ++ (inside b ++ 0 ∷ [])) (size ∙ sym (counted b (length b) f.1.told)) ∙ sym (framed b all f.1.least f.2); size = size }

-- ---- elements that stay

-- Each element stays as it is.
abbrev pub StayAll : {X : Type 0} → (ℕ → Element → Outcome X) → ℕ → Walk → Type 0
StayAll f i ended = Unit {0}
StayAll f i (faulty e) = Unit {0}
StayAll f i (then_walk x w) = (f i x ≡ Ok (Some x)) × StayAll f (i + 1) w

each_stays : {X : Type 0} (f : ℕ → Element → Outcome X) (i : ℕ) (w : Walk) → IsWhole w → StayAll f i w → each_edited f i w ≡ Ok w
each_stays f i ended whole stay = refl
each_stays f i (faulty e) whole stay = absurd whole
each_stays f i (then_walk x w) whole stay =
    ap (λ y. y >>= λ o. result_map (in_place o) (each_edited f (i + 1) w)) stay.0 ∙ ap (result_map (in_place (Some x))) (each_stays f (i + 1) w whole stay.1)

behind-ended : (w : Walk) → IsWhole w → behind w ended ≡ w
behind-ended ended h = refl
behind-ended (faulty e) h = absurd h
behind-ended (then_walk x w) h = ap (then_walk x) (behind-ended w h)

within : {X : Type 0} (b : Bool) (body : Bytes) → b ≡ false → cond {A = Editing X Bytes} b (refused too_long) (Ok (enclosed body)) ≡ Ok (enclosed body)
within true body e = absurd cc
within false body e = refl

module _ {X : Type 0} (f : Around → ℕ → Element → Outcome X) (missing : Around → Editing X Walk) (array : Bool) (levels : ℕ) (b : Bytes) (env : envelope b ≡ Ok b) (framed : IsFramed b) (whole : IsWhole (walk b)) where
  abbrev around : Around
  around = record { array = array; levels = levels; elements = walk b }

  -- the document is itself
  pub document_kept : StayAll (f around) 0 (walk b) → missing around ≡ Ok ended → made_of f missing array levels b ≡ Ok b
  document_kept stay none =
      ap (λ x. (x >>= λ d. result_map (behind d) (missing around)) >>= λ w. enclosed_within (joined w)) (each_stays (f around) 0 (walk b) whole stay)
      ∙ ap (λ m. result_map (behind (walk b)) m >>= λ w. enclosed_within (joined w)) none
      ∙ ap (λ w. enclosed_within (joined w)) (behind-ended (walk b) whole)
      ∙ ap enclosed_within (joined_is (walk b) (inside b) refl whole)
      ∙ within (nat_lt max_bytes (length (inside b) + 5)) (inside b) (le-ltb _ _ (omega (arith, framed.size, length_below b env)))
      ∙ ap Ok framed.frame

-- ---- steps that are for no element

pub none_edited : {X : Type 0} (r : Changing X) (steps : Steps) (a : Around) (i : ℕ) (e : Element) → IsForNone a.array steps e.key → edited_by r steps a i e ≡ Ok (Some e)
none_edited r no_steps a i e h = refl
none_edited r (step name to missing edit rest) a i e h =
    ap (λ b. chosen b (at_segment (segment a i e.key) (renamed (λ key. edited_as r edit a.levels key (value_of e)) to e.key a.elements)) (edited_by r rest a i e)) h.0 ∙ none_edited r rest a i e h.1

or_true : (a b : Bool) → b ≡ true → (a || b) ≡ true
or_true true b h = refl
or_true false b h = h

there : (a : Around) (name : Option Utf8) (missing : Option Tree) → IsThere name missing a.elements → absent a name missing ≡ None
there a None None h = refl
there a None (Some t) h = refl
there a (Some name) None h = refl
there a (Some name) (Some t) h = ap (λ b. cond b None (Some (name, t))) (or_true a.array (has_key name a.elements) h)

same_walk : {X : Type 0} (m : Editing X Walk) → result_map (in_place None) m ≡ m
same_walk (Ok w) = refl
same_walk (Err r) = refl

pub none_missing : {X : Type 0} (r : Changing X) (steps : Steps) (a : Around) → LacksNothing steps a.elements → missing_by r steps a ≡ Ok ended
none_missing r no_steps a h = refl
none_missing r (step name to missing edit rest) a h =
    ap (λ o. put_absent (λ key v. edited_as r edit a.levels key v) a.levels o >>= λ p. result_map (in_place p) (missing_by r rest a)) (there a name missing h.0) ∙ same_walk (missing_by r rest a) ∙ none_missing r rest a h.1

all_stay : {X : Type 0} (r : Changing X) (steps : Steps) (a : Around) (i : ℕ) (w : Walk) → a.array ≡ false → AreForNone steps w → StayAll (edited_by r steps a) i w
all_stay r steps a i ended array h = tt
all_stay r steps a i (faulty e) array h = tt
all_stay r steps a i (then_walk x w) array h = (none_edited r steps a i x (subst (λ b. IsForNone b steps x.key) (sym array) h.0), all_stay r steps a (i + 1) w array h.1)

all_whole : (steps : Steps) (w : Walk) → AreForNone steps w → IsWhole w
all_whole steps ended h = tt
all_whole steps (faulty e) h = h
all_whole steps (then_walk x w) h = all_whole steps w h.1

pub kept : {X : Type 0} (r : Changing X) (steps : Steps) (b : Bytes) → AreBytes b → envelope b ≡ Ok b → AreForNone steps (walk b) → LacksNothing steps (walk b) → edited r steps b ≡ Ok b
kept r steps b all env none lacks =
    let a : Around = record { array = false; levels = 199; elements = walk b } in
    ap (of_envelope (edited_in r steps false 199)) env
    ∙ document_kept (edited_by r steps) (missing_by r steps) false 199 b env (framed_is b all env) (all_whole steps (walk b) none) (all_stay r steps a 0 (walk b) refl none) (none_missing r steps a lacks)
