-- The documents of a file, one after another.
use Rattle.std.proofs.Common.{◌≡◌, ℕ, zero, suc, ◌+◌, List, [], ◌∷◌, Bool, true, false, cond, Option, Some, None, Result, Ok, Err, is_some, refl, ap, sym, subst, ◌∙◌, add-one}
use Rattle.bson_kinds.specs.Text.{Bytes}
use Rattle.bson_base.specs.Sound.{IsSound}
use Rattle.bson_base.specs.Tree.{Tree, Trees, no_trees, tree, Pairs, document}
use Rattle.bson_rawdoc.specs.Cut.{Cut, whole, with_piece, broken_at, cut}
use Rattle.bson_faults.specs.declared.raw.Error.{Error}
use Rattle.bson_shape.specs.Makers.{IsShape}
use Rattle.bson_infer_laws.specs.Inferred.{shape_of, joined_shapes, inferred}
use Rattle.bson_infer_laws.specs.Join.{join}
use Rattle.bson_infer_run.specs.Files.{Fault, fault_or, first_fault, and_document, documents_in, is_sound_tree, first_unsound, piece_pairs, or_number, IsGathered, Gathers, IsAllGathered}
use Rattle.bson_infer_run.specs.Infer.{AreSound}
use Rattle.bson_infer_run.specs.SoundTest.{is_sound}
use Rattle.bson_infer_run.proofs.Documents.{sound_shape}
use Rattle.bson_infer_run.proofs.SoundTests.{sound_decided}
use Rattle.bson_infer_run.specs.declared.file.FileError.{FileError}
use Rattle.bson_infer_run.specs.declared.file.FileError.TheVariants as errors
use Rattle.bson_infer_run.specs.declared.file.Gathered.{Gathered}

-- the first of two numbers that is one
abbrev pub or_else : Option ℕ → Option ℕ → Option ℕ
or_else (Some n) later = Some n
or_else None later = later

-- So far no document has a fault; what is known, with what is left, tells of all.
pub record IsUnderWay (all left : Cut) (g : Gathered) : Type 0 where
  pub unbroken : left.broken ≡ None
  pub fault : first_fault 0 all.pieces ≡ first_fault g.number left.pieces
  pub unsound : first_unsound 0 (documents_in all.pieces) ≡ or_else g.unsound (first_unsound g.number (documents_in left.pieces))
  pub joined : g.unsound ≡ None → joined_shapes g.summary (documents_in left.pieces) ≡ inferred (documents_in all.pieces)

by_test : (u : Option ℕ) (b : Bool) (n : ℕ) (rest : Option ℕ) → or_else u (cond b rest (Some n)) ≡ or_else (or_number u b n) rest
by_test (Some m) b n rest = refl
by_test None true n rest = refl
by_test None false n rest = refl

none_before : (u : Option ℕ) (b : Bool) (n : ℕ) → or_number u b n ≡ None → u ≡ None
none_before (Some m) b n e = absurd cc
none_before None b n e = refl

next_ok : (all new : Cut) (piece : Bytes) (g h : Gathered) (ps : Pairs) → piece_pairs piece ≡ Ok ps → IsGathered g ps h → IsUnderWay all (with_piece piece new) g → IsUnderWay all new h
next_ok all new piece g h ps is one way =
    let step : h.number ≡ suc g.number = one.number ∙ add-one g.number in
    record {
      unbroken = way.unbroken;
      fault = way.fault ∙ ap (λ r. fault_or g.number r (first_fault (suc g.number) new.pieces)) is ∙ ap (λ n. first_fault n new.pieces) (sym step);
      unsound =
          way.unsound ∙ ap (λ r. or_else g.unsound (first_unsound g.number (and_document r (documents_in new.pieces)))) is
          ∙ by_test g.unsound (is_sound ps) g.number (first_unsound (suc g.number) (documents_in new.pieces))
          ∙ (λ i. or_else (sym one.unsound i) (first_unsound (sym step i) (documents_in new.pieces)));
      joined = λ e.
          ap (λ s. joined_shapes s (documents_in new.pieces)) (one.joined e)
          ∙ sym (ap (λ r. joined_shapes g.summary (and_document r (documents_in new.pieces))) is)
          ∙ way.joined (none_before g.unsound (is_sound ps) g.number (sym one.unsound ∙ e));
    }

next_by : (all new : Cut) (piece : Bytes) (g h : Gathered) (r : Result Pairs Error) → piece_pairs piece ≡ r → Gathers g r (Ok h) → IsUnderWay all (with_piece piece new) g → IsUnderWay all new h
next_by all new piece g h (Ok ps) is one way = next_ok all new piece g h ps is one way
next_by all new piece g h (Err e) is one way = absurd one

pub next_gathered : (all left new : Cut) (piece : Bytes) (g h : Gathered) → left ≡ with_piece piece new → Gathers g (piece_pairs piece) (Ok h) → IsUnderWay all left g → IsUnderWay all new h
next_gathered all left new piece g h is one way = next_by all new piece g h (piece_pairs piece) refl one (subst (λ l. IsUnderWay all l g) is way)

stopped_by : (all new : Cut) (piece : Bytes) (g : Gathered) (e : FileError) (r : Result Pairs Error) → piece_pairs piece ≡ r → Gathers g r (Err e) → IsUnderWay all (with_piece piece new) g → IsAllGathered all.pieces (Err e)
stopped_by all new piece g (errors.Faulty n f) (Err x) is one way =
    way.fault ∙ ap (λ r. fault_or g.number r (first_fault (suc g.number) new.pieces)) is ∙ (λ i. Some (let z : Fault = record { number = sym one.0 i; error = sym one.1 i } in z))
stopped_by all new piece g (errors.Faulty n f) (Ok ps) is one way = absurd one
stopped_by all new piece g errors.NoMemory r is one way = tt
stopped_by all new piece g (errors.Broken p) (Ok ps) is one way = absurd one
stopped_by all new piece g (errors.Broken p) (Err x) is one way = absurd one
stopped_by all new piece g (errors.NotSound p) (Ok ps) is one way = absurd one
stopped_by all new piece g (errors.NotSound p) (Err x) is one way = absurd one

pub stopped : (all left new : Cut) (piece : Bytes) (g : Gathered) (e : FileError) → left ≡ with_piece piece new → Gathers g (piece_pairs piece) (Err e) → IsUnderWay all left g → IsAllGathered all.pieces (Err e)
stopped all left new piece g e is one way = stopped_by all new piece g e (piece_pairs piece) refl one (subst (λ l. IsUnderWay all l g) is way)

or_none : (u : Option ℕ) → or_else u None ≡ u
or_none None = refl
or_none (Some n) = refl

pub all_gathered : (all left : Cut) (g : Gathered) → left ≡ whole → IsUnderWay all left g → IsAllGathered all.pieces (Ok g)
all_gathered all left g is way =
    let w : IsUnderWay all whole g = subst (λ l. IsUnderWay all l g) is way in
    (w.fault, w.unsound ∙ or_none g.unsound, w.joined)

-- ---- one document

not_true : (r b : Bool) → r ≡ false → (b ≡ true → r ≡ true) → b ≡ false
not_true r true e h = sym (h refl) ∙ e
not_true r false e h = refl

-- what the call answers is what the test says
pub test_false : (ps : Pairs) (r : Bool) → (IsSound (document ps) → r ≡ true) → r ≡ false → is_sound ps ≡ false
test_false ps r h e = not_true r (is_sound ps) e (λ t. h ((sound_decided ps).0 t))

pub test_true : (ps : Pairs) (r : Bool) → (r ≡ true → IsSound (document ps)) → r ≡ true → is_sound ps ≡ true
test_true ps r h e = (sound_decided ps).1 (h e)

none_of : (u : Option ℕ) → is_some u ≡ false → u ≡ None
none_of None e = refl
none_of (Some n) e = absurd cc

pub none_left : (u : Option ℕ) → ((n : ℕ) → u ≡ Some n → ⊥) → u ≡ None
none_left None h = refl
none_left (Some n) h = absurd (h n refl)

gathers : (g h : Gathered) (r : Result Pairs Error) (ps : Pairs) → r ≡ Ok ps → IsGathered g ps h → Gathers g r (Ok h)
gathers g h r ps e one = subst (λ x. Gathers g x (Ok h)) (sym e) one

pub unsound_gathered : (g h : Gathered) (r : Result Pairs Error) (ps : Pairs) → r ≡ Ok ps → is_some g.unsound ≡ false → is_sound ps ≡ false → h.number ≡ g.number + 1 → h.unsound ≡ Some g.number → Gathers g r (Ok h)
unsound_gathered g h r ps e u s n w =
    gathers g h r ps e (record {
      number = n;
      unsound = w ∙ (λ i. or_number (sym (none_of g.unsound u) i) (sym s i) g.number);
      joined = λ k. absurd (let clash : Some g.number ≡ None = sym w ∙ k in cc);
    })

pub sound_gathered : (g h : Gathered) (r : Result Pairs Error) (ps : Pairs) → r ≡ Ok ps → is_some g.unsound ≡ false → is_sound ps ≡ true → h.number ≡ g.number + 1 → h.unsound ≡ None → h.summary ≡ join g.summary (shape_of (document ps))
    → Gathers g r (Ok h)
sound_gathered g h r ps e u s n w j =
    gathers g h r ps e (record { number = n; unsound = w ∙ (λ i. or_number (sym (none_of g.unsound u) i) (sym s i) g.number); joined = λ k. j })

-- ---- all documents

by_sound : (b : Bool) (n : ℕ) (rest : Option ℕ) → cond b rest (Some n) ≡ None → (b ≡ true) × (rest ≡ None)
by_sound true n rest e = (refl, e)
by_sound false n rest e = absurd cc

tree_sound : (t : Tree) → is_sound_tree t ≡ true → IsSound t
tree_sound (document ps) e = (sound_decided ps).0 e
tree_sound t e = absurd cc

pub all_sound : (n : ℕ) (ts : Trees) → first_unsound n ts ≡ None → AreSound ts
all_sound n no_trees e = tt
all_sound n (tree t ts) e = let p = by_sound (is_sound_tree t) n (first_unsound (suc n) ts) e in (tree_sound t p.0, all_sound (suc n) ts p.1)

pub gathered_shape : (pieces : List Bytes) (g : Gathered) → IsAllGathered pieces (Ok g) → g.unsound ≡ None → IsShape g.summary
gathered_shape pieces g h u = subst IsShape (sym (h.2 u)) (sound_shape (documents_in pieces) (all_sound 0 (documents_in pieces) (h.1 ∙ u)))
