-- Of a file without damage all is kept.
use Rattle.std.proofs.Common.{◌≡◌, ℕ, ◌<◌, Bool, true, false, cond, List, [], ◌∷◌, ◌++◌, map, length, drop, take, Some, None, Result, Ok, Err, refl, ap, ◌∙◌, arith}
use Rattle.std.specs.Prelude.{nat_lt}
use Rattle.std.specs.List.{concat}
use Rattle.std.proofs.lemmas.List.{length-append, take-append-le, take_all}
use Rattle.bson_kinds.specs.Text.{Bytes}
use Rattle.bson_kinds.specs.declared.element_type.ElementType.TheVariants.{EmbeddedDocument}
use Rattle.bson_faults.specs.declared.raw.Error.{Error}
use Rattle.bson_rawdoc.specs.Cut.{length_within, piece_length}
use Rattle.bson_rawdoc.specs.Extent.{extent}
use Rattle.bson_streaming.proofs.Nexts.{five_at_least}
use Rattle.bson_salvaging.specs.Looks.{is_walked, walked}
use Rattle.bson_salvaging.specs.Salvage.{kept, first_looks, gained, faulty_after, step_of, then_stretch, salvage_from, salvage}
use Rattle.bson_salvaging.specs.Salvaged.{saved}
use Rattle.bson_salvaging.specs.Undamaged.{IsUndamaged, AreUndamaged}
use Rattle.bson_salvaging.specs.declared.stepping.Step.{Step}
use Rattle.bson_salvaging.proofs.Finds.{is_there}
use Rattle.bson_salvaging.proofs.Saving.{salvage_none, salvage_more}

same_length : (m n : ℕ) (t : Bool) → cond t None (Some m) ≡ Some n → m ≡ n
same_length m n true e = absurd cc
same_length m n false e = cc

announced_by : (r : Result ℕ Error) (there n : ℕ) → length_within there r ≡ Some n → r ≡ Ok n
announced_by (Ok m) there n e = ap Ok (same_length m n (nat_lt there m) e)
announced_by (Err x) there n e = absurd cc

announced : (d : Bytes) → piece_length d ≡ Some (length d) → extent EmbeddedDocument d ≡ Ok (length d)
announced d e = announced_by (extent EmbeddedDocument d) (length d) (length d) e

drop_front : (d rest : Bytes) → drop (length d) (d ++ rest) ≡ rest
drop_front [] rest = refl
drop_front (x ∷ xs) rest = drop_front xs rest

take_front : (d rest : Bytes) → take (length d) (d ++ rest) ≡ d
take_front d rest = take-append-le (length d) d rest (omega arith) ∙ take_all (length d) d (omega arith)

abbrev whole : ℕ → ℕ → Step
whole looks n = record { keeps = true; count = n; left = gained n looks }

-- a document in front is kept
one_kept : (looks : ℕ) (d rest : Bytes) → IsUndamaged d → salvage_from looks (d ++ rest) ≡ kept d ∷ salvage_from (gained (length d) looks) rest
one_kept looks d rest u =
    let is = announced d u.told in
    let some : 0 < length (d ++ rest) = omega (arith, five_at_least d (length d) is, length-append d rest) in
    salvage_more looks (d ++ rest) some
    ∙ ap (λ (z : Step). then_stretch z (d ++ rest) salvage_from)
    (ap (step_of looks (d ++ rest)) (is_there d rest (length d) is (omega arith))
    ∙ ap (λ t. cond t (whole looks (length d)) (faulty_after looks (walked (take (length d) (d ++ rest))) (d ++ rest) (length d))) (ap is_walked (take_front d rest) ∙ u.walked))
    ∙ ap (λ b. kept b ∷ salvage_from (gained (length d) looks) (drop (length d) (d ++ rest))) (take_front d rest)
    ∙ ap (λ b. kept d ∷ salvage_from (gained (length d) looks) b) (drop_front d rest)

all_kept : (looks : ℕ) (ds : List Bytes) → AreUndamaged ds → salvage_from looks (concat ds) ≡ map kept ds
all_kept looks [] u = salvage_none looks
all_kept looks (d ∷ ds) u = one_kept looks d (concat ds) u.0 ∙ ap (λ l. kept d ∷ l) (all_kept (gained (length d) looks) ds u.1)

pub undamaged : (ds : List Bytes) → AreUndamaged ds → salvage (concat ds) ≡ map kept ds
undamaged ds u = all_kept first_looks ds u

kept_saved : (ds : List Bytes) → saved (map kept ds) ≡ concat ds
kept_saved [] = refl
kept_saved (d ∷ ds) = ap (λ b. d ++ b) (kept_saved ds)

pub all_saved : (ds : List Bytes) → AreUndamaged ds → saved (salvage (concat ds)) ≡ concat ds
all_saved ds u = ap saved (undamaged ds u) ∙ kept_saved ds
