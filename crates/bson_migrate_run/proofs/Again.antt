-- What was migrated is given back when it is migrated again.
use Rattle.std.proofs.Common.{◌≡◌, ℕ, zero, suc, ◌+◌, ◌≤◌, List, [], ◌∷◌, ◌++◌, length, drop, Bool, true, false, cond, Option, Some, None, Result, Ok, Err, refl, ap, sym, subst, ◌∙◌, arith, pos}
use Rattle.std.specs.Prelude.{◌<◌, not, nat_lt, IfOk}
use Rattle.std.proofs.Math.Seq.{take-append_seam, drop-append_seam}
use Rattle.std.proofs.lemmas.Bool.{le-ltb, ltb-false}
use Rattle.std.proofs.lemmas.Bool.Decides.{Decides-int_eq}
use Rattle.std.proofs.lemmas.List.{length-append}
use Rattle.std.proofs.lemmas.List.Elements.{All-take, All-drop}
use Rattle.bson_kinds.specs.Text.{Bytes, AreBytes}
use Rattle.bson_kinds.specs.declared.element_type.ElementType.TheVariants.{EmbeddedDocument}
use Rattle.bson_rawdoc.specs.Cut.{Cut, with_piece, length_within, piece_length, cut_at, cut_within, cut_from, cut}
use Rattle.bson_rawdoc.specs.Envelope.{envelope, is_closed}
use Rattle.bson_rawdoc.specs.Extent.{extent}
use Rattle.bson_rawdoc.specs.Numbers.{int32_in}
use Rattle.bson_faults.specs.declared.raw.Error.{Error}
use Rattle.bson_faults.specs.declared.raw.Error.TheVariants.{TooShort, LengthDiffers, NoTerminator}
use Rattle.bson_rawdoc.proofs.Extents.{announced_found, number_within}
use Rattle.bson_rawdoc.proofs.Pieces.{cut-nil, cut_more}
use Rattle.bson_shape.specs.Form.{Form}
use Rattle.bson_shape.specs.Makers.{IsShape}
use Rattle.bson_laws.specs.Settled.{IsSettled}
use Rattle.bson_tree_recast.specs.Recast.{Recast, writes, unread, unwritten, recast_of}
use Rattle.bson_recasting.proofs.Again.{recast_again, recast_framed}
use Rattle.bson_migrate_run.specs.declared.migrating.Migration.{Migration}
use Rattle.bson_migrate_run.specs.declared.migrating.MigrateError.{MigrateError}
use Rattle.bson_migrate_run.specs.Migrating.{migrated, bytes_of, outputs, listed, not_recast, migration_by, migration_of, IsMigration}

-- what holds of each element of a list
abbrev Each : {A : Type 0} → (A → Type 0) → List A → Type 0
Each P [] = Unit {0}
Each P (x ∷ xs) = P x × Each P xs

-- ---- documents one after another

abbrev joined : List Bytes → Bytes
joined [] = []
joined (b ∷ bs) = b ++ joined bs

there_found : (b : Bool) (n : ℕ) → b ≡ false → cond b None (Some n) ≡ Some n
there_found true n e = absurd cc
there_found false n e = refl

framed_by : (x y : Bool) (z : Result Bytes Error) (c : Bytes) → cond x (Err TooShort) (cond (not y) (Err LengthDiffers) z) ≡ Ok c → (x ≡ false) × (y ≡ true)
framed_by true y z c e = absurd cc
framed_by false true z c e = (refl, refl)
framed_by false false z c e = absurd cc

-- bytes that are framed as a document are the first document of those that begin with them
framed_first : (b rest c : Bytes) → envelope b ≡ Ok c → piece_length (b ++ rest) ≡ Some (length b)
framed_first b rest c e =
    let f = framed_by (nat_lt (length b) 5) _ (cond (not (is_closed b)) (Err NoTerminator) (Ok b)) c e in
    let long : 5 ≤ length b = ltb-false _ _ f.0 in
    let told : int32_in b ≡ pos (length b) = (Decides-int_eq _ _).0 f.1 in
    let front : int32_in (b ++ rest) ≡ pos (length b) = sym (number_within (length b) (b ++ rest) (omega (arith, long))) ∙ ap int32_in (take-append_seam b rest) ∙ told in
    let zero_more : length b + 0 ≡ length b = omega arith in
    let found : extent EmbeddedDocument (b ++ rest) ≡ Ok (length b) = announced_found 5 0 (b ++ rest) (length b) (omega (arith, long, length-append b rest)) front long ∙ ap Ok zero_more in
    ap (length_within (length (b ++ rest))) found ∙ there_found (nat_lt (length (b ++ rest)) (length b)) (length b) (le-ltb _ _ (omega (arith, length-append b rest)))

abbrev IsFramed : Bytes → Type 0
IsFramed b = (c : Bytes) × (envelope b ≡ Ok c)

-- a file of documents one after another is cut into them
cut_joined : (place : ℕ) (bs : List Bytes) → Each IsFramed bs → cut_from place (joined bs) ≡ record { pieces = bs; broken = None }
cut_joined place [] h = cut-nil place
cut_joined place (b ∷ bs) h =
    cut_more place (b ++ joined bs) (length b) (framed_first b (joined bs) h.0.0 h.0.1)
    ∙ ap (λ x. with_piece x (cut_from (place + length b) (drop (length b) (b ++ joined bs)))) (take-append_seam b (joined bs))
    ∙ ap (λ x. with_piece b (cut_from (place + length b) x)) (drop-append_seam b (joined bs))
    ∙ ap (with_piece b) (cut_joined (place + length b) bs h.1)

-- ---- the bytes of documents

bytes_at : (n place : ℕ) (bs : Bytes) (o : Option ℕ) → AreBytes bs → ((k : ℕ) → Each AreBytes (cut_within n (place + k) (drop k bs)).pieces) → Each AreBytes (cut_at (cut_within n) place bs o).pieces
bytes_at n place bs None are h = tt
bytes_at n place bs (Some k) are h = (All-take (λ b. b < 256) k bs are, h k)

bytes_within : (n place : ℕ) (bs : Bytes) → AreBytes bs → Each AreBytes (cut_within n place bs).pieces
bytes_within zero place bs are = tt
bytes_within (suc n) place [] are = tt
bytes_within (suc n) place (b ∷ bs) are = bytes_at n place (b ∷ bs) (piece_length (b ∷ bs)) are (λ k. bytes_within n (place + k) (drop k (b ∷ bs)) (All-drop (λ b. b < 256) k (b ∷ bs) are))

bytes_cut : (file : Bytes) → AreBytes file → Each AreBytes (cut file).pieces
unfolding cut_from
bytes_cut file are = bytes_within (length file) 0 file are

-- ---- the documents that are written

abbrev with_written : Recast → List Bytes → List Bytes
with_written (writes b) rest = b ∷ rest
with_written (unread f) rest = rest
with_written (unwritten expected long) rest = rest

abbrev written : Form → List Bytes → List Bytes
written s [] = []
written s (p ∷ ps) = with_written (recast_of s p) (written s ps)

front_joined : (r : Recast) (rest : List Bytes) → bytes_of r ++ joined rest ≡ joined (with_written r rest)
front_joined (writes b) rest = refl
front_joined (unread f) rest = refl
front_joined (unwritten expected long) rest = refl

outputs_joined : (s : Form) (ps : List Bytes) → outputs s ps ≡ joined (written s ps)
outputs_joined s [] = refl
outputs_joined s (p ∷ ps) = ap (λ o. bytes_of (recast_of s p) ++ o) (outputs_joined s ps) ∙ front_joined (recast_of s p) (written s ps)

abbrev IsKept : Form → Bytes → Type 0
IsKept s b = recast_of s b ≡ writes b

front_kept : (s : Form) (p : Bytes) (rest : List Bytes) → IsShape s → IsSettled s → AreBytes p → (r : Recast) → recast_of s p ≡ r → Each (IsKept s) rest → Each (IsKept s) (with_written r rest)
front_kept s p rest shape expected are (writes b) is h = (recast_again s p b shape expected are is, h)
front_kept s p rest shape expected are (unread f) is h = h
front_kept s p rest shape expected are (unwritten refusal long) is h = h

written_kept : (s : Form) (ps : List Bytes) → IsShape s → IsSettled s → Each AreBytes ps → Each (IsKept s) (written s ps)
written_kept s [] shape expected are = tt
written_kept s (p ∷ ps) shape expected are = front_kept s p (written s ps) shape expected are.0 (recast_of s p) refl (written_kept s ps shape expected are.1)

kept_framed : (s : Form) (bs : List Bytes) → Each (IsKept s) bs → Each IsFramed bs
kept_framed s [] h = tt
kept_framed s (b ∷ bs) h = (recast_framed s b b h.0, kept_framed s bs h.1)

outputs_kept : (s : Form) (bs : List Bytes) → Each (IsKept s) bs → outputs s bs ≡ joined bs
outputs_kept s [] h = refl
outputs_kept s (b ∷ bs) h = ap (λ r. bytes_of r ++ outputs s bs) h.0 ∙ ap (λ o. b ++ o) (outputs_kept s bs h.1)

none_listed : (s : Form) (n : ℕ) (bs : List Bytes) → Each (IsKept s) bs → not_recast s n bs ≡ []
none_listed s n [] h = refl
none_listed s n (b ∷ bs) h = ap (λ r. listed n r (not_recast s (suc n) bs)) h.0 ∙ none_listed s (suc n) bs h.1

-- ---- the migration of what was migrated

output_again : (s : Form) (ps : List Bytes) → IsShape s → IsSettled s → Each AreBytes ps → migration_of s (outputs s ps) ≡ migrated (outputs s ps) []
output_again s ps shape expected are =
    let bs = written s ps in
    let kept = written_kept s ps shape expected are in
    let is : outputs s ps ≡ joined bs = outputs_joined s ps in
    let cuts : cut (joined bs) ≡ record { pieces = bs; broken = None } = cut_joined 0 bs (kept_framed s bs kept) in
    subst (λ o. migration_of s o ≡ migrated o []) (sym is)
    (ap (λ (c : Cut). migration_by c.broken (outputs s c.pieces) (not_recast s 0 c.pieces)) cuts
    ∙ ap (λ o. migrated o (not_recast s 0 bs)) (outputs_kept s bs kept) ∙ ap (migrated (joined bs)) (none_listed s 0 bs kept))

answer_again : (s : Form) (ps : List Bytes) (break : Option ℕ) (m : Migration) → IsShape s → IsSettled s → Each AreBytes ps → IsMigration (migration_by break (outputs s ps) (not_recast s 0 ps)) (Ok m) → migration_of s m.output.items ≡ migrated m.output.items []
answer_again s ps (Some place) m shape expected are h = absurd h
answer_again s ps None m shape expected are h = subst (λ o. migration_of s o ≡ migrated o []) (sym h.0) (output_again s ps shape expected are)

pub migrated_again : (s : Form) (file : Bytes) → IsShape s → IsSettled s → AreBytes file → (r : Result Migration MigrateError) → IsMigration (migration_of s file) r → IfOk r (λ m. migration_of s m.output.items ≡ migrated m.output.items [])
migrated_again s file shape expected are (Ok m) h = answer_again s (cut file).pieces (cut file).broken m shape expected (bytes_cut file are) h
migrated_again s file shape expected are (Err e) h = tt
