-- A migration, document by document.
use Rattle.std.proofs.Common.{◌≡◌, ℕ, zero, suc, ◌+◌, ◌≤◌, List, [], ◌∷◌, ◌++◌, length, drop, Option, Some, None, Ok, refl, ap, sym, subst, ◌∙◌, arith, append-nil}
use Rattle.std.proofs.lemmas.List.{append_assoc, length-drop}
use Rattle.std.specs.Prelude.{◌≢◌}
use Rattle.bson_kinds.specs.Text.{Bytes}
use Rattle.bson_rawdoc.specs.Cut.{Cut, whole, with_piece, piece_length, cut_at, cut_within, cut_from, cut}
use Rattle.bson_rawdoc.proofs.Pieces.{piece_fits}
use Rattle.bson_shape.specs.Form.{Form}
use Rattle.bson_tree_recast.specs.declared.error.RecastError.{RecastError}
use Rattle.bson_tree_recast.specs.declared.error.RecastError.TheVariants.{Read, Write, NoMemory}
use Rattle.bson_tree_recast.specs.Recast.{Recast, writes, unread, unwritten, recast_of, IsRefusal}
use Rattle.bson_migrate_run.specs.declared.migrating.Migration.{Migration}
use Rattle.bson_migrate_run.specs.declared.migrating.Refused.{Refused}
use Rattle.bson_migrate_run.specs.Migrating.{NotRecast, bytes_of, outputs, listed, not_recast, migration_by, migration_of, AreListed, IsMigration}
use Rattle.bson_migrate_run.specs.Step.{IsOneMigrated, IsUnderWay}

-- ---- how many documents there are

few_at : (n place : ℕ) (bs : Bytes) (o : Option ℕ) → piece_length bs ≡ o → ((k : ℕ) → length (cut_within n (place + k) (drop k bs)).pieces ≤ length (drop k bs)) → length (cut_at (cut_within n) place bs o).pieces ≤ length bs
few_at n place bs None is h = omega arith
few_at n place bs (Some k) is h = let f = piece_fits bs k is in omega (arith, f.0, f.1, h k, length-drop k bs)

few_within : (n place : ℕ) (bs : Bytes) → length (cut_within n place bs).pieces ≤ length bs
few_within zero place bs = omega arith
few_within (suc n) place [] = omega arith
few_within (suc n) place (b ∷ bs) = few_at n place (b ∷ bs) (piece_length (b ∷ bs)) refl (λ k. few_within n (place + k) (drop k (b ∷ bs)))

-- a file has no more documents than bytes
pub few : (file : Bytes) → length (cut file).pieces ≤ length file
unfolding cut_from
few file = few_within (length file) 0 file

-- ---- the list

-- the list of one document before that of those behind it
listed_front : (n : ℕ) (r : Recast) (rest : List NotRecast) (more xs : List Refused) → AreListed (listed n r []) more → AreListed rest xs → AreListed (listed n r rest) (more ++ xs)
listed_front n (writes b) rest [] xs h t = t
listed_front n (writes b) rest (x ∷ more) xs h t = absurd h
listed_front n (unread f) rest [] xs h t = absurd h
listed_front n (unread f) rest (x ∷ []) xs h t = (h.0, t)
listed_front n (unread f) rest (x ∷ y ∷ more) xs h t = absurd h.1
listed_front n (unwritten expected long) rest [] xs h t = absurd h
listed_front n (unwritten expected long) rest (x ∷ []) xs h t = (h.0, t)
listed_front n (unwritten expected long) rest (x ∷ y ∷ more) xs h t = absurd h.1

pub no_refusal : (b : Bytes) (e : RecastError) → IsRefusal (writes b) e → e ≢ NoMemory → ⊥
no_refusal b (Read e) h n = absurd cc
no_refusal b (Write e) h n = h
no_refusal b NoMemory h n = n refl

-- a refused document is the list of itself, and nothing is written of it
refusal_listed : (r : Recast) (x : Refused) → IsRefusal r x.error → x.error ≢ NoMemory → AreListed (listed x.number r []) (x ∷ []) × (bytes_of r ≡ [])
refusal_listed (writes b) x h n = absurd (no_refusal b x.error h n)
refusal_listed (unread f) x h n = ((record { number = refl; refusal = h; cause = n }, tt), refl)
refusal_listed (unwritten expected long) x h n = ((record { number = refl; refusal = h; cause = n }, tt), refl)

pub one_refused : (r : Recast) (x : Refused) (old new : Bytes) (before after : List Refused) → IsRefusal r x.error → x.error ≢ NoMemory → new ≡ old → after ≡ before ++ x ∷ [] → IsOneMigrated x.number r old new before after
one_refused r x old new before after h n kept grew =
    let l = refusal_listed r x h n in
    record { more = x ∷ []; are_listed = l.0; grew = grew; wrote = kept ∙ sym (append-nil old) ∙ ap (λ b. old ++ b) (sym l.1) }

pub stepped : (s : Form) (file : Bytes) (left new : Cut) (piece : Bytes) (number : ℕ) (output output' : Bytes) (refused refused' : List Refused) → left ≡ with_piece piece new → IsOneMigrated number (recast_of s piece) output output' refused refused'
    → IsUnderWay s file left number output refused → IsUnderWay s file new (number + 1) output' refused'
stepped s file left new piece number output output' refused refused' is one way =
    let w : IsUnderWay s file (with_piece piece new) number output refused = subst (λ l. IsUnderWay s file l number output refused) is way in
    let next : number + 1 ≡ suc number = omega arith in
    subst (λ n. IsUnderWay s file new n output' refused') (sym next) (record {
      whole = w.whole ∙ sym (append_assoc output (bytes_of (recast_of s piece)) (outputs s new.pieces)) ∙ ap (λ o. o ++ outputs s new.pieces) (sym one.wrote);
      list = λ rest h.
          subst (λ xs. AreListed (not_recast s 0 (cut file).pieces) xs) (sym (append_assoc refused one.more rest) ∙ ap (λ xs. xs ++ rest) (sym one.grew))
          (w.list (one.more ++ rest) (listed_front number (recast_of s piece) (not_recast s (suc number) new.pieces) one.more rest one.are_listed h));
      break = w.break;
      count = omega (arith, w.count);
    })

pub ended_whole : (s : Form) (file : Bytes) (left : Cut) (number : ℕ) (m : Migration) → left ≡ whole → IsUnderWay s file left number m.output.items m.refused.items → IsMigration (migration_of s file) (Ok m)
ended_whole s file left number m is way =
    let w : IsUnderWay s file whole number m.output.items m.refused.items = subst (λ l. IsUnderWay s file l number m.output.items m.refused.items) is way in
    let list = subst (λ xs. AreListed (not_recast s 0 (cut file).pieces) xs) (append-nil m.refused.items) (w.list [] tt) in
    subst (λ b. IsMigration (migration_by b (outputs s (cut file).pieces) (not_recast s 0 (cut file).pieces)) (Ok m)) (sym w.break) (sym (w.whole ∙ append-nil m.output.items), list)

pub room : (s : Form) (file : Bytes) (left new : Cut) (piece : Bytes) (number : ℕ) (output : Bytes) (refused : List Refused) → left ≡ with_piece piece new → IsUnderWay s file left number output refused → number + 1 ≤ length file
room s file left new piece number output refused is way = omega (arith, way.count, few file, ap (λ (l : Cut). length l.pieces) is)
