-- A value that was read, and the document that it is written as.
use Rattle.std.proofs.Common.{◌≡◌, ◌≤◌, ◌<◌, ℕ, zero, suc, [], ◌∷◌, length, get_or, Bool, true, false, Result, Ok, Err, refl, ap, ◌∙◌, arith}
use Rattle.std.specs.Prelude.{nat_lt}
use Rattle.std.proofs.lemmas.Bool.{le-ltb, ltb-false}
use Rattle.bson_base.specs.Sound.{max_bytes}
use Rattle.bson_kinds.specs.Text.{Bytes}
use Rattle.bson_base.specs.Tree.{Tree, enc}
use Rattle.bson_values.specs.Refusal.{ReadFault, Failure}
use Rattle.bson_values.specs.Value.{Value}
use Rattle.bson_laws.specs.Spell.{Writing, spell_document, size}
use Rattle.bson_laws.proofs.ReadAgain.{document_size}
use Rattle.bson_tree_recast.specs.Recast.{writes, written, recast_read}

-- how a document's bytes are read
abbrev pub Reader : Type 0
Reader = Bytes → Result Value (Failure ReadFault)

-- a value that was read, and the document that it is written as
pub record IsWrittenAs (read : Reader) (bytes out : Bytes) : Type 0 where
  pub value : Value
  pub tree : Tree
  pub is_read : read bytes ≡ Ok value
  pub spelled : spell_document value ≡ Ok tree
  pub fits : size value ≤ max_bytes
  pub is : out ≡ enc tree

value_written : (read : Reader) (bytes out : Bytes) (d : Value) (long : Bool) (w : Writing Tree) → read bytes ≡ Ok d → nat_lt max_bytes (size d) ≡ long → spell_document d ≡ w → written long w ≡ writes out → IsWrittenAs read bytes out
value_written read bytes out d long (Err r) is fits spelled e = absurd cc
value_written read bytes out d true (Ok t) is fits spelled e = absurd cc
value_written read bytes out d false (Ok t) is fits spelled e = record { value = d; tree = t; is_read = is; spelled = spelled; fits = ltb-false _ _ fits; is = cc }

pub written_as : (read : Reader) (bytes out : Bytes) (answer : Result Value (Failure ReadFault)) → read bytes ≡ answer → recast_read answer ≡ writes out → IsWrittenAs read bytes out
written_as read bytes out (Err f) is e = absurd cc
written_as read bytes out (Ok d) is e = value_written read bytes out d (nat_lt max_bytes (size d)) (spell_document d) is refl refl e

-- what is read as a value that is written as a document of few enough bytes is recast as the document
pub recast_as : (read : Reader) (bytes : Bytes) (d : Value) (t : Tree) → read bytes ≡ Ok d → spell_document d ≡ Ok t → length (enc t) ≤ max_bytes → recast_read (read bytes) ≡ writes (enc t)
recast_as read bytes d t is spelled fits =
    ap recast_read is ∙ ap (written (nat_lt max_bytes (size d))) spelled ∙ ap (λ b. written b (Ok t)) (le-ltb _ _ (omega (arith, document_size d t spelled, fits)))

-- an item that is there is there whatever stands for one that is not
pub same_at : (bs : Bytes) (k d : ℕ) → k < length bs → get_or bs k d ≡ get_or bs k 0
same_at [] k d lt = absurd (omega arith)
same_at (b ∷ bs) zero d lt = refl
same_at (b ∷ bs) (suc k) d lt = same_at bs k d (omega arith)
