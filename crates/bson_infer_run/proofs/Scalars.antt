-- The leaf of a value that is neither a document nor an array.
use Rattle.std.proofs.Common.{◌≡◌, ℕ, zero, suc, refl, ap, sym, ◌∙◌}
use Rattle.std.specs.Global.{Vec}
use Rattle.bson_base.specs.BsonView.{tree_of}
use Rattle.bson_kinds.specs.Text.{Bytes}
use Rattle.bson_base.specs.Tree.{binary}
use Rattle.bson_base.specs.declared.bson.Bson as bson
use Rattle.bson_base.specs.declared.bson.Bson.{Bson}
use Rattle.bson_base.specs.declared.bson.Bson.TheViews.{roll-Bson, roll-out-Bson, rolls-Array, outs-Array', rolls-Document, outs-Document'}
use Rattle.bson_base.specs.declared.document.Document.{Document}
use Rattle.bson_shape.specs.Form.{leaf}
use Rattle.bson_shape.specs.declared.leaf.Leaf.{Leaf}
use Rattle.bson_shape.specs.declared.leaf.Leaf.TheVariants.{ByteBuf, Binary}
use Rattle.bson_infer_laws.specs.Inferred.{shape_of}
use Rattle.bson_infer_run.specs.Scalar.{IsLeafOf}

pub plain_bytes : (n : ℕ) (b : Bytes) → n ≡ 0 → shape_of (binary n b) ≡ leaf ByteBuf
plain_bytes zero b e = refl
plain_bytes (suc n) b e = absurd cc

pub other_bytes : (n : ℕ) (b : Bytes) → (n ≡ 0 → ⊥) → shape_of (binary n b) ≡ leaf Binary
other_bytes zero b e = absurd (e refl)
other_bytes (suc n) b e = refl

pub scalar : (b : Bson) (l : Leaf) → ((es : Vec Bson) → b ≡ bson.Array es → ⊥) → ((d : Document) → b ≡ bson.Document d → ⊥) → IsLeafOf (tree_of b) l → shape_of (tree_of b) ≡ leaf l
scalar (bson.Array' shape row) l a d h = absurd (a _ (sym (roll-out-Bson (bson.Array' shape row)) ∙ ap roll-Bson (outs-Array' shape row) ∙ rolls-Array _))
scalar (bson.Document' keys row) l a d h = absurd (d _ (sym (roll-out-Bson (bson.Document' keys row)) ∙ ap roll-Bson (outs-Document' keys row) ∙ rolls-Document _))
scalar b l a d h = h
