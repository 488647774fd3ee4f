-- What the words ask for of a program that takes one shape.
use Rattle.std.proofs.Common.{◌≡◌, List, [], ◌∷◌, false, Result, Ok, Err, ap, refl, ◌∙◌, inr}
use Rattle.std.proofs.lemmas.Bool.{cond-false}
use Rattle.std.specs.Prelude.{String, IfOk}
use Rattle.std.specs.declared.alloc.AllocError.{AllocError}
use Rattle.std.specs.declared.alloc.Global.{Global}
use Rattle.bson_kinds.specs.Text.{Utf8}
use Rattle.bson_shape.specs.Form.{Form}
use Rattle.bson_shape.specs.Makers.{IsShape}
use Rattle.bson_shape.specs.Notation.{text}
use Rattle.bson_shape.proofs.Texts.{parsed-shape}
use Rattle.bson_program.specs.Command.{Asked}
use Rattle.bson_program.specs.OneShape.{Usage, one_shape, request}
use Rattle.bson_program.specs.ShapeWord.{shape_of, or_line, IsShapeOf}

one_word : (usage : Usage) (word : Utf8) → usage.is_option word ≡ false → request usage (word ∷ []) ≡ shape_of word
one_word usage word e = cond-false (usage.is_option word) (Err usage.line) (shape_of word) e

-- a word that is no option asks for the shape that it is the notation of
asks_word : (usage : Usage) (word : Utf8) (r : Result Form (String Global)) → usage.is_option word ≡ false → IsShapeOf word r → Asked (one_shape usage) (word ∷ []) r
asks_word usage word (Ok s) plain h = record { asks = record { notation = ap (λ w. w ∷ []) h.0.notation; made = h.0.made }; is = one_word usage word plain ∙ h.1 }
asks_word usage word (Err line) plain h = record { refuses = inr (record { word = word; one = refl; refused = h.0 }); is = one_word usage word plain ∙ h.1 }

pub asks_one : (usage : Usage) (word : Utf8) (r : Result (Result Form (String Global)) AllocError) → usage.is_option word ≡ false → IfOk r (IsShapeOf word) → IfOk r (Asked (one_shape usage) (word ∷ []))
asks_one usage word (Ok asked) plain h = asks_word usage word asked plain h
asks_one usage word (Err e) plain h = tt

-- the notation of a shape asks for it
pub requested : (usage : Usage) (s : Form) (words : List Utf8) → usage.is_option (text s) ≡ false → IsShape s → words ≡ text s ∷ [] → request usage words ≡ Ok s
requested usage s words plain shape e = ap (request usage) e ∙ one_word usage (text s) plain ∙ ap or_line (parsed-shape s shape)
