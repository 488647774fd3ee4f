-- What a word is refused for.
use Rattle.std.proofs.Common.{◌≡◌, Some, Result, Ok, Err, ap, sym, ◌∙◌, inl, inr}
use Rattle.std.specs.Prelude.{ℕ, String, string_bytes}
use Rattle.std.specs.declared.alloc.Global.{Global}
use Rattle.bson_kinds.specs.Text.{Utf8}
use Rattle.bson_shape.specs.Answers.{Fails, error_of}
use Rattle.bson_shape.specs.Form.{Form}
use Rattle.bson_shape.specs.Fronts.{IsNotNotationAt, IsRefusedAt}
use Rattle.bson_shape.specs.Machine.{Refusal, Not_notation, Refused, parsed}
use Rattle.bson_shape.specs.declared.error.ParseError.{ParseError}
use Rattle.bson_shape.specs.declared.error.ParseError.TheVariants as errors
use Rattle.bson_shape.specs.declared.error.ShapeError.{ShapeError}
use Rattle.bson_evolve_run.specs.Lines.{line_at, line_for}
use Rattle.bson_evolve_run.specs.TwoShapes.{or_line, IsShapeOf}

abbrev refused : Utf8 → Result Form Utf8
refused line = Err line

module _ (which : Utf8) where
  line_not_notation : (read : Result Form Refusal) (place : ℕ) → error_of read ≡ Some (errors.NotNotation place) → or_line which read ≡ refused (line_at which place (errors.NotNotation place))
  line_not_notation (Ok s) place e = absurd cc
  line_not_notation (Err (Not_notation p)) place e = ap (λ q. refused (line_at which q (errors.NotNotation q))) cc
  line_not_notation (Err (Refused r)) place e = absurd cc

  line_refused : (read : Result Form Refusal) (place : ℕ) (x : ShapeError) → error_of read ≡ Some (errors.Refused place x) → or_line which read ≡ refused (line_at which place (errors.Refused place x))
  line_refused (Ok s) place x e = absurd cc
  line_refused (Err (Not_notation p)) place x e = absurd cc
  line_refused (Err (Refused r)) place x e = let at : r.place ≡ place = cc in let why : r.cause ≡ x = cc in λ i. refused (line_at which (at i) (errors.Refused (at i) (why i)))

  -- a word that is refused is the notation of no shape
  pub refuses : (word : Utf8) (e : ParseError) (line : String Global) → line_for which e ≡ Some (string_bytes line) → Fails e (parsed word)
      → ((p : ℕ) → e ≡ errors.NotNotation p → IsNotNotationAt word p) → ((p : ℕ) (x : ShapeError) → e ≡ errors.Refused p x → IsRefusedAt word p x) → IsShapeOf which word (Err line)
  refuses word errors.NoMemory line says fails stops forms = absurd cc
  refuses word (errors.NotNotation p) line says fails stops forms =
      let is : string_bytes line ≡ line_at which p (errors.NotNotation p) = cc in
      (inl (record { place = p; stops = stops p (λ i. errors.NotNotation p); says = is }), line_not_notation (parsed word) p fails ∙ ap refused (sym is))
  refuses word (errors.Refused p x) line says fails stops forms =
      let is : string_bytes line ≡ line_at which p (errors.Refused p x) = cc in
      (inr (record { place = p; cause = x; refuses = forms p x (λ i. errors.Refused p x); says = is }), line_refused (parsed word) p x fails ∙ ap refused (sym is))
