-- A regular expression in bytes is the one that it is encoded as.
use Rattle.std.proofs.Common.{◌≡◌, ◌+◌, [], ◌∷◌, ◌++◌, length, take, ap, sym, ◌∙◌, append_assoc, arith}
use Rattle.std.proofs.lemmas.List.{length-append, take_at}
use Rattle.bson_base.specs.Sorted.{sorted}
use Rattle.bson_kinds.specs.Text.{Bytes}
use Rattle.bson_itself.specs.Encoded.{IsExpression}
use Rattle.bson_itself.specs.Keys.{IsKey}

-- a pattern and options, each closed by a zero, in front of other bytes
module _ (b pattern options behind back : Bytes) (first : IsKey b pattern behind) (second : IsKey behind options back) where
  abbrev closed : Bytes
  closed = pattern ++ (0 ∷ (options ++ 0 ∷ []))

  size : length closed ≡ length pattern + length options + 2
  size = omega (arith, length-append pattern (0 ∷ (options ++ 0 ∷ [])), length-append options (0 ∷ []))

  parts : b ≡ closed ++ back
  parts =
      first.parts
      ∙ (λ i. pattern ++ 0 ∷ second.parts i)
      ∙ ap (λ (x : Bytes). pattern ++ 0 ∷ x) (sym (append_assoc options (0 ∷ []) back))
      ∙ sym (append_assoc pattern (0 ∷ (options ++ 0 ∷ [])) back)

  pub expression_is : sorted options ≡ options → IsExpression (take (length pattern + length options + 2) b)
  expression_is order =
      let is : take (length pattern + length options + 2) b ≡ closed = ap (take (length pattern + length options + 2)) parts ∙ take_at closed back (length pattern + length options + 2) size in
      (pattern, options, record { text = first.text; no_zero = first.no_zero }, record { text = second.text; no_zero = second.no_zero }, order, sym is)
