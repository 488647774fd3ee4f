-- The options that words begin with.
use Rattle.std.proofs.Common.{◌≡◌, List, [], ◌∷◌, ◌++◌, Bool, true, false, Option, Some, None, refl, ap, sym, subst, ◌∙◌, append_assoc, inl, inr}
use Rattle.std.specs.Prelude.{◌&&◌, not, if◌then◌else◌}
use Rattle.std.specs.Str.{bytes_eq}
use Rattle.std.proofs.lemmas.Slice.Eq.{bytes_eq-Decides}
use Rattle.bson_kinds.specs.Text.{Utf8}
use Rattle.bson_recast_run.specs.declared.options.Options.{Options}
use Rattle.bson_recast_run.specs.PrintedLines.{recast_usage}
use Rattle.bson_kinds.proofs.Outcomes.{some_is}
use Rattle.bson_recast_run.specs.declared.options.Way.{Way}
use Rattle.bson_recast_run.specs.declared.options.Way.TheVariants as ways
use Rattle.bson_recast_run.specs.Options.{lossy_option, tree_option, hex_option, way_option, is_plain, no_options, with_option, options_of, AreGiven, AreOptions}

-- ---- what is taken are options

same : (xs ys : Utf8) (b : Bool) → bytes_eq xs ys ≡ b → b ≡ true → xs ≡ ys
same xs ys b is e = (bytes_eq-Decides xs ys).0 (is ∙ e)

-- the options with one more, by whether the word is one of the three
abbrev with_word : Options → (is_lossy is_tree is_hex : Bool) → Option Options
with_word o is_lossy is_tree is_hex =
    if is_lossy && is_plain o.way then Some (record o { way = ways.Lossy })
    else if is_tree && is_plain o.way then Some (record o { way = ways.Tree })
    else if is_hex && not o.hex then Some (record o { hex = true })
    else None

abbrev as_options : Way → Bool → Options
as_options way hex = record { way = way; hex = hex }

-- a way behind the options that were given, which asked for none
put_way : (hex : Bool) (front : List Utf8) (word : Utf8) (way : Way) → way_option way ≡ word ∷ [] → AreGiven ways.Plain hex front → AreGiven way hex (front ++ word ∷ [])
put_way false front word way is f = (λ i. f i ++ word ∷ []) ∙ sym is
put_way true front word way is (inl f) = inr ((λ i. f i ++ word ∷ []) ∙ ap (λ ws. hex_option ∷ ws) (sym is))
put_way true front word way is (inr f) = inr ((λ i. f i ++ word ∷ []) ∙ ap (λ ws. hex_option ∷ ws) (sym is))

-- digits behind the options that were given
put_hex : (way : Way) (front : List Utf8) (word : Utf8) → word ≡ hex_option → AreGiven way false front → AreGiven way true (front ++ word ∷ [])
put_hex way front word is f = inl (λ i. f i ++ is i ∷ [])

not_plain : (b c : Bool) → c ≡ false → (b && c) ≡ false
not_plain true c e = e
not_plain false c e = refl

no_second : (way : Way) (hex b t c : Bool) → is_plain way ≡ false → with_word (as_options way hex) b t c ≡ (if c && not hex then Some (as_options way true) else None)
no_second way hex b t c e =
    λ i. if not_plain b (is_plain way) e i then Some (as_options ways.Lossy hex) else if not_plain t (is_plain way) e i then Some (as_options ways.Tree hex) else if c && not hex then Some (as_options way true) else None

-- where a way was asked for, only digits can be asked for
put_second : (way : Way) (hex c : Bool) (front : List Utf8) (word : Utf8) (more : Options) → bytes_eq word hex_option ≡ c → AreGiven way hex front → (if c && not hex then Some (as_options way true) else None) ≡ Some more → AreOptions more (front ++ word ∷ [])
put_second way false true front word more h f e = subst (λ o. AreOptions o (front ++ word ∷ [])) (some_is (as_options way true) more e) (put_hex way front word (same word hex_option true h refl) f)
put_second way true true front word more h f e = absurd cc
put_second way hex false front word more h f e = absurd cc

-- one more option behind those that were given
put_word : (way : Way) (hex is_lossy is_tree is_hex : Bool) (front : List Utf8) (word : Utf8) (more : Options) → bytes_eq word lossy_option ≡ is_lossy → bytes_eq word tree_option ≡ is_tree → bytes_eq word hex_option ≡ is_hex
    → AreGiven way hex front → with_word (as_options way hex) is_lossy is_tree is_hex ≡ Some more → AreOptions more (front ++ word ∷ [])
put_word ways.Plain hex true b c front word more a d h f e =
    subst (λ o. AreOptions o (front ++ word ∷ [])) (some_is (as_options ways.Lossy hex) more e) (put_way hex front word ways.Lossy (ap (λ w. w ∷ []) (sym (same word lossy_option true a refl))) f)
put_word ways.Plain hex false true c front word more a d h f e =
    subst (λ o. AreOptions o (front ++ word ∷ [])) (some_is (as_options ways.Tree hex) more e) (put_way hex front word ways.Tree (ap (λ w. w ∷ []) (sym (same word tree_option true d refl))) f)
put_word ways.Plain false false false true front word more a d h f e =
    subst (λ o. AreOptions o (front ++ word ∷ [])) (some_is (as_options ways.Plain true) more e) (put_hex ways.Plain front word (same word hex_option true h refl) f)
put_word ways.Plain true false false true front word more a d h f e = absurd cc
put_word ways.Plain hex false false false front word more a d h f e = absurd cc
put_word ways.Lossy hex b t c front word more a d h f e = put_second ways.Lossy hex c front word more h f (sym (no_second ways.Lossy hex b t c refl) ∙ e)
put_word ways.Tree hex b t c front word more a d h f e = put_second ways.Tree hex c front word more h f (sym (no_second ways.Tree hex b t c refl) ∙ e)

-- options in front of what words that are led by more come to
abbrev Leads : (front words : List Utf8) → Options × List Utf8 → Type 0
Leads front words led = (options : List Utf8) × AreOptions led.0 options × (front ++ words ≡ options ++ led.1)

one_more : (o : Options) (front : List Utf8) (word : Utf8) (words : List Utf8) → AreOptions o front
    → ((more : Options) → AreOptions more (front ++ word ∷ []) → Leads (front ++ word ∷ []) words (options_of more words)) → Leads front (word ∷ words) (options_of o (word ∷ words))
one_more o front word words h next = by_word (with_option o word) refl where
  by_word : (r : Option Options) → with_option o word ≡ r → Leads front (word ∷ words) (elim r [ Some more ↦ options_of more words | None ↦ (o, word ∷ words) ])
  by_word (Some more) is =
      let led = next more (put_word o.way o.hex (bytes_eq word lossy_option) (bytes_eq word tree_option) (bytes_eq word hex_option) front word more refl refl refl h is) in
      (led.0, led.1, sym (append_assoc front (word ∷ []) words) ∙ led.2)
  by_word None is = (front, h, refl)

-- what the words begin with, behind options that were given
leads : (o : Options) (front words : List Utf8) → AreOptions o front → Leads front words (options_of o words)
leads o front [] h = (front, h, refl)
leads o front (word ∷ words) h = one_more o front word words h (λ more are. leads more (front ++ word ∷ []) words are)

-- the words are options and what stands behind them
pub led_by_options : (words : List Utf8) → (options : List Utf8) × AreOptions (options_of no_options words).0 options × (words ≡ options ++ (options_of no_options words).1)
led_by_options words = leads no_options [] words refl

-- ---- options are taken

taken : (way : Way) (hex : Bool) (given rest : List Utf8) → AreGiven way hex given → options_of no_options (given ++ rest) ≡ options_of (as_options way hex) rest
taken ways.Plain false given rest h = ap (λ (f : List Utf8). options_of no_options (f ++ rest)) h
taken ways.Lossy false given rest h = ap (λ (f : List Utf8). options_of no_options (f ++ rest)) h
taken ways.Tree false given rest h = ap (λ (f : List Utf8). options_of no_options (f ++ rest)) h
taken ways.Plain true given rest (inl h) = ap (λ (f : List Utf8). options_of no_options (f ++ rest)) h
taken ways.Plain true given rest (inr h) = ap (λ (f : List Utf8). options_of no_options (f ++ rest)) h
taken ways.Lossy true given rest (inl h) = ap (λ (f : List Utf8). options_of no_options (f ++ rest)) h
taken ways.Lossy true given rest (inr h) = ap (λ (f : List Utf8). options_of no_options (f ++ rest)) h
taken ways.Tree true given rest (inl h) = ap (λ (f : List Utf8). options_of no_options (f ++ rest)) h
taken ways.Tree true given rest (inr h) = ap (λ (f : List Utf8). options_of no_options (f ++ rest)) h

differs : (word other : Utf8) → recast_usage.is_option word ≡ false → recast_usage.is_option other ≡ true → bytes_eq word other ≡ false
differs word other plain begins = by_case (bytes_eq word other) refl where
  by_case : (b : Bool) → bytes_eq word other ≡ b → b ≡ false
  by_case true is = absurd (let e = same word other true is refl in let both : true ≡ false = sym begins ∙ ap recast_usage.is_option (sym e) ∙ plain in cc)
  by_case false is = refl

-- a word that does not begin as an option is none
pub no_option_taken : (o : Options) (word : Utf8) → recast_usage.is_option word ≡ false → options_of o (word ∷ []) ≡ (o, word ∷ [])
no_option_taken o word plain =
    ap (λ r. elim r [ Some more ↦ options_of more [] | None ↦ (o, word ∷ []) ])
    (λ i. with_word o (differs word lossy_option plain refl i) (differs word tree_option plain refl i) (differs word hex_option plain refl i))

-- options and a word behind them that is none
pub options_taken : (o : Options) (given : List Utf8) (word : Utf8) → AreOptions o given → recast_usage.is_option word ≡ false → options_of no_options (given ++ word ∷ []) ≡ (o, word ∷ [])
options_taken o given word are plain = taken o.way o.hex given (word ∷ []) are ∙ no_option_taken o word plain
