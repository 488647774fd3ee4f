-- What a document is looked at as, by its first key.
use Rattle.std.proofs.Common.{◌≡◌, ℕ, true, Option, Some, None, refl, ap, sym, subst, ◌∙◌}
use Rattle.bson_kinds.specs.Outcome.{result_map}
use Rattle.bson_kinds.specs.Text.{Utf8}
use Rattle.bson_base.specs.Tree.{Tree, Pairs, pair}
use Rattle.bson_values.specs.Wrapper.{of_key}
use Rattle.bson_values.specs.declared.wrapper.Wrapper.{Wrapper}
use Rattle.bson_laws.specs.FirstKeys as keys
use Rattle.bson_laws.specs.FirstKeys.{first_key}
use Rattle.bson_laws.specs.Assembled.{stays, becomes, of_body, by_first_key, by_key, looked_at, built_pairs, after_code}
use Rattle.bson_raw_parts.specs.FirstKeyView.{said_by, said_of}
use Rattle.bson_raw_parts.specs.Putting.{is_body, form_of, body_built, code_built}
use Rattle.bson_raw_parts.specs.declared.first_keys.FirstKey.TheVariants.{Body, Code, Ordinary}

body_said : (w v : Wrapper) (k : keys.FirstKey) → said_by v k ≡ Body w → (is_body k ≡ true) × (v ≡ w)
body_said w v (keys.body form) e = (refl, cc)
body_said w v keys.code e = absurd cc
body_said w v keys.ordinary e = absurd cc

-- a key that says so has a body
pub body_there : (w : Wrapper) (o : Option Wrapper) → said_of o ≡ Body w → is_body (first_key w) ≡ true
body_there w (Some v) e = let b = body_said w v (first_key v) e in subst (λ x. is_body (first_key x) ≡ true) b.1 b.0
body_there w None e = absurd cc

by_its_key : (ps rest : Pairs) (key : Utf8) (t : Tree) (levels : ℕ) (o : Option Wrapper) → ps ≡ pair key t rest → of_key key ≡ o
    → looked_at ps levels ≡ by_key o t (λ text. after_code rest text levels) (result_map stays (built_pairs (pair key t rest) levels))
by_its_key ps rest key t levels o is known =
    ap (λ p. looked_at p levels) is ∙ ap (λ w. by_key w t (λ text. after_code rest text levels) (result_map stays (built_pairs (pair key t rest) levels))) known

pub looked_body : (ps rest : Pairs) (key : Utf8) (t : Tree) (levels : ℕ) (w : Wrapper) (o : Option Wrapper) → ps ≡ pair key t rest → of_key key ≡ o → said_of o ≡ Body w
    → looked_at ps levels ≡ result_map becomes (body_built w t)
looked_body ps rest key t levels w None is known e = absurd cc
looked_body ps rest key t levels w (Some v) is known e =
    let b = body_said w v (first_key v) e in
    by_its_key ps rest key t levels (Some v) is known ∙ by (first_key v) b.0 ∙ ap (λ x. result_map becomes (body_built x t)) b.1
  where
    by : (k : keys.FirstKey) → is_body k ≡ true
        → by_first_key v k t (λ text. after_code rest text levels) (result_map stays (built_pairs (pair key t rest) levels)) ≡ result_map becomes (of_body v (form_of k) t)
    by (keys.body form) h = refl
    by keys.code h = absurd cc
    by keys.ordinary h = absurd cc

pub looked_code : (ps rest : Pairs) (key : Utf8) (t : Tree) (levels : ℕ) (o : Option Wrapper) → ps ≡ pair key t rest → of_key key ≡ o → said_of o ≡ Code
    → looked_at ps levels ≡ result_map becomes (code_built t rest levels)
looked_code ps rest key t levels None is known e = absurd cc
looked_code ps rest key t levels (Some v) is known e = by_its_key ps rest key t levels (Some v) is known ∙ by (first_key v) e
  where
    by : (k : keys.FirstKey) → said_by v k ≡ Code
        → by_first_key v k t (λ text. after_code rest text levels) (result_map stays (built_pairs (pair key t rest) levels)) ≡ result_map becomes (code_built t rest levels)
    by (keys.body form) h = absurd cc
    by keys.code h = refl
    by keys.ordinary h = absurd cc

pub looked_ordinary : (ps rest : Pairs) (key : Utf8) (t : Tree) (levels : ℕ) (o : Option Wrapper) → ps ≡ pair key t rest → of_key key ≡ o → said_of o ≡ Ordinary
    → looked_at ps levels ≡ result_map stays (built_pairs ps levels)
looked_ordinary ps rest key t levels None is known e = by_its_key ps rest key t levels None is known ∙ ap (λ p. result_map stays (built_pairs p levels)) (sym is)
looked_ordinary ps rest key t levels (Some v) is known e =
    by_its_key ps rest key t levels (Some v) is known ∙ by (first_key v) e ∙ ap (λ p. result_map stays (built_pairs p levels)) (sym is)
  where
    by : (k : keys.FirstKey) → said_by v k ≡ Ordinary
        → by_first_key v k t (λ text. after_code rest text levels) (result_map stays (built_pairs (pair key t rest) levels)) ≡ result_map stays (built_pairs (pair key t rest) levels)
    by (keys.body form) h = absurd cc
    by keys.code h = absurd cc
    by keys.ordinary h = refl
