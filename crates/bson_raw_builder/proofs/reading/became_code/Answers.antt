use Rattle.std.proofs.Common.{◌≡◌, ◌≤◌, length, rules, ap, sym, subst, ◌∙◌}
use Rattle.bson_base.specs.BsonView.{tree_of}
use Rattle.bson_base.specs.Sound.{max_bytes}
use Rattle.bson_base.specs.Tree.{enc}
use Rattle.bson_kinds.specs.declared.element_type.ElementType.TheVariants as kinds
use Rattle.bson_values.specs.Marked.{Marked}
use Rattle.bson_datum.specs.MarkedView.{marked}
use Rattle.bson_laws.specs.Assembled.{RawBytes}
use Rattle.bson_laws.specs.Judged.{Reading}
use Rattle.bson_laws.specs.TreeRaw.{built_value}
use Rattle.bson_met.specs.Gives.{Reaches}
use Rattle.bson_raw_parts.proofs.BuiltValues.{code_none, code_alone, code_scoped}
use Rattle.bson_raw_builder.proofs.reading.became_code.Goals as goal

pub returns-in_default : goal.returns-in_default
returns-in_default c = record { exact = λ t rest expected whole is. absurd (code_none (tree_of c.args.value.now) rest 199 t c.in_default.ensures expected) }

pub returns-then-eq : goal.returns-then-eq
returns-then-eq c =
    let same : c.args.built.element_type ≡ kinds.JavaScriptCode = search rules in
    record {
      exact = λ t rest expected whole is.
          ap built_value (code_alone (tree_of c.args.value.now) rest 199 c.in-Some.code.now t c.in-Some.ensures expected (sym (ap (λ (r : RawBytes). r.kind) is) ∙ same)) ∙ c.in_ok-code_value.ensures;
    }

pub scoped_value-requires : goal.scoped_value-requires
scoped_value-requires c =
    let other : c.args.built.element_type ≡ kinds.JavaScriptCode → ⊥ = search rules in
    let b = c.requires.coded in
    let s = code_scoped (tree_of c.args.value.now) b.1 199 c.in-Some.code.now b.0 c.in-Some.ensures b.2 (λ alone. other (ap (λ (r : RawBytes). r.kind) b.4 ∙ alone)) in
    record { scoped = (s.0, ap (λ (r : RawBytes). r.bytes) b.4 ∙ ap enc s.1) }

pub returns : goal.returns
returns c =
    let other : c.args.built.element_type ≡ kinds.JavaScriptCode → ⊥ = search rules in
    record {
      exact = λ t rest expected whole is.
          let s = code_scoped (tree_of c.args.value.now) rest 199 c.in-Some.code.now t c.in-Some.ensures expected (λ alone. other (ap (λ (r : RawBytes). r.kind) is ∙ alone)) in
          let bytes = ap (λ (r : RawBytes). r.bytes) is in
          subst (λ (r : Reading Marked). Reaches marked c.scoped_value.result r) (ap built_value (sym s.1))
          (c.scoped_value.ensures.exact s.0 (bytes ∙ ap enc s.1) (subst (λ b. length b ≤ max_bytes) (sym bytes) whole.1));
    }
