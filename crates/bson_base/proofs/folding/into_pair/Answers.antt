use Rattle.std.proofs.Common.{rules, ◌≡◌, true, false, sym, subst, ◌∙◌, string_bytes}
use Rattle.std.specs.Prelude.{is_some, codes}
use Rattle.std.specs.Str.{bytes_eq}
use Rattle.bson_base.specs.BsonView.{tree_of, pairs_of}
use Rattle.bson_base.specs.Tree.{pair}
use Rattle.bson_base.proofs.Folds.{pair_known, code_first, code_is, scope_first}
use Rattle.bson_base.proofs.folding.into_pair.Goals as goal

pub into_code_with_scope-requires : goal.into_code_with_scope-requires
into_code_with_scope-requires c =
    let key = string_bytes c.in-Some.key in
    let first : pairs_of c.args.document ≡ pair key (tree_of c.in-Some.value) c.next.new.self = search rules in
    let known = pair_known _ _ _ key (string_bytes c.in-Some-next.field-0-0) (tree_of c.in-Some.value) (tree_of c.in-Some-next.second) first c.in-Some-next.ensures.steps c.in-None-next-2.ensures.steps.0 in
    let code : bytes_eq key (codes "$code") ≡ true = search rules in
    code_first key (string_bytes c.in-Some-next.field-0-0) (tree_of c.in-Some.value) (tree_of c.in-Some-next.second) code (subst (λ o. is_some o ≡ true) known c.requires)

pub into_code_with_scope-requires-in-None-2 : goal.into_code_with_scope-requires-in-None-2
into_code_with_scope-requires-in-None-2 c =
    let key = string_bytes c.in-Some.key in
    let first : pairs_of c.args.document ≡ pair key (tree_of c.in-Some.value) c.next.new.self = search rules in
    let known = pair_known _ _ _ key (string_bytes c.in-Some-next.field-0-0) (tree_of c.in-Some.value) (tree_of c.in-Some-next.second) first c.in-Some-next.ensures.steps c.in-None-2.ensures.steps.0 in
    let other : bytes_eq key (codes "$code") ≡ false = search rules in
    scope_first key (string_bytes c.in-Some-next.field-0-0) (tree_of c.in-Some.value) (tree_of c.in-Some-next.second) other (subst (λ o. is_some o ≡ true) known c.requires)

pub returns-in-None-next-2 : goal.returns-in-None-next-2
returns-in-None-next-2 c =
    let key = string_bytes c.in-Some.key in
    let other = string_bytes c.in-Some-next.field-0-0 in
    let first : pairs_of c.args.document ≡ pair key (tree_of c.in-Some.value) c.next.new.self = search rules in
    let known = pair_known _ _ _ key other (tree_of c.in-Some.value) (tree_of c.in-Some-next.second) first c.in-Some-next.ensures.steps c.in-None-next-2.ensures.steps.0 in
    let code : bytes_eq key (codes "$code") ≡ true = search rules in
    c.into_code_with_scope.ensures ∙ sym (known ∙ code_is key other (tree_of c.in-Some.value) (tree_of c.in-Some-next.second) code (subst (λ o. is_some o ≡ true) known c.requires))
