use Rattle.std.proofs.Common.{◌≡◌, ◌∙◌, ◌∷◌, ◌++◌, [], false, ap, sym, subst, string_bytes}
use Rattle.std.specs.List.{list_any}
use Rattle.std.specs.Str.{bytes_eq}
use Rattle.bson_key_map.specs.Keys.{key_texts}
use Rattle.bson_key_map.specs.Stored.{IsTableOf}
use Rattle.bson_key_map.proofs.Tables.{pushed_distinct, pushed_texts, none_kept}
use Rattle.bson_key_map.proofs.key_map.KeyMap.push.Goals.{then-is_some+in_ok-push_to_table, else-is_some+else-len-ge-MOST_FEW}
use Rattle.bson_key_map.proofs.key_map.KeyMap.push.Goals as goal

pub invariant_of-self-2 : goal.invariant_of-self-2
invariant_of-self-2 g c =
    let ps = c.self.inside.pairs.items in
    let new : list_any (bytes_eq (string_bytes c.args.key)) (key_texts ps) ≡ false = ap (λ qs. list_any (bytes_eq (string_bytes c.args.key)) (key_texts qs)) c.self.view_is ∙ c.requires.new in
    elim c.if-is_some.branch [
      | then-is_some+in_ok-push_to_table w ↦
          let all = w.deref.ensures.value ∙ c.in_ok-reserve.ensures.items in
          rw (c.in_ok-push.ensures.items, w.self-inside-is, c.in_ok-reserve.ensures.items) (
            pushed_distinct ps (record { key = c.args.key; value = c.args.value }) c.self.invariant.0 new,
            subst (λ t. IsTableOf t (ps ++ record { key = c.args.key; value = c.args.value } ∷ [])) (sym w.in_ok-push_to_table.ensures.texts)
                ((λ i. key_texts (all i) ++ w.deref-then-is_some.ensures i ∷ []) ∙ pushed_texts ps (record { key = c.args.key; value = c.args.value })),
          )
      | else-is_some+else-len-ge-MOST_FEW w ↦
          rw (c.in_ok-push.ensures.items, w.self-inside-is, c.in_ok-reserve.ensures.items)
          (pushed_distinct ps (record { key = c.args.key; value = c.args.value }) c.self.invariant.0 new, none_kept c.self.inside.table _ (sym c.is_some.ensures ∙ w.if-is_some.false))
    ]
