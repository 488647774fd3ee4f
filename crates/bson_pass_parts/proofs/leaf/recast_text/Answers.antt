use Rattle.std.proofs.Common.{sym, subst, Option}
use Rattle.std.specs.Prelude.{IfSome}
use Rattle.std.proofs.lemmas.Str.{is_utf8-from_IsUtf8}
use Rattle.bson_base.specs.Tree.{Tree}
use Rattle.bson_pass_parts.specs.Put.{IsPut}
use Rattle.bson_pass_parts.proofs.Leaves.{text_read, string_read}
use Rattle.bson_pass_parts.proofs.leaf.recast_text.Goals as goal

pub returns-in-Str : goal.returns-in-Str
returns-in-Str c =
    rw c.in-Str.is (subst (λ (o : Option Tree). IfSome c.put_text.result (IsPut o c.args.made.now.items c.put_text.new.made.items)) (sym (text_read c.args.text.now c.args.levels (is_utf8-from_IsUtf8 _ c.utf8.text))) c.put_text.ensures)

pub returns-in-String : goal.returns-in-String
returns-in-String c =
    rw c.in-String.is (subst (λ (o : Option Tree). IfSome c.put_text-in-String.result (IsPut o c.args.made.now.items c.put_text-in-String.new.made.items)) (sym (string_read c.args.text.now c.args.levels (is_utf8-from_IsUtf8 _ c.utf8.text)))
    c.put_text-in-String.ensures)
