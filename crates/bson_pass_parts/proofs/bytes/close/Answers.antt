use Rattle.std.proofs.Common.{◌≡◌, ◌++◌, [], ◌∷◌, length, ◌-◌, ap, ◌∙◌, rules}
use Rattle.bson_base.specs.Tree.{le32}
use Rattle.bson_io.specs.Output.{patched}
use Rattle.bson_pass_parts.proofs.Pieces.{closed_is}
use Rattle.bson_pass_parts.proofs.bytes.close.Goals as goal

pub returns : goal.returns
returns c =
    let old = c.args.made.now.items in
    let start = c.args.start in
    let pushed : c.push.new.self.items ≡ old ++ 0 ∷ [] = search rules in
    let long : c.len.result ≡ length c.push.new.self.items = search rules in
    c.set_length.ensures
    ∙ ap (λ n. patched c.push.new.self.items start (le32 (n - start))) long
    ∙ ap (λ b. patched b start (le32 (length b - start))) pushed
    ∙ closed_is old start c.requires
