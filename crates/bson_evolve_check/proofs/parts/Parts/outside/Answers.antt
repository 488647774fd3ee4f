use Rattle.std.proofs.Common.{ap, ◌∙◌}
use Rattle.bson_evolve_check.proofs.Numbers.{with_tables}
use Rattle.bson_evolve_check.proofs.parts.Parts.outside.Goals as goal

pub table-requires : goal.table-requires
table-requires c = c.requires.different

pub returns : goal.returns
returns c =
    record {
      more = with_tables c.args.self.now c.requires c.table.new.self c.in_ok-table.ensures.more;
      number = c.in_ok-table.ensures.number;
      definitions = ap (λ b. b.now) c.in_ok-table.ensures.definitions ∙ c.no_definitions.ensures;
    }
