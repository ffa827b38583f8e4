use Rattle.std.proofs.Common.{ap, ◌∙◌, option_map}
use Rattle.volcano_bundle.proofs.MemberFacts.{table_text}
use Rattle.volcano_bundle.proofs.bundle.Bundle.table.Goals as goal

pub returns-in-Some : goal.returns-in-Some
returns-in-Some c =
    let found = rw (c.in-Some.is, c.as_slice.ensures.value) at c.find_table.ensures in
    ap (option_map (λ t. t.text.now)) found ∙ table_text (λ t. t.name.now) (λ t. t.text.now) c.args.name.now c.args.self.now.tables.items

pub returns-in-None : goal.returns-in-None
returns-in-None c =
    let found = rw (c.in-None.is, c.as_slice.ensures.value) at c.find_table.ensures in
    ap (option_map (λ t. t.text.now)) found ∙ table_text (λ t. t.name.now) (λ t. t.text.now) c.args.name.now c.args.self.now.tables.items
