use Rattle.std.proofs.Common.{ap, ◌∙◌, option_map}
use Rattle.volcano_bundle.proofs.MemberFacts.{table_text}
use Rattle.volcano_embedding.proofs.tables.table.Goals as goal

pub returns-in-Some : goal.returns-in-Some
returns-in-Some c =
    let found = rw c.in-Some.is at c.find_table.ensures in
    rw c.as_slice.ensures.value (ap (option_map (λ t. t.text.items)) found ∙ table_text (λ t. t.name.items) (λ t. t.text.items) c.args.name.now c.args.tables.now)

pub returns-in-None : goal.returns-in-None
returns-in-None c =
    let found = rw c.in-None.is at c.find_table.ensures in
    ap (option_map (λ t. t.text.items)) found ∙ table_text (λ t. t.name.items) (λ t. t.text.items) c.args.name.now c.args.tables.now
