use Rattle.std.proofs.Common.{◌≡◌, true, rules}
use Rattle.csv.specs.Records.{fields_of}
use Rattle.vx_catalog.specs.Records.{rest_of}
use Rattle.vx_catalog.specs.Loading.{is_header}
use Rattle.vx_catalog.proofs.LoadFacts.{under_reported}
use Rattle.vx_catalog.proofs.loader.read_table.Goals as goal

pub returns-clause-rows : goal.returns-clause-rows
returns-clause-rows g c =
    let rem = g.S.Read.remaining in
    let taken = rw c.if-not-branch.false at c.in_ok-next_record.ensures.read in
    let yes : is_header c.args.relation.now.names (fields_of c.next_record.new.line) ≡ true = search rules in
    under_reported (λ r. r.rows) c.read_rows.result c.args.relation.now.names c.args.relation.now.types (fields_of c.next_record.new.line) (rest_of rem c.args.reader.now) (rest_of rem c.next_record.new.reader) taken.1 yes (rw c.types.ensures at c.read_rows.ensures.rows)
