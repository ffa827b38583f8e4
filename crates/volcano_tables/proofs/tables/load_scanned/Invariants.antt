use Rattle.volcano_tables.proofs.FillFacts.{IsFilledTo}
use Rattle.volcano_tables.proofs.tables.load_scanned.Given as goal

abbrev pub invariant-loop-relation : goal.invariant-loop-relation
invariant-loop-relation g l = IsFilledTo (g.S.Scanning.scanned l.scanning) (g.T.Tables.holds l.tables) l.catalog l.database l.relation
