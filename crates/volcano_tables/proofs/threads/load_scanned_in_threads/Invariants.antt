use Rattle.std.proofs.Common.{◌≡◌, ◌++◌, option_map}
use Rattle.volcano_tables.specs.Filled.{scanned_below}
use Rattle.volcano_tables.proofs.FillFacts.{IsFilledTo}
use Rattle.volcano_tables.proofs.threads.load_scanned_in_threads.Given as goal

abbrev pub invariant-loop-relation : goal.invariant-loop-relation
invariant-loop-relation g l =
    IsFilledTo (g.S.Scanning.scanned l.scanning) (g.T.Tables.holds l.tables) l.catalog l.database l.relation
    × (g.O.Observer.seen l.observer ≡ option_map (λ rs. rs ++ scanned_below (g.S.Scanning.scanned l.scanning) l.relation) (g.O.Observer.seen l.initial.observer))
