use Rattle.std.proofs.Common.{◌≡◌, map, true}
use Rattle.std.specs.List.{list_all}
use Rattle.volcano_drawing.specs.Entries.{entries_of}
use Rattle.volcano_drawing.specs.Totals.{is_run}
use Rattle.volcano_drawing.proofs.TotalsFacts.{added_all}
use Rattle.volcano_drawing.proofs.totals.added_up.Goals as goal

pub returns-in-None-clause-totals : goal.returns-in-None-clause-totals
returns-in-None-clause-totals c =
    let run : list_all is_run c.in_ok-counts.counts.items ≡ true = rw c.as_slice.ensures.value at c.in-None.ensures in
    added_all (map (λ w. w.now) c.args.words.now) (entries_of c.args.entries.now) c.in_ok-counts.counts.items c.in_ok-counts.ensures.totals run
