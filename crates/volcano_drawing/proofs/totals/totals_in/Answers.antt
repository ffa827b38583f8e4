use Rattle.std.proofs.Common.{map}
use Rattle.volcano_drawing.specs.Entries.{entries_of}
use Rattle.volcano_drawing.proofs.TotalsFacts.{faults_of_text}
use Rattle.volcano_drawing.proofs.totals.totals_in.Goals as goal

pub returns-clause-refused : goal.returns-clause-refused
returns-clause-refused c =
    faults_of_text (map (λ w. w.now) c.args.words.now) c.args.text.now (entries_of c.in_ok-entries.entries.items) c.added_up.result c.in_ok-entries.ensures
    (rw c.as_slice.ensures.value at c.added_up.ensures.refused)
