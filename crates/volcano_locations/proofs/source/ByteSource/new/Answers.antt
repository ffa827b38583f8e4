use Rattle.std.proofs.Common.{◌≡◌, rules, true, false}
use Rattle.volcano_locations.specs.Lines.{has_mark}
use Rattle.volcano_locations.proofs.SourceFacts.{marked, unmarked}
use Rattle.volcano_locations.proofs.source.ByteSource.new.Goals as goal
use Rattle.volcano_locations.proofs.source.ByteSource.new.Goals.{then-has_mark, else-has_mark}

pub returns-clause-bytes : goal.returns-clause-bytes
returns-clause-bytes g c =
    elim c.if-has_mark.branch [
      | then-has_mark w ↦
          let test : has_mark c.in_ok-chunk.chunk.items ≡ true = search rules in
          rw w.at-is (marked _ _ c.in_ok-chunk.chunk.items c.in_ok-chunk.ensures.bytes test)
      | else-has_mark w ↦
          let test : has_mark c.in_ok-chunk.chunk.items ≡ false = search rules in
          rw w.at-is (unmarked _ _ c.in_ok-chunk.chunk.items c.in_ok-chunk.ensures.bytes c.in_ok-chunk.ensures.enough test)
    ]
