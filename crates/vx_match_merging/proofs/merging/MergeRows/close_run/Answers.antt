use Rattle.std.proofs.Common.{arith, ◌≡◌, ◌≤◌, length, true}
use Rattle.std.proofs.lemmas.Bool.Decides.{nat_tests}
use Rattle.vx_match_merging.proofs.MergeCalls.{call-moved, call-closed}
use Rattle.vx_match_merging.proofs.merging.MergeRows.close_run.Goals as goal
use Rattle.vx_match_merging.proofs.merging.MergeRows.close_run.Goals.{then-self, else-self}

pub returns-clause-kept : goal.returns-clause-kept
returns-clause-kept c = λ earlier passed ys h.
    call-moved _ _ c.self.view_is earlier passed ys h c.requires c.deref.result.now c.deref-2.result.now c.deref.ensures.value c.deref-2.ensures.value c.run_of-run.result.start c.run_of-run.result.end c.run_of-run.ensures.taken

pub returns-clause-run : goal.returns-clause-run
returns-clause-run c = λ closed earlier passed ys h.
    let shut : length c.self.inside.right.rows ≤ c.run_of-run.result.end → c.self.inside.right_ended ≡ true = λ past. elim c.if-self.branch [
      | then-self w ↦ w.if-self.true
      | else-self w ↦ absurd (let long = w.len.ensures in let same = w.result-is in grind (arith, nat_tests))
    ] in
    call-closed _ _ c.self.view_is earlier passed ys h c.requires c.deref.result.now c.deref-2.result.now c.deref.ensures.value c.deref-2.ensures.value c.run_of-run.result.start c.run_of-run.result.end c.run_of-run.ensures.taken c.run_of-run.ensures.above shut
