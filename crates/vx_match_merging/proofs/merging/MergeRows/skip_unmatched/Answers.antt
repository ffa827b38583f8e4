use Rattle.std.proofs.Common.{arith}
use Rattle.vx_match_merging.proofs.MergeCalls.{call-skipped}
use Rattle.vx_match_merging.proofs.merging.MergeRows.skip_unmatched.Goals as goal

pub returns-then-self-len-clause-joined : goal.returns-then-self-len-clause-joined
returns-then-self-len-clause-joined c = λ earlier passed ys h.
    let past = c.if-self-len.true in
    let long = c.len.ensures in
    call-skipped earlier passed ys _ _ c.self.view_is h
    (record {
      rises = c.self.invariant.5;
      ended = c.if-self.true;
      past = omega (arith, past, long);
      order = c.self.invariant.3;
      within = c.self.invariant.4;
    })
    c.self.invariant.2 c.len-self-inside.result c.len-self-inside.ensures
