use Rattle.std.proofs.Common.{arith, ◌≡◌, ◌∙◌, ℕ, cond, is_lt, ap, sym}
use Rattle.vx_match_merging.proofs.MergeCalls.{call-advanced-end, call-advanced-empty, call-advanced}
use Rattle.vx_match_merging.proofs.merging.MergeRows.advance.Goals as goal
use Rattle.vx_match_merging.proofs.merging.MergeRows.advance.Goals.{then-next-count-via-then-next-count, then-next-count-via-else-next-count+then-self, then-is_lt, else-is_lt}

pub returns-then-next-count-clause-joined : goal.returns-then-next-count-clause-joined
returns-then-next-count-clause-joined c = λ earlier passed ys h run.
    let long = c.len-count.ensures in
    elim c.then-next-count.branch [
      | then-next-count-via-then-next-count w ↦
          let past = w.if-next-count.true in
          call-advanced-end _ _ c.self.view_is earlier passed ys h c.requires (omega (arith, past, long)) run
      | then-next-count-via-else-next-count+then-self w ↦
          let some = w.if-next-count.false in
          let none = w.if-self.true in
          let order = c.self.invariant.3 in
          call-advanced-empty _ _ c.self.view_is earlier passed ys h c.requires (omega (arith, some, long)) c.self.invariant.5 (omega (arith, none, order)) run
    ]

pub returns-clause-joined : goal.returns-clause-joined
returns-clause-joined c = λ earlier passed ys h run.
    let some = c.if-next-count.false in
    let long = c.len-count.ensures in
    let o = c.compare_rows-step.result in
    let start = c.self.inside.start in
    let end = c.self.inside.end in
    let moved : (to : ℕ) → to ≡ cond (is_lt o) end start → _ = λ to at.
    call-advanced _ _ c.self.view_is earlier passed ys h c.requires (omega (arith, some, long)) c.deref.result.now c.deref-2.result.now c.deref.ensures.value c.deref-2.ensures.value
    o c.compare_rows-step.ensures c.self.invariant.5 run to at in
    elim c.if-is_lt.branch [
      | then-is_lt w ↦ rw w.self-inside-is (moved end (ap (λ b. cond b end start) (sym w.if-is_lt.true ∙ c.is_lt.ensures)))
      | else-is_lt w ↦ rw w.self-inside-is (moved start (ap (λ b. cond b end start) (sym w.if-is_lt.false ∙ c.is_lt.ensures)))
    ]
