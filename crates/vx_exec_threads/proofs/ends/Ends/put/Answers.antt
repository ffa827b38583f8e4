use Rattle.std.proofs.Common.{rules, ◌≡◌, ◌≤◌, Some, slice_get, refl, sym, ◌∙◌, subst}
use Rattle.std.proofs.lemmas.Option.{slice_get_read}
use Rattle.std.specs.Vec.{with_item}
use Rattle.vx_exec_threads.specs.Carrying.{hold_of}
use Rattle.vx_exec_threads.proofs.Bearing.{carries-idle, full-beyond, full-closed, put-gives}
use Rattle.vx_exec_threads.proofs.ends.Ends.put.Goals as goal
use Rattle.vx_exec_threads.proofs.ends.Ends.put.Goals.{then-place-len-via-then-place-len, then-place-len-via-else-place-len+then-is_closed}

pub returns-then-place-len-clause-gives : goal.returns-then-place-len-clause-gives
returns-then-place-len-clause-gives c = (
  refl,
  elim c.then-place-len.branch [
    | then-place-len-via-then-place-len w ↦ full-beyond c.args.self.now c.args.to (subst (λ n. n ≤ c.args.to) (c.len.ensures ∙ sym (search rules)) w.if-place-len.true)
    | then-place-len-via-else-place-len+then-is_closed w ↦
        let o = w.index.result.now in
        let outs = c.args.self.now.outs in
        let at : slice_get outs.items c.args.to ≡ Some o = slice_get_read outs.items outs.len c.args.to o (search rules) (search rules) w.index.ensures in
        full-closed c.args.self.now c.args.to o at (sym w.is_closed.ensures ∙ w.if-is_closed.true)
  ],
  carries-idle (hold_of c.args.self.now),
)

pub returns-clause-gives : goal.returns-clause-gives
returns-clause-gives c =
    let o = c.index_mut.result.now in
    let outs = c.args.self.now.outs in
    let at : slice_get outs.items c.args.to ≡ Some o = slice_get_read outs.items outs.len c.args.to o (search rules) (search rules) c.index_mut.ensures.value in
    put-gives c.args.self.now (record c.args.self.now { outs = with_item outs c.args.to c.put-answer.new.self; unwoken = c.note.new.self })
    c.args.to c.args.packet o c.put-answer.new.self c.put-answer.result at refl c.put-answer.ensures.outcome c.put-answer.ensures.never_no_memory c.put-answer.ensures.has_room
