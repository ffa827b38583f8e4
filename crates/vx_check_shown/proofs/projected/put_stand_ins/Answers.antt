use Rattle.std.proofs.Common.{IfSome, subst, ◌<◌, ℕ, Option}
use Rattle.vx_check_shown.proofs.StandIns.{column-more, list-more}
use Rattle.vx_check_shown.proofs.projected.put_stand_ins.Goals as goal

pub loop-column-preserved : goal.loop-column-preserved
loop-column-preserved c =
    let P : Option ℕ → Type 0 = λ o. IfSome o (λ d. d < c.args.outputs) in
    rw c.in_ok-push-in-Some.ensures.items (column-more c.args.outputs c.loop-column.columns.items c.in-Some.column c.loop-column.invariant (subst P c.in-Some.is c.stand_in.ensures))

pub returns : goal.returns
returns c = λ old. rw c.in_ok-push.ensures.items (list-more c.args.outputs c.args.found.now.items c.loop-column.columns c.loop-column.invariant old)
