use Rattle.std.proofs.Common.{◌∙◌, ◌++◌, ap, take}
use Rattle.vx_rows.proofs.Kept.{keeps-more}
use Rattle.vx_rows.proofs.numbers.push_widened.Goals as goal

pub returns-in_err-push-clause-front : goal.returns-in_err-push-clause-front
returns-in_err-push-clause-front c =
    let front = take c.loop-n.n-index c.args.numbers.now in
    keeps-more c.args.wide.now.items front c.push.new.self.items (c.in_err-push.ensures.items ∙ (c.loop-n.invariant ∙ ap (λ xs. xs ++ front) c.in_ok-reserve.ensures.items))

pub returns-clause-front : goal.returns-clause-front
returns-clause-front c =
    let front = take c.loop-n.n-index c.args.numbers.now in
    keeps-more c.args.wide.now.items front c.loop-n.wide.items (c.loop-n.invariant ∙ ap (λ xs. xs ++ front) c.in_ok-reserve.ensures.items)
