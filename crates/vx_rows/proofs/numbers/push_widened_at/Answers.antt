use Rattle.std.proofs.Common.{◌∙◌, ◌++◌, ap, take}
use Rattle.vx_rows.specs.Numbers.{numbers_at}
use Rattle.vx_rows.proofs.Kept.{keeps-more}
use Rattle.vx_rows.proofs.numbers.push_widened_at.Goals as goal

pub returns-in_err-push-clause-front : goal.returns-in_err-push-clause-front
returns-in_err-push-clause-front c =
    let front = numbers_at c.args.numbers.now (take c.loop-i.i-index c.args.positions.now) in
    keeps-more c.args.wide.now.items front c.push.new.self.items (c.in_err-push.ensures.items ∙ (c.loop-i.invariant ∙ ap (λ xs. xs ++ front) c.in_ok-reserve.ensures.items))

pub returns-clause-front : goal.returns-clause-front
returns-clause-front c =
    let front = numbers_at c.args.numbers.now (take c.loop-i.i-index c.args.positions.now) in
    keeps-more c.args.wide.now.items front c.loop-i.wide.items (c.loop-i.invariant ∙ ap (λ xs. xs ++ front) c.in_ok-reserve.ensures.items)
