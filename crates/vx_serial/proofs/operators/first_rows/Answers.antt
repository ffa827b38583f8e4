use Rattle.std.proofs.Common.{◌≡◌, ◌-◌, ◌∙◌, length, min, take, ap, arith}
use Rattle.std.proofs.lemmas.List.{take_min}
use Rattle.std.proofs.lemmas.Result.{IfOk-weaker}
use Rattle.vx_serial.proofs.operators.first_rows.Goals as goal

pub returns-clause-rows : goal.returns-clause-rows
returns-clause-rows c =
    let xs = c.args.rows.now.rows in
    let n = c.args.count in
    let end : c.min-end.result - 0 ≡ min n (length xs) = omega (arith, c.min-end.ensures, c.len.ensures) in
    IfOk-weaker c.slice.result _ (λ r. r.rows ≡ take n xs) (λ r e. e ∙ (ap (λ k. take k xs) end ∙ take_min n xs)) c.slice.ensures.rows
