use Rattle.std.proofs.Common.{◌≡◌, ◌<◌, ◌+◌, [], ◌∷◌, ◌++◌, arith, sym, ap, ◌∙◌, length, get_or}
use Rattle.std.proofs.lemmas.List.{take_more}
use Rattle.vx_rows.specs.Lists.{each_below}
use Rattle.vx_rows.proofs.Below.{each_below-none, each_below-next}
use Rattle.vx_rows_views.proofs.Facts.{counted-at}
use Rattle.vx_rows_views.proofs.positions.are_counted_from.Goals.{then-numbers-i-via-then-numbers-i, then-numbers-i-via-else-numbers-i+then-numbers-i-2}
use Rattle.vx_rows_views.proofs.positions.are_counted_from.Goals as goal

pub loop-i-init : goal.loop-i-init
loop-i-init c = sym (each_below-none (λ k. c.args.first + k))

pub loop-i-preserved : goal.loop-i-preserved
loop-i-preserved c =
    let numbers = c.args.numbers.now in
    let first = c.args.first in
    let i = c.loop-i.i in
    let near : i < length numbers = omega (arith, c.loop-i-test.true) in
    let e : get_or numbers i 0 ≡ first + i = omega (arith, c.if-numbers-i.false, c.if-numbers-i-2.false) in
    take_more numbers i 0 near
    ∙ (ap (λ xs. xs ++ get_or numbers i 0 ∷ []) c.loop-i.invariant
    ∙ (ap (λ n. each_below i (λ k. first + k) ++ n ∷ []) e ∙ sym (each_below-next i (λ k. first + k))))

pub returns-then-numbers-i : goal.returns-then-numbers-i
returns-then-numbers-i c =
    let numbers = c.args.numbers.now in
    let first = c.args.first in
    let i = c.loop-i.i in
    let near : i < length numbers = omega (arith, c.loop-i-test.true) in
    elim c.then-numbers-i.branch [
      | then-numbers-i-via-then-numbers-i w ↦ (λ h. absurd cc, λ e. let at = counted-at first numbers e i near in absurd (omega (arith, at, w.if-numbers-i.true)))
      | then-numbers-i-via-else-numbers-i+then-numbers-i-2 w ↦
          (λ h. absurd cc, λ e. let at = counted-at first numbers e i near in absurd (omega (arith, at, w.if-numbers-i.false, w.if-numbers-i-2.true)))
    ]
