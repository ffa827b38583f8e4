use Rattle.std.proofs.Common.{◌≡◌, ◌<◌, ◌++◌, arith, length, map, get_or}
use Rattle.std.proofs.lemmas.List.{length-map}
use Rattle.vx_match_keys.proofs.ErrorFacts.{reported}
use Rattle.vx_match_grouping.specs.Takes.{entry_held, TakesNot}
use Rattle.vx_match_grouping.proofs.GroupFacts.{takes-next, by-order}
use Rattle.vx_match_grouping.proofs.BlameFacts.{step-blame, no-memory-blame}
use Rattle.vx_match_grouping.proofs.fold.add_each.Goals as goal

pub loop-i-preserved : goal.loop-i-preserved
loop-i-preserved g c = λ by xs are was.
    let a = g.F.Fold.aggregate c.args.fold.now in
    let held = entry_held a g.F.Fold.value g.F.Fold.taken in
    let rows = g.F.Fold.rows c.args.fold.now in
    let i = c.loop-i.i in
    let test = c.loop-i-test.true in
    let near : i < length rows = omega (arith, test, c.requires) in
    let now = map held c.loop-i.entries.items in
    let long : length now ≡ length c.loop-i.entries.items = length-map c.loop-i.entries.items held in
    takes-next a by xs rows c.args.numbers.now i now (map held c.add_row.new.entries.items) near are (c.loop-i.invariant by xs are was)
    (λ below. c.in_ok-add_row.ensures.known (omega (arith, below, long)))
    (λ past. c.in_ok-add_row.ensures.new (omega (arith, past, long)))

pub returns-in_err-add_row-clause-err : goal.returns-in_err-add_row-clause-err
returns-in_err-add_row-clause-err g c =
    let a = g.F.Fold.aggregate c.args.fold.now in
    let held = entry_held a g.F.Fold.value g.F.Fold.taken in
    let rows = g.F.Fold.rows c.args.fold.now in
    let i = c.loop-i.i in
    let test = c.loop-i-test.true in
    let near : i < length rows = omega (arith, test, c.requires) in
    let number = get_or c.args.numbers.now i 0 in
    let now = map held c.loop-i.entries.items in
    let long : length now ≡ length c.loop-i.entries.items = length-map c.loop-i.entries.items held in
    let e = c.in_err-add_row.field-0.0 in
    reported c.from_residual.result e (λ x. TakesNot x a rows c.args.numbers.now (map held c.args.entries.now.items)) c.from_residual.ensures.1
    (λ by xs are was. by-order number (length now)
    (λ below. step-blame e a by xs rows i now number near (c.loop-i.invariant by xs are was) below (c.in_err-add_row.ensures.full (omega (arith, below, long))))
    (λ past. no-memory-blame e (xs ++ rows) (c.in_err-add_row.ensures.out (omega (arith, past, long)))))
