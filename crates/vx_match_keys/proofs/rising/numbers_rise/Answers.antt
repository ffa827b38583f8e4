use Rattle.std.proofs.Common.{◌≡◌, ◌≤◌, ◌+◌, arith, length, take}
use Rattle.std.proofs.lemmas.List.{length-take-le}
use Rattle.vx_match_keys.proofs.BlockFacts.{read-block}
use Rattle.vx_match_keys.proofs.RiseFacts.{keys-rise, block-rises, block-falls}
use Rattle.vx_match_keys.proofs.rising.numbers_rise.Goals as goal

pub returns-then-not-block_rises : goal.returns-then-not-block_rises
returns-then-not-block_rises c = λ column rows e.
    let numbers = c.args.numbers.now in
    let from = c.loop-from.from in
    let n = c.min-block.result in
    let within : from + n ≤ length numbers = omega arith in
    let room : length (take n c.loop-from.found) ≡ n = length-take-le n c.loop-from.found (omega arith) in
    let is = read-block numbers c.read.new.numbers _ from n _ room c.read.ensures.len c.read.ensures.numbers in
    block-falls c.args.falling numbers _ from n within is column rows e c.block_rises.result c.if-not-block_rises.true c.block_rises.ensures

pub loop-from-preserved : goal.loop-from-preserved
loop-from-preserved c =
    let numbers = c.args.numbers.now in
    let from = c.loop-from.from in
    let n = c.min-block.result in
    let within : from + n ≤ length numbers = omega arith in
    let room : length (take n c.loop-from.found) ≡ n = length-take-le n c.loop-from.found (omega arith) in
    let is = read-block numbers c.read.new.numbers _ from n _ room c.read.ensures.len c.read.ensures.numbers in
    let up = block-rises c.args.falling numbers _ from n within is c.loop-from.invariant.rises c.block_rises.result c.if-not-block_rises.false c.block_rises.ensures in
    record { within = omega arith; rises = λ k l. up k (omega (arith, l)) }

pub returns : goal.returns
returns c = λ column rows e. keys-rise column c.args.falling rows c.args.numbers.now e (λ k l. c.loop-from.invariant.rises k (omega (arith, l, c.len-count.ensures, c.loop-from-test.false)))
