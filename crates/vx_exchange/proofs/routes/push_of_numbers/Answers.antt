use Rattle.std.proofs.Common.{◌≡◌, ℕ, ◌+◌, ◌≤◌, ap, ◌∙◌, take, length, arith}
use Rattle.std.specs.List.{slice_range}
use Rattle.std.proofs.lemmas.List.{length-take-le}
use Rattle.vx_rows_values.specs.Values.{Row}
use Rattle.vx_exchange.proofs.BlockFacts.{block-routed}
use Rattle.vx_exchange.proofs.routes.push_of_numbers.Goals as goal

pub loop-from-preserved : goal.loop-from-preserved
loop-from-preserved g c =
    let f : Row → ℕ = λ key. g.R.Router.route_of c.args.router.now c.args.name.now key c.args.n in
    let keys = c.args.keys.now in
    let from = c.loop-from.from in
    let n = c.min-block.result in
    let room : length (take n c.loop-from.numbers) ≡ n = length-take-le n c.loop-from.numbers (omega arith) in
    let within : from + n ≤ length keys = omega arith in
    record {
      within = within;
      found = c.in_ok-extend_from_slice.ensures.items
          ∙ block-routed f keys c.read.new.numbers _ c.args.found.now.items c.loop-from.found.items c.route_numbers.new.consumers _ from n within (c.read.ensures.len ∙ room)
          (c.read.ensures.numbers ∙ ap (λ m. slice_range keys from (from + m)) room) c.route_numbers.ensures c.loop-from.invariant.found;
    }
