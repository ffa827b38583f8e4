use Rattle.std.proofs.Common.{◌≡◌, map, get_or, []}
use Rattle.vx_rows.specs.View.{row}
use Rattle.vx_exchange.proofs.Concat.{start}
use Rattle.vx_exchange.proofs.LaneLists.{CutsBelow}
use Rattle.vx_exchange.proofs.deal.deal_places.Given as goal

abbrev pub invariant-loop-consumer : goal.invariant-loop-consumer
invariant-loop-consumer l = record {
  at : l.from ≡ start l.consumer l.places;
  cuts : CutsBelow l.consumer (λ j. map (row l.rows) (get_or (map (λ p. p.items) l.places) j [])) l.initial.lanes.items l.lanes.items;
}
