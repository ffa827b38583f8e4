use Rattle.std.proofs.Common.{◌≡◌, ◌∷◌, [], map, take, length}
use Rattle.vx_rows_values.specs.Values.{num}
use Rattle.vx_plan_nodes.proofs.router.Router.route_numbers.Given as goal

abbrev pub invariant-loop-i : goal.invariant-loop-i
invariant-loop-i g l = record {
  len : length l.consumers ≡ length l.keys;
  done : take l.i l.consumers ≡ map (λ k. g.Self.Router.route_of l.self l.name (num k ∷ []) l.n) (take l.i l.keys);
}
