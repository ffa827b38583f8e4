use Rattle.std.proofs.Common.{◌≡◌, vec_len, length}
use Rattle.std.specs.List.{All}
use Rattle.vx_worker.specs.Worker.{IsReady}
use Rattle.vx_exec_steps.specs.Following.{rounds, Follows}
use Rattle.vx_exec_steps.specs.Runs.{Advances}
use Rattle.vx_exec_steps.proofs.run.step_rounds.Given as goal

abbrev pub invariant-loop-done : goal.invariant-loop-done
invariant-loop-done g l = record {
  ready : All (IsReady g.O.Source.types g.S.Sends.post g.S.Sends.is_open g.S.Sends.has_closed (g.G.Morsels.types_of l.morsels)) l.workers.items;
  len : vec_len l.workers ≡ vec_len l.fn.workers;
  follows : Follows g.O.Source.Stands g.O.Source.want g.O.Source.op g.O.Source.most g.O.Source.idle g.S.Sends.Stands g.S.Sends.task g.S.Sends.post g.S.Sends.bounds g.S.Sends.held g.S.Sends.unclosed (g.R.Router.route_of l.router) (g.G.Morsels.morsel_of l.morsels) (rounds l.done (length l.fn.workers.items)) l.fn.workers.items l.fn.links l.workers.items l.links;
  advances : Advances g.O.Source.Stands g.O.Source.op g.S.Sends.Stands g.S.Sends.task g.S.Sends.post g.S.Sends.bounds (g.R.Router.route_of l.router) (g.G.Morsels.morsel_of l.morsels)
      l.fn.workers.items l.fn.links l.workers.items l.links;
}
