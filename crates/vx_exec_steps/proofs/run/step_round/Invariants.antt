use Rattle.std.proofs.Common.{◌≡◌, vec_len}
use Rattle.std.specs.List.{All}
use Rattle.vx_worker.specs.Worker.{IsReady}
use Rattle.vx_exec_steps.proofs.Rounds.{FlagIs}
use Rattle.vx_exec_steps.specs.Following.{round, Follows}
use Rattle.vx_exec_steps.specs.Runs.{Advances}
use Rattle.vx_exec_steps.proofs.run.step_round.Given as goal

abbrev pub invariant-loop-number : goal.invariant-loop-number
invariant-loop-number g l = record {
  len : vec_len l.workers ≡ l.number-end;
  flag : FlagIs l.workers.items l.number l.all_ended;
  ready : All (IsReady g.O.Source.types g.S.Sends.post g.S.Sends.is_open g.S.Sends.has_closed (g.G.Morsels.types_of l.morsels)) l.workers.items;
  follows : Follows g.O.Source.Stands g.O.Source.want g.O.Source.op g.O.Source.most g.O.Source.idle g.S.Sends.Stands g.S.Sends.task g.S.Sends.post g.S.Sends.bounds g.S.Sends.held g.S.Sends.unclosed (g.R.Router.route_of l.router) (g.G.Morsels.morsel_of l.morsels) (round l.number) l.fn.workers.items l.fn.links l.workers.items l.links;
  count : l.number-end ≡ vec_len l.fn.workers;
  advances : Advances g.O.Source.Stands g.O.Source.op g.S.Sends.Stands g.S.Sends.task g.S.Sends.post g.S.Sends.bounds (g.R.Router.route_of l.router) (g.G.Morsels.morsel_of l.morsels)
      l.fn.workers.items l.fn.links l.workers.items l.links;
}
