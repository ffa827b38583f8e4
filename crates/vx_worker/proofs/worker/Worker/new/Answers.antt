use Rattle.std.proofs.Common.{refl}
use Rattle.vx_worker.proofs.Starting.{begins-few}
use Rattle.vx_worker.proofs.WorkerSteps.{begins}
use Rattle.vx_worker.proofs.worker.Worker.new.Goals as goal

pub returns-clause-stands : goal.returns-clause-stands
returns-clause-stands g c = λ goes m s. begins g.O.Source.Stands g.O.Source.op g.S.Sends.Stands g.S.Sends.task goes m
    (record {
      tree = c.args.tree;
      sender = c.args.sender;
      pending = Rattle.std.proofs.Common.None;
      is_over = Rattle.std.proofs.Common.false;
      phase = Rattle.vx_worker.specs.declared.worker.WorkerState.TheVariants.Running;
      intake = c.new.result;
      closing = c.args.closing;
      node = c.args.node;
      counts = c.new-2.result;
    })
    c.requires.numbered.0 c.requires.numbered.1 refl refl refl c.new.ensures.stands c.requires.numbered.2 c.requires.tree s

pub returns-clause-starts : goal.returns-clause-starts
returns-clause-starts g c = begins-few g.O.Source.op g.O.Source.most g.O.Source.idle g.met.O.Source.most_grows g.met.O.Source.idle_grows g.S.Sends.post g.S.Sends.held g.S.Sends.unclosed
    (record {
      tree = c.args.tree;
      sender = c.args.sender;
      pending = Rattle.std.proofs.Common.None;
      is_over = Rattle.std.proofs.Common.false;
      phase = Rattle.vx_worker.specs.declared.worker.WorkerState.TheVariants.Running;
      intake = c.new.result;
      closing = c.args.closing;
      node = c.args.node;
      counts = c.new-2.result;
    })
    refl refl refl (g.met.S.Sends.few_closings c.args.sender)
