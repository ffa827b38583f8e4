use Rattle.vx_exec_steps.specs.LinksView.{LinksView, IsWay, stays}
use Rattle.vx_exec_steps.proofs.BoardSteps.{took}
use Rattle.vx_exec_steps.proofs.links.LinksWires.take.Goals as goal

pub returns-in-Some-take-clause-ok : goal.returns-in-Some-take-clause-ok
returns-in-Some-take-clause-ok c =
    let w = c.self.inside in
    let board : LinksView = record { sends = w.sends.items; stations = w.stations.items; queues = w.ports.items; turn = w.turn } in
    let way : IsWay c.args.self.now c.args.exchange c.args.from c.in-Some.producer c.in-Some.consumer = rw (c.in-Some.producer-is, c.in-Some.consumer-is) c.in-Some.ensures in
    let here : IsWay board c.args.exchange c.args.from c.in-Some.producer c.in-Some.consumer = rw c.self.view_is way in
    rw (← c.self.view_is) (took board c.args.exchange c.args.from c.in-Some.producer c.in-Some.consumer c.in-Some-take.packet c.index_mut.result.now c.take.new.self
    here c.index_mut.ensures.value c.in-Some-take.ensures)

pub returns-in-None-clause-ok : goal.returns-in-None-clause-ok
returns-in-None-clause-ok c = record { stays = stays c.args.self.now; empty = λ a j way. absurd (c.in-None.ensures a j way) }
