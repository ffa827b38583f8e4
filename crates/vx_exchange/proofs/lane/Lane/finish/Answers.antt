use Rattle.std.proofs.Common.{rules, ◌<◌, length}
use Rattle.vx_exchange.proofs.Cuts.{rest-one}
use Rattle.vx_exchange.proofs.lane.Lane.finish.Goals as goal

pub returns-clause-ok : goal.returns-clause-ok
returns-clause-ok c =
    let v = c.self.view_is in
    let some : 0 < length c.args.self.now.current = search rules in
    let less : length c.args.self.now.current < c.args.self.now.way.size = search rules in
    rest-one c.args.self.now.way c.args.self.now.current c.args.self.now.ready c.push.new.self.ready some less (search rules)
