use Rattle.vx_exchange.proofs.LaneLists.{one-cuts}
use Rattle.vx_exchange.proofs.deal.deal_to_one.Goals as goal

pub returns-clause-ok : goal.returns-clause-ok
returns-clause-ok c = one-cuts c.args.rows.rows c.args.lanes.now.items c.index_mut.result.now c.add.new.self c.requires.one c.index_mut.ensures.value c.in_ok-add.ensures.ok
