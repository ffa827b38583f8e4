use Rattle.vx_worker.proofs.intake.Intake.fetch.Goals as goal

pub returns-in-Packet-clause-fetches : goal.returns-in-Packet-clause-fetches
returns-in-Packet-clause-fetches g c = rw c.in-Packet.is (c.take.ensures.fetches (g.G.Morsels.morsel_of c.args.morsels.now))
