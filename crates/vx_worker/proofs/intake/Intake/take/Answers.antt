use Rattle.std.proofs.Common.{refl, Some}
use Rattle.vx_worker.specs.Trace.{took_one}
use Rattle.vx_worker.proofs.Marks.{met-same}
use Rattle.vx_worker.proofs.intake.Intake.take.Goals as goal

pub returns-in-Some-clause-fetches : goal.returns-in-Some-clause-fetches
returns-in-Some-clause-fetches g c = λ morsel. (
  took_one c.args.exchange c.args.from (Some c.in-Some.packet),
  rw c.in-Some.is at c.in_ok-take.ensures.ok,
  record {
    is_read = tt;
    is_wished = (refl, refl, c.note.ensures.brings);
    answers = (refl, refl, refl);
    stands = c.note.ensures.stands;
    sources = c.note.ensures.sources;
    ended = met-same c.args.self.now c.note.new.self c.note.ensures.scans;
  },
)
