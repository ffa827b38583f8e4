use Rattle.std.proofs.Common.{string_bytes}
use Rattle.volcano_answer.proofs.PrintingFacts.{wrote_all}
use Rattle.volcano_answer.proofs.program.write_runs.Goals as goal

pub returns-in-Ok-clause-stats : goal.returns-in-Ok-clause-stats
returns-in-Ok-clause-stats g c = λ zero whole f form. (
  string_bytes c.in-Ok.printed.stats,
  c.in-Ok.printed.time,
  c.in-Ok.ensures.all,
  wrote_all c.write_printed.result _ (g.E.ByteOut.has_failed c.args.err.now) (g.E.ByteOut.has_failed c.write_printed.new.err) c.write_printed.ensures.fails whole c.write_printed.ensures.ok f form,
)
