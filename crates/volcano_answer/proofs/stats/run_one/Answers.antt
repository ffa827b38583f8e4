use Rattle.std.proofs.Common.{refl}
use Rattle.vx_exec_setup.specs.Counts.{counts_in}
use Rattle.volcano_answer.proofs.stats.run_one.Goals as goal

pub returns-clause-run : goal.returns-clause-run
returns-clause-run g c = record {
  own = c.in_ok-own.own.items;
  counts = counts_in c.run_over.new.counts;
  time = c.end-time.result;
  run = c.in_ok-own.ensures.run c.args.form c.counts_for-counts.ensures;
  timed = c.end-time.ensures;
  text_is = refl;
  stats_are = rw c.workers.ensures at c.in_ok-push_stats.ensures;
}
