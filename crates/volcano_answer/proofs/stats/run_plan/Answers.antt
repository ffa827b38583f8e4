use Rattle.std.proofs.Common.{inr, rules, ap}
use Rattle.std.proofs.lemmas.Result.{err_from_is_err_and}
use Rattle.vx_exec_setup.specs.Counts.{counts_in}
use Rattle.volcano_stats.specs.Phases.{times_in}
use Rattle.volcano_stats.specs.Loads.{loads_in, relations_of}
use Rattle.volcano_answer.proofs.StatsFacts.{seen_all, added_twice}
use Rattle.volcano_answer.specs.Commands.{for_tables, for_run}
use Rattle.volcano_answer.proofs.stats.run_plan.Goals as goal

pub returns-in_err-database-clause-refused : goal.returns-in_err-database-clause-refused
returns-in_err-database-clause-refused g c =
    let p = err_from_is_err_and c.from_residual.result c.from_residual.ensures.1 in
    rw (p.1, p.2) (inr (for_tables (rw c.plan.ensures.same at c.in_err-database.ensures.refused)))

pub returns-in_err-rows-clause-refused : goal.returns-in_err-rows-clause-refused
returns-in_err-rows-clause-refused g c =
    let p = err_from_is_err_and c.from_residual-in_err-rows.result c.from_residual-in_err-rows.ensures.1 in
    rw (p.1, p.2) (inr (for_run c.in_ok-database.database
    (record { same = rw c.plan.ensures.same at c.in_ok-database.ensures.catalog; filled = rw c.plan.ensures.same at c.in_ok-database.ensures.filled }) c.in_err-rows.ensures.refused))

pub returns-clause-run : goal.returns-clause-run
returns-clause-run g c = record {
  db = c.in_ok-database.database;
  counts = counts_in c.rows_over.new.counts;
  loads = loads_in c.load_tables_in_threads.new.observer;
  times = times_in c.end-2.new.self;
  loaded = record { same = rw c.plan.ensures.same at c.in_ok-database.ensures.catalog; filled = rw c.plan.ensures.same at c.in_ok-database.ensures.filled };
  each = seen_all (relations_of (loads_in c.start-loads.result)) (relations_of (loads_in c.load_tables_in_threads.new.observer)) _ (ap relations_of c.start-loads.ensures) (rw c.plan.ensures.same at c.in_ok-database.ensures.seen);
  run = rw (c.in_ok-text.ensures, c.plan-2.ensures.same) (c.in_ok-rows.ensures.run c.args.form c.counts_for-counts.ensures);
  phases = added_twice _ _ _ _ _ c.in_ok-end.ensures c.in_ok-end-2.ensures;
  is = search rules;
}
