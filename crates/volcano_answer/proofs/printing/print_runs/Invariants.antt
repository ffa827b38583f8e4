use Rattle.std.proofs.Common.{◌≡◌, take, string_bytes}
use Rattle.volcano_answer.specs.Printing.{AreWritten}
use Rattle.volcano_answer.proofs.printing.print_runs.Given as goal

abbrev pub invariant-loop-accepted : goal.invariant-loop-accepted
invariant-loop-accepted g l = record {
  written : AreWritten (g.R.Runs.counted l.services.engine.now) l.services.layout l.loaded.form l.loaded.database l.loaded.setting (take l.accepted-index l.loaded.plans.items) (g.O.ByteOut.contents l.fn.out) (g.O.ByteOut.contents l.out) (string_bytes l.printed.stats);
  whole : g.O.ByteOut.has_failed l.out ≡ g.O.ByteOut.has_failed l.fn.out;
}
