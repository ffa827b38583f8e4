use Rattle.std.proofs.Common.{◌≡◌, ◌++◌, map}
use Rattle.std.specs.List.{All}
use Rattle.vx_rows.specs.Lists.{each_below}
use Rattle.vx_worker.specs.Intake.{source_of, IsFresh}
use Rattle.vx_exec.proofs.worker.push_inputs.Given as goal

abbrev pub invariant-loop-from : goal.invariant-loop-from
invariant-loop-from l = record {
  fresh : All IsFresh l.fn.inputs.items → All IsFresh l.inputs.items;
  sources : map source_of l.inputs.items ≡ map source_of l.fn.inputs.items ++ each_below l.from (λ i. (l.exchange, i));
}
