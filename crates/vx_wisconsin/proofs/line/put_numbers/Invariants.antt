use Rattle.std.proofs.Common.{◌≡◌, ◌+◌, ◌*◌, ◌-◌, ◌≤◌, ◌++◌, flat_map, drop, length}
use Rattle.vx_wisconsin.specs.Line.{number_text}
use Rattle.vx_wisconsin.proofs.line.put_numbers.Given as goal

abbrev pub invariant-loop-left : goal.invariant-loop-left
invariant-loop-left l = record {
  few : l.left ≤ 13;
  room : l.fn.end ≤ l.start + (13 - l.left) * 21;
  before : l.start ≤ l.fn.end;
  within : l.start ≤ length l.buffer;
  text : drop l.start l.buffer ≡ flat_map number_text (drop l.left l.numbers) ++ drop l.fn.end l.fn.buffer;
}

abbrev pub decreases-loop-left : goal.decreases-loop-left
decreases-loop-left l = l.left
