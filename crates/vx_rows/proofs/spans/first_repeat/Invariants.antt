use Rattle.std.proofs.Common.{◌≡◌, length}
use Rattle.vx_rows.proofs.SpanFacts.{Marks}
use Rattle.vx_rows.proofs.spans.first_repeat.Given as goal

abbrev pub invariant-loop-i : goal.invariant-loop-i
invariant-loop-i l = record {
  wide : length l.seen.items ≡ l.span.width;
  marks : Marks l.numbers l.span.low l.i l.seen.items;
}
