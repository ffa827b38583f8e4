use Rattle.std.proofs.Common.{◌≡◌, ◌++◌, replicate, string_bytes}
use Rattle.vx_catalog_formats.proofs.cells.push_times.Given as goal

abbrev pub invariant-loop-done : goal.invariant-loop-done
invariant-loop-done l = string_bytes l.line ≡ string_bytes l.initial.line ++ replicate l.done l.character
