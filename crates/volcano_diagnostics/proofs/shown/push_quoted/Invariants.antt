use Rattle.std.proofs.Common.{◌≡◌, ◌++◌, drop, flat_map}
use Rattle.volcano_diagnostics.specs.Shown.{byte_quoted}
use Rattle.volcano_diagnostics.proofs.shown.push_quoted.Given as goal

abbrev pub invariant-loop-byte : goal.invariant-loop-byte
invariant-loop-byte l = l.text.items ++ flat_map (byte_quoted l.are_seen) (drop l.byte-index l.shown) ≡ l.initial.text.items ++ flat_map (byte_quoted l.are_seen) l.shown
