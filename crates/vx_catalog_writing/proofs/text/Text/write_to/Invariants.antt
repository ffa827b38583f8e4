use Rattle.std.proofs.Common.{◌≡◌, flat_map, take}
use Rattle.std.specs.Io.KnownBytes.{Appends}
use Rattle.vx_catalog_writing.proofs.text.Text.write_to.Given as goal

abbrev pub invariant-loop-lines : goal.invariant-loop-lines
invariant-loop-lines g l = record {
  wrote : Appends (g.O.ByteOut.contents l.initial.out) (g.O.ByteOut.contents l.out) (flat_map (λ t. t) (take l.lines-index l.lines-items));
  whole : g.O.ByteOut.has_failed l.out ≡ g.O.ByteOut.has_failed l.fn.out;
}
