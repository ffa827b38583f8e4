use Rattle.std.proofs.Common.{◌≡◌, ◌++◌, length, drop, string_bytes}
use Rattle.std.specs.Str.{chars}
use Rattle.vx_catalog_formats.specs.Table.{front}
use Rattle.vx_catalog_formats.proofs.cells.push_front.Given as goal

abbrev pub invariant-loop-character : goal.invariant-loop-character
invariant-loop-character l =
    string_bytes l.text ++ front l.room (drop (length l.yielded) (chars l.line)) ≡ string_bytes l.initial.text ++ front l.columns (chars l.line)
