use Rattle.std.proofs.Common.{◌≡◌, ◌++◌, string_bytes}
use Rattle.std.specs.List.{flat_map}
use Rattle.std.specs.Char.{encode_utf8}
use Rattle.vx_catalog_formats.specs.Table.{shown}
use Rattle.vx_catalog_formats.proofs.cells.push_shown.Given as goal

abbrev pub invariant-loop-character : goal.invariant-loop-character
invariant-loop-character l = string_bytes l.cell ≡ string_bytes l.initial.cell ++ flat_map (λ c. encode_utf8 (shown c)) l.yielded
