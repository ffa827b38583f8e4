use Rattle.std.proofs.Common.{◌≡◌, ◌++◌, drop, string_bytes}
use Rattle.vx_functions.specs.Texts.{picked}
use Rattle.vx_functions.proofs.texts.substring.Given as goal

abbrev pub invariant-loop-place : goal.invariant-loop-place
invariant-loop-place l = string_bytes l.part ++ picked l.from l.count l.place (drop l.place l.characters.items) ≡ picked l.from l.count 0 l.characters.items
