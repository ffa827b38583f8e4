use Rattle.std.proofs.Common.{◌≡◌, take}
use Rattle.vx_catalog.specs.Loading.{in_place}
use Rattle.vx_catalog.proofs.loader.in_place.Given as goal

abbrev pub invariant-loop-column : goal.invariant-loop-column
invariant-loop-column l = l.found.items ≡ in_place (take l.column l.order)
