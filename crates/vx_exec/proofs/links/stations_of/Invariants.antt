use Rattle.std.proofs.Common.{◌≡◌, map, take}
use Rattle.vx_exec.specs.Links.{morsels_in, station_in}
use Rattle.vx_exec.proofs.links.stations_of.Given as goal

abbrev pub invariant-loop-span : goal.invariant-loop-span
invariant-loop-span g l = l.stations.items ≡ map (station_in (morsels_in l.job)) (take l.span-index l.spans)
