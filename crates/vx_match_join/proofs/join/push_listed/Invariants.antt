use Rattle.std.proofs.Common.{◌≡◌, ◌++◌, map, take}
use Rattle.vx_match_join.proofs.join.push_listed.Given as goal

abbrev pub invariant-loop-place : goal.invariant-loop-place
invariant-loop-place l = record {
  lefts : l.pairs.lefts.items ≡ l.initial.pairs.lefts.items ++ map (λ _. l.left) (take l.place-index l.places);
  rights : l.pairs.rights.items ≡ l.initial.pairs.rights.items ++ take l.place-index l.places;
}
