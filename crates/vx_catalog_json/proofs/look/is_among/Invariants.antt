use Rattle.std.proofs.Common.{◌≡◌, map, drop}
use Rattle.vx_catalog_json.specs.Look.{is_among}
use Rattle.vx_catalog_json.proofs.look.is_among.Given as goal

abbrev pub invariant-loop-name : goal.invariant-loop-name
invariant-loop-name l = is_among (map (λ n. n.now) (drop l.name-index l.names)) l.key ≡ is_among (map (λ n. n.now) l.names) l.key
