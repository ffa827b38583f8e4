use Rattle.std.proofs.Common.{◌≡◌, drop}
use Rattle.vx_catalog.specs.Loading.{keys_kept}
use Rattle.vx_catalog.proofs.loader.test_keys.Given as goal

abbrev pub invariant-loop-key : goal.invariant-loop-key
invariant-loop-key l = keys_kept l.key (drop l.key l.relation.keys) l.rows.rows ≡ keys_kept 0 l.relation.keys l.rows.rows
