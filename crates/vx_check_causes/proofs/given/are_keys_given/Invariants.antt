use Rattle.std.proofs.Common.{◌≡◌, map, drop}
use Rattle.std.specs.List.{list_all}
use Rattle.vx_check_rules.specs.Rules.{covers}
use Rattle.vx_check_causes.proofs.given.are_keys_given.Given as goal

abbrev pub invariant-loop-key : goal.invariant-loop-key
invariant-loop-key l =
    list_all (covers (map (λ k. k.items) l.others)) (map (λ k. k.items) (drop l.key-index l.keys)) ≡ list_all (covers (map (λ k. k.items) l.others)) (map (λ k. k.items) l.keys)
