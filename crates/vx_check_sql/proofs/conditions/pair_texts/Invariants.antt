use Rattle.std.proofs.Common.{◌≡◌, map, take, string_bytes}
use Rattle.vx_check_sql.specs.Operators.{pair_sql}
use Rattle.vx_check_sql.proofs.conditions.pair_texts.Given as goal

abbrev pub invariant-loop-pair : goal.invariant-loop-pair
invariant-loop-pair l =
    map string_bytes l.list.items ≡ map (pair_sql (map string_bytes l.lefts) (map string_bytes l.rights)) (take l.pair-index l.on)
