use Rattle.std.proofs.Common.{◌≡◌, map, take, string_bytes}
use Rattle.vx_check_sql.proofs.texts.copied.Given as goal

abbrev pub invariant-loop-text : goal.invariant-loop-text
invariant-loop-text l =
    map string_bytes l.list.items ≡ map string_bytes (take l.text-index l.texts)
