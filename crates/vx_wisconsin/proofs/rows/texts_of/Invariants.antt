use Rattle.std.proofs.Common.{◌≡◌, map, take, string_bytes}
use Rattle.vx_wisconsin.proofs.rows.texts_of.Given as goal

abbrev pub invariant-loop-name : goal.invariant-loop-name
invariant-loop-name l = map string_bytes l.texts.items ≡ map (λ n. n.now) (take l.name-index l.names)
