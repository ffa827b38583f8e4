use Rattle.std.proofs.Common.{◌≡◌, map, take}
use Rattle.vx_check_shown.proofs.claim_lists.copied_keys.Given as goal

abbrev pub invariant-loop-key : goal.invariant-loop-key
invariant-loop-key l = map (λ k. k.items) l.copies.items ≡ map (λ k. k.items) (take l.key-index l.keys)
