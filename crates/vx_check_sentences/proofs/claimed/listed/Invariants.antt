use Rattle.std.proofs.Common.{◌≡◌, take}
use Rattle.vx_check_rules.specs.Seen.{order_seen}
use Rattle.vx_check_sentences.proofs.claimed.listed.Given as goal

abbrev pub invariant-loop-place : goal.invariant-loop-place
invariant-loop-place l = l.entries.items ≡ take l.place (order_seen l.order)
