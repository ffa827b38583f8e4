use Rattle.std.proofs.Common.{◌≡◌, [], ◌∷◌, true}
use Rattle.vx_rows_values.specs.declared.value.ColType.TheVariants.{Int}
use Rattle.vx_exchange_ends.specs.Tasks.{post_types}
use Rattle.vx_exchange.specs.Sender.{sender_is_open, sender_post}
use Rattle.test_worker.proofs.senders.make_steps.Given as goal

abbrev pub invariant-loop-word : goal.invariant-loop-word
invariant-loop-word l = record {
  is_open : sender_is_open l.sender ≡ true;
  types : post_types (sender_post l.sender) ≡ Int ∷ [];
}
