use Rattle.std.proofs.Common.{le_refl}
use Rattle.vx_ops.specs.Turn.{with_rows, own_turn}
use Rattle.vx_ops.proofs.Costs.{pays-within, rows-more, own-few}
use Rattle.vx_exchange_receivers.specs.MergeReceiver.{merge_receiver_want, merge_receiver-grows}
use Rattle.vx_exchange_receivers.proofs.merge_receiver.MergeReceiver.go_on.Goals as goal

pub returns-in_default-clause-pays : goal.returns-in_default-clause-pays
returns-in_default-clause-pays c k =
    let s = c.args.self.now in
    let g = c.args.got in
    let w = merge_receiver_want s in
    pays-within 1 (own_turn g) _ _ _ _ _ _ c.give.result (own-few g) (merge_receiver-grows s k (with_rows w g k) (rows-more w g k)) (le_refl 0) (c.give.ensures.pays k)
