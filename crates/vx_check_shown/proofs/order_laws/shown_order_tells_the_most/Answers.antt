use Rattle.vx_check_shown.proofs.LongestOrders.{longest-order}
use Rattle.vx_check_shown.proofs.order_laws.shown_order_tells_the_most.Goals as goal

pub returns : goal.returns
returns c = λ s p catalog h. longest-order s p catalog h
