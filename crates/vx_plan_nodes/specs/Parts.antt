-- The part that an exchange shows of itself.
use Rattle.vx_plan_nodes.specs.Plan.{Part, one, any, all, routed, ExchangeKind, route_to, round, broadcast, gather, concat}

-- routed rows where they are sent, dealt ones anywhere, copied ones everywhere, and gathered ones at one worker
abbrev pub kind_part : ExchangeKind → Part
kind_part (route_to z r cols) = routed r cols
kind_part (round z) = any
kind_part (broadcast z) = all
kind_part gather = one
kind_part concat = one
