-- The end of an exchange at which a receiver takes packets.
use Rattle.std.specs.Prelude.{ℕ, List, Bool}
use Rattle.vx_rows_values.specs.declared.order.OrderEntry.{OrderEntry}
use Rattle.vx_ops.specs.Ledger.{ConsumerEnd}
use Rattle.vx_ops.specs.Turn.{Shape}
use Rattle.vx_exchange_receivers.specs.declared.place.ReceiverPlace.{ReceiverPlace}

-- the end at this place, for so many producers, in this order
abbrev pub end_at : ReceiverPlace → ℕ → List OrderEntry → Bool → ConsumerEnd
end_at p producers merge in_order = record { exchange = p.exchange; place = p.place; producers = producers; types = p.types.items; merge = merge; in_order = in_order }

-- it has no input but packets
abbrev pub end_types : ReceiverPlace → Shape
end_types p = record { left = p.types.items; right = p.types.items; out = p.types.items }
