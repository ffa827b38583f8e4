-- A consumer end that takes its producers in the order of their numbers: it asks one until it ended, and then the next.
use Rattle.std.specs.Prelude.{◌≡◌, ℕ, suc, ◌<◌, List, [], ◌++◌}
use Rattle.vx_rows_values.specs.Values.{Row}
use Rattle.vx_ops.specs.Ledger.{Ledger, ConsumerEnd, receive, Makes, Begun}
use Rattle.vx_plan_nodes.specs.Streams.{joined}
use Rattle.vx_ports.specs.Packets.{rows_of}

-- where it stands: of the producers behind the one that is next nothing came, and what it gave is all that came
pub record StandsInOrder (port : ConsumerEnd) (next : ℕ) (l : Ledger) : Type 0 where
  pub not_merging : port.merge ≡ []
  pub in_range : next < port.producers
  pub nothing : (i : ℕ) → next < i → i < port.producers → rows_of (l.came i) ≡ []
  pub gave : joined (suc next) (λ i. rows_of (l.came i)) ≡ l.gave.rows

-- so at any moment it gave what the concat makes of what came, and one packet more of the producer that is next keeps that
pub record InOrderLaw : Type 0 where
  pub makes : (port : ConsumerEnd) (next : ℕ) (l : Ledger) → StandsInOrder port next l → Makes (receive port) l l.gave.rows
  pub begun : (port : ConsumerEnd) (next : ℕ) (l : Ledger) → StandsInOrder port next l → Begun (receive port) l
  pub more : (port : ConsumerEnd) (next : ℕ) (l k : Ledger) (rows : List Row) → StandsInOrder port next l
      → ((i : ℕ) → i < next → rows_of (k.came i) ≡ rows_of (l.came i)) → rows_of (k.came next) ≡ rows_of (l.came next) ++ rows
      → ((i : ℕ) → next < i → i < port.producers → rows_of (k.came i) ≡ []) → k.gave.rows ≡ l.gave.rows ++ rows → StandsInOrder port next k
  pub goes_on : (port : ConsumerEnd) (next : ℕ) (l : Ledger) → suc next < port.producers → StandsInOrder port next l → StandsInOrder port (suc next) l
