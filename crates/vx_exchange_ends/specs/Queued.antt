-- What a sending end has still to return: rows that it holds for its consumers, and closing packets.
use Rattle.std.specs.Prelude.{ℕ, ◌<◌, ◌≤◌, ◌+◌, ◌==◌, cond, length}
use Rattle.vx_ports.specs.Packets.{Content, brings, last, fault, PacketView, content_rows}
use Rattle.vx_exchange_ends.specs.Tasks.{Post, sends_by_ship, keeps}

-- how many consumers it has
abbrev pub consumers_of : Post → ℕ
consumers_of (sends_by_ship s) = s.consumers
consumers_of (keeps types) = 0

-- the rows of a packet to this consumer, for any
abbrev pub rows_to : (to : ℕ) → PacketView → ℕ → ℕ
rows_to to p j = cond (j == to) (length (content_rows p.content)) 0

-- 1 for a packet that closes
abbrev pub closings : Content → ℕ
closings (brings xs) = 0
closings last = 1
closings fault = 1

-- a packet to a consumer is taken out of what is held and of what is still to be closed: it has rows, or it closes
pub record IsTakenOut (to : ℕ) (p : PacketView) (held rest : ℕ → ℕ) (unclosed left : ℕ) : Type 0 where
  pub rows : (j : ℕ) → rest j + rows_to to p j ≤ held j
  pub closing : left + closings p.content ≤ unclosed
  pub some : 0 < length (content_rows p.content) + closings p.content

-- nothing was added
pub record IsNoMore (held rest : ℕ → ℕ) (unclosed left : ℕ) : Type 0 where
  pub rows : (j : ℕ) → rest j ≤ held j
  pub closing : left ≤ unclosed
