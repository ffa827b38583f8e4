-- The ports of a task that is done: each has a stream, and each that leads to a consumer is closed.
use Rattle.std.proofs.Common.{◌≡◌, ℕ, ◌<◌, ◌||◌, true, false, List, [], ◌∷◌, ◌++◌, map, refl, sym, ap, subst, arith}
use Rattle.vx_rows_values.specs.Values.{Row}
use Rattle.vx_plan_nodes.specs.Routes.{Routing}
use Rattle.vx_ports.specs.Packets.{Content, last, fault, PacketView, closes, is_closed, is_stream}
use Rattle.vx_exchange_ends.specs.Ship.{Ship, packet_at, packet_of, IsShipped, IsCutShort}
use Rattle.vx_exchange_ends.specs.Tasks.{Task, send, keep, Post, sends_by_ship, keeps, IsAt, Finished, Stopped}
use Rattle.vx_exchange_ends.specs.Queued.{consumers_of}
use Rattle.vx_exchange_ends.specs.Streams.{AreStreams, packet-stream, rows-stream, are-streams, no-streams}

-- packets of rows, and one that closes
closing-stream : (s : Ship) (j : ℕ) (parts : List (List Row)) (c : Content) (ps : List PacketView) → map (packet_at s j) parts ++ packet_of s j c ∷ [] ≡ ps → is_stream ps ≡ true
closing-stream s j parts c ps e =
    let P : List PacketView → Type 0 = λ qs. is_stream qs ≡ true in
    subst P e (rows-stream s j parts (packet_of s j c ∷ []) (packet-stream (packet_of s j c)))

closing-closes : (s : Ship) (j : ℕ) (parts : List (List Row)) (c : Content) → closes c ≡ true → is_closed (map (packet_at s j) parts ++ packet_of s j c ∷ []) ≡ true
closing-closes s j [] c e = ap (λ b. b || false) e
closing-closes s j (p ∷ parts) c e = closing-closes s j parts c e

shipped-streams : (goes : Routing) (s : Ship) (rows : List Row) (put : ℕ → List PacketView) → IsShipped goes s rows put → AreStreams s.consumers put
shipped-streams goes s rows put h = are-streams s.consumers put (λ j l. let port = h.ports j l in closing-stream s j port.parts last (put j) port.closed) h.nothing

cut-streams : (goes : Routing) (s : Ship) (rows : List Row) (put : ℕ → List PacketView) → IsCutShort goes s rows put → AreStreams s.consumers put
cut-streams goes s rows put h = are-streams s.consumers put (λ j l. let port = h.ports j l in closing-stream s j port.parts fault (put j) port.closed) h.nothing

pub finished-streams : (goes : Routing) (post : Post) (task : Task) (rows : List Row) (put : ℕ → List PacketView) → IsAt post task → Finished goes task rows put → AreStreams (consumers_of post) put
finished-streams goes (sends_by_ship s) (send r) rows put at h =
    let P : Ship → Type 0 = λ z. AreStreams z.consumers put in
    subst P at (shipped-streams goes r rows put h)
finished-streams goes (sends_by_ship s) (keep kept) rows put at h = absurd at
finished-streams goes (keeps types) (send r) rows put at h = absurd at
finished-streams goes (keeps types) (keep kept) rows put at h = no-streams 0 put h.1

pub stopped-streams : (goes : Routing) (post : Post) (task : Task) (rows : List Row) (put : ℕ → List PacketView) → IsAt post task → Stopped goes task rows put → AreStreams (consumers_of post) put
stopped-streams goes (sends_by_ship s) (send r) rows put at h =
    let P : Ship → Type 0 = λ z. AreStreams z.consumers put in
    subst P at (cut-streams goes r rows put h)
stopped-streams goes (sends_by_ship s) (keep kept) rows put at h = absurd at
stopped-streams goes (keeps types) (send r) rows put at h = absurd at
stopped-streams goes (keeps types) (keep kept) rows put at h = no-streams 0 put h

-- a task that sends is done once each port that leads to a consumer is closed

pub finished-closed : (goes : Routing) (post : Post) (task : Task) (rows : List Row) (put : ℕ → List PacketView) → IsAt post task → Finished goes task rows put
    → (j : ℕ) → j < consumers_of post → is_closed (put j) ≡ true
finished-closed goes (sends_by_ship s) (send r) rows put at h j l =
    let N : Ship → Type 0 = λ z. j < z.consumers in
    let P : List PacketView → Type 0 = λ ps. is_closed ps ≡ true in
    let port = h.ports j (subst N (sym at) l) in
    subst P port.closed (closing-closes r j port.parts last refl)
finished-closed goes (sends_by_ship s) (keep kept) rows put at h j l = absurd at
finished-closed goes (keeps types) (send r) rows put at h j l = absurd at
finished-closed goes (keeps types) (keep kept) rows put at h j l = absurd (omega (arith, l))

pub stopped-closed : (goes : Routing) (post : Post) (task : Task) (rows : List Row) (put : ℕ → List PacketView) → IsAt post task → Stopped goes task rows put
    → (j : ℕ) → j < consumers_of post → is_closed (put j) ≡ true
stopped-closed goes (sends_by_ship s) (send r) rows put at h j l =
    let N : Ship → Type 0 = λ z. j < z.consumers in
    let P : List PacketView → Type 0 = λ ps. is_closed ps ≡ true in
    let port = h.ports j (subst N (sym at) l) in
    subst P port.closed (closing-closes r j port.parts fault refl)
stopped-closed goes (sends_by_ship s) (keep kept) rows put at h j l = absurd at
stopped-closed goes (keeps types) (send r) rows put at h j l = absurd at
stopped-closed goes (keeps types) (keep kept) rows put at h j l = absurd (omega (arith, l))
