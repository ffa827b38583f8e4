-- Lists of packets.
use Rattle.std.proofs.Common.{◌≡◌, ℕ, Bool, true, ◌||◌, List, [], ◌∷◌, ◌++◌, map, refl, sym, ap, ◌∙◌, append-nil, append_assoc, true≢false}
use Rattle.vx_rows_values.specs.Values.{Row}
use Rattle.vx_ports.specs.Packets.{Content, brings, last, fault, PacketView, content_rows, rows_of, closes, is_last, is_closed, has_last, Flows}
use Rattle.vx_exchange_ends.specs.Ship.{Ship, packet_at, end_to_end, IsPort}

pub rows_of-append : (ps qs : List PacketView) → rows_of (ps ++ qs) ≡ rows_of ps ++ rows_of qs
rows_of-append [] qs = refl
rows_of-append (p ∷ ps) qs = ap (λ ys. content_rows p.content ++ ys) (rows_of-append ps qs) ∙ sym (append_assoc (content_rows p.content) (rows_of ps) (rows_of qs))

pub rows_of-packets : (s : Ship) (j : ℕ) (parts : List (List Row)) → rows_of (map (packet_at s j) parts) ≡ end_to_end parts
rows_of-packets s j [] = refl
rows_of-packets s j (p ∷ ps) = ap (λ ys. p ++ ys) (rows_of-packets s j ps)

pub port-rows : (s : Ship) (j : ℕ) (rows : List Row) (ps : List PacketView) → IsPort s j rows ps → rows_of ps ≡ rows
port-rows s j rows ps h =
    ap rows_of (sym h.closed) ∙ rows_of-append (map (packet_at s j) h.parts) _ ∙ append-nil (rows_of (map (packet_at s j) h.parts))
    ∙ rows_of-packets s j h.parts ∙ h.cut.rows_are

pub last-closed : (ps : List PacketView) → has_last ps ≡ true → is_closed ps ≡ true
last-closed [] e = absurd (true≢false (sym e))
last-closed (p ∷ ps) e = go p.content (has_last ps) (is_closed ps) (last-closed ps) e
  where
    go : (c : Content) (a b : Bool) → (a ≡ true → b ≡ true) → (is_last c || a) ≡ true → (closes c || b) ≡ true
    go (brings xs) a b f h = f h
    go last a b f h = refl
    go fault a b f h = refl

-- a whole stream of packets
pub whole-flow : (put taken : List PacketView) → Flows put taken → has_last taken ≡ true → taken ≡ put
whole-flow put taken f h = f.whole (last-closed taken h)
