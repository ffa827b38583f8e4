-- A stream with one more packet.
use Rattle.std.proofs.Common.{◌≡◌, Bool, true, false, ◌||◌, ◌&&◌, not, List, [], ◌∷◌, ◌++◌, refl, true≢false}
use Rattle.vx_ports.specs.Packets.{PacketView, closes, is_closed, is_empty, is_stream}

-- one more packet behind an unclosed stream
pub closed-behind : (ps : List PacketView) (p : PacketView) → is_closed ps ≡ false → is_closed (ps ++ p ∷ []) ≡ closes p.content
closed-behind [] p e = go (closes p.content)
  where
    go : (b : Bool) → (b || false) ≡ b
    go true = refl
    go false = refl
closed-behind (q ∷ ps) p e = go (closes q.content) (is_closed ps) (closed-behind ps p) e
  where
    go : (b c : Bool) → (c ≡ false → is_closed (ps ++ p ∷ []) ≡ closes p.content) → (b || c) ≡ false → (b || is_closed (ps ++ p ∷ [])) ≡ closes p.content
    go true c ih f = absurd (true≢false f)
    go false c ih f = ih f

pub stream-behind : (ps : List PacketView) (p : PacketView) → is_stream ps ≡ true → is_closed ps ≡ false → is_stream (ps ++ p ∷ []) ≡ true
stream-behind [] p s e = go (closes p.content)
  where
    go : (b : Bool) → ((not b || true) && true) ≡ true
    go true = refl
    go false = refl
stream-behind (q ∷ ps) p s e = go (closes q.content) (is_empty ps) (is_stream ps) (is_closed ps) (stream-behind ps p) s e
  where
    go : (b n t c : Bool) → (t ≡ true → c ≡ false → is_stream (ps ++ p ∷ []) ≡ true) → ((not b || n) && t) ≡ true → (b || c) ≡ false
        → ((not b || is_empty (ps ++ p ∷ [])) && is_stream (ps ++ p ∷ [])) ≡ true
    go true n t c ih f g = absurd (true≢false g)
    go false n t c ih f g = ih f g
