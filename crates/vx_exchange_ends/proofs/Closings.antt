-- Closing packets behind what was given.
use Rattle.std.proofs.Common.{◌≡◌, ℕ, ◌<◌, ◌≤◌, nat_lt, Bool, true, false, cond, List, [], ◌∷◌, ◌++◌, refl, sym, ap, ◌∙◌, arith, lt-ltb, ltb-true}
use Rattle.vx_ports.specs.Packets.{Content, last, fault, PacketView}
use Rattle.vx_exchange_ends.specs.Ship.{Ship, packet_of}
use Rattle.vx_exchange_ends.specs.Closing.{closed_by, FaultCutsShort, LastShips}

-- behind the packets of a consumer
closed-at : (s : Ship) (c : Content) (put : ℕ → List PacketView) (j : ℕ) → j < s.consumers → closed_by s c put j ≡ put j ++ packet_of s j c ∷ []
closed-at s c put j l = ap (λ b. cond b (put j ++ packet_of s j c ∷ []) (put j)) (lt-ltb j s.consumers l)

-- and nowhere else
closed-past : (s : Ship) (c : Content) (put : ℕ → List PacketView) (j : ℕ) → s.consumers ≤ j → closed_by s c put j ≡ put j
closed-past s c put j l = go (nat_lt j s.consumers) refl
  where
    go : (b : Bool) → nat_lt j s.consumers ≡ b → cond b (put j ++ packet_of s j c ∷ []) (put j) ≡ put j
    go true e = let k = ltb-true j s.consumers e in absurd (omega (arith, k, l))
    go false e = refl

pub fault-cuts-short : FaultCutsShort
fault-cuts-short goes s rows put part = record {
  sent = part.sent;
  sends = part.sends;
  ports = λ j l. record {
    parts = part.parts j;
    begins = part.begins j l;
    closed = ap (λ ps. ps ++ packet_of s j fault ∷ []) (part.packets j l) ∙ sym (closed-at s fault put j l);
  };
  nothing = λ j l. closed-past s fault put j l ∙ part.nothing j l;
}

pub last-ships : LastShips
last-ships goes s rows put part cut = record {
  sent = part.sent;
  sends = part.sends;
  ports = λ j l. record {
    parts = part.parts j;
    cut = cut j l;
    closed = ap (λ ps. ps ++ packet_of s j last ∷ []) (part.packets j l) ∙ sym (closed-at s last put j l);
  };
  nothing = λ j l. closed-past s last put j l ∙ part.nothing j l;
}
