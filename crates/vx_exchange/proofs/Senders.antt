-- What comes to a sending end, and what it gives.
use Rattle.std.proofs.Common.{ℕ, ◌≡◌, ◌+◌, ◌%◌, ◌<◌, inl, inr, ◌&&◌, not, Bool, true, false, true≢false, Some, List, [], ◌∷◌, ◌++◌, length, map, take, set, All, slice_get, refl, sym, ap, ◌∙◌, subst, arith, append_assoc, append-nil}
use Rattle.std.proofs.lemmas.Bool.Decides.{eqb_tells}
use Rattle.std.proofs.lemmas.List.{map-append, length-map}
use Rattle.std.proofs.lemmas.Option.{same_Some, slice_get_within}
use Rattle.vx_rows_values.specs.Values.{Row}
use Rattle.vx_plan_nodes.specs.Plan.{ExchangeKind, Size, round}
use Rattle.vx_plan_nodes.specs.Routes.{Routing, Sends}
use Rattle.vx_plan_nodes.specs.Streams.{Streams, bearing}
use Rattle.vx_ports.specs.Packets.{Content, last, fault, PacketView}
use Rattle.vx_ops.specs.Ledger.{Stream, fresh}
use Rattle.vx_ops.specs.Turn.{with_packet}
use Rattle.vx_ops.specs.declared.fault.Fault.{Fault}
use Rattle.vx_ops.specs.declared.fault.StreamState.TheVariants.{Ended, Failed}
use Rattle.vx_exchange_ends.specs.Ship.{Ship, end_to_end, packet_at, packet_of, IsPort, IsCutPort, IsShipped, IsCutShort}
use Rattle.vx_exchange.specs.LaneView.{LaneView, empty_outlet, parcel_of, Cuts, CutsRest}
use Rattle.vx_exchange.specs.Lanes.{IsLane, ways_of, any_closed, ship_of, way_to, AreNumbered, AreFresh, SameLanes, in_turn, TakesTurns, Deals, Finishes, GivesPacket, GivesClosing}
use Rattle.vx_exchange.specs.LaneLaws.{element_at, open_at}
use Rattle.vx_exchange_ends.specs.Beginnings.{begins-along, begins-take, mapped-take, end_to_end-append}
use Rattle.vx_exchange.specs.Sender.{closing_given, IsFilling, IsEnding, IsFailing, LaneAt, takes_more, SenderAt, sender_ship}
use Rattle.vx_exchange.specs.RoundRobin.{RoundRobinLaw}
use Rattle.vx_exchange.specs.declared.deal.Deal.{Deal}
use Rattle.vx_exchange.specs.declared.sender.SenderState.{SenderState}
use Rattle.vx_exchange.specs.declared.sender.SenderState.TheVariants.{Open, Ending, Failing}
use Rattle.vx_exchange.proofs.Cuts.{all-append}
use Rattle.vx_exchange_ends.proofs.Sendings.{sends-append, sends-none}
use Rattle.vx_exchange.proofs.Turns.{turns-append, turns-none, turn-after, turn-first}
use Rattle.vx_exchange.proofs.LaneLists.{get-set_same, get-set_other, all-lanes, lane-before, same-any, same-ship, numbered-way, gives-same, closes-ways}

-- one lane

-- rows come
lane-takes : (s : Ship) (j : ℕ) (o o' : LaneView) (rows more : List Row) (given : List PacketView) → o.way ≡ way_to s j → Cuts o.way o.current o.ready more o'.current o'.ready
    → IsFilling s j o rows given → IsFilling s j o' (rows ++ more) given
lane-takes s j o o' rows more given w cuts k =
    let c = subst (λ z. Cuts z o.current o.ready more o'.current o'.ready) w cuts in
    record {
      full = k.full ++ c.full;
      all_full = all-append (λ (p : List Row). length p ≡ s.size) k.full c.full k.all_full c.all_full;
      rows_are = ap (λ zs. zs ++ o'.current) (end_to_end-append k.full c.full) ∙ append_assoc (end_to_end k.full) (end_to_end c.full) o'.current ∙ ap (λ zs. end_to_end k.full ++ zs) c.rows_are
          ∙ sym (append_assoc (end_to_end k.full) o.current more) ∙ ap (λ zs. zs ++ more) k.rows_are;
      packets = ap (λ zs. given ++ zs) (sym c.ready_are) ∙ sym (append_assoc given o.ready (map (packet_at s j) c.full)) ∙ ap (λ zs. zs ++ map (packet_at s j) c.full) k.packets
          ∙ sym (map-append (packet_at s j) k.full c.full);
    }

-- all rows came
lane-ends : (s : Ship) (j : ℕ) (o o' : LaneView) (rows : List Row) (given : List PacketView) → o.way ≡ way_to s j → o'.closed ≡ false → CutsRest o.way o.current o.ready o'.ready
    → IsFilling s j o rows given → IsEnding s j o' rows given
lane-ends s j o o' rows given w unclosed cuts k =
    let c = subst (λ z. CutsRest z o.current o.ready o'.ready) w cuts in
    record {
      parts = k.full ++ c.rest;
      cut = record {
        full = k.full;
        rest = c.rest;
        all_full = k.all_full;
        at_most_one = c.at_most_one;
        shorter = c.shorter;
        parts_are = refl;
        rows_are = end_to_end-append k.full c.rest ∙ ap (λ zs. end_to_end k.full ++ zs) c.rows_are ∙ k.rows_are;
      };
      packets = rw unclosed (ap (λ zs. given ++ zs) (sym c.ready_are) ∙ sym (append_assoc given o.ready (map (packet_at s j) c.rest)) ∙ ap (λ zs. zs ++ map (packet_at s j) c.rest) k.packets
          ∙ sym (map-append (packet_at s j) k.full c.rest) ∙ sym (append-nil (map (packet_at s j) (k.full ++ c.rest))));
    }

-- a fault came, or memory was refused
lane-fails : (s : Ship) (j : ℕ) (o o' : LaneView) (rows : List Row) (given : List PacketView) → o'.closed ≡ false → IsFilling s j o rows given → IsFailing s j o' rows given
lane-fails s j o o' rows given unclosed k =
    let n = length given in
    record {
      parts = take n k.full;
      begins = begins-along (end_to_end (take n k.full)) (end_to_end k.full) rows (begins-take n k.full) (record { rest = o.current; joined = k.rows_are });
      packets = rw unclosed (append-nil (map (packet_at s j) (take n k.full)) ∙ mapped-take (packet_at s j) k.full given o.ready k.packets);
    }

one-more : (given : List PacketView) (p : PacketView) (ready : List PacketView) → (given ++ p ∷ []) ++ ready ≡ given ++ p ∷ ready
one-more given p ready = append_assoc given (p ∷ []) ready

-- a packet that waited is given
lane-gives : (st : SenderState) (s : Ship) (j : ℕ) (o o' : LaneView) (rows : List Row) (given : List PacketView) (p : PacketView) → (st ≡ Failing → ⊥) → o'.current ≡ o.current → o.ready ≡ p ∷ o'.ready → o'.closed ≡ o.closed
    → LaneAt st s j o rows given → LaneAt st s j o' rows (given ++ p ∷ [])
lane-gives Open s j o o' rows given p f e r c k = record {
  full = k.full;
  all_full = k.all_full;
  rows_are = rw e k.rows_are;
  packets = one-more given p o'.ready ∙ ap (λ zs. given ++ zs) (sym r) ∙ k.packets;
}
lane-gives Ending s j o o' rows given p f e r c k = record {
  parts = k.parts;
  cut = k.cut;
  packets = rw c (one-more given p o'.ready ∙ ap (λ zs. given ++ zs) (sym r) ∙ k.packets);
}
lane-gives Failing s j o o' rows given p f e r c k = absurd (f refl)

-- Last is given
lane-lasts : (s : Ship) (j : ℕ) (o o' : LaneView) (rows : List Row) (given : List PacketView) (p : PacketView) → o.way ≡ way_to s j → o.ready ≡ [] → o'.ready ≡ o.ready → p ≡ parcel_of o.way last
    → o.closed ≡ false → o'.closed ≡ true → IsEnding s j o rows given → IsEnding s j o' rows (given ++ p ∷ [])
lane-lasts s j o o' rows given p w none r e before after k =
    let here : p ≡ packet_of s j last = e ∙ ap (λ z. parcel_of z last) w in
    let all : given ≡ map (packet_at s j) k.parts =
    sym (append-nil given) ∙ ap (λ zs. given ++ zs) (sym none) ∙ k.packets ∙ ap (λ b. map (packet_at s j) k.parts ++ closing_given s j last b) before ∙ append-nil (map (packet_at s j) k.parts) in
    record {
      parts = k.parts;
      cut = k.cut;
      packets = ap (λ zs. (given ++ p ∷ []) ++ zs) (r ∙ none) ∙ append-nil (given ++ p ∷ []) ∙ ap (λ zs. zs ++ p ∷ []) all ∙ ap (λ z. map (packet_at s j) k.parts ++ z ∷ []) here
          ∙ ap (λ b. map (packet_at s j) k.parts ++ closing_given s j last b) (sym after);
    }

-- Fault is given
lane-faults : (s : Ship) (j : ℕ) (o o' : LaneView) (rows : List Row) (given : List PacketView) (p : PacketView) → o.way ≡ way_to s j → p ≡ parcel_of o.way fault
    → o.closed ≡ false → o'.closed ≡ true → IsFailing s j o rows given → IsFailing s j o' rows (given ++ p ∷ [])
lane-faults s j o o' rows given p w e before after k =
    let here : p ≡ packet_of s j fault = e ∙ ap (λ z. parcel_of z fault) w in
    let all : map (packet_at s j) k.parts ≡ given =
    sym (append-nil (map (packet_at s j) k.parts)) ∙ ap (λ b. map (packet_at s j) k.parts ++ closing_given s j fault b) (sym before) ∙ k.packets in
    record {
      parts = k.parts;
      begins = k.begins;
      packets = ap (λ b. map (packet_at s j) k.parts ++ closing_given s j fault b) after ∙ ap (λ zs. zs ++ packet_of s j fault ∷ []) all ∙ ap (λ z. given ++ z ∷ []) (sym here);
    }

-- the closing packet of the stage is given
abbrev pub closes-with : SenderState → Content → Type 0
closes-with Open content = ⊥
closes-with Ending content = content ≡ last
closes-with Failing content = content ≡ fault

lane-closes : (st : SenderState) (content : Content) (s : Ship) (j : ℕ) (o o' : LaneView) (rows : List Row) (given : List PacketView) (p : PacketView) → closes-with st content → o.way ≡ way_to s j → o.ready ≡ [] → o'.ready ≡ o.ready
    → p ≡ parcel_of o.way content → o.closed ≡ false → o'.closed ≡ true → LaneAt st s j o rows given → LaneAt st s j o' rows (given ++ p ∷ [])
lane-closes Open content s j o o' rows given p f w none r e before after k = absurd f
lane-closes Ending content s j o o' rows given p f w none r e before after k = lane-lasts s j o o' rows given p w none r (e ∙ ap (parcel_of o.way) f) before after k
lane-closes Failing content s j o o' rows given p f w none r e before after k = lane-faults s j o o' rows given p w (e ∙ ap (parcel_of o.way) f) before after k

-- all lanes

-- rows come
pub sender-takes : (goes : Routing) (s : Ship) (r r' : ℕ) (lanes lanes' : List LaneView) (a : Stream) (g : ℕ → List PacketView) (more : List Row) → s.consumers ≡ length lanes → r' ≡ (r + length more) % length lanes
    → ((j : ℕ) (o : LaneView) → IsLane lanes j o → o.way ≡ way_to s j) → SameLanes lanes lanes' → Deals goes s.kind r more lanes lanes'
    → SenderAt goes s Open r lanes a g → SenderAt goes s Open r' lanes' (record { rows = a.rows ++ more; over = a.over }) g
sender-takes goes s r r' lanes lanes' a g more many next ways same d h = record {
  sent = λ j. h.sent j ++ d.more j;
  sends = let D : ℕ → Type 0 = λ n. Sends goes s.kind n more d.more in sends-append goes s.kind s.consumers a.rows more h.sent d.more h.sends (subst D (sym many) d.sends);
  gives = λ j o' e. let b = lane-before lanes lanes' same j o' e in
      lane-takes s j b.0 o' (h.sent j) (d.more j) (g j) (ways j b.0 b.1) (d.cuts j b.0 o' b.1 e) (h.gives j b.0 b.1);
  nothing = h.nothing;
  is_over = h.is_over;
  turns = let T : ℕ → Type 0 = λ n. TakesTurns s.kind n r more d.more in turns-append s.kind s.consumers r a.rows more h.sent d.more h.turn h.turns (subst T (sym many) d.turns);
  turn = next ∙ ap (λ n. (r + length more) % n) (sym many) ∙ turn-after s.consumers r a.rows more h.turn;
}

-- all rows came
pub sender-ends : (goes : Routing) (s : Ship) (r : ℕ) (lanes lanes' : List LaneView) (a : Stream) (g : ℕ → List PacketView) → any_closed lanes ≡ false
    → ((j : ℕ) (o : LaneView) → IsLane lanes j o → o.way ≡ way_to s j) → SameLanes lanes lanes' → Finishes lanes lanes'
    → SenderAt goes s Open r lanes a g → SenderAt goes s Ending r lanes' (record { rows = a.rows; over = Ended }) g
sender-ends goes s r lanes lanes' a g unclosed ways same f h = record {
  sent = h.sent;
  sends = h.sends;
  gives = λ j o' e. let b = lane-before lanes lanes' same j o' e in
      lane-ends s j b.0 o' (h.sent j) (g j) (ways j b.0 b.1) (open_at lanes' j o' (same-any lanes lanes' same ∙ unclosed) e) (f j b.0 o' b.1 e) (h.gives j b.0 b.1);
  nothing = h.nothing;
  is_over = refl;
  turns = h.turns;
  turn = tt;
}

-- a fault came, or memory was refused
pub sender-fails : (goes : Routing) (s : Ship) (r r' : ℕ) (lanes lanes' : List LaneView) (a : Stream) (g : ℕ → List PacketView) (f : Fault) → any_closed lanes ≡ false → SameLanes lanes lanes'
    → SenderAt goes s Open r lanes a g → SenderAt goes s Failing r' lanes' (record { rows = a.rows; over = Failed f }) g
sender-fails goes s r r' lanes lanes' a g f unclosed same h = record {
  sent = h.sent;
  sends = h.sends;
  gives = λ j o' e. let b = lane-before lanes lanes' same j o' e in
      lane-fails s j b.0 o' (h.sent j) (g j) (open_at lanes' j o' (same-any lanes lanes' same ∙ unclosed) e) (h.gives j b.0 b.1);
  nothing = h.nothing;
  is_over = (f, refl);
  turns = h.turns;
  turn = tt;
}

-- one lane gives a packet
sender-puts : (goes : Routing) (s : Ship) (st : SenderState) (r : ℕ) (lanes : List LaneView) (a : Stream) (g : ℕ → List PacketView) (i : ℕ) (o o' : LaneView) (p : PacketView) → s.consumers ≡ length lanes → IsLane lanes i o
    → ((rows : List Row) (given : List PacketView) → LaneAt st s i o rows given → LaneAt st s i o' rows (given ++ p ∷ []))
    → SenderAt goes s st r lanes a g → SenderAt goes s st r (set lanes i o') a (with_packet g i (Some p))
sender-puts goes s st r lanes a g i o o' p many there step h =
    let within : i < length lanes = slice_get_within lanes i o there in
    record {
      sent = h.sent;
      sends = h.sends;
      gives = λ j z e. elim (eqb_tells j i) [
        | inl d ↦
            let new : o' ≡ z = same_Some o' z (sym (get-set_same lanes i o' within) ∙ ap (λ k. slice_get (set lanes i o') k) (sym d.1) ∙ e) in
            rw d.0 (rw d.1 (let P : LaneView → Type 0 = λ z. LaneAt st s i z (h.sent i) (g i ++ p ∷ []) in subst P new (step (h.sent i) (g i) (h.gives i o there))))
        | inr d ↦ rw d.0 (h.gives j z (sym (get-set_other lanes i j o' d.1) ∙ e))
      ];
      nothing = λ j l. elim (eqb_tells j i) [
        | inl d ↦ let e = d.1 in absurd (omega (arith, e, l, within, many))
        | inr d ↦ rw d.0 (h.nothing j l)
      ];
      is_over = h.is_over;
      turns = h.turns;
      turn = h.turn;
    }

-- one of rows that waited
pub sender-gives : (goes : Routing) (s : Ship) (st : SenderState) (r : ℕ) (lanes lanes' : List LaneView) (a : Stream) (g : ℕ → List PacketView) (i : ℕ) (p : PacketView) → s.consumers ≡ length lanes → (st ≡ Failing → ⊥)
    → GivesPacket lanes lanes' i p → SenderAt goes s st r lanes a g → SenderAt goes s st r lanes' a (with_packet g i (Some p))
sender-gives goes s st r lanes lanes' a g i p many f x h =
    let P : List LaneView → Type 0 = λ z. SenderAt goes s st r z a (with_packet g i (Some p)) in
    subst P (sym x.lanes) (sender-puts goes s st r lanes a g i x.before x.after p many x.there
    (λ rows given k. lane-gives st s i x.before x.after rows given p f x.current x.ready x.closed k) h)

-- its closing packet
pub sender-closes : (goes : Routing) (s : Ship) (st : SenderState) (r : ℕ) (content : Content) (lanes lanes' : List LaneView) (a : Stream) (g : ℕ → List PacketView) (i : ℕ) (p : PacketView) → s.consumers ≡ length lanes
    → ((j : ℕ) (o : LaneView) → IsLane lanes j o → o.way ≡ way_to s j) → All (λ o. o.ready ≡ []) lanes → closes-with st content
    → GivesClosing content lanes lanes' i p → SenderAt goes s st r lanes a g → SenderAt goes s st r lanes' a (with_packet g i (Some p))
sender-closes goes s st r content lanes lanes' a g i p many ways idle f x h =
    let P : List LaneView → Type 0 = λ z. SenderAt goes s st r z a (with_packet g i (Some p)) in
    subst P (sym x.lanes) (sender-puts goes s st r lanes a g i x.before x.after p many x.there
    (λ rows given k. lane-closes st content s i x.before x.after rows given p f (ways i x.before x.there) (all-lanes (λ o. o.ready ≡ []) lanes idle i x.before x.there) x.ready x.packet x.was_open x.closed k) h)

-- nothing is left to give after Last

lane-shipped : (s : Ship) (j : ℕ) (o : LaneView) (rows : List Row) (given : List PacketView) → o.closed ≡ true → o.ready ≡ [] → IsEnding s j o rows given → IsPort s j rows given
lane-shipped s j o rows given closed none k = record {
  parts = k.parts;
  cut = k.cut;
  closed = sym (sym (append-nil given) ∙ ap (λ zs. given ++ zs) (sym none) ∙ k.packets ∙ ap (λ b. map (packet_at s j) k.parts ++ closing_given s j last b) closed);
}

pub sender-shipped : (goes : Routing) (s : Ship) (r : ℕ) (lanes : List LaneView) (a : Stream) (g : ℕ → List PacketView) → s.consumers ≡ length lanes → All (λ o. o.closed ≡ true) lanes → All (λ o. o.ready ≡ []) lanes
    → SenderAt goes s Ending r lanes a g → IsShipped goes s a.rows g
sender-shipped goes s r lanes a g many closed idle h = record {
  sent = h.sent;
  sends = h.sends;
  ports = λ j l. let L : ℕ → Type 0 = λ n. j < n in let e = element_at lanes j (subst L many l) in
      lane-shipped s j e.0 (h.sent j) (g j) (all-lanes (λ o. o.closed ≡ true) lanes closed j e.0 e.1) (all-lanes (λ o. o.ready ≡ []) lanes idle j e.0 e.1) (h.gives j e.0 e.1);
  nothing = h.nothing;
}

-- so a round robin took turns
turned : (k : ExchangeKind) (z : Size) (n : ℕ) (rows : List Row) (sent : Streams) → k ≡ round z → TakesTurns k n 0 rows sent → (j : ℕ) → j < n → bearing j (in_turn n 0 rows) ≡ sent j
turned k z n rows sent e t = let P : ExchangeKind → Type 0 = λ x. TakesTurns x n 0 rows sent in subst P e t

turned-port : (goes : Routing) (s : Ship) (z : Size) (st : SenderState) (r : ℕ) (lanes : List LaneView) (a : Stream) (g : ℕ → List PacketView) → s.consumers ≡ length lanes → s.kind ≡ round z → st ≡ Ending
    → All (λ o. o.ready ≡ []) lanes → All (λ o. o.closed ≡ true) lanes → SenderAt goes s st r lanes a g → (j : ℕ) → j < s.consumers → IsPort s j (bearing j (in_turn s.consumers 0 a.rows)) (g j)
turned-port goes s z st r lanes a g many kind ending idle closed k j l =
    let H : SenderState → Type 0 = λ x. SenderAt goes s x r lanes a g in
    let h = subst H ending k in
    let L : ℕ → Type 0 = λ n. j < n in
    let e = element_at lanes j (subst L many l) in
    let P : List Row → Type 0 = λ rows. IsPort s j rows (g j) in
    subst P (sym (turned s.kind z s.consumers a.rows h.sent kind h.turns j l))
    (lane-shipped s j e.0 (h.sent j) (g j) (all-lanes (λ o. o.closed ≡ true) lanes closed j e.0 e.1) (all-lanes (λ o. o.ready ≡ []) lanes idle j e.0 e.1) (h.gives j e.0 e.1))

pub round-robin-law : RoundRobinLaw
round-robin-law = record {
  ports = λ s goes a g z kind h d. turned-port goes (sender_ship s) z s.stage s.next s.lanes.items a g (length-map s.lanes.items (λ (o : LaneView). o.way)) kind d.ending d.idle d.closed h;
}

-- nor after Fault

lane-cut : (s : Ship) (j : ℕ) (o : LaneView) (rows : List Row) (given : List PacketView) → o.closed ≡ true → IsFailing s j o rows given → IsCutPort s j rows given
lane-cut s j o rows given closed k = record {
  parts = k.parts;
  begins = k.begins;
  closed = ap (λ b. map (packet_at s j) k.parts ++ closing_given s j fault b) (sym closed) ∙ k.packets;
}

pub sender-cut : (goes : Routing) (s : Ship) (r : ℕ) (lanes : List LaneView) (a : Stream) (g : ℕ → List PacketView) → s.consumers ≡ length lanes → All (λ o. o.closed ≡ true) lanes
    → SenderAt goes s Failing r lanes a g → IsCutShort goes s a.rows g
sender-cut goes s r lanes a g many closed h = record {
  sent = h.sent;
  sends = h.sends;
  ports = λ j l. let L : ℕ → Type 0 = λ n. j < n in let e = element_at lanes j (subst L many l) in
      lane-cut s j e.0 (h.sent j) (g j) (all-lanes (λ o. o.closed ≡ true) lanes closed j e.0 e.1) (h.gives j e.0 e.1);
  nothing = h.nothing;
}

-- nothing came yet
lane-fresh : (s : Ship) (j : ℕ) (o : LaneView) → o ≡ empty_outlet (way_to s j) → IsFilling s j o [] []
lane-fresh s j o e = let P : LaneView → Type 0 = λ z. IsFilling s j z [] [] in subst P (sym e) (record { full = []; all_full = tt; rows_are = refl; packets = refl })

pub sender-fresh : (goes : Routing) (s : Ship) (lanes : List LaneView) → 0 < s.consumers → AreFresh s.consumers (way_to s) lanes → SenderAt goes s Open 0 lanes fresh (λ _. [])
sender-fresh goes s lanes some f = record {
  sent = λ j. [];
  sends = sends-none goes s.kind s.consumers;
  gives = λ j o e. lane-fresh s j o (f.each j o e);
  nothing = λ j l. refl;
  is_over = refl;
  turns = turns-none s.kind s.consumers;
  turn = turn-first s.consumers some;
}

-- the same is known of the same sending end
pub in-ship : (goes : Routing) (s s' : Ship) (st : SenderState) (r : ℕ) (lanes : List LaneView) (a : Stream) (g : ℕ → List PacketView) → s' ≡ s → SenderAt goes s st r lanes a g → SenderAt goes s' st r lanes a g
in-ship goes s s' st r lanes a g e h = let P : Ship → Type 0 = λ z. SenderAt goes z st r lanes a g in subst P (sym e) h

-- a sending end that takes more
pub opened : (st : SenderState) (closed : Bool) → (takes_more st && not closed) ≡ true → (st ≡ Open) × (closed ≡ false)
opened Open false e = (refl, refl)
opened Open true e = absurd (true≢false (sym e))
opened Ending closed e = absurd (true≢false (sym e))
opened Failing closed e = absurd (true≢false (sym e))

pub open-not_failing : (st : SenderState) → st ≡ Open → st ≡ Failing → ⊥
open-not_failing st e f = let g : Open ≡ Failing = sym e ∙ f in cc

pub ending-not_failing : (st : SenderState) → st ≡ Ending → st ≡ Failing → ⊥
ending-not_failing st e f = let g : Ending ≡ Failing = sym e ∙ f in cc

-- where lanes lead to the consumers of their numbers

pub gives-now : (goes : Routing) (deal : Deal) (st : SenderState) (r : ℕ) (old new : List LaneView) (a : Stream) (g : ℕ → List PacketView) (i : ℕ) (p : PacketView) → (st ≡ Failing → ⊥) → GivesPacket old new i p
    → SenderAt goes (ship_of deal (ways_of old)) st r old a g → SenderAt goes (ship_of deal (ways_of new)) st r new a (with_packet g i (Some p))
gives-now goes deal st r old new a g i p f x h =
    in-ship goes (ship_of deal (ways_of old)) (ship_of deal (ways_of new)) st r new a (with_packet g i (Some p)) (same-ship deal deal old new refl (gives-same old new i p x))
    (sender-gives goes (ship_of deal (ways_of old)) st r old new a g i p (length-map old (λ (z : LaneView). z.way)) f x h)

pub closes-now : (goes : Routing) (deal : Deal) (st : SenderState) (r : ℕ) (content : Content) (old new : List LaneView) (a : Stream) (g : ℕ → List PacketView) (i : ℕ) (p : PacketView) → AreNumbered deal (ways_of old)
    → All (λ o. o.ready ≡ []) old → closes-with st content → GivesClosing content old new i p
    → SenderAt goes (ship_of deal (ways_of old)) st r old a g → SenderAt goes (ship_of deal (ways_of new)) st r new a (with_packet g i (Some p))
closes-now goes deal st r content old new a g i p numbered idle f x h =
    in-ship goes (ship_of deal (ways_of old)) (ship_of deal (ways_of new)) st r new a (with_packet g i (Some p)) (ap (ship_of deal) (closes-ways content old new i p x))
    (sender-closes goes (ship_of deal (ways_of old)) st r content old new a g i p (length-map old (λ (z : LaneView). z.way)) (numbered-way deal old numbered) idle f x h)
