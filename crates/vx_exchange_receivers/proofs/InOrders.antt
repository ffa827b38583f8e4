-- One more packet at a consumer end that takes its producers in order.
use Rattle.std.proofs.Common.{ℕ, ◌≡◌, ◌<◌, ◌≤◌, ◌+◌, inl, inr, refl, sym, ap, ◌∙◌, arith, subst, List, [], ◌++◌, Some, true, append-nil, add-one}
use Rattle.std.proofs.lemmas.List.Elements.{All-nil}
use Rattle.std.proofs.lemmas.Bool.Decides.{eqb_tells}
use Rattle.vx_rows_values.specs.Values.{Row}
use Rattle.vx_rows.specs.declared.table.Table.{Table}
use Rattle.vx_ports.specs.Packets.{brings, last, PacketView, content_rows, rows_of, closes, has_last}
use Rattle.vx_ops.specs.Ledger.{Ledger, ConsumerEnd, receive, IsFor, Abides}
use Rattle.vx_ops.specs.Turn.{with_packet, after, fresh_ledger}
use Rattle.vx_ops.proofs.Costs.{still-open, other-open}
use Rattle.vx_ops.specs.declared.fault.StreamState.TheVariants.{Running, Ended, Failed}
use Rattle.vx_ops.specs.declared.fault.Fault.{Fault}
use Rattle.vx_ops.specs.declared.turn.Want.TheVariants as want
use Rattle.vx_ops.specs.declared.turn.Got.TheVariants as got
use Rattle.vx_ops.specs.declared.turn.Polled.TheVariants as polled
use Rattle.vx_exchange.specs.InOrder.{StandsInOrder}
use Rattle.vx_exchange.proofs.InOrderFacts.{in-order-law}
use Rattle.vx_exchange_receivers.specs.InOrder.{TakesInOrder, IsInOrder}
use Rattle.vx_exchange_receivers.proofs.Ends.{rows_of-push, this_came, other_came, still-last, AreOurs, abides-running, abides-ended, all-ours, last-came}

module _ (port : ConsumerEnd) (next : ℕ) (packet : PacketView) (l : Ledger) (f : IsFor port next packet) (h : TakesInOrder port next l) (going : l.gave.over ≡ Running) where
  -- what came of it is more, and of the others what it was
  still-in_order : (k : Ledger) (rows : List Row) → content_rows packet.content ≡ rows → k.came ≡ with_packet l.came next (Some packet) → k.gave.rows ≡ l.gave.rows ++ rows → StandsInOrder port next k
  still-in_order k rows b ec eg =
      in-order-law.more port next l k rows h.stands
      (λ i lt. rw (ec, other_came i next l.came packet (λ e. absurd (omega (arith, lt, e)))) refl)
      (rw (ec, this_came next l.came packet) (rows_of-push (l.came next) packet ∙ ap (λ ys. rows_of (l.came next) ++ ys) b))
      (λ i lt s. rw (ec, other_came i next l.came packet (λ e. absurd (omega (arith, lt, e)))) (h.stands.nothing i lt s))
      eg

  pub in-rows : (t : Table) → packet.content ≡ brings t.rows → IsInOrder port next Running (after l (want.Packet next) (got.Packet (Some packet)) (polled.Gave t))
  in-rows t b =
      let k = after l (want.Packet next) (got.Packet (Some packet)) (polled.Gave t) in
      let s : StandsInOrder port next k = still-in_order k t.rows (ap content_rows b) refl refl in
      record {
        same = going;
        runs = λ e. record {
          stands = s;
          ours = all-ours port next packet l f h.ours;
          closed = λ i lt. still-last i next l.came packet (h.closed i lt);
          are_open = λ i le. still-open i next l.came packet (ap closes b) (h.are_open i le);
        };
        abides = abides-running port k going (in-order-law.begun port next k s) (all-ours port next packet l f h.ours);
      }

  -- the producers up to this one have ended
  closed-up : packet.content ≡ last → (i : ℕ) → i < next + 1 → has_last (with_packet l.came next (Some packet) i) ≡ true
  closed-up b i lt = elim (eqb_tells i next) [
    | inl e ↦ rw e.1 (last-came port next packet l b)
    | inr e ↦ still-last i next l.came packet (h.closed i (let ne = e.1 in grind (arith, lt, ne)))
  ]

  -- it ends, and another one is next
  pub in-last : packet.content ≡ last → next + 1 < port.producers → IsInOrder port (next + 1) Running (after l (want.Packet next) (got.Packet (Some packet)) polled.Waiting)
  in-last b lt =
      let k = after l (want.Packet next) (got.Packet (Some packet)) polled.Waiting in
      let s : StandsInOrder port next k = still-in_order k [] (ap content_rows b) refl (sym (append-nil l.gave.rows)) in
      let t : StandsInOrder port (next + 1) k = subst (λ n. StandsInOrder port n k) (sym (add-one next)) (in-order-law.goes_on port next k (omega (arith, lt)) s) in
      record {
        same = going;
        runs = λ e. record {
          stands = t;
          ours = all-ours port next packet l f h.ours;
          closed = closed-up b;
          are_open = λ i le. other-open i next l.came packet (λ e. omega (arith, e, le)) (h.are_open i (omega (arith, le)));
        };
        abides = abides-running port k going (in-order-law.begun port next k s) (all-ours port next packet l f h.ours);
      }

  -- the last one ends
  pub in-ends : packet.content ≡ last → port.producers ≤ next + 1 → IsInOrder port next Ended (after l (want.Packet next) (got.Packet (Some packet)) polled.End)
  in-ends b le =
      let k = after l (want.Packet next) (got.Packet (Some packet)) polled.End in
      let s : StandsInOrder port next k = still-in_order k [] (ap content_rows b) refl (sym (append-nil l.gave.rows)) in
      record {
        same = refl;
        runs = λ e. cc;
        abides = abides-ended port k refl (in-order-law.begun port next k s) (λ i lt. closed-up b i (omega (arith, lt, le))) (in-order-law.makes port next k s) (all-ours port next packet l f h.ours);
      }

-- it failed
pub in-fails : (port : ConsumerEnd) (next : ℕ) (f : Fault) (k : Ledger) → k.gave.over ≡ Failed f → Abides (receive port) k → IsInOrder port next (Failed f) k
in-fails port next f k e a = record { same = e; runs = λ h. cc; abides = a }

-- nothing came yet
pub in-fresh : (port : ConsumerEnd) → port.merge ≡ [] → 0 < port.producers → IsInOrder port 0 Running fresh_ledger
in-fresh port plain some =
    let s : StandsInOrder port 0 fresh_ledger = record { not_merging = plain; in_range = some; nothing = λ i a b. refl; gave = refl } in
    let ours : AreOurs port fresh_ledger = λ i. All-nil (IsFor port i) in
    record {
      same = refl;
      runs = λ e. record { stands = s; ours = ours; closed = λ i lt. absurd (omega (arith, lt)); are_open = λ i le. refl };
      abides = abides-running port fresh_ledger refl (in-order-law.begun port 0 fresh_ledger s) ours;
    }
