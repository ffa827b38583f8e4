-- One more packet at a merging consumer end, and rows that it gives.
use Rattle.std.proofs.Common.{ℕ, ◌≡◌, ◌≢◌, ◌<◌, inl, inr, refl, sym, ap, ◌∙◌, true≢false, subst, List, [], ◌++◌, Some, Bool, true, false, length, append-nil}
use Rattle.std.proofs.lemmas.List.Elements.{All-nil}
use Rattle.std.proofs.lemmas.Bool.Decides.{eqb_tells}
use Rattle.vx_rows_values.specs.declared.order.OrderEntry.{OrderEntry}
use Rattle.vx_rows_values.specs.Values.{Row}
use Rattle.vx_rows.specs.declared.table.Table.{Table}
use Rattle.vx_rows_values.specs.Order.{sorted}
use Rattle.vx_plan_nodes.specs.Streams.{Streams}
use Rattle.vx_ports.specs.Packets.{brings, last, PacketView, content_rows, rows_of, closes, has_last, is_closed}
use Rattle.vx_ops.specs.Ledger.{Ledger, ConsumerEnd, receive, Begun, Abides, IsFor}
use Rattle.vx_ops.specs.Turn.{with_packet, after, gives, fresh_ledger}
use Rattle.vx_ops.proofs.Costs.{still-open, other-open}
use Rattle.vx_ops.specs.declared.fault.StreamState.TheVariants.{Running, Ended, Failed}
use Rattle.vx_ops.specs.declared.fault.Fault.{Fault}
use Rattle.vx_ops.specs.declared.fault.Fault.TheVariants.{Own}
use Rattle.vx_ops.specs.declared.fault.Code.TheVariants.{NoMemory, Unsorted}
use Rattle.vx_ops.specs.declared.turn.Want.TheVariants as want
use Rattle.vx_ops.specs.declared.turn.Got.TheVariants as got
use Rattle.vx_ops.specs.declared.turn.Polled.TheVariants as polled
use Rattle.vx_exchange_receivers.specs.declared.heads.StreamHead.{StreamHead}
use Rattle.vx_exchange_receivers.specs.declared.place.ReceiverPlace.{ReceiverPlace}
use Rattle.vx_exchange_receivers.specs.Ends.{end_at}
use Rattle.vx_exchange_receivers.specs.Heads.{AreAll, LacksAt, SameEnds, ended_at}
use Rattle.vx_exchange_receivers.specs.Merged.{with_more}
use Rattle.vx_exchange_receivers.specs.Merge.{MergeView, IsMergeOf, HasMerged}
use Rattle.vx_exchange_receivers.specs.MergeReceiver.{IsMerging}
use Rattle.vx_exchange_receivers.proofs.Merging.{merge-begins}
use Rattle.vx_exchange_receivers.proofs.Merges.{all-merged}
use Rattle.vx_exchange_receivers.proofs.Ends.{rows_of-push, this_came, still-last, AreOurs, none-strange, all-ours, abides-running, abides-ended, abides-failed, abides-fault, with_one}

-- producers may end, and what came is what it equals
same-merge : (merge : List OrderEntry) (hs : List StreamHead) (closed more : ℕ → Bool) (came come : Streams) (given : List Row) → ((p : ℕ) → closed p ≡ true → more p ≡ true) → ((p : ℕ) → came p ≡ come p)
    → IsMergeOf merge hs closed came given → IsMergeOf merge hs more come given
same-merge merge hs closed more came come given f e m = record {
  taken = m.taken;
  merged = m.merged;
  parts = λ p. m.parts p ∙ e p;
  ends = λ p. subst (λ ys. Rattle.vx_exchange_receivers.specs.Merge.EndsIn (Rattle.vx_exchange_receivers.specs.Heads.held_at hs p) ys) (e p) (m.ends p);
  are_closed = λ p l t. f p (m.are_closed p l t);
}

-- the rows that came, and who has ended
abbrev pub came_rows : Ledger → Streams
came_rows l p = rows_of (l.came p)

abbrev pub has_closed : Ledger → ℕ → Bool
has_closed l p = has_last (l.came p)

-- the end at a place that merges as this merge does
abbrev pub merging_end : ReceiverPlace → MergeView → ConsumerEnd
merging_end s m = end_at s (length m.heads) m.merge false

pub merging-begun : (s : ReceiverPlace) (m : MergeView) (l : Ledger) → HasMerged m (has_closed l) (came_rows l) l.gave.rows → Begun (receive (merging_end s m)) l
merging-begun s m l h = merge-begins (merging_end s m) l _ h.taken _ h.merged h.parts refl

-- no closing packet came of those that have not ended
abbrev pub AreOpen : MergeView → Ledger → Type 0
AreOpen m l = (p : ℕ) → ended_at m.heads p ≡ false → is_closed (l.came p) ≡ false

-- it runs on
pub merging-on : (s : ReceiverPlace) (m : MergeView) (l : Ledger) → l.gave.over ≡ Running → HasMerged m (has_closed l) (came_rows l) l.gave.rows → AreOurs (merging_end s m) l → AreOpen m l
    → IsMerging (merging_end s m) m Running l
merging-on s m l e h ours opens = record {
  same = e;
  runs = λ f. record { merged = h; ours = ours; are_open = opens };
  abides = abides-running (merging_end s m) l e (merging-begun s m l h) ours;
}

pub merging-fails : (port : ConsumerEnd) (m : MergeView) (f : Fault) (l : Ledger) → l.gave.over ≡ Failed f → Abides (receive port) l → IsMerging port m (Failed f) l
merging-fails port m f l e a = record { same = e; runs = λ h. cc; abides = a }

module _ (s : ReceiverPlace) (m : MergeView) (l : Ledger) (from : ℕ) (packet : PacketView) (is : IsFor (merging_end s m) from packet) (ours : AreOurs (merging_end s m) l) (opens : AreOpen m l) (going : l.gave.over ≡ Running) where
  came-with : (xs : List Row) → content_rows packet.content ≡ xs → (p : ℕ) → with_more (came_rows l) from xs p ≡ rows_of (with_packet l.came from (Some packet) p)
  came-with xs e p = elim (eqb_tells p from) [
    | inl f ↦ rw (f.0, f.1) (sym (rows_of-push (l.came from) packet ∙ ap (λ ys. rows_of (l.came from) ++ ys) e))
    | inr f ↦ rw f.0 refl
  ]

  -- rows came
  pub merging-rows : (n : MergeView) → length n.heads ≡ length m.heads → n.merge ≡ m.merge → SameEnds m.heads n.heads → (xs : List Row) → packet.content ≡ brings xs
      → HasMerged n (has_closed l) (with_more (came_rows l) from xs) l.gave.rows
      → IsMerging (merging_end s n) n Running (after l (want.Packet from) (got.Packet (Some packet)) polled.Waiting)
  merging-rows n many orders ends xs e h =
      let k = after l (want.Packet from) (got.Packet (Some packet)) polled.Waiting in
      merging-on s n k going
      (same-merge n.merge n.heads (has_closed l) (has_closed k) (with_more (came_rows l) from xs) (came_rows k) l.gave.rows (λ p t. still-last p from l.came packet t) (came-with xs (ap content_rows e)) h)
      (rw (many, orders) (all-ours (merging_end s m) from packet l is ours))
      (λ p u. still-open p from l.came packet (ap closes e) (opens p (sym (ends p) ∙ u)))

  -- a producer ended
  pub merging-last : (n : MergeView) → length n.heads ≡ length m.heads → n.merge ≡ m.merge → ((p : ℕ) → ended_at n.heads p ≡ false → (p ≢ from) × (ended_at m.heads p ≡ false)) → packet.content ≡ last
      → HasMerged n (λ p. has_last (with_packet l.came from (Some packet) p)) (came_rows l) l.gave.rows
      → IsMerging (merging_end s n) n Running (after l (want.Packet from) (got.Packet (Some packet)) polled.Waiting)
  merging-last n many orders ended e h =
      let k = after l (want.Packet from) (got.Packet (Some packet)) polled.Waiting in
      merging-on s n k going
      (same-merge n.merge n.heads (has_closed k) (has_closed k) (came_rows l) (came_rows k) l.gave.rows (λ p t. t)
      (λ p. sym (plain p) ∙ came-with [] (ap content_rows e) p) h)
      (rw (many, orders) (all-ours (merging_end s m) from packet l is ours))
      (λ p u. let o = ended p u in other-open p from l.came packet o.0 (opens p o.1))
    where
      plain : (p : ℕ) → with_more (came_rows l) from [] p ≡ came_rows l p
      plain p = elim (eqb_tells p from) [ inl f ↦ rw f.0 (append-nil (came_rows l p)) | inr f ↦ rw f.0 refl ]

  -- its rows fall, or memory runs out
  pub merging-falls : from < length m.heads → (xs : List Row) → packet.content ≡ brings xs → Begun (receive (merging_end s m)) l → sorted m.merge (rows_of (l.came from) ++ xs) ≡ false
      → Abides (receive (merging_end s m)) (after l (want.Packet from) (got.Packet (Some packet)) (polled.Fault (Own Unsorted s.exchange)))
  unfolding with_one
  merging-falls lt xs e b f =
      abides-fault (merging_end s m) from packet l (Own Unsorted s.exchange) is ours b
      (refl, (from, lt, rw (this_came from l.came packet) (ap (sorted m.merge) (rows_of-push (l.came from) packet ∙ ap (λ c. rows_of (l.came from) ++ content_rows c) e) ∙ f)))

  pub merging-refused : Begun (receive (merging_end s m)) l → Abides (receive (merging_end s m)) (after l (want.Packet from) (got.Packet (Some packet)) (polled.Fault (Own NoMemory s.exchange)))
  unfolding with_one
  merging-refused b = abides-fault (merging_end s m) from packet l (Own NoMemory s.exchange) is ours b tt

module _ (s : ReceiverPlace) (m n : MergeView) (l : Ledger) (many : length n.heads ≡ length m.heads) (orders : n.merge ≡ m.merge) (ours : AreOurs (merging_end s m) l) where
  -- rows are given
  pub merging-gave : SameEnds m.heads n.heads → AreOpen m l → l.gave.over ≡ Running → (t : Table) → HasMerged n (has_closed l) (came_rows l) (l.gave.rows ++ t.rows) → IsMerging (merging_end s n) n Running (gives l (polled.Gave t))
  merging-gave ends opens going t h = merging-on s n (gives l (polled.Gave t)) going h (rw (many, orders) ours) (λ p u. opens p (sym (ends p) ∙ u))

  -- all were given
  pub merging-ends : (xs : List Row) → xs ≡ [] → HasMerged n (has_closed l) (came_rows l) (l.gave.rows ++ xs) → AreAll n.heads [] → ((p : ℕ) → LacksAt n.heads p → ⊥)
      → IsMerging (merging_end s n) n Ended (gives l polled.End)
  merging-ends xs e h none full =
      let all : HasMerged n (has_closed l) (came_rows l) l.gave.rows = subst (HasMerged n (has_closed l) (came_rows l)) (ap (λ ys. l.gave.rows ++ ys) e ∙ append-nil l.gave.rows) h in
      let k = gives l polled.End in
      let d = all-merged n.merge n.heads (has_closed l) (came_rows l) l.gave.rows all none full in
      record {
        same = refl;
        runs = λ f. cc;
        abides = abides-ended (merging_end s n) k refl (merging-begun s n k all) d.2 (d.0, d.1, λ f. absurd (true≢false (sym f))) (rw (many, orders) ours);
      }

-- memory runs out where rows are given
pub merging-short : (s : ReceiverPlace) (m : MergeView) (l : Ledger) → AreOurs (merging_end s m) l → Begun (receive (merging_end s m)) l → Abides (receive (merging_end s m)) (gives l (polled.Fault (Own NoMemory s.exchange)))
merging-short s m l ours b =
    let k = gives l (polled.Fault (Own NoMemory s.exchange)) in
    abides-failed (merging_end s m) k (Own NoMemory s.exchange) refl
    (record { inputs = b.inputs; begins = record { left = b.begins.left; right = b.begins.right; came = b.begins.came }; whole = b.whole; makes = b.makes; gave = b.gave })
    (λ i c. absurd (none-strange (merging_end s m) l ours i c)) tt

-- nothing came yet
pub merging-fresh : (s : ReceiverPlace) (m : MergeView) → HasMerged m (λ p. false) (λ p. []) [] → IsMerging (merging_end s m) m Running fresh_ledger
merging-fresh s m h = merging-on s m fresh_ledger refl h (λ i. All-nil (IsFor (merging_end s m) i)) (λ p u. refl)
