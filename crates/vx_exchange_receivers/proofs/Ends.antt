-- One more packet at a consumer end, whatever order it gives rows in.
use Rattle.std.proofs.Common.{ℕ, ◌≡◌, ◌≢◌, ◌<◌, ◌==◌, ◌||◌, inl, inr, refl, sym, ap, ◌∙◌, true≢false, arith, subst, All, List, [], ◌∷◌, ◌++◌, Some, Bool, true, false, append-nil, append_assoc}
use Rattle.std.proofs.lemmas.List.Elements.{All-push}
use Rattle.std.proofs.lemmas.Bool.Decides.{nat_tests, eqb_tells}
use Rattle.vx_rows_values.specs.Values.{Row}
use Rattle.vx_rows.specs.Lists.{IsBeginning}
use Rattle.vx_ports.specs.Packets.{last, fault, PacketView, content_rows, rows_of, is_last, is_fault, has_last, has_fault}
use Rattle.vx_ops.specs.Ledger.{Ledger, ConsumerEnd, receive, Makes, Begun, OwnBlame, InputsEnded, TestsPackets, Abides, IsFor, Came}
use Rattle.vx_ops.proofs.Strangers.{none-came}
use Rattle.vx_ops.specs.Turn.{with_packet, after}
use Rattle.vx_ops.specs.declared.fault.StreamState.TheVariants.{Running, Ended, Failed}
use Rattle.vx_ops.specs.declared.fault.Fault.{Fault}
use Rattle.vx_ops.specs.declared.fault.Fault.TheVariants.{Own, Passed}
use Rattle.vx_ops.specs.declared.fault.Code.TheVariants.{Stranger}
use Rattle.vx_ops.specs.declared.turn.Want.TheVariants as want
use Rattle.vx_ops.specs.declared.turn.Got.TheVariants as got
use Rattle.vx_ops.specs.declared.turn.Polled.TheVariants as polled

eqb-same : (i : ℕ) → (i == i) ≡ true
eqb-same i = grind (arith, nat_tests)

pub rows_of-push : (ps : List PacketView) (p : PacketView) → rows_of (ps ++ p ∷ []) ≡ rows_of ps ++ content_rows p.content
rows_of-push [] p = append-nil (content_rows p.content)
rows_of-push (q ∷ ps) p = ap (λ ys. content_rows q.content ++ ys) (rows_of-push ps p) ∙ sym (append_assoc (content_rows q.content) (rows_of ps) (content_rows p.content))

pub has_last-push : (ps : List PacketView) (p : PacketView) → is_last p.content ≡ true → has_last (ps ++ p ∷ []) ≡ true
has_last-push [] p e = rw e refl
has_last-push (q ∷ ps) p e = let r = has_last-push ps p e in grind (arith, r)

has_fault-push : (ps : List PacketView) (p : PacketView) → is_fault p.content ≡ true → has_fault (ps ++ p ∷ []) ≡ true
has_fault-push [] p e = rw e refl
has_fault-push (q ∷ ps) p e = let r = has_fault-push ps p e in grind (arith, r)

-- this producer's packets are one more
pub this_came : (i : ℕ) (came : ℕ → List PacketView) (p : PacketView) → with_packet came i (Some p) i ≡ came i ++ p ∷ []
this_came i came p = rw (eqb-same i) refl

-- another producer's are as they were
pub other_came : (j i : ℕ) (came : ℕ → List PacketView) (p : PacketView) → j ≢ i → with_packet came i (Some p) j ≡ came j
other_came j i came p ne = elim (eqb_tells j i) [ inl e ↦ absurd (ne e.1) | inr e ↦ rw e.0 refl ]

-- what came begins what came with one more packet
came-more : (j i : ℕ) (came : ℕ → List PacketView) (p : PacketView) (xs : List Row) → IsBeginning xs (rows_of (came j)) → IsBeginning xs (rows_of (with_packet came i (Some p) j))
came-more j i came p xs b = elim (eqb_tells j i) [
  | inl e ↦ rw e.0 (record { rest = b.rest ++ content_rows p.content; joined = sym (append_assoc xs b.rest (content_rows p.content)) ∙ ap (λ ys. ys ++ content_rows p.content) b.joined ∙ sym (rows_of-push (came j) p) })
  | inr e ↦ rw e.0 b
]

-- a producer whose stream had ended has ended
pub still-last : (j i : ℕ) (came : ℕ → List PacketView) (p : PacketView) → has_last (came j) ≡ true → has_last (with_packet came i (Some p) j) ≡ true
still-last j i came p h = elim (eqb_tells j i) [ inl e ↦ rw e.0 (more (came j) h) | inr e ↦ rw e.0 h ]
  where
    more : (ps : List PacketView) → has_last ps ≡ true → has_last (ps ++ p ∷ []) ≡ true
    more [] e = absurd (true≢false (sym e))
    more (q ∷ ps) e = go (is_last q.content) (has_last ps) (more ps) e
      where
        go : (a b : Bool) → (b ≡ true → has_last (ps ++ p ∷ []) ≡ true) → (a || b) ≡ true → (a || has_last (ps ++ p ∷ [])) ≡ true
        go true b f e = refl
        go false b f e = f e

-- all packets that came are for this end
abbrev pub AreOurs : ConsumerEnd → Ledger → Type 0
AreOurs port l = (i : ℕ) → All (IsFor port i) (l.came i)

pub none-strange : (port : ConsumerEnd) (l : Ledger) → AreOurs port l → (i : ℕ) → Came (λ p. IsFor port i p → ⊥) (l.came i) → ⊥
none-strange port l ours i c = none-came (IsFor port i) (l.came i) (ours i) c

-- what is known of an end that runs, has ended, or failed
pub abides-running : (port : ConsumerEnd) (l : Ledger) → l.gave.over ≡ Running → Begun (receive port) l → AreOurs port l → Abides (receive port) l
abides-running port l e b ours = record {
  before = b;
  ended = λ f. cc;
  passes = λ f h. absurd h;
  tests = λ i c. absurd (none-strange port l ours i c);
  holds_back = tt;
  blame = λ f h. cc;
}

pub abides-ended : (port : ConsumerEnd) (l : Ledger) → l.gave.over ≡ Ended → Begun (receive port) l → InputsEnded (receive port) l → Makes (receive port) l l.gave.rows → AreOurs port l
    → Abides (receive port) l
abides-ended port l e b closed makes ours = record {
  before = b;
  ended = λ f. (closed, makes);
  passes = λ f h. absurd h;
  tests = λ i c. absurd (none-strange port l ours i c);
  holds_back = tt;
  blame = λ f h. cc;
}

pub abides-failed : (port : ConsumerEnd) (l : Ledger) (f : Fault) → l.gave.over ≡ Failed f → Begun (receive port) l → TestsPackets (receive port) l → OwnBlame (receive port) l f
    → Abides (receive port) l
abides-failed port l f e b tests blame = record {
  before = b;
  ended = λ h. cc;
  passes = λ g h. absurd h;
  tests = tests;
  holds_back = tt;
  blame = λ g h. let s : f ≡ g = cc in inr (subst (λ x. OwnBlame (receive port) l x) s blame);
}

module _ (port : ConsumerEnd) (next : ℕ) (packet : PacketView) (l : Ledger) where
  -- the ledger with one more packet of this producer
  unfoldable pub with_one : Ledger
  with_one = record l { came = with_packet l.came next (Some packet) }

  -- the rows that came may be more
  pub begun-more : Begun (receive port) l → (k : Ledger) → k.left ≡ l.left → k.right ≡ l.right → k.came ≡ with_packet l.came next (Some packet) → k.gave.rows ≡ l.gave.rows → Begun (receive port) k
  begun-more b k el er ec eg =
      record {
        inputs = b.inputs;
        begins = record {
          left = rw el b.begins.left;
          right = rw er b.begins.right;
          came = λ j. rw ec (came-more j next l.came packet (rows_of (b.inputs.came j)) (b.begins.came j));
        };
        whole = b.whole;
        makes = b.makes;
        gave = rw eg b.gave;
      }

  -- what came is still for this end
  pub all-ours : IsFor port next packet → AreOurs port l → (i : ℕ) → All (IsFor port i) (with_packet l.came next (Some packet) i)
  all-ours f ours i = elim (eqb_tells i next) [
    | inl e ↦ rw (e.1, this_came next l.came packet) (All-push (IsFor port next) (l.came next) packet (ours next) f)
    | inr e ↦ rw (other_came i next l.came packet e.1) (ours i)
  ]

  came_last : (P : PacketView → Type 0) → P packet → Came P (with_packet l.came next (Some packet) next)
  came_last P h = rw (this_came next l.came packet) (record { front = l.came next; packet = packet; back = []; joined = refl; is = h })

  -- it takes no packet but one for it from the producer that it asked
  pub abides-stranger : next < port.producers → (IsFor port next packet → ⊥) → Begun (receive port) l
      → Abides (receive port) (after l (want.Packet next) (got.Packet (Some packet)) (polled.Fault (Own Stranger port.exchange)))
  abides-stranger lt h b =
      let k = after l (want.Packet next) (got.Packet (Some packet)) (polled.Fault (Own Stranger port.exchange)) in
      abides-failed port k (Own Stranger port.exchange) refl (begun-more b k refl refl refl refl) (λ i c. refl)
      (refl, (next, lt, came_last (λ p. IsFor port next p → ⊥) h))

  -- another fault after a packet that is for it
  pub abides-fault : (f : Fault) → IsFor port next packet → AreOurs port l → Begun (receive port) l → OwnBlame (receive port) with_one f
      → Abides (receive port) (after l (want.Packet next) (got.Packet (Some packet)) (polled.Fault f))
  unfolding with_one
  abides-fault f is ours b blame =
      let k = after l (want.Packet next) (got.Packet (Some packet)) (polled.Fault f) in
      abides-failed port k f refl (begun-more b k refl refl refl refl) (λ i c. absurd (none-strange port k (all-ours is ours) i c)) blame

  -- a producer failed
  pub abides-broken : next < port.producers → IsFor port next packet → packet.content ≡ fault → AreOurs port l → Begun (receive port) l
      → Abides (receive port) (after l (want.Packet next) (got.Packet (Some packet)) (polled.Fault Passed))
  unfolding with_one
  abides-broken lt is h ours b =
      abides-fault Passed is ours b (next, lt, rw (this_came next l.came packet) (has_fault-push (l.came next) packet (ap is_fault h)))

  -- the producer has ended
  pub last-came : packet.content ≡ last → has_last (with_packet l.came next (Some packet) next) ≡ true
  last-came h = rw (this_came next l.came packet) (has_last-push (l.came next) packet (ap is_last h))
