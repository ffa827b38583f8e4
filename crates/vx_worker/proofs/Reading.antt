-- What a tree read, after a draw or a take.
use Rattle.std.proofs.Common.{ℕ, ◌≡◌, inl, inr, refl, sym, ap, ◌∙◌, true, true≢false, List, [], ◌∷◌, ◌++◌, Option, Some, None, append-nil, append_assoc}
use Rattle.std.proofs.lemmas.Bool.Decides.{eqb_tells}
use Rattle.vx_rows_values.specs.Values.{Row}
use Rattle.vx_rows.specs.View.{RowsView}
use Rattle.vx_rows.specs.Lists.{IsBeginning}
use Rattle.vx_ports.specs.Packets.{PacketView}
use Rattle.vx_morsel.specs.Draws.{Draws}
use Rattle.vx_ops.specs.Begun.{all_of}
use Rattle.vx_ops.specs.Ledger.{Stream}
use Rattle.vx_ops.specs.Turn.{heard, with_packet}
use Rattle.vx_ops.specs.declared.fault.StreamState.TheVariants as stream_state
use Rattle.vx_ops.specs.declared.turn.Got.{Got}
use Rattle.vx_ops.specs.declared.turn.Got.TheVariants as got
use Rattle.vx_ops.specs.declared.turn.Polled.TheVariants as polled
use Rattle.vx_worker.specs.Fragment.{Reads}
use Rattle.vx_worker.specs.Morsels.{morsels}
use Rattle.vx_worker.specs.Trace.{Event, idle, drew_one, took_one, put_one, Trace, added, drawn, Scanned, ReadsAreOf, ScanBegins, ReadsBeginOf}
use Rattle.vx_worker.specs.Wishes.{read}
use Rattle.vx_worker.specs.Intake.{has_met_end, IsRead, IsTake, Answers}
use Rattle.vx_worker.specs.declared.intake.Intake.{Intake}
use Rattle.vx_worker.specs.declared.wish.Wish.{Wish}
use Rattle.vx_worker.specs.declared.wish.Wish.TheVariants as wish

-- the rows of one more morsel
pub morsels-append : (m : ℕ → List Row) (ns : List ℕ) (n : ℕ) → morsels m (ns ++ n ∷ []) ≡ morsels m ns ++ m n
morsels-append m [] n = append-nil (m n)
morsels-append m (k ∷ ns) n = ap (λ ys. m k ++ ys) (morsels-append m ns n) ∙ sym (append_assoc (m k) (morsels m ns) (m n))

scanned-more : (m : ℕ → List Row) (d : Draws) (s : Stream) (t : RowsView) (n : ℕ) → t.rows ≡ m n → Scanned m d s → Scanned m (drawn d (Some n)) (heard s (polled.Gave t))
scanned-more m d s t n e h = record {
  rows = ap (λ ys. ys ++ t.rows) h.rows ∙ ap (λ ys. morsels m d.numbers ++ ys) e ∙ sym (morsels-append m d.numbers n);
  ended = h.ended;
  never_fails = h.never_fails;
}

scanned-empty : (m : ℕ → List Row) (d : Draws) (s : Stream) (n : ℕ) → m n ≡ [] → Scanned m d s → Scanned m (drawn d (Some n)) s
scanned-empty m d s n e h = record {
  rows = h.rows ∙ sym (append-nil (morsels m d.numbers)) ∙ ap (λ ys. morsels m d.numbers ++ ys) (sym e) ∙ sym (morsels-append m d.numbers n);
  ended = h.ended;
  never_fails = h.never_fails;
}

scanned-end : (m : ℕ → List Row) (d : Draws) (s : Stream) → Scanned m d s → Scanned m (drawn d None) (heard s polled.End)
scanned-end m d s h = record { rows = h.rows; ended = λ e. refl; never_fails = λ f e. cc }

scanned-ended : (m : ℕ → List Row) (d : Draws) (s : Stream) → d.met_end ≡ true → Scanned m d s → Scanned m d (heard s polled.End)
scanned-ended m d s met h = record { rows = h.rows; ended = λ e. met; never_fails = λ f e. cc }

-- what the leaves read is still what was drawn and taken
pub reads-more : (m : ℕ → ℕ → List Row) (old new : Intake) (t : Trace) (r : Reads) (x : Wish) (g : Got) (e : Event) → Answers m old new x g e
    → ((n : ℕ) → has_met_end old n ≡ true → (t.drew n).met_end ≡ true) → ReadsAreOf m t r → ReadsAreOf m (added t e) (read r x g)
reads-more m old new t r wish.Nothing got.Nothing idle a met h = h
reads-more m old new t r (wish.Morsel k) (got.Input polled.End) idle a met h = record {
  scanned = λ i. elim (eqb_tells i k) [
    | inl e ↦ rw e.0 (scanned-ended (m i) (t.drew i) (r.scanned i) (met i (ap (has_met_end old) e.1 ∙ a)) (h.scanned i))
    | inr e ↦ rw e.0 (h.scanned i)
  ];
  came = h.came;
}
reads-more m old new t r (wish.Morsel k) (got.Input polled.End) (drew_one j None) a met h = record {
  scanned = λ i. elim (eqb_tells i k) [
    | inl e ↦ rw (a.0, e.0) (scanned-end (m i) (t.drew i) (r.scanned i) (h.scanned i))
    | inr e ↦ rw (a.0, e.0) (h.scanned i)
  ];
  came = h.came;
}
reads-more m old new t r (wish.Morsel k) (got.Input (polled.Gave rows)) (drew_one j (Some n)) a met h = record {
  scanned = λ i. elim (eqb_tells i k) [
    | inl e ↦ rw (a.0, e.0) (scanned-more (m i) (t.drew i) (r.scanned i) rows n (a.1 ∙ ap (λ z. m z n) (sym e.1)) (h.scanned i))
    | inr e ↦ rw (a.0, e.0) (h.scanned i)
  ];
  came = h.came;
}
reads-more m old new t r (wish.Morsel k) (got.Input polled.Waiting) (drew_one j (Some n)) a met h = record {
  scanned = λ i. elim (eqb_tells i k) [
    | inl e ↦ rw (a.0, e.0) (scanned-empty (m i) (t.drew i) (r.scanned i) n (ap (λ z. m z n) e.1 ∙ a.1) (h.scanned i))
    | inr e ↦ rw (a.0, e.0) (h.scanned i)
  ];
  came = h.came;
}
reads-more m old new t r (wish.Packet k i) (got.Packet o) (took_one j h' p) a met h = record {
  scanned = h.scanned;
  came = λ z. rw (a.0, a.1, a.2) (elim (eqb_tells z k) [
    | inl e ↦ rw e.0 (ap (λ f. with_packet f i o) (h.came z))
    | inr e ↦ rw e.0 (h.came z)
  ]);
}
reads-more m old new t r x g e a met h = elim a [ ]

-- a scan whose stream has ended is still one whose end was met
pub ended-more : (m : ℕ → ℕ → List Row) (old new : Intake) (r : Reads) (x : Wish) (g : Got) (e : Event) → Answers m old new x g e
    → ((n : ℕ) → has_met_end old n ≡ true → has_met_end new n ≡ true) → ((n : ℕ) → (r.scanned n).over ≡ stream_state.Ended → has_met_end old n ≡ true)
    → (n : ℕ) → ((read r x g).scanned n).over ≡ stream_state.Ended → has_met_end new n ≡ true
ended-more m old new r wish.Nothing got.Nothing idle a kept h = λ n o. kept n (h n o)
ended-more m old new r (wish.Morsel k) (got.Input polled.End) idle a kept h = λ n. elim (eqb_tells n k) [
  | inl e ↦ λ o. kept n (ap (has_met_end old) e.1 ∙ a)
  | inr e ↦ rw e.0 (λ o. kept n (h n o))
]
ended-more m old new r (wish.Morsel k) (got.Input polled.End) (drew_one j None) a kept h = λ n. elim (eqb_tells n k) [
  | inl e ↦ λ o. ap (has_met_end new) e.1 ∙ a.1
  | inr e ↦ rw e.0 (λ o. kept n (h n o))
]
ended-more m old new r (wish.Morsel k) (got.Input (polled.Gave rows)) (drew_one j (Some x)) a kept h = λ n. elim (eqb_tells n k) [
  | inl e ↦ rw e.0 (λ o. kept n (h n o))
  | inr e ↦ rw e.0 (λ o. kept n (h n o))
]
ended-more m old new r (wish.Morsel k) (got.Input polled.Waiting) (drew_one j (Some x)) a kept h = λ n. elim (eqb_tells n k) [
  | inl e ↦ rw e.0 (λ o. kept n (h n o))
  | inr e ↦ rw e.0 (λ o. kept n (h n o))
]
ended-more m old new r (wish.Packet k i) (got.Packet o) (took_one j h' p) a kept h = λ n o. kept n (h n o)
ended-more m old new r x g e a kept h = elim a [ ]

-- all that was drawn is a beginning of it
scan-whole : (m : ℕ → List Row) (d : Draws) (s : Stream) → Scanned m d s → ScanBegins m d s
scan-whole m d s h = record { numbers = d.numbers; begins = all_of d.numbers; rows = h.rows; ended = λ o. (refl, h.ended o); never_fails = h.never_fails }

-- also where one more number was drawn, if the stream has not ended
scan-before : (m : ℕ → List Row) (d : Draws) (s : Stream) (n : ℕ) → (s.over ≡ stream_state.Ended → ⊥) → Scanned m d s → ScanBegins m (drawn d (Some n)) s
scan-before m d s n open' h = record {
  numbers = d.numbers;
  begins = record { rest = n ∷ []; joined = refl };
  rows = h.rows;
  ended = λ o. absurd (open' o);
  never_fails = h.never_fails;
}

-- or where the end was met
scan-met : (m : ℕ → List Row) (d : Draws) (s : Stream) → Scanned m d s → ScanBegins m (drawn d None) s
scan-met m d s h = record { numbers = d.numbers; begins = all_of d.numbers; rows = h.rows; ended = λ o. (refl, refl); never_fails = h.never_fails }

-- the packets are a beginning of those with one more
with-packet-begins : (f : ℕ → List PacketView) (i : ℕ) (o : Option PacketView) (j : ℕ) → IsBeginning (f j) (with_packet f i o j)
with-packet-begins f i None j = all_of (f j)
with-packet-begins f i (Some p) j = elim (eqb_tells j i) [
  | inl e ↦ rw e.0 (record { rest = p ∷ []; joined = refl })
  | inr e ↦ rw e.0 (all_of (f j))
]

begins-then : {X : Type 0} (xs ys zs : List X) → IsBeginning xs ys → IsBeginning ys zs → IsBeginning xs zs
begins-then xs ys zs h k = record { rest = h.rest ++ k.rest; joined = sym (append_assoc xs h.rest k.rest) ∙ ap (λ l. l ++ k.rest) h.joined ∙ k.joined }

-- what came is a beginning of what came after any event
came-begins : (t : Trace) (e : Event) (n i : ℕ) → IsBeginning (t.came n i) ((added t e).came n i)
came-begins t idle n i = all_of (t.came n i)
came-begins t (drew_one k d) n i = all_of (t.came n i)
came-begins t (took_one k j o) n i = elim (eqb_tells n k) [
  | inl e ↦ rw e.0 (with-packet-begins (t.came n) j o i)
  | inr e ↦ rw e.0 (all_of (t.came n i))
]
came-begins t (put_one j p) n i = all_of (t.came n i)

same-begins : (r : Reads) (t : Trace) (n i : ℕ) → r.came n ≡ t.came n → IsBeginning (r.came n i) (t.came n i)
same-begins r t n i e = record { rest = []; joined = append-nil (r.came n i) ∙ ap (λ (f : ℕ → List PacketView). f i) e }

pub reads-whole : (m : ℕ → ℕ → List Row) (t : Trace) (r : Reads) → ReadsAreOf m t r → ReadsBeginOf m t r
reads-whole m t r h = record { scanned = λ n. scan-whole (m n) (t.drew n) (r.scanned n) (h.scanned n); came = λ n i. same-begins r t n i (h.came n) }

scans-begin : (m : ℕ → ℕ → List Row) (k : Intake) (t : Trace) (r : Reads) (e : Event) → IsRead k e → ((n : ℕ) → (r.scanned n).over ≡ stream_state.Ended → has_met_end k n ≡ true)
    → ReadsAreOf m t r → (n : ℕ) → ScanBegins (m n) ((added t e).drew n) (r.scanned n)
scans-begin m k t r idle is met h n = scan-whole (m n) (t.drew n) (r.scanned n) (h.scanned n)
scans-begin m k t r (drew_one j None) is met h n = elim (eqb_tells n j) [
  | inl e ↦ rw e.0 (scan-met (m n) (t.drew n) (r.scanned n) (h.scanned n))
  | inr e ↦ rw e.0 (scan-whole (m n) (t.drew n) (r.scanned n) (h.scanned n))
]
scans-begin m k t r (drew_one j (Some x)) is met h n = elim (eqb_tells n j) [
  | inl e ↦ rw e.0 (scan-before (m n) (t.drew n) (r.scanned n) x (λ o. true≢false (sym (met n o) ∙ ap (has_met_end k) e.1 ∙ is)) (h.scanned n))
  | inr e ↦ rw e.0 (scan-whole (m n) (t.drew n) (r.scanned n) (h.scanned n))
]
scans-begin m k t r (took_one x i o) is met h n = scan-whole (m n) (t.drew n) (r.scanned n) (h.scanned n)
scans-begin m k t r (put_one j p) is met h n = elim is [ ]

-- what the leaves read is a beginning of what was drawn and taken, where the last draw or take did not reach them
pub reads-before : (m : ℕ → ℕ → List Row) (k : Intake) (t : Trace) (r : Reads) (e : Event) → IsRead k e → ((n : ℕ) → (r.scanned n).over ≡ stream_state.Ended → has_met_end k n ≡ true)
    → ReadsAreOf m t r → ReadsBeginOf m (added t e) r
reads-before m k t r e is met h = record {
  scanned = scans-begin m k t r e is met h;
  came = λ n i. begins-then (r.came n i) (t.came n i) ((added t e).came n i) (same-begins r t n i (h.came n)) (came-begins t e n i);
}

scans-stay : (m : ℕ → ℕ → List Row) (t : Trace) (r : Reads) (e : Event) → IsTake e → ReadsBeginOf m t r → (n : ℕ) → ScanBegins (m n) ((added t e).drew n) (r.scanned n)
scans-stay m t r idle is h n = h.scanned n
scans-stay m t r (drew_one k d) is h n = elim is [ ]
scans-stay m t r (took_one x i o) is h n = h.scanned n
scans-stay m t r (put_one j p) is h n = elim is [ ]

-- and stays so while more is taken
pub reads-later : (m : ℕ → ℕ → List Row) (t : Trace) (r : Reads) (e : Event) → IsTake e → ReadsBeginOf m t r → ReadsBeginOf m (added t e) r
reads-later m t r e is h = record {
  scanned = scans-stay m t r e is h;
  came = λ n i. begins-then (r.came n i) (t.came n i) ((added t e).came n i) (h.came n i) (came-begins t e n i);
}
