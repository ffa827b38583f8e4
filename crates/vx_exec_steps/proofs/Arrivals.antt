-- What came to the leaves of a fragment: what might have come in all, and how many morsels and packets did.
use Rattle.std.proofs.Common.{ℕ, zero, suc, ◌≡◌, ◌<◌, ◌≤◌, ◌+◌, ◌||◌, ⊎_elim, cond, Bool, true, false, List, [], ◌∷◌, ◌++◌, length, Option, Some, None, refl, sym, ap, subst, arith, inl, inr, length-append, le_refl}
use Rattle.std.proofs.Math.Path.{fun_ext}
use Rattle.std.proofs.lemmas.Bool.Decides.{eqb_tells}
use Rattle.std.specs.List.{Contains}
use Rattle.vx_rows_values.specs.Values.{Row}
use Rattle.vx_ports.specs.Packets.{Content, brings, last, fault, PacketView, content_rows, rows_of, closes, is_closed}
use Rattle.vx_ops.specs.Ledger.{Op, scan_op, one_op, two_op, receive}
use Rattle.vx_ops.specs.Turn.{with_packet, with_more, packet_rows, sum_below}
use Rattle.vx_exchange_ends.specs.Queued.{closings}
use Rattle.vx_worker.specs.Morsels.{morsels}
use Rattle.vx_worker.specs.Fragment.{Frag, alone, above, both}
use Rattle.vx_worker.specs.Trace.{Event, idle, drew_one, took_one, put_one, Trace, empty_trace, added}
use Rattle.vx_worker.specs.Trees.{ScansAt, LeavesComing, HasPlace, TakesFrom}
use Rattle.vx_worker.specs.Remaining.{before_event, arrivals, rows_put, EventFits}

-- what might have come to the leaves in all, where this may still come and what the trace says came already
abbrev pub after_trace : (m : ℕ → ℕ → List Row) → Trace → LeavesComing → LeavesComing
after_trace m t c = record {
  scanned = λ k. c.scanned k + length (morsels (m k) (t.drew k).numbers);
  came = λ x i. c.came x i + length (rows_of (t.came x i));
}

-- how many morsels and packets came to one leaf
abbrev pub arrived_at : Op → (number : ℕ) → Trace → ℕ
arrived_at scan_op n t = length (t.drew n).numbers
arrived_at (one_op k u) n t = 0
arrived_at (two_op k b) n t = 0
arrived_at (receive port) n t = sum_below port.producers (λ i. length (t.came n i))

-- and to all leaves of a fragment
abbrev pub arrived : Frag → Trace → ℕ
arrived (alone n x) t = arrived_at x n t
arrived (above x f) t = arrived f t
arrived (both x f h) t = arrived f t + arrived h t

-- no more packets than rows, but for one that closes
abbrev pub AreFewPackets : List PacketView → Type 0
AreFewPackets ps = length ps ≤ length (rows_of ps) + cond (is_closed ps) 1 0

-- sums of numbers
pub sum-le : (n : ℕ) (f g : ℕ → ℕ) → ((i : ℕ) → i < n → f i ≤ g i) → sum_below n f ≤ sum_below n g
sum-le zero f g h = le_refl 0
sum-le (suc n) f g h =
    let a = sum-le n f g (λ i l. h i (omega (arith, l))) in
    let b = h n (omega arith) in
    omega (arith, a, b)

-- of which one is larger by so much
pub sum-more : (n : ℕ) (f g : ℕ → ℕ) (i d : ℕ) → i < n → f i + d ≤ g i → ((j : ℕ) → j < n → f j ≤ g j) → sum_below n f + d ≤ sum_below n g
sum-more zero f g i d l e h = absurd (omega (arith, l))
sum-more (suc n) f g i d l e h = elim (eqb_tells n i) [
  | inl q ↦
      let a = sum-le n f g (λ j k. h j (omega (arith, k))) in
      let here : f n + d ≤ g n = subst (λ z. f z + d ≤ g z) (sym q.1) e in
      omega (arith, a, here)
  | inr q ↦
      let ne = q.1 in
      let a = sum-more n f g i d (omega (arith, l, ne)) e (λ j k. h j (omega (arith, k))) in
      let b = h n (omega arith) in
      omega (arith, a, b)
]

-- the rows of one more morsel, and of one more packet
pub morsels-push : (f : ℕ → List Row) (ks : List ℕ) (n : ℕ) → length (morsels f (ks ++ n ∷ [])) ≡ length (morsels f ks) + length (f n)
morsels-push f [] n = let a = length-append (f n) [] in omega (arith, a)
morsels-push f (k ∷ ks) n =
    let a = length-append (f k) (morsels f (ks ++ n ∷ [])) in
    let b = length-append (f k) (morsels f ks) in
    let c = morsels-push f ks n in
    omega (arith, a, b, c)

pub rows-both : (ps qs : List PacketView) → length (rows_of (ps ++ qs)) ≡ length (rows_of ps) + length (rows_of qs)
rows-both [] qs = omega arith
rows-both (p ∷ ps) qs =
    let a = length-append (content_rows p.content) (rows_of (ps ++ qs)) in
    let b = length-append (content_rows p.content) (rows_of ps) in
    let c = rows-both ps qs in
    omega (arith, a, b, c)

pub rows-push : (ps : List PacketView) (p : PacketView) → length (rows_of (ps ++ p ∷ [])) ≡ length (rows_of ps) + length (content_rows p.content)
rows-push ps p =
    let a = rows-both ps (p ∷ []) in
    let b = length-append (content_rows p.content) [] in
    omega (arith, a, b)

leaves-same : (a b : LeavesComing) → ((k : ℕ) → a.scanned k ≡ b.scanned k) → ((x i : ℕ) → a.came x i ≡ b.came x i) → a ≡ b
leaves-same a b h g =
    let s : a.scanned ≡ b.scanned = fun_ext h in
    let c : a.came ≡ b.came = fun_ext (λ x. fun_ext (g x)) in
    λ i. record { scanned = s i; came = c i }

-- where nothing came yet
pub after-none : (m : ℕ → ℕ → List Row) (c : LeavesComing) → after_trace m empty_trace c ≡ c
after-none m c = leaves-same (after_trace m empty_trace c) c (λ k. omega arith) (λ x i. omega arith)

-- one more packet from one producer
came-push : (f : ℕ → List PacketView) (g : ℕ → ℕ) (i z : ℕ) (o : Option PacketView) → g z + length (rows_of (with_packet f i o z)) ≡ with_more i (packet_rows o) g z + length (rows_of (f z))
came-push f g i z None = elim (eqb_tells z i) [ inl e ↦ rw e.0 (omega arith) | inr e ↦ rw e.0 refl ]
came-push f g i z (Some p) = elim (eqb_tells z i) [
  | inl e ↦ rw e.0 (let a = rows-push (f z) p in omega (arith, a))
  | inr e ↦ rw e.0 refl
]

-- what might have come in all stays the same when some of it comes
pub after-event : (m : ℕ → ℕ → List Row) (t : Trace) (e : Event) (c : LeavesComing) → after_trace m (added t e) c ≡ after_trace m t (before_event m e c)
after-event m t idle c = refl
after-event m t (drew_one k None) c =
    leaves-same (after_trace m (added t (drew_one k None)) c) (after_trace m t c) (λ j. elim (eqb_tells j k) [ inl e ↦ rw e.0 refl | inr e ↦ rw e.0 refl ]) (λ x i. refl)
after-event m t (drew_one k (Some n)) c =
    leaves-same (after_trace m (added t (drew_one k (Some n))) c) (after_trace m t (before_event m (drew_one k (Some n)) c))
    (λ j. elim (eqb_tells j k) [
      | inl e ↦ rw e.0 (let a = morsels-push (m j) (t.drew j).numbers n in let b : length (m j n) ≡ length (m k n) = ap (λ z. length (m z n)) e.1 in omega (arith, a, b))
      | inr e ↦ rw e.0 refl
    ])
    (λ x i. refl)
after-event m t (took_one x i o) c =
    leaves-same (after_trace m (added t (took_one x i o)) c) (after_trace m t (before_event m (took_one x i o) c)) (λ k. refl)
    (λ j z. elim (eqb_tells j x) [ inl e ↦ rw e.0 (came-push (t.came j) (c.came j) i z o) | inr e ↦ rw e.0 refl ])
after-event m t (put_one j p) c = refl

-- what was sent to a consumer
pub sent-event : (t : Trace) (e : Event) (j : ℕ) → length (rows_of ((added t e).sent j)) ≡ length (rows_of (t.sent j)) + rows_put e j
sent-event t idle j = omega arith
sent-event t (drew_one k d) j = omega arith
sent-event t (took_one x i o) j = omega arith
sent-event t (put_one to p) j = elim (eqb_tells j to) [ inl e ↦ rw e.0 (rows-push (t.sent j) p) | inr e ↦ rw e.0 (omega arith) ]

-- morsels and packets only come
drew-grows : (t : Trace) (e : Event) (n : ℕ) → length (t.drew n).numbers ≤ length ((added t e).drew n).numbers
drew-grows t idle n = le_refl _
drew-grows t (drew_one k None) n = elim (eqb_tells n k) [ inl e ↦ rw e.0 (le_refl _) | inr e ↦ rw e.0 (le_refl _) ]
drew-grows t (drew_one k (Some x)) n = elim (eqb_tells n k) [
  | inl e ↦ rw e.0 (let a = length-append (t.drew n).numbers (x ∷ []) in omega (arith, a))
  | inr e ↦ rw e.0 (le_refl _)
]
drew-grows t (took_one x i o) n = le_refl _
drew-grows t (put_one j p) n = le_refl _

came-grows : (t : Trace) (e : Event) (n i : ℕ) → length (t.came n i) ≤ length ((added t e).came n i)
came-grows t idle n i = le_refl _
came-grows t (drew_one k d) n i = le_refl _
came-grows t (took_one x j None) n i = elim (eqb_tells n x) [ inl e ↦ rw e.0 (le_refl _) | inr e ↦ rw e.0 (le_refl _) ]
came-grows t (took_one x j (Some p)) n i = elim (eqb_tells n x) [
  | inl e ↦ rw e.0 (elim (eqb_tells i j) [
    | inl q ↦ rw q.0 (let a = length-append (t.came n i) (p ∷ []) in omega (arith, a))
    | inr q ↦ rw q.0 (le_refl _)
  ])
  | inr e ↦ rw e.0 (le_refl _)
]
came-grows t (put_one j p) n i = le_refl _

leaf-grows : (x : Op) (n : ℕ) (t : Trace) (e : Event) → arrived_at x n t ≤ arrived_at x n (added t e)
leaf-grows scan_op n t e = drew-grows t e n
leaf-grows (one_op k u) n t e = le_refl 0
leaf-grows (two_op k b) n t e = le_refl 0
leaf-grows (receive port) n t e = sum-le port.producers (λ i. length (t.came n i)) (λ i. length ((added t e).came n i)) (λ i l. came-grows t e n i)

pub arrived-grows : (f : Frag) (t : Trace) (e : Event) → arrived f t ≤ arrived f (added t e)
arrived-grows (alone n x) t e = leaf-grows x n t e
arrived-grows (above x f) t e = arrived-grows f t e
arrived-grows (both x f h) t e = let a = arrived-grows f t e in let b = arrived-grows h t e in omega (arith, a, b)

-- a number was drawn for a scan of the fragment
one-drawn : (t : Trace) (k x n : ℕ) → n ≡ k → length (t.drew n).numbers + 1 ≤ length ((added t (drew_one k (Some x))).drew n).numbers
one-drawn t k x n is = elim (eqb_tells n k) [
  | inl e ↦ rw e.0 (let a = length-append (t.drew n).numbers (x ∷ []) in omega (arith, a))
  | inr e ↦ absurd (e.1 is)
]

drawn-more : (f : Frag) (t : Trace) (k x : ℕ) → ScansAt k f → arrived f t + 1 ≤ arrived f (added t (drew_one k (Some x)))
drawn-more (alone n o) t k x h =
    subst (λ z. arrived_at z n t + 1 ≤ arrived_at z n (added t (drew_one k (Some x)))) (sym h.1) (one-drawn t k x n h.0)
drawn-more (above o f) t k x h = drawn-more f t k x h
drawn-more (both o f g) t k x (inl h) = let a = drawn-more f t k x h in let b = arrived-grows g t (drew_one k (Some x)) in omega (arith, a, b)
drawn-more (both o f g) t k x (inr h) = let a = arrived-grows f t (drew_one k (Some x)) in let b = drawn-more g t k x h in omega (arith, a, b)

-- a packet came to a leaf of the fragment
one-taken : (t : Trace) (x i n : ℕ) (p : PacketView) → n ≡ x → length (t.came n i) + 1 ≤ length ((added t (took_one x i (Some p))).came n i)
one-taken t x i n p is = elim (eqb_tells n x) [
  | inl e ↦ rw e.0 (elim (eqb_tells i i) [
    | inl q ↦ rw q.0 (let a = length-append (t.came n i) (p ∷ []) in omega (arith, a))
    | inr q ↦ absurd (q.1 refl)
  ])
  | inr e ↦ absurd (e.1 is)
]

leaf-taken : (o : Op) (n : ℕ) (t : Trace) (x i : ℕ) (p : PacketView) → n ≡ x → HasPlace i o → arrived_at o n t + 1 ≤ arrived_at o n (added t (took_one x i (Some p)))
leaf-taken scan_op n t x i p is h = absurd h
leaf-taken (one_op k u) n t x i p is h = absurd h
leaf-taken (two_op k b) n t x i p is h = absurd h
leaf-taken (receive port) n t x i p is h =
    sum-more port.producers (λ j. length (t.came n j)) (λ j. length ((added t (took_one x i (Some p))).came n j)) i 1 h (one-taken t x i n p is)
    (λ j l. came-grows t (took_one x i (Some p)) n j)

taken-more : (f : Frag) (t : Trace) (x i : ℕ) (p : PacketView) → TakesFrom x i f → arrived f t + 1 ≤ arrived f (added t (took_one x i (Some p)))
taken-more (alone n o) t x i p h = leaf-taken o n t x i p h.0 h.1
taken-more (above o f) t x i p h = taken-more f t x i p h
taken-more (both o f g) t x i p (inl h) = let a = taken-more f t x i p h in let b = arrived-grows g t (took_one x i (Some p)) in omega (arith, a, b)
taken-more (both o f g) t x i p (inr h) = let a = arrived-grows f t (took_one x i (Some p)) in let b = taken-more g t x i p h in omega (arith, a, b)

-- so each event brings what it brings to the fragment's own leaves
pub arrived-event : (f : Frag) (inputs : List (ℕ × ℕ)) (t : Trace) (e : Event) → ((x i : ℕ) → Contains inputs (x, i) → TakesFrom x i f) → EventFits f inputs t e
    → arrived f t + arrivals e ≤ arrived f (added t e)
arrived-event f inputs t idle takes fits = let a = arrived-grows f t idle in omega (arith, a)
arrived-event f inputs t (drew_one k None) takes fits = let a = arrived-grows f t (drew_one k None) in omega (arith, a)
arrived-event f inputs t (drew_one k (Some n)) takes fits = drawn-more f t k n fits
arrived-event f inputs t (took_one x i None) takes fits = let a = arrived-grows f t (took_one x i None) in omega (arith, a)
arrived-event f inputs t (took_one x i (Some p)) takes fits = taken-more f t x i p (⊎_elim (λ a. a) (λ b. takes x i b) fits.0)
arrived-event f inputs t (put_one j p) takes fits = let a = arrived-grows f t (put_one j p) in omega (arith, a)

-- behind a packet that closes a list is closed
closed-end : (ps : List PacketView) (p : PacketView) → closes p.content ≡ true → is_closed (ps ++ p ∷ []) ≡ true
closed-end [] p e = ap (λ b. b || false) e
closed-end (q ∷ ps) p e = go (closes q.content) (is_closed (ps ++ p ∷ [])) (closed-end ps p e)
  where
    go : (a b : Bool) → b ≡ true → (a || b) ≡ true
    go true b e = refl
    go false b e = e

few-push : (ps : List PacketView) (p : PacketView) → is_closed ps ≡ false → 0 < length (content_rows p.content) + closings p.content → AreFewPackets ps → AreFewPackets (ps ++ p ∷ [])
few-push ps p opens some few = go p.content refl some
  where
    grows : length (ps ++ p ∷ []) ≡ length ps + 1
    grows = length-append ps (p ∷ [])

    before : length ps ≤ length (rows_of ps)
    before = let a : ◌≡◌ {A = ℕ} (cond (is_closed ps) 1 0) 0 = ap (λ b. cond b 1 0) opens in omega (arith, few, a)

    closing : closes p.content ≡ true → AreFewPackets (ps ++ p ∷ [])
    closing e =
        let a : ◌≡◌ {A = ℕ} (cond (is_closed (ps ++ p ∷ [])) 1 0) 1 = ap (λ b. cond b 1 0) (closed-end ps p e) in
        let b = rows-push ps p in
        let c = before in
        let d = grows in
        omega (arith, a, b, c, d)

    go : (x : Content) → p.content ≡ x → 0 < length (content_rows x) + closings x → AreFewPackets (ps ++ p ∷ [])
    go (brings xs) is n =
        let a : length (content_rows p.content) ≡ length xs = ap (λ z. length (content_rows z)) is in
        let b = rows-push ps p in
        let c = before in
        let d = grows in
        omega (arith, a, b, c, d, n)
    go last is n = closing (ap closes is)
    go fault is n = closing (ap closes is)

-- of each producer
pub few-event : (f : Frag) (inputs : List (ℕ × ℕ)) (t : Trace) (e : Event) → EventFits f inputs t e → ((x i : ℕ) → AreFewPackets (t.came x i)) → (x i : ℕ) → AreFewPackets ((added t e).came x i)
few-event f inputs t idle fits few x i = few x i
few-event f inputs t (drew_one k d) fits few x i = few x i
few-event f inputs t (took_one y j None) fits few x i = elim (eqb_tells x y) [ inl e ↦ rw e.0 (few x i) | inr e ↦ rw e.0 (few x i) ]
few-event f inputs t (took_one y j (Some p)) fits few x i = elim (eqb_tells x y) [
  | inl e ↦ rw e.0 (elim (eqb_tells i j) [
    | inl q ↦ rw q.0 (few-push (t.came x i) p (subst (λ z. is_closed (t.came z i) ≡ false) (sym e.1) (subst (λ z. is_closed (t.came y z) ≡ false) (sym q.1) fits.1)) fits.2 (few x i))
    | inr q ↦ rw q.0 (few x i)
  ])
  | inr e ↦ rw e.0 (few x i)
]
few-event f inputs t (put_one j p) fits few x i = few x i
