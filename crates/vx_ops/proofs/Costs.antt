-- What turns cost: sums over producers, and producers that stay open.
use Rattle.std.proofs.Common.{◌≡◌, ◌≢◌, ℕ, zero, suc, ◌+◌, ◌<◌, ◌≤◌, ◌==◌, ◌||◌, cond, inl, inr, refl, sym, ap, ◌∙◌, arith, le_refl, Bool, true, false, List, [], ◌∷◌, ◌++◌, Some}
use Rattle.std.proofs.lemmas.Bool.{cases_lt}
use Rattle.std.proofs.lemmas.Bool.Decides.{eqb_tells}
use Rattle.vx_ports.specs.Packets.{PacketView, closes, is_closed}
use Rattle.vx_ops.specs.Turn.{with_packet, with_more, sum_below, Coming, IsWithin, with_rows, rows_in, packet_rows, own_turn, idle_turn, Pays}
use Rattle.vx_ops.specs.declared.turn.Want.{Want}
use Rattle.vx_ops.specs.declared.turn.Want.TheVariants as want
use Rattle.vx_ops.specs.declared.turn.Got.{Got}
use Rattle.vx_ops.specs.declared.turn.Got.TheVariants as got
use Rattle.vx_ops.specs.declared.turn.Polled.{Polled}
use Rattle.vx_ops.specs.declared.turn.Polled.TheVariants as polled

-- another number stays
more-other : (i k j : ℕ) (f : ℕ → ℕ) → j ≢ i → with_more i k f j ≡ f j
more-other i k j f ne = elim (eqb_tells j i) [ inl e ↦ absurd (ne e.1) | inr e ↦ rw e.0 refl ]

more-same : (i k : ℕ) (f : ℕ → ℕ) → with_more i k f i ≡ f i + k
more-same i k f = elim (eqb_tells i i) [ inl e ↦ rw e.0 refl | inr e ↦ absurd (e.1 refl) ]

sum-past : (n i k : ℕ) (f : ℕ → ℕ) → n ≤ i → sum_below n (with_more i k f) ≡ sum_below n f
sum-past zero i k f le = refl
sum-past (suc n) i k f le =
    let below = sum-past n i k f (omega arith) in
    let here = more-other i k n f (λ e. omega arith) in
    omega (arith, below, here)

-- where one of the numbers is larger, so is their sum
pub sum-more : (n i k : ℕ) (f : ℕ → ℕ) → i < n → sum_below n (with_more i k f) ≡ sum_below n f + k
sum-more zero i k f lt = absurd (omega (arith, lt))
sum-more (suc n) i k f lt = elim (cases_lt i n) [
  | inl less ↦
      let below = sum-more n i k f less in
      let here = more-other i k n f (λ e. omega arith) in
      omega (arith, below, here)
  | inr ge ↦
      let is : i ≡ n = omega (arith, lt, ge) in
      let below = sum-past n i k f ge in
      let here : with_more i k f n ≡ f n + k = ap (λ j. with_more i k f j) (sym is) ∙ more-same i k f ∙ ap (λ j. f j + k) is in
      omega (arith, below, here)
]

-- at least it is no smaller
pub sum-less : (n i k : ℕ) (f : ℕ → ℕ) → sum_below n f ≤ sum_below n (with_more i k f)
sum-less n i k f = elim (cases_lt i n) [
  | inl less ↦ let e = sum-more n i k f less in omega (arith, e)
  | inr ge ↦ let e = sum-past n i k f ge in omega (arith, e)
]

-- an idle turn costs what a turn of one's own does, and any other nothing
pub idle-most : (own : ℕ) (p : Polled) → idle_turn own p ≤ own
idle-most own (polled.Gave t) = omega arith
idle-most own polled.Waiting = omega arith
idle-most own polled.End = omega arith
idle-most own (polled.Fault f) = omega arith

-- a turn that goes on where another left off costs what is left after it, and its own turn
pub pays-before : (own own' m i m' i' later rest : ℕ) (p : Polled) → m' ≤ m → i' + own' ≤ i → Pays own m' i' later rest p → Pays own' m i later rest p
pays-before own own' m i m' i' later rest p rows turns h =
    let r = h.rows in
    let t = h.turns in
    let o = idle-most own' p in
    record { rows = omega (arith, rows, r); turns = omega (arith, turns, t, o) }

idle-less : (own own' : ℕ) (p : Polled) → own' ≤ own → idle_turn own' p ≤ idle_turn own p
idle-less own own' (polled.Gave t) le = le_refl 0
idle-less own own' polled.Waiting le = le
idle-less own own' polled.End le = le_refl 0
idle-less own own' (polled.Fault f) le = le_refl 0

-- where more was left, or the turn counts less
pub pays-within : (own own' m i m' i' later rest : ℕ) (p : Polled) → own' ≤ own → m' ≤ m → i' ≤ i → Pays own m' i' later rest p → Pays own' m i later rest p
pays-within own own' m i m' i' later rest p le rows turns h =
    let r = h.rows in
    let t = h.turns in
    let o = idle-less own own' p le in
    record { rows = omega (arith, rows, r); turns = omega (arith, turns, t, o) }

-- a turn is its own or not
pub own-few : (g : Got) → own_turn g ≤ 1
own-few got.Nothing = omega arith
own-few (got.Input (polled.Gave t)) = omega arith
own-few (got.Input polled.Waiting) = omega arith
own-few (got.Input polled.End) = omega arith
own-few (got.Input (polled.Fault f)) = omega arith
own-few (got.Packet o) = omega arith

more-than : (i n j : ℕ) (f : ℕ → ℕ) → f j ≤ with_more i n f j
more-than i n j f = elim (eqb_tells j i) [ inl e ↦ rw e.0 (omega arith) | inr e ↦ rw e.0 (omega arith) ]

within-self : (c : Coming) → IsWithin c c
within-self c = record { left = le_refl c.left; right = le_refl c.right; packets = λ i. le_refl (c.packets i) }

-- before something came as much might come
pub rows-more : (w : Want) (g : Got) (c : Coming) → IsWithin c (with_rows w g c)
rows-more want.Morsel (got.Input p) c = record { left = omega arith; right = le_refl c.right; packets = λ i. le_refl (c.packets i) }
rows-more want.Left (got.Input p) c = record { left = omega arith; right = le_refl c.right; packets = λ i. le_refl (c.packets i) }
rows-more want.Right (got.Input p) c = record { left = le_refl c.left; right = omega arith; packets = λ i. le_refl (c.packets i) }
rows-more (want.Packet i) (got.Packet o) c = record { left = le_refl c.left; right = le_refl c.right; packets = λ j. more-than i (packet_rows o) j c.packets }
rows-more want.Nothing g c = within-self c
rows-more want.Morsel got.Nothing c = within-self c
rows-more want.Morsel (got.Packet o) c = within-self c
rows-more want.Left got.Nothing c = within-self c
rows-more want.Left (got.Packet o) c = within-self c
rows-more want.Right got.Nothing c = within-self c
rows-more want.Right (got.Packet o) c = within-self c
rows-more (want.Packet i) got.Nothing c = within-self c
rows-more (want.Packet i) (got.Input p) c = within-self c

closed-push : (ps : List PacketView) (p : PacketView) → is_closed ps ≡ false → closes p.content ≡ false → is_closed (ps ++ p ∷ []) ≡ false
closed-push [] p h e = rw e refl
closed-push (q ∷ ps) p h e =
    let first : closes q.content ≡ false = or-first (closes q.content) (is_closed ps) h in
    let rest : is_closed ps ≡ false = or-second (closes q.content) (is_closed ps) h in
    rw first (closed-push ps p rest e)
  where
    or-first : (a b : Bool) → (a || b) ≡ false → a ≡ false
    or-first false b e = refl
    or-first true b e = e

    or-second : (a b : Bool) → (a || b) ≡ false → b ≡ false
    or-second false b e = e
    or-second true b e = cc

-- a producer stays open where a packet of rows comes
pub still-open : (j i : ℕ) (came : ℕ → List PacketView) (p : PacketView) → closes p.content ≡ false → is_closed (came j) ≡ false → is_closed (with_packet came i (Some p) j) ≡ false
still-open j i came p e h = elim (eqb_tells j i) [
  | inl s ↦ rw s.0 (closed-push (came j) p h e)
  | inr s ↦ rw s.0 h
]

-- and where a packet of another one comes
pub other-open : (j i : ℕ) (came : ℕ → List PacketView) (p : PacketView) → j ≢ i → is_closed (came j) ≡ false → is_closed (with_packet came i (Some p) j) ≡ false
other-open j i came p ne h = elim (eqb_tells j i) [
  | inl s ↦ absurd (ne s.1)
  | inr s ↦ rw s.0 h
]
