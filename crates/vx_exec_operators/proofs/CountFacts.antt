-- The counts of an operator stay those of its ledger.
use Rattle.std.proofs.Common.{ℕ, zero, suc, ◌≡◌, ◌+◌, ◌≤◌, ◌<◌, List, [], ◌∷◌, ◌++◌, length, Some, None, inl, inr, refl, sym, ap, ◌∙◌, arith}
use Rattle.std.proofs.lemmas.Bool.{cases_lt}
use Rattle.std.proofs.lemmas.Bool.Decides.{nat_tests}
use Rattle.std.proofs.lemmas.List.{length-append}
use Rattle.vx_ports.specs.Packets.{PacketView}
use Rattle.vx_ops.specs.Ledger.{Stream, Ledger}
use Rattle.vx_ops.specs.Turn.{heard, fresh_ledger, with_packet, took, after, rows_in, sum_below}
use Rattle.vx_ops.specs.declared.turn.Want.{Want}
use Rattle.vx_ops.specs.declared.turn.Want.TheVariants as want
use Rattle.vx_ops.specs.declared.turn.Got.{Got}
use Rattle.vx_ops.specs.declared.turn.Got.TheVariants as got
use Rattle.vx_ops.specs.declared.turn.Polled.{Polled}
use Rattle.vx_ops.specs.declared.turn.Polled.TheVariants as polled
use Rattle.vx_exec_operators.specs.Counts.{with_morsel, with_got, with_given, AreCounts}
use Rattle.vx_exec_setup.specs.Counts.{capped, no_turns}
use Rattle.vx_exec_setup.specs.declared.counts.OperatorCounts.{OperatorCounts}

capped-more : (a b c : ℕ) → c ≡ capped a → capped (c + b) ≡ capped (a + b)
capped-more a b c e = omega arith

-- a stream's count, with what was returned
heard-counted : (s : Stream) (a : Polled) (c : ℕ) → c ≡ capped (length s.rows) → capped (c + rows_in a) ≡ capped (length (heard s a).rows)
heard-counted s (polled.Gave t) c e = capped-more (length s.rows) (length t.rows) c e ∙ ap capped (sym (length-append s.rows t.rows))
heard-counted s polled.Waiting c e = omega arith
heard-counted s polled.End c e = omega arith
heard-counted s (polled.Fault f) c e = omega arith

sum-zero : (n : ℕ) → sum_below n (λ _. 0) ≡ 0
sum-zero zero = refl
sum-zero (suc n) = let h : sum_below n (λ _. 0) ≡ 0 = sum-zero n in omega arith

-- only the numbers below the bound are seen
sum-same : (n : ℕ) (f g : ℕ → ℕ) → ((j : ℕ) → j < n → g j ≡ f j) → sum_below n g ≡ sum_below n f
sum-same zero f g same = refl
sum-same (suc n) f g same =
    let below : sum_below n g ≡ sum_below n f = sum-same n f g (λ j lt. same j (omega arith)) in
    let here : g n ≡ f n = same n (omega arith) in
    omega arith

-- where one number below the bound grows by 1, so does the sum
sum-one-more : (n i : ℕ) (f g : ℕ → ℕ) → i < n → g i ≡ f i + 1 → ((j : ℕ) → (j ≡ i → ⊥) → g j ≡ f j) → sum_below n g ≡ sum_below n f + 1
sum-one-more zero i f g lt one same = absurd (omega arith)
sum-one-more (suc n) i f g lt one same = elim (cases_lt i n) [
  | inl less ↦
      let below : sum_below n g ≡ sum_below n f + 1 = sum-one-more n i f g less one same in
      let here : g n ≡ f n = same n (λ e. omega arith) in
      omega arith
  | inr ge ↦
      let is : i ≡ n = omega arith in
      let below : sum_below n g ≡ sum_below n f = sum-same n f g (λ j less. same j (λ e. omega arith)) in
      let here : g n ≡ f n + 1 = ap (λ k. g k) (sym is) ∙ one ∙ ap (λ k. f k + 1) is in
      omega arith
]

module _ (came : ℕ → List PacketView) (i : ℕ) (p : PacketView) where
  at-other : (j : ℕ) → (j ≡ i → ⊥) → with_packet came i (Some p) j ≡ came j
  at-other j other = grind (arith, nat_tests)

  at-same : with_packet came i (Some p) i ≡ came i ++ p ∷ []
  at-same = grind (arith, nat_tests)

  length-same : length (with_packet came i (Some p) i) ≡ length (came i) + 1
  length-same = ap length at-same ∙ length-append (came i) (p ∷ [])

  -- the place of the packet is below any place from which on no producer sent one
  place-below : (n : ℕ) → ((j : ℕ) → n ≤ j → with_packet came i (Some p) j ≡ []) → i < n
  place-below n none = elim (cases_lt i n) [
    | inl less ↦ less
    | inr ge ↦
        let empty : length (with_packet came i (Some p) i) ≡ 0 = ap length (none i ge) in
        let some = length-same in
        absurd (omega arith)
  ]

  packet-counted : (c : ℕ) → ((n : ℕ) → ((j : ℕ) → n ≤ j → came j ≡ []) → c ≡ capped (sum_below n (λ j. length (came j))))
      → (n : ℕ) → ((j : ℕ) → n ≤ j → with_packet came i (Some p) j ≡ []) → capped (c + 1) ≡ capped (sum_below n (λ j. length (with_packet came i (Some p) j)))
  packet-counted c counted n none =
      let below = place-below n none in
      let before = counted n (λ j ge. sym (at-other j (λ e. omega arith)) ∙ none j ge) in
      capped-more (sum_below n (λ j. length (came j))) 1 c before
      ∙ ap capped (sym (sum-one-more n i (λ j. length (came j)) (λ j. length (with_packet came i (Some p) j)) below length-same (λ j other. ap length (at-other j other))))

morsel-counted : (c : OperatorCounts) (l : Ledger) (a : Polled) → AreCounts c l → AreCounts (with_morsel c a) (record l { left = heard l.left a })
morsel-counted c l (polled.Gave t) h = record { left = heard-counted l.left (polled.Gave t) c.left h.left; right = h.right; gave = h.gave; packets = h.packets }
morsel-counted c l polled.Waiting h = record { left = h.left; right = h.right; gave = h.gave; packets = h.packets }
morsel-counted c l polled.End h = record { left = h.left; right = h.right; gave = h.gave; packets = h.packets }
morsel-counted c l (polled.Fault f) h = record { left = h.left; right = h.right; gave = h.gave; packets = h.packets }

got-counted : (c : OperatorCounts) (l : Ledger) (w : Want) (g : Got) → AreCounts c l → AreCounts (with_got c w g) (took l w g)
got-counted c l want.Morsel (got.Input p) h = morsel-counted c l p h
got-counted c l want.Left (got.Input p) h = record { left = heard-counted l.left p c.left h.left; right = h.right; gave = h.gave; packets = h.packets }
got-counted c l want.Right (got.Input p) h = record { left = h.left; right = heard-counted l.right p c.right h.right; gave = h.gave; packets = h.packets }
got-counted c l (want.Packet i) (got.Packet (Some p)) h = record { left = h.left; right = h.right; gave = h.gave; packets = packet-counted l.came i p c.packets h.packets }
got-counted c l (want.Packet i) (got.Packet None) h = record { left = h.left; right = h.right; gave = h.gave; packets = h.packets }
got-counted c l w g h = h

-- after a turn the counts are those of the ledger after it
pub turn-counted : (c : OperatorCounts) (l : Ledger) (w : Want) (g : Got) (a : Polled) → AreCounts c l → AreCounts (with_given (with_got c w g) a) (after l w g a)
turn-counted c l w g a h =
    let k = got-counted c l w g h in
    record { left = k.left; right = k.right; gave = heard-counted (took l w g).gave a (with_got c w g).gave k.gave; packets = k.packets }

-- before any turn nothing is counted
pub nothing-counted : AreCounts no_turns fresh_ledger
nothing-counted = record { left = omega arith; right = omega arith; gave = omega arith; packets = λ n none. ap capped (sym (sum-zero n)) }
