use Rattle.std.proofs.Common.{arith, rules, ℕ, ◌≡◌, ◌≢◌, ◌<◌, ◌≤◌, ◌+◌, ◌⊎◌, ◌∷◌, ◌++◌, [], List, length, inl, inr, sym, subst}
use Rattle.std.proofs.lemmas.Option.{slice_get_within}
use Rattle.vx_morsel_decks.specs.Seats.{SeatView}
use Rattle.vx_exec_assembly.specs.SeatsTaken.{HeldIn}
use Rattle.vx_exec_assembly.proofs.SeatsTaken.{remains-then, remains-apart, held-back}
use Rattle.vx_exec_assembly.proofs.Seating.{held-more}
use Rattle.vx_exec_assembly.proofs.seats.take_seats.Goals as goal

pub overflow_add-place : goal.overflow_add-place
overflow_add-place c =
    let draws = c.args.draws.now in
    let at = c.args.place.now.first + c.loop-w.w in
    let h = c.requires.held c.loop-w.w c.loop-w-test.true in
    let within : at < length draws.items = slice_get_within draws.items at h.1.2.list h.1.2.outer in
    let ok = draws.ok in
    let small = draws.small in
    omega (arith, within, ok.0, ok.1, small)

pub take_seat-requires-clause-held : goal.take_seat-requires-clause-held
take_seat-requires-clause-held c =
    let q = c.args.place.now in
    let w = c.loop-w.w in
    let h = c.requires.held w c.loop-w-test.true in
    let low : q.first + w ≤ q.first + w = omega arith in
    (h.0, c.loop-w.invariant.2.seats (q.first + w) q.scan c.args.number h.0 (inr low) h.1)

pub take_seat-requires-clause-apart : goal.take_seat-requires-clause-apart
take_seat-requires-clause-apart c =
    let q = c.args.place.now in
    let w = c.loop-w.w in
    remains-apart (λ a k. (k ≢ c.args.number) ⊎ (q.first + w ≤ a)) c.args.draws.now.items c.loop-w.draws.items c.loop-w.invariant.2 c.requires.apart

pub loop-w-preserved : goal.loop-w-preserved
loop-w-preserved c =
    let xs = c.args.draws.now.items in
    let ys = c.loop-w.draws.items in
    let q = c.args.place.now in
    let n = c.args.number in
    let w = c.loop-w.w in
    let was = c.loop-w.invariant in
    let h = c.requires.held w c.loop-w-test.true in
    let r = c.take_seat.result in
    let low : q.first + w ≤ q.first + w = omega arith in
    let stays : ℕ → ℕ → Type 0 = λ a k. (k ≢ n) ⊎ (q.first + w ≤ a) in
    let after : ℕ → ℕ → Type 0 = λ a k. (k ≢ n) ⊎ (q.first + (w + 1) ≤ a) in
    let other : ℕ → ℕ → Type 0 = λ a k. (a ≢ q.first + w) ⊎ (k ≢ n) in
    let apart = remains-apart stays xs ys was.2 c.requires.apart in
    let had = held-back stays xs ys was.2 apart (q.first + w) q.scan n h.0 r (inr low) h.1 c.take_seat.ensures.seat in
    let items : c.push.new.self.items ≡ c.loop-w.seats.items ++ r ∷ [] = search rules in
    let split : (a k : ℕ) → after a k → stays a k × other a k = λ a k st. elim st [
      | inl ne ↦ (inl ne, inr ne)
      | inr l ↦ (inr (omega (arith, l)), inl (λ e. absurd (omega (arith, e, l))))
    ] in (
      search rules,
      subst (λ (z : List SeatView). HeldIn xs n q z) (sym items) (held-more xs n q c.loop-w.seats.items w r was.0 was.1 had),
      remains-then stays other after xs ys c.take_seat.new.draws.items split was.2 c.take_seat.ensures.remains,
    )
