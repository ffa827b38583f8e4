-- What turns of a merge join cost.
use Rattle.std.proofs.Common.{◌≡◌, ℕ, ◌+◌, ◌*◌, ◌<◌, ◌≤◌, true, false, length, nat_lt, refl, ap, ◌∙◌, subst, arith}
use Rattle.std.proofs.lemmas.Bool.Decides.{nat_tests}
use Rattle.std.proofs.lemmas.Nat.{mul-le}
use Rattle.vx_match_merging.specs.Merged.{MergeView, HasSameInputs, merge_need}
use Rattle.vx_match_merging.specs.AtHand.{lefts_at_hand, rights_at_hand, rows_at_hand, pairs_at_hand}
use Rattle.vx_match_merging.specs.declared.merging.MergeNeed.{MergeNeed}
use Rattle.vx_match_merging.specs.declared.merging.MergeNeed.TheVariants as need
use Rattle.vx_match_merging.proofs.MergeTurns.{need-left, need-right, need-end}
use Rattle.vx_match_merging.proofs.GoesOn.{same-lefts, same-rights}
use Rattle.vx_ops.specs.Turn.{Coming, Pays}
use Rattle.vx_ops.specs.declared.turn.Polled.{Polled}
use Rattle.vx_ops.specs.declared.turn.Polled.TheVariants as polled
use Rattle.vx_ops.proofs.Costs.{pays-before}
use Rattle.vx_match.specs.MergeJoin.{may_join, may_idle, until_ended, own_where}

module _ (a b : MergeView) (c : Coming) (i : HasSameInputs a b) (on : a.next ≤ b.next) where
  -- rows were joined
  pub joins-pay : (n : ℕ) → pairs_at_hand b + n ≤ pairs_at_hand a → may_join b c + n ≤ may_join a c
  joins-pay n few =
      let r = same-rights a b i in
      let l = same-lefts a b i in
      let less : lefts_at_hand b ≤ lefts_at_hand a = omega (arith, l, on) in
      let later : lefts_at_hand b * c.right ≤ lefts_at_hand a * c.right = mul-le (lefts_at_hand b) c.right (lefts_at_hand a) c.right less (omega arith) in
      let fewer : lefts_at_hand b * length a.right.rows + n ≤ lefts_at_hand a * length a.right.rows = subst (λ k. lefts_at_hand b * k + n ≤ lefts_at_hand a * length a.right.rows) r few in
      rw r (omega (arith, later, fewer))

  same-ends : until_ended b.left_ended + until_ended b.right_ended ≡ until_ended a.left_ended + until_ended a.right_ended
  same-ends =
      let l = ap until_ended i.left_ended in
      let r = ap until_ended i.right_ended in
      omega (arith, l, r)

  -- it is idle no more often
  pub joins-idle : a.end ≤ b.end → may_idle b c ≤ may_idle a c
  joins-idle ends =
      let l = same-lefts a b i in
      let r = same-rights a b i in
      let e = same-ends in
      omega (arith, l, r, e, on, ends)

  pub joins-fewer : rows_at_hand b < rows_at_hand a → may_idle b c + 1 ≤ may_idle a c
  joins-fewer less = let e = same-ends in omega (arith, e, less)

  -- once all is joined, all stays joined
  pub stays-ended : merge_need a ≡ need.End → merge_need b ≡ need.End
  stays-ended e =
      let n = need-end a e in
      let l = same-lefts a b i in
      let none : nat_lt b.next (length b.left.rows) ≡ false = past b.next (length b.left.rows) (let past = n.0 in omega (arith, l, on, past)) in
      let left : b.left_ended ≡ true = i.left_ended ∙ n.1 in
      let right : b.right_ended ≡ true = i.right_ended ∙ n.2 in
      rw (none, left, right) refl
    where
      past : (n m : ℕ) → m ≤ n → nat_lt n m ≡ false
      past n m le = grind (arith, nat_tests)

-- what is returned where no row was joined
pub concluded : (n : MergeNeed) (m i m' i' later rest : ℕ) (p : Polled) → m' ≤ m → i' ≤ i → (n ≡ need.Nothing → i' + 1 ≤ i) → (n ≡ need.End → p ≡ polled.End)
    → Pays 0 m' i' later rest p → Pays (own_where n) m i later rest p
concluded need.Nothing m i m' i' later rest p most idle less end h = pays-before 0 1 m i m' i' later rest p most (less refl) h
concluded need.End m i m' i' later rest p most idle less end h =
    let P : Polled → Type 0 = λ q. Pays 0 m' i' later rest q in
    let r = subst P (end refl) h in
    let rows = r.rows in
    let turns = r.turns in
    rw (end refl) (record { rows = omega (arith, most, rows); turns = omega (arith, idle, turns) })
concluded need.Left m i m' i' later rest p most idle less end h = pays-before 0 0 m i m' i' later rest p most (omega (arith, idle)) h
concluded need.Right m i m' i' later rest p most idle less end h = pays-before 0 0 m i m' i' later rest p most (omega (arith, idle)) h

module _ (a b : MergeView) (c : Coming) (n : ℕ) where
  -- left rows came
  pub lefts-pay : lefts_at_hand b ≤ lefts_at_hand a + n → b.right ≡ a.right → may_join b c ≤ may_join a (record c { left = c.left + n })
  lefts-pay few same =
      let r : length b.right.rows ≡ length a.right.rows = ap (λ t. length t.rows) same in
      rw r (mul-le (lefts_at_hand b + c.left) (length a.right.rows + c.right) (lefts_at_hand a + (c.left + n)) (length a.right.rows + c.right) (omega (arith, few)) (omega arith))

  pub lefts-idle : lefts_at_hand b ≤ lefts_at_hand a + n → b.right ≡ a.right → b.end ≡ a.end → b.left_ended ≡ a.left_ended → b.right_ended ≡ a.right_ended
      → may_idle b c ≤ may_idle a (record c { left = c.left + n })
  lefts-idle few same ends left right =
      let r : length b.right.rows ≡ length a.right.rows = ap (λ t. length t.rows) same in
      let l = ap until_ended left in
      let s = ap until_ended right in
      omega (arith, few, r, ends, l, s)

  -- right rows came
  pub rights-pay : length b.right.rows ≤ length a.right.rows + n → b.left ≡ a.left → b.next ≡ a.next → may_join b c ≤ may_join a (record c { right = c.right + n })
  rights-pay few same next =
      let l : length b.left.rows ≡ length a.left.rows = ap (λ t. length t.rows) same in
      mul-le (lefts_at_hand b + c.left) (length b.right.rows + c.right) (lefts_at_hand a + c.left) (length a.right.rows + (c.right + n)) (omega (arith, l, next)) (omega (arith, few))

  pub rights-idle : rights_at_hand b ≤ rights_at_hand a + n → b.left ≡ a.left → b.next ≡ a.next → b.left_ended ≡ a.left_ended → b.right_ended ≡ a.right_ended
      → may_idle b c ≤ may_idle a (record c { right = c.right + n })
  rights-idle few same next left right =
      let l : length b.left.rows ≡ length a.left.rows = ap (λ t. length t.rows) same in
      let e = ap until_ended left in
      let s = ap until_ended right in
      omega (arith, few, l, next, e, s)

-- an input ended
pub left-end-pays : (a b : MergeView) (c : Coming) → b ≡ record a { left_ended = true } → may_join b c ≤ may_join a (record c { left = c.left + 0 })
left-end-pays a b c e = rw e (omega arith)

pub left-end-idle : (a b : MergeView) (c : Coming) → b ≡ record a { left_ended = true } → merge_need a ≡ need.Left → may_idle b c + 1 ≤ may_idle a (record c { left = c.left + 0 })
left-end-idle a b c e n =
    let runs = ap until_ended (need-left a n).1 in
    rw e (omega (arith, runs))

pub right-end-pays : (a b : MergeView) (c : Coming) → b ≡ record a { right_ended = true } → may_join b c ≤ may_join a (record c { right = c.right + 0 })
right-end-pays a b c e = rw e (omega arith)

pub right-end-idle : (a b : MergeView) (c : Coming) → b ≡ record a { right_ended = true } → merge_need a ≡ need.Right → may_idle b c + 1 ≤ may_idle a (record c { right = c.right + 0 })
right-end-idle a b c e n =
    let runs = ap until_ended (need-right a n) in
    rw e (omega (arith, runs))
