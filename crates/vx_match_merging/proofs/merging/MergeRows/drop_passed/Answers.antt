use Rattle.std.proofs.Common.{arith, ◌≡◌, ◌<◌, ◌≤◌, length, true, sym, subst, inl, inr}
use Rattle.std.proofs.lemmas.Bool.{cases_lt}
use Rattle.vx_match_merging.specs.Merged.{MergeView}
use Rattle.vx_match_merging.proofs.MergeCalls.{call-dropped}
use Rattle.vx_match_merging.proofs.merging.MergeRows.drop_passed.Goals as goal

pub returns-clause-joined : goal.returns-clause-joined
returns-clause-joined c = λ ls rs ys h.
    let n = c.passed-passed.result in
    let none = c.passed-passed.ensures.none in
    let some = c.passed-passed.ensures.some in
    let nz = c.if-passed-eq0.false in
    let few : n < length c.args.self.now.right.rows = elim (cases_lt 0 (length c.args.self.now.right.rows)) [ inl l ↦ some l | inr g ↦ absurd (let z : n ≡ 0 = none (omega (arith, g)) in omega (arith, z, nz)) ] in
    let near : n < length c.self.inside.right.rows = subst (λ (m : MergeView). n < length m.right.rows) (sym c.self.view_is) few in
    let run : (c.self.inside.left_ended ≡ true → c.self.inside.next < length c.self.inside.left.rows) → n ≤ c.self.inside.start =
    subst (λ (m : MergeView). (m.left_ended ≡ true → m.next < length m.left.rows) → n ≤ m.start) (sym c.self.view_is) c.passed-passed.ensures.run in
    call-dropped _ _ c.self.view_is ls rs ys h n c.len.result c.in_ok-self-inside.field-0 c.saturating_sub-self-inside.result c.saturating_sub-self-inside-2.result c.len.ensures c.in_ok-self-inside.ensures.rows near run
    c.self.invariant.3 c.self.invariant.4 c.saturating_sub-self-inside.ensures c.saturating_sub-self-inside-2.ensures
