use Rattle.std.proofs.Common.{arith, ◌≡◌, ◌∙◌, ◌+◌, ◌++◌, ap, sym, subst, map, flat_map, take, length, ℕ, [], inl, inr}
use Rattle.std.proofs.lemmas.Bool.{cases_lt}
use Rattle.std.specs.List.{zip}
use Rattle.std.proofs.lemmas.List.{length-append}
use Rattle.vx_rows.specs.View.{row, ArePositions}
use Rattle.vx_match_join.specs.Build.{ArePairs}
use Rattle.vx_match_join.specs.Sides.{side_rows}
use Rattle.vx_match_keys.specs.Matched.{matched}
use Rattle.vx_match_join.proofs.PairFacts.{pairs-long, pairs-none}
use Rattle.vx_match_join.proofs.join.Build.join_chunk.Goals as goal
use Rattle.vx_match_join.proofs.join.Build.join_chunk.Goals.{then-loop-taken-test+else-len-room, else-loop-taken-test}

pub loop-taken-init : goal.loop-taken-init
loop-taken-init c =
    let lefts = c.new.ensures.items in
    let rights = c.new-2.ensures.items in
    record {
      within = omega arith;
      start = λ _. ap length lefts;
      pairs = subst (λ ls. ArePairs c.args.chunk.now.rows c.args.self.now.rows ls c.new-2.result.items []) (sym lefts)
          (subst (λ rs. ArePairs c.args.chunk.now.rows c.args.self.now.rows [] rs []) (sym rights) (pairs-none c.args.chunk.now.rows c.args.self.now.rows));
    }

pub loop-taken-preserved : goal.loop-taken-preserved
loop-taken-preserved c =
    let more = c.in_ok-taken.ensures.more in
    record {
      within = c.in_ok-taken.ensures.end;
      start = λ none. absurd (omega (arith, none, more));
      pairs = c.in_ok-taken.ensures.pairs c.loop-taken.invariant.pairs;
    }

pub push_joined-requires-clause-left : goal.push_joined-requires-clause-left
push_joined-requires-clause-left c = subst (ArePositions (length c.args.chunk.now.rows)) (sym c.as_slice-lefts.ensures.value) c.loop-taken.invariant.pairs.lefts_are

pub push_joined-requires-clause-right : goal.push_joined-requires-clause-right
push_joined-requires-clause-right c =
    let n : length (side_rows c.self.inside.rows).rows ≡ length c.args.self.now.rows = ap (λ b. length b.rows) c.self.view_is in
    subst (λ m. ArePositions m c.as_slice-rights.result.now) (sym n) (subst (ArePositions (length c.args.self.now.rows)) (sym c.as_slice-rights.ensures.value) c.loop-taken.invariant.pairs.rights_are)

pub push_joined-requires-clause-many : goal.push_joined-requires-clause-many
push_joined-requires-clause-many c = ap length c.as_slice-lefts.ensures.value ∙ (c.loop-taken.invariant.pairs.many ∙ sym (ap length c.as_slice-rights.ensures.value))

pub returns-clause-within : goal.returns-clause-within
returns-clause-within c = c.loop-taken.invariant.within

pub returns-clause-rows : goal.returns-clause-rows
returns-clause-rows c =
    let b = c.args.self.now in
    let rows = c.args.chunk.now.rows in
    let h = c.loop-taken.invariant.pairs in
    let made = flat_map (matched c.args.columns.now b.columns b.rows) (take c.loop-taken.taken rows) in
    let lefts-are = c.as_slice-lefts.ensures.value in
    let rights-are = c.as_slice-rights.ensures.value in
    let made-is : map (λ (p : ℕ × ℕ). row c.args.chunk.now p.0 ++ row (side_rows c.self.inside.rows) p.1) (zip c.as_slice-lefts.result.now c.as_slice-rights.result.now) ≡ made =
    (λ j. map (λ (p : ℕ × ℕ). row c.args.chunk.now p.0 ++ row (side_rows c.self.inside.rows) p.1) (zip (lefts-are j) (rights-are j)))
    ∙ ((λ j. map (λ (p : ℕ × ℕ). row c.args.chunk.now p.0 ++ row (record { types = (c.self.view_is j).types; rows = (c.self.view_is j).rows }) p.1) (zip c.loop-taken.pairs.lefts.items c.loop-taken.pairs.rights.items)) ∙ h.rows_are) in
    c.in_ok-push_joined.ensures.rows ∙ ap (λ rs. c.args.joined.now.rows ++ rs) made-is

pub returns-clause-more : goal.returns-clause-more
returns-clause-more c = λ few some.
    let inv = c.loop-taken.invariant in
    elim (cases_lt 0 c.loop-taken.taken) [
      | inl l ↦ l
      | inr g ↦
          let none = inv.start (omega (arith, g)) in
          elim c.loop-taken-test.branch [
            | then-loop-taken-test+else-len-room w ↦ absurd (omega (arith, few, none, w.if-len-room.false, w.len-in-loop-taken-2.ensures, c.len.ensures, c.saturating_sub-room.ensures))
            | else-loop-taken-test w ↦ absurd (omega (arith, g, some, w.loop-taken-test.false, c.len-in-loop-taken.ensures))
          ]
    ]

pub returns-clause-whole : goal.returns-clause-whole
returns-clause-whole c = λ few.
    let b = c.args.self.now in
    let rows = c.args.chunk.now.rows in
    let old = c.args.joined.now.rows in
    let h = c.loop-taken.invariant.pairs in
    let made = flat_map (matched c.args.columns.now b.columns b.rows) (take c.loop-taken.taken rows) in
    let lefts-are = c.as_slice-lefts.ensures.value in
    let rights-are = c.as_slice-rights.ensures.value in
    let made-is : map (λ (p : ℕ × ℕ). row c.args.chunk.now p.0 ++ row (side_rows c.self.inside.rows) p.1) (zip c.as_slice-lefts.result.now c.as_slice-rights.result.now) ≡ made =
    (λ j. map (λ (p : ℕ × ℕ). row c.args.chunk.now p.0 ++ row (side_rows c.self.inside.rows) p.1) (zip (lefts-are j) (rights-are j)))
    ∙ ((λ j. map (λ (p : ℕ × ℕ). row c.args.chunk.now p.0 ++ row (record { types = (c.self.view_is j).types; rows = (c.self.view_is j).rows }) p.1) (zip c.loop-taken.pairs.lefts.items c.loop-taken.pairs.rights.items)) ∙ h.rows_are) in
    let long : length c.push_joined.new.joined.rows ≡ length old + length c.loop-taken.pairs.lefts.items =
    ap length (c.in_ok-push_joined.ensures.rows ∙ ap (λ rs. old ++ rs) made-is)
    ∙ (length-append old made ∙ ap (λ n. length old + n) (pairs-long rows b.rows c.loop-taken.pairs.lefts.items c.loop-taken.pairs.rights.items made h)) in
    elim c.loop-taken-test.branch [
      | then-loop-taken-test+else-len-room w ↦ absurd (omega (arith, few, long, w.if-len-room.false, w.len-in-loop-taken-2.ensures, c.len.ensures))
      | else-loop-taken-test w ↦ omega (arith, w.loop-taken-test.false, c.loop-taken.invariant.within, c.len-in-loop-taken.ensures)
    ]
