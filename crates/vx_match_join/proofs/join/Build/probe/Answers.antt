use Rattle.std.proofs.Common.{arith, ◌≡◌, ◌∙◌, ◌<◌, ◌≤◌, ◌++◌, ap, flat_map, take, length, ◌-◌, take_all, inl, inr}
use Rattle.std.proofs.lemmas.Bool.{cases_lt}
use Rattle.vx_rows_views.specs.Chunks.{all_rows}
use Rattle.vx_rows_views.proofs.Facts.{length-slice}
use Rattle.vx_match_keys.specs.Matched.{matched}
use Rattle.vx_match_join.proofs.PairFacts.{made-next, within-next, next-long, none-left, front-rest}
use Rattle.vx_match_join.proofs.join.Build.probe.Goals as goal
use Rattle.vx_match_join.proofs.join.Build.probe.Goals.{then-loop-next-test+else-len-room, else-loop-next-test}

pub loop-next-preserved : goal.loop-next-preserved
loop-next-preserved c =
    let inv = c.loop-next.invariant in
    let b = c.args.self.now in
    let ts = c.chunks-chunks.result.now in
    let k = c.loop-next.next in
    let t = c.index-chunks-next.result in
    let n = c.in_ok-more.more in
    let f = matched c.args.columns.now b.columns b.rows in
    let near = c.loop-next-test.true in
    let few : length c.loop-next.joined.rows < c.max-room.result = omega (arith, c.if-len-room.true, c.len.ensures) in
    let at = inv.whole few in
    let long = next-long ts k t near c.index-chunks-next.is in
    record {
      same = c.in_ok-more.ensures.same ∙ inv.same;
      types = c.in_ok-more.ensures.types ∙ inv.types;
      within = within-next ts k n c.loop-next.taken t near c.index-chunks-next.is at c.in_ok-more.ensures.within;
      rows = c.in_ok-more.ensures.rows
          ∙ ((λ j. c.loop-next.joined.rows ++ flat_map (matched c.args.columns.now (inv.same j).columns (inv.same j).rows) (take n t.rows))
          ∙ (ap (λ rs. rs ++ flat_map f (take n t.rows)) inv.rows ∙ made-next f ts k n c.loop-next.taken t near c.index-chunks-next.is at c.in_ok-more.ensures.within));
      whole = λ l. let all = c.in_ok-more.ensures.whole l in omega (arith, at, all, long);
      start = λ z. let empty = none-left n (length t.rows) (c.in_ok-more.ensures.more few) (omega (arith, z)) in omega (arith, z, at, empty, long);
    }

pub returns-clause-rows : goal.returns-clause-rows
returns-clause-rows c =
    let b = c.args.self.now in
    let xs = c.args.batch.rows in
    let all = c.chunks-chunks.ensures.rows in
    let taken = c.loop-next.taken in
    let long = ap length all in
    let within : taken ≤ length xs = omega (arith, c.loop-next.invariant.within, long) in (
      take taken xs,
      ap (λ rs. take taken xs ++ rs) c.in_ok-rest.ensures.rows ∙ front-rest xs taken c.len-count.result within c.len-count.ensures,
      λ on l r. c.loop-next.invariant.rows ∙ (λ j. flat_map (matched (l j) (r j) b.rows) (take taken (all j))),
    )

pub overflow_add-taken : goal.overflow_add-taken
overflow_add-taken c =
    let inv = c.loop-next.invariant in
    let few : length c.loop-next.joined.rows < c.max-room.result = omega (arith, c.if-len-room.true, c.len.ensures) in
    let within = within-next c.chunks-chunks.result.now c.loop-next.next c.in_ok-more.more c.loop-next.taken c.index-chunks-next.result c.loop-next-test.true c.index-chunks-next.is (inv.whole few) c.in_ok-more.ensures.within in
    let all = ap length c.chunks-chunks.ensures.rows in
    omega (arith, within, all, c.len-count.ensures, c.len-count.type_inv)

pub returns-clause-progress : goal.returns-clause-progress
returns-clause-progress c = λ some.
    let b = c.args.self.now in
    let f = matched c.args.columns.now b.columns b.rows in
    let xs = c.args.batch.rows in
    let ts = c.chunks-chunks.result.now in
    let all = ap length c.chunks-chunks.ensures.rows in
    let inv = c.loop-next.invariant in
    let taken = c.loop-next.taken in
    let rest : length c.in_ok-rest.rest.rows ≡ c.len-count.result - taken =
    ap length c.in_ok-rest.ensures.rows ∙ length-slice xs taken c.len-count.result (omega (arith, inv.within, all, c.len-count.ensures)) (omega (arith, c.len-count.ensures)) in
    let nothing : taken ≡ 0 → ⊥ = λ z.
    let none : length c.loop-next.joined.rows ≡ 0 = ap length inv.rows ∙ ap (λ n. length (flat_map f (take n (all_rows ts)))) z in
    let start = inv.start z in
    elim c.loop-next-test.branch [
      | then-loop-next-test+else-len-room w ↦ omega (arith, none, w.if-len-room.false, w.len.ensures, c.max-room.ensures)
      | else-loop-next-test w ↦
          let past = w.loop-next-test.false in
          let whole = ap (λ us. length (all_rows us)) (take_all c.loop-next.next ts past) in
          omega (arith, start, whole, all, some)
    ] in
    let positive : 0 < taken = elim (cases_lt 0 taken) [
      | inl l ↦ l
      | inr g ↦ absurd (nothing (omega (arith, g)))
    ] in
    omega (arith, rest, positive, some, c.len-count.ensures)
