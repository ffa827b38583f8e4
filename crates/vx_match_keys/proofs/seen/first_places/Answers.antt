use Rattle.std.proofs.Common.{[], ◌+◌, ◌<◌, ◌++◌, arith, sym, ap, ◌∙◌, subst, length, map, get_or, take_all}
use Rattle.indexmap.specs.IndexSet.{insert_all}
use Rattle.vx_rows_values.specs.Values.{row_eq}
use Rattle.vx_rows.specs.View.{ArePositions}
use Rattle.vx_match_keys.proofs.NumberFacts.{numbers-long, places-step, positions-step}
use Rattle.vx_match_keys.proofs.seen.first_places.Goals as goal

pub loop-i-preserved : goal.loop-i-preserved
loop-i-preserved c =
    let inv = c.loop-i.invariant in
    let i = c.loop-i.i in
    let ps = c.loop-i.places.items in
    let b = c.is_next-new.result in
    record {
      there = subst (ArePositions (i + 1)) (sym c.in_ok-push_place_if.ensures) (positions-step i ps b inv.there);
      new = λ ks xs known is.
          let long = ap length is ∙ numbers-long ks xs in
          let near : i < length xs = omega (arith, c.loop-i-test.true, long) in
          let here = ap (λ ns. get_or ns i 0) is in
          places-step ks xs ps i (get_or c.args.numbers.now i 0) b near here
          (λ e. let y = c.is_next-new.ensures.yes e in omega (arith, y, known, c.len.ensures))
          (λ e n. c.is_next-new.ensures.no e (omega (arith, n, known, c.len.ensures)))
          (inv.new ks xs known is)
          ∙ ap (λ qs. ks ++ map (λ j. get_or xs j []) qs) (sym c.in_ok-push_place_if.ensures);
    }

pub returns-clause-new : goal.returns-clause-new
returns-clause-new c = λ ks xs known is.
    let i = c.loop-i.i in
    let long = ap length is ∙ numbers-long ks xs in
    sym (ap (insert_all row_eq ks) (take_all i xs (omega (arith, c.loop-i-test.false, long)))) ∙ c.loop-i.invariant.new ks xs known is
