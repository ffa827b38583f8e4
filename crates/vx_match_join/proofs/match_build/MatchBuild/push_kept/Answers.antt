use Rattle.std.proofs.Common.{◌≡◌, ◌∙◌, ◌+◌, ◌<◌, ◌++◌, ◌∷◌, [], length, take, ap, sym, arith}
use Rattle.std.specs.Prelude.{cond}
use Rattle.std.specs.Bool.{beq}
use Rattle.vx_rows_views.specs.Selected.{places_of}
use Rattle.vx_rows_views.proofs.Passing.{next-place-here}
use Rattle.vx_match_join.specs.Matching.{left_of_pairs, keeps}
use Rattle.vx_match_join.proofs.PairFacts.{number-in}
use Rattle.vx_match_join.proofs.match_build.MatchBuild.push_kept.Goals as goal

pub is_matched-requires-clause-number : goal.is_matched-requires-clause-number
is_matched-requires-clause-number c =
    let b = c.args.self.now in
    let ns = c.args.numbers.now in
    let i = c.loop-i.i in
    let few : i < length ns = omega (arith, c.loop-i-test.true) in
    number-in (left_of_pairs b.on) b.keys c.args.chunk.now.rows ns c.args.from c.args.to i c.requires.block c.requires.within few c.requires.numbers

pub loop-i-preserved : goal.loop-i-preserved
loop-i-preserved c =
    let b = c.args.self.now in
    let rows = c.args.chunk.now.rows in
    let ns = c.args.numbers.now in
    let i = c.loop-i.i in
    let at = c.args.from + i in
    let few : i < length ns = omega (arith, c.loop-i-test.true) in
    let near : at < length rows = omega (arith, few, c.requires.block, c.requires.within) in
    let next : at + 1 ≡ c.args.from + (i + 1) = omega arith in
    c.in_ok-push_place_if.ensures
    ∙ ((λ j. c.loop-i.invariant j ++ cond (beq (c.is_matched.ensures j) ((c.self.view_is j).matched)) (at ∷ []) [])
    ∙ (sym (next-place-here (keeps b) rows at [] near) ∙ ap (λ n. places_of (keeps b) (take n rows)) next))
