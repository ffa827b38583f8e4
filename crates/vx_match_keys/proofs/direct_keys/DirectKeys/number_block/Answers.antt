use Rattle.std.proofs.Common.{◌≡◌, ◌+◌, ◌-◌, ◌≤◌, arith, refl, sym, ap, ◌∙◌, map, take, length}
use Rattle.indexmap.specs.IndexSet.{insert_all}
use Rattle.vx_rows_values.specs.Values.{row_eq}
use Rattle.vx_rows_views.proofs.Facts.{length-slice}
use Rattle.vx_match_keys.specs.Columns.{number_key}
use Rattle.vx_match_keys.specs.Numbers.{numbers_of}
use Rattle.vx_match_keys.proofs.BlockFacts.{block-keys, block-numbers, filled}
use Rattle.vx_match_keys.proofs.direct_keys.DirectKeys.number_block.Goals as goal

pub returns-then-start-taken-clause-numbers : goal.returns-then-start-taken-clause-numbers
returns-then-start-taken-clause-numbers c =
    let inv = c.loop-done.invariant in
    let ints = c.args.keys.now in
    let done = c.loop-done.done in
    let known = c.find_known-known.result in
    let taken = c.in_ok-taken.taken in
    let end = done + c.part_end.result in
    let order : done + known ≤ end = omega (arith, c.part_end.ensures.from) in
    let fits : end ≤ length ints = omega (arith, c.part_end.ensures.to) in
    let short = length-slice ints (done + known) end order fits in
    let most : taken ≤ end - (done + known) = omega (arith, short, c.in_ok-taken.ensures.within) in
    filled c.loop-done.found c.find_known-known.new.found c.number_part.new.found _ _ done known taken _ refl (omega arith) (omega arith) (omega arith)
    ∙ block-numbers c.args.self.now c.loop-done.self ints done known taken end order fits most inv.keys c.find_known-known.ensures.keys _ _ _ inv.numbers c.find_known-known.ensures.numbers c.in_ok-taken.ensures.numbers

pub returns-then-start-taken-clause-keys : goal.returns-then-start-taken-clause-keys
returns-then-start-taken-clause-keys c =
    let ints = c.args.keys.now in
    let done = c.loop-done.done in
    let known = c.find_known-known.result in
    let taken = c.in_ok-taken.taken in
    let end = done + c.part_end.result in
    let order : done + known ≤ end = omega (arith, c.part_end.ensures.from) in
    let fits : end ≤ length ints = omega (arith, c.part_end.ensures.to) in
    let short = length-slice ints (done + known) end order fits in
    let most : taken ≤ end - (done + known) = omega (arith, short, c.in_ok-taken.ensures.within) in
    c.in_ok-taken.ensures.keys
    ∙ block-keys c.args.self.now c.loop-done.self ints done known taken end order fits most c.loop-done.invariant.keys c.find_known-known.ensures.keys

pub loop-done-preserved : goal.loop-done-preserved
loop-done-preserved c =
    let inv = c.loop-done.invariant in
    let ints = c.args.keys.now in
    let done = c.loop-done.done in
    let known = c.find_known-known.result in
    let taken = c.in_ok-taken.taken in
    let end = done + c.part_end.result in
    let order : done + known ≤ end = omega (arith, c.part_end.ensures.from) in
    let fits : end ≤ length ints = omega (arith, c.part_end.ensures.to) in
    let short = length-slice ints (done + known) end order fits in
    let most : taken ≤ end - (done + known) = omega (arith, short, c.in_ok-taken.ensures.within) in
    let whole : done + known + taken ≡ end = omega (arith, most, c.if-start-taken.false) in
    record {
      within = fits;
      len = omega arith;
      numbers =
          filled c.loop-done.found c.find_known-known.new.found c.number_part.new.found _ _ done known taken end (sym whole) (omega arith) (omega arith) (omega arith)
          ∙ (block-numbers c.args.self.now c.loop-done.self ints done known taken end order fits most inv.keys c.find_known-known.ensures.keys _ _ _ inv.numbers c.find_known-known.ensures.numbers c.in_ok-taken.ensures.numbers
          ∙ ap (λ n. numbers_of c.args.self.now (take n (map number_key ints))) whole);
      keys =
          c.in_ok-taken.ensures.keys
          ∙ (block-keys c.args.self.now c.loop-done.self ints done known taken end order fits most inv.keys c.find_known-known.ensures.keys
          ∙ ap (λ n. insert_all row_eq c.args.self.now (take n (map number_key ints))) whole);
    }
