use Rattle.std.proofs.Common.{arith, ◌≡◌, ◌≤◌, ◌+◌, ◌++◌, ℤ, ap, ◌∙◌, length, take, length-take}
use Rattle.std.proofs.lemmas.List.{length-take-le, take-append-le}
use Rattle.indexmap.specs.IndexSet.{insert_all}
use Rattle.vx_rows_values.specs.Values.{row_eq}
use Rattle.vx_match_keys.specs.Numbers.{numbers_of}
use Rattle.vx_match_keys.proofs.BlockFacts.{next-keys, next-numbers, read-first}
use Rattle.vx_match_keys.proofs.direct_keys.DirectKeys.number_all.Goals as goal

pub returns-then-taken-block-clause-numbers : goal.returns-then-taken-block-clause-numbers
returns-then-taken-block-clause-numbers c =
    let inv = c.loop-from.invariant in
    let column = c.args.column.now in
    let from = c.loop-from.from in
    let block = c.min-block.result in
    let taken = c.in_ok-taken.taken in
    let most : taken ≤ block = omega (arith, c.if-taken-block.true) in
    let within : from + taken ≤ length column = omega arith in
    let room : length (take block c.loop-from.keys) ≡ block = length-take-le block c.loop-from.keys (omega arith) in
    let places : length (take block c.loop-from.found) ≡ block = length-take-le block c.loop-from.found (omega arith) in
    c.in_ok-extend_from_slice.ensures.items
    ∙ (ap (λ l. c.loop-from.numbers.items ++ l) (take-append-le taken c.number_block.new.found _ (omega arith))
    ∙ next-numbers c.args.self.now c.loop-from.self column _ c.args.numbers.now.items c.loop-from.numbers.items _ from taken within inv.keys
    (read-first column c.read.new.numbers _ from block _ taken room c.read.ensures.len c.read.ensures.numbers most) inv.numbers c.in_ok-taken.ensures.numbers)

pub returns-then-taken-block-clause-keys : goal.returns-then-taken-block-clause-keys
returns-then-taken-block-clause-keys c =
    let column = c.args.column.now in
    let from = c.loop-from.from in
    let block = c.min-block.result in
    let taken = c.in_ok-taken.taken in
    let most : taken ≤ block = omega (arith, c.if-taken-block.true) in
    let within : from + taken ≤ length column = omega arith in
    let room : length (take block c.loop-from.keys) ≡ block = length-take-le block c.loop-from.keys (omega arith) in
    c.in_ok-taken.ensures.keys
    ∙ next-keys c.args.self.now c.loop-from.self column _ from taken within c.loop-from.invariant.keys
    (read-first column c.read.new.numbers _ from block _ taken room c.read.ensures.len c.read.ensures.numbers most)

pub loop-from-preserved : goal.loop-from-preserved
loop-from-preserved c =
    let inv = c.loop-from.invariant in
    let column = c.args.column.now in
    let known = c.args.self.now in
    let first = c.args.numbers.now.items in
    let from = c.loop-from.from in
    let block = c.min-block.result in
    let taken = c.in_ok-taken.taken in
    let whole : taken ≡ block = omega (arith, c.if-taken-block.false, c.in_ok-taken.ensures.within, length-take {A = ℤ}) in
    let most : taken ≤ block = omega (arith, whole) in
    let within : from + taken ≤ length column = omega arith in
    let room : length (take block c.loop-from.keys) ≡ block = length-take-le block c.loop-from.keys (omega arith) in
    let places : length (take block c.loop-from.found) ≡ block = length-take-le block c.loop-from.found (omega arith) in
    record {
      within = omega arith;
      numbers =
          c.in_ok-extend_from_slice.ensures.items
          ∙ (ap (λ l. c.loop-from.numbers.items ++ l) (take-append-le taken c.number_block.new.found _ (omega arith))
          ∙ (next-numbers known c.loop-from.self column _ first c.loop-from.numbers.items _ from taken within inv.keys
          (read-first column c.read.new.numbers _ from block _ taken room c.read.ensures.len c.read.ensures.numbers most) inv.numbers c.in_ok-taken.ensures.numbers
          ∙ ap (λ n. first ++ numbers_of known (take (from + n) column)) whole));
      keys =
          c.in_ok-taken.ensures.keys
          ∙ (next-keys known c.loop-from.self column _ from taken within inv.keys
          (read-first column c.read.new.numbers _ from block _ taken room c.read.ensures.len c.read.ensures.numbers most)
          ∙ ap (λ n. insert_all row_eq known (take (from + n) column)) whole);
    }
