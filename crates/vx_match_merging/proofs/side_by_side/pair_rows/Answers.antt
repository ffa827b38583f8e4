use Rattle.std.proofs.Common.{◌≡◌, ◌∙◌, ap, length, map}
use Rattle.vx_rows.specs.View.{row}
use Rattle.vx_match_merging.specs.Merged.{beside, rows_at}
use Rattle.vx_match_keys.proofs.ErrorFacts.{if-ok}
use Rattle.vx_match_merging.proofs.BesideFacts.{read-rows, paired-long}
use Rattle.vx_match_merging.proofs.side_by_side.pair_rows.Goals as goal

pub returns-clause-rows : goal.returns-clause-rows
returns-clause-rows c =
    let a = c.args.left.now in
    let b = c.args.right.now in
    let ls = c.args.pairs.now.left.items in
    let rs = c.args.pairs.now.right.items in
    let xs = c.in_ok-left.left.rows in
    let ys = c.in_ok-right.right.rows in
    let is : beside xs ys ≡ rows_at a b ls rs =
    read-rows a b xs ys ls rs (c.in_ok-left.ensures.rows ∙ ap (map (row a)) c.as_slice.ensures.value) (c.in_ok-right.ensures.rows ∙ ap (map (row b)) c.as_slice-2.ensures.value) in
    if-ok c.side_by_side.result (λ r. r.rows ≡ beside xs ys) (λ r. r.rows ≡ rows_at a b ls rs) (λ r h. h ∙ is) c.side_by_side.ensures.rows

pub returns-clause-count : goal.returns-clause-count
returns-clause-count c =
    let a = c.args.left.now in
    let b = c.args.right.now in
    let ls = c.args.pairs.now.left.items in
    let rs = c.args.pairs.now.right.items in
    if-ok c.side_by_side.result (λ r. r.rows ≡ rows_at a b ls rs) (λ r. length r.rows ≡ length ls) (λ r h. ap length h ∙ paired-long a b ls rs c.requires.many) (returns-clause-rows c)
