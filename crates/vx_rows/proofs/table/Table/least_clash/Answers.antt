use Rattle.std.proofs.Common.{ℕ, ◌+◌, ◌-◌, List, length, arith, sym, subst}
use Rattle.std.specs.Prelude.{Option}
use Rattle.vx_rows_values.specs.Order.{rising}
use Rattle.vx_rows.specs.View.{ArePositions}
use Rattle.vx_rows.proofs.PlaceFacts.{order-there}
use Rattle.vx_rows.proofs.PairFacts.{Least, least-walk, least-end, least-is}
use Rattle.vx_rows.proofs.table.Table.least_clash.Goals as goal

pub with_pair-best-requires-clause-first : goal.with_pair-best-requires-clause-first
with_pair-best-requires-clause-first c =
    let rows = c.args.self.now.rows in
    subst (λ (ps : List ℕ). ArePositions (length rows) ps) (sym c.requires.order) (order-there (rising c.args.cols.now) rows) (c.loop-k.k - 1) 0 (omega arith)

pub with_pair-best-requires-clause-second : goal.with_pair-best-requires-clause-second
with_pair-best-requires-clause-second c =
    let rows = c.args.self.now.rows in
    subst (λ (ps : List ℕ). ArePositions (length rows) ps) (sym c.requires.order) (order-there (rising c.args.cols.now) rows) c.loop-k.k 0 (omega arith)

pub loop-k-preserved : goal.loop-k-preserved
loop-k-preserved c =
    let cols = c.args.cols.now in
    let rows = c.args.self.now.rows in
    let ps = c.args.positions.now in
    record {
      bound = omega arith;
      least = subst (λ (best : Option (ℕ × ℕ)). Least cols rows ps (c.loop-k.k + 1) best) (sym c.with_pair-best.ensures) (least-walk cols rows ps c.loop-k.k c.loop-k.best (omega arith) c.loop-k.invariant.least);
    }

pub returns : goal.returns
returns c =
    let cols = c.args.cols.now in
    let rows = c.args.self.now.rows in
    let ps = c.args.positions.now in
    least-is cols rows ps c.loop-k.best c.requires.order
    (least-end cols rows ps c.loop-k.k c.loop-k.best c.loop-k-test.false c.loop-k.invariant.bound (omega arith) (λ h. omega arith) c.loop-k.invariant.least)
