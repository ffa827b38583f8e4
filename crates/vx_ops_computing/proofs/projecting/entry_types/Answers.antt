use Rattle.vx_ops_computing.proofs.Entries.{plain-typed, kept-near}
use Rattle.vx_ops_computing.proofs.projecting.entry_types.Goals as goal

pub bounds-types-kept : goal.bounds-types-kept
bounds-types-kept c =
    let typed = plain-typed c.args.types.now c.args.entries.now c.loop-entry.entry-index c.entry-item.result c.requires c.loop-entry-test.true c.entry-item.is in
    kept-near c.args.types.now c.in-Kept.kept.column (rw c.in-Kept.is at typed)
