use Rattle.std.proofs.Common.{◌≡◌, Option, Result, None, All, vec_len}
use Rattle.vx_rows.specs.View.{RowsView}
use Rattle.vx_catalog.specs.declared.fault.LoadFault.{LoadFault}
use Rattle.vx_catalog_loading.proofs.pieces.unread.Given as goal

abbrev pub invariant-loop : goal.invariant-loop
invariant-loop l = (vec_len l.parts ≡ l.counter) × All (λ (p : Option (Result RowsView LoadFault)). p ≡ None) l.parts.items
