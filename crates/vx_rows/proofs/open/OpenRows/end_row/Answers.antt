use Rattle.std.proofs.Common.{◌∷◌, [], ◌++◌, ap, ◌∙◌}
use Rattle.vx_rows_values.specs.Values.{Row}
use Rattle.vx_rows.proofs.OpenFacts.{open_rows, open_front, front_ends, row_ended, rows_ended}
use Rattle.vx_rows.specs.Columns.{rows_of}
use Rattle.vx_rows.proofs.open.OpenRows.end_row.Goals as goal

pub invariant_of-self : goal.invariant_of-self
invariant_of-self c =
    let s = c.self.inside in
    let e = front_ends c.args.self.now s.types.items s.count s.filled s.columns.items c.self.view_is c.self.invariant c.requires in
    row_ended s.types.items s.count s.filled c.in-Some.count s.columns.items c.self.invariant e c.in-Some.ensures.1

pub returns-clause-rows : goal.returns-clause-rows
returns-clause-rows c =
    let s = c.self.inside in
    let r = c.args.self.now in
    let e = front_ends r s.types.items s.count s.filled s.columns.items c.self.view_is c.self.invariant c.requires in
    let rows = open_rows r s.types.items s.count s.filled s.columns.items c.self.view_is in
    let front = open_front r s.types.items s.count s.filled s.columns.items c.self.view_is in
    rows_ended s.count s.filled c.in-Some.count s.columns.items e c.in-Some.ensures.1
    ∙ (ap (λ (row : Row). rows_of s.count s.columns.items ++ row ∷ []) front ∙ ap (λ l. l ++ r.front ∷ []) rows)
