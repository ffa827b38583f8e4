use Rattle.std.proofs.Common.{◌∙◌, sym, ap, map, nat_eq}
use Rattle.vx_rows.specs.View.{RowsView}
use Rattle.vx_rows_values.specs.ValueView.{cell_val}
use Rattle.vx_match_keys.specs.Hashed.{key_hash}
use Rattle.vx_match_keys.proofs.NumberFacts.{found-number}
use Rattle.vx_match_keys.proofs.HashedFacts.{missing-here, there-here, clash-here}
use Rattle.vx_match_keys.proofs.column_keys.ColumnKeys.number_or_next.Goals as goal

pub returns-in_default : goal.returns-in_default
returns-in_default c =
    let keys = c.self.inside in
    let same = ap (λ (t : RowsView). t.rows) c.self.view_is in
    c.len-count.ensures
    ∙ missing-here (key_hash keys.seed) (map cell_val c.args.cells.now) c.args.self.now.rows keys.keys.rows keys.hashes.keys c.hash_of-hash.result c.self.invariant same c.hash_of-hash.ensures (sym c.in_default.ensures.index)

pub returns-then-is_key : goal.returns-then-is_key
returns-then-is_key c =
    let keys = c.self.inside in
    let same = ap (λ (t : RowsView). t.rows) c.self.view_is in
    let at = found-number (nat_eq c.hash_of-hash.result) keys.hashes.keys c.in-Some.number (sym c.in-Some.ensures.index) in
    there-here (key_hash keys.seed) (map cell_val c.args.cells.now) c.args.self.now.rows keys.keys.rows keys.hashes.keys c.hash_of-hash.result c.self.invariant same c.hash_of-hash.ensures
    c.in-Some.number at c.in-Some.ensures.within (sym c.is_key.ensures ∙ c.if-is_key.true)

pub returns : goal.returns
returns c =
    let keys = c.self.inside in
    let same = ap (λ (t : RowsView). t.rows) c.self.view_is in
    let at = found-number (nat_eq c.hash_of-hash.result) keys.hashes.keys c.in-Some.number (sym c.in-Some.ensures.index) in
    c.len-count.ensures
    ∙ clash-here (key_hash keys.seed) (map cell_val c.args.cells.now) c.args.self.now.rows keys.keys.rows keys.hashes.keys c.hash_of-hash.result c.self.invariant same c.hash_of-hash.ensures
    c.in-Some.number at c.in-Some.ensures.within c.len-hashes.ensures.unique (sym c.is_key.ensures ∙ c.if-is_key.false)
