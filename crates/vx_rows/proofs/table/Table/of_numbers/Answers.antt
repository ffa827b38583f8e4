use Rattle.std.proofs.Common.{◌≡◌, ℕ, ℤ, zero, suc, ◌<◌, ◌≤◌, ◌∷◌, ◌++◌, [], List, length, map, get_or, pos, true, refl, sym, ap, ◌∙◌, arith}
use Rattle.std.specs.Prelude.{slice_index_or}
use Rattle.vx_rows_values.specs.Values.{num, Row}
use Rattle.vx_rows_values.specs.Types.{fits_64}
use Rattle.vx_rows_values.specs.declared.value.ColType.TheVariants as kind
use Rattle.vx_rows.specs.Columns.{AreRows, rows_of}
use Rattle.vx_rows.specs.declared.column.Column.TheVariants as column
use Rattle.vx_rows.proofs.Below.{map-each_below, each_below-is}
use Rattle.vx_rows.proofs.table.Table.of_numbers.Goals as goal

are-rows : (v : List ℤ) → ((k : ℕ) → k < length v → fits_64 (slice_index_or v k (pos 0)) ≡ true) → AreRows (kind.Int ∷ []) (length v) (column.Int v ∷ [])
are-rows v held = record {
  kinds = refl;
  long = long;
  held = λ k l. rw (held k l) refl;
} where
  long : (k : ℕ) → k < 1 → length v ≤ get_or (length v ∷ []) k 0
  long zero l = omega arith
  long (suc k) l = absurd (omega arith)

rows-are : (v : List ℤ) → rows_of (length v) (column.Int v ∷ []) ≡ map (λ z. num z ∷ []) v
rows-are v =
    let f : ℤ → Row = λ z. num z ∷ [] in
    sym (map-each_below f (length v) (λ k. slice_index_or v k (pos 0))) ∙ ap (map f) (each_below-is v (pos 0))

pub of_columns-requires : goal.of_columns-requires
of_columns-requires c =
    let pushed : c.push.new.self.items ≡ column.Int c.args.numbers.items ∷ [] =
    c.in_ok-push.ensures.items ∙ (ap (λ xs. xs ++ column.Int c.of.result ∷ []) c.new-columns.ensures.items ∙ ap (λ v. column.Int v ∷ []) c.of.ensures.same) in
    let many : c.len-count.result ≡ length c.args.numbers.items = c.len-count.ensures ∙ c.args.numbers.ok.0 in
    let is = are-rows c.args.numbers.items c.of.ensures.held in
    rw (c.in_ok-types.ensures.items, many, pushed) is

pub returns-clause-rows : goal.returns-clause-rows
returns-clause-rows c =
    let pushed : c.push.new.self.items ≡ column.Int c.args.numbers.items ∷ [] =
    c.in_ok-push.ensures.items ∙ (ap (λ xs. xs ++ column.Int c.of.result ∷ []) c.new-columns.ensures.items ∙ ap (λ v. column.Int v ∷ []) c.of.ensures.same) in
    let many : c.len-count.result ≡ length c.args.numbers.items = c.len-count.ensures ∙ c.args.numbers.ok.0 in
    c.of_columns.ensures.rows ∙ rw (many, pushed) (rows-are c.args.numbers.items)
