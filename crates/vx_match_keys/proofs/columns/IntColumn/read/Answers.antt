use Rattle.std.proofs.Common.{arith, ◌≡◌, ◌+◌, ◌≤◌, ℕ, ℤ, pos, List, map, sym, ap, ◌∙◌, length, get_or}
use Rattle.std.specs.Prelude.{slice_range}
use Rattle.std.proofs.lemmas.List.{length-map}
use Rattle.vx_rows_values.specs.Values.{Row}
use Rattle.vx_rows.specs.Numbers.{seen_numbers}
use Rattle.vx_rows_views.specs.Seen.{seen_positions}
use Rattle.vx_match_keys.specs.Columns.{number_key, number_keys}
use Rattle.vx_match_keys.proofs.ColumnFacts.{range-room, range-keys, listed-keys}
use Rattle.vx_match_keys.proofs.columns.IntColumn.read.Goals as goal

-- the rows are as many as the positions
rows-long : (numbers : List ℤ) (ps : List ℕ) (rows : List Row) → number_keys numbers ps ≡ rows → length ps ≡ length rows
rows-long numbers ps rows is = sym (length-map ps (λ q. number_key (get_or numbers q (pos 0)))) ∙ ap length is

pub read_from-requires : goal.read_from-requires
read_from-requires c =
    let t = c.self.inside in
    let long = rows-long (seen_numbers t.numbers) (seen_positions t.at) c.args.self.now c.self.view_is in
    range-room t.at c.in-Range.first c.in-Range.field-1 (length (seen_numbers t.numbers)) c.args.from (length c.args.numbers.now) c.in-Range.is c.self.invariant (omega (arith, long, c.requires)) (omega (arith, c.if-numbers-eq0.false))

pub overflow_add-first : goal.overflow_add-first
overflow_add-first c =
    let t = c.self.inside in
    let long = rows-long (seen_numbers t.numbers) (seen_positions t.at) c.args.self.now c.self.view_is in
    let room = range-room t.at c.in-Range.first c.in-Range.field-1 (length (seen_numbers t.numbers)) c.args.from (length c.args.numbers.now) c.in-Range.is c.self.invariant (omega (arith, long, c.requires)) (omega (arith, c.if-numbers-eq0.false)) in
    let most = c.number_count-count.ensures in
    omega (arith, room, most)

pub returns-in-Range-clause-numbers : goal.returns-in-Range-clause-numbers
returns-in-Range-clause-numbers c =
    let t = c.self.inside in
    let numbers = seen_numbers t.numbers in
    let from = c.args.from in
    let n = length c.args.numbers.now in
    let long = rows-long numbers (seen_positions t.at) c.args.self.now c.self.view_is in
    let within : from + n ≤ length (seen_positions t.at) = omega (arith, long, c.requires) in
    let room = range-room t.at c.in-Range.first c.in-Range.field-1 (length numbers) from n c.in-Range.is c.self.invariant within (omega (arith, c.if-numbers-eq0.false)) in
    ap (map number_key) c.read_from.ensures.numbers
    ∙ (range-keys numbers t.at c.in-Range.first c.in-Range.field-1 from n c.in-Range.is within room
    ∙ ap (λ rows. slice_range rows from (from + n)) c.self.view_is)

pub returns-in-Narrow-clause-numbers : goal.returns-in-Narrow-clause-numbers
returns-in-Narrow-clause-numbers c =
    let t = c.self.inside in
    let numbers = seen_numbers t.numbers in
    let from = c.args.from in
    let to = from + length c.args.numbers.now in
    ap (map number_key) c.read_at.ensures.numbers
    ∙ (listed-keys numbers c.in-Narrow.positions.now from to
    ∙ (ap (λ a. slice_range (number_keys numbers (seen_positions a)) from to) (sym c.in-Narrow.is)
    ∙ ap (λ rows. slice_range rows from to) c.self.view_is))

pub returns-in-Wide-clause-numbers : goal.returns-in-Wide-clause-numbers
returns-in-Wide-clause-numbers c =
    let t = c.self.inside in
    let numbers = seen_numbers t.numbers in
    let from = c.args.from in
    let to = from + length c.args.numbers.now in
    ap (map number_key) c.read_at-in-Wide.ensures.numbers
    ∙ (listed-keys numbers c.in-Wide.positions.now from to
    ∙ (ap (λ a. slice_range (number_keys numbers (seen_positions a)) from to) (sym c.in-Wide.is)
    ∙ ap (λ rows. slice_range rows from to) c.self.view_is))
