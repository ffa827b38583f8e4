use Rattle.std.proofs.Common.{◌≡◌, ℕ, ℤ, zero, suc, ◌+◌, ◌-◌, ◌<◌, List, [], ◌∷◌, Vec, Global, length, map, get_or, take, take_all, pos, sym, ap, ◌∙◌, arith}
use Rattle.std.specs.Prelude.{slice_range}
use Rattle.std.specs.Vec.{with_items}
use Rattle.std.proofs.lemmas.List.{length-map, with_items_is}
use Rattle.vx_rows_values.specs.Values.{Row, num, value_at, pick}
use Rattle.vx_rows.specs.View.{RowsView, row}
use Rattle.vx_match_keys.specs.Columns.{number_key}
use Rattle.vx_ops_computing.specs.declared.numbers.Gathered.TheVariants as gathered
use Rattle.vx_ops_computing.specs.Numbers.{IsGathered}
use Rattle.vx_ops_computing.proofs.numbers.copied_numbers.Goals as goal

same-keys : (column : ℕ) (rows : List Row) (numbers : List ℤ) → map number_key numbers ≡ map (pick (column ∷ [])) rows → (k : ℕ) → k < length rows → value_at (get_or rows k []) column ≡ num (get_or numbers k (pos 0))
same-keys column [] numbers e k l = absurd (omega arith)
same-keys column (r ∷ rs) [] e k l = cc
same-keys column (r ∷ rs) (z ∷ zs) e zero l = cc
same-keys column (r ∷ rs) (z ∷ zs) e (suc k) l = let t : map number_key zs ≡ map (pick (column ∷ [])) rs = cc in same-keys column rs zs t k (omega arith)

read-numbers : (n column : ℕ) (rows keys : List Row) (numbers : List ℤ) → keys ≡ map (pick (column ∷ [])) rows → length rows ≡ n → length keys ≡ n → map number_key numbers ≡ slice_range keys 0 (0 + n)
    → (k : ℕ) → k < n → value_at (get_or rows k []) column ≡ num (get_or numbers k (pos 0))
read-numbers n column rows keys numbers are many long read k l =
    let whole : 0 + n - 0 ≡ n = omega arith in
    same-keys column rows numbers (read ∙ (ap (λ m. take m keys) whole ∙ (take_all n keys (omega (arith, long)) ∙ are))) k (omega (arith, many, l))

is-gathered : (n column : ℕ) (t : RowsView) (keys : List Row) (numbers : List ℤ) (v : Vec ℤ Global) → v.items ≡ numbers → keys ≡ map (pick (column ∷ [])) t.rows → length t.rows ≡ n → length numbers ≡ n
    → map number_key numbers ≡ slice_range keys 0 (0 + n) → IsGathered n (λ k. value_at (row t k) column) (gathered.Copied v)
is-gathered n column t keys numbers v is are many long read =
    let same = ap length is in
    let keys-long : length keys ≡ n = ap length are ∙ (length-map t.rows (pick (column ∷ [])) ∙ many) in
    record {
      there = λ k l. omega (arith, same, long, l);
      same = λ k l. read-numbers n column t.rows keys numbers are many keys-long read k l ∙ ap (λ (xs : List ℤ). num (get_or xs k (pos 0))) (sym is);
    }

pub returns-in_ok-resize-in-Some : goal.returns-in_ok-resize-in-Some
returns-in_ok-resize-in-Some c =
    let many : length c.as_mut_slice.result.now ≡ c.args.count = c.as_mut_slice.ensures.len ∙ c.in_ok-resize-in-Some.ensures.len in
    let long : length c.read.new.numbers ≡ c.args.count = c.read.ensures.len ∙ many in
    let read : map number_key c.read.new.numbers ≡ slice_range c.in-Some.found 0 (0 + c.args.count) = c.read.ensures.numbers ∙ ap (λ k. slice_range c.in-Some.found 0 (0 + k)) many in
    let v = with_items c.resize.new.self c.read.new.numbers in
    let is : v.items ≡ c.read.new.numbers = with_items_is c.resize.new.self c.read.new.numbers (c.read.ensures.len ∙ c.as_mut_slice.ensures.len) in
    is-gathered c.args.count c.args.column c.args.chunk.now c.in-Some.found c.read.new.numbers v is c.in-Some.ensures c.requires.long long read
