use Rattle.std.proofs.Common.{◌≡◌, ℕ, subst, Ok, Err, Result}
use Rattle.std.specs.Prelude.{IfOk}
use Rattle.vx_rows_values.specs.Keys.{first_clash}
use Rattle.vx_rows.specs.Numbers.{AreFirstEqual}
use Rattle.vx_rows.proofs.SpanFacts.{clash-is}
use Rattle.vx_rows.proofs.table.Table.numbers_clash.Goals as goal

if-ok : {X E : Type 0} (P Q : X → Type 0) (r : Result X E) → ((x : X) → P x → Q x) → IfOk r P → IfOk r Q
if-ok P Q (Ok x) f h = f x h
if-ok P Q (Err e) f h = tt

pub returns-in-Some : goal.returns-in-Some
returns-in-Some c =
    let cols = c.args.cols.now in
    let rows = c.args.self.now.rows in
    let numbers = c.args.numbers.now in
    if-ok (AreFirstEqual numbers c.len-count.result) (λ o. o ≡ first_clash cols rows) c.first_equal.result
    (λ o h. clash-is cols rows numbers o c.requires.numbers (subst (λ (n : ℕ). AreFirstEqual numbers n o) c.len-count.ensures h)) c.first_equal.ensures
