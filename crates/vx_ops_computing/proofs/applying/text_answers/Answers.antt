use Rattle.std.proofs.Common.{◌≡◌, ℕ, ◌+◌, ◌<◌, Some, [], ◌∷◌, ◌++◌, length, get_or, ap, subst, sym, arith, List, Option}
use Rattle.std.proofs.lemmas.List.{length_push}
use Rattle.vx_rows_values.specs.Values.{Val, Row, value_at}
use Rattle.vx_rows_values.specs.ValueView.{val_of}
use Rattle.vx_ops_computing.specs.Operands.{values_at}
use Rattle.vx_ops_computing.proofs.Pushes.{each-push}
use Rattle.vx_ops_computing.proofs.ValueFacts.{some-value}
use Rattle.vx_ops_computing.proofs.applying.text_answers.Goals as goal

pub loop-k-preserved : goal.loop-k-preserved
loop-k-preserved g c =
    let says : List Val → Option Val = g.A.Answers.says c.args.function.now in
    let k = c.loop-k.k in
    let rows = c.loop-k.texts.rows in
    let r : Row = val_of c.in-Some.text ∷ [] in
    let answer = says (values_at c.args.operands.now k) in
    let items : c.push_text.new.texts.rows ≡ rows ++ r ∷ [] = c.in_ok-push_text-in-Some.ensures.rows in
    let P : ℕ → Row → Type 0 = λ j x. says (values_at c.args.operands.now j) ≡ Some (value_at x 0) in
    let Q : List Row → Type 0 = λ xs. (j : ℕ) → j < k + 1 → P j (get_or xs j []) in
    let here : P k r = some-value c.in_ok-text.field-0 c.in-Some.text answer c.in_ok-text.ensures c.in-Some.is in
    let long = c.loop-k.invariant.long in
    let more = length_push rows r in
    let same = ap length items in
    record {
      types = c.in_ok-push_text-in-Some.ensures.types;
      front = c.in_ok-push_text-in-Some.ensures.front;
      long = omega (arith, long, more, same);
      values = subst Q (sym items) (each-push P rows r [] k long c.loop-k.invariant.values here);
    }
