-- The other forms say the same.
use Rattle.std.proofs.Common.{◌≡◌, ℕ, ◌<◌, ◌≤◌, true, List, arith, is_le}
use Rattle.vx_rows_values.specs.Values.{Val, Row, val_cmp, value_at}
use Rattle.vx_rows_values.specs.Bags.{count}
use Rattle.vx_plan_nodes.specs.Plan.{Route, by_hash, by_range}
use Rattle.vx_plan_nodes.specs.Routes.{range_consumer, sends_by}
use Rattle.vx_rows_values.proofs.KeyFacts.{to-key, from-key}
use Rattle.vx_exec_laws.specs.Forms.{FormsAgree}
use Rattle.vx_exec_laws.proofs.Keys.{count-mono}
use Rattle.vx_exec_laws.proofs.Apart.{val-trans}

-- a hash router that keeps its law, and the ranges, answer below the number of consumers
pub sends-below : (hash : List ℕ → Row → ℕ → ℕ) (bounds : ℕ → List Val) → ((name : List ℕ) (key : Row) (n : ℕ) → 0 < n → hash name key n < n)
    → (r : Route) (key : Row) (n : ℕ) → 0 < n → sends_by hash bounds r key n < n
sends-below hash bounds law (by_hash name) key n some = law name key n some
sends-below hash bounds law (by_range k) key n some = omega arith

-- the ranges rise with the value
range-rises : (bounds : List Val) (v w : Val) (n : ℕ) → is_le (val_cmp v w) ≡ true → range_consumer bounds v n ≤ range_consumer bounds w n
range-rises bounds v w n le =
    let a : count (λ b. is_le (val_cmp b v)) bounds ≤ count (λ b. is_le (val_cmp b w)) bounds
    = count-mono (λ b. is_le (val_cmp b v)) (λ b. is_le (val_cmp b w)) (λ b h. val-trans b v w h le) bounds in
    omega arith

pub sends-rise : (hash : List ℕ → Row → ℕ → ℕ) (bounds : ℕ → List Val) (k : ℕ) (a b : Row) (n : ℕ) → is_le (val_cmp (value_at a 0) (value_at b 0)) ≡ true
    → sends_by hash bounds (by_range k) a n ≤ sends_by hash bounds (by_range k) b n
sends-rise hash bounds k a b n le = range-rises (bounds k) (value_at a 0) (value_at b 0) n le

pub forms-agree : FormsAgree
forms-agree = record {
  key = λ cols xs. (to-key cols xs, from-key cols xs);
  router = λ hash bounds law r key n some. sends-below hash bounds law r key n some;
  rising = range-rises;
}
