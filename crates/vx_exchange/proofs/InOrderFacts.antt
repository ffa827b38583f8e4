-- A consumer end that takes its producers in order.
use Rattle.std.proofs.Common.{◌≡◌, ℕ, zero, suc, ◌+◌, ◌<◌, ◌≤◌, true, List, [], ◌++◌, sym, ap, ap₂, ◌∙◌, subst, arith, append-nil, append_assoc}
use Rattle.vx_rows_values.specs.Values.{Row}
use Rattle.vx_rows.specs.Lists.{IsBeginning}
use Rattle.vx_rows_values.specs.Order.{sorted}
use Rattle.vx_rows_values.specs.declared.order.OrderEntry.{OrderEntry}
use Rattle.vx_ops.specs.Ledger.{Ledger, ConsumerEnd, receive, Makes}
use Rattle.vx_plan_nodes.specs.Streams.{Streams, joined, Dealt}
use Rattle.vx_ports.specs.Packets.{rows_of}
use Rattle.vx_exchange.specs.InOrder.{StandsInOrder, InOrderLaw}
use Rattle.vx_exchange.proofs.Arrivals.{sorted-on_none}
use Rattle.vx_exchange_ends.proofs.Joined.{joined-dealt, joined-ext}

-- behind k streams there is nothing
joined-short : (d k : ℕ) (s : Streams) → ((i : ℕ) → k ≤ i → i < d + k → s i ≡ []) → joined (d + k) s ≡ joined k s
joined-short zero k s h = let e : 0 + k ≡ k = omega arith in ap (λ n. joined n s) e
joined-short (suc d) k s h =
    let e : suc d + k ≡ suc (d + k) = omega arith in
    ap (λ n. joined n s) e ∙ (ap₂ (λ a b. a ++ b) (joined-short d k s (λ i a b. h i a (omega arith))) (h (d + k) (omega arith) (omega arith)) ∙ append-nil (joined k s))

all-joined : (n k : ℕ) (s : Streams) → k < n → ((i : ℕ) → k < i → i < n → s i ≡ []) → joined n s ≡ joined (suc k) s
all-joined n k s l h =
    let e : Rattle.std.proofs.Common.◌-◌ n (suc k) + suc k ≡ n = omega arith in
    ap (λ m. joined m s) (sym e) ∙ joined-short (Rattle.std.proofs.Common.◌-◌ n (suc k)) (suc k) s (λ i a b. h i (omega arith) (omega (arith, b, e)))

makes-of : (port : ConsumerEnd) (next : ℕ) (l : Ledger) → StandsInOrder port next l → Makes (receive port) l l.gave.rows
makes-of port next l h =
    let whole : joined port.producers (λ i. rows_of (l.came i)) ≡ l.gave.rows = all-joined port.producers next (λ i. rows_of (l.came i)) h.in_range h.nothing ∙ h.gave in
    let P : List Row → Type 0 = λ xs. Dealt port.producers xs (λ i. rows_of (l.came i)) in
    let Q : List OrderEntry → Type 0 = λ order. sorted order l.gave.rows ≡ true in
    (subst P whole (joined-dealt port.producers (λ i. rows_of (l.came i))), subst Q (sym h.not_merging) (sorted-on_none l.gave.rows), λ e. whole)

all_of : {X : Type 0} (xs : List X) → IsBeginning xs xs
all_of xs = record { rest = []; joined = append-nil xs }

pub in-order-law : InOrderLaw
in-order-law = record {
  makes = makes-of;
  begun = λ port next l h. record {
    inputs = l;
    begins = record { left = all_of l.left.rows; right = all_of l.right.rows; came = λ i. all_of (rows_of (l.came i)) };
    whole = l.gave.rows;
    makes = makes-of port next l h;
    gave = all_of l.gave.rows;
  };
  more = λ port next l k rows h before here behind gave. record {
    not_merging = h.not_merging;
    in_range = h.in_range;
    nothing = behind;
    gave =
        ap₂ (λ a b. a ++ b) (joined-ext next (λ i. rows_of (k.came i)) (λ i. rows_of (l.came i)) before) here
        ∙ (sym (append_assoc (joined next (λ i. rows_of (l.came i))) (rows_of (l.came next)) rows) ∙ (ap (λ xs. xs ++ rows) h.gave ∙ sym gave));
  };
  goes_on = λ port next l some h. record {
    not_merging = h.not_merging;
    in_range = some;
    nothing = λ i a b. h.nothing i (omega arith) b;
    gave = ap (λ xs. joined (suc next) (λ i. rows_of (l.came i)) ++ xs) (h.nothing (suc next) (omega arith) some) ∙ (append-nil (joined (suc next) (λ i. rows_of (l.came i))) ∙ h.gave);
  };
}
