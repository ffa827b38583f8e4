-- The rows at hand of producers, after the head of one was written, and what turns of a merging consumer end cost.
use Rattle.std.proofs.Common.{◌≡◌, ℕ, zero, suc, ◌+◌, ◌-◌, ◌<◌, ◌≤◌, List, [], ◌∷◌, ◌++◌, length, All, drop, set, get_or, refl, sym, ap, ◌∙◌, arith, length-drop}
use Rattle.std.specs.Prelude.{slice_range}
use Rattle.std.proofs.lemmas.List.{length-append, length-take-le}
use Rattle.std.proofs.lemmas.List.Sums.{sum_by-set, sum_by-le}
use Rattle.vx_rows_values.specs.Values.{Row}
use Rattle.vx_rows_values.specs.declared.value.ColType.{ColType}
use Rattle.vx_ops.specs.Turn.{Pays, sum_below, with_more, if_running}
use Rattle.vx_ops.specs.Growing.{running-grows}
use Rattle.vx_ops.specs.declared.fault.StreamState.{StreamState}
use Rattle.vx_ops.specs.declared.turn.Polled.TheVariants as polled
use Rattle.vx_ops.proofs.Costs.{sum-more}
use Rattle.vx_exchange_receivers.specs.Heads.{SameEnds, rows_left, all_left, IsFresh}
use Rattle.vx_exchange_receivers.specs.declared.heads.StreamHead.{StreamHead}

-- the same producers have ended
pub ends-set : (hs : List StreamHead) (i : ℕ) (x g : StreamHead) → x ≡ get_or hs i x → g.ended ≡ x.ended → SameEnds hs (set hs i g)
ends-set [] i x g e s p = refl
ends-set (h ∷ hs) zero x g e s zero = s ∙ ap (λ (z : StreamHead). z.ended) e
ends-set (h ∷ hs) zero x g e s (suc p) = refl
ends-set (h ∷ hs) (suc i) x g e s zero = refl
ends-set (h ∷ hs) (suc i) x g e s (suc p) = ends-set hs i x g e s p

-- nothing came of any producer
pub none-left : (types : List ColType) (hs : List StreamHead) → All (IsFresh types) hs → all_left hs ≡ 0
none-left types hs fresh =
    let each = sum_by-le rows_left 0 hs (λ k d lt. let f = fresh k d lt in let e = ap length f.rows in omega (arith, e)) in
    omega (arith, each)

-- rows of one producer were given, from its position on up to another
pub run-left : (hs : List StreamHead) (i to : ℕ) (x g : StreamHead) (found more : List Row) → i < length hs → x ≡ get_or hs i x → g.rows ≡ x.rows → g.at ≡ to → x.at ≤ to → to ≤ length x.rows.rows
    → more ≡ found ++ slice_range x.rows.rows x.at to → all_left (set hs i g) + length more ≤ all_left hs + length found
run-left hs i to x g found more near is rows at from within m =
    let all = sum_by-set rows_left hs i g x near in
    let here : rows_left (get_or hs i x) ≡ rows_left x = ap rows_left (sym is) in
    let left : rows_left g ≡ length x.rows.rows - to = rw (rows, at) refl in
    let part : length (slice_range x.rows.rows x.at to) ≡ to - x.at =
    let k = length-drop x.at x.rows.rows in length-take-le (to - x.at) (drop x.at x.rows.rows) (omega (arith, k, within)) in
    let long = ap length m ∙ length-append found (slice_range x.rows.rows x.at to) in
    omega (arith, all, here, left, part, long, from, within)

-- rows came of one producer
pub put-pays : (o : StreamState) (n n' i few a a' : ℕ) (f : ℕ → ℕ) → n' ≡ n → i < n → a' ≤ a + few
    → Pays 0 (if_running o (a + sum_below n (with_more i few f))) 0 (if_running o (a' + sum_below n' f)) 0 polled.Waiting
put-pays o n n' i few a a' f many near more =
    let sum = sum-more n i few f near in
    let less : a' + sum_below n f ≤ a + sum_below n (with_more i few f) = omega (arith, sum, more) in
    let all = running-grows o (a' + sum_below n f) (a + sum_below n (with_more i few f)) less in
    rw many (record { rows = omega (arith, all); turns = omega arith })
