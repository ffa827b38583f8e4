-- What turns of an operator cost that builds a table of its right input before it reads its left one.
use Rattle.std.proofs.Common.{◌≡◌, ℕ, ◌+◌, ◌*◌, ◌<◌, ◌≤◌, length, Option, arith}
use Rattle.std.proofs.lemmas.Nat.{mul-le}
use Rattle.vx_rows.specs.View.{RowsView}
use Rattle.vx_ops.specs.Turn.{Pays, rows_in, idle_turn, if_running}
use Rattle.vx_ops.specs.Growing.{running-grows}
use Rattle.vx_ops.specs.Probing.{rest_rows}
use Rattle.vx_ops.specs.declared.fault.StreamState.{StreamState}
use Rattle.vx_ops.specs.declared.fault.StreamState.TheVariants.{Running}
use Rattle.vx_ops.specs.declared.turn.Polled.{Polled}
use Rattle.vx_ops.specs.declared.turn.Polled.TheVariants as polled
use Rattle.vx_ops.proofs.Costs.{idle-most}

-- right rows were read
pub build-pays : (o : StreamState) (l each each' idle : ℕ) → each' ≤ each → Pays 0 (if_running o (l * each)) idle (if_running o (l * each')) idle polled.Waiting
build-pays o l each each' idle less =
    let all = running-grows o (l * each') (l * each) (mul-le l each' l each (omega arith) less) in
    record { rows = omega (arith, all); turns = omega arith }

joined-pays : (n r l each each' j until : ℕ) (p : Polled) → rows_in p ≡ j → r < n → each' ≤ each → j + r * each ≤ n * each
    → Pays 1 ((n + l) * each) (n + l + until) ((r + l) * each') (r + l + until) p
joined-pays n r l each each' j until p made fewer kept joins =
    let build : (r + l) * each' ≤ (r + l) * each = mul-le (r + l) each' (r + l) each (omega arith) kept in
    let cost = idle-most 1 p in
    record { rows = omega (arith, build, made, joins); turns = omega (arith, fewer, cost) }

-- of the rows that it holds the first were joined
pub probe-pays : (o : StreamState) (n r l each each' j until : ℕ) (rest : Option RowsView) (p : Polled) → o ≡ Running → length (rest_rows rest) ≡ r → rows_in p ≡ j
    → r < n → each' ≤ each → j + r * each ≤ n * each
    → Pays 1 (if_running o ((n + l) * each)) (if_running o (n + l + until)) (if_running o ((length (rest_rows rest) + l) * each')) (if_running o (length (rest_rows rest) + l + until)) p
probe-pays o n r l each each' j until rest p runs left made fewer kept joins = rw (runs, left) (joined-pays n r l each each' j until p made fewer kept joins)

-- left rows came
pub left-most : (o : StreamState) (n l each more : ℕ) → if_running o ((n + l) * each) ≤ if_running o ((more + (l + n)) * each)
left-most o n l each more = running-grows o ((n + l) * each) ((more + (l + n)) * each) (mul-le (n + l) each (more + (l + n)) each (omega arith) (omega arith))

pub left-idle : (o : StreamState) (n l until more : ℕ) → if_running o (n + l + until) ≤ if_running o (more + (l + n) + until)
left-idle o n l until more = running-grows o (n + l + until) (more + (l + n) + until) (omega arith)
