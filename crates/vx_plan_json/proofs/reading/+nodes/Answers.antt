use Rattle.std.proofs.Common.{◌≡◌, ◌-◌, Some, string_bytes, arith}
use Rattle.std.proofs.lemmas.Result.{err_from_is_err_and}
use Rattle.serde_json.specs.View.{view}
use Rattle.vx_plan_json.specs.Document.{claim_form, scan_form, unary_form, binary_form, kind_form}
use Rattle.vx_plan_json.specs.Formed.{levels_left}
use Rattle.vx_plan_json.specs.Operators.{own_scan, own_unary, own_binary, own_exchange, own_under}
use Rattle.vx_plan_json.proofs.NodeFacts.{fails_then, node_step}
use Rattle.vx_plan_json.proofs.reading.+nodes.Goals as goal

pub read_node-returns-in-Scan : goal.read_node-returns-in-Scan
read_node-returns-in-Scan t c =
    let own : own_under c.args.derives (levels_left (c.args.levels - 1)) (view c.args.value.now) ≡ Some (own_scan (claim_form c.in-Scan.claim) (scan_form c.in-Scan.scan)) = rw (c.in-Scan.is, c.levels_left.ensures) at c.in-Ok.ensures in
    let step = node_step c.args.derives c.args.levels c.args.seen c.args.path.now (view c.args.value.now) _ (omega arith) (omega arith) own in
    step

pub read_node-returns-in_err-node-in-Unary : goal.read_node-returns-in_err-node-in-Unary
read_node-returns-in_err-node-in-Unary t c =
    let own : own_under c.args.derives (levels_left (c.args.levels - 1)) (view c.args.value.now) ≡ Some (own_unary (claim_form c.in-Unary.claim) (unary_form c.in-Unary.unary) (view c.in-Unary.input.now)) = rw (c.in-Unary.is, c.levels_left.ensures) at c.in-Ok.ensures in
    let step = node_step c.args.derives c.args.levels c.args.seen c.args.path.now (view c.args.value.now) _ (omega arith) (omega arith) own in
    let p = err_from_is_err_and c.from_residual-in_err-node-in-Unary.result c.from_residual-in_err-node-in-Unary.ensures.1 in
    rw (p.1, p.2, step) (fails_then _ _ _ c.in_err-node-in-Unary.ensures)

pub read_node-returns-in_ok-node-in-Unary : goal.read_node-returns-in_ok-node-in-Unary
read_node-returns-in_ok-node-in-Unary t c =
    let own : own_under c.args.derives (levels_left (c.args.levels - 1)) (view c.args.value.now) ≡ Some (own_unary (claim_form c.in-Unary.claim) (unary_form c.in-Unary.unary) (view c.in-Unary.input.now)) = rw (c.in-Unary.is, c.levels_left.ensures) at c.in-Ok.ensures in
    let step = node_step c.args.derives c.args.levels c.args.seen c.args.path.now (view c.args.value.now) _ (omega arith) (omega arith) own in
    rw (step, c.in_ok-node-in-Unary.ensures)

pub read_node-returns-in_err-first-in-Binary : goal.read_node-returns-in_err-first-in-Binary
read_node-returns-in_err-first-in-Binary t c =
    let own : own_under c.args.derives (levels_left (c.args.levels - 1)) (view c.args.value.now) ≡ Some (own_binary (claim_form c.in-Binary.claim) (binary_form c.in-Binary.binary) (view c.in-Binary.left.now) (view c.in-Binary.right.now)) = rw (c.in-Binary.is, c.levels_left.ensures) at c.in-Ok.ensures in
    let step = node_step c.args.derives c.args.levels c.args.seen c.args.path.now (view c.args.value.now) _ (omega arith) (omega arith) own in
    let p = err_from_is_err_and c.from_residual-in_err-first-in-Binary.result c.from_residual-in_err-first-in-Binary.ensures.1 in
    rw (p.1, p.2, step) (fails_then _ _ _ c.in_err-first-in-Binary.ensures)

pub read_node-returns-in_err-second-in-Binary : goal.read_node-returns-in_err-second-in-Binary
read_node-returns-in_err-second-in-Binary t c =
    let own : own_under c.args.derives (levels_left (c.args.levels - 1)) (view c.args.value.now) ≡ Some (own_binary (claim_form c.in-Binary.claim) (binary_form c.in-Binary.binary) (view c.in-Binary.left.now) (view c.in-Binary.right.now)) = rw (c.in-Binary.is, c.levels_left.ensures) at c.in-Ok.ensures in
    let step = node_step c.args.derives c.args.levels c.args.seen c.args.path.now (view c.args.value.now) _ (omega arith) (omega arith) own in
    let p = err_from_is_err_and c.from_residual-in_err-second-in-Binary.result c.from_residual-in_err-second-in-Binary.ensures.1 in
    rw (p.1, p.2, step, c.in_ok-first-in-Binary.ensures) (fails_then _ _ _ c.in_err-second-in-Binary.ensures)

pub read_node-returns-in_ok-second-in-Binary : goal.read_node-returns-in_ok-second-in-Binary
read_node-returns-in_ok-second-in-Binary t c =
    let own : own_under c.args.derives (levels_left (c.args.levels - 1)) (view c.args.value.now) ≡ Some (own_binary (claim_form c.in-Binary.claim) (binary_form c.in-Binary.binary) (view c.in-Binary.left.now) (view c.in-Binary.right.now)) = rw (c.in-Binary.is, c.levels_left.ensures) at c.in-Ok.ensures in
    let step = node_step c.args.derives c.args.levels c.args.seen c.args.path.now (view c.args.value.now) _ (omega arith) (omega arith) own in
    rw (step, c.in_ok-first-in-Binary.ensures, c.in_ok-second-in-Binary.ensures)

pub read_node-returns-in_err-node-in-Exchange : goal.read_node-returns-in_err-node-in-Exchange
read_node-returns-in_err-node-in-Exchange t c =
    let own : own_under c.args.derives (levels_left (c.args.levels - 1)) (view c.args.value.now) ≡ Some (own_exchange (claim_form c.in-Exchange.claim) (kind_form c.in-Exchange.kind) c.in-Exchange.merge.items (view c.in-Exchange.input.now)) = rw (c.in-Exchange.is, c.levels_left.ensures) at c.in-Ok.ensures in
    let step = node_step c.args.derives c.args.levels c.args.seen c.args.path.now (view c.args.value.now) _ (omega arith) (omega arith) own in
    let p = err_from_is_err_and c.from_residual-in_err-node-in-Exchange.result c.from_residual-in_err-node-in-Exchange.ensures.1 in
    rw (p.1, p.2, step) (fails_then _ _ _ c.in_err-node-in-Exchange.ensures)

pub read_node-returns-in_ok-node-in-Exchange : goal.read_node-returns-in_ok-node-in-Exchange
read_node-returns-in_ok-node-in-Exchange t c =
    let own : own_under c.args.derives (levels_left (c.args.levels - 1)) (view c.args.value.now) ≡ Some (own_exchange (claim_form c.in-Exchange.claim) (kind_form c.in-Exchange.kind) c.in-Exchange.merge.items (view c.in-Exchange.input.now)) = rw (c.in-Exchange.is, c.levels_left.ensures) at c.in-Ok.ensures in
    let step = node_step c.args.derives c.args.levels c.args.seen c.args.path.now (view c.args.value.now) _ (omega arith) (omega arith) own in
    rw (step, c.in_ok-node-in-Exchange.ensures)
