use Rattle.vx_ops.specs.Scan.{scan_types}
use Rattle.vx_exchange.specs.Collector.{collector_post, collector_is_open, collector_has_closed}
use Rattle.vx_worker.specs.Worker.{IsReady}
use Rattle.test_worker.proofs.workers.finish.Given as goal

abbrev pub invariant-steps : goal.invariant-steps
invariant-steps l = IsReady scan_types collector_post collector_is_open collector_has_closed (λ _. l.pages.rows.types) l.worker
