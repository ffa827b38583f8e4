use Rattle.std.proofs.Common.{sym, subst}
use Rattle.vx_ops.specs.Scan.{scan_types}
use Rattle.vx_exchange.specs.Collector.{collector_post, collector_is_open, collector_has_closed}
use Rattle.vx_worker.specs.Worker.{IsReady}
use Rattle.test_worker.proofs.workers.finish.Goals as goal

pub steps-init : goal.steps-init
steps-init c = subst (λ ts. IsReady scan_types collector_post collector_is_open collector_has_closed (λ _. ts) c.args.worker.now) (sym c.requires.pages) c.requires.worker
