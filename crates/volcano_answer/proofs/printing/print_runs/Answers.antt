use Rattle.std.proofs.Common.{rules, ◌≡◌, ◌<◌, length, ap, sym, string_bytes}
use Rattle.std.proofs.lemmas.Result.{err_from_is_err_and}
use Rattle.volcano_answer.proofs.PrintingFacts.{written_grow, stops_with}
use Rattle.volcano_answer.proofs.printing.print_runs.Goals as goal

pub loop-accepted-preserved : goal.loop-accepted-preserved
loop-accepted-preserved g c =
    let l = c.loop-accepted in
    let loaded = c.args.loaded.now in
    let there : l.accepted-index < length loaded.plans.items = search rules in
    let at = rw c.deref-accepted-items.ensures.value at c.accepted-item.is in
    let more = c.in_ok-print_run.ensures.more in
    record {
      written = written_grow (g.R.Runs.counted c.with_layout-services.result.engine.now) c.with_layout-services.result.layout loaded.form loaded.database loaded.setting loaded.plans.items l.accepted-index c.accepted-item.result c.accepted-item.result
          (g.O.ByteOut.contents c.args.out.now) (g.O.ByteOut.contents l.out) (g.O.ByteOut.contents c.print_run.new.out) (string_bytes l.printed.stats) more.0 (string_bytes c.print_run.new.printed.stats) there at
          l.invariant.written more.1 more.2;
      whole = search rules;
    }

pub returns-in_err-print_run-clause-stopped : goal.returns-in_err-print_run-clause-stopped
returns-in_err-print_run-clause-stopped g c =
    let l = c.loop-accepted in
    let loaded = c.args.loaded.now in
    let there : l.accepted-index < length loaded.plans.items = search rules in
    let at = rw c.deref-accepted-items.ensures.value at c.accepted-item.is in
    let p = err_from_is_err_and c.from_residual.result c.from_residual.ensures.1 in
    rw (p.1, p.2, sym c.with_layout-services.ensures.layout)
    (stops_with (g.R.Runs.counted c.with_layout-services.result.engine.now) c.with_layout-services.result.layout loaded.form loaded.database loaded.setting loaded.plans.items l.accepted-index c.accepted-item.result c.accepted-item.result
    (g.O.ByteOut.contents c.args.out.now) (g.O.ByteOut.contents l.out) (g.O.ByteOut.contents c.print_run.new.out) (string_bytes l.printed.stats)
    (g.O.ByteOut.has_failed c.args.out.now) (g.O.ByteOut.has_failed l.out) (g.O.ByteOut.has_failed c.print_run.new.out) (c.print_run.new.out ≡ l.out) c.in_err-print_run.field-0.0
    there at l.invariant.written l.invariant.whole (λ same. (ap (g.O.ByteOut.contents) same, ap (g.O.ByteOut.has_failed) same)) c.in_err-print_run.ensures.fault)
