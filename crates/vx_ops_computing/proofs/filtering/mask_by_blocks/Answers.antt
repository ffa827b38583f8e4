use Rattle.std.proofs.Common.{◌≡◌, ◌+◌, ◌≤◌, ◌++◌, Bool, false, List, length, map, take_all, sym, ap, ◌∙◌, arith}
use Rattle.std.specs.List.{list_all}
use Rattle.vx_match_keys.proofs.ErrorFacts.{reported}
use Rattle.vx_plan_nodes.specs.Serial.{filters_fit}
use Rattle.vx_ops_computing.specs.Computed.{computed_hold}
use Rattle.vx_ops_computing.specs.Fault.{Blames}
use Rattle.vx_ops_computing.specs.Given.{filter_by}
use Rattle.vx_ops_computing.proofs.Blaming.{blames-as}
use Rattle.vx_ops_computing.proofs.BlockFacts.{block-mask, block-fits, block-unfit}
use Rattle.vx_ops_computing.proofs.filtering.mask_by_blocks.Goals as goal

pub loop-from-preserved : goal.loop-from-preserved
loop-from-preserved g c =
    let fs = map (filter_by (g.F.PlanFunctions.functions c.args.functions.now)) c.args.filters.now in
    let xs = c.args.chunk.now.rows in
    let part = c.in_ok-part.part.rows in
    let from = c.loop-from.from in
    let block = c.min-block.result in
    let old = c.loop-from.mask.items in
    let near : from + block ≤ length xs = omega arith in
    let added = c.in_ok-extend_from_slice.ensures.items ∙ ap (λ (found : List Bool). old ++ found) c.as_slice.ensures.value in
    record {
      near = near;
      mask = block-mask (computed_hold fs) xs part from block old _ c.in_ok-found.found.items c.in_ok-part.ensures.rows c.in_ok-found.ensures.mask c.loop-from.invariant.mask added;
      fits = block-fits (filters_fit fs) xs part from block c.in_ok-part.ensures.rows c.loop-from.invariant.fits c.in_ok-found.ensures.fits;
    }

pub returns-in_err-found-clause-fault : goal.returns-in_err-found-clause-fault
returns-in_err-found-clause-fault g c =
    let fits = filters_fit (map (filter_by (g.F.PlanFunctions.functions c.args.functions.now)) c.args.filters.now) in
    let xs = c.args.chunk.now.rows in
    let part = c.in_ok-part.part.rows in
    let e = c.in_err-found.field-0.0 in
    reported c.from_residual-in_err-found.result e (Blames (list_all fits xs ≡ false)) c.from_residual-in_err-found.ensures.1
    (blames-as (list_all fits part ≡ false) (list_all fits xs ≡ false) e (block-unfit fits xs part c.loop-from.from c.min-block.result c.in_ok-part.ensures.rows) c.in_err-found.ensures.fault)

pub returns-clause-mask : goal.returns-clause-mask
returns-clause-mask g c =
    let fs = map (filter_by (g.F.PlanFunctions.functions c.args.functions.now)) c.args.filters.now in
    let xs = c.args.chunk.now.rows in
    c.loop-from.invariant.mask ∙ ap (map (computed_hold fs)) (take_all c.loop-from.from xs (omega arith))

pub returns-clause-fits : goal.returns-clause-fits
returns-clause-fits g c =
    let fs = map (filter_by (g.F.PlanFunctions.functions c.args.functions.now)) c.args.filters.now in
    let xs = c.args.chunk.now.rows in
    ap (list_all (filters_fit fs)) (sym (take_all c.loop-from.from xs (omega arith))) ∙ c.loop-from.invariant.fits
