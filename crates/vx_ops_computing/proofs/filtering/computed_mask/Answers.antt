use Rattle.std.proofs.Common.{◌≡◌, false, [], map, take_all, get_or, refl, sym, ap, ◌∙◌}
use Rattle.std.specs.List.{list_all}
use Rattle.vx_match_keys.proofs.ErrorFacts.{reported}
use Rattle.vx_plan_nodes.specs.Serial.{filters_fit}
use Rattle.vx_ops_computing.specs.Fault.{Blames}
use Rattle.vx_ops_computing.specs.Projecting.{FilterFails}
use Rattle.vx_ops_computing.proofs.Blaming.{blames-as}
use Rattle.vx_ops_computing.proofs.Choosing.{initial-mask}
use Rattle.vx_ops_computing.proofs.Entries.{filter-knows, filter-fails}
use Rattle.vx_ops_computing.proofs.Fits.{all-fit}
use Rattle.vx_ops_computing.specs.Given.{filter_by}
use Rattle.vx_ops_computing.proofs.filtering.computed_mask.Goals as goal

pub loop-filter-init : goal.loop-filter-init
loop-filter-init g c = record {
  mask = initial-mask c.len.result _ _ _ c.args.chunk.now.rows c.new-mask.ensures.items c.new-mask.ensures.len c.len.ensures c.in_ok-resize.ensures.items;
  fits = λ k l. refl;
}

pub narrow-requires-clause-known : goal.narrow-requires-clause-known
narrow-requires-clause-known g c = filter-knows (g.F.PlanFunctions.functions c.args.functions.now) c.args.chunk.now.types c.args.filters.now c.loop-filter.filter-index c.filter-item.result c.requires c.loop-filter-test.true c.filter-item.is

pub returns-in_err-narrow-clause-fault : goal.returns-in_err-narrow-clause-fault
returns-in_err-narrow-clause-fault g c =
    let xs = c.args.chunk.now.rows in
    let fs = c.args.filters.now in
    let f = c.filter-item.result in
    let e = c.in_err-narrow.field-0.0 in
    let fails : Type 0 = list_all (filters_fit (map (filter_by (g.F.PlanFunctions.functions c.args.functions.now)) fs)) xs ≡ false in
    reported c.from_residual-in_err-narrow.result e (Blames fails) c.from_residual-in_err-narrow.ensures.1
    (blames-as (FilterFails (filter_by (g.F.PlanFunctions.functions c.args.functions.now) f) xs) fails e (filter-fails (g.F.PlanFunctions.functions c.args.functions.now) fs c.loop-filter.filter-index f xs c.loop-filter-test.true c.filter-item.is) c.in_err-narrow.ensures.fault)

pub returns-clause-fits : goal.returns-clause-fits
returns-clause-fits g c =
    let xs = c.args.chunk.now.rows in
    let fs = c.args.filters.now in
    let whole = take_all c.loop-filter.filter-index fs c.loop-filter-test.false in
    all-fit (filters_fit (map (filter_by (g.F.PlanFunctions.functions c.args.functions.now)) fs)) xs (λ k l. ap (λ gs. filters_fit (map (filter_by (g.F.PlanFunctions.functions c.args.functions.now)) gs) (get_or xs k [])) (sym whole) ∙ c.loop-filter.invariant.fits k l)
