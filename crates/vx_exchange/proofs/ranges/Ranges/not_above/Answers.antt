use Rattle.std.proofs.Common.{◌≡◌, ◌<◌, ◌+◌, ◌-◌, ◌/◌, ◌∙◌, ap, sym, subst, List, true, length, get_or, pos, is_le, arith}
use Rattle.std.proofs.lemmas.List.{get_or-map, length-map}
use Rattle.vx_rows_values.specs.Values.{Val, val_cmp, num}
use Rattle.vx_rows_values.specs.ValueView.{val_of, cell_val}
use Rattle.vx_plan_nodes.specs.Typed.{rises}
use Rattle.vx_exchange.proofs.RangeFacts.{count-split, still-not_above, still-above, not_greater}
use Rattle.vx_exchange.proofs.ranges.Ranges.not_above.Goals as goal

pub loop-low-preserved : goal.loop-low-preserved
loop-low-preserved c =
    let bs = c.args.self.now in
    let v = cell_val c.args.value in
    let items = c.self.inside.bounds.items in
    let d = num (pos 0) in
    let low = c.loop-low.low in
    let high = c.loop-low.high in
    let m = low + (high - low) / 2 in
    let test = c.loop-low-test.true in
    let within = c.loop-low.invariant.within in
    let near : m < length bs = omega (arith, test, within) in
    let long : length items ≡ length bs = sym (length-map items val_of) ∙ ap length c.self.view_is in
    let there : m < length items = omega (arith, near, long) in
    let at : get_or bs m d ≡ cell_val c.cell.result =
    ap (λ (zs : List Val). get_or zs m d) (sym c.self.view_is) ∙ (get_or-map val_of items m c.index.result.now d there ∙ (ap val_of (sym c.index.ensures) ∙ sym c.cell.ensures.same)) in
    let compared : val_cmp (get_or bs m d) v ≡ c.compare_cells.result = ap (λ x. val_cmp x v) at ∙ sym c.compare_cells.ensures in
    let R : List Val → Type 0 = λ z. rises z ≡ true in
    let rising : rises bs ≡ true = subst R c.self.view_is c.self.invariant in
    record {
      order = omega (arith, test);
      within = within;
      not_above = still-not_above bs v m d rising near (ap is_le compared ∙ not_greater c.compare_cells.result c.in_default.not-Greater);
      above = c.loop-low.invariant.above;
    }

pub loop-low-preserved-in-Greater : goal.loop-low-preserved-in-Greater
loop-low-preserved-in-Greater c =
    let bs = c.args.self.now in
    let v = cell_val c.args.value in
    let items = c.self.inside.bounds.items in
    let d = num (pos 0) in
    let low = c.loop-low.low in
    let high = c.loop-low.high in
    let m = low + (high - low) / 2 in
    let test = c.loop-low-test.true in
    let within = c.loop-low.invariant.within in
    let near : m < length bs = omega (arith, test, within) in
    let long : length items ≡ length bs = sym (length-map items val_of) ∙ ap length c.self.view_is in
    let there : m < length items = omega (arith, near, long) in
    let at : get_or bs m d ≡ cell_val c.cell.result =
    ap (λ (zs : List Val). get_or zs m d) (sym c.self.view_is) ∙ (get_or-map val_of items m c.index.result.now d there ∙ (ap val_of (sym c.index.ensures) ∙ sym c.cell.ensures.same)) in
    let compared : val_cmp (get_or bs m d) v ≡ c.compare_cells.result = ap (λ x. val_cmp x v) at ∙ sym c.compare_cells.ensures in
    let R : List Val → Type 0 = λ z. rises z ≡ true in
    let rising : rises bs ≡ true = subst R c.self.view_is c.self.invariant in
    record {
      order = omega (arith, test);
      within = omega (arith, near);
      not_above = c.loop-low.invariant.not_above;
      above = still-above bs v m d rising (ap is_le (compared ∙ c.in-Greater.is));
    }

pub returns : goal.returns
returns c =
    let v = cell_val c.args.value in
    let i = c.loop-low.invariant in
    let test = c.loop-low-test.false in
    let order = i.order in
    let within = i.within in
    sym (count-split (λ b. is_le (val_cmp b v)) c.args.self.now c.loop-low.low (num (pos 0)) (omega (arith, order, within)) i.not_above (λ k l n. i.above k (omega (arith, l, test)) n))
