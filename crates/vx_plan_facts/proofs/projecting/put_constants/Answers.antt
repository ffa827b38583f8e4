use Rattle.std.proofs.Common.{◌≡◌, ◌∙◌, ◌<◌, ◌++◌, ℕ, suc, zero, List, [], ◌∷◌, ap, sym, refl, map, length, get_or, arith, slice_get, Some}
use Rattle.vx_plan_nodes.specs.declared.typed.Entry.{Entry}
use Rattle.vx_plan_nodes.specs.Outline.{entry_of}
use Rattle.vx_plan_facts.specs.FactsView.{fixed_of}
use Rattle.vx_plan_facts.specs.Fixed.{constant_value, constants}
use Rattle.vx_plan_facts.specs.Listing.{beside}
use Rattle.vx_plan_facts.proofs.ValueLists.{behind-more}
use Rattle.vx_plan_facts.proofs.projecting.put_constants.Goals as goal

entry-there : (es : List Entry) (i : ℕ) (x : Entry) → i < length es → x ≡ get_or es i x → slice_get (map entry_of es) i ≡ Some (entry_of x)
entry-there [] i x h e = absurd (omega (arith, h))
entry-there (y ∷ es) zero x h e = ap Some (ap entry_of (sym e))
entry-there (y ∷ es) (suc i) x h e = entry-there es i x (omega (arith, h)) e

pub loop-column-preserved : goal.loop-column-preserved
loop-column-preserved c =
    let es = c.args.entries.now in
    let n = c.loop-column.column in
    let x = c.index-entries-column.result in
    let old = map fixed_of c.loop-column.fixed.items in
    let is = entry-there es n x (omega (arith, c.loop-column-test.true)) c.index-entries-column.is in
    behind-more (λ d. beside d (constants (map entry_of es) d)) n _ _ _ c.loop-column.invariant
    (c.in_ok-put_constant.ensures ∙ ap (λ o. old ++ beside n (constant_value o)) (sym is))
