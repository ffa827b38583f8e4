use Rattle.std.proofs.Common.{ℕ, List, length, subst, ◌≡◌, ◌++◌, ap, sym, ◌∙◌, map, take, take_all, arith}
use Rattle.std.proofs.lemmas.List.{map-append}
use Rattle.vx_rows_values.specs.Values.{Row}
use Rattle.vx_rows_views.specs.Chunks.{all_rows}
use Rattle.vx_rows_views.proofs.Whole.{next-rows}
use Rattle.vx_rows_values.specs.declared.value.ColType.{ColType}
use Rattle.vx_rows.specs.View.{RowsView, AreColumns}
use Rattle.vx_exchange.specs.Routed.{routed_to, key_columns}
use Rattle.vx_exchange.proofs.routes.consumers_of.Goals as goal

pub push_consumers-requires-clause-columns : goal.push_consumers-requires-clause-columns
push_consumers-requires-clause-columns g c =
    let t = c.index-chunks-i.result in
    let here : t.types ≡ c.args.rows.now.types = ap (λ (z : RowsView). z.types) c.index-chunks-i.is ∙ c.chunks-chunks.ensures.types c.loop-i.i t c.loop-i-test.true in
    let P : List ColType → Type 0 = λ types. AreColumns (length types) (key_columns c.args.route.now) in
    subst P (sym here) c.requires.columns

pub loop-i-preserved : goal.loop-i-preserved
loop-i-preserved g c =
    let f : Row → ℕ = routed_to (g.R.Router.route_of c.args.router.now) c.args.route.now c.args.n in
    let ts = c.chunks-chunks.result.now in
    let i = c.loop-i.i in
    let t = c.index-chunks-i.result in
    c.in_ok-push_consumers.ensures
    ∙ (ap (λ xs. xs ++ map f t.rows) c.loop-i.invariant
    ∙ (sym (map-append f (all_rows (take i ts)) t.rows) ∙ ap (map f) (sym (next-rows ts i t c.loop-i-test.true c.index-chunks-i.is))))

pub returns : goal.returns
returns g c =
    let f : Row → ℕ = routed_to (g.R.Router.route_of c.args.router.now) c.args.route.now c.args.n in
    let ts = c.chunks-chunks.result.now in
    let i = c.loop-i.i in
    let test = c.loop-i-test.false in
    c.loop-i.invariant ∙ ap (map f) (ap all_rows (take_all i ts (omega (arith, test))) ∙ c.chunks-chunks.ensures.rows)
