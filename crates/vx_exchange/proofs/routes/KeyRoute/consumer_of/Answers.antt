use Rattle.std.proofs.Common.{◌≡◌, ℕ, List, length, map, ap, sym, subst, ◌∙◌, string_bytes}
use Rattle.vx_rows_values.specs.Values.{Row, pick}
use Rattle.vx_rows_values.specs.ValueView.{val_of}
use Rattle.vx_rows.specs.View.{row, AreColumns}
use Rattle.vx_plan_nodes.specs.Routes.{range_consumer}
use Rattle.vx_exchange.specs.Routed.{routed_to, key_columns}
use Rattle.vx_exchange.specs.declared.routes.KeyRoute.{KeyRoute}
use Rattle.vx_exchange.proofs.routes.KeyRoute.consumer_of.Goals as goal

pub set_key-requires-clause-columns : goal.set_key-requires-clause-columns
set_key-requires-clause-columns g c =
    let P : KeyRoute → Type 0 = λ z. AreColumns (length c.args.chunk.now.types) (key_columns z) in
    let Q : List ℕ → Type 0 = λ cs. AreColumns (length c.args.chunk.now.types) cs in
    subst Q (sym c.as_slice.ensures.value) (subst P c.in-Hash.is c.requires.columns)

pub returns-in-Hash : goal.returns-in-Hash
returns-in-Hash g c =
    let hash = g.R.Router.route_of c.args.router.now in
    let n = c.args.n in
    let here : Row = row c.args.chunk.now c.args.i in
    let keys : map val_of c.as_slice-in-Hash.result.now ≡ pick c.in-Hash.columns.items here =
    ap (map val_of) c.as_slice-in-Hash.ensures.value ∙ (c.in_ok-set_key-in-Hash.ensures ∙ ap (λ cs. pick cs here) c.as_slice.ensures.value) in
    let Q : KeyRoute → Type 0 = λ z. c.route.result ≡ routed_to hash z n here in
    subst Q (sym c.in-Hash.is)
    (c.route.ensures ∙ (ap (λ name. hash name (map val_of c.as_slice-in-Hash.result.now) n) c.as_str.ensures.value ∙ ap (λ key. hash (string_bytes c.in-Hash.name) key n) keys))

pub returns-in-Range : goal.returns-in-Range
returns-in-Range g c =
    let hash = g.R.Router.route_of c.args.router.now in
    let n = c.args.n in
    let Q : KeyRoute → Type 0 = λ z. c.consumer.result ≡ routed_to hash z n (row c.args.chunk.now c.args.i) in
    subst Q (sym c.in-Range.is) (c.consumer.ensures ∙ ap (λ v. range_consumer c.in-Range.ranges v n) c.cell.ensures)
