use Rattle.std.proofs.Common.{◌≡◌, ℕ, ◌++◌, ◌∷◌, [], ap, sym, subst, ◌∙◌, map, take, append_assoc, arith, string_bytes}
use Rattle.std.specs.Prelude.{OnOk}
use Rattle.std.proofs.lemmas.List.{map_more}
use Rattle.std.proofs.lemmas.Simd.{map-map}
use Rattle.vx_rows_values.specs.Values.{Row, pick, value_at}
use Rattle.vx_plan_nodes.specs.Routes.{range_consumer}
use Rattle.vx_rows_views.proofs.Maybe.{on_ok_map}
use Rattle.vx_exchange.specs.Routed.{routed_to}
use Rattle.vx_exchange.specs.declared.routes.KeyRoute.{KeyRoute}
use Rattle.vx_exchange.proofs.routes.KeyRoute.push_consumers.Goals as goal

pub loop-i-preserved : goal.loop-i-preserved
loop-i-preserved g c =
    let f : Row → ℕ = routed_to (g.R.Router.route_of c.args.router.now) c.args.self.now c.args.n in
    let rows = c.args.chunk.now.rows in
    let i = c.loop-i.i in
    let k = c.in_ok-consumer.consumer in
    let old = c.args.found.now.items in
    c.in_ok-push.ensures.items
    ∙ (ap (λ xs. xs ++ k ∷ []) c.loop-i.invariant
    ∙ (append_assoc old (map f (take i rows)) (k ∷ [])
    ∙ ap (λ xs. old ++ xs) (ap (λ x. map f (take i rows) ++ x ∷ []) c.in_ok-consumer.ensures ∙ sym (map_more f rows i [] (let test = c.loop-i-test.true in let end = c.len-i-end.ensures in omega (arith, test, end))))))

pub returns-in-Some : goal.returns-in-Some
returns-in-Some g c =
    let hash = g.R.Router.route_of c.args.router.now in
    let n = c.args.n in
    let rows = c.args.chunk.now.rows in
    let old = c.args.found.now.items in
    let cols = c.in-Hash.columns.items in
    let f : Row → ℕ = λ key. hash (string_bytes c.in-Hash.name) key n in
    let keys = c.in-Some.keys in
    let by-name : map (λ (key : Row). hash c.as_str.result.now key n) keys ≡ map f keys = ap (λ name. map (λ (key : Row). hash name key n) keys) c.as_str.ensures.value in
    let of-rows : map f keys ≡ map (λ r. f (pick cols r)) rows =
    ap (map f) (c.in-Some.ensures ∙ ap (λ cs. map (pick cs) rows) c.as_slice.ensures.value) ∙ map-map f (pick cols) rows in
    let Q : KeyRoute → Type 0 = λ z. OnOk c.push_of_numbers.result (c.push_of_numbers.new.found.items ≡ old ++ map (routed_to hash z n) rows) in
    subst Q (sym c.in-Hash.is) (on_ok_map c.push_of_numbers.result (λ e. e ∙ ap (λ xs. old ++ xs) (by-name ∙ of-rows)) c.push_of_numbers.ensures)

pub returns-in-Some-of : goal.returns-in-Some-of
returns-in-Some-of g c =
    let hash = g.R.Router.route_of c.args.router.now in
    let n = c.args.n in
    let rows = c.args.chunk.now.rows in
    let old = c.args.found.now.items in
    let f : Row → ℕ = λ key. range_consumer c.in-Range.ranges (value_at key 0) n in
    let of-rows : map f c.in-Some-of.keys ≡ map (λ r. f (pick (c.in-Range.column ∷ []) r)) rows = ap (map f) c.in-Some-of.ensures ∙ map-map f (pick (c.in-Range.column ∷ [])) rows in
    let Q : KeyRoute → Type 0 = λ z. OnOk c.push_of_ranges.result (c.push_of_ranges.new.found.items ≡ old ++ map (routed_to hash z n) rows) in
    subst Q (sym c.in-Range.is) (on_ok_map c.push_of_ranges.result (λ e. e ∙ ap (λ xs. old ++ xs) of-rows) c.push_of_ranges.ensures)
