use Rattle.std.proofs.Common.{◌≡◌, ◌+◌, ◌<◌, List, [], arith, sym, ap, ◌∙◌, subst, length, take, get_or}
use Rattle.vx_rows.specs.View.{RowsView}
use Rattle.vx_rows.proofs.Fill.{map_at}
use Rattle.vx_rows_views.specs.Chunks.{all_rows, rows_in}
use Rattle.vx_rows_views.proofs.Marked.{chunk-within, chunk-alike}
use Rattle.vx_rows_views.proofs.rows.Rows.chunk_at.Goals as goal

pub returns-clause-within : goal.returns-clause-within
returns-clause-within c =
    let ts = c.self.inside.chunks.items in
    let k = c.spot_near-spot.result.chunk in
    let p = c.spot_near-spot.result.place in
    let t = c.index.result.now in
    let v = c.as_slice.ensures.value in
    let near : k < length ts = omega (arith, ap length v, c.spot_near-spot.ensures.chunk) in
    let there : p < length (rows_in ts k) = subst (λ (us : List RowsView). p < length (rows_in us k)) v c.spot_near-spot.ensures.there in
    let at : c.args.i ≡ length (all_rows (take k ts)) + p = subst (λ (us : List RowsView). c.args.i ≡ length (all_rows (take k us)) + p) v c.spot_near-spot.ensures.place in
    let e = map_at (λ u. u.rows) ts k t [] near c.index.ensures in
    let l = chunk-within ts c.args.i k p t near c.index.ensures at (omega (arith, ap length e, there)) in
    omega (arith, l, ap (λ u. length u.rows) c.self.view_is)

pub returns-clause-alike : goal.returns-clause-alike
returns-clause-alike c = λ j l.
    let ts = c.self.inside.chunks.items in
    let k = c.spot_near-spot.result.chunk in
    let p = c.spot_near-spot.result.place in
    let v = c.as_slice.ensures.value in
    let near : k < length ts = omega (arith, ap length v, c.spot_near-spot.ensures.chunk) in
    let at : c.args.i ≡ length (all_rows (take k ts)) + p = subst (λ (us : List RowsView). c.args.i ≡ length (all_rows (take k us)) + p) v c.spot_near-spot.ensures.place in
    sym (ap (λ u. get_or u.rows (c.args.i + j) []) c.self.view_is) ∙ chunk-alike ts c.args.i k p c.index.result.now near c.index.ensures at j l
