use Rattle.std.proofs.Common.{◌≡◌, arith, ap, ◌∙◌, length, map}
use Rattle.std.proofs.lemmas.List.{length-map}
use Rattle.vx_rows_values.specs.declared.value.ColType.TheVariants as kind
use Rattle.vx_rows_values.specs.Types.{type_at}
use Rattle.vx_rows.specs.Columns.{column_type, size}
use Rattle.vx_rows.proofs.Fill.{map_at}
use Rattle.vx_rows.proofs.parts.grow_all.Goals as goal

pub for_each_mut-requires-clause-accepts : goal.for_each_mut-requires-clause-accepts
for_each_mut-requires-clause-accepts g c κs within i p near here =
    let columns = c.args.columns.now in
    let s = map_at size columns i p.now 0 near here in
    let l = c.requires.long i near in
    let width = length-map columns column_type in
    let type : type_at (map column_type columns) i ≡ column_type p.now = map_at column_type columns i p.now kind.Int near here in (
      omega (arith, s, l),
      (
        λ k d m. (let n = ap length (c.requires.same_types k d m) in omega (arith, n, width, near)),
        λ k d m. ap (λ ts. type_at ts i) (c.requires.same_types k d m) ∙ type,
      ),
    )
