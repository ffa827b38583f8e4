use Rattle.std.proofs.Common.{◌≡◌, ◌≤◌, ◌∙◌, arith, sym, ap, map, length}
use Rattle.std.proofs.lemmas.List.{take_all}
use Rattle.vx_rows_values.specs.declared.value.ColType.{ColType}
use Rattle.vx_rows_values.specs.Types.{type_at}
use Rattle.std.specs.Prelude.{List}
use Rattle.vx_match_keys.proofs.HashedFacts.{keys-typed}
use Rattle.vx_match_keys.proofs.column_keys.have_types.Goals as goal

pub returns : goal.returns
returns c = λ yes.
    let own = c.types-own.result.now in
    let cols = c.args.columns.now in
    let types = c.args.types.now in
    let n = c.loop-j.j in
    let test = c.loop-j-test.false in
    let alike = c.if-columns-types.false in
    let past : length cols ≤ n = grind (arith, test) in
    let same : length types ≤ n = grind (arith, test, alike) in
    let is : map (type_at own) cols ≡ types = ap (map (type_at own)) (sym (take_all n cols past)) ∙ (c.loop-j.invariant ∙ take_all n types same) in
    keys-typed c.args.chunk.now.types cols c.args.chunk.now.rows types c.types-own.ensures.fit (ap (λ (ts : List ColType). map (type_at ts) cols) (sym c.types-own.ensures.types) ∙ is)
