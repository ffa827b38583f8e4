use Rattle.std.proofs.Common.{◌∙◌, length, ap, arith}
use Rattle.std.proofs.lemmas.List.{length-map}
use Rattle.vx_match_merging.proofs.NumberTurns.{read-key}
use Rattle.vx_match_merging.proofs.numbers.read_keys.Goals as goal

pub returns-in-Some-clause-within : goal.returns-in-Some-clause-within
returns-in-Some-clause-within c =
    let chunk = c.chunk_at-place in
    let long = ap length c.in-Some.ensures ∙ length-map chunk.result.0.now.rows _ in
    omega (arith, chunk.ensures.within, chunk.ensures.there, long, c.read_part.ensures.within)

pub returns-in-Some-clause-room : goal.returns-in-Some-clause-room
returns-in-Some-clause-room c =
    let chunk = c.chunk_at-place in
    let long = ap length c.in-Some.ensures ∙ length-map chunk.result.0.now.rows _ in
    omega (arith, chunk.ensures.within, chunk.ensures.there, long, c.read_part.ensures.within, c.len.ensures)

pub returns-in-Some-clause-keys : goal.returns-in-Some-clause-keys
returns-in-Some-clause-keys c = λ k near.
    let chunk = c.chunk_at-place in
    read-key c.args.order.now c.args.rows.now.rows chunk.result.0.now.rows c.args.from chunk.result.1 chunk.ensures.alike
    _ (omega arith) _ c.in-Some.ensures c.read_part.new.numbers c.read_part.result c.read_part.ensures.many c.read_part.ensures.within c.read_part.ensures.numbers k near
