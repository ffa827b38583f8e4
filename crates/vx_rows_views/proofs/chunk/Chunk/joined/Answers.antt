use Rattle.std.proofs.Common.{ap, sym, ◌∙◌, length}
use Rattle.std.proofs.lemmas.List.{length-map}
use Rattle.vx_rows.specs.View.{row}
use Rattle.vx_rows_views.proofs.Joined.{zip-read}
use Rattle.vx_rows_views.proofs.chunk.Chunk.joined.Goals as goal

pub beside-requires : goal.beside-requires
beside-requires c =
    let a = ap length c.in_ok-left.ensures.rows ∙ length-map c.args.left_places.now (row c.args.left.now) in
    let b = ap length c.in_ok-right.ensures.rows ∙ length-map c.args.right_places.now (row c.args.right.now) in
    a ∙ (c.requires.many ∙ sym b)

pub returns-clause-rows : goal.returns-clause-rows
returns-clause-rows c =
    rw (c.in_ok-beside.ensures.rows, c.in_ok-left.ensures.rows, c.in_ok-right.ensures.rows) (zip-read (row c.args.left.now) (row c.args.right.now) c.args.left_places.now c.args.right_places.now)
