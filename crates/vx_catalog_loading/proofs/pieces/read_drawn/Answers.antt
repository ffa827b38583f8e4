use Rattle.std.proofs.lemmas.List.Elements.{All-push}
use Rattle.vx_catalog_loading.specs.Pieces.{IsDrawn}
use Rattle.vx_catalog_loading.proofs.pieces.read_drawn.Goals as goal

pub loop-preserved : goal.loop-preserved
loop-preserved c =
    rw c.in_ok-push.ensures.items
    (All-push (IsDrawn c.args.types.now c.args.text.now c.args.cuts.now) c.loop.reads.items c.read_at-read.result c.loop.invariant c.read_at-read.ensures)
