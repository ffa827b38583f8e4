use Rattle.vx_rows_views.proofs.Marked.{row-there, place-from, there-from}
use Rattle.vx_rows_views.proofs.rows.spot_near.Goals as goal

pub spot_of-spot-requires : goal.spot_of-spot-requires
spot_of-spot-requires c =
    let r = c.chunks_toward-before.ensures in
    row-there r.rest c.args.i r.before c.requires.row

pub returns-clause-place : goal.returns-clause-place
returns-clause-place c =
    let r = c.chunks_toward-before.ensures in
    let s = c.spot_of-spot in
    place-from r.rest c.args.i s.result.chunk s.result.place r.before s.ensures.place

pub returns-clause-there : goal.returns-clause-there
returns-clause-there c =
    let s = c.spot_of-spot in
    there-from c.chunks_toward-before.ensures.rest s.result.chunk s.result.place s.ensures.there
