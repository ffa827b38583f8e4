use Rattle.std.proofs.Common.{rules, ◌≡◌, Some, slice_get, refl}
use Rattle.std.proofs.lemmas.Option.{slice_get_read}
use Rattle.vx_exec_wiring.proofs.Shares.{gives-drawer}
use Rattle.vx_exec_wiring.proofs.share.give_drawer.Goals as goal

pub returns : goal.returns
returns c =
    let s = c.index_mut.result.now in
    let ss = c.args.shares.now in
    let at : slice_get ss.items c.args.worker ≡ Some s = slice_get_read ss.items ss.len c.args.worker s (search rules) (search rules) c.index_mut.ensures.value in
    gives-drawer ss.items c.args.worker s (record s { draws = c.push.new.self }) c.args.drawer at refl refl c.in_ok-push.ensures.items
