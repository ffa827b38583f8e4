use Rattle.std.proofs.Common.{[], ◌∙◌, sym, ap, map, set, get_or}
use Rattle.std.proofs.lemmas.List.{map-set, get_or-map}
use Rattle.vx_match_grouping.specs.Groups.{advance, no_held}
use Rattle.vx_match_grouping.specs.Takes.{entry_held}
use Rattle.vx_match_grouping.proofs.fold.add_row.Goals as goal

pub returns-then-number-len-clause-known : goal.returns-then-number-len-clause-known
returns-then-number-len-clause-known g c = λ below.
    let held = entry_held (g.F.Fold.aggregate c.args.fold.now) g.F.Fold.value g.F.Fold.taken in
    let es = c.args.entries.now.items in
    let n = c.args.number in
    let y = get_or (g.F.Fold.rows c.args.fold.now) c.args.i [] in
    map-set held es n c.add.new.entry
    ∙ ap (set (map held es) n)
    (c.in_ok-add.ensures.ok ∙ ap (advance y) (ap held c.index_mut.ensures.value ∙ sym (get_or-map held es n c.index_mut.result.now no_held below)))
