use Rattle.std.proofs.Common.{◌≡◌, take}
use Rattle.vx_match_grouping.specs.Takes.{entry_held, advance_all}
use Rattle.vx_match_grouping.proofs.fold.add_to_one.Given as goal

-- the first i rows were added
abbrev pub invariant-loop-i : goal.invariant-loop-i
invariant-loop-i g l =
    entry_held (g.F.Fold.aggregate l.fold) g.F.Fold.value g.F.Fold.taken l.entry
    ≡ advance_all (take l.i (g.F.Fold.rows l.fold)) (entry_held (g.F.Fold.aggregate l.fold) g.F.Fold.value g.F.Fold.taken l.initial.entry)
