use Rattle.std.proofs.Common.{◌≡◌, ℕ, ◌+◌, ◌-◌, ◌<◌, length, arith, refl, ◌∙◌}
use Rattle.vx_rows.proofs.Splice.{Spliced, joined_as, spliced_none, spliced_some, kept, moved, are_cuts, on_ok}
use Rattle.vx_rows.proofs.texts.splice.Goals as goal
use Rattle.vx_rows.proofs.texts.splice.Goals.{In_err-extend_from_slice, After-push_cuts}

-- no bytes came
none : (c : In_err-extend_from_slice)
    → Spliced c.args.bytes.now.items c.args.cuts.now.items c.args.others.now c.args.other_cuts.now c.extend_from_slice.new.self.items c.truncate-2.new.self.items c.args.at c.args.from
    (length c.truncate-2.new.self.items - (c.args.at + 1)) c.args.from
none c =
    spliced_none _ _ _ _ _ _ c.args.at c.args.from c.args.to _ c.requires.near c.requires.order c.requires.far c.index-start.ensures
    (c.in_err-extend_from_slice.ensures.items ∙ c.truncate.ensures.items) c.truncate-2.ensures.items

-- all bytes came
all : (c : After-push_cuts)
    → Spliced c.args.bytes.now.items c.args.cuts.now.items c.args.others.now c.args.other_cuts.now c.extend_from_slice.new.self.items c.push_cuts.new.cuts.items c.args.at c.args.from
    (length c.push_cuts.new.cuts.items - (c.args.at + 1)) c.args.to
all c =
    spliced_some _ _ _ _ _ _ _ c.args.at c.args.from c.args.to _ c.requires.near c.requires.far c.index-start.ensures
    (joined_as c.in_ok-extend_from_slice.ensures.items c.truncate.ensures.items refl) c.requires.order
    c.truncate-2.ensures.items c.push_cuts.ensures.moved

pub returns-in_err-extend_from_slice-clause-cuts : goal.returns-in_err-extend_from_slice-clause-cuts
returns-in_err-extend_from_slice-clause-cuts c =
    are_cuts _ _ _ _ _ _ _ _ _ _ c.requires.old c.requires.other (none (goal.at.returns-in_err-extend_from_slice-clause-cuts c).In_err-extend_from_slice)

pub returns-in_err-extend_from_slice-clause-kept : goal.returns-in_err-extend_from_slice-clause-kept
returns-in_err-extend_from_slice-clause-kept c =
    kept _ _ _ _ _ _ _ _ _ _ c.requires.old c.requires.other (none (goal.at.returns-in_err-extend_from_slice-clause-kept c).In_err-extend_from_slice)

pub returns-clause-cuts : goal.returns-clause-cuts
returns-clause-cuts c = are_cuts _ _ _ _ _ _ _ _ _ _ c.requires.old c.requires.other (all (goal.at.returns-clause-cuts c).After-push_cuts)

pub returns-clause-kept : goal.returns-clause-kept
returns-clause-kept c = kept _ _ _ _ _ _ _ _ _ _ c.requires.old c.requires.other (all (goal.at.returns-clause-kept c).After-push_cuts)

pub returns-clause-ok : goal.returns-clause-ok
returns-clause-ok c =
    let m = moved _ _ _ _ _ _ _ _ _ _ c.requires.old c.requires.other (all (goal.at.returns-clause-ok c).After-push_cuts) in
    on_ok c.push_cuts.result
    (λ (many : length c.push_cuts.new.cuts.items ≡ c.args.at + 1 + (c.args.to - c.args.from)) (k : ℕ) (h : k < c.args.to - c.args.from). m k (omega arith)) c.push_cuts.ensures.ok
