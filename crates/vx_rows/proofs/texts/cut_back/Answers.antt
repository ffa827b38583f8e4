use Rattle.std.proofs.Common.{[], ◌∷◌}
use Rattle.std.proofs.lemmas.Str.{IsUtf8-nil}
use Rattle.vx_rows.proofs.Splice.{Spliced, with_no_text, one_text, kept, are_cuts}
use Rattle.vx_rows.proofs.texts.cut_back.Goals as goal
use Rattle.vx_rows.proofs.texts.cut_back.Goals.{After-truncate-2}

-- no text came
without_text : (c : After-truncate-2)
    → Spliced c.args.bytes.now.items c.args.cuts.now.items [] (0 ∷ 0 ∷ []) c.truncate.new.self.items c.truncate-2.new.self.items c.args.at 0 0 1
without_text c = with_no_text _ _ _ _ [] c.args.at _ c.requires.near c.index-start.ensures c.truncate.ensures.items c.truncate-2.ensures.items

pub returns-clause-cuts : goal.returns-clause-cuts
returns-clause-cuts c = are_cuts _ _ _ _ _ _ _ _ _ _ c.requires.old (one_text [] IsUtf8-nil) (without_text (goal.at.returns-clause-cuts c).After-truncate-2)

pub returns-clause-kept : goal.returns-clause-kept
returns-clause-kept c = kept _ _ _ _ _ _ _ _ _ _ c.requires.old (one_text [] IsUtf8-nil) (without_text (goal.at.returns-clause-kept c).After-truncate-2)
