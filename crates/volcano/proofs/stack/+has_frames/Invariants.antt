use Rattle.volcano.proofs.stack.+has_frames.Given as goal

abbrev pub decreases-has_frames : goal.decreases-has_frames
decreases-has_frames l = l.count
