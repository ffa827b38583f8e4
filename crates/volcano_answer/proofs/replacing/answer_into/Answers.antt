use Rattle.volcano_answer.proofs.ReplacingFacts.{put_is, put_over}
use Rattle.volcano_answer.proofs.replacing.answer_into.Goals as goal

pub returns-in-Ok-finish-clause-done : goal.returns-in-Ok-finish-clause-done
returns-in-Ok-finish-clause-done g c = λ some zero.
    let a = c.answer.ensures.arguments_done some c.in-0.is in
    (a.0, a.1, put_is _ _ _ _ a.0 c.in-Ok.ensures.empty a.2 (put_over _ _ c.args.path.now _ _ c.in-Ok.ensures.kept c.in-Ok-finish.ensures.put))
