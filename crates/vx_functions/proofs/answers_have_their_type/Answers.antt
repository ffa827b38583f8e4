use Rattle.vx_functions.proofs.AnswerTypes.{answers-have-their-type}
use Rattle.vx_functions.proofs.answers_have_their_type.Goals as goal

pub returns : goal.returns
returns c = answers-have-their-type
