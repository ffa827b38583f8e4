use Rattle.std.proofs.Common.{Some}
use Rattle.vx_check_failures.proofs.FindingFacts.{found-node}
use Rattle.vx_check_sentences.proofs.explaining.explanation.Goals as goal

pub explained-requires-clause-node : goal.explained-requires-clause-node
explained-requires-clause-node c =
    found-node c.args.plan.now c.args.node (Some c.in-Some.node) (rw c.root.ensures.root at c.root.ensures.outputs) (rw c.root.ensures.plan at c.root.ensures.typed.nodes) (rw c.root.ensures.root at c.in-Some.ensures)
