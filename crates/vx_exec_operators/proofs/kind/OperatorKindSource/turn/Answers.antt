use Rattle.vx_exec_operators.proofs.kind.OperatorKindSource.turn.Goals as goal

pub returns-in-Scan-clause-stands : goal.returns-in-Scan-clause-stands
returns-in-Scan-clause-stands g c = rw c.in-Scan.is c.turn.ensures.stands

pub returns-in-Scan-clause-again : goal.returns-in-Scan-clause-again
returns-in-Scan-clause-again g c = rw c.in-Scan.is c.turn.ensures.again
