use Rattle.vx_exec_operators.proofs.kind.OperatorKindSource.wants.Goals as goal

pub returns-in-Scan-clause-wishes : goal.returns-in-Scan-clause-wishes
returns-in-Scan-clause-wishes g c = rw c.in-Scan.is c.wants.ensures.wishes
