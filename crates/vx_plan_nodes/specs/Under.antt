-- Plans under other functions: the same plan, in which each call has the function that is given for its function's name.
use Rattle.std.specs.Prelude.{map}
use Rattle.vx_plan_nodes.specs.Plan.{Expression, input, value, call, Operands, no_operands, operand, Filter, comparing, computing, Entry, copy_of, made_by, Unary, select, project, Plan, scan, unary, binary, exchange}
use Rattle.vx_plan_nodes.specs.Names.{TypedPlanView}
pub use Rattle.vx_plan_nodes.specs.Functions.{Functions, given_for}
use Rattle.vx_plan_nodes.specs.Outline as outline
use Rattle.vx_plan_nodes.specs.Outline.{Outline}

abbrev mutual
  -- the expression, each of whose functions is the one that is given for its name
  pub expression_under : Functions → Expression → Expression
  expression_under given (input c) = input c
  expression_under given (value v) = value v
  expression_under given (call f t es) = call (given_for given f.name) t (operands_under given es)

  pub operands_under : Functions → Operands → Operands
  operands_under given no_operands = no_operands
  operands_under given (operand e es) = operand (expression_under given e) (operands_under given es)

abbrev pub filter_under : Functions → Filter → Filter
filter_under given (comparing c) = comparing c
filter_under given (computing e) = computing (expression_under given e)

abbrev pub entry_under : Functions → Entry → Entry
entry_under given (copy_of c) = copy_of c
entry_under given (made_by e) = made_by (expression_under given e)

-- only a select and a project name functions
abbrev pub unary_under : Functions → Unary → Unary
unary_under given (select fs) = select (map (filter_under given) fs)
unary_under given (project es) = project (map (entry_under given) es)
unary_under given op = op

-- the plan under these functions
abbrev pub under : Functions → Plan → Plan
under given (scan n c r m z) = scan n c r m z
under given (unary n c op p) = unary n c (unary_under given op) (under given p)
under given (binary n c op p q) = binary n c op (under given p) (under given q)
under given (exchange n c k m p) = exchange n c k m (under given p)

-- the same of a typed plan with its names
abbrev pub outline_under : Functions → Outline → Outline
outline_under given (outline.scan h r m z p) = outline.scan h r m z p
outline_under given (outline.unary h op flags t) = outline.unary h (unary_under given op) flags (outline_under given t)
outline_under given (outline.binary h op t u) = outline.binary h op (outline_under given t) (outline_under given u)
outline_under given (outline.exchange h k m t) = outline.exchange h k m (outline_under given t)

abbrev pub typed_plan_under : Functions → TypedPlanView → TypedPlanView
typed_plan_under given p = record { names = p.names; total = p.total; derives = p.derives; root = outline_under given p.root }
