-- Expressions, conditions and entries of the program under the functions that are given.
use Rattle.vx_plan_nodes.specs.Functions.{Functions}
use Rattle.vx_plan_nodes.specs.Outline.{expression_of, filter_of, entry_of}
use Rattle.vx_plan_nodes.specs.Plan as plan
use Rattle.vx_plan_nodes.specs.Under.{expression_under, filter_under, entry_under}
use Rattle.vx_plan_nodes.specs.declared.typed.Entry.{Entry}
use Rattle.vx_plan_nodes.specs.declared.typed.Expression.{Expression}
use Rattle.vx_plan_nodes.specs.declared.typed.Filter.{Filter}

abbrev pub expression_by : Functions → Expression → plan.Expression
expression_by given e = expression_under given (expression_of e)

abbrev pub filter_by : Functions → Filter → plan.Filter
filter_by given f = filter_under given (filter_of f)

abbrev pub entry_by : Functions → Entry → plan.Entry
entry_by given e = entry_under given (entry_of e)
