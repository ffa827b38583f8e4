use Rattle.vx_exec_laws.proofs.DerivedMore.{allows-more}
use Rattle.vx_exec_laws.proofs.derived.derived_table_allows_more.Goals as goal

pub returns : goal.returns
returns c = allows-more
