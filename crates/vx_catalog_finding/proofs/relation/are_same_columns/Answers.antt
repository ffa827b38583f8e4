use Rattle.std.specs.Cmp.{unsigned_Decides}
use Rattle.std.proofs.lemmas.Slice.Eq.{slice_eq-Decides}
use Rattle.vx_catalog_finding.proofs.relation.are_same_columns.Goals as goal

pub returns : goal.returns
returns c = slice_eq-Decides unsigned_Decides c.args.columns.now c.args.others.now c.eq.result c.eq.ensures
