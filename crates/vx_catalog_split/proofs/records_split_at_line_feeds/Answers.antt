use Rattle.vx_catalog_split.proofs.SplitFacts.{split_law}
use Rattle.vx_catalog_split.proofs.records_split_at_line_feeds.Goals as goal

pub returns : goal.returns
returns c = split_law
