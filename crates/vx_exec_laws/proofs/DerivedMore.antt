-- What the first rule table allows, the one with what is known of columns allows too.
use Rattle.vx_check_rules.proofs.DerivedMore.{nodes-more, root-more}
use Rattle.vx_exec_laws.specs.DerivedSound.{AllowsMore}

pub allows-more : AllowsMore
allows-more catalog p = (nodes-more catalog p, root-more catalog p)
