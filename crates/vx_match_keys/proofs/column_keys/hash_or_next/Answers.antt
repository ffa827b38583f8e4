use Rattle.std.proofs.Common.{sym, ◌∙◌, nat_eq}
use Rattle.vx_match_keys.proofs.NumberFacts.{found-number, missing-number}
use Rattle.vx_match_keys.proofs.column_keys.hash_or_next.Goals as goal

pub returns-in_default : goal.returns-in_default
returns-in_default c = c.len.ensures.len ∙ missing-number (nat_eq c.args.hash) c.args.hashes.now.keys (sym c.in_default.ensures.index)

pub returns : goal.returns
returns c = found-number (nat_eq c.args.hash) c.args.hashes.now.keys c.in-Some.number (sym c.in-Some.ensures.index)
