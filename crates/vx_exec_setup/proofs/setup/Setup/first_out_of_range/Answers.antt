use Rattle.std.proofs.Common.{String, Global, Bor, string_bytes, not}
use Rattle.vx_exec_setup.specs.Setup.{workers_named, is_within}
use Rattle.vx_exec_setup.proofs.FindFacts.{find_seen}
use Rattle.vx_exec_setup.proofs.setup.Setup.first_out_of_range.Goals as goal

pub returns : goal.returns
returns c = find_seen (λ name. not (is_within 64 (workers_named c.args.self.now.sizes name))) string_bytes (λ (n : Bor (String Global)). n.now) c.find_out_of_range.result c.args.names.now c.find_out_of_range.ensures
