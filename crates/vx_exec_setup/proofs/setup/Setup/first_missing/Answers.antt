use Rattle.std.proofs.Common.{String, Global, Bor, string_bytes, is_none}
use Rattle.vx_exec_setup.specs.Setup.{number_of}
use Rattle.vx_exec_setup.proofs.FindFacts.{find_seen}
use Rattle.vx_exec_setup.proofs.setup.Setup.first_missing.Goals as goal

pub returns : goal.returns
returns c = find_seen (λ name. is_none (number_of c.args.self.now.sizes name)) string_bytes (λ (n : Bor (String Global)). n.now) c.find_missing.result c.args.names.now c.find_missing.ensures
