use Rattle.std.proofs.Common.{◌≡◌, false}
use Rattle.std.specs.List.{AllWithin}
use Rattle.vx_exec_threads.specs.Inlets.{is_way}
use Rattle.vx_exec_threads.specs.declared.inlet.Inlet.{Inlet}
use Rattle.vx_exec_threads.proofs.ends.Ends.inlet_of.Given as goal

abbrev pub invariant-loop-k : goal.invariant-loop-k
invariant-loop-k l = AllWithin (λ (e : Inlet). is_way e l.exchange l.from ≡ false) l.self.ins.items 0 l.k
