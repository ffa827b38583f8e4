-- The parts of what a thread gave back (our own).
use Rattle.std.specs.Prelude.{Vec}
use Rattle.std.specs.declared.alloc.Global.{Global}
use Rattle.vx_worker.specs.declared.worker.Worker.{Worker}
use Rattle.vx_ports_rings.specs.declared.ring.RingOut.{RingOut}
use Rattle.vx_exec_threads.specs.declared.inlet.Inlet.{Inlet}
use Rattle.vx_exec_threads.specs.declared.drawer.Drawer.{Drawer}
use Rattle.vx_exec_threads.specs.Carrying.{hold_of}
use Rattle.vx_exec_threads.specs.Holds.{Hold}
use Rattle.vx_exec_spawn.specs.declared.member.Joined.{Joined}

module _ {O S : Type 0} where
  abbrev pub worker_in : Joined O S → Worker O S
  worker_in j = j.worker

  abbrev pub outs_in : Joined O S → Vec RingOut Global
  outs_in j = j.ends.outs

  abbrev pub ins_in : Joined O S → Vec Inlet Global
  ins_in j = j.ends.ins

  abbrev pub drawers_in : Joined O S → Vec Drawer Global
  drawers_in j = j.ends.draws

  -- all that its thread held
  abbrev pub held_in : Joined O S → Hold
  held_in j = hold_of j.ends
