-- What a thread is given, by its parts.
use Rattle.std.specs.Prelude.{ℕ}
use Rattle.vx_worker.specs.declared.worker.Worker.{Worker}
use Rattle.vx_exec_threads.specs.declared.ends.Ends.{Ends}
use Rattle.vx_exec_spawn.specs.declared.member.CrewMember.{CrewMember}

module _ {O S : Type 0} where
  abbrev pub worker_of : CrewMember O S → Worker O S
  worker_of c = c.worker

  abbrev pub ends_of : CrewMember O S → Ends
  ends_of c = c.ends

  abbrev pub number_of : CrewMember O S → ℕ
  number_of c = c.number

  -- the fragment and the place in it
  abbrev pub seat_of : CrewMember O S → ℕ × ℕ
  seat_of c = (c.fragment, c.place)
