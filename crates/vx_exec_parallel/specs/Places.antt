-- Places of workers, as plain data.
use Rattle.std.specs.Prelude.{ℕ}
use Rattle.vx_exec_parallel.specs.declared.places.FragmentPlace.{FragmentPlace}

-- the fragment and the place in it
abbrev pub place_in : FragmentPlace → ℕ × ℕ
place_in s = (s.fragment, s.place)
