-- Pairs of ends in lists of lists, by worker and place (our own).
use Rattle.std.specs.Prelude.{◌≡◌, ℕ, List, Vec}
use Rattle.std.specs.declared.alloc.Global.{Global}
use Rattle.vx_ports_rings.specs.declared.ring.RingOut.{RingOut}
use Rattle.vx_exec_threads.specs.declared.inlet.Inlet.{Inlet}
use Rattle.vx_exec_assembly.specs.Pairs.{At}

-- worker a's end to consumer j and worker b's inlet from producer i of exchange n, and a fact about them
abbrev pub PairIn : (P : RingOut → Inlet → Type 0) → List (Vec RingOut Global) → List (Vec Inlet Global) → (a j b n i : ℕ) → Type 0
PairIn P os is a j b n i = (o : RingOut) × (e : Inlet) × At os a j o × (k : ℕ) × At is b k e × (e.exchange ≡ n) × (e.from ≡ i) × P o e

-- each producer of an exchange has one inlet at each worker
abbrev pub AreApart : List (Vec Inlet Global) → Type 0
AreApart is = (b k l : ℕ) (e f : Inlet) → At is b k e → At is b l f → e.exchange ≡ f.exchange → e.from ≡ f.from → k ≡ l
