-- The consumers that have packets for which they were not woken, as their producer notes them (our own).
use Rattle.std.specs.Prelude.{◌≡◌, ℕ, ◌<◌, ◌⊎◌}
use Rattle.std.specs.Int.{IsBitSet}
use Rattle.vx_ports.specs.declared.port.Put.{Put}
use Rattle.vx_ports.specs.Puts.{IsDone}
use Rattle.vx_exec_threads.specs.declared.waking.Unwoken.{Unwoken}

-- none is noted
abbrev pub NoneNoted : Unwoken → Type 0
NoneNoted u = u.places ≡ 0

-- the consumer at this place is
abbrev pub IsNoted : Unwoken → ℕ → Type 0
IsNoted u place = IsBitSet u.places place

-- those that were noted are so still, or none is any more
abbrev pub KeepsNotes : Unwoken → Unwoken → Type 0
KeepsNotes a b = (k : ℕ) → IsNoted a k → NoneNoted b ⊎ IsNoted b k

-- a packet that was put is noted, or none is any more, as after one that closes the ring
pub record NotesPut (place : ℕ) (answer : Put) (closing : Type 0) (a b : Unwoken) : Type 0 where
  pub keeps : KeepsNotes a b
  pub noted : IsDone answer → place < 64 → NoneNoted b ⊎ IsNoted b place
  pub closes : IsDone answer → closing → place < 64 → NoneNoted b
