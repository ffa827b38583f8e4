-- From a list of hands to seats by number.
use Rattle.std.specs.Prelude.{ℕ, List, length}
use Rattle.vx_morsel.specs.Draws.{Draws, DealtOut, seat_at}
use Rattle.vx_worker.specs.Morsels.{Dispatched}

-- what the closing of a deck promises of a list of hands is what the laws ask of its seats
abbrev pub HandsDispatched : Type 0
HandsDispatched = (m t : ℕ) (hs : List Draws) → DealtOut m t hs → Dispatched (length hs) m (seat_at hs)
