-- What a session that is held owns: what a box of it owns, and nothing where there is none.
use Rattle.std.specs.Prelude.{Option, Some, None}
use Rattle.std.specs.Coded.{Coded, coded_option}
use Rattle.std.specs.Box.Ownership.{box_owns}
use Rattle.std.specs.Global.{Global}
use base.Fml.{Fml, ftrue}
use denote.RawPtr.{Ptr}
use Rattle.std_heap.specs.contracts.GlobalAllocator.TheImpl.{ghosts}
use Rattle.volcano_embedding.specs.contracts.shared.SharedSession.{the_row}

abbrev pub held_owns : Global → Ptr → Option the_row.Denot → Fml
held_owns alloc at (Some s) = box_owns (ghosts.dealloc_token alloc) the_row at s
held_owns alloc at None = ftrue

abbrev pub held_coded : Coded (Option the_row.Denot)
held_coded = coded_option the_row.coded
