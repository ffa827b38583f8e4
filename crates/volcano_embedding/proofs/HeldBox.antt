-- A session that is held, and its parts, own what a box of the session owns.
use Rattle.std.specs.Prelude.{◌≡◌, Option, Some, None, is_some, true}
use Rattle.std.proofs.Common.{refl, sym, subst}
use mathlib.Core.List.{[]}
use lib.Dec.{T}
use mir.Syntax.{impl, tnil, dnil}
use denote.Signature.{Slot, plain}
use Rattle.std_alloc.proofs.BoxSteps.Form.{Bx}
use Rattle.std_heap.specs.contracts.Global as Heap
use Rattle.std_heap.specs.contracts.GlobalAllocator.TheImpl.{ghosts, dict}
use Rattle.std_heap.proofs.Global.TheLaws as heap
use Rattle.volcano_embedding.specs.contracts.shared.SharedSession as Session
use Rattle.volcano_embedding.proofs.shared.SharedSession.TheLaws as session
use Rattle.volcano_embedding.specs.contracts.box_parts.BoxParts as BoxParts
use Rattle.volcano_embedding.specs.contracts.held.Held as Held

-- a box of a session
abbrev pub E : Bx
E = record { row = Session.the_row; laws = session.the_row_laws; al = record { row = Heap.the_row; laws = heap.the_row_laws; g = ghosts; d = dict; drops = impl [] tnil dnil } }

abbrev pub FromParts : Slot 0
FromParts = plain (λ _. BoxParts.the_row Session.the_row Heap.the_row ghosts)

abbrev pub FromHeld : Slot 0
FromHeld = plain (λ _. Held.the_row)

-- a value that is there has a name
pub some_of : {A : Type 0} (o : Option A) → is_some o ≡ true → (s : A) × (o ≡ Some s)
some_of (Some s) e = (s, refl)
some_of None e = absurd (subst T (sym e) tt)
