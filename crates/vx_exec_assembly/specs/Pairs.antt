-- Ends of rings in lists of lists, by worker and place (our own).
use Rattle.std.specs.Prelude.{◌≡◌, ℕ, List, Vec, Some, slice_get}
use Rattle.std.specs.declared.alloc.Global.{Global}
use Rattle.vx_ports_rings.specs.Ends.{put_to, taken_from, SameOut}
use Rattle.vx_ports_rings.specs.declared.ring.RingOut.{RingOut}
use Rattle.vx_exec_threads.specs.Inlets.{SameInlet}
use Rattle.vx_exec_threads.specs.declared.inlet.Inlet.{Inlet}

-- what stands at place j of list a
pub record At {A : Type 0} (xs : List (Vec A Global)) (a j : ℕ) (x : A) : Type 0 where
  pub list : Vec A Global
  pub outer : slice_get xs a ≡ Some list
  pub inner : slice_get list.items j ≡ Some x

-- the two ends of one ring, and a fact about them
pub record RingAt (P : RingOut → Inlet → Type 0) (os : List (Vec RingOut Global)) (is : List (Vec Inlet Global)) (a j b k : ℕ) : Type 0 where
  pub out : RingOut
  pub inlet : Inlet
  pub at_out : At os a j out
  pub at_in : At is b k inlet
  pub fact : P out inlet

-- the same end, which carried the same, at two moments
abbrev pub StillOut : RingOut → RingOut → Type 0
StillOut o x = (put_to x ≡ put_to o) × SameOut o x

abbrev pub StillIn : Inlet → Inlet → Type 0
StillIn e x = (taken_from x.ring ≡ taken_from e.ring) × SameInlet e x

-- the same ends at the same places, with what they carried; and no others
pub record Still {A : Type 0} (R : A → A → Type 0) (xs ys : List (Vec A Global)) : Type 0 where
  pub on : (a j : ℕ) (x : A) → At xs a j x → (y : A) × At ys a j y × R x y
  pub back : (a j : ℕ) (y : A) → At ys a j y → (x : A) × At xs a j x × R x y

-- all ends of all workers, before some of them were brought together and after it
pub record Reunited (os : List (Vec RingOut Global)) (is : List (Vec Inlet Global)) (ps : List (Vec RingOut Global))
    (js : List (Vec Inlet Global)) : Type 0 where
  pub outs : Still StillOut os ps
  pub ins : Still StillIn is js
