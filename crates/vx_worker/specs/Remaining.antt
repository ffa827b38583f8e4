-- What a worker has still to do: a number that every step which goes on makes smaller, whatever the other workers do.
use Rattle.std.specs.Prelude.{ℕ, ◌≡◌, ◌≤◌, ◌+◌, ◌*◌, ◌==◌, ◌⊎◌, cond, false, List, length, Option, Some, None, Contains}
use Rattle.vx_rows_values.specs.Values.{Row}
use Rattle.vx_ports.specs.Packets.{PacketView, is_closed}
use Rattle.vx_ops.specs.Ledger.{Op}
use Rattle.vx_ops.specs.Turn.{Coming, packet_rows, with_more, sum_below}
use Rattle.vx_ops.specs.Starts.{op_most, op_idle, StartsWithin}
use Rattle.vx_exchange_ends.specs.Tasks.{Post}
use Rattle.vx_exchange_ends.specs.Queued.{consumers_of, rows_to}
use Rattle.vx_worker.specs.Fragment.{Frag, alone, above, both}
use Rattle.vx_worker.specs.Trace.{Event, idle, drew_one, took_one, put_one, Trace}
use Rattle.vx_worker.specs.Trees.{TakesFrom, ScansAt, LeavesComing, leaf_coming, tree_coming, tree_most, tree_idle}
use Rattle.vx_worker.specs.Intake.{BringsSome}
use Rattle.vx_worker.specs.Worker.{outcome_of}
use Rattle.vx_worker.specs.declared.tree.Tree.{Tree, Leaf, One', Two'}
use Rattle.vx_worker.specs.declared.worker.Worker.{Worker}
use Rattle.vx_worker.specs.declared.worker.WorkerState.{WorkerState}
use Rattle.vx_worker.specs.declared.worker.WorkerState.TheVariants.{Running, Failing, Draining, Well, Failed}
use Rattle.vx_worker.specs.declared.worker.WorkerOutcome.{WorkerOutcome}
use Rattle.vx_worker.specs.declared.worker.StepOutcome.{StepOutcome}
use Rattle.vx_worker.specs.declared.worker.StepOutcome.TheVariants as step_outcome

-- the most rows that a fragment to which nothing came may return, where so many rows may come to its leaves
abbrev pub frag_most : Frag → LeavesComing → ℕ
frag_most (alone k x) c = op_most x (leaf_coming k c)
frag_most (above x f) c = op_most x (tree_coming (frag_most f c) 0)
frag_most (both x f h) c = op_most x (tree_coming (frag_most f c) (frag_most h c))

-- the most turns of its own in which it may return nothing: those of its operators, and those in which rows are returned below the top and come no further
abbrev pub frag_idle : Frag → LeavesComing → ℕ
frag_idle (alone k x) c = op_idle x (leaf_coming k c)
frag_idle (above x f) c = op_idle x (tree_coming (frag_most f c) 0) + (frag_most f c + frag_idle f c)
frag_idle (both x f h) c = op_idle x (tree_coming (frag_most f c) (frag_most h c)) + (frag_most f c + frag_idle f c) + (frag_most h c + frag_idle h c)

-- each operator of a tree starts within what its kind has to do at most
abbrev pub TreeStarts : {O : Type 0} → (O → Op) → (most idle_turns : O → Coming → ℕ) → Tree O → Type 0
TreeStarts op most idle_turns (Leaf k o) = StartsWithin (op o) (most o) (idle_turns o)
TreeStarts op most idle_turns (One' o p c) = StartsWithin (op o) (most o) (idle_turns o) × TreeStarts op most idle_turns c
TreeStarts op most idle_turns (Two' o p a q b) = StartsWithin (op o) (most o) (idle_turns o) × TreeStarts op most idle_turns a × TreeStarts op most idle_turns b

-- what might still come to the leaves before this event brought some of it, where m says the rows of each scan's morsels
abbrev pub before_event : (m : ℕ → ℕ → List Row) → Event → LeavesComing → LeavesComing
before_event m idle c = c
before_event m (drew_one k None) c = c
before_event m (drew_one k (Some n)) c = record c { scanned = with_more k (length (m k n)) c.scanned }
before_event m (took_one x i o) c = record c { came = λ j. cond (j == x) (with_more i (packet_rows o) (c.came j)) (c.came j) }
before_event m (put_one j p) c = c

-- 1 for an event that brought a morsel or a packet: there are only so many of these
abbrev pub arrivals : Event → ℕ
arrivals idle = 0
arrivals (drew_one k None) = 0
arrivals (drew_one k (Some n)) = 1
arrivals (took_one x i None) = 0
arrivals (took_one x i (Some p)) = 1
arrivals (put_one j p) = 0

-- the rows that an event put for a consumer
abbrev pub rows_put : Event → (consumer : ℕ) → ℕ
rows_put idle j = 0
rows_put (drew_one k d) j = 0
rows_put (took_one x i o) j = 0
rows_put (put_one to p) j = rows_to to p j

-- 1 for a step by which a worker that had not ended went on: it moved, or it ended
abbrev pub progress : (before : Option WorkerOutcome) → StepOutcome → ℕ
progress None step_outcome.Moved = 1
progress None step_outcome.Waiting = 0
progress None step_outcome.Ended = 1
progress (Some o) r = 0

-- what an event may be of a worker with these operators, which takes from these producers and has this trace: it draws of a scan of its own, and takes of a
-- producer of its own that has not closed; a packet that comes has rows, or closes
abbrev pub EventFits : Frag → (inputs : List (ℕ × ℕ)) → Trace → Event → Type 0
EventFits f inputs t idle = Unit {0}
EventFits f inputs t (drew_one k d) = ScansAt k f
EventFits f inputs t (took_one x i o) =
    (TakesFrom x i f ⊎ Contains inputs (x, i)) × (is_closed (t.came x i) ≡ false) × BringsSome o
EventFits f inputs t (put_one j p) = Unit {0}

-- 1 for a packet that is here
abbrev pub pending_count : Option (ℕ × PacketView) → ℕ
pending_count None = 0
pending_count (Some x) = 1

-- its rows for a consumer
abbrev pub pending_rows : Option (ℕ × PacketView) → (consumer : ℕ) → ℕ
pending_rows None j = 0
pending_rows (Some x) j = rows_to x.0 x.1 j

-- of a worker whose operators and sending end have so much to do
module _ {O S : Type 0} (most idle_turns : O → Coming → ℕ) (post : S → Post) (held : S → ℕ → ℕ) (unclosed : S → ℕ) where
  -- the most rows that its operators may still return; once it has failed or ended, none go on
  abbrev pub rows_left_in : WorkerState → Worker O S → LeavesComing → ℕ
  rows_left_in Running w c = tree_most most w.tree c
  rows_left_in (Failing f) w c = 0
  rows_left_in (Draining f) w c = 0
  rows_left_in Well w c = 0
  rows_left_in (Failed f) w c = 0

  abbrev pub rows_left : Worker O S → LeavesComing → ℕ
  rows_left w c = rows_left_in w.phase w c

  -- the rows that it holds for a consumer: in the packet that is here, and in its sending end
  abbrev pub rows_held_in : WorkerState → Worker O S → (consumer : ℕ) → ℕ
  rows_held_in Running w j = pending_rows w.pending j + held w.sender j
  rows_held_in (Failing f) w j = 0
  rows_held_in (Draining f) w j = 0
  rows_held_in Well w j = 0
  rows_held_in (Failed f) w j = 0

  abbrev pub rows_held : Worker O S → (consumer : ℕ) → ℕ
  rows_held w j = rows_held_in w.phase w j

  -- the most steps by which it may still go on, besides one for each morsel and each packet that comes. While it runs: one for each row that its top may
  -- return, and one for each consumer to which such a row may go; its idle turns; one for each row that it holds for a consumer, for each consumer that it has
  -- not closed, for the packet that is here, and for the end of its top; and those that it would need if it failed. Once it has failed: one for each packet that
  -- closes a port; then for its end
  abbrev pub steps_left_in : WorkerState → Worker O S → LeavesComing → ℕ
  steps_left_in Running w c =
      let n = consumers_of (post w.sender) in
      (n + 1) * tree_most most w.tree c + tree_idle most idle_turns w.tree c + (sum_below n (held w.sender) + unclosed w.sender)
      + pending_count w.pending + cond w.is_over 0 1 + (n + 3)
  steps_left_in (Failing f) w c = length w.closing.items + pending_count w.pending + 2
  steps_left_in (Draining f) w c = 1
  steps_left_in Well w c = 0
  steps_left_in (Failed f) w c = 0

  abbrev pub steps_left : Worker O S → LeavesComing → ℕ
  steps_left w c = steps_left_in w.phase w c

  -- what a step of one event spends, whatever may come after it: where it goes on, one of the steps that the worker had left; and the rows that it puts are
  -- taken from those that it held or might still return
  pub record Spends (m : ℕ → ℕ → List Row) (f : Frag) (inputs : List (ℕ × ℕ)) (old new : Worker O S) (t : Trace) (e : Event) (answer : StepOutcome) : Type 0 where
    pub event : EventFits f inputs t e
    pub steps : (c : LeavesComing) → steps_left new c + progress (outcome_of old) answer ≤ steps_left old (before_event m e c) + arrivals e
    pub rows : (c : LeavesComing) (j : ℕ) → rows_put e j + (rows_held new j + rows_left new c) ≤ rows_held old j + rows_left old (before_event m e c)

  -- a worker with these operators, to which nothing came, has no more to do than its kinds of operators have
  pub record Starts (f : Frag) (w : Worker O S) : Type 0 where
    pub steps : (c : LeavesComing) →
        let n = consumers_of (post w.sender) in
        steps_left w c ≤ (n + 1) * frag_most f c + frag_idle f c + (2 * n + 4)
    pub rows : (c : LeavesComing) (j : ℕ) → rows_held w j + rows_left w c ≤ frag_most f c
