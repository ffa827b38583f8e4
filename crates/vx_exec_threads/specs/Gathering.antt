-- What taking packets early does to the queues of a worker (our own).
use Rattle.std.specs.Prelude.{◌≡◌, ℕ, ◌≤◌, List, Some, slice_get}
use Rattle.std.specs.VecDeque.{deque_len, deque_capacity}
use Rattle.vx_exec_threads.specs.declared.inlet.Inlet.{Inlet}

-- nothing was moved into a queue, and nothing out of it
abbrev pub QueuesStay : List Inlet → List Inlet → Type 0
QueuesStay xs ys = (k : ℕ) (a : Inlet) → slice_get xs k ≡ Some a → (b : Inlet) × (slice_get ys k ≡ Some b) × (b.queue.items ≡ a.queue.items)

-- the queue was filled to the last place that it had: before that, no memory for more is wanted
abbrev pub IsFilled : Inlet → Inlet → Type 0
IsFilled a b = deque_capacity a.queue ≤ deque_len b.queue

-- the queue at this place was
abbrev pub FillsAt : ℕ → List Inlet → List Inlet → Type 0
FillsAt k xs ys = (a : Inlet) × (b : Inlet) × (slice_get xs k ≡ Some a) × (slice_get ys k ≡ Some b) × IsFilled a b

abbrev pub FillsOne : List Inlet → List Inlet → Type 0
FillsOne xs ys = (k : ℕ) × FillsAt k xs ys
