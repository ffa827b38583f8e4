-- The workers of a run by threads and the rings between them, as plain data (our own): the states of a small machine.
use Rattle.std.specs.Prelude.{ℕ, Bool, true, false, cond, ◌≡◌, ◌+◌, ◌-◌, ◌<◌, ◌≤◌, ◌==◌, ◌&&◌, ◌||◌}

-- The workers of a run, by their numbers; who puts packets to whom; and the slack, for how many packets a ring has places.
-- A producer's number is higher than its consumers', as the workers of each plan are numbered. Morsels are no part of it: a draw never waits
pub record Crew : Type 0 where
  pub size : ℕ
  pub feeds : (producer consumer : ℕ) → Bool
  pub slack : ℕ
  pub some_place : 1 ≤ slack
  pub numbered : (producer consumer : ℕ) → feeds producer consumer ≡ true → (consumer < producer) × (producer < size)

-- Where a worker stands. It works: it reads its inputs and puts packets. It closes its rings, for it is done or it failed, and reads nothing until they
-- are closed. Then it drains: it takes and drops what its producers still send
pub data Phase : Type 0 where
  working : Phase
  closing : Phase
  draining : Phase

-- what a worker waits for: a place in the ring to this consumer, or a packet of this producer
pub data Want : Type 0 where
  place_at : ℕ → Want
  packet_of : ℕ → Want

-- What a worker is about: it goes on with its steps; it is to wake this producer before anything else; its last step found nothing to do; it sleeps
-- on its parker; or it has ended
pub data Doing : Type 0 where
  going : Doing
  waking : ℕ → Doing
  waiting : Want → Doing
  asleep : Want → Doing
  ended : Doing

pub record WorkerState : Type 0 where
  pub phase : Phase
  pub doing : Doing
  pub token : Bool  -- its parker holds a token
  pub refused : Bool  -- memory for a queue of its own was refused to it
  pub unwoken : ℕ → Bool  -- the consumers to which it has put packets since it last woke them
  pub looked : ℕ → Bool  -- the producers whose rings it has found empty since it last took a token

-- the ring from a producer to a consumer, and the consumer's own queue of its packets
pub record RingState : Type 0 where
  pub packets : ℕ  -- in the ring
  pub seen : ℕ  -- of these, those of which the consumer knows
  pub queued : ℕ  -- that the consumer has taken from the ring, and no step of it yet
  pub closed : Bool  -- the packet that closes the ring was put, the last one
  pub over : Bool  -- a step of the consumer took that packet

pub record World : Type 0 where
  pub worker : ℕ → WorkerState
  pub ring : (producer consumer : ℕ) → RingState

-- the value at one place is x, and the others stay
abbrev pub with_at : {A : Type 0} → (ℕ → A) → ℕ → A → ℕ → A
with_at f a x b = cond (b == a) x (f b)

-- one worker changes, or one ring, and the others stay
abbrev pub on_worker : World → ℕ → (WorkerState → WorkerState) → World
on_worker w a f = record { worker = λ b. let x = w.worker b in cond (b == a) (f x) x; ring = w.ring }

abbrev pub on_ring : World → (producer consumer : ℕ) → (RingState → RingState) → World
on_ring w p c f = record { worker = w.worker; ring = λ q b. let r = w.ring q b in cond ((q == p) && (b == c)) (f r) r }

-- ---- what a worker waits for, and whether it may act

abbrev pub WaitsFor : Want → Doing → Type 0
WaitsFor x going = ⊥
WaitsFor x (waking p) = ⊥
WaitsFor x (waiting y) = y ≡ x
WaitsFor x (asleep y) = y ≡ x
WaitsFor x ended = ⊥

abbrev pub IsAsleep : Doing → Type 0
IsAsleep going = ⊥
IsAsleep (waking p) = ⊥
IsAsleep (waiting x) = ⊥
IsAsleep (asleep x) = Unit {0}
IsAsleep ended = ⊥

-- it runs, in a step or between its step and its sleep
abbrev pub IsUp : Doing → Type 0
IsUp going = Unit {0}
IsUp (waking p) = ⊥
IsUp (waiting x) = Unit {0}
IsUp (asleep x) = ⊥
IsUp ended = ⊥

-- steps of a worker that stands here take packets
abbrev pub Reads : Phase → Type 0
Reads working = Unit {0}
Reads closing = ⊥
Reads draining = Unit {0}

-- ---- how a worker changes

abbrev pub now : Doing → WorkerState → WorkerState
now d x = record x { doing = d }

abbrev pub in_phase : Phase → WorkerState → WorkerState
in_phase s x = record x { phase = s }

-- its parker gets a token; a parker holds one at most
abbrev pub given_token : WorkerState → WorkerState
given_token x = record x { token = true }

-- it takes its token and goes on: what it knew of its rings may be out of date
abbrev pub awake : WorkerState → WorkerState
awake x = record x { doing = going; token = false; looked = λ p. false }

-- it has put a packet to this consumer, or woken it
abbrev pub to_wake : ℕ → WorkerState → WorkerState
to_wake c x = record x { unwoken = with_at x.unwoken c true }

abbrev pub has_woken : ℕ → WorkerState → WorkerState
has_woken c x = record x { unwoken = with_at x.unwoken c false }

-- it has looked into the ring of this producer, and found so many packets
abbrev pub has_looked : ℕ → ℕ → WorkerState → WorkerState
has_looked p n x = record x { looked = with_at x.looked p ((n == 0) || x.looked p) }

-- memory was refused to it: a worker that works fails
abbrev pub failed : Phase → Phase
failed working = closing
failed closing = closing
failed draining = draining

abbrev pub lacking : WorkerState → WorkerState
lacking x = record x { refused = true; phase = failed x.phase }

-- ---- how a ring changes

abbrev pub one_more : RingState → RingState
one_more r = record r { packets = r.packets + 1 }

abbrev pub closed_now : RingState → RingState
closed_now r = record r { packets = r.packets + 1; closed = true }

abbrev pub all_seen : RingState → RingState
all_seen r = record r { seen = r.packets }

-- the oldest packet goes from the ring to the consumer's queue
abbrev pub one_moved : RingState → RingState
one_moved r = record r { packets = r.packets - 1; seen = r.seen - 1; queued = r.queued + 1 }

-- a step takes the oldest packet of the queue; it closes the ring if that was closed and nothing is left
abbrev pub one_read : RingState → RingState
one_read r = record r { queued = r.queued - 1; over = r.over || (r.closed && (r.packets + r.queued == 1)) }
