-- What the workers of a run do, one event after another, in any order of the threads (our own). Each event is one access to a word that threads share,
-- or to none: a store or a load of a ring's end, or an exchange on a parker. All are in one order, since each of them is sequentially consistent.
use Rattle.std.specs.Prelude.{ℕ, Bool, true, false, cond, ◌≡◌, ◌<◌, ◌≤◌, ◌⊎◌, ◌&&◌, List, [], ◌∷◌, nat_le}
use Rattle.vx_exec_waking.specs.Crew.{Crew, working, closing, draining, Want, place_at, packet_of, Doing, going, waking, waiting, asleep, ended}
use Rattle.vx_exec_waking.specs.Crew.{WorkerState, RingState, World, on_worker, on_ring, IsUp, Reads}
use Rattle.vx_exec_waking.specs.Crew.{now, in_phase, given_token, awake, to_wake, has_woken, has_looked, lacking}
use Rattle.vx_exec_waking.specs.Crew.{one_more, closed_now, all_seen, one_moved, one_read}

-- p is a producer, c a consumer of it, and a any worker
pub data Event : Type 0 where
  puts : (p c : ℕ) → Event  -- p puts a packet into the ring to c
  closes : (p c : ℕ) → Event  -- p puts the packet that closes the ring to c
  finds_full : (p c : ℕ) → Event  -- a put of p to c finds no place free
  wakes_consumer : (p c : ℕ) → Event  -- p leaves a token for c
  looks : (c p : ℕ) → Event  -- c looks how many packets lie in the ring from p
  moves : (c p : ℕ) → Event  -- c takes a packet of which it knows out of the ring from p
  wakes_producer : (c p : ℕ) → Event  -- c leaves a token for p
  reads : (c p : ℕ) → Event  -- a step of c takes a packet of p
  finds_none : (c p : ℕ) → Event  -- a step of c asks for a packet of p, and finds none
  goes_on : (a : ℕ) → Event  -- it was waiting, and makes another step
  parks : (a : ℕ) → Want → Event  -- it was waiting, and sleeps
  wakes_up : (a : ℕ) → Want → Event  -- it was asleep, and takes the token
  stops : (a : ℕ) → Event  -- it has no more packets to put, or it fails
  is_refused : (a : ℕ) → Event  -- memory for a queue of its own is refused to it
  drains : (a : ℕ) → Event  -- its rings are all closed
  ends : (a : ℕ) → Event

-- What a worker does for its partners, and what may be left out to see what it is for: before it sleeps it wakes the consumers that have packets;
-- before it sleeps it looks into all its rings; and it wakes a producer once it knows of no packet more in the ring
pub record Duties : Type 0 where
  pub wakes_consumers : Bool
  pub gathers : Bool
  pub wakes_producers : Bool

abbrev pub all_duties : Duties
all_duties = record { wakes_consumers = true; gathers = true; wakes_producers = true }

-- all consumers that have packets were woken
abbrev pub HasWoken : Crew → ℕ → WorkerState → Type 0
HasWoken C a x = (c : ℕ) → C.feeds a c ≡ true → x.unwoken c ≡ false

-- Nothing of this ring is left to take: it was found empty, or its last packet was taken. A worker that fails since memory was refused to it
-- takes nothing until it has closed its own rings
abbrev pub IsEmptied : WorkerState → RingState → ℕ → Type 0
IsEmptied x r p = (x.looked p ≡ true) ⊎ ((r.over ≡ true) ⊎ ((x.refused ≡ true) × (x.phase ≡ closing)))

-- what a worker has done before it sleeps
pub record MayPark (D : Duties) (C : Crew) (w : World) (a : ℕ) : Type 0 where
  pub woken : D.wakes_consumers ≡ true → HasWoken C a (w.worker a)
  pub emptied : D.gathers ≡ true → (p : ℕ) → C.feeds p a ≡ true → IsEmptied (w.worker a) (w.ring p a) p

-- when a thread may do this
abbrev pub May : Duties → Crew → World → Event → Type 0
May D C w (puts p c) =
    (C.feeds p c ≡ true) × ((w.worker p).doing ≡ going) × ((w.worker p).phase ≡ working)
    × ((w.ring p c).closed ≡ false) × ((w.ring p c).packets < C.slack)
May D C w (closes p c) =
    (C.feeds p c ≡ true) × ((w.worker p).doing ≡ going) × ((w.worker p).phase ≡ closing)
    × ((w.ring p c).closed ≡ false) × ((w.ring p c).packets < C.slack)
May D C w (finds_full p c) =
    (C.feeds p c ≡ true) × ((w.worker p).doing ≡ going) × ((w.ring p c).closed ≡ false) × (C.slack ≤ (w.ring p c).packets)
May D C w (wakes_consumer p c) = (C.feeds p c ≡ true) × IsUp (w.worker p).doing
May D C w (looks c p) = (C.feeds p c ≡ true) × IsUp (w.worker c).doing
May D C w (moves c p) = (C.feeds p c ≡ true) × ((w.worker c).doing ≡ going) × (0 < (w.ring p c).seen)
May D C w (wakes_producer c p) = (C.feeds p c ≡ true) × ((w.worker c).doing ≡ waking p)
May D C w (reads c p) =
    (C.feeds p c ≡ true) × ((w.worker c).doing ≡ going) × Reads (w.worker c).phase × (0 < (w.ring p c).queued)
May D C w (finds_none c p) =
    (C.feeds p c ≡ true) × ((w.worker c).doing ≡ going) × Reads (w.worker c).phase
    × ((w.ring p c).over ≡ false) × ((w.ring p c).queued ≡ 0) × ((w.worker c).looked p ≡ true)
May D C w (goes_on a) = (x : Want) × ((w.worker a).doing ≡ waiting x)
May D C w (parks a x) = ((w.worker a).doing ≡ waiting x) × MayPark D C w a
May D C w (wakes_up a x) = ((w.worker a).doing ≡ asleep x) × ((w.worker a).token ≡ true)
May D C w (stops a) = ((w.worker a).doing ≡ going) × ((w.worker a).phase ≡ working)
May D C w (is_refused a) = (w.worker a).doing ≡ going
May D C w (drains a) =
    ((w.worker a).doing ≡ going) × ((w.worker a).phase ≡ closing) × ((c : ℕ) → C.feeds a c ≡ true → (w.ring a c).closed ≡ true)
May D C w (ends a) =
    ((w.worker a).doing ≡ going) × ((w.worker a).phase ≡ draining) × HasWoken C a (w.worker a)
    × ((p : ℕ) → C.feeds p a ≡ true → (w.ring p a).over ≡ true)

-- what a worker is about once it has taken a packet out of the ring: it wakes the producer if it knows of no other packet there
abbrev pub after_move : Duties → ℕ → RingState → Doing
after_move D p r = cond (D.wakes_producers && nat_le r.seen 1) (waking p) going

abbrev pub after : Duties → Crew → World → Event → World
after D C w (puts p c) = on_ring (on_worker w p (to_wake c)) p c one_more
after D C w (closes p c) = on_ring (on_worker w p (to_wake c)) p c closed_now
after D C w (finds_full p c) = on_worker w p (now (waiting (place_at c)))
after D C w (wakes_consumer p c) = on_worker (on_worker w c given_token) p (has_woken c)
after D C w (looks c p) = on_ring (on_worker w c (has_looked p (w.ring p c).packets)) p c all_seen
after D C w (moves c p) = on_ring (on_worker w c (now (after_move D p (w.ring p c)))) p c one_moved
after D C w (wakes_producer c p) = on_worker (on_worker w p given_token) c (now going)
after D C w (reads c p) = on_ring w p c one_read
after D C w (finds_none c p) = on_worker w c (now (waiting (packet_of p)))
after D C w (goes_on a) = on_worker w a (now going)
after D C w (parks a x) = on_worker w a (now (asleep x))
after D C w (wakes_up a x) = on_worker w a awake
after D C w (stops a) = on_worker w a (in_phase closing)
after D C w (is_refused a) = on_worker w a lacking
after D C w (drains a) = on_worker w a (in_phase draining)
after D C w (ends a) = on_worker w a (now ended)

-- a run, whatever the order of the threads
abbrev pub MayAll : Duties → Crew → World → List Event → Type 0
MayAll D C w [] = Unit {0}
MayAll D C w (e ∷ es) = May D C w e × MayAll D C (after D C w e) es

abbrev pub after_all : Duties → Crew → World → List Event → World
after_all D C w [] = w
after_all D C w (e ∷ es) = after_all D C (after D C w e) es
