-- No worker of a run by threads sleeps for ever (our own): what the law of that name says of the machine.
use Rattle.std.specs.Prelude.{ℕ, true, false, ◌≡◌, ◌<◌, ◌⊎◌, List}
use Rattle.vx_exec_waking.specs.Crew.{Crew, working, Want, place_at, packet_of, Doing, going, asleep, ended, WorkerState, RingState, World}
use Rattle.vx_exec_waking.specs.Events.{Event, Duties, all_duties, MayAll, after_all}

-- nothing was done yet; each ring was empty from the first
abbrev pub fresh_worker : Doing → WorkerState
fresh_worker d =
    record { phase = working; doing = d; token = false; refused = false; unwoken = λ c. false; looked = λ p. true }

abbrev pub fresh_ring : RingState
fresh_ring = record { packets = 0; seen = 0; queued = 0; closed = false; over = false }

-- a worker begins with its first step; one that only takes packets may sleep at first, until a producer has put one
abbrev pub Begins : Crew → ℕ → WorkerState → Type 0
Begins C a x = (x ≡ fresh_worker going) ⊎ ((p : ℕ) × (C.feeds p a ≡ true) × (x ≡ fresh_worker (asleep (packet_of p))))

pub record IsStart (C : Crew) (w : World) : Type 0 where
  pub workers : (a : ℕ) → Begins C a (w.worker a)
  pub rings : (p c : ℕ) → w.ring p c ≡ fresh_ring

-- it sleeps, and has no token with which it would go on
abbrev pub SleepsOn : WorkerState → Type 0
SleepsOn x = (want : Want) × (x.doing ≡ asleep want) × (x.token ≡ false)

-- each worker has ended or sleeps on, so nobody does anything any more
abbrev pub AllRest : Crew → World → Type 0
AllRest C w = (a : ℕ) → a < C.size → ((w.worker a).doing ≡ ended) ⊎ SleepsOn (w.worker a)

abbrev pub AllEnded : Crew → World → Type 0
AllEnded C w = (a : ℕ) → a < C.size → (w.worker a).doing ≡ ended

-- the law: where nobody does anything any more, all have ended
abbrev pub NobodyIsLeft : Type 0
NobodyIsLeft =
    (C : Crew) (w : World) → IsStart C w → (es : List Event) → MayAll all_duties C w es
    → AllRest C (after_all all_duties C w es) → AllEnded C (after_all all_duties C w es)

-- nothing lies in this worker's rings, but what was put since it looked, for which it has a token or is to be woken yet
abbrev pub HasEmptied : Crew → World → ℕ → Type 0
HasEmptied C w a =
    (p : ℕ) → C.feeds p a ≡ true
    → ((w.ring p a).packets ≡ 0) ⊎ (((w.worker a).token ≡ true) ⊎ ((w.worker p).unwoken a ≡ true))

-- the law: a worker that sleeps since it found a ring full has emptied its own rings, if no memory was refused to it
abbrev pub FullHasGathered : Type 0
FullHasGathered =
    (C : Crew) (w : World) → IsStart C w → (es : List Event) → MayAll all_duties C w es
    → (a c : ℕ) → ((after_all all_duties C w es).worker a).doing ≡ asleep (place_at c)
    → ((after_all all_duties C w es).worker a).refused ≡ false → HasEmptied C (after_all all_duties C w es) a

-- a crew some of whose workers sleep for ever, without ending, if this is all that they do for one another
abbrev pub GetsStuck : Duties → Type 0
GetsStuck D =
    (C : Crew) × (w : World) × IsStart C w × ((es : List Event) × MayAll D C w es
    × AllRest C (after_all D C w es) × (AllEnded C (after_all D C w es) → ⊥))

-- the law: none of the three duties can be left out
abbrev pub EachDutyIsNeeded : Type 0
EachDutyIsNeeded =
    GetsStuck (record { wakes_consumers = false; gathers = true; wakes_producers = true })
    × GetsStuck (record { wakes_consumers = true; gathers = false; wakes_producers = true })
    × GetsStuck (record { wakes_consumers = true; gathers = true; wakes_producers = false })

-- the law: with all three, a producer and its consumer over a ring with one place can come to their end
abbrev pub SomeCrewEnds : Type 0
SomeCrewEnds =
    (C : Crew) × (w : World) × IsStart C w × (C.size ≡ 2) × (C.feeds 1 0 ≡ true) × (C.slack ≡ 1)
    × ((es : List Event) × MayAll all_duties C w es × AllEnded C (after_all all_duties C w es))
