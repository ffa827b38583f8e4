-- What a step answers, by the event that happened in it.
use Rattle.std.proofs.Common.{ℕ, ◌≡◌, ◌⊎◌, ◌∙◌, inl, inr, refl, sym, subst, false, List, Some, None}
use Rattle.vx_rows_values.specs.Values.{Row}
use Rattle.vx_ops.specs.Ledger.{Ledger}
use Rattle.vx_ops.specs.declared.fault.Fault.{Fault}
use Rattle.vx_ops.specs.declared.turn.Want.{Want}
use Rattle.vx_ops.specs.declared.turn.Got.{Got}
use Rattle.vx_ops.specs.declared.turn.Got.TheVariants as got
use Rattle.vx_ops.specs.declared.turn.Polled.TheVariants as polled
use Rattle.vx_worker.specs.Trace.{Event, idle, drew_one, took_one}
use Rattle.vx_worker.specs.Wishes.{tree_want}
use Rattle.vx_worker.specs.Intake.{Answers}
use Rattle.vx_worker.specs.Answering.{IsMove, NeedsNothing, DrainFinds, Waits, none_came, none_drains, no_memory, Moves, by_event, by_turn}
use Rattle.vx_worker.specs.declared.wish.Wish.{Wish}
use Rattle.vx_worker.specs.declared.wish.Wish.TheVariants as wish
use Rattle.vx_worker.specs.declared.intake.Intake.{Intake}
use Rattle.vx_worker.specs.declared.intake.Drained.TheVariants as drained
use Rattle.vx_worker.specs.declared.worker.Worker.{Worker}
use Rattle.vx_worker.specs.declared.worker.WorkerState.{WorkerState}
use Rattle.vx_worker.specs.declared.worker.WorkerState.TheVariants.{Running, Draining}

-- what was asked for where no packet came
pub record CameNot (x : Wish) (e : Event) : Type 0 where
  pub exchange : ℕ
  pub from : ℕ
  pub is_wish : x ≡ wish.Packet exchange from
  pub event : e ≡ took_one exchange from None

pub came-not : (m : ℕ → ℕ → List Row) (old new : Intake) (x : Wish) (e : Event) → Answers m old new x (got.Packet None) e → CameNot x e
came-not m old new (wish.Packet k i) (took_one j h p) a = record { exchange = k; from = i; is_wish = refl; event = rw (a.0, a.1, a.2) refl }
came-not m old new x e a = elim a [ ]

-- with anything else there was a draw or a take, or nothing was needed
pub came : (m : ℕ → ℕ → List Row) (old new : Intake) (x : Wish) (g : Got) (e : Event) → Answers m old new x g e → (g ≡ got.Packet None → ⊥) → IsMove e ⊎ NeedsNothing old x
came m old new wish.Nothing got.Nothing idle a some = inr tt
came m old new (wish.Morsel k) (got.Input polled.End) idle a some = inr a
came m old new (wish.Morsel k) (got.Input polled.End) (drew_one j None) a some = inl tt
came m old new (wish.Morsel k) (got.Input (polled.Gave t)) (drew_one j (Some n)) a some = inl tt
came m old new (wish.Morsel k) (got.Input polled.Waiting) (drew_one j (Some n)) a some = inl tt
came m old new (wish.Packet k i) (got.Packet None) (took_one j h p) a some = absurd (some refl)
came m old new (wish.Packet k i) (got.Packet (Some q)) (took_one j h p) a some = inl (rw a.2 tt)
came m old new x g e a some = elim a [ ]

module _ {O S : Type 0} (OS : O → Ledger → Type 0) (want : O → Want) (refuses : ℕ → Type 0) (lacks : Type 0) where
  -- no packet came of the producer that the tree wants one of
  pub waits : (m : ℕ → ℕ → List Row) (w v : Worker O S) (k : Intake) (x : Wish) (g : Got) (e : Event) → w.phase ≡ Running → x ≡ tree_want want w.tree → g ≡ got.Packet None
      → Answers m w.intake k x g e → Waits want refuses lacks w.phase w.tree w.intake v e
  waits m w v k x g e phase wish none a =
      let h = came-not m w.intake k x e (subst (λ z. Answers m w.intake k x z e) none a) in
      none_came h.exchange h.from phase (sym wish ∙ h.is_wish) h.event

  -- the tree gave nothing yet, of what came or of what it holds
  pub moves : (m : ℕ → ℕ → List Row) (w v : Worker O S) (k : Intake) (x : Wish) (g : Got) (e : Event) → w.phase ≡ Running → v.pending ≡ None → v.is_over ≡ false
      → x ≡ tree_want want w.tree → (g ≡ got.Packet None → ⊥) → Answers m w.intake k x g e → Moves OS want w.phase w.tree w.intake v e
  moves m w v k x g e phase pending over wish some a = elim (came m w.intake k x g e a some) [
    | inl h ↦ by_event h
    | inr h ↦ by_turn phase pending over (subst (λ z. NeedsNothing w.intake z) wish h)
  ]

  -- none came while it takes and drops, or memory was refused
  pub drains-none : (phase : WorkerState) (w v : Worker O S) (f : Fault) (e : Event) → phase ≡ Draining f → DrainFinds lacks w.intake drained.Nothing e → Waits want refuses lacks phase w.tree w.intake v e
  drains-none phase w v f idle here h = no_memory f here h refl
  drains-none phase w v f (took_one x i None) here h = none_drains f x i here h refl
  drains-none phase w v f e here h = elim h [ ]

  -- a packet was taken and dropped
  pub drains-one : (phase : WorkerState) (w v : Worker O S) (e : Event) → DrainFinds lacks w.intake drained.Dropped e → Moves OS want phase w.tree w.intake v e
  drains-one phase w v (took_one x i (Some p)) h = by_event tt
  drains-one phase w v e h = elim h [ ]
