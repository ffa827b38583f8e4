-- What a worker reads: the producers from which it takes, and which of them, and which of its scans, have ended.
use Rattle.std.specs.Prelude.{ℕ, ◌≡◌, ◌<◌, ◌+◌, ◌==◌, ◌||◌, ◌&&◌, List, [], Bool, true, false, length, map, Option, Some, None, Result, IfOk, IfSome}
use Rattle.std.specs.List.{All, list_any}
use Rattle.vx_rows_values.specs.Values.{Row}
use Rattle.vx_ports.specs.Packets.{PacketView, content_rows, is_closed}
use Rattle.vx_exchange_ends.specs.Queued.{closings}
use Rattle.vx_ops.specs.declared.turn.Got.{Got}
use Rattle.vx_ops.specs.declared.turn.Got.TheVariants as got
use Rattle.vx_ops.specs.declared.turn.Polled.TheVariants as polled
use Rattle.vx_worker.specs.Trace.{Event, idle, drew_one, took_one, put_one, Trace, added}
use Rattle.vx_worker.specs.declared.intake.ExchangeInput.{ExchangeInput}
use Rattle.vx_worker.specs.declared.intake.Intake.{Intake}
use Rattle.vx_worker.specs.declared.wish.Wish.{Wish}
use Rattle.vx_worker.specs.declared.wish.Wish.TheVariants as wish

-- a producer of an exchange, before any step
abbrev pub fresh_input : (exchange from : ℕ) → ExchangeInput
fresh_input exchange from = record { exchange = exchange; from = from; is_closed = false }

-- it is not marked
abbrev pub IsFresh : ExchangeInput → Type 0
IsFresh i = i.is_closed ≡ false

-- the exchange and the producer's place
abbrev pub source_of : ExchangeInput → ℕ × ℕ
source_of i = (i.exchange, i.from)

-- the producers from which a worker takes
abbrev pub sources_of : Intake → List (ℕ × ℕ)
sources_of k = map source_of k.inputs.items

-- the end of the scan with this number was met
abbrev pub has_met_end : Intake → ℕ → Bool
has_met_end k n = list_any (λ y. y == n) k.finished.items

-- marked as closed, where it is this producer
abbrev pub marked : (exchange from : ℕ) → ExchangeInput → ExchangeInput
marked exchange from i = record i { is_closed = i.is_closed || (i.exchange == exchange && i.from == from) }

-- a producer is marked as closed exactly where a packet that closes was taken from it
abbrev pub MarksStand : List ExchangeInput → Trace → Type 0
MarksStand is t = All (λ i. is_closed (t.came i.exchange i.from) ≡ i.is_closed) is

-- the scans of the list have ended, and of the producers those that are marked
pub record HaveEnded (is : List ExchangeInput) (finished : List ℕ) (t : Trace) : Type 0 where
  pub scans : (n : ℕ) → list_any (λ y. y == n) finished ≡ true → (t.drew n).met_end ≡ true
  pub inputs : MarksStand is t

-- what it notes as ended has ended
abbrev pub IntakeStands : Intake → Trace → Type 0
IntakeStands k t = HaveEnded k.inputs.items k.finished.items t

-- each producer's stream was taken to its end
abbrev pub IsDrained : List (ℕ × ℕ) → Trace → Type 0
IsDrained sources t = All (λ s. is_closed (t.came s.0 s.1) ≡ true) sources

-- an event that draws of no scan whose end was met, and puts nothing
abbrev pub IsRead : Intake → Event → Type 0
IsRead k idle = Unit {0}
IsRead k (drew_one n d) = has_met_end k n ≡ false
IsRead k (took_one x i o) = Unit {0}
IsRead k (put_one j p) = ⊥

-- a packet, where one came, has rows or closes
abbrev pub BringsSome : Option PacketView → Type 0
BringsSome o = IfSome o (λ p. 0 < length (content_rows p.content) + closings p.content)

-- what is drawn or taken is what was wished for
abbrev pub IsWished : Wish → Event → Type 0
IsWished x idle = Unit {0}
IsWished (wish.Morsel k) (drew_one j d) = j ≡ k
IsWished (wish.Packet k i) (took_one j h o) = (j ≡ k) × (h ≡ i) × BringsSome o
IsWished x e = ⊥

-- what a wish was given, and the event by which: at most one draw or take. A morsel without rows is nothing yet
abbrev pub Answers : (morsel : ℕ → ℕ → List Row) → (old new : Intake) → Wish → Got → Event → Type 0
Answers morsel old new wish.Nothing got.Nothing idle = Unit {0}
Answers morsel old new (wish.Morsel k) (got.Input polled.End) idle = has_met_end old k ≡ true
Answers morsel old new (wish.Morsel k) (got.Input polled.End) (drew_one j None) = (j ≡ k) × (has_met_end new k ≡ true)
Answers morsel old new (wish.Morsel k) (got.Input (polled.Gave t)) (drew_one j (Some n)) = (j ≡ k) × (t.rows ≡ morsel k n)
Answers morsel old new (wish.Morsel k) (got.Input polled.Waiting) (drew_one j (Some n)) = (j ≡ k) × (morsel k n ≡ [])
Answers morsel old new (wish.Packet k i) (got.Packet o) (took_one j h p) = (j ≡ k) × (h ≡ i) × (p ≡ o)
Answers morsel old new x g e = ⊥

-- one draw or take at most for a wish, and what it was given unless memory was refused
pub record Fetches {E : Type 0} (morsel : ℕ → ℕ → List Row) (old new : Intake) (x : Wish) (result : Result Got E) (e : Event) : Type 0 where
  pub is_read : IsRead old e
  pub is_wished : IsWished x e
  pub answers : IfOk result (λ g. Answers morsel old new x g e)
  pub stands : (t : Trace) → IntakeStands old t → IntakeStands new (added t e)
  pub sources : sources_of new ≡ sources_of old
  pub ended : (n : ℕ) → has_met_end old n ≡ true → has_met_end new n ≡ true

-- an event that takes at most
abbrev pub IsTake : Event → Type 0
IsTake idle = Unit {0}
IsTake (drew_one n d) = ⊥
IsTake (took_one x i o) = Unit {0}
IsTake (put_one j p) = ⊥

-- one take at most
pub record Drains (old new : Intake) (e : Event) : Type 0 where
  pub is_take : IsTake e
  pub stands : (t : Trace) → IntakeStands old t → IntakeStands new (added t e)
  pub sources : sources_of new ≡ sources_of old
