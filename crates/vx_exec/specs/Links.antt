-- What connects the workers of a job, by the spans of its layout.
use Rattle.std.specs.Prelude.{ℕ, Bool, true, false, List, [], length}
use Rattle.vx_plan_nodes.specs.declared.functions.PlanFunctions.{Ghosts}
use Rattle.vx_rows.specs.Lists.{each_below}
use Rattle.vx_catalog.specs.Database.{rows_at}
use Rattle.vx_exec_layout.specs.declared.span.NodeSpan.{NodeSpan}
use Rattle.vx_exec_layout.specs.declared.span.NodeSpan.TheVariants as span
use Rattle.vx_ports.specs.LinkView.{LinkView}
use Rattle.vx_worker.specs.Morsels.{morsel_count}
use Rattle.vx_exec_steps.specs.LinksView.{LinksView}
use Rattle.vx_exec_steps.specs.Queues.{open_line}
use Rattle.vx_exec_steps.specs.Scans.{full_hand}
use Rattle.vx_exec_steps.specs.declared.station.Station.{Station}
use Rattle.vx_exec_steps.specs.declared.station.Station.TheVariants as station
use Rattle.vx_exec.specs.declared.crew.Crew.{Crew}
use Rattle.vx_exec.specs.declared.job.Job.{Job}

-- how many morsels a relation has in a run of a job
abbrev pub morsels_in : {F : Type 0} → Job F → (relation : ℕ) → ℕ
morsels_in j relation = morsel_count j.morsel (length (rows_at j.database.now relation))

-- what the workers of a scan share: a deck of so many morsels, or of each of them a hand of all
abbrev pub scan_station : (is_shared : Bool) → (first count morsels : ℕ) → Station
scan_station true first count m = station.Shared (record { first = first; workers = count; deck = record { morsels = m; next = 0 } })
scan_station false first count m = station.Whole (record { first = first; hands = each_below count (λ _. full_hand m) })

-- what stands at a node, where each relation has so many morsels
abbrev pub station_in : (morsels : ℕ → ℕ) → NodeSpan → Station
station_in morsels span.Inner = station.Inner
station_in morsels (span.Exchange x) = station.Exchange x.below x.above
station_in morsels (span.Scan s) = scan_station s.is_shared s.first s.workers (morsels s.relation)

-- of each producer of a node the exchange to which it sends
abbrev pub sends_in : NodeSpan → List ℕ
sends_in span.Inner = []
sends_in (span.Exchange x) = each_below x.producers (λ _. x.number)
sends_in (span.Scan s) = []

-- of each producer of a node its queues: one to each consumer, open and without packets
abbrev pub queues_in : NodeSpan → List (List LinkView)
queues_in span.Inner = []
queues_in (span.Exchange x) = each_below x.producers (λ _. each_below x.consumers (λ _. open_line))
queues_in (span.Scan s) = []

-- what connects the workers of a crew, the first of whom has the first turn
abbrev pub board_of : {F : Type 0} {given : Ghosts F} → Crew F given → LinksView
board_of c = record { sends = c.sends.items; stations = c.stations.items; queues = c.ports.items; turn = 0 }
