-- Fragments: the operators of a plan from a node down to its scans and the consumer ends of exchanges.
use Rattle.std.specs.Prelude.{ℕ, ◌≡◌, ◌<◌, List}
use Rattle.vx_rows_values.specs.Values.{Val, Row}
use Rattle.vx_catalog_relations.specs.Relation.{Relation, Meets}
use Rattle.vx_plan_nodes.specs.Plan.{Plan, scan, unary, binary, exchange, size}
use Rattle.vx_plan_nodes.specs.Routes.{Routing, sends_by}
use Rattle.vx_plan_nodes.specs.Streams.{workers}
use Rattle.vx_plan_nodes.specs.Types.{types_of}
use Rattle.vx_ports.specs.Packets.{PacketView}
use Rattle.vx_ops.specs.Ledger.{Stream, Ledger, Op, scan_op, one_op, two_op, receive, Makes, InputsEnded, Abides}
use Rattle.vx_plan_nodes.specs.Runs.{is_concat}

-- what a run gets beside its plan. relation_of: the relation that the scan with a number reads. sizes: the workers of each size name. hash: the consumer of a
-- key among n, by the route's name. bounds: those of each range. packet and morsel: their sizes in rows
pub record RunModel : Type 0 where
  pub catalog : ℕ → Relation
  pub db : ℕ → List Row
  pub relation_of : ℕ → ℕ
  pub sizes : ℕ → ℕ
  pub hash : List ℕ → Row → ℕ → ℕ
  pub bounds : ℕ → List Val
  pub packet : ℕ
  pub morsel : ℕ

-- where rows go: by the hash router, and by the ranges
abbrev pub goes : RunModel → Routing
goes S = sends_by S.hash S.bounds

-- the operators of a fragment: a leaf has its node's number
pub data Frag : Type 0 where
  alone : (number : ℕ) → Op → Frag
  above : Op → Frag → Frag
  both : Op → Frag → Frag → Frag

-- the fragment at the top of a plan, for the worker at a place
abbrev pub fragment : RunModel → (place : ℕ) → Plan → Frag
fragment S w (scan n c r m z) = alone n scan_op
fragment S w (unary n c op p) = above (one_op n op) (fragment S w p)
fragment S w (binary n c op p q) = both (two_op n op) (fragment S w p) (fragment S w q)
fragment S w (exchange n c k merge p) =
    alone n (receive (record { exchange = n; place = w; producers = workers S.sizes (size p); types = types_of S.catalog p; merge = merge; in_order = is_concat k }))

-- what the leaves read: the rows of the morsels at each scan, and the packets at each exchange
pub record Reads : Type 0 where
  pub scanned : ℕ → Stream
  pub came : ℕ → ℕ → List PacketView

-- the ledger of a leaf is what was read under its number
pub record LeafReads (k : ℕ) (r : Reads) (l : Ledger) : Type 0 where
  pub scanned : l.left ≡ r.scanned k
  pub came : l.came ≡ r.came k

-- each source of a fragment stands as its contract says, and hears what the sources below it gave
abbrev pub FragAbides : Frag → Reads → Stream → Type 0
FragAbides (alone k x) r out = (l : Ledger) × LeafReads k r l × Abides x l × (l.gave ≡ out)
FragAbides (above x f) r out = (l : Ledger) × FragAbides f r l.left × Abides x l × (l.gave ≡ out)
FragAbides (both x f h) r out = (l : Ledger) × FragAbides f r l.left × FragAbides h r l.right × Abides x l × (l.gave ≡ out)

-- what a fragment makes of all that its leaves read
abbrev pub FragMakes : Frag → Reads → List Row → Type 0
FragMakes (alone k x) r out = (l : Ledger) × LeafReads k r l × InputsEnded x l × Makes x l out
FragMakes (above x f) r out = (l : Ledger) × FragMakes f r l.left.rows × Makes x l out
FragMakes (both x f h) r out = (l : Ledger) × FragMakes f r l.left.rows × FragMakes h r l.right.rows × Makes x l out

-- the premises of a run: relations that meet what the catalog declares, sizes above 0, a hash router that answers below the number of consumers
pub record IsSet (S : RunModel) : Type 0 where
  pub meets : (r : ℕ) → Meets (S.catalog r) (S.db r)
  pub some_workers : (k : ℕ) → 0 < S.sizes k
  pub in_range : (name : List ℕ) (key : Row) (n : ℕ) → 0 < n → S.hash name key n < n
  pub some_packet : 0 < S.packet
  pub some_morsel : 0 < S.morsel
