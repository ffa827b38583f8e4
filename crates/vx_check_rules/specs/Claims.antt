-- What a claim means: of the streams of a node's workers and of the serial rows of the plan below it.
use Rattle.std.specs.Prelude.{◌≡◌, ℕ, ◌<◌, ◌==◌, Bool, true, List, ◌≤◌}
use Rattle.std.specs.List.{list_all}
use Rattle.vx_rows_values.specs.declared.order.OrderEntry.{OrderEntry}
use Rattle.vx_rows_values.specs.Values.{Row, pick, val_cmp, value_at}
use Rattle.vx_rows_values.specs.Order.{sorted}
use Rattle.vx_rows_values.specs.Bags.{SameRows}
use Rattle.vx_plan_nodes.specs.Plan.{Route, Part, one, any, all, routed, Claim, Plan, claim, size, by_range}
use Rattle.vx_catalog_relations.specs.Relation.{Relation, KeysHold, Meets}
use Rattle.vx_plan_nodes.specs.Serial.{rows, serial}
use Rattle.vx_plan_nodes.specs.Streams.{Streams, joined, workers}
use Rattle.vx_plan_nodes.specs.Routes.{Routing}
use Rattle.vx_plan_nodes.specs.Erase.{erase}
use Rattle.vx_plan_nodes.specs.Phases.{spoken, Gives, listed}
use Rattle.std.specs.Ordering.{is_le}

-- each row stands in the stream of the consumer that its key is sent to
abbrev pub InItsStream : Routing → Route → List ℕ → ℕ → Streams → Type 0
InItsStream goes r cols n s = (w : ℕ) → w < n → list_all (λ row. goes r (pick cols row) n == w) (s w) ≡ true

-- what a claimed part says of n streams, by what a list must be that stands for the serial rows
abbrev pub PartOf : Routing → Part → ℕ → Streams → (List Row → Type 0) → Type 0
PartOf goes one n s stands = (n ≡ 1) × stands (joined n s)
PartOf goes any n s stands = stands (joined n s)
PartOf goes all n s stands = (w : ℕ) → w < n → stands (s w)
PartOf goes (routed r cols) n s stands = stands (joined n s) × InItsStream goes r cols n s

-- and by the serial rows, each as often
abbrev pub PartHolds : Routing → Part → ℕ → Streams → List Row → Type 0
PartHolds goes q n s base = PartOf goes q n s (λ xs. SameRows xs base)

-- the streams and the serial rows are sorted
abbrev pub OrderHolds : List OrderEntry → ℕ → Streams → List Row → Type 0
OrderHolds order n s base = ((w : ℕ) → w < n → sorted order (s w) ≡ true) × (sorted order base ≡ true)

-- a claim holds of the streams of n workers, by what a list must be that stands for the serial rows, and the list of which order and keys are claimed
pub record ClaimOf (goes : Routing) (c : Claim) (n : ℕ) (s : Streams) (stands : List Row → Type 0) (list : List Row) : Type 0 where
  pub part : PartOf goes c.part n s stands
  pub order : OrderHolds c.order n s list
  pub keys : KeysHold c.keys list

-- a claim holds of the streams of n workers and the serial rows
abbrev pub ClaimHolds : Routing → Claim → ℕ → Streams → List Row → Type 0
ClaimHolds goes c n s base = ClaimOf goes c n s (λ xs. SameRows xs base) base

-- the plan that the top's claim speaks of (at an open node the input of its partial) has serial rows. They are those of the plan without its exchanges, and
-- the claim holds of them and of these streams
pub record HoldsAt (db : ℕ → List Row) (sizes : ℕ → ℕ) (goes : Routing) (p : Plan) (s : Streams) : Type 0 where
  pub base : List Row
  pub is_serial : serial db (spoken p) ≡ rows base
  pub is_erased : serial db (erase (spoken p)) ≡ rows base
  pub holds : ClaimOf goes (claim p) (workers sizes (size p)) s (λ xs. Gives p base xs) (listed p base)

-- the premises: relations that meet what the catalog declares, sizes above 0, a router that answers below the number of consumers, and whose ranges rise with the value
pub record Given (catalog : ℕ → Relation) (db : ℕ → List Row) (sizes : ℕ → ℕ) (goes : Routing) : Type 0 where
  pub meets : (r : ℕ) → Meets (catalog r) (db r)
  pub some_workers : (k : ℕ) → 0 < sizes k
  pub in_range : (r : Route) (key : Row) (n : ℕ) → 0 < n → goes r key n < n
  pub rising : (k : ℕ) (a b : Row) (n : ℕ) → is_le (val_cmp (value_at a 0) (value_at b 0)) ≡ true → goes (by_range k) a n ≤ goes (by_range k) b n

-- what the root delivers: the serial rows, each as often, and their list where the plan claims a total order
pub record Delivers (db : ℕ → List Row) (is_total : Bool) (p : Plan) (out : List Row) : Type 0 where
  pub base : List Row
  pub is_serial : serial db (erase p) ≡ rows base
  pub same : SameRows out base
  pub list : is_total ≡ true → out ≡ base
