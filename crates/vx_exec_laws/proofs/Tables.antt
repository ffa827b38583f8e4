-- What the laws on runs that were cut short ask of a rule table, and that both rule tables give it.
use Rattle.std.proofs.Common.{◌≡◌, ℕ, ◌<◌, true, List}
use Rattle.vx_rows_values.specs.declared.order.OrderEntry.{OrderEntry}
use Rattle.vx_rows_values.specs.Order.{sorted}
use Rattle.vx_plan_nodes.specs.Plan.{Claim, Unary, ExchangeKind, Plan, unary, exchange, claim, size}
use Rattle.vx_plan_nodes.specs.Types.{well_formed}
use Rattle.vx_plan_nodes.specs.Numbering.{is_fit}
use Rattle.vx_plan_nodes.specs.Streams.{Streams, workers}
use Rattle.vx_plan_nodes.specs.Runs.{Runs}
use Rattle.vx_check_rules.specs.Rules.{allowed, allowed_here}
use Rattle.vx_check_rules.specs.Claims.{Given}
use Rattle.vx_worker.specs.Fragment.{goes, RunModel}
use Rattle.vx_exec_laws.proofs.Bags.{and-right}
use Rattle.vx_exec_laws.proofs.Orders.{sorted-front}
use Rattle.vx_exec_laws.proofs.OneInput.{tests, HoldingAt, FitsStreams, fits-by-tests}
use Rattle.vx_exec_laws.proofs.WellFormed.{well-under}
use Rattle.vx_exec_laws.proofs.Frame.{all-hold}
use Rattle.vx_exec_laws.proofs.DerivedFrame.{holding, fits-streams, merges-streams}
use Rattle.vx_exec_laws.proofs.Inherited.{Inherited, IsAllowed, IsAllowedDerived, first-inherited, second-inherited}

-- of plans that have it: in each run the claim of each node holds, the streams below an operator fit it, and those below an exchange are sorted as it merges them
pub record Table (S : RunModel) (giv : Given S.catalog S.db S.sizes (goes S)) (Has : Plan → Type 0) : Type 0 where
  pub inherited : Inherited Has
  pub fit : (p : Plan) → Has p → is_fit S.relation_of p ≡ true
  pub well : (p : Plan) → Has p → well_formed S.catalog p ≡ true
  pub holds : (p : Plan) (s : Streams) → Has p → Runs S.db S.sizes (goes S) p s → HoldingAt S.db S.sizes (goes S) p s
  pub fits : (n : ℕ) (c : Claim) (op : Unary) (p : Plan) (s : Streams) → Has (unary n c op p) → Runs S.db S.sizes (goes S) p s → FitsStreams S.catalog S.db S.sizes (goes S) giv op p s
  pub merges : (n : ℕ) (c : Claim) (k : ExchangeKind) (merge : List OrderEntry) (p : Plan) (s : Streams) → Has (exchange n c k merge p) → Runs S.db S.sizes (goes S) p s
      → (w : ℕ) → w < workers S.sizes (size p) → sorted merge (s w) ≡ true

module _ (S : RunModel) (giv : Given S.catalog S.db S.sizes (goes S)) where
  first-holds : (p : Plan) (s : Streams) → IsAllowed S p → Runs S.db S.sizes (goes S) p s → HoldingAt S.db S.sizes (goes S) p s
  first-holds p s h run = all-hold S.catalog S.db S.sizes (goes S) giv p s h.1.0 h.1.1 run

  pub first-table : Table S giv (IsAllowed S)
  first-table = record {
    inherited = first-inherited S;
    fit = λ p h. h.0;
    well = λ p h. h.1.0;
    holds = first-holds;
    fits = λ n c op p s h run.
        let well = well-under S.catalog n c op p h.1.0 in
        fits-by-tests S.catalog S.db S.sizes (goes S) giv n c op p s well.0 well.1 (first-holds p s ((first-inherited S).input n c op p h) run)
        (and-right (allowed S.catalog p) (allowed_here S.catalog (unary n c op p)) h.1.1);
    merges = λ n c k merge p s h run w l.
        let t = tests S.catalog (exchange n c k merge p) (and-right (allowed S.catalog p) (allowed_here S.catalog (exchange n c k merge p)) h.1.1) in
        let below = first-holds p s ((first-inherited S).sent n c k merge p h) run in
        sorted-front merge (claim p).order t.3 (s w) (below.holds.order.0 w l);
  }

  pub second-table : Table S giv (IsAllowedDerived S)
  second-table = record {
    inherited = second-inherited S;
    fit = λ p h. h.0;
    well = λ p h. h.1.0;
    holds = λ p s h run. holding S.catalog S.db S.sizes (goes S) giv p s h.1.0 h.1.1.0 h.1.1.1 run;
    fits = λ n c op p s h run. fits-streams S.catalog S.db S.sizes (goes S) giv n c op p s h.1.0 h.1.1.0 h.1.1.1 run;
    merges = λ n c k merge p s h run w l. merges-streams S.catalog S.db S.sizes (goes S) giv n c k merge p s h.1.0 h.1.1.0 h.1.1.1 run w l;
  }
