-- What the workers of a node have given so far, in a run in which some workers ended by a fault: two of these rows that agree in some columns agree in what
-- these determine, and rows that agree on a claimed key are one row.
use Rattle.std.specs.Prelude.{◌≡◌, ℕ, ◌<◌, ◌⊎◌, true}
use Rattle.std.specs.List.{list_all, list_any}
use Rattle.vx_rows_values.specs.Values.{Row}
use Rattle.vx_catalog_relations.specs.Relation.{Relation}
use Rattle.vx_plan_nodes.specs.Plan.{Plan, claim, size}
use Rattle.vx_plan_nodes.specs.Types.{width, well_formed}
use Rattle.vx_plan_nodes.specs.Numbering.{is_fit}
use Rattle.vx_plan_nodes.specs.Streams.{workers}
use Rattle.vx_plan_facts.specs.Equal.{equal_at}
use Rattle.vx_plan_facts.specs.Determined.{Columns, determined}
use Rattle.vx_plan_facts.specs.FollowLaws.{Occurs, AgreeIn, Agreeing}
use Rattle.vx_plan_facts.specs.RowFacts.{all_inputs_fit}
use Rattle.vx_check_rules.specs.Derived.{allowed_derived}
use Rattle.vx_ops.specs.Ledger.{Stream}
use Rattle.vx_worker.specs.Fragment.{IsSet, RunModel, Reads, FragAbides, fragment}
use Rattle.vx_worker.specs.Trace.{Trace, ReadsBegin, Ends}
use Rattle.vx_exec_laws.specs.RunOf.{RunOf}

-- what one worker of a node has given so far, of a beginning of what it read
pub record Output (S : RunModel) (p : Plan) (ts : ℕ → Trace) : Type 0 where
  pub place : ℕ
  pub below : place < workers S.sizes (size p)
  pub reads : Reads
  pub begins : ReadsBegin S (ts place) reads
  pub out : Stream
  pub abides : FragAbides (fragment S place p) reads out

-- one output, or those of two workers
abbrev pub AreOneOrApart : (S : RunModel) (p : Plan) (ts : ℕ → Trace) → Output S p ts → Output S p ts → Type 0
AreOneOrApart S p ts x y = (x ≡ y) ⊎ (x.place ≡ y.place → ⊥)

-- two rows of a node that agree in some columns agree in what these determine, and if they agree on a claimed key they are one row
pub record RowsAgree (catalog : ℕ → Relation) (p : Plan) (a b : Row) : Type 0 where
  pub determined : (s : Columns) → AgreeIn (width catalog p) s a b → AgreeIn (width catalog p) (determined catalog p s) a b
  pub keyed : (s : Columns) → AgreeIn (width catalog p) s a b → list_any (list_all s) (claim p).keys ≡ true → a ≡ b

-- the rows that two workers of a node of a plan that is allowed have given so far, or one of them
abbrev pub RowsSoFarAgree : Type 0
RowsSoFarAgree =
    (S : RunModel) → IsSet S
    → (p : Plan) → is_fit S.relation_of p ≡ true → well_formed S.catalog p ≡ true → all_inputs_fit S.catalog p ≡ true → allowed_derived S.catalog p ≡ true
    → (ts : ℕ → Trace) → RunOf S (Ends S) p ts → (x y : Output S p ts) → AreOneOrApart S p ts x y
    → (a b : Row) → Occurs a x.out.rows → Occurs b y.out.rows → RowsAgree S.catalog p a b

-- and so those of one worker follow the rules of orders, keys and totals
abbrev pub OneWorkerAgrees : Type 0
OneWorkerAgrees =
    (S : RunModel) → IsSet S
    → (p : Plan) → is_fit S.relation_of p ≡ true → well_formed S.catalog p ≡ true → all_inputs_fit S.catalog p ≡ true → allowed_derived S.catalog p ≡ true
    → (ts : ℕ → Trace) → RunOf S (Ends S) p ts → (x : Output S p ts)
    → Agreeing (width S.catalog p) (equal_at S.catalog p) (determined S.catalog p) x.out.rows
