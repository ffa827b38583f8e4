-- Refusals of plans, and what it is that a call gives what a pure function gives.
use Rattle.std.specs.Prelude.{◌≡◌, ℕ, List, Result, Ok, Err, Option, Some, None, string_bytes, ◌⊎◌}
pub use Rattle.vx_catalog_json.specs.Look.{Reads}
use Rattle.vx_plan_json.specs.declared.fault.PlanFault.{PlanFault}
use Rattle.vx_plan_json.specs.declared.fault.PlanFault.TheVariants as fault

-- why a plan is refused: by the path of a node, or by the number of a node and a name
pub data Refusal : Type 0 where
  not_json : Refusal
  bad_node : List ℕ → Refusal
  too_deep : Refusal
  unknown_relation : ℕ → List ℕ → Refusal
  unknown_column : ℕ → List ℕ → Refusal
  duplicate_column : ℕ → List ℕ → Refusal
  type_mismatch : ℕ → Refusal
  unknown_range : ℕ → List ℕ → Refusal
  bad_range : List ℕ → Refusal
  bad_size : List ℕ → Refusal
  too_wide : ℕ → Refusal
  phase_mismatch : ℕ → Refusal

infixl 10 ◌>>=◌
-- the first refusal of the two steps, or what the second makes of the first
abbrev pub ◌>>=◌ : {A B : Type 0} → Result A Refusal → (A → Result B Refusal) → Result B Refusal
(Ok x) >>= f = f x
(Err e) >>= f = Err e

-- the refusal that a fault says; of want of memory none is said
abbrev pub refusal_of : PlanFault → Refusal
refusal_of fault.NotJson = not_json
refusal_of (fault.BadNode path) = bad_node (string_bytes path)
refusal_of fault.TooDeep = too_deep
refusal_of (fault.UnknownRelation node name) = unknown_relation node (string_bytes name)
refusal_of (fault.UnknownColumn node name) = unknown_column node (string_bytes name)
refusal_of (fault.DuplicateColumn node name) = duplicate_column node (string_bytes name)
refusal_of (fault.TypeMismatch node) = type_mismatch node
refusal_of (fault.UnknownRange node name) = unknown_range node (string_bytes name)
refusal_of (fault.BadRange name) = bad_range (string_bytes name)
refusal_of (fault.BadSize name) = bad_size (string_bytes name)
refusal_of fault.NoMemory = not_json
refusal_of (fault.TooWide node) = too_wide node
refusal_of (fault.PhaseMismatch node) = phase_mismatch node

-- the pure answer is this refusal, or memory ran out
abbrev pub Fails : {Y : Type 0} → PlanFault → Result Y Refusal → Type 0
Fails e answer = (e ≡ fault.NoMemory) ⊎ (answer ≡ Err (refusal_of e))

-- a call gives what the pure answer is, unless memory ran out
abbrev pub Gives : {X Y : Type 0} → (X → Y) → Result X PlanFault → Result Y Refusal → Type 0
Gives look (Ok x) answer = answer ≡ Ok (look x)
Gives look (Err e) answer = Fails e answer

-- the node that a refusal names
abbrev pub node_of : PlanFault → Option ℕ
node_of fault.NotJson = None
node_of (fault.BadNode path) = None
node_of fault.TooDeep = None
node_of (fault.UnknownRelation node name) = Some node
node_of (fault.UnknownColumn node name) = Some node
node_of (fault.DuplicateColumn node name) = Some node
node_of (fault.TypeMismatch node) = Some node
node_of (fault.UnknownRange node name) = Some node
node_of (fault.BadRange name) = None
node_of (fault.BadSize name) = None
node_of fault.NoMemory = None
node_of (fault.TooWide node) = Some node
node_of (fault.PhaseMismatch node) = Some node
