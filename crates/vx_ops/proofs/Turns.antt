-- What the proofs of the turns of both machines rest on.
use Rattle.std.proofs.Common.{◌≡◌, ◌⊎◌, ℕ, List, [], ◌++◌, subst}
use Rattle.vx_rows_values.specs.Values.{Row}
use Rattle.vx_plan_nodes.specs.Plan.{Unary, select, project, distinct, sort, group, limit, by_hashing, by_merging, Binary, union, join, semi_join}
use Rattle.vx_ops.specs.Ledger.{Ledger, one_op, two_op, OwnBlame, IsAllGiven, HoldsBack}
use Rattle.vx_ops.specs.declared.fault.Code.TheVariants.{NoMemory}
use Rattle.vx_ops.specs.declared.fault.Fault.{Fault}
use Rattle.vx_ops.specs.declared.fault.Fault.TheVariants.{Own}
use Rattle.vx_ops.specs.declared.fault.StreamState.TheVariants.{Running, Ended, Failed}

-- the ledger after a batch came for which memory ran out
abbrev pub with_refusal : Ledger → List Row → Fault → Ledger
with_refusal l xs f = record l { left = record { rows = l.left.rows ++ xs; over = l.left.over }; gave = record { rows = l.gave.rows; over = Failed f } }

pub running-ended : Running ≡ Ended → ⊥
running-ended e = cc

pub running-failed : (f : Fault) → Running ≡ Failed f → ⊥
running-failed f e = cc

pub ended-failed : (f : Fault) → Ended ≡ Failed f → ⊥
ended-failed f e = cc

pub failed-ended : (f : Fault) → Failed f ≡ Ended → ⊥
failed-ended f e = cc

pub failed-running : (f : Fault) → Failed f ≡ Running → ⊥
failed-running f e = cc

pub ended-running : Ended ≡ Running → ⊥
ended-running e = cc

pub same-fault : (f g : Fault) → Failed f ≡ Failed g → f ≡ g
same-fault f g e = cc

-- lack of memory is a fault of an operator's own
pub own-memory : (n : ℕ) (op : Unary) (m : ℕ) (l : Ledger) (f : Fault) → Own NoMemory m ≡ f → OwnBlame (one_op n op) l f
own-memory n op m l f e = let P : Fault → Type 0 = λ v. OwnBlame (one_op n op) l v in subst P e tt

-- an operator that has returned all of an input that has ended, or nothing, returned nothing too early
pub one-held-back : (n : ℕ) (op : Unary) (l : Ledger) → IsAllGiven op l ⊎ (l.gave.rows ≡ []) → HoldsBack (one_op n op) l
one-held-back n (group phase by aggregates) l h = h
one-held-back n (sort of_parts order) l h = h
one-held-back n (select cs) l h = tt
one-held-back n (project cols) l h = tt
one-held-back n (distinct cols) l h = tt
one-held-back n (limit rows) l h = tt

-- the same of one whose right input has ended
pub two-held-back : (n : ℕ) (op : Binary) (l : Ledger) → (l.right.over ≡ Ended) ⊎ (l.gave.rows ≡ []) → HoldsBack (two_op n op) l
two-held-back n (join by_hashing on) l h = h
two-held-back n (join (by_merging falls) on) l h = tt
two-held-back n (semi_join matched on conditions) l h = h
two-held-back n union l h = tt
