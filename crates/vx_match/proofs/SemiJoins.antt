-- What the kernel of a semi or an anti join knows of its build side, and makes of a batch.
use Rattle.std.proofs.Common.{◌≡◌, ℕ, ◌-◌, Bool, List, [], take, drop, ap, arith}
use Rattle.std.specs.Prelude.{slice_range}
use Rattle.vx_plan_nodes.specs.Plan.{Condition, semi_join}

pub same-pairs : (matched matched' : Bool) (on on' : List (ℕ × ℕ)) (cs cs' : List Condition) → semi_join matched on cs ≡ semi_join matched' on' cs' → on ≡ on'
same-pairs matched matched' on on' cs cs' e = cc

-- the part of a list behind its end
pub nothing-behind : {X : Type 0} (xs : List X) (n : ℕ) → slice_range xs n n ≡ []
nothing-behind xs n = let none : n - n ≡ 0 = omega arith in ap (λ k. take k (drop n xs)) none
