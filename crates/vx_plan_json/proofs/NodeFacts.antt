-- A node's steps: its own members, then its inputs; and a refusal goes through each later step.
use Rattle.std.proofs.Common.{◌≡◌, ℕ, zero, suc, ◌-◌, ◌<◌, ltb, List, Bool, true, Option, Result, refl, ap, inl, inr, ⊎_elim, arith}
use Rattle.std.proofs.lemmas.Bool.Decides.{nat_tests}
use Rattle.serde_json.specs.Data.{Data}
use Rattle.vx_plan_json.specs.declared.fault.PlanFault.{PlanFault}
use Rattle.vx_plan_json.specs.Fault.{Refusal, ◌>>=◌, Fails}
use Rattle.vx_plan_json.specs.Operators.{OwnForm, own_under}
use Rattle.vx_plan_json.specs.Formed.{levels_left}
use Rattle.vx_plan_json.specs.Reading.{node_in, with_inputs}

-- the first refusal stays
pub fails_then : {A B : Type 0} (e : PlanFault) (r : Result A Refusal) (f : A → Result B Refusal) → Fails e r → Fails e (r >>= f)
fails_then e r f h = ⊎_elim (λ m. inl m) (λ k. inr (ap (λ s. s >>= f) k)) h

-- a node that is neither too deep nor one too many
pub node_step : (derives : Bool) (levels seen : ℕ) (path : List ℕ) (d : Data) (own : Option OwnForm) → 0 < levels → seen < 1000 → own_under derives (levels_left (levels - 1)) d ≡ own
    → node_in derives levels seen path d ≡ with_inputs (node_in derives (levels - 1)) seen path own
unfolding node_in
node_step derives zero seen path d own h k e = absurd (omega arith)
node_step derives (suc l) seen path d own h k e =
    let m : suc l - 1 ≡ l = omega arith in
    let t : ltb seen 1000 ≡ true = grind (arith, nat_tests) in
    let own_is : own_under derives (levels_left l) d ≡ own = rw m at e in
    rw (m, t, own_is) refl
