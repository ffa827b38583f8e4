-- The workers of size names that were tested.
use Rattle.std.proofs.Common.{◌≡◌, ℕ, Bool, true, false, not, cond, List, [], ◌∷◌, Option, Some, None, Ok, rules, refl}
use Rattle.std.specs.List.{All}
use Rattle.std.proofs.lemmas.List.Elements.{All-nil, All-cons}
use Rattle.vx_plan_nodes.specs.Workers.{IsWithin}
use Rattle.vx_exec_runs.specs.Setup.{SetupRefusal, no_name, tested}
use Rattle.vx_exec_setup.specs.Setup.{Entry, is_within, workers_named, worker_groups_named, first_out_of_range}

-- where no name is refused, none was found
pub none_found : (refusal : List ℕ → SetupRefusal) (name : Option (List ℕ)) → no_name refusal name ≡ Ok tt → name ≡ None
none_found refusal None h = refl
none_found refusal (Some name) h = (cc)

-- a test that refuses nothing passes
pub passed : (b : Bool) (refusal : SetupRefusal) → tested b refusal ≡ Ok tt → b ≡ true
passed true refusal h = refl
passed false refusal h = (cc)

pub is_within-true : (most n : ℕ) → is_within most n ≡ true → IsWithin 1 most n
is_within-true most n h = search rules

-- what a search for a name that fails did not find, it did not find behind the first name
none_behind : (b : Bool) (name : List ℕ) (rest : Option (List ℕ)) → cond (not b) (Some name) rest ≡ None → (b ≡ true) × (rest ≡ None)
none_behind true name rest h = (refl, h)
none_behind false name rest h = (cc)

-- the workers of names none of which is out of range are within the limits
pub worker_groups_within : (entries : List Entry) (names : List (List ℕ)) → first_out_of_range entries names ≡ None → All (IsWithin 1 64) (worker_groups_named entries names)
worker_groups_within entries [] h = All-nil (IsWithin 1 64)
worker_groups_within entries (name ∷ names) h =
    let apart = none_behind (is_within 64 (workers_named entries name)) name (first_out_of_range entries names) h in
    All-cons (IsWithin 1 64) (workers_named entries name) (worker_groups_named entries names) (is_within-true 64 (workers_named entries name) apart.0) (worker_groups_within entries names apart.1)
