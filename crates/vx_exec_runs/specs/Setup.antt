-- What a run's setup comes to: the sizes of its run, or the first thing that is wrong with it.
use Rattle.std.specs.Prelude.{ℕ, ◌≡◌, Bool, nat_le, if◌then◌else◌, List, Option, Some, None, Result, Ok, Err, ⊤, string_bytes, ◌⊎◌}
use Rattle.vx_plan_nodes.specs.Plan.{Plan}
use Rattle.vx_plan_nodes.specs.Workers.{crew_size, worker_group_at}
use Rattle.vx_catalog_relations.specs.Walk.{◌>>=◌}
use Rattle.vx_exec_setup.specs.Setup.{SetupView, is_within, worker_groups_named, first_missing, first_out_of_range}
use Rattle.vx_exec_runs.specs.Sizes.{Sizes}
use Rattle.vx_exec_setup.specs.declared.fault.RunFault.{RunFault}
use Rattle.vx_exec_setup.specs.declared.fault.RunFault.TheVariants as fault
use Rattle.vx_rows_values.specs.Limits.{max_morsel_rows, max_packet_rows, max_slack, max_workers}

-- why a plan is not run by a setup, by a size name or by a number of workers
pub data SetupRefusal : Type 0 where
  size_missing : List ℕ → SetupRefusal
  size_out_of_range : List ℕ → SetupRefusal
  bad_packet : SetupRefusal
  bad_morsel : SetupRefusal
  bad_slack : SetupRefusal
  too_many_workers : ℕ → SetupRefusal
  other : SetupRefusal

-- this refusal, if the test fails
abbrev pub tested : Bool → SetupRefusal → Result ⊤ SetupRefusal
tested b refusal = if b then Ok tt else Err refusal

-- this refusal of a name, if there is one
abbrev pub no_name : (List ℕ → SetupRefusal) → Option (List ℕ) → Result ⊤ SetupRefusal
no_name refusal None = Ok tt
no_name refusal (Some name) = Err (refusal name)

-- a plan with not too many workers
abbrev pub few_workers : List ℕ → Plan → Result ⊤ SetupRefusal
few_workers worker_groups p = tested (nat_le (crew_size (worker_group_at worker_groups) p) max_workers) (too_many_workers (crew_size (worker_group_at worker_groups) p))

-- the sizes of a run of a plan that declares these size names, or the first refusal
unfoldable pub sizes_set : SetupView → List (List ℕ) → Plan → Result Sizes SetupRefusal
sizes_set s names p =
    no_name size_missing (first_missing s.sizes names) >>= λ _.
    no_name size_out_of_range (first_out_of_range s.sizes names) >>= λ _.
    tested (is_within max_packet_rows s.packet) bad_packet >>= λ _.
    tested (is_within max_morsel_rows s.morsel) bad_morsel >>= λ _.
    tested (is_within max_slack s.slack) bad_slack >>= λ _.
    few_workers (worker_groups_named s.sizes names) p >>= λ _.
    Ok (record { worker_groups = worker_groups_named s.sizes names; packet = s.packet; morsel = s.morsel })

-- the refusal that a fault says; what is no fault of a setup is another
abbrev pub refusal_of : RunFault → SetupRefusal
refusal_of (fault.SizeMissing name) = size_missing (string_bytes name)
refusal_of (fault.SizeOutOfRange name) = size_out_of_range (string_bytes name)
refusal_of fault.BadPacket = bad_packet
refusal_of fault.BadMorsel = bad_morsel
refusal_of fault.BadSlack = bad_slack
refusal_of (fault.TooManyWorkers number) = too_many_workers number
refusal_of _ = other

-- the answer is this refusal, or memory ran out
abbrev pub Fails : {Y : Type 0} → RunFault → Result Y SetupRefusal → Type 0
Fails e answer = (e ≡ fault.NoMemory) ⊎ (answer ≡ Err (refusal_of e))

-- a call gives what the answer is, unless memory ran out
abbrev pub Gives : {X Y : Type 0} → (X → Y) → Result X RunFault → Result Y SetupRefusal → Type 0
Gives look (Ok x) answer = answer ≡ Ok (look x)
Gives look (Err e) answer = Fails e answer
