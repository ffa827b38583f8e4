-- Keys that are there, as the program holds them.
use Rattle.std.specs.Prelude.{ℕ, List, [], ◌∷◌, map, flat_map, Option, option_map, option_to_list}
use Rattle.vx_plan_nodes.specs.Phases.{first_columns}
use Rattle.vx_plan_nodes.specs.Describe.{Copying}
use Rattle.vx_plan_nodes.specs.DescribeView.{copying_of}
use Rattle.vx_check_rules.specs.Behaviour as upwards
use Rattle.vx_check_rules.specs.declared.keyed.KeysSeen as rust_keys
use Rattle.vx_check_rules.specs.declared.keyed.KeysSeen.TheVariants as seen
use Rattle.vx_check_rules.specs.declared.keyed.CopiedKeys as rust_copied
use Rattle.vx_check_rules.specs.declared.keyed.Keyed as rust_keyed

abbrev pub keys_seen : rust_keys.KeysSeen → List (List ℕ)
keys_seen (seen.Listed keys) = map (λ k. k.items) keys.now
keys_seen (seen.Declared relation) = relation.now.keys
keys_seen (seen.First n) = first_columns n ∷ []

abbrev pub copied_keys : rust_copied.CopiedKeys → Copying × List (List ℕ)
copied_keys k = (copying_of k.copying, keys_seen k.keys)

abbrev pub keyed_of : rust_keyed.Keyed → upwards.Keyed
keyed_of k = record { from = copied_keys k.first ∷ option_to_list (option_map copied_keys k.second) }

-- keys that may be there, and those of these that are
abbrev pub keyed_in : Option rust_keyed.Keyed → List upwards.Keyed
keyed_in o = option_to_list (option_map keyed_of o)

abbrev pub all_keyed_in : List (Option rust_keyed.Keyed) → List upwards.Keyed
all_keyed_in ks = flat_map keyed_in ks
