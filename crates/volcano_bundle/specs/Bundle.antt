-- The form of a bundle in JSON: a value of the form is read, and any other is None.
use Rattle.std.specs.Prelude.{ℕ, ◌^◌, List, [], ◌∷◌, ◌++◌, Option, Some, None, option_map, option_and_then, bytes_eq, codes, nat_lt, if◌then◌else◌}
use Rattle.std.specs.Str.{is_utf8}
use Rattle.serde_json.specs.Data.{Data, Members, no_members, member}
use Rattle.serde_json.specs.Find.{get, as_str, as_object, as_number, as_u64}
use Rattle.serde_json.specs.Read.{read}
use Rattle.vx_catalog_json.specs.Look.{has_only, or_default}
use Rattle.volcano_bundle.specs.declared.command.Command.{Command}
use Rattle.volcano_bundle.specs.declared.command.Command.TheVariants as command
use Rattle.vx_exec_setup.specs.declared.setting.Mode.{Mode}
use Rattle.vx_exec_setup.specs.declared.setting.Mode.TheVariants as mode
use Rattle.vx_exec_setup.specs.Setup.{default_packet_rows, default_morsel_rows, default_slack}
use Rattle.vx_exec_setup.specs.Setting.{Setting}
use Rattle.volcano_bundle.specs.Named.{Named}

-- what one run of the program is asked to do
pub record Bundle : Type 0 where
  pub command : Command
  pub catalog : Data
  pub plan : Data
  pub tables : Named (List ℕ)
  pub setting : Setting

unfoldable pub command_in : Data → Option Command
command_in d = option_and_then (λ s. if bytes_eq s (codes "run") then Some command.Run else if bytes_eq s (codes "serial") then Some command.Serial else
    if bytes_eq s (codes "check") then Some command.Check else if bytes_eq s (codes "explain") then Some command.Explain else None) (as_str d)

unfoldable pub mode_in : Data → Option Mode
mode_in d = option_and_then (λ s. if bytes_eq s (codes "rounds") then Some mode.Rounds else if bytes_eq s (codes "threads") then Some mode.Threads else None) (as_str d)

abbrev pub if_small : ℕ → Option ℕ
if_small n = if nat_lt n (2 ^ 32) then Some n else None

-- a number from 0 to 4,294,967,295
unfoldable pub number_in : Data → Option ℕ
number_in d = option_and_then if_small (option_and_then as_u64 (as_number d))

-- each member's name with what `read` makes of its value, after those before
unfoldable pub each_member : {A : Type 0} → (Data → Option A) → Named A → Members → Option (Named A)
each_member read prior no_members = Some prior
each_member read prior (member k d ms) = option_and_then (λ x. each_member read (prior ++ (k, x) ∷ []) ms) (read d)

-- an object, each of whose members `read` takes
abbrev pub members_in : {A : Type 0} → (Data → Option A) → Data → Option (Named A)
members_in read d = option_and_then (each_member read []) (as_object d)

abbrev pub bundle_members : List (List ℕ)
bundle_members =
    codes "command" ∷ codes "catalog" ∷ codes "plan" ∷ codes "tables" ∷ codes "sizes" ∷ codes "packet" ∷ codes "morsel" ∷ codes "slack" ∷ codes "mode" ∷ []

-- the members that say how a run is set up; where one is left out, its default, and rounds
unfoldable pub setting_in : Data → Option Setting
setting_in d =
    option_and_then (λ zs. option_and_then (λ p. option_and_then (λ m. option_and_then (λ s. option_map (λ w. record { setup = record { sizes = zs; packet = p; morsel = m; slack = s }; mode = w })
    (or_default mode.Rounds mode_in (get (codes "mode") d))) (or_default default_slack number_in (get (codes "slack") d))) (or_default default_morsel_rows number_in (get (codes "morsel") d)))
    (or_default default_packet_rows number_in (get (codes "packet") d))) (or_default [] (members_in number_in) (get (codes "sizes") d))

abbrev pub bundle_of : Command → Data → Data → Named (List ℕ) → Setting → Bundle
bundle_of c catalog plan tables s =
    record { command = c; catalog = catalog; plan = plan; tables = tables; setting = s }

-- a command, a catalog and a plan; the other members may be left out, and there are no more
unfoldable pub bundle_in : Data → Option Bundle
bundle_in d =
    if has_only bundle_members d
    then option_and_then (λ c. option_and_then (λ r. option_and_then (λ p. option_and_then (λ ts. option_map (bundle_of c r p ts)
    (setting_in d)) (or_default [] (members_in as_str) (get (codes "tables") d))) (get (codes "plan") d)) (get (codes "catalog") d)) (option_and_then command_in (get (codes "command") d))
    else None

-- the value of a JSON text in UTF-8
abbrev pub value_of_text : List ℕ → Option Data
value_of_text bytes = if is_utf8 bytes then read bytes else None

-- the bundle of a text
abbrev pub bundle_of_text : List ℕ → Option Bundle
bundle_of_text bytes = option_and_then bundle_in (value_of_text bytes)
