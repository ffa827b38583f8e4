-- How arguments set a run up: numbers and the mode as texts, and arguments NAME=N.
use Rattle.std.specs.Prelude.{◌≡◌, ℕ, ◌^◌, ◌<◌, ◌==◌, ◌++◌, List, [], ◌∷◌, length, slice_index_or, take, Option, Some, None, SomeIff, bytes_eq, codes, if◌then◌else◌}
use Rattle.std.specs.Str.{NoCharPasses}
use Rattle.std.specs.Str.Parse.{IsNumeral, digits_value, without_leading_plus}
use Rattle.volcano_arguments.specs.Asked.{Given}
use Rattle.vx_exec_setup.specs.declared.setting.Mode.{Mode}
use Rattle.vx_exec_setup.specs.declared.setting.Mode.TheVariants as mode
use Rattle.vx_exec_setup.specs.Setting.{Setting}
use Rattle.volcano_bundle.specs.Named.{Named}

-- the number of 32 bits that a text of digits is, behind a plus or not, if it is one
abbrev pub Numbers : List ℕ → Option ℕ → Type 0
Numbers text n = SomeIff n (IsNumeral 10 (without_leading_plus text) × (digits_value 10 (without_leading_plus text) < 2 ^ 32)) (digits_value 10 (without_leading_plus text))

-- an argument NAME=N is cut at its last =
abbrev pub IsCut : List ℕ → List ℕ → List ℕ → Type 0
IsCut argument name number = (argument ≡ name ++ codes "=" ++ number) × NoCharPasses (λ c. c == 61) number

-- an argument NAME=N, with its name and its number
abbrev pub IsSize : List ℕ → List ℕ × ℕ → Type 0
IsSize argument size = (number : List ℕ) × IsCut argument size.0 number × Numbers number (Some size.1)

-- an argument that is no NAME=N
pub data IsNoSize (argument : List ℕ) : Type 0 where
  without_equals : NoCharPasses (λ c. c == 61) argument → IsNoSize argument
  without_number : (name number : List ℕ) → IsCut argument name number → Numbers number None → IsNoSize argument

-- arguments NAME=N with their names and numbers
abbrev pub AreSizes : List (List ℕ) → Named ℕ → Type 0
AreSizes [] [] = Unit {0}
AreSizes [] (size ∷ sizes) = ⊥
AreSizes (argument ∷ arguments) [] = ⊥
AreSizes (argument ∷ arguments) (size ∷ sizes) = IsSize argument size × AreSizes arguments sizes

-- an argument among these is no NAME=N
abbrev pub HasNoSize : List (List ℕ) → Type 0
HasNoSize arguments = (i : ℕ) × (i < length arguments) × IsNoSize (slice_index_or arguments i [])

-- the first of these arguments that is no NAME=N: those before it are
abbrev pub IsFirstNoSize : List (List ℕ) → List ℕ → Type 0
IsFirstNoSize arguments argument =
    (i : ℕ) × (sizes : Named ℕ) × (i < length arguments) × (slice_index_or arguments i [] ≡ argument) × AreSizes (take i arguments) sizes × IsNoSize argument

-- the mode that a text names, if it names one
abbrev pub mode_named : List ℕ → Option Mode
mode_named text = if bytes_eq text (codes "rounds") then Some mode.Rounds else if bytes_eq text (codes "threads") then Some mode.Threads else None

-- what arguments say of a run
pub record IsSetting (given : Given) (s : Setting) : Type 0 where
  pub packet : Numbers given.packet (Some s.setup.packet)
  pub morsel : Numbers given.morsel (Some s.setup.morsel)
  pub slack : Numbers given.slack (Some s.setup.slack)
  pub sizes : AreSizes given.sizes s.setup.sizes
  pub mode : mode_named given.mode ≡ Some s.mode

-- arguments that set no run up: a number is none, the mode is none, or an argument is no NAME=N
pub data IsNoSetting (given : Given) : Type 0 where
  for_packet : Numbers given.packet None → IsNoSetting given
  for_morsel : Numbers given.morsel None → IsNoSetting given
  for_slack : Numbers given.slack None → IsNoSetting given
  for_mode : mode_named given.mode ≡ None → IsNoSetting given
  for_size : HasNoSize given.sizes → IsNoSetting given

-- the first part of what arguments say of a run that sets none up, behind the words that stand before it in a message
pub data IsWrongPart (given : Given) (before argument : List ℕ) : Type 0 where
  wrong_packet : Numbers given.packet None → before ≡ codes "volcano: --packet " → argument ≡ given.packet → IsWrongPart given before argument
  wrong_morsel : Numbers given.morsel None → before ≡ codes "volcano: --morsel " → argument ≡ given.morsel → IsWrongPart given before argument
  wrong_slack : Numbers given.slack None → before ≡ codes "volcano: --slack " → argument ≡ given.slack → IsWrongPart given before argument
  wrong_mode : mode_named given.mode ≡ None → before ≡ codes "volcano: --mode " → argument ≡ given.mode → IsWrongPart given before argument
  wrong_size : IsFirstNoSize given.sizes argument → before ≡ codes "volcano: " → IsWrongPart given before argument
