-- When an option or a command is as it is planned.
use Rattle.std.specs.Prelude.{◌≡◌, false, IfOk, Result}
use Rattle.clap.specs.Words.{App, Rule, app_of, rule_of}
use Rattle.clap.specs.declared.builder.arg.Arg.{Arg}
use Rattle.clap.specs.declared.builder.command.Command.{Command}
use Rattle.clap.specs.declared.builder.command.Command.TheViews.{out-Command as fields_of}

-- an option by this rule, for its own command alone
abbrev pub IsOption : Rule → Arg → Type 0
IsOption rule option = (rule_of option ≡ rule) × (option.global ≡ false)

-- a command that is this one, all of whose options are for it alone, if there was memory for it
abbrev pub IsCommand : {E : Type 0} → App → Result Command E → Type 0
IsCommand app command = IfOk command (λ c. (app_of c ≡ app) × ((fields_of c).has_globals ≡ false))
