-- In which form more is said of a refusal, below its line.
use Rattle.std.specs.Prelude.{Bool, true, false, not, Option, Some, None}
use Rattle.volcano_arguments.specs.Asked.{Ask, bundle, check, check_all, explain, draw, annotate, sql, find_catalog, why, serial, run, run_plans, generate}
use Rattle.volcano_arguments.specs.declared.asked.ErrorForm.{ErrorForm}
use Rattle.volcano_arguments.specs.declared.asked.ErrorForm.TheVariants as error_form

-- as arguments ask for, or else at length if a person reads it
abbrev pub form_of : Option ErrorForm → Bool → ErrorForm
form_of (Some form) read = form
form_of None true = error_form.Long
form_of None false = error_form.Short

-- a form in which nothing more is said
abbrev pub is_silent : ErrorForm → Bool
is_silent error_form.Short = true
is_silent error_form.Long = false
is_silent error_form.Json = false

-- what is asked for is a plan with the claims that follow, or a catalog that is found in files: beside these something may be said
abbrev pub annotates_ask : Ask → Bool
annotates_ask bundle = false
annotates_ask (check paths) = false
annotates_ask (check_all paths) = false
annotates_ask (explain paths format) = false
annotates_ask (draw paths stats) = false
annotates_ask (annotate paths derive) = true
annotates_ask (sql paths dialect) = false
annotates_ask (find_catalog paths quiet) = not quiet
annotates_ask (why code) = false
annotates_ask (serial paths folder) = false
annotates_ask (run paths folder given) = false
annotates_ask (run_plans paths folder given) = false
annotates_ask (generate rows) = false

abbrev pub annotates : Option Ask → Bool
annotates (Some ask) = annotates_ask ask
annotates None = false
