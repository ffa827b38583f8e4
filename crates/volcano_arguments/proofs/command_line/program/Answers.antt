use Rattle.std.proofs.Common.{◌≡◌, ◌∙◌, ap, true}
use Rattle.clap.specs.Words.{app_of}
use Rattle.clap.specs.Simple.{app_of_fields, on_top}
use Rattle.volcano_arguments.proofs.command_line.program.Goals as goal

pub returns-clause-app : goal.returns-clause-app
returns-clause-app c =
    let versioned : app_of c.version.result ≡ on_top (λ s. record s { has_version = true }) (app_of c.new.result) = ap app_of_fields c.version.ensures in
    ap app_of_fields c.after_help.ensures ∙ (ap app_of_fields c.about.ensures ∙ (versioned ∙ ap (on_top (λ s. record s { has_version = true })) c.new.ensures.app))

pub returns-clause-local : goal.returns-clause-local
returns-clause-local c =
    ap (λ f. f.has_globals) c.after_help.ensures ∙ (ap (λ f. f.has_globals) c.about.ensures ∙ (ap (λ f. f.has_globals) c.version.ensures ∙ c.new.ensures.local))
