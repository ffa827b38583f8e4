use Rattle.std.proofs.Common.{sym, ◌∙◌, string_bytes}
use Rattle.std.specs.Str.{bytes_eq}
use Rattle.vx_match_keys.proofs.NumberFacts.{found-number, missing-number}
use Rattle.vx_match_keys.proofs.MadeFacts.{number-of-text}
use Rattle.vx_match_keys.proofs.text_keys.TextKeys.number_or_next.Goals as goal

pub returns-in_default : goal.returns-in_default
returns-in_default c =
    let key = c.args.key.now in
    let keys = c.self.inside.set.keys in
    c.len.ensures.len ∙ (missing-number (λ s. bytes_eq key (string_bytes s)) keys (sym c.in_default.ensures.index) ∙ number-of-text key keys c.args.self.now c.self.view_is)

pub returns : goal.returns
returns c =
    let key = c.args.key.now in
    let keys = c.self.inside.set.keys in
    found-number (λ s. bytes_eq key (string_bytes s)) keys c.in-Some.number (sym c.in-Some.ensures.index) ∙ number-of-text key keys c.args.self.now c.self.view_is
