use Rattle.std.proofs.Common.{rules, sym, ap, ◌∙◌, w64}
use Rattle.std.specs.Prelude.{position}
use Rattle.std.specs.Ordering.{int_eq}
use Rattle.std.proofs.lemmas.Int.{to_z-of_z}
use Rattle.vx_match_keys.proofs.NumberFacts.{found-number, missing-number}
use Rattle.vx_match_keys.proofs.MadeFacts.{number-of}
use Rattle.vx_match_keys.proofs.hashed_keys.HashedKeys.number_or_next.Goals as goal

pub returns-in_default : goal.returns-in_default
returns-in_default c =
    let keys = c.self.inside.set.keys in
    let same = ap (λ z. position (int_eq z) keys) (sym (to_z-of_z w64 c.args.key (search rules))) in
    c.len.ensures.len ∙ (missing-number (int_eq c.args.key) keys (same ∙ sym c.in_default.ensures.index) ∙ number-of c.args.key keys c.args.self.now c.self.view_is)

pub returns : goal.returns
returns c =
    let keys = c.self.inside.set.keys in
    let same = ap (λ z. position (int_eq z) keys) (sym (to_z-of_z w64 c.args.key (search rules))) in
    found-number (int_eq c.args.key) keys c.in-Some.number (same ∙ sym c.in-Some.ensures.index) ∙ number-of c.args.key keys c.args.self.now c.self.view_is
