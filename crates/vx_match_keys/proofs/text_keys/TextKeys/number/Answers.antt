use Rattle.std.proofs.Common.{◌≡◌, ◌<◌, arith, sym, ap, ◌∙◌, map, length, string_bytes}
use Rattle.std.specs.Str.{bytes_eq}
use Rattle.std.specs.List.{position_or_len}
use Rattle.std.proofs.lemmas.List.{length-map}
use Rattle.vx_rows_values.specs.Values.{row_eq}
use Rattle.vx_match_keys.specs.Columns.{text_key, owned_key}
use Rattle.vx_match_keys.proofs.NumberFacts.{found-number, key-known}
use Rattle.vx_match_keys.proofs.MadeFacts.{number-of-text, number-of-owned, insert-owned}
use Rattle.vx_match_keys.proofs.text_keys.TextKeys.number.Goals as goal

pub returns-in-Some-clause-number : goal.returns-in-Some-clause-number
returns-in-Some-clause-number c =
    let key = c.args.key.now in
    let keys = c.self.inside.set.keys in
    found-number (λ s. bytes_eq key (string_bytes s)) keys c.in-Some.number (sym c.in-Some.ensures.index) ∙ number-of-text key keys c.args.self.now c.self.view_is

pub returns-in-Some-clause-keys : goal.returns-in-Some-clause-keys
returns-in-Some-clause-keys c =
    let key = c.args.key.now in
    let keys = c.self.inside.set.keys in
    let known = c.args.self.now in
    let n = c.in-Some.number in
    let number-is : n ≡ position_or_len (row_eq (text_key key)) known =
    found-number (λ s. bytes_eq key (string_bytes s)) keys n (sym c.in-Some.ensures.index) ∙ number-of-text key keys known c.self.view_is in
    let within : n < length keys = c.in-Some.ensures.within in
    let long : length keys ≡ length known = sym (length-map keys owned_key) ∙ ap length c.self.view_is in
    sym (key-known known (text_key key) (omega (arith, number-is, within, long)))

pub returns-clause-number : goal.returns-clause-number
returns-clause-number c =
    c.in_ok-number.ensures.index ∙ number-of-owned c.in_ok-from_str.field-0 c.self.inside.set.keys c.args.key.now c.args.self.now c.in_ok-from_str.ensures.ok c.self.view_is

pub returns-clause-keys : goal.returns-clause-keys
returns-clause-keys c =
    ap (map owned_key) c.in_ok-number.ensures.keys
    ∙ insert-owned c.in_ok-from_str.field-0 c.self.inside.set.keys c.args.key.now c.args.self.now c.in_ok-from_str.ensures.ok c.self.view_is
