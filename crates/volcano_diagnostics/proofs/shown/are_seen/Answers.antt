use Rattle.std.proofs.Common.{◌≡◌, ◌∙◌, ap, sym, refl, not, ◌&&◌, true, false, Bool}
use Rattle.std.specs.Str.{is_utf8, chars}
use Rattle.std.specs.List.{list_any}
use Rattle.std.proofs.lemmas.Str.{IsUtf8-from_is_utf8, is_utf8-from_IsUtf8}
use Rattle.volcano_diagnostics.specs.Shown.{is_hidden, are_seen}
use Rattle.volcano_diagnostics.proofs.shown.are_seen.Goals as goal

not_true : (b : Bool) → (b ≡ true → ⊥) → b ≡ false
not_true true h = absurd (h refl)
not_true false h = refl

pub returns-in-Ok : goal.returns-in-Ok
unfolding are_seen
returns-in-Ok c =
    let bytes = c.args.bytes.now in
    let whole : is_utf8 bytes ≡ true = is_utf8-from_IsUtf8 bytes c.in-Ok.ensures.cases.1 in
    ap not (c.has_hidden.ensures ∙ ap (λ t. list_any is_hidden (chars t)) c.in-Ok.ensures.cases.0)
    ∙ sym (ap (λ b. b && not (list_any is_hidden (chars bytes))) whole)

pub returns-in-Err : goal.returns-in-Err
unfolding are_seen
returns-in-Err c =
    let bytes = c.args.bytes.now in
    let none : is_utf8 bytes ≡ false = not_true (is_utf8 bytes) (λ whole. c.in-Err.ensures.cases.0 (IsUtf8-from_is_utf8 bytes whole)) in
    sym (ap (λ b. b && not (list_any is_hidden (chars bytes))) none)
