use Rattle.std.proofs.Common.{◌++◌, ◌∙◌, ap, sym, map-id}
use Rattle.std.specs.List.{list_any}
use Rattle.std.proofs.lemmas.Iterator.{YieldsList-from_chars}
use Rattle.std.proofs.lemmas.Iterator.Consumers.{YieldsList-end}
use Rattle.volcano_diagnostics.specs.Shown.{is_hidden}
use Rattle.volcano_diagnostics.proofs.shown.has_hidden.Goals as goal

pub returns : goal.returns
returns c =
    let done = YieldsList-end (YieldsList-from_chars c.args.text.now c.utf8.text cc) c.loop-character.yielded _ c.loop-character.yielded_by _ _ c.in-None.is c.next.ensures.steps in
    c.loop-character.invariant ∙ ap (list_any is_hidden) (sym (map-id c.loop-character.yielded) ∙ done.0)
