use Rattle.std.proofs.Common.{◌++◌, ◌∙◌, ap, sym, map-id, string_bytes}
use Rattle.std.specs.List.{flat_map}
use Rattle.std.specs.Char.{encode_utf8}
use Rattle.std.proofs.lemmas.Iterator.{YieldsList-from_chars}
use Rattle.std.proofs.lemmas.Iterator.Consumers.{YieldsList-end}
use Rattle.vx_catalog_formats.specs.Table.{shown}
use Rattle.vx_catalog_formats.proofs.cells.push_shown.Goals as goal

pub returns : goal.returns
returns c =
    let done = YieldsList-end (YieldsList-from_chars c.args.text.now c.utf8.text cc) c.loop-character.yielded _ c.loop-character.yielded_by _ _ c.in-None.is c.next.ensures.steps in
    c.loop-character.invariant
    ∙ ap (λ cs. string_bytes c.args.cell.now ++ flat_map (λ c. encode_utf8 (shown c)) cs) (sym (map-id c.loop-character.yielded) ∙ done.0)
