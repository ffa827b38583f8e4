use Rattle.std.proofs.Common.{◌≡◌, ◌++◌, drop, flat_map}
use Rattle.volcano_diagnostics.specs.Text.{note_line}
use Rattle.volcano_diagnostics.proofs.text.push_notes.Given as goal

abbrev pub invariant-loop-note : goal.invariant-loop-note
invariant-loop-note l = l.text.items ++ flat_map note_line (drop l.note-index l.notes) ≡ l.fn.text.items ++ flat_map note_line l.notes
