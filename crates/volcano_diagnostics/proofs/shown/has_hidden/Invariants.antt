use Rattle.std.proofs.Common.{◌≡◌}
use Rattle.std.specs.List.{list_any}
use Rattle.volcano_diagnostics.specs.Shown.{is_hidden}
use Rattle.volcano_diagnostics.proofs.shown.has_hidden.Given as goal

abbrev pub invariant-loop-character : goal.invariant-loop-character
invariant-loop-character l = l.is_found ≡ list_any is_hidden l.yielded
