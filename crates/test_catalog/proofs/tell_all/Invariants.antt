use denote.Text.{Utf8}
use denote.Shadow.{shadow}
use Rattle.test_catalog.proofs.tell_all.Given as goal

-- each text that the loop changes is one
abbrev pub invariant-loop-line : goal.invariant-loop-line
invariant-loop-line g l =
    (goal.iterator-loop-line g).can_next l.line-iterator
    × (goal.iterator-loop-line g).is_finite l.line-iterator
    × (shadow (Utf8 l.catalog) × shadow (Utf8 l.ways))
