use Rattle.std.proofs.Common.{◌≡◌, map, drop}
use Rattle.serde_json.specs.View.{view}
use Rattle.volcano_drawing.specs.Entries.{has_numbers}
use Rattle.volcano_drawing.proofs.entries.has_numbers.Given as goal

abbrev pub invariant-loop-key : goal.invariant-loop-key
invariant-loop-key l =
    has_numbers (map (λ k. k.now) (drop l.key-index l.keys)) (view l.object) ≡ has_numbers (map (λ k. k.now) l.keys) (view l.object)
