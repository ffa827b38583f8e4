use Rattle.std.proofs.Common.{◌≡◌, ◌++◌, map, string_bytes, codes, false, drop, nat_lt}
use Rattle.vx_plan_nodes.specs.Outline.{entry_of, is_renamed}
use Rattle.vx_check.specs.Explain.{separated, made_texts}
use Rattle.vx_check.proofs.describe.push_entries.Given as goal

abbrev pub invariant-loop-i : goal.invariant-loop-i
invariant-loop-i l =
    string_bytes l.text ++ separated (codes ",") (nat_lt 0 l.i) (made_texts l.inputs l.outputs l.i (map entry_of (drop l.i l.entries)) (map is_renamed (drop l.i l.entries)))
    ≡ string_bytes l.initial.text ++ separated (codes ",") false (made_texts l.inputs l.outputs 0 (map entry_of l.entries) (map is_renamed l.entries))
