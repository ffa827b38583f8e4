-- Rules as the program names them.
use Rattle.std.specs.Prelude.{ℕ, List, codes}
use Rattle.vx_check_rules.specs.Refusal.{Rule, size_mismatch, root_not_one, part_not_shown, inputs_not_matched, replicated_input, order_not_shown, order_needed, key_not_shown, total_not_shown, first_rows_open}
use Rattle.vx_check_rules.specs.declared.rule.Rule as rust_rule
use Rattle.vx_check_rules.specs.declared.rule.Rule.TheVariants as rule

abbrev pub rule_of : rust_rule.Rule → Rule
rule_of rule.SizeMismatch = size_mismatch
rule_of rule.RootNotOne = root_not_one
rule_of rule.PartNotShown = part_not_shown
rule_of rule.InputsNotMatched = inputs_not_matched
rule_of rule.ReplicatedInput = replicated_input
rule_of rule.OrderNotShown = order_not_shown
rule_of rule.OrderNeeded = order_needed
rule_of rule.KeyNotShown = key_not_shown
rule_of rule.TotalNotShown = total_not_shown
rule_of rule.FirstRowsOpen = first_rows_open

-- the code and the name of a rule
abbrev pub rule_text : Rule → List ℕ
rule_text size_mismatch = codes "K1 SizeMismatch"
rule_text root_not_one = codes "K2 RootNotOne"
rule_text part_not_shown = codes "K3 PartNotShown"
rule_text inputs_not_matched = codes "K4 InputsNotMatched"
rule_text replicated_input = codes "K5 ReplicatedInput"
rule_text order_not_shown = codes "K6 OrderNotShown"
rule_text order_needed = codes "K7 OrderNeeded"
rule_text key_not_shown = codes "K8 KeyNotShown"
rule_text total_not_shown = codes "K9 TotalNotShown"
rule_text first_rows_open = codes "K11 FirstRowsOpen"

-- a node and the rule that refuses it
abbrev pub refusal_of : ℕ × rust_rule.Rule → ℕ × Rule
refusal_of r = (r.0, rule_of r.1)
