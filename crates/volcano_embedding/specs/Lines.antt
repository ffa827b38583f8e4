-- The node that a refusal names, and where the code and the name of a printed line stand.
use Rattle.std.specs.Prelude.{ℕ, ◌+◌, ◌==◌, ◌||◌, min, List, length, drop, position, Bool, Option, Some, None}
use Rattle.vx_plan_json.specs.Fault as plan
use Rattle.vx_exec_setup.specs.declared.fault.RunFault.{RunFault}
use Rattle.vx_exec_setup.specs.declared.fault.RunFault.TheVariants as run
use Rattle.vx_exec_setup.specs.declared.eval_fault.EvalFault.{EvalFault}
use Rattle.vx_exec_setup.specs.declared.eval_fault.EvalFault.TheVariants as eval
use Rattle.volcano_refusals.specs.declared.refusal.Refusal.{Refusal}
use Rattle.volcano_refusals.specs.declared.refusal.Refusal.TheVariants as refusal
use Rattle.volcano_embedding.specs.declared.lines.Words.{Words}

abbrev pub run_node : RunFault → Option ℕ
run_node (run.Overflow node) = Some node
run_node (run.Unsorted node) = Some node
run_node (run.BadFunction node) = Some node
run_node fault = None

abbrev pub eval_node : EvalFault → Option ℕ
eval_node eval.OtherCatalog = None
eval_node (eval.HasExchange node) = Some node
eval_node (eval.Overflow node) = Some node
eval_node eval.NoMemory = None
eval_node (eval.BadFunction node) = Some node

-- the node that a refusal names
abbrev pub node_of : Refusal → Option ℕ
node_of (refusal.Check rule node) = Some node
node_of (refusal.Plan fault) = plan.node_of fault
node_of (refusal.Run fault) = run_node fault
node_of (refusal.Eval fault) = eval_node fault
node_of other = None

-- a space or a line feed ends a word
abbrev pub is_end : ℕ → Bool
is_end byte = byte == 32 || byte == 10

abbrev pub count_or : ℕ → Option ℕ → ℕ
count_or other None = other
count_or other (Some count) = count

-- how long the word is with which bytes begin
abbrev pub word_length : List ℕ → ℕ
word_length bytes = count_or (length bytes) (position is_end bytes)

-- the code is the word after the nine bytes `volcano: `, and the name is the word after the code
abbrev pub words_in : List ℕ → Words
words_in line =
    let code_at = min 9 (length line) in
    let code_length = word_length (drop code_at line) in
    let name_at = min (code_at + code_length + 1) (length line) in
    record { code_at = code_at; code_length = code_length; name_at = name_at; name_length = word_length (drop name_at line) }
