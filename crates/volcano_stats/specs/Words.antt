-- The operators of a plan's nodes in words, and the phases of a command.
use Rattle.std.specs.Prelude.{ℕ, List, [], ◌∷◌, ◌++◌, slice_index_or, codes}
use Rattle.vx_plan_nodes.specs.Outline.{Outline, scan, unary, binary, exchange}
use Rattle.vx_check_formats.specs.Json.{op_word}
use Rattle.volcano_stats.specs.declared.phases.WorkPhase.{WorkPhase}
use Rattle.volcano_stats.specs.declared.phases.WorkPhase.TheVariants as work_phase

-- of each node its operator in a word, in preorder, which is by their numbers
abbrev pub op_words : Outline → List (List ℕ)
op_words (scan h r m z p) = op_word (scan h r m z p) ∷ []
op_words (unary h op renamed t) = op_word (unary h op renamed t) ∷ op_words t
op_words (binary h op t u) = op_word (binary h op t u) ∷ (op_words t ++ op_words u)
op_words (exchange h k m t) = op_word (exchange h k m t) ∷ op_words t

-- the word of the node with this number
abbrev pub word_at : List (List ℕ) → ℕ → List ℕ
word_at words node = slice_index_or words node []

abbrev pub phase_word : WorkPhase → List ℕ
phase_word work_phase.Read = codes "read"
phase_word work_phase.Catalog = codes "catalog"
phase_word work_phase.Plan = codes "plan"
phase_word work_phase.Plans = codes "plans"
phase_word work_phase.Check = codes "check"
phase_word work_phase.Load = codes "load"
phase_word work_phase.Run = codes "run"
phase_word work_phase.Write = codes "write"
