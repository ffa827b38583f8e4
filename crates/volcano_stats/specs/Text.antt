-- The statistics of runs in either form. What follows the rows: all that is known before they are written, and then how long that took.
use Rattle.std.specs.Prelude.{ℕ, List, [], ◌++◌, codes, Option}
use Rattle.vx_catalog_relations.specs.Relation.{Relation}
use Rattle.vx_plan_nodes.specs.TypedView.{scope, resolved_of}
use Rattle.vx_plan_nodes.specs.declared.typed_plan.TypedPlan.{TypedPlan}
use Rattle.vx_exec_setup.specs.declared.counts.WorkerCounts.{WorkerCounts}
use Rattle.volcano_stats.specs.Columns.{at_left, milliseconds, microseconds}
use Rattle.volcano_stats.specs.Lines.{lines_of}
use Rattle.volcano_stats.specs.Words.{op_words}
use Rattle.volcano_stats.specs.Table.{count_heads, count_rows, time_heads, time_row, time_rows}
use Rattle.volcano_stats.specs.Json.{lines_json, time_opening, time_json, times_json}
use Rattle.volcano_stats.specs.declared.lines.Line.{Line}
use Rattle.volcano_stats.specs.declared.phases.PhaseTime.{PhaseTime}
use Rattle.volcano_stats.specs.declared.loads.LoadTime.{LoadTime}
use Rattle.volcano_stats.specs.declared.text.StatsForm.{StatsForm}
use Rattle.volcano_stats.specs.declared.text.StatsForm.TheVariants as form

-- the counts of a plan's nodes, whose operators have these words, up to where times follow
abbrev pub counts_text : StatsForm → List (List ℕ) → List Line → List ℕ
counts_text form.Table words ls = count_heads ++ (count_rows words ls ++ time_heads)
counts_text form.Json words ls = codes "{\"nodes\":[" ++ (lines_json words ls ++ codes "],\"phases\":[")

-- the same of a run of this plan whose workers counted this
abbrev pub plan_counts : StatsForm → TypedPlan → List WorkerCounts → List ℕ
plan_counts f p ws = counts_text f (op_words (resolved_of p).root) (lines_of ws)

-- what times alone begin with
abbrev pub times_opening : StatsForm → List ℕ
times_opening form.Table = time_heads
times_opening form.Json = codes "{\"phases\":["

-- a time alone
abbrev pub time_text : StatsForm → PhaseTime → List ℕ
time_text form.Table t = time_row t
time_text form.Json t = time_json t

-- times, that of the load with these loads of relations of a catalog
abbrev pub times_text : StatsForm → List Relation → List LoadTime → List PhaseTime → List ℕ
times_text form.Table catalog loads ts = time_rows catalog loads ts
times_text form.Json catalog loads ts = times_json catalog loads ts

-- behind the last time
abbrev pub times_end : StatsForm → List ℕ
times_end form.Table = []
times_end form.Json = codes "]}\n"

-- the time of the write, behind other times, up to its number
abbrev pub write_opening : StatsForm → List ℕ
write_opening form.Table = at_left 8 (codes "write")
write_opening form.Json = codes "," ++ time_opening (codes "write")

-- that number, and the end
abbrev pub write_end : StatsForm → Option ℕ → List ℕ
write_end form.Table time = milliseconds time ++ codes "\n"
write_end form.Json time = microseconds time ++ codes "}]}\n"

-- one of several plans, with the time of its run
abbrev pub plan_text : StatsForm → TypedPlan → List WorkerCounts → PhaseTime → List ℕ
plan_text f p ws run = plan_counts f p ws ++ (time_text f run ++ times_end f)

-- a plan that runs alone, up to the time of the write
abbrev pub lone_text : StatsForm → TypedPlan → List WorkerCounts → List LoadTime → List PhaseTime → List ℕ
lone_text f p ws loads ts = plan_counts f p ws ++ (times_text f (scope p).catalog loads ts ++ write_opening f)

-- what several plans have in common, up to the time of the write
abbrev pub shared_text : StatsForm → List Relation → List LoadTime → List PhaseTime → List ℕ
shared_text f catalog loads ts = times_opening f ++ (times_text f catalog loads ts ++ write_opening f)
