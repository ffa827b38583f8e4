-- Statistics for tools, as JSON.
use Rattle.std.specs.Prelude.{ℕ, List, [], ◌++◌, map, codes, decimal, false}
use Rattle.serde_json.specs.Data.{string}
use Rattle.serde_json.specs.Written.{compact_text}
use Rattle.vx_catalog_relations.specs.Relation.{Relation}
use Rattle.vx_catalog_relations.specs.Catalog.{relation_at}
use Rattle.vx_check.specs.Explain.{separated}
use Rattle.volcano_stats.specs.Columns.{microseconds}
use Rattle.volcano_stats.specs.Words.{word_at, phase_word}
use Rattle.volcano_stats.specs.declared.lines.Line.{Line}
use Rattle.volcano_stats.specs.declared.phases.WorkPhase.{WorkPhase}
use Rattle.volcano_stats.specs.declared.phases.WorkPhase.TheVariants as work_phase
use Rattle.volcano_stats.specs.declared.phases.PhaseTime.{PhaseTime}
use Rattle.volcano_stats.specs.declared.loads.LoadTime.{LoadTime}

-- a member behind others: its name and a number
unfoldable pub member : List ℕ → ℕ → List ℕ
member name n = codes ",\"" ++ (name ++ (codes "\":" ++ decimal n))

unfoldable pub rows_members : Line → List ℕ
rows_members l = member (codes "left") l.counts.left ++ (member (codes "right") l.counts.right ++ member (codes "gave") l.counts.gave)

unfoldable pub moves_members : Line → List ℕ
moves_members l =
    member (codes "morsels") l.counts.morsels ++ (member (codes "taken") l.counts.packets ++ (member (codes "put") l.puts
    ++ (member (codes "waits") l.counts.waits ++ member (codes "full") l.full)))

-- the node, and its word among these
unfoldable pub node_members : List (List ℕ) → ℕ → List ℕ
node_members words node = codes "{\"node\":" ++ (decimal node ++ (codes ",\"op\":\"" ++ (word_at words node ++ codes "\"")))

-- one line of the counts as an object
unfoldable pub line_json : List (List ℕ) → Line → List ℕ
line_json words l = node_members words l.node ++ (member (codes "worker") l.worker ++ (rows_members l ++ (moves_members l ++ codes "}")))

abbrev pub lines_json : List (List ℕ) → List Line → List ℕ
lines_json words ls = separated (codes ",") false (map (line_json words) ls)

-- what a phase's object begins with
unfoldable pub time_opening : List ℕ → List ℕ
time_opening word = codes "{\"phase\":\"" ++ (word ++ codes "\",\"microseconds\":")

-- a phase alone
unfoldable pub time_json : PhaseTime → List ℕ
time_json t = time_opening (phase_word t.phase) ++ (microseconds t.microseconds ++ codes "}")

-- the load of a relation of this catalog, whose name is written as `serde_json` writes a text
unfoldable pub load_json : List Relation → LoadTime → List ℕ
load_json catalog l = codes "{\"relation\":" ++ (compact_text (string (relation_at catalog l.relation).name) ++ (codes ",\"microseconds\":" ++ (microseconds l.microseconds ++ codes "}")))

unfoldable pub loads_json : List Relation → List LoadTime → List ℕ
loads_json catalog ls = separated (codes ",") false (map (load_json catalog) ls)

-- a member behind others: these loads
unfoldable pub relations_member : List Relation → List LoadTime → List ℕ
relations_member catalog loads = codes ",\"relations\":[" ++ (loads_json catalog loads ++ codes "]")

-- the member of a phase behind its time: these loads, of that of the load
abbrev pub loads_member : List Relation → List LoadTime → WorkPhase → List ℕ
loads_member catalog loads work_phase.Load = relations_member catalog loads
loads_member catalog loads _ = []

-- a phase among others
unfoldable pub phase_json : List Relation → List LoadTime → PhaseTime → List ℕ
phase_json catalog loads t = time_opening (phase_word t.phase) ++ (microseconds t.microseconds ++ (loads_member catalog loads t.phase ++ codes "}"))

abbrev pub times_json : List Relation → List LoadTime → List PhaseTime → List ℕ
times_json catalog loads ts = separated (codes ",") false (map (phase_json catalog loads) ts)
