-- A plan as a graph in the language of Graphviz: a frame for each fragment, which is what lies between exchanges, a box
-- for each operator, and an arrow from each node to the one that takes its rows. Where there are counts of a run, the box
-- of a node has them too, or the arrow that leads to it if it is an exchange.
use Rattle.std.specs.Prelude.{ℕ, ◌++◌, Bool, cond, List, [], codes, decimal, slice_get}
use Rattle.vx_plan_nodes.specs.Plan.{size}
use Rattle.vx_plan_nodes.specs.Names.{Names}
use Rattle.vx_plan_nodes.specs.Outline.{Outline, scan, unary, binary, exchange, top, columns, plan_in}
use Rattle.vx_plan_nodes.specs.declared.typed_plan.TypedPlan.{TypedPlan}
use Rattle.vx_plan_nodes.specs.TypedView.{resolved_of}
use Rattle.vx_check.specs.Explain.{size_text, part_text, description}
use Rattle.vx_check_formats.specs.Label.{label, label_of, insides}
use Rattle.vx_check_formats.specs.Totals.{node_line, exchange_lines}
use Rattle.vx_check_formats.specs.declared.totals.NodeTotals.{NodeTotals}

-- the name of the box of the node with this number
abbrev pub box_name : ℕ → List ℕ
box_name n = codes "n" ++ decimal n

-- the node's number and what it does, as in its line of the text that explains the plan
abbrev pub caption : Names → Outline → List ℕ
caption s t = codes "#" ++ (decimal (top t).number ++ (codes " " ++ description s t))

-- ---- boxes

-- a node's label: its caption, and below it what was counted there
abbrev pub captioned : Names → List NodeTotals → Outline → List ℕ
captioned s cs t = label_of (insides (caption s t) ++ node_line (slice_get cs (top t).number))

-- an exchange is a point, since its caption stands at the arrow that leads to it
abbrev pub look : Names → List NodeTotals → Outline → List ℕ
look s cs (scan h r m z p) = captioned s cs (scan h r m z p)
look s cs (unary h op renamed t) = captioned s cs (unary h op renamed t)
look s cs (binary h op t u) = captioned s cs (binary h op t u)
look s cs (exchange h k m t) = codes "shape=point"

abbrev pub box : Names → List NodeTotals → Outline → List ℕ
box s cs t = codes "    " ++ (box_name (top t).number ++ (codes " [" ++ (look s cs t ++ codes "];\n")))

-- the boxes of a fragment from this node down: an exchange is its lowest
abbrev pub boxes : Names → List NodeTotals → Outline → List ℕ
boxes s cs (scan h r m z p) = box s cs (scan h r m z p)
boxes s cs (unary h op renamed t) = box s cs (unary h op renamed t) ++ boxes s cs t
boxes s cs (binary h op t u) = box s cs (binary h op t u) ++ (boxes s cs t ++ boxes s cs u)
boxes s cs (exchange h k m t) = box s cs (exchange h k m t)

-- how the frame begins whose top node has this number
unfoldable pub frame_head : ℕ → List ℕ
frame_head n = codes "  subgraph cluster_" ++ (decimal n ++ codes " {\n")

-- the size of the group of workers that runs the node
unfoldable pub size_label : Names → Outline → List ℕ
size_label s t = codes "    " ++ (label (size_text s (size (plan_in t))) ++ codes ";\n")

-- the frame of the fragment that has this node at its top
unfoldable pub frame : Names → List NodeTotals → Outline → List ℕ
frame s cs t = frame_head (top t).number ++ (size_label s t ++ (boxes s cs t ++ codes "  }\n"))

-- the frames of the fragments below this node's: below each exchange begins another
abbrev pub frames : Names → List NodeTotals → Outline → List ℕ
frames s cs (scan h r m z p) = []
frames s cs (unary h op renamed t) = frames s cs t
frames s cs (binary h op t u) = frames s cs t ++ frames s cs u
frames s cs (exchange h k m t) = frame s cs t ++ frames s cs t

-- ---- arrows

-- the part that the node claims
abbrev pub part_words : Names → Outline → List ℕ
part_words s t = part_text s (columns t).names (top t).claim.part

-- an arrow between two boxes, with this inside of its label
unfoldable pub arrow : ℕ → List ℕ → List ℕ → List ℕ
arrow from to inside = codes "  " ++ (box_name from ++ (codes " -> " ++ (to ++ (codes " [" ++ (label_of inside ++ codes "];\n")))))

-- what stands at the arrow from a node: how its rows lie
abbrev pub part_inside : Names → Outline → List ℕ
part_inside s t = insides (part_words s t)

-- and at the arrow from a node to this exchange: also how the exchange sends, and what was counted at both
abbrev pub sent_inside : Names → List NodeTotals → (from to : Outline) → List ℕ
sent_inside s cs t x =
    part_inside s t ++ (codes "\\n" ++ (insides (caption s x) ++ exchange_lines (slice_get cs (top t).number) (slice_get cs (top x).number)))

abbrev pub arrows : Names → List NodeTotals → Outline → List ℕ
arrows s cs (scan h r m z p) = []
arrows s cs (unary h op renamed t) = arrow (top t).number (box_name h.number) (part_inside s t) ++ arrows s cs t
arrows s cs (binary h op t u) =
    arrow (top t).number (box_name h.number) (part_inside s t) ++ (arrow (top u).number (box_name h.number) (part_inside s u) ++ (arrows s cs t ++ arrows s cs u))
arrows s cs (exchange h k m t) = arrow (top t).number (box_name h.number) (sent_inside s cs t (exchange h k m t)) ++ arrows s cs t

-- ---- the graph

-- the result, outside of every frame
abbrev pub result_box : Bool → List ℕ
result_box total = cond total (codes "  result [shape=plaintext, label=\"total\"];\n") (codes "  result [shape=plaintext, label=\"not total\"];\n")

unfoldable pub ending : Names → Bool → Outline → List ℕ
ending s total t = result_box total ++ (arrow (top t).number (codes "result") (part_inside s t) ++ codes "}\n")

-- all frames and arrows of the plan with this node at its top
unfoldable pub drawing : Names → List NodeTotals → Outline → List ℕ
drawing s cs t = frame s cs t ++ (frames s cs t ++ arrows s cs t)

-- the graph of a plan with the counts of each node, by the numbers of the nodes; with an empty list it has no counts
abbrev pub outline_dot : Names → List NodeTotals → Bool → Outline → List ℕ
outline_dot s cs total t = codes "digraph plan {\n  rankdir=BT;\n  labeljust=l;\n  node [shape=box];\n" ++ (drawing s cs t ++ ending s total t)

abbrev pub plan_dot : TypedPlan → List NodeTotals → List ℕ
plan_dot p cs = outline_dot (resolved_of p).names cs (resolved_of p).total (resolved_of p).root
