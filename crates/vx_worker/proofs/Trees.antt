-- A tree of sources that keep their contract is a fragment that abides by its operators.
use Rattle.vx_ops.specs.Ledger.{Stream, Ledger, Op, Abides}
use Rattle.vx_worker.specs.Fragment.{Reads, FragAbides}
use Rattle.vx_worker.specs.Trees.{shape, TreeStands}
use Rattle.vx_worker.specs.declared.tree.Tree.{Tree, Leaf, One', Two'}

pub tree-abides : {O : Type 0} (S : O → Ledger → Type 0) (op : O → Op) → ((o : O) (l : Ledger) → S o l → Abides (op o) l)
    → (t : Tree O) (r : Reads) (out : Stream) → TreeStands S t r out → FragAbides (shape op t) r out
tree-abides S op abides (Leaf k o) r out h = (h.0, h.2, abides o h.0 h.1, h.3)
tree-abides S op abides (One' o p c) r out h = (h.0, tree-abides S op abides c r h.0.left h.2, abides o h.0 h.1, h.3)
tree-abides S op abides (Two' o p a q b) r out h = (h.0, tree-abides S op abides a r h.0.left h.2, tree-abides S op abides b r h.0.right h.3, abides o h.0 h.1, h.4)
