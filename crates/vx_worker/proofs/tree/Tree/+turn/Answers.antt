use Rattle.vx_worker.proofs.Frames.{turned_left, turned_right}
use Rattle.vx_worker.specs.Wishes.{tree_want}
use Rattle.vx_worker.proofs.TreeCosts.{one-pays, left-pays, right-pays}
use Rattle.vx_worker.proofs.TypedTrees.{typed_one, typed_left, typed_right}
use Rattle.vx_worker.proofs.tree.Tree.+turn.Goals as goal

pub returns-in-Left-wants-clause-stands : goal.returns-in-Left-wants-clause-stands
returns-in-Left-wants-clause-stands g t c =
    let below = rw c.deref_mut-in-Left-wants.ensures.value at c.turn-input-in-Left-wants.ensures.stands in
    rw c.in-Two.is (λ low high r out n h. turned_left g.O.Source.Stands g.O.Source.want c.in-Two.op c.turn-in-Left-wants.new.self
    c.in-Two.left.value c.in-Two.right.value c.turn-input-in-Left-wants.new.self c.args.got
    c.turn-input-in-Left-wants.result c.turn-in-Left-wants.result c.in-Left-wants.ensures.want below
    c.turn-in-Left-wants.ensures.stands low n.0 high r out n.1 n.2 h.0 h.1 h.2 h.3 h.4)

pub returns-in-Right-clause-stands : goal.returns-in-Right-clause-stands
returns-in-Right-clause-stands g t c =
    let below = rw c.deref_mut-in-Right.ensures.value at c.turn-input-in-Right.ensures.stands in
    rw c.in-Two.is (λ low high r out n h. turned_right g.O.Source.Stands g.O.Source.want c.in-Two.op c.turn-in-Right.new.self
    c.in-Two.left.value c.in-Two.right.value c.turn-input-in-Right.new.self c.args.got
    c.turn-input-in-Right.result c.turn-in-Right.result c.in-Right.ensures.want below
    c.turn-in-Right.ensures.stands low n.0 high r out n.1 n.2 h.0 h.1 h.2 h.3 h.4)

pub returns-in-Left-clause-typed : goal.returns-in-Left-clause-typed
returns-in-Left-clause-typed g t c =
    let below = rw c.deref_mut.ensures.value at c.turn-input.ensures.typed in
    let same = rw c.deref_mut.ensures.value at c.turn-input.ensures.types in
    rw c.in-One.is (λ m h. typed_one g.O.Source.types c.in-One.op c.turn-in-Left.new.self c.turn-in-Left.ensures.types c.in-One.below.value c.turn-input.new.self same below m h)

pub returns-in-Left-wants-clause-typed : goal.returns-in-Left-wants-clause-typed
returns-in-Left-wants-clause-typed g t c =
    let below = rw c.deref_mut-in-Left-wants.ensures.value at c.turn-input-in-Left-wants.ensures.typed in
    let same = rw c.deref_mut-in-Left-wants.ensures.value at c.turn-input-in-Left-wants.ensures.types in
    rw c.in-Two.is (λ m h. typed_left g.O.Source.types c.in-Two.op c.turn-in-Left-wants.new.self c.turn-in-Left-wants.ensures.types
    c.in-Two.left.value c.in-Two.right.value c.turn-input-in-Left-wants.new.self same below m h)

pub returns-in-Right-clause-typed : goal.returns-in-Right-clause-typed
returns-in-Right-clause-typed g t c =
    let below = rw c.deref_mut-in-Right.ensures.value at c.turn-input-in-Right.ensures.typed in
    let same = rw c.deref_mut-in-Right.ensures.value at c.turn-input-in-Right.ensures.types in
    rw c.in-Two.is (λ m h. typed_right g.O.Source.types c.in-Two.op c.turn-in-Right.new.self c.turn-in-Right.ensures.types
    c.in-Two.left.value c.in-Two.right.value c.turn-input-in-Right.new.self same below m h)

pub returns-in-Left-clause-pays : goal.returns-in-Left-clause-pays
returns-in-Left-clause-pays g t c =
    let S = g.O.Source in
    let below = rw c.deref_mut.ensures.value at c.turn-input.ensures.pays in
    rw c.in-One.is (λ r out k f h.
    one-pays S.most S.idle g.met.O.Source.most_grows g.met.O.Source.idle_grows (S.want c.in-One.op) (tree_want S.want c.in-One.below.value) c.in-One.op c.turn-in-Left.new.self c.in-One.below.value c.turn-input.new.self
    c.args.got c.turn-input.result c.turn-in-Left.result _ k c.in-Left.ensures.want c.turn-input.ensures.gives (below r h.0.left k f.1 h.2) c.turn-in-Left.ensures.pays)

pub returns-in-Left-wants-clause-pays : goal.returns-in-Left-wants-clause-pays
returns-in-Left-wants-clause-pays g t c =
    let S = g.O.Source in
    let below = rw c.deref_mut-in-Left-wants.ensures.value at c.turn-input-in-Left-wants.ensures.pays in
    rw c.in-Two.is (λ r out k f h.
    left-pays S.most S.idle g.met.O.Source.most_grows g.met.O.Source.idle_grows (S.want c.in-Two.op) (tree_want S.want c.in-Two.left.value) (tree_want S.want c.in-Two.right.value) c.in-Two.op c.turn-in-Left-wants.new.self
    c.in-Two.left.value c.turn-input-in-Left-wants.new.self c.in-Two.right.value c.args.got c.turn-input-in-Left-wants.result c.turn-in-Left-wants.result _ k c.in-Left-wants.ensures.want
    c.turn-input-in-Left-wants.ensures.gives (below r h.0.left k f.1 h.2) c.turn-in-Left-wants.ensures.pays)

pub returns-in-Right-clause-pays : goal.returns-in-Right-clause-pays
returns-in-Right-clause-pays g t c =
    let S = g.O.Source in
    let below = rw c.deref_mut-in-Right.ensures.value at c.turn-input-in-Right.ensures.pays in
    rw c.in-Two.is (λ r out k f h.
    right-pays S.most S.idle g.met.O.Source.most_grows g.met.O.Source.idle_grows (S.want c.in-Two.op) (tree_want S.want c.in-Two.left.value) (tree_want S.want c.in-Two.right.value) c.in-Two.op c.turn-in-Right.new.self
    c.in-Two.left.value c.in-Two.right.value c.turn-input-in-Right.new.self c.args.got c.turn-input-in-Right.result c.turn-in-Right.result _ k c.in-Right.ensures.want
    c.turn-input-in-Right.ensures.gives (below r h.0.right k f.2 h.3) c.turn-in-Right.ensures.pays)
