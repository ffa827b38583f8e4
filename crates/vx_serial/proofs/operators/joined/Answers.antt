use Rattle.std.proofs.Common.{◌∙◌, sym, subst, ℕ, List, length}
use Rattle.vx_rows.specs.View.{AreColumns}
use Rattle.vx_ops_kernels.proofs.ColumnFacts.{left-columns, right-columns}
use Rattle.vx_serial.proofs.operators.joined.Goals as goal

pub hash_join-requires-clause-left : goal.hash_join-requires-clause-left
hash_join-requires-clause-left c =
    let P : List ℕ → Type 0 = λ cols. AreColumns (length c.args.left.types) cols in
    subst P (sym (c.as_slice.ensures.value ∙ c.in_ok-left_keys.ensures)) (left-columns c.args.left.types c.args.right.now.types c.args.on.now c.requires)

pub hash_join-requires-clause-right : goal.hash_join-requires-clause-right
hash_join-requires-clause-right c =
    let P : List ℕ → Type 0 = λ cols. AreColumns (length c.args.right.now.types) cols in
    subst P (sym c.in_ok-right_keys.ensures) (right-columns c.args.left.types c.args.right.now.types c.args.on.now c.requires)
