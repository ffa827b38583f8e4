-- Each kind of operator stands as the source that it is.
use Rattle.std.specs.Prelude.{ℕ, ◌≤◌}
use Rattle.std.proofs.Common.{le_refl}
use Rattle.vx_plan_nodes.specs.declared.functions.PlanFunctions.{Ghosts}
use Rattle.vx_ops.specs.Ledger.{Ledger, Op, Abides}
use Rattle.vx_ops.specs.Turn.{Shape, Coming, IsWithin}
use Rattle.vx_ops.specs.Meaning.{Meaning}
use Rattle.vx_ops.specs.Scan.{scan_meaning}
use Rattle.vx_ops.specs.Select.{select_meaning}
use Rattle.vx_ops.specs.Project.{project_meaning}
use Rattle.vx_match.specs.Distinct.{distinct_meaning}
use Rattle.vx_ops.specs.Sort.{sort_meaning}
use Rattle.vx_ops.specs.Limit.{limit_meaning}
use Rattle.vx_ops.specs.Union.{union_meaning}
use Rattle.vx_match.specs.Group.{group_meaning}
use Rattle.vx_match.specs.HashJoin.{hash_join_meaning}
use Rattle.vx_match.specs.MergeJoin.{merge_join_meaning}
use Rattle.vx_match.specs.SemiJoin.{semi_join_meaning}
use Rattle.vx_ops.specs.declared.turn.Want.{Want}
use Rattle.vx_exchange.specs.Receiver.{ReceiverStands, receiver_op, receiver_types, receiver_want, receiver_most, receiver_abides, receiver-grows}
use Rattle.vx_exchange.specs.declared.receiver.Receiver.{Receiver}
use Rattle.vx_exchange_receivers.specs.InOrder.{in_order_meaning}
use Rattle.vx_exchange_receivers.specs.MergeReceiver.{merge_receiver_meaning}
use Rattle.vx_exec_operators.specs.declared.kind.OperatorKind.{OperatorKind}
use Rattle.vx_exec_operators.specs.declared.kind.OperatorKind.TheVariants as kind

abbrev pub receiver_meaning : Receiver → Meaning
receiver_meaning s = record {
  stands = ReceiverStands s;
  op = receiver_op s;
  types = receiver_types s;
  want = receiver_want s;
  most = receiver_most s;
  idle = λ c. 0;
  abides = receiver_abides s;
  most_grows = receiver-grows s;
  idle_grows = λ a b h. le_refl 0;
}

-- what each kind of operator says of itself, where these are the functions by which it computes
abbrev pub kind_meaning : {F : Type 0} (given : Ghosts F) → OperatorKind F given → Meaning
kind_meaning given (kind.Scan s) = scan_meaning s
kind_meaning given (kind.Select s) = select_meaning given s
kind_meaning given (kind.Project s) = project_meaning given s
kind_meaning given (kind.Distinct s) = distinct_meaning s
kind_meaning given (kind.Sort s) = sort_meaning s
kind_meaning given (kind.Group s) = group_meaning s
kind_meaning given (kind.Limit s) = limit_meaning s
kind_meaning given (kind.Union s) = union_meaning s
kind_meaning given (kind.HashJoin s) = hash_join_meaning s
kind_meaning given (kind.MergeJoin s) = merge_join_meaning s
kind_meaning given (kind.SemiJoin s) = semi_join_meaning s
kind_meaning given (kind.Receiver s) = receiver_meaning s
kind_meaning given (kind.InOrder s) = in_order_meaning s
kind_meaning given (kind.Merge s) = merge_receiver_meaning s

abbrev pub KindStands : {F : Type 0} (given : Ghosts F) → OperatorKind F given → Ledger → Type 0
KindStands given s l = (kind_meaning given s).stands l

abbrev pub kind_op : {F : Type 0} (given : Ghosts F) → OperatorKind F given → Op
kind_op given s = (kind_meaning given s).op

abbrev pub kind_types : {F : Type 0} (given : Ghosts F) → OperatorKind F given → Shape
kind_types given s = (kind_meaning given s).types

abbrev pub kind_want : {F : Type 0} (given : Ghosts F) → OperatorKind F given → Want
kind_want given s = (kind_meaning given s).want

abbrev pub kind_most : {F : Type 0} (given : Ghosts F) → OperatorKind F given → Coming → ℕ
kind_most given s c = (kind_meaning given s).most c

abbrev pub kind_idle : {F : Type 0} (given : Ghosts F) → OperatorKind F given → Coming → ℕ
kind_idle given s c = (kind_meaning given s).idle c

-- what is known of it
pub kind_abides : {F : Type 0} {given : Ghosts F} (s : OperatorKind F given) (l : Ledger) → KindStands given s l → Abides (kind_op given s) l
kind_abides {F} {given} s l h = (kind_meaning given s).abides l h

pub kind-most-grows : {F : Type 0} {given : Ghosts F} (s : OperatorKind F given) (a b : Coming) → IsWithin a b → kind_most given s a ≤ kind_most given s b
kind-most-grows {F} {given} s a b h = (kind_meaning given s).most_grows a b h

pub kind-idle-grows : {F : Type 0} {given : Ghosts F} (s : OperatorKind F given) (a b : Coming) → IsWithin a b → kind_idle given s a ≤ kind_idle given s b
kind-idle-grows {F} {given} s a b h = (kind_meaning given s).idle_grows a b h
