-- Operators may go to another thread where their functions may, and several threads may read a job. `search` finds this of each part and gives up on the whole,
-- so the parts are put together here.
use denote.RattleType.{RattleType}
use denote.Param.Send.{IsSend, IsSync, struct_send, struct_sync, recorded_send, recorded_sync, enum_send, shr_sync, sendable}
use denote.Ref.{NamedLft}
use denote.Enum.Declared.{field, shape as variants}
use denote.Struct.Declared.{shape}
use Rattle.std.proofs.Crossing.{crosses}
use Rattle.std.proofs.alloc.Global.TheSendSync as global
use Rattle.std.proofs.string.String.TheSendSync as string
use Rattle.std.proofs.vec.Vec.TheSendSync as vec
use Rattle.vx_rows_values.proofs.range.NamedRange.TheSendSync as range
use Rattle.vx_catalog_relations.proofs.catalog.Catalog.TheSendSync as catalog
use Rattle.vx_plan_nodes.specs.declared.functions.PlanFunctions.{Ghosts}
use Rattle.vx_plan_nodes.specs.contracts.typed.Filter as Filter
use Rattle.vx_plan_nodes.specs.contracts.typed.Entry as Entry
use Rattle.vx_plan_nodes.specs.contracts.typed.TypedNode as TypedNode
use Rattle.vx_plan_nodes.specs.contracts.typed_plan.TypedPlan as TypedPlan
use Rattle.vx_plan_nodes.proofs.typed.Expression.TheLaws.TheKnot as expression
use Rattle.vx_plan_nodes.proofs.typed.TypedNode.TheLaws.TheKnot as typed_node
use Rattle.vx_ops.specs.contracts.select.Selection as Selection
use Rattle.vx_ops.specs.contracts.project.Projection as Projection
use Rattle.vx_ops.specs.contracts.stepping.Stepping as Stepping
use Rattle.vx_ops.proofs.collecting.Collecting.TheSendSync as collecting
use Rattle.vx_ops.proofs.limit.Limiting.TheSendSync as limiting
use Rattle.vx_ops.proofs.probing.Probing.TheSendSync as probing
use Rattle.vx_ops.proofs.scan.Scan.TheSendSync as scan
use Rattle.vx_ops.proofs.sort.Sorting.TheSendSync as sorting
use Rattle.vx_ops.proofs.stepping.Stepping.TheSendSync as stepping
use Rattle.vx_ops.proofs.union.Union.TheSendSync as union
use Rattle.vx_match.proofs.distinct.FirstRows.TheSendSync as first_rows
use Rattle.vx_match.proofs.group.KeyedGroups.TheSendSync as keyed_groups
use Rattle.vx_match.proofs.hash_join.HashJoining.TheSendSync as hash_joining
use Rattle.vx_match.proofs.merge_join.MergeJoin.TheSendSync as merge_join
use Rattle.vx_match.proofs.semi_join.SemiJoining.TheSendSync as semi_joining
use Rattle.vx_exchange.proofs.receiver.Receiver.TheSendSync as receiver
use Rattle.vx_exchange_receivers.proofs.in_order.InOrderReceiver.TheSendSync as in_order
use Rattle.vx_exchange_receivers.proofs.merge_receiver.MergeReceiver.TheSendSync as merge_receiver
use Rattle.vx_exec_operators.specs.contracts.kind.OperatorKind as OperatorKind
use Rattle.vx_exec_operators.specs.contracts.operator.Operator as Operator
use Rattle.vx_catalog.proofs.database.Database.TheSendSync as database
use Rattle.vx_exec_layout.proofs.layout.Layout.TheSendSync as layout
use Rattle.vx_exec.specs.contracts.job.Job as Job
use Rattle.vx_catalog.specs.contracts.database.Database as Database

filter : IsSend Filter.the_row
filter = search (crosses, expression.crosses_both, sendable) depth 60 fits 20000

entry : IsSend Entry.the_row
entry = search (crosses, expression.crosses_both, sendable) depth 60 fits 20000

selection : (F : RattleType) (g : Ghosts F.Denot) → IsSend F → IsSend (Selection.the_row F g)
selection F g functions =
    recorded_send (Selection.the_field F g).row _ _ (Selection.the_type F g).to_one
    (struct_send (shape (Selection.the_type F g)) (global.the_field_send, (functions, (search (crosses, filter, sendable) depth 60 fits 20000, (search (crosses, sendable) depth 60 fits 20000, tt)))))

projection : (F : RattleType) (g : Ghosts F.Denot) → IsSend F → IsSend (Projection.the_row F g)
projection F g functions =
    recorded_send (Projection.the_field F g).row _ _ (Projection.the_type F g).to_one
    (struct_send (shape (Projection.the_type F g)) (global.the_field_send, (functions, (search (crosses, entry, sendable) depth 60 fits 20000, (search (crosses, sendable) depth 60 fits 20000, tt)))))

select : (F : RattleType) (g : Ghosts F.Denot) → IsSend F → IsSend (Stepping.the_field (Selection.the_row F g)).row
select F g functions = stepping.the_field_send (Selection.the_row F g) (selection F g functions)

project : (F : RattleType) (g : Ghosts F.Denot) → IsSend F → IsSend (Stepping.the_field (Projection.the_row F g)).row
project F g functions = stepping.the_field_send (Projection.the_row F g) (projection F g functions)

kind : (F : RattleType) (g : Ghosts F.Denot) → IsSend F → IsSend (field (OperatorKind.the_type F g)).row
kind F g functions =
    enum_send (variants (OperatorKind.the_type F g)) (
      (scan.the_field_send, tt),
      (
        (select F g functions, tt),
        (
          (project F g functions, tt),
          search (
            receiver.the_field_send,
            in_order.the_field_send,
            merge_receiver.the_field_send,
            first_rows.the_send,
            keyed_groups.the_send,
            hash_joining.the_send,
            merge_join.the_field_send,
            semi_joining.the_send,
            collecting.the_field_send,
            limiting.the_send,
            probing.the_send,
            sorting.the_send,
            stepping.the_field_send,
            union.the_field_send,
            crosses,
            sendable,
          ) depth 60 fits 20000,
        ),
      ),
    )

-- an operator, where its functions may
pub operator : (F : RattleType) (g : Ghosts F.Denot) → IsSend F → IsSend (Operator.the_row F g)
operator F g functions =
    recorded_send (Operator.the_field F g).row _ _ (Operator.the_type F g).to_one
    (struct_send (shape (Operator.the_type F g)) (search (crosses, sendable) depth 60 fits 20000, (kind F g functions, (search (crosses, sendable) depth 60 fits 20000, tt))))

node : IsSync (field TypedNode.the_type).row
node = search (crosses, expression.crosses, typed_node.crosses, sendable) depth 60 fits 20000

plan : IsSync TypedPlan.the_row
plan = search (node, string.the_field_sync, string.the_sync, vec.the_sync, global.the_sync, catalog.the_sync, range.the_sync, crosses, sendable) depth 60 fits 20000

-- several threads may read a job, where they may read its functions
pub job : (κ : NamedLft) (F : RattleType) → IsSync F → IsSync (Job.the_row κ F)
job κ F functions =
    recorded_sync (Job.the_field κ F).row _ _ (Job.the_type κ F).to_one
    (struct_sync (shape (Job.the_type κ F)) (
      global.the_field_sync,
      (functions, (shr_sync _ _ TypedPlan.the_row plan, (layout.the_field_sync, (shr_sync _ _ Database.the_row database.the_sync, search sendable)))),
    ))
