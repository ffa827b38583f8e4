use Rattle.std.proofs.Common.{sym}
use Rattle.vx_catalog_relations.specs.Catalog.{relation_at}
use Rattle.vx_plan_nodes.specs.Outline.{plan_of}
use Rattle.vx_plan_nodes.specs.TypedView.{scope}
use Rattle.vx_plan_facts.proofs.WellTyped.{typed-well-formed}
use Rattle.vx_check_keeping.proofs.telling.does_tell.Goals as goal

pub do_nodes_tell-requires : goal.do_nodes_tell-requires
do_nodes_tell-requires c = (
  relation_at (scope c.args.plan.now).catalog,
  record {
    known = rw c.root-root.ensures.plan c.in_ok-known.ensures.known;
    formed = rw c.requires.catalog at (typed-well-formed (scope c.args.other.now) (plan_of c.root-beside.result.now) c.root-beside.ensures.typed.nodes);
    same = rw (c.root-root.ensures.plan, c.root-beside.ensures.plan) (sym c.requires.same);
  },
)

pub returns : goal.returns
returns c =
    rw (c.root-root.ensures.plan, c.root-beside.ensures.plan) at (c.do_nodes_tell.ensures.tell (relation_at (scope c.args.plan.now).catalog) (record {
      known = rw c.root-root.ensures.plan c.in_ok-known.ensures.known;
      formed = rw c.requires.catalog at (typed-well-formed (scope c.args.other.now) (plan_of c.root-beside.result.now) c.root-beside.ensures.typed.nodes);
      same = rw (c.root-root.ensures.plan, c.root-beside.ensures.plan) (sym c.requires.same);
    }))
