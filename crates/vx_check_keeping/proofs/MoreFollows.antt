-- Orders at the nodes of two plans of the same operators.
use Rattle.std.proofs.Common.{◌≡◌, ℕ, true, sym, subst, arith}
use Rattle.vx_catalog_relations.specs.Relation.{Relation}
use Rattle.vx_catalog_relations.specs.Catalog.{relation_at}
use Rattle.vx_plan_nodes.specs.Plan.{Plan}
use Rattle.vx_plan_nodes.specs.Types.{width, well_formed}
use Rattle.vx_plan_facts.specs.Equal.{Equality, equal_at}
use Rattle.vx_plan_facts.specs.Determined.{Columns, determined}
use Rattle.vx_plan_facts.specs.DeterminedFacts.{WithinFirst}
use Rattle.vx_check_keeping.specs.Laws.{OrdersFollow}
use Rattle.vx_check_keeping.proofs.EqualLaws.{equal-is}
use Rattle.vx_check_keeping.proofs.SameFacts.{same-facts}
use Rattle.vx_check_keeping.proofs.NodeFacts.{formed-over, closes-at}
use Rattle.vx_check_keeping.proofs.MoreDetermined.{more-determined}
use Rattle.vx_check_keeping.proofs.OrdersFollow.{Larger, follows-more, follows-joins}

-- a node under another plan's keys, which say more
pub larger-at : (catalog : ℕ → Relation) (e f : Plan) → well_formed catalog e ≡ true → well_formed catalog f ≡ true → width catalog f ≡ width catalog e → equal_at catalog f ≡ equal_at catalog e
    → ((s : Columns) → WithinFirst (width catalog e) (determined catalog e s) (determined catalog f s))
    → Larger (width catalog e) (width catalog f) (equal_at catalog e) (equal_at catalog f) (determined catalog e) (determined catalog f)
larger-at catalog e f formed also wide equal more = record {
  wide = omega (arith, wide);
  equal = λ a b l m h. subst (λ (x : Equality). x a b ≡ true) (sym equal) h;
  more = more;
  closes = closes-at catalog e formed;
  above = closes-at catalog f also;
}

pub orders-follow : OrdersFollow
orders-follow = record {
  more = λ catalog e f h k same keys given order l m follows.
      let is = same-facts (relation_at catalog) e f same in
      follows-more (width (relation_at catalog) e) (width (relation_at catalog) f) (equal_at (relation_at catalog) e) (equal_at (relation_at catalog) f)
      (determined (relation_at catalog) e) (determined (relation_at catalog) f)
      (larger-at (relation_at catalog) e f (formed-over catalog e h) (formed-over catalog f k) is.0 is.1 (more-determined catalog e f h k same keys)) given order l m follows;
  along = λ catalog p given mid order h k. follows-joins (equal_at catalog p) (determined catalog p) (equal-is catalog p) given mid order h k;
}
