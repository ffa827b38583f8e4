use Rattle.std.proofs.Common.{◌≡◌, ◌<◌, length, get_or, [], sym, ◌∙◌, arith}
use Rattle.vx_catalog_finding.proofs.RelationFacts.{keys_differ, keys_more}
use Rattle.vx_catalog_finding.proofs.relation.has_keys.Goals as goal

pub returns-then-not-are_same_columns : goal.returns-then-not-are_same_columns
returns-then-not-are_same_columns c = (
  λ e. cc,
  λ e. absurd
      (keys_differ c.args.relation.now.keys c.args.keys.now c.loop-i.i c.index-keys-i.result (omega arith) c.index-keys-i.is
      (λ same. let yes = c.are_same_columns.ensures.1 (c.key.ensures ∙ (same ∙ sym c.as_slice.ensures.value)) in cc) e),
)

pub loop-i-preserved : goal.loop-i-preserved
loop-i-preserved c =
    let within : c.loop-i.i < length c.args.keys.now = omega arith in
    let same : get_or c.args.relation.now.keys c.loop-i.i [] ≡ c.index-keys-i.result.items =
    sym c.key.ensures ∙ (c.are_same_columns.ensures.0 c.if-not-are_same_columns.false ∙ c.as_slice.ensures.value) in (
      c.loop-i.invariant.0,
      keys_more c.args.relation.now.keys c.args.keys.now c.loop-i.i c.index-keys-i.result (omega (arith, within, c.loop-i.invariant.0)) within c.index-keys-i.is same c.loop-i.invariant.1,
    )
