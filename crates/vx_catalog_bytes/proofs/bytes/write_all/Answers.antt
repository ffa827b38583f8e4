use Rattle.std.proofs.Common.{◌∙◌, ◌++◌, take, sym, ap, List, ℕ}
use Rattle.vx_catalog_bytes.proofs.PortFacts.{appends_more, or_false, split_front}
use Rattle.vx_catalog_bytes.proofs.bytes.write_all.Goals as goal

pub loop-rest-preserved : goal.loop-rest-preserved
loop-rest-preserved g c =
    let inv = c.loop-rest.invariant in
    let split = inv.1 ∙ split_front inv.0 c.loop-rest.rest.now c.in_ok-n.n in (
      inv.0 ++ take c.in_ok-n.n c.loop-rest.rest.now,
      split ∙ ap (λ (s : List ℕ). (inv.0 ++ take c.in_ok-n.n c.loop-rest.rest.now) ++ s) (sym c.split_at.ensures.back),
      appends_more _ _ _ _ _ inv.2 c.in_ok-n.ensures.bytes,
      c.in_ok-n.ensures.fails ∙ (or_false _ ∙ inv.3),
    )
