use Rattle.std.proofs.Common.{◌∙◌, ◌++◌, sym, ap, append_assoc}
use Rattle.vx_plan_nodes.specs.Serial.{join_rows}
use Rattle.vx_match_join.proofs.PairFacts.{join-append}
use Rattle.vx_match_join.proofs.join.hash_join.Goals as goal

pub probes-preserved : goal.probes-preserved
probes-preserved c =
    let inv = c.probes.invariant in
    let p = c.in_ok-probed.probed in
    let h = c.in_ok-probed.ensures.rows in
    let same = c.in_ok-probed.ensures.same in
    record {
      build_types = ap (λ b. b.types) same ∙ inv.build_types;
      build_rows = ap (λ b. b.rows) same ∙ inv.build_rows;
      build_columns = ap (λ b. b.columns) same ∙ inv.build_columns;
      types = c.in_ok-append.ensures.types ∙ inv.types;
      rest_types = c.in_ok-probed.ensures.rest_types ∙ inv.rest_types;
      done = inv.done ++ h.0;
      parts = append_assoc inv.done h.0 p.1.rows ∙ (ap (λ rs. inv.done ++ rs) h.1 ∙ inv.parts);
      rows = λ on l r.
          c.in_ok-append.ensures.ok
          ∙ ((λ j. inv.rows on l r j ++ (h.2 on l (inv.build_columns ∙ r) ∙ ap (join_rows on h.0) inv.build_rows) j)
          ∙ sym (join-append on inv.done h.0 c.args.right.now.rows));
    }
