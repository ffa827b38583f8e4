use Rattle.std.proofs.Common.{arith, ap, sym, subst, ◌∙◌, ◌≤◌, ◌-◌, ◌++◌, ℕ, List, length, drop}
use Rattle.std.specs.Io.KnownBytes.{Appends}
use Rattle.std.proofs.lemmas.List.{take_all, length-drop}
use Rattle.vx_catalog_bytes.proofs.PortFacts.{appends_more, or_false}
use Rattle.vx_wisconsin.proofs.TextFacts.{lines, lines-split}
use Rattle.vx_wisconsin.proofs.writing.write_lines.Goals as goal

pub loop-written-preserved : goal.loop-written-preserved
loop-written-preserved g c =
    let next = c.min-next.ensures in
    let wrote = c.in_ok-write_all.ensures.ok in
    let start = c.put_lines-start.result in
    let buffer = c.put_lines-start.new.buffer in
    let short : length (drop start buffer) ≤ length buffer - start = omega (arith, length-drop start buffer) in
    let all = take_all (length buffer - start) (drop start buffer) short ∙ c.put_lines-start.ensures.text in
    record {
      within = omega arith;
      room = omega arith;
      text =
          subst (λ (l : List ℕ). Appends (g.W.ByteOut.contents c.args.writer.now) (g.W.ByteOut.contents c.write_all.new.out) l)
          (ap (λ (l : List ℕ). lines c.args.rows 0 c.loop-written.written ++ l) all ∙ sym (lines-split c.args.rows c.loop-written.written c.min-next.result (omega arith)))
          (appends_more _ _ _ _ _ c.loop-written.invariant.text wrote);
      fails = c.in_ok-write_all.ensures.fails ∙ (or_false _ ∙ c.loop-written.invariant.fails);
    }
