use Rattle.std.proofs.Common.{rules, inr}
use Rattle.vx_plan_json.proofs.TextFacts.{text_is, no_text}
use Rattle.vx_plan_json.proofs.reading.read_text.Goals as goal

pub returns-in-Ok : goal.returns-in-Ok
returns-in-Ok c = rw (text_is _ _ c.in-Ok.ensures.ok.0 c.in-Ok.ensures.ok.1) c.read_document.ensures

pub returns-in-Err-2 : goal.returns-in-Err-2
returns-in-Err-2 c = inr (no_text c.args.bytes.now (c.in-Err.ensures.err (λ m. let h = rw c.if-is_memory.false at (c.is_memory.ensures.1 m) in search rules)))
