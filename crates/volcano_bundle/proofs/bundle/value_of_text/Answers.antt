use Rattle.std.proofs.Common.{rules}
use Rattle.volcano_bundle.proofs.TextFacts.{text_is, no_text}
use Rattle.volcano_bundle.proofs.bundle.value_of_text.Goals as goal

pub returns-in-Ok : goal.returns-in-Ok
returns-in-Ok c = text_is _ _ c.in-Ok.ensures.ok.0 c.in-Ok.ensures.ok.1

pub returns-in-Err-2 : goal.returns-in-Err-2
returns-in-Err-2 c = no_text c.args.bytes.now (c.in-Err.ensures.err (λ m. let h = rw c.if-is_memory.false at (c.is_memory.ensures.1 m) in search rules))
