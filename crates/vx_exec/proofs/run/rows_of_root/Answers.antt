use Rattle.std.proofs.Common.{sym, ap, ◌∙◌}
use Rattle.vx_exec_operators.specs.Destination.{post_of}
use Rattle.vx_worker.specs.Worker.{sender_of}
use Rattle.vx_exec.proofs.Posts.{sender-keeps-not}
use Rattle.vx_exec.proofs.run.rows_of_root.Goals as goal

pub unreachable-requires : goal.unreachable-requires
unreachable-requires g c =
    let k = c.requires.keeps c.swap_remove-root.result in
    sender-keeps-not c.in-Send.field-0 k.0
    (ap post_of (sym c.in-Send.is ∙ c.into_sender.ensures) ∙ ap (λ w. post_of (sender_of w)) c.swap_remove-root.ensures.value ∙ k.1)
