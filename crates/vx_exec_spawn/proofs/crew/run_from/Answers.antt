use mir.Syntax.{of_param}
use denote.Exit.{unseen}
use denote.Param.Send.{Quiet-if}
use Rattle.vx_exec_spawn.proofs.crew.run_from.Goals as goal

-- the closure is asked for what its caller was asked for; and what crosses threads may cross them
pub scoped-requires : goal.scoped-requires
scoped-requires g c =
    let b = c.type_bounds in
    record {
      at = λ a. (
        c.requires,
        (
          record { owned = b.send-O.owned; leaving = λ k. Quiet-if (k (of_param 0)) unseen unseen (λ x w. tt) (λ x w. tt) },
          record { owned = b.send-S.owned; leaving = λ k. Quiet-if (k (of_param 1)) unseen unseen (λ x w. tt) (λ x w. tt) },
          record { shared = b.sync-G.shared },
          record { shared = b.sync-R.shared },
          record { shared = b.sync-H.shared },
          record { shared = b.sync-T.shared },
        ),
      );
    }
