use Rattle.vx_exec_spawn.proofs.crew.fn.run_from.scope+FnOnce.call_once.Goals as goal

-- what crosses threads may cross them, as the caller of the scope was asked for
pub scope-requires : goal.scope-requires
scope-requires g c =
    let b = c.requires.1.1.1.1.1.1.1.1 in (
      record { owned = b.0.owned; leaving = b.0.leaving },
      (
        record { owned = b.1.owned; leaving = b.1.leaving },
        (
          record { shared = b.2.shared },
          (
            record { shared = b.3.shared },
            (
              record { shared = b.4.shared },
              (record { shared = b.5.shared }, c.requires.1.1.1.1.1.1.1.0),
            ),
          ),
        ),
      ),
    )
