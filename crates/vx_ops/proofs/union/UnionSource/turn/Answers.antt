use Rattle.std.proofs.Common.{◌≡◌, ◌∙◌, ap, sym, subst, le_refl}
use Rattle.vx_ops.specs.Turn.{after, while_running, with_rows}
use Rattle.vx_ops.specs.Union.{IsUnited, input_wanted, union_want, union_idle, union-grows}
use Rattle.vx_ops.specs.declared.fault.StreamState.{StreamState}
use Rattle.vx_ops.specs.declared.fault.StreamState.TheVariants.{Running}
use Rattle.vx_ops.specs.declared.turn.Got.{Got}
use Rattle.vx_ops.specs.declared.turn.Got.TheVariants as got
use Rattle.vx_ops.specs.declared.turn.Polled.TheVariants as polled
use Rattle.vx_ops.proofs.Costs.{pays-within, rows-more}
use Rattle.vx_ops.proofs.Unions.{union-rows}
use Rattle.vx_ops.proofs.union.UnionSource.turn.Goals as goal

pub returns-in-Input-Gave-clause-stands : goal.returns-in-Input-Gave-clause-stands
returns-in-Input-Gave-clause-stands c l h =
    let s = c.args.self.now in
    let t = c.in-Input-Gave.batch in
    let is : c.args.got ≡ got.Input (polled.Gave t) = c.in-Input-Gave.is ∙ ap got.Input c.in-Input-Gave.field-0-is in
    let P : StreamState → Type 0 = λ o. IsUnited s.node s.left_ended o l in
    let Q : StreamState → Type 0 = λ o. IsUnited s.node s.left_ended o (after l (while_running (input_wanted s.left_ended) o) c.args.got (polled.Gave t)) in
    let R : Got → Type 0 = λ q. IsUnited s.node s.left_ended Running (after l (input_wanted s.left_ended) q (polled.Gave t)) in
    subst Q (sym c.in-Running.is) (subst R (sym is) (union-rows s.node s.left_ended l t (subst P c.in-Running.is h)))

pub returns-in-Input-End-clause-pays : goal.returns-in-Input-End-clause-pays
returns-in-Input-End-clause-pays c k =
    let s = c.args.self.now in
    let is : c.args.got ≡ got.Input polled.End = c.in-Input-End.is ∙ ap got.Input c.in-Input-End.field-0-is in
    rw is
    (pays-within 1 1 _ _ _ _ _ _ c.end_input.result (le_refl 1) (union-grows k (with_rows (union_want s) (got.Input polled.End) k) (rows-more (union_want s) (got.Input polled.End) k)) (le_refl (union_idle s.left_ended))
    (c.end_input.ensures.pays k))
