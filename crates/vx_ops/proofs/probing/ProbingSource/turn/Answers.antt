use Rattle.std.proofs.Common.{rules, ◌≡◌, ◌≤◌, ◌∙◌, Some, ap, sym, subst}
use Rattle.vx_ops.specs.Turn.{after, while_running, with_rows, own_turn}
use Rattle.vx_ops.specs.Probing.{ProbingView, IsProbing, reads_next, probing_want, probing_most, probing_idle, probing-grows, probing-idle-grows}
use Rattle.vx_ops.specs.declared.fault.StreamState.{StreamState}
use Rattle.vx_ops.specs.declared.fault.StreamState.TheVariants.{Failed}
use Rattle.vx_ops.specs.declared.turn.Polled.TheVariants as polled
use Rattle.vx_ops.proofs.Costs.{pays-within, rows-more, own-few}
use Rattle.vx_ops.proofs.Probes.{still-failed}
use Rattle.vx_ops.proofs.probing.ProbingSource.turn.Goals as goal

pub returns-in-Failed-clause-stands : goal.returns-in-Failed-clause-stands
returns-in-Failed-clause-stands g c l h =
    let K = g.K.ProbeKernel in
    let s = c.args.self.now in
    let k = s.kernel in
    let f = c.in-Failed.f in
    let over : s.over ≡ Failed f = subst (λ v. v.over ≡ Failed f) c.self.view_is c.in-Failed.is in
    let P : StreamState → Type 0 = λ o. IsProbing s.node (K.binary k) (K.HasRead k) (K.HasBuilt k) s.ready s.rest o l in
    let Q : StreamState → Type 0 = λ o. IsProbing s.node (K.binary k) (K.HasRead k) (K.HasBuilt k) s.ready s.rest o (after l (while_running (reads_next s.ready s.rest) o) c.args.got (polled.Fault f)) in
    subst Q (sym over) (still-failed s.node (K.binary k) (g.met.K.ProbeKernel.empty k) (K.HasRead k) (K.HasBuilt k) (K.HasRead k) (K.HasBuilt k) l s.ready s.rest f c.args.got (subst P over h))

pub returns-in-Some-clause-pays : goal.returns-in-Some-clause-pays
returns-in-Some-clause-pays g c k =
    let K = g.K.ProbeKernel in
    let s = c.args.self.now in
    let i = c.self.inside in
    let r = c.in-Some.rest in
    let holds : i.rest ≡ Some r = search rules in
    let now : s ≡ record { node = i.node; kernel = i.kernel; ready = i.ready; rest = Some r; over = i.over } =
    sym c.self.view_is ∙ ap (λ z. record { node = i.node; kernel = i.kernel; ready = i.ready; rest = z; over = i.over }) holds in
    let before = with_rows (probing_want s) c.args.got k in
    let more = rows-more (probing_want s) c.args.got k in
    pays-within 1 (own_turn c.args.got) _ _ _ _ _ _ c.probe.result (own-few c.args.got)
    (subst (λ v. probing_most K.each v k ≤ probing_most K.each s before) now (probing-grows K.each s (g.met.K.ProbeKernel.each_grows s.kernel) k before more))
    (subst (λ v. probing_idle v k ≤ probing_idle s before) now (probing-idle-grows s k before more))
    (c.probe.ensures.pays k)
