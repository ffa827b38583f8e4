-- The headline at the root: the serial rows, and their list where a total order is claimed.
use Rattle.std.proofs.Common.{◌≡◌, Bool, true, false, not, ◌||◌, sym, true≢false}
use Rattle.vx_plan_nodes.specs.Plan.{claim, size, is_one}
use Rattle.vx_plan_nodes.specs.Streams.{workers}
use Rattle.vx_check_rules.specs.Rules.{is_total_order}
use Rattle.vx_exec_laws.specs.Sound.{SoundAtRoot}
use Rattle.vx_exec_laws.proofs.Bags.{and-left, and-right}
use Rattle.vx_exec_laws.proofs.Parts.{one-worker}
use Rattle.vx_exec_laws.proofs.FirstRows.{order-tells, one-list}
use Rattle.vx_exec_laws.proofs.Erased.{erased-rows}
use Rattle.vx_exec_laws.proofs.OneInput.{close}
use Rattle.vx_exec_laws.proofs.Frame.{all-hold}
use Rattle.vx_exec_laws.proofs.WellFormed.{well-phased}

pub sound-at-root : SoundAtRoot
sound-at-root catalog db sizes goes given is_total p s wf shut ok root run =
    let h = close catalog db sizes goes given p s (well-phased catalog p wf) shut (all-hold catalog db sizes goes given p s wf ok run) in
    let tail : Bool = not is_total || is_total_order catalog p in
    let one_size : is_one (size p) ≡ true = and-left (is_one (size p)) tail root in
    let had = one-list goes given.in_range (claim p) (workers sizes (size p)) s h.base (one-worker sizes (size p) one_size) h.holds in
    record {
      base = h.base;
      is_serial = erased-rows catalog db 0 p h.base wf h.is_serial;
      same = had.0;
      list = λ t. had.1 (order-tells catalog db given.meets p h.base wf h.is_serial h.holds.keys
          (claimed is_total (is_total_order catalog p) t (and-right (is_one (size p)) tail root)));
    }
  where
    claimed : (t o : Bool) → t ≡ true → (not t || o) ≡ true → o ≡ true
    claimed true o e h = h
    claimed false o e h = absurd (true≢false (sym e))
