use Rattle.std.proofs.Common.{ℕ, map, refl}
use Rattle.vx_exec_parallel.specs.Places.{place_in}
use Rattle.vx_exec.proofs.Each.{each-begun, each-mapped}
use Rattle.vx_exec_parallel.proofs.places.add_places.Goals as goal

pub loop-place-init : goal.loop-place-init
loop-place-init c = each-begun (λ (i : ℕ). (c.args.fragment, i)) (map place_in c.args.places.now.items)

pub loop-place-preserved : goal.loop-place-preserved
loop-place-preserved c =
    each-mapped place_in (λ (i : ℕ). (c.args.fragment, i)) c.loop-place.place (map place_in c.args.places.now.items) c.loop-place.places.items c.push.new.self.items
    (record { fragment = c.args.fragment; place = c.loop-place.place }) c.in_ok-push.ensures.items refl c.loop-place.invariant
