-- What the spans of a plan say of its nodes and workers is what recursion on the plan says.
use Rattle.std.proofs.Common.{ℕ, ◌≡◌, ◌+◌, true, false, ◌∷◌, ◌++◌, length, map, flat_map, refl, ap, ◌∙◌}
use Rattle.std.proofs.lemmas.List.{map-append}
use Rattle.std.proofs.lemmas.List.Concat.{flat_map-append}
use Rattle.vx_rows.specs.Lists.{each_below}
use Rattle.vx_plan_nodes.specs.Plan.{Plan, scan, unary, binary, exchange, size, target}
use Rattle.vx_plan_nodes.specs.Streams.{workers}
use Rattle.vx_plan_nodes.specs.Workers.{workers_below}
use Rattle.vx_exec_layout.specs.Layout.{spans_of}
use Rattle.vx_worker.specs.Fragment.{RunModel}
use Rattle.vx_worker.specs.Morsels.{morsel_count}
use Rattle.vx_exec_steps.specs.Crews.{stations_of, sends_below, queues_below}
use Rattle.vx_exec_steps.specs.Queues.{open_line}
use Rattle.vx_exec_steps.specs.declared.station.Station.TheVariants.{Inner, Exchange}
use Rattle.vx_exec.specs.Links.{station_in, sends_in, queues_in}

module _ (S : RunModel) where
  -- how many morsels a relation has
  abbrev pub morsels : ℕ → ℕ
  morsels r = morsel_count S.morsel (length (S.db r))

  pub stations-by-spans : (p : Plan) (top next : ℕ) → map (station_in morsels) (spans_of S.sizes p top next) ≡ stations_of S p top next
  stations-by-spans (scan n c r true z) top next = refl
  stations-by-spans (scan n c r false z) top next = refl
  stations-by-spans (unary n c op p) top next = ap (λ z. Inner ∷ z) (stations-by-spans p top next)
  stations-by-spans (binary n c op p q) top next =
      let last = next + workers_below S.sizes p in
      ap (λ z. Inner ∷ z)
      (map-append (station_in morsels) (spans_of S.sizes p top next) (spans_of S.sizes q top last) ∙ λ i. stations-by-spans p top next i ++ stations-by-spans q top last i)
  stations-by-spans (exchange n c k m p) top next = ap (λ z. Exchange next top ∷ z) (stations-by-spans p next (next + workers S.sizes (size p)))

  pub sends-by-spans : (p : Plan) (top next : ℕ) → flat_map sends_in (spans_of S.sizes p top next) ≡ sends_below S p
  sends-by-spans (scan n c r m z) top next = refl
  sends-by-spans (unary n c op p) top next = sends-by-spans p top next
  sends-by-spans (binary n c op p q) top next =
      let last = next + workers_below S.sizes p in
      flat_map-append sends_in (spans_of S.sizes p top next) (spans_of S.sizes q top last) ∙ λ i. sends-by-spans p top next i ++ sends-by-spans q top last i
  sends-by-spans (exchange n c k m p) top next =
      ap (λ z. each_below (workers S.sizes (size p)) (λ _. n) ++ z) (sends-by-spans p next (next + workers S.sizes (size p)))

  pub queues-by-spans : (p : Plan) (top next : ℕ) → flat_map queues_in (spans_of S.sizes p top next) ≡ queues_below S p
  queues-by-spans (scan n c r m z) top next = refl
  queues-by-spans (unary n c op p) top next = queues-by-spans p top next
  queues-by-spans (binary n c op p q) top next =
      let last = next + workers_below S.sizes p in
      flat_map-append queues_in (spans_of S.sizes p top next) (spans_of S.sizes q top last) ∙ λ i. queues-by-spans p top next i ++ queues-by-spans q top last i
  queues-by-spans (exchange n c k m p) top next =
      ap (λ z. each_below (workers S.sizes (size p)) (λ _. each_below (workers S.sizes (target k)) (λ _. open_line)) ++ z)
      (queues-by-spans p next (next + workers S.sizes (size p)))
