-- What the nodes of a plan share between workers.
use Rattle.std.specs.Prelude.{ℕ, ◌≡◌, Option, None}
use Rattle.vx_exec_steps.specs.Scans.{SharedDraws, WholeDraws}
use Rattle.vx_exec_steps.specs.declared.station.Station.{Station}
use Rattle.vx_exec_steps.specs.declared.station.Station.TheVariants.{Inner, Exchange, Shared, Whole}

-- what a draw by a worker does at a node
abbrev pub StationDraws : Station → (worker : ℕ) → Option ℕ → Station → Type 0
StationDraws Inner worker n b = (n ≡ None) × (b ≡ Inner)
StationDraws (Exchange below above) worker n b = (n ≡ None) × (b ≡ Exchange below above)
StationDraws (Shared s) worker n (Shared t) = SharedDraws s worker n t
StationDraws (Shared s) worker n b = ⊥
StationDraws (Whole s) worker n (Whole t) = WholeDraws s worker n t
StationDraws (Whole s) worker n b = ⊥
