-- How far a run has come, and what its line says.
use Rattle.std.specs.Prelude.{◌≡◌, ℕ, ◌-◌, ◌/◌, false, List}
use Rattle.volcano_progress.specs.Due.{first_due}
use Rattle.volcano_progress.specs.Text.{shown_run_text}
use Rattle.volcano_progress.specs.declared.run_progress.RunProgress.{RunProgress}

-- how many whole seconds have passed since a run began, where times are in milliseconds
abbrev pub seconds_since : ℕ → ℕ → ℕ
seconds_since began now = (now - began) / 1_000

-- it has just begun, in a command that began at another time: its root has given no row, and no line is shown
pub record IsBegun (r : RunProgress) (command now : ℕ) : Type 0 where
  pub began : r.began ≡ now
  pub rows : r.rows ≡ 0
  pub due : r.due ≡ first_due command now
  pub hidden : r.is_shown ≡ false

-- it is the same run, which has come as far
pub record IsSameRun (old new : RunProgress) : Type 0 where
  pub name : new.name ≡ old.name
  pub began : new.began ≡ old.began
  pub rows : new.rows ≡ old.rows

-- it is the same run, with so many rows
pub record HasGoneOn (old : RunProgress) (rows : ℕ) (new : RunProgress) : Type 0 where
  pub name : new.name ≡ old.name
  pub began : new.began ≡ old.began
  pub reached : new.rows ≡ rows

-- what is written of a run at a time
abbrev pub run_text : RunProgress → ℕ → List ℕ
run_text r now = shown_run_text r.name.items r.rows (seconds_since r.began now)
