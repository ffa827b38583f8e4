-- What is counted of a relation's text, and what its line says.
use Rattle.std.specs.Prelude.{◌≡◌, ℕ, ◌==◌, Bool, false, List, [], ◌++◌, if◌then◌else◌, length, count_by}
use Rattle.volcano_progress.specs.Due.{counted}
use Rattle.volcano_progress.specs.Text.{start, erased, shown_text}
use Rattle.volcano_progress.specs.declared.progress.Progress.{Progress}

-- a byte ends a line
abbrev pub is_feed : ℕ → Bool
is_feed b = b == 10

-- the bytes were counted, and the lines that end within them
pub record IsCounted (old new : Progress) (chunk : List ℕ) : Type 0 where
  pub bytes : new.bytes ≡ counted old.bytes (length chunk)
  pub lines : new.lines ≡ counted old.lines (count_by is_feed chunk)
  pub name : new.name ≡ old.name
  pub size : new.size ≡ old.size

-- nothing was counted, and no line is shown
pub record IsUnread (p : Progress) : Type 0 where
  pub bytes : p.bytes ≡ 0
  pub lines : p.lines ≡ 0
  pub hidden : p.is_shown ≡ false

-- nothing else was counted
pub record IsSameCount (old new : Progress) : Type 0 where
  pub bytes : new.bytes ≡ old.bytes
  pub lines : new.lines ≡ old.lines
  pub name : new.name ≡ old.name
  pub size : new.size ≡ old.size

-- what is written of what has been read
abbrev pub progress_text : Progress → List ℕ
progress_text p = shown_text p.name.items p.size p.bytes p.lines

-- what is written so that no line is shown, where one is or is not
abbrev pub ending_text : Bool → List ℕ
ending_text is_shown = if is_shown then start ++ erased else []
