-- A text in blocks.
use Rattle.std.specs.Prelude.{ℕ, List}

-- what a caller sees of it: its bytes
pub record TextView : Type 0 where
  pub items : List ℕ
