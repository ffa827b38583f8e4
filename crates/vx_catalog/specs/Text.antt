-- A writer of `csv` into memory, between two lines.
use Rattle.std.specs.Prelude.{◌≡◌, ℕ, List, Some, false}
use Rattle.std.specs.declared.alloc.Global.{Global}
use Rattle.std.specs.declared.vec.Vec.{Vec}
use Rattle.csv.specs.Writing.{default_writer, text_written, fields_written, has_written, writer_setup}
use Rattle.csv.specs.declared.writer.Writer.{Writer}

-- it writes by default, has written this text, and no part of a further line
pub record StandsAt (writer : Writer (Vec ℕ Global)) (text : List ℕ) : Type 0 where
  pub written : text_written (λ v. Some v.items) writer ≡ Some text
  pub fields : fields_written writer ≡ 0
  pub clean : has_written writer ≡ false
  pub setup : writer_setup writer ≡ default_writer
