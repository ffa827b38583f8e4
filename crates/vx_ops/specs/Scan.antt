-- When a scan may have received and returned what a ledger says.
use Rattle.std.specs.Prelude.{◌≡◌}
use Rattle.std.proofs.Common.{◌∙◌, sym, inl, le_refl}
use Rattle.vx_ops.specs.Ledger.{Ledger, scan_op, Abides}
use Rattle.vx_ops.specs.Begun.{begun_whole}
use Rattle.vx_ops.specs.Turn.{Shape, while_running}
use Rattle.vx_ops.specs.Meaning.{Meaning}
use Rattle.vx_ops.specs.declared.turn.Want.TheVariants as want
use Rattle.vx_ops.specs.declared.scan.Scan.{Scan}

-- it returned what it received, and stands as its input does
pub record ScanStands (s : Scan) (l : Ledger) : Type 0 where
  pub rows : l.gave.rows ≡ l.left.rows
  pub over : l.gave.over ≡ s.over
  pub input : l.left.over ≡ s.over

abbrev pub scan_types : Scan → Shape
scan_types s = record { left = s.types.items; right = s.types.items; out = s.types.items }

pub scan_abides : (s : Scan) (l : Ledger) → ScanStands s l → Abides scan_op l
scan_abides s l h = record {
  before = begun_whole scan_op l h.rows;
  ended = λ e. (h.input ∙ sym h.over ∙ e, h.rows);
  passes = λ f e. h.over ∙ sym h.input ∙ e;
  tests = tt;
  holds_back = tt;
  blame = λ f e. inl (h.input ∙ sym h.over ∙ e);
}

abbrev pub scan_meaning : Scan → Meaning
scan_meaning s = record {
  stands = ScanStands s;
  op = scan_op;
  types = scan_types s;
  want = while_running want.Morsel s.over;
  most = λ c. c.left;
  idle = λ c. 0;
  abides = scan_abides s;
  most_grows = λ a b h. h.left;
  idle_grows = λ a b h. le_refl 0;
}
