-- What is known of a source from simpler facts.
use Rattle.std.proofs.Common.{◌≡◌, List, [], ◌++◌, append-nil}
use Rattle.vx_rows_values.specs.Values.{Row}
use Rattle.vx_ports.specs.Packets.{rows_of}
use Rattle.vx_ops.specs.Ledger.{Ledger, Op, Makes, Begins, Begun}
use Rattle.vx_rows.specs.Lists.{IsBeginning}

pub all_of : {X : Type 0} (xs : List X) → IsBeginning xs xs
all_of xs = record { rest = []; joined = append-nil xs }

-- what was returned is all that the operator makes of what it received so far
pub begun_whole : (op : Op) (l : Ledger) → Makes op l l.gave.rows → Begun op l
begun_whole op l m = record {
  inputs = l;
  begins = record { left = all_of l.left.rows; right = all_of l.right.rows; came = λ i. all_of (rows_of (l.came i)) };
  whole = l.gave.rows;
  makes = m;
  gave = all_of l.gave.rows;
}

-- nothing was returned, and the operator makes something of some prefixes of what it received
pub begun_nothing : (op : Op) (l k : Ledger) (whole : List Row) → Begins k l → Makes op k whole → l.gave.rows ≡ [] → Begun op l
begun_nothing op l k whole b m e = record {
  inputs = k;
  begins = b;
  whole = whole;
  makes = m;
  gave = record { rest = whole; joined = Rattle.std.proofs.Common.ap (λ xs. xs ++ whole) e };
}
