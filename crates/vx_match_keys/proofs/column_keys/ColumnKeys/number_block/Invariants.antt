use Rattle.std.proofs.Common.{◌≡◌, ℕ, ◌+◌, ◌<◌, ◌≤◌, map, take, length, get_or, nat_eq}
use Rattle.std.specs.Prelude.{slice_range}
use Rattle.std.specs.List.{IsDistinct}
use Rattle.vx_rows_values.specs.Values.{pick}
use Rattle.vx_match_keys.specs.Hashed.{key_hash}
use Rattle.vx_match_keys.proofs.FoundFacts.{IsRight}
use Rattle.vx_match_keys.proofs.column_keys.ColumnKeys.number_block.Given as goal

abbrev pub invariant-loop-i : goal.invariant-loop-i
invariant-loop-i l = record {
  hashed : l.self-inside.hashes.keys ≡ map (key_hash l.self-inside.seed) l.self-inside.keys.rows;
  unique : IsDistinct nat_eq l.self-inside.hashes.keys;
  seed : l.self-inside.seed ≡ l.initial.self-inside.seed;
  types : l.self-inside.keys.types ≡ l.fn.self.types;
  before : take (length l.fn.self.rows) l.self-inside.keys.rows ≡ l.fn.self.rows;
  most : length l.fn.self.rows ≤ length l.self-inside.keys.rows;
  len : length l.found ≡ length l.fn.found;
  near : (k : ℕ) → k < l.i → get_or l.found k 0 < length l.self-inside.keys.rows;
  rest : (k : ℕ) → l.i ≤ k → k < length l.fn.found → get_or l.found k 0 ≤ length l.fn.self.rows;
  right : IsRight l.fn.self.rows l.self-inside.keys.rows l.found l.i (slice_range (map (pick l.columns) l.chunk.rows) l.from (l.from + length l.fn.found));
}
