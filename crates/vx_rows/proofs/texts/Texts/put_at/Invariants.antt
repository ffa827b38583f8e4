use Rattle.std.proofs.Common.{◌≡◌, ◌+◌, ◌<◌, ℕ, [], length}
use Rattle.std.specs.Prelude.{slice_index, slice_index_or}
use Rattle.vx_rows.specs.Texts.{piece, AreCuts}
use Rattle.vx_rows.proofs.texts.Texts.put_at.Given as goal

abbrev pub invariant-loop-j : goal.invariant-loop-j
invariant-loop-j l = record {
  cuts : AreCuts l.self-inside.bytes.items l.self-inside.cuts.items;
  long : l.at + l.j < length l.self-inside.cuts.items;
  kept : (k : ℕ) → k < l.at → piece l.self-inside.bytes.items l.self-inside.cuts.items k ≡ piece l.initial.self-inside.bytes.items l.initial.self-inside.cuts.items k;
  moved : (k : ℕ) → k < l.j → piece l.self-inside.bytes.items l.self-inside.cuts.items (l.at + k) ≡ slice_index_or l.other (slice_index l.positions k) [];
}
