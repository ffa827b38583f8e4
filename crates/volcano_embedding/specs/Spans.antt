-- Names and texts of tables, cut out of bytes.
use Rattle.std.specs.Prelude.{◌≡◌, ◌≢◌, ℕ, ◌||◌, ◌&&◌, nat_lt, nat_le, Bool, List, [], length, slice_range, position, None, if◌then◌else◌}
use Rattle.volcano_embedding.specs.declared.spans.TableSpan.{TableSpan}
use Rattle.volcano_embedding.specs.declared.spans.SpanFault.{SpanFault}
use Rattle.volcano_embedding.specs.declared.spans.SpanFault.TheVariants as fault

-- a name or a text is not within so many bytes
abbrev pub is_outside : ℕ → TableSpan → Bool
is_outside many s = nat_lt s.name_end s.name_start || nat_lt many s.name_end || nat_lt s.text_end s.text_start || nat_lt many s.text_end

-- the bytes from a start up to an end, or none where these are not within the bytes
abbrev pub cut : List ℕ → ℕ → ℕ → List ℕ
cut bytes start end = if nat_le start end && nat_le end (length bytes) then slice_range bytes start end else []

-- the name and the text of a table
abbrev pub cut_table : List ℕ → TableSpan → List ℕ × List ℕ
cut_table bytes s = (cut bytes s.name_start s.name_end, cut bytes s.text_start s.text_end)

-- why nothing was cut: a span is not within the bytes, or memory ran out
pub data SpansFail (bytes : List ℕ) (spans : List TableSpan) (e : SpanFault) : Type 0 where
  outside : e ≡ fault.Outside → position (is_outside (length bytes)) spans ≢ None → SpansFail bytes spans e
  span_memory : e ≡ fault.NoMemory → SpansFail bytes spans e
