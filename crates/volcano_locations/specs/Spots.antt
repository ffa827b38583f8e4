-- Where a table is at fault.
use Rattle.std.specs.Prelude.{ℕ, ◌+◌, List}
use Rattle.csv.specs.Reading.{strip_bom}
use Rattle.vx_catalog.specs.declared.fault.LoadFault.{LoadFault}
use Rattle.vx_catalog.specs.declared.fault.LoadFault.TheVariants as fault
use Rattle.volcano_locations.specs.Records.{IsRecordAt}

-- the number of the record at fault among those of the text, of which the header is the first; of two rows it is the later one
abbrev pub number_of : LoadFault → ℕ
number_of fault.HeaderMismatch = 0
number_of (fault.BadWidth row) = row + 1
number_of (fault.BadInt row col) = row + 1
number_of (fault.NotUtf8 row) = row + 1
number_of (fault.KeyBroken key first second) = second + 1
number_of (fault.OrderBroken row) = row + 1
number_of fault.ReadFailed = 0
number_of fault.NoMemory = 0
number_of fault.TooLarge = 0

-- the record of a file's text with this number begins on this line; a byte order mark is no part of the text
abbrev pub IsOnLine : List ℕ → ℕ → ℕ → Type 0
IsOnLine bytes number line = (fields : List (List ℕ)) × IsRecordAt (strip_bom bytes) number line fields
