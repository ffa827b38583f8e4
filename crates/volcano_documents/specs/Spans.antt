-- Where members and items stand in a JSON text.
use Rattle.std.specs.Prelude.{ℕ, ◌<◌, ◌≤◌, List, length, ◌==◌, ◌||◌, Bool}
use Rattle.volcano_documents.specs.declared.scan.MemberSpan.{MemberSpan}
use Rattle.volcano_documents.specs.declared.scan.ItemSpan.{ItemSpan}

-- a space, a tab, a line feed or a carriage return
abbrev pub is_blank : ℕ → Bool
is_blank b = (b == 32) || (b == 9) || (b == 10) || (b == 13)

-- a member that is found from an offset on stands within the text, and its parts in their order
abbrev pub IsMemberSpan : List ℕ → ℕ → MemberSpan → Type 0
IsMemberSpan text at m = (at ≤ m.name) × (m.name < m.name_end) × (m.name_end ≤ m.value) × (m.value < m.next) × (m.next ≤ length text)

abbrev pub IsItemSpan : List ℕ → ℕ → ItemSpan → Type 0
IsItemSpan text at i = (at ≤ i.value) × (i.value < i.next) × (i.next ≤ length text)
