-- The names of the forms of statistics.
use Rattle.std.specs.Prelude.{ℕ, List, Option, Some, None, bytes_eq, codes, if◌then◌else◌}
use Rattle.volcano_stats.specs.declared.text.StatsForm.{StatsForm}
use Rattle.volcano_stats.specs.declared.text.StatsForm.TheVariants as form

-- the form that a word asks for, of which `none` asks for none; nothing where it is no such word
abbrev pub stats_named : List ℕ → Option (Option StatsForm)
stats_named word =
    if bytes_eq word (codes "none") then Some None
    else if bytes_eq word (codes "table") then Some (Some form.Table)
    else if bytes_eq word (codes "json") then Some (Some form.Json)
    else None
