-- A bundle that was read, as its text says it.
use Rattle.std.specs.Prelude.{ℕ, List, map}
use Rattle.serde_json.specs.View.{view}
use Rattle.volcano_bundle.specs.declared.bundle.Bundle as held
use Rattle.volcano_bundle.specs.declared.bundle.NamedText.{NamedText}
use Rattle.volcano_bundle.specs.Bundle.{Bundle, bundle_of}

-- a relation's name and text
abbrev pub table_form : NamedText → List ℕ × List ℕ
table_form t = (t.name.now, t.text.now)

abbrev pub bundle_form : held.Bundle → Bundle
bundle_form b = bundle_of b.command (view b.catalog.now) (view b.plan.now) (map table_form b.tables.items) b.setting
