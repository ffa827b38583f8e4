-- Documents that ask for what is known of their columns.
use Rattle.std.specs.Prelude.{true, if◌then◌else◌}
use Rattle.vx_plan_json.specs.Document.{Document}
use Rattle.vx_plan_json.specs.Formed.{are_keys_few}
use Rattle.vx_check_annotate.specs.Unclaimed.{unclaimed}

-- the document, without its claims if one of them has more keys than a document that asks so can have
abbrev pub with_few_keys : Document → Document
with_few_keys d = if are_keys_few true d.root then d else unclaimed d

-- the document, which asks for what is known of its columns
abbrev pub asking : Document → Document
asking d = record (with_few_keys d) { derives = true }
