use Rattle.std.proofs.Common.{string_bytes, codes}
use Rattle.volcano_stats.specs.Json.{loads_json, relations_member}
use Rattle.volcano_stats.proofs.JsonFacts.{closed}
use Rattle.volcano_stats.proofs.json.push_relations.Goals as goal

pub returns : goal.returns
unfolding relations_member
returns c =
    closed c.push_str-2.result (string_bytes c.args.text.now) (string_bytes c.push_str.new.self) (string_bytes c.push_loads.new.text) (string_bytes c.push_str-2.new.self)
    (codes ",\"relations\":[") (loads_json c.args.catalog.now c.args.loads.now) (codes "]") c.in_ok-push_str.ensures.bytes c.in_ok-push_loads.ensures c.push_str-2.ensures.bytes
