-- Orders seen as they are.
use Rattle.std.proofs.Common.{◌≡◌, List, map}
use Rattle.std.proofs.lemmas.List.{map-id}
use Rattle.vx_catalog_json.specs.Look.{OrderText}

pub same_order : (order : List OrderText) → map (λ (e : OrderText). e) order ≡ order
same_order order = map-id order
