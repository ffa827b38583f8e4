-- What a document says beside its claims.
use Rattle.std.specs.Prelude.{[], Bool, false, ◌&&◌}
use Rattle.vx_plan_json.specs.Document.{any, ClaimForm, Tree, scan, unary, binary, exchange, Document}
use Rattle.vx_plan_json.specs.Formed.{is_claim_form}

-- a claim that says nothing
abbrev pub no_claim : ClaimForm
no_claim = record { part = any; order = []; keys = [] }

-- the nodes without their claims
abbrev pub without_claims : Tree → Tree
without_claims (scan c s) = scan no_claim s
without_claims (unary c op t) = unary no_claim op (without_claims t)
without_claims (binary c op t u) = binary no_claim op (without_claims t) (without_claims u)
without_claims (exchange c k m t) = exchange no_claim k m (without_claims t)

-- every claim is one that a document can have
abbrev pub are_claims_formed : Tree → Bool
are_claims_formed (scan c s) = is_claim_form c
are_claims_formed (unary c op t) = is_claim_form c && are_claims_formed t
are_claims_formed (binary c op t u) = is_claim_form c && (are_claims_formed t && are_claims_formed u)
are_claims_formed (exchange c k m t) = is_claim_form c && are_claims_formed t

-- the document without its claims, and not said to be total
abbrev pub unclaimed : Document → Document
unclaimed d = record { sizes = d.sizes; ranges = d.ranges; total = false; derives = d.derives; root = without_claims d.root }
