-- In a plan that asks for what is known of its columns, no claim that is read has more than 16 keys.
use Rattle.std.proofs.Common.{◌≡◌, ℕ, zero, suc, ◌+◌, List, ◌++◌, Bool, true, false, cond, ltb, ◌&&◌, Option, Some, None, Result, Ok, Err, codes, refl}
use Rattle.serde_json.specs.Data.{Data}
use Rattle.vx_plan_json.specs.Fault.{Refusal, too_deep, ◌>>=◌}
use Rattle.vx_plan_json.specs.Document.{Tree, unary, binary, exchange}
use Rattle.vx_plan_json.specs.Operators.{OwnForm, own_scan, own_unary, own_binary, own_exchange, own_in, own_claim, if_few_keys, own_under}
use Rattle.vx_plan_json.specs.Reading.{node_in, with_inputs}
use Rattle.vx_plan_json.specs.Formed.{has_few_keys, are_keys_few, levels_left}
use Rattle.vx_plan_json.proofs.Holds.{and-both, Within, within_any, Holds, holds_then}

abbrev has_few : Bool → OwnForm → Bool
has_few derives own = has_few_keys derives (own_claim own)

if-few : (derives : Bool) (own : OwnForm) → Within (has_few derives) (if_few_keys derives own)
if-few derives own = go (has_few derives own) refl
  where
    go : (b : Bool) → has_few derives own ≡ b → Within (has_few derives) (cond b (Some own) None)
    go true h = h
    go false h = tt

under-few : (derives : Bool) (levels : ℕ) (d : Data) → Within (has_few derives) (own_under derives levels d)
unfolding own_under
under-few derives levels d = within_any (has_few derives) (if_few_keys derives) (own_in levels d) (if-few derives)

abbrev AreFew : Bool → Tree × ℕ → Type 0
AreFew derives r = are_keys_few derives r.0 ≡ true

inputs-few : (derives : Bool) (below : ℕ → List ℕ → Data → Result (Tree × ℕ) Refusal) → ((seen : ℕ) (path : List ℕ) (d : Data) → Holds (AreFew derives) (below seen path d)) → (seen : ℕ) (path : List ℕ) (own : Option OwnForm)
    → Within (has_few derives) own → Holds (AreFew derives) (with_inputs below seen path own)
inputs-few derives below few seen path None w = tt
inputs-few derives below few seen path (Some (own_scan c s)) w = w
inputs-few derives below few seen path (Some (own_unary c op d)) w =
    holds_then (AreFew derives) (AreFew derives) (λ t. Ok (unary c op t.0, t.1)) (below (seen + 1) (path ++ codes ".input") d) (few (seen + 1) (path ++ codes ".input") d)
    (λ t h. and-both (has_few_keys derives c) (are_keys_few derives t.0) w h)
inputs-few derives below few seen path (Some (own_binary c op d e)) w =
    holds_then (AreFew derives) (AreFew derives) (λ l. below l.1 (path ++ codes ".right") e >>= λ r. Ok (binary c op l.0 r.0, r.1)) (below (seen + 1) (path ++ codes ".left") d) (few (seen + 1) (path ++ codes ".left") d)
    (λ l h. holds_then (AreFew derives) (AreFew derives) (λ r. Ok (binary c op l.0 r.0, r.1)) (below l.1 (path ++ codes ".right") e) (few l.1 (path ++ codes ".right") e)
    (λ r k. and-both (has_few_keys derives c) (are_keys_few derives l.0 && are_keys_few derives r.0) w (and-both (are_keys_few derives l.0) (are_keys_few derives r.0) h k)))
inputs-few derives below few seen path (Some (own_exchange c k m d)) w =
    holds_then (AreFew derives) (AreFew derives) (λ t. Ok (exchange c k m t.0, t.1)) (below (seen + 1) (path ++ codes ".input") d) (few (seen + 1) (path ++ codes ".input") d)
    (λ t h. and-both (has_few_keys derives c) (are_keys_few derives t.0) w h)

few_if : (derives b : Bool) (r : Result (Tree × ℕ) Refusal) → Holds (AreFew derives) r → Holds (AreFew derives) (cond b r (Err too_deep))
few_if derives true r h = h
few_if derives false r h = tt

-- so in every tree that is read
pub node-few : (derives : Bool) (levels seen : ℕ) (path : List ℕ) (d : Data) → Holds (λ (r : Tree × ℕ). are_keys_few derives r.0 ≡ true) (node_in derives levels seen path d)
unfolding node_in
node-few derives zero seen path d = tt
node-few derives (suc levels) seen path d =
    few_if derives (ltb seen 1000) (with_inputs (node_in derives levels) seen path (own_under derives (levels_left levels) d))
    (inputs-few derives (node_in derives levels) (node-few derives levels) seen path (own_under derives (levels_left levels) d) (under-few derives (levels_left levels) d))
