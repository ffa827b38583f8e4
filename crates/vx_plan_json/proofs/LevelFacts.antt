-- A tree that is read is no deeper than it may be.
use Rattle.std.proofs.Common.{◌≡◌, ℕ, zero, suc, ◌+◌, ◌≤◌, max, ltb, List, ◌++◌, codes, Bool, true, false, cond, Option, Some, None, Result, Ok, Err, subst, arith}
use Rattle.std.proofs.Math.Nat.{max-le}
use Rattle.serde_json.specs.Data.{Data}
use Rattle.vx_plan_json.specs.Fault.{Refusal, too_deep, ◌>>=◌}
use Rattle.vx_plan_json.specs.Document.{Tree, scan, unary, binary, exchange, tree_levels}
use Rattle.vx_plan_json.specs.Operators.{OwnForm, own_scan, own_unary, own_binary, own_exchange, own_under}
use Rattle.vx_plan_json.specs.Formed.{levels_left}
use Rattle.vx_plan_json.specs.Reading.{node_in, with_inputs}
use Rattle.vx_plan_json.proofs.NodeCounts.{both_ok}

abbrev IsLow : ℕ → Tree × ℕ → Type 0
IsLow levels r = tree_levels r.0 ≤ levels

abbrev AreLow : ℕ → (ℕ → List ℕ → Data → Result (Tree × ℕ) Refusal) → Type 0
AreLow levels below = (seen : ℕ) (path : List ℕ) (d : Data) (r : Tree × ℕ) → below seen path d ≡ Ok r → IsLow levels r

inputs_low : (levels : ℕ) (below : ℕ → List ℕ → Data → Result (Tree × ℕ) Refusal) → AreLow levels below → (seen : ℕ) (path : List ℕ) (own : Option OwnForm) (r : Tree × ℕ)
    → with_inputs below seen path own ≡ Ok r → IsLow (suc levels) r
inputs_low levels below low seen path None r h = cc
inputs_low levels below low seen path (Some (own_scan c s)) r h =
    let e : (scan c s, seen + 1) ≡ r = cc in
    let P : Tree × ℕ → Type 0 = λ p. IsLow (suc levels) p in
    subst P e (omega arith)
inputs_low levels below low seen path (Some (own_unary c op d)) r h =
    let s = both_ok (below (seen + 1) (path ++ codes ".input") d) (λ t. Ok (unary c op t.0, t.1)) r h in
    let n = low (seen + 1) (path ++ codes ".input") d s.0 s.1 in
    let e : (unary c op s.0.0, s.0.1) ≡ r = let k = s.2 in cc in
    let P : Tree × ℕ → Type 0 = λ p. IsLow (suc levels) p in
    subst P e (omega (arith, n))
inputs_low levels below low seen path (Some (own_binary c op d f)) r h =
    let next = λ (l : Tree × ℕ). below l.1 (path ++ codes ".right") f >>= λ r. Ok (binary c op l.0 r.0, r.1) in
    let s = both_ok (below (seen + 1) (path ++ codes ".left") d) next r h in
    let n = low (seen + 1) (path ++ codes ".left") d s.0 s.1 in
    let u = both_ok (below s.0.1 (path ++ codes ".right") f) (λ r. Ok (binary c op s.0.0 r.0, r.1)) r s.2 in
    let m = low s.0.1 (path ++ codes ".right") f u.0 u.1 in
    let both : max (tree_levels s.0.0) (tree_levels u.0.0) ≤ levels = max-le n m in
    let e : (binary c op s.0.0 u.0.0, u.0.1) ≡ r = let k = u.2 in cc in
    let P : Tree × ℕ → Type 0 = λ p. IsLow (suc levels) p in
    subst P e (omega (arith, both))
inputs_low levels below low seen path (Some (own_exchange c k m d)) r h =
    let s = both_ok (below (seen + 1) (path ++ codes ".input") d) (λ t. Ok (exchange c k m t.0, t.1)) r h in
    let n = low (seen + 1) (path ++ codes ".input") d s.0 s.1 in
    let e : (exchange c k m s.0.0, s.0.1) ≡ r = let k = s.2 in cc in
    let P : Tree × ℕ → Type 0 = λ p. IsLow (suc levels) p in
    subst P e (omega (arith, n))

low_if : (derives : Bool) (levels : ℕ) (below : ℕ → List ℕ → Data → Result (Tree × ℕ) Refusal) → AreLow levels below → (seen : ℕ) (path : List ℕ) (d : Data) (r : Tree × ℕ) (b : Bool)
    → cond b (with_inputs below seen path (own_under derives (levels_left levels) d)) (Err too_deep) ≡ Ok r → IsLow (suc levels) r
low_if derives levels below low seen path d r true h = inputs_low levels below low seen path (own_under derives (levels_left levels) d) r h
low_if derives levels below low seen path d r false h = cc

node_low : (derives : Bool) (levels : ℕ) → AreLow levels (node_in derives levels)
unfolding node_in
node_low derives zero seen path d r h = cc
node_low derives (suc levels) seen path d r h = low_if derives levels (node_in derives levels) (node_low derives levels) seen path d r (ltb seen 1000) h

pub few_levels : (derives : Bool) (levels seen : ℕ) (path : List ℕ) (d : Data) (t : Tree) (after : ℕ) → node_in derives levels seen path d ≡ Ok (t, after) → tree_levels t ≤ levels
few_levels derives levels seen path d t after h = node_low derives levels seen path d (t, after) h
