-- A tree that is read has as many nodes as were counted, and at most 1,000.
use Rattle.std.proofs.Common.{◌≡◌, ℕ, zero, suc, ◌+◌, ◌<◌, ◌≤◌, ltb, List, ◌++◌, codes, Bool, true, false, cond, Option, Some, None, Result, Ok, Err, refl, subst, arith}
use borrow.Author.Tests.{ltb-true}
use Rattle.serde_json.specs.Data.{Data}
use Rattle.vx_plan_json.specs.Fault.{Refusal, too_deep, ◌>>=◌}
use Rattle.vx_plan_json.specs.Document.{Tree, scan, unary, binary, exchange, tree_nodes}
use Rattle.vx_plan_json.specs.Operators.{OwnForm, own_scan, own_unary, own_binary, own_exchange, own_under}
use Rattle.vx_plan_json.specs.Formed.{levels_left}
use Rattle.vx_plan_json.specs.Reading.{node_in, with_inputs}

-- what the first step gave, where both steps gave something
pub both_ok : {A B : Type 0} (r : Result A Refusal) (f : A → Result B Refusal) (y : B) → (r >>= f) ≡ Ok y → (x : A) × (r ≡ Ok x) × (f x ≡ Ok y)
both_ok (Ok x) f y h = (x, refl, h)
both_ok (Err e) f y h = cc

-- the count of an answer is right
pub record IsCounted (seen : ℕ) (t : Tree) (after : ℕ) : Type 0 where
  pub count : after ≡ seen + tree_nodes t
  pub few : after ≤ 1000

abbrev pub Counts : (ℕ → List ℕ → Data → Result (Tree × ℕ) Refusal) → Type 0
Counts below = (seen : ℕ) (path : List ℕ) (d : Data) (r : Tree × ℕ) → below seen path d ≡ Ok r → IsCounted seen r.0 r.1

inputs_counted : (below : ℕ → List ℕ → Data → Result (Tree × ℕ) Refusal) → Counts below → (seen : ℕ) (path : List ℕ) (own : Option OwnForm) (r : Tree × ℕ)
    → seen < 1000 → with_inputs below seen path own ≡ Ok r → IsCounted seen r.0 r.1
inputs_counted below counts seen path None r few h = cc
inputs_counted below counts seen path (Some (own_scan c s)) r few h =
    let e : (scan c s, seen + 1) ≡ r = cc in
    let P : Tree × ℕ → Type 0 = λ p. IsCounted seen p.0 p.1 in
    subst P e (record { count = refl; few = omega arith })
inputs_counted below counts seen path (Some (own_unary c op d)) r few h =
    let s = both_ok (below (seen + 1) (path ++ codes ".input") d) (λ t. Ok (unary c op t.0, t.1)) r h in
    let n = counts (seen + 1) (path ++ codes ".input") d s.0 s.1 in
    let e : (unary c op s.0.0, s.0.1) ≡ r = let k = s.2 in cc in
    let P : Tree × ℕ → Type 0 = λ p. IsCounted seen p.0 p.1 in
    subst P e (record { count = omega (arith, n.count); few = n.few })
inputs_counted below counts seen path (Some (own_binary c op d f)) r few h =
    let next = λ (l : Tree × ℕ). below l.1 (path ++ codes ".right") f >>= λ r. Ok (binary c op l.0 r.0, r.1) in
    let s = both_ok (below (seen + 1) (path ++ codes ".left") d) next r h in
    let n = counts (seen + 1) (path ++ codes ".left") d s.0 s.1 in
    let u = both_ok (below s.0.1 (path ++ codes ".right") f) (λ r. Ok (binary c op s.0.0 r.0, r.1)) r s.2 in
    let m = counts s.0.1 (path ++ codes ".right") f u.0 u.1 in
    let e : (binary c op s.0.0 u.0.0, u.0.1) ≡ r = let k = u.2 in cc in
    let P : Tree × ℕ → Type 0 = λ p. IsCounted seen p.0 p.1 in
    subst P e (record { count = omega (arith, n.count, m.count); few = m.few })
inputs_counted below counts seen path (Some (own_exchange c k m d)) r few h =
    let s = both_ok (below (seen + 1) (path ++ codes ".input") d) (λ t. Ok (exchange c k m t.0, t.1)) r h in
    let n = counts (seen + 1) (path ++ codes ".input") d s.0 s.1 in
    let e : (exchange c k m s.0.0, s.0.1) ≡ r = let k = s.2 in cc in
    let P : Tree × ℕ → Type 0 = λ p. IsCounted seen p.0 p.1 in
    subst P e (record { count = omega (arith, n.count); few = n.few })

counted_if : (derives : Bool) (levels : ℕ) (below : ℕ → List ℕ → Data → Result (Tree × ℕ) Refusal) → Counts below → (seen : ℕ) (path : List ℕ) (d : Data) (r : Tree × ℕ) (b : Bool)
    → ltb seen 1000 ≡ b → cond b (with_inputs below seen path (own_under derives levels d)) (Err too_deep) ≡ Ok r → IsCounted seen r.0 r.1
counted_if derives levels below counts seen path d r true e h =
    let few : seen < 1000 = ltb-true seen 1000 e in
    inputs_counted below counts seen path (own_under derives levels d) r few h
counted_if derives levels below counts seen path d r false e h = cc

pub node_counted : (derives : Bool) (levels : ℕ) → Counts (node_in derives levels)
unfolding node_in
node_counted derives zero seen path d r h = cc
node_counted derives (suc levels) seen path d r h = counted_if derives (levels_left levels) (node_in derives levels) (node_counted derives levels) seen path d r (ltb seen 1000) refl h

pub few_nodes : (derives : Bool) (levels : ℕ) (path : List ℕ) (d : Data) (t : Tree) (after : ℕ) → node_in derives levels 0 path d ≡ Ok (t, after) → tree_nodes t ≤ 1000
few_nodes derives levels path d t after h = let n = node_counted derives levels 0 path d (t, after) h in omega (arith, n.count, n.few)
