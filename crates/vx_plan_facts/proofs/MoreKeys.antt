-- With more keys the same columns determine more.
use Rattle.std.proofs.Common.{◌≡◌, ℕ, zero, suc, ◌||◌, List, [], refl, sym, ap, subst}
use Rattle.vx_catalog_relations.specs.Relation.{Relation}
use Rattle.vx_plan_nodes.specs.Plan.{Plan, scan, unary, binary, exchange, Binary, union, join, semi_join}
use Rattle.vx_plan_nodes.specs.Types.{width}
use Rattle.vx_plan_nodes.specs.Describe.{Copying, whole_rows, left_of, right_of, source, described}
use Rattle.vx_plan_facts.specs.Equal.{Equality, each_itself, equal_at}
use Rattle.vx_plan_facts.specs.Fixed.{Values, fixed_at}
use Rattle.vx_plan_facts.specs.Determined.{Columns, sources_in, by_input, by_rows, repeated, closure, by_none, by_both, determined}
use Rattle.vx_plan_facts.specs.DeterminedFacts.{Within, WithinFirst, KeysSayMore, ClaimsMore, MoreFromKeys}
use Rattle.vx_plan_facts.proofs.Tests.{or-more}
use Rattle.vx_plan_facts.proofs.Least.{IsMonotone, rows-more-by, rows-more, column-more, repeated-more, determined-more, input-more, both-more}

-- what the one determines of each set the other determines of it
abbrev pub Less : (Columns → Columns) → (Columns → Columns) → Type 0
Less f g = (s : Columns) → Within (f s) (g s)

repeated-less : (n : ℕ) (f g : Columns → Columns) → Less f g → IsMonotone g → Less (repeated n f) (repeated n g)
repeated-less zero f g h mono s c e = e
repeated-less (suc n) f g h mono s c e = repeated-more n g mono (f s) (g s) (h s) c (repeated-less n f g h mono (f s) c e)

-- of these inputs the second adds the same wherever the first w columns are the same
abbrev pub ByFirst : ℕ → (Columns → Columns) → Type 0
ByFirst w inputs = (s t : Columns) → WithinFirst w s t → Within (inputs s) (inputs t)

closure-less : (w : ℕ) (e : Equality) (f : Values) (ks ls : List (List ℕ)) → KeysSayMore ks ls → (a b : Columns → Columns) → Less a b → ByFirst w b
    → Less (closure w e f ks a) (closure w e f ls b)
closure-less w e f ks ls more a b h mono =
    repeated-less w (λ t c. by_rows w e f ks t c || a t c) (λ t c. by_rows w e f ls t c || b t c)
    (λ s c. or-more (by_rows w e f ks s c) (a s c) (by_rows w e f ls s c) (b s c) (rows-more-by w e f ks ls s s c (λ x. x) (λ d l x. x) (more s)) (h s c))
    (λ s t k c. or-more (by_rows w e f ls s c) (b s c) (by_rows w e f ls t c) (b t c) (rows-more w e f ls s t k c) (mono s t (λ d l. k d) c))

-- the same where widths, equal and fixed columns are shown to be equal
node-less : (w v : ℕ) (e d : Equality) (f g : Values) → v ≡ w → d ≡ e → g ≡ f → (ks ls : List (List ℕ)) → KeysSayMore ks ls
    → (a b : Columns → Columns) → Less a b → ByFirst w b → Less (closure w e f ks a) (closure v d g ls b)
node-less w v e d f g wide equal fixed ks ls more a b h mono =
    let W : ℕ → Type 0 = λ x. Less (closure w e f ks a) (closure x d g ls b) in
    let E : Equality → Type 0 = λ x. Less (closure w e f ks a) (closure w x g ls b) in
    let F : Values → Type 0 = λ x. Less (closure w e f ks a) (closure w e x ls b) in
    subst W (sym wide) (subst E (sym equal) (subst F (sym fixed) (closure-less w e f ks ls more a b h mono)))

input-less : (w : ℕ) (k : Copying) (below other : Columns → Columns) → Less below other → Less (by_input w k below) (by_input w k other)
input-less w k below other h s c e = column-more (below (sources_in w k s)) (other (sources_in w k s)) (h (sources_in w k s)) (source k c) e

both-less : (v w : ℕ) (op : Binary) (left right l r : Columns → Columns) → Less left l → Less right r → Less (by_both v w op left right) (by_both v w op l r)
both-less v w union left right l r h k s c e = e
both-less v w (join m on) left right l r h k s c e =
    or-more (by_input w (left_of v) left s c) (by_input w (right_of v) right s c) (by_input w (left_of v) l s c) (by_input w (right_of v) r s c)
    (input-less w (left_of v) left l h s c) (input-less w (right_of v) right r k s c) e
both-less v w (semi_join matched on conditions) left right l r h k s c e = input-less w whole_rows left l h s c e

-- plans that differ in their claims have the same columns
abbrev pub AreAlike : (ℕ → Relation) → Plan → Plan → Type 0
AreAlike catalog p q = (width catalog q ≡ width catalog p) × (equal_at catalog q ≡ equal_at catalog p) × (fixed_at catalog q ≡ fixed_at catalog p)

alike : (catalog : ℕ → Relation) (p q : Plan) → ClaimsMore p q → AreAlike catalog p q
alike catalog (scan n c r m z) (scan i d s o y) h = let e : s ≡ r = sym h.1 in (ap (λ x. width catalog (scan n c x m z)) e, refl, refl)
alike catalog (unary n c op p) (unary i d other q) h =
    let o : other ≡ op = sym h.1 in
    let r = alike catalog p q h.2 in
    let w : width catalog q ≡ width catalog p = r.0 in
    let e : equal_at catalog q ≡ equal_at catalog p = r.1 in
    let f : fixed_at catalog q ≡ fixed_at catalog p = r.2 in
    (cc, cc, cc)
alike catalog (binary n c op p q) (binary i d other s t) h =
    let o : other ≡ op = sym h.1 in
    let l = alike catalog p s h.2 in
    let r = alike catalog q t h.3 in
    let v : width catalog s ≡ width catalog p = l.0 in
    let w : width catalog t ≡ width catalog q = r.0 in
    let e : equal_at catalog s ≡ equal_at catalog p = l.1 in
    let g : equal_at catalog t ≡ equal_at catalog q = r.1 in
    let f : fixed_at catalog s ≡ fixed_at catalog p = l.2 in
    let k : fixed_at catalog t ≡ fixed_at catalog q = r.2 in
    (cc, cc, cc)
alike catalog (exchange n c k m p) (exchange i d l o q) h = alike catalog p q h.1
alike catalog p q h = absurd h

pub more-from-keys : MoreFromKeys
more-from-keys catalog (scan n c r m z) (scan i d s o y) h =
    let a = alike catalog (scan n c r m z) (scan i d s o y) h in
    node-less (width catalog (scan n c r m z)) (width catalog (scan i d s o y)) each_itself each_itself (λ x. []) (λ x. []) a.0 refl refl c.keys d.keys h.0
    by_none by_none (λ t x e. e) (λ t u k x e. e)
more-from-keys catalog (unary n c op p) (unary i d other q) h =
    let a = alike catalog (unary n c op p) (unary i d other q) h in
    let w = width catalog (unary n c op p) in
    let v = width catalog (unary i d other q) in
    let k = (described op).copying in
    let right : by_input v (described other).copying (determined catalog q) ≡ by_input w k (determined catalog q) =
    let wide : v ≡ w = a.0 in let o : other ≡ op = sym h.1 in cc in
    let P : (Columns → Columns) → Type 0 = λ x.
    Less (determined catalog (unary n c op p)) (closure v (equal_at catalog (unary i d other q)) (fixed_at catalog (unary i d other q)) d.keys x) in
    subst P (sym right)
    (node-less w v (equal_at catalog (unary n c op p)) (equal_at catalog (unary i d other q)) (fixed_at catalog (unary n c op p)) (fixed_at catalog (unary i d other q))
    a.0 a.1 a.2 c.keys d.keys h.0 (by_input w k (determined catalog p)) (by_input w k (determined catalog q))
    (input-less w k (determined catalog p) (determined catalog q) (more-from-keys catalog p q h.2))
    (input-more w k (determined catalog q) (determined-more catalog q)))
more-from-keys catalog (binary n c op p q) (binary i d other s t) h =
    let node = binary n c op p q in
    let peer = binary i d other s t in
    let a = alike catalog node peer h in
    let left = alike catalog p s h.2 in
    let v = width catalog p in
    let w = width catalog node in
    let inputs : Columns → Columns = by_both v w op (determined catalog s) (determined catalog t) in
    let right : by_both (width catalog s) (width catalog peer) other (determined catalog s) (determined catalog t) ≡ inputs =
    let near : width catalog s ≡ v = left.0 in let wide : width catalog peer ≡ w = a.0 in let o : other ≡ op = sym h.1 in cc in
    let P : (Columns → Columns) → Type 0 = λ x.
    Less (determined catalog node) (closure (width catalog peer) (equal_at catalog peer) (fixed_at catalog peer) d.keys x) in
    subst P (sym right)
    (node-less w (width catalog peer) (equal_at catalog node) (equal_at catalog peer) (fixed_at catalog node) (fixed_at catalog peer)
    a.0 a.1 a.2 c.keys d.keys h.0 (by_both v w op (determined catalog p) (determined catalog q)) inputs
    (both-less v w op (determined catalog p) (determined catalog q) (determined catalog s) (determined catalog t)
    (more-from-keys catalog p s h.2) (more-from-keys catalog q t h.3))
    (both-more v w op (determined catalog s) (determined catalog t) (determined-more catalog s) (determined-more catalog t)))
more-from-keys catalog (exchange n c k m p) (exchange i d l o q) h =
    let a = alike catalog p q h.1 in
    let w = width catalog p in
    let v = width catalog q in
    let right : by_input v whole_rows (determined catalog q) ≡ by_input w whole_rows (determined catalog q) = ap (λ x. by_input x whole_rows (determined catalog q)) a.0 in
    let P : (Columns → Columns) → Type 0 = λ x. Less (determined catalog (exchange n c k m p)) (closure v (equal_at catalog q) (fixed_at catalog q) d.keys x) in
    subst P (sym right)
    (node-less w v (equal_at catalog p) (equal_at catalog q) (fixed_at catalog p) (fixed_at catalog q)
    a.0 a.1 a.2 c.keys d.keys h.0 (by_input w whole_rows (determined catalog p)) (by_input w whole_rows (determined catalog q))
    (input-less w whole_rows (determined catalog p) (determined catalog q) (more-from-keys catalog p q h.1))
    (input-more w whole_rows (determined catalog q) (determined-more catalog q)))
more-from-keys catalog p q h = absurd h
