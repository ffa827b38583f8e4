use Rattle.std.proofs.Common.{◌≡◌, ◌∙◌, ◌+◌, ◌<◌, ◌++◌, [], ◌∷◌, List, Bool, Vec, Global, map, arith, sym, ap, subst}
use Rattle.std.proofs.lemmas.List.{append_assoc, map-append}
use Rattle.vx_plan_nodes.specs.declared.typed.TypedNode.{TypedNode}
use Rattle.vx_catalog_relations.specs.Catalog.{relation_at}
use Rattle.vx_plan_nodes.specs.Plan.{Plan, Binary}
use Rattle.vx_plan_nodes.specs.Numbering.{nodes}
use Rattle.vx_plan_nodes.specs.Outline.{top_of, unary_of, binary_of, kind_of, plan_of}
use Rattle.vx_check_rules.specs.declared.table.Table.{Table}
use Rattle.vx_check_rules.specs.TableView.{derives, Judges, StaysTable}
use Rattle.vx_check_rules.proofs.TableFacts.{judges-sent, stays-under, stays-sent}
use Rattle.vx_check_directions.specs.Turned.{Choice, falls_at, chosen}
use Rattle.vx_check_directions.specs.Directed.{falls_of}
use Rattle.vx_check_directions.specs.Finding.{AreMerged, StaysBoth}
use Rattle.vx_check_directions.proofs.AskingSteps.{merged-of, put-all, both-stay}
use Rattle.vx_check_directions.proofs.finding.+put_falls.Goals as goal

-- ---- an operator over one input, and an exchange

pub returns-in_ok-put_falls-in-Unary-clause-stays : goal.returns-in_ok-put_falls-in-Unary-clause-stays
returns-in_ok-put_falls-in-Unary-clause-stays t c =
    let top = top_of c.in-Unary.field-0 in
    let below : TypedNode = c.in-Unary.input.value in
    let P : TypedNode → Type 0 = λ n. StaysTable c.args.table.now c.put_falls.new.table (plan_of n) in
    subst P (sym c.in-Unary.is)
    (stays-under c.args.table.now c.put_falls.new.table top.number top.claim (unary_of c.in-Unary.field-1) (plan_of below) (subst P c.deref.ensures c.in_ok-put_falls-in-Unary.ensures.stays))

pub returns-in_ok-put_falls-in-Exchange-clause-stays : goal.returns-in_ok-put_falls-in-Exchange-clause-stays
returns-in_ok-put_falls-in-Exchange-clause-stays t c =
    let top = top_of c.in-Exchange.field-0 in
    let below : TypedNode = c.in-Exchange.input.value in
    let P : TypedNode → Type 0 = λ n. StaysTable c.args.table.now c.put_falls-in-Exchange.new.table (plan_of n) in
    subst P (sym c.in-Exchange.is)
    (stays-sent c.args.table.now c.put_falls-in-Exchange.new.table top.number top.claim (kind_of c.in-Exchange.field-1.kind) c.in-Exchange.field-1.merge.items (plan_of below)
    (subst P c.deref-in-Exchange.ensures c.in_ok-put_falls-in-Exchange.ensures.stays))

pub returns-in_ok-put_falls-in-Exchange-clause-put : goal.returns-in_ok-put_falls-in-Exchange-clause-put
returns-in_ok-put_falls-in-Exchange-clause-put t c = λ catalog h.
    let top = top_of c.in-Exchange.field-0 in
    let below : TypedNode = c.in-Exchange.input.value in
    let old : Table = c.args.table.now in
    let P : TypedNode → Type 0 = λ n. Judges catalog old (plan_of n) in
    let judged = judges-sent catalog old top.number top.claim (kind_of c.in-Exchange.field-1.kind) c.in-Exchange.field-1.merge.items (plan_of below) (subst P c.in-Exchange.is h) in
    let H : Choice = falls_of (derives old) (relation_at catalog) in
    let V : List (Vec Bool Global) → List (List Bool) = map (λ v. v.items) in
    let given : List (Vec Bool Global) = c.args.falls.now.items in
    let a : V c.push-in-Exchange.new.self.items ≡ V given ++ ([] ∷ []) =
    ap V c.in_ok-push-in-Exchange.ensures.items ∙ (map-append (λ v. v.items) given (c.new-in-Exchange.result ∷ []) ∙ ap (λ x. V given ++ (x ∷ [])) c.new-in-Exchange.ensures.items) in
    let b : V c.put_falls-in-Exchange.new.falls.items ≡ V c.push-in-Exchange.new.self.items ++ chosen H (plan_of below) =
    (rw c.deref-in-Exchange.ensures at c.in_ok-put_falls-in-Exchange.ensures.put) catalog judged in
    let R : TypedNode → Type 0 = λ n. V c.put_falls-in-Exchange.new.falls.items ≡ V given ++ chosen H (plan_of n) in
    subst R (sym c.in-Exchange.is) (b ∙ (ap (λ xs. xs ++ chosen H (plan_of below)) a ∙ append_assoc (V given) ([] ∷ []) (chosen H (plan_of below))))

-- ---- an operator over two inputs

pub falls_at-requires : goal.falls_at-requires
falls_at-requires t c =
    let top = top_of c.in-Binary.field-0 in
    let P : TypedNode → Type 0 = λ n. Judges c.requires.0 c.args.table.now (plan_of n) in
    rw (c.deref-in-Binary.ensures, c.deref-in-Binary-2.ensures) (c.requires.0, merged-of c.requires.0 c.args.table.now top.number top.claim (binary_of c.in-Binary.operator) (plan_of c.in-Binary.left.value) (plan_of c.in-Binary.right.value) (subst P c.in-Binary.is c.requires.1))

pub put_falls-requires-in-Binary : goal.put_falls-requires-in-Binary
put_falls-requires-in-Binary t c =
    let top = top_of c.in-Binary.field-0 in
    let left : TypedNode = c.in-Binary.left.value in
    let right : TypedNode = c.in-Binary.right.value in
    let old : Table = c.args.table.now in
    let one : Table = c.falls_at.new.table in
    let P : TypedNode → Type 0 = λ n. Judges c.requires.0 old (plan_of n) in
    let merged = merged-of c.requires.0 old top.number top.claim (binary_of c.in-Binary.operator) (plan_of left) (plan_of right) (subst P c.in-Binary.is c.requires.1) in
    let stays : StaysBoth old one (plan_of left) (plan_of right) = rw (← c.deref-in-Binary.ensures, ← c.deref-in-Binary-2.ensures) c.in_ok-here-in-Binary.ensures.stays in
    let J : TypedNode → Type 0 = λ n. Judges c.requires.0 one (plan_of n) in
    let judged : J c.deref-in-Binary-3.result.now = subst J (sym c.deref-in-Binary-3.ensures) (stays.judges c.requires.0 merged.left merged.right (plan_of left) merged.left) in
    let node : Plan = plan_of c.args.node.now in
    let all : nodes node ≡ nodes (plan_of left) + nodes (plan_of right) + 1 = ap (λ n. nodes (plan_of n)) c.in-Binary.is ∙ omega arith in
    let same : nodes (plan_of c.deref-in-Binary-3.result.now) ≡ nodes (plan_of left) = ap (λ n. nodes (plan_of n)) c.deref-in-Binary-3.ensures in
    let here : nodes node ≡ t = c.decreases in
    let falls : nodes (plan_of c.deref-in-Binary-3.result.now) < t = omega (arith, all, same, here) in
    (falls, (c.requires.0, judged))

pub put_falls-requires-in-Binary-2 : goal.put_falls-requires-in-Binary-2
put_falls-requires-in-Binary-2 t c =
    let top = top_of c.in-Binary.field-0 in
    let left : TypedNode = c.in-Binary.left.value in
    let right : TypedNode = c.in-Binary.right.value in
    let old : Table = c.args.table.now in
    let one : Table = c.falls_at.new.table in
    let two : Table = c.put_falls-in-Binary.new.table in
    let P : TypedNode → Type 0 = λ n. Judges c.requires.0 old (plan_of n) in
    let merged = merged-of c.requires.0 old top.number top.claim (binary_of c.in-Binary.operator) (plan_of left) (plan_of right) (subst P c.in-Binary.is c.requires.1) in
    let stays : StaysBoth old one (plan_of left) (plan_of right) = rw (← c.deref-in-Binary.ensures, ← c.deref-in-Binary-2.ensures) c.in_ok-here-in-Binary.ensures.stays in
    let Q : TypedNode → Type 0 = λ n. StaysTable one two (plan_of n) in
    let lefts : StaysTable one two (plan_of left) = subst Q c.deref-in-Binary-3.ensures c.in_ok-put_falls-in-Binary.ensures.stays in
    let J : TypedNode → Type 0 = λ n. Judges c.requires.0 two (plan_of n) in
    let judged : J c.deref-in-Binary-4.result.now =
    subst J (sym c.deref-in-Binary-4.ensures)
    (lefts.judges c.requires.0 (stays.judges c.requires.0 merged.left merged.right (plan_of left) merged.left) (plan_of right) (stays.judges c.requires.0 merged.left merged.right (plan_of right) merged.right)) in
    let node : Plan = plan_of c.args.node.now in
    let all : nodes node ≡ nodes (plan_of left) + nodes (plan_of right) + 1 = ap (λ n. nodes (plan_of n)) c.in-Binary.is ∙ omega arith in
    let same : nodes (plan_of c.deref-in-Binary-4.result.now) ≡ nodes (plan_of right) = ap (λ n. nodes (plan_of n)) c.deref-in-Binary-4.ensures in
    let here : nodes node ≡ t = c.decreases in
    let falls : nodes (plan_of c.deref-in-Binary-4.result.now) < t = omega (arith, all, same, here) in
    (falls, (c.requires.0, judged))

pub returns-in_ok-put_falls-in-Binary-2-clause-stays : goal.returns-in_ok-put_falls-in-Binary-2-clause-stays
returns-in_ok-put_falls-in-Binary-2-clause-stays t c =
    let top = top_of c.in-Binary.field-0 in
    let left : TypedNode = c.in-Binary.left.value in
    let right : TypedNode = c.in-Binary.right.value in
    let old : Table = c.args.table.now in
    let one : Table = c.falls_at.new.table in
    let two : Table = c.put_falls-in-Binary.new.table in
    let three : Table = c.put_falls-in-Binary-2.new.table in
    let stays : StaysBoth old one (plan_of left) (plan_of right) = rw (← c.deref-in-Binary.ensures, ← c.deref-in-Binary-2.ensures) c.in_ok-here-in-Binary.ensures.stays in
    let Q : TypedNode → Type 0 = λ n. StaysTable one two (plan_of n) in
    let R : TypedNode → Type 0 = λ n. StaysTable two three (plan_of n) in
    let P : TypedNode → Type 0 = λ n. StaysTable old three (plan_of n) in
    subst P (sym c.in-Binary.is)
    (both-stay old one two three top.number top.claim (binary_of c.in-Binary.operator) (plan_of left) (plan_of right) stays (subst Q c.deref-in-Binary-3.ensures c.in_ok-put_falls-in-Binary.ensures.stays)
    (subst R c.deref-in-Binary-4.ensures c.in_ok-put_falls-in-Binary-2.ensures.stays))

pub returns-in_ok-put_falls-in-Binary-2-clause-put : goal.returns-in_ok-put_falls-in-Binary-2-clause-put
returns-in_ok-put_falls-in-Binary-2-clause-put t c = λ catalog h.
    let top = top_of c.in-Binary.field-0 in
    let left : TypedNode = c.in-Binary.left.value in
    let right : TypedNode = c.in-Binary.right.value in
    let op : Binary = binary_of c.in-Binary.operator in
    let old : Table = c.args.table.now in
    let one : Table = c.falls_at.new.table in
    let two : Table = c.put_falls-in-Binary.new.table in
    let P : TypedNode → Type 0 = λ n. Judges catalog old (plan_of n) in
    let merged : AreMerged catalog old op (plan_of left) (plan_of right) = merged-of catalog old top.number top.claim op (plan_of left) (plan_of right) (subst P c.in-Binary.is h) in
    let stays : StaysBoth old one (plan_of left) (plan_of right) = rw (← c.deref-in-Binary.ensures, ← c.deref-in-Binary-2.ensures) c.in_ok-here-in-Binary.ensures.stays in
    let Q : TypedNode → Type 0 = λ n. StaysTable one two (plan_of n) in
    let lefts : StaysTable one two (plan_of left) = subst Q c.deref-in-Binary-3.ensures c.in_ok-put_falls-in-Binary.ensures.stays in
    let H : Choice = falls_of (derives old) (relation_at catalog) in
    let here : c.in_ok-here-in-Binary.here.items ≡ falls_at H op (plan_of left) (plan_of right) =
    (rw (c.deref-in-Binary.ensures, c.deref-in-Binary-2.ensures) at c.in_ok-here-in-Binary.ensures.falls) catalog merged in
    let judged-left = stays.judges catalog merged.left merged.right (plan_of left) merged.left in
    let judged-right = lefts.judges catalog judged-left (plan_of right) (stays.judges catalog merged.left merged.right (plan_of right) merged.right) in
    let first = (rw c.deref-in-Binary-3.ensures at c.in_ok-put_falls-in-Binary.ensures.put) catalog judged-left in
    let second = (rw c.deref-in-Binary-4.ensures at c.in_ok-put_falls-in-Binary-2.ensures.put) catalog judged-right in
    let V : List (Vec Bool Global) → List (List Bool) = map (λ v. v.items) in
    let given : List (Vec Bool Global) = c.args.falls.now.items in
    let a : V c.push-in-Binary.new.self.items ≡ V given ++ (falls_at H op (plan_of left) (plan_of right) ∷ []) =
    ap V c.in_ok-push-in-Binary.ensures.items ∙ (map-append (λ v. v.items) given (c.in_ok-here-in-Binary.here ∷ []) ∙ ap (λ x. V given ++ (x ∷ [])) here) in
    let b : V c.put_falls-in-Binary.new.falls.items ≡ V c.push-in-Binary.new.self.items ++ chosen H (plan_of left) =
    first ∙ ap (λ d. V c.push-in-Binary.new.self.items ++ chosen (falls_of d (relation_at catalog)) (plan_of left)) stays.same in
    let e : V c.put_falls-in-Binary-2.new.falls.items ≡ V c.put_falls-in-Binary.new.falls.items ++ chosen H (plan_of right) =
    second ∙ ap (λ d. V c.put_falls-in-Binary.new.falls.items ++ chosen (falls_of d (relation_at catalog)) (plan_of right)) (lefts.same ∙ stays.same) in
    let R : TypedNode → Type 0 = λ n. V c.put_falls-in-Binary-2.new.falls.items ≡ V given ++ chosen H (plan_of n) in
    subst R (sym c.in-Binary.is)
    (put-all (V given) (V c.push-in-Binary.new.self.items) (V c.put_falls-in-Binary.new.falls.items) (V c.put_falls-in-Binary-2.new.falls.items)
    (falls_at H op (plan_of left) (plan_of right) ∷ []) (chosen H (plan_of left)) (chosen H (plan_of right)) a b e)
