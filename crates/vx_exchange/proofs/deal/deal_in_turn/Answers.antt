use Rattle.std.proofs.Common.{◌≡◌, ◌+◌, ◌%◌, ◌<◌, ◌∙◌, ℕ, List, length, ap, sym, subst, arith, All}
use Rattle.std.specs.Prelude.{zip}
use Rattle.std.proofs.lemmas.Nat.{mod_below}
use Rattle.vx_rows.specs.Lists.{each_below}
use Rattle.vx_rows.proofs.Below.{length-each_below, each_below-all, all_at}
use Rattle.vx_plan_nodes.specs.Streams.{Streams, bearing}
use Rattle.vx_exchange.specs.Lanes.{in_turn}
use Rattle.std.proofs.lemmas.Result.{on_ok_weaker}
use Rattle.vx_exchange.proofs.LaneLists.{cuts-same}
use Rattle.vx_exchange.proofs.KindDeals.{cuts-one_lane}
use Rattle.vx_exchange.proofs.deal.deal_in_turn.Goals as goal

pub deal_by_consumer-requires-clause-many : goal.deal_by_consumer-requires-clause-many
deal_by_consumer-requires-clause-many c =
    let f : ℕ → ℕ = λ i. (c.args.next + i) % c.len-3.result in
    let are : c.turns.new.found.items ≡ each_below c.len-2.result f = c.in_ok-turns.ensures in
    ap (λ (ks : List ℕ). length ks) are ∙ (length-each_below c.len-2.result f ∙ c.len-2.ensures)

pub deal_by_consumer-requires-clause-there : goal.deal_by_consumer-requires-clause-there
deal_by_consumer-requires-clause-there c =
    let f : ℕ → ℕ = λ i. (c.args.next + i) % c.len-3.result in
    let are : c.turns.new.found.items ≡ each_below c.len-2.result f = c.in_ok-turns.ensures in
    let n = length c.args.lanes.now.items in
    let next = c.requires.next in
    let end = c.len-3.ensures in
    let P : List ℕ → Type 0 = λ ks. All (λ k. k < n) ks in
    subst P (sym are)
    (all_at (λ k. k < n) (each_below c.len-2.result f) (each_below-all (λ k. k < n) c.len-2.result f (λ i l. let b = mod_below (c.args.next + i) c.len-3.result (omega (arith, next, end)) in omega (arith, b, end))))

pub returns-clause-ok : goal.returns-clause-ok
returns-clause-ok c =
    let f : ℕ → ℕ = λ i. (c.args.next + i) % c.len-3.result in
    let are : c.turns.new.found.items ≡ each_below c.len-2.result f = c.in_ok-turns.ensures in
    let rows = c.args.rows.rows in
    let old = c.args.lanes.now.items in
    let n = length old in
    let end = c.len-3.ensures in
    let many : c.len-3.result ≡ n = omega (arith, end) in
    let turns : c.turns.new.found.items ≡ each_below (length rows) (λ i. (c.args.next + i) % n) =
    are ∙ (ap (λ m. each_below m f) c.len-2.ensures ∙ ap (λ m. each_below (length rows) (λ i. (c.args.next + i) % m)) many) in
    let more : Streams = λ j. bearing j (zip c.turns.new.found.items rows) in
    let more' : Streams = λ j. bearing j (in_turn n c.args.next rows) in
    on_ok_weaker c.deal_by_consumer.result
    (cuts-same more more' old c.deal_by_consumer.new.lanes.items (λ j l. ap (λ (ks : List ℕ). bearing j (zip ks rows)) turns))
    c.deal_by_consumer.ensures.ok

pub returns-then-len-eq1-clause-ok : goal.returns-then-len-eq1-clause-ok
returns-then-len-eq1-clause-ok c =
    let rows = c.args.rows.rows in
    let old = c.args.lanes.now.items in
    let n = length old in
    let test = c.if-len-eq1.true in
    let end = c.len.ensures in
    let one : n ≡ 1 = omega (arith, test, end) in
    let f : ℕ → ℕ = λ i. (c.args.next + i) % n in
    let ks = each_below (length rows) f in
    on_ok_weaker c.deal_to_one.result
    (λ cuts. cuts-one_lane ks rows old c.deal_to_one.new.lanes.items one (length-each_below (length rows) f)
    (all_at (λ k. k < 1) ks (each_below-all (λ k. k < 1) (length rows) f (λ i l. let b = mod_below (c.args.next + i) n (omega (arith, one)) in omega (arith, b, one)))) cuts)
    c.deal_to_one.ensures.ok
