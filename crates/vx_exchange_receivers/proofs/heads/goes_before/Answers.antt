use Rattle.std.proofs.Common.{arith, sym, ◌∙◌, ◌≡◌, ◌≢◌, ◌<◌, Some, slice_get, nat_lt, true, false}
use Rattle.std.proofs.lemmas.Option.{slice_get_within}
use Rattle.vx_rows.specs.View.{row}
use Rattle.vx_exchange_receivers.proofs.HeadFacts.{held-within, read-there, less-before, equal-before, equal-behind, greater-behind}
use Rattle.vx_exchange_receivers.proofs.heads.goes_before.Goals as goal

pub returns-in-Less-clause-before : goal.returns-in-Less-clause-before
returns-in-Less-clause-before c t =
    let hs = c.args.heads.now in
    let a = c.index-heads-p.result in
    let b = c.index-heads-q.result in
    let o = c.requires.other in
    let there_p : slice_get hs c.args.p ≡ Some a = read-there hs c.args.p a (held-within hs c.args.p c.args.i c.requires.row) c.index-heads-p.is in
    let there_q : slice_get hs c.args.q ≡ Some b = read-there hs c.args.q b (slice_get_within hs c.args.q o.0 o.1) c.index-heads-q.is in
    rw (there_p, there_q) (less-before c.args.merge.now (row a.rows c.args.i) (row b.rows b.at) c.args.p c.args.q (sym c.compare_rows.ensures ∙ c.in-Less.is))

pub returns-in-Equal-clause-before : goal.returns-in-Equal-clause-before
returns-in-Equal-clause-before c t =
    let hs = c.args.heads.now in
    let a = c.index-heads-p.result in
    let b = c.index-heads-q.result in
    let o = c.requires.other in
    let there_p : slice_get hs c.args.p ≡ Some a = read-there hs c.args.p a (held-within hs c.args.p c.args.i c.requires.row) c.index-heads-p.is in
    let there_q : slice_get hs c.args.q ≡ Some b = read-there hs c.args.q b (slice_get_within hs c.args.q o.0 o.1) c.index-heads-q.is in
    let lt : c.args.p < c.args.q = (let u : nat_lt c.args.p c.args.q ≡ true = t in grind (arith, u)) in
    rw (there_p, there_q) (equal-before c.args.merge.now (row a.rows c.args.i) (row b.rows b.at) c.args.p c.args.q (sym c.compare_rows.ensures ∙ c.in-Equal.is) lt)

pub returns-in-Equal-clause-behind : goal.returns-in-Equal-clause-behind
returns-in-Equal-clause-behind c t ne =
    let hs = c.args.heads.now in
    let a = c.index-heads-p.result in
    let b = c.index-heads-q.result in
    let o = c.requires.other in
    let there_p : slice_get hs c.args.p ≡ Some a = read-there hs c.args.p a (held-within hs c.args.p c.args.i c.requires.row) c.index-heads-p.is in
    let there_q : slice_get hs c.args.q ≡ Some b = read-there hs c.args.q b (slice_get_within hs c.args.q o.0 o.1) c.index-heads-q.is in
    let lt : c.args.q < c.args.p = (let u : nat_lt c.args.p c.args.q ≡ false = t in let v : c.args.p ≢ c.args.q = ne in grind (arith, u, v)) in
    rw (there_p, there_q) (equal-behind c.args.merge.now (row a.rows c.args.i) (row b.rows b.at) c.args.p c.args.q (sym c.compare_rows.ensures ∙ c.in-Equal.is) lt)

pub returns-in-Greater-clause-behind : goal.returns-in-Greater-clause-behind
returns-in-Greater-clause-behind c t ne =
    let hs = c.args.heads.now in
    let a = c.index-heads-p.result in
    let b = c.index-heads-q.result in
    let o = c.requires.other in
    let there_p : slice_get hs c.args.p ≡ Some a = read-there hs c.args.p a (held-within hs c.args.p c.args.i c.requires.row) c.index-heads-p.is in
    let there_q : slice_get hs c.args.q ≡ Some b = read-there hs c.args.q b (slice_get_within hs c.args.q o.0 o.1) c.index-heads-q.is in
    rw (there_p, there_q) (greater-behind c.args.merge.now (row a.rows c.args.i) (row b.rows b.at) c.args.p c.args.q (sym c.compare_rows.ensures ∙ c.in-Greater.is))
