use Rattle.std.proofs.Common.{ℕ, List, ◌≡◌, ◌+◌, arith, ap, ◌∙◌, length, get_or, fold}
use Rattle.std.proofs.lemmas.List.{get_or-map, length-map}
use Rattle.std.specs.Hash.FoldHasher.{write, finish}
use Rattle.std.specs.declared.hash.FoldHasher.{FoldHasher}
use Rattle.vx_rows_values.specs.Values.{pick}
use Rattle.vx_rows.specs.Hashing.{row_feed}
use Rattle.vx_rows.specs.View.{row}
use Rattle.vx_match_keys.proofs.FoundFacts.{same-taken, taken-long}
use Rattle.vx_match_keys.proofs.key_hashes.hash_keys.Goals as goal

pub returns-clause-hashes : goal.returns-clause-hashes
returns-clause-hashes c = λ k near.
    let d = c.args.seed.hasher in
    let key = pick c.args.columns.now (row c.args.chunk.now (c.args.from + k)) in
    let hs = c.feed_keys.new.hashers in
    let n = length c.args.hashes.now in
    let taken = taken-long n 64 c.build_hasher-block.result c.requires.block in
    let long : length hs ≡ n = c.feed_keys.ensures.len ∙ taken in
    let whole : length c.finish_all.new.hashes ≡ length hs = ap length c.finish_all.ensures ∙ length-map hs finish in
    ap (λ (l : List ℕ). get_or l k 0) c.finish_all.ensures
    ∙ (get_or-map finish hs k d 0 (omega (arith, whole, near))
    ∙ ap finish (c.feed_keys.ensures.fed k (omega (arith, long, whole, near, taken)) d ∙ ap (λ (h : FoldHasher). fold write h (row_feed key)) (same-taken n 64 k c.build_hasher-block.result d (omega (arith, long, whole, near)) (omega (arith, long, whole, near, c.requires.block)) ∙ c.build_hasher-block.ensures)))
