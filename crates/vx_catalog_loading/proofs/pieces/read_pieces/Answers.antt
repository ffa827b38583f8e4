use Rattle.std.proofs.Common.{◌<◌, length, arith}
use Rattle.vx_catalog_loading.specs.Pieces.{AreShared}
use Rattle.vx_catalog_loading.proofs.Drawn.{both_ok}
use Rattle.vx_catalog_loading.proofs.pieces.read_pieces.Goals as goal

pub returns-clause-each : goal.returns-clause-each
returns-clause-each g c =
    let types = c.args.types.now in
    let text = c.args.text.now in
    let cuts = c.args.cuts.now in
    let shared : AreShared types text cuts c.in_ok-shares.shares.items =
    λ k d near. (c.in_ok-shares.ensures.each k d (omega (arith, near, c.in_ok-shares.ensures.len, c.in_ok-shares.shares.ok.0))).1.met in
    both_ok c.place_shares.result _ _ _ c.place_shares.ensures.len c.place_shares.ensures.read
    (λ v len read i d near. read types text cuts shared i d (let h : i < length v.items = omega (arith, near, len, v.ok.0) in h))
