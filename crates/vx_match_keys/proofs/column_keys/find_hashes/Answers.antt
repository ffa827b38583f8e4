use Rattle.std.proofs.Common.{ℕ, ◌++◌, ◌∷◌, [], ◌<◌, arith, sym, ◌∙◌, length, length-set, nat_eq}
use Rattle.std.specs.List.{position_or_len}
use Rattle.std.proofs.lemmas.List.{take_more_set, map_more}
use Rattle.vx_match_keys.proofs.column_keys.find_hashes.Goals as goal

pub loop-i-preserved : goal.loop-i-preserved
loop-i-preserved c =
    let inv = c.loop-i.invariant in
    let number = λ (h : ℕ). position_or_len (nat_eq h) c.args.hashes.now.keys in
    let here : c.loop-i.i < length c.loop-i.found = omega arith in
    record {
      len = length-set c.loop-i.found c.loop-i.i c.hash_or_next.result ∙ inv.len;
      numbers =
          take_more_set c.loop-i.found c.loop-i.i c.hash_or_next.result here
          ∙ ((λ j. inv.numbers j ++ c.hash_or_next.ensures j ∷ []) ∙ sym (map_more number c.args.wanted.now c.loop-i.i 0 (omega arith)));
    }
