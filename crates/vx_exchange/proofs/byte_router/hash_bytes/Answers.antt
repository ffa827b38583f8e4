use Rattle.std.proofs.Common.{◌*◌, ◌/◌, ◌-◌, ◌∙◌, ◌≡◌, ap, sym, length, take, take_all, drop, arith}
use Rattle.std.specs.List.{fold}
use Rattle.std.proofs.lemmas.List.{take-append-drop, length-drop}
use Rattle.std.proofs.lemmas.List.Sums.{fold-append}
use Rattle.vx_plan_nodes.specs.ByteRouter.{hash_byte}
use Rattle.vx_exchange.proofs.byte_router.hash_bytes.Goals as goal

pub returns : goal.returns
returns c =
    let bytes = c.args.bytes.now in
    let n = length bytes / 4 * 4 in
    let many = length-drop n bytes in
    let rest : take (length bytes - n) (drop n bytes) ≡ drop n bytes = take_all (length bytes - n) (drop n bytes) (omega (arith, many)) in
    c.hash_each.ensures
    ∙ (ap (fold hash_byte c.hash_fours.result) rest
    ∙ (ap (λ h. fold hash_byte h (drop n bytes)) c.hash_fours.ensures
    ∙ (sym (fold-append hash_byte c.args.start (take n bytes) (drop n bytes)) ∙ ap (fold hash_byte c.args.start) (take-append-drop n bytes))))
