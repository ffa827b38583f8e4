use Rattle.std.proofs.Common.{◌≡◌, ◌∙◌, ap, map, Some, None, [], codes}
use Rattle.std.proofs.lemmas.Result.{IfOk-weaker}
use Rattle.std.specs.Option.{option_map_or}
use Rattle.clap.specs.Words.{found_of, rows_of, all_of}
use Rattle.volcano_arguments.proofs.asked.sizes_in.Goals as goal

pub returns-in-Some : goal.returns-in-Some
returns-in-Some c =
    let e : Some (map (λ v. v.now) c.in-Some.arguments.now) ≡ all_of (codes "sizes") (rows_of (found_of c.args.found.now)) = rw (c.in-Some.is) at c.values.ensures in
    IfOk-weaker c.from_slice.result _ _ (λ v h. ap (map (λ t. t.now)) h ∙ ap (λ o. option_map_or (λ ts. ts) o []) e) c.from_slice.ensures.items

pub returns-in-None : goal.returns-in-None
returns-in-None c =
    let e : None ≡ all_of (codes "sizes") (rows_of (found_of c.args.found.now)) = rw (c.in-None.is) at c.values.ensures in
    ap (map (λ t. t.now)) c.new.ensures.items ∙ ap (λ o. option_map_or (λ ts. ts) o []) e
