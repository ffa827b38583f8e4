use Rattle.std.proofs.Common.{◌≡◌, ◌∙◌, ℕ, List, ap, map, string_bytes}
use Rattle.std.proofs.lemmas.List.{map_push}
use Rattle.std.proofs.lemmas.Result.{err_from_is_err_and}
use Rattle.vx_exec_setup.specs.Setup.{entry_of}
use Rattle.volcano_bundle.specs.Bundle.{number_in}
use Rattle.volcano_bundle.proofs.MemberFacts.{member_more, member_none, member_done}
use Rattle.volcano_bundle.proofs.bundle.read_each_size.Goals as goal

pub returns-in_err-workers : goal.returns-in_err-workers
returns-in_err-workers c =
    let l = c.loop-name in
    let p = err_from_is_err_and c.from_residual.result c.from_residual.ensures.1 in
    rw (p.1, p.2) (λ n. member_none number_in (map entry_of l.sizes.items) l.name-iterator (c.in-Some.name.now, c.in-Some.value.now) c.next.new.self _ c.in-Some.ensures.steps c.in_err-workers.ensures.1 l.invariant)

pub loop-name-preserved : goal.loop-name-preserved
loop-name-preserved c =
    let l = c.loop-name in
    let e : entry_of (c.in_ok-from_str.field-0, c.in_ok-workers.workers) ≡ (string_bytes c.in-Some.name.now, c.in_ok-workers.workers) =
    ap (λ (s : List ℕ). let p : List ℕ × ℕ = (s, c.in_ok-workers.workers) in p) (c.in_ok-from_str.ensures.ok ∙ c.as_str.ensures.value) in
    rw (c.in_ok-push.ensures.items, map_push entry_of l.sizes.items _, e)
    (member_more number_in (map entry_of l.sizes.items) l.name-iterator (c.in-Some.name.now, c.in-Some.value.now) c.next.new.self _ _ c.in-Some.ensures.steps c.in_ok-workers.ensures l.invariant)

pub returns : goal.returns
returns c =
    let l = c.loop-name in
    member_done number_in (map entry_of l.sizes.items) l.name-iterator _ c.in-None.ensures.steps.0 l.invariant
