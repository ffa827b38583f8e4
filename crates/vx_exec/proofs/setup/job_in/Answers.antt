use Rattle.std.proofs.Common.{◌∙◌, sym, map, string_bytes, rules}
use Rattle.vx_exec_runs.specs.Setup.{size_out_of_range, bad_packet, bad_morsel, bad_slack, sizes_set}
use Rattle.vx_exec_setup.specs.Setup.{first_out_of_range}
use Rattle.vx_exec.proofs.WorkerGroupFacts.{none_found, passed, is_within-true, worker_groups_within}
use Rattle.vx_exec.proofs.setup.job_in.Goals as goal

pub of-requires : goal.of-requires
of-requires g c =
    let none = none_found size_out_of_range (first_out_of_range c.args.setup.now.sizes (map string_bytes c.sizes-names.result.now)) c.in_ok-test_ranges.ensures in
    rw c.in_ok-worker_groups.ensures (worker_groups_within c.args.setup.now.sizes (map string_bytes c.sizes-names.result.now) none)

pub returns-in_err-test_workers-clause-gives : goal.returns-in_err-test_workers-clause-gives
unfolding sizes_set
returns-in_err-test_workers-clause-gives g c =
    let failed = rw (c.workers.ensures, c.in_ok-layout.ensures.workers, c.in_ok-worker_groups.ensures) at c.in_err-test_workers.ensures in search rules

pub new-requires-clause-within : goal.new-requires-clause-within
new-requires-clause-within g c =
    let none = none_found size_out_of_range (first_out_of_range c.args.setup.now.sizes (map string_bytes c.sizes-names.result.now)) c.in_ok-test_ranges.ensures in
    record {
      worker_groups = rw (c.in_ok-layout.ensures.worker_groups, c.in_ok-worker_groups.ensures) (worker_groups_within c.args.setup.now.sizes (map string_bytes c.sizes-names.result.now) none);
      packet = rw (c.packet-packet.ensures ∙ sym c.packet.ensures) (is_within-true 4096 c.packet.result (sym c.is_within.ensures ∙ passed c.is_within.result bad_packet c.in_ok-fail_unless.ensures));
      morsel = rw (c.morsel-morsel.ensures ∙ sym c.morsel.ensures) (is_within-true 1000000 c.morsel.result (sym c.is_within-2.ensures ∙ passed c.is_within-2.result bad_morsel c.in_ok-fail_unless-2.ensures));
    }

pub new-requires-clause-room : goal.new-requires-clause-room
new-requires-clause-room g c =
    rw (c.slack-slack.ensures ∙ sym c.slack.ensures) (is_within-true 1024 c.slack.result (sym c.is_within-3.ensures ∙ passed c.is_within-3.result bad_slack c.in_ok-fail_unless-3.ensures))

pub returns-clause-gives : goal.returns-clause-gives
unfolding sizes_set
returns-clause-gives g c =
    let few = rw (c.workers.ensures, c.in_ok-layout.ensures.workers, c.in_ok-worker_groups.ensures) at c.in_ok-test_workers.ensures in
    let made = rw (c.in_ok-layout.ensures.worker_groups, c.in_ok-worker_groups.ensures) at c.new.ensures.sizes in search rules
