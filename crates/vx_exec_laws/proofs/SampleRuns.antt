-- The worked run.
use Rattle.std.proofs.Common.{◌≡◌, ℕ, zero, suc, ◌<◌, ◌≤◌, ◌==◌, true, false, cond, inl, All, [], ◌∷◌, refl, sym, ap, true≢false, arith, append-nil, ne_eqb}
use Rattle.vx_plan_nodes.specs.Plan.{gather, any, scan, group_of}
use Rattle.vx_plan_nodes.specs.Streams.{across, Dealt}
use Rattle.vx_ports.specs.Packets.{Content, brings, last, PacketView, rows_of, has_last, Flows}
use Rattle.vx_worker.specs.Morsels.{morsels}
use Rattle.vx_morsel.specs.Draws.{times, once_below}
use Rattle.std.proofs.lemmas.List.Elements.{All-nil, All-cons}
use Rattle.vx_rows_values.specs.declared.value.ColType.TheVariants.{Int}
use Rattle.vx_ops.specs.Ledger.{Stream, fresh, ConsumerEnd, IsFor}
use Rattle.vx_ops.proofs.Strangers.{none-came}
use Rattle.vx_worker.specs.Fragment.{fragment}
use Rattle.vx_worker.specs.Trace.{scan_morsels, IsWell}
use Rattle.vx_exchange_ends.specs.Tasks.{keep, send}
use Rattle.vx_exec_laws.specs.RunOf.{ship_of}
use Rattle.vx_exec_laws.specs.Samples.{row, setting, plan, put, producer, consumer, SampleRun}
use Rattle.vx_ops.specs.declared.fault.StreamState.TheVariants.{Ended}
use Rattle.vx_ops.specs.Begun.{begun_whole}
use Rattle.vx_exec_laws.proofs.Decks.{past-once}

abbrev heard : ℕ → ℕ → Stream
heard i n = record { rows = morsels (scan_morsels setting n) (i ∷ []); over = Ended }

abbrev scans : Rattle.vx_plan_nodes.specs.Plan.Plan
scans = scan 1 (record { part = any; order = []; keys = [] }) 0 true (group_of 0)

well-producer : (i : ℕ) → morsels (scan_morsels setting 1) (i ∷ []) ≡ row i ∷ [] → IsWell setting (fragment setting i scans) (send (ship_of setting 0 i gather scans)) (producer i)
well-producer i e = record {
  reads = record { scanned = heard i; came = λ n j. [] };
  reads_are = record { scanned = λ n. record { rows = refl; ended = λ e. refl; never_fails = λ f e. cc }; came = λ n. refl };
  out = heard i 1;
  abides = (
    record { left = heard i 1; right = fresh; came = λ j. []; gave = heard i 1 },
    record { scanned = refl; came = refl },
    record { before = begun_whole _ _ refl; ended = λ e. (refl, refl); passes = λ f e. e; tests = tt; holds_back = tt; blame = λ f e. inl e },
    refl,
  );
  ended = refl;
  finished = record {
    sent = λ j. row i ∷ [];
    sends = λ j l. e;
    ports = λ j l. port j l;
    nothing = λ j l. nothing j l;
  };
}
  where
    port : (j : ℕ) → j < 1 → Rattle.vx_exchange_ends.specs.Ship.IsPort (ship_of setting 0 i gather scans) j (row i ∷ []) (put i j)
    port zero l = record {
      parts = (row i ∷ []) ∷ [];
      cut = record { full = (row i ∷ []) ∷ []; rest = []; all_full = (refl, tt); at_most_one = omega arith; shorter = tt; parts_are = refl; rows_are = refl };
      closed = refl;
    }
    port (suc j) l = absurd (omega arith)

    nothing : (j : ℕ) → 1 ≤ j → put i j ≡ []
    nothing zero l = absurd (omega arith)
    nothing (suc j) l = refl

two : (P : ℕ → Type 0) → P 0 → P 1 → (i : ℕ) → i < 2 → P i
two P a b zero l = a
two P a b (suc zero) l = b
two P a b (suc (suc i)) l = absurd (omega arith)

abbrev gathered : Stream
gathered = record { rows = row 1 ∷ row 0 ∷ []; over = Ended }

shuffled : Dealt 2 (row 1 ∷ row 0 ∷ []) (λ i. rows_of (put i 0))
shuffled = record {
  numbered = (1, row 1) ∷ (0, row 0) ∷ [];
  whole = refl;
  in_range = refl;
  lists_are = two (λ i. Rattle.vx_plan_nodes.specs.Streams.bearing i ((1, row 1) ∷ (0, row 0) ∷ []) ≡ rows_of (put i 0)) refl refl;
}

-- the consumer end at the root, and each producer's packets are for it
abbrev root_end : ConsumerEnd
root_end = record { exchange = 0; place = 0; producers = 2; types = Int ∷ []; merge = []; in_order = false }

abbrev packet : ℕ → Content → PacketView
packet i c = record { exchange = 0; from = i; to = 0; types = Int ∷ []; content = c }

all-for : (i : ℕ) → All (IsFor root_end i) (put i 0)
all-for i =
    All-cons (IsFor root_end i) (packet i (brings (row i ∷ []))) (packet i last ∷ []) (record { exchange = refl; from_is = refl; to = refl; types = refl })
    (All-cons (IsFor root_end i) (packet i last) [] (record { exchange = refl; from_is = refl; to = refl; types = refl }) (All-nil (IsFor root_end i)))

well-consumer : IsWell setting (fragment setting 0 plan) (keep (row 1 ∷ row 0 ∷ [])) consumer
well-consumer = record {
  reads = record { scanned = λ n. fresh; came = λ n i. put i 0 };
  reads_are = record { scanned = λ n. record { rows = refl; ended = λ e. cc; never_fails = λ f e. cc }; came = λ n. refl };
  out = gathered;
  abides = (
    record { left = fresh; right = fresh; came = λ i. put i 0; gave = gathered },
    record { scanned = refl; came = refl },
    record {
      before = begun_whole _ _ (shuffled, refl, λ e. absurd (true≢false (sym e)));
      ended = λ e. (two (λ i. has_last (put i 0) ≡ true) refl refl, (shuffled, refl, λ e. absurd (true≢false (sym e))));
      passes = λ f e. absurd e;
      tests = λ i c. absurd (none-came (IsFor root_end i) (put i 0) (all-for i) c);
      holds_back = tt;
      blame = λ f e. cc;
    },
    refl,
  );
  ended = refl;
  finished = (refl, λ j. refl);
}

drawn-once : (x : ℕ) → across 2 (λ w. times x (w ∷ [])) ≡ once_below x 2
drawn-once zero = refl
drawn-once (suc zero) = refl
drawn-once (suc (suc x)) =
    let a : (0 == suc (suc x)) ≡ false = ne_eqb 0 (suc (suc x)) (omega arith) in
    let b : (1 == suc (suc x)) ≡ false = ne_eqb 1 (suc (suc x)) (omega arith) in
    let c : ◌≡◌ {A = ℕ} (cond (0 == suc (suc x)) 1 0) 0 = ap (λ v. cond v 1 0) a in
    let d : ◌≡◌ {A = ℕ} (cond (1 == suc (suc x)) 1 0) 0 = ap (λ v. cond v 1 0) b in
    let z : once_below (suc (suc x)) 2 ≡ 0 = past-once (suc (suc x)) 2 (omega arith) in
    omega (arith, c, d, z)

pub sample-run : SampleRun
sample-run = (
  well-consumer,
  (
    producer,
    record {
      t = 2;
      rise = λ w l. (tt, tt);
      each = drawn-once;
      most = omega arith;
      ended = λ w l e. refl;
    },
    two (λ i. IsWell setting (fragment setting i scans) (send (ship_of setting 0 i gather scans)) (producer i)) (well-producer 0 refl) (well-producer 1 refl),
    λ i j a b. flows i j a b,
  ),
)
  where
    flows : (i j : ℕ) → i < 2 → j < 1 → Flows (put i j) (put i 0)
    flows i zero a b = record { rest = []; begins = append-nil (put i 0); stream = refl; whole = λ e. refl }
    flows i (suc j) a b = absurd (omega arith)
