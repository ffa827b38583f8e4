-- One more packet at a consumer end.
use Rattle.std.proofs.Common.{ℕ, ◌≡◌, ◌≢◌, ◌<◌, ◌==◌, inl, inr, refl, sym, ap, ◌∙◌, true≢false, arith, subst, All, replicate, List, [], ◌∷◌, ◌++◌, Some, None, Bool, true, false, length, map, slice_get, append-nil, append_assoc}
use Rattle.std.specs.List.{list_all}
use Rattle.std.proofs.Math.ListN.{set, get_or}
use Rattle.std.proofs.Common.{length-set}
use Rattle.std.proofs.lemmas.List.{get_or-set_same, get_or-set_other, get_or-replicate, length-replicate}
use Rattle.std.proofs.lemmas.Option.{slice_get_within, get_or_from_slice_get, slice_get-get_or}
use Rattle.std.proofs.lemmas.List.Elements.{All-nil, All-push}
use Rattle.std.proofs.lemmas.Bool.Decides.{nat_tests, eqb_tells}
use Rattle.std.specs.Ordering.{is_le}
use Rattle.vx_rows_values.specs.Values.{Row}
use Rattle.vx_rows_values.specs.Order.{sorted, compare_on}
use Rattle.vx_rows.specs.Lists.{IsBeginning}
use Rattle.vx_rows_values.specs.declared.value.ColType.{ColType}
use Rattle.vx_plan_nodes.specs.Streams.{Dealt, bearing}
use Rattle.vx_ports.specs.Packets.{brings, last, fault, PacketView, content_rows, rows_of, closes, is_last, is_fault, has_last, has_fault}
use Rattle.vx_ops.specs.Ledger.{Ledger, ConsumerEnd, receive, Makes, Begun, OwnBlame, IsFor, Came}
use Rattle.vx_ops.specs.Begun.{begun_whole}
use Rattle.vx_ops.proofs.Strangers.{none-came}
use Rattle.vx_ops.proofs.Costs.{still-open, other-open}
use Rattle.vx_ops.specs.Turn.{Fits, fresh_ledger, with_packet, after}
use Rattle.vx_ops.specs.declared.turn.Got.{Got}
use Rattle.vx_ops.specs.declared.fault.StreamState.TheVariants.{Running, Ended, Failed}
use Rattle.vx_ops.specs.declared.fault.Fault.{Fault}
use Rattle.vx_ops.specs.declared.fault.Fault.TheVariants.{Own, Passed}
use Rattle.vx_ops.specs.declared.fault.Code.TheVariants.{Stranger}
use Rattle.vx_ops.specs.declared.turn.Want.TheVariants as want
use Rattle.vx_ops.specs.declared.turn.Got.TheVariants as got
use Rattle.vx_ops.specs.declared.turn.Polled.TheVariants as polled
use Rattle.vx_rows.specs.declared.table.Table.{Table}
use Rattle.vx_exchange.specs.Receiver.{EndStands, unmerged_end}
use Rattle.vx_exchange_ends.proofs.Deals.{numbered_same, rows-numbered_same, range-numbered_same, bearing-same, bearing-other, bearing-append, numbers-append, ranges-append}

eqb-same : (i : ℕ) → (i == i) ≡ true
eqb-same i = grind (arith, nat_tests)

-- on no columns all rows are in order
pub sorted-on_none : (xs : List Row) → sorted [] xs ≡ true
sorted-on_none [] = refl
sorted-on_none (x ∷ xs) = rw (all-equal xs, sorted-on_none xs) refl
  where
    all-equal : (ys : List Row) → list_all (λ y. is_le (compare_on [] x y)) ys ≡ true
    all-equal [] = refl
    all-equal (y ∷ ys) = all-equal ys

rows_of-push : (ps : List PacketView) (p : PacketView) → rows_of (ps ++ p ∷ []) ≡ rows_of ps ++ content_rows p.content
rows_of-push [] p = append-nil (content_rows p.content)
rows_of-push (q ∷ ps) p = ap (λ ys. content_rows q.content ++ ys) (rows_of-push ps p) ∙ sym (append_assoc (content_rows q.content) (rows_of ps) (content_rows p.content))

has_last-push : (ps : List PacketView) (p : PacketView) → is_last p.content ≡ true → has_last (ps ++ p ∷ []) ≡ true
has_last-push [] p e = rw e refl
has_last-push (q ∷ ps) p e = let r = has_last-push ps p e in grind (arith, r)

has_fault-push : (ps : List PacketView) (p : PacketView) → is_fault p.content ≡ true → has_fault (ps ++ p ∷ []) ≡ true
has_fault-push [] p e = rw e refl
has_fault-push (q ∷ ps) p e = let r = has_fault-push ps p e in grind (arith, r)

-- a shuffle, after one more packet
dealt-more : (n i : ℕ) (came : ℕ → List PacketView) (p : PacketView) (out : List Row) → i < n → Dealt n out (λ j. rows_of (came j))
    → Dealt n (out ++ content_rows p.content) (λ j. rows_of (with_packet came i (Some p) j))
dealt-more n i came p out lt s =
    let more = content_rows p.content in
    record {
      numbered = s.numbered ++ numbered_same i more;
      whole = numbers-append s.numbered (numbered_same i more) ∙ ap (λ ys. ys ++ map (λ t. t.1) (numbered_same i more)) s.whole ∙ ap (λ ys. out ++ ys) (rows-numbered_same i more);
      in_range = ranges-append n s.numbered (numbered_same i more) s.in_range (range-numbered_same n i more lt);
      lists_are = λ j h. elim (eqb_tells j i) [
        | inl e ↦ bearing-append j s.numbered (numbered_same i more) ∙ rw (e.0, e.1) (ap (λ ys. ys ++ bearing i (numbered_same i more)) (s.lists_are i lt) ∙ ap (λ ys. rows_of (came i) ++ ys) (bearing-same i more) ∙ sym (rows_of-push (came i) p))
        | inr e ↦ bearing-append j s.numbered (numbered_same i more) ∙ rw e.0 (ap (λ ys. bearing j s.numbered ++ ys) (bearing-other j i more e.1) ∙ append-nil (bearing j s.numbered) ∙ s.lists_are j h)
      ];
    }

-- what came begins what came with one more packet
came-more : (j i : ℕ) (came : ℕ → List PacketView) (p : PacketView) (xs : List Row) → IsBeginning xs (rows_of (came j)) → IsBeginning xs (rows_of (with_packet came i (Some p) j))
came-more j i came p xs b = elim (eqb_tells j i) [
  | inl e ↦ rw e.0 (record { rest = b.rest ++ content_rows p.content; joined = sym (append_assoc xs b.rest (content_rows p.content)) ∙ ap (λ ys. ys ++ content_rows p.content) b.joined ∙ sym (rows_of-push (came j) p) })
  | inr e ↦ rw e.0 b
]

-- another producer's packets are as they were
other_came : (j i : ℕ) (came : ℕ → List PacketView) (p : PacketView) → j ≢ i → with_packet came i (Some p) j ≡ came j
other_came j i came p ne = elim (eqb_tells j i) [ inl e ↦ absurd (ne e.1) | inr e ↦ rw e.0 refl ]

-- this producer's are one more
this_came : (i : ℕ) (came : ℕ → List PacketView) (p : PacketView) → with_packet came i (Some p) i ≡ came i ++ p ∷ []
this_came i came p = rw (eqb-same i) refl

some_differ : (flags : List Bool) (i j : ℕ) → slice_get flags i ≡ Some true → slice_get flags j ≡ Some false → i ≢ j
some_differ flags i j a b e = let t : slice_get flags j ≡ Some true = subst (λ k. slice_get flags k ≡ Some true) e a in cc

flag_elsewhere : (flags : List Bool) (i j : ℕ) → j ≢ i → slice_get (set flags i true) j ≡ Some true → slice_get flags j ≡ Some true
flag_elsewhere flags i j ne h =
    let a : j < length (set flags i true) = slice_get_within (set flags i true) j true h in
    let b : j < length flags = rw length-set at a in
    let v : get_or (set flags i true) j false ≡ true = get_or_from_slice_get (set flags i true) j true false h in
    let w : get_or flags j false ≡ true = sym (get_or-set_other flags i j true false ne) ∙ v in
    slice_get-get_or flags j false b ∙ ap Some w

unset_elsewhere : (flags : List Bool) (i j : ℕ) → slice_get (set flags i true) j ≡ Some false → (j ≢ i) × (slice_get flags j ≡ Some false)
unset_elsewhere flags i j h =
    let a : j < length (set flags i true) = slice_get_within (set flags i true) j false h in
    let b : j < length flags = rw length-set at a in
    let v : get_or (set flags i true) j false ≡ false = get_or_from_slice_get (set flags i true) j false false h in
    let ne : j ≢ i = λ e. let t : get_or (set flags i true) j false ≡ true = rw e (get_or-set_same flags i true false (subst (λ k. k < length flags) e b)) in true≢false (sym t ∙ v) in
    let w : get_or flags j false ≡ false = sym (get_or-set_other flags i j true false ne) ∙ v in
    (ne, slice_get-get_or flags j false b ∙ ap Some w)

module _ (port : ConsumerEnd) (next : ℕ) (flags : List Bool) (packet : PacketView) (l : Ledger) (plain : port.merge ≡ []) (unordered : port.in_order ≡ false) where
  unfoldable pub with_one : Ledger → Ledger
  with_one k = record k { came = with_packet k.came next (Some packet) }

  is_within : EndStands port flags next Running l → next < port.producers
  is_within s = subst (λ n. next < n) s.as_many (slice_get_within flags next false (s.is_open refl))

  -- the rows that came may be more
  begun-more : Begun (receive port) l → (k : Ledger) → k.left ≡ l.left → k.right ≡ l.right → k.came ≡ with_packet l.came next (Some packet) → k.gave.rows ≡ l.gave.rows → Begun (receive port) k
  begun-more b k el er ec eg =
      record {
        inputs = b.inputs;
        begins = record {
          left = rw el b.begins.left;
          right = rw er b.begins.right;
          came = λ j. rw ec (came-more j next l.came packet (rows_of (b.inputs.came j)) (b.begins.came j));
        };
        whole = b.whole;
        makes = b.makes;
        gave = rw eg b.gave;
      }

  still_closed : EndStands port flags next Running l → (i : ℕ) → slice_get flags i ≡ Some true → has_last (with_packet l.came next (Some packet) i) ≡ true
  still_closed s i t = rw (other_came i next l.came packet (some_differ flags i next t (s.is_open refl))) (s.closed i t)

  -- what came is still for this end
  all_ours : IsFor port next packet → EndStands port flags next Running l → (i : ℕ) → All (IsFor port i) (with_packet l.came next (Some packet) i)
  all_ours f s i = elim (eqb_tells i next) [
    | inl e ↦ rw (e.1, this_came next l.came packet) (All-push (IsFor port next) (l.came next) packet (s.ours next) f)
    | inr e ↦ rw (other_came i next l.came packet e.1) (s.ours i)
  ]

  -- and none that is not
  none-strange : IsFor port next packet → EndStands port flags next Running l → (i : ℕ) → Came (λ p. IsFor port i p → ⊥) (with_packet l.came next (Some packet) i) → ⊥
  none-strange f s i c = none-came (IsFor port i) (with_packet l.came next (Some packet) i) (all_ours f s i) c

  -- it fails at this packet
  port-fails : (f : Fault) → EndStands port flags next Running l → OwnBlame (receive port) (with_one l) f
      → ((i : ℕ) → Came (λ p. IsFor port i p → ⊥) (with_packet l.came next (Some packet) i) → f ≡ Own Stranger port.exchange)
      → EndStands port flags next (Failed f) (after l (want.Packet next) (got.Packet (Some packet)) (polled.Fault f))
  unfolding with_one
  port-fails f s b t =
      record {
        as_many = s.as_many;
        same = refl;
        begun = begun-more s.begun (after l (want.Packet next) (got.Packet (Some packet)) (polled.Fault f)) refl refl refl refl;
        makes = tt;
        ours = tt;
        is_open = λ e. cc;
        are_open = λ e. cc;
        closed = still_closed s;
        all_closed = λ e. cc;
        tests = λ i c. ap Failed (t i c);
        blame = λ f' e. let e' : f ≡ f' = cc in subst (λ g. OwnBlame (receive port) (with_one l) g) e' b;
      }

  came_last : (P : PacketView → Type 0) → P packet → Came P (with_packet l.came next (Some packet) next)
  came_last P h = rw (this_came next l.came packet) (record { front = l.came next; packet = packet; back = []; joined = refl; is = h })

  -- it takes no packet but one for it from the producer that it asked
  pub port-stranger : (IsFor port next packet → ⊥) → EndStands port flags next Running l
      → EndStands port flags next (Failed (Own Stranger port.exchange)) (after l (want.Packet next) (got.Packet (Some packet)) (polled.Fault (Own Stranger port.exchange)))
  unfolding with_one
  port-stranger h s = port-fails (Own Stranger port.exchange) s (refl, (next, is_within s, came_last (λ p. IsFor port next p → ⊥) h)) (λ i c. refl)

  pub port-broken : IsFor port next packet → packet.content ≡ fault → EndStands port flags next Running l
      → EndStands port flags next (Failed Passed) (after l (want.Packet next) (got.Packet (Some packet)) (polled.Fault Passed))
  unfolding with_one
  port-broken f h s = port-fails Passed s (next, is_within s, rw (this_came next l.came packet) (has_fault-push (l.came next) packet (ap is_fault h))) (λ i c. absurd (none-strange f s i c))

  -- rows come: another producer may be next
  pub port-rows : IsFor port next packet → (rows : List Row) (t : Table) (next' : ℕ) → t.rows ≡ rows → packet.content ≡ brings rows → slice_get flags next' ≡ Some false → EndStands port flags next Running l
      → EndStands port flags next' Running (after l (want.Packet next) (got.Packet (Some packet)) (polled.Gave t))
  port-rows f rows t next' e b o s =
      let d = subst (λ ys. Dealt port.producers (l.gave.rows ++ ys) (λ j. rows_of (with_packet l.came next (Some packet) j))) (ap content_rows b ∙ sym e) (dealt-more port.producers next l.came packet l.gave.rows (is_within s) s.makes.0) in
      let m : Makes (receive port) (after l (want.Packet next) (got.Packet (Some packet)) (polled.Gave t)) (l.gave.rows ++ t.rows) = (d, rw plain (sorted-on_none (l.gave.rows ++ t.rows)), λ e. absurd (true≢false (sym e ∙ unordered))) in
      record {
        as_many = s.as_many;
        same = s.same;
        begun = begun_whole (receive port) (after l (want.Packet next) (got.Packet (Some packet)) (polled.Gave t)) m;
        makes = m;
        ours = all_ours f s;
        is_open = λ _. o;
        are_open = λ _ i u. still-open i next l.came packet (ap closes b) (s.are_open refl i u);
        closed = still_closed s;
        all_closed = λ e. cc;
        tests = λ i c. absurd (none-strange f s i c);
        blame = λ f e. cc;
      }

  last_makes : packet.content ≡ last → EndStands port flags next Running l → Makes (receive port) (with_one l) l.gave.rows
  unfolding with_one
  last_makes b s =
      let d = subst (λ ys. Dealt port.producers ys (λ j. rows_of (with_packet l.came next (Some packet) j))) (ap (λ c. l.gave.rows ++ content_rows c) b ∙ append-nil l.gave.rows) (dealt-more port.producers next l.came packet l.gave.rows (is_within s) s.makes.0) in
      (d, s.makes.1, λ e. absurd (true≢false (sym e ∙ unordered)))

  last_closed : packet.content ≡ last → EndStands port flags next Running l
      → (i : ℕ) → slice_get (set flags next true) i ≡ Some true → has_last (with_packet l.came next (Some packet) i) ≡ true
  last_closed b s i t = elim (eqb_tells i next) [
    | inl e ↦ rw (e.1, this_came next l.came packet) (has_last-push (l.came next) packet (ap is_last b))
    | inr e ↦ rw (other_came i next l.came packet e.1) (s.closed i (flag_elsewhere flags next i e.1 t))
  ]

  -- a producer ends: another one is next
  pub port-last : IsFor port next packet → (next' : ℕ) → packet.content ≡ last → slice_get (set flags next true) next' ≡ Some false → EndStands port flags next Running l
      → EndStands port (set flags next true) next' Running (after l (want.Packet next) (got.Packet (Some packet)) polled.Waiting)
  unfolding with_one
  port-last f next' b o s =
      record {
        as_many = rw length-set s.as_many;
        same = s.same;
        begun = begun_whole (receive port) (after l (want.Packet next) (got.Packet (Some packet)) polled.Waiting) (last_makes b s);
        makes = last_makes b s;
        ours = all_ours f s;
        is_open = λ _. o;
        are_open = λ _ i u. let e = unset_elsewhere flags next i u in other-open i next l.came packet e.0 (s.are_open refl i e.1);
        closed = last_closed b s;
        all_closed = λ e. cc;
        tests = λ i c. absurd (none-strange f s i c);
        blame = λ f e. cc;
      }

  -- the last producer ends
  pub port-ends : IsFor port next packet → packet.content ≡ last → ((k : ℕ) → k < length (set flags next true) → slice_get (set flags next true) k ≡ Some true) → EndStands port flags next Running l
      → EndStands port (set flags next true) next Ended (after l (want.Packet next) (got.Packet (Some packet)) polled.End)
  unfolding with_one
  port-ends f b all s =
      record {
        as_many = rw length-set s.as_many;
        same = refl;
        begun = begun_whole (receive port) (after l (want.Packet next) (got.Packet (Some packet)) polled.End) (last_makes b s);
        makes = last_makes b s;
        ours = all_ours f s;
        is_open = λ e. cc;
        are_open = λ e. cc;
        closed = last_closed b s;
        all_closed = λ e i h. last_closed b s i (all i (let e : length flags ≡ port.producers = s.as_many in rw (length-set, e) h));
        tests = λ i c. absurd (none-strange f s i c);
        blame = λ f e. cc;
      }

-- no packet came: another producer may be next
pub port-waits : (port : ConsumerEnd) (next next' : ℕ) (flags : List Bool) (l : Ledger) → slice_get flags next' ≡ Some false → EndStands port flags next Running l → EndStands port flags next' Running l
port-waits port next next' flags l o s = record {
  as_many = s.as_many;
  same = s.same;
  begun = s.begun;
  makes = s.makes;
  ours = s.ours;
  is_open = λ _. o;
  are_open = s.are_open;
  closed = s.closed;
  all_closed = s.all_closed;
  tests = s.tests;
  blame = s.blame;
}

pub none-taken : (l : Ledger) (next : ℕ) (g : Got) → Fits (want.Packet next) g → ((p : PacketView) → g ≡ got.Packet (Some p) → ⊥) → after l (want.Packet next) g polled.Waiting ≡ l
none-taken l next (got.Packet None) f n = refl
none-taken l next (got.Packet (Some p)) f n = absurd (n p refl)
none-taken l next got.Nothing f n = absurd f
none-taken l next (got.Input p) f n = absurd f

-- no flag of these is set
none_set : (n i : ℕ) → i < n → slice_get (replicate n false) i ≡ Some false
none_set n i l = slice_get-get_or (replicate n false) i false (rw length-replicate l) ∙ ap Some (get_or-replicate n i false false l)

-- nothing came yet
pub port-fresh : (exchange place n : ℕ) (types : List ColType) (flags : List Bool) → flags ≡ replicate n false → 0 < n
    → EndStands (unmerged_end exchange place (length flags) types) flags 0 Running fresh_ledger
port-fresh exchange place n types flags e lt =
    let many : length flags ≡ n = ap length e ∙ length-replicate n false in
    let none : (i : ℕ) → i < n → slice_get flags i ≡ Some false = λ i l. rw e (none_set n i l) in
    let port = unmerged_end exchange place n types in
    let d : Dealt n [] (λ i. rows_of []) = record { numbered = []; whole = refl; in_range = refl; lists_are = λ i h. refl } in
    let m : Makes (receive port) fresh_ledger [] = (d, refl, λ e. absurd (true≢false (sym e))) in
    subst (λ k. EndStands (unmerged_end exchange place k types) flags 0 Running fresh_ledger) (sym many) (record {
      as_many = many;
      same = refl;
      begun = begun_whole (receive port) fresh_ledger m;
      makes = m;
      ours = λ i. All-nil (IsFor port i);
      is_open = λ _. none 0 lt;
      are_open = λ _ i u. refl;
      closed = λ i t. let f : slice_get flags i ≡ Some false = none i (subst (λ k. i < k) many (slice_get_within flags i true t)) in cc;
      all_closed = λ e. cc;
      tests = λ i c. absurd (none-came (IsFor port i) [] (All-nil (IsFor port i)) c);
      blame = λ f e. cc;
    })

-- a packet is for an end if its four names are
pub is-for : (port : ConsumerEnd) (from : ℕ) (p : PacketView) → p.exchange ≡ port.exchange → p.from ≡ from → p.to ≡ port.place → p.types ≡ port.types → IsFor port from p
is-for port from p a b c d = record { exchange = a; from_is = b; to = c; types = d }
