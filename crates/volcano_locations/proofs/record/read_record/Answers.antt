use Rattle.std.proofs.Common.{◌≡◌, ◌∙◌, ℕ, None, true, false, rules, sym}
use Rattle.std.specs.Prelude.{if◌then◌else◌}
use Rattle.csv.specs.Machine.{is_end, ends_at_end}
use Rattle.csv.specs.Records.{fields_of}
use Rattle.volcano_locations.specs.Lines.{left_in}
use Rattle.volcano_locations.specs.Stages.{state_of, action_of, is_between}
use Rattle.volcano_locations.proofs.WalkFacts.{walked_turn, done_turn, done_end, none_end, done_reads, done_passes}
use Rattle.volcano_locations.proofs.record.read_record.Goals as goal
use Rattle.volcano_locations.proofs.record.read_record.Goals.{then-is_between, else-is_between}

pub returns-then-not-ends_record-clause-record : goal.returns-then-not-ends_record-clause-record
returns-then-not-ends_record-clause-record g c =
    let none : c.in_ok-byte.field-0 ≡ None = search rules in
    let ends : ends_at_end (state_of c.loop.stage) ≡ false = search rules in
    none_end (left_in g.R.ByteIn.remaining c.args.source.now) (left_in g.R.ByteIn.remaining c.loop.source) (left_in g.R.ByteIn.remaining c.next.new.self) (state_of c.args.stage) (state_of c.loop.stage)
    (fields_of c.loop.current.fields) (fields_of c.loop.current.fields) c.loop.current.field.items c.args.source.now.line c.loop.source.line c.loop.current.line c.loop.invariant.walked (rw none at c.in_ok-byte.ensures.byte) ends

pub returns-in_default-clause-record : goal.returns-in_default-clause-record
returns-in_default-clause-record g c =
    let none : c.in_ok-byte.field-0 ≡ None = search rules in
    let ends : ends_at_end (state_of c.loop.stage) ≡ true = search rules in
    let inside : is_between (state_of c.loop.stage) ≡ false = search rules in
    let next : c.next.new.self.line ≡ c.loop.source.line = rw none at c.in_ok-byte.ensures.line in
    done_reads (left_in g.R.ByteIn.remaining c.args.source.now) (left_in g.R.ByteIn.remaining c.next.new.self) (state_of c.args.stage) (fields_of c.end_field.new.self.fields) _ c.args.source.now.line c.next.new.self.line c.loop.current.line
    (done_end (left_in g.R.ByteIn.remaining c.args.source.now) (left_in g.R.ByteIn.remaining c.loop.source) (left_in g.R.ByteIn.remaining c.next.new.self) (state_of c.args.stage) (state_of c.loop.stage)
    (fields_of c.loop.current.fields) c.loop.current.field.items c.args.source.now.line c.loop.source.line c.loop.current.line c.next.new.self.line (fields_of c.end_field.new.self.fields) c.loop.invariant.walked (rw none at c.in_ok-byte.ensures.byte) ends inside c.in_ok-end_field.ensures.fields next)

pub returns-in_default-clause-passes : goal.returns-in_default-clause-passes
returns-in_default-clause-passes g c =
    let none : c.in_ok-byte.field-0 ≡ None = search rules in
    let ends : ends_at_end (state_of c.loop.stage) ≡ true = search rules in
    let inside : is_between (state_of c.loop.stage) ≡ false = search rules in
    let next : c.next.new.self.line ≡ c.loop.source.line = rw none at c.in_ok-byte.ensures.line in
    done_passes (left_in g.R.ByteIn.remaining c.args.source.now) (left_in g.R.ByteIn.remaining c.next.new.self) (state_of c.args.stage) _ (fields_of c.end_field.new.self.fields) c.args.source.now.line c.next.new.self.line c.loop.current.line
    (done_end (left_in g.R.ByteIn.remaining c.args.source.now) (left_in g.R.ByteIn.remaining c.loop.source) (left_in g.R.ByteIn.remaining c.next.new.self) (state_of c.args.stage) (state_of c.loop.stage)
    (fields_of c.loop.current.fields) c.loop.current.field.items c.args.source.now.line c.loop.source.line c.loop.current.line c.next.new.self.line (fields_of c.end_field.new.self.fields) c.loop.invariant.walked (rw none at c.in_ok-byte.ensures.byte) ends inside c.in_ok-end_field.ensures.fields next)

pub returns-then-is_last-clause-record : goal.returns-then-is_last-clause-record
returns-then-is_last-clause-record g c =
    let gives = rw c.in-Some.is at c.in_ok-byte.ensures.byte in
    let next = rw c.in-Some.is at c.in_ok-byte.ensures.line in
    let last : is_end (action_of c.step-turn.result.action) ≡ true = sym c.is_last.ensures ∙ c.if-is_last.true in
    done_reads (left_in g.R.ByteIn.remaining c.args.source.now) (left_in g.R.ByteIn.remaining c.next.new.self) (state_of c.args.stage) (fields_of c.take.new.self.fields) c.step-turn.result.stage c.args.source.now.line c.next.new.self.line c.loop.current.line
    (done_turn (left_in g.R.ByteIn.remaining c.args.source.now) (left_in g.R.ByteIn.remaining c.loop.source) (left_in g.R.ByteIn.remaining c.next.new.self) (state_of c.args.stage) c.loop.stage
    (fields_of c.loop.current.fields) c.loop.current.field.items c.args.source.now.line c.loop.source.line c.loop.current.line c.in-Some.byte c.step-turn.result (fields_of c.take.new.self.fields) c.next.new.self.line c.step-turn.ensures c.loop.invariant.walked gives last c.in_ok-take.ensures.fields next)

pub returns-then-is_last-clause-passes : goal.returns-then-is_last-clause-passes
returns-then-is_last-clause-passes g c =
    let gives = rw c.in-Some.is at c.in_ok-byte.ensures.byte in
    let next = rw c.in-Some.is at c.in_ok-byte.ensures.line in
    let last : is_end (action_of c.step-turn.result.action) ≡ true = sym c.is_last.ensures ∙ c.if-is_last.true in
    done_passes (left_in g.R.ByteIn.remaining c.args.source.now) (left_in g.R.ByteIn.remaining c.next.new.self) (state_of c.args.stage) (state_of c.step-turn.result.stage) (fields_of c.take.new.self.fields) c.args.source.now.line c.next.new.self.line c.loop.current.line
    (done_turn (left_in g.R.ByteIn.remaining c.args.source.now) (left_in g.R.ByteIn.remaining c.loop.source) (left_in g.R.ByteIn.remaining c.next.new.self) (state_of c.args.stage) c.loop.stage
    (fields_of c.loop.current.fields) c.loop.current.field.items c.args.source.now.line c.loop.source.line c.loop.current.line c.in-Some.byte c.step-turn.result (fields_of c.take.new.self.fields) c.next.new.self.line c.step-turn.ensures c.loop.invariant.walked gives last c.in_ok-take.ensures.fields next)

pub loop-preserved : goal.loop-preserved
loop-preserved g c =
    let gives = rw c.in-Some.is at c.in_ok-byte.ensures.byte in
    let next = rw c.in-Some.is at c.in_ok-byte.ensures.line in
    let goes : is_end (action_of c.step-turn.result.action) ≡ false = sym c.is_last.ensures ∙ c.if-is_last.false in
    let turn = λ (later : ℕ) (found : later ≡ (if is_between (state_of c.step-turn.result.stage) then c.next.new.self.line else c.loop.current.line)).
    walked_turn (left_in g.R.ByteIn.remaining c.args.source.now) (left_in g.R.ByteIn.remaining c.loop.source) (left_in g.R.ByteIn.remaining c.next.new.self) (state_of c.args.stage) c.loop.stage
    (fields_of c.loop.current.fields) c.loop.current.field.items c.args.source.now.line c.loop.source.line c.loop.current.line c.in-Some.byte c.step-turn.result (fields_of c.take.new.self.fields) c.take.new.self.field.items c.next.new.self.line later
    c.step-turn.ensures c.loop.invariant.walked gives goes c.in_ok-take.ensures.fields c.in_ok-take.ensures.field next found in
    elim c.if-is_between.branch [
      | then-is_between w ↦
          let between : is_between (state_of c.step-turn.result.stage) ≡ true = search rules in
          rw w.current-is (record { walked = turn w.line-current.result (rw between w.line-current.ensures); whole = c.in_ok-take.ensures.whole })
      | else-is_between w ↦
          let inside : is_between (state_of c.step-turn.result.stage) ≡ false = search rules in
          rw w.current-is (record { walked = turn c.take.new.self.line (rw inside c.take.ensures.line); whole = c.in_ok-take.ensures.whole })
    ]
