use Rattle.std.proofs.Common.{◌≡◌, sym, refl, arith, option_map}
use Rattle.csv.specs.Reading.{strip_bom}
use Rattle.csv.specs.Records.{fields_of}
use Rattle.volcano_locations.specs.Lines.{left_in}
use Rattle.volcano_locations.specs.Stages.{state_of}
use Rattle.volcano_locations.proofs.StandFacts.{stands_first, stands_next, found_there, of_text}
use Rattle.volcano_locations.proofs.record.record_at.Goals as goal

pub loop-init : goal.loop-init
loop-init g c = record {
  stands = stands_first (option_map strip_bom (g.R.ByteIn.remaining c.args.port)) (left_in g.R.ByteIn.remaining c.in_ok-source.source) c.in_ok-source.source.line c.in_ok-source.ensures.bytes c.in_ok-source.ensures.line;
  between = refl;
  whole = c.new-current.ensures.whole;
}

pub loop-preserved : goal.loop-preserved
loop-preserved g c =
    let read = rw c.in-Some.is at c.in_ok-next.ensures.«record» in
    let passes = rw c.in-Some.is at c.in_ok-next.ensures.passes in
    let between = rw c.in-Some.is at c.in_ok-next.ensures.between in
    record {
      stands = stands_next (option_map strip_bom (g.R.ByteIn.remaining c.args.port)) (left_in g.R.ByteIn.remaining c.loop.source) (left_in g.R.ByteIn.remaining c.read_record.new.source) c.loop.counter c.loop.source.line c.read_record.new.source.line
          (state_of c.loop.stage) c.in-Some.next (fields_of c.read_record.new.current.fields) c.loop.invariant.stands read passes;
      between = between;
      whole = c.in_ok-next.ensures.whole;
    }

pub returns-in-Some-2 : goal.returns-in-Some-2
returns-in-Some-2 g c =
    let read = rw c.in-Some-2.is at c.in_ok-read_record.ensures.«record» in
    let line = rw c.in-Some-2.is at c.in_ok-read_record.ensures.line in
    let end = c.loop.auto.counter-end in
    let past = c.loop-test.false in
    let all : c.loop.counter ≡ c.args.number = omega (arith, end, past) in
    of_text (g.R.ByteIn.remaining c.args.port) c.args.number c.read_record-2.new.current.line (fields_of c.read_record-2.new.current.fields)
    (rw (sym all) (found_there (option_map strip_bom (g.R.ByteIn.remaining c.args.port)) (left_in g.R.ByteIn.remaining c.loop.source) (left_in g.R.ByteIn.remaining c.read_record-2.new.source) c.loop.counter c.loop.source.line
    c.read_record-2.new.current.line (state_of c.loop.stage) _ (fields_of c.read_record-2.new.current.fields) c.loop.invariant.stands c.loop.invariant.between read line))
