use Rattle.std.proofs.Common.{refl, inl}
use Rattle.volcano_answer.specs.Files.{for_file}
use Rattle.volcano_answer.proofs.FileFacts.{file_all, unreadable_broken, unreadable_long}
use Rattle.volcano_answer.proofs.files.file_bytes.Goals as goal

pub returns-in-Ok-clause-bytes : goal.returns-in-Ok-clause-bytes
returns-in-Ok-clause-bytes g c =
    file_all (g.F.Store.holds c.args.files.now c.args.path.now) (g.F.In.ByteIn.remaining c.in-Some.file) c.in-Ok.bytes.items c.in-Some.ensures.bytes c.in-Ok.ensures.all

pub returns-in-None-clause-refused : goal.returns-in-None-clause-refused
returns-in-None-clause-refused g c = for_file c.in_ok-name.name refl c.in_ok-name.ensures.ok (inl (c.open.ensures.lacking c.in-None.is))

pub returns-in-Err-Broken-clause-refused : goal.returns-in-Err-Broken-clause-refused
returns-in-Err-Broken-clause-refused g c =
    let why = rw c.in-Err-Broken.field-0-is at c.in-Err-Broken.ensures.err in
    for_file c.in_ok-name.name refl c.in_ok-name.ensures.ok
    (unreadable_broken (g.F.Store.is_reliable c.args.files.now c.args.path.now) (g.F.In.ByteIn.has_failed c.read_all.new.reader) (g.F.In.ByteIn.remaining c.in-Some.file)
    (g.F.Store.holds c.args.files.now c.args.path.now) (λ reliable. c.read_all.ensures.reliable (c.in-Some.ensures.reliable reliable)) why)

pub returns-in-Err-TooLarge-clause-refused : goal.returns-in-Err-TooLarge-clause-refused
returns-in-Err-TooLarge-clause-refused g c =
    let why = rw c.in-Err-TooLarge.field-0-is at c.in-Err-TooLarge.ensures.err in
    for_file c.in_ok-name.name refl c.in_ok-name.ensures.ok
    (unreadable_long (g.F.Store.holds c.args.files.now c.args.path.now) (g.F.In.ByteIn.remaining c.in-Some.file) (g.F.In.ByteIn.has_failed c.read_all.new.reader)
    (g.F.Store.is_reliable c.args.files.now c.args.path.now) c.in-Some.ensures.bytes why)
