-- What an overflow says follows from what another one says.
use Rattle.std.proofs.Common.{Option, Some, None, Result, Ok, Err}
use Rattle.std.specs.Prelude.{IfErr, IfSome}
use Rattle.vx_ops_computing.specs.declared.fault.ComputeFault.{ComputeFault}
use Rattle.vx_ops_computing.specs.declared.fault.ComputeFault.TheVariants.{Overflow, NoMemory}
use Rattle.vx_ops_computing.specs.Fault.{Blames}

pub blames-as : (P Q : Type 0) (e : ComputeFault) → (P → Q) → Blames P e → Blames Q e
blames-as P Q Overflow f h = f h
blames-as P Q NoMemory f h = tt

pub err-blames : {T : Type 0} (P Q : Type 0) (r : Result T ComputeFault) → (P → Q) → IfErr r (Blames P) → IfErr r (Blames Q)
err-blames P Q (Ok t) f h = tt
err-blames P Q (Err e) f h = blames-as P Q e f h

pub some-as : {T : Type 0} (P Q : T → Type 0) (o : Option T) → ((t : T) → P t → Q t) → IfSome o P → IfSome o Q
some-as P Q None f h = tt
some-as P Q (Some t) f h = f t h
