-- What an answer says of the value that it is.
use Rattle.std.proofs.Common.{◌≡◌, ℤ, Option, Some, sym, ap, ◌∙◌, String, Global, string_bytes}
use Rattle.std.specs.Prelude.{option_map}
use Rattle.vx_rows_values.specs.declared.value.Value.{Value}
use Rattle.vx_rows_values.specs.declared.value.Value.TheVariants as value
use Rattle.vx_rows_values.specs.Values.{Val, num, text}
use Rattle.vx_rows_values.specs.ValueView.{val_of}

pub some-value : (o : Option Value) (v : Value) (m : Option Val) → option_map val_of o ≡ m → o ≡ Some v → m ≡ Some (val_of v)
some-value o v m e is = sym e ∙ ap (option_map val_of) is

pub some-number : (o : Option Value) (v : Value) (z : ℤ) (m : Option Val) → option_map val_of o ≡ m → o ≡ Some v → v ≡ value.Int z → m ≡ Some (num z)
some-number o v z m e is n = some-value o v m e is ∙ ap (λ u. Some (val_of u)) n

pub some-text : (o : Option Value) (v : Value) (s : String Global) (m : Option Val) → option_map val_of o ≡ m → o ≡ Some v → v ≡ value.Text s → m ≡ Some (text (string_bytes s))
some-text o v s m e is n = some-value o v m e is ∙ ap (λ u. Some (val_of u)) n
