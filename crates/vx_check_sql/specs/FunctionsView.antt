-- What functions are in SQL, as the program holds it.
use Rattle.vx_check_sql.specs.Functions.{Form}
use Rattle.vx_check_sql.specs.declared.functions.Form as rust_form

abbrev pub form_of : rust_form.Form → Form
form_of f = record { opening = f.opening.now; second = f.second.now; third = f.third.now; closing = f.closing.now; is_test = f.is_test }
