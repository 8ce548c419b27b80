-- How runs end, as numbers.
use Rattle.std.specs.Prelude.{ℕ, nat_eq, if◌then◌else◌}
use Rattle.js_machine.specs.declared.frame.Halt.{Halt}
use Rattle.js_machine.specs.declared.frame.Halt.TheVariants as halt

abbrev pub halt_coded : ℕ → Halt
halt_coded n =
    if nat_eq n 0 then halt.Number
    else (if nat_eq n 1 then halt.Text
    else (if nat_eq n 2 then halt.Depth
    else (if nat_eq n 3 then halt.Meter else halt.Outside)))

abbrev pub halt_number : Halt → ℕ
halt_number halt.Number = 0
halt_number halt.Text = 1
halt_number halt.Depth = 2
halt_number halt.Meter = 3
halt_number halt.Outside = 4
