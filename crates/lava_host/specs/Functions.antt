-- The functions of the host by their numbers.
use Rattle.std.specs.Prelude.{ℕ, ◌==◌, Option, Some, None, if◌then◌else◌}
use Rattle.lava_host.specs.declared.function.HostFunction.{HostFunction}
use Rattle.lava_host.specs.declared.function.HostFunction.TheVariants as function

-- own: the host's objects, by number
abbrev pub function_of : ℕ → Option HostFunction
function_of n =
    if n == 1 then Some function.Log else (if n == 2 then Some function.Info else (if n == 3 then Some function.Warn else (if n == 4 then Some function.Error
    else (if n == 6 then Some function.Line else (if n == 8 then Some function.Now else (if n == 10 then Some function.ReadFileSync else (if n == 11 then Some function.ExistsSync else None)))))))
