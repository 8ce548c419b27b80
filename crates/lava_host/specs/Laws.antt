-- What follows of the host, in words of its own.
use Rattle.std.specs.Prelude.{◌≡◌, ℕ, Bool, true, ◌&&◌, ◌==◌, not, List, [], Option, Some, None, codes, bytes_eq, Ok, Err}
use Rattle.std.specs.List.{list_all}
use Rattle.lava_base.specs.declared.ids.MadeSymbol.{MadeSymbol}
use Rattle.lava_base.specs.declared.ids.Ref.{Ref}
use Rattle.js_desc.specs.declared.ask.Ask.{Ask}
use Rattle.lava_streams.specs.Counts.{Rises}
use Rattle.lava_host.specs.Hosts.{HostAnswer, HostWorld, Replies}
use Rattle.lava_host.specs.Paths.{names_of_path}
use Rattle.lava_host.specs.declared.fault.HostFault.TheVariants.{Outside, OutOfMemory}
use Rattle.lava_host.specs.declared.fault.Which.{Which}
use Rattle.lava_host.specs.declared.fault.Which.TheVariants as which
use Rattle.lava_host.specs.declared.function.HostFunction.{HostFunction}

-- PATHS

abbrev pub has_no_slash : List ℕ → Bool
has_no_slash name = list_all (λ b. not (b == 47)) name

-- a name that leads one directory down, and nowhere else
abbrev pub is_plain : List ℕ → Bool
is_plain name =
    (not (bytes_eq name []) && (not (bytes_eq name (codes ".")) && not (bytes_eq name (codes "..")))) && has_no_slash name

abbrev pub are_plain : Option (List (List ℕ)) → Bool
are_plain None = true
are_plain (Some names) = list_all is_plain names

-- Whatever path a program gives, the names below the application's folder that it leads to go down alone: so `fs` never looks outside.
abbrev pub Paths_stay_inside : Type 0
Paths_stay_inside = (path : List ℕ) → are_plain (names_of_path path) ≡ true

-- FAULTS

-- how many faults an object of the outside has counted
abbrev pub faults_of : Which → HostWorld → ℕ
faults_of which.Folder w = w.folder.count
faults_of which.Input w = w.input.count
faults_of which.Output w = w.output.count
faults_of which.Errors w = w.errors.count
faults_of which.Clock w = w.clock.count

-- no call on any object failed
abbrev pub NoneFailed : (before after : HostWorld) → Type 0
NoneFailed before after = (w : Which) → faults_of w after ≡ faults_of w before

-- `Outside` names the object whose count rose; at every other answer none has risen
abbrev pub CountsFaults : (before after : HostWorld) → HostAnswer → Type 0
CountsFaults before after (Ok r) = NoneFailed before after
CountsFaults before after (Err (Outside w)) = Rises (faults_of w before) (faults_of w after)
CountsFaults before after (Err OutOfMemory) = NoneFailed before after

-- The host answers `Outside` of an object exactly where a call on that object failed.
abbrev pub Faults_are_counted : Type 0
Faults_are_counted =
    (f : Option HostFunction) (x : Ask Ref MadeSymbol) (emit : Bool) (dir : List ℕ) (before after : HostWorld) (r : HostAnswer)
    → Replies f x emit dir before after r → CountsFaults before after r
