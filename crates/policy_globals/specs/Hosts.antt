-- The names that a policy grants of the host, and those that it need not.
use Rattle.std.specs.Prelude.{ℕ, Bool, List, [], ◌∷◌, Option, Some, None, codes, bytes_eq, if◌then◌else◌}
use Rattle.std.specs.List.{list_any}
use Rattle.policy_globals.specs.declared.host.HostObject.{HostObject}
use Rattle.policy_globals.specs.declared.host.HostObject.TheVariants.{Console, Input, Clock, Fs}
use Rattle.policy_globals.specs.declared.host.TheConstants as host
use Rattle.policy_globals.specs.declared.intrinsic.TheConstants.{INTRINSICS}

-- own: the host's objects
abbrev pub host_name : HostObject → List ℕ
host_name Console = codes "console"
host_name Input = codes "input"
host_name Clock = codes "clock"
host_name Fs = codes "fs"

-- own: the host's objects, by number
abbrev pub host_number : HostObject → ℕ
host_number Console = host.CONSOLE
host_number Input = host.INPUT
host_number Clock = host.CLOCK
host_number Fs = host.FS

-- the members of a table, by name and number
abbrev pub members_in : {X : Type 0} → (X → List ℕ) → List (X × ℕ) → List (List ℕ × ℕ)
members_in text [] = []
members_in text (m ∷ ms) = (text m.0, m.1) ∷ members_in text ms

-- own: the host's members, by name and number
abbrev pub host_members : HostObject → List (List ℕ × ℕ)
host_members Console = members_in (λ name. name.now) host.CONSOLE_MEMBERS
host_members Input = members_in (λ name. name.now) host.INPUT_MEMBERS
host_members Clock = members_in (λ name. name.now) host.CLOCK_MEMBERS
host_members Fs = members_in (λ name. name.now) host.FS_MEMBERS

-- the host's object that is the global of a name. `fs` is a built-in module, and no global
-- own: the host's objects
abbrev pub host_global : List ℕ → Option HostObject
host_global name =
    if bytes_eq name (host_name Console) then Some Console else (if bytes_eq name (host_name Input) then Some Input else (if bytes_eq name (host_name Clock) then Some Clock else None))

-- SES lockdown, the intrinsics that are globals
-- ECMA-262 The Global Object, globalThis
abbrev pub is_intrinsic : List ℕ → Bool
is_intrinsic name = list_any (λ other. bytes_eq name other.now) INTRINSICS
