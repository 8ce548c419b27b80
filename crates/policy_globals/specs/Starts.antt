-- What a package starts with.
use Rattle.std.specs.Prelude.{ℕ, ◌==◌, Bool, true, false, List, [], ◌∷◌, length, Option, Some, None, if◌then◌else◌}
use Rattle.std.specs.List.{filter_map}
use Rattle.js_desc.specs.declared.start.Grant.{Grant}
use Rattle.js_desc.specs.declared.start.Grant.TheVariants.{Whole, Part, Live, LivePart}
use Rattle.js_desc.specs.declared.start.Start.{Start}
use Rattle.policy_row.specs.Rows.{Entries, at_name, is_granting, is_write}
use Rattle.policy_row.specs.declared.grade.Grade.{Grade}
use Rattle.policy_row.specs.declared.row.Row.{Row}
use Rattle.policy_globals.specs.Hosts.{host_name, host_number, host_members, host_global, is_intrinsic}
use Rattle.policy_globals.specs.Keys.{firsts, seconds}
use Rattle.policy_globals.specs.declared.host.HostObject.{HostObject}
use Rattle.policy_globals.specs.declared.host.HostObject.TheVariants.{Console, Input, Clock, Fs}

-- grants by name
abbrev pub Grants : Type 0
Grants = List (List ℕ × Grant)

-- THE HOST'S OBJECTS

-- a member is decided by its own key, and where there is none by that of its object
-- own: the longest key that is a prefix decides
abbrev pub deciding : Option Grade → Grade → Bool
deciding None whole = is_granting whole
deciding (Some own) whole = is_granting own

abbrev pub host_member : Entries → Grade → List ℕ → ℕ → Option (List ℕ × ℕ)
host_member parts whole name number = if deciding (at_name name parts) whole then Some (name, number) else None

abbrev pub member_if_granted : Entries → Grade → List ℕ × ℕ → Option (List ℕ × ℕ)
member_if_granted parts whole m = host_member parts whole m.0 m.1

-- the members that are granted, in the order of their numbers
abbrev pub granted_members : Entries → Grade → List (List ℕ × ℕ) → List (List ℕ × ℕ)
granted_members parts whole members = filter_map (member_if_granted parts whole) members

-- the host's object where all its members are granted, else those that are, and nothing where none is
-- LavaMoat policy, attenuation of globals
abbrev pub whole_or_part : ℕ → ℕ → List (List ℕ × ℕ) → Option Grant
whole_or_part number count [] = None
whole_or_part number count (m ∷ ms) = Some (if length (m ∷ ms) == count then Whole number else Part (m ∷ ms))

abbrev pub host_grant : Entries → HostObject → Grade → Option Grant
host_grant parts object whole = whole_or_part (host_number object) (length (host_members object)) (granted_members parts whole (host_members object))

-- OTHER NAMES

abbrev pub live_member : List ℕ → Grade → Option (List ℕ × Bool)
live_member name grade = if is_granting grade then Some (name, is_write grade) else None

abbrev pub member_if_live : List ℕ × Grade → Option (List ℕ × Bool)
member_if_live e = live_member e.0 e.1

abbrev pub live_part : List (List ℕ × Bool) → Option Grant
live_part [] = None
live_part (m ∷ ms) = Some (LivePart (m ∷ ms))

-- a granted name is read of the application's own global, and a false key below it takes nothing away; else the granted members are
-- own: live globals
abbrev pub live_grant : Entries → Grade → Option Grant
live_grant parts whole = if is_granting whole then Some (Live (is_write whole)) else live_part (filter_map member_if_live parts)

-- ALL NAMES

abbrev pub grant_for : Option HostObject → Entries → Grade → Option Grant
grant_for None parts whole = live_grant parts whole
grant_for (Some object) parts whole = host_grant parts object whole

-- what the keys grant of a first name. An intrinsic needs no key
-- LavaMoat policy
abbrev pub grant_of : Entries → List ℕ × Grade → Option Grant
grant_of keys e = if is_intrinsic e.0 then None else grant_for (host_global e.0) (seconds e.0 keys) e.1

abbrev pub with_name : List ℕ → Option Grant → Option (List ℕ × Grant)
with_name name None = None
with_name name (Some grant) = Some (name, grant)

abbrev pub named_grant : Entries → List ℕ × Grade → Option (List ℕ × Grant)
named_grant keys e = with_name e.0 (grant_of keys e)

-- the globals that keys grant, in byte order
-- LavaMoat policy
abbrev pub globals_of : Entries → Grants
globals_of keys = filter_map (named_grant keys) (firsts keys)

abbrev pub builtin_list : Option Grant → Grants
builtin_list None = []
builtin_list (Some grant) = (host_name Fs, grant) ∷ []

abbrev pub builtin_grant : Entries → Option Grade → Option Grant
builtin_grant keys None = None
builtin_grant keys (Some whole) = host_grant (seconds (host_name Fs) keys) Fs whole

-- the built-in module, as far as its keys grant it
-- LavaMoat policy
abbrev pub builtins_of : Entries → Grants
builtins_of keys = builtin_list (builtin_grant keys (at_name (host_name Fs) (firsts keys)))

-- STARTS

-- globals and built-in modules alone
abbrev pub start_with : Grants → Grants → Start
start_with globals builtins = record { name = []; main = []; globals = globals; builtins = builtins; links = []; modules = [] }

abbrev pub whole_grant : HostObject → List ℕ × Grant
whole_grant object = (host_name object, Whole (host_number object))

-- everything of the host
abbrev pub trusted_start : Start
trusted_start =
    start_with (whole_grant Clock ∷ whole_grant Console ∷ whole_grant Input ∷ []) (whole_grant Fs ∷ [])

-- what a row grants; without a row nothing
abbrev pub row_start : Option Row → Start
row_start None = start_with [] []
row_start (Some row) = start_with (globals_of row.globals) (builtins_of row.builtin)

-- what a package starts with: the application's own is trusted with everything
-- LavaMoat policy
abbrev pub start_for : Option Row → Bool → Start
start_for row true = trusted_start
start_for row false = row_start row
