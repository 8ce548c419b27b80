-- What a row grants, in the words of its keys.
use Rattle.std.specs.Prelude.{◌≡◌, ℕ, Bool, true, false, ◌&&◌, List, [], Option, Some, None, bytes_eq}
use Rattle.std.specs.List.{list_any}
use Rattle.js_desc.specs.declared.start.Grant.{Grant}
use Rattle.js_desc.specs.declared.start.Grant.TheVariants.{Whole, Part, Live, LivePart}
use Rattle.policy_row.specs.Rows.{Entries, is_granting}
use Rattle.policy_row.specs.declared.row.Row.{Row}
use Rattle.policy_globals.specs.Hosts.{host_global, host_members}
use Rattle.policy_globals.specs.Keys.{first_name, second_name}
use Rattle.policy_globals.specs.Starts.{Grants, start_for, start_with}
use Rattle.policy_globals.specs.declared.host.HostObject.{HostObject}
use Rattle.policy_globals.specs.declared.host.HostObject.TheVariants.{Fs}

-- MEMBERS THAT ARE GRANTED

abbrev pub is_among : {X : Type 0} → (member : List ℕ) → List (List ℕ × X) → Bool
is_among member ms = list_any (λ m. bytes_eq m.0 member) ms

abbrev pub is_member_of : Option HostObject → (member : List ℕ) → Bool
is_member_of None member = true
is_member_of (Some object) member = is_among member (host_members object)

-- A grant gives a member: the whole of an object of the host each of its members, and a live global whatever the application's own global has there.
abbrev pub gives_member : Option HostObject → (member : List ℕ) → Grant → Bool
gives_member object member (Whole number) = is_member_of object member
gives_member object member (Part ms) = is_among member ms
gives_member object member (Live write) = true
gives_member object member (LivePart ms) = is_among member ms

-- grants by name give a member of a name
abbrev pub give_member : (List ℕ → Option HostObject) → (name member : List ℕ) → Grants → Bool
give_member object name member grants =
    list_any (λ g. bytes_eq g.0 name && gives_member (object g.0) member g.1) grants

-- the built-in module of a start is `fs`
abbrev pub builtin_object : (name : List ℕ) → Option HostObject
builtin_object name = Some Fs

-- KEYS

abbrev pub is_the : Option (List ℕ) → (member : List ℕ) → Bool
is_the None member = true
is_the (Some second) member = bytes_eq second member

-- a key is a prefix of the path of a member: it is the name alone, or the name and the member
-- own: the longest key that is a prefix decides
abbrev pub is_prefix : (name member key : List ℕ) → Bool
is_prefix name member key = bytes_eq (first_name key) name && is_the (second_name key) member

-- a key that grants is a prefix of the path of this member
abbrev pub has_granting_prefix : (name member : List ℕ) → Entries → Bool
has_granting_prefix name member keys = list_any (λ e. is_granting e.1 && is_prefix name member e.0) keys

-- No key of a globals row grants a member that no prefix of it names: what is given of a name, some key grants that is a prefix of it.
abbrev pub A_prefix_grants : Type 0
A_prefix_grants =
    (row : Row) (name member : List ℕ) → give_member host_global name member (start_for (Some row) false).globals ≡ true
    → has_granting_prefix name member row.globals ≡ true

-- the same of the built-in module
abbrev pub A_prefix_grants_of_fs : Type 0
A_prefix_grants_of_fs =
    (row : Row) (name member : List ℕ) → give_member builtin_object name member (start_for (Some row) false).builtins ≡ true
    → has_granting_prefix name member row.builtin ≡ true

-- NOTHING

abbrev pub empty_row : Row
empty_row = record { globals = []; builtin = []; packages = [] }

-- A package with an empty row starts with nothing.
abbrev pub An_empty_row_grants_nothing : Type 0
An_empty_row_grants_nothing = start_for (Some empty_row) false ≡ start_with [] []

-- So does one without a row.
abbrev pub No_row_grants_nothing : Type 0
No_row_grants_nothing = start_for None false ≡ start_with [] []
