-- The objects and made symbols in what a party has, sends and is sent, from left to right.
use Rattle.std.specs.Prelude.{◌≡◌, ℕ, List, [], ◌∷◌, ◌++◌, ◌⊎◌}
use Rattle.js_text.specs.Identities.{Identity, Of_object, key_identities, value_identities}
use Rattle.js_desc.specs.Identities.{all_identities, ask_identities, global_identities, module_identities, option_identities, ref_identities, reply_identities}
use Rattle.js_desc.specs.declared.reply.Reply.{Reply}
use Rattle.js_store.specs.Identities.{object_identities}
use Rattle.js_state.specs.Scopes.{Scope}
use Rattle.js_run.specs.Parties.{Body, Party}
use Rattle.js_run.specs.Runs.{Request, Asks, Imports, Makes}

-- what crosses between parties
pub data Message (R S : Type 0) : Type 0 where
  Requests : Request R S → Message R S
  Replies : Reply R S → Message R S

abbrev pub request_identities : {R S : Type 0} → Request R S → List (Identity R S)
request_identities (Asks r x) = Of_object r ∷ ask_identities x
request_identities (Imports link path) = []
request_identities (Makes globals modules meter) = all_identities global_identities globals ++ all_identities module_identities modules

abbrev pub message_identities : {R S : Type 0} → Message R S → List (Identity R S)
message_identities (Requests x) = request_identities x
message_identities (Replies r) = reply_identities r

-- those in a history
abbrev pub history_identities : {R S : Type 0} → List (Message R S) → List (Identity R S)
history_identities xs = all_identities message_identities xs

-- THOSE IN A PARTY'S OWN THINGS

abbrev pub scope_identities : {R S : Type 0} → Scope R S → List (Identity R S)
scope_identities s = all_identities (option_identities value_identities) s.slots

abbrev pub open_body_identities : {R S : Type 0} → Body R S → List (Identity R S)
open_body_identities b =
    option_identities value_identities b.this ++ (option_identities ref_identities b.new_target ++ (option_identities ref_identities b.function ++ option_identities ref_identities b.home))

abbrev pub party_identities : {R S : Type 0} → Party R S → List (Identity R S)
party_identities p =
    all_identities object_identities p.objects
    ++ (all_identities scope_identities p.scopes
    ++ (all_identities open_body_identities p.bodies
    ++ (option_identities value_identities p.builtin ++ all_identities module_identities p.module_map)))

-- what was given to a party
abbrev pub given : {R S : Type 0} → Party R S → List (Message R S) → List (Identity R S)
given start ins = party_identities start ++ history_identities ins

-- one of a list
abbrev pub IsAmong : {A : Type 0} → A → List A → Type 0
IsAmong x [] = ⊥
IsAmong x (y ∷ ys) = (x ≡ y) ⊎ IsAmong x ys
