-- The same with other references and other symbols, and what a run shows.
use Rattle.std.specs.Prelude.{◌≡◌, ℕ, List, map}
use Rattle.std.specs.Option.{option_map}
use Rattle.lava_base.specs.declared.marks.Marks.{Marks}
use Rattle.js_text.specs.Maps.{map_value}
use Rattle.js_text.specs.declared.value.Symbol.{Symbol}
use Rattle.js_desc.specs.Maps.{map_ask, map_global, map_module, map_reply}
use Rattle.js_store.specs.Maps.{map_object}
use Rattle.js_run.specs.Completions.{Halt}
use Rattle.js_run.specs.Identities.{Message, Requests, Replies}
use Rattle.js_run.specs.Local.{Outgoing, Standing, Waits, Is_short, Has_ended, Local}
use Rattle.js_state.specs.Scopes.{Scope}
use Rattle.js_run.specs.Parties.{Body, Party}
use Rattle.js_run.specs.Runs.{Request, Asks, Imports, Makes}

-- WITH OTHER REFERENCES AND SYMBOLS

abbrev pub map_request : {A B S T : Type 0} → (A → B) → (Symbol S → Symbol T) → Request A S → Request B T
map_request f g (Asks r x) = Asks (f r) (map_ask f g x)
map_request f g (Imports link path) = Imports link path
map_request f g (Makes globals modules meter) = Makes (map (map_global f g) globals) (map (map_module f g) modules) meter

abbrev pub map_message : {A B S T : Type 0} → (A → B) → (Symbol S → Symbol T) → Message A S → Message B T
map_message f g (Requests x) = Requests (map_request f g x)
map_message f g (Replies r) = Replies (map_reply f g r)

abbrev pub map_scope : {A B S T : Type 0} → (A → B) → (Symbol S → Symbol T) → Scope A S → Scope B T
map_scope f g s = record { outer = s.outer; slots = map (option_map (map_value f g)) s.slots }

abbrev pub map_open_body : {A B S T : Type 0} → (A → B) → (Symbol S → Symbol T) → Body A S → Body B T
map_open_body f g b =
    record { kind = b.kind; scope = b.scope; this = option_map (map_value f g) b.this; new_target = option_map f b.new_target; function = option_map f b.function; home = option_map f b.home }

-- a party's own things. Its code has none of its types
abbrev pub map_party : {A B S T : Type 0} → (A → B) → (Symbol S → Symbol T) → Party A S → Party B T
map_party f g p =
    record {
      name = p.name;
      main = p.main;
      modules = p.modules;
      links = p.links;
      builtin = option_map (map_value f g) p.builtin;
      module_map = map (map_module f g) p.module_map;
      meter = p.meter;
      objects = map (map_object f g) p.objects;
      templates = p.templates;
      scopes = map (map_scope f g) p.scopes;
      bodies = map (map_open_body f g) p.bodies;
      depth = p.depth;
      calls = p.calls;
      frozen_errors = p.frozen_errors;
    }

abbrev pub map_mark : {A B : Type 0} → (A → B) → A × Marks → B × Marks
map_mark f e = (f e.0, e.1)

abbrev pub map_outgoing : {A B S T : Type 0} → (A → B) → (Symbol S → Symbol T) → Outgoing A S → Outgoing B T
map_outgoing f g o = record { body = map_message f g o.body; steps = o.steps; marks = map (map_mark f) o.marks }

-- WHAT A RUN SHOWS

-- how a run stands, without what a party keeps
pub data Shows : Type 0 where
  Waiting : Shows
  Cut : Shows
  Ended_with : Halt → Shows

abbrev pub shows : {R S : Type 0} → Standing R S → Shows
shows (Waits own bodies) = Waiting
shows Is_short = Cut
shows (Has_ended e) = Ended_with e

-- what was sent, the steps, and how it stands
pub record Seen (R S : Type 0) : Type 0 where
  pub sent : List (Outgoing R S)
  pub steps : ℕ
  pub standing : Shows

abbrev pub seen : {R S : Type 0} → Local R S → Seen R S
seen r = record { sent = r.sent; steps = r.steps; standing = shows r.standing }

abbrev pub map_seen : {A B S T : Type 0} → (A → B) → (Symbol S → Symbol T) → Seen A S → Seen B T
map_seen f g r = record { sent = map (map_outgoing f g) r.sent; steps = r.steps; standing = r.standing }

-- the second table has the marks of renamed objects
abbrev pub HasMarks : {A B : Type 0} → (A → Marks) → (B → Marks) → (A → B) → Type 0
HasMarks {A} a b f = (x : A) → b (f x) ≡ a x
