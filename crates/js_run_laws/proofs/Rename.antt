-- A party's run does not look into references or made symbols: whatever is defined for all types of them is carried along paths of types.
use Rattle.std.proofs.Common.{◌≡◌, ℕ, List, map, Bool, Option, refl, sym, ◌∙◌, subst}
use Rattle.std.specs.Option.{option_map}
use mathlib.Core.Equiv.{◌≃◌}
use Rattle.lava_base.specs.declared.marks.Marks.{Marks}
use Rattle.js_text.specs.Maps.{map_symbol, map_value}
use Rattle.js_text.specs.Naming.{IsAlike, Naming}
use Rattle.js_text.specs.declared.value.Key.{Key}
use Rattle.js_text.specs.declared.value.Value.{Value}
use Rattle.js_text.proofs.Moves.{to, to_symbol, value_moves}
use Rattle.js_desc.specs.Maps.{map_global, map_module}
use Rattle.js_desc.proofs.Moves.{option_moves, list_moves, reference_moves, global_moves, module_moves, ask_moves, reply_moves}
use Rattle.js_desc.proofs.Renamed.{ua, ua_to, back, there_and_back}
use Rattle.js_ordinary.proofs.Moves.{objects_move}
use Rattle.js_ordinary.proofs.Renamed.{naming_moves}
use Rattle.js_term.specs.declared.term.Template.{Template}
use Rattle.js_term.specs.declared.term.TemplateKind.{TemplateKind}
use Rattle.js_run.specs.Identities.{Message, Requests, Replies}
use Rattle.js_run.specs.Local.{Outgoing}
use Rattle.js_run.specs.Maps.{map_request, map_message, map_scope, map_open_body, map_party, map_mark, map_outgoing, HasMarks}
use Rattle.js_run.specs.Outside.{OutsideCall, OutsideAnswer}
use Rattle.js_state.specs.Scopes.{Scope}
use Rattle.js_run.specs.Parties.{Body, Loaded, Party, Shared}
use Rattle.js_run.specs.Runs.{Env, Request, Asks, Imports, Makes}
use Rattle.js_run_laws.proofs.Watch.{Watched, watched, map_watched, with_marks}

module _ {A B S T : Type 0} (p : A ≡ B) (q : S ≡ T) where
  request_moves : (x : Request A S) → coe 0 1 (i. Request (p i) (q i)) x ≡ map_request (to p) (to_symbol q) x
  request_moves (Asks r x) = λ j. Asks (to p r) (ask_moves p q x j)
  request_moves (Imports link path) = λ j. Imports (coe j 1 (_. List ℕ) link) (coe j 1 (_. List ℕ) path)
  request_moves (Makes globals modules meter) = λ j. Makes (list_moves (λ i. Key (q i) × Value (p i) (q i)) (map_global (to p) (to_symbol q)) (global_moves p q) globals j) (list_moves (λ i. List ℕ × Value (p i) (q i)) (map_module (to p) (to_symbol q)) (module_moves p q) modules j) (coe j 1 (_. Option ℕ) meter)

  pub message_moves : (x : Message A S) → coe 0 1 (i. Message (p i) (q i)) x ≡ map_message (to p) (to_symbol q) x
  message_moves (Requests x) = λ j. Requests (request_moves x j)
  message_moves (Replies r) = λ j. Replies (reply_moves p q r j)

  pub messages_move : (xs : List (Message A S)) → coe 0 1 (i. List (Message (p i) (q i))) xs ≡ map (map_message (to p) (to_symbol q)) xs
  messages_move = list_moves (λ i. Message (p i) (q i)) (map_message (to p) (to_symbol q)) message_moves

  value_there : (o : Option (Value A S)) → coe 0 1 (i. Option (Value (p i) (q i))) o ≡ option_map (map_value (to p) (to_symbol q)) o
  value_there = option_moves (λ i. Value (p i) (q i)) (map_value (to p) (to_symbol q)) (value_moves p q)

  scope_moves : (s : Scope A S) → coe 0 1 (i. Scope (p i) (q i)) s ≡ map_scope (to p) (to_symbol q) s
  scope_moves s = λ j. record { outer = s.outer; slots = list_moves (λ i. Option (Value (p i) (q i))) (option_map (map_value (to p) (to_symbol q))) value_there s.slots j }

  open_body_moves : (b : Body A S) → coe 0 1 (i. Body (p i) (q i)) b ≡ map_open_body (to p) (to_symbol q) b
  open_body_moves b = λ j. record {
    kind = coe j 1 (_. TemplateKind) b.kind;
    scope = b.scope;
    this = value_there b.this j;
    new_target = reference_moves p q b.new_target j;
    function = reference_moves p q b.function j;
    home = reference_moves p q b.home j;
  }

  pub party_moves : (r : Party A S) → coe 0 1 (i. Party (p i) (q i)) r ≡ map_party (to p) (to_symbol q) r
  party_moves r = λ j. record {
    name = coe j 1 (_. List ℕ) r.name;
    main = coe j 1 (_. List ℕ) r.main;
    modules = coe j 1 (_. List Loaded) r.modules;
    links = coe j 1 (_. List (List ℕ)) r.links;
    builtin = value_there r.builtin j;
    module_map = list_moves (λ i. List ℕ × Value (p i) (q i)) (map_module (to p) (to_symbol q)) (module_moves p q) r.module_map j;
    meter = coe j 1 (_. Option ℕ) r.meter;
    objects = objects_move p q r.objects j;
    templates = coe j 1 (_. List Template) r.templates;
    scopes = list_moves (λ i. Scope (p i) (q i)) (map_scope (to p) (to_symbol q)) scope_moves r.scopes j;
    bodies = list_moves (λ i. Body (p i) (q i)) (map_open_body (to p) (to_symbol q)) open_body_moves r.bodies j;
    depth = r.depth;
    calls = coe j 1 (_. List OutsideCall) r.calls;
    frozen_errors = r.frozen_errors;
  }

  mark_moves : (e : A × Marks) → coe 0 1 (i. p i × Marks) e ≡ map_mark (to p) e
  mark_moves e = λ j. (to p e.0, coe j 1 (_. Marks) e.1)

  outgoing_moves : (o : Outgoing A S) → coe 0 1 (i. Outgoing (p i) (q i)) o ≡ map_outgoing (to p) (to_symbol q) o
  outgoing_moves o = λ j. record { body = message_moves o.body j; steps = o.steps; marks = list_moves (λ i. p i × Marks) (map_mark (to p)) mark_moves o.marks j }

  watched_moves : (r : Watched A S) → coe 0 1 (i. Watched (p i) (q i)) r ≡ map_watched (to p) (to_symbol q) r
  watched_moves r = λ j. record { sent = list_moves (λ i. Outgoing (p i) (q i)) (map_outgoing (to p) (to_symbol q)) outgoing_moves r.sent j; steps = r.steps; standing = r.standing; looks = list_moves p (to p) (λ x. refl) r.looks j }

  -- the run, carried along
  carried : (names : Naming A S) (shared : Shared) (env : Env A) (start : Party A S) (n : ℕ) (ins : List (Message A S)) → coe 0 1 (i. Watched (p i) (q i)) (watched names shared env start n ins) ≡ watched (coe 0 1 (i. Naming (p i) (q i)) names) shared (coe 0 1 (i. Env (p i)) env) (coe 0 1 (i. Party (p i) (q i)) start) n (coe 0 1 (i. List (Message (p i) (q i))) ins)
  carried names shared env start n ins = λ j. coe j 1 (i. Watched (p i) (q i)) (watched (coe 0 j (i. Naming (p i) (q i)) names) shared (coe 0 j (i. Env (p i)) env) (coe 0 j (i. Party (p i) (q i)) start) n (coe 0 j (i. List (Message (p i) (q i))) ins))

  along : (a : Naming A S) (b : Naming B T) → coe 0 1 (i. Naming (p i) (q i)) a ≡ b → (shared : Shared) (env : Env A) (other : Env B) → coe 0 1 (i. Env (p i)) env ≡ other → (start : Party A S) (n : ℕ) (ins : List (Message A S)) → watched b shared other (map_party (to p) (to_symbol q) start) n (map (map_message (to p) (to_symbol q)) ins) ≡ map_watched (to p) (to_symbol q) (watched a shared env start n ins)
  along a b h shared env other k start n ins =
      sym (λ j. watched (h j) shared (k j) (party_moves start j) n (messages_move ins j))
      ∙ (sym (carried a shared env start n ins) ∙ watched_moves (watched a shared env start n ins))

-- a run with other references and symbols is the run, with others
pub names_do_not_matter : {A B S T : Type 0} (e : A ≃ B) (g : S ≃ T) (a : Naming A S) (b : Naming B T) → IsAlike a b e.0 g.0
    → (shared : Shared) (env : Env A) (marks : B → Marks) → HasMarks env.marks marks e.0 → (start : Party A S) (n : ℕ) (ins : List (Message A S))
    → watched b shared (with_marks marks env) (map_party e.0 (map_symbol g.0) start) n (map (map_message e.0 (map_symbol g.0)) ins) ≡ map_watched e.0 (map_symbol g.0) (watched a shared env start n ins)
names_do_not_matter {A} {B} {S} {T} e g a b alike shared env marks told start n ins =
    let seen : (x : B) → env.marks (back e x) ≡ marks x = λ x. sym (told (back e x)) ∙ (λ k. marks (there_and_back e x k)) in
    let k : coe 0 1 (i. Env (ua e i)) env ≡ with_marks marks env = λ j. record { marks = λ x. seen x j; allows = coe j 1 (_. List ℕ → Bool) env.allows; outside = coe j 1 (_. List OutsideCall → OutsideAnswer) env.outside; free = coe j 1 (_. Bool) env.free; first = coe j 1 (_. Option (List ℕ)) env.first } in
    subst (λ (f : A → B). watched b shared (with_marks marks env) (map_party f (map_symbol g.0) start) n (map (map_message f (map_symbol g.0)) ins) ≡ map_watched f (map_symbol g.0) (watched a shared env start n ins)) (ua_to e)
    (subst (λ (f : S → T). watched b shared (with_marks marks env) (map_party (to (ua e)) (map_symbol f) start) n (map (map_message (to (ua e)) (map_symbol f)) ins) ≡ map_watched (to (ua e)) (map_symbol f) (watched a shared env start n ins)) (ua_to g)
    (along (ua e) (ua g) a b (naming_moves e g a b alike) shared env (with_marks marks env) k start n ins))
