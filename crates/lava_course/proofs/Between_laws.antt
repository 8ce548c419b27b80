-- Who sends to whom: two different parties that are there, and what crosses names no other ones.
use Rattle.std.proofs.Common.{◌≡◌, ◌≢◌, ℕ, ◌+◌, ◌<◌, ◌≤◌, ◌==◌, Bool, true, false, ◌&&◌, not, cond, nat_eq, nat_le, nat_lt, List, [], ◌∷◌, ◌++◌, Option, Some, None, refl, ap, ◌∙◌, sym, subst, ◌⊎◌, inl, inr, ⊎_elim, arith, if◌then◌else◌}
use Rattle.std.proofs.lemmas.Bool.{and_from, cases_Bool, eqb-true, lt-ltb, ne_eqb, true≢false}
use Rattle.std.specs.List.{AllByRecursion}
use Rattle.lava_base.specs.declared.ids.MadeSymbol.{MadeSymbol}
use Rattle.lava_base.specs.declared.ids.Ref.{Ref}
use Rattle.lava_base.specs.declared.ids.Ref.TheVariants.{Common, Own}
use Rattle.js_text.specs.Identities.{Identity, Of_object, Of_symbol}
use Rattle.js_text.specs.Naming.{Foreign, Own as Owned, origin_of}
use Rattle.js_desc.specs.Identities.{all_identities}
use Rattle.js_crossing.specs.js_run.Chain.{GoesRight, IsChain, open_pairs, opens}
use Rattle.js_crossing.specs.js_run.Identities.{IsAmong, Message, Replies, Requests, history_identities, message_identities}
use Rattle.js_crossing.specs.js_run.Journal.{Application, Crossing, first_import, received}
use Rattle.js_crossing.specs.js_run.Laws.{HasKnown, IsLawful, is_foreign, is_from_other, known, owner}
use Rattle.js_crossing.specs.js_run.Net.{first, last_receiver, rest}
use Rattle.js_crossing.specs.js_run.Runs.{Asks, Imports, Makes}
use Rattle.js_crossing.specs.Newest.{body_of, crossing_of}
use Rattle.lava_trace.specs.Courses.{is_make, may_cross}
use Rattle.lava_trace.specs.declared.left.TheConstants.{MAX_PARTY}
use Rattle.lava_course.specs.Courses.{IsConnected}
use Rattle.lava_course.proofs.Line_laws.{among_either}

-- a crossing between two parties that are there, which names no others
pub record Inside (app : Application) (x : Crossing) : Type 0 where
  pub sender : x.sender < app.count
  pub receiver : x.receiver < app.count
  pub two : x.receiver ≢ x.sender
  pub owned : (a : Identity Ref MadeSymbol) → IsAmong a (message_identities x.sent.body) → owner a < app.count

abbrev pub AllInside : Application → List Crossing → Type 0
AllInside app journal = AllByRecursion (Inside app) journal

-- no crossing makes a party
abbrev pub MakesNone : Crossing → Type 0
MakesNone x = is_make (body_of x.sent.body) ≡ false

-- WHAT IS KNOWN

received_owned : (app : Application) (p : ℕ) (journal : List Crossing) → AllInside app journal → (a : Identity Ref MadeSymbol) → IsAmong a (history_identities (received p journal)) → owner a < app.count
received_owned app p [] h a k = absurd k
received_owned app p (x ∷ older) h a k =
    ⊎_elim
    (λ e. ⊎_elim (h.0.owned a) (received_owned app p older h.1 a) (among_either a (message_identities x.sent.body) (history_identities (received p older)) (subst (λ b. IsAmong a (history_identities (if b then x.sent.body ∷ received p older else received p older))) e k)))
    (λ e. received_owned app p older h.1 a (subst (λ b. IsAmong a (history_identities (if b then x.sent.body ∷ received p older else received p older))) e k))
    (cases_Bool (nat_eq x.receiver p))

known_owned : (app : Application) → IsConnected app → (p : ℕ) (journal : List Crossing) → AllInside app journal → (a : Identity Ref MadeSymbol) → IsAmong a (known app p journal) → owner a < app.count
known_owned app c p journal h a k = ⊎_elim (c.starts p a) (received_owned app p journal h a) (among_either a (app.starts p) (history_identities (received p journal)) k)

-- what is not foreign to a party is its own, or of the common part
own_owner : (p : ℕ) (a : Identity Ref MadeSymbol) (n : ℕ) → p < n → is_foreign p a ≡ false → owner a < n
own_owner p (Of_object (Common c)) n h e = omega (arith, h)
own_owner p (Of_object (Own q i)) n h e =
    ⊎_elim
    (λ k. let same = eqb-true q.0 p k in omega (arith, h, same))
    (λ k. absurd (true≢false (ap (λ t. is_from_other (if t then Owned i.0 else Foreign)) (sym k) ∙ e)))
    (cases_Bool (nat_eq q.0 p))
own_owner p (Of_symbol s) n h e =
    ⊎_elim
    (λ k. let same = eqb-true s.party.0 p k in omega (arith, h, same))
    (λ k. absurd (true≢false (ap not (sym k) ∙ e)))
    (cases_Bool (nat_eq s.party.0 p))

-- OPEN ASKS

record Apart (app : Application) (e : ℕ × ℕ) : Type 0 where
  sender : e.0 < app.count
  receiver : e.1 < app.count
  two : e.1 ≢ e.0

rest_apart : (app : Application) (es : List (ℕ × ℕ)) → AllByRecursion (Apart app) es → AllByRecursion (Apart app) (rest es)
rest_apart app [] h = tt
rest_apart app (e ∷ es) h = h.1

opened_apart : (app : Application) (m : Message Ref MadeSymbol) (s r : ℕ) (es : List (ℕ × ℕ)) → Apart app (s, r) → AllByRecursion (Apart app) es → AllByRecursion (Apart app) (opens m s r es)
opened_apart app (Requests o) s r es h k = (h, k)
opened_apart app (Replies c) s r es h k = rest_apart app es k

pairs_apart : (app : Application) (journal : List Crossing) → AllInside app journal → AllByRecursion (Apart app) (open_pairs journal)
pairs_apart app [] h = tt
pairs_apart app (x ∷ older) h =
    opened_apart app x.sent.body x.sender x.receiver (open_pairs older) (record { sender = h.0.sender; receiver = h.0.receiver; two = h.0.two }) (pairs_apart app older h.1)

first_apart : (app : Application) (es : List (ℕ × ℕ)) (e : ℕ × ℕ) → AllByRecursion (Apart app) es → first es ≡ Some e → Apart app e
first_apart app [] e h k = absurd cc
first_apart app (d ∷ es) e h k = subst (Apart app) (cc k) h.0

-- THE JOURNAL

last_inside : (app : Application) → IsConnected app → (journal : List Crossing) → AllInside app journal → last_receiver journal < app.count
last_inside app c [] h = let k = c.two in omega (arith, k)
last_inside app c (x ∷ older) h = h.0.receiver

-- what crosses is owned by parties that are there
sent_owned : (app : Application) → IsConnected app → (x : Crossing) (older : List Crossing) → AllInside app older → HasKnown app x older → x.sender < app.count
    → (a : Identity Ref MadeSymbol) → IsAmong a (message_identities x.sent.body) → owner a < app.count
sent_owned app c x older h lawful s a k =
    ⊎_elim (λ e. known_owned app c x.sender older h a (lawful a e k)) (own_owner x.sender a app.count s) (cases_Bool (is_foreign x.sender a))

-- where it goes
record Goes (app : Application) (s r : ℕ) : Type 0 where
  receiver : r < app.count
  two : r ≢ s

goes : (app : Application) → IsConnected app → (m : Message Ref MadeSymbol) (s r : ℕ) (older : List Crossing) → AllInside app older → GoesRight app m s r older
    → is_make (body_of m) ≡ false → ((a : Identity Ref MadeSymbol) → IsAmong a (message_identities m) → owner a < app.count) → Goes app s r
goes app c (Requests (Asks o x)) s r older h g none owned =
    let k = owned (Of_object o) (inl refl) in record { receiver = subst (λ q. q < app.count) (sym g.0) k; two = g.2 }
goes app c (Requests (Imports link path)) s r older h g none owned =
    let allowed : app.allows s (app.links s link) ≡ true = subst (λ q. app.allows s q ≡ true) g.0 g.1 in
    record { receiver = subst (λ q. q < app.count) (sym g.0) (c.linked s link allowed); two = subst (λ q. q ≢ s) (sym g.0) (c.apart s link allowed) }
goes app c (Requests (Makes globals modules meter)) s r older h g none owned = absurd (true≢false none)
goes app c (Replies x) s r older h g none owned =
    let e = first_apart app (open_pairs older) (r, s) (pairs_apart app older h) g in record { receiver = e.sender; two = λ k. e.two (sym k) }

one_inside : (app : Application) → IsConnected app → (x : Crossing) (older : List Crossing) → AllInside app older → HasKnown app x older → x.sender ≡ last_receiver older
    → GoesRight app x.sent.body x.sender x.receiver older → MakesNone x → Inside app x
one_inside app c x older h lawful turn g none =
    let s : x.sender < app.count = subst (λ q. q < app.count) (sym turn) (last_inside app c older h) in
    let owned = sent_owned app c x older h lawful s in
    let to = goes app c x.sent.body x.sender x.receiver older h g none owned in
    record { sender = s; receiver = to.receiver; two = to.two; owned = owned }

first_inside : (app : Application) → IsConnected app → Inside app first_import
first_inside app c = let k = c.two in record { sender = omega (arith, k); receiver = omega (arith, k); two = λ e. omega (arith, e); owned = λ a h. absurd h }

pub journal_inside : (app : Application) → IsConnected app → (journal : List Crossing) → IsChain app journal → IsLawful app journal → AllByRecursion MakesNone journal → AllInside app journal
journal_inside app c [] chain lawful none = tt
journal_inside app c (x ∷ []) chain lawful none = (subst (Inside app) (sym chain) (first_inside app c), tt)
journal_inside app c (x ∷ y ∷ older) chain lawful none =
    let before = journal_inside app c (y ∷ older) chain.1 lawful.1 none.1 in
    (one_inside app c x (y ∷ older) before lawful.0 chain.0.control chain.0.goes none.0, before)

-- LINES

pub inside_crosses : (app : Application) (x : Crossing) → Inside app x → MakesNone x → may_cross app.count (crossing_of x) ≡ true
unfolding may_cross
inside_crosses app x h none =
    and_from (nat_lt x.sender app.count) _ (lt-ltb x.sender app.count h.sender)
    (ap (λ b. if b then (x.receiver == app.count) && nat_le app.count MAX_PARTY else nat_lt x.receiver app.count && not (x.sender == x.receiver)) none
    ∙ and_from (nat_lt x.receiver app.count) (not (x.sender == x.receiver)) (lt-ltb x.receiver app.count h.receiver) (ap not (ne_eqb x.sender x.receiver (λ e. h.two (sym e)))))
