-- Own names numbered in the order of their leaving: equal views come from equal insides.
use Rattle.std.proofs.Common.{◌≡◌, ℕ, suc, ◌+◌, ◌<◌, ◌≤◌, List, [], ◌∷◌, ◌++◌, length, map, Bool, true, false, not, ◌&&◌, ◌||◌, nat_eq, nat_lt, Option, None, refl, sym, ap, ◌∙◌, subst, inl, inr, ⊎_elim, arith, if◌then◌else◌}
use Rattle.std.proofs.lemmas.Bool.{cases_Bool, cases_lt, eq-eqb, ne_eqb}
use mathlib.Core.Equiv.{Iso, equiv_to_iso, iso_to_equiv}
use Rattle.lava_base.specs.Ids.{same_made_symbol, same_ref}
use Rattle.lava_base.specs.SameRefs.{same_ref_decides}
use Rattle.lava_base.specs.SameSymbols.{same_made_symbol_decides}
use Rattle.lava_base.specs.declared.ids.MadeSymbol.{MadeSymbol}
use Rattle.lava_base.specs.declared.ids.Ref.{Ref}
use Rattle.js_text.specs.Identities.{Identity, Of_object, Of_symbol, map_identity}
use Rattle.js_text.specs.Maps.{map_symbol}
use Rattle.js_text.specs.Naming.{IsAlike, Naming, naming_of}
use Rattle.js_run.specs.Heap.{heap}
use Rattle.js_run.specs.Identities.{IsAmong, Message, message_identities}
use Rattle.js_run.specs.Journal.{env_of, received, sent_by, table_of}
use Rattle.js_run.specs.Laws.{IsEnd, IsWaiting, left_first}
use Rattle.js_run.specs.Local.{Local, Outgoing, first_sent, local, takes}
use Rattle.js_run.specs.Maps.{map_message, map_outgoing, seen}
use Rattle.js_run.specs.Mine.{Each_shows_its_own, Same_things_same_views, add_mine, at_number, is_from_here, is_own, local_view, mine, mine_object, mine_symbol, number_of_ref, object_of_identity, position, symbol_of_identity, unviewed, unviewed_object, unviewed_symbol, view_out}
use Rattle.js_run.specs.Net.{rest}
use Rattle.js_run.specs.Parties.{Party, Shared}
use Rattle.js_run.specs.Runs.{Env}
use Rattle.js_run.specs.View.{inner_received, inner_sent, inner_start, is_in, same_identity}
use Rattle.js_run_laws.proofs.Agree.{are_given, takes_keeps, waited_rest}
use Rattle.js_run_laws.proofs.Chain.{had_turn}
use Rattle.js_run_laws.proofs.Looks.{behind, in_front}
use Rattle.js_run_laws.proofs.Own.{ended_so}
use Rattle.js_run_laws.proofs.Renamed.{message_renamed}
use Rattle.js_run_laws.proofs.Restored.{Restores, message_restored}
use Rattle.js_run_laws.proofs.Returns.{Came_back, came_back, in_is, in_view, length_append, oldest, oldest_end, oldest_less, out_is, out_view, own_owner, sent_names}
use Rattle.js_run_laws.proofs.Story.{in_either, self_eq}
use Rattle.js_run_laws.proofs.Swap.{same_self}
use Rattle.js_run_laws.proofs.Two_runs.{Ran, both, carry, end_trans, env_b, first, inner_b, map_append, map_length, more_time, no_first, one_at_most, ran_of, second, sent_few}
use Rattle.js_run_laws.proofs.View.{has_view}

-- NUMBERS AND BACK
same_tells : (x a : Identity Ref MadeSymbol) → same_identity x a ≡ true → x ≡ a
same_tells (Of_object r) (Of_object s) e = ap Of_object ((same_ref_decides r s).0 e)
same_tells (Of_symbol r) (Of_symbol s) e = ap Of_symbol ((same_made_symbol_decides r s).0 e)
same_tells (Of_object r) (Of_symbol s) e = absurd (cc e)
same_tells (Of_symbol r) (Of_object s) e = absurd (cc e)

less_step : (b : Bool) (n k : ℕ) (older : Bool) → (older ≡ true → k < n) → (b || older) ≡ true → (if b then n else k) < suc n
less_step true n k older h e = omega arith
less_step false n k older h e = let z = h e in omega (arith, z)

position_less : (a : Identity Ref MadeSymbol) (known : List (Identity Ref MadeSymbol)) → is_in a known ≡ true → position a known < length known
position_less a [] e = absurd (cc e)
position_less a (x ∷ older) e = less_step (same_identity x a) (length older) (position a older) (is_in a older) (position_less a older) e

number_back : (a : Identity Ref MadeSymbol) (known : List (Identity Ref MadeSymbol)) → is_in a known ≡ true → at_number known (position a known) ≡ a
number_back a [] e = absurd (cc e)
number_back a (x ∷ older) e =
    ⊎_elim
    (λ h. ap (λ b. at_number (x ∷ older) (if b then length older else position a older)) h
    ∙ (ap (λ b. if b then x else at_number older (length older)) (eq-eqb (length older) (length older) refl) ∙ same_tells x a h))
    (λ h.
    let there : is_in a older ≡ true = sym (ap (λ b. b || is_in a older) h) ∙ e in
    let less = position_less a older there in
    ap (λ b. at_number (x ∷ older) (if b then length older else position a older)) h
    ∙ (ap (λ b. if b then x else at_number older (position a older)) (ne_eqb (position a older) (length older) (λ z. omega (arith, z, less))) ∙ number_back a older there))
    (cases_Bool (same_identity x a))

object_back : (known : List (Identity Ref MadeSymbol)) (r : Ref) → (is_own 1 (Of_object r) ≡ true → is_in (Of_object r) known ≡ true) → unviewed_object known (mine_object known r) ≡ r
object_back known r h =
    ⊎_elim
    (λ e. ap (λ b. unviewed_object known (if b then (naming_of 1).own (position (Of_object r) known) else r)) e ∙ ap object_of_identity (number_back (Of_object r) known (h e)))
    (λ e. ap (λ b. unviewed_object known (if b then (naming_of 1).own (position (Of_object r) known) else r)) e ∙ ap (λ b. if b then object_of_identity (at_number known (number_of_ref r)) else r) e)
    (cases_Bool (is_own 1 (Of_object r)))

symbol_back : (known : List (Identity Ref MadeSymbol)) (s : MadeSymbol) → (is_own 1 (Of_symbol s) ≡ true → is_in (Of_symbol s) known ≡ true) → unviewed_symbol known (mine_symbol known s) ≡ s
symbol_back known s h =
    ⊎_elim
    (λ e. ap (λ b. unviewed_symbol known (if b then (naming_of 1).own_symbol (position (Of_symbol s) known) else s)) e ∙ ap symbol_of_identity (number_back (Of_symbol s) known (h e)))
    (λ e. ap (λ b. unviewed_symbol known (if b then (naming_of 1).own_symbol (position (Of_symbol s) known) else s)) e ∙ ap (λ b. if b then symbol_of_identity (at_number known s.id.0) else s) e)
    (cases_Bool (is_own 1 (Of_symbol s)))

-- a body whose own names are known is told by its view
abbrev OwnKnown : List (Identity Ref MadeSymbol) → Message Ref MadeSymbol → Type 0
OwnKnown known x = (a : Identity Ref MadeSymbol) → is_own 1 a ≡ true → IsAmong a (message_identities x) → is_in a known ≡ true

body_back : (known : List (Identity Ref MadeSymbol)) (x : Message Ref MadeSymbol) → OwnKnown known x → unviewed known (map_message (mine_object known) (map_symbol (mine_symbol known)) x) ≡ x
body_back known x h = message_restored (mine_object known) (mine_symbol known) (unviewed_object known) (unviewed_symbol known) x (each x h)
  where
    each : (x : Message Ref MadeSymbol) → OwnKnown known x → Restores (mine_object known) (mine_symbol known) (unviewed_object known) (unviewed_symbol known) (message_identities x)
    each x h (Of_object r) there = ap Of_object (object_back known r (λ e. h (Of_object r) e there))
    each x h (Of_symbol s) there = ap Of_symbol (symbol_back known s (λ e. h (Of_symbol s) e there))

told_by_view : (known : List (Identity Ref MadeSymbol)) (x y : Message Ref MadeSymbol) → OwnKnown known x → OwnKnown known y → map_message (mine_object known) (map_symbol (mine_symbol known)) x ≡ map_message (mine_object known) (map_symbol (mine_symbol known)) y → x ≡ y
told_by_view known x y hx hy e = sym (body_back known x hx) ∙ (ap (unviewed known) e ∙ body_back known y hy)

-- what left is known
identity_self : (a : Identity Ref MadeSymbol) → same_identity a a ≡ true
identity_self (Of_object r) = same_self same_ref same_ref_decides r
identity_self (Of_symbol s) = same_self same_made_symbol same_made_symbol_decides s

in_more : (a x : Identity Ref MadeSymbol) (known : List (Identity Ref MadeSymbol)) → is_in a known ≡ true → is_in a (x ∷ known) ≡ true
in_more a x known h = ⊎_elim (λ e. ap (λ b. b || is_in a known) e) (λ e. ap (λ b. b || is_in a known) e ∙ h) (cases_Bool (same_identity x a))

add_keeps : (names known : List (Identity Ref MadeSymbol)) (a : Identity Ref MadeSymbol) → is_in a known ≡ true → is_in a (add_mine names known) ≡ true
add_keeps [] known a h = h
add_keeps (x ∷ rest) known a h = add_keeps rest (if is_own 1 x && not (is_in x known) then x ∷ known else known) a
    (⊎_elim
    (λ e. subst (λ b. is_in a (if b then x ∷ known else known) ≡ true) (sym e) (in_more a x known h))
    (λ e. subst (λ b. is_in a (if b then x ∷ known else known) ≡ true) (sym e) h)
    (cases_Bool (is_own 1 x && not (is_in x known))))

add_has : (names known : List (Identity Ref MadeSymbol)) (a : Identity Ref MadeSymbol) → is_own 1 a ≡ true → IsAmong a names → is_in a (add_mine names known) ≡ true
add_has [] known a own h = absurd h
add_has (x ∷ rest) known a own h =
    ⊎_elim
    (λ e. add_keeps rest (if is_own 1 x && not (is_in x known) then x ∷ known else known) a (subst (λ z. is_in z (if is_own 1 x && not (is_in x known) then x ∷ known else known) ≡ true) (sym e) (here (ap (is_own 1) (sym e) ∙ own))))
    (λ k. add_has rest (if is_own 1 x && not (is_in x known) then x ∷ known else known) a own k)
    h
  where
    here : is_own 1 x ≡ true → is_in x (if is_own 1 x && not (is_in x known) then x ∷ known else known) ≡ true
    here mine_it = subst (λ b. is_in x (if b && not (is_in x known) then x ∷ known else known) ≡ true) (sym mine_it)
        (⊎_elim
        (λ e. subst (λ b. is_in x (if not b then x ∷ known else known) ≡ true) (sym e) e)
        (λ e. subst (λ b. is_in x (if not b then x ∷ known else known) ≡ true) (sym e) (ap (λ b. b || is_in x known) (identity_self x)))
        (cases_Bool (is_in x known)))

first_has : (left : List ℕ) (a : Identity Ref MadeSymbol) → IsAmong a (left_first 1 left) → is_in a (left_first 1 left) ≡ true
first_has [] a h = absurd h
first_has (i ∷ left) a h = ⊎_elim (λ e. subst (λ z. is_in z (left_first 1 (i ∷ left)) ≡ true) (sym e) (ap (λ b. b || is_in (Of_object ((naming_of 1).own i)) (left_first 1 left)) (identity_self (Of_object ((naming_of 1).own i))))) (λ k. in_more a (Of_object ((naming_of 1).own i)) (left_first 1 left) (first_has left a k)) h

mine_has : (left : List ℕ) (sent : List (Outgoing Ref MadeSymbol)) (a : Identity Ref MadeSymbol) → is_own 1 a ≡ true → IsAmong a (sent_names sent ++ left_first 1 left) → is_in a (mine left sent) ≡ true
mine_has left [] a own h = first_has left a h
mine_has left (o ∷ older) a own h =
    ⊎_elim
    (λ k. ⊎_elim (λ z. add_has (message_identities o.body) (mine left older) a own z) (λ z. add_keeps (message_identities o.body) (mine left older) a (mine_has left older a own (in_front a (sent_names older) (left_first 1 left) z))) (in_either a (message_identities o.body) (sent_names older) k))
    (λ k. add_keeps (message_identities o.body) (mine left older) a (mine_has left older a own (behind a (sent_names older) (left_first 1 left) k)))
    (in_either a (message_identities o.body ++ sent_names older) (left_first 1 left) h)

-- RUNS FROM INSIDE
oldest_skip : {A : Type 0} (k : ℕ) (newer xs : List A) → k ≤ length xs → oldest k (newer ++ xs) ≡ oldest k xs
oldest_skip k [] xs h = refl
oldest_skip k (x ∷ newer) xs h = oldest_less k x (newer ++ xs) (let l = length_append newer xs in omega (arith, h, l)) ∙ oldest_skip k newer xs h

module _ (names : Naming Ref MadeSymbol) (shared : Shared) (env : Env Ref) (start : Party Ref MadeSymbol) (no_first : env.first ≡ None) where
  -- before each that came the party waited, and it had sent what the oldest so many of all that it sent are
  abbrev Steady : ℕ → List (Outgoing Ref MadeSymbol) → List (Message Ref MadeSymbol) → Type 0
  Steady n sent [] = Unit {0}
  Steady n sent (x ∷ older) = IsWaiting (local names shared env start n older).standing × (oldest (length older) sent ≡ (local names shared env start n older).sent) × Steady n sent older

  few : (n : ℕ) (ins : List (Message Ref MadeSymbol)) → length (local names shared env start n ins).sent ≤ length ins
  few n ins = let h = subst (λ (o : Option (List ℕ)). length (local names shared env start n ins).sent ≤ length ins + length (first_sent {R = Ref} {S = MadeSymbol} o)) no_first (sent_few names shared env start n ins) in omega (arith, h)

  oldest_is : (sent : List (Outgoing Ref MadeSymbol)) (k : ℕ) (here : List (Outgoing Ref MadeSymbol)) → length here ≡ k → IsEnd here sent → oldest k sent ≡ here
  oldest_is sent k here size end = subst (λ m. oldest m sent ≡ here) size (ap (oldest (length here)) (sym end.1) ∙ oldest_end end.0 here)

  steady_below : (n : ℕ) (sent : List (Outgoing Ref MadeSymbol)) (ins : List (Message Ref MadeSymbol)) → IsWaiting (local names shared env start n ins).standing → length (local names shared env start n ins).sent ≡ length ins → IsEnd (local names shared env start n ins).sent sent → Steady n sent ins
  steady_below n sent [] wait size end = tt
  steady_below n sent (x ∷ older) wait size end =
      let r = local names shared env start n older in
      let wait' = waited_rest names shared env start n (x ∷ older) wait x older refl in
      let most = one_at_most names shared env n r r.standing x in
      let least = few n older in
      let size' : length r.sent ≡ length older = omega (arith, size, most, least) in
      let end' = end_trans r.sent (local names shared env start n (x ∷ older)).sent sent (takes_keeps names shared env n r r.standing x) end in
      (wait', oldest_is sent (length older) r.sent size' end', steady_below n sent older wait' size' end')

  steady : (n : ℕ) (ins : List (Message Ref MadeSymbol)) (sent : List (Outgoing Ref MadeSymbol)) → Ran names shared env start n ins sent → Steady n sent ins
  steady n [] sent r = tt
  steady n (x ∷ older) sent r =
      let wait = r.waited x older refl in
      let size = r.paced x older refl in
      let end = r.kept x older refl in
      (wait, oldest_is sent (length older) (local names shared env start n older).sent size end, steady_below n sent older wait size end)

  -- two that wait after the same have sent the same
  same_waiting : (n m : ℕ) (ins : List (Message Ref MadeSymbol)) → IsWaiting (local names shared env start n ins).standing → IsWaiting (local names shared env start m ins).standing → local names shared env start n ins ≡ local names shared env start m ins
  same_waiting n m ins wn wm =
      ⊎_elim
      (λ lt. ⊎_elim (λ e. e) (λ cut. absurd (subst IsWaiting cut.0 wn)) (more_time names shared env start n m (omega (arith, lt)) ins))
      (λ le. ⊎_elim (λ e. sym e) (λ cut. absurd (subst IsWaiting cut.0 wm)) (more_time names shared env start m n le ins))
      (cases_lt n m)

  -- equal views of what came: the same came
  same_came : (left : List ℕ) (n m : ℕ) (sent other : List (Outgoing Ref MadeSymbol)) (ins all : List (Message Ref MadeSymbol)) → length ins ≡ length all → Steady n sent ins → Steady m other all → Came_back (left_first 1 left) 1 sent ins → Came_back (left_first 1 left) 1 other all → in_view left sent ins ≡ in_view left other all → ins ≡ all
  same_came left n m sent other [] [] size sa sb ca cb e = refl
  same_came left n m sent other [] (y ∷ all) size sa sb ca cb e = absurd (omega (arith, size))
  same_came left n m sent other (x ∷ ins) [] size sa sb ca cb e = absurd (omega (arith, size))
  same_came left n m sent other (x ∷ ins) (y ∷ all) size sa sb ca cb e =
      let rest : in_view left sent ins ≡ in_view left other all = cc e in
      let same : ins ≡ all = same_came left n m sent other ins all (omega (arith, size)) sa.2 sb.2 ca.1 cb.1 rest in
      let wb : IsWaiting (local names shared env start m ins).standing = subst (λ xs. IsWaiting (local names shared env start m xs).standing) (sym same) sb.0 in
      let runs : (local names shared env start n ins).sent ≡ (local names shared env start m all).sent = ap (λ (l : Local Ref MadeSymbol). l.sent) (same_waiting n m ins sa.0 wb) ∙ ap (λ xs. (local names shared env start m xs).sent) same in
      let before : oldest (length ins) sent ≡ oldest (length all) other = sa.1 ∙ (runs ∙ sym sb.1) in
      let known = mine left (oldest (length ins) sent) in
      let heads : map_message (mine_object known) (map_symbol (mine_symbol known)) x ≡ map_message (mine_object (mine left (oldest (length all) other))) (map_symbol (mine_symbol (mine left (oldest (length all) other)))) y = cc e in
      let here : map_message (mine_object known) (map_symbol (mine_symbol known)) x ≡ map_message (mine_object known) (map_symbol (mine_symbol known)) y = subst (λ os. map_message (mine_object known) (map_symbol (mine_symbol known)) x ≡ map_message (mine_object (mine left os)) (map_symbol (mine_symbol (mine left os))) y) (sym before) heads in
      let hx : OwnKnown known x = λ a own there. mine_has left (oldest (length ins) sent) a own (ca.0 a own there) in
      let hy : OwnKnown known y = λ a own there. mine_has left (oldest (length ins) sent) a own (subst (λ os. IsAmong a (sent_names os ++ left_first 1 left)) (sym before) (cb.0 a own there)) in
      λ j. told_by_view known x y hx hy here j ∷ same j

-- LISTS APART
split_last : {A : Type 0} (k : ℕ) (xs : List A) → k ≤ length xs → (newer : List A) × (rest : List A) × (xs ≡ newer ++ rest) × (length rest ≡ k)
split_last k [] h = ([], [], refl, omega (arith, h))
split_last k (x ∷ xs) h =
    ⊎_elim
    (λ lt. let s = split_last k xs (omega (arith, lt)) in (x ∷ s.0, s.1, ap (λ l. x ∷ l) s.2, s.3))
    (λ le. ([], x ∷ xs, refl, omega (arith, h, le)))
    (cases_lt k (suc (length xs)))

-- two lists with ends of one length
same_ends : {A : Type 0} (xs ys a b : List A) → length a ≡ length b → xs ++ a ≡ ys ++ b → a ≡ b
same_ends [] [] a b size e = e
same_ends [] (y ∷ ys) a b size e = absurd (let l = ap length e in let m = length_append ys b in omega (arith, l, m, size))
same_ends (x ∷ xs) [] a b size e = absurd (let l = ap length e in let m = length_append xs a in omega (arith, l, m, size))
same_ends (x ∷ xs) (y ∷ ys) a b size e = let rest : xs ++ a ≡ ys ++ b = cc e in same_ends xs ys a b size rest

in_view_length : (left : List ℕ) (sent : List (Outgoing Ref MadeSymbol)) (ins : List (Message Ref MadeSymbol)) → length (in_view left sent ins) ≡ length ins
in_view_length left sent [] = refl
in_view_length left sent (x ∷ ins) = ap suc (in_view_length left sent ins)

in_view_end : (left : List ℕ) (sent : List (Outgoing Ref MadeSymbol)) (newer ins : List (Message Ref MadeSymbol)) → (seen : List (Message Ref MadeSymbol)) × (in_view left sent (newer ++ ins) ≡ seen ++ in_view left sent ins)
in_view_end left sent [] ins = ([], refl)
in_view_end left sent (x ∷ newer) ins =
    let h = in_view_end left sent newer ins in
    let known = mine left (oldest (length (newer ++ ins)) sent) in
    (map_message (mine_object known) (map_symbol (mine_symbol known)) x ∷ h.0, ap (λ l. map_message (mine_object known) (map_symbol (mine_symbol known)) x ∷ l) h.1)

out_view_end : (left : List ℕ) (newer sent : List (Outgoing Ref MadeSymbol)) → IsEnd (out_view left sent) (out_view left (newer ++ sent))
out_view_end left [] sent = ([], refl)
out_view_end left (o ∷ newer) sent =
    let h = out_view_end left newer sent in
    let known = mine left (o ∷ newer ++ sent) in
    (map_outgoing (mine_object known) (map_symbol (mine_symbol known)) o ∷ h.0, ap (λ l. map_outgoing (mine_object known) (map_symbol (mine_symbol known)) o ∷ l) h.1)

out_end : (left : List ℕ) (sent all : List (Outgoing Ref MadeSymbol)) → IsEnd sent all → IsEnd (out_view left sent) (out_view left all)
out_end left sent all h = subst (λ l. IsEnd (out_view left sent) (out_view left l)) h.1 (out_view_end left h.0 sent)

-- WHAT CAME BACK, FROM INSIDE
oldest_map : {A B : Type 0} (f : A → B) (k : ℕ) (xs : List A) → oldest k (map f xs) ≡ map f (oldest k xs)
oldest_map f k [] = refl
oldest_map f k (x ∷ xs) = by (nat_lt (length xs) k) (ap (λ n. nat_lt n k) (map_length f xs)) (oldest_map f k xs)
  where
    by : (b : Bool) → nat_lt (length (map f xs)) k ≡ b → oldest k (map f xs) ≡ map f (oldest k xs) → (if nat_lt (length (map f xs)) k then f x ∷ map f xs else oldest k (map f xs)) ≡ map f (if b then x ∷ xs else oldest k xs)
    by true e h = ap (λ c. (if c then f x ∷ map f xs else oldest k (map f xs))) e
    by false e h = ap (λ c. (if c then f x ∷ map f xs else oldest k (map f xs))) e ∙ h

among_map : {A B : Type 0} (f : A → B) (b : B) (xs : List A) → IsAmong b (map f xs) → (a : A) × IsAmong a xs × (f a ≡ b)
among_map f b [] h = absurd h
among_map f b (x ∷ xs) h = ⊎_elim (λ e. (x, inl refl, sym e)) (λ k. let s = among_map f b xs k in (s.0, inr s.1, s.2)) h

map_among : {A B : Type 0} (f : A → B) (a : A) (xs : List A) → IsAmong a xs → IsAmong (f a) (map f xs)
map_among f a [] h = absurd h
map_among f a (x ∷ xs) h = ⊎_elim (λ e. inl (ap f e)) (λ k. inr (map_among f a xs k)) h

module _ (p : ℕ) (f : Iso Ref Ref) (g : Iso MadeSymbol MadeSymbol) (same : IsAlike (naming_of p) (naming_of 1) f.fun g.fun) where
  -- what is own from inside is the party's own
  owned : (a : Identity Ref MadeSymbol) → is_own 1 (map_identity f.fun g.fun a) ≡ true → is_own p a ≡ true
  owned (Of_object r) e = ap is_from_here (sym (same.origin r)) ∙ e
  owned (Of_symbol s) e =
      let number = (g.fun s).id.0 in
      let there : g.fun s ≡ g.fun ((naming_of p).own_symbol number) = (λ j. record { party = record { 0 = own_owner 1 (Of_symbol (g.fun s)) e j }; id = (g.fun s).id }) ∙ same.own_symbol number in
      let is : s ≡ (naming_of p).own_symbol number = sym (g.linv s) ∙ (ap g.inv there ∙ g.linv ((naming_of p).own_symbol number)) in
      ap (λ (z : MadeSymbol). nat_eq z.party.0 p) is ∙ self_eq p

  sent_names_in : (sent : List (Outgoing Ref MadeSymbol)) → sent_names (map (map_outgoing f.fun (map_symbol g.fun)) sent) ≡ map (map_identity f.fun g.fun) (sent_names sent)
  sent_names_in [] = refl
  sent_names_in (o ∷ older) = (λ j. message_renamed (iso_to_equiv f) (iso_to_equiv g) o.body j ++ sent_names_in older j) ∙ sym (map_append (map_identity f.fun g.fun) (message_identities o.body) (sent_names older))

  left_in : (left : List ℕ) → left_first 1 left ≡ map (map_identity f.fun g.fun) (left_first p left)
  left_in [] = refl
  left_in (i ∷ left) = λ j. Of_object (same.own i j) ∷ left_in left j

  came_in : (left : List ℕ) (sent : List (Outgoing Ref MadeSymbol)) (ins : List (Message Ref MadeSymbol)) → Came_back (left_first p left) p sent ins → Came_back (left_first 1 left) 1 (map (map_outgoing f.fun (map_symbol g.fun)) sent) (map (map_message f.fun (map_symbol g.fun)) ins)
  came_in left sent [] h = tt
  came_in left sent (x ∷ older) h = (
    λ a own there.
        let s = among_map (map_identity f.fun g.fun) a (message_identities x) (subst (λ ns. IsAmong a ns) (message_renamed (iso_to_equiv f) (iso_to_equiv g) x) there) in
        let left_there = h.0 s.0 (owned s.0 (ap (is_own 1) s.2 ∙ own)) s.1 in
        let mapped = map_among (map_identity f.fun g.fun) s.0 (sent_names (oldest (length older) sent) ++ left_first p left) left_there in
        let lists : map (map_identity f.fun g.fun) (sent_names (oldest (length older) sent) ++ left_first p left) ≡ sent_names (oldest (length (map (map_message f.fun (map_symbol g.fun)) older)) (map (map_outgoing f.fun (map_symbol g.fun)) sent)) ++ left_first 1 left =
        map_append (map_identity f.fun g.fun) (sent_names (oldest (length older) sent)) (left_first p left)
        ∙ (λ j. sym (sent_names_in (oldest (length older) sent)) j ++ sym (left_in left) j)
        ∙ ap (λ os. sent_names os ++ left_first 1 left) (sym (oldest_map (map_outgoing f.fun (map_symbol g.fun)) (length older) sent) ∙ ap (λ k. oldest k (map (map_outgoing f.fun (map_symbol g.fun)) sent)) (sym (map_length (map_message f.fun (map_symbol g.fun)) older))) in
        subst (λ b. IsAmong b (sent_names (oldest (length (map (map_message f.fun (map_symbol g.fun)) older)) (map (map_outgoing f.fun (map_symbol g.fun)) sent)) ++ left_first 1 left)) s.2 (subst (λ ns. IsAmong (map_identity f.fun g.fun s.0) ns) lists mapped),
    came_in left sent older h.1,
  )

drop_came : (left : List (Identity Ref MadeSymbol)) (sent : List (Outgoing Ref MadeSymbol)) (newer ins : List (Message Ref MadeSymbol)) → Came_back left 1 sent (newer ++ ins) → Came_back left 1 sent ins
drop_came left sent [] ins h = h
drop_came left sent (x ∷ newer) ins h = drop_came left sent newer ins h.1

drop_steady : (names : Naming Ref MadeSymbol) (shared : Shared) (env : Env Ref) (start : Party Ref MadeSymbol) (no_first : env.first ≡ None) (n : ℕ) (sent : List (Outgoing Ref MadeSymbol)) (newer ins : List (Message Ref MadeSymbol)) → Steady names shared env start no_first n sent (newer ++ ins) → Steady names shared env start no_first n sent ins
drop_steady names shared env start no_first n sent [] ins h = h
drop_steady names shared env start no_first n sent (x ∷ newer) ins h = drop_steady names shared env start no_first n sent newer ins h.2

none_if : {A : Type 0} (xs : List A) → length xs ≡ 0 → xs ≡ []
none_if [] e = refl
none_if (x ∷ xs) e = absurd (omega (arith, e))

pub same_views : Same_things_same_views
same_views app other well also budget limit m n d e p q p0 q0 ew ev a b parts things lefts links tables newer is =
    let w = heap app budget m in
    let v = heap other limit n in
    let hw = ended_so app well budget m d p ew in
    let hv = ended_so other also limit n e q ev in
    let had_w = had_turn app budget m in
    let had_v = had_turn other limit n in
    let env = env_b app other w v d e p q p0 q0 hw hv had_w had_v a b parts things links tables (inner_b app other w v d e p q p0 q0 hw hv had_w had_v a b parts things links tables) in
    let start = inner_start b in
    let none = no_first q q0 in
    let left = app.left p in
    let sa = steady (naming_of 1) other.shared env start none (w.steps p) (inner_received a) (inner_sent a) (first app other w v d e p q p0 q0 hw hv had_w had_v a b parts things links tables) in
    let sb = steady (naming_of 1) other.shared env start none (v.steps q) (inner_received b) (inner_sent b) (second app other w v d e p q p0 q0 hw hv had_w had_v a b parts things links tables) in
    let ca : Came_back (left_first 1 left) 1 (inner_sent a) (inner_received a) = came_in p (equiv_to_iso a.objects) (equiv_to_iso a.symbols) a.same left (sent_by p w.journal) (received p w.journal) (came_back app well p p0 w.journal (are_given app well budget m) had_w) in
    let cb : Came_back (left_first 1 left) 1 (inner_sent b) (inner_received b) = subst (λ l. Came_back (left_first 1 l) 1 (inner_sent b) (inner_received b)) (sym lefts) (came_in q (equiv_to_iso b.objects) (equiv_to_iso b.symbols) b.same (other.left q) (sent_by q v.journal) (received q v.journal) (came_back other also q q0 v.journal (are_given other also limit n) had_v)) in
    let lists : in_view (other.left q) (inner_sent b) (inner_received b) ≡ newer ++ in_view (app.left p) (inner_sent a) (inner_received a) = sym (in_is q (other.left q) b.objects.0 b.symbols.0 q0 v.journal had_v) ∙ (is ∙ ap (λ l. newer ++ l) (in_is p (app.left p) a.objects.0 a.symbols.0 p0 w.journal had_w)) in
    let is' : in_view left (inner_sent b) (inner_received b) ≡ newer ++ in_view left (inner_sent a) (inner_received a) = subst (λ l. in_view l (inner_sent b) (inner_received b) ≡ newer ++ in_view left (inner_sent a) (inner_received a)) (sym lefts) lists in
    let size_b = in_view_length left (inner_sent b) (inner_received b) in
    let size_a = in_view_length left (inner_sent a) (inner_received a) in
    let size_is = ap length is' in
    let size_sum = length_append newer (in_view left (inner_sent a) (inner_received a)) in
    let s = split_last (length (inner_received a)) (inner_received b) (omega (arith, size_b, size_a, size_is, size_sum)) in
    let pieces = in_view_end left (inner_sent b) s.0 s.1 in
    let ends : in_view left (inner_sent b) s.1 ≡ in_view left (inner_sent a) (inner_received a) = same_ends pieces.0 newer _ _ (in_view_length left (inner_sent b) s.1 ∙ (s.3 ∙ sym size_a)) (sym pieces.1 ∙ (ap (in_view left (inner_sent b)) (sym s.2) ∙ is')) in
    let sb' = drop_steady (naming_of 1) other.shared env start none (v.steps q) (inner_sent b) s.0 s.1 (subst (λ xs. Steady (naming_of 1) other.shared env start none (v.steps q) (inner_sent b) xs) s.2 sb) in
    let cb' = drop_came (left_first 1 left) (inner_sent b) s.0 s.1 (subst (λ xs. Came_back (left_first 1 left) 1 (inner_sent b) xs) s.2 cb) in
    let same : inner_received a ≡ s.1 = same_came (naming_of 1) other.shared env start none left (w.steps p) (v.steps q) (inner_sent a) (inner_sent b) (inner_received a) s.1 (sym s.3) sa sb' ca cb' (sym ends) in
    let came : inner_received b ≡ s.0 ++ inner_received a = s.2 ∙ ap (λ l. s.0 ++ l) (sym same) in
    let two = both app other w v d e p q p0 q0 hw hv had_w had_v a b parts things links tables s.0 came in
    let size_all = ap length s.2 in
    let size_parts = length_append s.0 s.1 in
    let size_rest = s.3 in
    let as_many : length s.0 ≡ length newer = omega (arith, size_b, size_a, size_is, size_sum, size_all, size_parts, size_rest) in
    let out_a : view_out a ≡ out_view left (inner_sent a) = out_is p left a.objects.0 a.symbols.0 w.journal in
    let out_b : view_out b ≡ out_view left (inner_sent b) = out_is q (other.left q) b.objects.0 b.symbols.0 v.journal ∙ ap (λ l. out_view l (inner_sent b)) (sym lefts) in
    let there : IsEnd (inner_sent a) (inner_sent b) → IsEnd (view_out a) (view_out b) = λ h. subst (λ l. IsEnd l (view_out b)) (sym out_a) (subst (λ l. IsEnd (out_view left (inner_sent a)) l) (sym out_b) (out_end left (inner_sent a) (inner_sent b) h)) in
    let back : IsEnd (inner_sent b) (inner_sent a) → IsEnd (view_out b) (view_out a) = λ h. subst (λ l. IsEnd l (view_out a)) (sym out_b) (subst (λ l. IsEnd (out_view left (inner_sent b)) l) (sym out_a) (out_end left (inner_sent b) (inner_sent a) h)) in
    record {
      more = λ ne. let h = two.more (λ z. ne (none_if newer (sym as_many ∙ ap length z))) in (there h.0, h.1);
      equal = λ z. ⊎_elim (λ h. inl (there h)) (λ h. inr (back h)) (two.equal (none_if s.0 (as_many ∙ ap length z)));
    }

-- on the view of what came: the same run
by_view : (shared : Shared) (left : List ℕ) (env : Env Ref) (start : Party Ref MadeSymbol) (no_first : env.first ≡ None) (n : ℕ) (sent : List (Outgoing Ref MadeSymbol)) (ins : List (Message Ref MadeSymbol)) → Steady (naming_of 1) shared env start no_first n sent ins → Came_back (left_first 1 left) 1 sent ins → local_view shared left env start n (in_view left sent ins) ≡ local (naming_of 1) shared env start n ins
by_view shared left env start no_first n sent [] steady came = refl
by_view shared left env start no_first n sent (x ∷ older) steady came =
    let before = by_view shared left env start no_first n sent older steady.2 came.1 in
    let r = local (naming_of 1) shared env start n older in
    let known = mine left r.sent in
    let v = map_message (mine_object (mine left (oldest (length older) sent))) (map_symbol (mine_symbol (mine left (oldest (length older) sent)))) x in
    let v_is : v ≡ map_message (mine_object known) (map_symbol (mine_symbol known)) x = ap (λ os. map_message (mine_object (mine left os)) (map_symbol (mine_symbol (mine left os))) x) steady.1 in
    let own : OwnKnown known x = λ a is there. mine_has left r.sent a is (subst (λ os. IsAmong a (sent_names os ++ left_first 1 left)) steady.1 (came.0 a is there)) in
    ap (λ (l : Local Ref MadeSymbol). takes (naming_of 1) shared env n l l.standing (unviewed (mine left l.sent) v)) before
    ∙ ap (takes (naming_of 1) shared env n r r.standing) (ap (unviewed known) v_is ∙ body_back known x own)

pub shows_own : Each_shows_its_own
shows_own app well budget m e p p0 ended =
    let w = heap app budget m in
    let had = had_turn app budget m in
    let h = ended_so app well budget m e p ended in
    let view = has_view app budget m p in
    let i = view.inside in
    record {
      inside = i;
      alone = λ inner told.
          let env = env_of app inner p in
          let ran = carry p app.shared (env_of app (table_of app w.journal) p) (app.own p) (equiv_to_iso i.objects) (equiv_to_iso i.symbols) i.same inner told (w.steps p) (received p w.journal) (sent_by p w.journal) (ran_of app w e p p0 had h) in
          let s = steady (naming_of 1) app.shared env (inner_start i) (no_first p p0) (w.steps p) (inner_received i) (inner_sent i) ran in
          let c = came_in p (equiv_to_iso i.objects) (equiv_to_iso i.symbols) i.same (app.left p) (sent_by p w.journal) (received p w.journal) (came_back app well p p0 w.journal (are_given app well budget m) had) in
          ap (λ xs. seen (local_view app.shared (app.left p) env (inner_start i) (w.steps p) xs)) (in_is p (app.left p) i.objects.0 i.symbols.0 p0 w.journal had)
          ∙ (ap seen (by_view app.shared (app.left p) env (inner_start i) (no_first p p0) (w.steps p) (inner_sent i) (inner_received i) s c)
          ∙ view.alone (table_of app w.journal) inner told);
    }
