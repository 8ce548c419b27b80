-- Heads and slots as scopes.
use Rattle.std.proofs.Common.{◌≡◌, ℕ, zero, suc, ◌+◌, ◌<◌, ◌≤◌, List, [], ◌∷◌, ◌++◌, length, take, drop, get_or, slice_set, Option, Some, None, refl, sym, ap, ◌∙◌, subst, arith, replicate, append_assoc, zero-add}
use Rattle.std.proofs.lemmas.List.{drop-set-add, drop-set-lt, take-set-le, get_or-take, get_or-drop, get_or_past, drop-drop, length-take, length-take-le, get_or_append_left, length-drop, set-get_or, take-append-le, drop-append-le, length-append, length-replicate, replicate-append-replicate}
use Rattle.std.proofs.Math.Seq.{set_out, take-set-lt, take-length, take-suc, take-append_seam}
use Rattle.lava_base.specs.declared.ids.MadeSymbol.{MadeSymbol}
use Rattle.lava_base.specs.declared.ids.Ref.{Ref}
use Rattle.js_text.specs.declared.value.Value.{Value}
use Rattle.js_state.specs.Scopes.{Scope, no_scope, scope_at, slot_of, with_slot, with_value}
use Rattle.js_state.specs.LaidOut.{Slots, with_slots, scopes_of, IsLaidOut, IsPlace, IsNoPlace}
use Rattle.js_state.specs.declared.head.Head.{Head}

pub as_many : (hs : List Head) (vs : Slots) → length (scopes_of hs vs) ≡ length hs
as_many [] vs = refl
as_many (h ∷ hs) vs = ap suc (as_many hs (drop h.count vs))

-- the place of a scope's first slot
abbrev place : List Head → ℕ → ℕ
place [] s = 0
place (h ∷ hs) zero = 0
place (h ∷ hs) (suc s) = h.count + place hs s

found : (hs : List Head) (vs : Slots) (s : ℕ) (d : Head) → s < length hs → scope_at (scopes_of hs vs) s ≡ with_slots (get_or hs s d) (drop (place hs s) vs)
found [] vs s d l = absurd (omega (arith, l))
found (h ∷ hs) vs zero d l = refl
found (h ∷ hs) vs (suc s) d l = found hs (drop h.count vs) s d (omega (arith, l)) ∙ ap (with_slots (get_or hs s d)) (drop-drop (place hs s) h.count vs)

-- a scope that is not there
missing : (hs : List Head) (vs : Slots) (s : ℕ) → length hs ≤ s → scope_at (scopes_of hs vs) s ≡ no_scope
missing hs vs s l = get_or_past (scopes_of hs vs) s no_scope (subst (λ n. n ≤ s) (sym (as_many hs vs)) l)

-- where the slots of a scope stand
pub starts : (at end : ℕ) (hs : List Head) (s : ℕ) (d : Head) → IsLaidOut at hs end → s < length hs → (get_or hs s d).start ≡ at + place hs s
starts at end [] s d o l = absurd (omega (arith, l))
starts at end (h ∷ hs) zero d o l = o.0 ∙ omega arith
starts at end (h ∷ hs) (suc s) d o l = starts (at + h.count) end hs s d o.1 (omega (arith, l)) ∙ omega arith

reaches : (at end : ℕ) (hs : List Head) → IsLaidOut at hs end → at ≤ end
reaches at end [] o = omega (arith, o)
reaches at end (h ∷ hs) o = let r = reaches (at + h.count) end hs o.1 in omega (arith, r)

pub ends : (at end : ℕ) (hs : List Head) (s : ℕ) (d : Head) → IsLaidOut at hs end → s < length hs → at + place hs s + (get_or hs s d).count ≤ end
ends at end [] s d o l = absurd (omega (arith, l))
ends at end (h ∷ hs) zero d o l = let r = reaches (at + h.count) end hs o.1 in omega (arith, r)
ends at end (h ∷ hs) (suc s) d o l = let r = ends (at + h.count) end hs s d o.1 (omega (arith, l)) in omega (arith, r)

-- WHAT IS READ

pub outer_found : (hs : List Head) (vs : Slots) (s : ℕ) (d : Head) → s < length hs → (scope_at (scopes_of hs vs) s).outer ≡ (get_or hs s d).outer
outer_found hs vs s d l = ap (λ (x : Scope Ref MadeSymbol). x.outer) (found hs vs s d l)

pub outer_missing : (hs : List Head) (vs : Slots) (s : ℕ) → length hs ≤ s → (scope_at (scopes_of hs vs) s).outer ≡ 0
outer_missing hs vs s l = ap (λ (x : Scope Ref MadeSymbol). x.outer) (missing hs vs s l)

pub slot_found : (hs : List Head) (vs : Slots) (s i : ℕ) (d : Head) → IsLaidOut 0 hs (length vs) → s < length hs → i < (get_or hs s d).count → slot_of (scopes_of hs vs) s i ≡ get_or vs ((get_or hs s d).start + i) None
slot_found hs vs s i d o l k =
    ap (λ (x : Scope Ref MadeSymbol). get_or x.slots i None) (found hs vs s d l)
    ∙ (get_or-take (get_or hs s d).count (drop (place hs s) vs) i None k
    ∙ (get_or-drop (place hs s) vs i None ∙ ap (λ n. get_or vs (n + i) None) (sym (starts 0 (length vs) hs s d o l ∙ omega arith))))

pub slot_within : (hs : List Head) (vs : Slots) (s i : ℕ) (d : Head) → IsLaidOut 0 hs (length vs) → s < length hs → i < (get_or hs s d).count → (get_or hs s d).start + i < length vs
slot_within hs vs s i d o l k = let a = starts 0 (length vs) hs s d o l in let b = ends 0 (length vs) hs s d o l in omega (arith, a, b, k)

pub slot_past : (hs : List Head) (vs : Slots) (s i : ℕ) (d : Head) → s < length hs → (get_or hs s d).count ≤ i → slot_of (scopes_of hs vs) s i ≡ None
slot_past hs vs s i d l k =
    ap (λ (x : Scope Ref MadeSymbol). get_or x.slots i None) (found hs vs s d l)
    ∙ get_or_past (take (get_or hs s d).count (drop (place hs s) vs)) i None (subst (λ n. n ≤ i) (sym (length-take (get_or hs s d).count (drop (place hs s) vs))) (omega (arith, k)))

pub slot_missing : (hs : List Head) (vs : Slots) (s i : ℕ) → length hs ≤ s → slot_of (scopes_of hs vs) s i ≡ None
slot_missing hs vs s i l = ap (λ (x : Scope Ref MadeSymbol). get_or x.slots i None) (missing hs vs s l)

-- WHAT IS WRITTEN

written_at : (hs : List Head) (vs : Slots) (s i : ℕ) (d : Head) (v : Value Ref MadeSymbol) → s < length hs → i < (get_or hs s d).count
    → scopes_of hs (slice_set vs (place hs s + i) (Some v)) ≡ with_slot (scopes_of hs vs) s i v
written_at [] vs s i d v l k = absurd (omega (arith, l))
written_at (h ∷ hs) vs zero i d v l k =
    let e : 0 + i ≡ i = omega arith in
    ap (λ n. scopes_of (h ∷ hs) (slice_set vs n (Some v))) e ∙ (λ j. record { outer = h.outer; slots = take-set-lt h.count vs i (Some v) k j } ∷ scopes_of hs (drop-set-lt h.count vs i (Some v) k j))
written_at (h ∷ hs) vs (suc s) i d v l k =
    let here : take h.count (slice_set vs (h.count + place hs s + i) (Some v)) ≡ take h.count vs = take-set-le h.count vs (h.count + place hs s + i) (Some v) (omega arith) in
    let there : drop h.count (slice_set vs (h.count + (place hs s + i)) (Some v)) ≡ slice_set (drop h.count vs) (place hs s + i) (Some v) = drop-set-add h.count vs (place hs s + i) (Some v) in
    let sum : h.count + place hs s + i ≡ h.count + (place hs s + i) = omega arith in
    (λ j. record { outer = h.outer; slots = here j } ∷ scopes_of hs (drop h.count (slice_set vs (sum j) (Some v))))
    ∙ ((λ j. with_slots h vs ∷ scopes_of hs (there j))
    ∙ ap (λ ss. with_slots h vs ∷ ss) (written_at hs (drop h.count vs) s i d v (omega (arith, l)) k))

slot_written : (hs : List Head) (vs : Slots) (s i : ℕ) (d : Head) (v : Value Ref MadeSymbol) → IsLaidOut 0 hs (length vs) → s < length hs → i < (get_or hs s d).count
    → scopes_of hs (slice_set vs ((get_or hs s d).start + i) (Some v)) ≡ with_slot (scopes_of hs vs) s i v
slot_written hs vs s i d v o l k =
    ap (λ n. scopes_of hs (slice_set vs (n + i) (Some v))) (starts 0 (length vs) hs s d o l ∙ omega arith) ∙ written_at hs vs s i d v l k

pub is_place : (hs : List Head) (s i : ℕ) (d : Head) → s < length hs → i < (get_or hs s d).count → IsPlace hs s i ((get_or hs s d).start + i)
is_place hs s i d l k = record {
  within = λ vs o. slot_within hs vs s i d o l k;
  reads = λ vs o. slot_found hs vs s i d o l k;
  writes = λ vs v o. slot_written hs vs s i d v o l k;
}

-- what is no place is not written
past_written : (hs : List Head) (vs : Slots) (s i : ℕ) (d : Head) (v : Value Ref MadeSymbol) → s < length hs → (get_or hs s d).count ≤ i → with_slot (scopes_of hs vs) s i v ≡ scopes_of hs vs
past_written hs vs s i d v l k =
    let short : length (scope_at (scopes_of hs vs) s).slots ≤ i =
    subst (λ (x : Scope Ref MadeSymbol). length x.slots ≤ i) (sym (found hs vs s d l)) (subst (λ n. n ≤ i) (sym (length-take (get_or hs s d).count (drop (place hs s) vs))) (omega (arith, k))) in
    let same : with_value (scope_at (scopes_of hs vs) s) i v ≡ scope_at (scopes_of hs vs) s = λ j. record (scope_at (scopes_of hs vs) s) { slots = set_out (scope_at (scopes_of hs vs) s).slots i (Some v) short j } in
    ap (λ x. slice_set (scopes_of hs vs) s x) same ∙ set-get_or (scopes_of hs vs) s no_scope

pub no_slot : (hs : List Head) (s i : ℕ) (d : Head) → s < length hs → (get_or hs s d).count ≤ i → IsNoPlace hs s i
no_slot hs s i d l k = record { reads = λ vs. slot_past hs vs s i d l k; writes = λ vs v. past_written hs vs s i d v l k }

pub no_head : (hs : List Head) (s i : ℕ) → length hs ≤ s → IsNoPlace hs s i
no_head hs s i l = record {
  reads = λ vs. slot_missing hs vs s i l;
  writes = λ vs v. set_out (scopes_of hs vs) s (with_value (scope_at (scopes_of hs vs) s) i v) (subst (λ n. n ≤ s) (sym (as_many hs vs)) l);
}

-- A NEW SCOPE

abbrev new_head : (outer start : ℕ) → Head
new_head outer start = record { outer = outer; start = start; count = 0 }

pub opened_last : (hs : List Head) (vs : Slots) (outer start : ℕ) → scopes_of (hs ++ new_head outer start ∷ []) vs ≡ scopes_of hs vs ++ record { outer = outer; slots = [] } ∷ []
opened_last [] vs outer start = refl
opened_last (h ∷ hs) vs outer start = ap (λ ss. with_slots h vs ∷ ss) (opened_last hs (drop h.count vs) outer start)

pub laid_last : (at end : ℕ) (hs : List Head) (outer : ℕ) → IsLaidOut at hs end → IsLaidOut at (hs ++ new_head outer end ∷ []) end
laid_last at end [] outer o = (sym o, omega (arith, o))
laid_last at end (h ∷ hs) outer o = (o.0, laid_last (at + h.count) end hs outer o.1)

-- A NEW SCOPE WITH SLOTS

abbrev head_with : (outer start count : ℕ) → Head
head_with outer start count = record { outer = outer; start = start; count = count }

pub opened_with : (at : ℕ) (hs : List Head) (vs ws : Slots) (outer start : ℕ) → IsLaidOut at hs (at + length vs)
    → scopes_of (hs ++ head_with outer start (length ws) ∷ []) (vs ++ ws) ≡ scopes_of hs vs ++ record { outer = outer; slots = ws } ∷ []
opened_with at [] [] ws outer start o = λ j. record { outer = outer; slots = take-length ws j } ∷ []
opened_with at [] (v ∷ vs) ws outer start o = absurd (omega (arith, o))
opened_with at (h ∷ hs) vs ws outer start o =
    let r = reaches (at + h.count) (at + length vs) hs o.1 in
    let le : h.count ≤ length vs = omega (arith, r) in
    let e : at + length vs ≡ at + h.count + length (drop h.count vs) = omega (arith, length-drop h.count vs, le) in
    let low = opened_with (at + h.count) hs (drop h.count vs) ws outer start (subst (λ n. IsLaidOut (at + h.count) hs n) e o.1) in
    (λ j. record { outer = h.outer; slots = take-append-le h.count vs ws le j } ∷ scopes_of (hs ++ head_with outer start (length ws) ∷ []) (drop-append-le h.count vs ws le j))
    ∙ ap (λ ss. with_slots h vs ∷ ss) low

pub laid_with : (at end : ℕ) (hs : List Head) (outer n : ℕ) → IsLaidOut at hs end → IsLaidOut at (hs ++ head_with outer end n ∷ []) (end + n)
laid_with at end [] outer n o = (sym o, omega (arith, o))
laid_with at end (h ∷ hs) outer n o = (o.0, laid_with (at + h.count) end hs outer n o.1)

abbrev empties : ℕ → Slots
empties n = replicate n None

pub opened_empty : (hs : List Head) (vs : Slots) (outer start n : ℕ) → IsLaidOut 0 hs (length vs)
    → scopes_of (hs ++ head_with outer start n ∷ []) (vs ++ replicate n None) ≡ scopes_of hs vs ++ record { outer = outer; slots = replicate n None } ∷ []
opened_empty hs vs outer start n o =
    let e : length vs ≡ 0 + length vs = omega arith in
    ap (λ k. scopes_of (hs ++ head_with outer start k ∷ []) (vs ++ empties n)) (sym (length-replicate n (let none : Option (Value Ref MadeSymbol) = None in none)))
    ∙ opened_with 0 hs vs (empties n) outer start (subst (λ k. IsLaidOut 0 hs k) e o)

pub laid_empty : (hs : List Head) (vs : Slots) (outer n : ℕ) → IsLaidOut 0 hs (length vs) → IsLaidOut 0 (hs ++ head_with outer (length vs) n ∷ []) (length (vs ++ replicate n None))
laid_empty hs vs outer n o =
    let e : length vs + n ≡ length (vs ++ empties n) = sym (length-append vs (empties n) ∙ ap (λ k. length vs + k) (length-replicate n (let none : Option (Value Ref MadeSymbol) = None in none))) in
    subst (λ k. IsLaidOut 0 (hs ++ head_with outer (length vs) n ∷ []) k) e (laid_with 0 (length vs) hs outer n o)

pub first_part : (vs ws : Slots) → take (length vs) (vs ++ ws) ≡ vs
first_part vs ws = take-append_seam vs ws

pub one_more : (vs : Slots) (i : ℕ) → (vs ++ replicate i None) ++ None ∷ [] ≡ vs ++ replicate (i + 1) None
one_more vs i = append_assoc vs (empties i) (None ∷ []) ∙ ap (λ ws. vs ++ ws) (replicate-append-replicate i 1 (let none : Option (Value Ref MadeSymbol) = None in none))

pub one_copied : (vs : Slots) (from i : ℕ) → from + i < length vs
    → (vs ++ take i (drop from vs)) ++ get_or (vs ++ take i (drop from vs)) (from + i) None ∷ [] ≡ vs ++ take (i + 1) (drop from vs)
one_copied vs from i l =
    let within : i < length (drop from vs) = omega (arith, length-drop from vs) in
    let read : get_or (vs ++ take i (drop from vs)) (from + i) None ≡ get_or (drop from vs) i None = get_or_append_left vs (take i (drop from vs)) None (from + i) l ∙ sym (get_or-drop from vs i None) in
    let more : take (suc i) (drop from vs) ≡ take i (drop from vs) ++ get_or (drop from vs) i None ∷ [] = take-suc (drop from vs) i None within in
    let n : suc i ≡ i + 1 = omega arith in
    append_assoc vs (take i (drop from vs)) (get_or (vs ++ take i (drop from vs)) (from + i) None ∷ [])
    ∙ ap (λ w. vs ++ (take i (drop from vs) ++ w ∷ [])) read
    ∙ ap (λ ws. vs ++ ws) (sym more)
    ∙ ap (λ k. vs ++ take k (drop from vs)) n

-- a copy of a scope
pub copy_within : (hs : List Head) (vs : Slots) (s : ℕ) (d : Head) → IsLaidOut 0 hs (length vs) → s < length hs → (get_or hs s d).start + (get_or hs s d).count ≤ length vs
copy_within hs vs s d o l = omega (arith, starts 0 (length vs) hs s d o l, ends 0 (length vs) hs s d o l)

abbrev copies : List Head → Slots → ℕ → Head → Slots
copies hs vs s d = take (get_or hs s d).count (drop (get_or hs s d).start vs)

as_many_copies : (hs : List Head) (vs : Slots) (s : ℕ) (d : Head) → IsLaidOut 0 hs (length vs) → s < length hs → length (copies hs vs s d) ≡ (get_or hs s d).count
as_many_copies hs vs s d o l =
    let w = copy_within hs vs s d o l in
    let k : (get_or hs s d).count ≤ length (drop (get_or hs s d).start vs) = omega (arith, w, length-drop (get_or hs s d).start vs) in
    length-take-le (get_or hs s d).count (drop (get_or hs s d).start vs) k

copied_scope : (hs : List Head) (vs : Slots) (s : ℕ) (d : Head) → IsLaidOut 0 hs (length vs) → s < length hs → record { outer = (get_or hs s d).outer; slots = copies hs vs s d } ≡ scope_at (scopes_of hs vs) s
copied_scope hs vs s d o l =
    let e : (get_or hs s d).start ≡ place hs s = starts 0 (length vs) hs s d o l ∙ zero-add (place hs s) in
    ap (λ n. with_slots (get_or hs s d) (drop n vs)) e ∙ sym (found hs vs s d l)

pub opened_copy : (hs : List Head) (vs : Slots) (s start : ℕ) (d : Head) → IsLaidOut 0 hs (length vs) → s < length hs
    → scopes_of (hs ++ head_with (get_or hs s d).outer start (get_or hs s d).count ∷ []) (vs ++ take (get_or hs s d).count (drop (get_or hs s d).start vs)) ≡ scopes_of hs vs ++ scope_at (scopes_of hs vs) s ∷ []
opened_copy hs vs s start d o l =
    let e : length vs ≡ 0 + length vs = omega arith in
    ap (λ k. scopes_of (hs ++ head_with (get_or hs s d).outer start k ∷ []) (vs ++ copies hs vs s d)) (sym (as_many_copies hs vs s d o l))
    ∙ opened_with 0 hs vs (copies hs vs s d) (get_or hs s d).outer start (subst (λ k. IsLaidOut 0 hs k) e o)
    ∙ ap (λ x. scopes_of hs vs ++ x ∷ []) (copied_scope hs vs s d o l)

pub laid_copy : (hs : List Head) (vs : Slots) (s outer : ℕ) (d : Head) → IsLaidOut 0 hs (length vs) → s < length hs
    → IsLaidOut 0 (hs ++ head_with outer (length vs) (get_or hs s d).count ∷ []) (length (vs ++ take (get_or hs s d).count (drop (get_or hs s d).start vs)))
laid_copy hs vs s outer d o l =
    let e : length vs + (get_or hs s d).count ≡ length (vs ++ copies hs vs s d) = sym (length-append vs (copies hs vs s d) ∙ ap (λ k. length vs + k) (as_many_copies hs vs s d o l)) in
    subst (λ k. IsLaidOut 0 (hs ++ head_with outer (length vs) (get_or hs s d).count ∷ []) k) e (laid_with 0 (length vs) hs outer (get_or hs s d).count o)

pub no_copy : (hs : List Head) (vs : Slots) (s : ℕ) → length hs ≤ s → record { outer = 0; slots = replicate 0 None } ≡ scope_at (scopes_of hs vs) s
no_copy hs vs s l = sym (missing hs vs s l)
