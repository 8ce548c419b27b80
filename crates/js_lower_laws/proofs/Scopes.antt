-- The scopes that lowering knows are those that are open where its terms stand.
use Rattle.std.proofs.Common.{◌≡◌, ℕ, suc, ◌+◌, ◌-◌, ◌<◌, ◌≤◌, Bool, true, false, cond, ◌&&◌, nat_lt, List, [], ◌∷◌, ◌++◌, length, get_or, Option, Some, None, refl, ap, sym, subst, arith}
use Rattle.std.proofs.lemmas.Bool.{and_from, lt-ltb}
use Rattle.std.specs.Option.{option_map}
use Rattle.js_text.specs.Texts.{same_units}
use Rattle.js_names.specs.declared.declared.DeclaredName.{DeclaredName}
use Rattle.js_frames.specs.Frames.{Env, Frame, bound_there, declared_slot, find, found_after, found_at, found_in, has_slot, one_further, or_else, referent_of, with_name, with_names}
use Rattle.js_frames.specs.declared.frame.FoundSlot.{FoundSlot}
use Rattle.js_frames.specs.declared.frame.Referent.{Referent}
use Rattle.js_frames.specs.declared.frame.Referent.TheVariants as referent
use Rattle.js_frames.specs.declared.frame.SlotName.{SlotName}
use Rattle.js_frames.specs.declared.scopes.FoundReferent.{FoundReferent}
use Rattle.js_early.specs.declared.context.EarlyContext.{EarlyContext}
use Rattle.js_lower_table.specs.declared.held.Held.{Held}
use Rattle.js_valid.specs.Surroundings.{Place, InScope, SuperCall, SuperProperty, first_answer, is_slot, open_scopes}

-- PLAIN FRAMES: those of sources, whose slots stand for variables

abbrev pub is_plain_referent : Referent → Bool
is_plain_referent referent.Variable = true
is_plain_referent referent.Constant = true
is_plain_referent (referent.CommonObject c) = false
is_plain_referent (referent.Operation o) = false
is_plain_referent referent.IteratorSymbol = false

abbrev pub is_plain : Frame → Bool
is_plain [] = true
is_plain (s ∷ ss) = is_plain_referent s.referent && is_plain ss

pub first_of : (a b : Bool) → (a && b) ≡ true → a ≡ true
first_of true b h = refl
first_of false b h = cc

pub second_of : (a b : Bool) → (a && b) ≡ true → b ≡ true
second_of true b h = h
second_of false b h = cc

pub plain_append : (a b : Frame) → is_plain a ≡ true → is_plain b ≡ true → is_plain (a ++ b) ≡ true
plain_append [] b x y = y
plain_append (s ∷ ss) b x y =
    and_from (is_plain_referent s.referent) (is_plain (ss ++ b)) (first_of (is_plain_referent s.referent) (is_plain ss) x)
    (plain_append ss b (second_of (is_plain_referent s.referent) (is_plain ss) x) y)

plain_declared : (b : Bool) → is_plain_referent (referent_of b) ≡ true
plain_declared true = refl
plain_declared false = refl

plain_one : (d : DeclaredName) → is_plain (declared_slot d ∷ []) ≡ true
plain_one d = and_from (is_plain_referent (referent_of d.constant)) true (plain_declared d.constant) refl

plain_by : (b : Bool) (ss : Frame) (d : DeclaredName) → is_plain ss ≡ true → is_plain (cond b ss (ss ++ declared_slot d ∷ [])) ≡ true
plain_by true ss d h = h
plain_by false ss d h = plain_append ss (declared_slot d ∷ []) h (plain_one d)

pub plain_names : (ds : List DeclaredName) (ss : Frame) → is_plain ss ≡ true → is_plain (with_names ss ds) ≡ true
plain_names [] ss h = h
plain_names (d ∷ ds) ss h = plain_names ds (with_name ss d) (plain_by (has_slot d.name ss) ss d h)

length_one_more : (ss : Frame) (s : SlotName) → length ss ≤ length (ss ++ s ∷ [])
length_one_more [] s = omega arith
length_one_more (t ∷ ss) s = let h : length ss ≤ length (ss ++ s ∷ []) = length_one_more ss s in omega (arith, h)

length_by : (b : Bool) (ss : Frame) (d : DeclaredName) → length ss ≤ length (cond b ss (ss ++ declared_slot d ∷ []))
length_by true ss d = omega arith
length_by false ss d = length_one_more ss (declared_slot d)

pub length_names : (ds : List DeclaredName) (ss : Frame) → length ss ≤ length (with_names ss ds)
length_names [] ss = omega arith
length_names (d ∷ ds) ss =
    let a : length ss ≤ length (with_name ss d) = length_by (has_slot d.name ss) ss d in
    let b : length (with_name ss d) ≤ length (with_names (with_name ss d) ds) = length_names ds (with_name ss d) in
    omega (arith, a, b)

-- OPEN SCOPES

-- each frame of an environment has a scope with as many slots at least
pub data AreOpen : Env → List ℕ → Type 0 where
  none_open : AreOpen [] []
  one_open : (f : Frame) (n : ℕ) (fs : Env) (ns : List ℕ) → is_plain f ≡ true → length f ≤ n → AreOpen fs ns → AreOpen (f ∷ fs) (n ∷ ns)

-- `super` may stand where the early rules allow it
pub record AllowsSuper (ctx : EarlyContext) (properties calls : Bool) : Type 0 where
  pub property : ctx.super_property ≡ true → properties ≡ true
  pub call : ctx.super_call ≡ true → calls ≡ true

-- an environment and a context are those of a place
abbrev pub At : EarlyContext → Env → Place → Type 0
At ctx env p = AreOpen env (open_scopes p) × AllowsSuper ctx (first_answer SuperProperty p) (first_answer SuperCall p)

pub as_many : (fs : Env) (ns : List ℕ) → AreOpen fs ns → length ns ≡ length fs
as_many [] [] none_open = refl
as_many [] (n ∷ ns) o = elim o [ ]
as_many (f ∷ fs) [] o = elim o [ ]
as_many (f ∷ fs) (n ∷ ns) (one_open _ _ _ _ pl w o) = ap suc (as_many fs ns o)

-- a scope of the lowering's own
pub hidden : {ctx : EarlyContext} (env : Env) (p : Place) (n : ℕ) → At ctx env p → At ctx ([] ∷ env) (InScope n ∷ p)
hidden env p n at = (one_open [] n env (open_scopes p) refl (omega arith) at.0, at.1)

pub opened : {ctx : EarlyContext} (env : Env) (p : Place) (f : Frame) → is_plain f ≡ true → At ctx env p → At ctx (f ∷ env) (InScope (length f) ∷ p)
opened env p f pl at = (one_open f (length f) env (open_scopes p) pl (omega arith) at.0, at.1)

-- HELD SLOTS

pub record IsHeld (ns : List ℕ) (h : Held) : Type 0 where
  pub stays : h.level < length ns
  pub there : nat_lt h.slot (get_or ns (length ns - h.level - 1) 0) ≡ true

pub newest : (n : ℕ) (ns : List ℕ) (h : Held) → h.level ≡ length ns → h.slot < n → IsHeld (n ∷ ns) h
newest n ns h l s =
    let at : suc (length ns) - h.level - 1 ≡ 0 = omega (arith, l) in
    record { stays = omega (arith, l); there = subst (λ k. nat_lt h.slot (get_or (n ∷ ns) k 0) ≡ true) (sym at) (lt-ltb h.slot n s) }

pub older : (n : ℕ) (ns : List ℕ) (h : Held) → IsHeld ns h → IsHeld (n ∷ ns) h
older n ns h x =
    let o : h.level < length ns = x.stays in
    let at : suc (length ns) - h.level - 1 ≡ suc (length ns - h.level - 1) = omega (arith, o) in
    record { stays = omega (arith, o); there = subst (λ k. nat_lt h.slot (get_or (n ∷ ns) k 0) ≡ true) (sym at) x.there }

-- FOUND NAMES

pub data IsIn (k : ℕ) : Option FoundSlot → Type 0 where
  not_there : IsIn k None
  in_there : (f : FoundSlot) → f.slot < k → is_plain_referent f.referent ≡ true → IsIn k (Some f)

further : (k : ℕ) (o : Option FoundSlot) → IsIn k o → IsIn (suc k) (option_map one_further o)
further k None not_there = not_there
further k (Some f) (in_there _ lt pl) = in_there (one_further f) (omega (arith, lt)) pl

first_or : (b : Bool) (k : ℕ) (s : SlotName) (o : Option FoundSlot) → is_plain_referent s.referent ≡ true → IsIn k o
    → IsIn (suc k) (cond b (Some (found_at 0 s)) (option_map one_further o))
first_or true k s o pl h = in_there (found_at 0 s) (omega arith) pl
first_or false k s o pl h = further k o h

in_frame : (n : List ℕ) (ss : Frame) → is_plain ss ≡ true → IsIn (length ss) (found_in n ss)
in_frame n [] h = not_there
in_frame n (s ∷ ss) h =
    first_or (same_units s.name n) (length ss) s (found_in n ss) (first_of (is_plain_referent s.referent) (is_plain ss) h)
    (in_frame n ss (second_of (is_plain_referent s.referent) (is_plain ss) h))

-- a name is found in an open scope, so many hops further out than some
pub data IsFound (ns : List ℕ) (hops : ℕ) : Option FoundReferent → Type 0 where
  is_free : IsFound ns hops None
  is_bound : (f : FoundReferent) (j : ℕ) → f.hops ≡ hops + j → nat_lt f.slot (get_or ns j 0) ≡ true → is_plain_referent f.referent ≡ true → IsFound ns hops (Some f)

outwards : (n : ℕ) (ns : List ℕ) (hops : ℕ) (o : Option FoundReferent) → IsFound ns (hops + 1) o → IsFound (n ∷ ns) hops o
outwards n ns hops None is_free = is_free
outwards n ns hops (Some f) (is_bound _ j e lt pl) = is_bound f (suc j) (omega (arith, e)) lt pl

found_or : (n : ℕ) (ns : List ℕ) (hops k : ℕ) (o : Option FoundSlot) (other : Option FoundReferent) → k ≤ n → IsIn k o → IsFound ns (hops + 1) other
    → IsFound (n ∷ ns) hops (or_else (option_map (bound_there hops) o) other)
found_or n ns hops k None other w not_there f = outwards n ns hops other f
found_or n ns hops k (Some s) other w (in_there _ lt pl) f = is_bound (bound_there hops s) 0 (omega arith) (lt-ltb s.slot n (omega (arith, lt, w))) pl

found_from : (x : List ℕ) (hops : ℕ) (fs : Env) (ns : List ℕ) → AreOpen fs ns → IsFound ns hops (found_after x hops fs)
found_from x hops [] [] none_open = is_free
found_from x hops [] (n ∷ ns) o = elim o [ ]
found_from x hops (f ∷ fs) [] o = elim o [ ]
found_from x hops (f ∷ fs) (n ∷ ns) (one_open _ _ _ _ pl w o) =
    found_or n ns hops (length f) (found_in x f) (found_after x (hops + 1) fs) w (in_frame x f pl) (found_from x (hops + 1) fs ns o)

pub found : {ctx : EarlyContext} (x : List ℕ) (env : Env) (p : Place) → At ctx env p → IsFound (open_scopes p) 0 (find x env)
found x env p at = found_from x 0 env (open_scopes p) at.0

-- a bound name stands for a slot that is there
pub bound_slot : (p : Place) (f : FoundReferent) (j : ℕ) → f.hops ≡ 0 + j → nat_lt f.slot (get_or (open_scopes p) j 0) ≡ true → is_slot p f.hops f.slot ≡ true
bound_slot p f j e lt =
    let is : f.hops ≡ j = omega (arith, e) in
    subst (λ k. nat_lt f.slot (get_or (open_scopes p) k 0) ≡ true) (sym is) lt
