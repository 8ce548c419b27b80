-- The terms that stand often, and those of names, fit.
use Rattle.std.proofs.Common.{◌≡◌, ℕ, ℤ, pos, ◌+◌, ◌-◌, Bool, true, false, cond, nat_lt, List, [], ◌∷◌, length, get_or, codes, Option, Some, None, refl, subst, arith}
use Rattle.js_text.specs.CommonPaths.{common_paths}
use Rattle.js_text.specs.Texts.{same_units}
use Rattle.js_text.specs.declared.native.Native.TheVariants as native
use Rattle.js_tree.specs.declared.operator.BinaryOperator.TheVariants as op
use Rattle.js_term.specs.declared.term.Arguments.TheVariants as args
use Rattle.js_term.specs.declared.term.Literal.TheVariants as literal
use Rattle.js_term.specs.declared.term.Part.{Part}
use Rattle.js_term.specs.declared.term.Term.{Term}
use Rattle.js_term.specs.declared.term.Term.TheVariants as form
use Rattle.js_frames.specs.Frames.{Env, find}
use Rattle.js_frames.specs.declared.frame.Referent.{Referent}
use Rattle.js_frames.specs.declared.frame.Referent.TheVariants as referent
use Rattle.js_frames.specs.declared.scopes.FoundReferent.{FoundReferent}
use Rattle.js_lower_table.specs.Values as values
use Rattle.js_lower_table.specs.declared.commons.TheConstants.{ARRAY_PROTOTYPE, BASE, FOR_IN, JSON_PARSE, OBJECT_PROTOTYPE, OMIT, OPEN}
use Rattle.js_lower_table.specs.declared.held.Held.{Held}
use Rattle.js_early.specs.declared.context.EarlyContext.{EarlyContext}
use Rattle.js_valid.specs.Surroundings.{Place, InHandler, InScope, is_slot, open_scopes}
use Rattle.js_valid.specs.Valid.{literal_fits, nowhere}
use Rattle.js_lower_laws.proofs.Forms.{Fit, FitAll, FitParts, entering, fit_binary, fit_call, fit_call_on, fit_define, fit_global, fit_init, fit_listed, fit_lit, fit_local, fit_native, fit_outside, fit_scope, fit_seq, fit_set_global, fit_set_local, fit_throw, fit_try, two}
use Rattle.js_lower_laws.proofs.Scopes.{At, IsFound, IsHeld, as_many, bound_slot, found, is_bound, is_free, is_plain_referent}

-- COMMON OBJECTS

abbrev pub IsPlace : ℕ → Type 0
IsPlace c = literal_fits (literal.Common (record { 0 = c })) ≡ true

pub array_prototype_fits : IsPlace ARRAY_PROTOTYPE
unfolding common_paths
array_prototype_fits = refl

pub object_prototype_fits : IsPlace OBJECT_PROTOTYPE
unfolding common_paths
object_prototype_fits = refl

pub base_fits : IsPlace BASE
unfolding common_paths
base_fits = refl

pub for_in_fits : IsPlace FOR_IN
unfolding common_paths
for_in_fits = refl

pub omit_fits : IsPlace OMIT
unfolding common_paths
omit_fits = refl

pub open_fits : IsPlace OPEN
unfolding common_paths
open_fits = refl

pub json_parse_fits : IsPlace JSON_PARSE
unfolding common_paths
json_parse_fits = refl

pub fit_common : (p : Place) (c : ℕ) → IsPlace c → Fit p (values.common_term c)
fit_common p c h = fit_lit p (literal.Common (record { 0 = c })) h

-- VALUES

pub fit_undefined : (p : Place) → Fit p values.undefined
fit_undefined p = fit_lit p literal.Undefined refl

pub fit_text : (p : Place) (n : List ℕ) → Fit p (values.text n)
fit_text p n = fit_lit p (literal.Text n) refl

pub fit_integer : (p : Place) (n : ℤ) → Fit p (values.integer n)
fit_integer p n = fit_lit p (literal.Int n) refl

pub fit_truth : (p : Place) (b : Bool) → Fit p (values.truth b)
fit_truth p b = fit_lit p (literal.Bool b) refl

pub fit_null : (p : Place) → Fit p (form.Lit literal.Null)
fit_null p = fit_lit p literal.Null refl

pub fit_number_key : (p : Place) (n : Option ℤ) → Fit p (values.number_key n)
fit_number_key p None = fit_outside p
fit_number_key p (Some n) = fit_text p _

pub fit_number : (p : Place) (n : Option ℤ) → Fit p (values.number n)
fit_number p None = fit_outside p
fit_number p (Some n) = fit_integer p n

-- slot 0 or 1 of a scope of one or two
pub fit_here : (p : Place) (s : ℕ) → is_slot p 0 s ≡ true → Fit p (values.here s)
fit_here p s h = fit_local p 0 s h

pub fit_init_here : (p : Place) (s : ℕ) (t : Term) → is_slot p 0 s ≡ true → Fit p t → Fit p (values.init_here s t)
fit_init_here p s t h x = fit_init p 0 s t h x

pub fit_slot_at : (p : Place) (n : ℕ) (h : Held) → length (open_scopes p) ≡ n → IsHeld (open_scopes p) h → Fit p (values.slot_at n h)
fit_slot_at p n h len held =
    fit_local p (n - h.level - 1) h.slot (subst (λ k. nat_lt h.slot (get_or (open_scopes p) (k - h.level - 1) 0) ≡ true) len held.there)

pub fit_slot : {ctx : EarlyContext} (env : Env) (p : Place) (h : Held) → At ctx env p → IsHeld (open_scopes p) h → Fit p (values.slot env h)
fit_slot env p h at held = fit_slot_at p (length env) h (as_many env (open_scopes p) at.0) held

pub fit_call_name : (p : Place) (t : Term) (n : List ℕ) → Fit p t → Fit p (values.call_name t n)
fit_call_name p t n x = fit_call_on p t (values.text n) (args.Listed []) x (fit_text p n) (fit_listed p [] (nowhere p))

pub fit_call_common : (p : Place) (c : ℕ) (l : List Term) → IsPlace c → FitAll p l → Fit p (values.call_common c l)
fit_call_common p c l h x = fit_call p (values.common_term c) (args.Listed l) (fit_common p c h) (fit_listed p l x)

pub fit_array : (p : Place) (l : List Part) → FitParts p l → Fit p (values.array l)
fit_array p l x =
    fit_define p _ l (fit_native p native.MakeArray (values.common_term ARRAY_PROTOTYPE ∷ values.integer (pos 0) ∷ []) refl
    (two p _ _ (fit_common p ARRAY_PROTOTYPE array_prototype_fits) (fit_integer p (pos 0)))) x

pub fit_object : (p : Place) (l : List Part) → FitParts p l → Fit p (values.object l)
fit_object p l x =
    fit_define p _ l (fit_native p native.MakeObject (values.common_term OBJECT_PROTOTYPE ∷ []) refl (fit_common p OBJECT_PROTOTYPE object_prototype_fits)) x

pub fit_to_text : (p : Place) (t : Term) → Fit p t → Fit p (values.to_text t)
fit_to_text p t x = fit_native p native.ToText (t ∷ []) refl x

pub fit_to_key : (p : Place) (t : Term) → Fit p t → Fit p (values.to_key t)
fit_to_key p t x = fit_native p native.ToKey (t ∷ []) refl x

pub fit_same_value : (p : Place) (a b : Term) → Fit p a → Fit p b → Fit p (values.same_value a b)
fit_same_value p a b x y = fit_binary p op.StrictlyEqual a b x y

pub fit_is_null : (p : Place) (t : Term) → Fit p t → Fit p (values.is_null t)
fit_is_null p t x = fit_binary p op.LooselyEqual t (form.Lit literal.Null) x (fit_null p)

pub fit_single : (p : Place) (l : List Term) → FitAll p l → Fit p (values.single l)
fit_single p [] x = fit_seq p [] x
fit_single p (t ∷ []) x = x
fit_single p (t ∷ s ∷ l) x = fit_seq p (t ∷ s ∷ l) x

pub fit_scope_of : (p : Place) (n : ℕ) (l : List Term) → FitAll (InScope n ∷ p) l → Fit p (values.scope_of n l)
fit_scope_of p n l x = fit_scope p n (form.Seq l) (fit_seq (InScope n ∷ p) l x)

-- what runs over an iterator in a held slot
pub fit_guard : (p : Place) (n : ℕ) (it : Held) (body : Term) → length (open_scopes p) ≡ n → IsHeld (open_scopes p) it → IsHeld (1 ∷ open_scopes p) it → Fit p body
    → Fit p (values.guard n it body)
fit_guard p n it body len held inside x =
    let q = InHandler ∷ p in
    let quiet : Fit q (values.call_name (values.slot_at (n + 1) it) (codes "quiet"))
    = fit_call_name q (values.slot_at (n + 1) it) (codes "quiet") (fit_slot_at q (n + 1) it (omega (arith, len)) inside) in
    let thrown : Fit q (form.Throw (values.here 0)) = fit_throw q (values.here 0) (fit_here q 0 refl) in
    let handler : Fit q (form.Seq (values.call_name (values.slot_at (n + 1) it) (codes "quiet") ∷ form.Throw (values.here 0) ∷ []))
    = fit_seq q _ (two q _ _ quiet thrown) in
    fit_try p _ None (Some _) (fit_try p body (Some _) None x (entering p InHandler _ handler) (nowhere p)) (nowhere p)
    (fit_call_name p (values.slot_at n it) (codes "shut") (fit_slot_at p n it len held))

-- NAMES

by_test : (p : Place) (b : Bool) (s t : Term) → Fit p s → Fit p t → Fit p (cond b s t)
by_test p true s t x y = x
by_test p false s t x y = y

fit_free : (p : Place) (n : List ℕ) (soft : Bool) → Fit p (values.free n soft)
fit_free p n soft =
    by_test p (same_units n (codes "undefined")) _ _ (fit_undefined p) (by_test p (values.is_outside n) _ _ (fit_outside p) (fit_global p n soft))

fit_read_referent : (p : Place) (h s : ℕ) (r : Referent) → is_slot p h s ≡ true → is_plain_referent r ≡ true → Fit p (values.read_referent h s r)
fit_read_referent p h s referent.Variable own pl = fit_local p h s own
fit_read_referent p h s referent.Constant own pl = fit_local p h s own
fit_read_referent p h s (referent.CommonObject c) own pl = cc
fit_read_referent p h s (referent.Operation o) own pl = cc
fit_read_referent p h s referent.IteratorSymbol own pl = cc

fit_read_at : (p : Place) (n : List ℕ) (soft : Bool) (o : Option FoundReferent) → IsFound (open_scopes p) 0 o → Fit p (values.read_at n soft o)
fit_read_at p n soft None is_free = fit_free p n soft
fit_read_at p n soft (Some f) (is_bound _ j e lt pl) = fit_read_referent p f.hops f.slot f.referent (bound_slot p f j e lt) pl

pub fit_read : {ctx : EarlyContext} (env : Env) (p : Place) (n : List ℕ) (soft : Bool) → At ctx env p → Fit p (values.read env n soft)
fit_read env p n soft at = fit_read_at p n soft (find n env) (found n env p at)

fit_write_referent : (p : Place) (n : List ℕ) (h s : ℕ) (t : Term) (r : Referent) → is_slot p h s ≡ true → is_plain_referent r ≡ true → Fit p t
    → Fit p (values.write_referent n h s t r)
fit_write_referent p n h s t referent.Variable own pl x = fit_set_local p h s false t own x
fit_write_referent p n h s t referent.Constant own pl x = fit_set_local p h s true t own x
fit_write_referent p n h s t (referent.CommonObject c) own pl x = fit_set_global p n t x
fit_write_referent p n h s t (referent.Operation o) own pl x = fit_set_global p n t x
fit_write_referent p n h s t referent.IteratorSymbol own pl x = fit_set_global p n t x

fit_write_at : (p : Place) (n : List ℕ) (t : Term) (o : Option FoundReferent) → IsFound (open_scopes p) 0 o → Fit p t → Fit p (values.write_at n t o)
fit_write_at p n t None is_free x = fit_set_global p n t x
fit_write_at p n t (Some f) (is_bound _ j e lt pl) x = fit_write_referent p n f.hops f.slot t f.referent (bound_slot p f j e lt) pl x

pub fit_write : {ctx : EarlyContext} (env : Env) (p : Place) (n : List ℕ) (t : Term) → At ctx env p → Fit p t → Fit p (values.write env n t)
fit_write env p n t at x = fit_write_at p n t (find n env) (found n env p at) x

fit_init_at : (p : Place) (t : Term) (o : Option FoundReferent) → IsFound (open_scopes p) 0 o → Fit p t → Fit p (values.init_at t o)
fit_init_at p t None is_free x = fit_undefined p
fit_init_at p t (Some f) (is_bound _ j e lt pl) x = fit_init p f.hops f.slot t (bound_slot p f j e lt) x

pub fit_init_name : {ctx : EarlyContext} (env : Env) (p : Place) (n : List ℕ) (t : Term) → At ctx env p → Fit p t → Fit p (values.init env n t)
fit_init_name env p n t at x = fit_init_at p t (find n env) (found n env p at) x

pub fit_set : {ctx : EarlyContext} (env : Env) (p : Place) (assigned : Bool) (n : List ℕ) (t : Term) → At ctx env p → Fit p t → Fit p (values.set env assigned n t)
fit_set env p true n t at x = fit_write env p n t at x
fit_set env p false n t at x = fit_init_name env p n t at x

-- a source has no natives
plain_operation : (r : Referent) → is_plain_referent r ≡ true → values.operation_of r ≡ None
plain_operation referent.Variable pl = refl
plain_operation referent.Constant pl = refl
plain_operation (referent.CommonObject c) pl = refl
plain_operation (referent.Operation o) pl = cc
plain_operation referent.IteratorSymbol pl = refl

no_operation_at : (ns : List ℕ) (o : Option FoundReferent) → IsFound ns 0 o → values.operation_at o ≡ None
no_operation_at ns None is_free = refl
no_operation_at ns (Some f) (is_bound _ j e lt pl) = plain_operation f.referent pl

pub no_operation : {ctx : EarlyContext} (env : Env) (p : Place) (n : List ℕ) → At ctx env p → values.operation_in env n ≡ None
no_operation env p n at = no_operation_at (open_scopes p) (find n env) (found n env p at)
