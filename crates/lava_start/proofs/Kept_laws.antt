-- Places in a code that grows.
use Rattle.std.proofs.Common.{◌≡◌, ℕ, ◌+◌, ◌<◌, List, [], ◌∷◌, ◌++◌, length, map, refl, sym, ap, ◌∙◌, arith, length-append, take, get_or, subst}
use Rattle.std.proofs.lemmas.List.{take_more}
use Rattle.js_code.specs.Decoded.{template_at, term_at}
use Rattle.js_code.specs.Settled.{Extends}
use Rattle.js_code.specs.Tables.{Tables}
use Rattle.js_world.specs.js_machine.Packages.{loaded_of}
use Rattle.js_world.specs.js_machine.declared.package.Module.{Module}
use Rattle.js_term.specs.declared.term.Template.{Template}
use Rattle.lava_start.specs.Templates.{ArePlaces, HaveSources, HaveTemplates, KeepsTemplates, ModulesWithin, loaded_source}
use Rattle.lava_start.specs.declared.modules.SourceModule.{SourceModule}

pub keeps_all : (c : Tables) → KeepsTemplates c c
keeps_all c = record { more = omega arith; same = λ k lt. refl }

pub extended : (c d : Tables) → Extends c d → KeepsTemplates c d
extended c d e =
    let n : length d.templates ≡ length c.templates + length e.grows.templates.rest = ap length e.grows.templates.is ∙ length-append c.templates e.grows.templates.rest in
    record { more = omega (arith, n); same = e.templates }

pub kept_on : (c d e : Tables) → KeepsTemplates c d → KeepsTemplates d e → KeepsTemplates c e
kept_on c d e a b = record { more = let m = a.more in let n = b.more in omega arith; same = λ k lt. b.same k (let m = a.more in omega arith) ∙ a.same k lt }

-- PLACES OF TEMPLATES

within_still : (c d : Tables) → KeepsTemplates c d → (ks : List ℕ) → ArePlaces c ks → ArePlaces d ks
within_still c d e [] w = w
within_still c d e (k ∷ ks) w = (let m = e.more in let l = w.0 in omega arith, within_still c d e ks w.1)

are_still : (c d : Tables) → KeepsTemplates c d → (ks : List ℕ) → ArePlaces c ks → map (template_at d (term_at d)) ks ≡ map (template_at c (term_at c)) ks
are_still c d e [] w = refl
are_still c d e (k ∷ ks) w = ap (λ t. t ∷ map (template_at d (term_at d)) ks) (e.same k w.0) ∙ ap (λ ts. template_at c (term_at c) k ∷ ts) (are_still c d e ks w.1)

pub have_still : (c d : Tables) (ks : List ℕ) (ts : List Template) → KeepsTemplates c d → HaveTemplates c ks ts → HaveTemplates d ks ts
have_still c d ks ts e h = record { within = within_still c d e ks h.within; are = are_still c d e ks h.within ∙ h.are }

within_more : (c : Tables) (ks : List ℕ) (k : ℕ) → ArePlaces c ks → k < length c.templates → ArePlaces c (ks ++ k ∷ [])
within_more c [] k w l = (l, tt)
within_more c (j ∷ ks) k w l = (w.0, within_more c ks k w.1 l)

map_more : {A B : Type 0} (f : A → B) (xs : List A) (x : A) → map f (xs ++ x ∷ []) ≡ map f xs ++ f x ∷ []
map_more f [] x = refl
map_more f (y ∷ xs) x = ap (λ t. f y ∷ t) (map_more f xs x)

pub have_more : (c : Tables) (ks : List ℕ) (ts : List Template) (k : ℕ) (t : Template) → HaveTemplates c ks ts → k < length c.templates → template_at c (term_at c) k ≡ t → HaveTemplates c (ks ++ k ∷ []) (ts ++ t ∷ [])
have_more c ks ts k t h l e =
    record {
      within = within_more c ks k h.within l;
      are = map_more (template_at c (term_at c)) ks k ∙ ap (λ us. us ++ template_at c (term_at c) k ∷ []) h.are ∙ ap (λ u. ts ++ u ∷ []) e;
    }

-- MODULES

modules_still : (c d : Tables) → KeepsTemplates c d → (ms : List Module) → ModulesWithin c ms → ModulesWithin d ms
modules_still c d e [] w = w
modules_still c d e (m ∷ ms) w = (let n = e.more in let l = w.0 in omega arith, modules_still c d e ms w.1)

loaded_still : (c d : Tables) → KeepsTemplates c d → (ms : List Module) → ModulesWithin c ms → map (loaded_of d) ms ≡ map (loaded_of c) ms
loaded_still c d e [] w = refl
loaded_still c d e (m ∷ ms) w =
    ap (λ t. record { path = m.path; template = t; begun = m.begun } ∷ map (loaded_of d) ms) (e.same m.template w.0)
    ∙ ap (λ l. loaded_of c m ∷ l) (loaded_still c d e ms w.1)

pub sources_still : (c d : Tables) (ms : List Module) (ss : List SourceModule) → KeepsTemplates c d → HaveSources c ms ss → HaveSources d ms ss
sources_still c d ms ss e h = record { within = modules_still c d e ms h.within; are = loaded_still c d e ms h.within ∙ h.are }

both_within : (c : Tables) (ms ns : List Module) → ModulesWithin c ms → ModulesWithin c ns → ModulesWithin c (ms ++ ns)
both_within c [] ns v w = w
both_within c (m ∷ ms) ns v w = (v.0, both_within c ms ns v.1 w)

pub map_both : {A B : Type 0} (f : A → B) (xs ys : List A) → map f (xs ++ ys) ≡ map f xs ++ map f ys
map_both f [] ys = refl
map_both f (x ∷ xs) ys = ap (λ t. f x ∷ t) (map_both f xs ys)

pub sources_more : (c : Tables) (ms ns : List Module) (ss us : List SourceModule) → HaveSources c ms ss → HaveSources c ns us → HaveSources c (ms ++ ns) (ss ++ us)
sources_more c ms ns ss us g h =
    record {
      within = both_within c ms ns g.within h.within;
      are = map_both (loaded_of c) ms ns ∙ ap (λ ls. ls ++ map (loaded_of c) ns) g.are ∙ ap (λ ls. map loaded_source ss ++ ls) h.are ∙ sym (map_both loaded_source ss us);
    }

-- ONE MORE

pub template_pushed : (c d : Tables) (ks ls : List ℕ) (all : List Template) (i k : ℕ) (t : Template) → HaveTemplates c ks (take i all) → Extends c d → k < length d.templates → template_at d (term_at d) k ≡ t → ls ≡ ks ++ k ∷ [] → i < length all → t ≡ get_or all i t → HaveTemplates d ls (take (i + 1) all)
template_pushed c d ks ls all i k t h e lt is pushed within item =
    let more = have_more d ks (take i all) k t (have_still c d ks (take i all) (extended c d e) h) lt is in
    let front : take (i + 1) all ≡ take i all ++ t ∷ [] = take_more all i t within ∙ ap (λ u. take i all ++ u ∷ []) (sym item) in
    subst (λ us. HaveTemplates d ls us) (sym front) (subst (λ ms. HaveTemplates d ms (take i all ++ t ∷ [])) (sym pushed) more)

pub source_pushed : (c d : Tables) (ms ns : List Module) (all : List SourceModule) (i : ℕ) (m : Module) (s : SourceModule) → HaveSources c ms (take i all) → KeepsTemplates c d → HaveSources d (m ∷ []) (s ∷ []) → ns ≡ ms ++ m ∷ [] → i < length all → s ≡ get_or all i s → HaveSources d ns (take (i + 1) all)
source_pushed c d ms ns all i m s h e one pushed within item =
    let more = sources_more d ms (m ∷ []) (take i all) (s ∷ []) (sources_still c d ms (take i all) e h) one in
    let front : take (i + 1) all ≡ take i all ++ s ∷ [] = take_more all i s within ∙ ap (λ u. take i all ++ u ∷ []) (sym item) in
    subst (λ us. HaveSources d ns us) (sym front) (subst (λ vs. HaveSources d vs (take i all ++ s ∷ [])) (sym pushed) more)
