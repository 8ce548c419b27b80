-- The application of a run is connected.
use Rattle.std.proofs.Common.{◌≡◌, ◌≢◌, ℕ, zero, suc, ◌+◌, ◌<◌, ◌≤◌, Bool, true, false, ◌||◌, nat_eq, List, [], ◌∷◌, length, get_or, refl, ap, ◌∙◌, sym, subst, ⊎_elim, arith, if◌then◌else◌}
use Rattle.std.proofs.lemmas.Bool.{cases_Bool, eqb-true, or_cases, true≢false}
use Rattle.std.specs.List.{AllByRecursion}
use Rattle.lava_base.specs.declared.ids.MadeSymbol.{MadeSymbol}
use Rattle.lava_base.specs.declared.ids.Ref.{Ref}
use Rattle.js_text.specs.Identities.{Identity, Of_object}
use Rattle.lava_course.specs.Courses.{IsConnected}
use Rattle.lava_packages.specs.lava_start.Applications.{PackageParts, PartyLink, RunParts, Surroundings, all_starts, allowed_links, leads_there, may_cross, may_import, no_start, package_starts, run_application, start_at}
use Rattle.lava_packages.specs.lava_start.Grants.{IsHostObject, Package_names_known}
use Rattle.lava_packages.specs.lava_start.js_run.Identities.{IsAmong}
use Rattle.lava_packages.specs.lava_start.js_run.Laws.{owner}
use Rattle.lava_connected.specs.Links.{AllLeadOn, AreLinked, LeadsOn}

-- LINKS

-- the links over which a party may import are links of it
allowed_lead : (P : PartyLink → Type 0) (ls : List PartyLink) → AllByRecursion P ls → AllByRecursion P (allowed_links ls)
allowed_lead P [] h = tt
allowed_lead P (l ∷ ls) h =
    let rest = allowed_lead P ls h.1 in
    let with : Bool → Type 0 = λ b. AllByRecursion P (if b then l ∷ allowed_links ls else allowed_links ls) in
    ⊎_elim (λ e. subst with (sym e) (h.0, rest)) (λ e. subst with (sym e) rest) (cases_Bool (may_cross l))

-- what some link leads to has what all links lead to
led : (Q : ℕ → Type 0) (ls : List PartyLink) (q : ℕ) → AllByRecursion (λ l. Q l.party) ls → leads_there ls q ≡ true → Q q
led Q [] q h e = absurd (true≢false (sym e))
led Q (l ∷ ls) q h e = ⊎_elim (λ k. subst Q (eqb-true l.party q k) h.0) (led Q ls q h.1) (or_cases (nat_eq l.party q) (leads_there ls q) e)

record Leads (count p q : ℕ) : Type 0 where
  there : q < count
  apart : q ≢ p

as_led : (count p : ℕ) (ls : List PartyLink) → AllByRecursion (LeadsOn count p) ls → AllByRecursion (λ l. Leads count p l.party) ls
as_led count p [] h = tt
as_led count p (l ∷ ls) h = (record { there = h.0.there; apart = h.0.apart }, as_led count p ls h.1)

-- where a party may import from
reaches : (count p : ℕ) (ls : List PartyLink) (q : ℕ) → AllByRecursion (LeadsOn count p) ls → may_import ls q ≡ true → Leads count p q
reaches count p ls q h e = led (Leads count p) (allowed_links ls) q (allowed_lead (λ l. Leads count p l.party) ls (as_led count p ls h)) e

package_links : (count q : ℕ) (xs : List PackageParts) → AllLeadOn count q xs → (p k : ℕ) → p ≡ q + k → AllByRecursion (LeadsOn count p) (get_or (package_starts q xs) k no_start).links
package_links count q [] h p k e = tt
package_links count q (x ∷ xs) h p zero e = let same : p ≡ q = omega (arith, e) in subst (λ n. AllByRecursion (LeadsOn count n) x.links) (sym same) h.0
package_links count q (x ∷ xs) h p (suc k) e = package_links count (suc q) xs h.1 p k (omega (arith, e))

start_links : (count : ℕ) (xs : List PackageParts) → 2 ≤ count → AllLeadOn count 1 xs → (p : ℕ) → AllByRecursion (LeadsOn count p) (start_at (all_starts xs) p).links
start_links count xs two h zero = (record { there = omega (arith, two); apart = λ e. omega (arith, e) }, tt)
start_links count xs two h (suc k) = package_links count 1 xs h (suc k) k (omega arith)

-- NAMES

package_owners : Package_names_known → (count : ℕ) → 2 ≤ count → (q : ℕ) (xs : List PackageParts) (k : ℕ) (a : Identity Ref MadeSymbol) → IsAmong a (get_or (package_starts q xs) k no_start).names → owner a < count
package_owners law count two q [] k a h = absurd h
package_owners law count two q (x ∷ xs) zero a h =
    ⊎_elim
    (λ (o : IsHostObject a). subst (λ b. owner b < count) (sym o.is) (omega (arith, two)))
    (λ e. subst (λ b. owner b < count) (sym e) (omega (arith, two)))
    (law x.globals x.builtins a h)
package_owners law count two q (x ∷ xs) (suc k) a h = package_owners law count two (suc q) xs k a h

start_owners : Package_names_known → (count : ℕ) → 2 ≤ count → (xs : List PackageParts) (p : ℕ) (a : Identity Ref MadeSymbol) → IsAmong a (start_at (all_starts xs) p).names → owner a < count
start_owners law count two xs zero a h = absurd h
start_owners law count two xs (suc k) a h = package_owners law count two 1 xs k a h

-- THE LAW

as_many : (q : ℕ) (xs : List PackageParts) → length (package_starts q xs) ≡ length xs
as_many q [] = refl
as_many q (x ∷ xs) = ap suc (as_many (suc q) xs)

pub runs_are_connected : Package_names_known → (r : RunParts) (s : Surroundings) → AreLinked r.packages → IsConnected (run_application r s)
runs_are_connected law r s h =
    let xs = r.packages in
    let count : length (all_starts xs) ≡ suc (length xs) = ap suc (as_many 1 xs) in
    let own = h.own in
    let two : 2 ≤ length (all_starts xs) = omega (arith, own, count) in
    let links = subst (λ (n : ℕ). AllLeadOn n 1 xs) (sym count) h.links in
    record {
      two = two;
      starts = λ p a k. start_owners law (length (all_starts xs)) two xs p a k;
      linked = λ p link e. (reaches (length (all_starts xs)) p (start_at (all_starts xs) p).links _ (start_links (length (all_starts xs)) xs two links p) e).there;
      apart = λ p link e. (reaches (length (all_starts xs)) p (start_at (all_starts xs) p).links _ (start_links (length (all_starts xs)) xs two links p) e).apart;
    }
