-- What starts name of others: objects of the host, and the global of the application's own package.
use Rattle.std.proofs.Common.{◌≡◌, ℕ, zero, suc, ◌<◌, ◌+◌, true, List, [], ◌∷◌, ◌++◌, get_or, refl, sym, ap, ◌∙◌, subst, arith, inl, inr, ⊎_elim}
use Rattle.lava_base.specs.declared.ids.MadeSymbol.{MadeSymbol}
use Rattle.lava_base.specs.declared.ids.Ref.{Ref}
use Rattle.js_text.specs.Identities.{Identity, Of_object, Of_symbol, value_identities}
use Rattle.js_text.specs.Naming.{naming_of}
use Rattle.js_desc.specs.Identities.{all_identities, option_identities}
use Rattle.js_store.specs.Identities.{object_identities}
use Rattle.js_world.specs.js_run.Identities.{IsAmong, party_identities}
use Rattle.js_world.specs.js_run.Journal.{Application, find_mark}
use Rattle.js_world.specs.js_run.Laws.{HasMark, IsWellMade, is_foreign, is_from_other, left_first, owner}
use Rattle.js_world.specs.js_run.Parties.{Party}
use Rattle.js_world.specs.js_run.Starts.{host_party, host_ref}
use Rattle.js_world.proofs.of_js_run_laws.Given_laws.{blank_home, host_home, in_all, never}
use Rattle.js_world.proofs.of_js_run_laws.Looks.{behind, in_front}
use Rattle.js_world.proofs.of_js_run_laws.Story.{in_either}
use Rattle.js_world.proofs.of_js_crossing.Shown_laws.{choose}
use Rattle.lava_start.specs.Applications.{AllInRange, PackageParts, RunParts, Surroundings, counted_down, first_known, no_start, package_start, package_starts, run_application}
use Rattle.lava_start.specs.Grants.{IsHostObject, Package_names_all, Package_names_known, host_count, package_builtin, package_identities, package_names, package_objects, root_global}
use Rattle.lava_start.specs.Laws.{Runs_are_well_made}

-- what a package begins with names what its objects name, and what its `require` of a part of the host gives
start_names : (p : ℕ) (x : PackageParts) (a : Identity Ref MadeSymbol) → IsAmong a (party_identities (package_start p x).own) → IsAmong a (package_identities p x.globals x.builtins)
start_names p x a h =
    let objects = all_identities object_identities (package_objects p x.globals x.builtins) in
    let builtin = option_identities value_identities (package_builtin p x.globals x.builtins) in
    ⊎_elim
    (λ k. in_front a objects builtin k)
    (λ k. behind a objects builtin (in_all a builtin k))
    (in_either a objects (builtin ++ []) h)

module _ (all : Package_names_all) where
  -- what the package of a place names of others is among its names
  names_in : (q : ℕ) (xs : List PackageParts) → AllInRange xs → (p k : ℕ) → p ≡ q + k → (a : Identity Ref MadeSymbol) → is_foreign p a ≡ true
      → IsAmong a (party_identities (get_or (package_starts q xs) k no_start).own) → IsAmong a (get_or (package_starts q xs) k no_start).names
  names_in q [] range p k e a foreign h = absurd (blank_home a h)
  names_in q (x ∷ xs) range p zero e a foreign h =
      let same : p ≡ q = e ∙ omega arith in
      all q x.globals x.builtins range.0 a (subst (λ n. is_foreign n a ≡ true) same foreign) (start_names q x a h)
  names_in q (x ∷ xs) range p (suc k) e a foreign h = names_in (suc q) xs range.1 p k (e ∙ omega arith) a foreign h

-- what is among the names of a package is known
known_in : Package_names_known → (q : ℕ) (xs : List PackageParts) (k : ℕ) (P : Identity Ref MadeSymbol → Type 0) → ((n : ℕ) → n < host_count → P (Of_object (host_ref n))) → P (Of_object root_global)
    → (a : Identity Ref MadeSymbol) → IsAmong a (get_or (package_starts q xs) k no_start).names → P a
known_in law q [] k P hosts root a h = absurd h
known_in law q (x ∷ xs) zero P hosts root a h =
    ⊎_elim
    (λ (o : IsHostObject a). subst P (sym o.is) (hosts o.number o.within))
    (λ e. subst P (sym e) root)
    (law x.globals x.builtins a h)
known_in law q (x ∷ xs) (suc k) P hosts root a h = known_in law (suc q) xs k P hosts root a h

-- THE OBJECTS OF THE HOST

in_counted : (p n k : ℕ) → k < n → IsAmong (Of_object ((naming_of p).own k)) (left_first p (counted_down n))
in_counted p zero k lt = absurd (omega (arith, lt))
in_counted p (suc n) k lt =
    choose k n (λ b. IsAmong (Of_object ((naming_of p).own k)) (left_first p (counted_down (suc n))))
    (λ e. inl (ap (λ i. Of_object ((naming_of p).own i)) e))
    (λ other. inr (in_counted p n k (below n k lt other)))
  where
    below : (n k : ℕ) → k < suc n → (k ≡ n → ⊥) → k < n
    below n k lt other = omega (arith, lt, other)

abbrev Marked : Ref → Type 0
Marked r = HasMark (find_mark r first_known)

host_marked : (n : ℕ) → n < host_count → Marked (host_ref n)
host_marked zero lt = (_, refl)
host_marked (suc zero) lt = (_, refl)
host_marked (suc (suc zero)) lt = (_, refl)
host_marked (suc (suc (suc zero))) lt = (_, refl)
host_marked (suc (suc (suc (suc zero)))) lt = (_, refl)
host_marked (suc (suc (suc (suc (suc zero))))) lt = (_, refl)
host_marked (suc (suc (suc (suc (suc (suc zero)))))) lt = (_, refl)
host_marked (suc (suc (suc (suc (suc (suc (suc zero))))))) lt = (_, refl)
host_marked (suc (suc (suc (suc (suc (suc (suc (suc zero)))))))) lt = (_, refl)
host_marked (suc (suc (suc (suc (suc (suc (suc (suc (suc zero))))))))) lt = (_, refl)
host_marked (suc (suc (suc (suc (suc (suc (suc (suc (suc (suc zero)))))))))) lt = (_, refl)
host_marked (suc (suc (suc (suc (suc (suc (suc (suc (suc (suc (suc zero))))))))))) lt = (_, refl)
host_marked (suc (suc (suc (suc (suc (suc (suc (suc (suc (suc (suc (suc n)))))))))))) lt = absurd (omega (arith, lt))

-- EACH APPLICATION OF A RUN

module _ (all : Package_names_all) (law : Package_names_known) (r : RunParts) (s : Surroundings) (range : AllInRange r.packages) where
  abbrev app : Application
  app = run_application r s

  -- the host names none of others
  listed : (p : ℕ) (a : Identity Ref MadeSymbol) → is_foreign p a ≡ true → IsAmong a (party_identities (app.own p)) → IsAmong a (app.starts p)
  listed zero a foreign h = absurd (never 0 (party_identities host_party) host_home a foreign h)
  listed (suc k) a foreign h = names_in all 1 r.packages range (suc k) k (omega arith) a foreign h

  known : (p : ℕ) (P : Identity Ref MadeSymbol → Type 0) → ((n : ℕ) → n < host_count → P (Of_object (host_ref n))) → P (Of_object root_global) → (a : Identity Ref MadeSymbol) → IsAmong a (app.starts p) → P a
  known zero P hosts root a h = absurd h
  known (suc k) P hosts root a h = known_in law 1 r.packages k P hosts root a h

  abbrev HasMarks : Identity Ref MadeSymbol → Type 0
  HasMarks (Of_object o) = Marked o
  HasMarks (Of_symbol o) = Unit {0}

  abbrev Left : Identity Ref MadeSymbol → Type 0
  Left b = IsAmong b (left_first (owner b) (app.left (owner b)))

  -- the global of the application's own package has left it, where there is one
  root_left : (p : ℕ) (xs : List PackageParts) (a : Identity Ref MadeSymbol) → IsAmong a (get_or (package_starts 1 xs) p no_start).names → IsAmong (Of_object root_global) (left_first 1 (get_or (package_starts 1 xs) 0 no_start).left)
  root_left p [] a h = absurd h
  root_left p (x ∷ xs) a h = inl refl

  has_left : (p : ℕ) (a : Identity Ref MadeSymbol) → IsAmong a (app.starts p) → Left a
  has_left zero a h = absurd h
  has_left (suc k) a h = known (suc k) Left (λ n lt. in_counted 0 host_count n lt) (root_left k r.packages a h) a h

  made : IsWellMade app
  made = record {
    marked = λ p o foreign h. known p HasMarks (λ n lt. host_marked n lt) (_, refl) (Of_object o) (listed p (Of_object o) (ap is_from_other foreign) h);
    listed = listed;
    left = λ p a foreign h. has_left p a (listed p a foreign h);
  }

pub well_made : Package_names_all → Package_names_known → Runs_are_well_made
well_made all law r s range = made all law r s range
