-- What the name of a package is made of, and that a package's directory tells its name.
use Rattle.std.proofs.Common.{◌≡◌, ◌≢◌, ◌⊎◌, inl, inr, ⊎_elim, ℕ, suc, zero, ◌+◌, ◌-◌, ◌<◌, ◌≤◌, ◌==◌, Bool, true, false, not, ◌&&◌, List, [], ◌∷◌, ◌++◌, length, get_or, take, drop, position, Option, Some, None, slice_range, slice_index, refl, sym, ap, ◌∙◌, subst, arith, append_assoc}
use Rattle.std.specs.List.{list_all}
use Rattle.std.proofs.lemmas.Bool.{agree_below_at, and_parts, cases_lt, cases_Bool, cond-true, cond-false, eqb-true, eqb-false, both_ways, not-true, true≢false}
use Rattle.std.proofs.lemmas.List.{take-append-drop, drop_more}
use Rattle.std.proofs.lemmas.List.Quantifiers.{position-Some}
use Rattle.pkg_graph.specs.PackageNames.{is_name_byte, is_name_part, is_scoped_name, is_package_name}
use Rattle.pkg_graph.specs.Worlds.{package_dir}
use Rattle.pkg_graph.specs.declared.standing.TheConstants.{PACKAGES_DIRECTORY}
use Rattle.pkg_graph.proofs.SplitLemmas.{Lacks, Lacks-append, not_nil, last_split}

-- a part has no byte that is none of a name
part_lacks : (c : ℕ) (t : List ℕ) → is_name_byte c ≡ false → list_all is_name_byte t ≡ true → Lacks c t
part_lacks c [] absent all = tt
part_lacks c (b ∷ t) absent all =
    let parts = and_parts (is_name_byte b) (list_all is_name_byte t) all in
    (λ e. both_ways (is_name_byte b) (ap is_name_byte e ∙ absent) parts.0, part_lacks c t absent parts.1)

lacks_of_part : (c : ℕ) (t : List ℕ) → is_name_byte c ≡ false → is_name_part t ≡ true → Lacks c t
lacks_of_part c t absent is =
    let parts = and_parts (not (length t == 0) && not (slice_index t 0 == 46)) (list_all is_name_byte t) is in
    part_lacks c t absent parts.1

-- a name: one part, or an `@`, a part, a `/` and a part
pub record Plain (name : List ℕ) : Type 0 where
  pub part : is_name_part name ≡ true

pub record Scoped (name : List ℕ) : Type 0 where
  pub scope : List ℕ
  pub rest : List ℕ
  pub is : name ≡ (64 ∷ scope) ++ 47 ∷ rest
  pub scope_part : is_name_part scope ≡ true
  pub rest_part : is_name_part rest ≡ true

scoped_at : (name : List ℕ) (at : Option ℕ) → slice_index name 0 ≡ 64 → position (λ b. b == 47) name ≡ at → is_scoped_name at name ≡ true → Scoped name
scoped_at name None first found is = absurd (true≢false (sym is))
scoped_at [] (Some at) first found is = absurd (omega (arith, first))
scoped_at (b ∷ t) (Some zero) first found is =
    let here = (position-Some (λ b. b == 47) (b ∷ t) 0 0 found).1 in
    let e : b ≡ 47 = eqb-true b 47 here in
    absurd (omega (arith, e, first))
scoped_at (b ∷ t) (Some (suc at)) first found is =
    let there = position-Some (λ b. b == 47) (b ∷ t) (suc at) 0 found in
    let parts = and_parts (is_name_part (slice_range (b ∷ t) 1 (suc at))) (is_name_part (drop (suc at + 1) (b ∷ t))) is in
    let e : get_or t at 0 ≡ 47 = eqb-true (get_or t at 0) 47 there.1 in
    let within : at < length t = omega (arith, there.0) in
    let after : drop at t ≡ 47 ∷ drop (at + 1) t = drop_more t at 0 within ∙ ap (λ (x : ℕ). x ∷ drop (at + 1) t) e in
    let whole : t ≡ take at t ++ 47 ∷ drop (at + 1) t = sym (take-append-drop at t) ∙ ap (λ (l : List ℕ). take at t ++ l) after in
    let less : suc at - 1 ≡ at = omega arith in
    let more : suc at + 1 ≡ suc (at + 1) = omega arith in
    record {
      scope = take at t;
      rest = drop (at + 1) t;
      is = ap (λ (x : ℕ). x ∷ t) first ∙ ap (λ (l : List ℕ). 64 ∷ l) whole;
      scope_part = subst (λ (n : ℕ). is_name_part (take n t) ≡ true) less parts.0;
      rest_part = subst (λ (n : ℕ). is_name_part (drop n (b ∷ t)) ≡ true) more parts.1;
    }

pub shape : (name : List ℕ) → is_package_name name ≡ true → Plain name ⊎ Scoped name
shape name is =
    let test : Bool = not (length name == 0) && slice_index name 0 == 64 in
    let at : Option ℕ = position (λ b. b == 47) name in
    ⊎_elim
    (λ (yes : test ≡ true). inr (scoped_at name at (eqb-true (slice_index name 0) 64 ((and_parts (not (length name == 0)) (slice_index name 0 == 64) yes).1)) refl (sym (cond-true test (is_scoped_name at name) (is_name_part name) yes) ∙ is)))
    (λ (absent : test ≡ false). inl (record { part = sym (cond-false test (is_scoped_name at name) (is_name_part name) absent) ∙ is }))
    (cases_Bool test)

-- a byte that is none of a name, and no `@` or `/`, stands in no name
pub name_lacks : (c : ℕ) (name : List ℕ) → is_name_byte c ≡ false → 64 ≢ c → 47 ≢ c → is_package_name name ≡ true → Lacks c name
name_lacks c name absent at slash is =
    ⊎_elim
    (λ (p : Plain name). lacks_of_part c name absent p.part)
    (λ (s : Scoped name). subst (Lacks c) (sym s.is) (Lacks-append c (64 ∷ s.scope) (47 ∷ s.rest) (at, lacks_of_part c s.scope absent s.scope_part) (slash, lacks_of_part c s.rest absent s.rest_part)))
    (shape name is)

pub name_some : (name : List ℕ) → is_package_name name ≡ true → name ≢ []
name_some name is e = both_ways (is_package_name name) (ap is_package_name e) is

lacks_from : (c : ℕ) (t : List ℕ) → list_all (λ b. not (b == c)) t ≡ true → Lacks c t
lacks_from c [] all = tt
lacks_from c (b ∷ t) all =
    let parts = and_parts (not (b == c)) (list_all (λ x. not (x == c)) t) all in
    (eqb-false b c (not-true (b == c) parts.0), lacks_from c t parts.1)

-- `node_modules`
abbrev folder : List ℕ
folder = 110 ∷ 111 ∷ 100 ∷ 101 ∷ 95 ∷ 109 ∷ 111 ∷ 100 ∷ 117 ∷ 108 ∷ 101 ∷ 115 ∷ []

dir_parts : (under name : List ℕ) → package_dir under name ≡ (under ++ 47 ∷ folder) ++ 47 ∷ name
dir_parts under name = append_assoc under PACKAGES_DIRECTORY.now name ∙ sym (append_assoc under (47 ∷ folder) (47 ∷ name))

-- the directory of a scoped name
scoped_parts : (under name : List ℕ) (s : Scoped name) → package_dir under name ≡ ((under ++ 47 ∷ folder) ++ 47 ∷ (64 ∷ s.scope)) ++ 47 ∷ s.rest
scoped_parts under name s =
    dir_parts under name ∙ ap (λ (l : List ℕ). (under ++ 47 ∷ folder) ++ 47 ∷ l) s.is
    ∙ sym (append_assoc (under ++ 47 ∷ folder) (47 ∷ (64 ∷ s.scope)) (47 ∷ s.rest))

scope_lacks : (s : List ℕ) → is_name_part s ≡ true → Lacks 47 (64 ∷ s)
scope_lacks s part = (λ e. omega (arith, e), lacks_of_part 47 s refl part)

-- a plain and a scoped name make no directory in common
apart : (u v n m : List ℕ) → Plain n → Scoped m → package_dir u n ≡ package_dir v m → ⊥
apart u v n m p s e =
    let outer = last_split 47 (u ++ 47 ∷ folder) n ((v ++ 47 ∷ folder) ++ 47 ∷ (64 ∷ s.scope)) s.rest (lacks_of_part 47 n refl p.part) (lacks_of_part 47 s.rest refl s.rest_part) (sym (dir_parts u n) ∙ e ∙ scoped_parts v m s) in
    let inner = last_split 47 u folder (v ++ 47 ∷ folder) (64 ∷ s.scope) (lacks_from 47 folder refl) (scope_lacks s.scope s.scope_part) outer.0 in
    let first : 110 ≡ 64 = ap (λ (l : List ℕ). get_or l 0 0) inner.1 in
    omega (arith, first)

-- a package's directory tells its name
pub dir_tells_name : (u v n m : List ℕ) → is_package_name n ≡ true → is_package_name m ≡ true → package_dir u n ≡ package_dir v m → n ≡ m
dir_tells_name u v n m is_n is_m e =
    ⊎_elim
    (λ (p : Plain n). ⊎_elim
    (λ (q : Plain m). (last_split 47 (u ++ 47 ∷ folder) n (v ++ 47 ∷ folder) m (lacks_of_part 47 n refl p.part) (lacks_of_part 47 m refl q.part) (sym (dir_parts u n) ∙ e ∙ dir_parts v m)).1)
    (λ (t : Scoped m). absurd (apart u v n m p t e))
    (shape m is_m))
    (λ (s : Scoped n). ⊎_elim
    (λ (q : Plain m). absurd (apart v u m n q s (sym e)))
    (λ (t : Scoped m).
    let outer = last_split 47 ((u ++ 47 ∷ folder) ++ 47 ∷ (64 ∷ s.scope)) s.rest ((v ++ 47 ∷ folder) ++ 47 ∷ (64 ∷ t.scope)) t.rest (lacks_of_part 47 s.rest refl s.rest_part) (lacks_of_part 47 t.rest refl t.rest_part) (sym (scoped_parts u n s) ∙ e ∙ scoped_parts v m t) in
    let inner = last_split 47 (u ++ 47 ∷ folder) (64 ∷ s.scope) (v ++ 47 ∷ folder) (64 ∷ t.scope) (scope_lacks s.scope s.scope_part) (scope_lacks t.scope t.scope_part) outer.0 in
    s.is ∙ ap (λ (l : List ℕ). l ++ 47 ∷ s.rest) inner.1 ∙ ap (λ (l : List ℕ). (64 ∷ t.scope) ++ 47 ∷ l) outer.1 ∙ sym t.is)
    (shape m is_m))
    (shape n is_n)

-- a package's directory is not the application's
pub dir_some : (under name : List ℕ) → package_dir under name ≢ []
dir_some [] name e = not_nil 47 _ e
dir_some (b ∷ under) name e = not_nil b _ e

-- `$` is 36, and what a name begins with is greater
high : (b : ℕ) → is_name_byte b ≡ true → 36 < b
high b is =
    ⊎_elim
    (λ (low : b < 37). absurd (both_ways (is_name_byte b) (agree_below_at is_name_byte (λ _. false) 37 b refl low) is))
    (λ (ge : 37 ≤ b). omega (arith, ge))
    (cases_lt b 37)

first_of_part : (t : List ℕ) → is_name_part t ≡ true → (b : ℕ) × (rest : List ℕ) × (t ≡ b ∷ rest) × (36 < b)
first_of_part [] is = absurd (true≢false (sym is))
first_of_part (b ∷ t) is =
    let parts = and_parts (not (length (b ∷ t) == 0) && not (slice_index (b ∷ t) 0 == 46)) (list_all is_name_byte (b ∷ t)) is in
    (b, t, refl, high b ((and_parts (is_name_byte b) (list_all is_name_byte t) parts.1).0))

pub first_of_name : (name : List ℕ) → is_package_name name ≡ true → (b : ℕ) × (rest : List ℕ) × (name ≡ b ∷ rest) × (36 < b)
first_of_name name is =
    ⊎_elim
    (λ (p : Plain name). first_of_part name p.part)
    (λ (s : Scoped name). (64, s.scope ++ 47 ∷ s.rest, s.is, omega arith))
    (shape name is)
