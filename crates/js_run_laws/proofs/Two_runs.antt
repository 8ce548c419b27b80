-- More time and a longer history; and two runs of parties that are alike from inside.
use Rattle.std.proofs.Common.{◌≡◌, ◌≢◌, ℕ, zero, suc, ◌+◌, ◌≤◌, List, [], ◌∷◌, ◌++◌, append_assoc, length, map, false, Option, Some, None, refl, sym, ap, ◌∙◌, subst, ◌⊎◌, inl, inr, ⊎_elim, arith}
use Rattle.std.proofs.lemmas.Bool.{cases_eq, cases_lt, eq-eqb, ne_eqb}
use mathlib.Core.Equiv.{Iso, equiv_to_iso, iso_to_equiv}
use Rattle.lava_base.specs.declared.ids.MadeSymbol.{MadeSymbol}
use Rattle.lava_base.specs.declared.ids.Ref.{Ref}
use Rattle.lava_base.specs.declared.marks.Marks.{Marks}
use Rattle.js_text.specs.Identities.{Identity, Of_object}
use Rattle.js_text.specs.Maps.{map_symbol}
use Rattle.js_text.specs.Naming.{Foreign, IsAlike, Naming, naming_of, origin_of}
use Rattle.js_run.specs.Acts.{Next}
use Rattle.js_run.specs.Completions.{reply_of}
use Rattle.js_run.specs.Heap.{World, heap}
use Rattle.js_run.specs.Identities.{IsAmong, Message, Replies, Requests, given, history_identities, message_identities, party_identities}
use Rattle.js_run.specs.Journal.{Application, Ending, env_of, first_of, received, sent_by, table_of}
use Rattle.js_run.specs.Laws.{IsEnd, IsWaiting}
use Rattle.js_run.specs.Local.{Has_ended, Is_short, Local, Outgoing, Standing, Waits, after, first_sent, local, outgoing, served, taken_up, takes}
use Rattle.js_run.specs.Maps.{HasMarks, Seen, Waiting, map_message, map_outgoing, map_party, map_seen, seen, shows}
use Rattle.js_run.specs.Net.{last_receiver}
use Rattle.js_run.specs.Outside.{Fails}
use Rattle.js_run.specs.Parties.{Party, Shared}
use Rattle.js_run.specs.Runs.{Env, Gave, Point, Sent, Short, Stop, Stopped, run}
use Rattle.js_run.specs.View.{Inside, SameMarks, Same_things_same_runs, Two_runs, inner_received, inner_sent, inner_start}
use Rattle.js_run_laws.proofs.Agree.{Has_run, waited_rest}
use Rattle.js_run_laws.proofs.Chain.{HadTurn, had_turn}
use Rattle.js_run_laws.proofs.Known.{same_marks_same_run}
use Rattle.js_run_laws.proofs.Looks.{behind, in_front}
use Rattle.js_run_laws.proofs.Own.{ended_so}
use Rattle.js_run_laws.proofs.Rename.{names_do_not_matter}
use Rattle.js_run_laws.proofs.Returns.{alternates, length_append, one_if}
use Rattle.js_run_laws.proofs.Steps.{IsFull, run_above, run_enough, run_more, run_within, steps_of}
use Rattle.js_run_laws.proofs.Story.{in_either}
use Rattle.js_run_laws.proofs.Watch.{Watched, with_marks}

pub end_trans : {A : Type 0} (xs ys zs : List A) → IsEnd xs ys → IsEnd ys zs → IsEnd xs zs
end_trans xs ys zs h k = (k.0 ++ h.0, append_assoc k.0 h.0 xs ∙ (ap (λ l. k.0 ++ l) h.1 ∙ k.1))

-- two ends of one list: one is an end of the other
ends_compare : {A : Type 0} (xs ys zs : List A) → IsEnd xs zs → IsEnd ys zs → IsEnd xs ys ⊎ IsEnd ys xs
ends_compare xs ys zs h k = by h.0 k.0 zs h.1 k.1
  where
    by : (a b zs : List _) → a ++ xs ≡ zs → b ++ ys ≡ zs → IsEnd xs ys ⊎ IsEnd ys xs
    by [] b zs e f = inr (b, f ∙ sym e)
    by (x ∷ a) [] zs e f = inl (x ∷ a, e ∙ sym f)
    by (x ∷ a) (y ∷ b) zs e f = let both : x ∷ (a ++ xs) ≡ y ∷ (b ++ ys) = e ∙ sym f in let rest : a ++ xs ≡ b ++ ys = cc both in by a b (b ++ ys) rest refl

-- one run after another
pub record Follows {R S : Type 0} (r q : Local R S) : Type 0 where
  pub sent : IsEnd r.sent q.sent
  pub steps : r.steps ≤ q.steps

module _ {R S : Type 0} (names : Naming R S) (shared : Shared) (env : Env R) where
  alike : (r : Local R S) → Follows r r
  alike r = record { sent = ([], refl); steps = omega arith }

  follow_on : (r q s : Local R S) → Follows r q → Follows q s → Follows r s
  follow_on r q s h k = let a = h.steps in let b = k.steps in record { sent = end_trans r.sent q.sent s.sent h.sent k.sent; steps = omega (arith, a, b) }

  after_follows : (r : Local R S) (bodies : List (List (Next R S))) (stop : Stop R S) → r.steps ≤ steps_of stop → Follows r (after names r.sent bodies stop)
  after_follows r bodies (Sent o p ks n) h = record { sent = (outgoing names p n (Requests o) ∷ [], refl); steps = h }
  after_follows r bodies (Gave c p n) h = record { sent = (outgoing names p n (Replies (reply_of c)) ∷ [], refl); steps = h }
  after_follows r bodies (Stopped e n) h = record { sent = ([], refl); steps = h }
  after_follows r bodies (Short n) h = record { sent = ([], refl); steps = h }

  taken_follows : (n : ℕ) (r : Local R S) (o : Option (Point R S × List (List (Next R S)))) → Follows r (taken_up names shared env n r o)
  taken_follows n r None = alike r
  taken_follows n r (Some s) = after_follows r s.1 (run names shared env n r.steps s.0) (run_above names shared env n r.steps s.0)

  takes_follows : (n : ℕ) (r : Local R S) (st : Standing R S) (x : Message R S) → Follows r (takes names shared env n r st x)
  takes_follows n r (Waits p bodies) x = taken_follows n r (served names shared env p bodies x)
  takes_follows n r Is_short x = alike r
  takes_follows n r (Has_ended e) x = alike r

  more_comes : (start : Party R S) (n : ℕ) (newer older : List (Message R S)) → Follows (local names shared env start n older) (local names shared env start n (newer ++ older))
  more_comes start n [] older = alike (local names shared env start n older)
  more_comes start n (x ∷ newer) older =
      let r = local names shared env start n (newer ++ older) in
      follow_on _ _ _ (more_comes start n newer older) (takes_follows n r r.standing x)

  -- with more time: the same, or the first was short
  abbrev pub Longer : Local R S → Local R S → Type 0
  Longer r q = (r ≡ q) ⊎ ((r.standing ≡ Is_short) × Follows r q)

  stop_longer : (r : Local R S) (bodies : List (List (Next R S))) (stop other : Stop R S) → (IsFull stop → other ≡ stop) → steps_of stop ≤ steps_of other → Longer (after names r.sent bodies stop) (after names r.sent bodies other)
  stop_longer r bodies (Sent o p ks n) other full k = inl (ap (after names r.sent bodies) (sym (full tt)))
  stop_longer r bodies (Gave c p n) other full k = inl (ap (after names r.sent bodies) (sym (full tt)))
  stop_longer r bodies (Stopped e n) other full k = inl (ap (after names r.sent bodies) (sym (full tt)))
  stop_longer r bodies (Short n) other full k =
      inr (refl, after_follows (record { sent = r.sent; steps = n; standing = Is_short }) bodies other k)

  taken_longer : (n m : ℕ) → n ≤ m → (r : Local R S) → r.steps ≤ n → (o : Option (Point R S × List (List (Next R S)))) → Longer (taken_up names shared env n r o) (taken_up names shared env m r o)
  taken_longer n m le r small None = inl refl
  taken_longer n m le r small (Some s) =
      let k = run_within names shared env n r.steps s.0 small in
      stop_longer r s.1 (run names shared env n r.steps s.0) (run names shared env m r.steps s.0)
      (λ full. run_enough names shared env n m r.steps s.0 full (omega (arith, k, le)))
      (run_more names shared env n m r.steps s.0 le)

  takes_longer : (n m : ℕ) → n ≤ m → (r : Local R S) → r.steps ≤ n → (st : Standing R S) (x : Message R S) → Longer (takes names shared env n r st x) (takes names shared env m r st x)
  takes_longer n m le r small (Waits p bodies) x = taken_longer n m le r small (served names shared env p bodies x)
  takes_longer n m le r small Is_short x = inl refl
  takes_longer n m le r small (Has_ended e) x = inl refl

  -- a run's steps are within its count
  after_within : (n : ℕ) (sent : List (Outgoing R S)) (bodies : List (List (Next R S))) (stop : Stop R S) → steps_of stop ≤ n → (after names sent bodies stop).steps ≤ n
  after_within n sent bodies (Sent o p ks m) h = h
  after_within n sent bodies (Gave c p m) h = h
  after_within n sent bodies (Stopped e m) h = h
  after_within n sent bodies (Short m) h = h

  taken_within : (n : ℕ) (r : Local R S) (o : Option (Point R S × List (List (Next R S)))) → r.steps ≤ n → (taken_up names shared env n r o).steps ≤ n
  taken_within n r None h = h
  taken_within n r (Some s) h = after_within n r.sent s.1 (run names shared env n r.steps s.0) (run_within names shared env n r.steps s.0 h)

  takes_within : (n : ℕ) (r : Local R S) (st : Standing R S) (x : Message R S) → r.steps ≤ n → (takes names shared env n r st x).steps ≤ n
  takes_within n r (Waits p bodies) x h = taken_within n r (served names shared env p bodies x) h
  takes_within n r Is_short x h = h
  takes_within n r (Has_ended e) x h = h

  steps_within : (start : Party R S) (n : ℕ) (h : List (Message R S)) → (local names shared env start n h).steps ≤ n
  steps_within start n [] = omega arith
  steps_within start n (x ∷ older) = let r = local names shared env start n older in takes_within n r r.standing x (steps_within start n older)

  -- over plain runs r and q: at the runs themselves the comparison of types does not end
  step_longer : (n m : ℕ) → n ≤ m → (r q : Local R S) → r.steps ≤ n → (x : Message R S) → Longer r q → Longer (takes names shared env n r r.standing x) (takes names shared env m q q.standing x)
  step_longer n m le r q small x h =
      ⊎_elim {C = Longer (takes names shared env n r r.standing x) (takes names shared env m q q.standing x)}
      (λ e. subst (λ (s : Local R S). Longer (takes names shared env n r r.standing x) (takes names shared env m s s.standing x)) e (takes_longer n m le r small r.standing x))
      (λ h.
      let stays : takes names shared env n r r.standing x ≡ r = ap (λ st. takes names shared env n r st x) h.0 in
      subst (λ (s : Local R S). Longer s (takes names shared env m q q.standing x)) (sym stays) (inr (h.0, follow_on r q (takes names shared env m q q.standing x) h.1 (takes_follows m q q.standing x))))
      h

  pub more_time : (start : Party R S) (n m : ℕ) → n ≤ m → (h : List (Message R S)) → Longer (local names shared env start n h) (local names shared env start m h)
  more_time start n m le [] = inl refl
  more_time start n m le (x ∷ older) = step_longer n m le (local names shared env start n older) (local names shared env start m older) (steps_within start n older) x (more_time start n m le older)

  longer_follows : (r q : Local R S) → Longer r q → Follows r q
  longer_follows r q h = ⊎_elim (λ e. subst (Follows r) e (alike r)) (λ k. k.1) h

  -- with more time and more that comes, a party sends what it sent and maybe more
  pub longer : (start : Party R S) (n m : ℕ) (newer older : List (Message R S)) → n ≤ m → IsEnd (local names shared env start n older).sent (local names shared env start m (newer ++ older)).sent
  longer start n m newer older le = (follow_on _ _ _ (longer_follows _ _ (more_time start n m le older)) (more_comes start m newer older)).sent

  all_waited : (start : Party R S) (n : ℕ) (newer older : List (Message R S)) → IsWaiting (local names shared env start n (newer ++ older)).standing → IsWaiting (local names shared env start n older).standing
  all_waited start n [] older h = h
  all_waited start n (x ∷ newer) older h = all_waited start n newer older (waited_rest names shared env start n (x ∷ newer ++ older) h x (newer ++ older) refl)

  -- each crossing is followed by one more at most
  pub one_at_most : (n : ℕ) (r : Local R S) (st : Standing R S) (x : Message R S) → length (takes names shared env n r st x).sent ≤ suc (length r.sent)
  one_at_most n r (Waits p bodies) x = by (served names shared env p bodies x)
    where
      by_stop : (bodies : List (List (Next R S))) (stop : Stop R S) → length (after names r.sent bodies stop).sent ≤ suc (length r.sent)
      by_stop bodies (Sent o p ks m) = omega arith
      by_stop bodies (Gave c p m) = omega arith
      by_stop bodies (Stopped e m) = omega arith
      by_stop bodies (Short m) = omega arith

      by : (o : Option (Point R S × List (List (Next R S)))) → length (taken_up names shared env n r o).sent ≤ suc (length r.sent)
      by None = omega arith
      by (Some s) = by_stop s.1 (run names shared env n r.steps s.0)
  one_at_most n r Is_short x = omega arith
  one_at_most n r (Has_ended e) x = omega arith

  pub sent_few : (start : Party R S) (n : ℕ) (ins : List (Message R S)) → length (local names shared env start n ins).sent ≤ length ins + length (first_sent {R = R} {S = S} env.first)
  sent_few start n [] = omega arith
  sent_few start n (x ∷ older) = let r = local names shared env start n older in let h = sent_few start n older in let k = one_at_most n r r.standing x in omega (arith, h, k)

  -- what is told of a run that came to this
  pub record Ran (start : Party R S) (n : ℕ) (ins : List (Message R S)) (sent : List (Outgoing R S)) : Type 0 where
    pub waited : (x : Message R S) (older : List (Message R S)) → ins ≡ x ∷ older → IsWaiting (local names shared env start n older).standing
    pub kept : (x : Message R S) (older : List (Message R S)) → ins ≡ x ∷ older → IsEnd (local names shared env start n older).sent sent
    -- and there were as many as had come
    pub paced : (x : Message R S) (older : List (Message R S)) → ins ≡ x ∷ older → length (local names shared env start n older).sent ≡ length older
    pub end : IsEnd sent (local names shared env start n ins).sent
    pub steps : (local names shared env start n ins).steps ≡ n

  module _ (start : Party R S) (n m : ℕ) (ins all : List (Message R S)) (sent other : List (Outgoing R S)) (a : Ran start n ins sent) (b : Ran start m all other) where
    in_time : (newer : List (Message R S)) → newer ≢ [] → all ≡ newer ++ ins → n ≤ m
    in_time [] ne is = absurd (ne refl)
    in_time (x ∷ newer) ne is =
        let wait = all_waited start m newer ins (b.waited x (newer ++ ins) is) in
        let here = a.steps in
        let there = steps_within start m ins in
        ⊎_elim
        (λ lt. ⊎_elim
        (λ same. let k : (local names shared env start m ins).steps ≡ n = ap (λ (r : Local R S). r.steps) same ∙ here in omega (arith, there, k))
        (λ cut. absurd (subst IsWaiting cut.0 wait))
        (more_time start m n (omega (arith, lt)) ins))
        (λ le. le)
        (cases_lt m n)

    by_more : (newer : List (Message R S)) → newer ≢ [] → all ≡ newer ++ ins → IsEnd sent other
    by_more [] ne is = absurd (ne refl)
    by_more (x ∷ newer) ne is =
        let le = in_time (x ∷ newer) ne is in
        let k : IsEnd (local names shared env start n ins).sent (local names shared env start m (newer ++ ins)).sent = longer start n m newer ins le in
        end_trans _ _ _ a.end (end_trans _ _ _ k (b.kept x (newer ++ ins) is))

    by_equal : all ≡ ins → IsEnd sent other ⊎ IsEnd other sent
    by_equal is =
        let b_end : IsEnd other (local names shared env start m ins).sent = subst (λ xs. IsEnd other (local names shared env start m xs).sent) is b.end in
        ⊎_elim
        (λ lt. ends_compare sent other (local names shared env start n ins).sent a.end (end_trans _ _ _ b_end (longer start m n [] ins (omega (arith, lt)))))
        (λ le. ends_compare sent other (local names shared env start m ins).sent (end_trans _ _ _ a.end (longer start n m [] ins le)) b_end)
        (cases_lt m n)

-- FROM INSIDE
pub map_append : {A B : Type 0} (f : A → B) (xs ys : List A) → map f (xs ++ ys) ≡ map f xs ++ map f ys
map_append f [] ys = refl
map_append f (x ∷ xs) ys = ap (λ zs. f x ∷ zs) (map_append f xs ys)

map_end : {A B : Type 0} (f : A → B) (xs ys : List A) → IsEnd xs ys → IsEnd (map f xs) (map f ys)
map_end f xs ys h = (map f h.0, sym (map_append f h.0 xs) ∙ ap (map f) h.1)

pub map_length : {A B : Type 0} (f : A → B) (xs : List A) → length (map f xs) ≡ length xs
map_length f [] = refl
map_length f (x ∷ xs) = ap suc (map_length f xs)

-- a list that is the map of another
split_map : {A B : Type 0} (f : A → B) (xs : List A) (y : B) (ys : List B) → map f xs ≡ y ∷ ys → (x : A) × (older : List A) × (xs ≡ x ∷ older) × (map f older ≡ ys)
split_map f [] y ys e = absurd (cc e)
split_map f (x ∷ xs) y ys e = let rest : map f xs ≡ ys = cc e in (x, xs, refl, rest)

waits_shown : {R S : Type 0} (st : Standing R S) → shows st ≡ Waiting → IsWaiting st
waits_shown (Waits own bodies) e = tt
waits_shown Is_short e = absurd (cc e)
waits_shown (Has_ended k) e = absurd (cc e)

shown_waits : {R S : Type 0} (st : Standing R S) → IsWaiting st → shows st ≡ Waiting
shown_waits (Waits own bodies) h = refl
shown_waits Is_short h = absurd h
shown_waits (Has_ended k) h = absurd h

module _ (p : ℕ) (shared : Shared) (env : Env Ref) (start : Party Ref MadeSymbol) (f : Iso Ref Ref) (g : Iso MadeSymbol MadeSymbol) (same : IsAlike (naming_of p) (naming_of 1) f.fun g.fun) (inner : Ref → Marks) (told : HasMarks env.marks inner f.fun) where
  abbrev pub start_in : Party Ref MadeSymbol
  start_in = map_party f.fun (map_symbol g.fun) start

  abbrev pub bodies_in : List (Message Ref MadeSymbol) → List (Message Ref MadeSymbol)
  bodies_in xs = map (map_message f.fun (map_symbol g.fun)) xs

  seen_in : (n : ℕ) (xs : List (Message Ref MadeSymbol)) → seen (local (naming_of 1) shared (with_marks inner env) start_in n (bodies_in xs)) ≡ map_seen f.fun (map_symbol g.fun) (seen (local (naming_of p) shared env start n xs))
  seen_in n xs = ap (λ (x : Watched Ref MadeSymbol). record { sent = x.sent; steps = x.steps; standing = x.standing }) (names_do_not_matter (iso_to_equiv f) (iso_to_equiv g) (naming_of p) (naming_of 1) same shared env inner told start n xs)

  pub carry : (n : ℕ) (xs : List (Message Ref MadeSymbol)) (sent : List (Outgoing Ref MadeSymbol)) → Ran (naming_of p) shared env start n xs sent → Ran (naming_of 1) shared (with_marks inner env) start_in n (bodies_in xs) (map (map_outgoing f.fun (map_symbol g.fun)) sent)
  carry n xs sent r = record {
    waited = λ x older is.
        let s = split_map (map_message f.fun (map_symbol g.fun)) xs x older is in
        subst (λ ys. IsWaiting (local (naming_of 1) shared (with_marks inner env) start_in n ys).standing) s.3
        (waits_shown _ (ap (λ (z : Seen Ref MadeSymbol). z.standing) (seen_in n s.1) ∙ shown_waits _ (r.waited s.0 s.1 s.2)));
    kept = λ x older is.
        let s = split_map (map_message f.fun (map_symbol g.fun)) xs x older is in
        subst (λ ys. IsEnd (local (naming_of 1) shared (with_marks inner env) start_in n ys).sent (map (map_outgoing f.fun (map_symbol g.fun)) sent)) s.3
        (subst (λ zs. IsEnd zs (map (map_outgoing f.fun (map_symbol g.fun)) sent)) (sym (ap (λ (z : Seen Ref MadeSymbol). z.sent) (seen_in n s.1))) (map_end (map_outgoing f.fun (map_symbol g.fun)) _ _ (r.kept s.0 s.1 s.2)));
    paced = λ x older is.
        let s = split_map (map_message f.fun (map_symbol g.fun)) xs x older is in
        subst (λ ys. length (local (naming_of 1) shared (with_marks inner env) start_in n ys).sent ≡ length ys) s.3
        (ap length (ap (λ (z : Seen Ref MadeSymbol). z.sent) (seen_in n s.1)) ∙ (map_length (map_outgoing f.fun (map_symbol g.fun)) _ ∙ (r.paced s.0 s.1 s.2 ∙ sym (map_length (map_message f.fun (map_symbol g.fun)) s.1))));
    end = subst (λ zs. IsEnd (map (map_outgoing f.fun (map_symbol g.fun)) sent) zs) (sym (ap (λ (z : Seen Ref MadeSymbol). z.sent) (seen_in n xs))) (map_end (map_outgoing f.fun (map_symbol g.fun)) _ _ r.end);
    steps = ap (λ (z : Seen Ref MadeSymbol). z.steps) (seen_in n xs) ∙ r.steps;
  }

pub no_first : (p : ℕ) → p ≢ 0 → first_of p ≡ None
no_first zero p0 = absurd (p0 refl)
no_first (suc p) p0 = refl

pub ran_of : (app : Application) (w : World) (e : Ending) (p : ℕ) → p ≢ 0 → HadTurn w.journal → Has_run app w e p → Ran (naming_of p) app.shared (env_of app (table_of app w.journal) p) (app.own p) (w.steps p) (received p w.journal) (sent_by p w.journal)
ran_of app w e p p0 had h = record {
  waited = h.waited;
  kept = h.kept;
  paced = λ x older is. let size : length (received p w.journal) ≡ suc (length older) = ap length is in ⊎_elim
      (λ turn. ap length (h.at_turn p0 turn x older is) ∙ (let a = subst (λ b. length (received p w.journal) ≡ length (sent_by p w.journal) + one_if b) (eq-eqb (last_receiver w.journal) p turn) (alternates p p0 w.journal had) in omega (arith, a, size)))
      (λ away.
      let a = subst (λ b. length (received p w.journal) ≡ length (sent_by p w.journal) + one_if b) (ne_eqb (last_receiver w.journal) p away) (alternates p p0 w.journal had) in
      let env = env_of app (table_of app w.journal) p in
      let r = local (naming_of p) app.shared env (app.own p) (w.steps p) older in
      let all = ap (λ (l : Local Ref MadeSymbol). length l.sent) (sym (ap (local (naming_of p) app.shared env (app.own p) (w.steps p)) is) ∙ h.is) in
      let most = one_at_most (naming_of p) app.shared env (w.steps p) r r.standing x in
      let few = subst (λ (o : Option (List ℕ)). length r.sent ≤ length older + length (first_sent {R = Ref} {S = MadeSymbol} o)) (no_first p p0) (sent_few (naming_of p) app.shared env (app.own p) (w.steps p) older) in
      let plus = length_append h.more (sent_by p w.journal) in
      omega (arith, a, size, all, most, few, plus))
      (cases_eq (last_receiver w.journal) p);
  end = (h.more, sym (ap (λ (r : Local Ref MadeSymbol). r.sent) h.is));
  steps = ap (λ (r : Local Ref MadeSymbol). r.steps) h.is;
}

-- the same run under another table that agrees on what was given
older_given : (start : Party Ref MadeSymbol) (x : Message Ref MadeSymbol) (older : List (Message Ref MadeSymbol)) (a : Identity Ref MadeSymbol) → IsAmong a (given start older) → IsAmong a (given start (x ∷ older))
older_given start x older a h = ⊎_elim
    (λ k. in_front a (party_identities start) (message_identities x ++ history_identities older) k)
    (λ k. behind a (party_identities start) (message_identities x ++ history_identities older) (behind a (message_identities x) (history_identities older) k))
    (in_either a (party_identities start) (history_identities older) h)

other_table : (p : ℕ) (shared : Shared) (env : Env Ref) (start : Party Ref MadeSymbol) (n : ℕ) (xs : List (Message Ref MadeSymbol)) (sent : List (Outgoing Ref MadeSymbol)) (marks other : Ref → Marks) → ((r : Ref) → origin_of p r ≡ Foreign → IsAmong (Of_object r) (given start xs) → marks r ≡ other r) → Ran (naming_of p) shared (with_marks marks env) start n xs sent → Ran (naming_of p) shared (with_marks other env) start n xs sent
other_table p shared env start n xs sent marks other agree r =
    let whole = same_marks_same_run p shared env start n xs marks other agree in
    let before : (x : Message Ref MadeSymbol) (older : List (Message Ref MadeSymbol)) → xs ≡ x ∷ older → local (naming_of p) shared (with_marks other env) start n older ≡ local (naming_of p) shared (with_marks marks env) start n older = λ x older is.
    same_marks_same_run p shared env start n older marks other (λ g gp h. agree g gp (subst (λ ys. IsAmong (Of_object g) (given start ys)) (sym is) (older_given start x older (Of_object g) h))) in
    record {
      waited = λ x older is. subst (λ (l : Local Ref MadeSymbol). IsWaiting l.standing) (sym (before x older is)) (r.waited x older is);
      kept = λ x older is. subst (λ (l : Local Ref MadeSymbol). IsEnd l.sent sent) (sym (before x older is)) (r.kept x older is);
      paced = λ x older is. ap (λ (l : Local Ref MadeSymbol). length l.sent) (before x older is) ∙ r.paced x older is;
      end = subst (λ (l : Local Ref MadeSymbol). IsEnd sent l.sent) (sym whole) r.end;
      steps = ap (λ (l : Local Ref MadeSymbol). l.steps) whole ∙ r.steps;
    }

-- two parties that are not the host have the same surroundings, where their links are allowed alike
same_env : (app other : Application) (marks : Ref → Marks) (p q : ℕ) → p ≢ 0 → q ≢ 0 → ((l : List ℕ) → app.allows p (app.links p l) ≡ other.allows q (other.links q l)) → env_of app marks p ≡ env_of other marks q
same_env app other marks zero q p0 q0 h = absurd (p0 refl)
same_env app other marks (suc p) zero p0 q0 h = absurd (q0 refl)
same_env app other marks (suc p) (suc q) p0 q0 h = λ j. record { marks = marks; allows = λ l. h l j; outside = λ calls. Fails []; free = false; first = None }

module _ (app other : Application) (w v : World) (d e : Ending) (p q : ℕ) (p0 : p ≢ 0) (q0 : q ≢ 0) (hw : Has_run app w d p) (hv : Has_run other v e q) (had_w : HadTurn w.journal) (had_v : HadTurn v.journal) (a : Inside app w p) (b : Inside other v q) (parts : app.shared ≡ other.shared) (things : inner_start a ≡ inner_start b) (links : (l : List ℕ) → app.allows p (app.links p l) ≡ other.allows q (other.links q l)) (tables : SameMarks a b) where
  abbrev of_b : Iso Ref Ref
  of_b = equiv_to_iso b.objects

  abbrev pub inner_b : Ref → Marks
  inner_b x = table_of other v.journal (of_b.inv x)

  abbrev pub env_b : (Ref → Marks) → Env Ref
  env_b marks = env_of other marks q

  pub second : Ran (naming_of 1) other.shared (env_b inner_b) (inner_start b) (v.steps q) (inner_received b) (inner_sent b)
  second = carry q other.shared (env_b (table_of other v.journal)) (other.own q) of_b (equiv_to_iso b.symbols) b.same inner_b (λ r. ap (table_of other v.journal) (of_b.linv r)) (v.steps q) (received q v.journal) (sent_by q v.journal) (ran_of other v e q q0 had_v hv)

  away : (x : Ref) → origin_of 1 x ≡ Foreign → origin_of q (of_b.inv x) ≡ Foreign
  away x foreign = let alike = b.same in sym (alike.origin (of_b.inv x)) ∙ (ap (origin_of 1) (of_b.rinv x) ∙ foreign)

  agree : (x : Ref) → origin_of 1 x ≡ Foreign → IsAmong (Of_object x) (given (inner_start a) (inner_received a)) → tables.marks x ≡ inner_b x
  agree x foreign h =
      let same = of_b.rinv x in
      ap tables.marks (sym same) ∙ tables.second (of_b.inv x) (away x foreign) (subst (λ z. IsAmong (Of_object z) (given (inner_start a) (inner_received a))) (sym same) h)

  pub first : Ran (naming_of 1) other.shared (env_b inner_b) (inner_start b) (w.steps p) (inner_received a) (inner_sent a)
  first =
      let by_a = carry p app.shared (env_of app (table_of app w.journal) p) (app.own p) (equiv_to_iso a.objects) (equiv_to_iso a.symbols) a.same tables.marks tables.first (w.steps p) (received p w.journal) (sent_by p w.journal) (ran_of app w d p p0 had_w hw) in
      let linked = subst (λ (env : Env Ref). Ran (naming_of 1) app.shared env (inner_start a) (w.steps p) (inner_received a) (inner_sent a)) (same_env app other tables.marks p q p0 q0 links) by_a in
      let there = subst (λ (shared : Shared). Ran (naming_of 1) shared (env_b tables.marks) (inner_start a) (w.steps p) (inner_received a) (inner_sent a)) parts linked in
      subst (λ (s : Party Ref MadeSymbol). Ran (naming_of 1) other.shared (env_b inner_b) s (w.steps p) (inner_received a) (inner_sent a)) things
      (other_table 1 other.shared (env_b tables.marks) (inner_start a) (w.steps p) (inner_received a) (inner_sent a) tables.marks inner_b agree there)

  pub both : (newer : List (Message Ref MadeSymbol)) → inner_received b ≡ newer ++ inner_received a → Two_runs a b newer
  both newer is = record {
    more = λ ne. (
      by_more (naming_of 1) other.shared (env_b inner_b) (inner_start b) (w.steps p) (v.steps q) (inner_received a) (inner_received b) (inner_sent a) (inner_sent b) first second newer ne is,
      in_time (naming_of 1) other.shared (env_b inner_b) (inner_start b) (w.steps p) (v.steps q) (inner_received a) (inner_received b) (inner_sent a) (inner_sent b) first second newer ne is,
    );
    equal = λ none. by_equal (naming_of 1) other.shared (env_b inner_b) (inner_start b) (w.steps p) (v.steps q) (inner_received a) (inner_received b) (inner_sent a) (inner_sent b) first second (is ∙ ap (λ l. l ++ inner_received a) none);
  }

pub same_runs : Same_things_same_runs
same_runs app other well also budget limit m n d e p q p0 q0 ew ev a b parts things links tables newer is =
    both app other (heap app budget m) (heap other limit n) d e p q p0 q0 (ended_so app well budget m d p ew) (ended_so other also limit n e q ev) (had_turn app budget m) (had_turn other limit n) a b parts things links tables newer is
