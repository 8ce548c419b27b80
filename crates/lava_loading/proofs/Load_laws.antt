-- Two answers on the modules of an application are one, but for the name of a form that is left out where a module is refused.
use Rattle.std.proofs.Common.{◌≡◌, ℕ, zero, suc, ◌+◌, List, [], Result, Ok, Err, sym, ap, ◌∙◌, refl}
use Rattle.std.proofs.Math.Nat.{add_comm, add-suc, add-zero}
use Rattle.pkg_load.specs.Applications.{Application, IsLoaded}
use Rattle.pkg_load.specs.LoadFaults.{Answers}
use Rattle.pkg_load.specs.Loading.{Loading, after, loading_begun, next_of, then_next}
use Rattle.pkg_load.specs.Reasons.{Explained}
use Rattle.pkg_load.specs.Sources.{Sources, plain_reason}
use Rattle.pkg_load.specs.declared.fault.LoadFault.{LoadFault}
use Rattle.pkg_load.specs.declared.fault.LoadFault.TheVariants as load
use Rattle.pkg_load.specs.declared.reader.ModuleKind.{ModuleKind}
use Rattle.pkg_load.specs.declared.reader.ModuleRead.{ModuleRead}
use Rattle.lava_loading.specs.Laws.{IsOfModules, plain_module_fault}

module _ {T : Type 0} where
  abbrev pub plain_load : Result (Application T) LoadFault → Result (Application T) LoadFault
  plain_load (Ok app) = Ok app
  plain_load (Err f) = Err (plain_module_fault f)

  -- the answer is one on what the folder holds
  abbrev pub IsOfLoad : Result (Application T) LoadFault → Type 0
  IsOfLoad (Ok app) = Unit {0}
  IsOfLoad (Err f) = IsOfModules f

  -- nothing is required any more
  abbrev IsOver : Result (Loading T) LoadFault → Type 0
  IsOver (Ok s) = s.pending ≡ []
  IsOver (Err f) = Unit {0}

  stays_over : (w : Sources T) (r : Result (Loading T) LoadFault) → IsOver r → then_next w r ≡ r
  stays_over w (Ok s) over = ap (next_of w s) over
  stays_over w (Err f) over = refl

  stays : (w : Sources T) (s : Loading T) (n k : ℕ) (r : Result (Loading T) LoadFault) → after w s n ≡ r → IsOver r → after w s (n + k) ≡ r
  unfolding after
  stays w s n zero r is over = ap (after w s) (add-zero n) ∙ is
  stays w s n (suc k) r is over = ap (after w s) (add-suc n k) ∙ (ap (then_next w) (stays w s n k r is over) ∙ stays_over w r over)

  over_one : (w : Sources T) (s : Loading T) (n m : ℕ) (r q : Result (Loading T) LoadFault) → after w s n ≡ r → after w s m ≡ q → IsOver r → IsOver q → r ≡ q
  over_one w s n m r q is it over end =
      sym (stays w s n m r is over) ∙ ap (after w s) (add_comm n m) ∙ stays w s m n q it end

  -- what comes of the entry, as an answer
  abbrev as_answer : Sources T → Result (Loading T) LoadFault → Result (Application T) LoadFault
  as_answer w (Ok s) = Ok (record { packages = w.packages; modules = s.modules })
  as_answer w (Err f) = Err f

  record Comes_of (w : Sources T) (r : Result (Application T) LoadFault) : Type 0 where
    pub end : Result (Loading T) LoadFault
    pub turns : ℕ
    pub is : after w loading_begun turns ≡ end
    pub over : IsOver end
    pub answer : plain_load r ≡ as_answer w end

  comes_of : (reads : ModuleKind → List ℕ → ModuleRead T → Type 0) (w : Sources T) (r : Result (Application T) LoadFault) → Answers (Explained reads w (IsLoaded w)) r → IsOfLoad r → Comes_of w r
  comes_of reads w (Ok app) p of =
      record { end = Ok p.0; turns = p.1.0; is = p.1.1; over = p.2; answer = λ j. Ok (record { packages = p.4 j; modules = p.3 j }) }
  comes_of reads w (Err (load.Syntax name path place what)) p of =
      record { end = Err (load.Syntax name path place (plain_reason what)); turns = p.0.0; is = p.0.1; over = tt; answer = refl }
  comes_of reads w (Err (load.Missing name request)) p of = record { end = Err (load.Missing name request); turns = p.0; is = p.1; over = tt; answer = refl }
  comes_of reads w (Err (load.TooMany what count)) p of = record { end = Err (load.TooMany what count); turns = p.0; is = p.1; over = tt; answer = refl }
  comes_of reads w (Err load.Folder) p of = absurd of
  comes_of reads w (Err load.OutOfMemory) p of = absurd of

  pub load_one : (reads : ModuleKind → List ℕ → ModuleRead T → Type 0) (w : Sources T) (r q : Result (Application T) LoadFault) → Answers (Explained reads w (IsLoaded w)) r → Answers (Explained reads w (IsLoaded w)) q → IsOfLoad r → IsOfLoad q → plain_load r ≡ plain_load q
  load_one reads w r q p s of for =
      let a = comes_of reads w r p of in
      let b = comes_of reads w q s for in
      a.answer ∙ ap (as_answer w) (over_one w loading_begun a.turns b.turns a.end b.end a.is b.is a.over b.over) ∙ sym b.answer
