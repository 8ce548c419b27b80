-- What reading a prelude answers, from what js_program answers and what a program makes.
use Rattle.std.proofs.Common.{◌≡◌, ℕ, List, refl, sym, ap, ◌∙◌, subst, ◌⊎◌, inl, inr, Option, Some, None, Result, Ok, Err, IfOk, IfErr, MatchResult, codes}
use Rattle.lava_base.specs.declared.place.Place.{Place}
use Rattle.js_fault.specs.declared.fault.SyntaxFault.{SyntaxFault}
use Rattle.js_fault.specs.declared.fault.SyntaxFault.TheVariants as fault
use Rattle.js_fault.specs.declared.fault.SyntaxWhat.{SyntaxWhat}
use Rattle.js_fault.specs.declared.fault.SyntaxWhat.TheVariants as what
use Rattle.js_program.specs.js_parser.Trees.{IsModuleOf}
use Rattle.js_program.specs.Programs.{IsProgram, HasProgram, IsProgramFault, HasProgramCause}
use Rattle.js_reader.specs.Reading.{IsRefusal}
use Rattle.js_tree.specs.declared.tree.Module.{Module as Tree}
use Rattle.js_tree.specs.declared.tree.SourceKind.TheVariants.{Module as AsModule}
use Rattle.ses_lockdown.specs.declared.intrinsics.Intrinsics.{Intrinsics}
use Rattle.ses_prelude.specs.Functions.{intrinsics_of}
use Rattle.ses_prelude.specs.Helpers.{IsMadeOf}
use Rattle.ses_prelude.specs.Preludes.{AreValid, MakesNone, IsPrelude, HasIntrinsics, first_place, IsPreludeFault, HasPreludeCause}

abbrev told : SyntaxFault
told = fault.At first_place (what.Early (codes "prelude"))

-- what makes valid intrinsics does not make none
no_none : (o : Option Intrinsics) (i : Intrinsics) → o ≡ Some i → AreValid i.templates → MakesNone o → ⊥
no_none None i e valid none = cc
no_none (Some j) i e valid none =
    let same : j ≡ i = cc in
    none (subst (λ (k : Intrinsics). AreValid k.templates) (sym same) valid)

module _ (source : List ℕ) where
  -- OF A PROGRAM

  module _ (tree : Tree) (is : IsProgram AsModule source tree) where
    pub good_made : (r : Result Intrinsics SyntaxFault) → IsMadeOf (intrinsics_of tree.body) r → IfOk r (IsPrelude source)
    good_made (Ok i) made = (tree, is, made.0, made.1)
    good_made (Err f) made = tt

    pub good_cause : (r : Result Intrinsics SyntaxFault) → IsMadeOf (intrinsics_of tree.body) r → IfErr r (HasPreludeCause source)
    good_cause (Ok i) made = tt
    good_cause (Err f) (inl (none, is_told)) = subst (HasPreludeCause source) (sym is_told) (inr (tree, is, none, refl, refl))
    good_cause (Err f) (inr none_left) = subst (HasPreludeCause source) (sym none_left) tt

    module _ (one : (a b : Tree) → IsModuleOf AsModule source a → IsModuleOf AsModule source b → a ≡ b) where
      -- a program of this source makes what this tree does
      same_made : (m : Tree) → IsProgram AsModule source m → intrinsics_of m.body ≡ intrinsics_of tree.body
      same_made m p = ap (λ (t : Tree). intrinsics_of t.body) (one m tree (p.0) (is.0))

      pub good_only : (r : Result Intrinsics SyntaxFault) → IsMadeOf (intrinsics_of tree.body) r → HasIntrinsics source → MatchResult r (λ i. Unit {0}) (λ f. f ≡ fault.OutOfMemory)
      good_only (Ok i) made h = tt
      good_only (Err f) (inl (none, is_told)) h = absurd (no_none (intrinsics_of tree.body) h.0 (sym (same_made h.1.0 h.1.1) ∙ h.1.2) h.1.3 none)
      good_only (Err f) (inr none_left) h = none_left

      refused_as : (p : Place) (w : SyntaxWhat) → p ≡ first_place → w ≡ what.Early (codes "prelude") → (f : SyntaxFault) → (f ≡ told) ⊎ (f ≡ fault.OutOfMemory) → IsRefusal p w f
      refused_as p w at named f is_told = subst (λ q. IsRefusal q w f) (sym at) (subst (λ v. IsRefusal first_place v f) (sym named) is_told)

      pub good_refused : (p : Place) (w : SyntaxWhat) → (IsProgramFault AsModule source p w → ⊥) → (r : Result Intrinsics SyntaxFault) → IsMadeOf (intrinsics_of tree.body) r
          → IsPreludeFault source p w → MatchResult r (λ i. ⊥) (IsRefusal p w)
      good_refused p w fine r made (inl bad) = absurd (fine bad)
      good_refused p w fine (Ok i) made (inr (m, q, none, at, named)) = no_none (intrinsics_of m.body) i (same_made m q ∙ made.0) made.1 none
      good_refused p w fine (Err f) (inl (none, is_told)) (inr (m, q, _, at, named)) = refused_as p w at named f (inl is_told)
      good_refused p w fine (Err f) (inr none_left) (inr (m, q, _, at, named)) = refused_as p w at named f (inr none_left)

  -- OF WHAT IS NONE

  module _ (f : SyntaxFault) where
    pub bad_cause : HasProgramCause AsModule source f → HasPreludeCause source f
    bad_cause h = by f h
      where
        by : (g : SyntaxFault) → HasProgramCause AsModule source g → HasPreludeCause source g
        by (fault.At place w) h = inl h
        by fault.OutOfMemory h = tt

    pub bad_only : (HasProgram AsModule source → f ≡ fault.OutOfMemory) → HasIntrinsics source → f ≡ fault.OutOfMemory
    bad_only only h = only (h.1.0, h.1.1)

    pub bad_refused : (p : Place) (w : SyntaxWhat) → (HasProgram AsModule source → f ≡ fault.OutOfMemory) → (IsProgramFault AsModule source p w → IsRefusal p w f) → IsPreludeFault source p w → IsRefusal p w f
    bad_refused p w only refused (inl bad) = refused bad
    bad_refused p w only refused (inr (m, q, none, at, named)) = subst (λ v. IsRefusal p v f) (sym named) (inr (only (m, q)))
