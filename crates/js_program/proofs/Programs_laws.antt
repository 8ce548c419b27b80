-- What reading a program answers, from what the reader of trees and the early rules answer.
use Rattle.std.proofs.Common.{◌≡◌, ℕ, List, refl, sym, ap, ◌∙◌, subst, ◌⊎◌, inl, inr, Option, Some, None, Result, Ok, Err, IfOk, IfErr, MatchResult}
use Rattle.std.specs.Prelude.{option_map}
use Rattle.lava_base.specs.declared.place.Place.{Place}
use Rattle.js_early.specs.Faults.{rule_name}
use Rattle.js_early.specs.Walks.{early_error, refusal}
use Rattle.js_early.specs.Walks as early
use Rattle.js_early.specs.declared.fault.EarlyFault.{EarlyFault}
use Rattle.js_fault.specs.declared.fault.SyntaxFault.{SyntaxFault}
use Rattle.js_fault.specs.declared.fault.SyntaxFault.TheVariants as fault
use Rattle.js_fault.specs.declared.fault.SyntaxWhat.{SyntaxWhat}
use Rattle.js_fault.specs.declared.fault.SyntaxWhat.TheVariants as what
use Rattle.js_grammar.specs.Grammar.{Tree, Node}
use Rattle.js_grammar.specs.Laws.{One_tree}
use Rattle.js_grammar.specs.declared.symbols.Production.TheVariants as production
use Rattle.js_lexer.specs.Sources.{IsTokens}
use Rattle.js_lexer.specs.declared.token.Token.{Token}
use Rattle.js_parser.specs.Trees.{IsModuleOf, module_of}
use Rattle.js_program.specs.Programs.{IsProgram, HasProgram, IsEarlyError, IsProgramFault, HasProgramCause}
use Rattle.js_reader.specs.Reading.{IsRefusal, IsTree, whole}
use Rattle.js_reader.specs.Sources.{HasSourceTree, IsSyntaxFault, HasSyntaxCause}
use Rattle.js_tree.specs.declared.tree.Module.{Module}
use Rattle.js_tree.specs.declared.tree.SourceKind.{SourceKind}

-- a source has one tree at most
pub same_tree : (lists : (s : List ℕ) (a b : List Token) → IsTokens s a → IsTokens s b → a ≡ b) → One_tree
    → (kind : SourceKind) (source : List ℕ) (a b : Module) → IsModuleOf kind source a → IsModuleOf kind source b → a ≡ b
same_tree lists trees kind source a b x y =
    let tokens : x.0 ≡ y.0 = lists source x.0 y.0 x.2 y.2 in
    let nodes : Node production.Module x.1 ≡ Node production.Module y.1 =
    trees (whole source x.0) (Node production.Module x.1) (Node production.Module y.1) x.3
    (subst (λ t. IsTree source t y.1) (sym tokens) y.3) in
    let parts : x.1 ≡ y.1 = cc in
    let first : a ≡ module_of kind source x.0 x.1 = x.5 in
    let second : b ≡ module_of kind source y.0 y.1 = y.5 in
    cc

pub has_tree : (kind : SourceKind) (source : List ℕ) (m : Module) → IsModuleOf kind source m → HasSourceTree source
has_tree kind source m is = (is.0, is.1, is.2, is.3, is.4)

-- no early error is no refusal
none_refused : (f : SyntaxFault) (o : Option EarlyFault) → o ≡ None → early.IsRefusal o f → f ≡ fault.OutOfMemory
none_refused (fault.At p w) None n r = absurd (let z : None ≡ Some (fault.At p w) = r in cc)
none_refused (fault.At p w) (Some e) n r = absurd cc
none_refused fault.OutOfMemory o n r = refl

-- what an early rule refuses is told
early_told : (p : Place) (w : SyntaxWhat) (name : List ℕ) → w ≡ what.Early name → (f : SyntaxFault) → (f ≡ fault.At p w) ⊎ (f ≡ fault.OutOfMemory) → IsRefusal p w f
early_told p w name e f told = subst (λ v. IsRefusal p v f) (sym e) (subst (λ v. (f ≡ fault.At p v) ⊎ (f ≡ fault.OutOfMemory)) e told)

module _ (kind : SourceKind) (source : List ℕ) where
  module _ (m : Module) (is : IsModuleOf kind source m) where
    pub tree_program : (r : Result Module SyntaxFault) → IfOk r (λ x. x ≡ m) → IfOk r (λ x. early_error m ≡ None) → IfOk r (IsProgram kind source)
    tree_program (Ok x) same ok = (subst (IsModuleOf kind source) (sym same) is, subst (λ y. early_error y ≡ None) (sym same) ok)
    tree_program (Err f) same ok = tt

    cause_of : (p : Place) (w : SyntaxWhat) (o : Option EarlyFault) → early_error m ≡ o → option_map refusal o ≡ Some (fault.At p w) → IsEarlyError kind source p w
    cause_of p w None q e = absurd cc
    cause_of p w (Some f) q e =
        let there : fault.At f.place (what.Early (rule_name f.rule)) ≡ fault.At p w = cc in
        (m, f, is, q, (let z : p ≡ f.place = cc in z), (let z : w ≡ what.Early (rule_name f.rule) = cc in z))

    pub tree_cause : (r : Result Module SyntaxFault) → IfErr r (early.IsRefusal (early_error m)) → IfErr r (HasProgramCause kind source)
    tree_cause (Ok x) e = tt
    tree_cause (Err (fault.At p w)) e = inr (cause_of p w (early_error m) refl e)
    tree_cause (Err fault.OutOfMemory) e = tt

    module _ (one : (a b : Module) → IsModuleOf kind source a → IsModuleOf kind source b → a ≡ b) where
      pub tree_only : (r : Result Module SyntaxFault) → IfErr r (early.IsRefusal (early_error m)) → HasProgram kind source → MatchResult r (λ x. Unit {0}) (λ f. f ≡ fault.OutOfMemory)
      tree_only (Ok x) e h = tt
      tree_only (Err f) e h = none_refused f (early_error m) (ap early_error (one m h.0 is h.1.0) ∙ h.1.1) e

      refused_at : (p : Place) (w : SyntaxWhat) (f : EarlyFault) → early_error m ≡ Some f → p ≡ f.place → w ≡ what.Early (rule_name f.rule) → (r : Result Module SyntaxFault)
          → IfOk r (λ x. early_error m ≡ None) → IfErr r (early.IsRefusal (early_error m)) → MatchResult r (λ x. ⊥) (IsRefusal p w)
      refused_at p w f q at named (Ok x) ok e = absurd (let z : early_error m ≡ None = ok in cc)
      refused_at p w f q at named (Err (fault.At place said)) ok e =
          let there : option_map refusal (early_error m) ≡ Some (fault.At place said) = e in
          let told : option_map refusal (Some f) ≡ Some (fault.At place said) = subst (λ o. option_map refusal o ≡ Some (fault.At place said)) q there in
          let same : fault.At f.place (what.Early (rule_name f.rule)) ≡ fault.At place said = cc in
          early_told p w (rule_name f.rule) named (fault.At place said) (inl (let z : fault.At place said ≡ fault.At p w = cc in z))
      refused_at p w f q at named (Err fault.OutOfMemory) ok e = early_told p w (rule_name f.rule) named fault.OutOfMemory (inr refl)

      pub tree_refused : (r : Result Module SyntaxFault) → IfOk r (λ x. early_error m ≡ None) → IfErr r (early.IsRefusal (early_error m))
          → ((p : Place) (w : SyntaxWhat) → IsSyntaxFault source p w → ⊥) → (p : Place) (w : SyntaxWhat) → IsProgramFault kind source p w → MatchResult r (λ x. ⊥) (IsRefusal p w)
      tree_refused r ok e never p w (inl s) = absurd (never p w s)
      tree_refused r ok e never p w (inr x) = refused_at p w x.1 (ap early_error (one m x.0 is x.2) ∙ x.3) x.4 x.5 r ok e

  -- a source that has no tree
  module _ (f : SyntaxFault) (only : HasSourceTree source → f ≡ fault.OutOfMemory) where
    pub fault_only : HasProgram kind source → f ≡ fault.OutOfMemory
    fault_only h = only (has_tree kind source h.0 h.1.0)

    pub fault_refused : ((p : Place) (w : SyntaxWhat) → IsSyntaxFault source p w → IsRefusal p w f) → (p : Place) (w : SyntaxWhat) → IsProgramFault kind source p w → IsRefusal p w f
    fault_refused told p w (inl s) = told p w s
    fault_refused told p w (inr x) = early_told p w (rule_name (x.1).rule) x.5 f (inr (only (has_tree kind source x.0 x.2)))

  pub fault_cause : (f : SyntaxFault) → HasSyntaxCause source f → HasProgramCause kind source f
  fault_cause (fault.At p w) c = inl c
  fault_cause fault.OutOfMemory c = tt
