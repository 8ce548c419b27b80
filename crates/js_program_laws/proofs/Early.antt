-- A tree that is formed and has no early error is sound.
use Rattle.std.proofs.Common.{◌≡◌, ◌≤◌, ◌||◌, ◌&&◌, ℕ, zero, suc, Bool, true, false, List, [], ◌∷◌, ◌++◌, Some, None, if◌then◌else◌, refl, sym, subst, arith}
use Rattle.lava_base.specs.declared.place.Place.{Place}
use Rattle.js_tree.specs.Layers.{ExprLayer, PatternLayer, StmtLayer}
use Rattle.js_tree.specs.declared.tree.Argument.TheOpen.{Expr-F, LinkStep-F, Pattern-F, Stmt-F}
use Rattle.js_tree.specs.declared.tree.Expr.{Expr, out-Expr}
use Rattle.js_tree.specs.declared.tree.Link.{Link, out-Link}
use Rattle.js_tree.specs.declared.tree.LinkStep.{out-LinkStep}
use Rattle.js_tree.specs.Layers.{LinkStepLayer}
use Rattle.js_tree.specs.declared.tree.Module.{Module}
use Rattle.js_tree.specs.declared.tree.Pattern.{out-Pattern}
use Rattle.js_tree.specs.declared.tree.Stmt.{out-Stmt}
use Rattle.js_names.specs.Lists.{flat}
use Rattle.js_names.specs.declared.bound.TheConstants.{TREE_DEPTH}
use Rattle.js_names.specs.declared.declared.DeclaredName.{DeclaredName}
use Rattle.js_walk.specs.Parts as walk
use Rattle.js_walk.specs.Parts.{TreePart, BlockPart, CasesPart, CatchPart, ClassPart, EachPart, ExpressionPart, FunctionPart, HeadPart, LoopPart, ModulePart, PatternPart, StatementPart, UpdatePart, parts_below}
use Rattle.js_walk.specs.Paths.{are_member_links, is_member_link, is_member_step_at, is_path, is_path_at, is_path_to}
use Rattle.js_walk.specs.Places.{place_of}
use Rattle.js_early.specs.Contexts.{context_in, is_body, label_in, lexicals, source_context, with_label, with_scope}
use Rattle.js_early.specs.Faults.{is_sooner, least, least_from, unless}
use Rattle.js_early.specs.Rules.{expression_at, expression_faults, has_label, has_loop_label, part_faults, pattern_at, scope_faults, statement_at, target}
use Rattle.js_early.specs.Walks.{early_error, early_error_to, faults_below, faults_to}
use Rattle.js_early.specs.declared.context.EarlyContext.{EarlyContext}
use Rattle.js_early.specs.declared.context.EarlyLabel.{EarlyLabel}
use Rattle.js_early.specs.declared.early.TheConstants.{WALK_DEPTH}
use Rattle.js_early.specs.declared.fault.EarlyFault.{EarlyFault}
use Rattle.js_early.specs.declared.fault.EarlyRule.{EarlyRule}
use Rattle.js_early.specs.declared.fault.EarlyRule.TheVariants as rule
use Rattle.js_lower_laws.specs.Sound.{AreSound, IsSound, expression_sound, labels_below, no_parts, part_sound, sound, statement_sound, whole_parts, whole_parts_at, whole_pattern_at}
use Rattle.js_program_laws.specs.Formed.{IsFormed, IsFormed_to, Sits, expression_formed, statement_formed}
use Rattle.js_program_laws.proofs.Fits.{Fit}

-- NOTHING IS WRONG

no_item : {A : Type 0} (x : A) (l : List A) → x ∷ l ≡ [] → ⊥
no_item x l h = cc

not_so : false ≡ true → ⊥
not_so h = cc

some_is_none : {A : Type 0} (x : A) → Some x ≡ None → ⊥
some_is_none x h = cc

nothing : {A : Type 0} (a b : List A) → a ≡ [] → b ≡ [] → a ++ b ≡ []
nothing [] b h k = k
nothing (x ∷ a) b h k = absurd (no_item x a h)

first_none : {A : Type 0} (a b : List A) → a ++ b ≡ [] → a ≡ []
first_none [] b h = refl
first_none (x ∷ a) b h = absurd (no_item x (a ++ b) h)

later_none : {A : Type 0} (a b : List A) → a ++ b ≡ [] → b ≡ []
later_none [] b h = h
later_none (x ∷ a) b h = absurd (no_item x (a ++ b) h)

must : (c : Bool) (r : EarlyRule) (place : Place) → unless c r place ≡ [] → c ≡ true
must true r place h = refl
must false r place h = absurd (no_item (record { rule = r; place = place }) [] h)

mutual_none : (g f : EarlyFault) (fs : List EarlyFault) (c : Bool) → ((h : EarlyFault) → least_from (Some h) fs ≡ None → ⊥) → least_from (if c then Some f else Some g) fs ≡ None → ⊥
mutual_none g f fs true k h = k f h
mutual_none g f fs false k h = k g h

stays : (fs : List EarlyFault) (g : EarlyFault) → least_from (Some g) fs ≡ None → ⊥
stays [] g h = some_is_none g h
stays (f ∷ fs) g h = mutual_none g f fs (is_sooner f g) (stays fs) h

none_least : (fs : List EarlyFault) → least fs ≡ None → fs ≡ []
none_least [] h = refl
none_least (f ∷ fs) h = absurd (stays fs f h)

-- PARTS

abbrev Sound : EarlyContext → List EarlyLabel → TreePart → Type 0
Sound c labels p = AreSound c labels (p ∷ [])

also : (c : EarlyContext) (labels : List EarlyLabel) (p : TreePart) (ps : List TreePart) → Sound c labels p → AreSound c labels ps → AreSound c labels (p ∷ ps)
also c labels p ps (sound _ _ _ _ own under rest) h = sound c labels p ps own under h

one : (c : EarlyContext) (labels : List EarlyLabel) (p : TreePart) → part_sound c labels p ≡ true → AreSound (context_in c p) (labels_below labels p) (whole_parts p) → Sound c labels p
one c labels p own under = sound c labels p [] own under (no_parts c labels)

joined : (c : EarlyContext) (labels : List EarlyLabel) (a b : List TreePart) → AreSound c labels a → AreSound c labels b → AreSound c labels (a ++ b)
joined c labels [] b x y = y
joined c labels (p ∷ a) b (sound _ _ _ _ own under rest) y = sound c labels p (a ++ b) own under (joined c labels a b rest y)

-- RULES

expression_own : (c : EarlyContext) (l : ExprLayer) → expression_at c l ≡ [] → expression_formed l ≡ true → expression_sound c l ≡ true
expression_own c (Expr-F.Chain place e ls) h f = f
expression_own c (Expr-F.Object place ps) h f = f
expression_own c (Expr-F.SuperMember place i) h f = must c.super_property rule.Super place h
expression_own c (Expr-F.SuperIndex place k) h f = must c.super_property rule.Super place h
expression_own c (Expr-F.SuperCall place ls) h f = must c.super_call rule.Super place h
expression_own c _ h f = refl

statement_own : (c : EarlyContext) (labels : List EarlyLabel) (scopes : List (List DeclaredName)) (l : StmtLayer) → statement_at c labels scopes l ≡ [] → statement_formed l ≡ true → statement_sound c labels l ≡ true
statement_own c labels scopes (Stmt-F.Break place None) h f = must (c.in_loop || c.in_switch) rule.Break place h
statement_own c labels scopes (Stmt-F.Break place (Some i)) h f = must (has_label i.name labels) rule.Break place h
statement_own c labels scopes (Stmt-F.Continue place None) h f = must c.in_loop rule.Continue place h
statement_own c labels scopes (Stmt-F.Continue place (Some i)) h f = must (has_loop_label i.name labels) rule.Continue place h
statement_own c labels scopes (Stmt-F.FunctionDeclaration k) h f = f
statement_own c labels scopes _ h f = refl

-- NAMES WITH MEMBERS

links_none : (c : EarlyContext) (labels : List EarlyLabel) (s : LinkStepLayer) (ps : List TreePart) → is_member_step_at s ≡ true → AreSound c labels ps → AreSound c labels (walk.link_step_at s ++ ps)
links_none c labels (LinkStep-F.MemberLink i) ps h k = k
links_none c labels _ ps h k = absurd (not_so h)

both_left : (a b : Bool) → a && b ≡ true → a ≡ true
both_left true b h = refl
both_left false b h = absurd (not_so h)

both_right : (a b : Bool) → a && b ≡ true → b ≡ true
both_right true b h = h
both_right false b h = absurd (not_so h)

links_sound : (c : EarlyContext) (labels : List EarlyLabel) (ls : List Link) → are_member_links ls ≡ true → AreSound c labels (flat walk.link ls)
links_sound c labels [] h = no_parts c labels
links_sound c labels (l ∷ ls) h =
    links_none c labels (out-LinkStep (out-Link l).step) (flat walk.link ls) (both_left (is_member_link l) (are_member_links ls) h) (links_sound c labels ls (both_right (is_member_link l) (are_member_links ls) h))

module _ (c : EarlyContext) (labels : List EarlyLabel) where
  module _ (n : ℕ) (is_base : Expr → Bool) (again : (e : Expr) → is_base e ≡ true → Sits n (ExpressionPart e) → Sound c labels (ExpressionPart e)) where
    path_layer : (l : ExprLayer) → is_path_at is_base l ≡ true → Fit n (whole_parts_at l) → AreSound c labels (whole_parts_at l)
    path_layer (Expr-F.Name i) h x = no_parts c labels
    path_layer (Expr-F.Parenthesized place e) h x = again e h x.0
    path_layer (Expr-F.Member place e i) h x = again e h x.0
    path_layer (Expr-F.Chain place e ls) h x =
        also c labels (ExpressionPart e) (flat walk.link ls) (again e (both_right (are_member_links ls) (is_base e) h) x.0) (links_sound c labels ls (both_left (are_member_links ls) (is_base e) h))
    path_layer _ h x = absurd (not_so h)

    path_own : (l : ExprLayer) → is_path_at is_base l ≡ true → expression_formed l ≡ true → expression_sound c l ≡ true
    path_own (Expr-F.Chain place e ls) h f = f
    path_own (Expr-F.Object place ps) h f = f
    path_own (Expr-F.SuperMember place i) h f = absurd (not_so h)
    path_own (Expr-F.SuperIndex place k) h f = absurd (not_so h)
    path_own (Expr-F.SuperCall place ls) h f = absurd (not_so h)
    path_own _ h f = refl

  path_to_sound : (k n : ℕ) (e : Expr) → is_path_to k e ≡ true → Sits n (ExpressionPart e) → Sound c labels (ExpressionPart e)
  path_to_sound zero n e h x = absurd (not_so h)
  path_to_sound (suc k) zero e h x = absurd x
  path_to_sound (suc k) (suc n) e h x =
      one c labels (ExpressionPart e) (path_own n (is_path_to k) (path_to_sound k n) (out-Expr e) h x.0) (path_layer n (is_path_to k) (path_to_sound k n) (out-Expr e) h x.1)

  path_sound : (n : ℕ) (e : Expr) → is_path e ≡ true → Sits n (ExpressionPart e) → Sound c labels (ExpressionPart e)
  unfolding is_path
  path_sound n e h x = path_to_sound TREE_DEPTH n e h x

-- what stands below a path tells of it: itself
under : (c : EarlyContext) (labels : List EarlyLabel) (e : Expr) → Sound c labels (ExpressionPart e) → AreSound c labels (whole_parts_at (out-Expr e))
under c labels e (sound _ _ _ _ own below rest) = below

-- THE WALK

abbrev Faults : Type 0
Faults = EarlyContext → List EarlyLabel → List (List DeclaredName) → TreePart → List EarlyFault

-- where no part has a fault, all that are formed within n parts are sound
abbrev Walked : Faults → ℕ → Type 0
Walked faults n = (c : EarlyContext) (labels : List EarlyLabel) (scopes : List (List DeclaredName)) (p : TreePart) → faults c labels scopes p ≡ [] → Sits n p → Sound c labels p

module _ (faults : Faults) (n : ℕ) (walked : Walked faults n) where
  module _ (c : EarlyContext) (labels : List EarlyLabel) (scopes : List (List DeclaredName)) where
    all_sound : (ps : List TreePart) → flat (faults c labels scopes) ps ≡ [] → Fit n ps → AreSound c labels ps
    all_sound [] h x = no_parts c labels
    all_sound (p ∷ ps) h x =
        also c labels p ps (walked c labels scopes p (first_none (faults c labels scopes p) (flat (faults c labels scopes) ps) h) x.0)
        (all_sound ps (later_none (faults c labels scopes p) (flat (faults c labels scopes) ps) h) x.1)

    base_sound : (b : Bool) (e : Expr) → is_path e ≡ b → flat (faults c labels scopes) (if b then [] else walk.operand e) ≡ [] → Sits n (ExpressionPart e) → Sound c labels (ExpressionPart e)
    base_sound true e k h x = path_sound c labels n e k x
    base_sound false e k h x = all_sound (walk.operand e) h (x, tt)

    flat_parts : (a b : List TreePart) → flat (faults c labels scopes) (a ++ b) ≡ [] → (flat (faults c labels scopes) a ≡ []) × (flat (faults c labels scopes) b ≡ [])
    flat_parts [] b h = (refl, h)
    flat_parts (p ∷ a) b h =
        let one_none : faults c labels scopes p ≡ [] = first_none (faults c labels scopes p) (flat (faults c labels scopes) (a ++ b)) h in
        let rest : (flat (faults c labels scopes) a ≡ []) × (flat (faults c labels scopes) b ≡ []) = flat_parts a b (later_none (faults c labels scopes p) (flat (faults c labels scopes) (a ++ b)) h) in
        (nothing (faults c labels scopes p) (flat (faults c labels scopes) a) one_none rest.0, rest.1)

    layer_sound : (l : ExprLayer) → flat (faults c labels scopes) (walk.expression_parts_at l) ≡ [] → Fit n (whole_parts_at l) → AreSound c labels (whole_parts_at l)
    layer_sound (Expr-F.Chain place e ls) h x =
        let both : (flat (faults c labels scopes) (walk.chain_base e) ≡ []) × (flat (faults c labels scopes) (flat walk.link ls) ≡ []) = flat_parts (walk.chain_base e) (flat walk.link ls) h in
        also c labels (ExpressionPart e) (flat walk.link ls) (base_sound (is_path e) e refl both.0 x.0) (all_sound (flat walk.link ls) both.1 x.1)
    layer_sound l h x = all_sound (whole_parts_at l) h x

    parts_sound : (b : Bool) (e : Expr) → is_path e ≡ b → flat (faults c labels scopes) (if b then [] else walk.expression_row e) ≡ [] → expression_formed (out-Expr e) ≡ true → Fit n (whole_parts_at (out-Expr e)) → AreSound c labels (whole_parts_at (out-Expr e))
    parts_sound true e k h f x = under c labels e (path_sound c labels (suc n) e k (f, x))
    parts_sound false e k h f x = layer_sound (out-Expr e) h x

    -- an expression whose own rule is kept
    expression_under : (e : Expr) → expression_faults c e ≡ [] → flat (faults c labels scopes) (walk.expression_parts e) ≡ [] → expression_formed (out-Expr e) ≡ true → Fit n (whole_parts_at (out-Expr e)) → Sound c labels (ExpressionPart e)
    expression_under e r h f x = one c labels (ExpressionPart e) (expression_own c (out-Expr e) r f) (parts_sound (is_path e) e refl h f x)

  below_sound : (c : EarlyContext) (labels below : List EarlyLabel) (inner outer : List (List DeclaredName)) (b : Bool) (ps : List TreePart)
      → (if b then flat (faults c [] inner) ps else flat (faults c below outer) ps) ≡ [] → Fit n ps → AreSound c (if b then [] else below) ps
  below_sound c labels below inner outer true ps h x = all_sound c [] inner ps h x
  below_sound c labels below inner outer false ps h x = all_sound c below outer ps h x

-- one part of the walk
module _ (d n : ℕ) (walked : (m : ℕ) → m ≤ d → Walked (faults_to d) m) (c : EarlyContext) (labels : List EarlyLabel) (scopes : List (List DeclaredName)) where
  plain : (p : TreePart) → n ≤ d → part_sound c labels p ≡ true → whole_parts p ≡ parts_below p → faults_below (faults_to d) (context_in c p) labels scopes p (lexicals p) ≡ [] → Fit n (whole_parts p) → Sound c labels p
  plain p le own same h x =
      one c labels p own (subst (λ ps. AreSound (context_in c p) (labels_below labels p) ps) (sym same)
      (below_sound (faults_to d) n (walked n le) (context_in c p) labels (with_label labels (label_in p)) (with_scope [] (lexicals p)) (with_scope scopes (lexicals p)) (is_body p) (parts_below p) h (subst (λ ps. Fit n ps) same x)))

  -- what is changed or assigned, whose own rule is kept
  target_sound : (m : ℕ) → m ≤ d → (s : List (List DeclaredName)) (e : Expr) → expression_faults c e ≡ [] → flat (faults_to d c labels s) (walk.expression_parts e) ≡ [] → Sits m (ExpressionPart e) → Sound c labels (ExpressionPart e)
  target_sound zero le s e r h x = absurd x
  target_sound (suc m) le s e r h x = let less : m ≤ d = omega arith in expression_under (faults_to d) m (walked m less) c labels s e r h x.0 x.1

  pattern_sound : n ≤ d → (s : List (List DeclaredName)) (assigns : Bool) (l : PatternLayer) → pattern_at c l ≡ [] → flat (faults_to d c labels s) (walk.pattern_parts_at assigns l) ≡ [] → Fit n (whole_pattern_at assigns l) → AreSound c labels (whole_pattern_at assigns l)
  pattern_sound le s assigns (Pattern-F.Target e) r h x = target_sound n le s e (later_none (target (place_of e) e) (expression_faults c e) r) h x.0
  pattern_sound le s assigns l r h x = all_sound (faults_to d) n (walked n le) c labels s (whole_pattern_at assigns l) h x

  part_step : (p : TreePart) → n ≤ d → part_faults c labels scopes p ≡ [] → faults_below (faults_to d) (context_in c p) labels scopes p (lexicals p) ≡ [] → Sits (suc n) p → Sound c labels p
  part_step (ModulePart m) le r h x = plain (ModulePart m) le refl refl h x.1
  part_step (ExpressionPart e) le r h x = expression_under (faults_to d) n (walked n le) c labels (with_scope scopes (lexicals (ExpressionPart e))) e r h x.0 x.1
  part_step (UpdatePart place e) le r h x =
      one c labels (UpdatePart place e) refl (target_sound n le (with_scope scopes (lexicals (UpdatePart place e))) e (later_none (target place e) (expression_faults c e) r) h x.1.0)
  part_step (PatternPart assigns p) le r h x =
      one c labels (PatternPart assigns p) refl (pattern_sound le (with_scope scopes (lexicals (PatternPart assigns p))) assigns (out-Pattern p) r h x.1)
  part_step (FunctionPart derived f) le r h x = plain (FunctionPart derived f) le refl refl h x.1
  part_step (ClassPart k) le r h x = plain (ClassPart k) le x.0 refl h x.1
  part_step (StatementPart s) le r h x = plain (StatementPart s) le (statement_own c labels scopes (out-Stmt s) r x.0) refl h x.1
  part_step (LoopPart s) le r h x = plain (LoopPart s) le refl refl h x.1
  part_step (BlockPart l) le r h x = plain (BlockPart l) le refl refl h x.1
  part_step (CasesPart l) le r h x = plain (CasesPart l) le refl refl h x.1
  part_step (CatchPart k) le r h x = plain (CatchPart k) le refl refl h x.1
  part_step (HeadPart k p) le r h x = plain (HeadPart k p) le refl refl h x.1
  part_step (EachPart k p s) le r h x = plain (EachPart k p s) le refl refl h x.1

  step : (p : TreePart) → n ≤ d → faults_to (suc d) c labels scopes p ≡ [] → Sits (suc n) p → Sound c labels p
  step p le h x =
      part_step p le (first_none (part_faults c labels scopes p) (scope_faults p (lexicals p) ++ faults_below (faults_to d) (context_in c p) labels scopes p (lexicals p)) h)
      (later_none (scope_faults p (lexicals p)) (faults_below (faults_to d) (context_in c p) labels scopes p (lexicals p))
      (later_none (part_faults c labels scopes p) (scope_faults p (lexicals p) ++ faults_below (faults_to d) (context_in c p) labels scopes p (lexicals p)) h)) x

walk_sound : (d m : ℕ) → m ≤ d → Walked (faults_to d) m
walk_sound d zero le c labels scopes p h x = absurd x
walk_sound zero (suc m) le c labels scopes p h x = absurd (omega arith)
walk_sound (suc d) (suc n) le c labels scopes p h x = let less : n ≤ d = omega arith in step d n (walk_sound d) c labels scopes p less h x

to_sound : (d : ℕ) (m : Module) → IsFormed_to d m → early_error_to d m ≡ None → IsSound m
unfolding early_error_to IsFormed_to
to_sound d m x h = let all : d ≤ d = omega arith in walk_sound d d all (source_context m.kind) [] [] (ModulePart m) (none_least (faults_to d (source_context m.kind) [] [] (ModulePart m)) h) x

pub formed_sound : (m : Module) → IsFormed m → early_error m ≡ None → IsSound m
unfolding early_error IsFormed
formed_sound m x h = to_sound WALK_DEPTH m x h
