-- Pieces one after the other.
use Rattle.std.proofs.Common.{◌≡◌, [], ◌∷◌, ◌++◌, codes, refl, ap, ◌∙◌, sym, subst}
use Rattle.std.proofs.lemmas.List.{append_assoc, append-nil}
use Rattle.lava_base.specs.declared.ids.MadeSymbol.{MadeSymbol}
use Rattle.lava_base.specs.declared.ids.Ref.{Ref}
use Rattle.lava_journal.specs.Bodies.{Pieces}
use Rattle.lava_journal.specs.Sheets.{An_object, A_symbol, Plain, TraceNames}
use Rattle.lava_trace.specs.Left.{Got, Left, skipped}
use Rattle.lava_trace_laws.specs.Spelled.{Closed, HaveNames, Listed, Place, Reads, at, passed, piece_text, spelled}

-- what is named behind some pieces, and what is named behind others then
pub rest_names : (listed : Listed) (c : Place) (a b : Pieces Ref MadeSymbol) → HaveNames c.names (a ++ b) → HaveNames (passed listed c a).names b
rest_names listed c [] b h = h
rest_names listed c (Plain bytes ∷ a) b h = rest_names listed c a b h.1
rest_names listed c (An_object r ∷ a) b h = rest_names listed (passed listed c (An_object r ∷ [])) a b h.1
rest_names listed c (A_symbol s ∷ a) b h = rest_names listed (passed listed c (A_symbol s ∷ [])) a b h.1

pub passed_append : (listed : Listed) (c : Place) (a b : Pieces Ref MadeSymbol) → passed listed c (a ++ b) ≡ passed listed (passed listed c a) b
passed_append listed c [] b = refl
passed_append listed c (Plain bytes ∷ a) b = passed_append listed c a b
passed_append listed c (An_object r ∷ a) b = passed_append listed (passed listed c (An_object r ∷ [])) a b
passed_append listed c (A_symbol s ∷ a) b = passed_append listed (passed listed c (A_symbol s ∷ [])) a b

pub spelled_append : (listed : Listed) (c : Place) (a b : Pieces Ref MadeSymbol)
    → spelled c.names listed (a ++ b) ≡ spelled c.names listed a ++ spelled (passed listed c a).names listed b
spelled_append listed c [] b = refl
spelled_append listed c (Plain bytes ∷ a) b =
    ap (λ l. bytes ++ l) (spelled_append listed c a b) ∙ sym (append_assoc bytes (spelled c.names listed a) (spelled (passed listed c a).names listed b))
spelled_append listed c (An_object r ∷ a) b =
    let d = passed listed c (An_object r ∷ []) in
    let t = piece_text c.names listed (An_object r) in
    ap (λ l. t ++ l) (spelled_append listed d a b) ∙ sym (append_assoc t (spelled d.names listed a) (spelled (passed listed d a).names listed b))
spelled_append listed c (A_symbol s ∷ a) b =
    let d = passed listed c (A_symbol s ∷ []) in
    let t = piece_text c.names listed (A_symbol s) in
    ap (λ l. t ++ l) (spelled_append listed d a b) ∙ sym (append_assoc t (spelled d.names listed a) (spelled (passed listed d a).names listed b))

-- READINGS, ONE AFTER THE OTHER

-- a reading of the last pieces of a line
abbrev pub Last : {X : Type 0} → (Left → Got X) → Pieces Ref MadeSymbol → X → Type 0
Last f ps x = (listed : Listed) (c : Place) → HaveNames c.names ps → f (at listed c ps) ≡ (x, at listed (passed listed c ps) [])

-- what stands in front of these pieces is closed
abbrev pub Starts : Pieces Ref MadeSymbol → Type 0
Starts b = (listed : Listed) (c : Place) (q : Pieces Ref MadeSymbol) → Closed (spelled (passed listed c b).names listed q) → Closed (spelled c.names listed (b ++ q))

abbrev pub StartsLast : Pieces Ref MadeSymbol → Type 0
StartsLast b = (listed : Listed) (names : TraceNames) → Closed (spelled names listed b)

pub reads_last : {X : Type 0} (f : Left → Got X) (a : Pieces Ref MadeSymbol) (x : X) → Reads f a x → Last f a x
reads_last f a x r listed c h =
    ap (λ ps. f (at listed c ps)) (sym (append-nil a)) ∙ r listed c [] (subst (λ ps. HaveNames c.names ps) (sym (append-nil a)) h) refl

pub reads_as : {X : Type 0} (f : Left → Got X) (a b : Pieces Ref MadeSymbol) (x : X) → a ≡ b → Reads f a x → Reads f b x
reads_as f a b x e r = subst (λ ps. Reads f ps x) e r

pub last_as : {X : Type 0} (f : Left → Got X) (a b : Pieces Ref MadeSymbol) (x : X) → a ≡ b → Last f a x → Last f b x
last_as f a b x e r = subst (λ ps. Last f ps x) e r

-- behind a space
pub behind_one : {X : Type 0} (f : Left → Got X) (a : Pieces Ref MadeSymbol) (x : X) → Reads f a x → Reads (λ l. f (skipped 1 l)) (Plain (codes " ") ∷ a) x
behind_one f a x r listed c q h e = r listed c q h.1 e

pub mapped : {X Z : Type 0} (F : X → Z) (f : Left → Got X) (a : Pieces Ref MadeSymbol) (x : X) → Reads f a x → Reads (λ l. (F (f l).0, (f l).1)) a (F x)
mapped F f a x r listed c q h e = ap (λ g. (F g.0, g.1)) (r listed c q h e)

pub mapped_last : {X Z : Type 0} (F : X → Z) (f : Left → Got X) (a : Pieces Ref MadeSymbol) (x : X) → Last f a x → Last (λ l. (F (f l).0, (f l).1)) a (F x)
mapped_last F f a x r listed c h = ap (λ g. (F g.0, g.1)) (r listed c h)

-- one thing, and then another
pub both : {X Y Z : Type 0} (F : X → Y → Z) (f : Left → Got X) (g : Left → Got Y) (a b : Pieces Ref MadeSymbol) (x : X) (y : Y)
    → Reads f a x → Reads g b y → Starts b → Reads (λ l. (F (f l).0 (g (f l).1).0, (g (f l).1).1)) (a ++ b) (F x y)
both {X = X} {Y = Y} F f g a b x y r s t listed c q h e =
    let d = passed listed c a in
    let names = subst (λ ps. HaveNames c.names ps) (append_assoc a b q) h in
    let closed = subst (λ (k : Place). Closed (spelled k.names listed q)) (passed_append listed c a b) e in
    ap (λ ps. (F (f (at listed c ps)).0 (g (f (at listed c ps)).1).0, (g (f (at listed c ps)).1).1)) (append_assoc a b q)
    ∙ ap (λ (u : Got X). (F u.0 (g u.1).0, (g u.1).1)) (r listed c (b ++ q) names (t listed d q closed))
    ∙ ap (λ (v : Got Y). (F x v.0, v.1)) (s listed d q (rest_names listed c a (b ++ q) names) closed)
    ∙ ap (λ (k : Place). (F x y, at listed k q)) (sym (passed_append listed c a b))

pub both_last : {X Y Z : Type 0} (F : X → Y → Z) (f : Left → Got X) (g : Left → Got Y) (a b : Pieces Ref MadeSymbol) (x : X) (y : Y)
    → Reads f a x → Last g b y → StartsLast b → Last (λ l. (F (f l).0 (g (f l).1).0, (g (f l).1).1)) (a ++ b) (F x y)
both_last {X = X} {Y = Y} F f g a b x y r s t listed c h =
    let d = passed listed c a in
    ap (λ (u : Got X). (F u.0 (g u.1).0, (g u.1).1)) (r listed c b h (t listed d.names))
    ∙ ap (λ (v : Got Y). (F x v.0, v.1)) (s listed d (rest_names listed c a b h))
    ∙ ap (λ (k : Place). (F x y, at listed k [])) (sym (passed_append listed c a b))
