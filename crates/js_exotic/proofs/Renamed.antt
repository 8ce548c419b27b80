-- What an object decides, exotic or not, does not depend on what references and made symbols are.
use Rattle.std.proofs.Common.{◌≡◌, List, map, sym, ◌∙◌, subst}
use Rattle.js_text.specs.Maps.{map_symbol}
use Rattle.js_text.specs.Naming.{Naming}
use Rattle.js_text.proofs.Moves.{to, to_symbol}
use Rattle.js_desc.specs.Maps.{map_ask, map_reply}
use Rattle.js_desc.specs.declared.ask.Ask.{Ask}
use Rattle.js_desc.specs.declared.reply.Reply.{Reply}
use Rattle.js_desc.proofs.Moves.{ask_moves, decision_moves, partial_moves, reply_moves}
use Rattle.js_desc.proofs.Renamed.{ua, ua_to}
use Rattle.js_store.specs.Frozen.{CommonObject}
use Rattle.js_store.specs.Maps.{map_object}
use Rattle.js_store.specs.Objects.{Object}
use Rattle.js_ordinary.proofs.Moves.{next_moves, objects_move}
use Rattle.js_ordinary.proofs.Renamed.{naming_moves}
use Rattle.js_exotic.specs.Decided.{decided, exotic_resumed}
use Rattle.js_exotic.specs.Laws.{Exotic_references_do_not_matter, Exotic_resuming_does_not_look}
use Rattle.js_exotic.specs.Maps.{map_exotic_next, map_exotic_decision, map_exotic_decided}
use Rattle.js_exotic.specs.Verdicts.{ExoticDecision}
use Rattle.js_exotic.specs.declared.next.Next.{Next}
use Rattle.js_exotic.specs.declared.next.Next.TheVariants as next

module _ {A B S T : Type 0} (p : A ≡ B) (q : S ≡ T) where
  exotic_next_moves : (x : Next A S) → coe 0 1 (i. Next (p i) (q i)) x ≡ map_exotic_next (to p) (to_symbol q) x
  exotic_next_moves (next.Ordinary n) = λ j. next.Ordinary (next_moves p q n j)
  exotic_next_moves (next.Length me d) = λ j. next.Length (to p me) (partial_moves p q d j)

  exotic_decision_moves : (d : ExoticDecision A S) → coe 0 1 (i. ExoticDecision (p i) (q i)) d ≡ map_exotic_decision (to p) (to_symbol q) d
  exotic_decision_moves d = decision_moves p q (λ i. Next (p i) (q i)) (map_exotic_next (to p) (to_symbol q)) exotic_next_moves d

  decided_moves : (d : ExoticDecision A S × List (Object A S)) → coe 0 1 (i. ExoticDecision (p i) (q i) × List (Object (p i) (q i))) d ≡ map_exotic_decided (to p) (to_symbol q) d
  decided_moves d = λ j. (exotic_decision_moves d.0 j, objects_move p q d.1 j)

  deciding : (a : Naming A S) (b : Naming B T) → coe 0 1 (i. Naming (p i) (q i)) a ≡ b → (objects : List (Object A S)) (common : List CommonObject) (me : A) (x : Ask A S) → decided b (map (map_object (to p) (to_symbol q)) objects) common (to p me) (map_ask (to p) (to_symbol q) x) ≡ map_exotic_decided (to p) (to_symbol q) (decided a objects common me x)
  deciding a b h objects common me x =
      sym (λ j. decided (h j) (objects_move p q objects j) common (to p me) (ask_moves p q x j))
      ∙ (sym (λ j. coe j 1 (i. ExoticDecision (p i) (q i) × List (Object (p i) (q i))) (decided (coe 0 j (i. Naming (p i) (q i)) a) (coe 0 j (i. List (Object (p i) (q i))) objects) common (coe 0 j (i. p i) me) (coe 0 j (i. Ask (p i) (q i)) x)))
      ∙ decided_moves (decided a objects common me x))

  resuming : (a : Naming A S) (b : Naming B T) → coe 0 1 (i. Naming (p i) (q i)) a ≡ b → (objects : List (Object A S)) (common : List CommonObject) (n : Next A S) (r : Reply A S) → exotic_resumed b (map (map_object (to p) (to_symbol q)) objects) common (map_exotic_next (to p) (to_symbol q) n) (map_reply (to p) (to_symbol q) r) ≡ map_exotic_decided (to p) (to_symbol q) (exotic_resumed a objects common n r)
  resuming a b h objects common n r =
      sym (λ j. exotic_resumed (h j) (objects_move p q objects j) common (exotic_next_moves n j) (reply_moves p q r j))
      ∙ (sym (λ j. coe j 1 (i. ExoticDecision (p i) (q i) × List (Object (p i) (q i))) (exotic_resumed (coe 0 j (i. Naming (p i) (q i)) a) (coe 0 j (i. List (Object (p i) (q i))) objects) common (coe 0 j (i. Next (p i) (q i)) n) (coe 0 j (i. Reply (p i) (q i)) r)))
      ∙ decided_moves (exotic_resumed a objects common n r))

pub references_do_not_matter : (A B S T : Type 0) → Exotic_references_do_not_matter A B S T
references_do_not_matter A B S T e g a b alike objects common me x =
    subst (λ (f : A → B). decided b (map (map_object f (map_symbol g.0)) objects) common (f me) (map_ask f (map_symbol g.0) x) ≡ map_exotic_decided f (map_symbol g.0) (decided a objects common me x)) (ua_to e)
    (subst (λ (f : S → T). decided b (map (map_object (to (ua e)) (map_symbol f)) objects) common (to (ua e) me) (map_ask (to (ua e)) (map_symbol f) x) ≡ map_exotic_decided (to (ua e)) (map_symbol f) (decided a objects common me x)) (ua_to g)
    (deciding (ua e) (ua g) a b (naming_moves e g a b alike) objects common me x))

pub resuming_does_not_look : (A B S T : Type 0) → Exotic_resuming_does_not_look A B S T
resuming_does_not_look A B S T e g a b alike objects common n r =
    subst (λ (f : A → B). exotic_resumed b (map (map_object f (map_symbol g.0)) objects) common (map_exotic_next f (map_symbol g.0) n) (map_reply f (map_symbol g.0) r) ≡ map_exotic_decided f (map_symbol g.0) (exotic_resumed a objects common n r)) (ua_to e)
    (subst (λ (f : S → T). exotic_resumed b (map (map_object (to (ua e)) (map_symbol f)) objects) common (map_exotic_next (to (ua e)) (map_symbol f) n) (map_reply (to (ua e)) (map_symbol f) r) ≡ map_exotic_decided (to (ua e)) (map_symbol f) (exotic_resumed a objects common n r)) (ua_to g)
    (resuming (ua e) (ua g) a b (naming_moves e g a b alike) objects common n r))
