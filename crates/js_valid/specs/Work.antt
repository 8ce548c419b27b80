-- What is still to be looked at.
use Rattle.std.specs.Prelude.{Bool, true, List, [], ◌∷◌, ◌++◌, map, reverse, Option, Some, None}
use Rattle.js_valid.specs.Surroundings.{Place, Round, round_of}
use Rattle.js_valid.specs.Inner.{Inner, Item, OnePart, OneTemplate, OneTerm, inside, place_in}
use Rattle.js_valid.specs.Valid.{Everywhere, stands}
use Rattle.js_valid.specs.declared.surrounding.Surrounding.{Surrounding}
use Rattle.js_valid.specs.declared.work.TermItem.{TermItem}
use Rattle.js_valid.specs.declared.work.TermItem.TheVariants as item
use Rattle.js_valid.specs.declared.work.InnerItem.{InnerItem}
use Rattle.js_valid.specs.declared.work.PendingItem.{PendingItem}
use Rattle.js_valid.specs.declared.work.PendingItem.TheVariants as pending_item

abbrev pub item_of : TermItem → Item
item_of (item.OneTerm t) = OneTerm t.now
item_of (item.OnePart p) = OnePart p.now
item_of (item.OneTemplate t) = OneTemplate t.now

abbrev pub maybe_round : Option Surrounding → Option Round
maybe_round None = None
maybe_round (Some s) = Some (round_of s)

abbrev pub inner_of : InnerItem → Inner
inner_of i = record { round = maybe_round i.round; item = item_of i.item }

pub data Step : Type 0 where
  -- an item is looked at
  Visit : Inner → Step
  -- what stands innermost is left
  Leave : Step

abbrev pub step_of : PendingItem → Step
step_of (pending_item.Visit i) = Visit (inner_of i)
step_of pending_item.Leave = Leave

-- the next one first
abbrev pub pending : List PendingItem → List Step
pending l = map step_of (reverse l)

abbrev pub visits : List Inner → List Step
visits l = map Visit l

abbrev pub left_after : Option Round → List Step → List Step
left_after None ss = ss
left_after (Some r) ss = Leave ∷ ss

abbrev pub outer : Place → Place
outer [] = []
outer (r ∷ p) = p

-- ONE STEP: what it asks, where the next one is, and what is to be looked at then

abbrev pub step_stands : Place → Step → Bool
step_stands p (Visit i) = stands (place_in p i) i.item
step_stands p Leave = true

abbrev pub place_after : Place → Step → Place
place_after p (Visit i) = place_in p i
place_after p Leave = outer p

abbrev pub steps_after : Step → List Step → List Step
steps_after (Visit i) ss = visits (inside i.item) ++ left_after i.round ss
steps_after Leave ss = ss

-- all that is to be looked at is valid
pub data AreSteps : Place → List Step → Type 0 where
  no_steps : (p : Place) → AreSteps p []
  visited : (p : Place) (i : Inner) (ss : List Step) → Everywhere stands p (i ∷ []) → AreSteps p ss → AreSteps p (Visit i ∷ ss)
  left : (p : Place) (ss : List Step) → AreSteps (outer p) ss → AreSteps p (Leave ∷ ss)
