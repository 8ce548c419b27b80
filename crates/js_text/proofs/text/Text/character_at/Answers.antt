-- A pair is one character, and a unit that is in no pair is another.
use Rattle.std.proofs.Common.{◌+◌, ◌∷◌, ◌∙◌, ◌&&◌, ap, sym, drop, get_or, arith}
use Rattle.std.proofs.str.Utf16.{IsPair}
use Rattle.std.specs.Char.Utf16.{is_high_surrogate, is_low_surrogate, surrogate_pair_char, lone_unit_char, utf16_lossy_chars}
use Rattle.std.specs.Option.{unwrap_or}
use Rattle.js_text.proofs.Units.{lossy-drop_pair, lossy-drop_lone, apart_by_lead, apart_by_trail, apart_by_end}
use Rattle.js_text.proofs.text.Text.character_at.Goals as goal
use Rattle.js_text.proofs.text.Text.character_at.Goals.{then-is_lead+then-at-len+else-is_trail, else-is_lead, else-is_lead-via-then-is_lead+else-at-len, else-is_lead-via-else-is_lead}

pub returns-then-is_trail-clause-first : goal.returns-then-is_trail-clause-first
returns-then-is_trail-clause-first c =
    let units = c.args.self.now in
    let at = c.args.at in
    let lead = ap is_high_surrogate (sym c.unit-unit.ensures) ∙ sym c.is_lead.ensures ∙ c.if-is_lead.true in
    let trail = ap is_low_surrogate (sym c.unit-next.ensures) ∙ sym c.is_trail.ensures ∙ c.if-is_trail.true in
    lossy-drop_pair units at (omega (arith, c.if-at-len.true, c.len-len.ensures.len)) ((λ k. lead k && trail k))
    ∙ (λ k. surrogate_pair_char (sym c.unit-unit.ensures k) (sym c.unit-next.ensures k) ∷ utf16_lossy_chars (drop (at + 2) units))
    ∙ ap (λ x. x ∷ utf16_lossy_chars (drop (at + 2) units)) (sym c.pair_character.ensures)

pub returns-clause-first : goal.returns-clause-first
returns-clause-first c =
    let units = c.args.self.now in
    let at = c.args.at in
    let apart = λ (pair : IsPair (get_or units at 0) (get_or units (at + 1) 0)). elim c.if-is_lead.branch as (λ _. ⊥) [
      | then-is_lead+then-at-len+else-is_trail w ↦ apart_by_trail units at (ap is_low_surrogate (sym w.unit-next.ensures) ∙ sym w.is_trail.ensures ∙ w.if-is_trail.false) pair
      | else-is_lead w ↦ elim w.else-is_lead.branch as (λ _. ⊥) [
        | else-is_lead-via-then-is_lead+else-at-len v ↦ apart_by_end units at (omega (arith, v.if-at-len.false, c.len-len.ensures.len)) pair
        | else-is_lead-via-else-is_lead v ↦ apart_by_lead units at (ap is_high_surrogate (sym c.unit-unit.ensures) ∙ sym c.is_lead.ensures ∙ v.if-is_lead.false) pair
      ]
    ] in
    lossy-drop_lone units at c.requires apart
    ∙ ap (λ x. x ∷ utf16_lossy_chars (drop (at + 1) units)) (ap (λ u. unwrap_or (lone_unit_char u) 0xFFFD) (sym c.unit-unit.ensures) ∙ sym c.lone_character.ensures)
