-- A new made symbol goes last, and its party has one number more.
use Rattle.std.proofs.Common.{◌≡◌, ◌++◌, ◌∷◌, [], None, ap, subst, sym, ◌∙◌}
use Rattle.indexmap.specs.IndexMap.{insert_entry}
use Rattle.lava_base.specs.Ids.{same_made_symbol}
use Rattle.lava_journal.specs.Counts.{Counts}
use Rattle.lava_journal.specs.Sheets.{count_of, known_symbol}
use Rattle.lava_journal.proofs.Count_laws.{goes_last, symbol_counted}
use Rattle.lava_journal.proofs.numbers.Numbers.add_symbol.Goals as goal

entries : (c : goal.In_ok-insert) → c.insert.new.self.entries ≡ c.self.inside.symbols.entries ++ (c.args.symbol, c.in_ok-number.number) ∷ []
entries c =
    let none = subst (λ v. known_symbol v c.args.symbol ≡ None) (sym c.self.view_is) c.requires in
    c.in_ok-insert.ensures.entries ∙ ap (λ l. insert_entry same_made_symbol l c.args.symbol c.in_ok-number.number) c.in_ok-reserve.ensures.entries
    ∙ goes_last same_made_symbol c.args.symbol c.in_ok-number.number c.self.inside.symbols.entries none

pub invariant_of-self-2 : goal.invariant_of-self-2
invariant_of-self-2 c =
    subst (λ l. Counts c.take_number.new.counts.entries c.self.inside.objects.entries l) (sym (entries c))
    (symbol_counted c.self.inside.counts.entries c.take_number.new.counts.entries c.self.inside.objects.entries c.self.inside.symbols.entries
    c.args.symbol c.in_ok-number.number c.self.invariant c.in_ok-number.ensures.counts)

pub returns-clause-names : goal.returns-clause-names
returns-clause-names c =
    let e = entries c in
    let n = c.in_ok-number.ensures.number ∙ c.self.invariant.right c.args.symbol.party.0 in
    subst (λ v. record { objects = c.self.inside.objects.entries; symbols = c.insert.new.self.entries; shown = c.self.inside.shown.keys }
    ≡ record { objects = v.objects; symbols = v.symbols ++ (c.args.symbol, count_of v c.args.symbol.party.0) ∷ []; shown = v.shown }) c.self.view_is
    (λ k. record { objects = c.self.inside.objects.entries; symbols = (e ∙ ap (λ m. c.self.inside.symbols.entries ++ (c.args.symbol, m) ∷ []) n) k; shown = c.self.inside.shown.keys })
