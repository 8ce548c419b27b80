-- What stands there in a side, or in the shared list, is what stands there in the text.
use Rattle.std.proofs.Common.{◌≡◌, ◌++◌, ◌∙◌, arith, subst}
use Rattle.std.specs.Result.{IfOk}
use Rattle.js_text.proofs.Pieces.{seen, place_fits, substring_of_part, substring_of_back, substring_over_seam}
use Rattle.js_text.proofs.text.Text.+slice.Goals as goal

pub overflow_add-start : goal.overflow_add-start
overflow_add-start t c =
    let known = seen c.deref.ensures c.in-Part.is c.self.view_is c.self.invariant in
    let below = place_fits c.in-Part.units.value.items c.args.self.now c.in-Part.start c.in-Part.end c.args.to known.0 known.1.0 known.1.1 c.requires.1 in
    omega arith

pub overflow_add-start-in-Part : goal.overflow_add-start-in-Part
overflow_add-start-in-Part t c =
    let known = seen c.deref.ensures c.in-Part.is c.self.view_is c.self.invariant in
    let below = place_fits c.in-Part.units.value.items c.args.self.now c.in-Part.start c.in-Part.end c.args.to known.0 known.1.0 known.1.1 c.requires.1 in
    omega arith

pub returns-in-Part : goal.returns-in-Part
returns-in-Part t c =
    let known = seen c.deref.ensures c.in-Part.is c.self.view_is c.self.invariant in
    let same = substring_of_part c.in-Part.units.value.items c.args.self.now c.in-Part.start c.in-Part.end c.args.from c.args.to known.0 known.1.0 known.1.1 c.requires.0 c.requires.1 in
    record { units = subst (λ units. IfOk c.shared.result (λ text. text ≡ units)) same c.shared.ensures }

pub returns-then-middle-from : goal.returns-then-middle-from
returns-then-middle-from t c =
    let known = seen c.deref.ensures c.in-Join.is c.self.view_is c.self.invariant in
    let same = substring_of_back c.in-Join.left c.in-Join.right c.args.self.now c.len-middle.result c.args.from c.args.to known.0 c.len-middle.ensures.len c.if-middle-from.true c.requires.0 in
    record { units = subst (λ units. IfOk c.slice-then-middle-from.result (λ text. text ≡ units)) same c.slice-then-middle-from.ensures.units }

pub returns-in_ok-back-in-Join : goal.returns-in_ok-back-in-Join
returns-in_ok-back-in-Join t c =
    let known = seen c.deref.ensures c.in-Join.is c.self.view_is c.self.invariant in
    let same = substring_over_seam c.in-Join.left c.in-Join.right c.args.self.now c.len-middle.result c.args.from c.args.to known.0 c.len-middle.ensures.len c.if-middle-from.false c.if-to-middle.false in
    record { units = subst (λ units. IfOk c.joined.result (λ text. text ≡ units)) ((λ k. c.in_ok-front-in-Join.ensures.units k ++ c.in_ok-back-in-Join.ensures.units k) ∙ same) c.joined.ensures }
