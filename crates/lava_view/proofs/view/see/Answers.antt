-- A crossing in which the party takes part is one line more.
use Rattle.std.proofs.Common.{◌≡◌, ◌==◌, ◌++◌, false, true, ap, subst, sym, ◌∙◌}
use Rattle.lava_journal.specs.Alike.{FindsAlike}
use Rattle.lava_journal.specs.Bodies.{body_pieces}
use Rattle.lava_view.specs.Views.{seen_by, takes_part, view_lines, viewed_names, viewed_text}
use Rattle.lava_view.proofs.Seen_laws.{passed_by, pushed_so}
use Rattle.lava_view.proofs.view.see.Goals as goal

pub returns-then-not-takes_part-clause-seen : goal.returns-then-not-takes_part-clause-seen
returns-then-not-takes_part-clause-seen c = λ rest.
    let s = c.args.page.now in
    let t = c.learn.new.self in
    let l = c.args.line.now in
    let marks : FindsAlike t.marks (s.marks ++ l.marks) = subst (λ m. FindsAlike t.marks (s.marks ++ m)) c.as_slice.ensures c.in_ok-learn.ensures.marks in
    let not : takes_part s.party l ≡ false = ap (λ p. takes_part p l) (sym c.in_ok-learn.ensures.party) ∙ sym c.if-not-takes_part.ensures in
    ap (λ n. c.args.lines.now ++ view_lines s.party n (seen_by s.party t.marks rest)) c.in_ok-learn.ensures.names
    ∙ ap (λ v. c.args.lines.now ++ v) (passed_by s.party s.names s.marks t.marks l rest marks not)

pub returns-clause-seen : goal.returns-clause-seen
returns-clause-seen c =
    let s = c.args.page.now in
    let t = c.learn.new.self in
    let u = c.body.new.self in
    let l = c.args.line.now in
    let ps = body_pieces l.crossing.body in
    let learnt : FindsAlike t.marks (s.marks ++ l.marks) = subst (λ m. FindsAlike t.marks (s.marks ++ m)) c.as_slice.ensures c.in_ok-learn.ensures.marks in
    let marks : FindsAlike u.marks (s.marks ++ l.marks) = subst (λ m. FindsAlike m (s.marks ++ l.marks)) (sym c.in_ok-body.ensures.marks) learnt in
    let party : t.party ≡ s.party = c.in_ok-learn.ensures.party in
    let names : t.names ≡ s.names = c.in_ok-learn.ensures.names in
    let does : takes_part s.party l ≡ true = ap (λ p. takes_part p l) (sym party) ∙ sym c.if-not-takes_part.ensures in
    pushed_so c.push.result s.party c.args.lines.now c.push.new.self s.names u.names s.marks u.marks l c.is_sender-sent.result c.in_ok-body.body marks does
    (c.is_sender-sent.ensures ∙ ap (λ p. l.crossing.from.0 == p) party)
    (c.in_ok-body.ensures.text ∙ (λ k. viewed_text (party k) (names k) (sym c.in_ok-body.ensures.marks k) ps))
    (c.in_ok-body.ensures.names ∙ (λ k. viewed_names (party k) (names k) ps))
    c.push.ensures.ok
