-- The trace of an empty module may be told.
use Rattle.std.proofs.Common.{◌≡◌, true, [], ◌∷◌, codes, refl, ap, ◌∙◌, sym, subst, arith}
use Rattle.std.specs.Char.Utf16.{utf16_chars}
use Rattle.std.specs.Str.{chars}
use Rattle.js_text.specs.Texts.{utf8_of}
use Rattle.js_text.specs.Utf8.{units_of}
use Rattle.lava_journal.specs.Bodies.{all_spaced, spaced}
use Rattle.lava_journal.specs.Sheets.{TraceNames, no_names, with_pieces}
use Rattle.lava_trace.specs.Courses.{may_cross, may_follow, opened, opens}
use Rattle.lava_trace_laws.specs.First.{answered, asked, first_trace}
use Rattle.lava_trace_laws.specs.Sound.{IsText}
use Rattle.lava_trace_laws.specs.Written.{IsLawful, IsName, MayStand, line_of}

host_units : units_of (codes "$host$") ≡ codes "$host$"
unfolding chars
host_units = refl

host_back : utf8_of (codes "$host$") ≡ codes "$host$"
unfolding utf16_chars lib.Utf8.encode
host_back = refl

host_is_text : IsText (codes "$host$")
host_is_text = record { short = omega arith; units = (omega arith, (omega arith, (omega arith, (omega arith, (omega arith, (omega arith, tt)))))) }

host_is_name : IsName (codes "$host$")
host_is_name = (subst IsText (sym host_units) host_is_text, ap utf8_of host_units ∙ host_back)

root_units : units_of (codes "$root$") ≡ codes "$root$"
unfolding chars
root_units = refl

root_back : utf8_of (codes "$root$") ≡ codes "$root$"
unfolding utf16_chars lib.Utf8.encode
root_back = refl

root_is_text : IsText (codes "$root$")
root_is_text = record { short = omega arith; units = (omega arith, (omega arith, (omega arith, (omega arith, (omega arith, (omega arith, tt)))))) }

root_is_name : IsName (codes "$root$")
root_is_name = (subst IsText (sym root_units) root_is_text, ap utf8_of root_units ∙ root_back)

host_first : may_follow [] (codes "$host$") ≡ true
unfolding may_follow
host_first = refl

root_second : may_follow (codes "$host$" ∷ []) (codes "$root$") ≡ true
unfolding may_follow
root_second = refl

host_asks : may_cross 2 asked.crossing ≡ true
unfolding may_cross
host_asks = refl

root_answers : may_cross 2 answered.crossing ≡ true
unfolding may_cross
root_answers = refl

abbrev names_then : TraceNames
names_then = (line_of no_names 1 asked).names

asked_stands : MayStand 2 [] no_names asked
unfolding all_spaced spaced
asked_stands = record {
  sound = record { from = omega arith; to = omega arith; body = (refl, (root_is_text, record { short = omega arith; units = tt })) };
  between = host_asks;
  named = (tt, (tt, (tt, (tt, (tt, (tt, tt))))));
  marked = (tt, (tt, (tt, (tt, (tt, (tt, tt))))));
  marks = refl;
}

answered_stands : MayStand 2 (opened [] (opens asked.crossing.body)) names_then answered
unfolding with_pieces all_spaced spaced
answered_stands = record {
  sound = record { from = omega arith; to = omega arith; body = (tt, tt) };
  between = root_answers;
  named = (tt, ((refl, omega arith, omega arith), tt));
  marked = (tt, (refl, tt));
  marks = refl;
}

pub first_is_lawful : IsLawful first_trace
first_is_lawful = record {
  two = omega arith;
  parties = (host_is_name, host_first, omega arith, (root_is_name, root_second, omega arith, tt));
  lines = (asked_stands, omega arith, (answered_stands, omega arith, tt));
  steps = refl;
  total = omega arith;
  ending = tt;
}
