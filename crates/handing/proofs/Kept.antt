-- What holds of a run between tokens holds of it again behind each token that is taken.
-- Assumes nothing.
use mathlib.Core.Path.{◌≡◌, refl, sym, ap, subst}
use mathlib.Core.Bool.{Bool, true, false, ◌&&◌}
use mathlib.Core.List.{List, [], ◌∷◌, ◌++◌}
use mathlib.Core.Option.{Option, none, some}
use Prim.Native.Nat.{ℕ, suc, ◌≤◌}
use native.Mathlib.Omega.{arith}
use lib.Dec.{leb}
use lib.ListN.{length}
use borrow.Author.Tests.{leb-true}
use Rattle.expressions.specs.Words.{Bracket}
use Rattle.expressions.specs.Grammar.{Production, tags_of, content_of, tag, character}
use Rattle.sheet.specs.Sheet.{Sheet, IsSheet}
use Rattle.runs.specs.Visits.{grammar, most_visits}
use Rattle.runs.specs.Events.{Event, starts, ends, letter}
use Rattle.runs.specs.Acts.{Store, acts, bracket_acts, start_tag}
use Rattle.runs.specs.Lookup.{tag_of, find}
use Rattle.runs.specs.Way.{Way, end_way, atom_way}
use Rattle.runs.specs.Fits.{EventsFit}
use Rattle.runs.specs.Machine.{Open, Control, before, inside, after, most, Turn, refuse, go, at_start, at_place_lem, opening_up, start_at, start_by, production_for, root_by, end_by, same_tag, own_tag, char_by, move, Configuration, Answer, took, refused, acted, turned, step, onward, run, answered}
use Rattle.runs.specs.Spells.{Token, events_of_token, is_blank, passes_at, unless_blank, step_token}
use Rattle.runs.proofs.SheetFits.{sheet_fits}
use Rattle.calls.specs.Limits.{silent, taken, one_token}
use Rattle.calls.proofs.Steps.{takes_one}
use Rattle.steps.proofs.Onward.{taken_fits}
use Rattle.state.specs.Meaning.{opens_of}
use Rattle.handing.proofs.Canonical.{Good}

-- no more are open than may be
abbrev pub Few : Control → Type 0
Few c = length (opens_of c) ≤ most

abbrev FewTurn : Turn → Type 0
FewTurn (refuse n) = Unit {0}
FewTurn (go bs c) = Few c

abbrev FewAnswer : Answer → Type 0
FewAnswer (took z) = Few z.control
FewAnswer (refused n) = Unit {0}

root_few : (o : Option ℕ) → FewTurn (root_by o)
root_few none = tt
root_few (some q) = omega arith

start_few : (g : List Production) (o : Open) (os : List Open) (t : ℕ) (w : Option Way) → FewTurn (start_by g most o os t w)
start_few g o os t none = tt
start_few g o os t (some w) = by (production_for g w.kind t)
  where
    by : (p : Option ℕ) → FewTurn (start_at most o os w p)
    by none = tt
    by (some q) = on (leb (suc (suc (length os))) most) refl
      where
        on : (c : Bool) → leb (suc (suc (length os))) most ≡ c →
            FewTurn (opening_up c (bracket_acts o.production w.string ++ start_tag q ∷ []) (inside (at_start q) (at_place_lem o w.place ∷ os)))
        on true e = leb-true (suc (suc (length os))) most e
        on false e = tt

end_few : (o : Open) (os : List Open) → Few (inside o os) → (b : Bool) (w : Option (List Bracket)) → FewTurn (own_tag b (end_by o os w))
end_few o os h false w = tt
end_few o os h true none = tt
end_few o [] h true (some α) = omega arith
end_few o (p ∷ os) h true (some α) = omega (arith, h)

char_few : (o : Open) (os : List Open) → Few (inside o os) → (c : ℕ) (w : Option Way) → FewTurn (char_by o os c w)
char_few o os h c none = tt
char_few o os h c (some w) = h

move_few : (g : List Production) (n : ℕ) (c : Control) → Few c → (e : Event) → FewTurn (move g n most c e)
move_few g n before h (starts none) = tt
move_few g n before h (starts (some t)) = root_few (find g n t)
move_few g n before h (ends t) = tt
move_few g n before h (letter c) = tt
move_few g n (inside o os) h (starts none) = tt
move_few g n (inside o os) h (starts (some t)) = start_few g o os t (atom_way (tags_of g) (content_of g o.production) o.place (tag t))
move_few g n (inside o os) h (ends t) = end_few o os h (same_tag t (tag_of g o.production)) (end_way (content_of g o.production) o.place)
move_few g n (inside o os) h (letter c) = char_few o os h c (atom_way (tags_of g) (content_of g o.production) o.place character)
move_few g n after h e = tt

module _ (a : Sheet) where
  step_few : (z : Configuration) → Few z.control → (e : Event) → FewAnswer (step a z e)
  step_few z h e = of_turn (move (grammar a) a.start_nonterminal most z.control e) (move_few (grammar a) a.start_nonterminal z.control h e)
    where
      of_acts : (c : Control) (m : Option Store) → Few c → FewAnswer (acted c m)
      of_acts c none h = tt
      of_acts c (some m) h = h

      of_turn : (u : Turn) → FewTurn u → FewAnswer (turned a z.store u)
      of_turn (refuse k) h = tt
      of_turn (go bs c) h = of_acts c (acts a bs z.store) h

  run_few : (z : Configuration) → Few z.control → (es : List Event) → FewAnswer (answered (run a z es))
  run_few z h [] = h
  run_few z h (e ∷ es) = by (step a z e) (step_few z h e) (λ y i. run_few y i es)
    where
      by : (u : Answer) → FewAnswer u → ((y : Configuration) → Few y.control → FewAnswer (answered (run a y es))) → FewAnswer (answered (onward z (e ∷ es) u (λ y. run a y es)))
      by (took y) i f = f y i
      by (refused j) i f = tt

  token_few : (z : Configuration) (k : Token) → Few z.control → FewAnswer (step_token a z k)
  token_few z k h = by (is_blank k && passes_at (grammar a) z.control) (run_few z h (events_of_token k))
    where
      by : (b : Bool) → FewAnswer (answered (run a z (events_of_token k))) → FewAnswer (unless_blank b z (answered (run a z (events_of_token k))))
      by true i = h
      by false i = i

pub good_taken : {s : List ℕ} {a : Sheet} (i : IsSheet s a) (z : Configuration) (room : ℕ) (k : Token) (y : Configuration) (w : List ℕ) → EventsFit (events_of_token k) →
    Good i z → one_token a z room k ≡ taken y w → Good i y
good_taken {s} {a} i z room k y w E h e =
    let o = takes_one a z room k y w e in
    record {
      fits = taken_fits a (sheet_fits i) z room k y w E h.fits e;
      few = subst (λ (c : Configuration). Few c.control) (sym o.silenced) (subst FewAnswer o.stepped (token_few a z k h.few));
      silent = ap (λ (c : Configuration). c.store.env.out) o.silenced;
      count = subst (λ (c : Configuration). c.store.env.count ≤ most_visits) (sym o.silenced) o.counts;
    }
