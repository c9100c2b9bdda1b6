-- Calls under two sheets that are the same by name: the same is heard. Assumes nothing.
use mathlib.Core.Path.{◌≡◌, refl, sym, ◌∙◌, ap, subst}
use mathlib.Core.Bool.{Bool}
use mathlib.Core.List.{List, [], ◌∷◌}
use mathlib.Core.Option.{Option, none, some}
use Prim.Native.Nat.{ℕ, zero, suc, ◌+◌, ◌≤◌, ◌<◌}
use native.Mathlib.Omega.{arith}
use lib.ListN.{length}
use Rattle.layout.specs.Layout.{tag_count, production_count}
use Rattle.sheet.specs.Tags.{TagAt}
use Rattle.sheet.specs.Sheet.{Rule, Sheet, From, RuleAt}
use Rattle.sheet.proofs.SheetLaws.{from_counted}
use Rattle.runs.specs.Execute.{name_of}
use Rattle.runs.specs.Visits.{grammar}
use Rattle.runs.specs.Machine.{Configuration}
use Rattle.calls.specs.Held.{Held, fresh_held}
use Rattle.calls.specs.Call.{Result, Stop, stops, full, no_token, Runs, takes, halts, CalledBy, Called}
use Rattle.widening.specs.CallByCall.{Asked, Heard, CallByCall, no_call, call}
use Rattle.packing.specs.Packs.{Packs}
use Rattle.naming.specs.ByName.{SameByName}
use Rattle.renaming.specs.SameCalls.{SameCalls}
use Rattle.renaming.proofs.Tags.{NamesDiffer, TagsThere}
use Rattle.renaming.proofs.Moves.{ControlThere, one_token_same, taken_there}

module _ (a b : Sheet) (s : SameByName a b) (differ : NamesDiffer a.names) (differ' : NamesDiffer b.names) (tags : TagsThere (length a.names) a.rules) (tags' : TagsThere (length b.names) b.rules) where
  abbrev Here : Configuration → Type 0
  Here z = ControlThere (length (grammar a)) z.control

  module _ (part : List ℕ) (more : Bool) where
    stop_same : {at room n : ℕ} {z : Configuration} → Here z → Stop a part more at room z n → Stop b part more at room z n
    stop_same {room = room} {z = z} t (stops e next n m q) = stops e next n m (sym (one_token_same a b s differ differ' tags tags' room part e z t) ∙ q)
    stop_same {room = room} {z = z} t (full e next m q) = full e next m (sym (one_token_same a b s differ differ' tags tags' room part e z t) ∙ q)
    stop_same t (no_token x n m q) = no_token x n m q

    runs_same : {at room : ℕ} {z : Configuration} {r : Result} → Here z → Runs a part more at room z r → Runs b part more at room z r × Here r.held.run
    runs_same t (takes {room = room} {z = z} e next z' w m q d) =
        let i = runs_same (taken_there a b s differ differ' tags tags' room part e z z' w t q) d in
        (takes e next z' w m (sym (one_token_same a b s differ differ' tags tags' room part e z t) ∙ q) i.0, i.1)
    runs_same t (halts x) = (halts (stop_same t x), t)

    called_same : (room : ℕ) (z : Configuration) (c : Option ℕ) (r : Result) → Here z → CalledBy a part more room z c r → CalledBy b part more room z c r × Here r.held.run
    called_same room z none r t d = runs_same t d
    called_same room z (some n) r t e = (e, subst (λ x. Here x.held.run) (sym e) t)

  calls_same : {h : Held} {qs : List Asked} {hs : List Heard} → Here h.run → CallByCall a h qs hs → CallByCall b h qs hs
  calls_same t no_call = no_call
  calls_same t (call {h = h} q r c d) =
      let i = called_same q.part q.more q.room h.run h.closing r t c in
      call q r i.0 (calls_same i.1 d)

-- what numbers 1 to 6 give
tag_at : (s : List ℕ) (i k : ℕ) (ns : List (List ℕ)) → From (TagAt s) i k ns → (t : ℕ) → t < length ns → TagAt s (i + t) (name_of ns t)
tag_at s i k [] f t l = absurd (omega arith)
tag_at s i k (n ∷ ns) f zero l = subst (λ j. TagAt s j n) (let e : i ≡ i + 0 = omega arith in e) f.0
tag_at s i k (n ∷ ns) f (suc t) l = subst (λ j. TagAt s j (name_of ns t)) (let e : suc i + t ≡ i + suc t = omega arith in e) (tag_at s (suc i) k ns f.1 t (omega arith))

module _ (s : List ℕ) (a : Sheet) (p : Packs s a) where
  tag_is : (t : ℕ) → t < length a.names → TagAt s t (name_of a.names t)
  tag_is t l = subst (λ j. TagAt s j (name_of a.names t)) (let e : 0 + t ≡ t = omega arith in e) (tag_at s 0 (tag_count s) a.names p.names_are t l)

  counted : length a.names ≡ tag_count s
  counted = omega (arith, from_counted (TagAt s) 0 (tag_count s) a.names p.names_are)

  pub names_differ : NamesDiffer a.names
  names_differ t u l k e =
      p.tags.different t u (name_of a.names t) (omega (arith, counted, l)) (omega (arith, counted, k)) (tag_is t l) (subst (TagAt s u) (sym e) (tag_is u k))

  tags_from : (i : ℕ) (xs : List Rule) → From (RuleAt s p.programs.programs) i (production_count s) xs → TagsThere (length a.names) xs
  tags_from i [] f = tt
  tags_from i (x ∷ xs) f =
      let l : i < production_count s = omega (arith, from_counted (RuleAt s p.programs.programs) (suc i) (production_count s) xs f.1) in
      (omega (arith, f.0.production_is.tag_is, (p.productions.each i l).tag, counted), tags_from (suc i) xs f.1)

  pub tags_there : TagsThere (length a.names) a.rules
  tags_there = tags_from 0 a.rules p.rules_are

pub turned_round : (a b : Sheet) → SameByName a b → SameByName b a
turned_round a b s = record { rules = s.rules; first_is = s.second_is; second_is = s.first_is }

pub same_calls : SameCalls
same_calls s s' a b p q m qs hs = (
  λ c. calls_same a b m (names_differ s a p) (names_differ s' b q) (tags_there s a p) (tags_there s' b q) tt c,
  λ c. calls_same b a (turned_round a b m) (names_differ s' b q) (names_differ s a p) (tags_there s' b q) (tags_there s a p) tt c,
)
