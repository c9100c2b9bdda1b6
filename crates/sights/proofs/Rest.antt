-- What is told of the rest of a text. Assumes nothing.
use mathlib.Core.Path.{◌≡◌, sym, subst}
use mathlib.Core.List.{List}
use Prim.Native.Nat.{ℕ, ◌+◌, ◌≤◌}
use native.Mathlib.Omega.{arith}
use lib.ListN.{length, drop, length-drop}
use Rattle.reading.specs.Rules.{Progress}
use Rattle.lexing.proofs.Spellings.{part, part_is}
use Rattle.verdicts.specs.Judged.{Verdict, writes, refused_at, later, Judged, ended}
use Rattle.rulings.specs.declared.Reader.{Reader}
use Rattle.rulings.specs.Readers.{Holds, Firm}
use Rattle.ledgers.proofs.Telling.{later_none, later_twice, judged_on}
use Rattle.std.specs.Prelude.{Ok, Err}
use Rattle.sights.specs.declared.Token.{Token}
use Rattle.sights.specs.Glances.{Met, Glance, Seen, meets, writes_rules, refuses, GlanceIs, Somewhere, RestTold, rest_writes, rest_refused, RestIs}

-- where the machine stands behind the first bytes
pub record Onto (s : Progress) (x : List ℕ) (from : ℕ) (r : Reader) : Type 0 where
  pub state : Progress
  pub judged : (v : Verdict) → Judged state (drop from x) v → Judged s x (later from v)
  pub holds : Holds state r

-- what the loop keeps, from the first reader on
pub record Along (x : List ℕ) (first : Reader) (from : ℕ) (r : Reader) : Type 0 where
  pub high : from ≤ length x
  pub firm : Firm r
  pub some_state : Progress
  pub some_holds : Holds some_state first
  pub onto : (s : Progress) → Holds s first → Onto s x from r

pub along_first : (x : List ℕ) (r : Reader) → Firm r × Somewhere r → Along x r 0 r
along_first x r h = record {
  high = omega arith;
  firm = h.0;
  some_state = h.1.state;
  some_holds = h.1.holds;
  onto = λ s u. record { state = s; judged = λ v j. subst (Judged s x) (sym (later_none v)) j; holds = u };
}

pub met_of : (s : Progress) (x : List ℕ) (a : Token) → Seen s x (Ok a) → Met s x a
met_of s x a (meets m) = m

-- what is found of the part from a byte on is found of what follows
pub glance_as : (x : List ℕ) (from : ℕ) (r : Reader) (a b : Glance) → a ≡ b → GlanceIs (part x from) r a → GlanceIs (drop from x) r b
glance_as x from r a b e h = subst (GlanceIs (drop from x) r) e (subst (λ z. GlanceIs z r a) (part_is x from) h)

module _ (x : List ℕ) (first : Reader) (from : ℕ) (r : Reader) (a : Along x first from r) where
  module _ (t : Token) (g : GlanceIs (drop from x) r (Ok t)) where
    met : (s : Progress) → Holds s r → Met s (drop from x) t
    met s u = met_of s (drop from x) t (g.told s u)

    onto_next : (s : Progress) → Onto s x from r → Onto s x (from + (t.at + t.long)) t.reader
    onto_next s f = let m = met f.state f.holds in record {
      state = m.next;
      judged = λ v j. subst (Judged s x) (later_twice from (t.at + t.long) v)
          (f.judged (later (t.at + t.long) v) (judged_on x from t.at t.long f.state m.next m.token m.stands v j));
      holds = m.holds;
    }

    pub along_on : Along x first (from + (t.at + t.long)) t.reader
    along_on = record {
      high = omega (arith, a.high, g.high, length-drop from x);
      firm = g.firm;
      some_state = a.some_state;
      some_holds = a.some_holds;
      onto = λ s u. onto_next s (a.onto s u);
    }

    -- at least one byte further
    pub along_onward : 1 ≤ t.long
    along_onward = let f = a.onto a.some_state a.some_holds in (met f.state f.holds).onward

  rules_told : (s : Progress) (f : Onto s x from r) → Seen f.state (drop from x) (Err (Ok tt)) → RestTold s x (Ok tt)
  rules_told s f (writes_rules v e j) = rest_writes v (f.judged (writes v) (ended j e))

  refusal_told : (s : Progress) (k : ℕ) (f : Onto s x from r) → Seen f.state (drop from x) (Err (Err k)) → RestTold s x (Err (from + k))
  refusal_told s k f (refuses j) = rest_refused (f.judged (refused_at k) j)

  pub rest_rules : GlanceIs (drop from x) r (Err (Ok tt)) → RestIs x first (Ok tt)
  rest_rules g = record { told = λ s u. let f = a.onto s u in rules_told s f (g.told f.state f.holds) }

  pub rest_refusal : (k : ℕ) → GlanceIs (drop from x) r (Err (Err k)) → RestIs x first (Err (from + k))
  rest_refusal k g = record { told = λ s u. let f = a.onto s u in refusal_told s k f (g.told f.state f.holds) }
