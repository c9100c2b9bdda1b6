-- The records of the productions before and the nodes so far, when a production ends and when its tag's parentheses close. Assumes nothing.
use Rattle.std.specs.Prelude.{◌≡◌, Bool, ◌&&◌, List, [], ◌∷◌, ◌++◌, ℕ, ◌+◌, ◌≤◌, ◌<◌, ltb, leb, length}
use Rattle.std.proofs.Math.Option.{Option}
use Rattle.notation.specs.Rules.{Tree, TextRule, Rules}
use Rattle.packing.specs.Packed.{field, content_bytes}
use Rattle.beds.specs.declared.Row.{Row}
use Rattle.beds.specs.Bedded.{Lays}
use Rattle.desks.specs.Kept.{tag_in, PastHeld}
use Rattle.slips.specs.declared.Slip.{Slip}
use Rattle.pasts.specs.declared.Past.{Past}

abbrev pub fitting : Past → Slip → Bool
fitting o s =
    ltb o.productions 64
    && (leb o.before o.nodes && (leb o.nodes (o.before + 192) && (leb o.nodes 1536 && (ltb s.nonterm 256 && (ltb s.tag 256 && (leb s.front 65535 && leb s.back 65535))))))

-- a record can hold the numbers, and there is room for it
pub record PastFits (o : Past) (s : Slip) : Type 0 where
  pub few : o.productions < 64
  pub nodes_behind : o.before ≤ o.nodes
  pub few_nodes : o.nodes ≤ o.before + 192
  pub nodes_within : o.nodes ≤ 1536
  pub nonterm_small : s.nonterm < 256
  pub tag_small : s.tag < 256
  pub front_small : s.front ≤ 65535
  pub back_small : s.back ≤ 65535

-- the numbers are those of a rule
pub record SlipOf (r : Rules) (d : TextRule) (s : Slip) : Type 0 where
  pub nonterm_is : s.nonterm ≡ d.nonterminal
  pub tag_is : s.tag ≡ tag_in r d.tag
  pub front_is : s.front ≡ field r d.own.first_visit
  pub back_is : s.back ≡ field r d.own.second_visit

abbrev pub PastKept : Rules → List TextRule → List ℕ → Past → List ℕ → List ℕ → Type 0
PastKept r earlier more o productions nodes = PastHeld r earlier more o.productions o.before o.nodes productions nodes

pub record PastEndIs (o : Past) (s : Slip) (memory after : List ℕ) (a : Past) : Type 0 where
  pub is : (r : Rules) (earlier : List TextRule) (d : TextRule) (nodes : List ℕ) → PastFits o s → length memory ≡ 768 → SlipOf r d s → PastKept r earlier (content_bytes r d.inside) o memory nodes
      → PastKept r (earlier ++ d ∷ []) [] a after nodes

pub record LayIs (o : Past) (row : Row) (memory after : List ℕ) (a : Past) : Type 0 where
  pub is : (r : Rules) (earlier : List TextRule) (e : Option Tree) (productions : List ℕ) → Lays (content_bytes r e) row → o.nodes + row.length ≤ 1536 → length memory ≡ 1536
      → PastKept r earlier [] o productions memory → PastKept r earlier (content_bytes r e) a productions after
