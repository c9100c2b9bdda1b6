-- Expressions as trees without programs: they mention nothing, and have the same nodes. Assumes nothing.
use mathlib.Core.Path.{◌≡◌, refl, sym, ◌∙◌, ap, ap₂}
use mathlib.Core.List.{List, [], ◌∷◌, ◌++◌, append_assoc, append-nil}
use mathlib.Core.Option.{none}
use Prim.Native.Nat.{ℕ, zero, suc, ◌+◌}
use lib.ListN.{replicate, replicate-append-replicate}
use Rattle.expressions.specs.Expr.{nonterminal, anychar, Exp, atom, cat, alt, star, empty, nodes, Content, nothing, tree, nodes_of}
use Rattle.sheet.specs.Fields.{Visits}
use Rattle.notation.specs.Rules.{TextVisits, expression, visits, content_inside, visits_inside, Rules}
use Rattle.notation.specs.Limits.{AllWithin}
use Rattle.encoding.specs.Mentions.{Mention, in_tree, in_content}
use Rattle.encoding.specs.Encoded.{each}
use Rattle.packing.specs.Packed.{tree_bytes, content_bytes}
use Rattle.models.specs.Sheets.{no_programs}
use Rattle.declarations.specs.Nodes.{preorder, content_preorder}
use Rattle.declaring.specs.Rules.{plain_tree, plain_content}
use Rattle.declaring.specs.Sections.{node_records}

abbrev no_visits : TextVisits
no_visits = record { first_visit = none; second_visit = none }

-- the expression is there again
expression_plain : (e : Exp) → expression (plain_tree e) ≡ e
expression_plain (atom k) = refl
expression_plain (cat e f) = ap₂ Exp.cat (expression_plain e) (expression_plain f)
expression_plain (alt e f) = ap₂ Exp.alt (expression_plain e) (expression_plain f)
expression_plain (star e) = ap Exp.star (expression_plain e)
expression_plain empty = refl

pub content_plain : (c : Content) → content_inside (plain_content c) ≡ c
content_plain nothing = refl
content_plain (tree e) = ap tree (expression_plain e)

-- no visit of a node has a program
two_rows : (m n : ℕ) (a b : List TextVisits) → a ≡ replicate m no_visits → b ≡ replicate n no_visits → no_visits ∷ (a ++ b) ≡ replicate (suc (m + n)) no_visits
two_rows m n a b h k = ap (λ (l : List TextVisits). no_visits ∷ l) (ap₂ (λ (x y : List TextVisits). x ++ y) h k ∙ replicate-append-replicate m n no_visits)

visits_plain : (e : Exp) → visits (plain_tree e) ≡ replicate (nodes e) no_visits
visits_plain (atom k) = refl
visits_plain (cat e f) = two_rows (nodes e) (nodes f) (visits (plain_tree e)) (visits (plain_tree f)) (visits_plain e) (visits_plain f)
visits_plain (alt e f) = two_rows (nodes e) (nodes f) (visits (plain_tree e)) (visits (plain_tree f)) (visits_plain e) (visits_plain f)
visits_plain (star e) = ap (λ (l : List TextVisits). no_visits ∷ l) (visits_plain e)
visits_plain empty = refl

pub visits_none : (c : Content) → visits_inside (plain_content c) ≡ replicate (nodes_of c) no_visits
visits_none nothing = refl
visits_none (tree e) = visits_plain e

pub each_none : (r : Rules) (n : ℕ) → each r (replicate n no_visits) ≡ replicate n no_programs
each_none r zero = refl
each_none r (suc n) = ap (λ (l : List Visits). no_programs ∷ l) (each_none r n)

pub none_within : (n : ℕ) → AllWithin (replicate n no_visits)
none_within zero = tt
none_within (suc n) = ((tt, tt), none_within n)

-- nothing is mentioned
no_more : (a b : List Mention) → a ≡ [] → b ≡ [] → (a ++ b) ++ [] ≡ []
no_more a b h k = ap₂ (λ (x y : List Mention). (x ++ y) ++ []) h k

mentions_plain : (e : Exp) → in_tree (plain_tree e) ≡ []
mentions_plain (atom k) = refl
mentions_plain (cat e f) = no_more (in_tree (plain_tree e)) (in_tree (plain_tree f)) (mentions_plain e) (mentions_plain f)
mentions_plain (alt e f) = no_more (in_tree (plain_tree e)) (in_tree (plain_tree f)) (mentions_plain e) (mentions_plain f)
mentions_plain (star e) = ap (λ (x : List Mention). x ++ []) (mentions_plain e)
mentions_plain empty = refl

pub mentions_none : (c : Content) → in_content (plain_content c) ≡ []
mentions_none nothing = refl
mentions_none (tree e) = mentions_plain e

-- the records of its nodes, whatever stands behind them
module _ (r : Rules) where
  abbrev BytesThen : Exp → Type 0
  BytesThen e = (l : List ℕ) → tree_bytes r (plain_tree e) ++ node_records l ≡ node_records (preorder e ++ l)

  both_then : (k : ℕ) (e f : Exp) → BytesThen e → BytesThen f → (l : List ℕ)
      → k ∷ 0 ∷ 255 ∷ 255 ∷ 255 ∷ 255 ∷ ((tree_bytes r (plain_tree e) ++ tree_bytes r (plain_tree f)) ++ node_records l) ≡ node_records (k ∷ 0 ∷ ((preorder e ++ preorder f) ++ l))
  both_then k e f g h l =
      ap (λ (x : List ℕ). k ∷ 0 ∷ 255 ∷ 255 ∷ 255 ∷ 255 ∷ x) (
      append_assoc (tree_bytes r (plain_tree e)) (tree_bytes r (plain_tree f)) (node_records l) ∙ ap (λ (x : List ℕ). tree_bytes r (plain_tree e) ++ x) (h l) ∙ g (preorder f ++ l)
      ∙ ap node_records (sym (append_assoc (preorder e) (preorder f) l))
      )

  bytes_then : (e : Exp) → BytesThen e
  bytes_then (atom (nonterminal n)) l = refl
  bytes_then (atom anychar) l = refl
  bytes_then (cat e f) l = both_then 3 e f (bytes_then e) (bytes_then f) l
  bytes_then (alt e f) l = both_then 4 e f (bytes_then e) (bytes_then f) l
  bytes_then (star e) l = ap (λ (x : List ℕ). 5 ∷ 0 ∷ 255 ∷ 255 ∷ 255 ∷ 255 ∷ x) (bytes_then e l)
  bytes_then empty l = refl

  pub bytes_plain : (c : Content) → content_bytes r (plain_content c) ≡ node_records (content_preorder c)
  bytes_plain nothing = refl
  bytes_plain (tree e) = sym (append-nil (tree_bytes r (plain_tree e))) ∙ bytes_then e [] ∙ ap node_records (append-nil (preorder e))
