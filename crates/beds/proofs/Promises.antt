-- The promises of beds. Assumes nothing.
use mathlib.Core.Path.{◌≡◌, refl, sym, ◌∙◌, ap, ap₂, subst}
use mathlib.Core.Bool.{false}
use mathlib.Core.List.{List, [], ◌∷◌, ◌++◌}
use mathlib.Core.Option.{Option, none, some}
use Prim.Native.Nat.{ℕ}
use Rattle.notation.specs.Program.{TextProgram}
use Rattle.notation.specs.Rules.{Tree, node, Form, atom, cat, alt, star, empty, TextRule, Rules}
use Rattle.notation.specs.Limits.{RuleWithin, EachWithin}
use Rattle.programs.specs.Limits.{first, second}
use Rattle.reading.specs.Statements.{Listing, step_statements, value_of_list}
use Rattle.reading.specs.Expressions.{ExpressionPart, a_leaf, a_star, a_dot, a_bar, an_open, a_close, a_brace, an_unbrace, other, piece_of, unbraces, listing, expression_level, wants, in_front, after, behind, over, finished_content}
use Rattle.reading.specs.Rules.{rule_read}
use Rattle.sketches.specs.Sketched.{listing_in}
use Rattle.packing.specs.Packed.{field, node_record, tree_bytes, form_bytes}
use Rattle.beds.specs.Nodes.{field_of, record_of, tree_nodes, form_nodes}
use Rattle.beds.specs.Bedded.{Bedded}
use Rattle.beds.specs.Promises.{SheetNodes, SixEach, StaysInPrograms, FewWithin, OneLaid}
use Rattle.beds.proofs.Lists.{content_length}
use Rattle.beds.proofs.Beds.{none_some, some_same}

pub six_each : SixEach
six_each = content_length

pub one_laid : OneLaid
one_laid l m r h g = sym h.bytes_are ∙ g.bytes_are

module _ (r : Rules) where
  abbrev fields : TextProgram → ℕ
  fields p = field r (some p)

  same_field : (o : Option TextProgram) → field_of fields o ≡ field r o
  same_field none = refl
  same_field (some p) = refl

  same_record : (f g : Option TextProgram) (k : Form) → record_of fields f g k ≡ node_record r f g k
  same_record none none k = refl
  same_record none (some q) k = refl
  same_record (some p) none k = refl
  same_record (some p) (some q) k = refl

  mutual
    same_tree : (e : Tree) → tree_nodes fields e ≡ tree_bytes r e
    same_tree (node f g k) = ap₂ (λ u v. u ++ v) (same_record f g k) (same_form k)

    same_form : (k : Form) → form_nodes fields k ≡ form_bytes r k
    same_form (atom a) = refl
    same_form (cat l m) = ap₂ (λ u v. u ++ v) (same_tree l) (same_tree m)
    same_form (alt l m) = ap₂ (λ u v. u ++ v) (same_tree l) (same_tree m)
    same_form (star e) = same_tree e
    same_form empty = refl

pub sheet_nodes : SheetNodes
sheet_nodes r none = refl
sheet_nodes r (some e) = same_tree r e

-- a program that goes on leaves the bed as it is
unbraces_to : {S : Type 0} (k : ExpressionPart) (o : Option TextProgram) (f : TextProgram → S) (x : S) → unbraces k o f ≡ some x → (p : TextProgram) × (f p ≡ x)
unbraces_to (a_leaf a) o f x e = none_some e
unbraces_to a_star o f x e = none_some e
unbraces_to a_dot o f x e = none_some e
unbraces_to a_bar o f x e = none_some e
unbraces_to an_open o f x e = none_some e
unbraces_to a_close o f x e = none_some e
unbraces_to a_brace o f x e = none_some e
unbraces_to an_unbrace none f x e = none_some e
unbraces_to an_unbrace (some p) f x e = (p, some_same e)
unbraces_to other o f x e = none_some e

-- a list goes on, or its end leads to a state without one
goes_on : {S : Type 0} (o : Option Listing) (f : Listing → S) (k : ExpressionPart) (w : Option TextProgram) (g : TextProgram → S) (x : S) → listing o f (unbraces k w g) ≡ some x → ((p : TextProgram) → g p ≡ x → ⊥) → (r : Listing) × (f r ≡ x)
goes_on none f k w g x e n = let z = unbraces_to k w g x e in absurd (n z.0 z.1)
goes_on (some r) f k w g x e n = (r, some_same e)

pub stays : StaysInPrograms
stays field (wants b l ls) x' t q q' r e e' s h = none_some e
stays field (in_front q₀ ls) x' t q q' r e e' s h =
    let z = goes_on (step_statements first q₀ t) (λ m. in_front m ls) (piece_of t) (value_of_list q₀) (λ p. wants false (expression_level (some p) none none) ls) x' s (λ p i. none_some (ap listing_in i ∙ e')) in
    subst (λ y. Bedded field y r) z.1 (record { begun = tt; few_open = h.few_open; laid = h.laid; here_is = h.here_is; around_are = h.around_are })
stays field (after a l ls) x' t q q' r e e' s h = none_some e
stays field (behind q₀ f k ls) x' t q q' r e e' s h =
    let z = goes_on (step_statements second q₀ t) (λ m. behind m f k ls) (piece_of t) (value_of_list q₀) (λ p. over (node f (some p) k) ls) x' s (λ p i. none_some (ap listing_in i ∙ e')) in
    subst (λ y. Bedded field y r) z.1 (record { begun = tt; few_open = h.few_open; laid = h.laid; here_is = h.here_is; around_are = h.around_are })
stays field (over a ls) x' t q q' r e e' s h = none_some e

last_within : (rs : List TextRule) (r : TextRule) → EachWithin (rs ++ r ∷ []) → RuleWithin r
last_within [] r h = h.0
last_within (s ∷ rs) r h = last_within rs r h.1

pub few_within : FewWithin
few_within x f u h w = (last_within h.earlier (rule_read f none u (finished_content x) h) w.each).inside.few_nodes
