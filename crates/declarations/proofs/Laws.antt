-- The operations on a model's nodes, each return. Assumes nothing.
use mathlib.Core.Path.{◌≡◌, refl, sym, ◌∙◌, ap, subst}
use mathlib.Core.Bool.{true}
use mathlib.Core.Logic.{◌⊎◌, inl, inr}
use mathlib.Core.List.{List, [], ◌∷◌, ◌++◌, append_assoc}
use Prim.Native.Nat.{ℕ, suc, ◌+◌, ◌-◌, ◌*◌, ◌≤◌, ◌<◌, max}
use native.Mathlib.Omega.{arith}
use lib.ListN.{length, take, drop, length-append}
use lib.Seq.{length-take-le, take_at}
use Rattle.lent.specs.Put.{PutAs}
use Rattle.lent.proofs.Laws.{put_all}
use Rattle.expressions.specs.Expr.{nonterminal, anychar, Exp, atom, cat, alt, star, empty, nodes, depth}
use Rattle.models.specs.Models.{Model, called, sequence, choice, optional, any_number, at_least_one}
use Rattle.models.specs.Expressions.{model_expression, model_nodes}
use Rattle.models.specs.Spelling.{MarkIs, unmarked, question, asterisk, plus}
use Rattle.models.specs.Reader.{LeftOf, fresh, commas, bars, behind_left}
use Rattle.models.proofs.Counted.{counted}
use Rattle.declarations.specs.declared.NodeRow.{NodeRow}
use Rattle.declarations.specs.Nodes.{preorder, room_for_nodes, most_node_bytes, LaysNodes, Shows, LeafNodesAre, JoinedNodes, Deeper, Operator, catenation, union, operator_kind, operated, OverTwoIs, StarShown, MarkedAs, LeftShown, BehindAs, OrNameIs}

-- two bytes a node
pub two_bytes : (e : Exp) → length (preorder e) ≡ 2 * nodes e
two_bytes (atom (nonterminal n)) = refl
two_bytes (atom anychar) = refl
two_bytes (cat e f) = omega (arith, length-append (preorder e) (preorder f), two_bytes e, two_bytes f)
two_bytes (alt e f) = omega (arith, length-append (preorder e) (preorder f), two_bytes e, two_bytes f)
two_bytes (star e) = omega (arith, two_bytes e)
two_bytes empty = refl

-- no deeper than it has nodes
pub no_deeper : (e : Exp) → (1 ≤ depth e) × (depth e ≤ nodes e)
no_deeper (atom k) = (omega arith, omega arith)
no_deeper (cat e f) = let h = no_deeper e in let k = no_deeper f in (omega arith, omega (arith, h.1, k.1))
no_deeper (alt e f) = let h = no_deeper e in let k = no_deeper f in (omega arith, omega (arith, h.1, k.1))
no_deeper (star e) = let h = no_deeper e in (omega arith, omega (arith, h.1))
no_deeper empty = (omega arith, omega arith)

module _ (a b : NodeRow) where
  pub joined_long : most_node_bytes < b.length → JoinedNodes a b a
  joined_long h = record { is = λ room l m x y. absurd (omega arith); deep_is = λ room. absurd (omega arith) }

  pub joined_over : most_node_bytes - b.length < a.length → JoinedNodes a b a
  joined_over h = record { is = λ room l m x y. absurd (omega arith); deep_is = λ room. absurd (omega arith) }

  pub joined_put : most_node_bytes ≤ length a.bytes → most_node_bytes ≤ length b.bytes → b.length ≤ most_node_bytes → (r : NodeRow) → PutAs true a.bytes a.length (take b.length b.bytes) r.bytes r.length
      → r.deep ≡ max a.deep b.deep → JoinedNodes a b r
  joined_put full full' short r put d = record {
    is = λ room l m x y.
        let v = take b.length b.bytes in
        let u = take a.length a.bytes in
        let w = drop (a.length + length v) a.bytes in
        let more : length v ≡ b.length = length-take-le b.length b.bytes (omega (arith, short, full')) in
        let all : r.bytes ≡ (u ++ v) ++ w = put.left ∙ put_all a.bytes a.length v (omega (arith, more, room, full)) in
        let size : length u ≡ a.length = length-take-le a.length a.bytes (omega (arith, room, full)) in
        let long : r.length ≡ a.length + length v = put.next in
        let both_size : length (u ++ v) ≡ r.length = omega (arith, length-append u v, size, more, long) in
        record {
          length_is = omega (arith, long, more, x.length_is, y.length_is, length-append l m);
          bytes_are = ap (take r.length) all ∙ take_at (u ++ v) w r.length both_size ∙ ap (λ (l : List ℕ). l ++ v) x.bytes_are ∙ ap (λ (k : List ℕ). l ++ k) y.bytes_are;
        };
    deep_is = λ room. d;
  }

-- a node in front of others, one deeper
module _ (kind : ℕ) (a front all : NodeRow) (leaf : LeafNodesAre kind 0 front) (h : JoinedNodes front a all) where
  pub fronted : (l : List ℕ) → LaysNodes l a → length l + 2 ≤ most_node_bytes → LaysNodes (kind ∷ 0 ∷ l) all
  fronted l x room = h.is (omega (arith, leaf.laid.length_is, x.length_is)) (kind ∷ 0 ∷ []) l leaf.laid x

  pub fronted_deep : (l : List ℕ) → LaysNodes l a → length l + 2 ≤ most_node_bytes → 1 ≤ a.deep → all.deep ≡ a.deep
  fronted_deep l x room d = let e = h.deep_is (omega (arith, leaf.laid.length_is, x.length_is)) in omega (arith, e, leaf.deep_is)

lays_deeper : (l : List ℕ) (r s : NodeRow) → LaysNodes l r → s.length ≡ r.length → s.bytes ≡ r.bytes → LaysNodes l s
lays_deeper l r s x e f = record { length_is = e ∙ x.length_is; bytes_are = subst (λ n. take n s.bytes ≡ l) (sym e) (ap (take r.length) f ∙ x.bytes_are) }

operated_preorder : (o : Operator) (e f : Exp) → preorder (operated o e f) ≡ operator_kind o ∷ 0 ∷ (preorder e ++ preorder f)
operated_preorder catenation e f = refl
operated_preorder union e f = refl

operated_laid : (o : Operator) (kind : ℕ) (e f : Exp) (r : NodeRow) → kind ≡ operator_kind o → LaysNodes (kind ∷ 0 ∷ (preorder e ++ preorder f)) r → LaysNodes (preorder (operated o e f)) r
operated_laid o kind e f r h x = subst (λ z. LaysNodes z r) (ap (λ n. n ∷ 0 ∷ (preorder e ++ preorder f)) h ∙ sym (operated_preorder o e f)) x

operated_depth : (o : Operator) (e f : Exp) → depth (operated o e f) ≡ suc (max (depth e) (depth f))
operated_depth catenation e f = refl
operated_depth union e f = refl

pub over_two_lem : (kind : ℕ) (a b below front all r : NodeRow) → JoinedNodes a b below → LeafNodesAre kind 0 front → JoinedNodes front below all → Deeper all r → OverTwoIs kind a b r
over_two_lem kind a b below front all r j leaf k d = record {
  is = λ o e' e f x y few.
      let len = length-append (preorder e) (preorder f) in
      let room : a.length + b.length + 2 ≤ most_node_bytes = omega (arith, x.laid.length_is, y.laid.length_is, two_bytes e, two_bytes f, few) in
      let l = j.is (omega arith) (preorder e) (preorder f) x.laid y.laid in
      let fits : length (preorder e ++ preorder f) + 2 ≤ most_node_bytes = omega (arith, len, x.laid.length_is, y.laid.length_is, room) in
      let q = fronted kind below front all leaf k (preorder e ++ preorder f) l fits in
      let below_deep : below.deep ≡ max a.deep b.deep = j.deep_is (omega arith) in
      let de = no_deeper e in
      let df = no_deeper f in
      let all_deep : all.deep ≡ below.deep = fronted_deep kind below front all leaf k (preorder e ++ preorder f) l fits (omega (arith, below_deep, x.deep_is, y.deep_is, de.0)) in
      let low : all.deep < most_node_bytes = omega (arith, all_deep, below_deep, x.deep_is, y.deep_is, de.1, df.1, few) in
      record {
        laid = operated_laid o kind e f r e' (lays_deeper (kind ∷ 0 ∷ (preorder e ++ preorder f)) all r q d.same_length d.same_bytes);
        deep_is = let z = d.deep low in let w = operated_depth o e f in omega (arith, z, w, all_deep, below_deep, x.deep_is, y.deep_is);
      };
}

pub starred_is : (a front all r : NodeRow) → LeafNodesAre 5 0 front → JoinedNodes front a all → Deeper all r → StarShown a r
starred_is a front all r leaf k d = record {
  is = λ e x few.
      let fits : length (preorder e) + 2 ≤ most_node_bytes = omega (arith, two_bytes e, few) in
      let q = fronted 5 a front all leaf k (preorder e) x.laid fits in
      let de = no_deeper e in
      let all_deep : all.deep ≡ a.deep = fronted_deep 5 a front all leaf k (preorder e) x.laid fits (omega (arith, x.deep_is, de.0)) in
      let low : all.deep < most_node_bytes = omega (arith, all_deep, x.deep_is, de.1, few) in
      record { laid = lays_deeper (5 ∷ 0 ∷ preorder e) all r q d.same_length d.same_bytes; deep_is = let z = d.deep low in omega (arith, z, all_deep, x.deep_is) };
}

-- the marks
module _ (mark : ℕ) (a : NodeRow) where
  empty_shown : (r : NodeRow) → LeafNodesAre 6 0 r → Shows empty r
  empty_shown r h = record { laid = h.laid; deep_is = h.deep_is }

  other_mark : {B : Type 0} {c : ℕ} → mark ≡ c → (mark ≡ c → ⊥) → B
  other_mark e n = absurd (n e)

  pub question_marked : (leaf r : NodeRow) → mark ≡ 63 → LeafNodesAre 6 0 leaf → OverTwoIs 4 a leaf r → MarkedAs mark a r
  question_marked leaf r e h o = record { is = λ number x y m s few. go number x y m refl s few }
    where
      go : (number : List ℕ → ℕ) (x y : Model) {k : List ℕ} → MarkIs x k y → k ≡ mark ∷ [] → Shows (model_expression number x) a → model_nodes y ≤ room_for_nodes → Shows (model_expression number y) r
      go number x y unmarked q s few = absurd (let z : length (mark ∷ []) ≡ 0 = ap length (sym q) in omega (arith, z))
      go number x y question q s few = o.is union refl (model_expression number x) empty s (empty_shown leaf h) (omega (arith, counted number x, few))
      go number x y asterisk q s few = absurd (let z : 42 ≡ mark = cc in omega (arith, z, e))
      go number x y plus q s few = absurd (let z : 43 ≡ mark = cc in omega (arith, z, e))

  pub asterisk_marked : (r : NodeRow) → mark ≡ 42 → StarShown a r → MarkedAs mark a r
  asterisk_marked r e o = record { is = λ number x y m s few. go number x y m refl s few }
    where
      go : (number : List ℕ → ℕ) (x y : Model) {k : List ℕ} → MarkIs x k y → k ≡ mark ∷ [] → Shows (model_expression number x) a → model_nodes y ≤ room_for_nodes → Shows (model_expression number y) r
      go number x y unmarked q s few = absurd (let z : length (mark ∷ []) ≡ 0 = ap length (sym q) in omega (arith, z))
      go number x y question q s few = absurd (let z : 63 ≡ mark = cc in omega (arith, z, e))
      go number x y asterisk q s few = o.is (model_expression number x) s (omega (arith, counted number x, few))
      go number x y plus q s few = absurd (let z : 43 ≡ mark = cc in omega (arith, z, e))

  pub plus_marked : (star' r : NodeRow) → mark ≡ 43 → StarShown a star' → OverTwoIs 3 a star' r → MarkedAs mark a r
  plus_marked star' r e t o = record { is = λ number x y m s few. go number x y m refl s few }
    where
      go : (number : List ℕ → ℕ) (x y : Model) {k : List ℕ} → MarkIs x k y → k ≡ mark ∷ [] → Shows (model_expression number x) a → model_nodes y ≤ room_for_nodes → Shows (model_expression number y) r
      go number x y unmarked q s few = absurd (let z : length (mark ∷ []) ≡ 0 = ap length (sym q) in omega (arith, z))
      go number x y question q s few = absurd (let z : 63 ≡ mark = cc in omega (arith, z, e))
      go number x y asterisk q s few = absurd (let z : 42 ≡ mark = cc in omega (arith, z, e))
      go number x y plus q s few =
          o.is catenation refl (model_expression number x) (star (model_expression number x)) s (t.is (model_expression number x) s (omega (arith, counted number x, few))) (omega (arith, counted number x, few))

  pub no_mark : (mark ≡ 63 → ⊥) → (mark ≡ 42 → ⊥) → (mark ≡ 43 → ⊥) → MarkedAs mark a a
  no_mark n n' n'' = record { is = λ number x y m s few. go number x y m refl s }
    where
      go : (number : List ℕ → ℕ) (x y : Model) {k : List ℕ} → MarkIs x k y → k ≡ mark ∷ [] → Shows (model_expression number x) a → Shows (model_expression number y) a
      go number x y unmarked q s = s
      go number x y question q s = absurd (n (let z : 63 ≡ mark = cc in sym z))
      go number x y asterisk q s = absurd (n' (let z : 42 ≡ mark = cc in sym z))
      go number x y plus q s = absurd (n'' (let z : 43 ≡ mark = cc in sym z))

-- behind what stands to the left
module _ (kind : ℕ) (left a : NodeRow) where
  pub behind_nothing : kind ≡ 0 → BehindAs kind left a a
  behind_nothing e = record { is = λ number l x h s few. go number l x h s }
    where
      go : (number : List ℕ → ℕ) (l : LeftOf) (x : Model) → LeftShown number l kind left → Shows (model_expression number x) a → Shows (model_expression number (behind_left l x)) a
      go number fresh x h s = s
      go number (commas y) x h s = absurd (omega (arith, h.0, e))
      go number (bars y) x h s = absurd (omega (arith, h.0, e))

  pub behind_some : (r : NodeRow) → (kind ≡ 0 → ⊥) → OverTwoIs kind left a r → BehindAs kind left a r
  behind_some r n o = record { is = λ number l x h s few. go number l x h s few }
    where
      go : (number : List ℕ → ℕ) (l : LeftOf) (x : Model) → LeftShown number l kind left → Shows (model_expression number x) a → model_nodes (behind_left l x) ≤ room_for_nodes → Shows (model_expression number (behind_left l x)) r
      go number fresh x h s few = absurd (n h)
      go number (commas y) x h s few = o.is catenation h.0 (model_expression number y) (model_expression number x) h.1 s (omega (arith, counted number x, counted number y, few))
      go number (bars y) x h s few = o.is union h.0 (model_expression number y) (model_expression number x) h.1 s (omega (arith, counted number x, counted number y, few))

-- one name more
pub or_name_lem : (a : NodeRow) (number : ℕ) (name r : NodeRow) → Shows (atom (nonterminal number)) name → OverTwoIs 4 a name r → OrNameIs a number r
or_name_lem a number name r h o = record { is = λ e s few. o.is union refl e (atom (nonterminal number)) s h few }
