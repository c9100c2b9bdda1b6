-- A tree is told by its acts, which hold every choice as a bracket's number; under rules T and S it is told by its events, for the control goes over them
-- by the acts of every such tree.
-- Assumes nothing.
use mathlib.Core.Path.{◌≡◌, refl, sym, ◌∙◌, ap, subst}
use mathlib.Core.List.{List, [], ◌∷◌, ◌++◌, append_assoc}
use Prim.Native.Nat.{ℕ, suc, ◌+◌, max}
use native.Mathlib.Omega.{arith}
use lib.Dec.{T, T_prop}
use Rattle.expressions.specs.Expr.{Exp, nodes, Content}
use Rattle.expressions.specs.Grammar.{Production}
use Rattle.expressions.specs.Grammar.{content_of}
use Rattle.runs.specs.Lookup.{produces}
use Rattle.runs.specs.Events.{Event}
use Rattle.runs.specs.Parse.{Element, element, Children, childless, children, Parse, child, one_char, pair, first_of, second_of, repeat, void, Parses, done, next, yield, element_depth}
use Rattle.runs.specs.Acts.{Act, node_first, node_second, end_tag, letter_read}
use Rattle.runs.specs.Machine.{before, after}
use Rattle.runs.specs.Line.{wrap, line, line_C, line_P, line_ps}
use Rattle.expressions.proofs.Tree.{nodes_pos}
use Rattle.runs.proofs.Rules.{NoTFault, NoSFault}
use Rattle.runs.proofs.Moves.{Moves, moves_one}
use Rattle.runs.proofs.Complete.{complete}

abbrev Acts : Type 0
Acts = List Act

unwrap : (q i : ℕ) (x x' r r' : Acts) → wrap q i x ++ r ≡ wrap q i x' ++ r' → x ++ node_second q i ∷ r ≡ x' ++ node_second q i ∷ r'
unwrap q i x x' r r' e =
    let t : (x ++ node_second q i ∷ []) ++ r ≡ (x' ++ node_second q i ∷ []) ++ r' = cc in
    sym (append_assoc x (node_second q i ∷ []) r) ∙ t ∙ append_assoc x' (node_second q i ∷ []) r'

tail_of : (a a' : Act) (r r' : Acts) → a ∷ r ≡ a' ∷ r' → r ≡ r'
tail_of a a' r r' e = cc

line_head : {g : List Production} {e : Exp} (p : Parse g e) (q i : ℕ) → (w : Acts) × (line_P p q i ≡ node_first q i ∷ w)
line_head (child t) q i = (_, refl)
line_head (one_char c) q i = (_, refl)
line_head (pair a b) q i = (_, refl)
line_head (first_of a) q i = (_, refl)
line_head (second_of b) q i = (_, refl)
line_head (repeat ps) q i = (_, refl)
line_head void q i = (_, refl)

op_inj : (q i q' i' : ℕ) (w w' : Acts) → node_first q i ∷ w ≡ node_first q' i' ∷ w' → i ≡ i'
op_inj q i q' i' w w' e = cc

cl_op : (q i q' i' : ℕ) (w w' : Acts) → node_second q i ∷ w ≡ node_first q' i' ∷ w' → ⊥
cl_op q i q' i' w w' e = let z : ◌≡◌ {A = ℕ} 0 1 = cc in omega arith

-- lines of nodes with different numbers are different
apart : {g : List Production} {e e' : Exp} (p : Parse g e) (p' : Parse g e') (q i i' : ℕ) (r r' : Acts) → (i ≡ i' → ⊥) → line_P p q i ++ r ≡ line_P p' q i' ++ r' → ⊥
apart p p' q i i' r r' d e =
    let h = line_head p q i in
    let h' = line_head p' q i' in
    d (op_inj q i q i' (h.0 ++ r) (h'.0 ++ r') (sym (ap (λ (z : Acts). z ++ r) h.1) ∙ e ∙ ap (λ (z : Acts). z ++ r') h'.1))

closed_open : {g : List Production} {e : Exp} (p : Parse g e) (q i b : ℕ) (r r' : Acts) → node_second q b ∷ r ≡ line_P p q i ++ r' → ⊥
closed_open p q i b r r' e =
    let h = line_head p q i in
    cl_op q b q i r (h.0 ++ r') (e ∙ ap (λ (z : Acts). z ++ r') h.1)

mutual
  inj : {g : List Production} {n : ℕ} (t t' : Element g n) (r r' : Acts) → line t ++ r ≡ line t' ++ r' → (t ≡ t') × (r ≡ r')
  inj {g} {n} (element q h c) (element q' h' c') r r' e =
      let same : q ≡ q' = cc in
      let rest : (line_C c q ++ end_tag q ∷ []) ++ r ≡ (line_C c' q' ++ end_tag q' ∷ []) ++ r' = cc in
      (subst (λ (y : ℕ). (k : T (produces g n y)) (d : Children g (content_of g y)) →
      (line_C c q ++ end_tag q ∷ []) ++ r ≡ (line_C d y ++ end_tag y ∷ []) ++ r' → (element q h c ≡ element y k d) × (r ≡ r')) same
      (λ k d e'.
      let i = inj_C c d q r r' (sym (append_assoc (line_C c q) (end_tag q ∷ []) r) ∙ e' ∙ append_assoc (line_C d q) (end_tag q ∷ []) r') in
      ((λ z. element q (T_prop (produces g n q) h k z) (i.0 z)), i.1)))
      h' c' rest

  inj_C : {g : List Production} {k : Content} (c c' : Children g k) (q : ℕ) (r r' : Acts) → line_C c q ++ end_tag q ∷ r ≡ line_C c' q ++ end_tag q ∷ r' → (c ≡ c') × (r ≡ r')
  inj_C childless childless q r r' e = (refl, (cc))
  inj_C (children p) (children p') q r r' e =
      let i = inj_P p p' q 1 (end_tag q ∷ r) (end_tag q ∷ r') e in
      (ap children i.0, tail_of (end_tag q) (end_tag q) r r' i.1)

  inj_P : {g : List Production} {e : Exp} (p p' : Parse g e) (q i : ℕ) (r r' : Acts) → line_P p q i ++ r ≡ line_P p' q i ++ r' → (p ≡ p') × (r ≡ r')
  inj_P (child t) (child t') q i r r' e =
      let x = inj t t' (node_second q i ∷ r) (node_second q i ∷ r') (unwrap q i (line t) (line t') r r' e) in
      (ap child x.0, tail_of (node_second q i) (node_second q i) r r' x.1)
  inj_P (one_char c) (one_char c') q i r r' e =
      let t : letter_read c ∷ node_second q i ∷ r ≡ letter_read c' ∷ node_second q i ∷ r' = cc in
      let s : c ≡ c' = cc in
      (ap one_char s, (cc))
  inj_P (pair {l} a b) (pair a' b') q i r r' e =
      let u = unwrap q i (line_P a q (suc i) ++ line_P b q (suc i + nodes l)) (line_P a' q (suc i) ++ line_P b' q (suc i + nodes l)) r r' e in
      let x = inj_P a a' q (suc i) (line_P b q (suc i + nodes l) ++ node_second q i ∷ r) (line_P b' q (suc i + nodes l) ++ node_second q i ∷ r')
      (sym (append_assoc (line_P a q (suc i)) (line_P b q (suc i + nodes l)) (node_second q i ∷ r)) ∙ u ∙ append_assoc (line_P a' q (suc i)) (line_P b' q (suc i + nodes l)) (node_second q i ∷ r')) in
      let y = inj_P b b' q (suc i + nodes l) (node_second q i ∷ r) (node_second q i ∷ r') x.1 in
      ((λ z. pair (x.0 z) (y.0 z)), tail_of (node_second q i) (node_second q i) r r' y.1)
  inj_P (first_of a) (first_of a') q i r r' e =
      let x = inj_P a a' q (suc i) (node_second q i ∷ r) (node_second q i ∷ r') (unwrap q i (line_P a q (suc i)) (line_P a' q (suc i)) r r' e) in
      ((λ z. first_of (x.0 z)), tail_of (node_second q i) (node_second q i) r r' x.1)
  inj_P (first_of {l} a) (second_of b) q i r r' e =
      let n = nodes_pos l in
      absurd (apart a b q (suc i) (suc i + nodes l) (node_second q i ∷ r) (node_second q i ∷ r') (λ h. omega arith)
      (unwrap q i (line_P a q (suc i)) (line_P b q (suc i + nodes l)) r r' e))
  inj_P (second_of {l} b) (first_of a) q i r r' e =
      let n = nodes_pos l in
      absurd (apart b a q (suc i + nodes l) (suc i) (node_second q i ∷ r) (node_second q i ∷ r') (λ h. omega arith)
      (unwrap q i (line_P b q (suc i + nodes l)) (line_P a q (suc i)) r r' e))
  inj_P (second_of {l} b) (second_of b') q i r r' e =
      let x = inj_P b b' q (suc i + nodes l) (node_second q i ∷ r) (node_second q i ∷ r') (unwrap q i (line_P b q (suc i + nodes l)) (line_P b' q (suc i + nodes l)) r r' e) in
      ((λ z. second_of (x.0 z)), tail_of (node_second q i) (node_second q i) r r' x.1)
  inj_P (repeat ps) (repeat ps') q i r r' e =
      let x = inj_ps ps ps' q (suc i) i r r' (unwrap q i (line_ps ps q (suc i)) (line_ps ps' q (suc i)) r r' e) in
      (ap repeat x.0, x.1)
  inj_P void void q i r r' e = (refl, tail_of (node_second q i) (node_second q i) r r' (unwrap q i [] [] r r' e))

  inj_ps : {g : List Production} {e : Exp} (ps ps' : Parses g e) (q i b : ℕ) (r r' : Acts) → line_ps ps q i ++ node_second q b ∷ r ≡ line_ps ps' q i ++ node_second q b ∷ r' → (ps ≡ ps') × (r ≡ r')
  inj_ps done done q i b r r' e = (refl, tail_of (node_second q b) (node_second q b) r r' e)
  inj_ps done (next p ps) q i b r r' e =
      absurd (closed_open p q i b r (line_ps ps q i ++ node_second q b ∷ r') (e ∙ append_assoc (line_P p q i) (line_ps ps q i) (node_second q b ∷ r')))
  inj_ps (next p ps) done q i b r r' e =
      absurd (closed_open p q i b r' (line_ps ps q i ++ node_second q b ∷ r) (sym e ∙ append_assoc (line_P p q i) (line_ps ps q i) (node_second q b ∷ r)))
  inj_ps (next p ps) (next p' ps') q i b r r' e =
      let x = inj_P p p' q i (line_ps ps q i ++ node_second q b ∷ r) (line_ps ps' q i ++ node_second q b ∷ r')
      (sym (append_assoc (line_P p q i) (line_ps ps q i) (node_second q b ∷ r)) ∙ e ∙ append_assoc (line_P p' q i) (line_ps ps' q i) (node_second q b ∷ r')) in
      let y = inj_ps ps ps' q i b r r' x.1 in
      ((λ z. next (x.0 z) (y.0 z)), y.1)

pub line_one : {g : List Production} {n : ℕ} (t t' : Element g n) → line t ≡ line t' → t ≡ t'
line_one t t' e = (inj t t' [] [] (ap (λ (z : Acts). z ++ []) e)).0

-- under rules T and S an event sequence has one parse tree at most
pub tree_one : (g : List Production) (n : ℕ) → NoTFault g → NoSFault g → (t t' : Element g n) → yield t ≡ yield t' → t ≡ t'
tree_one g n no_T_lem no_S_lem t t' e =
    let lim : ℕ = max (element_depth t) (element_depth t') in
    let a = complete g n lim no_T_lem no_S_lem t (omega arith) in
    let b = complete g n lim no_T_lem no_S_lem t' (omega arith) in
    line_one t t' (moves_one a (subst (λ (z : List Event). Moves g n lim before z (line t') after) (sym e) b)).0
