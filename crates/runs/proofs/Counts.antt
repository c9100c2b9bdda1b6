-- The count goes up by one with each visit and with nothing else, so over a row of acts by the number of visits in it; a tree's row has two for
-- each of its nodes.
-- Assumes nothing.
use mathlib.Core.Path.{◌≡◌, refl, sym, ◌∙◌, ap}
use mathlib.Core.List.{List, [], ◌∷◌, ◌++◌}
use mathlib.Core.Option.{Option, none, some, none-ne-some as none_some}
use Prim.Native.Nat.{ℕ, suc, ◌+◌, ◌*◌}
use native.Mathlib.Omega.{arith}
use Rattle.expressions.specs.Expr.{Exp, nodes, Content}
use Rattle.expressions.specs.Grammar.{Production}
use Rattle.programs.specs.Program.{Program}
use Rattle.output.specs.Escape.{start, end, character}
use Rattle.sheet.specs.Sheet.{Sheet}
use Rattle.runs.specs.Options.{bind}
use Rattle.runs.specs.Execute.{Effect}
use Rattle.runs.specs.Visits.{Env, Saved, saved, programs_of, tag_name, performed, visited, visit, echoed, returned, opens, revisits, closes, enters, leaves}
use Rattle.runs.specs.Parse.{Element, element, Children, childless, children, Parse, child, one_char, pair, first_of, second_of, repeat, void, Parses, done, next, size, size_C, size_P, size_ps}
use Rattle.runs.specs.Acts.{Act, node_first, node_second, start_tag, end_tag, letter_read, visits_in, Store, with_node, innermost, without_node, without_element, act, acts}
use Rattle.runs.specs.Line.{wrap, line, line_C, line_P, line_ps}

module _ (s : Sheet) where
  visit_count : (k : List ℕ) (p : Option Program) (v w : Env) → visit s k p v ≡ some w → w.count ≡ suc v.count
  visit_count k p v w e = by (performed s k p v.values v.echo) e
    where
      by : (o : Option Effect) → bind o (λ x. some (visited v x)) ≡ some w → w.count ≡ suc v.count
      by none e = absurd (none_some w e)
      by (some x) e = let h : visited v x ≡ w = cc in sym (ap (λ (z : Env). z.count) h)

  -- what comes after a visit leaves the count
  then_count : (n : ℕ) (f : Env → Env) → ((x : Env) → (f x).count ≡ x.count) → (o : Option Env) → ((x : Env) → o ≡ some x → x.count ≡ n) → (w : Env) →
      bind o (λ x. some (f x)) ≡ some w → w.count ≡ n
  then_count n f same none h w e = absurd (none_some w e)
  then_count n f same (some x) h w e = let i : f x ≡ w = cc in sym (ap (λ (z : Env). z.count) i) ∙ same x ∙ h x refl

  closes_count : (q i : ℕ) (k : Saved) (v w : Env) → closes s q i k v ≡ some w → w.count ≡ suc v.count
  closes_count q i k v w e =
      then_count (suc v.count) (returned k.echo) (λ x. refl) (revisits s q i k v) (λ x h. visit_count k.values (programs_of s.rules q i).second_visit v x h) w e

  enters_count : (q : ℕ) (v w : Env) → enters s q v ≡ some w → w.count ≡ suc v.count
  enters_count q v w e =
      then_count (suc v.count) (echoed (start (tag_name s q))) (λ x. refl) (opens s q 0 v) (λ x h. visit_count [] (programs_of s.rules q 0).first_visit v x h) w e

  leaves_count : (q : ℕ) (k : Saved) (v w : Env) → leaves s q k v ≡ some w → w.count ≡ suc v.count
  leaves_count q k v w e =
      then_count (suc v.count) (λ x. returned k.echo (echoed (end (tag_name s q)) x)) (λ x. refl) (revisits s q 0 k v)
      (λ x h. visit_count k.values (programs_of s.rules q 0).second_visit v x h) w e

  env_of : (f : Env → List (List Saved)) (o : Option Env) (m : Store) → bind o (λ w. some (record { kept = f w; env = w })) ≡ some m → o ≡ some m.env
  env_of f none m e = absurd (none_some m e)
  env_of f (some w) m e = let h : record { kept = f w; env = w } ≡ m = cc in ap (λ (z : Store). some z.env) h

  act_count : (a : Act) (m m' : Store) → act s a m ≡ some m' → m'.env.count ≡ m.env.count + visits_in (a ∷ [])
  act_count (node_first q i) m m' e =
      let h = visit_count [] (programs_of s.rules q i).first_visit m.env m'.env (env_of (λ w. with_node (saved m.env w) m.kept) (opens s q i m.env) m' e) in
      omega arith
  act_count (node_second q i) m m' e =
      let k : Saved = innermost m.kept in
      let h = closes_count q i k m.env m'.env (env_of (λ w. without_node m.kept) (closes s q i k m.env) m' e) in
      omega arith
  act_count (start_tag q) m m' e =
      let h = enters_count q m.env m'.env (env_of (λ w. (saved m.env w ∷ []) ∷ m.kept) (enters s q m.env) m' e) in
      omega arith
  act_count (end_tag q) m m' e =
      let k : Saved = innermost m.kept in
      let h = leaves_count q k m.env m'.env (env_of (λ w. without_element m.kept) (leaves s q k m.env) m' e) in
      omega arith
  act_count (letter_read c) m m' e =
      let h : record { kept = m.kept; env = echoed (character c) m.env } ≡ m' = cc in
      let i : m.env.count ≡ m'.env.count = ap (λ (z : Store). z.env.count) h in
      omega arith

pub visits_append : (bs cs : List Act) → visits_in (bs ++ cs) ≡ visits_in bs + visits_in cs
visits_append [] cs = omega arith
visits_append (node_first q i ∷ bs) cs = let h = visits_append bs cs in omega arith
visits_append (node_second q i ∷ bs) cs = let h = visits_append bs cs in omega arith
visits_append (start_tag q ∷ bs) cs = let h = visits_append bs cs in omega arith
visits_append (end_tag q ∷ bs) cs = let h = visits_append bs cs in omega arith
visits_append (letter_read c ∷ bs) cs = visits_append bs cs

pub acts_count : (s : Sheet) (bs : List Act) (m m' : Store) → acts s bs m ≡ some m' → m'.env.count ≡ m.env.count + visits_in bs
acts_count s [] m m' e = let h : m ≡ m' = cc in let i : m.env.count ≡ m'.env.count = ap (λ (z : Store). z.env.count) h in omega arith
acts_count s (a ∷ bs) m m' e = by (λ x h. acts_count s bs x m' h) (act s a m) refl e
  where
    by : ((x : Store) → acts s bs x ≡ some m' → m'.env.count ≡ x.env.count + visits_in bs) → (o : Option Store) → act s a m ≡ o →
        bind o (λ x. acts s bs x) ≡ some m' → m'.env.count ≡ m.env.count + visits_in (a ∷ bs)
    by f none h e = absurd (none_some m' e)
    by f (some x) h e =
        let i = act_count s a m x h in
        let j = f x e in
        let k = visits_append (a ∷ []) bs in
        omega arith

-- every node is visited twice
wrap_visits : (q i : ℕ) (bs : List Act) → visits_in (wrap q i bs) ≡ 2 + visits_in bs
wrap_visits q i bs = let h = visits_append bs (node_second q i ∷ []) in omega arith

mutual
  pub line_visits : {g : List Production} {n : ℕ} (t : Element g n) → visits_in (line t) ≡ 2 * size t
  line_visits (element q h c) = let i = line_C_visits c q in let j = visits_append (line_C c q) (end_tag q ∷ []) in omega arith

  line_C_visits : {g : List Production} {c : Content} (p : Children g c) (q : ℕ) → visits_in (line_C p q) ≡ 2 * size_C p
  line_C_visits childless q = omega arith
  line_C_visits (children p) q = line_P_visits p q 1

  line_P_visits : {g : List Production} {e : Exp} (p : Parse g e) (q i : ℕ) → visits_in (line_P p q i) ≡ 2 * size_P p
  line_P_visits (child t) q i = let h = line_visits t in let w = wrap_visits q i (line t) in omega arith
  line_P_visits (one_char c) q i = omega arith
  line_P_visits (pair {l} a b) q i =
      let x = line_P_visits a q (suc i) in
      let y = line_P_visits b q (suc i + nodes l) in
      let z = visits_append (line_P a q (suc i)) (line_P b q (suc i + nodes l)) in
      let w = wrap_visits q i (line_P a q (suc i) ++ line_P b q (suc i + nodes l)) in
      omega arith
  line_P_visits (first_of a) q i = let x = line_P_visits a q (suc i) in let w = wrap_visits q i (line_P a q (suc i)) in omega arith
  line_P_visits (second_of {l} b) q i = let x = line_P_visits b q (suc i + nodes l) in let w = wrap_visits q i (line_P b q (suc i + nodes l)) in omega arith
  line_P_visits (repeat ps) q i = let x = line_ps_visits ps q (suc i) in let w = wrap_visits q i (line_ps ps q (suc i)) in omega arith
  line_P_visits void q i = omega arith

  line_ps_visits : {g : List Production} {e : Exp} (ps : Parses g e) (q i : ℕ) → visits_in (line_ps ps q i) ≡ 2 * size_ps ps
  line_ps_visits done q i = omega arith
  line_ps_visits (next p ps) q i =
      let x = line_P_visits p q i in
      let y = line_ps_visits ps q i in
      let z = visits_append (line_P p q i) (line_ps ps q i) in
      omega arith
