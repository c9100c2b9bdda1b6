-- Where only concatenations are regrouped, the count stays: the tree under one grouping is of the shape of the tree under the other, and a count is
-- twice a tree's nodes. Which tree tokens spell does not depend on programs, so it is asked of the sheet without them.
-- Assumes nothing.
use mathlib.Core.Path.{◌≡◌, refl, sym, ◌∙◌, ap, subst}
use mathlib.Core.Bool.{true}
use mathlib.Core.List.{List, [], ◌∷◌}
use Prim.Native.Nat.{ℕ, ◌*◌, ◌≤◌}
use Rattle.expressions.specs.Grammar.{Production}
use Rattle.tokens.specs.Tokens.{start, end, empty, Tok, tag, ref, numeric, line, char}
use Rattle.tokens.proofs.Streams.{flat_one}
use Rattle.sheet.specs.Sheet.{Sheet}
use Rattle.runs.specs.Visits.{grammar, Env, fresh}
use Rattle.runs.specs.Parse.{Element, yield, size, element_depth}
use Rattle.runs.specs.Machine.{Configuration, most}
use Rattle.runs.specs.Taken.{Passed, closed_with}
use Rattle.runs.specs.Spells.{Token, start_token, end_token, empty_token, marks, Spelled, through}
use Rattle.runs.proofs.Rules.{no_T_lem, no_S_lem}
use Rattle.runs.proofs.Unique.{tree_one}
use Rattle.runs.proofs.Main.{parsed_count}
use Rattle.runs.proofs.Spells.{spelled_iff}
use Rattle.calls.specs.Names.{tag_named, token_for, tokens_for}
use Rattle.calls.proofs.Main.{accepted_count}
use Rattle.grouping.specs.Regrouped.{Which, concatenations, RegroupedGrammar}
use Rattle.grouping.specs.Laws.{CountStays, AcceptedCountStays}
use Rattle.grouping.proofs.Grammars.{grammar_refl}
use Rattle.grouping.proofs.Faults.{t_kept, s_kept}
use Rattle.grouping.proofs.Shapes.{Shape, shape}
use Rattle.grouping.proofs.Trees.{regroup}
use Rattle.grouping.proofs.Stripped.{stripped, into_stripped, eval_comes}

-- a passed sheet keeps passing
pub passed_stays : {w : Which} (a a' : Sheet) → RegroupedGrammar w (grammar a) (grammar a') → Passed a → Passed a'
passed_stays a a' r ok = record { keeps_T = t_kept r ok.keeps_T; keeps_S = s_kept r ok.keeps_S }

-- a tree of one grammar in the other, of the start nonterminal that both have
moved : {g g' : List Production} {n n' : ℕ} → RegroupedGrammar concatenations g g' → n ≡ n' → (t : Element g n) → (t' : Element g' n') × (shape t ≡ shape t')
moved {g} {g'} {n} r e t = subst (λ (m : ℕ). (t' : Element g' m) × (shape t ≡ shape t')) e (regroup r t)

pub count_stays : CountStays
count_stays a a' ok r xs v v' p p' =
    let ok' = passed_stays a a' r.expressions ok in
    let t = moved r.expressions r.same_start p.root in
    let e : yield t.0 ≡ yield p'.root = sym (ap (λ (s : Shape). s.events) t.1) ∙ p.are_events ∙ sym p'.are_events in
    let one : t.0 ≡ p'.root = tree_one (grammar a') a'.start_nonterminal (no_T_lem (grammar a') ok'.keeps_T) (no_S_lem (grammar a') ok'.keeps_S) t.0 p'.root e in
    let n : size p.root ≡ size p'.root = ap (λ (s : Shape). s.nodes) t.1 ∙ ap (λ (y : Element (grammar a') a'.start_nonterminal). size y) one in
    parsed_count a xs v p ∙ ap (λ (k : ℕ). 2 * k) n ∙ sym (parsed_count a' xs v' p')

-- the tokens of a stream depend on the sheet's names alone
names_for : (a a' : Sheet) → a.names ≡ a'.names → (ts : List Tok) → tokens_for a ts ≡ tokens_for a' ts
names_for a a' e [] = refl
names_for a a' e (t ∷ ts) = λ i. for t i ∷ names_for a a' e ts i
  where
    for : (t : Tok) → token_for a t ≡ token_for a' t
    for (tag start n b) = ap (λ (ns : List (List ℕ)). start_token (tag_named ns n)) e
    for (tag end n b) = ap (λ (ns : List (List ℕ)). end_token (tag_named ns n)) e
    for (tag empty n b) = ap (λ (ns : List (List ℕ)). empty_token (tag_named ns n)) e
    for (ref x) = refl
    for (numeric k ds) = refl
    for (line x) = refl
    for (char c) = refl

-- the tree that tokens spell under a grouping, in the sheet without programs: what it comes to there, with its count
module _ (a b : Sheet) (r : RegroupedGrammar concatenations (grammar a) (grammar b)) (e : a.start_nonterminal ≡ b.start_nonterminal) where
  record Bare (ts : List Token) (n : ℕ) : Type 0 where
    pub comes_to : Env
    pub spelled : Spelled (stripped b) ts comes_to
    pub counted : comes_to.count ≡ 2 * n

  bare : (ts : List Token) (v : Env) (x : Spelled a ts v) → Bare ts (size x.root)
  bare ts v x =
      let t = moved (into_stripped b.rules r) e x.root in
      let c = eval_comes b t.0 fresh in
      let d : element_depth t.0 ≤ most = subst (λ (k : ℕ). k ≤ most) (ap (λ (s : Shape). s.deep) t.1) x.fits in
      let m : marks x.root true ≡ marks t.0 true = ap (λ (s : Shape). s.flags true) t.1 in
      record {
        comes_to = c.0;
        spelled = record { root = t.0; spells = rw⁻¹ m x.spells; fits = d; value = c.1 };
        counted =
            parsed_count (stripped b) (yield t.0) c.0 (record { root = t.0; are_events = refl; fits = d; value = c.1 })
            ∙ ap (λ (s : Shape). 2 * s.nodes) (sym t.1);
      }

pub accepted_count_stays : AcceptedCountStays
accepted_count_stays a a' ok r s v v' x x' =
    let same : x.tokens ≡ x'.tokens = flat_one x.tokens x'.tokens x.good x'.good x.whole x'.whole (sym x.are_bytes ∙ x'.are_bytes) in
    let ts : List Token = tokens_for a' x'.tokens in
    let k : tokens_for a x.tokens ≡ ts = names_for a a' r.same_names x.tokens ∙ ap (tokens_for a') same in
    let y : Spelled a ts v = subst (λ (l : List Token). Spelled a l v) k x.spells in
    let ok₀ = passed_stays a (stripped a') (into_stripped a'.rules r.expressions) ok in
    let l = bare a a' r.expressions r.same_start ts v y in
    let l' = bare a' a' (grammar_refl (grammar a')) refl ts v' x'.spells in
    let q : through (closed_with l.comes_to) ≡ through (closed_with l'.comes_to) =
    sym ((spelled_iff (stripped a') ok₀ ts l.comes_to).1 l.spelled) ∙ (spelled_iff (stripped a') ok₀ ts l'.comes_to).1 l'.spelled in
    let z : closed_with l.comes_to ≡ closed_with l'.comes_to = cc in
    let n : 2 * size y.root ≡ 2 * size x'.spells.root = sym l.counted ∙ ap (λ (z : Configuration). z.store.env.count) z ∙ l'.counted in
    tree_count a ts v y ∙ n ∙ sym (accepted_count a' s v' x')
  where
    tree_count : (a : Sheet) (ts : List Token) (v : Env) (y : Spelled a ts v) → v.count ≡ 2 * size y.root
    tree_count a ts v y = parsed_count a (yield y.root) v (record { root = y.root; are_events = refl; fits = y.fits; value = y.value })
