-- The brackets of a line, by what those up to each of them come to: the first that rejects is the one with which they first come to nothing. What fits the sets that
-- are kept fits them up to each bracket.
-- Assumes nothing.
use Rattle.std.specs.Prelude.{Option as Taken, Some, None}
use mathlib.Core.Path.{◌≡◌, refl, sym, ap, ap₂, ◌∙◌}
use mathlib.Core.Bool.{Bool, true, false}
use mathlib.Core.List.{List, [], ◌∷◌}
use mathlib.Core.Option.{Option, none, some, none-ne-some as none_some}
use Prim.Native.Nat.{ℕ, zero, suc, ◌/◌, ◌%◌, ◌≤◌, ◌<◌}
use native.Mathlib.Omega.{arith}
use lib.Dec.{ltb, eqb}
use borrow.Author.Tests.{eq-eqb, ne_eqb}
use lib.ListN.{length, take, get_or}
use lib.Seq.{take_all, take-nil}
use Rattle.limits.specs.Limits.{deepest_tree}
use Rattle.expressions.specs.Words.{Bracket, opening, closing}
use Rattle.sheet.specs.Sheet.{Sheet, IsSheet}
use Rattle.ways.specs.Held.{code_of, codes}
use Rattle.ways.proofs.Holds.{length_codes}
use Rattle.visits.specs.Written.{Pen}
use Rattle.runs.specs.Options.{bind}
use Rattle.runs.specs.Nodes.{only_if, through_nodes}
use Rattle.runs.specs.Acts.{Store, bracket_act, bracket_acts, act, acts}
use Rattle.runs.specs.Machine.{Open, inside}
use Rattle.state.specs.Changes.{top_of}
use Rattle.state.specs.Meaning.{meaning_of, Shaped}
use Rattle.state.specs.declared.State.{State}
use Rattle.acts.specs.Acted.{Comes, BracketsAs}
use Rattle.acts.specs.Seen.{ActedSeen}
use Rattle.steps.proofs.Turns.{done_is}
use Rattle.rejecting.specs.First.{FirstRejects, here, later}
use Rattle.rejecting.specs.Named.{act_of}
use Rattle.rejecting.specs.declared.Rejecter.TheVariants.{Node}
use Rattle.rejecting.specs.Told.{all_pass, one_rejects, FirstBracketAs}

codes_take : (i : ℕ) (α : List Bracket) → take i (codes α) ≡ codes (take i α)
codes_take i [] = take-nil i ∙ ap codes (sym (take-nil i))
codes_take zero (c ∷ α) = refl
codes_take (suc i) (c ∷ α) = ap (λ (l : List ℕ). code_of c ∷ l) (codes_take i α)

-- the nodes that are open behind the first brackets of a string
only_some : {o : Option (List ℕ)} {ns : List ℕ} (b : Bool) → only_if b o ≡ some ns → (b ≡ true) × (o ≡ some ns)
only_some true e = (refl, e)
only_some {ns = ns} false e = absurd (none_some ns e)

through_take : (lim i : ℕ) (α : List Bracket) (ns ns' : List ℕ) → through_nodes lim α ns ≡ some ns' → (ms : List ℕ) × (through_nodes lim (take i α) ns ≡ some ms)
through_take lim i [] ns ns' e = (ns, ap (λ (β : List Bracket). through_nodes lim β ns) (take-nil i))
through_take lim zero (c ∷ α) ns ns' e = (ns, refl)
through_take lim (suc i) (opening b ∷ α) ns ns' e =
    let k = only_some (ltb (length ns) lim) e in
    let r = through_take lim i α (b ∷ ns) ns' k.1 in
    (r.0, ap (λ (t : Bool). only_if t (through_nodes lim (take i α) (b ∷ ns))) k.0 ∙ r.1)
through_take lim (suc i) (closing b ∷ α) [] ns' e = absurd (none_some ns' e)
through_take lim (suc i) (closing b ∷ α) (m ∷ ns) ns' e =
    let k = only_some (eqb b m) e in
    let r = through_take lim i α ns ns' k.1 in
    (r.0, ap (λ (t : Bool). only_if t (through_nodes lim (take i α) ns)) k.0 ∙ r.1)

-- bracket i is the first that rejects
module _ (s : Sheet) (q : ℕ) where
  first_there : (α : List Bracket) (i : ℕ) (m m' : Store) → acts s (bracket_acts q (take i α)) m ≡ some m' → acts s (bracket_acts q (take (suc i) α)) m ≡ none →
      (c : Bracket) × (get_or (codes α) i 0 ≡ code_of c) × (i < length (codes α)) × FirstRejects s (bracket_acts q α) m (bracket_act q c)
  first_there [] i m m' e k = absurd (none_some m (sym k))
  first_there (c ∷ α) zero m m' e k = (c, refl, omega arith, by (act s (bracket_act q c) m) refl k)
    where
      by : (o : Option Store) → act s (bracket_act q c) m ≡ o → bind o (λ n. some n) ≡ none → FirstRejects s (bracket_acts q (c ∷ α)) m (bracket_act q c)
      by none w h = here w
      by (some n) w h = absurd (none_some n (sym h))
  first_there (c ∷ α) (suc i) m m' e k = by (λ n x y. first_there α i n m' x y) (act s (bracket_act q c) m) refl e k
    where
      by : ((n : Store) → acts s (bracket_acts q (take i α)) n ≡ some m' → acts s (bracket_acts q (take (suc i) α)) n ≡ none →
          (c : Bracket) × (get_or (codes α) i 0 ≡ code_of c) × (i < length (codes α)) × FirstRejects s (bracket_acts q α) n (bracket_act q c)) →
          (o : Option Store) → act s (bracket_act q c) m ≡ o → bind o (λ n. acts s (bracket_acts q (take i α)) n) ≡ some m' → bind o (λ n. acts s (bracket_acts q (take (suc i) α)) n) ≡ none →
          (d : Bracket) × (get_or (codes (c ∷ α)) (suc i) 0 ≡ code_of d) × (suc i < length (codes (c ∷ α))) × FirstRejects s (bracket_acts q (c ∷ α)) m (bracket_act q d)
      by f none w x y = absurd (none_some m' x)
      by f (some n) w x y = let r = f n x y in (r.0, r.1, omega (arith, r.2), later n w r.3)

-- a bracket by its byte: half of it is the node, and an odd one closes it
pub code_named : (q c : ℕ) (b : Bracket) → c ≡ code_of b → act_of (Node q (c / 2) (eqb (c % 2) 1)) ≡ some (bracket_act q b)
code_named q c (opening i) e =
    let half : c / 2 ≡ i = omega arith in
    let even : c % 2 ≡ 0 = omega arith in
    ap₂ (λ (n : ℕ) (g : Bool). act_of (Node q n g)) half (ne_eqb (c % 2) 1 (λ k. omega (arith, k, even)))
code_named q c (closing i) e =
    let half : c / 2 ≡ i = omega arith in
    let odd : c % 2 ≡ 1 = omega arith in
    ap₂ (λ (n : ℕ) (g : Bool). act_of (Node q n g)) half (eq-eqb (c % 2) 1 odd)

-- the first i brackets of the line pass
abbrev pub PassedTo : List ℕ → ℕ → List ℕ → State → ℕ → Type 0
PassedTo s q line z i =
    (a : Sheet) → IsSheet s a → (α : List Bracket) → line ≡ codes α → Shaped z → (o : Open) (os : List Open) → (meaning_of z).control ≡ inside o os →
    (ns ns' : List ℕ) → through_nodes deepest_tree α ns ≡ some ns' → (top_of z).«open» ≡ suc (length ns) →
    (m : Store) × (acts a (bracket_acts q (take i α)) (meaning_of z).store ≡ some m)

module _ (s : List ℕ) (q : ℕ) (line : List ℕ) (z : State) where
  pub none_yet : PassedTo s q line z 0
  none_yet a y α l h o os c ns ns' t k = ((meaning_of z).store, refl)

  -- what the first brackets come to
  module _ (i : ℕ) {p : Pen} {r : Taken ActedSeen} {d : List ℕ} (B : BracketsAs s q (take i line) z p r d) where
    comes : (a : Sheet) → IsSheet s a → (α : List Bracket) → line ≡ codes α → Shaped z → (o : Open) (os : List Open) → (meaning_of z).control ≡ inside o os →
        (ns ns' : List ℕ) → through_nodes deepest_tree α ns ≡ some ns' → (top_of z).«open» ≡ suc (length ns) →
        Comes (acts a (bracket_acts q (take i α)) (meaning_of z).store) (meaning_of z).control z p r d
    comes a y α l h o os c ns ns' t k =
        let w = through_take deepest_tree i α ns ns' t in
        B.right a y (take i α) (ap (take i) l ∙ codes_take i α) h o os c ns w.0 w.1 k

  pub one_more : (i : ℕ) {p : Pen} {r : ActedSeen} {d : List ℕ} → BracketsAs s q (take i line) z p (Some r) d → PassedTo s q line z i
  one_more i {p} {r} {d} B a y α l h o os c ns ns' t k =
      let D = done_is (acts a (bracket_acts q (take i α)) (meaning_of z).store) (meaning_of z).control z p r d (comes i B a y α l h o os c ns ns' t k) in
      (D.0, D.1)

  pub rejects_here : (i n : ℕ) {p : Pen} {d : List ℕ} → n ≡ suc i → i ≤ length line → PassedTo s q line z i → BracketsAs s q (take n line) z p None d → FirstBracketAs s q line z i
  rejects_here i n {p} {d} g few P B =
      record {
        few = few;
        right = λ a y α l h o os c ns ns' t k.
            let m = P a y α l h o os c ns ns' t k in
            let w = comes n B a y α l h o os c ns ns' t k in
            let F = first_there a q α i (meaning_of z).store m.0 m.1 (ap (λ (k : ℕ). acts a (bracket_acts q (take k α)) (meaning_of z).store) (sym g) ∙ w) in
            one_rejects F.0 F.1 F.2 F.3;
      }

  pub none_rejects : (i : ℕ) → i ≡ length line → PassedTo s q line z i → FirstBracketAs s q line z i
  none_rejects i e P =
      record {
        few = omega arith;
        right = λ a y α l h o os c ns ns' t k.
            let m = P a y α l h o os c ns ns' t k in
            let n : i ≡ length (codes α) = e ∙ ap length l in
            all_pass m.0 (ap (λ (β : List Bracket). acts a (bracket_acts q β) (meaning_of z).store) (sym (take_all i α (omega (arith, n, length_codes α)))) ∙ m.1) n;
      }
