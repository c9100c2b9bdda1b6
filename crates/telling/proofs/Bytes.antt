-- What can be told of bytes by looking: splits, gaps, and the limits of rules. Assumes nothing.
use mathlib.Core.Path.{◌≡◌, refl, sym, ◌∙◌, ap, subst}
use mathlib.Core.Logic.{◌⊎◌, inl, inr, ⊎_elim}
use mathlib.Core.Bool.{Bool, true, false}
use mathlib.Core.Option.{Option, none, some}
use mathlib.Core.List.{List, [], ◌∷◌, ◌++◌, append_assoc, append-nil, head-eq_of_cons-eq, tail-eq_of_cons-eq}
use Prim.Native.Nat.{ℕ, zero, suc, ◌+◌, ◌≤◌, ◌<◌}
use native.Mathlib.Omega.{arith}
use native.Mathlib.Decide.{dec_le, ℕ_discrete}
use lib.ListN.{length, length-append}
use Rattle.text.specs.Names.{blank, All}
use Rattle.text.proofs.Shapes.{cons≢[]}
use Rattle.expressions.specs.Expr.{nodes_of}
use Rattle.notation.specs.Program.{TextProgram}
use Rattle.notation.specs.Rules.{TextVisits, Tree, content_inside, visits_inside, TextRule, Rules}
use Rattle.notation.specs.Limits.{size_of, nesting_of, ProgramWithin, OptionWithin, VisitsWithin, AllWithin, content_depth, ContentWithin, RuleWithin, EachWithin, nodes_in_all, WithinLimits}
use Rattle.notation.specs.Gaps.{in_comment, Gap, white, comment, Ending, gap, open_comment}
use Rattle.notation.proofs.Rows.{splits}
use Rattle.reading.specs.Tests.{both?, either?, true?, all?}

-- some cut of a list
pub split? : (p : List ℕ) (P : List ℕ → List ℕ → Type 0) → ((a b : List ℕ) → p ≡ a ++ b → Dec (P a b)) → Dec ((a b : List ℕ) × (p ≡ a ++ b) × P a b)
split? [] P d = on (d [] [] refl)
  where
    on : Dec (P [] []) → Dec ((a b : List ℕ) × ([] ≡ a ++ b) × P a b)
    on (yes h) = yes ([], [], refl, h)
    on (no h) = no out
      where
        out : (a b : List ℕ) × ([] ≡ a ++ b) × P a b → ⊥
        out ([], [], e, i) = h i
        out ([], x ∷ b, e, i) = cons≢[] (sym e)
        out (x ∷ a, b, e, i) = cons≢[] (sym e)
split? (x ∷ p) P d = on (d [] (x ∷ p) refl) (split? p (λ a b. P (x ∷ a) b) (λ a b e. d (x ∷ a) b (ap (λ l. x ∷ l) e)))
  where
    on : Dec (P [] (x ∷ p)) → Dec ((a b : List ℕ) × (p ≡ a ++ b) × P (x ∷ a) b) → Dec ((a b : List ℕ) × (x ∷ p ≡ a ++ b) × P a b)
    on (yes h) e = yes ([], x ∷ p, refl, h)
    on (no h) (yes (a, b, e, i)) = yes (x ∷ a, b, ap (λ l. x ∷ l) e, i)
    on (no h) (no k) = no out
      where
        out : (a b : List ℕ) × (x ∷ p ≡ a ++ b) × P a b → ⊥
        out ([], b, e, i) = h (subst (P []) (sym e) i)
        out (y ∷ a, b, e, i) = k (a, b, tail-eq_of_cons-eq e, subst (λ z. P (z ∷ a) b) (sym (head-eq_of_cons-eq e)) i)

pub same? : (a b : List ℕ) → Dec (a ≡ b)
same? [] [] = yes refl
same? [] (y ∷ b) = no (λ e. cons≢[] (sym e))
same? (x ∷ a) [] = no cons≢[]
same? (x ∷ a) (y ∷ b) = on (ℕ_discrete x y) (same? a b)
  where
    on : Dec (x ≡ y) → Dec (a ≡ b) → Dec (x ∷ a ≡ y ∷ b)
    on (yes e) (yes f) = yes cc
    on (yes e) (no f) = no (λ h. f (tail-eq_of_cons-eq h))
    on (no e) d = no (λ h. e (head-eq_of_cons-eq h))

-- whether one list begins another
pub begins? : (a w : List ℕ) → Dec ((u : List ℕ) × (a ≡ w ++ u))
begins? a [] = yes (a, refl)
begins? [] (y ∷ w) = no (λ h. cons≢[] (sym h.1))
begins? (x ∷ a) (y ∷ w) = on (ℕ_discrete x y) (begins? a w)
  where
    on : Dec (x ≡ y) → Dec ((u : List ℕ) × (a ≡ w ++ u)) → Dec ((u : List ℕ) × (x ∷ a ≡ y ∷ (w ++ u)))
    on (yes e) (yes (u, f)) = yes (u, cc)
    on (yes e) (no f) = no (λ h. f (h.0, tail-eq_of_cons-eq h.1))
    on (no e) d = no (λ h. e (head-eq_of_cons-eq h.1))

-- the end of a comment
abbrev Ended : List ℕ → Type 0
Ended r = (g : List ℕ) × (r ≡ 10 ∷ g) × Gap g

-- what a gap that begins with b goes on with
abbrev GapFrom : ℕ → List ℕ → Type 0
GapFrom b l = ((blank b ≡ true) × Gap l) ⊎ ((b ≡ 35) × ((c r : List ℕ) × (l ≡ c ++ r) × (All in_comment c × Ended r)))

gap_of : (b : ℕ) (l : List ℕ) → GapFrom b l → Gap (b ∷ l)
gap_of b l (inl (h, g)) = white h g
gap_of b l (inr (e, (c, r, i, (a, (g, j, k))))) = subst Gap (ap (λ x. x ∷ l) (sym e)) (subst (λ x. Gap (35 ∷ x)) (sym (i ∙ ap (λ x. c ++ x) j)) (comment c a k))

gap_was : (x : List ℕ) (b : ℕ) (l : List ℕ) → Gap x → x ≡ b ∷ l → GapFrom b l
gap_was x b l Gap.none e = absurd (cons≢[] (sym e))
gap_was x b l (white {b = c} {g = g} h k) e = inl (subst (λ z. blank z ≡ true) (head-eq_of_cons-eq e) h, subst Gap (tail-eq_of_cons-eq e) k)
gap_was x b l (comment c {g = g} a k) e = inr (sym (head-eq_of_cons-eq e), (c, 10 ∷ g, sym (tail-eq_of_cons-eq e), (a, (g, refl, k))))

ended? : (k : ℕ) → ((l : List ℕ) → length l ≤ k → Dec (Gap l)) → (r : List ℕ) → length r ≤ k → Dec (Ended r)
ended? k d [] h = no (λ x. cons≢[] (sym x.1))
ended? k d (y ∷ g) h = on (ℕ_discrete y 10) (d g (omega arith))
  where
    on : Dec (y ≡ 10) → Dec (Gap g) → Dec (Ended (y ∷ g))
    on (yes e) (yes f) = yes (g, ap (λ z. z ∷ g) e, f)
    on (yes e) (no f) = no (λ x. f (subst Gap (sym (tail-eq_of_cons-eq x.1)) x.2))
    on (no e) f = no (λ x. e (head-eq_of_cons-eq x.1))

gap_by : (b : ℕ) (g : List ℕ) → Dec (GapFrom b g) → Dec (Gap (b ∷ g))
gap_by b g (yes f) = yes (gap_of b g f)
gap_by b g (no f) = no (λ x. f (gap_was (b ∷ g) b g x refl))

gap_from? : (k : ℕ) → ((l : List ℕ) → length l ≤ k → Dec (Gap l)) → (b : ℕ) (g : List ℕ) → length g ≤ k → Dec (GapFrom b g)
gap_from? k d b g h =
    either? (both? (true? (blank b)) (d g h))
    (both? (ℕ_discrete b 35) (split? g (λ c r. All in_comment c × Ended r) (λ c r e. both? (all? in_comment c) (ended? k d r (omega (arith, simp length-append at (ap length e)))))))

gap_within? : (k : ℕ) (g : List ℕ) → length g ≤ k → Dec (Gap g)
gap_within? zero [] h = yes Gap.none
gap_within? zero (b ∷ g) h = absurd (omega arith)
gap_within? (suc k) [] h = yes Gap.none
gap_within? (suc k) (b ∷ g) h = gap_by b g (gap_from? k (λ l i. gap_within? k l i) b g (omega arith))

pub gap? : (g : List ℕ) → Dec (Gap g)
gap? g = gap_within? (length g) g (omega arith)

-- inside a gap: behind whole ones, and perhaps in a comment
abbrev pub OpenTail : List ℕ → Type 0
OpenTail [] = Unit {0}
OpenTail (b ∷ c) = (b ≡ 35) × All in_comment c

pub tail? : (w : List ℕ) → Dec (OpenTail w)
tail? [] = yes tt
tail? (b ∷ c) = both? (ℕ_discrete b 35) (all? in_comment c)

abbrev pub InGap : List ℕ → Type 0
InGap p = (g w : List ℕ) × (p ≡ g ++ w) × (Gap g × OpenTail w)

pub in_gap? : (p : List ℕ) → Dec (InGap p)
in_gap? p = split? p (λ g w. Gap g × OpenTail w) (λ g w e. both? (gap? g) (tail? w))

pub gap_append : (g h : List ℕ) → Gap g → Gap h → Gap (g ++ h)
gap_append g h Gap.none k = k
gap_append g h (white i j) k = white i (gap_append _ h j k)
gap_append g h (comment c {g = x} a j) k = subst (λ z. Gap (35 ∷ z)) (sym (append_assoc c (10 ∷ x) h)) (comment c a (gap_append x h j k))

all_front : (p : ℕ → Bool) (a b : List ℕ) → All p (a ++ b) → All p a
all_front p [] b h = tt
all_front p (x ∷ a) b h = (h.0, all_front p a b h.1)

-- what begins a gap lies inside one
pub gap_front : {x : List ℕ} → Gap x → (p e : List ℕ) → x ≡ p ++ e → InGap p
gap_front Gap.none [] e i = ([], [], refl, (Gap.none, tt))
gap_front Gap.none (b ∷ p) e i = absurd (cons≢[] (sym i))
gap_front (white h k) [] e i = ([], [], refl, (Gap.none, tt))
gap_front (white h k) (b ∷ p) e i =
    let r = gap_front k p e (tail-eq_of_cons-eq i) in
    (b ∷ r.0, r.1, ap (λ l. b ∷ l) r.2, (white (subst (λ q. blank q ≡ true) (head-eq_of_cons-eq i) h) r.3.0, r.3.1))
gap_front (comment c a k) [] e i = ([], [], refl, (Gap.none, tt))
gap_front (comment c {g = z} a k) (b ∷ p) e i = on (λ u j. gap_front k u e j) (splits p e c (10 ∷ z) (sym (tail-eq_of_cons-eq i)))
  where
    sharp : b ≡ 35
    sharp = sym (head-eq_of_cons-eq i)

    on : ((u : List ℕ) → z ≡ u ++ e → InGap u) → ((u : List ℕ) × (p ≡ c ++ u) × (10 ∷ z ≡ u ++ e)) ⊎ ((u : List ℕ) × (c ≡ p ++ u) × (e ≡ u ++ 10 ∷ z)) → InGap (b ∷ p)
    on ih (inr (u, j, l)) = ([], b ∷ p, refl, (Gap.none, (sharp, all_front in_comment p u (subst (All in_comment) j a))))
    on ih (inl ([], j, l)) = ([], b ∷ p, refl, (Gap.none, (sharp, subst (All in_comment) (sym (j ∙ append-nil c)) a)))
    on ih (inl (y ∷ u, j, l)) =
        let r = ih u (tail-eq_of_cons-eq l) in
        let same : b ∷ p ≡ (35 ∷ (c ++ 10 ∷ r.0)) ++ r.1 =
        ap (λ q. q ∷ p) sharp ∙ ap (λ q. 35 ∷ q) (j ∙ ap (λ q. c ++ q ∷ u) (sym (head-eq_of_cons-eq l)) ∙ ap (λ q. c ++ 10 ∷ q) r.2 ∙ sym (append_assoc c (10 ∷ r.0) r.1)) in
        (35 ∷ (c ++ 10 ∷ r.0), r.1, same, (comment c a r.3.0, r.3.1))

-- after the last token stands what lies inside a gap
pub ending_was : {x : List ℕ} → Ending x → (p e : List ℕ) → x ≡ p ++ e → InGap p
ending_was (gap g) p e i = gap_front g p e i
ending_was (open_comment {g = g} c k a) p e i = on (splits p e g (35 ∷ c) (sym i))
  where
    on : ((u : List ℕ) × (p ≡ g ++ u) × (35 ∷ c ≡ u ++ e)) ⊎ ((u : List ℕ) × (g ≡ p ++ u) × (e ≡ u ++ 35 ∷ c)) → InGap p
    on (inr (u, j, l)) = gap_front k p u j
    on (inl ([], j, l)) = (g, [], j, (k, tt))
    on (inl (y ∷ u, j, l)) = (g, y ∷ u, j, (k, (sym (head-eq_of_cons-eq l), all_front in_comment u e (subst (All in_comment) (tail-eq_of_cons-eq l) a))))

pub ending_is : (p : List ℕ) → InGap p → Ending p
ending_is p (g, [], i, (k, w)) = subst Ending (sym (i ∙ append-nil g)) (gap k)
ending_is p (g, b ∷ c, i, (k, (e, a))) = subst Ending (sym (i ∙ ap (λ q. g ++ q ∷ c) e)) (open_comment c k a)

-- the limits of rules
program_within? : (p : TextProgram) → Dec (ProgramWithin p)
program_within? p = on (dec_le (size_of p) 256) (dec_le (nesting_of p) 8)
  where
    on : Dec (size_of p ≤ 256) → Dec (nesting_of p ≤ 8) → Dec (ProgramWithin p)
    on (yes a) (yes b) = yes (record { short = a; shallow = b })
    on (yes a) (no b) = no (λ h. b h.shallow)
    on (no a) b = no (λ h. a h.short)

option_within? : (o : Option TextProgram) → Dec (OptionWithin o)
option_within? none = yes tt
option_within? (some p) = program_within? p

visits_within? : (v : TextVisits) → Dec (VisitsWithin v)
visits_within? v = both? (option_within? v.first_visit) (option_within? v.second_visit)

all_within? : (vs : List TextVisits) → Dec (AllWithin vs)
all_within? [] = yes tt
all_within? (v ∷ vs) = both? (visits_within? v) (all_within? vs)

content_within? : (e : Option Tree) → Dec (ContentWithin e)
content_within? e = on (dec_le (nodes_of (content_inside e)) 32) (dec_le (content_depth (content_inside e)) 12) (all_within? (visits_inside e))
  where
    on : Dec (nodes_of (content_inside e) ≤ 32) → Dec (content_depth (content_inside e) ≤ 12) → Dec (AllWithin (visits_inside e)) → Dec (ContentWithin e)
    on (yes a) (yes b) (yes c) = yes (record { few_nodes = a; shallow = b; programs = c })
    on (yes a) (yes b) (no c) = no (λ h. c h.programs)
    on (yes a) (no b) c = no (λ h. b h.shallow)
    on (no a) b c = no (λ h. a h.few_nodes)

rule_within? : (r : TextRule) → Dec (RuleWithin r)
rule_within? r = on (visits_within? r.own) (content_within? r.inside)
  where
    on : Dec (VisitsWithin r.own) → Dec (ContentWithin r.inside) → Dec (RuleWithin r)
    on (yes a) (yes b) = yes (record { own = a; inside = b })
    on (yes a) (no b) = no (λ h. b h.inside)
    on (no a) b = no (λ h. a h.own)

each_within? : (rs : List TextRule) → Dec (EachWithin rs)
each_within? [] = yes tt
each_within? (r ∷ rs) = both? (rule_within? r) (each_within? rs)

pub within? : (r : Rules) → Dec (WithinLimits r)
within? r = on (dec_le (length r.productions) 64) (dec_le (nodes_in_all r.productions) 256) (each_within? r.productions)
  where
    on : Dec (length r.productions ≤ 64) → Dec (nodes_in_all r.productions ≤ 256) → Dec (EachWithin r.productions) → Dec (WithinLimits r)
    on (yes a) (yes b) (yes c) = yes (record { few_productions = a; few_nodes = b; each = c })
    on (yes a) (yes b) (no c) = no (λ h. c h.each)
    on (yes a) (no b) c = no (λ h. b h.few_nodes)
    on (no a) b c = no (λ h. a h.few_productions)
