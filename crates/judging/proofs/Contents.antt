-- EMPTY> can stand exactly where the machine wants a content. Assumes nothing.
use mathlib.Core.Path.{◌≡◌, refl, sym, ◌∙◌, ap, subst}
use mathlib.Core.Logic.{◌⊎◌, inl, inr, ⊎_elim}
use mathlib.Core.Bool.{Bool, true, false, cond}
use mathlib.Core.Option.{Option, none, some}
use mathlib.Core.List.{List, [], ◌∷◌, ◌++◌, append-nil}
use Prim.Native.Nat.{ℕ}
use native.Mathlib.Omega.{arith}
use lib.Dec.{eqb, ltb}
use lib.ListN.{length, take}
use borrow.Author.Tests.{eqb-true}
use Rattle.limits.specs.Limits.{longest_name}
use Rattle.text.specs.Names.{name_byte, blank, All}
use Rattle.text.proofs.Shapes.{cons≢[]}
use Rattle.notation.specs.Statements.{parentheses}
use Rattle.reading.specs.Machine.{and_then, walk}
use Rattle.reading.proofs.Telling.{walk_on}
use Rattle.models.specs.Models.{called, nothing_inside, Declaration}
use Rattle.models.specs.Spelling.{empty_word}
use Rattle.models.specs.Reader.{Phase, opening, naming, named, contents, emptying, inside, hashing, mixing, barred, mixed_name, mixed_closed, wants, in_name, marking, after, group_closed, ended, only_if_true, longer, step_marking, step_mixing, DtdProgress, outside, within, moved_by, step_declarations, finished_dtd}
use Rattle.models.specs.Promises.{DtdFits}
use Rattle.models.proofs.Walk.{declarations_walk}
use Rattle.models.proofs.Held.{EmptyText}
use Rattle.models.proofs.Shortest.{ProgressHeld, held, not_empty}
use Rattle.models.proofs.Told.{value_of, reads_dtds}
use Rattle.judging.specs.Standing.{StandsBehind, ContentMayBegin}
use Rattle.judging.specs.Promises.{WhereContentBegins}

abbrev go : DtdProgress → List ℕ → Option DtdProgress
go s w = walk (step_declarations parentheses) s w

-- refused, or in a declaration
abbrev NotOver : Option DtdProgress → Type 0
NotOver none = Unit {0}
NotOver (some (outside ds)) = ⊥
NotOver (some (within ds q)) = Unit {0}

-- one byte more
module _ (ds : List Declaration) (f : List ℕ → Phase) where
  abbrev step : List ℕ → ℕ → Option DtdProgress
  step m b = step_declarations parentheses (within ds (f m)) b

  by_step : (m w : List ℕ) (b : ℕ) (o : Option DtdProgress) → step m b ≡ o → NotOver (and_then o (λ z. go z w)) → NotOver (go (within ds (f m)) (b ∷ w))
  by_step m w b o e h = subst (λ x. NotOver (and_then x (λ z. go z w))) (sym e) h

  only_if : (t : Bool) (m w : List ℕ) → NotOver (go (within ds (f m)) w) → NotOver (and_then (moved_by ds (only_if_true t (f m))) (λ z. go z w))
  only_if true m w h = h
  only_if false m w h = tt

  -- in a name, which no > ends
  in_a_name : ((m : List ℕ) (b : ℕ) → name_byte b ≡ true → step m b ≡ moved_by ds (longer m f b)) → ((m : List ℕ) → step m 62 ≡ none) → (m w : List ℕ) → All name_byte w → NotOver (go (within ds (f m)) (w ++ 62 ∷ []))
  in_a_name g h m [] a = by_step m [] 62 none (h m) tt
  in_a_name g h m (b ∷ w) a = by_step m (w ++ 62 ∷ []) b (moved_by ds (longer m f b)) (g m b a.0) (only_if (ltb (length m) longest_name) (m ++ b ∷ []) (w ++ 62 ∷ []) (in_a_name g h (m ++ b ∷ []) w a.1))

  -- in a word, behind which none of these may stand
  abbrev NoneBehind : List ℕ → Type 0
  NoneBehind [] = Unit {0}
  NoneBehind (b ∷ w) = (step [] b ≡ none) × NoneBehind w

  in_a_word : ((c : ℕ) (rest : List ℕ) (b : ℕ) → step (c ∷ rest) b ≡ moved_by ds (only_if_true (eqb b c) (f rest))) → (rest w : List ℕ) → NoneBehind w → NotOver (go (within ds (f rest)) w)
  in_a_word g rest [] h = tt
  in_a_word g [] (b ∷ w) h = by_step [] w b none h.0 tt
  in_a_word g (c ∷ rest) (b ∷ w) h = by_step (c ∷ rest) w b (moved_by ds (only_if_true (eqb b c) (f rest))) (g c rest b) (only_if (eqb b c) rest w (in_a_word g rest w h.1))

empty_letters : All name_byte empty_word
empty_letters = (refl, (refl, (refl, (refl, (refl, tt)))))

-- no E stands in what is left of EMPTY
abbrev Without : ℕ → List ℕ → Type 0
Without c [] = Unit {0}
Without c (x ∷ l) = (x ≡ c → ⊥) × Without c l

not_in : (c : ℕ) (l u rest : List ℕ) → Without c l → l ≡ u ++ c ∷ rest → ⊥
not_in c [] [] rest h e = cons≢[] (sym e)
not_in c [] (y ∷ u) rest h e = cons≢[] (sym e)
not_in c (x ∷ l) [] rest h e = h.0 (cc)
not_in c (x ∷ l) (y ∷ u) rest h e = not_in c l u rest h.1 (cc)

no_second_E : (c : ℕ) (rest w : List ℕ) → EmptyText (c ∷ rest) w → c ≡ 69 → ⊥
no_second_E c rest [] h e = absurd (omega (arith, h.begun))
no_second_E c rest (x ∷ w) h e =
    let word : ◌≡◌ {A = List ℕ} (69 ∷ 77 ∷ 80 ∷ 84 ∷ 89 ∷ []) (x ∷ (w ++ 69 ∷ rest)) = h.word ∙ ap (λ y. x ∷ (w ++ y ∷ rest)) e in
    not_in 69 (77 ∷ 80 ∷ 84 ∷ 89 ∷ []) w rest ((λ k. omega (arith, k)), ((λ k. omega (arith, k)), ((λ k. omega (arith, k)), ((λ k. omega (arith, k)), tt)))) (cc)

emptying_on : (ds : List Declaration) (n : List ℕ) (c : ℕ) (rest w : List ℕ) → EmptyText (c ∷ rest) w → NotOver (go (within ds (emptying n (c ∷ rest))) (empty_word ++ 62 ∷ []))
emptying_on ds n c rest w h = on (eqb 69 c) refl
  where
    on : (t : Bool) → eqb 69 c ≡ t → NotOver (and_then (moved_by ds (only_if_true t (emptying n rest))) (λ z. go z (77 ∷ 80 ∷ 84 ∷ 89 ∷ 62 ∷ [])))
    on true e = absurd (no_second_E c rest w h (sym (eqb-true 69 c e)))
    on false e = tt

abbrev WantsContent : DtdProgress → Type 0
WantsContent s = (ds : List Declaration) × (n : List ℕ) × (s ≡ within ds (contents n))

-- a content is wanted, or EMPTY> is not taken to the end of a declaration
wanted_or_not : (s : DtdProgress) (row : List ℕ) → ProgressHeld parentheses s row → WantsContent s ⊎ NotOver (go s (empty_word ++ 62 ∷ []))
wanted_or_not (outside ds) row h = inr tt
wanted_or_not (within ds (opening rest)) row h = inr (in_a_word ds opening (λ c l b. refl) rest (empty_word ++ 62 ∷ []) (refl, (refl, (refl, (refl, (refl, (refl, tt)))))))
wanted_or_not (within ds naming) row h = inr tt
wanted_or_not (within ds (named n)) row h = inr (in_a_name ds named (λ m b e. ap (λ t. moved_by ds (cond t (longer m named b) (only_if_true (blank b) (contents m)))) e) (λ m. refl) n empty_word empty_letters)
wanted_or_not (within ds (contents n)) row h = inl (ds, n, refl)
wanted_or_not (within ds (emptying n [])) row h = inr tt
wanted_or_not (within ds (emptying n (c ∷ rest))) row h = inr (emptying_on ds n c rest h.held.content_bytes h.held.held)
wanted_or_not (within ds (inside n)) row h = inr tt
wanted_or_not (within ds (hashing n rest)) row h = inr (in_a_word ds (hashing n) (λ c l b. refl) rest (empty_word ++ 62 ∷ []) (refl, (refl, (refl, (refl, (refl, (refl, tt)))))))
wanted_or_not (within ds (mixing n names)) row h = inr tt
wanted_or_not (within ds (barred n names)) row h = inr tt
wanted_or_not (within ds (mixed_name n names m)) row h =
    inr (in_a_name ds (mixed_name n names) (λ k b e. ap (λ t. moved_by ds (cond t (longer k (mixed_name n names) b) (step_mixing n (names ++ k ∷ []) b))) e) (λ k. refl) m empty_word empty_letters)
wanted_or_not (within ds (mixed_closed n [])) row h = inr tt
wanted_or_not (within ds (mixed_closed n (m ∷ names))) row h = inr tt
wanted_or_not (within ds (wants n l ls)) row h = inr tt
wanted_or_not (within ds (in_name n m l ls)) row h =
    inr (in_a_name ds (λ k. in_name n k l ls) (λ k b e. ap (λ t. moved_by ds (cond t (longer k (λ j. in_name n j l ls) b) (step_marking n (called k) l ls b))) e) (λ k. refl) m empty_word empty_letters)
wanted_or_not (within ds (marking n x l ls)) row h = inr tt
wanted_or_not (within ds (after n x l ls)) row h = inr tt
wanted_or_not (within ds (group_closed n x)) row h = inr tt
wanted_or_not (within ds (ended n c)) row h = inr tt

module _ (text : List ℕ) (k : ℕ) (s : DtdProgress) (at : StandsBehind text k s) where
  wanted? : WantsContent s ⊎ NotOver (go s (empty_word ++ 62 ∷ []))
  wanted? = wanted_or_not s (take k text) (held 31 s (take k text) at.walked)

  all_taken : (w : List ℕ) → go (outside []) (take k text ++ w) ≡ go s w
  all_taken w = walk_on (step_declarations parentheses) (outside []) s (take k text) w at.walked

  only_there : NotOver (go s (empty_word ++ 62 ∷ [])) → ContentMayBegin text k → ⊥
  only_there h (es, f) =
      let w = take k text ++ (empty_word ++ 62 ∷ []) in
      let e : go s (empty_word ++ 62 ∷ []) ≡ some (outside es) = sym (all_taken (empty_word ++ 62 ∷ [])) ∙ ap (go (outside [])) (sym (append-nil w)) ∙ declarations_walk parentheses f.spelled.are (omega arith) [] in
      subst NotOver e h

  may_begin : WantsContent s → ContentMayBegin text k
  may_begin (ds, n, e) =
      let d : Declaration = record { declared = n; content = nothing_inside } in
      let w : go s (empty_word ++ 62 ∷ []) ≡ some (outside (ds ++ d ∷ [])) = ap (λ z. go z (empty_word ++ 62 ∷ [])) e in
      let f : DtdFits (ds ++ d ∷ []) = subst (λ z. DtdFits (finished_dtd z)) e at.fits in (
        ds ++ d ∷ [],
        record {
          spelled = (reads_dtds 31).sound (take k text ++ (empty_word ++ 62 ∷ [])) (outside (ds ++ d ∷ [])) (ds ++ d ∷ []) (all_taken (empty_word ++ 62 ∷ []) ∙ w) (value_of (ds ++ d ∷ []) (not_empty ds d));
          few_nodes = f.few;
          shallow = f.shallow;
        },
      )

  pub content? : Dec (ContentMayBegin text k)
  content? = on wanted?
    where
      on : WantsContent s ⊎ NotOver (go s (empty_word ++ 62 ∷ [])) → Dec (ContentMayBegin text k)
      on (inl h) = yes (may_begin h)
      on (inr h) = no (only_there h)

pub where_content_begins : WhereContentBegins
where_content_begins text k s at = ((λ c. ⊎_elim (λ h. h) (λ h. absurd (only_there text k s at h c)) (wanted? text k s at)), may_begin text k s at)
