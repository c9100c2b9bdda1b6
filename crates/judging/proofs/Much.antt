-- Declarations only become more with every byte, and fewer of them have room in a sheet where more have. Assumes nothing.
use mathlib.Core.Path.{◌≡◌, refl, sym, ◌∙◌, ap, subst}
use mathlib.Core.Logic.{◌⊎◌, inl, inr}
use mathlib.Core.Bool.{Bool, true, false, cond}
use mathlib.Core.Option.{Option, none, some}
use mathlib.Core.List.{List, [], ◌∷◌, ◌++◌, append_assoc, append-nil}
use Prim.Native.Nat.{ℕ, suc, ◌+◌, ◌-◌, ◌≤◌}
use native.Mathlib.Omega.{arith}
use lib.Dec.{eqb}
use lib.ListN.{length, take, drop, length-append, take-append-drop}
use lib.Seq.{take-add}
use Rattle.text.specs.Names.{blank}
use Rattle.notation.specs.Statements.{parentheses}
use Rattle.reading.specs.Machine.{walk}
use Rattle.reading.proofs.Telling.{none≢some, IfSome, held_after}
use Rattle.encoding.specs.Distinct.{added, distinct}
use Rattle.stores.proofs.Grows.{grows_behind}
use Rattle.models.specs.Models.{Declaration}
use Rattle.models.specs.Family.{names_in_spec, mentioned, nodes_together, Family, Holdable}
use Rattle.models.specs.Answers.{too_much}
use Rattle.models.specs.Reader.{Phase, opening, Move, to, over, only_if_true, step_phase, DtdProgress, outside, within, moved_by, step_declarations, value_of_dtd}
use Rattle.models.specs.Promises.{DtdFits}
use Rattle.models.proofs.Walk.{declarations_walk}
use Rattle.models.proofs.Grows.{finished_some}
use Rattle.models.proofs.Shortest.{not_empty}
use Rattle.models.proofs.Told.{value_of, reads_dtds}
use Rattle.judging.specs.Promises.{TooMuch, TooMuchInAll}
use Rattle.judging.proofs.Refused.{one_byte_on, whole, all_of_family}

-- what is declared so far
abbrev pub so_far : DtdProgress → List Declaration
so_far (outside ds) = ds
so_far (within ds q) = ds

-- a byte adds nothing to it, or ends a declaration
abbrev pub Adds : DtdProgress → DtdProgress → Type 0
Adds s z = (so_far z ≡ so_far s) ⊎ ((ds : List Declaration) × (q : Phase) × (d : Declaration) × (s ≡ within ds q) × (z ≡ outside (ds ++ d ∷ [])))

step_adds : (p : ℕ) (s : DtdProgress) (b : ℕ) → IfSome (Adds s) (step_declarations p s b)
step_adds p (outside ds) b = on (blank b) (eqb b 60)
  where
    on : (t u : Bool) → IfSome (Adds (outside ds)) (cond t (some (outside ds)) (moved_by ds (only_if_true u (opening (33 ∷ 69 ∷ 76 ∷ 69 ∷ 77 ∷ 69 ∷ 78 ∷ 84 ∷ [])))))
    on true u = inl refl
    on false true = inl refl
    on false false = tt
step_adds p (within ds q) b = on (step_phase p q b)
  where
    on : (o : Option Move) → IfSome (Adds (within ds q)) (moved_by ds o)
    on none = tt
    on (some (to q')) = inl refl
    on (some (over d)) = inr (ds, q, d, refl, refl)

pub adds : (p b : ℕ) (s z : DtdProgress) → step_declarations p s b ≡ some z → Adds s z
adds p b s z e = subst (IfSome (Adds s)) e (step_adds p s b)

-- these begin what is declared
abbrev Begun : List Declaration → DtdProgress → Type 0
Begun es z = (more : List Declaration) × (so_far z ≡ es ++ more)

begun_on : (es : List Declaration) (s z : DtdProgress) → Adds s z → Begun es s → Begun es z
begun_on es s z (inl e) (more, h) = (more, e ∙ h)
begun_on es s z (inr (ds, q, d, e, f)) (more, h) = (more ++ d ∷ [], ap so_far f ∙ ap (λ l. l ++ d ∷ []) (sym (ap so_far e) ∙ h) ∙ append_assoc es more (d ∷ []))

begun_after : (es : List Declaration) (w : List ℕ) (z : DtdProgress) → walk (step_declarations parentheses) (outside es) w ≡ some z → Begun es z
begun_after es w z e = held_after (step_declarations parentheses) (λ y row. Begun es y) keeps (outside es) z w ([], sym (append-nil es)) e
  where
    keeps : (s : DtdProgress) (b : ℕ) (row : List ℕ) → Begun es s → IfSome (λ y. Begun es y) (step_declarations parentheses s b)
    keeps s b row h = on (step_declarations parentheses s b) (step_adds parentheses s b)
      where
        on : (o : Option DtdProgress) → IfSome (Adds s) o → IfSome (λ y. Begun es y) o
        on none k = tt
        on (some y) k = begun_on es s y k h

-- what holds more holds fewer
mentioned_append : (ds es : List Declaration) → mentioned (ds ++ es) ≡ mentioned ds ++ mentioned es
mentioned_append [] es = refl
mentioned_append (d ∷ ds) es = ap (λ (l : List (List ℕ)). d.declared ∷ l) (ap (λ (l : List (List ℕ)). names_in_spec d.content ++ l) (mentioned_append ds es) ∙ sym (append_assoc (names_in_spec d.content) (mentioned ds) (mentioned es)))

nodes_append : (ds es : List Declaration) → nodes_together (ds ++ es) ≡ nodes_together ds + nodes_together es
nodes_append [] es = omega arith
nodes_append (d ∷ ds) es = omega (arith, nodes_append ds es)

fewer_names : (l more : List (List ℕ)) → length (distinct l) ≤ length (distinct (l ++ more))
fewer_names l more = omega (arith, ap length (grows_behind l more), length-append (distinct l) (added (distinct l) more))

pub holds_fewer : (ds more : List Declaration) → Holdable (ds ++ more) → Holdable ds
holds_fewer ds more h = record {
  few_declarations = omega (arith, h.few_declarations, length-append ds more);
  few_names = omega (arith, h.few_names, ap (λ (l : List (List ℕ)). length (distinct l)) (mentioned_append ds more), fewer_names (mentioned ds) (mentioned more));
  few_nodes = omega (arith, h.few_nodes, nodes_append ds more);
}

-- declarations of a beginning of the text begin those of more of it
family_begun : (text beginning more : List ℕ) (s : DtdProgress) (es : List Declaration) → text ≡ beginning ++ more → walk (step_declarations parentheses) (outside []) text ≡ some s → Family beginning es → Holdable (so_far s) → Holdable es
family_begun text beginning more s es e w f h =
    let b = begun_after es more s (sym (declarations_walk parentheses f.spelled.are (omega arith) more) ∙ ap (walk (step_declarations parentheses) (outside [])) (sym e) ∙ w) in
    holds_fewer es b.0 (subst Holdable b.1 h)

pub too_much_there : TooMuch
too_much_there text rest k b ds q d at h here e f n =
    let on = one_byte_on text rest k b (within ds q) (outside (ds ++ d ∷ [])) at here e f in
    let fits : DtdFits (ds ++ d ∷ []) = subst DtdFits (finished_some ds d) f in
    record {
      declarations = ds ++ d ∷ [];
      of_family = record {
        spelled = (reads_dtds 31).sound (take (suc k) text) (outside (ds ++ d ∷ [])) (ds ++ d ∷ []) on.walked (value_of (ds ++ d ∷ []) (not_empty ds d));
        few_nodes = fits.few;
        shallow = fits.shallow;
      };
      too_much = n;
      no_fewer = λ j l es g. family_begun (take k text) (take j text) (take (k - j) (drop j text)) (within ds q) es (up_to_lem j l) at.walked g h;
    }
  where
    up_to_lem : (j : ℕ) → j ≤ k → take k text ≡ take j text ++ take (k - j) (drop j text)
    up_to_lem j l = ap (λ m. take m text) (reaches j l) ∙ take-add j (k - j) text
      where
        reaches : (j : ℕ) → j ≤ k → k ≡ j + (k - j)
        reaches j l = omega (arith, l)

so_far_lem : (s : DtdProgress) (ds : List Declaration) → value_of_dtd s ≡ some ds → so_far s ≡ ds
so_far_lem (outside []) ds e = absurd (none≢some refl e)
so_far_lem (outside (d ∷ ds)) es e = cc
so_far_lem (within ds q) es e = absurd (none≢some refl e)

pub holds_so_far : (s : DtdProgress) (ds : List Declaration) → value_of_dtd s ≡ some ds → Holdable (so_far s) → Holdable ds
holds_so_far s ds e h = subst Holdable (so_far_lem s ds e) h

pub too_much_in_all : TooMuchInAll
too_much_in_all text k s ds t at e =
    too_much (all_of_family text s ds at e)
    (λ h. t.too_much (family_begun text (take (suc k) text) (drop (suc k) text) s t.declarations (sym (take-append-drop (suc k) text)) (whole text s at) t.of_family (subst Holdable (sym (so_far_lem s ds e)) h))) t
