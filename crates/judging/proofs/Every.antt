-- Every text of bytes has an answer: it is read byte by byte, and what is told is looked up where it ends. Assumes nothing.
use mathlib.Core.Path.{◌≡◌, refl, sym, ◌∙◌, ap, subst}
use mathlib.Core.Logic.{◌⊎◌, inl, inr}
use mathlib.Core.Bool.{true}
use mathlib.Core.Option.{none, some}
use mathlib.Core.List.{List, [], ◌∷◌, ◌++◌}
use Prim.Native.Nat.{ℕ, suc, ◌≤◌}
use native.Mathlib.Omega.{arith}
use native.Mathlib.Numerals.{add-one}
use native.Mathlib.Decide.{dec_le}
use lib.ListN.{length, take, drop, length-drop}
use lib.Seq.{drop-drop}
use Rattle.limits.specs.Limits.{most_productions, most_nodes}
use Rattle.text.specs.Names.{name_byte}
use Rattle.expressions.specs.Grammar.{nonterminals}
use Rattle.notation.specs.Statements.{parentheses}
use Rattle.reading.specs.Tests.{either?, true?}
use Rattle.reading.proofs.Telling.{cases}
use Rattle.telling.proofs.Bytes.{split?, same?, begins?}
use Rattle.encoding.specs.Distinct.{distinct}
use Rattle.models.specs.Models.{Declaration}
use Rattle.models.specs.Family.{EachFewNodes, Shallow, mentioned, nodes_together, Holdable}
use Rattle.models.specs.Answers.{WordAt, EndsWith, AnyAt, EntityWordAt, EntityAt, AttlistAt, Stands, any, entity, attlist, other, TooMuchAt, ModelsTold, declares, refuses, ReadModels}
use Rattle.models.specs.Reader.{DtdProgress, outside, within, step_declarations, value_of_dtd, finished_dtd}
use Rattle.models.specs.Promises.{DtdFits}
use Rattle.models.proofs.Told.{few?, shallow?}
use Rattle.judging.specs.Standing.{StandsBehind, ContentMayBegin}
use Rattle.judging.specs.Promises.{EveryText}
use Rattle.judging.proofs.Words.{alone, parted, goes_on}
use Rattle.judging.proofs.Parentheses.{open_around, never, one_state}
use Rattle.judging.proofs.Refused.{stands_first, one_byte_on, refused_by_grammar, refused_by_nodes, refused_by_depth, unfinished, all_declared}
use Rattle.judging.proofs.Contents.{content?}
use Rattle.judging.proofs.Much.{so_far, Adds, adds, holds_so_far, too_much_there, too_much_in_all}

-- whether a word stands at the front
whole? : (word bytes u : List ℕ) → bytes ≡ word ++ u → Dec (WordAt word bytes)
whole? word bytes [] e = yes (alone word bytes e)
whole? word bytes (c ∷ u) e = on (true? (name_byte c))
  where
    on : Dec (name_byte c ≡ true) → Dec (WordAt word bytes)
    on (yes h) = no (goes_on word bytes u c e h)
    on (no h) = yes (parted word bytes u c e h)

word? : (word bytes : List ℕ) → Dec (WordAt word bytes)
word? word bytes = on (begins? bytes word)
  where
    on : Dec ((u : List ℕ) × (bytes ≡ word ++ u)) → Dec (WordAt word bytes)
    on (yes (u, e)) = whole? word bytes u e
    on (no h) = no (λ w. h (w.rest, w.is))

ends? : (front bytes : List ℕ) → Dec (EndsWith front bytes)
ends? front bytes = on (split? bytes (λ a b. b ≡ front) (λ a b e. same? b front))
  where
    on : Dec ((a b : List ℕ) × (bytes ≡ a ++ b) × (b ≡ front)) → Dec (EndsWith front bytes)
    on (yes (a, b, e, f)) = yes (record { before = a; is = e ∙ ap (λ l. a ++ l) f })
    on (no h) = no (λ w. h (w.before, front, w.is, refl))

-- what stands at a byte
module _ (text : List ℕ) (k : ℕ) where
  first? : (c : ℕ) → Dec ((rest : List ℕ) × (drop k text ≡ c ∷ rest))
  first? c = begins? (drop k text) (c ∷ [])

  entity_word? : Dec (EntityWordAt text k)
  entity_word? = on (ends? (60 ∷ 33 ∷ 69 ∷ []) (take k text)) (word? (78 ∷ 84 ∷ 73 ∷ 84 ∷ 89 ∷ []) (drop k text))
    where
      on : Dec (EndsWith (60 ∷ 33 ∷ 69 ∷ []) (take k text)) → Dec (WordAt (78 ∷ 84 ∷ 73 ∷ 84 ∷ 89 ∷ []) (drop k text)) → Dec (EntityWordAt text k)
      on (yes h) (yes w) = yes (record { behind = h; entity = w })
      on (yes h) (no w) = no (λ a. w a.entity)
      on (no h) d = no (λ a. h a.behind)

  attlist? : Dec (AttlistAt text k)
  attlist? = on (ends? (60 ∷ 33 ∷ []) (take k text)) (word? (65 ∷ 84 ∷ 84 ∷ 76 ∷ 73 ∷ 83 ∷ 84 ∷ []) (drop k text))
    where
      on : Dec (EndsWith (60 ∷ 33 ∷ []) (take k text)) → Dec (WordAt (65 ∷ 84 ∷ 84 ∷ 76 ∷ 73 ∷ 83 ∷ 84 ∷ []) (drop k text)) → Dec (AttlistAt text k)
      on (yes h) (yes w) = yes (record { behind = h; attlist = w })
      on (yes h) (no w) = no (λ a. w a.attlist)
      on (no h) d = no (λ a. h a.behind)

  any? : Dec (ContentMayBegin text k) → Dec (AnyAt text k)
  any? c = on c (word? (65 ∷ 78 ∷ 89 ∷ []) (drop k text))
    where
      on : Dec (ContentMayBegin text k) → Dec (WordAt (65 ∷ 78 ∷ 89 ∷ []) (drop k text)) → Dec (AnyAt text k)
      on (yes (ds, f)) (yes w) = yes (record { declarations = ds; could_be = f; any = w })
      on (yes h) (no w) = no (λ a. w a.any)
      on (no h) d = no (λ a. h (a.declarations, a.could_be))

  number : Dec (ContentMayBegin text k) → (n : ℕ) × Stands text k n
  number c = on (any? c) (either? (first? 37) (either? (first? 38) entity_word?)) attlist?
    where
      on : Dec (AnyAt text k) → Dec (EntityAt text k) → Dec (AttlistAt text k) → (n : ℕ) × Stands text k n
      on (yes a) e t = (50, any a)
      on (no a) (yes e) t = (51, entity e)
      on (no a) (no e) (yes t) = (52, attlist t)
      on (no a) (no e) (no t) = (55, other a e t)

holdable? : (ds : List Declaration) → Dec (Holdable ds)
holdable? ds = on (dec_le (length ds) most_productions) (dec_le (length (distinct (mentioned ds))) nonterminals) (dec_le (nodes_together ds) most_nodes)
  where
    on : Dec (length ds ≤ most_productions) → Dec (length (distinct (mentioned ds)) ≤ nonterminals) → Dec (nodes_together ds ≤ most_nodes) → Dec (Holdable ds)
    on (yes a) (yes b) (yes c) = yes (record { few_declarations = a; few_names = b; few_nodes = c })
    on (yes a) (yes b) (no c) = no (λ h. c h.few_nodes)
    on (yes a) (no b) c = no (λ h. b h.few_names)
    on (no a) b c = no (λ h. a h.few_declarations)

-- a sheet can hold what is declared so far, or no more from some byte on
abbrev Room : List ℕ → DtdProgress → Type 0
Room text s = Holdable (so_far s) ⊎ ((j : ℕ) × TooMuchAt text j)

abbrev Answered : List ℕ → Type 0
Answered text = (a : ModelsTold) × ReadModels text a

module _ (text : List ℕ) where
  at_end : (s : DtdProgress) → StandsBehind text (length text) s → Room text s → Answered text
  at_end s at room = on (cases (value_of_dtd s)) room
    where
      on : (value_of_dtd s ≡ none) ⊎ ((ds : List Declaration) × (value_of_dtd s ≡ some ds)) → Room text s → Answered text
      on (inl e) r = (refuses 55 (length text), unfinished text s at e)
      on (inr (ds, e)) (inl h) = (declares ds, all_declared text s ds at e (holds_so_far s ds e h))
      on (inr (ds, e)) (inr (j, t)) = (refuses 56 j, too_much_in_all text j s ds t at e)

  module _ (rest : List ℕ) (k b : ℕ) (s : DtdProgress) (at : StandsBehind text k s) (here : drop k text ≡ b ∷ rest) where
    -- the room behind the byte
    room_on : (s' : DtdProgress) → step_declarations parentheses s b ≡ some s' → StandsBehind text (suc k) s' → Room text s → Room text s'
    room_on s' e at' (inr t) = inr t
    room_on s' e at' (inl h) = on (adds parentheses b s s' e)
      where
        on : Adds s s' → Room text s'
        on (inl f) = inl (subst Holdable (sym f) h)
        on (inr (ds, q, d, f, g)) = holds (holdable? (ds ++ d ∷ []))
          where
            holds : Dec (Holdable (ds ++ d ∷ [])) → Room text s'
            holds (yes i) = inl (subst (λ z. Holdable (so_far z)) (sym g) i)
            holds (no i) =
                let step : step_declarations parentheses (within ds q) b ≡ some (outside (ds ++ d ∷ [])) = ap (λ z. step_declarations parentheses z b) (sym f) ∙ e ∙ ap some g in
                inr (k, too_much_there text rest k b ds q d (subst (StandsBehind text k) f at) (subst (λ z. Holdable (so_far z)) f h) here step (subst (λ z. StandsBehind text (suc k) z) g at').fits i)

    refused : step_declarations (suc (open_around s)) s b ≡ none → Answered text
    refused e = let n = number text k (content? text k s at) in (refuses n.0 k, refused_by_grammar text rest k b n.0 s at here (never s b e) n.1)

    -- what the byte leads to, by how many parentheses it takes
    led : (p : ℕ) (s' : DtdProgress) → step_declarations p s b ≡ some s' → Room text s → ((z : DtdProgress) → StandsBehind text (suc k) z → Room text z → Answered text) → Answered text
    led p s' e room onward = on (few? (finished_dtd s')) (shallow? (finished_dtd s')) (cases (step_declarations parentheses s b))
      where
        on : Dec (EachFewNodes (finished_dtd s')) → Dec (Shallow (finished_dtd s')) → (step_declarations parentheses s b ≡ none) ⊎ ((z : DtdProgress) × (step_declarations parentheses s b ≡ some z)) → Answered text
        on (no f) g c = (refuses 53 k, refused_by_nodes text rest k b p s s' at here e f)
        on (yes f) (no g) c = (refuses 54 k, refused_by_depth text rest k b p s s' at here e f (inl g))
        on (yes f) (yes g) (inl c) = (refuses 54 k, refused_by_depth text rest k b p s s' at here e f (inr c))
        on (yes f) (yes g) (inr (z, c)) =
            let same : s' ≡ z = one_state p parentheses b s s' z e c in
            let at' = one_byte_on text rest k b s z at here c (subst (λ y. DtdFits (finished_dtd y)) same (record { few = f; shallow = g })) in
            onward z at' (room_on z c at' room)

    answered_from : Room text s → ((z : DtdProgress) → StandsBehind text (suc k) z → Room text z → Answered text) → Answered text
    answered_from room onward = on (cases (step_declarations (suc (open_around s)) s b))
      where
        on : (step_declarations (suc (open_around s)) s b ≡ none) ⊎ ((z : DtdProgress) × (step_declarations (suc (open_around s)) s b ≡ some z)) → Answered text
        on (inl e) = refused e
        on (inr (z, e)) = led (suc (open_around s)) z e room onward

  answered : (rest : List ℕ) (k : ℕ) (s : DtdProgress) → StandsBehind text k s → drop k text ≡ rest → Room text s → Answered text
  answered [] k s at here room =
      let e : k ≡ length text = omega (arith, at.reached, length-drop k text, ap length here) in
      at_end s (subst (λ j. StandsBehind text j s) e at) room
  answered (b ∷ rest) k s at here room = answered_from rest k b s at here room (λ z at' r. answered rest (suc k) z at' behind r)
    where
      behind : drop (suc k) text ≡ rest
      behind = ap (λ j. drop j text) (sym (add-one k)) ∙ sym (drop-drop 1 k text) ∙ ap (drop 1) here

pub every_text : EveryText
every_text text = answered text text 0 (outside []) (stands_first text) refl (inl (record { few_declarations = omega arith; few_names = omega arith; few_nodes = omega arith }))
