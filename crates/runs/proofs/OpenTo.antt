-- Under rules T and S the control goes over the events of an open tree by its acts, and stands inside: as over a tree, element by element down its path.
-- Assumes nothing.
use mathlib.Core.Path.{◌≡◌, refl, sym, ◌∙◌, ap, subst}
use mathlib.Core.Bool.{Bool, true, false}
use mathlib.Core.List.{List, [], ◌∷◌, ◌++◌, append_assoc, append-nil}
use mathlib.Core.Option.{some}
use Prim.Native.Nat.{ℕ, suc, ◌+◌, ◌≤◌}
use native.Mathlib.Omega.{arith}
use lib.Dec.{T}
use lib.ListN.{length}
use borrow.Author.Tests.{le-leb}
use Rattle.expressions.specs.Expr.{Atom, nonterminal, anychar, Content}
use Rattle.expressions.specs.Words.{Bracket, Sym, at, ◌▷◌, Words}
use Rattle.expressions.specs.Grammar.{tag, character, Production, tags_of}
use Rattle.expressions.specs.Fault.{UpTo}
use Rattle.expressions.specs.Grammar.{content_of}
use Rattle.runs.specs.Lookup.{tag_of, produces}
use Rattle.runs.specs.Events.{Event, starts, ends, letter}
use Rattle.runs.specs.Parse.{element, yield_C}
use Rattle.runs.specs.Way.{atom_way}
use Rattle.runs.specs.Acts.{Act, start_tag, end_tag, letter_read, bracket_act, bracket_acts}
use Rattle.runs.specs.Machine.{Open, at_start, Control, before, inside, go, opening_up, start_at, start_by, root_by, char_by, move}
use Rattle.runs.specs.Line.{line_C, Part, mark, filled, lettered, skeleton, events, acts_in, depths, Cut, Opened, opened, deeper}
use Rattle.expressions.proofs.Strings.{▷-append}
use Rattle.expressions.proofs.Rule.{rest_of}
use Rattle.runs.proofs.Rules.{NoTFault, NoSFault}
use Rattle.runs.proofs.Atoms.{atom_pos}
use Rattle.runs.proofs.Find.{produces_memb, find_it}
use Rattle.runs.proofs.Moves.{Moves, stay, then, moves_append}
use Rattle.runs.proofs.Complete.{way, tag_is, char_is, up_to_past, past, visits_append, open_at, body}

abbrev Str : Type 0
Str = List Bracket

abbrev Text : Type 0
Text = List Sym

abbrev pending : Str → Bool
pending [] = false
pending (c ∷ α) = true

pending_snoc : (α : Str) (c : Bracket) → pending (α ++ c ∷ []) ≡ true
pending_snoc [] c = refl
pending_snoc (d ∷ α) c = refl

pending_nil : (α : Str) → pending α ≡ false → α ≡ []
pending_nil [] e = refl
pending_nil (c ∷ α) e = cc

-- no brackets are left over at the end
abbrev NoneLeft : {g : List Production} → Bool → List (Part g) → Type 0
NoneLeft b [] = b ≡ false
NoneLeft b (mark c ∷ fs) = NoneLeft true fs
NoneLeft b (filled j n t ∷ fs) = NoneLeft false fs
NoneLeft b (lettered j c ∷ fs) = NoneLeft false fs

module _ {g : List Production} where
  mutual
    cut_none : (fs : List (Part g)) → Cut fs → NoneLeft false fs
    cut_none [] h = refl
    cut_none (mark c ∷ fs) h = cut_mark fs c h
    cut_none (filled j n t ∷ fs) h = cut_none fs h
    cut_none (lettered j c ∷ fs) h = cut_none fs h

    cut_mark : (fs : List (Part g)) (c : Bracket) → Cut (mark c ∷ fs) → NoneLeft true fs
    cut_mark [] c h = absurd h
    cut_mark (mark d ∷ fs) c h = cut_mark fs d h
    cut_mark (filled j n t ∷ fs) c h = cut_none fs h
    cut_mark (lettered j x ∷ fs) c h = cut_none fs h

module _ (g : List Production) (n lim : ℕ) (no_T_lem : NoTFault g) (no_S_lem : NoSFault g) where
  -- a step to an atom that is filled by an element or to a character
  step_start : (q : ℕ) (os : List Open) (p : ℕ) (u : Text) (α : Str) (j m q' : ℕ) (s : Text) → UpTo p u → Words (content_of g q) (u ++ (α ▷ at j (nonterminal m) ∷ s)) →
      T (produces g m q') → suc (suc (length os)) ≤ lim →
      move g n lim (inside (open_at q p) os) (starts (some (tag_of g q'))) ≡ go (bracket_acts q α ++ start_tag q' ∷ []) (inside (at_start q') (open_at q j ∷ os))
  step_start q os p u α j m q' s h W h' room =
      let e : Content = content_of g q in
      let k : Atom = nonterminal m in
      let t : ℕ = tag_of g q' in
      let w : atom_way (tags_of g) e p (tag t) ≡ some (way α j k) = tag_is (tags_of g) e p t (no_S_lem q p (tag t)) α j k s (produces_memb g m q' h') (rest_of e p u _ h W) in
      ap (start_by g lim (open_at q p) os t) w ∙ ap (start_at lim (open_at q p) os (way α j k)) (find_it g no_T_lem m q' h')
      ∙ ap (λ (b : Bool). opening_up b (bracket_acts q α ++ start_tag q' ∷ []) (inside (at_start q') (open_at q j ∷ os))) (le-leb (suc (suc (length os))) lim room)

  step_char : (q : ℕ) (os : List Open) (p : ℕ) (u : Text) (α : Str) (j c : ℕ) (s : Text) → UpTo p u → Words (content_of g q) (u ++ (α ▷ at j anychar ∷ s)) →
      move g n lim (inside (open_at q p) os) (letter c) ≡ go (bracket_acts q α ++ letter_read c ∷ []) (inside (open_at q j) os)
  step_char q os p u α j c s h W =
      let e : Content = content_of g q in
      ap (char_by (open_at q p) os c) (char_is (tags_of g) e p (no_S_lem q p character) α j anychar s refl (rest_of e p u _ h W))

  -- the control goes over these events, by these acts, and stands inside
  abbrev To : Control → List Event → List Act → Type 0
  To c xs bs = (o : Open) × (os : List Open) × Moves g n lim c xs bs (inside o os)

  to_then : {c c' : Control} {xs ys : List Event} {bs cs : List Act} → Moves g n lim c xs bs c' → To c' ys cs → To c (xs ++ ys) (bs ++ cs)
  to_then m t = (t.0, t.1, moves_append m t.2)

  to_acts : {c : Control} {xs : List Event} {bs cs : List Act} → bs ≡ cs → To c xs bs → To c xs cs
  to_acts {c} {xs} e t = subst (λ (z : List Act). To c xs z) e t

  to_events : {c : Control} {xs ys : List Event} {bs : List Act} → xs ≡ ys → To c xs bs → To c ys bs
  to_events {c} {bs = bs} e t = subst (λ (z : List Event). To c z bs) e t

  -- over the parts of an open element, and then on as `on` says
  module _ (q : ℕ) (os : List Open) (v : Text) (ys : List Event) (cs : List Act) (strict : Bool)
      (on : (p : ℕ) (u : Text) (α : Str) → UpTo p u → Words (content_of g q) (u ++ (α ▷ v)) → (strict ≡ true → α ≡ []) → To (inside (open_at q p) os) ys (bracket_acts q α ++ cs)) where
    over : (p : ℕ) (u : Text) (α : Str) (fs : List (Part g)) → UpTo p u → Words (content_of g q) (u ++ (α ▷ (skeleton fs ++ v))) →
        (strict ≡ true → NoneLeft (pending α) fs) → suc (length os) + depths fs ≤ lim → To (inside (open_at q p) os) (events fs ++ ys) (bracket_acts q α ++ (acts_in q fs ++ cs))
    over p u α [] h W k d = on p u α h W (λ s. pending_nil α (k s))
    over p u α (mark c ∷ fs) h W k d =
        let i = over p u (α ++ c ∷ []) fs h (subst (λ (z : Text). Words (content_of g q) (u ++ z)) (sym (▷-append α (c ∷ []) (skeleton fs ++ v))) W)
        (λ s. subst (λ (b : Bool). NoneLeft b fs) (sym (pending_snoc α c)) (k s)) (omega arith) in
        to_acts (ap (λ (z : List Act). z ++ (acts_in q fs ++ cs)) (visits_append q α (c ∷ [])) ∙ append_assoc (bracket_acts q α) (bracket_act q c ∷ []) (acts_in q fs ++ cs)) i
    over p u α (filled j m (element q' h' c') ∷ fs) h W k d =
        let e : Content = content_of g q in
        let K : Atom = nonterminal m in
        let s : Text = skeleton fs ++ v in
        let mv = step_start q os p u α j m q' s h W h' (omega arith) in
        let b = body g n lim no_T_lem no_S_lem (element q' h' c') (open_at q j ∷ os) (omega arith) in
        let i = over j (u ++ (α ▷ at j K ∷ [])) [] fs (up_to_past u α j K (atom_pos e p α j K s (rest_of e p u _ h W)))
        (subst (Words e) (past u α (at j K) s) W) k (omega arith) in
        let x : List Event = yield_C c' ++ ends (some (tag_of g q')) ∷ [] in
        let x' : List Act = line_C c' q' ++ end_tag q' ∷ [] in
        let r = to_then b i in
        to_acts (append_assoc (bracket_acts q α) (start_tag q' ∷ []) (x' ++ (acts_in q fs ++ cs)) ∙ ap (λ (z : List Act). bracket_acts q α ++ start_tag q' ∷ z) (sym (append_assoc x' (acts_in q fs) cs)))
        (to_events (ap (λ (z : List Event). starts (some (tag_of g q')) ∷ z) (sym (append_assoc x (events fs) ys)))
        (r.0, r.1, then (starts (some (tag_of g q'))) (bracket_acts q α ++ start_tag q' ∷ []) mv r.2))
    over p u α (lettered j c ∷ fs) h W k d =
        let e : Content = content_of g q in
        let s : Text = skeleton fs ++ v in
        let mv = step_char q os p u α j c s h W in
        let i = over j (u ++ (α ▷ at j anychar ∷ [])) [] fs (up_to_past u α j anychar (atom_pos e p α j anychar s (rest_of e p u _ h W)))
        (subst (Words e) (past u α (at j anychar) s) W) k (omega arith) in
        to_acts (append_assoc (bracket_acts q α) (letter_read c ∷ []) (acts_in q fs ++ cs)) (i.0, i.1, then (letter c) (bracket_acts q α ++ letter_read c ∷ []) mv i.2)

  true_false : false ≡ true → ⊥
  true_false e = let z : ◌≡◌ {A = ℕ} 0 1 = cc in omega arith

  -- an open element, from just before its start tag
  abbrev Enters : ℕ → List Event → List Act → ℕ → Type 0
  Enters m xs bs d = (c : Control) (os : List Open) (bs₀ : List Act) → length os + d ≤ lim →
      ((q : ℕ) → T (produces g m q) → 1 ≤ d → move g n lim c (starts (some (tag_of g q))) ≡ go (bs₀ ++ start_tag q ∷ []) (inside (at_start q) os)) → To c xs (bs₀ ++ bs)

  pub enters_open : {m : ℕ} {xs : List Event} {bs : List Act} {d : ℕ} → Opened g m xs bs d → Enters m xs bs d
  enters_open (opened q h fs k v W) c os bs₀ l mv =
      let i = over q os v [] [] true (λ p u α h' W' none_left. (
        open_at q p,
        os,
        subst (λ (z : Str). Moves g n lim (inside (open_at q p) os) [] (bracket_acts q z ++ []) (inside (open_at q p) os)) (sym (none_left refl)) stay,
      ))
      0 [] [] fs refl W (λ s. cut_none fs k) (omega arith) in
      to_acts (append_assoc bs₀ (start_tag q ∷ []) (acts_in q fs ++ []) ∙ ap (λ (z : List Act). bs₀ ++ start_tag q ∷ z) (append-nil (acts_in q fs)))
      (to_events (ap (λ (z : List Event). starts (some (tag_of g q)) ∷ z) (append-nil (events fs)))
      (i.0, i.1, then (starts (some (tag_of g q))) (bs₀ ++ start_tag q ∷ []) (mv q h (omega arith)) i.2))
  enters_open (deeper q h fs j m' v W {xs} {bs} {d} r) c os bs₀ l mv =
      let i = over q os (at j (nonterminal m') ∷ v) xs bs false
      (λ p u α h' W' z. enters_open r (inside (open_at q p) os) (open_at q j ∷ os) (bracket_acts q α) (omega arith)
      (λ q' k' one. step_start q os p u α j m' q' v h' W' k' (omega arith)))
      0 [] [] fs refl W (λ s. absurd (true_false s)) (omega arith) in
      to_acts (append_assoc bs₀ (start_tag q ∷ []) (acts_in q fs ++ bs))
      (i.0, i.1, then (starts (some (tag_of g q))) (bs₀ ++ start_tag q ∷ []) (mv q h (omega arith)) i.2)

  -- the control goes over the events of an open tree
  pub open_to : {xs : List Event} {bs : List Act} {d : ℕ} → Opened g n xs bs d → d ≤ lim → To before xs bs
  open_to r l = enters_open r before [] [] (omega arith) (λ q h one. ap root_by (find_it g no_T_lem n q h))
