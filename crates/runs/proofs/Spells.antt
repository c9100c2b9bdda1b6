-- Demand 2 over tokens. A run over tokens is a run over events with a mark at each, whether white space passed there (`Walks`). The marks can be
-- read off the row of acts (`row_marks`), and a tree's row gives the tree's own marks; so demand 2 over events gives it over tokens.
-- Assumes nothing.
use mathlib.Core.Path.{◌≡◌, refl, sym, ◌∙◌, ap, subst}
use mathlib.Core.Bool.{Bool, true, false, ◌&&◌}
use mathlib.Core.List.{List, [], ◌∷◌, ◌++◌, append_assoc, append-nil}
use mathlib.Core.Logic.{◌↔◌}
use mathlib.Core.Option.{Option, none, some}
use Prim.Native.Nat.{ℕ, suc, ◌+◌}
use native.Mathlib.Omega.{arith}
use Rattle.expressions.specs.Expr.{Exp, nodes, Content}
use Rattle.expressions.specs.Words.{Bracket, opening, closing}
use Rattle.expressions.specs.Grammar.{Production}
use Rattle.sheet.specs.Sheet.{Sheet}
use Rattle.expressions.specs.Grammar.{content_of}
use Rattle.runs.specs.Lookup.{tag_of, find}
use Rattle.runs.specs.Visits.{grammar, Env}
use Rattle.runs.specs.Events.{Event, starts, ends, letter}
use Rattle.runs.specs.Parse.{Element, element, Children, childless, children, Parse, child, one_char, pair, first_of, second_of, repeat, void, Parses, done, next, yield}
use Rattle.runs.specs.Acts.{Act, node_first, node_second, start_tag, end_tag, letter_read, bracket_acts, Store, fresh_store, acts}
use Rattle.runs.specs.Machine.{Open, Control, before, inside, after, Turn, refuse, go, outer, root_by, move, most, Configuration, fresh_configuration, Answer, took, refused, acted, turned, step, Outcome, finished, stopped, onward, answered, run}
use Rattle.runs.specs.Line.{line, line_C, line_P, line_ps}
use Rattle.runs.specs.Taken.{Passed, ParsedTo, closed_with, Allowed}
use Rattle.runs.specs.Spells.{Token, start_token, end_token, empty_token, literal, reference, events_of_token, is_blank, blanks_pass, Mark, event_mark, events_of_marks, marks, marks_C, marks_P, marks_ps, Spells, all_read, blank_after, blank_between, one_event, empty_tag, Spelled, passes_at, unless_blank, step_token, through, onward_token, run_tokens}
use Rattle.runs.specs.SoFar.{passing, row_marks, row_passes, SpelledSoFar, events_so_far, TokenRefused}
use Rattle.runs.proofs.Rules.{no_T_lem, no_S_lem}
use Rattle.runs.proofs.Find.{find_sound}
use Rattle.runs.proofs.Moves.{Moves, stay, then, moves_one, run_moves, moves_run, run_through, run_stops, refuse_go, go_inj}
use Rattle.runs.proofs.Complete.{complete}
use Rattle.runs.proofs.Sound.{started, was_read, ended}
use Rattle.runs.proofs.Main.{taken_iff}
use Rattle.runs.proofs.Answers.{moves_allowed, allowed_moves, run_append, stopped_iff}
use Rattle.runs.proofs.Execute.{both_true}

-- a tree's row has the tree's marks
abbrev Flags : List Production → List Act → (Bool → List Mark) → Type 0
Flags g bs f = (ps : List Bool) (rest : List Act) → row_marks g ps (bs ++ rest) ≡ f (passing ps) ++ row_marks g ps rest

flags_append : (g : List Production) (bs cs : List Act) (f h : Bool → List Mark) → Flags g bs f → Flags g cs h → Flags g (bs ++ cs) (λ b. f b ++ h b)
flags_append g bs cs f h F H ps rest =
    ap (row_marks g ps) (append_assoc bs cs rest) ∙ F ps (cs ++ rest) ∙ ap (λ (l : List Mark). f (passing ps) ++ l) (H ps rest)
    ∙ sym (append_assoc (f (passing ps)) (h (passing ps)) (row_marks g ps rest))

flags_wrap : (g : List Production) (q i : ℕ) (bs : List Act) (f : Bool → List Mark) → Flags g bs f → Flags g (node_first q i ∷ (bs ++ node_second q i ∷ [])) f
flags_wrap g q i bs f F ps rest = ap (row_marks g ps) (append_assoc bs (node_second q i ∷ []) rest) ∙ F ps (node_second q i ∷ rest)

mutual
  flags_tree : {g : List Production} {n : ℕ} (t : Element g n) → Flags g (line t) (marks t)
  flags_tree {g} (element q h c) ps rest =
      let b : Bool = blanks_pass (content_of g q) in
      let e : Mark = event_mark b (ends (some (tag_of g q))) in
      ap (λ (l : List Mark). event_mark (passing ps) (starts (some (tag_of g q))) ∷ l)
      (ap (row_marks g (b ∷ ps)) (append_assoc (line_C c q) (end_tag q ∷ []) rest) ∙ flags_children c q (b ∷ ps) (end_tag q ∷ rest)
      ∙ sym (append_assoc (marks_C c b) (e ∷ []) (row_marks g ps rest)))

  flags_children : {g : List Production} {c : Content} (p : Children g c) (q : ℕ) → Flags g (line_C p q) (marks_C p)
  flags_children childless q ps rest = refl
  flags_children (children p) q ps rest = flags_parse p q 1 ps rest

  flags_parse : {g : List Production} {e : Exp} (p : Parse g e) (q i : ℕ) → Flags g (line_P p q i) (marks_P p)
  flags_parse {g} (child t) q i = flags_wrap g q i (line t) (λ b. marks t b) (λ ps rest. flags_tree t ps rest)
  flags_parse {g} (one_char c) q i = flags_wrap g q i (letter_read c ∷ []) (λ b. event_mark b (letter c) ∷ []) (λ ps rest. refl)
  flags_parse {g} (pair {l} x y) q i =
      flags_wrap g q i (line_P x q (suc i) ++ line_P y q (suc i + nodes l)) (λ b. marks_P x b ++ marks_P y b)
      (flags_append g (line_P x q (suc i)) (line_P y q (suc i + nodes l)) (λ b. marks_P x b) (λ b. marks_P y b) (λ ps rest. flags_parse x q (suc i) ps rest)
      (λ ps rest. flags_parse y q (suc i + nodes l) ps rest))
  flags_parse {g} (first_of x) q i = flags_wrap g q i (line_P x q (suc i)) (λ b. marks_P x b) (λ ps rest. flags_parse x q (suc i) ps rest)
  flags_parse {g} (second_of {l} y) q i = flags_wrap g q i (line_P y q (suc i + nodes l)) (λ b. marks_P y b) (λ ps rest. flags_parse y q (suc i + nodes l) ps rest)
  flags_parse {g} (repeat ps) q i = flags_wrap g q i (line_ps ps q (suc i)) (λ b. marks_ps ps b) (λ bs rest. flags_parses ps q (suc i) bs rest)
  flags_parse {g} void q i = flags_wrap g q i [] (λ b. []) (λ ps rest. refl)

  flags_parses : {g : List Production} {e : Exp} (ps : Parses g e) (q i : ℕ) → Flags g (line_ps ps q i) (marks_ps ps)
  flags_parses done q i bs rest = refl
  flags_parses {g} (next p ps) q i bs rest =
      flags_append g (line_P p q i) (line_ps ps q i) (λ b. marks_P p b) (λ b. marks_ps ps b) (λ cs r. flags_parse p q i cs r) (λ cs r. flags_parses ps q i cs r) bs rest

-- a run's row has the marks of the run
abbrev stack_of : List Production → List Open → List Bool
stack_of g [] = []
stack_of g (o ∷ os) = blanks_pass (content_of g o.production) ∷ stack_of g os

abbrev stack_at : List Production → Control → List Bool
stack_at g before = []
stack_at g (inside o os) = stack_of g (o ∷ os)
stack_at g after = []

outer_stack : (g : List Production) (os : List Open) → stack_of g os ≡ stack_at g (outer os)
outer_stack g [] = refl
outer_stack g (o ∷ os) = refl

flagged_brackets : (g : List Production) (q : ℕ) (α : List Bracket) (ps : List Bool) (rest : List Act) → row_marks g ps (bracket_acts q α ++ rest) ≡ row_marks g ps rest
flagged_brackets g q [] ps rest = refl
flagged_brackets g q (opening i ∷ α) ps rest = flagged_brackets g q α ps rest
flagged_brackets g q (closing i ∷ α) ps rest = flagged_brackets g q α ps rest

module _ (g : List Production) (n lim : ℕ) where
  -- the acts of one event: brackets, then one act that is marked
  after_brackets : (q : ℕ) (α : List Bracket) (a : Act) (bs : List Act) → bs ≡ bracket_acts q α ++ a ∷ [] → (ps : List Bool) (rest : List Act) →
      row_marks g ps (bs ++ rest) ≡ row_marks g ps (a ∷ rest)
  after_brackets q α a bs e ps rest =
      ap (λ (l : List Act). row_marks g ps (l ++ rest)) e ∙ ap (row_marks g ps) (append_assoc (bracket_acts q α) (a ∷ []) rest) ∙ flagged_brackets g q α ps (a ∷ rest)

  -- and what is open then
  passes_brackets : (q : ℕ) (α : List Bracket) (a : Act) (bs : List Act) → bs ≡ bracket_acts q α ++ a ∷ [] → (ps : List Bool) (rest : List Act) →
      row_passes g ps (bs ++ rest) ≡ row_passes g ps (a ∷ rest)
  passes_brackets q α a bs e ps rest = ap (λ (l : List Act). row_passes g ps (l ++ rest)) e ∙ over α
    where
      over : (β : List Bracket) → row_passes g ps ((bracket_acts q β ++ a ∷ []) ++ rest) ≡ row_passes g ps (a ∷ rest)
      over [] = refl
      over (opening i ∷ β) = over β
      over (closing i ∷ β) = over β

  move_passes : (c : Control) (x : Event) (bs : List Act) (c' : Control) → move g n lim c x ≡ go bs c' → (rest : List Act) →
      row_passes g (stack_at g c) (bs ++ rest) ≡ row_passes g (stack_at g c') rest
  move_passes before (starts none) bs c' e rest = refuse_go bs c' e
  move_passes before (starts (some t)) bs c' e rest = by (find g n t) e
    where
      by : (f : Option ℕ) → root_by f ≡ go bs c' → row_passes g [] (bs ++ rest) ≡ row_passes g (stack_at g c') rest
      by none e = refuse_go bs c' e
      by (some q) e =
          let j = go_inj _ bs _ c' e in
          ap (λ (l : List Act). row_passes g [] (l ++ rest)) (sym j.0) ∙ ap (λ (c : Control). row_passes g (stack_at g c) rest) j.1
  move_passes before (ends t) bs c' e rest = refuse_go bs c' e
  move_passes before (letter y) bs c' e rest = refuse_go bs c' e
  move_passes (inside o os) (starts none) bs c' e rest = refuse_go bs c' e
  move_passes (inside o os) (starts (some t)) bs c' e rest =
      let d = started g lim o os n t bs c' e in
      passes_brackets o.production d.by.string (start_tag d.production) bs d.are_acts (stack_of g (o ∷ os)) rest
      ∙ ap (λ (c : Control). row_passes g (stack_at g c) rest) (sym d.is_control)
  move_passes (inside o os) (ends t) bs c' e rest =
      let d = ended g lim o os n t bs c' e in
      passes_brackets o.production d.by (end_tag o.production) bs d.are_acts (stack_of g (o ∷ os)) rest
      ∙ ap (λ (l : List Bool). row_passes g l rest) (outer_stack g os ∙ ap (stack_at g) (sym d.is_control))
  move_passes (inside o os) (letter y) bs c' e rest =
      let d = was_read g lim o os n y bs c' e in
      passes_brackets o.production d.by.string (letter_read y) bs d.are_acts (stack_of g (o ∷ os)) rest
      ∙ ap (λ (c : Control). row_passes g (stack_at g c) rest) (sym d.is_control)
  move_passes after x bs c' e rest = refuse_go bs c' e

  moves_passes : {c c' : Control} {xs : List Event} {bs : List Act} → Moves g n lim c xs bs c' → row_passes g (stack_at g c) bs ≡ stack_at g c'
  moves_passes stay = refl
  moves_passes (then {c} {c'} {c''} {xs} {cs} x bs e m) = move_passes c x bs c' e cs ∙ moves_passes m

  move_flags : (c : Control) (x : Event) (bs : List Act) (c' : Control) → move g n lim c x ≡ go bs c' → (rest : List Act) →
      row_marks g (stack_at g c) (bs ++ rest) ≡ event_mark (passes_at g c) x ∷ row_marks g (stack_at g c') rest
  move_flags before (starts none) bs c' e rest = refuse_go bs c' e
  move_flags before (starts (some t)) bs c' e rest = by (find g n t) refl e
    where
      by : (f : Option ℕ) → find g n t ≡ f → root_by f ≡ go bs c' → row_marks g [] (bs ++ rest) ≡ event_mark true (starts (some t)) ∷ row_marks g (stack_at g c') rest
      by none i e = refuse_go bs c' e
      by (some q) i e =
          let j = go_inj _ bs _ c' e in
          ap (λ (l : List Act). row_marks g [] (l ++ rest)) (sym j.0)
          ∙ (λ k. event_mark true (starts (some ((find_sound g n t q i).1 k))) ∷ row_marks g (stack_at g (j.1 k)) rest)
  move_flags before (ends t) bs c' e rest = refuse_go bs c' e
  move_flags before (letter y) bs c' e rest = refuse_go bs c' e
  move_flags (inside o os) (starts none) bs c' e rest = refuse_go bs c' e
  move_flags (inside o os) (starts (some t)) bs c' e rest =
      let d = started g lim o os n t bs c' e in
      let i = (find_sound g d.nonterm t d.production d.is_found).1 in
      let j : c' ≡ _ = d.is_control in
      after_brackets o.production d.by.string (start_tag d.production) bs d.are_acts (stack_of g (o ∷ os)) rest
      ∙ (λ k. event_mark (blanks_pass (content_of g o.production)) (starts (some (i k))) ∷ row_marks g (stack_at g (sym j k)) rest)
  move_flags (inside o os) (ends t) bs c' e rest =
      let d = ended g lim o os n t bs c' e in
      let i : stack_of g os ≡ stack_at g c' = outer_stack g os ∙ ap (stack_at g) (sym d.is_control) in
      let j : t ≡ some (tag_of g o.production) = d.is_tag in
      after_brackets o.production d.by (end_tag o.production) bs d.are_acts (stack_of g (o ∷ os)) rest
      ∙ (λ k. event_mark (blanks_pass (content_of g o.production)) (ends (sym j k)) ∷ row_marks g (i k) rest)
  move_flags (inside o os) (letter y) bs c' e rest =
      let d = was_read g lim o os n y bs c' e in
      after_brackets o.production d.by.string (letter_read y) bs d.are_acts (stack_of g (o ∷ os)) rest
      ∙ ap (λ (c : Control). event_mark (blanks_pass (content_of g o.production)) (letter y) ∷ row_marks g (stack_at g c) rest) (sym d.is_control)
  move_flags after x bs c' e rest = refuse_go bs c' e

-- a run over events with its marks
data Walks (s : Sheet) : Configuration → List Mark → Configuration → Type 0 where
  stays : {z : Configuration} → Walks s z [] z
  steps : {z z' z'' : Configuration} {ms : List Mark} (x : Event) → step s z x ≡ took z' → Walks s z' ms z'' → Walks s z (event_mark (passes_at (grammar s) z.control) x ∷ ms) z''

walks_run : (s : Sheet) {z z' : Configuration} {ms : List Mark} → Walks s z ms z' → run s z (events_of_marks ms) ≡ finished z'
walks_run s stays = refl
walks_run s {z} (steps {ms = ms} x e w) = ap (λ (a : Answer). onward z (x ∷ events_of_marks ms) a (λ y. run s y (events_of_marks ms))) e ∙ walks_run s w

walks_append : (s : Sheet) {z z' z'' : Configuration} {ms ns : List Mark} → Walks s z ms z' → Walks s z' ns z'' → Walks s z (ms ++ ns) z''
walks_append s stays w = w
walks_append s (steps x e v) w = steps x e (walks_append s v w)

run_walks : (s : Sheet) (z : Configuration) (xs : List Event) (z' : Configuration) → run s z xs ≡ finished z' → (ms : List Mark) × Walks s z ms z' × (events_of_marks ms ≡ xs)
run_walks s z [] z' e = let h : z ≡ z' = cc in ([], subst (Walks s z []) h stays, refl)
run_walks s z (x ∷ xs) z' e = by (λ y h. run_walks s y xs z' h) (step s z x) refl e
  where
    by : ((y : Configuration) → run s y xs ≡ finished z' → (ms : List Mark) × Walks s y ms z' × (events_of_marks ms ≡ xs)) → (a : Answer) → step s z x ≡ a →
        onward z (x ∷ xs) a (λ y. run s y xs) ≡ finished z' → (ms : List Mark) × Walks s z ms z' × (events_of_marks ms ≡ x ∷ xs)
    by f (took y) i e = let t = f y e in (event_mark (passes_at (grammar s) z.control) x ∷ t.0, steps x i t.1, ap (λ (l : List Event). x ∷ l) t.2)
    by f (refused k) i e = absurd (let y : ◌≡◌ {A = ℕ} 0 1 = cc in omega arith)

-- one step is a move
step_move : (s : Sheet) (z z' : Configuration) (x : Event) → step s z x ≡ took z' → (bs : List Act) × (move (grammar s) s.start_nonterminal most z.control x ≡ go bs z'.control)
step_move s z z' x e = by_turn (move (grammar s) s.start_nonterminal most z.control x) refl e
  where
    by_store : (bs : List Act) (c : Control) (o : Option Store) → acted c o ≡ took z' → c ≡ z'.control
    by_store bs c none e = absurd (let y : ◌≡◌ {A = ℕ} 0 1 = cc in omega arith)
    by_store bs c (some m) e = let h : record { control = c; store = m } ≡ z' = cc in ap (λ (y : Configuration). y.control) h

    by_turn : (u : Turn) → move (grammar s) s.start_nonterminal most z.control x ≡ u → turned s z.store u ≡ took z' →
        (bs : List Act) × (move (grammar s) s.start_nonterminal most z.control x ≡ go bs z'.control)
    by_turn (refuse k) i e = absurd (let y : ◌≡◌ {A = ℕ} 0 1 = cc in omega arith)
    by_turn (go bs c) i e = (bs, i ∙ ap (go bs) (by_store bs c (acts s bs z.store) e))

walks_flags : (s : Sheet) {z z' : Configuration} {ms : List Mark} → Walks s z ms z' →
    (bs : List Act) × Moves (grammar s) s.start_nonterminal most z.control (events_of_marks ms) bs z'.control × (row_marks (grammar s) (stack_at (grammar s) z.control) bs ≡ ms)
walks_flags s stays = ([], stay, refl)
walks_flags s {z} (steps {z' = y} x e w) =
    let t = walks_flags s w in
    let m = step_move s z y x e in (
      m.0 ++ t.0,
      then x m.0 m.1 t.1,
      move_flags (grammar s) s.start_nonterminal most z.control x m.0 y.control m.1 t.0
          ∙ ap (λ (l : List Mark). event_mark (passes_at (grammar s) z.control) x ∷ l) t.2,
    )

-- tokens that a run takes spell the run's marks
end_walk : (s : Sheet) {z z' : Configuration} {ms : List Mark} → Walks s z ms z' → ms ≡ [] → z ≡ z'
end_walk s stays e = refl
end_walk s (steps x e w) i = absurd (let y : ◌≡◌ {A = ℕ} 0 1 = cc in omega arith)

blank_first : (s : Sheet) {z z' : Configuration} {ms : List Mark} {ts : List Token} (k : Token) → is_blank k ≡ true → passes_at (grammar s) z.control ≡ true → Walks s z ms z' →
    Spells (passes_at (grammar s) z'.control) ms ts → Spells (passes_at (grammar s) z'.control) ms (k ∷ ts)
blank_first s k b p stays h = blank_after k b p h
blank_first s {z} {z'} {ms} {ts} k b p (steps {ms = ns} x e w) h =
    let l : Bool = passes_at (grammar s) z'.control in
    subst (λ (c : Bool). Spells l (event_mark c x ∷ ns) (k ∷ ts)) (sym p) (blank_between k x b (subst (λ (c : Bool). Spells l (event_mark c x ∷ ns) ts) p h))

module _ (s : Sheet) where
  abbrev Spelt : Configuration → List Token → Configuration → Type 0
  Spelt z ts z' = (ms : List Mark) × Walks s z ms z' × Spells (passes_at (grammar s) z'.control) ms ts

  -- one token that is not passed over: its events, each a step
  one_walk : {z z' : Configuration} {ms : List Mark} (x : Event) → Walks s z ms z' → events_of_marks ms ≡ x ∷ [] → ms ≡ event_mark (passes_at (grammar s) z.control) x ∷ []
  one_walk x stays e = absurd (let y : ◌≡◌ {A = ℕ} 0 1 = cc in omega arith)
  one_walk {z} x (steps y e stays) i = let h : y ≡ x = cc in ap (λ (a : Event). event_mark (passes_at (grammar s) z.control) a ∷ []) h
  one_walk x (steps y e (steps y' e' w)) i = absurd (let y : ◌≡◌ {A = ℕ} 0 1 = cc in omega arith)

  single : (z z₁ z' : Configuration) (k : Token) (x : Event) (ts : List Token) → is_blank k && passes_at (grammar s) z.control ≡ false → events_of_token k ≡ x ∷ [] →
      run s z (x ∷ []) ≡ finished z₁ → Spelt z₁ ts z' → Spelt z (k ∷ ts) z'
  single z z₁ z' k x ts b i r t =
      let w = run_walks s z (x ∷ []) z₁ r in
      let m : w.0 ≡ event_mark (passes_at (grammar s) z.control) x ∷ [] = one_walk x w.1 w.2 in (
        w.0 ++ t.0,
        walks_append s w.1 t.1,
        subst (λ (l : List Mark). Spells (passes_at (grammar s) z'.control) (l ++ t.0) (k ∷ ts)) (sym m) (one_event k (passes_at (grammar s) z.control) x b i t.2),
      )

  two_walk : {z z' : Configuration} {ms : List Mark} (x y : Event) → Walks s z ms z' → events_of_marks ms ≡ x ∷ y ∷ [] → (b b' : Bool) × (ms ≡ event_mark b x ∷ event_mark b' y ∷ [])
  two_walk x y stays e = absurd (let y : ◌≡◌ {A = ℕ} 0 1 = cc in omega arith)
  two_walk {z} x y (steps {z' = z₁} {ms = ms} x' e w) i =
      let h : x' ≡ x = cc in
      let j : events_of_marks ms ≡ y ∷ [] = cc in
      let m : ms ≡ event_mark (passes_at (grammar s) z₁.control) y ∷ [] = one_walk y w j in
      (passes_at (grammar s) z.control, passes_at (grammar s) z₁.control, (λ k. event_mark (passes_at (grammar s) z.control) (h k) ∷ m k))

  double : (z z₁ z' : Configuration) (t : Option ℕ) (ts : List Token) → run s z (starts t ∷ ends t ∷ []) ≡ finished z₁ → Spelt z₁ ts z' → Spelt z (empty_token t ∷ ts) z'
  double z z₁ z' t ts r p =
      let w = run_walks s z (starts t ∷ ends t ∷ []) z₁ r in
      let m = two_walk (starts t) (ends t) w.1 w.2 in (
        w.0 ++ p.0,
        walks_append s w.1 p.1,
        subst (λ (l : List Mark). Spells (passes_at (grammar s) z'.control) (l ++ p.0) (empty_token t ∷ ts)) (sym m.2) (empty_tag t m.0 m.1 p.2),
      )

  by_token : (z z₁ z' : Configuration) (k : Token) (ts : List Token) → is_blank k && passes_at (grammar s) z.control ≡ false → run s z (events_of_token k) ≡ finished z₁ → Spelt z₁ ts z' →
      Spelt z (k ∷ ts) z'
  by_token z z₁ z' (start_token t) ts b r p = single z z₁ z' (start_token t) (starts t) ts b refl r p
  by_token z z₁ z' (end_token t) ts b r p = single z z₁ z' (end_token t) (ends t) ts b refl r p
  by_token z z₁ z' (empty_token t) ts b r p = double z z₁ z' t ts r p
  by_token z z₁ z' (literal c) ts b r p = single z z₁ z' (literal c) (letter c) ts b refl r p
  by_token z z₁ z' (reference c) ts b r p = single z z₁ z' (reference c) (letter c) ts b refl r p

  tokens_spell : (z : Configuration) (ts : List Token) (z' : Configuration) → run_tokens s z ts ≡ through z' → Spelt z ts z'
  tokens_spell z [] z' e = let h : z ≡ z' = cc in ([], subst (Walks s z []) h stays, all_read)
  tokens_spell z (k ∷ ts) z' e = by (λ y h. tokens_spell y ts z' h) (is_blank k && passes_at (grammar s) z.control) refl e
    where
      by_answer : ((y : Configuration) → run_tokens s y ts ≡ through z' → Spelt y ts z') → is_blank k && passes_at (grammar s) z.control ≡ false →
          (a : Answer) → answered (run s z (events_of_token k)) ≡ a → onward_token z (k ∷ ts) a (λ y. run_tokens s y ts) ≡ through z' → Spelt z (k ∷ ts) z'
      by_answer f b (took y) i e = by_token z y z' k ts b (run_through (run s z (events_of_token k)) y i) (f y e)
      by_answer f b (refused j) i e = absurd (let y : ◌≡◌ {A = ℕ} 0 1 = cc in omega arith)

      by : ((y : Configuration) → run_tokens s y ts ≡ through z' → Spelt y ts z') → (b : Bool) → is_blank k && passes_at (grammar s) z.control ≡ b →
          onward_token z (k ∷ ts) (unless_blank b z (answered (run s z (events_of_token k)))) (λ y. run_tokens s y ts) ≡ through z' → Spelt z (k ∷ ts) z'
      by f true i e =
          let t = f z e in
          let h = both_true (is_blank k) (passes_at (grammar s) z.control) i in
          (t.0, t.1, blank_first s k h.0 h.1 t.1 t.2)
      by f false i e = by_answer f i (answered (run s z (events_of_token k))) refl e

  -- and tokens that spell a run's marks are taken
  skip : (z z' : Configuration) (k : Token) (ts : List Token) → is_blank k ≡ true → passes_at (grammar s) z.control ≡ true → run_tokens s z ts ≡ through z' → run_tokens s z (k ∷ ts) ≡ through z'
  skip z z' k ts b p r =
      ap (λ (c : Bool). onward_token z (k ∷ ts) (unless_blank (c && passes_at (grammar s) z.control) z (answered (run s z (events_of_token k)))) (λ y. run_tokens s y ts)) b
      ∙ ap (λ (c : Bool). onward_token z (k ∷ ts) (unless_blank c z (answered (run s z (events_of_token k)))) (λ y. run_tokens s y ts)) p ∙ r

  read : (z z₁ z' : Configuration) (k : Token) (ts : List Token) → is_blank k && passes_at (grammar s) z.control ≡ false → run s z (events_of_token k) ≡ finished z₁ →
      run_tokens s z₁ ts ≡ through z' → run_tokens s z (k ∷ ts) ≡ through z'
  read z z₁ z' k ts b r t =
      ap (λ (c : Bool). onward_token z (k ∷ ts) (unless_blank c z (answered (run s z (events_of_token k)))) (λ y. run_tokens s y ts)) b
      ∙ ap (λ (o : Outcome). onward_token z (k ∷ ts) (answered o) (λ y. run_tokens s y ts)) r ∙ t

  record First (z : Configuration) (b : Bool) (x : Event) (ms : List Mark) (z' : Configuration) : Type 0 where
    pub next_state : Configuration
    pub flag : b ≡ passes_at (grammar s) z.control
    pub stepped : step s z x ≡ took next_state
    pub later : Walks s next_state ms z'

  first_step : {z z' : Configuration} {ns : List Mark} → Walks s z ns z' → (b : Bool) (x : Event) (ms : List Mark) → ns ≡ event_mark b x ∷ ms → First z b x ms z'
  first_step stays b x ms i = absurd (let y : ◌≡◌ {A = ℕ} 0 1 = cc in omega arith)
  first_step {z} {z'} (steps {z' = y} {ms = ns} x' e w) b x ms i =
      let hb : passes_at (grammar s) z.control ≡ b = ap (λ (l : List Mark). top_flag l) i in
      let hx : x' ≡ x = ap (λ (l : List Mark). top_event x l) i in
      let hm : ns ≡ ms = ap (λ (l : List Mark). rest_of_marks l) i in
      record { next_state = y; flag = sym hb; stepped = ap (step s z) (sym hx) ∙ e; later = subst (λ (l : List Mark). Walks s y l z') hm w }
    where
      top_flag : List Mark → Bool
      top_flag [] = true
      top_flag (m ∷ l) = m.passes

      top_event : Event → List Mark → Event
      top_event d [] = d
      top_event d (m ∷ l) = m.event

      rest_of_marks : List Mark → List Mark
      rest_of_marks [] = []
      rest_of_marks (m ∷ l) = l

  one_run : (z z₁ : Configuration) (x : Event) → step s z x ≡ took z₁ → run s z (x ∷ []) ≡ finished z₁
  one_run z z₁ x e = ap (λ (a : Answer). onward z (x ∷ []) a (λ y. finished y)) e

  spell_tokens : {last : Bool} {ms : List Mark} {ts : List Token} → Spells last ms ts → (z z' : Configuration) → Walks s z ms z' → passes_at (grammar s) z'.control ≡ last →
      run_tokens s z ts ≡ through z'
  spell_tokens all_read z z' w p = ap through (end_walk s w refl)
  spell_tokens (blank_after {ts = ts} k b l h) z z' w p =
      skip z z' k ts b (ap (λ (y : Configuration). passes_at (grammar s) y.control) (end_walk s w refl) ∙ p ∙ l) (spell_tokens h z z' w p)
  spell_tokens (blank_between {ms = ms} {ts = ts} k x b h) z z' w p =
      let f = first_step w true x ms refl in
      skip z z' k ts b (sym f.flag) (spell_tokens h z z' w p)
  spell_tokens (one_event {ms = ms} {ts = ts} k b x c i h) z z' w p =
      let f = first_step w b x ms refl in
      read z f.next_state z' k ts (ap (λ (d : Bool). is_blank k && d) (sym f.flag) ∙ c) (ap (run s z) i ∙ one_run z f.next_state x f.stepped)
      (spell_tokens h f.next_state z' f.later p)
  spell_tokens (empty_tag {ms = ms} {ts = ts} t b b' h) z z' w p =
      let f = first_step w b (starts t) (event_mark b' (ends t) ∷ ms) refl in
      let f' = first_step f.later b' (ends t) ms refl in
      read z f'.next_state z' (empty_token t) ts refl
      (ap (λ (a : Answer). onward z (starts t ∷ ends t ∷ []) a (λ y. run s y (ends t ∷ []))) f.stepped ∙ one_run f.next_state f'.next_state (ends t) f'.stepped)
      (spell_tokens h f'.next_state z' f'.later p)

-- the marks of a run over a tree's events are the tree's
walks_marks : (s : Sheet) → Passed s → (v : Env) (ms : List Mark) → Walks s fresh_configuration ms (closed_with v) → (p : ParsedTo s (events_of_marks ms) v) → ms ≡ marks p.root true
walks_marks s ok v ms w p =
    let t = walks_flags s w in
    let g : List Production = grammar s in
    let n : ℕ = s.start_nonterminal in
    let m = complete g n most (no_T_lem g ok.keeps_T) (no_S_lem g ok.keeps_S) p.root p.fits in
    let b : t.0 ≡ line p.root = (moves_one t.1 (subst (λ (xs : List Event). Moves g n most before xs (line p.root) after) p.are_events m)).0 in
    sym t.2 ∙ ap (row_marks g []) (b ∙ sym (append-nil (line p.root))) ∙ flags_tree p.root [] [] ∙ append-nil (marks p.root true)

pub spelled_iff : (s : Sheet) → Passed s → (ts : List Token) (v : Env) → (run_tokens s fresh_configuration ts ≡ through (closed_with v)) ↔ Spelled s ts v
spelled_iff s ok ts v = (to, from)
  where
    to : run_tokens s fresh_configuration ts ≡ through (closed_with v) → Spelled s ts v
    to r =
        let t = tokens_spell s fresh_configuration ts (closed_with v) r in
        let p = (taken_iff s ok (events_of_marks t.0) v).0 (walks_run s t.1) in
        record {
          root = p.root;
          spells = subst (λ (ms : List Mark). Spells true ms ts) (walks_marks s ok v t.0 t.1 p) t.2;
          fits = p.fits;
          value = p.value;
        }

    from : Spelled s ts v → run_tokens s fresh_configuration ts ≡ through (closed_with v)
    from d =
        let p : ParsedTo s (yield d.root) v = record { root = d.root; are_events = refl; fits = d.fits; value = d.value } in
        let w = run_walks s fresh_configuration (yield d.root) (closed_with v) ((taken_iff s ok (yield d.root) v).1 p) in
        let q : ParsedTo s (events_of_marks w.0) v = record { root = d.root; are_events = sym w.2; fits = d.fits; value = d.value } in
        spell_tokens s (subst (λ (ms : List Mark). Spells true ms ts) (sym (walks_marks s ok v w.0 w.1 q)) d.spells) fresh_configuration (closed_with v) w.1 refl

-- tokens that are taken spell events that are taken, whether or not the root is closed
pub through_spells : (s : Sheet) (ts : List Token) (z : Configuration) → run_tokens s fresh_configuration ts ≡ through z →
    (ms : List Mark) × (run s fresh_configuration (events_of_marks ms) ≡ finished z) × Spells (passes_at (grammar s) z.control) ms ts
through_spells s ts z r = let t = tokens_spell s fresh_configuration ts z r in (t.0, walks_run s t.1, t.2)

-- a token that is refused is no white space that passes, and the number is that of the first of its events that is refused
pub token_refused : (s : Sheet) (z : Configuration) (k : Token) (j : ℕ) → step_token s z k ≡ refused j →
    (is_blank k && passes_at (grammar s) z.control ≡ false) × ((z' : Configuration) × (left : List Event) × (run s z (events_of_token k) ≡ stopped j z' left))
token_refused s z k j e = by (is_blank k && passes_at (grammar s) z.control) refl e
  where
    by : (b : Bool) → is_blank k && passes_at (grammar s) z.control ≡ b → unless_blank b z (answered (run s z (events_of_token k))) ≡ refused j →
        (is_blank k && passes_at (grammar s) z.control ≡ false) × ((z' : Configuration) × (left : List Event) × (run s z (events_of_token k) ≡ stopped j z' left))
    by true i e = absurd (let y : ◌≡◌ {A = ℕ} 0 1 = cc in omega arith)
    by false i e = (i, run_stops (run s z (events_of_token k)) j e)

-- tokens so far: the rows that the grammar allows are those of the machine's moves
passes_here : (g : List Production) (c : Control) → passing (stack_at g c) ≡ passes_at g c
passes_here g before = refl
passes_here g (inside o os) = refl
passes_here g after = refl

module _ (s : Sheet) (ok : Passed s) (ts : List Token) (m : Store) where
  abbrev g : List Production
  g = grammar s

  abbrev n : ℕ
  n = s.start_nonterminal

  to_so_far : (c : Control) → run_tokens s fresh_configuration ts ≡ through (record { control = c; store = m }) → SpelledSoFar s ts m
  to_so_far c r =
      let z : Configuration = record { control = c; store = m } in
      let t = tokens_spell s fresh_configuration ts z r in
      let w = walks_flags s t.1 in
      let bs : List Act = w.0 in
      let a = moves_allowed g n most (omega arith) (events_of_marks t.0) bs c w.1 in
      let d = moves_run s before fresh_store (events_of_marks t.0) z (walks_run s t.1) in
      let same : d.row ≡ bs = (moves_one d.moved w.1).0 in
      let p : passes_at g c ≡ passing (row_passes g [] bs) = sym (passes_here g c) ∙ ap passing (sym (moves_passes g n most w.1)) in
      record {
        row = bs;
        deep = a.0;
        allowed = subst (λ (ms : List Mark). Allowed g n (events_of_marks ms) bs a.0) (sym w.2) a.1;
        fits = a.2;
        spells = subst (λ (b : Bool). Spells b (row_marks g [] bs) ts) p (subst (λ (ms : List Mark). Spells (passes_at g c) ms ts) (sym w.2) t.2);
        value = ap (λ (l : List Act). acts s l fresh_store) (sym same) ∙ d.done;
      }

  -- the run of such tokens: over events, over tokens, and whether white space passes then
  pub record RunSoFar (h : SpelledSoFar s ts m) : Type 0 where
    pub control : Control
    pub events_run : run s fresh_configuration (events_so_far h) ≡ finished (record { control = control; store = m })
    pub tokens_run : run_tokens s fresh_configuration ts ≡ through (record { control = control; store = m })
    pub passes : passes_at g control ≡ passing (row_passes g [] h.row)

  pub so_far_run : (h : SpelledSoFar s ts m) → RunSoFar h
  so_far_run h =
      let xs : List Event = events_of_marks (row_marks g [] h.row) in
      let a = allowed_moves g n most (no_T_lem g ok.keeps_T) (no_S_lem g ok.keeps_S) h.allowed h.fits in
      let c : Control = a.0 in
      let z : Configuration = record { control = c; store = m } in
      let r : run s fresh_configuration xs ≡ finished z = run_through (run s fresh_configuration xs) z (run_moves s a.1 fresh_store ∙ ap (acted c) h.value) in
      let w = run_walks s fresh_configuration xs z r in
      let f = walks_flags s w.1 in
      let same : f.0 ≡ h.row = (moves_one f.1 (subst (λ (ys : List Event). Moves g n most before ys h.row c) (sym w.2) a.1)).0 in
      let ms : row_marks g [] h.row ≡ w.0 = ap (row_marks g []) (sym same) ∙ f.2 in
      let p : passes_at g c ≡ passing (row_passes g [] h.row) = sym (passes_here g c) ∙ ap passing (sym (moves_passes g n most a.1)) in
      record {
        control = c;
        events_run = r;
        tokens_run = spell_tokens s (subst (λ (l : List Mark). Spells (passing (row_passes g [] h.row)) l ts) ms h.spells) fresh_configuration z w.1 p;
        passes = p;
      }

  -- tokens are taken exactly when they spell the events of a tree, whole or open, within the limit and without a reject
  pub so_far_iff : ((c : Control) × (run_tokens s fresh_configuration ts ≡ through (record { control = c; store = m }))) ↔ SpelledSoFar s ts m
  so_far_iff = ((λ p. to_so_far p.0 p.1), (λ h. let r = so_far_run h in (r.control, r.tokens_run)))

  -- and the next is refused exactly when `TokenRefused` gives it that number
  module _ (h : SpelledSoFar s ts m) (r : RunSoFar h) (k : Token) (j : ℕ) where
    abbrev now : Configuration
    now = record { control = r.control; store = m }

    pub token_refused_iff : (step_token s now k ≡ refused j) ↔ TokenRefused h k j
    token_refused_iff = (to, from)
      where
        to : step_token s now k ≡ refused j → TokenRefused h k j
        to e =
            let t = token_refused s now k j e in
            let z' : Configuration = t.1.0 in
            record {
              counts = ap (λ (b : Bool). is_blank k && b) (sym r.passes) ∙ t.0;
              reached = z'.store;
              left = t.1.1;
              stops =
                  (stopped_iff s ok (events_so_far h ++ events_of_token k) j z'.store t.1.1).0
                  (z'.control, run_append s fresh_configuration now (events_so_far h) (events_of_token k) r.events_run ∙ t.1.2);
            }

        from : TokenRefused h k j → step_token s now k ≡ refused j
        from d =
            let t = (stopped_iff s ok (events_so_far h ++ events_of_token k) j d.reached d.left).1 d.stops in
            let e : run s now (events_of_token k) ≡ stopped j (record { control = t.0; store = d.reached }) d.left =
            sym (run_append s fresh_configuration now (events_so_far h) (events_of_token k) r.events_run) ∙ t.1 in
            ap (λ (b : Bool). unless_blank b now (answered (run s now (events_of_token k)))) (ap (λ (b : Bool). is_blank k && b) r.passes ∙ d.counts) ∙ ap answered e
