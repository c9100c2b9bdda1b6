-- An event that a visit rejects: inside an element its acts are the brackets of the way that was found and one act more (`behind`), so it is the bracket at which they
-- first come to nothing (`visit_at`) or that last act (`last_at`); outside, the root's start tag (`root_told`).
-- Assumes nothing.
use mathlib.Core.Path.{◌≡◌, refl, sym, ap, ◌∙◌, subst}
use mathlib.Core.Bool.{Bool, true, false, cond}
use mathlib.Core.List.{List, [], ◌∷◌, ◌++◌}
use mathlib.Core.Option.{Option, some, none-ne-some as none_some}
use Prim.Native.Nat.{ℕ, suc, ◌<◌}
use native.Mathlib.Omega.{arith}
use lib.ListN.{length, take, get_or}
use lib.Seq.{get_or-take}
use Rattle.std.specs.Prelude.{Option as Answered, Some, None}
use Rattle.limits.specs.Limits.{deepest_tree}
use Rattle.expressions.specs.Words.{Bracket}
use Rattle.expressions.specs.Grammar.{tag, character, tags_of, content_of}
use Rattle.layout.specs.Layout.{start}
use Rattle.trees.specs.declared.Symbol.{Symbol}
use Rattle.trees.specs.declared.Symbol.TheVariants.{Tag, Character, End}
use Rattle.trees.specs.Symbol.{next_of}
use Rattle.sheet.specs.Sheet.{Sheet, IsSheet}
use Rattle.ways.specs.declared.Way.{Way}
use Rattle.ways.specs.Held.{codes, HoldsString, HoldsWay, LineIs, a_line, WayIs, a_way}
use Rattle.ways.specs.Answers.{EndWayIs, AtomWayIs, WayTold}
use Rattle.runs.specs.Lookup.{find}
use Rattle.runs.specs.Visits.{grammar}
use Rattle.runs.specs.Nodes.{through_nodes}
use Rattle.runs.specs.Events.{Event, starts, ends, letter}
use Rattle.runs.specs.Acts.{Act, Store, bracket_act, bracket_acts, start_tag, end_tag, letter_read}
use Rattle.runs.specs.Way.{Way as Found, end_way, atom_way}
use Rattle.runs.specs.Machine.{Open, Control, before, inside, after}
use Rattle.fit.specs.RunFits.{RunFits}
use Rattle.lookups.specs.Found.{answer_of, ProductionFound}
use Rattle.state.specs.declared.Frame.{Frame}
use Rattle.state.specs.Changes.{top_of}
use Rattle.state.specs.Meaning.{open_of, meaning_of, Shaped}
use Rattle.state.specs.declared.State.{State}
use Rattle.steps.proofs.Places.{outside, inside_at, sets_are}
use Rattle.steps.proofs.Tops.{end_is, way_is, top_below, top_balanced, top_ends, to_nonterminal, line_missing, way_missing}
use Rattle.rejecting.specs.First.{FirstRejects, EventRejects}
use Rattle.rejecting.specs.Named.{act_of}
use Rattle.rejecting.specs.Told.{FirstBracket, all_pass, one_rejects, FirstBracketAs, BracketNamed, starting, LastNamed, AsksFor, for_tag, for_end, for_character, EventTold}
use Rattle.rejecting.specs.declared.Rejecter.{Rejecter}
use Rattle.rejecting.proofs.Firsts.{first_none, one_first, first_in_front, first_past, only_first}
use Rattle.rejecting.proofs.Asked.{Asked, of_root, of_start, of_end, of_letter, asked}

-- the act behind the brackets, of a sheet
abbrev LastIs : Symbol → Sheet → ℕ → ℕ → Act → Type 0
LastIs (Tag t) a q n l = (p : ℕ) × (find (grammar a) n t ≡ some p) × (l ≡ start_tag p)
LastIs Character a q n l = (c : ℕ) × (l ≡ letter_read c)
LastIs End a q n l = l ≡ end_tag q

found_is : {s : List ℕ} {a : Sheet} → IsSheet s a → {n t p : ℕ} {r : Answered ℕ} → ProductionFound s n t r → find (grammar a) n t ≡ some p → r ≡ Some p
found_is {a = a} i F e = F.is a i ∙ ap answer_of e

last_named : {s : List ℕ} {a : Sheet} (i : IsSheet s a) (x : Symbol) (q n : ℕ) (r : Rejecter) (l : Act) → LastNamed x s q n r → LastIs x a q n l → {m : Store} {b : Act} →
    FirstRejects a (l ∷ []) m b → act_of r ≡ some b
last_named {a = a} i (Tag t) q n r l N L F =
    ap act_of N.2 ∙ ap (λ (p : Answered ℕ). act_of (starting p)) (found_is i N.1 L.1) ∙ ap some (sym (only_first a F ∙ L.2))
last_named {a = a} i Character q n r l N L {m} {b} F = absurd (none_some _ (sym (first_none a (subst (λ (l : Act). FirstRejects a (l ∷ []) m b) L.1 F))))
last_named {a = a} i End q n r l N L F = ap act_of N ∙ ap some (sym (only_first a F ∙ L))

-- the acts of an event inside an element, whose way lies in the line
record Behind (x : Symbol) (a : Sheet) (z : State) (w : Way) (b : List ℕ) (row : List Act) : Type 0 where
  string : List Bracket
  last : Act
  is_row : row ≡ bracket_acts (top_of z).production string ++ last ∷ []
  last_is : LastIs x a (top_of z).production w.argument last
  bytes : take w.length b ≡ codes string
  around : List Open
  stands : (meaning_of z).control ≡ inside (open_of (top_of z)) around
  nodes : List ℕ
  nodes_then : List ℕ
  balanced : through_nodes deepest_tree string nodes ≡ some nodes_then
  sets : (top_of z).«open» ≡ suc (length nodes)

line_held : {α : List Bracket} {n : ℕ} {b : List ℕ} → LineIs (some α) (Some n) b → HoldsString α n b
line_held (a_line h) = h

found_held : {v : Found} {w : Way} {b : List ℕ} → WayIs (some v) (Some w) b → HoldsWay v w b
found_held (a_way h) = h

-- where there is no way nothing is asked
module _ {s : List ℕ} {a : Sheet} (i : IsSheet s a) {z : State} (h : Shaped z) (f : RunFits a (meaning_of z)) (o : 0 < z.depth) (b : List ℕ) where
  none_tag : (t : ℕ) {os : List Open} {row : List Act} → AtomWayIs s (top_of z).production (top_of z).place (Tag t) None b →
      Asked (grammar a) a.start_nonterminal (inside (open_of (top_of z)) os) (starts (some t)) row → ⊥
  none_tag t W (of_start o' os' t' q v e g) = none_some _ (sym (way_missing (way_is i (top_below i h f o) W)) ∙ e)

  none_character : {c : ℕ} {os : List Open} {row : List Act} → AtomWayIs s (top_of z).production (top_of z).place Character None b →
      Asked (grammar a) a.start_nonterminal (inside (open_of (top_of z)) os) (letter c) row → ⊥
  none_character W (of_letter o' os' c' v e) = none_some _ (sym (way_missing (way_is i (top_below i h f o) W)) ∙ e)

  none_end : {t : Option ℕ} {os : List Open} {row : List Act} → EndWayIs s (top_of z).production (top_of z).place None b →
      Asked (grammar a) a.start_nonterminal (inside (open_of (top_of z)) os) (ends t) row → ⊥
  none_end W (of_end o' os' t' α e) = none_some _ (sym (line_missing (end_is i (top_below i h f o) W)) ∙ e)

  none_asked : (x : Symbol) → WayTold x s (top_of z).production (top_of z).place None b → {y : Event} → AsksFor x y → {c : Act} → EventRejects a (meaning_of z) y c → ⊥
  none_asked x W {y} A R = by x W A (subst (λ (c : Control). Asked (grammar a) a.start_nonterminal c y R.row) (inside_at z h o).stands (asked a (meaning_of z) y R))
    where
      by : (x : Symbol) → WayTold x s (top_of z).production (top_of z).place None b → {y : Event} {row : List Act} → AsksFor x y →
          Asked (grammar a) a.start_nonterminal (inside (open_of (top_of z)) (inside_at z h o).around) y row → ⊥
      by (Tag t) W for_tag K = none_tag t W K
      by Character W for_character K = none_character W K
      by End W for_end K = none_end W.0 K

module _ {s : List ℕ} {a : Sheet} (i : IsSheet s a) {z : State} (h : Shaped z) (f : RunFits a (meaning_of z)) (o : 0 < z.depth) (w : Way) (b : List ℕ) where
  -- a line that holds the string
  line_bytes : {α : List Bracket} → EndWayIs s (top_of z).production (top_of z).place (Some w.length) b → end_way (content_of (grammar a) (top_of z).production) (top_of z).place ≡ some α →
      take w.length b ≡ codes α
  line_bytes W e =
      let H = line_held (subst (λ (y : Option (List Bracket)). LineIs y (Some w.length) b) e (end_is i (top_below i h f o) W)) in
      H.bytes_are (omega (arith, W.few, W.room))

  way_held : {x : Symbol} {v : Found} → AtomWayIs s (top_of z).production (top_of z).place x (Some w) b → atom_way (tags_of (grammar a)) (content_of (grammar a) (top_of z).production) (top_of z).place (next_of x) ≡ some v →
      HoldsWay v w b
  way_held W e = found_held (subst (λ (y : Option Found). WayIs y (Some w) b) e (way_is i (top_below i h f o) W))

  by_tag : (t : ℕ) {os : List Open} {row : List Act} → (meaning_of z).control ≡ inside (open_of (top_of z)) os → AtomWayIs s (top_of z).production (top_of z).place (Tag t) (Some w) b →
      Asked (grammar a) a.start_nonterminal (inside (open_of (top_of z)) os) (starts (some t)) row → Behind (Tag t) a z w b row
  by_tag t {os} k W (of_start o' os' t' q v e g) =
      let H = way_held W e in
      let T = top_balanced i h f o (tag t) v e in
      record {
        string = v.string;
        last = start_tag q;
        is_row = refl;
        last_is = (q, sym (to_nonterminal (grammar a) (content_of (grammar a) (top_of z).production) (top_of z).place t v w b e H) ∙ g, refl);
        bytes = H.string_is.bytes_are (omega (arith, W.few, W.room));
        around = os;
        stands = k;
        nodes = T.0;
        nodes_then = T.1;
        balanced = T.2;
        sets = T.3;
      }

  by_character : {c : ℕ} {os : List Open} {row : List Act} → (meaning_of z).control ≡ inside (open_of (top_of z)) os → AtomWayIs s (top_of z).production (top_of z).place Character (Some w) b →
      Asked (grammar a) a.start_nonterminal (inside (open_of (top_of z)) os) (letter c) row → Behind Character a z w b row
  by_character {c} {os} k W (of_letter o' os' c' v e) =
      let H = way_held W e in
      let T = top_balanced i h f o character v e in
      record {
        string = v.string;
        last = letter_read c;
        is_row = refl;
        last_is = (c, refl);
        bytes = H.string_is.bytes_are (omega (arith, W.few, W.room));
        around = os;
        stands = k;
        nodes = T.0;
        nodes_then = T.1;
        balanced = T.2;
        sets = T.3;
      }

  by_end : {t : Option ℕ} {os : List Open} {row : List Act} → (meaning_of z).control ≡ inside (open_of (top_of z)) os → EndWayIs s (top_of z).production (top_of z).place (Some w.length) b →
      Asked (grammar a) a.start_nonterminal (inside (open_of (top_of z)) os) (ends t) row → Behind End a z w b row
  by_end {t} {os} k W (of_end o' os' t' α e) =
      let T = top_ends i h f o α e in
      record {
        string = α;
        last = end_tag (top_of z).production;
        is_row = refl;
        last_is = refl;
        bytes = line_bytes W e;
        around = os;
        stands = k;
        nodes = T.0;
        nodes_then = [];
        balanced = T.1;
        sets = sym (sets_are z h o) ∙ T.2;
      }

  behind : (x : Symbol) → WayTold x s (top_of z).production (top_of z).place (Some w) b → {y : Event} → AsksFor x y → {c : Act} (R : EventRejects a (meaning_of z) y c) → Behind x a z w b R.row
  behind x W {y} A R = by x W A (subst (λ (c : Control). Asked (grammar a) a.start_nonterminal c y R.row) (inside_at z h o).stands (asked a (meaning_of z) y R))
    where
      by : (x : Symbol) → WayTold x s (top_of z).production (top_of z).place (Some w) b → {y : Event} {row : List Act} → AsksFor x y →
          Asked (grammar a) a.start_nonterminal (inside (open_of (top_of z)) (inside_at z h o).around) y row → Behind x a z w b row
      by (Tag t) W for_tag K = by_tag t (inside_at z h o).stands W K
      by Character W for_character K = by_character (inside_at z h o).stands W K
      by End W for_end K = by_end (inside_at z h o).stands W.0 K

-- inside an element
module _ {s : List ℕ} {z : State} (o : 0 < z.depth) (x : Symbol) (w : Way) (l : List ℕ) (W : WayTold x s (top_of z).production (top_of z).place (Some w) l)
    (long : length (take w.length l) ≡ w.length) {k : ℕ}
    (B : FirstBracketAs s (top_of z).production (take w.length l) z k) where
  visit_told : {r : Rejecter} → k < w.length → BracketNamed (top_of z).production (get_or l k 0) r → EventTold s x z r
  visit_told {r} g N = record { right = λ a i h f y A b R. named i h f A R }
    where
      named : {a : Sheet} (i : IsSheet s a) (h : Shaped z) (f : RunFits a (meaning_of z)) {y : Event} → AsksFor x y → {b : Act} → EventRejects a (meaning_of z) y b → act_of r ≡ some b
      named {a} i h f A {b} R = by (B.right a i E.string E.bytes h (open_of (top_of z)) E.around E.stands E.nodes E.nodes_then E.balanced E.sets)
        where
          E : Behind x a z w l R.row
          E = behind i h f o w l x W A R

          by : FirstBracket a (top_of z).production E.string (meaning_of z).store k → act_of r ≡ some b
          by (all_pass m e n) = absurd (omega (arith, n, ap length E.bytes, long, g))
          by (one_rejects c e u F) =
              N.is c (sym (get_or-take w.length l k 0 g) ∙ ap (λ (l : List ℕ). get_or l k 0) E.bytes ∙ e)
              ∙ ap some (one_first a (subst (λ (l : List Act). FirstRejects a l (meaning_of z).store (bracket_act (top_of z).production c)) (sym E.is_row) (first_in_front a (E.last ∷ []) F)) R.first)

  last_told : {r : Rejecter} → (k < w.length → ⊥) → LastNamed x s (top_of z).production w.argument r → EventTold s x z r
  last_told {r} g N = record { right = λ a i h f y A b R. named i h f A R }
    where
      named : {a : Sheet} (i : IsSheet s a) (h : Shaped z) (f : RunFits a (meaning_of z)) {y : Event} → AsksFor x y → {b : Act} → EventRejects a (meaning_of z) y b → act_of r ≡ some b
      named {a} i h f A {b} R = by (B.right a i E.string E.bytes h (open_of (top_of z)) E.around E.stands E.nodes E.nodes_then E.balanced E.sets)
        where
          E : Behind x a z w l R.row
          E = behind i h f o w l x W A R

          by : FirstBracket a (top_of z).production E.string (meaning_of z).store k → act_of r ≡ some b
          by (all_pass m e n) =
              last_named i x (top_of z).production w.argument r E.last N E.last_is
              (first_past a (bracket_acts (top_of z).production E.string) e (subst (λ (l : List Act). FirstRejects a l (meaning_of z).store b) E.is_row R.first))
          by (one_rejects c e u F) = absurd (g (omega (arith, u, ap length E.bytes, long)))

-- the same where f is the innermost element
module _ {s : List ℕ} {z : State} (o : 0 < z.depth) {f : Frame} (e : f ≡ top_of z) (x : Symbol) (w : Way) (l : List ℕ) (W : WayTold x s f.production f.place (Some w) l)
    (long : length (take w.length l) ≡ w.length) {k : ℕ} (B : FirstBracketAs s f.production (take w.length l) z k) where
  told_there : WayTold x s (top_of z).production (top_of z).place (Some w) l
  told_there = subst (λ (y : Frame). WayTold x s y.production y.place (Some w) l) e W

  first_there : FirstBracketAs s (top_of z).production (take w.length l) z k
  first_there = subst (λ (y : Frame). FirstBracketAs s y.production (take w.length l) z k) e B

  pub visit_at : {r : Rejecter} → k < w.length → BracketNamed f.production (get_or l k 0) r → EventTold s x z r
  visit_at {r} g N = visit_told o x w l told_there long first_there g (subst (λ (y : Frame). BracketNamed y.production (get_or l k 0) r) e N)

  pub last_at : {r : Rejecter} → (k < w.length → ⊥) → LastNamed x s f.production w.argument r → EventTold s x z r
  last_at {r} g N = last_told o x w l told_there long first_there g (subst (λ (y : Frame). LastNamed x s y.production w.argument r) e N)

-- where there is no way no visit rejects
pub none_told : {s : List ℕ} {z : State} → 0 < z.depth → {f : Frame} → f ≡ top_of z → (x : Symbol) (b : List ℕ) → WayTold x s f.production f.place None b → (r : Rejecter) → EventTold s x z r
none_told {s} {z} o e x b W r =
    record { right = λ a i h f y A c R. absurd (none_asked i h f o b x (subst (λ (y : Frame). WayTold x s y.production y.place None b) e W) A R) }

-- outside
pub root_told : {s : List ℕ} {z : State} (x : Symbol) (n : ℕ) (r : Rejecter) → z.depth ≡ 0 → n ≡ start s → LastNamed x s 0 n r → EventTold s x z r
root_told {s} {z} x n r e k N =
    record {
      right = λ a i h f y A b R.
          by i z.rooted (subst (λ (c : Control). Asked (grammar a) a.start_nonterminal c y R.row) (outside z e) (asked a (meaning_of z) y R)) A N R.first;
    }
  where
    by : {a : Sheet} → IsSheet s a → (b : Bool) {y : Event} {row : List Act} → Asked (grammar a) a.start_nonterminal (cond b after before) y row → {x : Symbol} → AsksFor x y → LastNamed x s 0 n r →
        {m : Store} {c : Act} → FirstRejects a row m c → act_of r ≡ some c
    by {a} i false (of_root t q g) for_tag N F = last_named i (Tag t) 0 n r (start_tag q) N (q, ap (λ (m : ℕ). find (grammar a) m t) (k ∙ sym i.start_is) ∙ g, refl) F
    by i true A k N F = elim A [ ]
