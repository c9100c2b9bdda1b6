-- A run that one character leaves as it is, but for the count, is steady: what a step does depends neither on the count nor on which character is read.
-- Assumes nothing.
use mathlib.Core.Path.{◌≡◌, refl, sym, ap, ◌∙◌, subst}
use mathlib.Core.Bool.{Bool, true, false, ◌&&◌}
use mathlib.Core.List.{List, [], ◌∷◌, ◌++◌}
use mathlib.Core.Option.{Option, none, some}
use Prim.Native.Nat.{ℕ, suc, ◌+◌, ◌≤◌}
use native.Mathlib.Omega.{arith}
use lib.ListN.{length, drop, length-append, drop_of_length-le}
use Rattle.expressions.specs.Grammar.{content_of, tags_of, character as any_character}
use Rattle.output.specs.Escape.{Piece, character, render}
use Rattle.output.proofs.Writing.{render_append}
use Rattle.sheet.specs.Sheet.{Sheet}
use Rattle.text.specs.Names.{blank}
use Rattle.runs.specs.Options.{bind}
use Rattle.runs.specs.Visits.{grammar, while_on, echoed, Env}
use Rattle.runs.specs.Events.{letter}
use Rattle.runs.specs.Acts.{Act, letter_read, bracket_acts, Store, acts}
use Rattle.runs.specs.Way.{Way, atom_way}
use Rattle.runs.specs.Machine.{Open, Control, before, inside, after, at_place_lem, Configuration, Answer, took, refused, acted, turned, char_by, step, onward, finished, answered, run}
use Rattle.runs.specs.Spells.{literal, passes_at, unless_blank, step_token}
use Rattle.runs.proofs.Line.{acts_append}
use Rattle.calls.specs.Limits.{silent, output_of}
use Rattle.steady.specs.Steady.{counting, shown, TakesCharacter, Steady}
use Rattle.steady.proofs.Later.{later, store_later, acts_later}

and_false : (b : Bool) → b && false ≡ false
and_false true = refl
and_false false = refl

-- one event alone
one_alone : (a : Sheet) (m : Configuration) (c : ℕ) → answered (run a m (letter c ∷ [])) ≡ step a m (letter c)
one_alone a m c = by (step a m (letter c))
  where
    by : (x : Answer) → answered (onward m (letter c ∷ []) x (λ z. finished z)) ≡ x
    by (took z) = refl
    by (refused n) = refl

-- a character where white space is an event like any other
as_event : (a : Sheet) (m : Configuration) (c : ℕ) → passes_at (grammar a) m.control ≡ false → step_token a m (literal c) ≡ step a m (letter c)
as_event a m c p = ap (λ (b : Bool). unless_blank (blank c && b) m (answered (run a m (letter c ∷ [])))) p ∙ ap (λ (b : Bool). unless_blank b m (answered (run a m (letter c ∷ [])))) (and_false (blank c)) ∙ one_alone a m c

-- the character c after the acts that came to m
abbrev pub reading : ℕ → Store → Store
reading c m = record { kept = m.kept; env = echoed (character c) m.env }

pub then_reads : (a : Sheet) (bs : List Act) (c : ℕ) (m : Store) → acts a (bs ++ letter_read c ∷ []) m ≡ bind (acts a bs m) (λ m'. some (reading c m'))
then_reads a bs c m = acts_append a bs (letter_read c ∷ []) m

none_written : (o q : List Piece) → length (render (o ++ q)) ≡ length (render q) → render o ≡ []
none_written o q e =
    let h : length (render o) ≤ 0 = omega (arith, ap length (render_append o q), length-append (render o) (render q), e) in
    drop_of_length-le (render o) h

-- the store without output, at another count
abbrev at_count : Store → ℕ → Store
at_count m n = record { kept = m.kept; env = record { values = m.env.values; echo = m.env.echo; out = []; count = n } }

at_later : (m : Store) (n : ℕ) → store_later n (at_count m 0) ≡ at_count m n
at_later m n = let p : n + 0 ≡ n = omega arith in ap (at_count m) p

at_own : (m : Store) → m.env.out ≡ [] → at_count m m.env.count ≡ m
at_own m e = ap (λ (o : List Piece). record { kept = m.kept; env = record { values = m.env.values; echo = m.env.echo; out = o; count = m.env.count } }) (sym e)

-- acts that leave m as it is but for k visits, and write nothing
pub record Leaves (a : Sheet) (bs : List Act) (k : ℕ) (m : Store) (n : ℕ) : Type 0 where
  pub after_acts : Store
  pub done : acts a bs (at_count m n) ≡ some after_acts
  pub kept : after_acts.kept ≡ m.kept
  pub values : after_acts.env.values ≡ m.env.values
  pub echo : after_acts.env.echo ≡ m.env.echo
  pub count : after_acts.env.count ≡ n + k
  pub writes : render after_acts.env.out ≡ []

same_some : {X : Type 0} {x y : X} → some x ≡ some y → x ≡ y
same_some e = cc

-- at one count, so at every count
leaves_anywhere : (a : Sheet) (bs : List Act) (k : ℕ) (m x : Store) → m.env.out ≡ [] → acts a bs m ≡ some x → x.kept ≡ m.kept → x.env.values ≡ m.env.values →
    x.env.echo ≡ m.env.echo → x.env.count ≡ m.env.count + k → render x.env.out ≡ [] → (n : ℕ) → Leaves a bs k m n
leaves_anywhere a bs k m x silent_then e hk hv he hc hw n =
    by (acts a bs (at_count m 0)) refl (sym (acts_later a m.env.count bs (at_count m 0)) ∙ ap (acts a bs) (at_later m m.env.count ∙ at_own m silent_then) ∙ e)
  where
    by : (z : Option Store) → acts a bs (at_count m 0) ≡ z → bind z (λ m'. some (store_later m.env.count m')) ≡ some x → Leaves a bs k m n
    by none f g = absurd (let q : ◌≡◌ {A = ℕ} 0 1 = cc in omega arith)
    by (some z) f g =
        let q : store_later m.env.count z ≡ x = same_some g in
        record {
          after_acts = store_later n z;
          done = ap (acts a bs) (sym (at_later m n)) ∙ acts_later a n bs (at_count m 0) ∙ ap (λ (y : Option Store). bind y (λ m'. some (store_later n m'))) f;
          kept = ap (λ (y : Store). y.kept) q ∙ hk;
          values = ap (λ (y : Store). y.env.values) q ∙ hv;
          echo = ap (λ (y : Store). y.env.echo) q ∙ he;
          count = omega (arith, ap (λ (y : Store). y.env.count) q, hc);
          writes = ap (λ (y : Store). render y.env.out) q ∙ hw;
        }

-- the character c₀ left the run m as it is, but for k visits, and nothing but the character was written
pub record Unmoved (a : Sheet) (c₀ k : ℕ) (m y : Configuration) : Type 0 where
  pub stepped : step a m (letter c₀) ≡ took y
  pub control : y.control ≡ m.control
  pub kept : y.store.kept ≡ m.store.kept
  pub values : y.store.env.values ≡ m.store.env.values
  pub echo : y.store.env.echo ≡ m.store.env.echo
  pub count : y.store.env.count ≡ m.store.env.count + k
  pub writes : length (output_of y) ≡ length (shown m.store.env.echo c₀)

-- the acts of a character's way
abbrev way_acts : Open → Way → List Act
way_acts o w = bracket_acts o.production w.string

module _ (a : Sheet) (c₀ k : ℕ) (o : Open) (os : List Open) (m : Store) (y : Configuration) (silent_then : m.env.out ≡ []) where
  abbrev here : Configuration
  here = record { control = inside o os; store = m }

  abbrev way : Option Way
  way = atom_way (tags_of (grammar a)) (content_of (grammar a) o.production) o.place any_character

  -- the way is there, and its brackets leave the run as it is
  pub record Leads : Type 0 where
    pub by_way : Way
    pub found : way ≡ some by_way
    pub leaves : (n : ℕ) → Leaves a (way_acts o by_way) k m n
    pub stays : inside (at_place_lem o by_way.place) os ≡ inside o os

  leads : Unmoved a c₀ k here y → Leads
  leads u = by way refl u.stepped
    where
      after_brackets : (w : Way) → way ≡ some w → (x : Option Store) → acts a (way_acts o w) m ≡ x →
          acted (inside (at_place_lem o w.place) os) (bind x (λ m'. some (reading c₀ m'))) ≡ took y → Leads
      after_brackets w f none g e = absurd (let q : ◌≡◌ {A = ℕ} 0 1 = cc in omega arith)
      after_brackets w f (some x) g e =
          let q : record { control = inside (at_place_lem o w.place) os; store = reading c₀ x } ≡ y = cc in
          let echoes : x.env.echo ≡ m.env.echo = ap (λ (z : Configuration). z.store.env.echo) q ∙ u.echo in
          record {
            by_way = w;
            found = f;
            leaves = leaves_anywhere a (way_acts o w) k m x silent_then g (ap (λ (z : Configuration). z.store.kept) q ∙ u.kept) (ap (λ (z : Configuration). z.store.env.values) q ∙ u.values)
                echoes (ap (λ (z : Configuration). z.store.env.count) q ∙ u.count)
                (none_written x.env.out (while_on x.env.echo (character c₀)) (ap (λ (z : Configuration). length (output_of z)) q ∙ u.writes ∙ ap (λ (b : Bool). length (shown b c₀)) (sym echoes)));
            stays = ap (λ (z : Configuration). z.control) q ∙ u.control;
          }

      by : (w : Option Way) → way ≡ w → turned a m (char_by o os c₀ w) ≡ took y → Leads
      by none f e = absurd (let q : ◌≡◌ {A = ℕ} 0 1 = cc in omega arith)
      by (some w) f e =
          after_brackets w f (acts a (way_acts o w) m) refl (ap (acted (inside (at_place_lem o w.place) os)) (sym (then_reads a (way_acts o w) c₀ m)) ∙ e)

  takes_any : Leads → passes_at (grammar a) (inside o os) ≡ false → Steady a m.env.echo k here
  takes_any l p c n =
      let L = l.leaves n in
      let x : Store = L.after_acts in
      let to : Configuration = record { control = inside (at_place_lem o l.by_way.place) os; store = reading c x } in
      record {
        reached = to;
        stepped = as_event a (counting here n) c p
            ∙ ap (λ (w : Option Way). turned a (at_count m n) (char_by o os c w)) l.found
            ∙ ap (acted (inside (at_place_lem o l.by_way.place) os)) (then_reads a (way_acts o l.by_way) c (at_count m n) ∙ ap (λ (z : Option Store). bind z (λ m'. some (reading c m'))) L.done);
        leaves = cc (l.stays, L.kept, L.values, L.echo, L.count);
        writes = render_append x.env.out (while_on x.env.echo (character c)) ∙ ap (λ (z : List ℕ). z ++ render (while_on x.env.echo (character c))) L.writes ∙ ap (λ (b : Bool). shown b c) L.echo;
      }

pub steady : (a : Sheet) (c₀ k : ℕ) (m y : Configuration) → m.store.env.out ≡ [] → passes_at (grammar a) m.control ≡ false → Unmoved a c₀ k m y → Steady a m.store.env.echo k m
steady a c₀ k m y silent_then p u = by m.control refl
  where
    by : (z : Control) → m.control ≡ z → Steady a m.store.env.echo k m
    by before e = absurd (let q : true ≡ false = sym (ap (passes_at (grammar a)) e) ∙ p in let r : ◌≡◌ {A = ℕ} 0 1 = cc in omega arith)
    by after e = absurd (let q : true ≡ false = sym (ap (passes_at (grammar a)) e) ∙ p in let r : ◌≡◌ {A = ℕ} 0 1 = cc in omega arith)
    by (inside o os) e =
        let s : m ≡ record { control = inside o os; store = m.store } = ap (λ (z : Control). record { control = z; store = m.store }) e in
        subst (Steady a m.store.env.echo k) (sym s)
        (takes_any a c₀ k o os m.store y silent_then (leads a c₀ k o os m.store y silent_then (subst (λ (z : Configuration). Unmoved a c₀ k z y) s u)) (sym (ap (passes_at (grammar a)) e) ∙ p))
