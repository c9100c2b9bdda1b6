-- From what is found at a place to an open element, and from one element to all of them: what the records of a sheet say of a production is what
-- its grammar says.
-- Assumes nothing.
use mathlib.Core.Path.{◌≡◌, refl, sym, ap, subst, ◌∙◌}
use mathlib.Core.Bool.{Bool, true, false, true≢false}
use mathlib.Core.List.{List, [], ◌∷◌}
use mathlib.Core.Logic.{inr, ⊎_elim}
use mathlib.Core.Option.{Option, none, some, none-ne-some as none_some}
use Prim.Native.Nat.{ℕ, zero, suc, ◌+◌, ◌*◌, ◌≤◌, ◌<◌}
use native.Mathlib.Omega.{arith}
use native.Mathlib.Numerals.{add-one}
use lib.Dec.{T, eqb, leb}
use lib.ListN.{length, get_or, take, drop}
use lib.Seq.{drop-cons, get_or-take}
use borrow.Author.Tests.{eqb-true, eq-eqb}
use Rattle.expressions.specs.Expr.{Content, nothing, tree}
use Rattle.expressions.specs.Grammar.{Production, content_of}
use Rattle.tells.specs.Tells.{Tells, holds, fails}
use Rattle.tells.proofs.Laws.{leb_tells, as_told, told as is_told, not_told}
use Rattle.layout.specs.Layout.{production_count, start}
use Rattle.layout.specs.Records.{nonterminal_of, node_count_of, first_node_of}
use Rattle.trees.specs.Trees.{TreeAt, ContentAt, Trees}
use Rattle.trees.specs.GrammarAt.{GrammarFrom, GrammarIs}
use Rattle.trees.proofs.Grammars.{length_grammar, content_at}
use Rattle.trees.proofs.Unique.{nodes_pos}
use Rattle.runs.specs.Closing.{Closing, closed_by_end, closed_by_refusal, closed_by_count}
use Rattle.runs.specs.Lookup.{produces}
use Rattle.runs.specs.Nodes.{open_nodes, deepest}
use Rattle.programs.specs.Limits.{Value}
use Rattle.runs.specs.Visits.{most_visits}
use Rattle.runs.specs.Machine.{most}
use Rattle.runs.proofs.Nodes.{open_few}
use Rattle.state.specs.declared.Frame.{Frame}
use Rattle.state.specs.declared.Heading.{Heading}
use Rattle.state.specs.declared.State.{State}
use Rattle.state.specs.Bounds.{frame_width, head_width}
use Rattle.state.specs.Bytes.{frame_at, heading_from, state_from}
use Rattle.state.specs.Changes.{heading_of, bare_frame}
use Rattle.state.specs.Meaning.{Every}
use Rattle.state.proofs.Gathered.{length_gathered, get_D_gathered}
use Rattle.fit.proofs.Lists.{drop_past, length_first}
use Rattle.fit.specs.declared.Spot.{Spot}
use Rattle.fit.specs.declared.Walked.{Walked}
use Rattle.fit.specs.declared.Fitted.{Fitted}
use Rattle.fit.specs.Fit.{child_at, SetFits, FrameFits, FramesFit, ClosingFits}
use Rattle.fit.specs.Tests.{child_number, SpotOf, here, nowhere, WalkedAs, SpotIs, FrameTold, FramesTold, FitTold}

-- where a production is of a nonterminal, it is there
produces_below : (g : List Production) (n q : ℕ) → T (produces g n q) → q < length g
produces_below [] n q h = absurd h
produces_below (d ∷ g) n zero h = omega arith
produces_below (d ∷ g) n (suc q) h = omega (arith, produces_below g n q h)

module _ (s : List ℕ) where
  by_record : (n q : ℕ) (g : List Production) → GrammarFrom s q g → (i k : ℕ) → k ≡ q + i → k < production_count s → produces g n i ≡ eqb n (nonterminal_of s k)
  by_record n q [] h i k e b = absurd (omega arith)
  by_record n q (d ∷ g) h zero k e b =
      let z : q ≡ k = omega arith in
      ap (eqb n) (h.0.nonterminal_is ∙ ap (nonterminal_of s) z)
  by_record n q (d ∷ g) h (suc i) k e b = by_record n (suc q) g h.1 i k (omega arith) b

  module _ (g : List Production) (γ : GrammarIs s g) (q : ℕ) where
    pub produces_there : q < production_count s → (n : ℕ) → n ≡ nonterminal_of s q → T (produces g n q)
    produces_there b n e = subst T (sym (by_record n 0 g γ q q (omega arith) b ∙ eq-eqb n (nonterminal_of s q) e)) tt

    pub produces_inv : (n : ℕ) → T (produces g n q) → (q < production_count s) × (n ≡ nonterminal_of s q)
    produces_inv n h =
        let b : q < production_count s = omega (arith, produces_below g n q h, length_grammar s g γ) in
        (b, eqb-true n (nonterminal_of s q) (T_true (eqb n (nonterminal_of s q)) (subst T (by_record n 0 g γ q q (omega arith) b) h)))
      where
        T_true : (b : Bool) → T b → b ≡ true
        T_true true h = refl
        T_true false h = absurd h

  -- a place of a production
  pub deep : (q : ℕ) (e : Content) → ContentAt s q e → deepest e ≤ 12
  deep q nothing h = omega arith
  deep q (tree e) h = h.2

  spot_few : (e : Content) (p q : ℕ) (r : Spot) → ContentAt s q e → SpotOf r (open_nodes e p) (child_at e p) → r.there ≡ true → r.«open» ≤ 12
  spot_few e p q r h k t = by (open_nodes e p) refl k
    where
      by : (o : Option (List ℕ)) → open_nodes e p ≡ o → SpotOf r o (child_at e p) → r.«open» ≤ 12
      by (some ns) z (here t' o c) = omega (arith, o, open_few e p ns z, deep q e h)
      by none z (nowhere t') = absurd (true≢false (sym t ∙ t'))

  pub spot_is : (w : Trees s) (q p : ℕ) (r : Spot) → q < production_count s → ((e : Content) → ContentAt s q e → SpotOf r (open_nodes e p) (child_at e p)) → SpotIs s q p r
  spot_is w q p r b f =
      record {
        few = spot_few (w.each q b).0 p q r (w.each q b).1 (f (w.each q b).0 (w.each q b).1);
        is = λ g γ. f (content_of g q) (content_at s g γ q b);
      }

  module _ (w : Trees s) (q p : ℕ) (b : q < production_count s) where
    pub start_spot : (r : Spot) → r.there ≡ true → r.child ≡ 256 → r.«open» ≡ 0 → p ≡ 0 → SpotIs s q p r
    start_spot r t c o z = spot_is w q p r b (λ e h. subst (λ (y : ℕ). SpotOf r (open_nodes e y) (child_at e y)) (sym z) (here {ns = []} {child = none} t o c))

    pub empty_spot : (r : Spot) → r.there ≡ false → (p ≡ 0 → ⊥) → (n : ℕ) → n ≡ node_count_of s q → n ≡ 0 → SpotIs s q p r
    empty_spot r t some_place n e z = spot_is w q p r b (by p some_place)
      where
        by : (p : ℕ) → (p ≡ 0 → ⊥) → (e : Content) → ContentAt s q e → SpotOf r (open_nodes e p) (child_at e p)
        by zero k c h = absurd (k refl)
        by (suc p) k nothing h = nowhere t
        by (suc p) k (tree c) h = absurd (omega (arith, nodes_pos c, h.1, e, z))

    pub walked_spot : (p ≡ 0 → ⊥) → (n : ℕ) → n ≡ node_count_of s q → (n ≡ 0 → ⊥) → (i : ℕ) → i ≡ first_node_of s q → (r : Walked) → WalkedAs s p i 1 r → SpotIs s q p r.spot
    walked_spot some_place n e some_node i first r a = spot_is w q p r.spot b (by p some_place a)
      where
        by : (p : ℕ) → (p ≡ 0 → ⊥) → WalkedAs s p i 1 r → (e : Content) → ContentAt s q e → SpotOf r.spot (open_nodes e p) (child_at e p)
        by zero k a c h = absurd (k refl)
        by (suc p) k a nothing h = absurd (some_node (e ∙ h))
        by (suc p) k a (tree c) h = a.finds c (subst (λ (z : ℕ). TreeAt s z c) (sym first) h.0) 1

-- closing numbers
pub a_closing : {n m : ℕ} → Closing m → n ≡ m → Closing n
a_closing c e = subst Closing (sym e) c

module _ (n : ℕ) (not_open : n ≡ 255 → ⊥) (not_0 : n ≡ 0 → ⊥) (not_30 : n ≡ 30 → ⊥) where
  between : ClosingFits n → (20 ≤ n) × (n ≤ 27)
  between c = ⊎_elim (λ e. absurd (not_open e)) (λ k. by k refl) c
    where
      by : {m : ℕ} → Closing m → n ≡ m → (20 ≤ n) × (n ≤ 27)
      by closed_by_end e = absurd (not_0 e)
      by (closed_by_refusal a b) e = (omega arith, omega arith)
      by closed_by_count e = absurd (not_30 e)

  pub not_closing : n < 20 → ClosingFits n → ⊥
  not_closing h c = omega (arith, between c)

  pub closing_between : 20 ≤ n → Tells (ClosingFits n) (leb n 27)
  closing_between h = as_told (λ k. inr (closed_by_refusal h k)) (λ c. (between c).1) (leb_tells n 27)

-- what was found at a place that is there
spot_inv : {r : Spot} {o : Option (List ℕ)} {child : Option ℕ} → SpotOf r o child → r.there ≡ true →
    (ns : List ℕ) × (o ≡ some ns) × (r.«open» ≡ length ns) × (r.child ≡ child_number child)
spot_inv (here {ns} t o c) e = (ns, refl, o, c)
spot_inv (nowhere t) e = absurd (true≢false (sym e ∙ t))

spot_there : {r : Spot} {o : Option (List ℕ)} {child : Option ℕ} → SpotOf r o child → (ns : List ℕ) → o ≡ some ns → (r.there ≡ true) × (r.«open» ≡ length ns)
spot_there (here {ns = ms} t o c) ns e = let z : ms ≡ ns = cc in (t, o ∙ ap length z)
spot_there (nowhere t) ns e = absurd (none_some ns e)

module _ (s : List ℕ) (may : ℕ) (f : Frame) (r : Fitted) where
  no_frame : r.ok ≡ false → ((g : List Production) → GrammarIs s g → (child : Option ℕ) → may ≡ child_number child → FrameFits g child f → ⊥) → FrameTold s may f r
  no_frame e n =
      record {
        tells = λ g γ child z. subst (Tells (FrameFits g child f)) (sym e) (fails (n g γ child z));
        then = λ t. absurd (true≢false (sym t ∙ e));
      }

  pub no_production : r.ok ≡ false → production_count s ≤ f.production → FrameTold s may f r
  no_production e b = no_frame e (λ g γ child z k. let i = produces_inv s g γ f.production k.nonterm k.production in omega (arith, i.0))

  pub other_nonterminal : r.ok ≡ false → (m : ℕ) → m ≡ nonterminal_of s f.production → (m ≡ may → ⊥) → FrameTold s may f r
  other_nonterminal e m a n =
      no_frame e
      (λ g γ child z k.
      let i = produces_inv s g γ f.production k.nonterm k.production in
      n (a ∙ sym i.1 ∙ sym (z ∙ ap child_number k.allowed)))

  module _ (spot : Spot) (found : SpotIs s f.production f.place spot) where
    pub no_place : r.ok ≡ false → spot.there ≡ false → FrameTold s may f r
    no_place e t = no_frame e (λ g γ child z k. true≢false (sym (spot_there (found.is g γ) k.nodes k.place).0 ∙ t))

    pub other_sets : r.ok ≡ false → (f.«open» ≡ spot.«open» + 1 → ⊥) → FrameTold s may f r
    other_sets e n = no_frame e (λ g γ child z k. n (let o = (spot_there (found.is g γ) k.nodes k.place).1 in omega (arith, o, k.sets)))

    pub other_values : r.ok ≡ false → (Every SetFits (take f.«open» f.saved) → ⊥) → FrameTold s may f r
    other_values e n = no_frame e (λ g γ child z k. n k.values)

    pub frame_fits_lem : r.ok ≡ true → r.child ≡ spot.child → f.production < production_count s → (m : ℕ) → m ≡ nonterminal_of s f.production → m < 256 → m ≡ may →
        spot.there ≡ true → f.«open» ≡ spot.«open» + 1 → Every SetFits (take f.«open» f.saved) → FrameTold s may f r
    frame_fits_lem e c b m a low same t o v =
        record {
          tells = λ g γ child z. subst (Tells (FrameFits g child f)) (sym e) (holds (fits g γ child z));
          then = λ _ g γ. c ∙ (spot_inv (found.is g γ) t).3;
        }
      where
        some_child : (child : Option ℕ) → may ≡ child_number child → child ≡ some m
        some_child none z = absurd (omega arith)
        some_child (some n) z = ap some (sym (same ∙ z))

        fits : (g : List Production) → GrammarIs s g → (child : Option ℕ) → may ≡ child_number child → FrameFits g child f
        fits g γ child z =
            let i = spot_inv (found.is g γ) t in
            record {
              nonterm = m;
              allowed = some_child child z;
              production = produces_there s g γ f.production b m a;
              nodes = i.0;
              place = i.1;
              sets = omega (arith, o, i.2);
              values = v;
            }

-- the frames that are left from number i on, where the child numbered `may` can be
pub record Left (s : List ℕ) (frames : List Frame) (may i : ℕ) : Type 0 where
  pub each : (g : List Production) → GrammarIs s g →
      (child : Option ℕ) × (may ≡ child_number child) × (FramesFit g (some (start s)) frames → FramesFit g child (drop i frames)) × (FramesFit g child (drop i frames) → FramesFit g (some (start s)) frames)

-- of n frames of a stack
module _ (s : List ℕ) (stack : List Frame) (n : ℕ) (within : n ≤ length stack) where
  abbrev frames : List Frame
  frames = take n stack

  pub left_all : (may : ℕ) → may ≡ start s → Left s frames may 0
  left_all may e = record { each = λ g γ. (some (start s), e, (λ k. k), λ k. k) }

  module _ (may i : ℕ) (left : Left s frames may i) where
    pub left_none : n ≤ i → FramesTold s frames true
    left_none b =
        let e = drop_past i frames (omega (arith, length_first n stack within)) in
        record { tells = λ g γ. let k = left.each g γ in holds (k.3 (subst (FramesFit g k.0) (sym e) tt)) }

    module _ (d : Frame) (b : i < n) (r : Fitted) (told : FrameTold s may (get_or stack i d) r) where
      -- the next one, and those after it
      next : drop i frames ≡ get_or stack i d ∷ drop (suc i) frames
      next = drop-cons frames i d (omega (arith, length_first n stack within)) ∙ ap (λ (f : Frame). f ∷ drop (suc i) frames) (get_or-take n stack i d b)

      pub left_fails : r.ok ≡ false → FramesTold s frames false
      left_fails e =
          record {
            tells = λ g γ.
                let k = left.each g γ in
                fails (λ h. not_told (told.tells g γ k.0 k.1) e (subst (FramesFit g k.0) next (k.2 h)).0);
          }

      pub left_more : r.ok ≡ true → Left s frames r.child (i + 1)
      left_more e =
          record {
            each = λ g γ.
                let k = left.each g γ in
                let f = get_or stack i d in (
                  child_at (content_of g f.production) f.place,
                  told.then e g γ,
                  (λ h. rw add-one (subst (FramesFit g k.0) next (k.2 h)).1),
                  λ h. k.3 (subst (FramesFit g k.0) (sym next) (is_told (told.tells g γ k.0 k.1) e, rw add-one at h)),
                );
          }

-- the head of the state that bytes are
pub heading_in : (b : List ℕ) (h : Heading) → h ≡ heading_from b → h ≡ heading_of (state_from b)
unfolding state_from
heading_in b h e = e

-- a state of which all but the frames fits, fits if those do
pub frames_left : {s : List ℕ} (z : State) (h : Heading) (r : Bool) → h ≡ heading_of z → h.depth ≤ most → ClosingFits h.closed → h.count ≤ most_visits → Every Value h.values →
    FramesTold s (take h.depth z.frames) r → FitTold s z r
frames_left {s} z h r e d c n v t =
    subst (λ (x : Heading). x.depth ≤ most → ClosingFits x.closed → x.count ≤ most_visits → Every Value x.values → FramesTold s (take x.depth z.frames) r → FitTold s z r) (sym e) here_fits d c n v t
  where
    here_fits : z.depth ≤ most → ClosingFits z.closed → z.count ≤ most_visits → Every Value z.values → FramesTold s (take z.depth z.frames) r → FitTold s z r
    here_fits d c n v t =
        record { tells = λ g γ. as_told (λ k. record { few = d; closing = c; count = n; values = v; frames = k }) (λ k. k.frames) (t.tells g γ) }

-- the frames of the state that bytes are, each where it lies
pub frames_in : (b : List ℕ) → length (state_from b).frames ≡ most
unfolding state_from
frames_in b = length_gathered (frame_at b) frame_width head_width most

pub told_in : {s : List ℕ} {may next : ℕ} {f : Frame} {r : Fitted} (b : List ℕ) (i : ℕ) → i < most → next ≡ head_width + frame_width * i → f ≡ frame_at b next → FrameTold s may f r →
    FrameTold s may (get_or (state_from b).frames i bare_frame) r
unfolding state_from
told_in {s} {may} {r = r} b i h n e t =
    subst (λ (x : Frame). FrameTold s may x r) (e ∙ ap (frame_at b) n ∙ sym (get_D_gathered (frame_at b) frame_width head_width most i bare_frame h)) t
