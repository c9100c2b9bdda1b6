-- Each byte in a model of children, return by return; each station's step is the step. Assumes nothing.
use mathlib.Core.Path.{◌≡◌, refl, sym, ◌∙◌, ap, subst}
use mathlib.Core.Bool.{Bool, true, false, cond}
use mathlib.Core.Option.{none, some}
use mathlib.Core.List.{List, [], ◌∷◌}
use Prim.Native.Nat.{ℕ, suc, ◌≤◌, ◌<◌}
use native.Mathlib.Omega.{arith}
use borrow.Author.Tests.{lt-ltb, le-ltb, eq-eqb, ne_eqb}
use lib.Dec.{ltb}
use lib.ListN.{length}
use Rattle.text.specs.Names.{name_first, name_byte, blank}
use Rattle.notation.specs.Statements.{parentheses}
use Rattle.expressions.specs.Expr.{anychar, atom}
use Rattle.models.specs.Models.{Model, called, sequence, choice, children, Declaration}
use Rattle.models.specs.Expressions.{model_expression}
use Rattle.models.specs.Reader.{LeftOf, fresh, commas, bars, behind_left, inside, hashing, wants, in_name, marking, after, group_closed, ended, to, step_ended, step_mark, step_after, step_marking, with_comma, with_bar, closed_group, finished_phase}
use Rattle.models.proofs.Counted.{depth_counted}
use Rattle.declarations.specs.declared.NodeRow.{NodeRow}
use Rattle.declarations.specs.Nodes.{Shows, MarkedAs, LeftShown}
use Rattle.levels.specs.declared.Nest.{Nest}
use Rattle.levels.specs.Levels.{Nested, KeepsNodes, OpenedIs, NamedIs, MarkIn, JoinIs, PushIs, CloseIs}
use Rattle.levels.proofs.Promises.{mark_has_room}
use Rattle.stages.specs.declared.Station.{Station}
use Rattle.stages.specs.declared.Headway.{Headway}
use Rattle.stages.specs.declared.Fate.{Fate}
use Rattle.stages.specs.declared.Moved.{Moved}
use Rattle.stages.specs.Headway.{pcdata_tail, ContentShown, PhaseHolds}
use Rattle.stages.specs.Steps.{moved_on, told_as, with_row, with_nest, FateIs, too_deep, ByteTakenAs, FewNodesIn, EndedNameIs, PlainStep, NameStep, ByteStepIs, LongerIs}
use Rattle.stages.proofs.Fates.{stops, goes, goes_by}
use Rattle.stages.proofs.Stations.{of_station}
use Rattle.strata.specs.Particles.{is_mark, ParticleStep, JoinStep, CloseStep}
use Rattle.strata.proofs.Marks.{found_mark, no_mark}

module _ (s : Headway) (b : ℕ) (r : Moved) where
  -- a name or a group
  pub particle_first : {t : Bool} → t ≡ name_first b → t ≡ true → r ≡ moved_on s Station.InName 1 → ParticleStep s b r
  particle_first e y m = record { is = λ number n l ls h. rw (sym e ∙ y) (goes (in_name n (b ∷ []) l ls) s 1 m (refl, h)) }

  pub particle_opens : {t : Bool} (v : Nest) (s' : Headway) → t ≡ name_first b → t ≡ false → b ≡ 40 → s.nest.«open» < 31 → PushIs s.nest v → s' ≡ with_nest s v → r ≡ moved_on s' Station.Wants 0 → ParticleStep s b r
  particle_opens v s' e n f few push w m = record {
    is = λ number u l ls h.
        let q = wants u fresh (l ∷ ls) in
        rw (sym e ∙ n) (rw (eq-eqb b 40 f) (goes_by (λ p. cond (ltb (suc (length ls)) p) (some (to q)) none) q (with_nest s v) 0
        (ap (λ z. cond z (some (to q)) none) (lt-ltb (suc (length ls)) parentheses (omega (arith, few, h.open_is)))) (m ∙ ap (λ x. moved_on x Station.Wants 0) w) (push.is number l ls h (omega (arith, few, h.open_is)))));
  }

  pub particle_deep : {t : Bool} → t ≡ name_first b → t ≡ false → b ≡ 40 → 31 ≤ s.nest.«open» → r ≡ told_as s Fate.Deep → ParticleStep s b r
  particle_deep e n f many m = record {
    is = λ number u l ls h.
        let q = wants u fresh (l ∷ ls) in
        rw (sym e ∙ n) (rw (eq-eqb b 40 f) (subst (λ x. FateIs number (λ p. cond (ltb (suc (length ls)) p) (some (to q)) none) (finished_phase (wants u l ls)) x) (sym m)
        (too_deep q (ap (λ z. cond z (some (to q)) none) (le-ltb (suc (length ls)) parentheses (omega (arith, many, h.open_is))))
        (ap (λ z. cond z (some (to q)) none) (lt-ltb (suc (length ls)) (suc parentheses) (omega (arith, h.few_open)))) refl)));
  }

  pub particle_other : {t : Bool} → t ≡ name_first b → t ≡ false → (b ≡ 40 → ⊥) → r ≡ told_as s Fate.Refused → ParticleStep s b r
  particle_other e n f z = record { is = λ number u l ls h. rw (sym e ∙ n) (rw (ne_eqb b 40 f) (stops s z)) }

  -- behind the content's own parenthesis
  pub inside_blank : {t : Bool} → t ≡ blank b → t ≡ true → r ≡ moved_on s Station.Inside 0 → PlainStep Station.Inside s b r
  inside_blank e y m = record { is = λ number n h few. rw (sym e ∙ y) (goes (inside n) s 0 m tt) }

  pub inside_hash : {t : Bool} (a : NodeRow) (s' : Headway) → t ≡ blank b → t ≡ false → b ≡ 35 → Shows (atom anychar) a → s' ≡ with_row s false a → r ≡ moved_on s' Station.Hashing 0 → PlainStep Station.Inside s b r
  inside_hash a s' e n f o w m = record {
    is = λ number u h few. rw (sym e ∙ n) (rw (eq-eqb b 35 f) (goes (hashing u pcdata_tail) (with_row s false a) 0 (m ∙ ap (λ x. moved_on x Station.Hashing 0) w)
        (record { in_word = omega arith; left = refl }, record { named_is = refl; row_is = o })));
  }

  pub inside_particle : {t : Bool} (v : Nest) (s' : Headway) → t ≡ blank b → t ≡ false → (b ≡ 35 → ⊥) → OpenedIs v → s' ≡ with_nest s v → ParticleStep s' b r → PlainStep Station.Inside s b r
  inside_particle v s' e n f o w p = record { is = λ number u h few. rw (sym e ∙ n) (rw (ne_eqb b 35 f) ((subst (λ x. ParticleStep x b r) w p).is number u fresh [] (o.is number))) }

  -- where a name or a group is wanted
  pub wants_blank : {t : Bool} → t ≡ blank b → t ≡ true → r ≡ moved_on s Station.Wants 0 → PlainStep Station.Wants s b r
  wants_blank e y m = record { is = λ number n l ls h few. rw (sym e ∙ y) (goes (wants n l ls) s 0 m h) }

  pub wants_particle : {t : Bool} → t ≡ blank b → t ≡ false → ParticleStep s b r → PlainStep Station.Wants s b r
  wants_particle e n p = record { is = λ number u l ls h few. rw (sym e ∙ n) (p.is number u l ls h) }

  -- behind a model
  pub after_blank : {t : Bool} → t ≡ blank b → t ≡ true → r ≡ moved_on s Station.After 0 → PlainStep Station.After s b r
  after_blank e y m = record { is = λ number n x l ls h few. rw (sym e ∙ y) (goes (after n x l ls) s 0 m h) }

  pub after_comma : {t : Bool} → t ≡ blank b → t ≡ false → b ≡ 44 → JoinStep s 3 4 r → PlainStep Station.After s b r
  after_comma e n f j = record { is = λ number u x l ls h few. rw (sym e ∙ n) (rw (eq-eqb b 44 f) (j.with_comma_lem refl refl number (finished_phase (after u x l ls)) u x l ls h few)) }

  pub after_bar : {t : Bool} → t ≡ blank b → t ≡ false → (b ≡ 44 → ⊥) → b ≡ 124 → JoinStep s 4 3 r → PlainStep Station.After s b r
  after_bar e n i f j = record { is = λ number u x l ls h few. rw (sym e ∙ n) (rw (ne_eqb b 44 i) (rw (eq-eqb b 124 f) (j.with_bar_lem refl refl number (finished_phase (after u x l ls)) u x l ls h few))) }

  pub after_closes : {t : Bool} → t ≡ blank b → t ≡ false → (b ≡ 44 → ⊥) → (b ≡ 124 → ⊥) → b ≡ 41 → CloseStep s r → PlainStep Station.After s b r
  after_closes e n i k f j = record {
    is = λ number u x l ls h few. rw (sym e ∙ n) (rw (ne_eqb b 44 i) (rw (ne_eqb b 124 k) (rw (eq-eqb b 41 f) (j.is number (finished_phase (after u x l ls)) u x l ls h few))));
  }

  pub after_other : {t : Bool} → t ≡ blank b → t ≡ false → (b ≡ 44 → ⊥) → (b ≡ 124 → ⊥) → (b ≡ 41 → ⊥) → r ≡ told_as s Fate.Refused → PlainStep Station.After s b r
  after_other e n i k f z = record { is = λ number u x l ls h few. rw (sym e ∙ n) (rw (ne_eqb b 44 i) (rw (ne_eqb b 124 k) (rw (ne_eqb b 41 f) (stops s z)))) }

  -- marks
  pub marking_mark : {t : Bool} (v : Nest) (s' : Headway) → t ≡ is_mark b → t ≡ true → MarkIn s.nest b v → s' ≡ with_nest s v → r ≡ moved_on s' Station.After 0 → PlainStep Station.Marking s b r
  marking_mark v s' e y o w m = record {
    is = λ number n x l ls h few.
        let F = found_mark x b e y in
        goes_by (λ p. step_marking n x l ls b) (after n F.model l ls) (with_nest s v) 0 (F.steps (λ z. after n z l ls) (step_after n x l ls b)) (m ∙ ap (λ x. moved_on x Station.After 0) w) (o.is number x F.model l ls h F.is few);
  }

  pub marking_none : {t : Bool} → t ≡ is_mark b → t ≡ false → PlainStep Station.After s b r → PlainStep Station.Marking s b r
  marking_none e n p = record { is = λ number u x l ls h few. let N = no_mark b e n in rw N.no_question (rw N.no_asterisk (rw N.no_plus (p.is number u x l ls h few))) }

  shown_children : (number : List ℕ → ℕ) (x : Model) (a : NodeRow) → Shows (model_expression number x) a → ContentShown number (children x) a
  shown_children number x a h = record { laid = h.laid; deep_is = h.deep_is ∙ depth_counted number (children x) }

  pub group_mark : {t : Bool} (a : NodeRow) (s' : Headway) → t ≡ is_mark b → t ≡ true → MarkedAs b s.row a → s' ≡ with_row s false a → r ≡ moved_on s' Station.Ended 0 → PlainStep Station.GroupClosed s b r
  group_mark a s' e y o w m = record {
    is = λ number n x h few.
        let F = found_mark x b e y in
        let shown = o.is number x F.model F.is h (mark_has_room x F.model (b ∷ []) fresh [] F.is few) in
        goes_by (λ p. step_mark x (λ z. ended n (children z)) (step_ended n (children x) b) b) (ended n (children F.model)) (with_row s false a) 0 (F.steps (λ z. ended n (children z)) (step_ended n (children x) b))
        (m ∙ ap (λ x. moved_on x Station.Ended 0) w) (shown_children number F.model a shown);
  }

  pub group_none : {t : Bool} → t ≡ is_mark b → t ≡ false → PlainStep Station.Ended s b r → PlainStep Station.GroupClosed s b r
  group_none e n p = record { is = λ number u x h few. let N = no_mark b e n in rw N.no_question (rw N.no_asterisk (rw N.no_plus (p.is number u (children x) (shown_children number x s.row h) few))) }

  -- names
  module _ (k : ℕ) where
    pub name_longer : {t : Bool} → t ≡ name_byte b → t ≡ true → LongerIs Station.InName s r → NameStep Station.InName s b k r
    name_longer e y o = record {
      is = λ number n m l ls h few z. rw (sym e ∙ y) (o.is number (finished_phase (in_name n m l ls)) m b (λ w. in_name n w l ls) h.0 (record { station_is = refl; holds = (refl, h.1) }));
    }

    pub name_ends : {t : Bool} (v : Nest) (s' : Headway) → t ≡ name_byte b → t ≡ false → NamedIs s.nest k v → s' ≡ with_nest s v → PlainStep Station.Marking s' b r → NameStep Station.InName s b k r
    name_ends v s' e n o w p = record {
      is = λ number u m l ls h few z. rw (sym e ∙ n) ((subst (λ x. PlainStep Station.Marking x b r) w p).is number u (called m) l ls (o.is number m l ls h.1 (z (sym e ∙ n) m refl)) few);
    }

    -- the step at a station
    pub plain_step : (t : Station) → s.station ≡ t → PlainStep t s b r → ByteStepIs s b k r
    plain_step t e p = record { is = λ number q h few z. of_station (λ q. PhaseHolds number q s → FewNodesIn q → ByteTakenAs number q b r) t e h (p.is number) h.holds few }

    pub name_step : (t : Station) → s.station ≡ t → NameStep t s b k r → ByteStepIs s b k r
    name_step t e p = record { is = λ number q h few z. of_station (λ q. PhaseHolds number q s → FewNodesIn q → EndedNameIs number q b k → ByteTakenAs number q b r) t e h (p.is number) h.holds few z }

-- a comma or a bar
module _ (s : Headway) (kind other : ℕ) (r : Moved) where
  pub join_refused : s.nest.here.kind ≡ other → r ≡ told_as s Fate.Refused → JoinStep s kind other r
  join_refused e z = record { with_comma_lem = λ c o number d n x l ls h few. comma o number d n x l ls h.around.here_is; with_bar_lem = λ c o number d n x l ls h few. bar o number d n x l ls h.around.here_is }
    where
      comma : other ≡ 4 → (number : List ℕ → ℕ) (d : Declaration) (n : List ℕ) (x : Model) (l : LeftOf) (ls : List LeftOf) → LeftShown number l s.nest.here.kind s.nest.here.nodes
          → FateIs number (λ p. with_comma n x l ls) d r
      comma o number d n x fresh ls h = absurd (omega (arith, e, o, h))
      comma o number d n x (commas y) ls h = absurd (omega (arith, e, o, h.0))
      comma o number d n x (bars y) ls h = stops s z

      bar : other ≡ 3 → (number : List ℕ → ℕ) (d : Declaration) (n : List ℕ) (x : Model) (l : LeftOf) (ls : List LeftOf) → LeftShown number l s.nest.here.kind s.nest.here.nodes
          → FateIs number (λ p. with_bar n x l ls) d r
      bar o number d n x fresh ls h = absurd (omega (arith, e, o, h))
      bar o number d n x (commas y) ls h = stops s z
      bar o number d n x (bars y) ls h = absurd (omega (arith, e, o, h.0))

  pub join_more : (v : Nest) (s' : Headway) → (s.nest.here.kind ≡ other → ⊥) → JoinIs s.nest kind v → s' ≡ with_nest s v → r ≡ moved_on s' Station.Wants 0 → JoinStep s kind other r
  join_more v s' e j w m = record { with_comma_lem = λ c o number d n x l ls h few. comma c o number d n x l ls h few; with_bar_lem = λ c o number d n x l ls h few. bar c o number d n x l ls h few }
    where
      at : r ≡ moved_on (with_nest s v) Station.Wants 0
      at = m ∙ ap (λ x. moved_on x Station.Wants 0) w

      comma : kind ≡ 3 → other ≡ 4 → (number : List ℕ → ℕ) (d : Declaration) (n : List ℕ) (x : Model) (l : LeftOf) (ls : List LeftOf) → Nested number x l ls s.nest → KeepsNodes x l ls → FateIs number (λ p. with_comma n x l ls) d r
      comma c o number d n x fresh ls h few = goes (wants n (commas x) ls) (with_nest s v) 0 at (j.with_comma_lem c number x fresh ls h few)
      comma c o number d n x (commas y) ls h few = goes (wants n (commas (sequence y x)) ls) (with_nest s v) 0 at (j.with_comma_lem c number x (commas y) ls h few)
      comma c o number d n x (bars y) ls h few = absurd (e (h.around.here_is.0 ∙ sym o))

      bar : kind ≡ 4 → other ≡ 3 → (number : List ℕ → ℕ) (d : Declaration) (n : List ℕ) (x : Model) (l : LeftOf) (ls : List LeftOf) → Nested number x l ls s.nest → KeepsNodes x l ls → FateIs number (λ p. with_bar n x l ls) d r
      bar c o number d n x fresh ls h few = goes (wants n (bars x) ls) (with_nest s v) 0 at (j.with_bar_lem c number x fresh ls h few)
      bar c o number d n x (commas y) ls h few = absurd (e (h.around.here_is.0 ∙ sym o))
      bar c o number d n x (bars y) ls h few = goes (wants n (bars (choice y x)) ls) (with_nest s v) 0 at (j.with_bar_lem c number x (bars y) ls h few)

-- a closing parenthesis
module _ (s : Headway) (r : Moved) (v : Nest) (c : CloseIs s.nest v) where
  pub closes_all : (s' : Headway) → s.nest.«open» ≡ 0 → s' ≡ with_row s false v.model → r ≡ moved_on s' Station.GroupClosed 0 → CloseStep s r
  closes_all s' e w m = record { is = λ number d n x l ls h few. go number d n x l ls h few }
    where
      go : (number : List ℕ → ℕ) (d : Declaration) (n : List ℕ) (x : Model) (l : LeftOf) (ls : List LeftOf) → Nested number x l ls s.nest → KeepsNodes x l ls
          → FateIs number (λ p. some (to (closed_group n (behind_left l x) ls))) d r
      go number d n x l [] h few = goes (group_closed n (behind_left l x)) (with_row s false v.model) 0 (m ∙ ap (λ x. moved_on x Station.GroupClosed 0) w) (c.outer number x l h few)
      go number d n x l (l' ∷ ls) h few = absurd (omega (arith, e, h.around.open_is))

  pub closes_inner : (s' : Headway) → (s.nest.«open» ≡ 0 → ⊥) → s' ≡ with_nest s v → r ≡ moved_on s' Station.Marking 0 → CloseStep s r
  closes_inner s' e w m = record { is = λ number d n x l ls h few. go number d n x l ls h few }
    where
      go : (number : List ℕ → ℕ) (d : Declaration) (n : List ℕ) (x : Model) (l : LeftOf) (ls : List LeftOf) → Nested number x l ls s.nest → KeepsNodes x l ls
          → FateIs number (λ p. some (to (closed_group n (behind_left l x) ls))) d r
      go number d n x l [] h few = absurd (e h.around.open_is)
      go number d n x l (l' ∷ ls) h few = goes (marking n (behind_left l x) l' ls) (with_nest s v) 0 (m ∙ ap (λ x. moved_on x Station.Marking 0) w) (c.inner number x l l' ls h few)
