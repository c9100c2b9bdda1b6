-- Each byte at a station outside models of children, return by return. Assumes nothing.
use mathlib.Core.Path.{◌≡◌, refl, sym, ◌∙◌, ap, subst}
use mathlib.Core.Bool.{Bool, true, false}
use mathlib.Core.Option.{some}
use mathlib.Core.List.{List, [], ◌∷◌, ◌++◌}
use Prim.Native.Nat.{ℕ, suc, ◌+◌, ◌≤◌, ◌<◌}
use native.Mathlib.Omega.{arith}
use borrow.Author.Tests.{eq-eqb, ne_eqb}
use lib.ListN.{drop, get_or}
use Rattle.text.specs.Names.{name_first, name_byte, blank}
use Rattle.models.specs.Models.{nothing_inside, mixed, Declaration}
use Rattle.models.specs.Reader.{opening, naming, named, contents, emptying, inside, hashing, mixing, barred, mixed_name, mixed_closed, ended, over, finished_phase}
use Rattle.declarations.specs.declared.NodeRow.{NodeRow}
use Rattle.declarations.specs.Nodes.{StarShown, OrNameIs}
use Rattle.stages.specs.declared.Station.{Station}
use Rattle.stages.specs.declared.Headway.{Headway}
use Rattle.stages.specs.declared.Fate.{Fate}
use Rattle.stages.specs.declared.Moved.{Moved}
use Rattle.stages.specs.Headway.{element_tail, empty_tail, pcdata_tail, MixedShown, ContentShown}
use Rattle.stages.specs.Steps.{moved_on, told_as, with_row, FateIs, completes, ByteTakenAs, FewNodesIn, PlainStep, NameStep, LongerIs, SpelledIs, NoNodesIs}
use Rattle.stages.proofs.Fates.{stops, goes, next_left, more_read, none_left, one_name_more, its_star}

module _ (s : Headway) (b : ℕ) (r : Moved) where
  -- <!ELEMENT
  pub opening_spelled : s.long < 8 → SpelledIs Station.Opening (get_or element_tail s.long 0) s b r → PlainStep Station.Opening s b r
  opening_spelled l o = record {
    is = λ number rest h few.
        let k = s.long in
        subst (λ w. ByteTakenAs number (opening w) b r) (sym (next_left element_tail rest k h l)) (o.is number (finished_phase (opening rest)) (opening (drop (suc k) element_tail)) (record { station_is = refl; holds = more_read element_tail rest k h l }));
  }

  pub opening_whole : {t : Bool} → 8 ≤ s.long → t ≡ blank b → t ≡ true → r ≡ moved_on s Station.Naming 0 → PlainStep Station.Opening s b r
  opening_whole l e y m = record {
    is = λ number rest h few. subst (λ w. ByteTakenAs number (opening w) b r) (sym (none_left element_tail rest s.long h l)) (rw (sym e ∙ y) (goes naming s 0 m tt));
  }

  pub opening_other : {t : Bool} → 8 ≤ s.long → t ≡ blank b → t ≡ false → r ≡ told_as s Fate.Refused → PlainStep Station.Opening s b r
  opening_other l e n z = record { is = λ number rest h few. subst (λ w. ByteTakenAs number (opening w) b r) (sym (none_left element_tail rest s.long h l)) (rw (sym e ∙ n) (stops s z)) }

  -- the element's name
  pub naming_blank : {t : Bool} → t ≡ blank b → t ≡ true → r ≡ moved_on s Station.Naming 0 → PlainStep Station.Naming s b r
  naming_blank e y m = record { is = λ number h few. rw (sym e ∙ y) (goes naming s 0 m tt) }

  pub naming_first : {t u : Bool} → t ≡ blank b → t ≡ false → u ≡ name_first b → u ≡ true → r ≡ moved_on s Station.Named 1 → PlainStep Station.Naming s b r
  naming_first e n f y m = record { is = λ number h few. rw (sym e ∙ n) (rw (sym f ∙ y) (goes (named (b ∷ [])) s 1 m refl)) }

  pub naming_other : {t u : Bool} → t ≡ blank b → t ≡ false → u ≡ name_first b → u ≡ false → r ≡ told_as s Fate.Refused → PlainStep Station.Naming s b r
  naming_other e n f m z = record { is = λ number h few. rw (sym e ∙ n) (rw (sym f ∙ m) (stops s z)) }

  pub own_longer : {t : Bool} → t ≡ name_byte b → t ≡ true → LongerIs Station.Named s r → PlainStep Station.Named s b r
  own_longer e y o = record { is = λ number n h few. rw (sym e ∙ y) (o.is number (finished_phase (named n)) n b named h (record { station_is = refl; holds = refl })) }

  pub own_blank : {t u : Bool} → t ≡ name_byte b → t ≡ false → u ≡ blank b → u ≡ true → r ≡ moved_on s Station.Contents 0 → PlainStep Station.Named s b r
  own_blank e n f y m = record { is = λ number w h few. rw (sym e ∙ n) (rw (sym f ∙ y) (goes (contents w) s 0 m tt)) }

  pub own_other : {t u : Bool} → t ≡ name_byte b → t ≡ false → u ≡ blank b → u ≡ false → r ≡ told_as s Fate.Refused → PlainStep Station.Named s b r
  own_other e n f m z = record { is = λ number w h few. rw (sym e ∙ n) (rw (sym f ∙ m) (stops s z)) }

  -- where a content may begin
  pub contents_blank : {t : Bool} → t ≡ blank b → t ≡ true → r ≡ moved_on s Station.Contents 0 → PlainStep Station.Contents s b r
  contents_blank e y m = record { is = λ number n h few. rw (sym e ∙ y) (goes (contents n) s 0 m tt) }

  pub contents_empty : {t : Bool} → t ≡ blank b → t ≡ false → b ≡ 69 → r ≡ moved_on s Station.Emptying 0 → PlainStep Station.Contents s b r
  contents_empty e n f m = record { is = λ number w h few. rw (sym e ∙ n) (rw (eq-eqb b 69 f) (goes (emptying w empty_tail) s 0 m (record { in_word = omega arith; left = refl }))) }

  pub contents_group : {t : Bool} → t ≡ blank b → t ≡ false → (b ≡ 69 → ⊥) → b ≡ 40 → r ≡ moved_on s Station.Inside 0 → PlainStep Station.Contents s b r
  contents_group e n k f m = record { is = λ number w h few. rw (sym e ∙ n) (rw (ne_eqb b 69 k) (rw (eq-eqb b 40 f) (goes (inside w) s 0 m tt))) }

  pub contents_other : {t : Bool} → t ≡ blank b → t ≡ false → (b ≡ 69 → ⊥) → (b ≡ 40 → ⊥) → r ≡ told_as s Fate.Refused → PlainStep Station.Contents s b r
  contents_other e n k f z = record { is = λ number w h few. rw (sym e ∙ n) (rw (ne_eqb b 69 k) (rw (ne_eqb b 40 f) (stops s z))) }

  -- behind a content
  pub ended_blank : {t : Bool} → t ≡ blank b → t ≡ true → r ≡ moved_on s Station.Ended 0 → PlainStep Station.Ended s b r
  ended_blank e y m = record { is = λ number n c h few. rw (sym e ∙ y) (goes (ended n c) s 0 m h) }

  pub ended_over : {t : Bool} → t ≡ blank b → t ≡ false → b ≡ 62 → r ≡ told_as s Fate.Over → PlainStep Station.Ended s b r
  ended_over e n f z = record {
    is = λ number w c h few.
        let d : Declaration = record { declared = w; content = c } in
        rw (sym e ∙ n) (rw (eq-eqb b 62 f) (subst (λ x. FateIs number (λ p. some (over d)) d x) (sym z) (completes d refl h)));
  }

  pub ended_other : {t : Bool} → t ≡ blank b → t ≡ false → (b ≡ 62 → ⊥) → r ≡ told_as s Fate.Refused → PlainStep Station.Ended s b r
  ended_other e n f z = record { is = λ number w c h few. rw (sym e ∙ n) (rw (ne_eqb b 62 f) (stops s z)) }

  -- EMPTY
  pub emptying_spelled : s.long < 4 → SpelledIs Station.Emptying (get_or empty_tail s.long 0) s b r → PlainStep Station.Emptying s b r
  emptying_spelled l o = record {
    is = λ number n rest h few.
        let k = s.long in
        subst (λ w. ByteTakenAs number (emptying n w) b r) (sym (next_left empty_tail rest k h l)) (o.is number (finished_phase (emptying n rest)) (emptying n (drop (suc k) empty_tail)) (record { station_is = refl; holds = more_read empty_tail rest k h l }));
  }

  pub emptying_whole : (a : NodeRow) (s' : Headway) → 4 ≤ s.long → NoNodesIs a → s' ≡ with_row s false a → PlainStep Station.Ended s' b r → PlainStep Station.Emptying s b r
  emptying_whole a s' l z e p = record {
    is = λ number n rest h few.
        let shown : ContentShown number nothing_inside a = record { laid = z.laid; deep_is = z.deep_is } in
        subst (λ w. ByteTakenAs number (emptying n w) b r) (sym (none_left empty_tail rest s.long h l)) ((subst (λ z. PlainStep Station.Ended z b r) e p).is number n nothing_inside shown (omega arith));
  }

  -- mixed content
  pub mixing_blank : {t : Bool} → t ≡ blank b → t ≡ true → r ≡ moved_on s Station.Mixing 0 → PlainStep Station.Mixing s b r
  mixing_blank e y m = record { is = λ number n names h few. rw (sym e ∙ y) (goes (mixing n names) s 0 m h) }

  pub mixing_bar : {t : Bool} → t ≡ blank b → t ≡ false → b ≡ 124 → r ≡ moved_on s Station.Barred 0 → PlainStep Station.Mixing s b r
  mixing_bar e n f m = record { is = λ number w names h few. rw (sym e ∙ n) (rw (eq-eqb b 124 f) (goes (barred w names) s 0 m h)) }

  pub mixing_closes : {t : Bool} → t ≡ blank b → t ≡ false → (b ≡ 124 → ⊥) → b ≡ 41 → r ≡ moved_on s Station.MixedClosed 0 → PlainStep Station.Mixing s b r
  mixing_closes e n k f m = record { is = λ number w names h few. rw (sym e ∙ n) (rw (ne_eqb b 124 k) (rw (eq-eqb b 41 f) (goes (mixed_closed w names) s 0 m h))) }

  pub mixing_other : {t : Bool} → t ≡ blank b → t ≡ false → (b ≡ 124 → ⊥) → (b ≡ 41 → ⊥) → r ≡ told_as s Fate.Refused → PlainStep Station.Mixing s b r
  mixing_other e n k f z = record { is = λ number w names h few. rw (sym e ∙ n) (rw (ne_eqb b 124 k) (rw (ne_eqb b 41 f) (stops s z))) }

  -- #PCDATA
  pub hashing_spelled : s.long < 6 → SpelledIs Station.Hashing (get_or pcdata_tail s.long 0) s b r → PlainStep Station.Hashing s b r
  hashing_spelled l o = record {
    is = λ number n rest h few.
        let k = s.long in
        subst (λ w. ByteTakenAs number (hashing n w) b r) (sym (next_left pcdata_tail rest k h.0 l)) (o.is number (finished_phase (hashing n rest)) (hashing n (drop (suc k) pcdata_tail)) (record { station_is = refl; holds = (more_read pcdata_tail rest k h.0 l, h.1) }));
  }

  pub hashing_whole : 6 ≤ s.long → PlainStep Station.Mixing s b r → PlainStep Station.Hashing s b r
  hashing_whole l p = record { is = λ number n rest h few. subst (λ w. ByteTakenAs number (hashing n w) b r) (sym (none_left pcdata_tail rest s.long h.0 l)) (p.is number n [] h.1 few) }

  -- names of mixed content
  pub barred_blank : {t : Bool} → t ≡ blank b → t ≡ true → r ≡ moved_on s Station.Barred 0 → PlainStep Station.Barred s b r
  barred_blank e y m = record { is = λ number n names h few. rw (sym e ∙ y) (goes (barred n names) s 0 m h) }

  pub barred_first : {t u : Bool} → t ≡ blank b → t ≡ false → u ≡ name_first b → u ≡ true → r ≡ moved_on s Station.MixedName 1 → PlainStep Station.Barred s b r
  barred_first e n f y m = record { is = λ number w names h few. rw (sym e ∙ n) (rw (sym f ∙ y) (goes (mixed_name w names (b ∷ [])) s 1 m (refl, h))) }

  pub barred_other : {t u : Bool} → t ≡ blank b → t ≡ false → u ≡ name_first b → u ≡ false → r ≡ told_as s Fate.Refused → PlainStep Station.Barred s b r
  barred_other e n f m z = record { is = λ number w names h few. rw (sym e ∙ n) (rw (sym f ∙ m) (stops s z)) }

  module _ (k : ℕ) where
    pub name_longer : {t : Bool} → t ≡ name_byte b → t ≡ true → LongerIs Station.MixedName s r → NameStep Station.MixedName s b k r
    name_longer e y o = record {
      is = λ number n names m h few z. rw (sym e ∙ y) (o.is number (finished_phase (mixed_name n names m)) m b (mixed_name n names) h.0 (record { station_is = refl; holds = (refl, h.1) }));
    }

    pub name_ends : {t : Bool} (a : NodeRow) (s' : Headway) → t ≡ name_byte b → t ≡ false → OrNameIs s.row k a → s' ≡ with_row s true a → PlainStep Station.Mixing s' b r → NameStep Station.MixedName s b k r
    name_ends a s' e n o w p = record {
      is = λ number u names m h few z.
          rw (sym e ∙ n)
          ((subst (λ x. PlainStep Station.Mixing x b r) w p).is number u (names ++ m ∷ []) (one_name_more number names m k s.named s.row a (z (sym e ∙ n) m refl) h.1 o few) few);
    }

  -- behind the ) of mixed content
  module _ (a : NodeRow) (s' : Headway) (o : StarShown s.row a) (w : s' ≡ with_row s s.named a) where
    pub closed_star : b ≡ 42 → r ≡ moved_on s' Station.Ended 0 → PlainStep Station.MixedClosed s b r
    closed_star e m = record {
      is = λ number n names h few. rw (eq-eqb b 42 e) (goes (ended n (mixed names)) (with_row s s.named a) 0 (m ∙ ap (λ x. moved_on x Station.Ended 0) w) (its_star number names s.named s.row a h o few));
    }

    pub closed_bare : (b ≡ 42 → ⊥) → s.named ≡ false → PlainStep Station.Ended s' b r → PlainStep Station.MixedClosed s b r
    closed_bare e f p = record { is = λ number n names h few. go number n names h few }
      where
        go : (number : List ℕ → ℕ) (n : List ℕ) (names : List (List ℕ)) → MixedShown number names s.named s.row → FewNodesIn (mixed_closed n names) → ByteTakenAs number (mixed_closed n names) b r
        go number n [] h few = rw (ne_eqb b 42 e) ((subst (λ x. PlainStep Station.Ended x b r) w p).is number n (mixed []) (its_star number [] s.named s.row a h o few) few)
        go number n (m ∷ names) h few = absurd (let x : true ≡ false = sym h.named_is ∙ f in let y : ◌≡◌ {A = ℕ} 0 1 = cc in omega arith)

  pub closed_unstarred : (b ≡ 42 → ⊥) → s.named ≡ true → r ≡ told_as s Fate.Refused → PlainStep Station.MixedClosed s b r
  closed_unstarred e y z = record { is = λ number n names h few. go number n names h }
    where
      go : (number : List ℕ → ℕ) (n : List ℕ) (names : List (List ℕ)) → MixedShown number names s.named s.row → ByteTakenAs number (mixed_closed n names) b r
      go number n [] h = absurd (let x : true ≡ false = sym y ∙ h.named_is in let w : ◌≡◌ {A = ℕ} 0 1 = cc in omega arith)
      go number n (m ∷ names) h = rw (ne_eqb b 42 e) (stops s z)
