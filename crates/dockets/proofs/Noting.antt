-- The name that ends is filed, or none does. Assumes nothing.
use mathlib.Core.Path.{◌≡◌, refl, sym, ◌∙◌, ap, ap₂, subst}
use mathlib.Core.Logic.{◌⊎◌, inl, inr}
use mathlib.Core.Bool.{Bool, true, false, cond, true≢false}
use mathlib.Core.Option.{Option, none, some}
use mathlib.Core.List.{List, [], ◌∷◌, ◌++◌, append-nil, append_assoc}
use Prim.Native.Nat.{ℕ, ◌+◌, ◌-◌, ◌≤◌}
use native.Mathlib.Omega.{arith}
use lib.ListN.{length, take, drop, length-append, length-take, take-append-drop}
use lib.Seq.{take-append_seam, drop-append_seam}
use Rattle.text.specs.Names.{name_byte}
use Rattle.encoding.specs.Distinct.{place_of}
use Rattle.models.specs.Reader.{Phase, opening, naming, named, contents, emptying, inside, hashing, mixing, barred, mixed_name, mixed_closed, wants, in_name, marking, after, group_closed, ended}
use Rattle.reading.proofs.Telling.{none≢some}
use Rattle.stages.specs.declared.NameEnd.{NameEnd}
use Rattle.models.specs.Names.{own_name, inner_name}
use Rattle.stages.specs.Steps.{NameEndIs, none_ends, own_ends, inner_ends}
use Rattle.rosters.specs.declared.Roster.{Roster}
use Rattle.rosters.specs.Names.{names_ended, ending_at}
use Rattle.rosters.specs.Promises.{NameLast}
use Rattle.rosters.specs.Rosters.{RosterIs, Enrolled}
use Rattle.dockets.specs.declared.Docket.{Docket}
use Rattle.dockets.specs.Kept.{NamesHeld, ElementIs}
use Rattle.dockets.specs.Noted.{end_long, Noting, NamesLast, NotedAs, NotedIs}

abbrev Names : Type 0
Names = List (List ℕ)

-- the last bytes in front of a place
last_part : (text n : List ℕ) (at long : ℕ) → NameLast n (take at text) → at ≤ length text → long ≡ length n → take (at - (at - long)) (drop (at - long) text) ≡ n
last_part text n at long h a e =
    let f = h.last.before in
    let far : at ≡ length f + length n = omega (arith, ap length h.last.is, length-append f n, length-take at text) in
    let k : at - long ≡ length f = omega (arith, far, e) in
    let j : at - (at - long) ≡ length n = omega (arith, far, e) in
    let whole : text ≡ f ++ (n ++ drop at text) = sym (take-append-drop at text) ∙ ap (λ (l : List ℕ). l ++ drop at text) h.last.is ∙ append_assoc f n (drop at text) in
    ap₂ (λ (x y : ℕ). take x (drop y text)) j k ∙ ap (λ (l : List ℕ). take (length n) (drop (length f) l)) whole ∙ ap (take (length n)) (drop-append_seam f (n ++ drop at text)) ∙ take-append_seam n (drop at text)

pub own_low : (at : ℕ) (end : NameEnd) (long : ℕ) → end ≡ NameEnd.Own long → end_long end ≤ at → long ≤ at
own_low at end long e h = subst (λ (z : NameEnd). end_long z ≤ at) e h

pub inner_low : (at : ℕ) (end : NameEnd) (long : ℕ) → end ≡ NameEnd.Inner long → end_long end ≤ at → long ≤ at
inner_low at end long e h = subst (λ (z : NameEnd). end_long z ≤ at) e h

-- no name ends
still : (o : Option (List ℕ)) (b : ℕ) → (name_byte b ≡ true) ⊎ (o ≡ none) → names_ended o b ≡ []
still none b h = refl
still (some n) b (inl e) = ap (λ (t : Bool). cond t [] (n ∷ [])) e
still (some n) b (inr e) = absurd (none≢some e refl)

ends_as : (o : Option (List ℕ)) (n : List ℕ) (b : ℕ) → o ≡ some n → name_byte b ≡ false → names_ended o b ≡ n ∷ []
ends_as o n b e f = ap (λ (z : Option (List ℕ)). names_ended z b) e ∙ ap (λ (t : Bool). cond t [] (n ∷ [])) f

-- a phase reads one name at most
one_name : (q : Phase) (n : List ℕ) → own_name q ≡ some n → inner_name q ≡ none
one_name (opening rest) k e = refl
one_name naming k e = refl
one_name (named n) k e = refl
one_name (contents n) k e = refl
one_name (emptying n rest) k e = refl
one_name (inside n) k e = refl
one_name (hashing n rest) k e = refl
one_name (mixing n names) k e = refl
one_name (barred n names) k e = refl
one_name (mixed_name n names m) k e = absurd (none≢some refl e)
one_name (mixed_closed n names) k e = refl
one_name (wants n l ls) k e = refl
one_name (in_name n m l ls) k e = absurd (none≢some refl e)
one_name (marking n x l ls) k e = refl
one_name (after n x l ls) k e = refl
one_name (group_closed n x) k e = refl
one_name (ended n c) k e = refl

one_inner : (q : Phase) (n : List ℕ) → inner_name q ≡ some n → own_name q ≡ none
one_inner (opening rest) k e = refl
one_inner naming k e = refl
one_inner (named n) k e = absurd (none≢some refl e)
one_inner (contents n) k e = refl
one_inner (emptying n rest) k e = refl
one_inner (inside n) k e = refl
one_inner (hashing n rest) k e = refl
one_inner (mixing n names) k e = refl
one_inner (barred n names) k e = refl
one_inner (mixed_name n names m) k e = refl
one_inner (mixed_closed n names) k e = refl
one_inner (wants n l ls) k e = refl
one_inner (in_name n m l ls) k e = refl
one_inner (marking n x l ls) k e = refl
one_inner (after n x l ls) k e = refl
one_inner (group_closed n x) k e = refl
one_inner (ended n c) k e = refl

some_same : {m n : List ℕ} → some m ≡ some n → m ≡ n
some_same e = cc

only_one : (own : Names) (n m : List ℕ) → own ++ n ∷ [] ≡ m ∷ [] → n ≡ m
only_one [] n m e = cc
only_one (x ∷ own) n m e = absurd (omega (arith, simp length-append at (ap length e)))

module _ (text : List ℕ) (at : ℕ) (k : Docket) (nb ne tb te : List ℕ) where
  pub noted_none : (end : NameEnd) → end ≡ NameEnd.Nothing → Noting text at end k nb ne tb te → NotedIs text at end k nb ne tb te nb ne tb te k
  noted_none end e h = record {
    name_room = h.names_enrol.sized;
    tag_room = h.tags_enrol.sized;
    small = h.small;
    tally_same = refl;
    passed_same = refl;
    is = λ ms ts rows tag_rows q b w i l. on ms ts rows tag_rows q b w (quiet q b (subst (NameEndIs q b) e i));
  }
    where
      quiet : (q : Phase) (b : ℕ) → NameEndIs q b NameEnd.Nothing → (name_byte b ≡ true) ⊎ ((own_name q ≡ none) × (inner_name q ≡ none))
      quiet q b (none_ends i) = i

      no_own : (q : Phase) (b : ℕ) → (name_byte b ≡ true) ⊎ ((own_name q ≡ none) × (inner_name q ≡ none)) → names_ended (own_name q) b ≡ []
      no_own q b (inl i) = still (own_name q) b (inl i)
      no_own q b (inr i) = still (own_name q) b (inr i.0)

      no_inner : (q : Phase) (b : ℕ) → (name_byte b ≡ true) ⊎ ((own_name q ≡ none) × (inner_name q ≡ none)) → names_ended (inner_name q) b ≡ []
      no_inner q b (inl i) = still (inner_name q) b (inl i)
      no_inner q b (inr i) = still (inner_name q) b (inr i.1)

      nothing_ends : (q : Phase) (b : ℕ) → (name_byte b ≡ true) ⊎ ((own_name q ≡ none) × (inner_name q ≡ none)) → name_byte b ≡ false → (m : List ℕ) → inner_name q ≡ some m → ⊥
      nothing_ends q b (inl i) f m j = true≢false (sym i ∙ f)
      nothing_ends q b (inr i) f m j = none≢some i.1 j

      on : (ms ts rows tag_rows : Names) (q : Phase) (b : ℕ) → NamesHeld ms ts k nb ne tb te rows tag_rows → (name_byte b ≡ true) ⊎ ((own_name q ≡ none) × (inner_name q ≡ none))
          → NotedAs ms ts rows tag_rows q b k k nb ne tb te
      on ms ts rows tag_rows q b w i =
          let o : ms ≡ ms ++ ending_at q b = sym (append-nil ms) ∙ ap (λ (l : Names). ms ++ l) (sym (ap₂ (λ (x y : Names). x ++ y) (no_own q b i) (no_inner q b i))) in
          let p : ts ≡ ts ++ names_ended (own_name q) b = sym (append-nil ts) ∙ ap (λ (l : Names). ts ++ l) (sym (no_own q b i)) in
          record {
            rows_now = rows;
            tag_rows_now = tag_rows;
            held = record { names_are = subst (λ (l : Names). RosterIs l nb ne k.names rows) o w.names_are; tags_are = subst (λ (l : Names). RosterIs l tb te k.tags tag_rows) p w.tags_are };
            stay = λ y m. refl;
            inner_is = λ f m j. absurd (nothing_ends q b i f m j);
            element_is = λ own g m. subst (ElementIs k rows tag_rows) (sym (append-nil own) ∙ ap (λ (l : Names). own ++ l) (sym (no_own q b i))) g;
          }

  pub noted_inner : (end : NameEnd) (long : ℕ) (nb' ne' : List ℕ) (more : Roster) → end ≡ NameEnd.Inner long → Noting text at end k nb ne tb te
      → Enrolled nb ne k.names (take (at - (at - long)) (drop (at - long) text)) nb' ne' more
      → NotedIs text at end k nb ne tb te nb' ne' tb te (record { names = more; tags = k.tags; element = k.element; tally = k.tally; passed = k.passed })
  noted_inner end long nb' ne' more e h f = record {
    name_room = record { room = omega (arith, f.long_bytes, h.names_enrol.sized.room); places = omega (arith, f.long_ends, h.names_enrol.sized.places) };
    tag_room = h.tags_enrol.sized;
    small = record { number_small = f.small; element_small = h.small.element_small; tag_small = h.small.tag_small; few_productions = h.small.few_productions; few_nodes = h.small.few_nodes };
    tally_same = refl;
    passed_same = refl;
    is = λ ms ts rows tag_rows q b w i l. on ms ts rows tag_rows q b w (subst (NameEndIs q b) e i) l;
  }
    where
      r : Docket
      r = record { names = more; tags = k.tags; element = k.element; tally = k.tally; passed = k.passed }

      on : (ms ts rows tag_rows : Names) (q : Phase) (b : ℕ) → NamesHeld ms ts k nb ne tb te rows tag_rows → NameEndIs q b (NameEnd.Inner long) → NamesLast q (take at text)
          → NotedAs ms ts rows tag_rows q b k r nb' ne' tb te
      on ms ts rows tag_rows q b w (inner_ends m j c d) l =
          let n = l m (inr j) in
          let f' = subst (λ (x : List ℕ). Enrolled nb ne k.names x nb' ne' more) (last_part text m at long n h.high d) f in
          let a = f'.is ms rows w.names_are n.short in
          let own : names_ended (own_name q) b ≡ [] = still (own_name q) b (inr (one_inner q m j)) in
          let o : ms ++ m ∷ [] ≡ ms ++ ending_at q b = ap (λ (l : Names). ms ++ l) (sym (ap₂ (λ (x y : Names). x ++ y) own (ends_as (inner_name q) m b j c))) in
          let p : ts ≡ ts ++ names_ended (own_name q) b = sym (append-nil ts) ∙ ap (λ (l : Names). ts ++ l) (sym own) in
          record {
            rows_now = a.rows_now;
            tag_rows_now = tag_rows;
            held = record { names_are = subst (λ (l : Names). RosterIs l nb' ne' more a.rows_now) o a.are; tags_are = subst (λ (l : Names). RosterIs l tb te k.tags tag_rows) p w.tags_are };
            stay = a.stay;
            inner_is = λ g m' j'. let same : m' ≡ m = some_same (sym j' ∙ j) in ap (place_of a.rows_now) same ∙ sym a.number_is;
            element_is = λ own' g mem. subst (ElementIs r a.rows_now tag_rows) (sym (append-nil own') ∙ ap (λ (l : Names). own' ++ l) (sym own))
                (record { number_is = λ n' z. g.number_is n' z ∙ sym (a.stay n' (mem n' z)); tag_is = g.tag_is });
          }

  pub noted_own : (end : NameEnd) (long : ℕ) (nb' ne' tb' te' : List ℕ) (more tag : Roster) → end ≡ NameEnd.Own long → Noting text at end k nb ne tb te
      → Enrolled nb ne k.names (take (at - (at - long)) (drop (at - long) text)) nb' ne' more → Enrolled tb te k.tags (take (at - (at - long)) (drop (at - long) text)) tb' te' tag
      → NotedIs text at end k nb ne tb te nb' ne' tb' te' (record { names = more; tags = tag; element = more.number; tally = k.tally; passed = k.passed })
  noted_own end long nb' ne' tb' te' more tag e h f g = record {
    name_room = record { room = omega (arith, f.long_bytes, h.names_enrol.sized.room); places = omega (arith, f.long_ends, h.names_enrol.sized.places) };
    tag_room = record { room = omega (arith, g.long_bytes, h.tags_enrol.sized.room); places = omega (arith, g.long_ends, h.tags_enrol.sized.places) };
    small = record { number_small = f.small; element_small = f.small; tag_small = g.small; few_productions = h.small.few_productions; few_nodes = h.small.few_nodes };
    tally_same = refl;
    passed_same = refl;
    is = λ ms ts rows tag_rows q b w i l. on ms ts rows tag_rows q b w (subst (NameEndIs q b) e i) l;
  }
    where
      r : Docket
      r = record { names = more; tags = tag; element = more.number; tally = k.tally; passed = k.passed }

      on : (ms ts rows tag_rows : Names) (q : Phase) (b : ℕ) → NamesHeld ms ts k nb ne tb te rows tag_rows → NameEndIs q b (NameEnd.Own long) → NamesLast q (take at text)
          → NotedAs ms ts rows tag_rows q b k r nb' ne' tb' te'
      on ms ts rows tag_rows q b w (own_ends m j c d) l =
          let n = l m (inl j) in
          let part = last_part text m at long n h.high d in
          let a = (subst (λ (x : List ℕ). Enrolled nb ne k.names x nb' ne' more) part f).is ms rows w.names_are n.short in
          let z = (subst (λ (x : List ℕ). Enrolled tb te k.tags x tb' te' tag) part g).is ts tag_rows w.tags_are n.short in
          let own : names_ended (own_name q) b ≡ m ∷ [] = ends_as (own_name q) m b j c in
          let none_inner = one_name q m j in
          let o : ms ++ m ∷ [] ≡ ms ++ ending_at q b = ap (λ (l : Names). ms ++ l) (sym (ap₂ (λ (x y : Names). x ++ y) own (still (inner_name q) b (inr none_inner)))) in
          let p : ts ++ m ∷ [] ≡ ts ++ names_ended (own_name q) b = ap (λ (l : Names). ts ++ l) (sym own) in
          record {
            rows_now = a.rows_now;
            tag_rows_now = z.rows_now;
            held = record { names_are = subst (λ (l : Names). RosterIs l nb' ne' more a.rows_now) o a.are; tags_are = subst (λ (l : Names). RosterIs l tb' te' tag z.rows_now) p z.are };
            stay = a.stay;
            inner_is = λ g m' j'. absurd (none≢some none_inner j');
            element_is = λ own' g mem. subst (ElementIs r a.rows_now z.rows_now) (ap (λ (l : Names). own' ++ l) (sym own))
                (record {
                  number_is = λ n' y. a.number_is ∙ ap (place_of a.rows_now) (only_one own' m n' y);
                  tag_is = λ n' y. z.number_is ∙ ap (place_of z.rows_now) (only_one own' m n' y);
                });
          }
