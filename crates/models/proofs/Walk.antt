-- The machine goes through every text of declarations. Assumes nothing.
use mathlib.Core.Path.{◌≡◌, refl, sym, ◌∙◌, ap, subst}
use mathlib.Core.Logic.{◌⊎◌, inl, inr, ⊎_elim}
use mathlib.Core.Bool.{Bool, true, false, cond, ◌||◌}
use mathlib.Core.Option.{Option, none, some}
use mathlib.Core.List.{List, [], ◌∷◌, ◌++◌, append_assoc, append-nil}
use Prim.Native.Nat.{ℕ, suc, ◌+◌, ◌≤◌, ◌<◌}
use native.Mathlib.Omega.{arith}
use lib.Dec.{eqb, ltb}
use lib.ListN.{length, length-append}
use borrow.Author.Tests.{lt-ltb, eqb-true}
use Rattle.limits.specs.Limits.{longest_name}
use Rattle.text.specs.Names.{name_first, name_byte, blank, All}
use Rattle.notation.specs.Tokens.{TagName}
use Rattle.reading.specs.Machine.{and_then, walk}
use Rattle.models.specs.Models.{Model, called, sequence, choice, optional, any_number, at_least_one, ContentSpec, nothing_inside, mixed, children, Declaration}
use Rattle.models.specs.Spelling.{Blanks, no_blank, a_blank, Space, space, MarkIs, unmarked, question, asterisk, plus, ParticleIs, a_group, GroupIs, a_choice, a_sequence, ChoiceIs, two, or_more, SequenceIs, one, and_more, BarredNames, MixedIs, starred, characters, SpecIs, is_empty, is_mixed, are_children, DeclarationIs, declaration, DeclarationsAre, DtdIs}
use Rattle.models.specs.Reader.{LeftOf, fresh, commas, bars, behind_left, Phase, opening, naming, named, contents, emptying, inside, hashing, mixing, barred, mixed_name, mixed_closed, wants, in_name, marking, after, group_closed, ended, Move, to, over, only_if_true, longer, step_ended, step_mark, with_comma, with_bar, closed_group, step_after, step_marking, step_item, step_mixing, step_phase, DtdProgress, outside, within, moved_by, step_declarations, value_of_dtd}

-- what holds of the four blanks holds of every blank
or_cases : (s t : Bool) → s || t ≡ true → (s ≡ true) ⊎ (t ≡ true)
or_cases true t e = inl refl
or_cases false t e = inr e

pub of_blanks : (P : ℕ → Type 0) (b : ℕ) → blank b ≡ true → P 32 → P 9 → P 13 → P 10 → P b
of_blanks P b h x y z w =
    ⊎_elim (λ e. is 32 e x) (λ k.
    ⊎_elim (λ e. is 9 e y) (λ j.
    ⊎_elim (λ e. is 13 e z) (λ e. is 10 e w) (or_cases (eqb b 13) (eqb b 10) j)) (or_cases (eqb b 9) (eqb b 13 || eqb b 10) k)) (or_cases (eqb b 32) (eqb b 9 || (eqb b 13 || eqb b 10)) h)
  where
    is : (c : ℕ) → eqb b c ≡ true → P c → P b
    is c e v = subst P (sym (eqb-true b c e)) v

pub letter_no_blank : (b : ℕ) → name_first b ≡ true → blank b ≡ false
letter_no_blank b h = on (blank b) refl
  where
    on : (t : Bool) → blank b ≡ t → t ≡ false
    on true e = absurd (of_blanks (λ c. name_first c ≡ true → ⊥) b e (λ k. no k) (λ k. no k) (λ k. no k) (λ k. no k) h)
      where
        no : false ≡ true → ⊥
        no k = let z : ◌≡◌ {A = ℕ} 0 1 = cc in omega arith
    on false e = refl

-- rows one behind the other
three : (a b c r : List ℕ) → (a ++ (b ++ c)) ++ r ≡ a ++ (b ++ (c ++ r))
three a b c r = simp append_assoc

four : (a b c d r : List ℕ) → (a ++ (b ++ (c ++ d))) ++ r ≡ a ++ (b ++ (c ++ (d ++ r)))
four a b c d r = simp append_assoc

five : (a b c d e r : List ℕ) → (a ++ (b ++ (c ++ (d ++ e)))) ++ r ≡ a ++ (b ++ (c ++ (d ++ (e ++ r))))
five a b c d e r = simp append_assoc

six : (a b c d e f r : List ℕ) → (a ++ (b ++ (c ++ (d ++ (e ++ f))))) ++ r ≡ a ++ (b ++ (c ++ (d ++ (e ++ (f ++ r)))))
six a b c d e f r = simp append_assoc

module _ (p : ℕ) where
  abbrev go : DtdProgress → List ℕ → Option DtdProgress
  go s w = walk (step_declarations p) s w

  -- one byte further
  one_on : (s s' : DtdProgress) (b : ℕ) (rest : List ℕ) → step_declarations p s b ≡ some s' → go s (b ∷ rest) ≡ go s' rest
  one_on s s' b rest e = ap (λ o. and_then o (λ z. go z rest)) e

  -- states that white space does not change
  abbrev Stays : DtdProgress → Type 0
  Stays s = (b : ℕ) → blank b ≡ true → step_declarations p s b ≡ some s

  blanks_on : {t : List ℕ} (s : DtdProgress) → Stays s → Blanks t → (rest : List ℕ) → go s (t ++ rest) ≡ go s rest
  blanks_on s h no_blank rest = refl
  blanks_on s h (a_blank {b = b} {s = t} e k) rest = one_on s s b (t ++ rest) (h b e) ∙ blanks_on s h k rest

  -- a name's bytes behind its first
  name_on : (f : List ℕ → DtdProgress) → ((m : List ℕ) (b : ℕ) → name_byte b ≡ true → length m < longest_name → step_declarations p (f m) b ≡ some (f (m ++ b ∷ [])))
      → (m n : List ℕ) → All name_byte n → length m + length n ≤ longest_name → (rest : List ℕ) → go (f m) (n ++ rest) ≡ go (f (m ++ n)) rest
  name_on f g m [] h k rest = ap (λ l. go (f l) rest) (sym (append-nil m))
  name_on f g m (b ∷ n) h k rest =
      one_on (f m) (f (m ++ b ∷ [])) b (n ++ rest) (g m b h.0 (omega arith))
      ∙ name_on f g (m ++ b ∷ []) n h.1 (simp length-append (omega arith)) rest
      ∙ ap (λ l. go (f l) rest) (append_assoc m (b ∷ []) n)

  module _ (ds : List Declaration) (n : List ℕ) where
    abbrev in_it : Phase → DtdProgress
    in_it q = within ds q

    -- where a name or a group may begin
    record Begins (s : DtdProgress) (l : LeftOf) (ls : List LeftOf) : Type 0 where
      letter_on : (b : ℕ) → name_first b ≡ true → step_declarations p s b ≡ some (in_it (in_name n (b ∷ []) l ls))
      open_on : suc (length ls) < p → step_declarations p s 40 ≡ some (in_it (wants n fresh (l ∷ ls)))
      stays : Stays s

    item_letter : (l : LeftOf) (ls : List LeftOf) (b : ℕ) → name_first b ≡ true → moved_by ds (step_item p n l ls b) ≡ some (in_it (in_name n (b ∷ []) l ls))
    item_letter l ls b h = ap (λ t. moved_by ds (cond t (some (to (in_name n (b ∷ []) l ls))) (cond (eqb b 40) (only_if_true (ltb (suc (length ls)) p) (wants n fresh (l ∷ ls))) none))) h

    item_open : (l : LeftOf) (ls : List LeftOf) → suc (length ls) < p → moved_by ds (step_item p n l ls 40) ≡ some (in_it (wants n fresh (l ∷ ls)))
    item_open l ls h = ap (λ t. moved_by ds (only_if_true t (wants n fresh (l ∷ ls)))) (lt-ltb (suc (length ls)) p h)

    stays_if : (q : Phase) (o : ℕ → Option Move) → (b : ℕ) → blank b ≡ true → moved_by ds (cond (blank b) (some (to q)) (o b)) ≡ some (in_it q)
    stays_if q o b h = ap (λ t. moved_by ds (cond t (some (to q)) (o b))) h

    past_blank : (q : Phase) (o : Option Move) (b : ℕ) → name_first b ≡ true → moved_by ds (cond (blank b) (some (to q)) o) ≡ moved_by ds o
    past_blank q o b h = ap (λ t. moved_by ds (cond t (some (to q)) o)) (letter_no_blank b h)

    wants_begins : (l : LeftOf) (ls : List LeftOf) → Begins (in_it (wants n l ls)) l ls
    wants_begins l ls = record {
      letter_on = λ b h. past_blank (wants n l ls) (step_item p n l ls b) b h ∙ item_letter l ls b h;
      open_on = item_open l ls;
      stays = stays_if (wants n l ls) (step_item p n l ls);
    }

    letter_no_hash : (b : ℕ) → name_first b ≡ true → eqb b 35 ≡ false
    letter_no_hash b h = on (eqb b 35) refl
      where
        on : (t : Bool) → eqb b 35 ≡ t → t ≡ false
        on true e = let k : name_first 35 ≡ true = subst (λ c. name_first c ≡ true) (eqb-true b 35 e) h in absurd (let z : ◌≡◌ {A = ℕ} 0 1 = cc in omega arith)
        on false e = refl

    inside_begins : Begins (in_it (inside n)) fresh []
    inside_begins = record {
      letter_on = λ b h.
          past_blank (inside n) (cond (eqb b 35) (some (to (hashing n (80 ∷ 67 ∷ 68 ∷ 65 ∷ 84 ∷ 65 ∷ [])))) (step_item p n fresh [] b)) b h
          ∙ ap (λ t. moved_by ds (cond t (some (to (hashing n (80 ∷ 67 ∷ 68 ∷ 65 ∷ 84 ∷ 65 ∷ [])))) (step_item p n fresh [] b))) (letter_no_hash b h)
          ∙ item_letter fresh [] b h;
      open_on = item_open fresh [];
      stays = stays_if (inside n) (λ b. cond (eqb b 35) (some (to (hashing n (80 ∷ 67 ∷ 68 ∷ 65 ∷ 84 ∷ 65 ∷ [])))) (step_item p n fresh [] b));
    }

    -- where one has ended
    record Ended (s : DtdProgress) (x : Model) (l : LeftOf) (ls : List LeftOf) : Type 0 where
      blank_on : (b : ℕ) → blank b ≡ true → step_declarations p s b ≡ some (in_it (after n x l ls))
      comma_on : step_declarations p s 44 ≡ moved_by ds (with_comma n x l ls)
      bar_on : step_declarations p s 124 ≡ moved_by ds (with_bar n x l ls)
      close_on : step_declarations p s 41 ≡ some (in_it (closed_group n (behind_left l x) ls))

    after_ended : (x : Model) (l : LeftOf) (ls : List LeftOf) → Ended (in_it (after n x l ls)) x l ls
    after_ended x l ls = record {
      blank_on = stays_if (after n x l ls) (λ b. cond (eqb b 44) (with_comma n x l ls) (cond (eqb b 124) (with_bar n x l ls) (cond (eqb b 41) (some (to (closed_group n (behind_left l x) ls))) none)));
      comma_on = refl;
      bar_on = refl;
      close_on = refl;
    }

    marking_ended : (x : Model) (l : LeftOf) (ls : List LeftOf) → Ended (in_it (marking n x l ls)) x l ls
    marking_ended x l ls = record {
      blank_on = λ b h. of_blanks (λ c. moved_by ds (step_marking n x l ls c) ≡ some (in_it (after n x l ls))) b h refl refl refl refl;
      comma_on = refl;
      bar_on = refl;
      close_on = refl;
    }

    name_ended : (m : List ℕ) (l : LeftOf) (ls : List LeftOf) → Ended (in_it (in_name n m l ls)) (called m) l ls
    name_ended m l ls = record {
      blank_on = λ b h. of_blanks (λ c. moved_by ds (step_phase p (in_name n m l ls) c) ≡ some (in_it (after n (called m) l ls))) b h refl refl refl refl;
      comma_on = refl;
      bar_on = refl;
      close_on = refl;
    }

    -- a byte behind one, after white space
    delimited : {s : List ℕ} (z o : DtdProgress) (x : Model) (l : LeftOf) (ls : List LeftOf) (c : ℕ) → Ended z x l ls → Blanks s
        → step_declarations p z c ≡ some o → step_declarations p (in_it (after n x l ls)) c ≡ some o → (rest : List ℕ) → go z (s ++ c ∷ rest) ≡ go o rest
    delimited z o x l ls c e no_blank f g rest = one_on z o c rest f
    delimited z o x l ls c e (a_blank {b = b} {s = t} h k) f g rest =
        one_on z (in_it (after n x l ls)) b (t ++ c ∷ rest) (e.blank_on b h)
        ∙ blanks_on (in_it (after n x l ls)) (λ b h. (after_ended x l ls).blank_on b h) k (c ∷ rest)
        ∙ one_on (in_it (after n x l ls)) o c rest g

    abbrev From : (s : DtdProgress) (w : List ℕ) (x : Model) (l : LeftOf) (ls : List LeftOf) (rest : List ℕ) → Type 0
    From s w x l ls rest = (z : DtdProgress) × (go s (w ++ rest) ≡ go z rest) × Ended z x l ls

    longer_step : (f : List ℕ → Phase) (o : ℕ → Option Move) (m : List ℕ) (b : ℕ) → name_byte b ≡ true → length m < longest_name → moved_by ds (cond (name_byte b) (longer m f b) (o b)) ≡ some (in_it (f (m ++ b ∷ [])))
    longer_step f o m b h k = ap (λ t. moved_by ds (cond t (longer m f b) (o b))) h ∙ ap (λ t. moved_by ds (only_if_true t (f (m ++ b ∷ [])))) (lt-ltb (length m) longest_name k)

    whole_name : (s : DtdProgress) (f : List ℕ → Phase) → ((b : ℕ) → name_first b ≡ true → step_declarations p s b ≡ some (in_it (f (b ∷ []))))
        → ((m : List ℕ) (b : ℕ) → name_byte b ≡ true → length m < longest_name → step_declarations p (in_it (f m)) b ≡ some (in_it (f (m ++ b ∷ []))))
        → (m : List ℕ) → TagName m → (rest : List ℕ) → go s (m ++ rest) ≡ go (in_it (f m)) rest
    whole_name s f h g [] t rest = absurd t.a_name
    whole_name s f h g (b ∷ m) t rest = one_on s (in_it (f (b ∷ []))) b (m ++ rest) (h b t.a_name.0) ∙ name_on (λ k. in_it (f k)) g (b ∷ []) m t.a_name.1 (omega (arith, t.short)) rest

    name_walk : (s : DtdProgress) (l : LeftOf) (ls : List LeftOf) → Begins s l ls → (m : List ℕ) → TagName m → (rest : List ℕ) → go s (m ++ rest) ≡ go (in_it (in_name n m l ls)) rest
    name_walk s l ls h m t rest = whole_name s (λ k. in_name n k l ls) h.letter_on (λ m b e k. longer_step (λ k. in_name n k l ls) (λ b. step_marking n (called m) l ls b) m b e k) m t rest

    name_marked : {k : List ℕ} {x : Model} (m : List ℕ) (l : LeftOf) (ls : List LeftOf) → MarkIs (called m) k x → (rest : List ℕ) → From (in_it (in_name n m l ls)) k x l ls rest
    name_marked m l ls unmarked rest = (in_it (in_name n m l ls), refl, name_ended m l ls)
    name_marked m l ls question rest = (in_it (after n (optional (called m)) l ls), refl, after_ended (optional (called m)) l ls)
    name_marked m l ls asterisk rest = (in_it (after n (any_number (called m)) l ls), refl, after_ended (any_number (called m)) l ls)
    name_marked m l ls plus rest = (in_it (after n (at_least_one (called m)) l ls), refl, after_ended (at_least_one (called m)) l ls)

    group_marked : {k : List ℕ} {x : Model} (y : Model) (l : LeftOf) (ls : List LeftOf) → MarkIs y k x → (rest : List ℕ) → From (in_it (marking n y l ls)) k x l ls rest
    group_marked y l ls unmarked rest = (in_it (marking n y l ls), refl, marking_ended y l ls)
    group_marked y l ls question rest = (in_it (after n (optional y) l ls), refl, after_ended (optional y) l ls)
    group_marked y l ls asterisk rest = (in_it (after n (any_number y) l ls), refl, after_ended (any_number y) l ls)
    group_marked y l ls plus rest = (in_it (after n (at_least_one y) l ls), refl, after_ended (at_least_one y) l ls)

    -- what a list of particles ends with: its last, and what stands to the left of that
    record Listed (next : Model → LeftOf → List LeftOf → Option Move) (wrap : Model → LeftOf) (s : DtdProgress) (w : List ℕ) (x : Model) (ls : List LeftOf) (rest : List ℕ) : Type 0 where
      at : DtdProgress
      last : Model
      left : LeftOf
      goes : go s (w ++ rest) ≡ go at rest
      ends : Ended at last left ls
      is : behind_left left last ≡ x
      onward : next last left ls ≡ some (to (wants n (wrap x) ls))

    -- between two of them
    between : {s s' : List ℕ} (c : ℕ) (z : DtdProgress) (y : Model) (l l' : LeftOf) (ls : List LeftOf) → Ended z y l ls → step_declarations p z c ≡ some (in_it (wants n l' ls))
        → step_declarations p (in_it (after n y l ls)) c ≡ some (in_it (wants n l' ls)) → Blanks s → Blanks s' → (more : List ℕ) → go z (s ++ c ∷ (s' ++ more)) ≡ go (in_it (wants n l' ls)) more
    between {s' = s'} c z y l l' ls e f g h k more =
        delimited z (in_it (wants n l' ls)) y l ls c e h f g (s' ++ more) ∙ blanks_on (in_it (wants n l' ls)) (wants_begins l' ls).stays k more

    -- a list of them between white space, and the parenthesis behind it
    listed_inside : {next : Model → LeftOf → List LeftOf → Option Move} {wrap : Model → LeftOf} {u t u' : List ℕ} {x : Model} (s : DtdProgress) (ls : List LeftOf) → Stays s → (rest : List ℕ)
        → Listed next wrap s t x ls (u' ++ 41 ∷ rest) → Blanks u → Blanks u' → go s ((u ++ (t ++ (u' ++ 41 ∷ []))) ++ rest) ≡ go (in_it (closed_group n x ls)) rest
    listed_inside {u = u} {t = t} {u' = u'} s ls b rest f h h' =
        ap (go s) (four u t u' (41 ∷ []) rest)
        ∙ blanks_on s b h (t ++ (u' ++ 41 ∷ rest))
        ∙ f.goes
        ∙ delimited f.at (in_it (closed_group n (behind_left f.left f.last) ls)) f.last f.left ls 41 f.ends h' f.ends.close_on refl rest
        ∙ ap (λ y. go (in_it (closed_group n y ls)) rest) f.is

    mutual
      particle_walk : {q : ℕ} {w : List ℕ} {x : Model} → ParticleIs q w x → (s : DtdProgress) (l : LeftOf) (ls : List LeftOf) → Begins s l ls → (rest : List ℕ) → q + suc (length ls) ≤ p → From s w x l ls rest
      particle_walk (ParticleIs.a_name {n = m} {m = k} t h e) s l ls b rest r =
          let f = name_marked m l ls h rest in
          (f.0, ap (λ w. go s (w ++ rest)) e ∙ ap (go s) (append_assoc m k rest) ∙ name_walk s l ls b m t (k ++ rest) ∙ f.1, f.2)
      particle_walk (a_group {t = t} {m = k} {y = y} g h e) s l ls b rest r =
          let f = group_marked y l ls h rest in
          (f.0, ap (λ w. go s (w ++ rest)) e ∙ ap (go s) (append_assoc t k rest) ∙ group_walk g s l ls b (k ++ rest) r ∙ f.1, f.2)

      group_walk : {q : ℕ} {w : List ℕ} {x : Model} → GroupIs q w x → (s : DtdProgress) (l : LeftOf) (ls : List LeftOf) → Begins s l ls → (rest : List ℕ) → q + suc (length ls) ≤ p
          → go s (w ++ rest) ≡ go (in_it (marking n x l ls)) rest
      group_walk (a_choice {s = u} {t = t} {s' = u'} h c h' e) s l ls b rest r =
          ap (λ w. go s (w ++ rest)) e
          ∙ one_on s (in_it (wants n fresh (l ∷ ls))) 40 ((u ++ (t ++ (u' ++ 41 ∷ []))) ++ rest) (b.open_on (omega arith))
          ∙ listed_inside (in_it (wants n fresh (l ∷ ls))) (l ∷ ls) (wants_begins fresh (l ∷ ls)).stays rest (choice_walk c (in_it (wants n fresh (l ∷ ls))) (l ∷ ls) (wants_begins fresh (l ∷ ls)) (u' ++ 41 ∷ rest) (omega arith)) h h'
      group_walk (a_sequence {s = u} {t = t} {s' = u'} h c h' e) s l ls b rest r =
          ap (λ w. go s (w ++ rest)) e
          ∙ one_on s (in_it (wants n fresh (l ∷ ls))) 40 ((u ++ (t ++ (u' ++ 41 ∷ []))) ++ rest) (b.open_on (omega arith))
          ∙ listed_inside (in_it (wants n fresh (l ∷ ls))) (l ∷ ls) (wants_begins fresh (l ∷ ls)).stays rest (sequence_walk c (in_it (wants n fresh (l ∷ ls))) (l ∷ ls) (wants_begins fresh (l ∷ ls)) (u' ++ 41 ∷ rest) (omega arith)) h h'

      choice_walk : {q : ℕ} {w : List ℕ} {x : Model} → ChoiceIs q w x → (s : DtdProgress) (ls : List LeftOf) → Begins s fresh ls → (rest : List ℕ) → q + suc (length ls) ≤ p → Listed (with_bar n) bars s w x ls rest
      choice_walk (two {t = t} {s = u} {s' = u'} {u = v} {x = x} {y = y} f h h' g e) s ls b rest r =
          let i = particle_walk f s fresh ls b (u ++ 124 ∷ (u' ++ (v ++ rest))) r in
          let j = particle_walk g (in_it (wants n (bars x) ls)) (bars x) ls (wants_begins (bars x) ls) rest r in
          record {
            at = j.0;
            last = y;
            left = bars x;
            goes = ap (λ w. go s (w ++ rest)) e ∙ ap (go s) (five t u (124 ∷ []) u' v rest) ∙ i.1 ∙ between 124 i.0 x fresh (bars x) ls i.2 i.2.bar_on refl h h' (v ++ rest) ∙ j.1;
            ends = j.2;
            is = refl;
            onward = refl;
          }
      choice_walk (or_more {t = t} {s = u} {s' = u'} {u = v} {x = x} {y = y} f h h' g e) s ls b rest r =
          let i = choice_walk f s ls b (u ++ 124 ∷ (u' ++ (v ++ rest))) r in
          let j = particle_walk g (in_it (wants n (bars x) ls)) (bars x) ls (wants_begins (bars x) ls) rest r in
          let o = ap (moved_by ds) i.onward in
          record {
            at = j.0;
            last = y;
            left = bars x;
            goes = ap (λ w. go s (w ++ rest)) e ∙ ap (go s) (five t u (124 ∷ []) u' v rest) ∙ i.goes ∙ between 124 i.at i.last i.left (bars x) ls i.ends (i.ends.bar_on ∙ o) o h h' (v ++ rest) ∙ j.1;
            ends = j.2;
            is = refl;
            onward = refl;
          }

      sequence_walk : {q : ℕ} {w : List ℕ} {x : Model} → SequenceIs q w x → (s : DtdProgress) (ls : List LeftOf) → Begins s fresh ls → (rest : List ℕ) → q + suc (length ls) ≤ p → Listed (with_comma n) commas s w x ls rest
      sequence_walk (one {x = x} f) s ls b rest r =
          let i = particle_walk f s fresh ls b rest r in
          record { at = i.0; last = x; left = fresh; goes = i.1; ends = i.2; is = refl; onward = refl }
      sequence_walk (and_more {t = t} {s = u} {s' = u'} {u = v} {x = x} {y = y} f h h' g e) s ls b rest r =
          let i = sequence_walk f s ls b (u ++ 44 ∷ (u' ++ (v ++ rest))) r in
          let j = particle_walk g (in_it (wants n (commas x) ls)) (commas x) ls (wants_begins (commas x) ls) rest r in
          let o = ap (moved_by ds) i.onward in
          record {
            at = j.0;
            last = y;
            left = commas x;
            goes = ap (λ w. go s (w ++ rest)) e ∙ ap (go s) (five t u (44 ∷ []) u' v rest) ∙ i.goes ∙ between 44 i.at i.last i.left (commas x) ls i.ends (i.ends.comma_on ∙ o) o h h' (v ++ rest) ∙ j.1;
            ends = j.2;
            is = refl;
            onward = refl;
          }

    -- the content's own pair of parentheses
    own_group : {q : ℕ} {w : List ℕ} {x : Model} → GroupIs q w x → q ≤ p → (rest : List ℕ) → go (in_it (contents n)) (w ++ rest) ≡ go (in_it (group_closed n x)) rest
    own_group (a_choice {s = u} {t = t} {s' = u'} h c h' e) r rest =
        ap (λ w. go (in_it (contents n)) (w ++ rest)) e
        ∙ listed_inside (in_it (inside n)) [] inside_begins.stays rest (choice_walk c (in_it (inside n)) [] inside_begins (u' ++ 41 ∷ rest) (omega arith)) h h'
    own_group (a_sequence {s = u} {t = t} {s' = u'} h c h' e) r rest =
        ap (λ w. go (in_it (contents n)) (w ++ rest)) e
        ∙ listed_inside (in_it (inside n)) [] inside_begins.stays rest (sequence_walk c (in_it (inside n)) [] inside_begins (u' ++ 41 ∷ rest) (omega arith)) h h'

    -- where a content has ended
    record Done (s : DtdProgress) (c : ContentSpec) : Type 0 where
      blank_on : (b : ℕ) → blank b ≡ true → step_declarations p s b ≡ some (in_it (ended n c))
      over_on : step_declarations p s 62 ≡ some (outside (ds ++ record { declared = n; content = c } ∷ []))

    ended_done : (c : ContentSpec) → Done (in_it (ended n c)) c
    ended_done c = record { blank_on = stays_if (ended n c) (λ b. cond (eqb b 62) (some (over (record { declared = n; content = c }))) none); over_on = refl }

    abbrev Through : (s : DtdProgress) (w : List ℕ) (c : ContentSpec) (rest : List ℕ) → Type 0
    Through s w c rest = (z : DtdProgress) × (go s (w ++ rest) ≡ go z rest) × Done z c

    own_marked : {k : List ℕ} {x : Model} (y : Model) → MarkIs y k x → (rest : List ℕ) → Through (in_it (group_closed n y)) k (children x) rest
    own_marked y unmarked rest = (
      in_it (group_closed n y),
      refl,
      record { blank_on = λ b h. of_blanks (λ c. moved_by ds (step_phase p (group_closed n y) c) ≡ some (in_it (ended n (children y)))) b h refl refl refl refl; over_on = refl },
    )
    own_marked y question rest = (in_it (ended n (children (optional y))), refl, ended_done (children (optional y)))
    own_marked y asterisk rest = (in_it (ended n (children (any_number y))), refl, ended_done (children (any_number y)))
    own_marked y plus rest = (in_it (ended n (children (at_least_one y))), refl, ended_done (children (at_least_one y)))

    -- behind #PCDATA or a name of mixed content
    record Mixing (s : DtdProgress) (seen : List (List ℕ)) : Type 0 where
      blank_on : (b : ℕ) → blank b ≡ true → step_declarations p s b ≡ some (in_it (mixing n seen))
      bar_on : step_declarations p s 124 ≡ some (in_it (barred n seen))
      close_on : step_declarations p s 41 ≡ some (in_it (mixed_closed n seen))

    hashed_mixing : Mixing (in_it (hashing n [])) []
    hashed_mixing = record { blank_on = stays_if (mixing n []) (λ b. cond (eqb b 124) (some (to (barred n []))) (cond (eqb b 41) (some (to (mixed_closed n []))) none)); bar_on = refl; close_on = refl }

    named_mixing : (seen : List (List ℕ)) (m : List ℕ) → Mixing (in_it (mixed_name n seen m)) (seen ++ m ∷ [])
    named_mixing seen m = record {
      blank_on = λ b h. of_blanks (λ c. moved_by ds (step_phase p (mixed_name n seen m) c) ≡ some (in_it (mixing n (seen ++ m ∷ [])))) b h refl refl refl refl;
      bar_on = refl;
      close_on = refl;
    }

    mixing_stays : (seen : List (List ℕ)) → Stays (in_it (mixing n seen))
    mixing_stays seen = stays_if (mixing n seen) (λ b. cond (eqb b 124) (some (to (barred n seen))) (cond (eqb b 41) (some (to (mixed_closed n seen))) none))

    mixed_delimited : {s : List ℕ} (z o : DtdProgress) (seen : List (List ℕ)) (c : ℕ) → Mixing z seen → Blanks s → step_declarations p z c ≡ some o → step_declarations p (in_it (mixing n seen)) c ≡ some o
        → (rest : List ℕ) → go z (s ++ c ∷ rest) ≡ go o rest
    mixed_delimited z o seen c e no_blank f g rest = one_on z o c rest f
    mixed_delimited z o seen c e (a_blank {b = b} {s = t} h k) f g rest =
        one_on z (in_it (mixing n seen)) b (t ++ c ∷ rest) (e.blank_on b h)
        ∙ blanks_on (in_it (mixing n seen)) (mixing_stays seen) k (c ∷ rest)
        ∙ one_on (in_it (mixing n seen)) o c rest g

    barred_name : (seen : List (List ℕ)) (m : List ℕ) → TagName m → (rest : List ℕ) → go (in_it (barred n seen)) (m ++ rest) ≡ go (in_it (mixed_name n seen m)) rest
    barred_name seen m t rest =
        whole_name (in_it (barred n seen)) (mixed_name n seen)
        (λ b h. past_blank (barred n seen) (only_if_true (name_first b) (mixed_name n seen (b ∷ []))) b h ∙ ap (λ t. moved_by ds (only_if_true t (mixed_name n seen (b ∷ [])))) h)
        (λ k b e j. longer_step (mixed_name n seen) (step_mixing n (seen ++ k ∷ [])) k b e j) m t rest

    names_walk : {t : List ℕ} {names : List (List ℕ)} → BarredNames t names → (z : DtdProgress) (seen : List (List ℕ)) → Mixing z seen → (rest : List ℕ)
        → (o : DtdProgress) × (go z (t ++ rest) ≡ go o rest) × Mixing o (seen ++ names)
    names_walk BarredNames.none z seen h rest = (z, refl, subst (Mixing z) (sym (append-nil seen)) h)
    names_walk (BarredNames.a_name {s = u} {s' = u'} {n = m} {t = t} {names = names} k k' tn more e) z seen h rest =
        let i = names_walk more (in_it (mixed_name n seen m)) (seen ++ m ∷ []) (named_mixing seen m) rest in (
          i.0,
          ap (λ w. go z (w ++ rest)) e
              ∙ ap (go z) (five u (124 ∷ []) u' m t rest)
              ∙ mixed_delimited z (in_it (barred n seen)) seen 124 h k h.bar_on refl (u' ++ (m ++ (t ++ rest)))
              ∙ blanks_on (in_it (barred n seen)) (stays_if (barred n seen) (λ b. only_if_true (name_first b) (mixed_name n seen (b ∷ [])))) k' (m ++ (t ++ rest))
              ∙ barred_name seen m tn (t ++ rest)
              ∙ i.1,
          subst (Mixing i.0) (append_assoc seen (m ∷ []) names) i.2,
        )

    inside_blanks : {u : List ℕ} → Blanks u → (rest : List ℕ) → go (in_it (contents n)) (40 ∷ (u ++ rest)) ≡ go (in_it (inside n)) rest
    inside_blanks h rest = blanks_on (in_it (inside n)) inside_begins.stays h rest

    closed_bare : Done (in_it (mixed_closed n [])) (mixed [])
    closed_bare = record { blank_on = λ b h. of_blanks (λ c. moved_by ds (step_phase p (mixed_closed n []) c) ≡ some (in_it (ended n (mixed [])))) b h refl refl refl refl; over_on = refl }

    mixed_walk : {w : List ℕ} {names : List (List ℕ)} → MixedIs w names → (rest : List ℕ) → Through (in_it (contents n)) w (mixed names) rest
    mixed_walk (starred {s = u} {t = t} {s' = u'} {names = names} h b h' e) rest =
        let i = names_walk b (in_it (hashing n [])) [] hashed_mixing (u' ++ 41 ∷ 42 ∷ rest) in (
          in_it (ended n (mixed names)),
          ap (λ w. go (in_it (contents n)) (w ++ rest)) e
              ∙ ap (go (in_it (inside n))) (five u (35 ∷ 80 ∷ 67 ∷ 68 ∷ 65 ∷ 84 ∷ 65 ∷ []) t u' (41 ∷ 42 ∷ []) rest)
              ∙ inside_blanks h (35 ∷ 80 ∷ 67 ∷ 68 ∷ 65 ∷ 84 ∷ 65 ∷ (t ++ (u' ++ 41 ∷ 42 ∷ rest)))
              ∙ i.1
              ∙ mixed_delimited i.0 (in_it (mixed_closed n names)) names 41 i.2 h' i.2.close_on refl (42 ∷ rest),
          ended_done (mixed names),
        )
    mixed_walk (characters {s = u} {s' = u'} h h' e) rest = (
      in_it (mixed_closed n []),
      ap (λ w. go (in_it (contents n)) (w ++ rest)) e
          ∙ ap (go (in_it (inside n))) (four u (35 ∷ 80 ∷ 67 ∷ 68 ∷ 65 ∷ 84 ∷ 65 ∷ []) u' (41 ∷ []) rest)
          ∙ inside_blanks h (35 ∷ 80 ∷ 67 ∷ 68 ∷ 65 ∷ 84 ∷ 65 ∷ (u' ++ 41 ∷ rest))
          ∙ mixed_delimited (in_it (hashing n [])) (in_it (mixed_closed n [])) [] 41 hashed_mixing h' refl refl rest,
      closed_bare,
    )

    spec_walk : {q : ℕ} {w : List ℕ} {c : ContentSpec} → SpecIs q w c → q ≤ p → (rest : List ℕ) → Through (in_it (contents n)) w c rest
    spec_walk is_empty r rest = (in_it (emptying n []), refl, record { blank_on = (ended_done nothing_inside).blank_on; over_on = refl })
    spec_walk (is_mixed h) r rest = mixed_walk h rest
    spec_walk (are_children {t = t} {m = k} {y = y} g m e) r rest =
        let i = own_marked y m rest in
        (i.0, ap (λ w. go (in_it (contents n)) (w ++ rest)) e ∙ ap (go (in_it (contents n))) (append_assoc t k rest) ∙ own_group g r (k ++ rest) ∙ i.1, i.2)

    done_walk : {s : List ℕ} (z : DtdProgress) (c : ContentSpec) → Done z c → Blanks s → (rest : List ℕ) → go z (s ++ 62 ∷ rest) ≡ go (outside (ds ++ record { declared = n; content = c } ∷ [])) rest
    done_walk z c d no_blank rest = one_on z (outside (ds ++ record { declared = n; content = c } ∷ [])) 62 rest d.over_on
    done_walk z c d (a_blank {b = b} {s = t} h k) rest =
        one_on z (in_it (ended n c)) b (t ++ 62 ∷ rest) (d.blank_on b h) ∙ blanks_on (in_it (ended n c)) (ended_done c).blank_on k (62 ∷ rest)

  declaration_walk : {q : ℕ} {w : List ℕ} {d : Declaration} → DeclarationIs q w d → q ≤ p → (ds : List Declaration) (rest : List ℕ) → go (outside ds) (w ++ rest) ≡ go (outside (ds ++ d ∷ [])) rest
  declaration_walk (declaration {n = n} {t = t} {s'' = s''} {c = c} (space {b = b} {s = s} hb hs) tn (space {b = b'} {s = s'} hb' hs') h k e) r ds rest =
      let i = spec_walk ds n h r (s'' ++ 62 ∷ rest) in
      ap (λ w. go (outside ds) (w ++ rest)) e
      ∙ ap (go (within ds (opening []))) (six (b ∷ s) n (b' ∷ s') t s'' (62 ∷ []) rest)
      ∙ one_on (within ds (opening [])) (within ds naming) b (s ++ (n ++ (b' ∷ (s' ++ (t ++ (s'' ++ 62 ∷ rest)))))) (ap (λ x. moved_by ds (only_if_true x naming)) hb)
      ∙ blanks_on (within ds naming) (λ c e. ap (λ x. moved_by ds (cond x (some (to naming)) (only_if_true (name_first c) (named (c ∷ []))))) e) hs (n ++ (b' ∷ (s' ++ (t ++ (s'' ++ 62 ∷ rest)))))
      ∙ whole_name ds n (within ds naming) named
      (λ c e. past_blank ds n naming (only_if_true (name_first c) (named (c ∷ []))) c e ∙ ap (λ x. moved_by ds (only_if_true x (named (c ∷ [])))) e)
      (λ m c e j. longer_step ds n named (λ c. only_if_true (blank c) (contents m)) m c e j) n tn (b' ∷ (s' ++ (t ++ (s'' ++ 62 ∷ rest))))
      ∙ one_on (within ds (named n)) (within ds (contents n)) b' (s' ++ (t ++ (s'' ++ 62 ∷ rest))) (of_blanks (λ c. moved_by ds (step_phase p (named n) c) ≡ some (within ds (contents n))) b' hb' refl refl refl refl)
      ∙ blanks_on (within ds (contents n)) (stays_if ds n (contents n) (λ c. cond (eqb c 69) (some (to (emptying n (77 ∷ 80 ∷ 84 ∷ 89 ∷ [])))) (only_if_true (eqb c 40) (inside n)))) hs' (t ++ (s'' ++ 62 ∷ rest))
      ∙ i.1
      ∙ done_walk ds n i.0 c i.2 k rest

  outside_stays : (ds : List Declaration) → Stays (outside ds)
  outside_stays ds b h = ap (λ t. cond t (some (outside ds)) (moved_by ds (only_if_true (eqb b 60) (opening (33 ∷ 69 ∷ 76 ∷ 69 ∷ 77 ∷ 69 ∷ 78 ∷ 84 ∷ []))))) h

  pub declarations_walk : {q : ℕ} {w : List ℕ} {ds : List Declaration} → DeclarationsAre q w ds → q ≤ p → (rest : List ℕ) → go (outside []) (w ++ rest) ≡ go (outside ds) rest
  declarations_walk (DeclarationsAre.none h) r rest = blanks_on (outside []) (outside_stays []) h rest
  declarations_walk (DeclarationsAre.one_more {v = v} {t = t} {s = s} {ds = ds} {d = d} are h k e) r rest =
      ap (λ w. go (outside []) (w ++ rest)) e
      ∙ ap (go (outside [])) (three v t s rest)
      ∙ declarations_walk are r (t ++ (s ++ rest))
      ∙ declaration_walk h r ds (s ++ rest)
      ∙ blanks_on (outside (ds ++ d ∷ [])) (outside_stays (ds ++ d ∷ [])) k rest
