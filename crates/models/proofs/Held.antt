-- What a text is that the machine has read so far: each byte keeps it. Assumes nothing.
use mathlib.Core.Path.{◌≡◌, refl, sym, ◌∙◌, ap, ap₂, subst}
use mathlib.Core.Bool.{Bool, true, false, cond}
use mathlib.Core.Option.{Option, none, some}
use mathlib.Core.List.{List, [], ◌∷◌, ◌++◌, append_assoc, append-nil}
use Prim.Native.Nat.{ℕ, zero, suc, ◌+◌, ◌≤◌, ◌<◌}
use native.Mathlib.Omega.{arith}
use lib.Dec.{eqb, ltb}
use lib.ListN.{length, length-append}
use borrow.Author.Tests.{ltb-true, eqb-true}
use Rattle.limits.specs.Limits.{longest_name}
use Rattle.text.specs.Names.{name_first, name_byte, blank, All}
use Rattle.notation.specs.Tokens.{TagName}
use Rattle.reading.proofs.Telling.{IfSome}
use Rattle.models.specs.Models.{Model, called, sequence, choice, optional, any_number, at_least_one, ContentSpec, nothing_inside, mixed, children, Declaration}
use Rattle.models.specs.Spelling.{Blanks, no_blank, a_blank, Space, space, element_word, empty_word, pcdata_word, MarkIs, unmarked, question, asterisk, plus, ParticleIs, a_group, GroupIs, a_choice, a_sequence, ChoiceIs, two, or_more, SequenceIs, one, and_more, BarredNames, MixedIs, starred, characters, SpecIs, is_empty, is_mixed, are_children, DeclarationIs, declaration}
use Rattle.models.specs.Reader.{LeftOf, fresh, commas, bars, behind_left, Phase, opening, naming, named, contents, emptying, inside, hashing, mixing, barred, mixed_name, mixed_closed, wants, in_name, marking, after, group_closed, ended, Move, to, over, only_if_true, longer, step_ended, step_mark, with_comma, with_bar, closed_group, step_after, step_marking, step_item, step_mixing, unstarred, step_phase}

abbrev pub Text : Type 0
Text = List ℕ

pub more_blanks : {s : Text} (b : ℕ) → Blanks s → blank b ≡ true → Blanks (s ++ b ∷ [])
more_blanks b no_blank h = a_blank h no_blank
more_blanks b (a_blank e k) h = a_blank e (more_blanks b k h)

more_space : {s : Text} (b : ℕ) → Space s → blank b ≡ true → Space (s ++ b ∷ [])
more_space b (space e k) h = space e (more_blanks b k h)

more_all : (n : Text) (b : ℕ) → All name_byte n → name_byte b ≡ true → All name_byte (n ++ b ∷ [])
more_all [] b h k = (k, tt)
more_all (x ∷ n) b h k = (h.0, more_all n b h.1 k)

longer_name : (n : Text) (b : ℕ) → TagName n → name_byte b ≡ true → length n < longest_name → TagName (n ++ b ∷ [])
longer_name [] b t h k = absurd t.a_name
longer_name (x ∷ n) b t h k = record { a_name = (t.a_name.0, more_all n b t.a_name.1 h); short = simp length-append (omega arith) }

pub one_letter : (b : ℕ) → name_first b ≡ true → TagName (b ∷ [])
one_letter b h = record { a_name = (h, tt); short = omega arith }

-- one name more, behind those of mixed content
more_names : {t s s' m : Text} {names : List Text} → BarredNames t names → Blanks s → Blanks s' → TagName m → BarredNames (t ++ (s ++ 124 ∷ (s' ++ m))) (names ++ m ∷ [])
more_names {s = s} {s' = s'} {m = m} BarredNames.none h h' n = BarredNames.a_name h h' n BarredNames.none (ap (λ l. s ++ 124 ∷ (s' ++ l)) (sym (append-nil m)))
more_names {s = s} {s' = s'} {m = m} (BarredNames.a_name {s = r} {s' = r'} {n = k} {t = t} g g' j more e) h h' n =
    BarredNames.a_name g g' j (more_names more h h' n) (ap (λ l. l ++ (s ++ 124 ∷ (s' ++ m))) e ∙ simp append_assoc)

-- what stands to the left in one pair of parentheses, from the parenthesis on
pub data LeftText (q : ℕ) : LeftOf → Text → Type 0 where
  fresh_text : {s : Text} → Blanks s → LeftText q fresh (40 ∷ s)
  comma_text : {s t s' s'' w : Text} {y : Model} → Blanks s → SequenceIs q t y → Blanks s' → Blanks s'' → w ≡ 40 ∷ (s ++ (t ++ (s' ++ 44 ∷ s''))) → LeftText q (commas y) w
  bar_text : {s t s' s'' w : Text} {y : Model} → Blanks s → ParticleIs q t y → Blanks s' → Blanks s'' → w ≡ 40 ∷ (s ++ (t ++ (s' ++ 124 ∷ s''))) → LeftText q (bars y) w
  bars_text : {s t s' s'' w : Text} {y : Model} → Blanks s → ChoiceIs q t y → Blanks s' → Blanks s'' → w ≡ 40 ∷ (s ++ (t ++ (s' ++ 124 ∷ s''))) → LeftText q (bars y) w

-- the seams of rows of bytes
seam : (s t s' s'' r : Text) (c : ℕ) → (40 ∷ (s ++ (t ++ (s' ++ c ∷ s'')))) ++ r ≡ 40 ∷ (s ++ (t ++ (s' ++ c ∷ (s'' ++ r))))
seam s t s' s'' r c = ap (λ l. 40 ∷ l) (simp append_assoc)

left_blank : {q : ℕ} {l : LeftOf} {t : Text} (b : ℕ) → LeftText q l t → blank b ≡ true → LeftText q l (t ++ b ∷ [])
left_blank b (fresh_text h) k = fresh_text (more_blanks b h k)
left_blank b (comma_text {s = s} {t = t} {s' = s'} {s'' = s''} h i j g e) k = comma_text h i j (more_blanks b g k) (ap (λ l. l ++ b ∷ []) e ∙ seam s t s' s'' (b ∷ []) 44)
left_blank b (bar_text {s = s} {t = t} {s' = s'} {s'' = s''} h i j g e) k = bar_text h i j (more_blanks b g k) (ap (λ l. l ++ b ∷ []) e ∙ seam s t s' s'' (b ∷ []) 124)
left_blank b (bars_text {s = s} {t = t} {s' = s'} {s'' = s''} h i j g e) k = bars_text h i j (more_blanks b g k) (ap (λ l. l ++ b ∷ []) e ∙ seam s t s' s'' (b ∷ []) 124)

-- a particle behind it, and then another is to come
regroup : (s t s' s'' u v : Text) (c : ℕ) → (40 ∷ (s ++ (t ++ (s' ++ c ∷ s'')))) ++ (u ++ v) ≡ 40 ∷ (s ++ ((t ++ (s' ++ c ∷ (s'' ++ u))) ++ v))
regroup s t s' s'' u v c = ap (λ l. 40 ∷ l) (simp append_assoc)

-- the group that closes
pub closes : {q : ℕ} {l : LeftOf} {t u s : Text} {x : Model} → LeftText q l t → ParticleIs q u x → Blanks s → GroupIs (suc q) (t ++ (u ++ (s ++ 41 ∷ []))) (behind_left l x)
closes (fresh_text h) i k = a_sequence h (one i) k refl
closes {u = u} {s = r} (comma_text {s = s} {t = t} {s' = s'} {s'' = s''} h i j g e) p k = a_sequence h (and_more i j g p refl) k (ap (λ l. l ++ (u ++ (r ++ 41 ∷ []))) e ∙ regroup s t s' s'' u (r ++ 41 ∷ []) 44)
closes {u = u} {s = r} (bar_text {s = s} {t = t} {s' = s'} {s'' = s''} h i j g e) p k = a_choice h (two i j g p refl) k (ap (λ l. l ++ (u ++ (r ++ 41 ∷ []))) e ∙ regroup s t s' s'' u (r ++ 41 ∷ []) 124)
closes {u = u} {s = r} (bars_text {s = s} {t = t} {s' = s'} {s'' = s''} h i j g e) p k = a_choice h (or_more i j g p refl) k (ap (λ l. l ++ (u ++ (r ++ 41 ∷ []))) e ∙ regroup s t s' s'' u (r ++ 41 ∷ []) 124)

-- all pairs around; q more may be open inside the innermost, p in all
pub data AroundText (p : ℕ) : ℕ → List LeftOf → Text → Type 0 where
  no_pair : AroundText p p [] []
  a_pair : {q : ℕ} {l : LeftOf} {ls : List LeftOf} {v t w : Text} → AroundText p (suc q) ls v → LeftText q l t → w ≡ v ++ t → AroundText p q (l ∷ ls) w

pub opens : {p q : ℕ} {ls : List LeftOf} {w : Text} → AroundText p q ls w → q + length ls ≡ p
opens no_pair = omega arith
opens (a_pair a t e) = let h = opens a in omega (arith, h)

-- what is read where a name or group is wanted; behind one; and behind a group that a mark may follow
pub record WantsText (p : ℕ) (l : LeftOf) (ls : List LeftOf) (w : Text) : Type 0 where
  pub inner : ℕ
  pub around : AroundText p inner (l ∷ ls) w

pub record NameText (p : ℕ) (m : Text) (l : LeftOf) (ls : List LeftOf) (w : Text) : Type 0 where
  pub inner : ℕ
  pub before : Text
  pub around : AroundText p inner (l ∷ ls) before
  pub name : TagName m
  pub is : w ≡ before ++ m

pub record GroupText (p : ℕ) (x : Model) (l : LeftOf) (ls : List LeftOf) (w : Text) : Type 0 where
  pub inner : ℕ
  pub before : Text
  pub group_bytes : Text
  pub around : AroundText p inner (l ∷ ls) before
  pub group : GroupIs inner group_bytes x
  pub is : w ≡ before ++ group_bytes

pub record AfterText (p : ℕ) (x : Model) (l : LeftOf) (ls : List LeftOf) (w : Text) : Type 0 where
  pub inner : ℕ
  pub before : Text
  pub particle_bytes : Text
  pub gap : Text
  pub around : AroundText p inner (l ∷ ls) before
  pub particle : ParticleIs inner particle_bytes x
  pub blanks : Blanks gap
  pub is : w ≡ before ++ (particle_bytes ++ gap)

-- mixed content so far: its names, and white space behind them; behind a |; in a name; behind the parenthesis
pub record MixingText (names : List Text) (w : Text) : Type 0 where
  pub first_gap : Text
  pub names_bytes : Text
  pub gap : Text
  pub first_blanks : Blanks first_gap
  pub barred_names : BarredNames names_bytes names
  pub blanks : Blanks gap
  pub is : w ≡ 40 ∷ (first_gap ++ (pcdata_word ++ (names_bytes ++ gap)))

pub record BarText (names : List Text) (w : Text) : Type 0 where
  pub front : Text
  pub gap : Text
  pub mixing : MixingText names front
  pub blanks : Blanks gap
  pub is : w ≡ front ++ 124 ∷ gap

pub record MixedNameText (names : List Text) (m w : Text) : Type 0 where
  pub front : Text
  pub bar : BarText names front
  pub name : TagName m
  pub is : w ≡ front ++ m

pub record MixedClosedText (names : List Text) (w : Text) : Type 0 where
  pub front : Text
  pub mixing : MixingText names front
  pub is : w ≡ front ++ 41 ∷ []

pub record EndedText (p : ℕ) (c : ContentSpec) (w : Text) : Type 0 where
  pub spec_bytes : Text
  pub gap : Text
  pub spec : SpecIs p spec_bytes c
  pub blanks : Blanks gap
  pub is : w ≡ spec_bytes ++ gap

pub record HashText (rest w : Text) : Type 0 where
  pub gap : Text
  pub front : Text
  pub blanks : Blanks gap
  pub word : pcdata_word ≡ front ++ rest
  pub is : w ≡ 40 ∷ (gap ++ front)

-- the first byte of EMPTY or more
pub record EmptyText (rest w : Text) : Type 0 where
  pub word : empty_word ≡ w ++ rest
  pub begun : 1 ≤ length w

pub record InsideText (w : Text) : Type 0 where
  pub gap : Text
  pub blanks : Blanks gap
  pub is : w ≡ 40 ∷ gap

-- <!ELEMENT and the element's name, with white space behind each
pub record FrontText (n w : Text) : Type 0 where
  pub gap : Text
  pub gap' : Text
  pub spaced : Space gap
  pub name : TagName n
  pub spaced' : Space gap'
  pub is : w ≡ element_word ++ (gap ++ (n ++ gap'))

-- a content so far, behind them
pub record In (n : Text) (C : Text → Type 0) (u : Text) : Type 0 where
  pub front : Text
  pub content_bytes : Text
  pub fronted : FrontText n front
  pub held : C content_bytes
  pub is : u ≡ front ++ content_bytes

pub record NamedText (n u : Text) : Type 0 where
  pub gap : Text
  pub spaced : Space gap
  pub name : TagName n
  pub is : u ≡ element_word ++ (gap ++ n)

pub record NamingText (u : Text) : Type 0 where
  pub gap : Text
  pub spaced : Space gap
  pub is : u ≡ element_word ++ gap

abbrev pub PhaseHeld : ℕ → Phase → Text → Type 0
PhaseHeld p (opening rest) u = element_word ≡ u ++ rest
PhaseHeld p naming u = NamingText u
PhaseHeld p (named n) u = NamedText n u
PhaseHeld p (contents n) u = FrontText n u
PhaseHeld p (emptying n rest) u = In n (EmptyText rest) u
PhaseHeld p (inside n) u = In n InsideText u
PhaseHeld p (hashing n rest) u = In n (HashText rest) u
PhaseHeld p (mixing n names) u = In n (MixingText names) u
PhaseHeld p (barred n names) u = In n (BarText names) u
PhaseHeld p (mixed_name n names m) u = In n (MixedNameText names m) u
PhaseHeld p (mixed_closed n names) u = In n (MixedClosedText names) u
PhaseHeld p (wants n l ls) u = In n (WantsText p l ls) u
PhaseHeld p (in_name n m l ls) u = In n (NameText p m l ls) u
PhaseHeld p (marking n x l ls) u = In n (GroupText p x l ls) u
PhaseHeld p (after n x l ls) u = In n (AfterText p x l ls) u
PhaseHeld p (group_closed n x) u = In n (λ w. GroupIs p w x) u
PhaseHeld p (ended n c) u = In n (EndedText p c) u

abbrev pub MoveHeld : ℕ → Move → Text → Type 0
MoveHeld p (to q) u = PhaseHeld p q u
MoveHeld p (over d) u = DeclarationIs p u d

abbrev pub Kept : ℕ → Text → Option Move → Type 0
Kept p u o = IfSome (λ m. MoveHeld p m u) o

-- a test that leads somewhere, and one of a byte
branch : (p : ℕ) (u : Text) (t : Bool) (a c : Option Move) → (t ≡ true → Kept p u a) → Kept p u c → Kept p u (cond t a c)
branch p u true a c f g = f refl
branch p u false a c f g = g

at_byte : (p : ℕ) (u : Text) (b k : ℕ) (a c : Option Move) → Kept p (u ++ k ∷ []) a → Kept p (u ++ b ∷ []) c → Kept p (u ++ b ∷ []) (cond (eqb b k) a c)
at_byte p u b k a c f g = branch p (u ++ b ∷ []) (eqb b k) a c (λ e. subst (λ z. Kept p (u ++ z ∷ []) a) (sym (eqb-true b k e)) f) g

only : (p : ℕ) (u : Text) (t : Bool) (q : Phase) → (t ≡ true → PhaseHeld p q u) → Kept p u (only_if_true t q)
only p u t q f = branch p u t (some (to q)) none f tt

-- a content goes on
pub further : {n u : Text} {C D : Text → Type 0} (b : ℕ) (h : In n C u) → D (h.content_bytes ++ b ∷ []) → In n D (u ++ b ∷ [])
further b h d = record { front = h.front; content_bytes = h.content_bytes ++ b ∷ []; fronted = h.fronted; held = d; is = ap (λ l. l ++ b ∷ []) h.is ∙ append_assoc h.front h.content_bytes (b ∷ []) }

-- a content's end
pub whole_declaration : {p : ℕ} {n u : Text} {c : ContentSpec} → In n (EndedText p c) u → DeclarationIs p (u ++ 62 ∷ []) (record { declared = n; content = c })
whole_declaration {n = n} h =
    let f = h.fronted in
    let e = h.held in
    declaration f.spaced f.name f.spaced' e.spec e.blanks
    (ap (λ l. l ++ 62 ∷ []) (h.is ∙ ap₂ (λ (x y : Text). x ++ y) f.is e.is) ∙ whole f.gap n f.gap' e.spec_bytes e.gap)
  where
    whole : (s m s' t s'' : Text) → ((element_word ++ (s ++ (m ++ s'))) ++ (t ++ s'')) ++ 62 ∷ [] ≡ element_word ++ (s ++ (m ++ (s' ++ (t ++ (s'' ++ 62 ∷ [])))))
    whole s m s' t s'' = simp append_assoc

ended_blank : {p : ℕ} {c : ContentSpec} {w : Text} (b : ℕ) → EndedText p c w → blank b ≡ true → EndedText p c (w ++ b ∷ [])
ended_blank b h k = record { spec_bytes = h.spec_bytes; gap = h.gap ++ b ∷ []; spec = h.spec; blanks = more_blanks b h.blanks k; is = ap (λ l. l ++ b ∷ []) h.is ∙ append_assoc h.spec_bytes h.gap (b ∷ []) }

pub ended_bare : {p : ℕ} {c : ContentSpec} {w : Text} → SpecIs p w c → EndedText p c w
ended_bare {w = w} h = record { spec_bytes = w; gap = []; spec = h; blanks = no_blank; is = sym (append-nil w) }

ended_step : {p : ℕ} {n u : Text} {c : ContentSpec} (b : ℕ) → In n (EndedText p c) u → Kept p (u ++ b ∷ []) (step_ended n c b)
ended_step {p = p} {n = n} {u = u} {c = c} b h =
    branch p (u ++ b ∷ []) (blank b) (some (to (ended n c))) (cond (eqb b 62) (some (over (record { declared = n; content = c }))) none) (λ k. further b h (ended_blank b h.held k))
    (at_byte p u b 62 (some (over (record { declared = n; content = c }))) none (whole_declaration h) tt)

pub same_content : {n u : Text} {C D : Text → Type 0} → (h : In n C u) → D h.content_bytes → In n D u
same_content h d = record { front = h.front; content_bytes = h.content_bytes; fronted = h.fronted; held = d; is = h.is }

-- behind a particle
pub after_blank : {p : ℕ} {x : Model} {l : LeftOf} {ls : List LeftOf} {w : Text} (b : ℕ) → AfterText p x l ls w → blank b ≡ true → AfterText p x l ls (w ++ b ∷ [])
after_blank b h k = record {
  inner = h.inner;
  before = h.before;
  particle_bytes = h.particle_bytes;
  gap = h.gap ++ b ∷ [];
  around = h.around;
  particle = h.particle;
  blanks = more_blanks b h.blanks k;
  is = ap (λ l. l ++ b ∷ []) h.is ∙ three h.before h.particle_bytes h.gap (b ∷ []);
}
  where
    three : (a b c r : Text) → (a ++ (b ++ c)) ++ r ≡ a ++ (b ++ (c ++ r))
    three a b c r = simp append_assoc

-- the pair around it, taken apart
pub record Innermost (p : ℕ) (x : Model) (l : LeftOf) (ls : List LeftOf) (w : Text) : Type 0 where
  pub inner : ℕ
  pub outer_bytes : Text
  pub left_bytes : Text
  pub particle_bytes : Text
  pub gap : Text
  pub outer : AroundText p (suc inner) ls outer_bytes
  pub left : LeftText inner l left_bytes
  pub particle : ParticleIs inner particle_bytes x
  pub blanks : Blanks gap
  pub is : w ≡ outer_bytes ++ (left_bytes ++ (particle_bytes ++ gap))

pub innermost : {p : ℕ} {x : Model} {l : LeftOf} {ls : List LeftOf} {w : Text} → AfterText p x l ls w → Innermost p x l ls w
innermost {w = w} h = go h.around h.particle h.is
  where
    go : {p q : ℕ} {x : Model} {l : LeftOf} {ls : List LeftOf} {v u : Text} → AroundText p q (l ∷ ls) v → ParticleIs q u x → w ≡ v ++ (u ++ h.gap) → Innermost p x l ls w
    go {q = q} {u = u} (a_pair {v = v} {t = t} o l e) i k = record {
      inner = q;
      outer_bytes = v;
      left_bytes = t;
      particle_bytes = u;
      gap = h.gap;
      outer = o;
      left = l;
      particle = i;
      blanks = h.blanks;
      is = k ∙ ap (λ z. z ++ (u ++ h.gap)) e ∙ append_assoc v t (u ++ h.gap);
    }

four : (a b c d r : Text) → (a ++ (b ++ (c ++ d))) ++ r ≡ a ++ (b ++ (c ++ (d ++ r)))
four a b c d r = simp append_assoc

pub behind_all : {p : ℕ} {x : Model} {l : LeftOf} {ls : List LeftOf} {w : Text} (h : Innermost p x l ls w) (r : Text) → w ++ r ≡ h.outer_bytes ++ (h.left_bytes ++ (h.particle_bytes ++ (h.gap ++ r)))
behind_all h r = ap (λ l. l ++ r) h.is ∙ four h.outer_bytes h.left_bytes h.particle_bytes h.gap r

-- a comma, a bar, a parenthesis
comma_left : {q : ℕ} {t u s : Text} {x y : Model} → LeftText q (commas y) t → ParticleIs q u x → Blanks s → LeftText q (commas (sequence y x)) (t ++ (u ++ (s ++ 44 ∷ [])))
comma_left {u = u} {s = r} (comma_text {s = s} {t = t} {s' = s'} {s'' = s''} h i j g e) k m = comma_text h (and_more i j g k refl) m no_blank (ap (λ l. l ++ (u ++ (r ++ 44 ∷ []))) e ∙ regroup s t s' s'' u (r ++ 44 ∷ []) 44)

comma_first : {q : ℕ} {t u s : Text} {x : Model} → LeftText q fresh t → ParticleIs q u x → Blanks s → LeftText q (commas x) (t ++ (u ++ (s ++ 44 ∷ [])))
comma_first (fresh_text h) k m = comma_text h (one k) m no_blank refl

bar_left : {q : ℕ} {t u s : Text} {x y : Model} → LeftText q (bars y) t → ParticleIs q u x → Blanks s → LeftText q (bars (choice y x)) (t ++ (u ++ (s ++ 124 ∷ [])))
bar_left {u = u} {s = r} (bar_text {s = s} {t = t} {s' = s'} {s'' = s''} h i j g e) k m = bars_text h (two i j g k refl) m no_blank (ap (λ l. l ++ (u ++ (r ++ 124 ∷ []))) e ∙ regroup s t s' s'' u (r ++ 124 ∷ []) 124)
bar_left {u = u} {s = r} (bars_text {s = s} {t = t} {s' = s'} {s'' = s''} h i j g e) k m = bars_text h (or_more i j g k refl) m no_blank (ap (λ l. l ++ (u ++ (r ++ 124 ∷ []))) e ∙ regroup s t s' s'' u (r ++ 124 ∷ []) 124)

bar_first : {q : ℕ} {t u s : Text} {x : Model} → LeftText q fresh t → ParticleIs q u x → Blanks s → LeftText q (bars x) (t ++ (u ++ (s ++ 124 ∷ [])))
bar_first (fresh_text h) k m = bar_text h k m no_blank refl

wanted : {p : ℕ} {x : Model} {l l' : LeftOf} {ls : List LeftOf} {w : Text} (c : ℕ) (h : Innermost p x l ls w) → LeftText h.inner l' (h.left_bytes ++ (h.particle_bytes ++ (h.gap ++ c ∷ []))) → WantsText p l' ls (w ++ c ∷ [])
wanted c h l = record { inner = h.inner; around = a_pair h.outer l (behind_all h (c ∷ [])) }

comma_step : {p : ℕ} {n u : Text} (x : Model) (l : LeftOf) (ls : List LeftOf) → In n (AfterText p x l ls) u → Kept p (u ++ 44 ∷ []) (with_comma n x l ls)
comma_step x fresh ls h = let i = innermost h.held in further 44 h (wanted 44 i (comma_first i.left i.particle i.blanks))
comma_step x (commas y) ls h = let i = innermost h.held in further 44 h (wanted 44 i (comma_left i.left i.particle i.blanks))
comma_step x (bars y) ls h = tt

bar_step : {p : ℕ} {n u : Text} (x : Model) (l : LeftOf) (ls : List LeftOf) → In n (AfterText p x l ls) u → Kept p (u ++ 124 ∷ []) (with_bar n x l ls)
bar_step x fresh ls h = let i = innermost h.held in further 124 h (wanted 124 i (bar_first i.left i.particle i.blanks))
bar_step x (commas y) ls h = tt
bar_step x (bars y) ls h = let i = innermost h.held in further 124 h (wanted 124 i (bar_left i.left i.particle i.blanks))

closed_group_lem : {p q : ℕ} {n u w v g : Text} {y : Model} (ls : List LeftOf) (c : ℕ) → (h : In n (λ z. z ≡ w) u) → AroundText p q ls v → GroupIs q g y → w ++ c ∷ [] ≡ v ++ g → PhaseHeld p (closed_group n y ls) (u ++ c ∷ [])
closed_group_lem {p = p} {y = y} [] c h no_pair g e = further c h (subst (λ z. GroupIs p z y) (sym e ∙ ap (λ l. l ++ c ∷ []) (sym h.held)) g)
closed_group_lem {q = q} {v = v} {g = t} (l ∷ ls) c h a g e = further c h (record { inner = q; before = v; group_bytes = t; around = a; group = g; is = ap (λ l. l ++ c ∷ []) h.held ∙ e })

close_step : {p : ℕ} {n u : Text} (x : Model) (l : LeftOf) (ls : List LeftOf) → In n (AfterText p x l ls) u → PhaseHeld p (closed_group n (behind_left l x) ls) (u ++ 41 ∷ [])
close_step x l ls h =
    let i = innermost h.held in
    closed_group_lem {w = h.content_bytes} ls 41 (same_content h refl) i.outer (closes i.left i.particle i.blanks) (behind_all i (41 ∷ []))

after_step : {p : ℕ} {n u : Text} (x : Model) (l : LeftOf) (ls : List LeftOf) (b : ℕ) → In n (AfterText p x l ls) u → Kept p (u ++ b ∷ []) (step_after n x l ls b)
after_step {p = p} {n = n} {u = u} x l ls b h =
    branch p (u ++ b ∷ []) (blank b) (some (to (after n x l ls))) (cond (eqb b 44) (with_comma n x l ls) (cond (eqb b 124) (with_bar n x l ls) (cond (eqb b 41) (some (to (closed_group n (behind_left l x) ls))) none)))
    (λ k. further b h (after_blank b h.held k))
    (at_byte p u b 44 (with_comma n x l ls) (cond (eqb b 124) (with_bar n x l ls) (cond (eqb b 41) (some (to (closed_group n (behind_left l x) ls))) none)) (comma_step x l ls h)
    (at_byte p u b 124 (with_bar n x l ls) (cond (eqb b 41) (some (to (closed_group n (behind_left l x) ls))) none) (bar_step x l ls h)
    (at_byte p u b 41 (some (to (closed_group n (behind_left l x) ls))) none (close_step x l ls h) tt)))

-- a mark
mark_step : (p : ℕ) (u : Text) (x : Model) (f : Model → Phase) (o : Option Move) (b : ℕ) → ((m : Text) (y : Model) → MarkIs x m y → PhaseHeld p (f y) (u ++ m)) → Kept p (u ++ b ∷ []) o → Kept p (u ++ b ∷ []) (step_mark x f o b)
mark_step p u x f o b h k =
    at_byte p u b 63 (some (to (f (optional x)))) (cond (eqb b 42) (some (to (f (any_number x)))) (cond (eqb b 43) (some (to (f (at_least_one x)))) o)) (h (63 ∷ []) (optional x) question)
    (at_byte p u b 42 (some (to (f (any_number x)))) (cond (eqb b 43) (some (to (f (at_least_one x)))) o) (h (42 ∷ []) (any_number x) asterisk)
    (at_byte p u b 43 (some (to (f (at_least_one x)))) o (h (43 ∷ []) (at_least_one x) plus) k))

pub particle_text : {p q : ℕ} {x : Model} {l : LeftOf} {ls : List LeftOf} {v u w : Text} → AroundText p q (l ∷ ls) v → ParticleIs q u x → w ≡ v ++ u → AfterText p x l ls w
particle_text {q = q} {v = v} {u = u} a i e = record { inner = q; before = v; particle_bytes = u; gap = []; around = a; particle = i; blanks = no_blank; is = e ∙ ap (λ z. v ++ z) (sym (append-nil u)) }

pub further_by : {n u : Text} {C D : Text → Type 0} (m : Text) → (h : In n C u) → D (h.content_bytes ++ m) → In n D (u ++ m)
further_by m h d = record { front = h.front; content_bytes = h.content_bytes ++ m; fronted = h.fronted; held = d; is = ap (λ l. l ++ m) h.is ∙ append_assoc h.front h.content_bytes m }

pub marked_name : {p : ℕ} {m k w : Text} {x : Model} {l : LeftOf} {ls : List LeftOf} → NameText p m l ls w → MarkIs (called m) k x → AfterText p x l ls (w ++ k)
marked_name {m = m} {k = k} h i = particle_text h.around (ParticleIs.a_name h.name i refl) (ap (λ l. l ++ k) h.is ∙ append_assoc h.before m k)

pub marked_group : {p : ℕ} {k w : Text} {x y : Model} {l : LeftOf} {ls : List LeftOf} → GroupText p y l ls w → MarkIs y k x → AfterText p x l ls (w ++ k)
marked_group {k = k} h i = particle_text h.around (a_group h.group i refl) (ap (λ l. l ++ k) h.is ∙ append_assoc h.before h.group_bytes k)

pub unmarked_after : {p : ℕ} {x : Model} {l : LeftOf} {ls : List LeftOf} {w : Text} → AfterText p x l ls (w ++ []) → AfterText p x l ls w
unmarked_after {p} {x} {l} {ls} {w} h = subst (AfterText p x l ls) (append-nil w) h

-- where a name or a group may begin
item_step : {p : ℕ} {n u : Text} (l : LeftOf) (ls : List LeftOf) (b : ℕ) → In n (WantsText p l ls) u → Kept p (u ++ b ∷ []) (step_item p n l ls b)
item_step {p = p} {n = n} {u = u} l ls b h =
    branch p (u ++ b ∷ []) (name_first b) (some (to (in_name n (b ∷ []) l ls))) (cond (eqb b 40) (only_if_true (ltb (suc (length ls)) p) (wants n fresh (l ∷ ls))) none)
    (λ k. further b h (record { inner = h.held.inner; before = h.content_bytes; around = h.held.around; name = one_letter b k; is = refl }))
    (at_byte p u b 40 (only_if_true (ltb (suc (length ls)) p) (wants n fresh (l ∷ ls))) none
    (only p (u ++ 40 ∷ []) (ltb (suc (length ls)) p) (wants n fresh (l ∷ ls)) (λ k. further 40 h (deeper h.held.inner h.held.around (ltb-true (suc (length ls)) p k)))) tt)
  where
    deeper : (q : ℕ) {w : Text} → AroundText p q (l ∷ ls) w → suc (length ls) < p → WantsText p fresh (l ∷ ls) (w ++ 40 ∷ [])
    deeper zero a k = absurd (omega (arith, opens a, k))
    deeper (suc q) a k = record { inner = q; around = a_pair a (fresh_text no_blank) refl }

wants_blank : {p : ℕ} {l : LeftOf} {ls : List LeftOf} {w : Text} (b : ℕ) → WantsText p l ls w → blank b ≡ true → WantsText p l ls (w ++ b ∷ [])
wants_blank {p} {l} {ls} {w} b h k = go h.around
  where
    go : {q : ℕ} → AroundText p q (l ∷ ls) w → WantsText p l ls (w ++ b ∷ [])
    go {q = q} (a_pair {v = v} {t = t} a e i) = record { inner = q; around = a_pair a (left_blank b e k) (ap (λ z. z ++ b ∷ []) i ∙ append_assoc v t (b ∷ [])) }

marking_step : {p : ℕ} {n u : Text} {C : Text → Type 0} (x : Model) (l : LeftOf) (ls : List LeftOf) (b : ℕ) (h : In n C u)
    → ((m : Text) (y : Model) → MarkIs x m y → AfterText p y l ls (h.content_bytes ++ m)) → Kept p (u ++ b ∷ []) (step_marking n x l ls b)
marking_step {p = p} {n = n} {u = u} x l ls b h f =
    mark_step p u x (λ y. after n y l ls) (step_after n x l ls b) b (λ m y k. further_by m h (f m y k)) (after_step x l ls b (same_content h (unmarked_after (f [] x unmarked))))

-- a name goes on
longer_step : (p : ℕ) (u m : Text) (f : Text → Phase) (b : ℕ) → (length m < longest_name → PhaseHeld p (f (m ++ b ∷ [])) u) → Kept p u (longer m f b)
longer_step p u m f b g = only p u (ltb (length m) longest_name) (f (m ++ b ∷ [])) (λ k. g (ltb-true (length m) longest_name k))

-- mixed content
mixing_blank : {names : List Text} {w : Text} (b : ℕ) → MixingText names w → blank b ≡ true → MixingText names (w ++ b ∷ [])
mixing_blank b h k = record {
  first_gap = h.first_gap;
  names_bytes = h.names_bytes;
  gap = h.gap ++ b ∷ [];
  first_blanks = h.first_blanks;
  barred_names = h.barred_names;
  blanks = more_blanks b h.blanks k;
  is = ap (λ l. l ++ b ∷ []) h.is ∙ ap (λ l. 40 ∷ l) (four h.first_gap pcdata_word h.names_bytes h.gap (b ∷ []));
}

mixing_step : {n u : Text} (p : ℕ) (names : List Text) (b : ℕ) → In n (MixingText names) u → Kept p (u ++ b ∷ []) (step_mixing n names b)
mixing_step {n = n} {u = u} p names b h =
    branch p (u ++ b ∷ []) (blank b) (some (to (mixing n names))) (cond (eqb b 124) (some (to (barred n names))) (cond (eqb b 41) (some (to (mixed_closed n names))) none))
    (λ k. further b h (mixing_blank b h.held k))
    (at_byte p u b 124 (some (to (barred n names))) (cond (eqb b 41) (some (to (mixed_closed n names))) none)
    (further 124 h (record { front = h.content_bytes; gap = []; mixing = h.held; blanks = no_blank; is = refl }))
    (at_byte p u b 41 (some (to (mixed_closed n names))) none (further 41 h (record { front = h.content_bytes; mixing = h.held; is = refl })) tt))

-- a name of mixed content that has ended is one of its names
pub named_mixing : {names : List Text} {m w : Text} → MixedNameText names m w → MixingText (names ++ m ∷ []) w
named_mixing {m = m} h =
    let b = h.bar in
    let x = b.mixing in
    record {
      first_gap = x.first_gap;
      names_bytes = x.names_bytes ++ (x.gap ++ 124 ∷ (b.gap ++ m));
      gap = [];
      first_blanks = x.first_blanks;
      barred_names = more_names x.barred_names x.blanks b.blanks h.name;
      blanks = no_blank;
      is = h.is ∙ ap (λ l. l ++ m) (b.is ∙ ap (λ l. l ++ 124 ∷ b.gap) x.is) ∙ ap (λ l. 40 ∷ l) (all x.first_gap x.names_bytes x.gap b.gap);
    }
  where
    all : (f ns g g' : Text) → ((f ++ (pcdata_word ++ (ns ++ g))) ++ 124 ∷ g') ++ m ≡ f ++ (pcdata_word ++ ((ns ++ (g ++ 124 ∷ (g' ++ m))) ++ []))
    all f ns g g' = simp (append_assoc, append-nil)

pub closed_starred : {p : ℕ} {names : List Text} {w : Text} → MixedClosedText names w → SpecIs p (w ++ 42 ∷ []) (mixed names)
closed_starred h =
    let x = h.mixing in
    is_mixed (starred x.first_blanks x.barred_names x.blanks (ap (λ l. l ++ 42 ∷ []) (h.is ∙ ap (λ l. l ++ 41 ∷ []) x.is) ∙ ap (λ l. 40 ∷ l) (all x.first_gap x.names_bytes x.gap)))
  where
    all : (f ns g : Text) → ((f ++ (pcdata_word ++ (ns ++ g))) ++ 41 ∷ []) ++ 42 ∷ [] ≡ f ++ (pcdata_word ++ (ns ++ (g ++ 41 ∷ 42 ∷ [])))
    all f ns g = simp append_assoc

closed_bare : {p : ℕ} {w : Text} → MixedClosedText [] w → SpecIs p w (mixed [])
closed_bare {p} {w} h = go h.mixing.barred_names h.mixing.is
  where
    all : (f g : Text) → (f ++ (pcdata_word ++ ([] ++ g))) ++ 41 ∷ [] ≡ f ++ (pcdata_word ++ (g ++ 41 ∷ []))
    all f g = simp append_assoc

    go : {t : Text} → BarredNames t [] → h.front ≡ 40 ∷ (h.mixing.first_gap ++ (pcdata_word ++ (t ++ h.mixing.gap))) → SpecIs p w (mixed [])
    go BarredNames.none e = is_mixed (characters h.mixing.first_blanks h.mixing.blanks (h.is ∙ ap (λ l. l ++ 41 ∷ []) e ∙ ap (λ l. 40 ∷ l) (all h.mixing.first_gap h.mixing.gap)))

closed_step : {n u : Text} (p : ℕ) (names : List Text) (b : ℕ) → In n (MixedClosedText names) u → Kept p (u ++ b ∷ []) (unstarred n names b)
closed_step p [] b h = ended_step b (same_content h (ended_bare (closed_bare h.held)))
closed_step p (m ∷ names) b h = tt

-- a word goes on
word_on : (word u : Text) (c : ℕ) (rest : Text) → word ≡ u ++ c ∷ rest → word ≡ (u ++ c ∷ []) ++ rest
word_on word u c rest e = e ∙ sym (append_assoc u (c ∷ []) rest)

front_blank : {n w : Text} (b : ℕ) → FrontText n w → blank b ≡ true → FrontText n (w ++ b ∷ [])
front_blank {n = n} b h k = record {
  gap = h.gap;
  gap' = h.gap' ++ b ∷ [];
  spaced = h.spaced;
  name = h.name;
  spaced' = more_space b h.spaced' k;
  is = ap (λ l. l ++ b ∷ []) h.is ∙ ap (λ l. element_word ++ l) (all h.gap h.gap');
}
  where
    all : (g g' : Text) → (g ++ (n ++ g')) ++ b ∷ [] ≡ g ++ (n ++ (g' ++ b ∷ []))
    all g g' = simp append_assoc

begun : {n u : Text} {C : Text → Type 0} (b : ℕ) → FrontText n u → C (b ∷ []) → In n C (u ++ b ∷ [])
begun {u = u} b f c = record { front = u; content_bytes = b ∷ []; fronted = f; held = c; is = refl }

inside_blank : {w : Text} (b : ℕ) → InsideText w → blank b ≡ true → InsideText (w ++ b ∷ [])
inside_blank b h k = record { gap = h.gap ++ b ∷ []; blanks = more_blanks b h.blanks k; is = ap (λ l. l ++ b ∷ []) h.is }

-- each byte keeps what is read; p is one more than what may be open inside the content's own pair
pub phase_step : (p : ℕ) (q : Phase) (u : Text) (b : ℕ) → PhaseHeld (suc p) q u → Kept (suc p) (u ++ b ∷ []) (step_phase (suc p) q b)
phase_step p (opening []) u b h = only (suc p) (u ++ b ∷ []) (blank b) naming (λ k. record { gap = b ∷ []; spaced = space k no_blank; is = ap (λ l. l ++ b ∷ []) (sym (h ∙ append-nil u)) })
phase_step p (opening (c ∷ rest)) u b h = at_byte (suc p) u b c (some (to (opening rest))) none (word_on element_word u c rest h) tt
phase_step p naming u b h =
    branch (suc p) (u ++ b ∷ []) (blank b) (some (to naming)) (only_if_true (name_first b) (named (b ∷ [])))
    (λ k. record { gap = h.gap ++ b ∷ []; spaced = more_space b h.spaced k; is = ap (λ l. l ++ b ∷ []) h.is ∙ append_assoc element_word h.gap (b ∷ []) })
    (only (suc p) (u ++ b ∷ []) (name_first b) (named (b ∷ [])) (λ k. record { gap = h.gap; spaced = h.spaced; name = one_letter b k; is = ap (λ l. l ++ b ∷ []) h.is ∙ append_assoc element_word h.gap (b ∷ []) }))
phase_step p (named n) u b h =
    branch (suc p) (u ++ b ∷ []) (name_byte b) (longer n named b) (only_if_true (blank b) (contents n))
    (λ k. longer_step (suc p) (u ++ b ∷ []) n named b (λ j. record { gap = h.gap; spaced = h.spaced; name = longer_name n b h.name k j; is = behind }))
    (only (suc p) (u ++ b ∷ []) (blank b) (contents n) (λ k. record { gap = h.gap; gap' = b ∷ []; spaced = h.spaced; name = h.name; spaced' = space k no_blank; is = behind }))
  where
    behind : u ++ b ∷ [] ≡ element_word ++ (h.gap ++ (n ++ b ∷ []))
    behind = ap (λ l. l ++ b ∷ []) h.is ∙ ap (λ l. element_word ++ l) (append_assoc h.gap n (b ∷ []))
phase_step p (contents n) u b h =
    branch (suc p) (u ++ b ∷ []) (blank b) (some (to (contents n))) (cond (eqb b 69) (some (to (emptying n (77 ∷ 80 ∷ 84 ∷ 89 ∷ [])))) (only_if_true (eqb b 40) (inside n))) (λ k. front_blank b h k)
    (at_byte (suc p) u b 69 (some (to (emptying n (77 ∷ 80 ∷ 84 ∷ 89 ∷ [])))) (only_if_true (eqb b 40) (inside n)) (begun 69 h (record { word = refl; begun = omega arith }))
    (at_byte (suc p) u b 40 (some (to (inside n))) none (begun 40 h (record { gap = []; blanks = no_blank; is = refl })) tt))
phase_step p (emptying n []) u b h = ended_step b (same_content h (ended_bare (subst (λ w. SpecIs (suc p) w nothing_inside) (h.held.word ∙ append-nil h.content_bytes) is_empty)))
phase_step p (emptying n (c ∷ rest)) u b h = at_byte (suc p) u b c (some (to (emptying n rest))) none (further c h (record { word = word_on empty_word h.content_bytes c rest h.held.word; begun = simp length-append (omega arith) })) tt
phase_step p (inside n) u b h =
    branch (suc p) (u ++ b ∷ []) (blank b) (some (to (inside n))) (cond (eqb b 35) (some (to (hashing n (80 ∷ 67 ∷ 68 ∷ 65 ∷ 84 ∷ 65 ∷ [])))) (step_item (suc p) n fresh [] b)) (λ k. further b h (inside_blank b h.held k))
    (at_byte (suc p) u b 35 (some (to (hashing n (80 ∷ 67 ∷ 68 ∷ 65 ∷ 84 ∷ 65 ∷ [])))) (step_item (suc p) n fresh [] b)
    (further 35 h (record { gap = h.held.gap; front = 35 ∷ []; blanks = h.held.blanks; word = refl; is = ap (λ l. l ++ 35 ∷ []) h.held.is }))
    (item_step fresh [] b (same_content h (record { inner = p; around = a_pair no_pair (fresh_text h.held.blanks) h.held.is }))))
phase_step p (hashing n []) u b h =
    mixing_step (suc p) [] b (same_content h (record {
      first_gap = h.held.gap;
      names_bytes = [];
      gap = [];
      first_blanks = h.held.blanks;
      barred_names = BarredNames.none;
      blanks = no_blank;
      is = h.held.is ∙ ap (λ l. 40 ∷ (h.held.gap ++ l)) (sym (h.held.word ∙ append-nil h.held.front));
    }))
phase_step p (hashing n (c ∷ rest)) u b h =
    at_byte (suc p) u b c (some (to (hashing n rest))) none
    (further c h (record {
      gap = h.held.gap;
      front = h.held.front ++ c ∷ [];
      blanks = h.held.blanks;
      word = word_on pcdata_word h.held.front c rest h.held.word;
      is = ap (λ l. l ++ c ∷ []) h.held.is ∙ ap (λ l. 40 ∷ l) (append_assoc h.held.gap h.held.front (c ∷ []));
    })) tt
phase_step p (mixing n names) u b h = mixing_step (suc p) names b h
phase_step p (barred n names) u b h =
    branch (suc p) (u ++ b ∷ []) (blank b) (some (to (barred n names))) (only_if_true (name_first b) (mixed_name n names (b ∷ [])))
    (λ k. further b h (record {
      front = h.held.front;
      gap = h.held.gap ++ b ∷ [];
      mixing = h.held.mixing;
      blanks = more_blanks b h.held.blanks k;
      is = ap (λ l. l ++ b ∷ []) h.held.is ∙ append_assoc h.held.front (124 ∷ h.held.gap) (b ∷ []);
    }))
    (only (suc p) (u ++ b ∷ []) (name_first b) (mixed_name n names (b ∷ [])) (λ k. further b h (record { front = h.content_bytes; bar = h.held; name = one_letter b k; is = refl })))
phase_step p (mixed_name n names m) u b h =
    branch (suc p) (u ++ b ∷ []) (name_byte b) (longer m (mixed_name n names) b) (step_mixing n (names ++ m ∷ []) b)
    (λ k. longer_step (suc p) (u ++ b ∷ []) m (mixed_name n names) b (λ j. further b h (record {
      front = h.held.front;
      bar = h.held.bar;
      name = longer_name m b h.held.name k j;
      is = ap (λ l. l ++ b ∷ []) h.held.is ∙ append_assoc h.held.front m (b ∷ []);
    })))
    (mixing_step (suc p) (names ++ m ∷ []) b (same_content h (named_mixing h.held)))
phase_step p (mixed_closed n names) u b h =
    at_byte (suc p) u b 42 (some (to (ended n (mixed names)))) (unstarred n names b) (further 42 h (ended_bare (closed_starred h.held))) (closed_step (suc p) names b h)
phase_step p (wants n l ls) u b h =
    branch (suc p) (u ++ b ∷ []) (blank b) (some (to (wants n l ls))) (step_item (suc p) n l ls b) (λ k. further b h (wants_blank b h.held k)) (item_step l ls b h)
phase_step p (in_name n m l ls) u b h =
    branch (suc p) (u ++ b ∷ []) (name_byte b) (longer m (λ k. in_name n k l ls) b) (step_marking n (called m) l ls b)
    (λ k. longer_step (suc p) (u ++ b ∷ []) m (λ k. in_name n k l ls) b (λ j. further b h (record {
      inner = h.held.inner;
      before = h.held.before;
      around = h.held.around;
      name = longer_name m b h.held.name k j;
      is = ap (λ l. l ++ b ∷ []) h.held.is ∙ append_assoc h.held.before m (b ∷ []);
    })))
    (marking_step (called m) l ls b h (λ k y i. marked_name h.held i))
phase_step p (marking n x l ls) u b h = marking_step x l ls b h (λ k y i. marked_group h.held i)
phase_step p (after n x l ls) u b h = after_step x l ls b h
phase_step p (group_closed n x) u b h =
    mark_step (suc p) u x (λ y. ended n (children y)) (step_ended n (children x) b) b (λ m y k. further_by m h (ended_bare (are_children h.held k refl)))
    (ended_step b (same_content h (ended_bare (are_children h.held unmarked (sym (append-nil h.content_bytes))))))
phase_step p (ended n c) u b h = ended_step b h
