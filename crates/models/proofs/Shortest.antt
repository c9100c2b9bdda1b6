-- Whatever the machine has read goes on to a text of declarations: the shortest is told by its state. Assumes nothing.
use mathlib.Core.Path.{◌≡◌, refl, sym, ◌∙◌, ap, ap₂, subst}
use mathlib.Core.Bool.{Bool, true, false, cond}
use mathlib.Core.Option.{Option, none, some}
use mathlib.Core.List.{List, [], ◌∷◌, ◌++◌, append_assoc, append-nil}
use Prim.Native.Nat.{ℕ, suc}
use native.Mathlib.Omega.{arith}
use lib.Dec.{eqb}
use lib.ListN.{length, length-append}
use borrow.Author.Tests.{eqb-true}
use Rattle.text.specs.Names.{blank}
use Rattle.reading.specs.Machine.{walk}
use Rattle.reading.proofs.Telling.{IfSome, none≢some, held_after}
use Rattle.models.specs.Models.{Model, called, ContentSpec, nothing_inside, mixed, children, Declaration}
use Rattle.models.specs.Spelling.{Blanks, no_blank, a_blank, Space, space, element_word, empty_word, pcdata_word, unmarked, ParticleIs, a_group, GroupIs, characters, SpecIs, is_empty, is_mixed, are_children, DeclarationIs, declaration, DeclarationsAre, DtdIs}
use Rattle.models.specs.Reader.{LeftOf, fresh, behind_left, Phase, opening, naming, named, contents, emptying, inside, hashing, mixing, barred, mixed_name, mixed_closed, wants, in_name, marking, after, group_closed, ended, Move, to, over, only_if_true, step_phase, DtdProgress, outside, within, moved_by, step_declarations, value_of_dtd, short_name, around_model, finished_phase, finished_dtd}
use Rattle.models.proofs.Held.{Text, more_blanks, one_letter, LeftText, fresh_text, closes, AroundText, no_pair, a_pair, FrontText, In, EndedText, MixingText, MixedClosedText, MixedNameText, PhaseHeld, MoveHeld, Kept, further, further_by, same_content, ended_bare, whole_declaration, marked_name, marked_group, AfterText, innermost, behind_all, particle_text, unmarked_after, closed_starred, named_mixing, phase_step}

-- all open parentheses close
close_groups : {p r : ℕ} {ls : List LeftOf} {v g : Text} {y : Model} → AroundText p r ls v → GroupIs r g y → (rest : Text) × GroupIs p (v ++ (g ++ rest)) (around_model ls y)
close_groups {p = p} {g = g} {y = y} no_pair h = ([], subst (λ z. GroupIs p z y) (sym (append-nil g)) h)
close_groups {p = p} {v = w} {g = g} {y = y} (a_pair {l = l} {ls = ls} {v = v} {t = t} a e i) h =
    let c = close_groups a (closes e (a_group h unmarked (sym (append-nil g))) no_blank) in
    (41 ∷ c.0, subst (λ z. GroupIs p z (around_model ls (behind_left l y))) (sym (ap (λ z. z ++ (g ++ 41 ∷ c.0)) i ∙ all c.0)) c.1)
  where
    all : (r : Text) → (v ++ t) ++ (g ++ 41 ∷ r) ≡ v ++ ((t ++ (g ++ 41 ∷ [])) ++ r)
    all r = simp append_assoc

after_group : {p : ℕ} {x : Model} {l : LeftOf} {ls : List LeftOf} {w : Text} → AfterText p x l ls w → (rest : Text) × GroupIs p (w ++ rest) (around_model (l ∷ ls) x)
after_group {p} {x} {l} {ls} {w} h =
    let i = innermost h in
    let c = close_groups i.outer (closes i.left i.particle i.blanks) in
    (41 ∷ c.0, subst (λ z. GroupIs p z (around_model ls (behind_left l x))) (sym (behind_all i (41 ∷ c.0) ∙ all i.outer_bytes i.left_bytes i.particle_bytes i.gap c.0)) c.1)
  where
    all : (o l u s r : Text) → o ++ (l ++ (u ++ (s ++ 41 ∷ r))) ≡ o ++ ((l ++ (u ++ (s ++ 41 ∷ []))) ++ r)
    all o l u s r = simp append_assoc

abbrev Goes : ℕ → Phase → Text → Type 0
Goes p q u = (rest : Text) × DeclarationIs p (u ++ rest) (finished_phase q)

-- a content that ends with m, and then >
ends_with : {p : ℕ} {n : Text} {c : ContentSpec} (u m : Text) → In n (EndedText p c) (u ++ m) → (rest : Text) × DeclarationIs p (u ++ rest) (record { declared = n; content = c })
ends_with {p} {n} {c} u m h = (m ++ 62 ∷ [], subst (λ z. DeclarationIs p z (record { declared = n; content = c })) (append_assoc u m (62 ∷ [])) (whole_declaration h))

a_spec : {p : ℕ} {n u : Text} {c : ContentSpec} {C : Text → Type 0} (m : Text) (h : In n C u) → SpecIs p (h.content_bytes ++ m) c → (rest : Text) × DeclarationIs p (u ++ rest) (record { declared = n; content = c })
a_spec {u = u} m h s = ends_with u m (further_by m h (ended_bare s))

a_group_spec : {p : ℕ} {n u : Text} {x : Model} {C : Text → Type 0} (h : In n C u) → ((rest : Text) × GroupIs p (h.content_bytes ++ rest) x) → (rest : Text) × DeclarationIs p (u ++ rest) (record { declared = n; content = children x })
a_group_spec h g = a_spec g.0 h (are_children g.1 unmarked (sym (append-nil (h.content_bytes ++ g.0))))

a_short_name : (q : ℕ) → ParticleIs q short_name (called short_name)
a_short_name q = ParticleIs.a_name (one_letter 97 refl) unmarked refl

-- behind a name or a group, and in front of one
after_spec : {p : ℕ} {n u : Text} {x : Model} {l : LeftOf} {ls : List LeftOf} {C : Text → Type 0} (m : Text) (h : In n C u) → AfterText p x l ls (h.content_bytes ++ m)
    → (rest : Text) × DeclarationIs p (u ++ rest) (record { declared = n; content = children (around_model (l ∷ ls) x) })
after_spec {p} {n} {u} {x} {l} {ls} m h a =
    let g = after_group a in
    a_group_spec h (m ++ g.0, subst (λ z. GroupIs p z (around_model (l ∷ ls) x)) (append_assoc h.content_bytes m g.0) g.1)

mixing_shortest : {n u : Text} {C : Text → Type 0} (p : ℕ) (names : List Text) (m : Text) (h : In n C u) → MixingText names (h.content_bytes ++ m) → (rest : Text) × DeclarationIs p (u ++ rest) (record { declared = n; content = mixed names })
mixing_shortest {n = n} {u = u} p names m h x =
    let w = h.content_bytes in
    let closed : MixedClosedText names (w ++ (m ++ 41 ∷ [])) = record { front = w ++ m; mixing = x; is = sym (append_assoc w m (41 ∷ [])) } in
    a_spec ((m ++ 41 ∷ []) ++ 42 ∷ []) h (subst (λ z. SpecIs p z (mixed names)) (append_assoc w (m ++ 41 ∷ []) (42 ∷ [])) (closed_starred closed))

phase_shortest : (p : ℕ) (q : Phase) (u : Text) → PhaseHeld (suc p) q u → Goes (suc p) q u
phase_shortest p (opening rest) u h = (
  rest ++ 32 ∷ 97 ∷ 32 ∷ (empty_word ++ 62 ∷ []),
  declaration (space {b = 32} refl no_blank) (one_letter 97 refl) (space {b = 32} refl no_blank) is_empty no_blank
      (sym (append_assoc u rest (32 ∷ 97 ∷ 32 ∷ (empty_word ++ 62 ∷ []))) ∙ ap (λ l. l ++ 32 ∷ 97 ∷ 32 ∷ (empty_word ++ 62 ∷ [])) (sym h)),
)
phase_shortest p naming u h = (
  97 ∷ 32 ∷ (empty_word ++ 62 ∷ []),
  declaration h.spaced (one_letter 97 refl) (space {b = 32} refl no_blank) is_empty no_blank (ap (λ l. l ++ 97 ∷ 32 ∷ (empty_word ++ 62 ∷ [])) h.is ∙ append_assoc element_word h.gap (97 ∷ 32 ∷ (empty_word ++ 62 ∷ []))),
)
phase_shortest p (named n) u h = (
  32 ∷ (empty_word ++ 62 ∷ []),
  declaration h.spaced h.name (space {b = 32} refl no_blank) is_empty no_blank
      (ap (λ l. l ++ 32 ∷ (empty_word ++ 62 ∷ [])) h.is ∙ ap (λ l. element_word ++ l) (append_assoc h.gap n (32 ∷ (empty_word ++ 62 ∷ [])))),
)
phase_shortest p (contents n) u h = ends_with u empty_word (record { front = u; content_bytes = empty_word; fronted = h; held = ended_bare is_empty; is = refl })
phase_shortest p (emptying n rest) u h = a_spec rest h (subst (λ w. SpecIs (suc p) w nothing_inside) h.held.word is_empty)
phase_shortest p (inside n) u h = a_group_spec h (97 ∷ 41 ∷ [], subst (λ z. GroupIs (suc p) (z ++ 97 ∷ 41 ∷ []) (called short_name)) (sym h.held.is) (closes (fresh_text h.held.blanks) (a_short_name p) no_blank))
phase_shortest p (hashing n rest) u h =
    a_spec (rest ++ 41 ∷ []) h (is_mixed (characters h.held.blanks no_blank
    (ap (λ l. l ++ (rest ++ 41 ∷ [])) h.held.is ∙ ap (λ l. 40 ∷ l) (all h.held.gap h.held.front) ∙ ap (λ l. 40 ∷ (h.held.gap ++ (l ++ 41 ∷ []))) (sym h.held.word))))
  where
    all : (g f : Text) → (g ++ f) ++ (rest ++ 41 ∷ []) ≡ g ++ ((f ++ rest) ++ 41 ∷ [])
    all g f = simp append_assoc
phase_shortest p (mixing n names) u h = mixing_shortest (suc p) names [] h (subst (MixingText names) (sym (append-nil h.content_bytes)) h.held)
phase_shortest p (barred n names) u h = mixing_shortest (suc p) (names ++ short_name ∷ []) short_name h (named_mixing (record { front = h.content_bytes; bar = h.held; name = one_letter 97 refl; is = refl }))
phase_shortest p (mixed_name n names m) u h = mixing_shortest (suc p) (names ++ m ∷ []) [] h (named_mixing (subst (MixedNameText names m) (sym (append-nil h.content_bytes)) h.held))
phase_shortest p (mixed_closed n names) u h = a_spec (42 ∷ []) h (closed_starred h.held)
phase_shortest p (wants n l ls) u h = after_spec short_name h (particle_text h.held.around (a_short_name h.held.inner) refl)
phase_shortest p (in_name n m l ls) u h = after_spec [] h (marked_name h.held unmarked)
phase_shortest p (marking n x l ls) u h = after_spec [] h (marked_group h.held unmarked)
phase_shortest p (after n x l ls) u h = after_spec [] h (subst (AfterText (suc p) x l ls) (sym (append-nil h.content_bytes)) h.held)
phase_shortest p (group_closed n x) u h = a_group_spec h ([], subst (λ z. GroupIs (suc p) z x) (sym (append-nil h.content_bytes)) h.held)
phase_shortest p (ended n c) u h = ends_with u [] (subst (In n (EndedText (suc p) c)) (sym (append-nil u)) h)

-- between declarations, and in one
pub record WithinText (p : ℕ) (ds : List Declaration) (q : Phase) (row : Text) : Type 0 where
  pub before : Text
  pub bytes : Text
  pub are : DeclarationsAre p before ds
  pub held : PhaseHeld p q bytes
  pub is : row ≡ before ++ bytes

abbrev pub ProgressHeld : ℕ → DtdProgress → Text → Type 0
ProgressHeld p (outside ds) row = DeclarationsAre p row ds
ProgressHeld p (within ds q) row = WithinText p ds q row

declared_blank : {p : ℕ} {row : Text} {ds : List Declaration} (b : ℕ) → DeclarationsAre p row ds → blank b ≡ true → DeclarationsAre p (row ++ b ∷ []) ds
declared_blank b (DeclarationsAre.none h) k = DeclarationsAre.none (more_blanks b h k)
declared_blank b (DeclarationsAre.one_more {v = v} {t = t} {s = s} a d h e) k = DeclarationsAre.one_more a d (more_blanks b h k) (ap (λ l. l ++ b ∷ []) e ∙ all)
  where
    all : (v ++ (t ++ s)) ++ b ∷ [] ≡ v ++ (t ++ (s ++ b ∷ []))
    all = simp append_assoc

moved_held : (p : ℕ) (ds : List Declaration) (row before bytes : Text) → DeclarationsAre p before ds → row ≡ before ++ bytes → (o : Option Move) → Kept p bytes o → IfSome (λ z. ProgressHeld p z row) (moved_by ds o)
moved_held p ds row v u a e none k = tt
moved_held p ds row v u a e (some (to q)) k = record { before = v; bytes = u; are = a; held = k; is = e }
moved_held p ds row v u a e (some (over d)) k = DeclarationsAre.one_more a k no_blank (e ∙ ap (λ l. v ++ l) (sym (append-nil u)))

pub keeps : (p : ℕ) (s : DtdProgress) (b : ℕ) (row : Text) → ProgressHeld (suc p) s row → IfSome (λ z. ProgressHeld (suc p) z (row ++ b ∷ [])) (step_declarations (suc p) s b)
keeps p (outside ds) b row h = blank_or (blank b) (eqb b 60) refl refl
  where
    blank_or : (t u : Bool) → blank b ≡ t → eqb b 60 ≡ u → IfSome (λ z. ProgressHeld (suc p) z (row ++ b ∷ [])) (cond t (some (outside ds)) (moved_by ds (only_if_true u (opening (33 ∷ 69 ∷ 76 ∷ 69 ∷ 77 ∷ 69 ∷ 78 ∷ 84 ∷ [])))))
    blank_or true u e f = declared_blank b h e
    blank_or false true e f = record { before = row; bytes = b ∷ []; are = h; held = ap (λ c. c ∷ 33 ∷ 69 ∷ 76 ∷ 69 ∷ 77 ∷ 69 ∷ 78 ∷ 84 ∷ []) (sym (eqb-true b 60 f)); is = refl }
    blank_or false false e f = tt
keeps p (within ds q) b row h =
    moved_held (suc p) ds (row ++ b ∷ []) h.before (h.bytes ++ b ∷ []) h.are (ap (λ l. l ++ b ∷ []) h.is ∙ append_assoc h.before h.bytes (b ∷ [])) (step_phase (suc p) q b) (phase_step p q h.bytes b h.held)

pub held : (p : ℕ) (s : DtdProgress) (row : Text) → walk (step_declarations (suc p)) (outside []) row ≡ some s → ProgressHeld (suc p) s row
held p s row e = held_after (step_declarations (suc p)) (ProgressHeld (suc p)) (keeps p) (outside []) s row (DeclarationsAre.none no_blank) e

pub not_empty : (ds : List Declaration) (d : Declaration) → ds ++ d ∷ [] ≡ [] → ⊥
not_empty ds d e = omega (arith, simp length-append at (ap length e))

pub sound : (p : ℕ) (row : Text) (s : DtdProgress) (v : List Declaration) → ProgressHeld (suc p) s row → value_of_dtd s ≡ some v → DtdIs (suc p) row v
sound p row (outside []) v h e = absurd (none≢some refl e)
sound p row (outside (d ∷ ds)) v h e = let same : d ∷ ds ≡ v = cc in subst (DtdIs (suc p) row) same (record { are = h; some = λ k. omega (arith, ap length k) })
sound p row (within ds q) v h e = absurd (none≢some refl e)

pub shortest : (p : ℕ) (row : Text) (s : DtdProgress) → ProgressHeld (suc p) s row → (rest : Text) × DtdIs (suc p) (row ++ rest) (finished_dtd s)
shortest p row (outside []) h =
    let g = phase_shortest p (opening element_word) [] refl in
    (g.0, record { are = DeclarationsAre.one_more h g.1 no_blank (ap (λ l. row ++ l) (sym (append-nil g.0))); some = not_empty [] (finished_phase (opening element_word)) })
shortest p row (outside (d ∷ ds)) h = ([], subst (λ l. DtdIs (suc p) l (d ∷ ds)) (sym (append-nil row)) (sound p row (outside (d ∷ ds)) (d ∷ ds) h refl))
shortest p row (within ds q) h =
    let g = phase_shortest p q h.bytes h.held in
    (g.0, record { are = DeclarationsAre.one_more h.are g.1 no_blank (ap (λ l. l ++ g.0) h.is ∙ append_assoc h.before h.bytes g.0 ∙ ap (λ l. h.before ++ l) (sym (append-nil (h.bytes ++ g.0)))); some = not_empty ds (finished_phase q) })
