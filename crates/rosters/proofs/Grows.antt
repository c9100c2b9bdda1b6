-- A byte adds at most the name that it ends, whatever the phase. Assumes nothing.
use mathlib.Core.Path.{◌≡◌, refl, sym, ◌∙◌, ap, subst}
use mathlib.Core.Bool.{Bool, true, false, cond}
use mathlib.Core.Option.{Option, none, some}
use mathlib.Core.List.{List, [], ◌∷◌, ◌++◌, append-nil, append_assoc}
use Prim.Native.Nat.{ℕ, suc}
use lib.Dec.{eqb, ltb}
use lib.ListN.{length}
use Rattle.limits.specs.Limits.{longest_name}
use Rattle.text.specs.Names.{name_first, name_byte, blank}
use Rattle.reading.proofs.Telling.{IfSome}
use Rattle.models.specs.Models.{Model, called, optional, any_number, at_least_one, ContentSpec, nothing_inside, mixed, children, Declaration}
use Rattle.models.specs.Family.{names_in, names_in_spec}
use Rattle.models.specs.Names.{names_left, names_around, own_name}
use Rattle.models.specs.Reader.{LeftOf, fresh, commas, bars, behind_left, Phase, opening, naming, named, contents, emptying, inside, hashing, mixing, barred, mixed_name, mixed_closed, wants, in_name, marking, after, group_closed, ended, Move, to, over, only_if_true, longer, step_ended, step_mark, with_comma, with_bar, closed_group, step_after, step_marking, step_item, step_mixing, unstarred, step_phase, finished_phase}
use Rattle.rosters.specs.Names.{declared_in, mentioned_in, names_ended, ending_at, declared_by, mentioned_by}
use Rattle.rosters.specs.Promises.{NamesGrow, OverAsFinished}

-- of a move that is over, what is declared
abbrev Over : Declaration → Move → Type 0
Over e (to q) = Unit {0}
Over e (over d) = e ≡ d

module _ (e : Declaration) where
  -- names declared and mentioned behind a move
  record Names (ds ms : List (List ℕ)) (v : Move) : Type 0 where
    declared_are : declared_by v ≡ ds
    mentioned_are : mentioned_by v ≡ ms
    finished : Over e v

  abbrev Leads : List (List ℕ) → List (List ℕ) → Option Move → Type 0
  Leads ds ms o = IfSome (Names ds ms) o

  either_way : (ds ms : List (List ℕ)) (t : Bool) (a b : Option Move) → Leads ds ms a → Leads ds ms b → Leads ds ms (cond t a b)
  either_way ds ms true a b f g = f
  either_way ds ms false a b f g = g

  only : (ds ms : List (List ℕ)) (t : Bool) (q : Phase) → Names ds ms (to q) → Leads ds ms (only_if_true t q)
  only ds ms t q h = either_way ds ms t (some (to q)) none h tt

  stays : (q : Phase) → Names (declared_in q) (mentioned_in q) (to q)
  stays q = record { declared_are = refl; mentioned_are = refl; finished = tt }

  -- with the element's name, and its content's
  holding : (n : List ℕ) (l m : List (List ℕ)) (q : Phase) → declared_in q ≡ n ∷ [] → mentioned_in q ≡ n ∷ l → l ≡ m → Names (n ∷ []) (n ∷ m) (to q)
  holding n l m q d i f = record { declared_are = d; mentioned_are = i ∙ ap (λ (x : List (List ℕ)). n ∷ x) f; finished = tt }

  ended_leads : (n : List ℕ) (c : ContentSpec) (b : ℕ) → e ≡ record { declared = n; content = c } → Leads (n ∷ []) (n ∷ names_in_spec c) (step_ended n c b)
  ended_leads n c b h =
      let d : Declaration = record { declared = n; content = c } in
      either_way (n ∷ []) (n ∷ names_in_spec c) (blank b) (some (to (ended n c))) (cond (eqb b 62) (some (over d)) none) (stays (ended n c))
      (either_way (n ∷ []) (n ∷ names_in_spec c) (eqb b 62) (some (over d)) none (record { declared_are = refl; mentioned_are = refl; finished = h }) tt)

  mark_leads : (ds ms : List (List ℕ)) (x : Model) (f : Model → Phase) (o : Option Move) (b : ℕ) → Names ds ms (to (f (optional x))) → Names ds ms (to (f (any_number x))) → Names ds ms (to (f (at_least_one x))) → Leads ds ms o
      → Leads ds ms (step_mark x f o b)
  mark_leads ds ms x f o b i j k l =
      either_way ds ms (eqb b 63) (some (to (f (optional x)))) (cond (eqb b 42) (some (to (f (any_number x)))) (cond (eqb b 43) (some (to (f (at_least_one x)))) o)) i
      (either_way ds ms (eqb b 42) (some (to (f (any_number x)))) (cond (eqb b 43) (some (to (f (at_least_one x)))) o) j (either_way ds ms (eqb b 43) (some (to (f (at_least_one x)))) o k l))

  -- a model behind what stands to its left
  behind_names : (l : LeftOf) (x : Model) (front : List (List ℕ)) → front ++ names_in (behind_left l x) ≡ (front ++ names_left l) ++ names_in x
  behind_names fresh x front = ap (λ (l : List (List ℕ)). l ++ names_in x) (sym (append-nil front))
  behind_names (commas y) x front = sym (append_assoc front (names_in y) (names_in x))
  behind_names (bars y) x front = sym (append_assoc front (names_in y) (names_in x))

  abbrev around : Model → LeftOf → List LeftOf → List (List ℕ)
  around x l ls = names_around (l ∷ ls) ++ names_in x

  comma_leads : (n : List ℕ) (x : Model) (l : LeftOf) (ls : List LeftOf) → Leads (n ∷ []) (n ∷ around x l ls) (with_comma n x l ls)
  comma_leads n x fresh ls = holding n (names_around ls ++ names_in x) (around x fresh ls) (wants n (commas x) ls) refl refl (behind_names fresh x (names_around ls))
  comma_leads n x (commas y) ls = holding n (names_around ls ++ (names_in y ++ names_in x)) (around x (commas y) ls) (wants n (commas (behind_left (commas y) x)) ls) refl refl (behind_names (commas y) x (names_around ls))
  comma_leads n x (bars y) ls = tt

  bar_leads : (n : List ℕ) (x : Model) (l : LeftOf) (ls : List LeftOf) → Leads (n ∷ []) (n ∷ around x l ls) (with_bar n x l ls)
  bar_leads n x fresh ls = holding n (names_around ls ++ names_in x) (around x fresh ls) (wants n (bars x) ls) refl refl (behind_names fresh x (names_around ls))
  bar_leads n x (commas y) ls = tt
  bar_leads n x (bars y) ls = holding n (names_around ls ++ (names_in y ++ names_in x)) (around x (bars y) ls) (wants n (bars (behind_left (bars y) x)) ls) refl refl (behind_names (bars y) x (names_around ls))

  close_leads : (n : List ℕ) (x : Model) (l : LeftOf) (ls : List LeftOf) → Names (n ∷ []) (n ∷ around x l ls) (to (closed_group n (behind_left l x) ls))
  close_leads n x l [] = holding n (names_in (behind_left l x)) (around x l []) (group_closed n (behind_left l x)) refl refl (behind_names l x [])
  close_leads n x l (k ∷ ls) = holding n (names_around (k ∷ ls) ++ names_in (behind_left l x)) (around x l (k ∷ ls)) (marking n (behind_left l x) k ls) refl refl (behind_names l x (names_around (k ∷ ls)))

  after_leads : (n : List ℕ) (x : Model) (l : LeftOf) (ls : List LeftOf) (b : ℕ) → Leads (n ∷ []) (n ∷ around x l ls) (step_after n x l ls b)
  after_leads n x l ls b =
      let ds : List (List ℕ) = n ∷ [] in
      let ms : List (List ℕ) = n ∷ around x l ls in
      either_way ds ms (blank b) (some (to (after n x l ls))) (cond (eqb b 44) (with_comma n x l ls) (cond (eqb b 124) (with_bar n x l ls) (cond (eqb b 41) (some (to (closed_group n (behind_left l x) ls))) none))) (stays (after n x l ls))
      (either_way ds ms (eqb b 44) (with_comma n x l ls) (cond (eqb b 124) (with_bar n x l ls) (cond (eqb b 41) (some (to (closed_group n (behind_left l x) ls))) none)) (comma_leads n x l ls)
      (either_way ds ms (eqb b 124) (with_bar n x l ls) (cond (eqb b 41) (some (to (closed_group n (behind_left l x) ls))) none) (bar_leads n x l ls)
      (either_way ds ms (eqb b 41) (some (to (closed_group n (behind_left l x) ls))) none (close_leads n x l ls) tt)))

  marking_leads : (n : List ℕ) (x : Model) (l : LeftOf) (ls : List LeftOf) (b : ℕ) → Leads (n ∷ []) (n ∷ around x l ls) (step_marking n x l ls b)
  marking_leads n x l ls b =
      mark_leads (n ∷ []) (n ∷ around x l ls) x (λ y. after n y l ls) (step_after n x l ls b) b (stays (after n (optional x) l ls)) (stays (after n (any_number x) l ls)) (stays (after n (at_least_one x) l ls)) (after_leads n x l ls b)

  item_leads : (p : ℕ) (n : List ℕ) (l : LeftOf) (ls : List LeftOf) (b : ℕ) → Leads (n ∷ []) (n ∷ names_around (l ∷ ls)) (step_item p n l ls b)
  item_leads p n l ls b =
      let ds : List (List ℕ) = n ∷ [] in
      let ms : List (List ℕ) = n ∷ names_around (l ∷ ls) in
      either_way ds ms (name_first b) (some (to (in_name n (b ∷ []) l ls))) (cond (eqb b 40) (only_if_true (ltb (suc (length ls)) p) (wants n fresh (l ∷ ls))) none) (stays (in_name n (b ∷ []) l ls))
      (either_way ds ms (eqb b 40) (only_if_true (ltb (suc (length ls)) p) (wants n fresh (l ∷ ls))) none
      (only ds ms (ltb (suc (length ls)) p) (wants n fresh (l ∷ ls)) (holding n (names_around (l ∷ ls) ++ []) (names_around (l ∷ ls)) (wants n fresh (l ∷ ls)) refl refl (append-nil (names_around (l ∷ ls))))) tt)

  mixing_leads : (n : List ℕ) (names : List (List ℕ)) (b : ℕ) → Leads (n ∷ []) (n ∷ names) (step_mixing n names b)
  mixing_leads n names b =
      either_way (n ∷ []) (n ∷ names) (blank b) (some (to (mixing n names))) (cond (eqb b 124) (some (to (barred n names))) (cond (eqb b 41) (some (to (mixed_closed n names))) none)) (stays (mixing n names))
      (either_way (n ∷ []) (n ∷ names) (eqb b 124) (some (to (barred n names))) (cond (eqb b 41) (some (to (mixed_closed n names))) none) (stays (barred n names))
      (either_way (n ∷ []) (n ∷ names) (eqb b 41) (some (to (mixed_closed n names))) none (stays (mixed_closed n names)) tt))

  unstarred_leads : (n : List ℕ) (names : List (List ℕ)) (b : ℕ) → e ≡ record { declared = n; content = mixed names } → Leads (n ∷ []) (n ∷ names) (unstarred n names b)
  unstarred_leads n [] b h = ended_leads n (mixed []) b h
  unstarred_leads n (m ∷ names) b h = tt

  -- no name is being read
  same : (q : Phase) (o : Option Move) → Leads (declared_in q) (mentioned_in q) o → Leads (declared_in q ++ []) (mentioned_in q ++ []) o
  same q o h = subst (λ (ms : List (List ℕ)). Leads (declared_in q ++ []) ms o) (sym (append-nil (mentioned_in q))) (subst (λ (ds : List (List ℕ)). Leads ds (mentioned_in q) o) (sym (append-nil (declared_in q))) h)

  -- a name goes on, or ends here
  element_or : (n : List ℕ) (b : ℕ) (t : Bool) → Leads (cond t [] (n ∷ [])) (cond t [] (n ∷ []) ++ []) (cond t (longer n named b) (only_if_true (blank b) (contents n)))
  element_or n b true = only [] [] (ltb (length n) longest_name) (named (n ++ b ∷ [])) (stays (named (n ++ b ∷ [])))
  element_or n b false = only (n ∷ []) (n ∷ []) (blank b) (contents n) (stays (contents n))

  name_or : (n m : List ℕ) (ms : List (List ℕ)) (t : Bool) (a o : Option Move) → Leads (n ∷ []) (n ∷ ms) a → Leads (n ∷ []) (n ∷ (ms ++ m ∷ [])) o → Leads (n ∷ []) ((n ∷ ms) ++ cond t [] (m ∷ [])) (cond t a o)
  name_or n m ms true a o f g = subst (λ (l : List (List ℕ)). Leads (n ∷ []) l a) (sym (append-nil (n ∷ ms))) f
  name_or n m ms false a o f g = g

  phase_leads : (p : ℕ) (q : Phase) (b : ℕ) → e ≡ finished_phase q → Leads (declared_in q ++ names_ended (own_name q) b) (mentioned_in q ++ ending_at q b) (step_phase p q b)
  phase_leads p (opening []) b h = only [] [] (blank b) naming (stays naming)
  phase_leads p (opening (c ∷ rest)) b h = only [] [] (eqb b c) (opening rest) (stays (opening rest))
  phase_leads p naming b h = either_way [] [] (blank b) (some (to naming)) (only_if_true (name_first b) (named (b ∷ []))) (stays naming) (only [] [] (name_first b) (named (b ∷ [])) (stays (named (b ∷ []))))
  phase_leads p (named n) b h = element_or n b (name_byte b)
  phase_leads p (contents n) b h =
      either_way (n ∷ []) (n ∷ []) (blank b) (some (to (contents n))) (cond (eqb b 69) (some (to (emptying n (77 ∷ 80 ∷ 84 ∷ 89 ∷ [])))) (only_if_true (eqb b 40) (inside n))) (stays (contents n))
      (either_way (n ∷ []) (n ∷ []) (eqb b 69) (some (to (emptying n (77 ∷ 80 ∷ 84 ∷ 89 ∷ [])))) (only_if_true (eqb b 40) (inside n)) (stays (emptying n (77 ∷ 80 ∷ 84 ∷ 89 ∷ []))) (only (n ∷ []) (n ∷ []) (eqb b 40) (inside n) (stays (inside n))))
  phase_leads p (emptying n []) b h = ended_leads n nothing_inside b h
  phase_leads p (emptying n (c ∷ rest)) b h = only (n ∷ []) (n ∷ []) (eqb b c) (emptying n rest) (stays (emptying n rest))
  phase_leads p (inside n) b h =
      either_way (n ∷ []) (n ∷ []) (blank b) (some (to (inside n))) (cond (eqb b 35) (some (to (hashing n (80 ∷ 67 ∷ 68 ∷ 65 ∷ 84 ∷ 65 ∷ [])))) (step_item p n fresh [] b)) (stays (inside n))
      (either_way (n ∷ []) (n ∷ []) (eqb b 35) (some (to (hashing n (80 ∷ 67 ∷ 68 ∷ 65 ∷ 84 ∷ 65 ∷ [])))) (step_item p n fresh [] b) (stays (hashing n (80 ∷ 67 ∷ 68 ∷ 65 ∷ 84 ∷ 65 ∷ []))) (item_leads p n fresh [] b))
  phase_leads p (hashing n []) b h = mixing_leads n [] b
  phase_leads p (hashing n (c ∷ rest)) b h = only (n ∷ []) (n ∷ []) (eqb b c) (hashing n rest) (stays (hashing n rest))
  phase_leads p (mixing n names) b h = same (mixing n names) (step_mixing n names b) (mixing_leads n names b)
  phase_leads p (barred n names) b h =
      same (barred n names) (step_phase p (barred n names) b)
      (either_way (n ∷ []) (n ∷ names) (blank b) (some (to (barred n names))) (only_if_true (name_first b) (mixed_name n names (b ∷ []))) (stays (barred n names)) (only (n ∷ []) (n ∷ names) (name_first b) (mixed_name n names (b ∷ [])) (stays (mixed_name n names (b ∷ [])))))
  phase_leads p (mixed_name n names m) b h =
      name_or n m names (name_byte b) (longer m (mixed_name n names) b) (step_mixing n (names ++ m ∷ []) b)
      (only (n ∷ []) (n ∷ names) (ltb (length m) longest_name) (mixed_name n names (m ++ b ∷ [])) (stays (mixed_name n names (m ++ b ∷ [])))) (mixing_leads n (names ++ m ∷ []) b)
  phase_leads p (mixed_closed n names) b h =
      same (mixed_closed n names) (step_phase p (mixed_closed n names) b)
      (either_way (n ∷ []) (n ∷ names) (eqb b 42) (some (to (ended n (mixed names)))) (unstarred n names b) (stays (ended n (mixed names))) (unstarred_leads n names b h))
  phase_leads p (wants n l ls) b h =
      same (wants n l ls) (step_phase p (wants n l ls) b) (either_way (n ∷ []) (n ∷ names_around (l ∷ ls)) (blank b) (some (to (wants n l ls))) (step_item p n l ls b) (stays (wants n l ls)) (item_leads p n l ls b))
  phase_leads p (in_name n m l ls) b h =
      name_or n m (names_around (l ∷ ls)) (name_byte b) (longer m (λ k. in_name n k l ls) b) (step_marking n (called m) l ls b)
      (only (n ∷ []) (n ∷ names_around (l ∷ ls)) (ltb (length m) longest_name) (in_name n (m ++ b ∷ []) l ls) (stays (in_name n (m ++ b ∷ []) l ls))) (marking_leads n (called m) l ls b)
  phase_leads p (marking n x l ls) b h = same (marking n x l ls) (step_marking n x l ls b) (marking_leads n x l ls b)
  phase_leads p (after n x l ls) b h = same (after n x l ls) (step_after n x l ls b) (after_leads n x l ls b)
  phase_leads p (group_closed n x) b h =
      same (group_closed n x) (step_phase p (group_closed n x) b)
      (mark_leads (n ∷ []) (n ∷ names_in x) x (λ y. ended n (children y)) (step_ended n (children x) b) b (stays (ended n (children (optional x)))) (stays (ended n (children (any_number x)))) (stays (ended n (children (at_least_one x)))) (ended_leads n (children x) b h))
  phase_leads p (ended n c) b h = same (ended n c) (step_ended n c b) (ended_leads n c b h)

behind : (p : ℕ) (q : Phase) (b : ℕ) (v : Move) → step_phase p q b ≡ some v → Names (finished_phase q) (declared_in q ++ names_ended (own_name q) b) (mentioned_in q ++ ending_at q b) v
behind p q b v e = subst (Leads (finished_phase q) (declared_in q ++ names_ended (own_name q) b) (mentioned_in q ++ ending_at q b)) e (phase_leads (finished_phase q) p q b refl)

pub names_grow : NamesGrow
names_grow p q b v e = let h = behind p q b v e in record { declared_are = h.declared_are; mentioned_are = h.mentioned_are }

pub over_as_finished : OverAsFinished
over_as_finished p q b d e = (behind p q b (over d) e).finished
