-- The faults of two sheets that are the same by name. Assumes nothing.
use mathlib.Core.Path.{◌≡◌, refl, sym, ◌∙◌, ap, subst}
use mathlib.Core.Bool.{Bool, true, false, ◌||◌}
use mathlib.Core.List.{List, [], ◌∷◌, ◌++◌}
use mathlib.Core.Option.{Option, none, some}
use Prim.Native.Nat.{ℕ, zero, suc, ◌<◌}
use native.Mathlib.Omega.{arith}
use lib.Dec.{eqb}
use lib.ListN.{length}
use borrow.Author.Tests.{eqb-true}
use Rattle.expressions.specs.Expr.{Atom, nonterminal, anychar, Content}
use Rattle.expressions.specs.Words.{Sym, Bracket}
use Rattle.expressions.specs.Grammar.{Production, Nth, tags_of, only_if, Next, tag, character, end, byte_of, memb, can_be}
use Rattle.expressions.specs.Fault.{Leads, GoesOn, Fault}
use Rattle.expressions.specs.FaultList.{Has, TFault, SFault, KeepsT, KeepsS, FaultNumber, passes, t_fault, s_faults}
use Rattle.sheet.specs.Sheet.{Rule, Sheet, grammar_of}
use Rattle.runs.specs.Execute.{name_of}
use Rattle.runs.specs.Lookup.{tag_of}
use Rattle.runs.specs.Visits.{grammar}
use Rattle.runs.specs.Machine.{same_tag}
use Rattle.calls.specs.Names.{tag_named}
use Rattle.packing.specs.Packs.{Packs}
use Rattle.naming.specs.ByName.{SameByName}
use Rattle.renaming.specs.SameFaults.{EntryAlike, shared_tag, before_tag, before_character, before_end, FaultsToo, SameFaults, SameFaultNumber}
use Rattle.renaming.proofs.Programs.{tag_same}
use Rattle.renaming.proofs.Tags.{NamesDiffer, named_hit, Alike, TagsThere, names_alike, can_alike}
use Rattle.renaming.proofs.Ways.{can_character}
use Rattle.renaming.proofs.Moves.{grammar_long}
use Rattle.renaming.proofs.Calls.{names_differ, tags_there, turned_round}

same_some : (o : Option ℕ) (t : ℕ) → same_tag o t ≡ true → o ≡ some t
same_some none t h = absurd (let z : ◌≡◌ {A = ℕ} 0 1 = cc in omega arith)
same_some (some v) t h = ap some (eqb-true v t h)

tag_below : (n : ℕ) (xs : List Rule) → TagsThere n xs → (q : ℕ) → q < length (grammar_of xs) → tag_of (grammar_of xs) q < n
tag_below n [] h q l = absurd (omega arith)
tag_below n (x ∷ xs) h zero l = h.0
tag_below n (x ∷ xs) h (suc q) l = tag_below n xs h.1 q (omega arith)

-- a tag of a nonterminal is that of a production
tag_of_one : (g : List Production) (n t : ℕ) → memb t (tags_of g n) ≡ true → (q : ℕ) × (q < length g) × (tag_of g q ≡ t)
tag_of_one [] n t e = absurd (let z : ◌≡◌ {A = ℕ} 0 1 = cc in omega arith)
tag_of_one (d ∷ g) n t e = on (eqb n d.nonterm) (λ f. tag_of_one g n t f) e
  where
    later : (q : ℕ) × (q < length g) × (tag_of g q ≡ t) → (q : ℕ) × (q < suc (length g)) × (tag_of (d ∷ g) q ≡ t)
    later (q, l, i) = (suc q, omega (arith, l), i)

    first : (b : Bool) → eqb t d.tagno ≡ b → (memb t (tags_of g n) ≡ true → (q : ℕ) × (q < length g) × (tag_of g q ≡ t)) → b || memb t (tags_of g n) ≡ true → (q : ℕ) × (q < suc (length g)) × (tag_of (d ∷ g) q ≡ t)
    first true i ih h = (0, omega arith, sym (eqb-true t d.tagno i))
    first false i ih h = later (ih h)

    on : (b : Bool) → (memb t (tags_of g n) ≡ true → (q : ℕ) × (q < length g) × (tag_of g q ≡ t)) → memb t (only_if b d.tagno ++ tags_of g n) ≡ true → (q : ℕ) × (q < suc (length g)) × (tag_of (d ∷ g) q ≡ t)
    on true ih h = first (eqb t d.tagno) refl ih h
    on false ih h = later (ih h)

-- the production of the same number
record There (g h : List Production) (q : ℕ) (d : Production) : Type 0 where
  it : Production
  is : Nth h q it
  inside : q < length g
  same_nonterm : d.nonterm ≡ it.nonterm
  same_content : d.content ≡ it.content
  own_tag : tag_of g q ≡ d.tagno
  its_tag : tag_of h q ≡ it.tagno

there : (x y : Option ℕ) (g h : List Production) → Alike x y g h → (q : ℕ) (d : Production) → Nth g q d → There g h q d
there x y [] h a q d n = absurd n
there x y (e ∷ g) [] a q d n = absurd a
there x y (e ∷ g) (f ∷ h) a zero d n = record {
  it = f;
  is = refl;
  inside = omega arith;
  same_nonterm = ap (λ z. z.nonterm) n ∙ a.0;
  same_content = ap (λ z. z.content) n ∙ a.1;
  own_tag = sym (ap (λ z. z.tagno) n);
  its_tag = refl;
}
there x y (e ∷ g) (f ∷ h) a (suc q) d n =
    let t = there x y g h a.3 q d n in
    record { it = t.it; is = t.is; inside = omega (arith, t.inside); same_nonterm = t.same_nonterm; same_content = t.same_content; own_tag = t.own_tag; its_tag = t.its_tag }

-- a fault before a symbol that the same atoms can be
module _ (f g : ℕ → List ℕ) (x y : Next) (same : (k : Atom) → can_be f k x ≡ can_be g k y) where
  pub leads_too : (e : Content) (u : List Sym) (α : List Bracket) → Leads f e u x α → Leads g e u y α
  leads_too e u α (j, k, v, c, w) = (j, k, v, sym (same k) ∙ c, w)

tag_fault : (f g : ℕ → List ℕ) (t u : ℕ) → ((k : Atom) → can_be f k (tag t) ≡ can_be g k (tag u)) → (e : Content) (p : ℕ) → Fault f e p (tag t) → Fault g e p (tag u)
tag_fault f g t u same e p h = record {
  agreed = h.agreed;
  up_to = h.up_to;
  first_string = h.first_string;
  second_string = h.second_string;
  different = h.different;
  first_goes = leads_too f g (tag t) (tag u) same e h.agreed h.first_string h.first_goes;
  second_goes = leads_too f g (tag t) (tag u) same e h.agreed h.second_string h.second_goes;
}

character_fault : (f g : ℕ → List ℕ) (e : Content) (p : ℕ) → Fault f e p character → Fault g e p character
character_fault f g e p h = record {
  agreed = h.agreed;
  up_to = h.up_to;
  first_string = h.first_string;
  second_string = h.second_string;
  different = h.different;
  first_goes = leads_too f g character character (can_character f g) e h.agreed h.first_string h.first_goes;
  second_goes = leads_too f g character character (can_character f g) e h.agreed h.second_string h.second_goes;
}

end_fault : (f g : ℕ → List ℕ) (e : Content) (p : ℕ) → Fault f e p end → Fault g e p end
end_fault f g e p h =
    record { agreed = h.agreed; up_to = h.up_to; first_string = h.first_string; second_string = h.second_string; different = h.different; first_goes = h.first_goes; second_goes = h.second_goes }

module _ (a b : Sheet) (s : SameByName a b) (differ : NamesDiffer a.names) (differ' : NamesDiffer b.names) (tags : TagsThere (length a.names) a.rules) (tags' : TagsThere (length b.names) b.rules) where
  alike : (n : List ℕ) → Alike (tag_named a.names n) (tag_named b.names n) (grammar a) (grammar b)
  alike n = names_alike a b differ differ' n a.rules b.rules s.rules.productions tags tags' s.first_is.rules_are s.second_is.rules_are

  as_many : length (grammar a) ≡ length (grammar b)
  as_many = long (tag_named a.names []) (tag_named b.names []) (grammar a) (grammar b) (alike [])
    where
      long : (x y : Option ℕ) (g h : List Production) → Alike x y g h → length g ≡ length h
      long x y [] [] i = refl
      long x y [] (e ∷ h) i = absurd i
      long x y (d ∷ g) [] i = absurd i
      long x y (d ∷ g) (e ∷ h) i = ap suc (long x y g h i.3)

  -- the tag of production q
  name_same : (q : ℕ) → q < length (grammar a) → name_of a.names (tag_of (grammar a) q) ≡ name_of b.names (tag_of (grammar b) q)
  name_same q l = tag_same a b s q (omega (arith, l, grammar_long a.rules))

  tag_alike : (q : ℕ) → q < length (grammar a) → Alike (some (tag_of (grammar a) q)) (some (tag_of (grammar b) q)) (grammar a) (grammar b)
  tag_alike q l =
      let t = tag_of (grammar a) q in
      let u = tag_of (grammar b) q in
      let n = name_of a.names t in
      let i = same_some (tag_named a.names n) t (named_hit a.names differ n t (tag_below (length a.names) a.rules tags q l) (tag_named a.names n) refl refl) in
      let j = same_some (tag_named b.names n) u (named_hit b.names differ' n u (tag_below (length b.names) b.rules tags' q (omega (arith, l, as_many))) (tag_named b.names n) refl (sym (name_same q l))) in
      subst (λ x. Alike x (some u) (grammar a) (grammar b)) i (subst (λ y. Alike (tag_named a.names n) y (grammar a) (grammar b)) j (alike n))

  atom_tag : (k : Atom) (t : ℕ) → can_be (tags_of (grammar a)) k (tag t) ≡ true → (q : ℕ) × (q < length (grammar a)) × (tag_of (grammar a) q ≡ t)
  atom_tag (nonterminal n) t e = tag_of_one (grammar a) n t e
  atom_tag anychar t e = absurd (let z : ◌≡◌ {A = ℕ} 0 1 = cc in omega arith)

  s_too : (number place : ℕ) (d : Production) (x : Next) → Nth (grammar a) number d → Fault (tags_of (grammar a)) d.content place x
      → (c : List ℕ) × EntryAlike a b (9 ∷ number ∷ place ∷ byte_of x ∷ []) c × SFault (grammar b) c
  s_too number place d (tag t) n f =
      let r = there (tag_named a.names []) (tag_named b.names []) (grammar a) (grammar b) (alike []) number d n in
      let o = atom_tag f.first_goes.1 t f.first_goes.3 in
      let u = tag_of (grammar b) o.0 in
      let same = can_alike (some (tag_of (grammar a) o.0)) (some u) (grammar a) (grammar b) (tag_alike o.0 o.1) in
      let g = tag_fault (tags_of (grammar a)) (tags_of (grammar b)) t u (subst (λ z. (k : Atom) → can_be (tags_of (grammar a)) k (tag z) ≡ can_be (tags_of (grammar b)) k (tag u)) o.2 same) d.content place f in (
        9 ∷ number ∷ place ∷ u ∷ [],
        before_tag number place t u (subst (λ z. z < length a.names) o.2 (tag_below (length a.names) a.rules tags o.0 o.1)) (tag_below (length b.names) b.rules tags' o.0 (omega (arith, o.1, as_many))) (subst (λ z. name_of a.names z ≡ name_of b.names u) o.2 (name_same o.0 o.1)),
        record { number = number; production = r.it; place = place; next = tag u; is_production = r.is; fault = subst (λ c. Fault (tags_of (grammar b)) c place (tag u)) r.same_content g; are_bytes = refl },
      )
  s_too number place d character n f =
      let r = there (tag_named a.names []) (tag_named b.names []) (grammar a) (grammar b) (alike []) number d n in (
        9 ∷ number ∷ place ∷ byte_of character ∷ [],
        before_character number place,
        record {
          number = number;
          production = r.it;
          place = place;
          next = character;
          is_production = r.is;
          fault = subst (λ c. Fault (tags_of (grammar b)) c place character) r.same_content (character_fault (tags_of (grammar a)) (tags_of (grammar b)) d.content place f);
          are_bytes = refl;
        },
      )
  s_too number place d end n f =
      let r = there (tag_named a.names []) (tag_named b.names []) (grammar a) (grammar b) (alike []) number d n in (
        9 ∷ number ∷ place ∷ byte_of end ∷ [],
        before_end number place,
        record {
          number = number;
          production = r.it;
          place = place;
          next = end;
          is_production = r.is;
          fault = subst (λ c. Fault (tags_of (grammar b)) c place end) r.same_content (end_fault (tags_of (grammar a)) (tags_of (grammar b)) d.content place f);
          are_bytes = refl;
        },
      )

  t_too : (bytes : List ℕ) → TFault (grammar a) bytes → (c : List ℕ) × EntryAlike a b bytes c × TFault (grammar b) c
  t_too bytes f =
      let x = f.first_has in
      let y = f.second_has in
      let p = there (tag_named a.names []) (tag_named b.names []) (grammar a) (grammar b) (alike []) f.first x.production x.is_production in
      let q = there (tag_named a.names []) (tag_named b.names []) (grammar a) (grammar b) (alike []) f.second y.production y.is_production in
      let t = f.tagno in
      let u = tag_of (grammar b) f.first in
      let i : tag_of (grammar a) f.first ≡ t = p.own_tag ∙ x.its_tag in
      let j : tag_of (grammar a) f.second ≡ t = q.own_tag ∙ y.its_tag in
      let n : name_of a.names t ≡ name_of b.names u = subst (λ z. name_of a.names z ≡ name_of b.names u) i (name_same f.first p.inside) in
      let m : name_of b.names (tag_of (grammar b) f.second) ≡ name_of b.names u = sym (name_same f.second q.inside) ∙ ap (name_of a.names) j ∙ n in
      let same : tag_of (grammar b) f.second ≡ u = differ' (tag_of (grammar b) f.second) u (tag_below (length b.names) b.rules tags' f.second (omega (arith, q.inside, as_many))) (tag_below (length b.names) b.rules tags' f.first (omega (arith, p.inside, as_many))) m in (
        8 ∷ f.nonterm ∷ u ∷ 0 ∷ [],
        subst (λ z. EntryAlike a b z (8 ∷ f.nonterm ∷ u ∷ 0 ∷ [])) (sym f.are_bytes) (shared_tag f.nonterm t u (subst (λ z. z < length a.names) i (tag_below (length a.names) a.rules tags f.first p.inside)) (tag_below (length b.names) b.rules tags' f.first (omega (arith, p.inside, as_many))) n),
        record {
          nonterm = f.nonterm;
          tagno = u;
          first = f.first;
          second = f.second;
          two = f.two;
          first_has = record { production = p.it; is_production = p.is; its_nonterminal = sym p.same_nonterm ∙ x.its_nonterminal; its_tag = sym p.its_tag };
          second_has = record { production = q.it; is_production = q.is; its_nonterminal = sym q.same_nonterm ∙ y.its_nonterminal; its_tag = sym q.its_tag ∙ same };
          are_bytes = refl;
        },
      )

  faults_too : FaultsToo a b
  faults_too = record {
    of_T = t_too;
    of_S = λ bytes f. subst (λ z. (c : List ℕ) × EntryAlike a b z c × SFault (grammar b) c) (sym f.are_bytes) (s_too f.number f.place f.production f.next f.is_production f.fault);
  }

pub same_faults : SameFaults
same_faults s s' a b p q m = faults_too a b m (names_differ s a p) (names_differ s' b q) (tags_there s a p) (tags_there s' b q)

number_too : (a b : Sheet) → FaultsToo a b → FaultsToo b a → (n : ℕ) → FaultNumber (grammar a) n → FaultNumber (grammar b) n
number_too a b f g n (passes t u) = passes (λ c x. let y = g.of_T c x in t y.0 y.2) (λ c x. let y = g.of_S c x in u y.0 y.2)
number_too a b f g n (t_fault {b = c} x) = let y = f.of_T c x in t_fault {b = y.0} y.2
number_too a b f g n (s_faults {b = c} t x) = let y = f.of_S c x in s_faults {b = y.0} (λ d z. let w = g.of_T d z in t w.0 w.2) y.2

pub same_number : SameFaultNumber
same_number s s' a b p q m n =
    let f = same_faults s s' a b p q m in
    let g = same_faults s' s b a q p (turned_round a b m) in
    (number_too a b f g n, number_too b a g f n)
