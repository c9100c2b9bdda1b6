-- The operations on the first two strings: each return, by how many strings there are.
-- Assumes nothing.
use mathlib.Core.Path.{◌≡◌, refl, sym, ◌∙◌, ap, subst}
use mathlib.Core.Bool.{Bool, true, false}
use mathlib.Core.List.{List, [], ◌∷◌, ◌++◌, append_assoc}
use Prim.Native.Nat.{ℕ, suc, ◌+◌, ◌-◌, ◌*◌, ◌≤◌, ◌<◌}
use native.Mathlib.Omega.{arith}
use lib.ListN.{length, take, drop, length-append}
use lib.Seq.{length-take-le, take_at}
use Rattle.lent.specs.Put.{PutAs}
use Rattle.lent.proofs.Laws.{put_all}
use Rattle.expressions.specs.Words.{Bracket, opening, closing}
use Rattle.parting.specs.Firsts.{Firsts, no_string, one_string, two_strings, either, each_changed, both, goes_round, when, each_opened, each_closed}
use Rattle.ways.specs.Held.{code_of, codes}
use Rattle.ways.proofs.Holds.{length_codes}
use Rattle.witness.specs.declared.Row.{Row}
use Rattle.witness.specs.declared.Pair.{Pair}
use Rattle.witness.specs.Held.{longest, StringIn, AreHeld, HoldsWithin, BracketIs, JoinedAs, WhenIs, OpenedAs, ClosedAs, EitherAs, BothAs, GoesRoundAs}

codes_append : (α β : List Bracket) → codes (α ++ β) ≡ codes α ++ codes β
codes_append [] β = refl
codes_append (c ∷ α) β = ap (λ (l : List ℕ). code_of c ∷ l) (codes_append α β)

-- whether there is an empty string
pub when_there : (there : Bool) (r : Pair) → there ≡ true → HoldsWithin 0 0 (one_string []) r → WhenIs there r
when_there there r t h = record { is = λ b e. subst (λ (z : Bool). HoldsWithin 0 0 (when z) r) (sym t ∙ e) h }

pub when_not : (there : Bool) (r : Pair) → there ≡ false → HoldsWithin 0 0 no_string r → WhenIs there r
when_not there r t h = record { is = λ b e. subst (λ (z : Bool). HoldsWithin 0 0 (when z) r) (sym t ∙ e) h }

-- one string and then another
module _ (a b : Row) where
  pub joined_long : longest < b.length → JoinedAs a b a
  joined_long h = record { long = λ room. absurd (omega arith); is = λ room α β x y. absurd (omega arith) }

  pub joined_over : longest - b.length < a.length → JoinedAs a b a
  joined_over h = record { long = λ room. absurd (omega arith); is = λ room α β x y. absurd (omega arith) }

  module _ (full : longest ≤ length a.bytes) (full' : longest ≤ length b.bytes) (short : b.length ≤ longest) (r : Row)
      (put : PutAs true a.bytes a.length (take b.length b.bytes) r.bytes r.length) where
    more : length (take b.length b.bytes) ≡ b.length
    more = length-take-le b.length b.bytes (omega (arith, short, full'))

    long_is : r.length ≡ a.length + b.length
    long_is = put.next ∙ ap (λ (n : ℕ). a.length + n) more

    spelt : a.length + b.length ≤ longest → (α β : List Bracket) → StringIn α a → StringIn β b → StringIn (α ++ β) r
    spelt room α β x y =
        let v = take b.length b.bytes in
        let u = take a.length a.bytes in
        let w = drop (a.length + length v) a.bytes in
        let all : r.bytes ≡ (u ++ v) ++ w = put.left ∙ put_all a.bytes a.length v (omega (arith, more, room, full)) in
        let size : length u ≡ a.length = length-take-le a.length a.bytes (omega (arith, room, full)) in
        let both_size : length (u ++ v) ≡ r.length = omega (arith, length-append u v, size, more, long_is) in
        record {
          length_is = omega (arith, long_is, x.length_is, y.length_is, length-append α β);
          bytes_are =
              ap (take r.length) all ∙ take_at (u ++ v) w r.length both_size ∙ ap (λ (l : List ℕ). l ++ v) x.bytes_are
              ∙ ap (λ (l : List ℕ). codes α ++ l) y.bytes_are ∙ sym (codes_append α β);
        }

    pub joined_put : JoinedAs a b r
    joined_put = record { long = λ room. long_is; is = spelt }

-- a bracket before each, or behind each
module _ (c : Row) (bracket : Bracket) (one : c.length ≡ 1) (spells : StringIn (bracket ∷ []) c) (f r : Pair) (same : r.count ≡ f.count) (a b : ℕ)
    (room : a + 1 ≤ longest) (room' : b + 1 ≤ longest) where
  module _ (j : JoinedAs c f.first r.first) (k : JoinedAs c f.second r.second) where
    before_each : (φ : Firsts) → HoldsWithin a b φ f → HoldsWithin (a + 1) (b + 1) (each_changed (λ α. bracket ∷ α) φ) r
    before_each φ h =
        let x : c.length + f.first.length ≤ longest = omega (arith, one, h.few, room) in
        let y : c.length + f.second.length ≤ longest = omega (arith, one, h.few_more, room') in
        record { few = omega (arith, j.long x, one, h.few); few_more = omega (arith, k.long y, one, h.few_more); held = go φ h.held x y }
      where
        go : (φ : Firsts) → AreHeld φ f → c.length + f.first.length ≤ longest → c.length + f.second.length ≤ longest → AreHeld (each_changed (λ α. bracket ∷ α) φ) r
        go no_string h x y = same ∙ h
        go (one_string α) h x y = (same ∙ h.0, j.is x (bracket ∷ []) α spells h.1)
        go (two_strings α β) h x y = (same ∙ h.0, j.is x (bracket ∷ []) α spells h.1, k.is y (bracket ∷ []) β spells h.2)

  module _ (j : JoinedAs f.first c r.first) (k : JoinedAs f.second c r.second) where
    behind_each : (φ : Firsts) → HoldsWithin a b φ f → HoldsWithin (a + 1) (b + 1) (each_changed (λ α. α ++ bracket ∷ []) φ) r
    behind_each φ h =
        let x : f.first.length + c.length ≤ longest = omega (arith, one, h.few, room) in
        let y : f.second.length + c.length ≤ longest = omega (arith, one, h.few_more, room') in
        record { few = omega (arith, j.long x, one, h.few); few_more = omega (arith, k.long y, one, h.few_more); held = go φ h.held x y }
      where
        go : (φ : Firsts) → AreHeld φ f → f.first.length + c.length ≤ longest → f.second.length + c.length ≤ longest → AreHeld (each_changed (λ α. α ++ bracket ∷ []) φ) r
        go no_string h x y = same ∙ h
        go (one_string α) h x y = (same ∙ h.0, j.is x α (bracket ∷ []) h.1 spells)
        go (two_strings α β) h x y = (same ∙ h.0, j.is x α (bracket ∷ []) h.1 spells, k.is y β (bracket ∷ []) h.2 spells)

pub opened_by : (i : ℕ) (f r : Pair) (c : Row) → BracketIs (2 * i) c → r.count ≡ f.count → JoinedAs c f.first r.first → JoinedAs c f.second r.second →
    OpenedAs i f r
opened_by i f r c h same j k =
    record { is = λ n e φ a b held room room'. before_each c (opening n) h.one (h.is (opening n) (omega (arith, e))) f r same a b room room' j k φ held }

pub closed_by : (i : ℕ) (f r : Pair) (c : Row) → BracketIs (2 * i + 1) c → r.count ≡ f.count → JoinedAs f.first c r.first → JoinedAs f.second c r.second →
    ClosedAs i f r
closed_by i f r c h same j k =
    record { is = λ n e φ a b held room room'. behind_each c (closing n) h.one (h.is (closing n) (omega (arith, e))) f r same a b room room' j k φ held }

-- the strings of f, then those of g
module _ (f g : Pair) where
  pub either_none : f.count ≡ 0 → EitherAs f g g
  either_none z = record { is = λ φ γ a b le h k. go φ γ a b h k }
    where
      go : (φ γ : Firsts) (a b : ℕ) → HoldsWithin a b φ f → HoldsWithin a b γ g → HoldsWithin a b (either φ γ) g
      go no_string γ a b h k = k
      go (one_string α) γ a b h k = absurd (omega (arith, z, h.held.0))
      go (two_strings α β) γ a b h k = absurd (omega (arith, z, h.held.0))

  pub either_two : 1 < f.count → EitherAs f g f
  either_two z = record { is = λ φ γ a b le h k. go φ γ a b h }
    where
      go : (φ γ : Firsts) (a b : ℕ) → HoldsWithin a b φ f → HoldsWithin a b (either φ γ) f
      go no_string γ a b h = absurd (omega (arith, z, h.held))
      go (one_string α) γ a b h = absurd (omega (arith, z, h.held.0))
      go (two_strings α β) γ a b h = h

  module _ (some : f.count ≡ 0 → ⊥) (few : f.count ≤ 1) where
    pub either_first : g.count ≡ 0 → EitherAs f g f
    either_first z = record { is = λ φ γ a b le h k. go φ γ a b h k }
      where
        go : (φ γ : Firsts) (a b : ℕ) → HoldsWithin a b φ f → HoldsWithin a b γ g → HoldsWithin a b (either φ γ) f
        go no_string γ a b h k = absurd (some h.held)
        go (one_string α) no_string a b h k = h
        go (one_string α) (one_string γ) a b h k = absurd (omega (arith, z, k.held.0))
        go (one_string α) (two_strings γ δ) a b h k = absurd (omega (arith, z, k.held.0))
        go (two_strings α β) γ a b h k = absurd (omega (arith, few, h.held.0))

    pub either_both : (g.count ≡ 0 → ⊥) → EitherAs f g (record { count = 2; first = f.first; second = g.first })
    either_both z = record { is = λ φ γ a b le h k. go φ γ a b le h k }
      where
        go : (φ γ : Firsts) (a b : ℕ) → a ≤ b → HoldsWithin a b φ f → HoldsWithin a b γ g → HoldsWithin a b (either φ γ) (record { count = 2; first = f.first; second = g.first })
        go no_string γ a b le h k = absurd (some h.held)
        go (one_string α) no_string a b le h k = absurd (z k.held)
        go (one_string α) (one_string γ) a b le h k = record { few = h.few; few_more = omega (arith, le, k.few); held = (refl, h.held.1, k.held.1) }
        go (one_string α) (two_strings γ δ) a b le h k = record { few = h.few; few_more = omega (arith, le, k.few); held = (refl, h.held.1, k.held.1) }
        go (two_strings α β) γ a b le h k = absurd (omega (arith, few, h.held.0))

-- a string of f and then one of g
module _ (f g : Pair) where
  nothing_left : (r : Pair) → HoldsWithin 0 0 no_string r → (φ γ : Firsts) (a b m : ℕ) → both φ γ ≡ no_string → HoldsWithin a m (both φ γ) r
  nothing_left r z φ γ a b m e =
      subst (λ (o : Firsts). HoldsWithin a m o r) (sym e) (record { few = omega (arith, z.few); few_more = omega (arith, z.few_more); held = z.held })

  pub both_no_first : (r : Pair) → HoldsWithin 0 0 no_string r → f.count ≡ 0 → BothAs f g r
  both_no_first r z n = record { is = λ φ γ a b c d m h k x y w room. nothing_left r z φ γ (a + c) b m (go φ γ h.held) }
    where
      go : (φ γ : Firsts) → AreHeld φ f → both φ γ ≡ no_string
      go no_string γ h = refl
      go (one_string α) γ h = absurd (omega (arith, n, h.0))
      go (two_strings α β) γ h = absurd (omega (arith, n, h.0))

  pub both_no_second : (r : Pair) → HoldsWithin 0 0 no_string r → g.count ≡ 0 → BothAs f g r
  both_no_second r z n = record { is = λ φ γ a b c d m h k x y w room. nothing_left r z φ γ (a + c) b m (go φ γ k.held) }
    where
      go : (φ γ : Firsts) → AreHeld γ g → both φ γ ≡ no_string
      go no_string γ k = refl
      go (one_string α) no_string k = refl
      go (two_strings α β) no_string k = refl
      go (one_string α) (one_string γ) k = absurd (omega (arith, n, k.0))
      go (one_string α) (two_strings γ δ) k = absurd (omega (arith, n, k.0))
      go (two_strings α β) (one_string γ) k = absurd (omega (arith, n, k.0))
      go (two_strings α β) (two_strings γ δ) k = absurd (omega (arith, n, k.0))

  module _ (some : f.count ≡ 0 → ⊥) (some' : g.count ≡ 0 → ⊥) (r : Pair) (j : JoinedAs f.first g.first r.first) where
    pub both_one : g.count ≡ 1 → r.count ≡ f.count → JoinedAs f.second g.first r.second → BothAs f g r
    both_one one same k = record { is = go }
      where
        go : (φ γ : Firsts) (a b c d m : ℕ) → HoldsWithin a b φ f → HoldsWithin c d γ g → a + c ≤ m → a + d ≤ m → b + c ≤ m → m ≤ longest → HoldsWithin (a + c) m (both φ γ) r
        go no_string γ a b c d m h l x y w room = absurd (some h.held)
        go (one_string α) no_string a b c d m h l x y w room = absurd (some' l.held)
        go (two_strings α β) no_string a b c d m h l x y w room = absurd (some' l.held)
        go (one_string α) (two_strings γ δ) a b c d m h l x y w room = absurd (omega (arith, one, l.held.0))
        go (two_strings α β) (two_strings γ δ) a b c d m h l x y w room = absurd (omega (arith, one, l.held.0))
        go (one_string α) (one_string γ) a b c d m h l x y w room =
            let u : f.first.length + g.first.length ≤ longest = omega (arith, h.few, l.few) in
            let v : f.second.length + g.first.length ≤ longest = omega (arith, h.few_more, l.few) in
            record {
              few = omega (arith, j.long u, h.few, l.few);
              few_more = omega (arith, k.long v, h.few_more, l.few);
              held = (same ∙ h.held.0, j.is u α γ h.held.1 l.held.1);
            }
        go (two_strings α β) (one_string γ) a b c d m h l x y w room =
            let u : f.first.length + g.first.length ≤ longest = omega (arith, h.few, l.few) in
            let v : f.second.length + g.first.length ≤ longest = omega (arith, h.few_more, l.few) in
            record {
              few = omega (arith, j.long u, h.few, l.few);
              few_more = omega (arith, k.long v, h.few_more, l.few);
              held = (same ∙ h.held.0, j.is u α γ h.held.1 l.held.1, k.is v β γ h.held.2 l.held.1);
            }

    pub both_two : (g.count ≡ 1 → ⊥) → r.count ≡ 2 → JoinedAs f.first g.second r.second → BothAs f g r
    both_two more same k = record { is = go }
      where
        go : (φ γ : Firsts) (a b c d m : ℕ) → HoldsWithin a b φ f → HoldsWithin c d γ g → a + c ≤ m → a + d ≤ m → b + c ≤ m → m ≤ longest → HoldsWithin (a + c) m (both φ γ) r
        go no_string γ a b c d m h l x y w room = absurd (some h.held)
        go (one_string α) no_string a b c d m h l x y w room = absurd (some' l.held)
        go (two_strings α β) no_string a b c d m h l x y w room = absurd (some' l.held)
        go (one_string α) (one_string γ) a b c d m h l x y w room = absurd (more l.held.0)
        go (two_strings α β) (one_string γ) a b c d m h l x y w room = absurd (more l.held.0)
        go (one_string α) (two_strings γ δ) a b c d m h l x y w room =
            let u : f.first.length + g.first.length ≤ longest = omega (arith, h.few, l.few) in
            let v : f.first.length + g.second.length ≤ longest = omega (arith, h.few, l.few_more) in
            record {
              few = omega (arith, j.long u, h.few, l.few);
              few_more = omega (arith, k.long v, h.few, l.few_more);
              held = (same, j.is u α γ h.held.1 l.held.1, k.is v α δ h.held.1 l.held.2);
            }
        go (two_strings α β) (two_strings γ δ) a b c d m h l x y w room =
            let u : f.first.length + g.first.length ≤ longest = omega (arith, h.few, l.few) in
            let v : f.first.length + g.second.length ≤ longest = omega (arith, h.few, l.few_more) in
            record {
              few = omega (arith, j.long u, h.few, l.few);
              few_more = omega (arith, k.long v, h.few, l.few_more);
              held = (same, j.is u α γ h.held.1 l.held.1, k.is v α δ h.held.1 l.held.2);
            }

-- turns of f, and then a string of g
module _ (f g : Pair) where
  wider : (c d m : ℕ) (φ : Firsts) → d ≤ m → HoldsWithin c d φ g → HoldsWithin c m φ g
  wider c d m φ x h = record { few = h.few; few_more = omega (arith, h.few_more, x); held = h.held }

  pub turned_none : f.count ≡ 0 → GoesRoundAs f g g
  turned_none n = record { is = go }
    where
      go : (φ γ : Firsts) (a b c d m : ℕ) → HoldsWithin a b φ f → HoldsWithin c d γ g → a + c ≤ m → d ≤ m → m ≤ longest → HoldsWithin c m (goes_round φ γ) g
      go no_string γ a b c d m h k x y room = wider c d m γ y k
      go (one_string α) γ a b c d m h k x y room = absurd (omega (arith, n, h.held.0))
      go (two_strings α β) γ a b c d m h k x y room = absurd (omega (arith, n, h.held.0))

  pub turned_same : (g.count ≡ 1 → ⊥) → GoesRoundAs f g g
  turned_same n = record { is = go }
    where
      go : (φ γ : Firsts) (a b c d m : ℕ) → HoldsWithin a b φ f → HoldsWithin c d γ g → a + c ≤ m → d ≤ m → m ≤ longest → HoldsWithin c m (goes_round φ γ) g
      go no_string γ a b c d m h k x y room = wider c d m γ y k
      go (one_string α) no_string a b c d m h k x y room = wider c d m no_string y k
      go (one_string α) (one_string γ) a b c d m h k x y room = absurd (n k.held.0)
      go (one_string α) (two_strings γ δ) a b c d m h k x y room = wider c d m (two_strings γ δ) y k
      go (two_strings α β) no_string a b c d m h k x y room = wider c d m no_string y k
      go (two_strings α β) (one_string γ) a b c d m h k x y room = absurd (n k.held.0)
      go (two_strings α β) (two_strings γ δ) a b c d m h k x y room = wider c d m (two_strings γ δ) y k

  pub turned_again : (f.count ≡ 0 → ⊥) → g.count ≡ 1 → (again : Row) → JoinedAs f.first g.first again →
      GoesRoundAs f g (record { count = 2; first = g.first; second = again })
  turned_again some one again j = record { is = go }
    where
      go : (φ γ : Firsts) (a b c d m : ℕ) → HoldsWithin a b φ f → HoldsWithin c d γ g → a + c ≤ m → d ≤ m → m ≤ longest →
          HoldsWithin c m (goes_round φ γ) (record { count = 2; first = g.first; second = again })
      go no_string γ a b c d m h k x y room = absurd (some h.held)
      go (one_string α) no_string a b c d m h k x y room = absurd (omega (arith, one, k.held))
      go (two_strings α β) no_string a b c d m h k x y room = absurd (omega (arith, one, k.held))
      go (one_string α) (two_strings γ δ) a b c d m h k x y room = absurd (omega (arith, one, k.held.0))
      go (two_strings α β) (two_strings γ δ) a b c d m h k x y room = absurd (omega (arith, one, k.held.0))
      go (one_string α) (one_string γ) a b c d m h k x y room =
          let u : f.first.length + g.first.length ≤ longest = omega (arith, h.few, k.few) in
          record { few = k.few; few_more = omega (arith, j.long u, h.few, k.few); held = (refl, k.held.1, j.is u α γ h.held.1 k.held.1) }
      go (two_strings α β) (one_string γ) a b c d m h k x y room =
          let u : f.first.length + g.first.length ≤ longest = omega (arith, h.few, k.few) in
          record { few = k.few; few_more = omega (arith, j.long u, h.few, k.few); held = (refl, k.held.1, j.is u α γ h.held.1 k.held.1) }
