-- Laws of the passes. A part that is gathered over a range is put by what is left of it: putting the rest now leaves what putting the
-- whole part would have left (Left: begun, a step, done). Parts that follow each other join. Assumes nothing.
use mathlib.Core.Path.{◌≡◌, refl, sym, ap, subst, ◌∙◌}
use mathlib.Core.Bool.{Bool, true, false, true≢false, not, cond}
use mathlib.Core.List.{List, [], ◌∷◌, ◌++◌}
use Prim.Native.Nat.{ℕ, suc, ◌+◌, ◌-◌, ◌*◌, ◌≤◌, ◌<◌}
use native.Mathlib.Nat.{add-zero, zero-add, mul-suc}
use native.Mathlib.Omega.{arith}
use native.Mathlib.Numerals.{add-one}
use lib.Dec.{leb, ltb}
use lib.ListN.{length, get_or, length-append}
use borrow.Author.Tests.{le-leb, lt-leb, lt-ltb, ltb-true, ltb-false, not-false}
use Rattle.limits.specs.Limits.{most_tags}
use Rattle.expressions.specs.Grammar.{Production, nonterminals, content_of, only_if, tags_of, tag, character}
use Rattle.expressions.specs.Expr.{places, atoms_of}
use Rattle.expressions.specs.Count.{Count, none, one, many}
use Rattle.expressions.specs.Decide.{to_atom, count}
use Rattle.expressions.specs.FaultList.{list_bytes}
use Rattle.expressions.specs.Listed.{gather, alike, is_many, s_faults_of, s_faults_from}
use Rattle.expressions.proofs.Room.{bytes_append}
use Rattle.lent.specs.Put.{put, PutAs}
use Rattle.lent.proofs.Laws.{put_append, put_none, nothing_put}
use Rattle.layout.specs.Layout.{production_count}
use Rattle.layout.specs.LaidOut.{LaidOut}
use Rattle.layout.specs.declared.Layout.{Layout}
use Rattle.trees.specs.GrammarAt.{GrammarIs}
use Rattle.trees.specs.Answers.{AtomsIs}
use Rattle.trees.specs.Sums.{cell_of, AllAlike, sum_cells, Zeros, raised, symbol_of, CountedFrom}
use Rattle.trees.specs.declared.Number.{Number}
use Rattle.trees.proofs.Grammars.{length_grammar, nth_there, content_nth, alike_there}
use Rattle.faults.specs.Part.{SumsAre, PartPut}

-- an entry that is put where there is a fault, else nothing; and a part that is such an entry
module _ {write : Bool} {lent : List ℕ} {at : ℕ} where
  pub no_entry : (fault : Bool) (entry : List ℕ) → not fault ≡ true → PutAs write lent at (list_bytes (only_if fault entry)) lent at
  no_entry true entry h = absurd (true≢false (sym h))
  no_entry false entry h = nothing_put write lent at

  module _ {after : List ℕ} {r : ℕ} (a b c d : ℕ) (fault : Bool) where
    pub an_entry : not fault ≡ false → PutAs write lent at (a ∷ b ∷ c ∷ d ∷ []) after r → PutAs write lent at (list_bytes (only_if fault (a ∷ b ∷ c ∷ d ∷ []))) after r
    an_entry h p = let e : true ≡ fault = sym (not-false fault h) in subst (λ (z : Bool). PutAs write lent at (list_bytes (only_if z (a ∷ b ∷ c ∷ d ∷ []))) after r) e p

    pub entry_put : {s : List ℕ} (test : List Production → Bool) → ((g : List Production) → GrammarIs s g → fault ≡ test g) →
        (PutAs write lent at (list_bytes (only_if fault (a ∷ b ∷ c ∷ d ∷ []))) after r) × (r ≤ at + 4) → PartPut s (λ g. only_if (test g) (a ∷ b ∷ c ∷ d ∷ [])) 4 write lent at after r
    entry_put test h p = record {
      low = omega (arith, p.0.next);
      high = p.1;
      is = λ g i. subst (λ (z : Bool). PutAs write lent at (list_bytes (only_if z (a ∷ b ∷ c ∷ d ∷ []))) after r) (h g i) p.0;
    }

-- putting goes on where it stopped
pub put_join_lem : {write : Bool} {lent mid after xs ys : List ℕ} {at n r : ℕ} → PutAs write lent at xs mid n → PutAs write mid n ys after r → PutAs write lent at (xs ++ ys) after r
put_join_lem {write} {lent} {mid} {after} {xs} {ys} {at} {n} {r} a b = record {
  next = omega (arith, a.next, b.next, length-append xs ys);
  left = b.left ∙ (rw (a.next, a.left) (put_append write lent at xs ys));
}

module _ {s : List ℕ} {write : Bool} {lent mid after : List ℕ} {at n r i j : ℕ} where
  pub join : (f h : List Production → List (List ℕ)) → PartPut s f i write lent at mid n → PartPut s h j write mid n after r → PartPut s (λ g. f g ++ h g) (i + j) write lent at after r
  join f h a b = record {
    low = omega (arith, a.low, b.low);
    high = omega (arith, a.high, b.high);
    is = λ g k. subst (λ (z : List ℕ). PutAs write lent at z after r) (sym (bytes_append (f g) (h g))) (put_join_lem (a.is g k) (b.is g k));
  }

-- of a part, what f gathers from i on, k times, is left to put from n on
pub record Left (s : List ℕ) (part : List Production → List (List ℕ)) (f : List Production → ℕ → List (List ℕ)) (i k : ℕ) (write : Bool) (lent : List ℕ) (at : ℕ) (mid : List ℕ) (n : ℕ) : Type 0 where
  pub same : (g : List Production) → GrammarIs s g → put write mid n (list_bytes (gather i k (f g))) ≡ put write lent at (list_bytes (part g))
  pub long : (g : List Production) → GrammarIs s g → n + length (list_bytes (gather i k (f g))) ≡ at + length (list_bytes (part g))

module _ {s : List ℕ} {part : List Production → List (List ℕ)} {f : List Production → ℕ → List (List ℕ)} {write : Bool} {lent : List ℕ} {at : ℕ} where
  pub begun : (k : ℕ) → ((g : List Production) → GrammarIs s g → part g ≡ gather 0 k (f g)) → Left s part f 0 k write lent at lent at
  begun k e = record {
    same = λ g h. ap (λ (z : List (List ℕ)). put write lent at (list_bytes z)) (sym (e g h));
    long = λ g h. ap (λ (z : List (List ℕ)). at + length (list_bytes z)) (sym (e g h));
  }

  stepped : {i k n r room : ℕ} {mid after : List ℕ} → Left s part f i (suc k) write lent at mid n → PartPut s (λ g. f g i) room write mid n after r → Left s part f (suc i) k write lent at after r
  stepped {i} {k} {n} {r} {room} {mid} {after} l p = record {
    same = λ g h. rw ((p.is g h).next, (p.is g h).left) (put_append write mid n (list_bytes (f g i)) (list_bytes (gather (suc i) k (f g))) ∙ rw (sym (bytes_append (f g i) (gather (suc i) k (f g)))) (l.same g h));
    long = λ g h. omega (arith, (p.is g h).next, l.long g h, ap length (bytes_append (f g i) (gather (suc i) k (f g))), length-append (list_bytes (f g i)) (list_bytes (gather (suc i) k (f g))));
  }

  pub step : (k i : ℕ) {n r room : ℕ} {mid after : List ℕ} → i < k → Left s part f i (k - i) write lent at mid n → PartPut s (λ g. f g i) room write mid n after r → Left s part f (i + 1) (k - (i + 1)) write lent at after r
  step k i h l p =
      let e : k - i ≡ suc (k - suc i) = omega arith in
      rw add-one (stepped (rw e at l) p)

  pub done : (k i : ℕ) {n : ℕ} {mid : List ℕ} → k ≤ i → Left s part f i (k - i) write lent at mid n → (g : List Production) → GrammarIs s g → PutAs write lent at (list_bytes (part g)) mid n
  done k i {n} {mid} h l g j =
      let e : k - i ≡ 0 = omega arith in
      let same : put write mid n [] ≡ put write lent at (list_bytes (part g)) = rw e at (l.same g j) in
      let long : n + 0 ≡ at + length (list_bytes (part g)) = rw e at (l.long g j) in
      record { next = omega (arith, long); left = sym (put_none write mid n) ∙ same }

-- a loop's invariant: i of k turns are done, each put at most `unit` bytes, the list is as long as lent, and the rest is left
abbrev pub Loop : (s : List ℕ) (part : List Production → List (List ℕ)) (f : List Production → ℕ → List (List ℕ)) (k unit : ℕ) (write : Bool) (lent : List ℕ) (at : ℕ) (mid : List ℕ) (n i : ℕ) → Type 0
Loop s part f k unit write lent at mid n i = (i ≤ k) × (at ≤ n) × (n ≤ at + unit * i) × (length mid ≡ length lent) × Left s part f i (k - i) write lent at mid n

module _ {s : List ℕ} {part : List Production → List (List ℕ)} {f : List Production → ℕ → List (List ℕ)} {write : Bool} {lent : List ℕ} {at : ℕ} where
  pub loop_begun : (k unit : ℕ) → ((g : List Production) → GrammarIs s g → part g ≡ gather 0 k (f g)) → Loop s part f k unit write lent at lent at 0
  loop_begun k unit e = let z : k - 0 ≡ k = omega arith in (omega arith, omega arith, omega arith, refl, rw z (begun k e))

  pub loop_on : (k unit i : ℕ) {n r : ℕ} {mid after : List ℕ} → i < k → Loop s part f k unit write lent at mid n i → PartPut s (λ g. f g i) unit write mid n after r → length after ≡ length mid →
      Loop s part f k unit write lent at after r (i + 1)
  loop_on k unit i h v p e =
      let m : unit * (i + 1) ≡ unit * i + unit = rw (add-one, mul-suc) (omega arith) in
      (omega arith, omega (arith, p.low, v.1), omega (arith, p.high, v.2, m), e ∙ v.3, step k i h v.4 p)

  pub loop_done : (k unit i room : ℕ) {n : ℕ} {mid : List ℕ} → k ≤ i → unit * i ≤ room → Loop s part f k unit write lent at mid n i → PartPut s part room write lent at mid n
  loop_done k unit i room h u v = record { low = v.1; high = omega (arith, v.2, u); is = done k i h v.4 }

-- what a cell tells of productions alike, and a sum of bracket strings
two_told : (k : ℕ) (b : Bool) → ltb 1 k ≡ b → b ≡ leb 2 k
two_told k true e = sym (le-leb 2 k (ltb-true 1 k e))
two_told k false e = sym (lt-leb 2 k (omega (arith, ltb-false 1 k e)))

pub alike_told : {s known : List ℕ} {m t : ℕ} → AllAlike s known → m < nonterminals → t < most_tags → (g : List Production) → GrammarIs s g → ltb 1 (get_or known (cell_of m t) 0) ≡ leb 2 (alike g m t)
alike_told {s} {known} {m} {t} all a b g i =
    ap (ltb 1) (all.is m t (omega arith) (omega arith) ∙ alike_there s m t g i) ∙ two_told (alike g m t) (ltb 1 (alike g m t)) refl

many_told : (n : Count) → ltb 1 (raised 0 n) ≡ is_many n
many_told none = refl
many_told one = refl
many_told many = refl

module _ {s : List ℕ} {q p : ℕ} {sums : List ℕ} (are : SumsAre s q p sums) (g : List Production) (i : GrammarIs s g) where
  pub tag_told : {t : ℕ} → t < most_tags → ltb 1 (get_or sums t 0) ≡ is_many (count (tags_of g) (content_of g q) p (tag t))
  tag_told {t} b =
      ap (ltb 1) (are.is g i t (omega arith) ∙ ap (λ (z : Bool). raised 0 (to_atom (tags_of g) (content_of g q) p (cond z (tag t) character))) (lt-ltb t most_tags b))
      ∙ many_told (to_atom (tags_of g) (content_of g q) p (tag t))

  pub character_told : ltb 1 (get_or sums most_tags 0) ≡ is_many (count (tags_of g) (content_of g q) p character)
  character_told = ap (ltb 1) (are.is g i most_tags (omega arith)) ∙ many_told (to_atom (tags_of g) (content_of g q) p character)

-- sums that were lent as zeros
pub counted_sums : {s : List ℕ} {q p : ℕ} {before after : List ℕ} {r : Number} → CountedFrom s q p before after r → Zeros before → length after ≡ sum_cells → SumsAre s q p after
counted_sums {s} {q} {p} {before} c z l = record {
  long = l;
  is = λ g i k b. (c.sums_are g i).each k b ∙ ap (λ (n : ℕ). raised n (to_atom (tags_of g) (content_of g q) p (symbol_of k))) (z.each k);
}

-- the productions by number
pub there : {s : List ℕ} {l : Layout} {q : ℕ} → LaidOut s l → q < l.productions → q < production_count s
there d h = omega (arith, d.layout_is.productions_is.is)

module _ {s : List ℕ} {q : ℕ} (there : q < production_count s) where
  pub places_in : {r : ℕ} → AtomsIs s q r → (g : List Production) → GrammarIs s g → places (content_of g q) ≡ r + 1
  places_in a g h =
      let d = nth_there s g h q there in
      let e : atoms_of (content_of g q) ≡ atoms_of d.0.content = ap atoms_of (content_nth g q d.0 d.1) in
      omega (arith, e, a.is g h d.0 d.1)

-- the S faults are gathered over the productions' numbers
s_from : (n : ℕ) (tags : ℕ → List ℕ) (g ds : List Production) (q : ℕ) → ((j : ℕ) → content_of g (q + j) ≡ content_of ds j) →
    s_faults_from n tags q ds ≡ gather q (length ds) (λ k. s_faults_of n tags k (content_of g k))
s_from n tags g [] q h = refl
s_from n tags g (d ∷ ds) q h =
    let here : content_of g q ≡ d.content = ap (content_of g) (sym (add-zero q)) ∙ h 0 in
    let later = s_from n tags g ds (suc q) (λ j. let e : suc q + j ≡ q + suc j = omega arith in ap (content_of g) e ∙ h (suc j)) in
    rw (here, later)

pub s_gathered : (s : List ℕ) (n : ℕ) (g : List Production) → GrammarIs s g → s_faults_from n (tags_of g) 0 g ≡ gather 0 (production_count s) (λ q. s_faults_of n (tags_of g) q (content_of g q))
s_gathered s n g h =
    s_from n (tags_of g) g g 0 (λ j. ap (content_of g) (zero-add j))
    ∙ ap (λ (k : ℕ). gather 0 k (λ q. s_faults_of n (tags_of g) q (content_of g q))) (length_grammar s g h)
