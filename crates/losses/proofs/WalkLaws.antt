-- Laws of the lines of a second reading: one byte more, more bytes after others, and the line of the next byte.
-- Assumes nothing.
use Rattle.std.proofs.Common.{◌≡◌, ℕ, ◌+◌, ◌^◌, ◌<◌, ◌≤◌, Bool, true, false, cond, not, ◌&&◌, ◌||◌, eqb, List, [], ◌∷◌, ◌++◌, length, get_or, take, sym, refl, ap, ◌∙◌, subst, append_assoc, append-nil, mod-eq_of_lt, add-one, arith, take_all, take-suc, eqb-true}
use Rattle.places.specs.Lines.{ends_line, how_many, line_ends}
use Rattle.behind.specs.Lines.{line_on}
use Rattle.behind.specs.Wholes.{ends_in_return}
use Rattle.losses.specs.Walks.{HasRead, ReadsOn, NextIsBehind}
use Rattle.losses.specs.declared.rereading.Walk.{Walk}

abbrev one : Bool → ℕ
one t = cond t 1 0

-- the next line, where its number does not begin again from 0
line_plus : (ends : Bool) (line : ℕ) → line + cond ends 1 0 < 2 ^ 64 → line_on ends line ≡ line + cond ends 1 0
line_plus true line h = mod-eq_of_lt h
line_plus false line h = omega arith

-- no byte is both CR and LF
not_both : (b : ℕ) → eqb b 10 ≡ true → eqb b 13 ≡ false
not_both b e = ap (λ k. eqb k 13) (eqb-true b 10 e)

-- the end of a line behind a CR, of the byte b: counted with b where that is an LF, else before it

counted : (c b : ℕ) → cond (ends_line c (b ∷ [])) 1 0 + cond (eqb c 13 && eqb b 10) 1 0 ≡ cond (ends_line c []) 1 0
unfolding ends_line
counted c b = by (eqb c 10) refl
  where
    four : (x y : Bool) → cond (x && not y) 1 0 + cond (x && y) 1 0 ≡ cond (x && not false) 1 0
    four true true = refl
    four true false = refl
    four false true = refl
    four false false = refl

    by : (t : Bool) → eqb c 10 ≡ t → cond (t || (eqb c 13 && not (eqb b 10))) 1 0 + cond (eqb c 13 && eqb b 10) 1 0 ≡ cond (t || (eqb c 13 && not false)) 1 0
    by true e = ap (λ x. 1 + cond (x && eqb b 10) 1 0) (not_both c e)
    by false e = four (eqb c 13) (eqb b 10)

-- of a byte only the next one tells whether a line ends with it
by_next : (c d b : ℕ) (u : List ℕ) → ends_line c (d ∷ u ++ b ∷ []) ≡ ends_line c (d ∷ u)
unfolding ends_line
by_next c d b u = refl

-- one byte more: how many lines end, and whether it is a CR
ends_one : (u : List ℕ) (b : ℕ) → line_ends (u ++ b ∷ []) + cond (ends_in_return u && eqb b 10) 1 0 ≡ line_ends u + cond (ends_line b []) 1 0
unfolding how_many ends_in_return
ends_one [] b = omega arith
ends_one (c ∷ []) b = omega (arith, counted c b)
ends_one (c ∷ (d ∷ u)) b =
    omega (arith, ap one (by_next c d b u), ends_one (d ∷ u) b)

returned_one : (u : List ℕ) (b : ℕ) → ends_in_return (u ++ b ∷ []) ≡ eqb b 13
unfolding ends_in_return
returned_one [] b = refl
returned_one (c ∷ []) b = refl
returned_one (c ∷ (d ∷ u)) b = returned_one (d ∷ u) b

-- what the byte b adds to the line behind a byte that was a CR or not, and what of it was counted
added : (r : Bool) (b : ℕ) → cond (r && not (eqb b 10)) 1 0 + cond (eqb b 10) 1 0 + cond (eqb b 13) 1 0 + cond (r && eqb b 10) 1 0 ≡ cond r 1 0 + cond (ends_line b []) 1 0
unfolding ends_line
added r b = by (eqb b 10) refl r
  where
    plain : (c r : Bool) → cond (r && true) 1 0 + 0 + cond c 1 0 + cond (r && false) 1 0 ≡ cond r 1 0 + cond (c && not false) 1 0
    plain true true = refl
    plain true false = refl
    plain false true = refl
    plain false false = refl

    feed : (r : Bool) → cond (r && false) 1 0 + 1 + 0 + cond (r && true) 1 0 ≡ cond r 1 0 + 1
    feed true = refl
    feed false = refl

    by : (t : Bool) → eqb b 10 ≡ t → (r : Bool)
        → cond (r && not t) 1 0 + cond t 1 0 + cond (eqb b 13) 1 0 + cond (r && t) 1 0 ≡ cond r 1 0 + cond (t || (eqb b 13 && not false)) 1 0
    by true e r = ap (λ c. cond (r && false) 1 0 + 1 + cond c 1 0 + cond (r && true) 1 0) (not_both b e) ∙ feed r
    by false e r = plain (eqb b 13) r

less : (r : Bool) (b : ℕ) → cond (r && eqb b 10) 1 0 ≤ cond (ends_line b []) 1 0
unfolding ends_line
less r b = by (eqb b 10) r (eqb b 13)
  where
    by : (t r c : Bool) → cond (r && t) 1 0 ≤ cond (t || (c && not false)) 1 0
    by true true c = omega arith
    by true false c = omega arith
    by false true c = omega arith
    by false false c = omega arith

ends_more : (u : List ℕ) (b : ℕ) → line_ends u ≤ line_ends (u ++ b ∷ [])
ends_more u b = omega (arith, ends_one u b, less (ends_in_return u) b)

pub walk_start : (w : Walk) → w.returned ≡ false → w.line ≡ 1 → HasRead [] w
unfolding how_many ends_in_return
walk_start w r l = record { returned = r; line = rw (r, l) }

pub walk_past : (w r : Walk) (b here : ℕ) → here ≡ line_on (w.returned && not (eqb b 10)) w.line → r.line ≡ line_on (eqb b 10) here → r.returned ≡ eqb b 13 → ReadsOn w (b ∷ []) r
walk_past w r b here before on last u short is =
    let ends = ends_one u b in
    let sum = added w.returned b in
    let same : one (w.returned && eqb b 10) ≡ one (ends_in_return u && eqb b 10) = ap (λ t. one (t && eqb b 10)) is.returned in
    let all : w.line + cond (w.returned && not (eqb b 10)) 1 0 + cond (eqb b 10) 1 0 + cond (eqb b 13) 1 0 ≡ 1 + line_ends (u ++ b ∷ []) = omega (arith, is.line) in
    let at : here ≡ w.line + cond (w.returned && not (eqb b 10)) 1 0 = before ∙ line_plus (w.returned && not (eqb b 10)) w.line (omega arith) in
    let next : r.line ≡ here + cond (eqb b 10) 1 0 = on ∙ line_plus (eqb b 10) here (omega arith) in
    let end : one r.returned ≡ one (eqb b 13) = ap one last in
    record { returned = last ∙ sym (returned_one u b); line = omega arith }

pub walks_none : (w : Walk) → ReadsOn w [] w
walks_none w u short is = subst (λ l. HasRead l w) (sym (append-nil u)) is

pub walks_one : (w x y : Walk) (s : List ℕ) (i : ℕ) → i < length s → ReadsOn w (take i s) x → ReadsOn x (get_or s i 0 ∷ []) y → ReadsOn w (take (i + 1) s) y
walks_one w x y s i h first next u short is =
    let b = get_or s i 0 in
    let more : take (i + 1) s ≡ take i s ++ b ∷ [] = rw (add-one i) (take-suc s i 0 h) in
    let joined : (u ++ take i s) ++ b ∷ [] ≡ u ++ take (i + 1) s = append_assoc u (take i s) (b ∷ []) ∙ ap (λ l. u ++ l) (sym more) in
    let fits : 1 + line_ends ((u ++ take i s) ++ b ∷ []) < 2 ^ 64 = subst (λ l. 1 + line_ends l < 2 ^ 64) (sym joined) short in
    subst (λ l. HasRead l y) joined (next (u ++ take i s) fits (first u (omega (arith, ends_more (u ++ take i s) b)) is))

pub walks_all : (w x : Walk) (s : List ℕ) (i : ℕ) → length s ≤ i → ReadsOn w (take i s) x → ReadsOn w s x
walks_all w x s i h = subst (λ l. ReadsOn w l x) (take_all i s h)

pub next_is_behind : NextIsBehind
next_is_behind s w short is = line_plus w.returned w.line (omega (arith, is.line)) ∙ is.line
