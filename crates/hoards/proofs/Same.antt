-- Lists of strings with the same members, in whatever order and however often: those that are stored once have as many bytes. Assumes nothing.
use mathlib.Core.Path.{◌≡◌, sym, subst}
use mathlib.Core.List.{List, [], ◌∷◌, ◌++◌}
use Prim.Native.Nat.{ℕ, ◌+◌, ◌<◌}
use native.Mathlib.Omega.{arith}
use lib.ListN.{length}
use Rattle.encoding.specs.Distinct.{distinct, run_together}
use Rattle.encoding.proofs.Stored.{AllHad, distinct_all, added_different}
use Rattle.naming.proofs.Fewest.{short_distinct}
use Rattle.gleans.proofs.Laws.{different_few}

front : (l xs ys : List (List ℕ)) → AllHad l (xs ++ ys) → AllHad l xs
front l [] ys h = tt
front l (x ∷ xs) ys h = (h.0, front l xs ys h.1)

back : (l xs ys : List (List ℕ)) → AllHad l (xs ++ ys) → AllHad l ys
back l [] ys h = h
back l (x ∷ xs) ys h = back l xs ys h.1

joined : (l xs ys : List (List ℕ)) → AllHad l xs → AllHad l ys → AllHad l (xs ++ ys)
joined l [] ys h k = k
joined l (x ∷ xs) ys h k = (h.0, joined l xs ys h.1 k)

-- whatever has all of the one has all of the other
pub record Same (xs ys : List (List ℕ)) : Type 0 where
  to : (l : List (List ℕ)) → AllHad l xs → AllHad l ys
  from : (l : List (List ℕ)) → AllHad l ys → AllHad l xs

pub same_as : {xs ys : List (List ℕ)} → xs ≡ ys → Same xs ys
same_as e = record { to = λ l h. subst (AllHad l) e h; from = λ l h. subst (AllHad l) (sym e) h }

pub then : {xs ys zs : List (List ℕ)} → Same xs ys → Same ys zs → Same xs zs
then p q = record { to = λ l h. q.to l (p.to l h); from = λ l h. p.from l (q.from l h) }

pub both : (us vs xs ys : List (List ℕ)) → Same us xs → Same vs ys → Same (us ++ vs) (xs ++ ys)
both us vs xs ys p q =
    record {
      to = λ l h. joined l xs ys (p.to l (front l us vs h)) (q.to l (back l us vs h));
      from = λ l h. joined l us vs (p.from l (front l xs ys h)) (q.from l (back l xs ys h));
    }

pub swapped : (us vs : List (List ℕ)) → Same (us ++ vs) (vs ++ us)
swapped us vs = record { to = λ l h. joined l vs us (back l us vs h) (front l us vs h); from = λ l h. joined l us vs (back l vs us h) (front l vs us h) }

pub as_long : (xs ys : List (List ℕ)) → Same xs ys → length (run_together (distinct xs)) ≡ length (run_together (distinct ys))
as_long xs ys p = omega (arith, short_distinct (distinct ys) xs (p.from (distinct ys) (distinct_all ys)), short_distinct (distinct xs) ys (p.to (distinct xs) (distinct_all xs)))

-- more different strings than bytes, and one, are more bytes: one string at most has none
pub too_long : (xs : List (List ℕ)) (n : ℕ) → n + 1 < length (distinct xs) → n < length (run_together (distinct xs))
too_long xs n h = omega (arith, h, different_few (distinct xs) (added_different [] xs))
