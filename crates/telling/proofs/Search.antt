-- Searching: numbers below a bound, lists of so many of them, and the tokens of the notation. Assumes nothing.
use mathlib.Core.Path.{◌≡◌, refl, sym, ◌∙◌, ap, subst}
use mathlib.Core.Logic.{◌⊎◌, inl, inr, ⊎_elim}
use mathlib.Core.Bool.{Bool, true, false}
use mathlib.Core.List.{List, [], ◌∷◌, ◌++◌}
use Prim.Native.Nat.{ℕ, zero, suc, ◌+◌, ◌≤◌, ◌<◌}
use native.Mathlib.Omega.{arith}
use native.Mathlib.Decide.{dec_le, dec_lt, ℕ_discrete}
use lib.ListN.{length}
use Rattle.notation.specs.Tokens.{Dollar, plain, left, right, TextToken, nonterminal, value, attribute, name, start_tag, end_tag, empty_tag, string, word, Keyword, CHAR, ECHO, ECHO-OFF, REJECT, PRINT, IF, THEN, ELSE, BEGIN, END, AND, OR, NOT, EMPTY, sign, Sign, DEFINED, ASSIGNED, OPEN, CLOSE, BRACE, UNBRACE, DOT, BAR, STAR, SEMICOLON, EQUALS}
use Rattle.reading.specs.Tests.{both?, either?}

-- some number below n
pub below? : (n : ℕ) (P : ℕ → Type 0) → ((i : ℕ) → Dec (P i)) → Dec ((i : ℕ) × (i < n) × P i)
below? zero P d = no (λ h. omega (arith, h.1))
below? (suc n) P d = on (below? n P d) (d n)
  where
    on : Dec ((i : ℕ) × (i < n) × P i) → Dec (P n) → Dec ((i : ℕ) × (i < suc n) × P i)
    on (yes h) e = yes (h.0, omega (arith, h.1), h.2)
    on (no h) (yes p) = yes (n, omega arith, p)
    on (no h) (no p) = no (λ x. ⊎_elim (λ (l : x.0 < n). h (x.0, l, x.2)) (λ (e : x.0 ≡ n). p (subst P e x.2)) (last x.0 x.1 (dec_lt x.0 n)))
      where
        last : (i : ℕ) → i < suc n → Dec (i < n) → (i < n) ⊎ (i ≡ n)
        last i h (yes l) = inl l
        last i h (no l) = inr (omega arith)

-- at most n long, of numbers below b
abbrev pub Bounded : ℕ → ℕ → List ℕ → Type 0
Bounded zero b [] = Unit {0}
Bounded zero b (x ∷ l) = ⊥
Bounded (suc n) b [] = Unit {0}
Bounded (suc n) b (x ∷ l) = (x < b) × Bounded n b l

pub lists? : (n b : ℕ) (P : List ℕ → Type 0) → ((l : List ℕ) → Dec (P l)) → Dec ((l : List ℕ) × Bounded n b l × P l)
lists? zero b P d = on (d [])
  where
    on : Dec (P []) → Dec ((l : List ℕ) × Bounded zero b l × P l)
    on (yes p) = yes ([], tt, p)
    on (no p) = no out
      where
        out : (l : List ℕ) × Bounded zero b l × P l → ⊥
        out ([], h, q) = p q
        out (x ∷ l, h, q) = h
lists? (suc n) b P d = on (d []) (below? b (λ x. (l : List ℕ) × Bounded n b l × P (x ∷ l)) (λ x. lists? n b (λ l. P (x ∷ l)) (λ l. d (x ∷ l))))
  where
    on : Dec (P []) → Dec ((x : ℕ) × (x < b) × ((l : List ℕ) × Bounded n b l × P (x ∷ l))) → Dec ((l : List ℕ) × Bounded (suc n) b l × P l)
    on (yes p) e = yes ([], tt, p)
    on (no p) (yes (x, h, (l, k, q))) = yes (x ∷ l, (h, k), q)
    on (no p) (no e) = no out
      where
        out : (l : List ℕ) × Bounded (suc n) b l × P l → ⊥
        out ([], h, q) = p q
        out (x ∷ l, h, q) = e (x, h.0, (l, h.1, q))

-- the numbers, names and strings of tokens are bounded
abbrev pub Good : TextToken → Type 0
Good (nonterminal n) = n < 100
Good (value n) = n < 100
Good (attribute m a) = a < 100
Good (name n) = Bounded 15 256 n
Good (start_tag n) = Bounded 15 256 n
Good (end_tag n) = Bounded 15 256 n
Good (empty_tag n) = Bounded 15 256 n
Good (string cs) = Bounded 255 0x110000 cs
Good (word w) = Unit {0}
Good (sign s) = Unit {0}

word_at : ℕ → Keyword
word_at zero = CHAR
word_at (suc zero) = ECHO
word_at (suc (suc zero)) = ECHO-OFF
word_at (suc (suc (suc zero))) = REJECT
word_at (suc (suc (suc (suc zero)))) = PRINT
word_at (suc (suc (suc (suc (suc zero))))) = IF
word_at (suc (suc (suc (suc (suc (suc zero)))))) = THEN
word_at (suc (suc (suc (suc (suc (suc (suc zero))))))) = ELSE
word_at (suc (suc (suc (suc (suc (suc (suc (suc zero)))))))) = BEGIN
word_at (suc (suc (suc (suc (suc (suc (suc (suc (suc zero))))))))) = END
word_at (suc (suc (suc (suc (suc (suc (suc (suc (suc (suc zero)))))))))) = AND
word_at (suc (suc (suc (suc (suc (suc (suc (suc (suc (suc (suc zero))))))))))) = OR
word_at (suc (suc (suc (suc (suc (suc (suc (suc (suc (suc (suc (suc zero)))))))))))) = NOT
word_at (suc (suc (suc (suc (suc (suc (suc (suc (suc (suc (suc (suc (suc n))))))))))))) = EMPTY

word_number : (x : Keyword) → (i : ℕ) × (i < 14) × (word_at i ≡ x)
unfolding word_at
word_number CHAR = (0, omega arith, refl)
word_number ECHO = (1, omega arith, refl)
word_number ECHO-OFF = (2, omega arith, refl)
word_number REJECT = (3, omega arith, refl)
word_number PRINT = (4, omega arith, refl)
word_number IF = (5, omega arith, refl)
word_number THEN = (6, omega arith, refl)
word_number ELSE = (7, omega arith, refl)
word_number BEGIN = (8, omega arith, refl)
word_number END = (9, omega arith, refl)
word_number AND = (10, omega arith, refl)
word_number OR = (11, omega arith, refl)
word_number NOT = (12, omega arith, refl)
word_number EMPTY = (13, omega arith, refl)

sign_at : ℕ → Sign
sign_at zero = DEFINED
sign_at (suc zero) = ASSIGNED
sign_at (suc (suc zero)) = OPEN
sign_at (suc (suc (suc zero))) = CLOSE
sign_at (suc (suc (suc (suc zero)))) = BRACE
sign_at (suc (suc (suc (suc (suc zero))))) = UNBRACE
sign_at (suc (suc (suc (suc (suc (suc zero)))))) = DOT
sign_at (suc (suc (suc (suc (suc (suc (suc zero))))))) = BAR
sign_at (suc (suc (suc (suc (suc (suc (suc (suc zero)))))))) = STAR
sign_at (suc (suc (suc (suc (suc (suc (suc (suc (suc zero))))))))) = SEMICOLON
sign_at (suc (suc (suc (suc (suc (suc (suc (suc (suc (suc n)))))))))) = EQUALS

sign_number : (x : Sign) → (i : ℕ) × (i < 11) × (sign_at i ≡ x)
unfolding sign_at
sign_number DEFINED = (0, omega arith, refl)
sign_number ASSIGNED = (1, omega arith, refl)
sign_number OPEN = (2, omega arith, refl)
sign_number CLOSE = (3, omega arith, refl)
sign_number BRACE = (4, omega arith, refl)
sign_number UNBRACE = (5, omega arith, refl)
sign_number DOT = (6, omega arith, refl)
sign_number BAR = (7, omega arith, refl)
sign_number STAR = (8, omega arith, refl)
sign_number SEMICOLON = (9, omega arith, refl)
sign_number EQUALS = (10, omega arith, refl)

mark_at : ℕ → Dollar
mark_at zero = plain
mark_at (suc zero) = left
mark_at (suc (suc n)) = right

mark_number : (x : Dollar) → (i : ℕ) × (i < 3) × (mark_at i ≡ x)
unfolding mark_at
mark_number plain = (0, omega arith, refl)
mark_number left = (1, omega arith, refl)
mark_number right = (2, omega arith, refl)

-- some token
module _ (P : TextToken → Type 0) (d : (t : TextToken) → Dec (P t)) where
  word? : Dec ((w : Keyword) × P (word w))
  word? = on (below? 14 (λ i. P (word (word_at i))) (λ i. d (word (word_at i))))
    where
      on : Dec ((i : ℕ) × (i < 14) × P (word (word_at i))) → Dec ((w : Keyword) × P (word w))
      on (yes h) = yes (word_at h.0, h.2)
      on (no h) = no (λ x. let n = word_number x.0 in h (n.0, n.1, subst (λ w. P (word w)) (sym n.2) x.1))

  sign? : Dec ((s : Sign) × P (sign s))
  sign? = on (below? 11 (λ i. P (sign (sign_at i))) (λ i. d (sign (sign_at i))))
    where
      on : Dec ((i : ℕ) × (i < 11) × P (sign (sign_at i))) → Dec ((s : Sign) × P (sign s))
      on (yes h) = yes (sign_at h.0, h.2)
      on (no h) = no (λ x. let n = sign_number x.0 in h (n.0, n.1, subst (λ w. P (sign w)) (sym n.2) x.1))

  attribute? : Dec ((m : Dollar) × (a : ℕ) × (a < 100) × P (attribute m a))
  attribute? = on (below? 3 (λ i. (a : ℕ) × (a < 100) × P (attribute (mark_at i) a)) (λ i. below? 100 (λ a. P (attribute (mark_at i) a)) (λ a. d (attribute (mark_at i) a))))
    where
      on : Dec ((i : ℕ) × (i < 3) × ((a : ℕ) × (a < 100) × P (attribute (mark_at i) a))) → Dec ((m : Dollar) × (a : ℕ) × (a < 100) × P (attribute m a))
      on (yes h) = yes (mark_at h.0, h.2.0, h.2.1, h.2.2)
      on (no h) = no (λ x. let n = mark_number x.0 in h (n.0, n.1, (x.1, x.2, subst (λ m. P (attribute m x.1)) (sym n.2) x.3)))

  pub token? : Dec ((t : TextToken) × Good t × P t)
  token? =
      on (below? 100 (λ n. P (nonterminal n)) (λ n. d (nonterminal n))) (below? 100 (λ n. P (value n)) (λ n. d (value n))) attribute?
      (lists? 15 256 (λ n. P (name n)) (λ n. d (name n))) (lists? 15 256 (λ n. P (start_tag n)) (λ n. d (start_tag n)))
      (lists? 15 256 (λ n. P (end_tag n)) (λ n. d (end_tag n))) (lists? 15 256 (λ n. P (empty_tag n)) (λ n. d (empty_tag n)))
      (lists? 255 0x110000 (λ n. P (string n)) (λ n. d (string n))) word? sign?
    where
      on : Dec ((n : ℕ) × (n < 100) × P (nonterminal n)) → Dec ((n : ℕ) × (n < 100) × P (value n)) → Dec ((m : Dollar) × (a : ℕ) × (a < 100) × P (attribute m a))
          → Dec ((n : List ℕ) × Bounded 15 256 n × P (name n)) → Dec ((n : List ℕ) × Bounded 15 256 n × P (start_tag n))
          → Dec ((n : List ℕ) × Bounded 15 256 n × P (end_tag n)) → Dec ((n : List ℕ) × Bounded 15 256 n × P (empty_tag n))
          → Dec ((n : List ℕ) × Bounded 255 0x110000 n × P (string n)) → Dec ((w : Keyword) × P (word w)) → Dec ((s : Sign) × P (sign s)) → Dec ((t : TextToken) × Good t × P t)
      on (yes h) b c e f g i j k l = yes (nonterminal h.0, h.1, h.2)
      on (no a) (yes h) c e f g i j k l = yes (value h.0, h.1, h.2)
      on (no a) (no b) (yes h) e f g i j k l = yes (attribute h.0 h.1, h.2, h.3)
      on (no a) (no b) (no c) (yes h) f g i j k l = yes (name h.0, h.1, h.2)
      on (no a) (no b) (no c) (no e) (yes h) g i j k l = yes (start_tag h.0, h.1, h.2)
      on (no a) (no b) (no c) (no e) (no f) (yes h) i j k l = yes (end_tag h.0, h.1, h.2)
      on (no a) (no b) (no c) (no e) (no f) (no g) (yes h) j k l = yes (empty_tag h.0, h.1, h.2)
      on (no a) (no b) (no c) (no e) (no f) (no g) (no i) (yes h) k l = yes (string h.0, h.1, h.2)
      on (no a) (no b) (no c) (no e) (no f) (no g) (no i) (no j) (yes h) l = yes (word h.0, tt, h.1)
      on (no a) (no b) (no c) (no e) (no f) (no g) (no i) (no j) (no k) (yes h) = yes (sign h.0, tt, h.1)
      on (no a) (no b) (no c) (no e) (no f) (no g) (no i) (no j) (no k) (no l) = no out
        where
          out : (t : TextToken) × Good t × P t → ⊥
          out (nonterminal n, h, p) = a (n, h, p)
          out (value n, h, p) = b (n, h, p)
          out (attribute m x, h, p) = c (m, x, h, p)
          out (name n, h, p) = e (n, h, p)
          out (start_tag n, h, p) = f (n, h, p)
          out (end_tag n, h, p) = g (n, h, p)
          out (empty_tag n, h, p) = i (n, h, p)
          out (string n, h, p) = j (n, h, p)
          out (word w, h, p) = k (w, p)
          out (sign s, h, p) = l (s, p)
