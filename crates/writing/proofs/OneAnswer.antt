-- Any two answers that are allowed are equal. Assumes nothing.
use mathlib.Core.Path.{◌≡◌, refl, sym, ◌∙◌, ap, ap₂, subst}
use mathlib.Core.Logic.{◌⊎◌, inl, inr}
use mathlib.Core.Bool.{Bool, true, false, cond}
use mathlib.Core.Option.{some}
use mathlib.Core.List.{List, [], ◌∷◌, ◌++◌, append_cancel_left, head-eq_of_cons-eq, tail-eq_of_cons-eq}
use Prim.Native.Nat.{ℕ, zero, suc, ◌+◌, ◌≤◌, ◌<◌}
use native.Mathlib.Omega.{arith}
use native.Mathlib.Decide.{dec_lt}
use lib.ListN.{length, take, drop, length-append}
use Rattle.notation.specs.Rules.{Rules}
use Rattle.notation.specs.Tokens.{TextToken, nonterminal, value, attribute, name, start_tag, end_tag, empty_tag, string, word, sign, token_bytes}
use Rattle.notation.specs.Gaps.{Gap, Ending}
use Rattle.notation.specs.Spelled.{MayFollow, TypedAs}
use Rattle.notation.specs.Productions.{RulesAre}
use Rattle.notation.specs.RuleText.{RuleText}
use Rattle.notation.specs.Refusal.{ByteOf40}
use Rattle.notation.proofs.Refusals.{one_place, none_where_written}
use Rattle.reading.specs.Machine.{walk}
use Rattle.reading.specs.Rules.{Progress, beginning, step_rules}
use Rattle.reading.proofs.Rules.{reads_rules}
use Rattle.telling.proofs.OneRules.{gap_one, first_step, token_solid, one_row, one_rules}
use Rattle.encoding.specs.Mentions.{in_rules, tags_mentioned, strings_mentioned, programs_mentioned}
use Rattle.encoding.specs.Distinct.{has, added, distinct, run_together}
use Rattle.encoding.specs.Encoded.{bytes_of_each, Room}
use Rattle.packing.specs.Packed.{sheet_bytes}
use Rattle.writing.specs.TooMany.{last_byte_of, Placed, end, token, programs_ended, HowMany, plus_each, counted, up_to, RoomFor, NthByte, ByteOf41}
use Rattle.writing.specs.Written.{WrittenAs, no_rules, too_many, too_short, written}
use Rattle.writing.specs.Promises.{OneWriting}

-- the first of a list have no more different ones, and no more bytes, than all
module _ (size : List ℕ → ℕ) where
  abbrev sizes : List (List ℕ) → ℕ
  sizes [] = 0
  sizes (x ∷ l) = size x + sizes l

  fewer : (seen l : List (List ℕ)) (n m : ℕ) → n ≤ m → sizes (added seen (take n l)) ≤ sizes (added seen (take m l))
  fewer seen l zero m h = omega arith
  fewer seen [] (suc n) zero h = absurd (omega arith)
  fewer seen (x ∷ l) (suc n) zero h = absurd (omega arith)
  fewer seen [] (suc n) (suc m) h = omega arith
  fewer seen (x ∷ l) (suc n) (suc m) h = on (has seen x) (fewer seen l n m (omega arith)) (fewer (seen ++ x ∷ []) l n m (omega arith))
    where
      on : (b : Bool) → sizes (added seen (take n l)) ≤ sizes (added seen (take m l)) → sizes (added (seen ++ x ∷ []) (take n l)) ≤ sizes (added (seen ++ x ∷ []) (take m l))
          → sizes (cond b (added seen (take n l)) (x ∷ added (seen ++ x ∷ []) (take n l))) ≤ sizes (cond b (added seen (take m l)) (x ∷ added (seen ++ x ∷ []) (take m l)))
      on true a c = a
      on false a c = omega (arith, c)

ones : (l : List (List ℕ)) → sizes (λ x. 1) l ≡ length l
ones [] = refl
ones (x ∷ l) = omega (arith, ones l)

lengths : (l : List (List ℕ)) → sizes length l ≡ length (run_together l)
lengths [] = refl
lengths (x ∷ l) = ap (λ n. length x + n) (lengths l) ∙ sym (length-append x (run_together l))

few_first : (l : List (List ℕ)) (n m : ℕ) → n ≤ m → length (distinct (take n l)) ≤ length (distinct (take m l))
few_first l n m h = omega (arith, fewer (λ x. 1) [] l n m h, ones (distinct (take n l)), ones (distinct (take m l)))

short_first : (l : List (List ℕ)) (n m : ℕ) → n ≤ m → length (run_together (distinct (take n l))) ≤ length (run_together (distinct (take m l)))
short_first l n m h = omega (arith, fewer length [] l n m h, lengths (distinct (take n l)), lengths (distinct (take m l)))

-- the counts of a row's beginnings grow
record AtMost (a b : HowMany) : Type 0 where
  tags : a.tags ≤ b.tags
  strings : a.strings ≤ b.strings
  programs : a.programs ≤ b.programs

room_less : (r : Rules) (a b : HowMany) → AtMost a b → RoomFor r b → RoomFor r a
room_less r a b h k = record {
  few_tags = omega (arith, few_first (tags_mentioned (in_rules r.productions)) a.tags b.tags h.tags, k.few_tags);
  short_programs = omega (arith, short_first (bytes_of_each r (programs_mentioned (in_rules r.productions))) a.programs b.programs h.programs, k.short_programs);
  short_strings = omega (arith, short_first (strings_mentioned (in_rules r.productions)) a.strings b.strings h.strings, k.short_strings);
}

at_least_none : (b : HowMany) → AtMost (up_to []) b
at_least_none b = record { tags = omega arith; strings = omega arith; programs = omega arith }

more_counted : (x y z : ℕ) (a b : HowMany) → AtMost a b → AtMost (plus_each x y z a) (plus_each x y z b)
more_counted x y z a b h = record { tags = omega (arith, h.tags); strings = omega (arith, h.strings); programs = omega (arith, h.programs) }

counted_most : (t : TextToken) (a b : HowMany) → AtMost a b → AtMost (counted t a) (counted t b)
counted_most (nonterminal n) a b h = h
counted_most (value v) a b h = h
counted_most (attribute m x) a b h = h
counted_most (name n) a b h = more_counted 1 0 0 a b h
counted_most (start_tag n) a b h = more_counted 1 0 0 a b h
counted_most (end_tag n) a b h = more_counted 1 0 0 a b h
counted_most (empty_tag n) a b h = more_counted 2 0 0 a b h
counted_most (string cs) a b h = more_counted 0 1 0 a b h
counted_most (word w) a b h = h
counted_most (sign s) a b h = more_counted 0 0 (programs_ended s) a b h

first_most : (ts : List TextToken) (i j : ℕ) → i ≤ j → AtMost (up_to (take i ts)) (up_to (take j ts))
first_most ts zero j h = at_least_none (up_to (take j ts))
first_most [] (suc i) zero h = absurd (omega arith)
first_most (t ∷ ts) (suc i) zero h = absurd (omega arith)
first_most [] (suc i) (suc j) h = at_least_none (up_to [])
first_most (t ∷ ts) (suc i) (suc j) h = counted_most t (up_to (take i ts)) (up_to (take j ts)) (first_most ts i j (omega arith))

-- a text has one row of tokens, each at one place
placed_spelled : {o : ℕ} {ts : List TextToken} {x lasts : List ℕ} → Placed o ts x lasts → TypedAs ts x
placed_spelled (end e) = TypedAs.end e
placed_spelled (token {ts = ts} t e g m p) = subst (TypedAs (t ∷ ts)) (sym e) (TypedAs.token t g m (placed_spelled p))

one_lasts : {o o' : ℕ} {ts us : List TextToken} {x y es fs : List ℕ} → Placed o ts x es → Placed o' us y fs → ts ≡ us → o ≡ o' → x ≡ y → (s z : Progress) → walk step_rules s ts ≡ some z → es ≡ fs
one_lasts (end e) (end f) a i j s z w = refl
one_lasts (end e) (token u e' h' m' p') a i j s z w = absurd (let n = ap length a in omega arith)
one_lasts (token t e h m p) (end f) a i j s z w = absurd (let n = ap length a in omega arith)
one_lasts (token {o = o} {g = g} {rest = r} {ts = ts} t e h m p) (token {o = o'} {g = g'} {rest = q} u e' h' m' p') a i j s z w =
    let n = first_step s z t ts w in
    let one : t ≡ u = head-eq_of_cons-eq a in
    let whole : g ++ (token_bytes t ++ r) ≡ g' ++ (token_bytes t ++ q) = sym e ∙ j ∙ e' ∙ ap (λ v. g' ++ (token_bytes v ++ q)) (sym one) in
    let same = gap_one h h' (token_bytes t ++ r) (token_bytes t ++ q) (token_solid s n.0 t r n.1) (token_solid s n.0 t q n.1) whole in
    let long : length g ≡ length g' = omega (arith, sym (length-append g (token_bytes t ++ r)) ∙ ap length whole ∙ length-append g' (token_bytes t ++ q), ap length same) in
    let start : o + length g ≡ o' + length g' = ap₂ ◌+◌ i long in
    let more = one_lasts p p' (tail-eq_of_cons-eq a) (ap₂ (λ b v. b + length (token_bytes v)) start one) (append_cancel_left (token_bytes t) r q same) n.0 z n.2 in
    ap₂ (λ b l. b ∷ l) (ap₂ (λ b v. b + last_byte_of v) start one) more

one_nth : (l : List ℕ) (n j k : ℕ) → NthByte l n j → NthByte l n k → j ≡ k
one_nth [] n j k a b = absurd a
one_nth (x ∷ l) zero j k a b = a ∙ sym b
one_nth (x ∷ l) (suc n) j k a b = one_nth l n j k a b

one_41 : (text : List ℕ) (r : Rules) (j k : ℕ) → ByteOf41 text r j → ByteOf41 text r k → j ≡ k
one_41 text r j k a b =
    let c = reads_rules.complete a.tokens r a.grammatical in
    let d = reads_rules.complete b.tokens r b.grammatical in
    let tokens = one_row (placed_spelled a.placed) (placed_spelled b.placed) beginning c.last d.last refl c.walked d.walked in
    let lasts = one_lasts a.placed b.placed tokens refl refl beginning c.last c.walked in
    let no_more : RoomFor r (up_to (take (suc b.number) a.tokens)) → ⊥ = λ h. b.no_more (subst (λ ts. RoomFor r (up_to (take (suc b.number) ts))) tokens h) in
    let before : RoomFor r (up_to (take b.number a.tokens)) = subst (λ ts. RoomFor r (up_to (take b.number ts))) (sym tokens) b.before in
    let low : a.number < b.number → ⊥ = λ l. a.no_more (room_less r (up_to (take (suc a.number) a.tokens)) (up_to (take b.number a.tokens)) (first_most a.tokens (suc a.number) b.number l) before) in
    let high : b.number < a.number → ⊥ = λ l. no_more (room_less r (up_to (take (suc b.number) a.tokens)) (up_to (take a.number a.tokens)) (first_most a.tokens (suc b.number) a.number l) a.before) in
    let number : a.number ≡ b.number = omega (arith, low, high) in
    one_nth b.lasts b.number j k (subst (λ l. NthByte l b.number j) lasts (subst (λ n. NthByte a.lasts n j) number a.there)) b.there

refuted : {A : Type 0} (text : List ℕ) (r : Rules) (k : ℕ) → RuleText text r → ByteOf40 text k → A
refuted text r k t h = absurd (none_where_written ℕ Rules RuleText text r k t h)

no_room : {A : Type 0} (text : List ℕ) (r q : Rules) → RuleText text r → RuleText text q → (Room r → ⊥) → Room q → A
no_room text r q t u n h = absurd (n (subst Room (sym (one_rules text r q t u)) h))

-- both lengths are one
no_fit : {A : Type 0} (text : List ℕ) (r q : Rules) (n : ℕ) → RuleText text r → RuleText text q → n < length (sheet_bytes r) → length (sheet_bytes q) ≤ n → A
no_fit text r q n t u l h = absurd (omega (arith, ap (λ z. length (sheet_bytes z)) (one_rules text r q t u)))

pub one_writing : OneWriting
one_writing text area m n j k x y (no_rules h) (no_rules i) = (refl, one_place ℕ Rules RuleText text j k h i, refl)
one_writing text area m n j k x y (no_rules h) (too_many r t o b) = refuted text r j t h
one_writing text area m n j k x y (no_rules h) (too_short r t o b) = refuted text r j t h
one_writing text area m n j k x y (no_rules h) (written r t o b) = refuted text r j t h
one_writing text area m n j k x y (too_many r t o b) (no_rules h) = refuted text r k t h
one_writing text area m n j k x y (too_many r t o b) (too_many q u p c) = (refl, one_41 text r j k b (subst (λ z. ByteOf41 text z k) (sym (one_rules text r q t u)) c), refl)
one_writing text area m n j k x y (too_many r t o b) (too_short q u p c) = no_room text r q t u o p
one_writing text area m n j k x y (too_many r t o b) (written q u p c) = no_room text r q t u o p
one_writing text area m n j k x y (too_short r t o b) (no_rules h) = refuted text r k t h
one_writing text area m n j k x y (too_short r t o b) (too_many q u p c) = no_room text q r u t p o
one_writing text area m n j k x y (too_short r t o b) (too_short q u p c) = (refl, ap (λ z. length (sheet_bytes z)) (one_rules text r q t u), refl)
one_writing text area m n j k x y (too_short r t o b) (written q u p c) = no_fit text r q (length area) t u b c
one_writing text area m n j k x y (written r t o b) (no_rules h) = refuted text r k t h
one_writing text area m n j k x y (written r t o b) (too_many q u p c) = no_room text q r u t p o
one_writing text area m n j k x y (written r t o b) (too_short q u p c) = no_fit text q r (length area) u t c b
one_writing text area m n j k x y (written r t o b) (written q u p c) =
    let same = one_rules text r q t u in
    (refl, ap (λ z. length (sheet_bytes z)) same, ap (λ z. sheet_bytes z ++ drop (length (sheet_bytes z)) area) same)
